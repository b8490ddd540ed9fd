-- The first fault of a pool is there.
use Rattle.std.proofs.Common.{◌≡◌, ◌⊎◌, ℕ, zero, suc, ◌+◌, ◌-◌, ◌^◌, ◌<◌, Bool, true, false, cond, List, [], ◌∷◌, ◌++◌, length, Option, Some, None, Result, Ok, Err, is_some, refl, sym, ap, subst, ◌∙◌, append_assoc, arith, inl, inr, true≢false}
use Rattle.std.proofs.lemmas.List.{length-append}
use Rattle.byteorder.specs.Endian.{big_bytes}
use Rattle.byteorder.specs.Numbers.{length-bytes_high_first}
use Rattle.class_pool.specs.declared.constant.Constant.{Constant}
use Rattle.class_pool.specs.declared.constant.Constant.TheVariants.{Utf8, Integer, Float, Long, Double, Class, String, Fieldref, Methodref, InterfaceMethodref, NameAndType, MethodHandle, MethodType, Dynamic, InvokeDynamic, Module, Package}
use Rattle.class_pool.specs.declared.fault.PoolFault.{PoolFault}
use Rattle.class_pool.specs.declared.fault.PoolFault.TheVariants.{BadUtf8}
use Rattle.class_pool.specs.Place.{Place, end_of, IsBytes}
use Rattle.class_pool.specs.Pieces.{Each, StartsWith}
use Rattle.class_pool.specs.Pool.{IsEntry, IsConstant, is_text, is_wide, size_of, laid_out, constant_at, utf8_at, class_of, named_of, IsTable}
use Rattle.class_pool.specs.PoolReading.{num_at, entry_at, unless, first_of, wrong_index, linked_or}
use Rattle.class_pool.specs.FirstFault.{IsAmong, fault_of, text_faults, faults_with, slots_faults, faults_behind, link_faults, IsFirstFault}
use Rattle.class_pool.proofs.Pieces.{Each-push, starts-rest}
use Rattle.class_pool.proofs.EntryReading.{num_takes, entry_takes}
use Rattle.class_pool.proofs.Tables.{entry_sized}
use Rattle.class_faults.specs.PoolFaults.{HasEntry, Misnames, StandsInPool}
use Rattle.class_faults.proofs.Cuts.{num_failed, Wrong, entry_wrong}

-- ---- lists of faults

among_either : (x : PoolFault) (xs ys : List PoolFault) → IsAmong x (xs ++ ys) → IsAmong x xs ⊎ IsAmong x ys
among_either x [] ys h = inr h
among_either x (y ∷ xs) ys (inl same) = inl (inl same)
among_either x (y ∷ xs) ys (inr h) = elim (among_either x xs ys h) [ inl l ↦ inl (inr l) | inr r ↦ inr r ]

-- ---- entries in front

-- entries stand before the place, and so many indices are left, the first of which may be the second of a wide entry
record Before (start place : Place) (gap : Bool) (left : ℕ) : Type 0 where
  count : ℕ
  entries : List Constant
  pieces : List ℕ
  count_fits : count < 2 ^ 16
  indices : count - 1 + cond gap 1 0 ≡ length (laid_out entries) + left
  each : Each IsEntry pieces entries
  parts : start.rest ≡ big_bytes 2 count ++ (pieces ++ place.rest)
  moved : place.at ≡ start.at + 2 + length pieces

has_entry : (start place : Place) (left : ℕ) → Before start place false (suc left) → HasEntry start place left
has_entry start place left b = record { count = b.count; entries = b.entries; pieces = b.pieces; count_fits = b.count_fits; indices = omega (arith, b.indices); each = b.each; parts = b.parts; moved = b.moved }

laid_more_by : (wide : Bool) (entry : Constant) (others : List (Option Constant)) → length (let l : List (Option Constant) = Some entry ∷ cond wide (None ∷ others) others in l) ≡ 1 + cond wide 1 0 + length others
laid_more_by true entry others = omega arith
laid_more_by false entry others = omega arith

pub laid_one : (entry : Constant) (entries : List Constant) → length (laid_out (entry ∷ entries)) ≡ 1 + cond (is_wide entry) 1 0 + length (laid_out entries)
laid_one entry entries = laid_more_by (is_wide entry) entry (laid_out entries)

laid_behind : (entries : List Constant) (entry : Constant) → length (laid_out (entries ++ entry ∷ [])) ≡ length (laid_out entries) + (1 + cond (is_wide entry) 1 0)
laid_behind [] entry = let one = laid_one entry [] in omega (arith, one)
laid_behind (e ∷ entries) entry = let a = laid_one e (entries ++ entry ∷ []) in let b = laid_one e entries in let c = laid_behind entries entry in omega (arith, a, b, c)

-- behind an entry
next_before : (start place next : Place) (left : ℕ) (entry : Constant) → Before start place false (suc left) → StartsWith IsEntry place entry next → Before start next (is_wide entry) left
next_before start place next left entry b s = record {
  count = b.count;
  entries = b.entries ++ entry ∷ [];
  pieces = b.pieces ++ s.piece;
  count_fits = b.count_fits;
  indices = omega (arith, b.indices, laid_behind b.entries entry);
  each = Each-push IsEntry b.pieces s.piece b.entries entry b.each s.is;
  parts = b.parts ∙ ap (λ (r : List ℕ). big_bytes 2 b.count ++ (b.pieces ++ r)) s.parts ∙ ap (λ (r : List ℕ). big_bytes 2 b.count ++ r) (sym (append_assoc b.pieces s.piece next.rest));
  moved = omega (arith, b.moved, s.moved, length-append b.pieces s.piece);
}

past_gap : (start place : Place) (left : ℕ) → Before start place true (suc left) → Before start place false left
past_gap start place left b = record { count = b.count; entries = b.entries; pieces = b.pieces; count_fits = b.count_fits; indices = omega (arith, b.indices); each = b.each; parts = b.parts; moved = b.moved }

-- ---- the faults of entries

same_end : (start place : Place) (left : ℕ) → HasEntry start place left → end_of place ≡ end_of start
same_end start place left h =
    omega (arith, h.moved, ap length h.parts, length-append (big_bytes 2 h.count) (h.pieces ++ place.rest), length-append h.pieces place.rest, length-bytes_high_first 2 h.count)

entry_fault : (start place : Place) (left : ℕ) (d : PoolFault) → HasEntry start place left → Wrong left place d → StandsInPool start d
entry_fault start place left d h (inl cut) =
    subst (StandsInPool start) (sym cut.0) (same_end start place left h, inr (place, left, h, cut.1))
entry_fault start place left d h (inr bad) =
    subst (StandsInPool start) (sym bad.2) (place, left, bad.1, refl, h, bad.3, bad.4)

bad_text : (start place next : Place) (left : ℕ) (entry : Constant) → HasEntry start place left → StartsWith IsEntry place entry next → is_text entry ≡ false → StandsInPool start (BadUtf8 place.at)
bad_text start place next left (Utf8 text) h s e = (place, left, text, next, refl, h, s, e)
bad_text start place next left other h s e = absurd (true≢false e)

text_fault : (start place next : Place) (left : ℕ) (entry : Constant) (right : Bool) (f : PoolFault) → HasEntry start place left → StartsWith IsEntry place entry next → is_text entry ≡ right
    → IsAmong f (let all : List PoolFault = cond right [] (BadUtf8 place.at ∷ []) in all) → StandsInPool start f
text_fault start place next left entry true f h s e among = absurd among
text_fault start place next left entry false f h s e (inl same) = subst (StandsInPool start) (sym same) (bad_text start place next left entry h s e)
text_fault start place next left entry false f h s e (inr among) = absurd among

-- what the faults of the indices from a place on are
abbrev SlotsStand : Place → ℕ → Type 0
SlotsStand start left = (gap : Bool) (place : Place) → IsBytes place.rest → Before start place gap left → (f : PoolFault) → IsAmong f (slots_faults left gap place) → StandsInPool start f

entry_faults : (start : Place) (left : ℕ) (place : Place) (r : Result (Constant × Place) PoolFault) → SlotsStand start left → IsBytes place.rest → Before start place false (suc left) → entry_at left place ≡ r
    → (f : PoolFault) → IsAmong f (faults_with (slots_faults left) place.at r) → StandsInPool start f
entry_faults start left place (Err d) behind fits b e f (inl same) = subst (StandsInPool start) (sym same) (entry_fault start place left d (has_entry start place left b) (entry_wrong left place d fits e))
entry_faults start left place (Err d) behind fits b e f (inr among) = absurd among
entry_faults start left place (Ok entry) behind fits b e f among =
    let one = entry_takes left place entry.0 entry.1 fits e in
    elim (among_either f (text_faults place.at entry.0) (slots_faults left (is_wide entry.0) entry.1) among) [
      | inl here ↦ text_fault start place entry.1 left entry.0 (is_text entry.0) f (has_entry start place left b) one.starts refl here
      | inr there ↦ behind (is_wide entry.0) entry.1 (starts-rest IsEntry place entry.1 entry.0 one.starts fits) (next_before start place entry.1 left entry.0 b one.starts) f there
    ]

slots_stand : (start : Place) (left : ℕ) → SlotsStand start left
unfolding slots_faults
slots_stand start zero gap place fits b f among = absurd among
slots_stand start (suc left) true place fits b f among = slots_stand start left false place fits (past_gap start place left b) f among
slots_stand start (suc left) false place fits b f among = entry_faults start left place (entry_at left place) (slots_stand start left) fits b refl f among

-- ---- the faults of the table

table_faults_by : (start : Place) (r : Result (ℕ × Place) PoolFault) → IsBytes start.rest → num_at 2 start ≡ r → (f : PoolFault) → IsAmong f (faults_behind r) → StandsInPool start f
table_faults_by start (Err d) fits e f (inl same) = let h = num_failed 2 start d e in subst (StandsInPool start) (sym (same ∙ h.0)) (refl, inl h.1)
table_faults_by start (Err d) fits e f (inr among) = absurd among
table_faults_by start (Ok count) fits e f among =
    let s = num_takes 2 start count.0 count.1 fits e in
    let sized : length s.piece ≡ 2 = ap length s.is.0 ∙ length-bytes_high_first 2 count.0 in
    slots_stand start (count.0 - 1) false count.1 (starts-rest _ start count.1 count.0 s fits)
    (record {
      count = count.0;
      entries = [];
      pieces = [];
      count_fits = s.is.1;
      indices = omega arith;
      each = refl;
      parts = s.parts ∙ ap (λ (b : List ℕ). b ++ count.1.rest) s.is.0;
      moved = omega (arith, s.moved, sized);
    }) f among

-- ---- the faults of the links

none_of : {A : Type 0} (o : Option A) → is_some o ≡ false → o ≡ None
none_of None e = refl
none_of (Some x) e = absurd (true≢false e)

unless_some : (b : Bool) (i index : ℕ) → unless b i ≡ Some index → (b ≡ false) × (index ≡ i)
unless_some true i index e = absurd (let wrong = e in cc)
unless_some false i index e = (refl, cc)

first_some : (a b : Option ℕ) (index : ℕ) → first_of a b ≡ Some index → (a ≡ Some index) ⊎ (b ≡ Some index)
first_some (Some i) b index e = inl e
first_some None b index e = inr e

wrong_text : (pool : List (Option Constant)) (i index : ℕ) → unless (is_some (utf8_at pool i)) i ≡ Some index → (index ≡ i) × (utf8_at pool index ≡ None)
wrong_text pool i index e =
    let u = unless_some (is_some (utf8_at pool i)) i index e in
    (u.1, ap (utf8_at pool) u.1 ∙ none_of (utf8_at pool i) u.0)

wrong_texts : (pool : List (Option Constant)) (m n index : ℕ) → first_of (unless (is_some (utf8_at pool m)) m) (unless (is_some (utf8_at pool n)) n) ≡ Some index → ((index ≡ m) ⊎ (index ≡ n)) × (utf8_at pool index ≡ None)
wrong_texts pool m n index e =
    elim (first_some (unless (is_some (utf8_at pool m)) m) (unless (is_some (utf8_at pool n)) n) index e) [
      | inl h ↦ let t = wrong_text pool m index h in (inl t.0, t.1)
      | inr h ↦ let t = wrong_text pool n index h in (inr t.0, t.1)
    ]

wrong_member : (pool : List (Option Constant)) (m n index : ℕ) → first_of (unless (is_some (class_of (constant_at pool m))) m) (unless (is_some (named_of (constant_at pool n))) n) ≡ Some index
    → ((index ≡ m) × (class_of (constant_at pool index) ≡ None)) ⊎ ((index ≡ n) × (named_of (constant_at pool index) ≡ None))
wrong_member pool m n index e =
    elim (first_some (unless (is_some (class_of (constant_at pool m))) m) (unless (is_some (named_of (constant_at pool n))) n) index e) [
      | inl h ↦
          let u = unless_some (is_some (class_of (constant_at pool m))) m index h in
          inl (u.1, ap (λ (i : ℕ). class_of (constant_at pool i)) u.1 ∙ none_of (class_of (constant_at pool m)) u.0)
      | inr h ↦
          let u = unless_some (is_some (named_of (constant_at pool n))) n index h in
          inr (u.1, ap (λ (i : ℕ). named_of (constant_at pool i)) u.1 ∙ none_of (named_of (constant_at pool n)) u.0)
    ]

misnames : (pool : List (Option Constant)) (entry : Constant) (index : ℕ) → wrong_index pool entry ≡ Some index → Misnames pool entry index
misnames pool (Class n) index e = wrong_text pool n index e
misnames pool (String n) index e = wrong_text pool n index e
misnames pool (NameAndType m n) index e = wrong_texts pool m n index e
misnames pool (Fieldref m n) index e = wrong_member pool m n index e
misnames pool (Methodref m n) index e = wrong_member pool m n index e
misnames pool (InterfaceMethodref m n) index e = wrong_member pool m n index e
misnames pool (Utf8 text) index e = absurd (let wrong = e in cc)
misnames pool (Integer n) index e = absurd (let wrong = e in cc)
misnames pool (Float n) index e = absurd (let wrong = e in cc)
misnames pool (Long n) index e = absurd (let wrong = e in cc)
misnames pool (Double n) index e = absurd (let wrong = e in cc)
misnames pool (MethodHandle m n) index e = absurd (let wrong = e in cc)
misnames pool (MethodType n) index e = absurd (let wrong = e in cc)
misnames pool (Dynamic m n) index e = absurd (let wrong = e in cc)
misnames pool (InvokeDynamic m n) index e = absurd (let wrong = e in cc)
misnames pool (Module n) index e = absurd (let wrong = e in cc)
misnames pool (Package n) index e = absurd (let wrong = e in cc)

-- a table, and an entry of it at this place
record InTable (start : Place) (pool : List (Option Constant)) (place next : Place) (entry : Constant) : Type 0 where
  behind : Place
  table : StartsWith IsTable start pool behind
  left : ℕ
  has : HasEntry start place left
  starts : StartsWith IsEntry place entry next

link_fault : (start : Place) (pool : List (Option Constant)) (place next : Place) (entry : Constant) (o : Option ℕ) (f : PoolFault) → InTable start pool place next entry → wrong_index pool entry ≡ o
    → IsAmong f (fault_of (linked_or place.at o)) → StandsInPool start f
link_fault start pool place next entry None f t e among = absurd among
link_fault start pool place next entry (Some index) f t e (inr among) = absurd among
link_fault start pool place next entry (Some index) f t e (inl same) =
    subst (StandsInPool start) (sym same)
    (record { pool = pool; behind = t.behind; table = t.table; place = place; left = t.left; has = t.has; here = refl; entry = entry; next = next; starts = t.starts; wrong = misnames pool entry index e })

gap_links : (pool : List (Option Constant)) (at : ℕ) (wide : Bool) (slots : List (Option Constant)) (f : PoolFault) → IsAmong f (link_faults pool at (cond wide (None ∷ slots) slots)) → IsAmong f (link_faults pool at slots)
unfolding link_faults
gap_links pool at true slots f among = subst (λ (n : ℕ). IsAmong f (link_faults pool n slots)) (omega arith) among
gap_links pool at false slots f among = among

links_stand : (start behind : Place) (pool : List (Option Constant)) → StartsWith IsTable start pool behind → (more : List Constant) (pieces : List ℕ) (place : Place) → Before start place false (length (laid_out more)) → Each IsConstant pieces more
    → place.rest ≡ pieces ++ behind.rest → (f : PoolFault) → IsAmong f (link_faults pool place.at (laid_out more)) → StandsInPool start f
unfolding link_faults
links_stand start behind pool table [] pieces place b each parts f among = absurd among
links_stand start behind pool table (entry ∷ more) pieces place b each parts f among =
    let next : Place = record { at = place.at + length each.0; rest = each.1 ++ behind.rest } in
    let s : StartsWith IsEntry place entry next = record { piece = each.0; is = each.3.0; parts = parts ∙ ap (λ (p : List ℕ). p ++ behind.rest) each.2 ∙ append_assoc each.0 each.1 behind.rest; moved = refl } in
    let left : ℕ = cond (is_wide entry) 1 0 + length (laid_out more) in
    let here : Before start place false (suc left) = subst (Before start place false) (laid_one entry more ∙ omega arith) b in
    let sized : place.at + size_of entry ≡ next.at = omega (arith, entry_sized entry each.0 each.3.0) in
    elim (among_either f (fault_of (linked_or place.at (wrong_index pool entry))) _ among) [
      | inl now ↦ link_fault start pool place next entry (wrong_index pool entry) f (record { behind = behind; table = table; left = left; has = has_entry start place left here; starts = s }) refl now
      | inr then ↦
          let on = gap_links pool (place.at + size_of entry) (is_wide entry) (laid_out more) f then in
          let after : Before start next (is_wide entry) left = next_before start place next left entry here s in
          let free : Before start next false (length (laid_out more)) = record {
            count = after.count;
            entries = after.entries;
            pieces = after.pieces;
            count_fits = after.count_fits;
            indices = omega (arith, after.indices);
            each = after.each;
            parts = after.parts;
            moved = after.moved;
          } in
          links_stand start behind pool table more each.1 next free each.4 refl f (subst (λ (n : ℕ). IsAmong f (link_faults pool n (laid_out more))) sized on)
    ]

-- ---- the first fault

pub first_stands : (start : Place) (f : PoolFault) → IsBytes start.rest → IsFirstFault start f → StandsInPool start f
first_stands start f fits (inl table) = table_faults_by start (num_at 2 start) fits refl f table.among
first_stands start f fits (inr link) =
    let t = link.table in
    let place : Place = record { at = start.at + 2; rest = t.is.pieces ++ link.next.rest } in
    let parts : start.rest ≡ big_bytes 2 t.is.count ++ (t.is.pieces ++ link.next.rest) =
    t.parts ∙ ap (λ (p : List ℕ). p ++ link.next.rest) t.is.parts ∙ append_assoc (big_bytes 2 t.is.count) t.is.pieces link.next.rest in
    let b : Before start place false (length (laid_out t.is.entries)) =
    record { count = t.is.count; entries = []; pieces = []; count_fits = t.is.count_fits; indices = omega (arith, t.is.counted, ap length t.is.laid); each = refl; parts = parts; moved = omega arith } in
    links_stand start link.next link.pool t t.is.entries t.is.pieces place b t.is.each refl f (subst (λ (slots : List (Option Constant)). IsAmong f (link_faults link.pool (start.at + 2) slots)) t.is.laid link.first.among)
