-- Where the bytes are a pool, no fault of a pool is there.
use Rattle.std.proofs.Common.{◌≡◌, ◌⊎◌, ℕ, suc, ◌+◌, ◌<◌, ◌≤◌, Bool, true, false, cond, List, [], ◌∷◌, ◌++◌, length, get_or, Option, None, Ok, Err, is_some, refl, sym, ap, subst, ◌∙◌, append_assoc, arith, inl, inr, true≢false}
use Rattle.std.specs.List.{AllByRecursion}
use Rattle.std.proofs.lemmas.List.{length-append, append-nil}
use Rattle.byteorder.specs.Endian.{big_bytes}
use Rattle.byteorder.specs.Numbers.{length-bytes_high_first}
use Rattle.class_pool.specs.declared.constant.Constant.{Constant}
use Rattle.class_pool.specs.declared.constant.Constant.TheVariants.{Utf8, Integer, Float, Long, Double, Class, String, Fieldref, Methodref, InterfaceMethodref, NameAndType, MethodHandle, MethodType, Dynamic, InvokeDynamic, Module, Package}
use Rattle.class_pool.specs.declared.fault.PoolFault.{PoolFault}
use Rattle.class_pool.specs.declared.fault.PoolFault.TheVariants.{Short, BadTag, BadIndex, BadUtf8, Memory}
use Rattle.class_pool.specs.Place.{Place}
use Rattle.class_pool.specs.Pieces.{Each}
use Rattle.class_pool.specs.Pool.{IsEntry, IsConstant, is_text, is_wide, size_of, laid_out, constant_at, utf8_at, class_of, named_of, IsLinked, IsLinkedSlot, IsPool}
use Rattle.class_pool.specs.PoolReading.{num_at, is_wide_tag, entry_at}
use Rattle.class_pool.proofs.EntryReading.{same_pair, bound, number_there, entry_again}
use Rattle.class_pool.proofs.Tables.{table_again, entry_sized}
use Rattle.class_faults.specs.PoolFaults.{HasEntry, Misnames, IsShort, HasBadTag, HasBadText, HasBadLink, StandsInPool}
use Rattle.class_faults.proofs.Fronts.{same_front, same_number, same_width}
use Rattle.class_faults.proofs.PoolTold.{laid_one}

-- ---- entries at the front of the same bytes are one

entry_same : (a b r s : List ℕ) (x y : Constant) → a ++ r ≡ b ++ s → IsEntry a x → IsEntry b y → (x ≡ y) × (r ≡ s)
entry_same a b r s x y e is_x is_y =
    let place : Place = record { at = 0; rest = a ++ r } in
    let past_a : Place = record { at = 0 + length a; rest = r } in
    let past_b : Place = record { at = 0 + length b; rest = s } in
    let first = entry_again x 1 place past_a (λ w. omega arith) (record { piece = a; is = is_x; parts = refl; moved = refl }) in
    let second = entry_again y 1 place past_b (λ w. omega arith) (record { piece = b; is = is_y; parts = e; moved = refl }) in
    let same = same_pair x y past_a past_b (sym first ∙ second) in
    (same.0, ap (λ (p : Place). p.rest) same.1)

-- ---- the entry of the pool that stands at a place

record EntryThere (Q : Constant → Type 0) (left : ℕ) (rest : List ℕ) : Type 0 where
  entry : Constant
  piece : List ℕ
  more : List ℕ
  is : IsConstant piece entry
  parts : rest ≡ piece ++ more
  room : is_wide entry ≡ true → 1 ≤ left
  holds : Q entry

-- how many indices an entry takes besides its own
abbrev one_if : Bool → ℕ
one_if b = cond b 1 0

room_by : (entry : Constant) (left others : ℕ) → suc left ≡ 1 + cond (is_wide entry) 1 0 + others → is_wide entry ≡ true → 1 ≤ left
room_by entry left others e wide = omega (arith, e, ap one_if wide)

entry_there : (Q : Constant → Type 0) (left : ℕ) (rest tail : List ℕ) (entries all : List Constant) (pieces bytes : List ℕ) → Each IsEntry pieces entries → Each IsConstant bytes all → pieces ++ rest ≡ bytes ++ tail
    → length (laid_out entries) + suc left ≡ length (laid_out all) → AllByRecursion Q all → EntryThere Q left rest
entry_there Q left rest tail [] [] pieces bytes front each e indices holds = absurd (omega (arith, indices))
entry_there Q left rest tail [] (y ∷ ys) pieces bytes front each e indices holds = record {
  entry = y;
  piece = each.0;
  more = each.1 ++ tail;
  is = each.3;
  parts = ap (λ (p : List ℕ). p ++ rest) (sym front) ∙ e ∙ ap (λ (b : List ℕ). b ++ tail) each.2 ∙ append_assoc each.0 each.1 tail;
  room = room_by y left (length (laid_out ys)) (omega (arith, indices, laid_one y ys));
  holds = holds.0;
}
entry_there Q left rest tail (x ∷ xs) [] pieces bytes front each e indices holds = absurd (omega (arith, indices, laid_one x xs))
entry_there Q left rest tail (x ∷ xs) (y ∷ ys) pieces bytes front each e indices holds =
    let split : front.0 ++ (front.1 ++ rest) ≡ each.0 ++ (each.1 ++ tail) =
    sym (append_assoc front.0 front.1 rest) ∙ ap (λ (b : List ℕ). b ++ rest) (sym front.2) ∙ e ∙ ap (λ (b : List ℕ). b ++ tail) each.2 ∙ append_assoc each.0 each.1 tail in
    let same = entry_same front.0 each.0 (front.1 ++ rest) (each.1 ++ tail) x y split front.3 each.3.0 in
    let wide : one_if (is_wide x) ≡ one_if (is_wide y) = ap (λ (z : Constant). one_if (is_wide z)) same.0 in
    entry_there Q left rest tail xs ys front.1 each.1 front.4 each.4 same.1 (omega (arith, indices, laid_one x xs, laid_one y ys, wide)) holds.1

-- ---- links

past_gap : (pool : List (Option Constant)) (wide : Bool) (slots : List (Option Constant)) → AllByRecursion (IsLinkedSlot pool) (let l : List (Option Constant) = cond wide (None ∷ slots) slots in l) → AllByRecursion (IsLinkedSlot pool) slots
past_gap pool true slots h = h.1
past_gap pool false slots h = h

slots_linked : (pool : List (Option Constant)) (entries : List Constant) → AllByRecursion (IsLinkedSlot pool) (laid_out entries) → AllByRecursion (IsLinked pool) entries
slots_linked pool [] h = tt
slots_linked pool (entry ∷ entries) h = (h.0, slots_linked pool entries (past_gap pool (is_wide entry) (laid_out entries) h.1))

-- ---- what stands at the place of a fault

-- bytes that begin with a pool
record Pooled (start : Place) (pool : List (Option Constant)) : Type 0 where
  piece : List ℕ
  tail : List ℕ
  is : IsPool piece pool
  parts : start.rest ≡ piece ++ tail

pooled_entry : (start place : Place) (left : ℕ) (pool : List (Option Constant)) → Pooled start pool → HasEntry start place left → EntryThere (IsLinked pool) left place.rest
pooled_entry start place left pool p h =
    let t = p.is.table in
    let own : start.rest ≡ big_bytes 2 t.count ++ (t.pieces ++ p.tail) = p.parts ∙ ap (λ (b : List ℕ). b ++ p.tail) t.parts ∙ append_assoc (big_bytes 2 t.count) t.pieces p.tail in
    let f = same_front (big_bytes 2 h.count) (big_bytes 2 t.count) (h.pieces ++ place.rest) (t.pieces ++ p.tail) (sym h.parts ∙ own) (same_width 2 h.count t.count) in
    let count = same_number 2 h.count t.count h.count_fits t.count_fits f.0 in
    let linked = slots_linked pool t.entries (subst (AllByRecursion (IsLinkedSlot pool)) t.laid p.is.linked) in
    entry_there (IsLinked pool) left place.rest p.tail h.entries t.entries h.pieces t.pieces h.each t.each f.1 (omega (arith, h.indices, count, t.counted, ap length t.laid)) linked

one_byte : (entry : Constant) → 1 ≤ size_of entry
one_byte (Utf8 text) = omega arith
one_byte other = omega arith

-- the entry begins with the tag
tagged : (tag : ℕ) (bytes piece more : List ℕ) (entry : Constant) → tag ∷ bytes ≡ piece ++ more → IsEntry piece entry → (front : List ℕ) × (piece ≡ tag ∷ front)
tagged tag bytes [] more entry e is = absurd (omega (arith, entry_sized entry [] is, one_byte entry))
tagged tag bytes (t ∷ front) more entry e is = (front, ap (λ (x : ℕ). x ∷ front) (sym (ap (λ (l : List ℕ). get_or l 0 0) e)))

-- an entry with the tag of a wide one is wide
wide_entry : (tag : ℕ) (front : List ℕ) (entry : Constant) → tag < 256 → is_wide_tag tag ≡ true → IsEntry (tag ∷ front) entry → is_wide entry ≡ false → ⊥
unfolding entry_at
wide_entry tag front entry lt wide is narrow =
    let place : Place = record { at = 0; rest = tag ∷ front } in
    let next : Place = record { at = 0 + length (tag ∷ front); rest = [] } in
    let past : Place = record { at = 0 + 1; rest = front } in
    let one : big_bytes 1 tag ≡ tag ∷ [] = ap (λ (t : ℕ). t ∷ []) (omega (arith, lt)) in
    let read = entry_again entry 0 place next (λ w. absurd (true≢false (sym w ∙ narrow))) (record { piece = tag ∷ front; is = is; parts = sym (append-nil (tag ∷ front)); moved = refl }) in
    let first : num_at 1 place ≡ Ok (tag, past) = number_there 1 place tag past (omega (arith, lt)) (ap (λ (b : List ℕ). b ++ front) (sym one)) refl in
    let fails : entry_at 0 place ≡ Err (BadTag 0 tag) = bound _ first (rw wide refl) in
    let clash = sym read ∙ fails in
    cc

wide_or_not : (entry : Constant) (left : ℕ) (wide : Bool) → is_wide entry ≡ wide → left ≡ 0 → (is_wide entry ≡ true → 1 ≤ left) → is_wide entry ≡ false
wide_or_not entry left false e none room = e
wide_or_not entry left true e none room = absurd (omega (arith, none, room e))

no_bad_tag : (start : Place) (at tag : ℕ) (pool : List (Option Constant)) → Pooled start pool → HasBadTag start at tag → ⊥
no_bad_tag start at tag pool p (place, left, bytes, here, has, front, bad) =
    let e = pooled_entry start place left pool p has in
    let t = tagged tag bytes e.piece e.more e.entry (sym front ∙ e.parts) e.is.0 in
    let is : IsEntry (tag ∷ t.0) e.entry = subst (λ (b : List ℕ). IsEntry b e.entry) t.1 e.is.0 in
    elim bad [
      | inl none ↦ none t.0 e.entry is
      | inr wide ↦
          let narrow = wide_or_not e.entry left (is_wide e.entry) refl wide.0 e.room in
          elim wide.1 [
            | inl five ↦ wide_entry 5 t.0 e.entry (omega arith) refl (subst (λ (n : ℕ). IsEntry (n ∷ t.0) e.entry) five is) narrow
            | inr six ↦ wide_entry 6 t.0 e.entry (omega arith) refl (subst (λ (n : ℕ). IsEntry (n ∷ t.0) e.entry) six is) narrow
          ]
    ]

no_bad_text : (start : Place) (at : ℕ) (pool : List (Option Constant)) → Pooled start pool → HasBadText start at → ⊥
no_bad_text start at pool p (place, left, text, next, here, has, s, bad) =
    let e = pooled_entry start place left pool p has in
    let same = entry_same s.piece e.piece next.rest e.more (Utf8 text) e.entry (sym s.parts ∙ e.parts) s.is e.is.0 in
    true≢false (sym (ap is_text same.0 ∙ e.is.1) ∙ bad)

back_empty : (xs ys : List ℕ) → [] ≡ xs ++ ys → ys ≡ []
back_empty [] ys e = sym e
back_empty (x ∷ xs) ys e = absurd (omega (arith, ap length e))

no_cut : (start : Place) (at : ℕ) (pool : List (Option Constant)) → Pooled start pool → IsShort start at → ⊥
no_cut start at pool p (end, inl short) =
    let count : List ℕ = big_bytes 2 p.is.table.count in
    omega (arith, short, ap length p.parts, length-append p.piece p.tail, ap length p.is.table.parts, length-append count p.is.table.pieces, length-bytes_high_first 2 p.is.table.count)
no_cut start at pool p (end, inr (place, left, has, cut)) =
    let e = pooled_entry start place left pool p has in
    let whole : (place.rest ++ cut.more) ++ [] ≡ e.piece ++ (e.more ++ cut.more) = append-nil (place.rest ++ cut.more) ∙ ap (λ (b : List ℕ). b ++ cut.more) e.parts ∙ append_assoc e.piece e.more cut.more in
    let same = entry_same (place.rest ++ cut.more) e.piece [] (e.more ++ cut.more) cut.entry e.entry whole cut.is e.is.0 in
    cut.some (back_empty e.more cut.more same.1)

-- ---- links

not_none : {A : Type 0} (o : Option A) → is_some o ≡ true → o ≡ None → ⊥
not_none o h e = true≢false (sym h ∙ ap is_some e)

no_text : (pool : List (Option Constant)) (i index : ℕ) → is_some (utf8_at pool i) ≡ true → index ≡ i → utf8_at pool index ≡ None → ⊥
no_text pool i index h e none = not_none (utf8_at pool i) h (ap (utf8_at pool) (sym e) ∙ none)

no_texts : (pool : List (Option Constant)) (m n index : ℕ) → (is_some (utf8_at pool m) ≡ true) × (is_some (utf8_at pool n) ≡ true) → ((index ≡ m) ⊎ (index ≡ n)) × (utf8_at pool index ≡ None) → ⊥
no_texts pool m n index h (inl e, none) = no_text pool m index h.0 e none
no_texts pool m n index h (inr e, none) = no_text pool n index h.1 e none

no_member : (pool : List (Option Constant)) (m n index : ℕ) → (is_some (class_of (constant_at pool m)) ≡ true) × (is_some (named_of (constant_at pool n)) ≡ true)
    → ((index ≡ m) × (class_of (constant_at pool index) ≡ None)) ⊎ ((index ≡ n) × (named_of (constant_at pool index) ≡ None)) → ⊥
no_member pool m n index h (inl c) = not_none (class_of (constant_at pool m)) h.0 (ap (λ (i : ℕ). class_of (constant_at pool i)) (sym c.0) ∙ c.1)
no_member pool m n index h (inr c) = not_none (named_of (constant_at pool n)) h.1 (ap (λ (i : ℕ). named_of (constant_at pool i)) (sym c.0) ∙ c.1)

no_misnamed : (pool : List (Option Constant)) (entry : Constant) (index : ℕ) → IsLinked pool entry → Misnames pool entry index → ⊥
no_misnamed pool (Class n) index h m = no_text pool n index h m.0 m.1
no_misnamed pool (String n) index h m = no_text pool n index h m.0 m.1
no_misnamed pool (NameAndType a b) index h m = no_texts pool a b index h m
no_misnamed pool (Fieldref a b) index h m = no_member pool a b index h m
no_misnamed pool (Methodref a b) index h m = no_member pool a b index h m
no_misnamed pool (InterfaceMethodref a b) index h m = no_member pool a b index h m
no_misnamed pool (Utf8 text) index h m = m
no_misnamed pool (Integer n) index h m = m
no_misnamed pool (Float n) index h m = m
no_misnamed pool (Long n) index h m = m
no_misnamed pool (Double n) index h m = m
no_misnamed pool (MethodHandle a b) index h m = m
no_misnamed pool (MethodType n) index h m = m
no_misnamed pool (Dynamic a b) index h m = m
no_misnamed pool (InvokeDynamic a b) index h m = m
no_misnamed pool (Module n) index h m = m
no_misnamed pool (Package n) index h m = m

no_bad_link : (start : Place) (at index : ℕ) (pool : List (Option Constant)) → Pooled start pool → HasBadLink start at index → ⊥
no_bad_link start at index pool p l =
    let next : Place = record { at = start.at + length p.piece; rest = p.tail } in
    let own = table_again start pool next (record { piece = p.piece; is = p.is.table; parts = p.parts; moved = refl }) in
    let other = table_again start l.pool l.behind l.table in
    let same = same_pair l.pool pool l.behind next (sym other ∙ own) in
    let e = pooled_entry start l.place l.left pool p l.has in
    let entry = entry_same l.starts.piece e.piece l.next.rest e.more l.entry e.entry (sym l.starts.parts ∙ e.parts) l.starts.is e.is.0 in
    no_misnamed pool e.entry index e.holds (subst (λ (x : Constant). Misnames pool x index) entry.0 (subst (λ (q : List (Option Constant)). Misnames q l.entry index) same.0 l.wrong))

-- ---- all faults

pub no_pool_fault : (start : Place) (pool : List (Option Constant)) (piece tail : List ℕ) (fault : PoolFault) → IsPool piece pool → start.rest ≡ piece ++ tail → StandsInPool start fault → ⊥
no_pool_fault start pool piece tail (Short at) is parts s = no_cut start at pool (record { piece = piece; tail = tail; is = is; parts = parts }) s
no_pool_fault start pool piece tail (BadTag at tag) is parts s = no_bad_tag start at tag pool (record { piece = piece; tail = tail; is = is; parts = parts }) s
no_pool_fault start pool piece tail (BadUtf8 at) is parts s = no_bad_text start at pool (record { piece = piece; tail = tail; is = is; parts = parts }) s
no_pool_fault start pool piece tail (BadIndex at index) is parts s = no_bad_link start at index pool (record { piece = piece; tail = tail; is = is; parts = parts }) s
no_pool_fault start pool piece tail Memory is parts s = s
