-- The indices of a pool: what is read is entries laid out to them, and each such layout is read.
use Rattle.std.proofs.Common.{◌≡◌, ℕ, zero, suc, ◌+◌, ◌-◌, ◌≤◌, Bool, true, false, cond, List, [], ◌∷◌, ◌++◌, length, sum_by, Option, Some, None, Ok, Err, refl, sym, ap, subst, ◌∙◌, arith}
use Rattle.std.proofs.lemmas.List.{length-append}
use Rattle.std.proofs.lemmas.List.Sums.{sum_by-cons}
use Rattle.byteorder.specs.Endian.{big_bytes}
use Rattle.byteorder.specs.Numbers.{length-bytes_high_first}
use Rattle.class_pool.specs.declared.constant.Constant.{Constant}
use Rattle.class_pool.specs.declared.constant.Constant.TheVariants.{Utf8, Integer, Float, Long, Double, Class, String, Fieldref, Methodref, InterfaceMethodref, NameAndType, MethodHandle, MethodType, Dynamic, InvokeDynamic, Module, Package}
use Rattle.class_pool.specs.declared.fault.PoolFault.{PoolFault}
use Rattle.class_pool.specs.declared.fault.PoolFault.TheVariants.{BadUtf8}
use Rattle.class_pool.specs.Place.{Place, IsBytes}
use Rattle.class_pool.specs.Pieces.{Each, StartsWith}
use Rattle.class_pool.specs.Pool.{HasNumber, HasNumbers, IsEntry, IsConstant, is_text, size_of, is_wide, laid_out, IsTable}
use Rattle.class_pool.specs.PoolReading.{num_at, entry_at, text_checked, constant_from, slot_at, slots_at, is_wide_slot, slot_size, table_at}
use Rattle.class_pool.proofs.Pieces.{joined, cut_off, IsNumber, starts-rest}
use Rattle.class_pool.proofs.EntryReading.{done, taken, bind_ok, bound, same_pair, num_takes, number_there, Entry, entry_takes, entry_again}

-- ---- an entry with its text

guard_ok : {A : Type 0} (b : Bool) (d : PoolFault) (x y : A) → cond b (done x) (Err d) ≡ Ok y → (b ≡ true) × (done x ≡ done y)
guard_ok true d x y e = (refl, e)
guard_ok false d x y e = absurd cc

pub constant_takes : (left : ℕ) (place : Place) (entry : Constant) (next : Place) → IsBytes place.rest → constant_from left place ≡ Ok (entry, next) → Entry IsConstant left place entry next
unfolding constant_from
constant_takes left place entry next fits e =
    let read = bind_ok (entry_at left place) (text_checked place.at) (entry, next) e in
    let text = guard_ok (is_text read.0.0) (BadUtf8 place.at) read.0 (entry, next) read.2 in
    let here = entry_takes left place entry next fits (read.1 ∙ text.1) in
    let same = same_pair read.0.0 entry read.0.1 next text.1 in
    record {
      starts = record { piece = here.starts.piece; is = (here.starts.is, ap is_text (sym same.0) ∙ text.0); parts = here.starts.parts; moved = here.starts.moved };
      room = here.room;
    }

constant_again : (entry : Constant) (left : ℕ) (place next : Place) → (is_wide entry ≡ true → 1 ≤ left) → StartsWith IsConstant place entry next → constant_from left place ≡ Ok (entry, next)
unfolding constant_from
constant_again entry left place next room s =
    let here = entry_again entry left place next room (record { piece = s.piece; is = s.is.0; parts = s.parts; moved = s.moved }) in
    bound (text_checked place.at) here (ap (λ (b : Bool). cond b (taken (entry, next)) (Err (BadUtf8 place.at))) s.is.1)

-- ---- what is read is laid out

-- what the indices from one on have
abbrev pub laid_behind : Bool → List Constant → List (Option Constant)
laid_behind true entries = None ∷ laid_out entries
laid_behind false entries = laid_out entries

pub record Slots (gap : Bool) (place : Place) (slots : List (Option Constant)) (next : Place) : Type 0 where
  pub entries : List Constant
  pub piece : List ℕ
  pub each : Each IsConstant piece entries
  pub laid : slots ≡ laid_behind gap entries
  pub parts : place.rest ≡ piece ++ next.rest
  pub moved : next.at ≡ place.at + length piece

laid_with : (entry : Constant) (entries : List Constant) (wide : Bool) → is_wide entry ≡ wide → Some entry ∷ laid_behind wide entries ≡ laid_out (entry ∷ entries)
laid_with entry entries true e = rw e refl
laid_with entry entries false e = rw e refl

slots_same : (gap : Bool) (place : Place) (x y : List (Option Constant)) (p q : Place) → taken (x, p) ≡ taken (y, q) → Slots gap place x p → Slots gap place y q
slots_same gap place x y p q e s =
    let same = same_pair x y p q e in
    subst (λ (y : List (Option Constant)). Slots gap place y q) same.0 (subst (λ (q : Place). Slots gap place x q) same.1 s)

no_slots : (place : Place) → Slots false place [] place
no_slots place = record { entries = []; piece = []; each = refl; laid = refl; parts = refl; moved = omega arith }

gap_slot : (place : Place) (others : List (Option Constant)) (next : Place) → Slots false place others next → Slots true place (None ∷ others) next
gap_slot place others next s = record { entries = s.entries; piece = s.piece; each = s.each; laid = ap (λ (o : List (Option Constant)). None ∷ o) s.laid; parts = s.parts; moved = s.moved }

entry_slot : (place middle next : Place) (entry : Constant) (others : List (Option Constant)) → StartsWith IsConstant place entry middle → Slots (is_wide entry) middle others next → Slots false place (Some entry ∷ others) next
entry_slot place middle next entry others one s = record {
  entries = entry ∷ s.entries;
  piece = one.piece ++ s.piece;
  each = (one.piece, s.piece, refl, one.is, s.each);
  laid = ap (λ (o : List (Option Constant)). Some entry ∷ o) s.laid ∙ laid_with entry s.entries (is_wide entry) refl;
  parts = joined place.rest one.piece middle.rest s.piece next.rest one.parts s.parts;
  moved = omega (arith, one.moved, s.moved, length-append one.piece s.piece);
}

pub slots_take : (left : ℕ) (gap : Bool) (place : Place) (slots : List (Option Constant)) (next : Place) → IsBytes place.rest → (gap ≡ true → 1 ≤ left) → slots_at left gap place ≡ Ok (slots, next)
    → Slots gap place slots next × (length slots ≡ left)
unfolding slots_at
slots_take zero true place slots next fits room e = absurd (let h : 1 ≤ 0 = room refl in omega arith)
slots_take zero false place slots next fits room e =
    let none : List (Option Constant) = [] in
    let same = same_pair none slots place next e in
    (slots_same false place none slots place next e (no_slots place), ap length (sym same.0))
slots_take (suc left) true place slots next fits room e =
    let others = bind_ok (slots_at left false place) _ (slots, next) e in
    let behind = slots_take left false place others.0.0 others.0.1 fits (λ h. absurd cc) others.1 in
    let same = same_pair (None ∷ others.0.0) slots others.0.1 next others.2 in
    (slots_same true place (None ∷ others.0.0) slots others.0.1 next others.2 (gap_slot place others.0.0 others.0.1 behind.0), ap length (sym same.0) ∙ ap suc behind.1)
slots_take (suc left) false place slots next fits room e =
    let slot = bind_ok (slot_at left false place) _ (slots, next) e in
    let entry = bind_ok (constant_from left place) _ slot.0 slot.1 in
    let is = same_pair (Some entry.0.0) slot.0.0 entry.0.1 slot.0.1 entry.2 in
    let others = bind_ok (slots_at left (is_wide_slot slot.0.0) slot.0.1) _ (slots, next) slot.2 in
    let one = constant_takes left place entry.0.0 entry.0.1 fits entry.1 in
    let read : slots_at left (is_wide entry.0.0) entry.0.1 ≡ Ok (others.0.0, others.0.1) =
    ap (λ (z : Option Constant). slots_at left (is_wide_slot z) entry.0.1) is.0 ∙ ap (λ (p : Place). slots_at left (is_wide_slot slot.0.0) p) is.1 ∙ others.1 in
    let behind = slots_take left (is_wide entry.0.0) entry.0.1 others.0.0 others.0.1 (starts-rest IsConstant place entry.0.1 entry.0.0 one.starts fits) one.room read in
    let whole : taken (Some entry.0.0 ∷ others.0.0, others.0.1) ≡ taken (slots, next) = ap (λ (z : Option Constant). taken (z ∷ others.0.0, others.0.1)) is.0 ∙ others.2 in
    let same = same_pair (Some entry.0.0 ∷ others.0.0) slots others.0.1 next whole in
    (slots_same false place (Some entry.0.0 ∷ others.0.0) slots others.0.1 next whole (entry_slot place entry.0.1 others.0.1 entry.0.0 others.0.0 one.starts behind.0), ap length (sym same.0) ∙ ap suc behind.1)

-- ---- what is laid out is read

abbrev Reads : Bool → List Constant → Place → Place → Type 0
Reads gap entries place next = slots_at (length (laid_behind gap entries)) gap place ≡ Ok (laid_behind gap entries, next)

behind_again : (gap : Bool) (entries : List Constant) (place next : Place) → Reads false entries place next → Reads gap entries place next
unfolding slots_at
behind_again false entries place next h = h
behind_again true entries place next h = bound (λ (o : List (Option Constant) × Place). taken (None ∷ o.0, o.1)) h refl

wide_room : (entry : Constant) (entries : List Constant) → is_wide entry ≡ true → 1 ≤ length (laid_behind (is_wide entry) entries)
wide_room entry entries e = rw e (omega arith)

with_entry : (entry : Constant) (entries : List Constant) (place middle next : Place) → StartsWith IsConstant place entry middle → Reads (is_wide entry) entries middle next
    → slots_at (suc (length (laid_behind (is_wide entry) entries))) false place ≡ Ok (Some entry ∷ laid_behind (is_wide entry) entries, next)
unfolding slots_at
with_entry entry entries place middle next one h =
    let read = constant_again entry (length (laid_behind (is_wide entry) entries)) place middle (wide_room entry entries) one in
    bound _ (bound (λ (z : Constant × Place). taken (Some z.0, z.1)) read refl) (bound (λ (o : List (Option Constant) × Place). taken (Some entry ∷ o.0, o.1)) h refl)

slots_again : (entries : List Constant) (place next : Place) (piece : List ℕ) → Each IsConstant piece entries → place.rest ≡ piece ++ next.rest → next.at ≡ place.at + length piece → Reads false entries place next
unfolding slots_at
slots_again [] place next piece each parts moved =
    let rest : place.rest ≡ next.rest = parts ∙ ap (λ (b : List ℕ). b ++ next.rest) each in
    let at : place.at ≡ next.at = omega (arith, moved, ap length each) in
    let none : List (Option Constant) = [] in
    let same : place ≡ next = rw (rest, at) refl in
    ap (λ (q : Place). taken (none, q)) same
slots_again (entry ∷ entries) place next piece each parts moved =
    let middle : Place = record { at = place.at + length each.0; rest = each.1 ++ next.rest } in
    let cut : place.rest ≡ each.0 ++ (each.1 ++ next.rest) = cut_off place.rest piece next.rest each.0 each.1 parts each.2 in
    let on : next.at ≡ place.at + length each.0 + length each.1 = omega (arith, moved, ap length each.2, length-append each.0 each.1) in
    let one : StartsWith IsConstant place entry middle = record { piece = each.0; is = each.3; parts = cut; moved = refl } in
    let behind = behind_again (is_wide entry) entries middle next (slots_again entries middle next each.1 each.4 refl on) in
    let all : Some entry ∷ laid_behind (is_wide entry) entries ≡ laid_out (entry ∷ entries) = laid_with entry entries (is_wide entry) refl in
    subst (λ (l : List (Option Constant)). slots_at (length l) false place ≡ Ok (l, next)) all (with_entry entry entries place middle next one behind)

-- ---- the table

pub table_takes : (place : Place) (pool : List (Option Constant)) (next : Place) → IsBytes place.rest → table_at place ≡ Ok (pool, next) → StartsWith IsTable place pool next
unfolding table_at
table_takes place pool next fits e =
    let count = bind_ok (num_at 2 place) _ (pool, next) e in
    let number = num_takes 2 place count.0.0 count.0.1 fits count.1 in
    let read = slots_take (count.0.0 - 1) false count.0.1 pool next (starts-rest (IsNumber 2) place count.0.1 count.0.0 number fits) (λ h. absurd cc) count.2 in
    let s = read.0 in
    record {
      piece = big_bytes 2 count.0.0 ++ s.piece;
      is = record { count = count.0.0; entries = s.entries; pieces = s.piece; count_fits = omega (arith, number.is.1); counted = sym read.1; laid = s.laid; parts = refl; each = s.each };
      parts = joined place.rest (big_bytes 2 count.0.0) count.0.1.rest s.piece next.rest (number.parts ∙ ap (λ (b : List ℕ). b ++ count.0.1.rest) number.is.0) s.parts;
      moved = omega (arith, number.moved, ap length number.is.0, s.moved, length-append (big_bytes 2 count.0.0) s.piece);
    }

pub table_again : (place : Place) (pool : List (Option Constant)) (next : Place) → StartsWith IsTable place pool next → table_at place ≡ Ok (pool, next)
unfolding table_at
table_again place pool next p =
    let is = p.is in
    let middle : Place = record { at = place.at + 2; rest = is.pieces ++ next.rest } in
    let cut : place.rest ≡ big_bytes 2 is.count ++ (is.pieces ++ next.rest) = cut_off place.rest p.piece next.rest (big_bytes 2 is.count) is.pieces p.parts is.parts in
    let number : num_at 2 place ≡ Ok (is.count, middle) = number_there 2 place is.count middle (omega (arith, is.count_fits)) cut refl in
    let moved : next.at ≡ place.at + 2 + length is.pieces = omega (arith, p.moved, ap length is.parts, length-append (big_bytes 2 is.count) is.pieces, length-bytes_high_first 2 is.count) in
    let read = slots_again is.entries middle next is.pieces is.each refl moved in
    let same : length (laid_out is.entries) ≡ is.count - 1 = ap length (sym is.laid) ∙ sym is.counted in
    bound (λ (c : ℕ × Place). slots_at (c.0 - 1) false c.1) number (ap (λ (n : ℕ). slots_at n false middle) (sym same) ∙ read ∙ ap (λ (l : List (Option Constant)). taken (l, next)) (sym is.laid))

-- ---- sizes

number_sized : (tag width n : ℕ) (bytes : List ℕ) → HasNumber tag width n bytes → length bytes ≡ suc width
number_sized tag width n bytes h = ap length h.1 ∙ ap suc (length-bytes_high_first width n)

numbers_sized : (tag first second m n : ℕ) (bytes : List ℕ) → HasNumbers tag first second m n bytes → length bytes ≡ suc (first + second)
numbers_sized tag first second m n bytes h =
    ap length h.2 ∙ ap suc (length-append (big_bytes first m) (big_bytes second n) ∙ omega (arith, length-bytes_high_first first m, length-bytes_high_first second n))

pub entry_sized : (entry : Constant) (bytes : List ℕ) → IsEntry bytes entry → length bytes ≡ size_of entry
entry_sized (Utf8 text) bytes h = omega (arith, ap length h.1, length-append (big_bytes 2 (length text)) text, length-bytes_high_first 2 (length text))
entry_sized (Integer n) bytes h = number_sized 3 4 n bytes h
entry_sized (Float n) bytes h = number_sized 4 4 n bytes h
entry_sized (Long n) bytes h = number_sized 5 8 n bytes h
entry_sized (Double n) bytes h = number_sized 6 8 n bytes h
entry_sized (Class n) bytes h = number_sized 7 2 n bytes h
entry_sized (String n) bytes h = number_sized 8 2 n bytes h
entry_sized (Fieldref m n) bytes h = numbers_sized 9 2 2 m n bytes h
entry_sized (Methodref m n) bytes h = numbers_sized 10 2 2 m n bytes h
entry_sized (InterfaceMethodref m n) bytes h = numbers_sized 11 2 2 m n bytes h
entry_sized (NameAndType m n) bytes h = numbers_sized 12 2 2 m n bytes h
entry_sized (MethodHandle m n) bytes h = numbers_sized 15 1 2 m n bytes h
entry_sized (MethodType n) bytes h = number_sized 16 2 n bytes h
entry_sized (Dynamic m n) bytes h = numbers_sized 17 2 2 m n bytes h
entry_sized (InvokeDynamic m n) bytes h = numbers_sized 18 2 2 m n bytes h
entry_sized (Module n) bytes h = number_sized 19 2 n bytes h
entry_sized (Package n) bytes h = number_sized 20 2 n bytes h

laid_sized : (wide : Bool) (entries : List Constant) → sum_by slot_size (laid_behind wide entries) ≡ sum_by slot_size (laid_out entries)
laid_sized true entries = sum_by-cons slot_size None (laid_out entries) ∙ omega arith
laid_sized false entries = refl

each_sized : (entries : List Constant) (bytes : List ℕ) → Each IsConstant bytes entries → length bytes ≡ sum_by slot_size (laid_out entries)
each_sized [] bytes h = ap length h
each_sized (entry ∷ entries) bytes h =
    let behind = each_sized entries h.1 h.4 in
    let one = entry_sized entry h.0 h.3.0 in
    let laid = laid_with entry entries (is_wide entry) refl in
    let all : sum_by slot_size (laid_out (entry ∷ entries)) ≡ size_of entry + sum_by slot_size (laid_behind (is_wide entry) entries) =
    ap (sum_by slot_size) (sym laid) ∙ sum_by-cons slot_size (Some entry) (laid_behind (is_wide entry) entries) in
    omega (arith, ap length h.2, length-append h.0 h.1, behind, one, all, laid_sized (is_wide entry) entries)

-- the entries' bytes reach from one place to the other
pub slots_sized : (left : ℕ) (place : Place) (slots : List (Option Constant)) (next : Place) → IsBytes place.rest → slots_at left false place ≡ Ok (slots, next) → place.at + sum_by slot_size slots ≡ next.at
slots_sized left place slots next fits e =
    let s = (slots_take left false place slots next fits (λ h. absurd cc) e).0 in
    omega (arith, s.moved, each_sized s.entries s.piece s.each, ap (sum_by slot_size) s.laid)
