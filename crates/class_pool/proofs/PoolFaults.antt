-- The links of a pool, and the first fault.
use Rattle.std.proofs.Common.{◌≡◌, ◌⊎◌, ℕ, zero, suc, ◌+◌, ◌-◌, ◌<◌, ◌≤◌, Bool, true, false, cond, eqb, ltb, ◌&&◌, List, [], ◌∷◌, ◌++◌, length, take, Option, Some, None, Result, Ok, Err, is_some, refl, sym, ap, subst, ◌∙◌, arith, inl, inr}
use Rattle.std.specs.List.{AllByRecursion}
use Rattle.class_pool.specs.declared.constant.Constant.{Constant}
use Rattle.class_pool.specs.declared.constant.Constant.TheVariants.{Utf8, Integer, Float, Long, Double, Class, String, Fieldref, Methodref, InterfaceMethodref, NameAndType, MethodHandle, MethodType, Dynamic, InvokeDynamic, Module, Package}
use Rattle.class_pool.specs.declared.fault.PoolFault.{PoolFault}
use Rattle.class_pool.specs.declared.fault.PoolFault.TheVariants.{Short, BadTag, BadUtf8}
use Rattle.class_pool.specs.Place.{Place, after, end_of, number_at, IsBytes}
use Rattle.class_pool.specs.Pieces.{StartsWith}
use Rattle.class_pool.specs.Pool.{IsEntry, is_text, is_wide, size_of, constant_at, utf8_at, class_of, named_of, IsLinked, IsLinkedSlot, IsPool}
use Rattle.class_pool.specs.PoolReading.{◌>>=◌, number_or_short, num_at, bytes_at, Body, Text, One, Two, bodies, body_in, body_at, is_wide_tag, entry_at, text_checked, constant_from, slots_at, is_wide_slot, table_at, unless, first_of, wrong_index, linked_or, slot_link, slot_size, links_from, pool_at}
use Rattle.class_pool.specs.FirstFault.{place_of, IsAmong, IsFirst, fault_of, text_faults, faults_with, slots_faults, faults_behind, table_faults, link_faults, IsFirstFault, HasPool, HasFault, IsDecided}
use Rattle.class_pool.proofs.Pieces.{IsNumber, starts-rest}
use Rattle.class_pool.proofs.EntryReading.{done, taken, bind_ok, bound, same_pair, num_takes, entry_takes}
use Rattle.class_pool.proofs.Tables.{table_takes, table_again, entry_sized}

-- ---- the links

unless_none : (b : Bool) (i : ℕ) → unless b i ≡ None → b ≡ true
unless_none true i e = refl
unless_none false i e = absurd cc

first_none : (a b : Option ℕ) → first_of a b ≡ None → (a ≡ None) × (b ≡ None)
first_none None b e = (refl, e)
first_none (Some i) b e = absurd cc

both_none : (a b : Bool) (i j : ℕ) → first_of (unless a i) (unless b j) ≡ None → (a ≡ true) × (b ≡ true)
both_none a b i j e = let h = first_none (unless a i) (unless b j) e in (unless_none a i h.0, unless_none b j h.1)

entry_linked : (pool : List (Option Constant)) (entry : Constant) → wrong_index pool entry ≡ None → IsLinked pool entry
entry_linked pool (Class name) e = unless_none (is_some (utf8_at pool name)) name e
entry_linked pool (String text) e = unless_none (is_some (utf8_at pool text)) text e
entry_linked pool (NameAndType m n) e = both_none (is_some (utf8_at pool m)) (is_some (utf8_at pool n)) m n e
entry_linked pool (Fieldref m n) e = both_none (is_some (class_of (constant_at pool m))) (is_some (named_of (constant_at pool n))) m n e
entry_linked pool (Methodref m n) e = both_none (is_some (class_of (constant_at pool m))) (is_some (named_of (constant_at pool n))) m n e
entry_linked pool (InterfaceMethodref m n) e = both_none (is_some (class_of (constant_at pool m))) (is_some (named_of (constant_at pool n))) m n e
entry_linked pool (Utf8 text) e = tt
entry_linked pool (Integer n) e = tt
entry_linked pool (Float n) e = tt
entry_linked pool (Long n) e = tt
entry_linked pool (Double n) e = tt
entry_linked pool (MethodHandle m n) e = tt
entry_linked pool (MethodType n) e = tt
entry_linked pool (Dynamic m n) e = tt
entry_linked pool (InvokeDynamic m n) e = tt
entry_linked pool (Module n) e = tt
entry_linked pool (Package n) e = tt

both_there : (a b : Bool) (i j : ℕ) → a ≡ true → b ≡ true → first_of (unless a i) (unless b j) ≡ None
both_there a b i j h k = ap (λ (a : Bool). first_of (unless a i) (unless b j)) h ∙ ap (λ (b : Bool). unless b j) k

links_entry : (pool : List (Option Constant)) (entry : Constant) → IsLinked pool entry → wrong_index pool entry ≡ None
links_entry pool (Class name) h = ap (λ (b : Bool). unless b name) h
links_entry pool (String text) h = ap (λ (b : Bool). unless b text) h
links_entry pool (NameAndType m n) h = both_there (is_some (utf8_at pool m)) (is_some (utf8_at pool n)) m n h.0 h.1
links_entry pool (Fieldref m n) h = both_there (is_some (class_of (constant_at pool m))) (is_some (named_of (constant_at pool n))) m n h.0 h.1
links_entry pool (Methodref m n) h = both_there (is_some (class_of (constant_at pool m))) (is_some (named_of (constant_at pool n))) m n h.0 h.1
links_entry pool (InterfaceMethodref m n) h = both_there (is_some (class_of (constant_at pool m))) (is_some (named_of (constant_at pool n))) m n h.0 h.1
links_entry pool (Utf8 text) h = refl
links_entry pool (Integer n) h = refl
links_entry pool (Float n) h = refl
links_entry pool (Long n) h = refl
links_entry pool (Double n) h = refl
links_entry pool (MethodHandle m n) h = refl
links_entry pool (MethodType n) h = refl
links_entry pool (Dynamic m n) h = refl
links_entry pool (InvokeDynamic m n) h = refl
links_entry pool (Module n) h = refl
links_entry pool (Package n) h = refl

linked_none : (at : ℕ) (o : Option ℕ) (x : Unit {0}) → linked_or at o ≡ Ok x → o ≡ None
linked_none at None x e = refl
linked_none at (Some i) x e = absurd cc

slot_linked : (pool : List (Option Constant)) (at : ℕ) (slot : Option Constant) (x : Unit {0}) → slot_link pool at slot ≡ Ok x → IsLinkedSlot pool slot
slot_linked pool at None x e = tt
slot_linked pool at (Some entry) x e = entry_linked pool entry (linked_none at (wrong_index pool entry) x e)

links_slot : (pool : List (Option Constant)) (at : ℕ) (slot : Option Constant) → IsLinkedSlot pool slot → slot_link pool at slot ≡ Ok tt
links_slot pool at None h = refl
links_slot pool at (Some entry) h = ap (linked_or at) (links_entry pool entry h)

pub are_linked : (pool : List (Option Constant)) (at : ℕ) (slots : List (Option Constant)) (x : Unit {0}) → links_from pool at slots ≡ Ok x → AllByRecursion (IsLinkedSlot pool) slots
unfolding links_from
are_linked pool at [] x e = tt
are_linked pool at (slot ∷ slots) x e =
    let one = bind_ok (slot_link pool at slot) (λ _. links_from pool (at + slot_size slot) slots) x e in
    (slot_linked pool at slot one.0 one.1, are_linked pool (at + slot_size slot) slots x one.2)

links_again : (pool : List (Option Constant)) (at : ℕ) (slots : List (Option Constant)) → AllByRecursion (IsLinkedSlot pool) slots → links_from pool at slots ≡ Ok tt
unfolding links_from
links_again pool at [] h = refl
links_again pool at (slot ∷ slots) h = bound (λ _. links_from pool (at + slot_size slot) slots) (links_slot pool at slot h.0) (links_again pool (at + slot_size slot) slots h.1)

-- ---- the pool

pub pool_takes : (place : Place) (pool : List (Option Constant)) (next : Place) → IsBytes place.rest → pool_at place ≡ Ok (pool, next) → StartsWith IsPool place pool next
unfolding pool_at
pool_takes place pool next fits e =
    let table = bind_ok (table_at place) _ (pool, next) e in
    let links = bind_ok (links_from table.0.0 (place.at + 2) table.0.0) _ (pool, next) table.2 in
    let t = table_takes place pool next fits (table.1 ∙ links.2) in
    let same = same_pair table.0.0 pool table.0.1 next links.2 in
    let linked = are_linked table.0.0 (place.at + 2) table.0.0 links.0 links.1 in
    record {
      piece = t.piece;
      is = record { table = t.is; linked = subst (λ (p : List (Option Constant)). AllByRecursion (IsLinkedSlot p) p) same.0 linked };
      parts = t.parts;
      moved = t.moved;
    }

pub pool_again : (place : Place) (pool : List (Option Constant)) (next : Place) → StartsWith IsPool place pool next → pool_at place ≡ Ok (pool, next)
unfolding pool_at
pool_again place pool next p =
    let table = table_again place pool next (record { piece = p.piece; is = p.is.table; parts = p.parts; moved = p.moved }) in
    bound (λ (t : List (Option Constant) × Place). links_from t.0 (place.at + 2) t.0 >>= λ _. taken t) table (bound (λ _. taken (pool, next)) (links_again pool (place.at + 2) pool p.is.linked) refl)

-- ---- the first of some faults

-- the faults begin with this one, and all others stand behind it
record Head (faults : List PoolFault) (first : PoolFault) : Type 0 where
  others : List PoolFault
  all : faults ≡ first ∷ others
  later : (other : PoolFault) → IsAmong other others → place_of first < place_of other

head_first : (faults : List PoolFault) (first : PoolFault) → Head faults first → IsFirst faults first
head_first faults first h = record {
  among = subst (λ (all : List PoolFault). IsAmong first all) (sym h.all) (inl refl);
  least = λ other among. elim (subst (λ (all : List PoolFault). IsAmong other all) h.all among) [
    | inl same ↦ omega (arith, ap place_of same)
    | inr behind ↦ omega (arith, h.later other behind)
  ];
}

head_only : (faults : List PoolFault) (first other : PoolFault) → Head faults first → IsFirst faults other → other ≡ first
head_only faults first other h is =
    elim (subst (λ (all : List PoolFault). IsAmong other all) h.all is.among) [
      | inl same ↦ same
      | inr behind ↦
          let le : place_of other ≤ place_of first = is.least first (subst (λ (all : List PoolFault). IsAmong first all) (sym h.all) (inl refl)) in
          absurd (omega (arith, le, h.later other behind))
    ]

none_first : (faults : List PoolFault) (other : PoolFault) → faults ≡ [] → IsFirst faults other → ⊥
none_first faults other e is = subst (λ (all : List PoolFault). IsAmong other all) e is.among

alone : (fault : PoolFault) → Head (fault ∷ []) fault
alone fault = record { others = []; all = refl; later = λ other h. absurd h }

-- reading gives the first of all faults, where there is one
abbrev Tied : {A : Type 0} → Result A PoolFault → List PoolFault → Type 0
Tied (Ok x) faults = faults ≡ []
Tied (Err fault) faults = Head faults fault

-- every fault stands at this offset or behind it
abbrev AllFrom : ℕ → List PoolFault → Type 0
AllFrom at faults = (other : PoolFault) → IsAmong other faults → at ≤ place_of other

-- ---- the faults of the links

one_byte : (entry : Constant) → 1 ≤ size_of entry
one_byte (Utf8 text) = omega arith
one_byte other = omega arith

link_fault_at : (at : ℕ) (o : Option ℕ) (other : PoolFault) → IsAmong other (fault_of (linked_or at o)) → at ≤ place_of other
link_fault_at at None other h = absurd h
link_fault_at at (Some index) other (inl same) = omega (arith, ap place_of same)
link_fault_at at (Some index) other (inr h) = absurd h

among_either : (x : PoolFault) (xs ys : List PoolFault) → IsAmong x (xs ++ ys) → IsAmong x xs ⊎ IsAmong x ys
among_either x [] ys h = inr h
among_either x (y ∷ xs) ys (inl same) = inl (inl same)
among_either x (y ∷ xs) ys (inr h) = elim (among_either x xs ys h) [ inl l ↦ inl (inr l) | inr r ↦ inr r ]

links_from_here : (pool : List (Option Constant)) (at : ℕ) (slots : List (Option Constant)) → AllFrom at (link_faults pool at slots)
unfolding link_faults
links_from_here pool at [] other h = absurd h
links_from_here pool at (None ∷ slots) other h = let behind = links_from_here pool (at + 0) slots other h in omega (arith, behind)
links_from_here pool at (Some entry ∷ slots) other h =
    elim (among_either other (fault_of (linked_or at (wrong_index pool entry))) (link_faults pool (at + size_of entry) slots) h) [
      | inl here ↦ link_fault_at at (wrong_index pool entry) other here
      | inr behind ↦ omega (arith, links_from_here pool (at + size_of entry) slots other behind)
    ]

with_link : (pool : List (Option Constant)) (at size : ℕ) (o : Option ℕ) (slots : List (Option Constant)) → 1 ≤ size → Tied (links_from pool (at + size) slots) (link_faults pool (at + size) slots)
    → Tied (linked_or at o >>= λ _. links_from pool (at + size) slots) (fault_of (linked_or at o) ++ link_faults pool (at + size) slots)
with_link pool at size None slots some tied = tied
with_link pool at size (Some index) slots some tied = record {
  others = link_faults pool (at + size) slots;
  all = refl;
  later = λ other h. omega (arith, links_from_here pool (at + size) slots other h, some);
}

links_tied : (pool : List (Option Constant)) (at : ℕ) (slots : List (Option Constant)) → Tied (links_from pool at slots) (link_faults pool at slots)
unfolding links_from link_faults
links_tied pool at [] = refl
links_tied pool at (None ∷ slots) = links_tied pool (at + 0) slots
links_tied pool at (Some entry ∷ slots) = with_link pool at (size_of entry) (wrong_index pool entry) slots (one_byte entry) (links_tied pool (at + size_of entry) slots)

-- ---- the faults of the bytes

-- a step that failed, or one behind it
failed : {A B : Type 0} (r : Result A PoolFault) (f : A → Result B PoolFault) (d : PoolFault) → (r >>= f) ≡ Err d → (r ≡ Err d) ⊎ ((x : A) × (r ≡ Ok x) × (f x ≡ Err d))
failed (Ok x) f d e = inr (x, refl, e)
failed (Err c) f d e = inl cc

num_fault : (n : ℕ) (place : Place) (o : Option ℕ) (d : PoolFault) → number_or_short n place o ≡ Err d → place.at ≤ place_of d
num_fault n place None d e = let same : Short (end_of place) ≡ d = cc in omega (arith, ap place_of same)
num_fault n place (Some k) d e = absurd cc

guard_fault : {A : Type 0} (b : Bool) (c d : PoolFault) (x : A) → cond b (Err c) (done x) ≡ Err d → c ≡ d
guard_fault true c d x e = cc
guard_fault false c d x e = absurd cc

bytes_fault : (n : ℕ) (place : Place) (d : PoolFault) → bytes_at n place ≡ Err d → place.at ≤ place_of d
bytes_fault n place d e =
    let same = guard_fault (ltb (length place.rest) n) (Short (end_of place)) d (take n place.rest, after n place) e in
    omega (arith, ap place_of same)

num_moves : (n : ℕ) (place : Place) (o : Option ℕ) (k : ℕ × Place) → number_or_short n place o ≡ Ok k → k.1.at ≡ place.at + n
num_moves n place None k e = absurd cc
num_moves n place (Some j) k e = let same = same_pair j k.0 (after n place) k.1 e in ap (λ (p : Place). p.at) (sym same.1)

body_fault : (at tag : ℕ) (body : Option Body) (place : Place) (d : PoolFault) → at ≤ place.at → body_at at tag body place ≡ Err d → at ≤ place_of d
body_fault at tag None place d le e = let same : BadTag at tag ≡ d = cc in omega (arith, ap place_of same)
body_fault at tag (Some Text) place d le e =
    elim (failed (num_at 2 place) _ d e) [
      | inl h ↦ omega (arith, num_fault 2 place (number_at 2 place) d h)
      | inr n ↦
          let on = num_moves 2 place (number_at 2 place) n.0 n.1 in
          elim (failed (bytes_at n.0.0 n.0.1) _ d n.2) [
            | inl h ↦ omega (arith, on, bytes_fault n.0.0 n.0.1 d h)
            | inr t ↦ absurd (let no = t.2 in cc)
          ]
    ]
body_fault at tag (Some (One width make)) place d le e =
    elim (failed (num_at width place) _ d e) [
      | inl h ↦ omega (arith, num_fault width place (number_at width place) d h)
      | inr n ↦ absurd (let no = n.2 in cc)
    ]
body_fault at tag (Some (Two first second make)) place d le e =
    elim (failed (num_at first place) _ d e) [
      | inl h ↦ omega (arith, num_fault first place (number_at first place) d h)
      | inr m ↦
          let on = num_moves first place (number_at first place) m.0 m.1 in
          elim (failed (num_at second m.0.1) _ d m.2) [
            | inl h ↦ omega (arith, on, num_fault second m.0.1 (number_at second m.0.1) d h)
            | inr n ↦ absurd (let no = n.2 in cc)
          ]
    ]

branch_fault : {A : Type 0} (b : Bool) (c d : PoolFault) (r : Result A PoolFault) → cond b (Err c) r ≡ Err d → (c ≡ d) ⊎ (r ≡ Err d)
branch_fault true c d r e = inl cc
branch_fault false c d r e = inr e

entry_fault : (left : ℕ) (place : Place) (d : PoolFault) → entry_at left place ≡ Err d → place.at ≤ place_of d
unfolding entry_at
entry_fault left place d e =
    elim (failed (num_at 1 place) _ d e) [
      | inl h ↦ num_fault 1 place (number_at 1 place) d h
      | inr tag ↦
          let on = num_moves 1 place (number_at 1 place) tag.0 tag.1 in
          elim (branch_fault (is_wide_tag tag.0.0 && eqb left 0) (BadTag place.at tag.0.0) d _ tag.2) [
            | inl same ↦ omega (arith, ap place_of same)
            | inr h ↦ body_fault place.at tag.0.0 (body_in tag.0.0 bodies) tag.0.1 d (omega (arith, on)) h
          ]
    ]

-- an entry that is there moves on
entry_moves : (left : ℕ) (place : Place) (entry : Constant × Place) → IsBytes place.rest → entry_at left place ≡ Ok entry → (place.at < entry.1.at) × IsBytes entry.1.rest
entry_moves left place entry fits e =
    let s = (entry_takes left place entry.0 entry.1 fits e).starts in
    (omega (arith, s.moved, entry_sized entry.0 s.piece s.is, one_byte entry.0), starts-rest IsEntry place entry.1 entry.0 s fits)

text_fault_at : (at : ℕ) (b : Bool) (other : PoolFault) → IsAmong other (cond b [] (BadUtf8 at ∷ [])) → at ≤ place_of other
text_fault_at at true other h = absurd h
text_fault_at at false other (inl same) = omega (arith, ap place_of same)
text_fault_at at false other (inr h) = absurd h

read_from_here : (left : ℕ) (place : Place) (read : Result (Constant × Place) PoolFault) → IsBytes place.rest → entry_at left place ≡ read
    → ((entry : Constant × Place) → IsBytes entry.1.rest → AllFrom entry.1.at (slots_faults left (is_wide entry.0) entry.1)) → AllFrom place.at (faults_with (slots_faults left) place.at read)
read_from_here left place (Err d) fits e behind other (inl same) = omega (arith, ap place_of same, entry_fault left place d e)
read_from_here left place (Err d) fits e behind other (inr h) = absurd h
read_from_here left place (Ok entry) fits e behind other h =
    let on = entry_moves left place entry fits e in
    elim (among_either other (text_faults place.at entry.0) (slots_faults left (is_wide entry.0) entry.1) h) [
      | inl here ↦ text_fault_at place.at (is_text entry.0) other here
      | inr further ↦ omega (arith, on.0, behind entry on.1 other further)
    ]

slots_from_here : (left : ℕ) (gap : Bool) (place : Place) → IsBytes place.rest → AllFrom place.at (slots_faults left gap place)
unfolding slots_faults
slots_from_here zero gap place fits other h = absurd h
slots_from_here (suc left) true place fits other h = slots_from_here left false place fits other h
slots_from_here (suc left) false place fits other h =
    read_from_here left place (entry_at left place) fits refl (λ entry fits. slots_from_here left (is_wide entry.0) entry.1 fits) other h

mapped : {A B : Type 0} (r : Result A PoolFault) (f : A → B) (faults : List PoolFault) → Tied r faults → Tied (r >>= λ x. done (f x)) faults
mapped (Ok x) f faults h = h
mapped (Err d) f faults h = h

abbrev slots_with : ℕ → Place → Result (Constant × Place) PoolFault → Result (List (Option Constant) × Place) PoolFault
slots_with left place read =
    (read >>= text_checked place.at >>= λ entry. taken (Some entry.0, entry.1)) >>= λ slot. slots_at left (is_wide_slot slot.0) slot.1 >>= λ others. taken (slot.0 ∷ others.0, others.1)

text_tied : (left : ℕ) (place : Place) (entry : Constant × Place) (text : Bool) → place.at < entry.1.at → IsBytes entry.1.rest → Tied (slots_at left (is_wide entry.0) entry.1) (slots_faults left (is_wide entry.0) entry.1)
    → Tied ((cond text (done entry) (Err (BadUtf8 place.at)) >>= λ entry. taken (Some entry.0, entry.1)) >>= λ slot. slots_at left (is_wide_slot slot.0) slot.1 >>= λ others. taken (slot.0 ∷ others.0, others.1))
    (cond text [] (BadUtf8 place.at ∷ []) ++ slots_faults left (is_wide entry.0) entry.1)
text_tied left place entry true on fits behind = mapped (slots_at left (is_wide entry.0) entry.1) (λ others. (Some entry.0 ∷ others.0, others.1)) (slots_faults left (is_wide entry.0) entry.1) behind
text_tied left place entry false on fits behind = record {
  others = slots_faults left (is_wide entry.0) entry.1;
  all = refl;
  later = λ other h. omega (arith, on, slots_from_here left (is_wide entry.0) entry.1 fits other h);
}

read_tied : (left : ℕ) (place : Place) (read : Result (Constant × Place) PoolFault) → IsBytes place.rest → entry_at left place ≡ read
    → ((entry : Constant × Place) → IsBytes entry.1.rest → Tied (slots_at left (is_wide entry.0) entry.1) (slots_faults left (is_wide entry.0) entry.1)) → Tied (slots_with left place read) (faults_with (slots_faults left) place.at read)
read_tied left place (Err d) fits e behind = alone d
read_tied left place (Ok entry) fits e behind =
    let on = entry_moves left place entry fits e in
    text_tied left place entry (is_text entry.0) on.0 on.1 (behind entry on.1)

slots_tied : (left : ℕ) (gap : Bool) (place : Place) → IsBytes place.rest → Tied (slots_at left gap place) (slots_faults left gap place)
unfolding slots_at slots_faults constant_from
slots_tied zero gap place fits = refl
slots_tied (suc left) true place fits = mapped (slots_at left false place) (λ others. (None ∷ others.0, others.1)) (slots_faults left false place) (slots_tied left false place fits)
slots_tied (suc left) false place fits = read_tied left place (entry_at left place) fits refl (λ entry fits. slots_tied left (is_wide entry.0) entry.1 fits)

count_tied : (place : Place) (read : Result (ℕ × Place) PoolFault) → IsBytes place.rest → num_at 2 place ≡ read → Tied (read >>= λ count. slots_at (count.0 - 1) false count.1) (faults_behind read)
count_tied place (Err d) fits e = alone d
count_tied place (Ok count) fits e = slots_tied (count.0 - 1) false count.1 (starts-rest (IsNumber 2) place count.1 count.0 (num_takes 2 place count.0 count.1 fits e) fits)

table_tied : (place : Place) → IsBytes place.rest → Tied (table_at place) (table_faults place)
unfolding table_at
table_tied place fits = count_tied place (num_at 2 place) fits refl

-- ---- the first fault of a pool

tied_at : {A : Type 0} (r : Result A PoolFault) (read : Result A PoolFault) (faults : List PoolFault) → r ≡ read → Tied r faults → Tied read faults
tied_at {A} r read faults e h = subst (λ (x : Result A PoolFault). Tied x faults) e h

-- a fault that reading gives is the first
pub first_read : (place : Place) (fault : PoolFault) → IsBytes place.rest → pool_at place ≡ Err fault → IsFirstFault place fault
unfolding pool_at
first_read place fault fits e =
    elim (failed (table_at place) _ fault e) [
      | inl h ↦ inl (head_first (table_faults place) fault (tied_at (table_at place) (Err fault) (table_faults place) h (table_tied place fits)))
      | inr table ↦
          let pool : List (Option Constant) = table.0.0 in
          elim (failed (links_from pool (place.at + 2) pool) _ fault table.2) [
            | inl h ↦ inr (record {
              pool = pool;
              next = table.0.1;
              table = table_takes place pool table.0.1 fits table.1;
              first = head_first (link_faults pool (place.at + 2) pool) fault (tied_at (links_from pool (place.at + 2) pool) (Err fault) (link_faults pool (place.at + 2) pool) h (links_tied pool (place.at + 2) pool));
            })
            | inr links ↦ absurd (let no = links.2 in cc)
          ]
    ]

only_first : {A : Type 0} (read : Result A PoolFault) (faults : List PoolFault) (fault : PoolFault) → Tied read faults → IsFirst faults fault → read ≡ Err fault
only_first (Ok x) faults fault h is = absurd (none_first faults fault h is)
only_first (Err d) faults fault h is = let same = head_only faults d fault h is in cc

-- the first fault is the one that reading gives
pub first_again : (place : Place) (fault : PoolFault) → IsBytes place.rest → IsFirstFault place fault → pool_at place ≡ Err fault
unfolding pool_at
first_again place fault fits (inl is) = let e = only_first (table_at place) (table_faults place) fault (table_tied place fits) is in rw e refl
first_again place fault fits (inr link) =
    let table = table_again place link.pool link.next link.table in
    let e = only_first (links_from link.pool (place.at + 2) link.pool) (link_faults link.pool (place.at + 2) link.pool) fault (links_tied link.pool (place.at + 2) link.pool) link.first in
    rw (table, e) refl

-- ---- a pool or a fault

abbrev refused : PoolFault → Result (List (Option Constant) × Place) PoolFault
refused fault = Err fault

one_refused : (fault other : PoolFault) → refused fault ≡ refused other → fault ≡ other
one_refused fault other e = cc

not_both_ways : (pool : List (Option Constant) × Place) (fault : PoolFault) → taken pool ≡ refused fault → ⊥
not_both_ways pool fault e = cc

pool_or_fault : (place : Place) (read : Result (List (Option Constant) × Place) PoolFault) → IsBytes place.rest → pool_at place ≡ read → HasPool place ⊎ HasFault place
pool_or_fault place (Ok pool) fits e = inl (pool.0, pool.1, pool_takes place pool.0 pool.1 fits e)
pool_or_fault place (Err fault) fits e = inr (fault, first_read place fault fits e)

pub decided : (place : Place) → IsBytes place.rest → IsDecided place
decided place fits = record {
  either = pool_or_fault place (pool_at place) fits refl;
  one_pool = λ pool other next behind p q. same_pair pool other next behind (sym (pool_again place pool next p) ∙ pool_again place other behind q);
  one_fault = λ fault other p q. one_refused fault other (sym (first_again place fault fits p) ∙ first_again place other fits q);
  not_both = λ pool next fault p q. not_both_ways (pool, next) fault (sym (pool_again place pool next p) ∙ first_again place fault fits q);
}
