-- Reading the indices of a pool in a loop.
use Rattle.std.proofs.Common.{◌≡◌, ℕ, suc, ◌+◌, ◌-◌, ◌<◌, ◌≤◌, Bool, List, [], ◌∷◌, ◌++◌, Option, Result, Ok, Err, refl, sym, ap, ◌∙◌, append_assoc, arith}
use Rattle.std.proofs.lemmas.List.{append-nil}
use Rattle.class_pool.specs.declared.constant.Constant.{Constant}
use Rattle.class_pool.specs.declared.fault.PoolFault.{PoolFault}
use Rattle.class_pool.specs.Place.{Place}
use Rattle.class_pool.specs.PoolReading.{◌>>=◌, slot_at, slots_at, is_wide_slot}

abbrev pub Read : Type 0
Read = Result (List (Option Constant) × Place) PoolFault

abbrev pub read_as : List (Option Constant) → Place → Read
read_as slots place = Ok (slots, place)

-- what was read before, and what is still read
abbrev pub with_front : List (Option Constant) → Read → Read
with_front front read = read >>= λ x. Ok (front ++ x.0, x.1)

regroup : (front : List (Option Constant)) (x : Option Constant) (read : Read) → with_front front (read >>= λ others. Ok (x ∷ others.0, others.1)) ≡ with_front (front ++ x ∷ []) read
regroup front x (Ok others) = ap (λ (xs : List (Option Constant)). read_as xs others.1) (sym (append_assoc front (x ∷ []) others.0))
regroup front x (Err e) = refl

pub goes_on : (front : List (Option Constant)) (count i : ℕ) (gap : Bool) (place : Place) (x : Option Constant) (next : Place) (total : Read) → i < count → slot_at (count - i - 1) gap place ≡ Ok (x, next)
    → with_front front (slots_at (count - i) gap place) ≡ total → with_front (front ++ x ∷ []) (slots_at (count - (i + 1)) (is_wide_slot x) next) ≡ total
unfolding slots_at
goes_on front count i gap place x next total lt h so_far =
    let k : count - i ≡ suc (count - i - 1) = omega arith in
    let j : count - (i + 1) ≡ count - i - 1 = omega arith in
    let one : with_front front (slots_at (count - i) gap place) ≡ with_front (front ++ x ∷ []) (slots_at (count - (i + 1)) (is_wide_slot x) next) = rw (k, j, h) (regroup front x (slots_at (count - i - 1) (is_wide_slot x) next)) in
    sym one ∙ so_far

pub stops : (front : List (Option Constant)) (count i : ℕ) (gap : Bool) (place : Place) (e : PoolFault) (total : Read) → i < count → slot_at (count - i - 1) gap place ≡ Err e
    → with_front front (slots_at (count - i) gap place) ≡ total → total ≡ Err e
unfolding slots_at
stops front count i gap place e total lt h so_far =
    let k : count - i ≡ suc (count - i - 1) = omega arith in
    let one : with_front front (slots_at (count - i) gap place) ≡ Err e = rw (k, h) refl in
    sym so_far ∙ one

pub is_done : (front : List (Option Constant)) (count i : ℕ) (gap : Bool) (place : Place) (total : Read) → count ≤ i
    → with_front front (slots_at (count - i) gap place) ≡ total → total ≡ Ok (front, place)
unfolding slots_at
is_done front count i gap place total le so_far =
    let k : count - i ≡ 0 = omega arith in
    let one : with_front front (slots_at (count - i) gap place) ≡ Ok (front, place) = rw k (ap (λ (xs : List (Option Constant)). read_as xs place) (append-nil front)) in
    sym so_far ∙ one
