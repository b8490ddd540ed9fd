-- Marks of objects: how many are new, and how much is left to do.
use Rattle.std.proofs.Common.{ℕ, zero, suc, ◌≡◌, ◌+◌, ◌-◌, ◌<◌, ◌≤◌, List, [], ◌∷◌, ◌++◌, length, refl, ◌∙◌, ap, arith, ◌⊎◌, inl, inr, ⊎_elim}
use Rattle.std.specs.Prelude.{Some, slice_get, slice_set, replicate}
use Rattle.frames.specs.Heap.{Cells}
use Rattle.path_length.specs.declared.walk.Mark.{Mark}
use Rattle.path_length.specs.declared.walk.Mark.TheVariants.{New, Open, Done}
use Rattle.path_length.specs.declared.walk.Visit.{Visit}
use Rattle.path_length.specs.inside.Walking.{values_of, count_new, new_work, visit_work}

abbrev pub NotNew : Mark → Type 0
NotNew New = ⊥
NotNew Open = Unit {0}
NotNew (Done n) = Unit {0}

pub get_set : (ms : List Mark) (i : ℕ) (m : Mark) (j : ℕ) (n : Mark) → slice_get (slice_set ms i m) j ≡ Some n → ((j ≡ i) × (n ≡ m)) ⊎ (slice_get ms j ≡ Some n)
get_set [] i m j n e = inr e
get_set (x ∷ ms) zero m zero n e = inl (refl, cc)
get_set (x ∷ ms) zero m (suc j) n e = inr e
get_set (x ∷ ms) (suc i) m zero n e = inr e
get_set (x ∷ ms) (suc i) m (suc j) n e = ⊎_elim (λ w. inl (ap suc w.0, w.1)) inr (get_set ms i m j n e)

pub get_same : (ms : List Mark) (i : ℕ) (m : Mark) → i < length ms → slice_get (slice_set ms i m) i ≡ Some m
get_same [] i m h = absurd (omega (arith, h))
get_same (x ∷ ms) zero m h = refl
get_same (x ∷ ms) (suc i) m h = get_same ms i m (omega (arith, h))

-- ---- how many are new
count_first : (m : Mark) (ms : List Mark) → NotNew m → count_new (m ∷ ms) ≡ count_new ms
count_first New ms h = absurd h
count_first Open ms h = refl
count_first (Done n) ms h = refl

count_more : (m : Mark) (ms : List Mark) → count_new ms ≤ count_new (m ∷ ms)
count_more New ms = omega arith
count_more Open ms = omega arith
count_more (Done n) ms = omega arith

count_both : (m : Mark) (ms ns : List Mark) → count_new ms ≤ count_new ns → count_new (m ∷ ms) ≤ count_new (m ∷ ns)
count_both New ms ns h = omega (arith, h)
count_both Open ms ns h = h
count_both (Done n) ms ns h = h

pub count_set : (ms : List Mark) (i : ℕ) (m : Mark) → NotNew m → count_new (slice_set ms i m) ≤ count_new ms
count_set [] i m h = omega arith
count_set (x ∷ ms) zero m h = omega (arith, count_first m ms h, count_more x ms)
count_set (x ∷ ms) (suc i) m h = count_both x (slice_set ms i m) ms (count_set ms i m h)

pub count_taken : (ms : List Mark) (i : ℕ) (m : Mark) → NotNew m → slice_get ms i ≡ Some New → suc (count_new (slice_set ms i m)) ≡ count_new ms
count_taken [] i m h e = absurd (cc)
count_taken (New ∷ ms) zero m h e = ap suc (count_first m ms h)
count_taken (Open ∷ ms) zero m h e = absurd (cc)
count_taken (Done n ∷ ms) zero m h e = absurd (cc)
count_taken (New ∷ ms) (suc i) m h e = ap suc (count_taken ms i m h e)
count_taken (Open ∷ ms) (suc i) m h e = count_taken ms i m h e
count_taken (Done n ∷ ms) (suc i) m h e = count_taken ms i m h e

pub all_new : (n i : ℕ) (m : Mark) → slice_get (replicate n New) i ≡ Some m → m ≡ New
all_new zero i m e = absurd (cc)
all_new (suc n) zero m e = cc
all_new (suc n) (suc i) m e = all_new n i m e

pub some_new : (n i : ℕ) → i < n → slice_get (replicate n New) i ≡ Some New
some_new zero i h = absurd (omega (arith, h))
some_new (suc n) zero h = refl
some_new (suc n) (suc i) h = some_new n i (omega (arith, h))

pub count_all : (n : ℕ) → count_new (replicate n New) ≡ n
count_all zero = refl
count_all (suc n) = ap suc (count_all n)

-- ---- how much is left to do
work_first : (heap : Cells) (i : ℕ) (m : Mark) (ms : List Mark) → NotNew m → new_work heap i (m ∷ ms) ≡ new_work heap (suc i) ms
work_first heap i New ms h = absurd h
work_first heap i Open ms h = refl
work_first heap i (Done n) ms h = refl

work_more : (heap : Cells) (i : ℕ) (m : Mark) (ms : List Mark) → new_work heap (suc i) ms ≤ new_work heap i (m ∷ ms)
work_more heap i New ms = omega arith
work_more heap i Open ms = omega arith
work_more heap i (Done n) ms = omega arith

work_both : (heap : Cells) (i : ℕ) (m : Mark) (ms ns : List Mark) → new_work heap (suc i) ms ≤ new_work heap (suc i) ns → new_work heap i (m ∷ ms) ≤ new_work heap i (m ∷ ns)
work_both heap i New ms ns h = omega (arith, h)
work_both heap i Open ms ns h = h
work_both heap i (Done n) ms ns h = h

pub work_set : (heap : Cells) (j : ℕ) (ms : List Mark) (i : ℕ) (m : Mark) → NotNew m → new_work heap j (slice_set ms i m) ≤ new_work heap j ms
work_set heap j [] i m h = omega arith
work_set heap j (x ∷ ms) zero m h = omega (arith, work_first heap j m ms h, work_more heap j x ms)
work_set heap j (x ∷ ms) (suc i) m h = work_both heap j x (slice_set ms i m) ms (work_set heap (suc j) ms i m h)

taken_more : (a b w v : ℕ) → a + w ≡ v → a + (b + w) ≡ b + v
taken_more a b w v e = omega (arith, e)

pub work_taken : (heap : Cells) (j : ℕ) (ms : List Mark) (i k : ℕ) (m : Mark) → k ≡ j + i → NotNew m → slice_get ms i ≡ Some New → suc (suc (length (values_of heap k))) + new_work heap j (slice_set ms i m) ≡ new_work heap j ms
work_taken heap j [] i k m is h e = absurd (cc)
work_taken heap j (New ∷ ms) zero k m is h e =
    let same : k ≡ j = omega (arith, is) in
    ap (λ w. suc (suc (length (values_of heap k))) + w) (work_first heap j m ms h) ∙ ap (λ x. suc (suc (length (values_of heap x))) + new_work heap (suc j) ms) same
work_taken heap j (Open ∷ ms) zero k m is h e = absurd (cc)
work_taken heap j (Done n ∷ ms) zero k m is h e = absurd (cc)
work_taken heap j (New ∷ ms) (suc i) k m is h e =
    taken_more (suc (suc (length (values_of heap k)))) (suc (suc (length (values_of heap j)))) (new_work heap (suc j) (slice_set ms i m)) (new_work heap (suc j) ms) (work_taken heap (suc j) ms i k m (omega (arith, is)) h e)
work_taken heap j (Open ∷ ms) (suc i) k m is h e = work_taken heap (suc j) ms i k m (omega (arith, is)) h e
work_taken heap j (Done n ∷ ms) (suc i) k m is h e = work_taken heap (suc j) ms i k m (omega (arith, is)) h e

visits_more : (a b c d : ℕ) → b ≡ c + d → a + b ≡ (a + c) + d
visits_more a b c d e = omega (arith, e)

pub visits_pushed : (heap : Cells) (vs : List Visit) (v : Visit) → visit_work heap (vs ++ v ∷ []) ≡ visit_work heap vs + suc (length (values_of heap v.node) - v.next)
visits_pushed heap [] v = omega arith
visits_pushed heap (u ∷ vs) v =
    visits_more (suc (length (values_of heap u.node) - u.next)) (visit_work heap (vs ++ v ∷ [])) (visit_work heap vs) (suc (length (values_of heap v.node) - v.next)) (visits_pushed heap vs v)
