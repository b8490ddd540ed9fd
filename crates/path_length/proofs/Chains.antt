-- Chains of references, and cycles.
use Rattle.std.proofs.Common.{ℕ, zero, suc, ◌≡◌, ◌<◌, ◌≤◌, List, [], ◌∷◌, length, refl, sym, ◌∙◌, ap, subst, arith, ◌⊎◌, inl, inr, ⊎_elim}
use Rattle.std.specs.Prelude.{Contains, IsSome, Some, None, slice_get}
use Rattle.std.proofs.lemmas.Bool.{cases_order}
use Rattle.std.proofs.lemmas.Option.{slice_get_within, get_or_from_slice_get, slice_get-get_or}
use Rattle.frames.specs.declared.value.Value.{Value}
use Rattle.frames.specs.declared.value.Value.TheVariants.{Int, Long, Pad, Null, Ref}
use Rattle.frames.specs.Heap.{Cells, cell_at}
use Rattle.entries.specs.Entry.{Leads, refers, through, Reaches, IsAcyclic}
use Rattle.path_length.specs.Lengths.{HasChain}
use Rattle.path_length.specs.inside.Walking.{values_of, IsSeen}

-- ---- chains have beginnings
chain_less : (heap : Cells) (n : ℕ) (v : Value) → HasChain heap (suc n) v → HasChain heap n v
chain_less heap zero v h = tt
chain_less heap (suc n) (Int z) h = absurd h
chain_less heap (suc n) (Long z) h = absurd h
chain_less heap (suc n) Pad h = absurd h
chain_less heap (suc n) Null h = absurd h
chain_less heap (suc n) (Ref a) h = ⊎_elim (λ e. absurd (omega (arith, e))) (λ w. inr (w.0, w.1, chain_less heap n w.0 w.2)) h

up_to : (m n : ℕ) → m ≤ suc n → (m ≡ suc n) ⊎ (m ≤ n)
up_to m n h = ⊎_elim inl (λ o. ⊎_elim (λ l. inr (omega (arith, l))) (λ l. absurd (omega (arith, l, h))) o) (cases_order m (suc n))

pub chain_within : (heap : Cells) (v : Value) (m n : ℕ) → m ≤ n → HasChain heap n v → HasChain heap m v
chain_within heap v m zero h c = let e : zero ≡ m = omega (arith, h) in subst (λ k. HasChain heap k v) e c
chain_within heap v m (suc n) h c =
    ⊎_elim (λ e. subst (λ k. HasChain heap k v) (sym e) c) (λ l. chain_within heap v m n l (chain_less heap n v c)) (up_to m n h)

pub seen_more : (heap : Cells) (l m : ℕ) (v : Value) → l ≤ m → IsSeen heap l v → IsSeen heap m v
seen_more heap l m v h s = record { no_longer = λ c. s.no_longer (chain_within heap v (suc l) (suc m) (omega (arith, h)) c); acyclic = s.acyclic }

-- ---- values at places
pub contains_at : (vs : List Value) (i : ℕ) (v : Value) → slice_get vs i ≡ Some v → Contains vs v
contains_at vs i v e = (i, slice_get_within vs i v e, get_or_from_slice_get vs i v v e)

pub at_contains : (vs : List Value) (v : Value) → Contains vs v → (i : ℕ) × (slice_get vs i ≡ Some v)
at_contains vs v h = (h.0, slice_get-get_or vs h.0 v h.1 ∙ ap Some h.2)

pub none_left : {X : Type 0} (xs : List X) (i : ℕ) → slice_get xs i ≡ None → length xs ≤ i
none_left [] i e = omega arith
none_left (x ∷ xs) zero e = absurd (cc)
none_left (x ∷ xs) (suc i) e = let h = none_left xs i e in omega (arith, h)

pub held_below : (heap : Cells) (b : ℕ) → IsSome (cell_at heap b) → b < length heap
held_below [] b h = absurd (cc)
held_below (x ∷ heap) zero h = omega arith
held_below (x ∷ heap) (suc b) h = let l = held_below heap b h in omega (arith, l)

-- ---- what is reached
pub lead_on : (heap : Cells) (c : ℕ) {a b : ℕ} → Leads heap a b → Contains (values_of heap b) (Ref c) → Leads heap a c
lead_on heap c (refers h) g = through h (refers g)
lead_on heap c (through h l) g = through h (lead_on heap c l g)

pub reach_on : (heap : Cells) (a b c : ℕ) → Reaches heap a b → Contains (values_of heap b) (Ref c) → Leads heap a c
reach_on heap a b c h g = ⊎_elim (λ e. refers (subst (λ x. Contains (values_of heap x) (Ref c)) (sym e) g)) (λ l. lead_on heap c l g) h

first_step : (heap : Cells) {a b : ℕ} → Leads heap a b → (c : ℕ) × Contains (values_of heap a) (Ref c) × Reaches heap c b
first_step heap (refers {b = b} h) = (b, h, inl refl)
first_step heap (through {b = b} h l) = (b, h, inr l)

-- where no value reaches a cycle none is reached
pub acyclic_from : (heap : Cells) (a : ℕ) → ((c : ℕ) → Contains (values_of heap a) (Ref c) → IsAcyclic heap c) → IsAcyclic heap a
acyclic_from heap a f b r l =
    ⊎_elim (λ e. let loop : Leads heap a a = subst (λ x. Leads heap x x) (sym e) l in let w = first_step heap loop in f w.0 w.1 a w.2 loop)
    (λ leads. let w = first_step heap leads in f w.0 w.1 b w.2 l) r
