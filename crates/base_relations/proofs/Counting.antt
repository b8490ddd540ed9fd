-- Steps of the loops that count and that list.
use Rattle.std.proofs.Common.{◌≡◌, ℕ, zero, suc, ◌+◌, ◌<◌, ◌≤◌, List, [], ◌∷◌, ◌++◌, length, map, refl, sym, ap, ◌∙◌, subst, arith, get_or, drop, add-one, Option, Some, None, MatchOption}
use Rattle.std.proofs.lemmas.List.{drop_more, drop_all}
use Rattle.base_relations.specs.declared.part.Done.{Done}
use Rattle.base_relations.specs.Steps.{Step}
use Rattle.base_relations.specs.Limits.{total}
use Rattle.base_relations.specs.inside.Trails.{done_step}

pub total_more : (count : Step → ℕ) (parts : List Done) (i : ℕ) (d : Done) → i < length parts → d ≡ get_or parts i d → total count (map done_step (drop i parts)) ≡ count (done_step d) + total count (map done_step (drop (i + 1) parts))
total_more count parts i d low is =
    ap (λ (ps : List Done). total count (map done_step ps)) (drop_more parts i d low) ∙ ap (λ (e : Done). count (done_step e) + total count (map done_step (drop (i + 1) parts))) (sym is)

pub total_end : (count : Step → ℕ) (parts : List Done) (i : ℕ) → length parts ≤ i → total count (map done_step (drop i parts)) ≡ 0
total_end count parts i h = ap (λ (ps : List Done). total count (map done_step ps)) (drop_all i parts h)

-- one value taken off
popped : {A : Type 0} (xs ys zs : List A) (k : ℕ) (x : A) → ys ≡ drop k xs → ys ≡ x ∷ zs → zs ≡ drop (suc k) xs
popped [] ys zs zero x e f = absurd (let g : ⊥ = cc in g)
popped [] ys zs (suc k) x e f = absurd (let g : ⊥ = cc in g)
popped (y ∷ xs) ys zs zero x e f = cc
popped (y ∷ xs) ys zs (suc k) x e f = popped xs ys zs k x e f

unpopped : {A : Type 0} (xs ys zs : List A) (k : ℕ) → ys ≡ drop k xs → ys ≡ [] → zs ≡ [] → zs ≡ drop (suc k) xs
unpopped [] ys zs zero e f g = g
unpopped [] ys zs (suc k) e f g = g
unpopped (y ∷ xs) ys zs zero e f g = absurd (let h : ⊥ = cc in h)
unpopped (y ∷ xs) ys zs (suc k) e f g = unpopped xs ys zs k e f g

-- what a pop leaves
pub pop_drop : {A : Type 0} (xs ys zs : List A) (k : ℕ) (top : Option A) → ys ≡ drop k xs → MatchOption top ((ys ≡ []) × (zs ≡ [])) (λ x. ys ≡ x ∷ zs) → zs ≡ drop (k + 1) xs
pop_drop xs ys zs k None e m = rw add-one (unpopped xs ys zs k e m.0 m.1)
pop_drop xs ys zs k (Some x) e m = rw add-one (popped xs ys zs k x e m)

-- what a loop over a list has left
pub some_left : {A : Type 0} (xs : List A) (i : ℕ) → i < length xs → 0 < length xs
some_left xs i h = omega arith
