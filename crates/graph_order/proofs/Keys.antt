-- the keys of a set with one more
use Rattle.std.proofs.Common.{◌≡◌, ◌⊎◌, ◌↔◌, ℕ, List, [], ◌∷◌, Contains, refl, sym, ◌∙◌, inl, inr, ⊎_elim, subst}
use Rattle.std.specs.BTreeSet.{insert_key}
use Rattle.std.specs.Ordering.{nat_cmp, match_ordering}
use Rattle.std.specs.declared.cmp.Ordering.{Ordering}
use Rattle.std.specs.declared.cmp.Ordering.TheVariants.{Less, Equal, Greater}
use Rattle.std.proofs.lemmas.Map.Lookups.{exact_unsigned}
use Rattle.graph_core.proofs.Lists.{Contains-cons_cases, Contains-tail, Contains-head, Contains-nil}

module _ (k x : ℕ) (xs ys : List ℕ) where
  -- with k before all, in its place, or further on
  in_place : (o : Ordering) → (o ≡ Equal → k ≡ x) → ((z : ℕ) → Contains ys z ↔ (Contains xs z ⊎ (z ≡ k))) → (z : ℕ) → Contains (match_ordering o (k ∷ x ∷ xs) (x ∷ xs) (x ∷ ys)) z ↔ (Contains (x ∷ xs) z ⊎ (z ≡ k))
  in_place Less same rest z =
      (λ c. ⊎_elim (λ (e : k ≡ z). inr (sym e)) (λ (r : Contains (x ∷ xs) z). inl r) (Contains-cons_cases k (x ∷ xs) z c), λ c. ⊎_elim (λ (r : Contains (x ∷ xs) z). Contains-tail k (x ∷ xs) z r) (λ (e : z ≡ k). subst (Contains (k ∷ x ∷ xs)) (sym e) (Contains-head k (x ∷ xs))) c)
  in_place Equal same rest z =
      (inl, λ c. ⊎_elim (λ (r : Contains (x ∷ xs) z). r) (λ (e : z ≡ k). subst (Contains (x ∷ xs)) (sym (e ∙ same refl)) (Contains-head x xs)) c)
  in_place Greater same rest z =
      (λ c. ⊎_elim (λ (e : x ≡ z). inl (subst (Contains (x ∷ xs)) e (Contains-head x xs))) (λ (r : Contains ys z). ⊎_elim (λ (a : Contains xs z). inl (Contains-tail x xs z a)) (λ (e : z ≡ k). inr e) ((rest z).0 r)) (Contains-cons_cases x ys z c), λ c. ⊎_elim (λ (r : Contains (x ∷ xs) z). ⊎_elim (λ (e : x ≡ z). subst (Contains (x ∷ ys)) e (Contains-head x ys)) (λ (a : Contains xs z). Contains-tail x ys z ((rest z).1 (inl a))) (Contains-cons_cases x xs z r)) (λ (e : z ≡ k). Contains-tail x ys z ((rest z).1 (inr e))) c)

alone : (k z : ℕ) → Contains (k ∷ []) z → Contains [] z ⊎ (z ≡ k)
alone k z c =
    ⊎_elim (λ (e : k ≡ z). inr (sym e)) (λ (r : Contains [] z). inl r) (Contains-cons_cases k [] z c)

-- a set with one more key has this and those that it had
pub Contains-insert_key : (k : ℕ) (xs : List ℕ) (z : ℕ) → Contains (insert_key nat_cmp xs k) z ↔ (Contains xs z ⊎ (z ≡ k))
Contains-insert_key k [] z =
    (alone k z, λ c. ⊎_elim (λ (r : Contains [] z). absurd (Contains-nil z r)) (λ (e : z ≡ k). subst (Contains (k ∷ [])) (sym e) (Contains-head k [])) c)
Contains-insert_key k (x ∷ xs) z =
    in_place k x xs (insert_key nat_cmp xs k) (nat_cmp k x) (exact_unsigned k x) (Contains-insert_key k xs) z
