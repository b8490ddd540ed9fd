-- Which numbers a choice has, before and after a pivot.
use Rattle.std.proofs.Common.{◌≡◌, ◌⊎◌, inl, inr, ℕ, false, true≢false, nat_eq, cond, List, map, Contains, refl, sym, ap, ◌∙◌, subst}
use Rattle.std.specs.List.{list_any}
use Rattle.std.proofs.lemmas.Bool.{cases_Bool, cases_eq, eq-eqb, eqb-true, false_from_ne_true}
use Rattle.common_laws.proofs.Members.{in_map, from_map}
use Rattle.common_laws.proofs.Numbers.{contains_listed, listed_contains}
use Rattle.solver_paths.specs.Pivots.{replaced}

pub chosen_or_not : (choice : List ℕ) (n : ℕ) → Contains choice n ⊎ (Contains choice n → ⊥)
chosen_or_not choice n = elim (cases_Bool (list_any (nat_eq n) choice)) [
  | inl has ↦ inl (listed_contains n choice has)
  | inr lacks ↦ inr (λ h. true≢false (sym (contains_listed n choice h) ∙ lacks))
]

pub not_listed : (choice : List ℕ) (n : ℕ) → (Contains choice n → ⊥) → list_any (nat_eq n) choice ≡ false
not_listed choice n h = false_from_ne_true (list_any (nat_eq n) choice) (λ t. h (listed_contains n choice t))

-- ---- replacing one number by another
-- what stands at the place of n afterwards
pub moved : ℕ → ℕ → ℕ → ℕ
moved r c n = cond (nat_eq n c) r n

pub moved_there : (r c : ℕ) → moved r c c ≡ r
unfolding moved
moved_there r c = ap (λ b. cond b r c) (eq-eqb c c refl)

pub moved_past : (r c n : ℕ) → (n ≡ c → ⊥) → moved r c n ≡ n
unfolding moved
moved_past r c n h = ap (λ b. cond b r n) (false_from_ne_true (nat_eq n c) (λ t. h (eqb-true n c t)))

pub is_moved : (r c : ℕ) (choice : List ℕ) → replaced r c choice ≡ map (moved r c) choice
unfolding moved
is_moved r c choice = refl

pub replaced_has : (r c : ℕ) (choice : List ℕ) → Contains choice c → Contains (replaced r c choice) r
replaced_has r c choice h = subst (λ xs. Contains xs r) (sym (is_moved r c choice)) (subst (Contains (map (moved r c) choice)) (moved_there r c) (in_map (moved r c) choice c h))

pub replaced_keeps : (r c n : ℕ) (choice : List ℕ) → (n ≡ c → ⊥) → Contains choice n → Contains (replaced r c choice) n
replaced_keeps r c n choice other h = subst (λ xs. Contains xs n) (sym (is_moved r c choice)) (subst (Contains (map (moved r c) choice)) (moved_past r c n other) (in_map (moved r c) choice n h))

pub replaced_had : (r c n : ℕ) (choice : List ℕ) → Contains (replaced r c choice) n → (n ≡ r) ⊎ (Contains choice n × (n ≡ c → ⊥))
replaced_had r c n choice h =
    let from = from_map (moved r c) choice n (subst (λ xs. Contains xs n) (is_moved r c choice) h) in
    elim (cases_eq from.0 c) [
      | inl same ↦ inl (sym from.2 ∙ ap (moved r c) same ∙ moved_there r c)
      | inr other ↦
          let is : from.0 ≡ n = sym (moved_past r c from.0 other) ∙ from.2 in
          inr (subst (Contains choice) is from.1, λ (e : n ≡ c). other (is ∙ e))
    ]

-- the number that is replaced is gone
pub replaced_lost : (r c : ℕ) (choice : List ℕ) → (c ≡ r → ⊥) → Contains (replaced r c choice) c → ⊥
replaced_lost r c choice other h = elim (replaced_had r c c choice h) [ inl e ↦ other e | inr both ↦ both.1 refl ]
