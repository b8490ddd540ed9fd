-- Where loops are left.
use Rattle.std.proofs.Common.{◌≡◌, ◌⊎◌, ◌↔◌, inl, inr, ℕ, Bool, true, false, List, [], ◌∷◌, refl, sym, subst, ◌∙◌}
use Rattle.std.specs.Prelude.{Contains, nat_eq, if◌then◌else◌}
use Rattle.std.specs.List.{list_any}
use Rattle.common_laws.proofs.Members.{contains_head, contains_cases, contains_none, in_flat, from_flat}
use Rattle.common_laws.proofs.Numbers.{contains_listed, listed_contains}
use Rattle.graph_core.specs.Graphs.{HasEdge, successors_of}
use Rattle.graph_core.specs.Nests.{Entered, HasNodes}
use Rattle.code_blocks.specs.Successors.{rising}
use Rattle.code_blocks.proofs.Risings.{rising_has, rising_from}
use Rattle.loop_cut.specs.Regions.{IsExit}
use Rattle.loop_cut.specs.inside.Gathered.{leaving, leaving_from, leaving_all}

cases_of : (b : Bool) → (b ≡ true) ⊎ (b ≡ false)
cases_of true = inl refl
cases_of false = inr refl

pub not_both : (b : Bool) → b ≡ false → b ≡ true → ⊥
not_both b f e = let w : true ≡ false = sym e ∙ f in absurd (cc)

module _ (nodes : List ℕ) where
  leaving_has : (x : ℕ) → (Contains nodes x → ⊥) → Contains (leaving nodes x) x
  leaving_has x out = elim (cases_of (list_any (nat_eq x) nodes)) [
    | inl e ↦ absurd (out (listed_contains x nodes e))
    | inr e ↦ subst (λ (b : Bool). Contains (if b then [] else x ∷ []) x) (sym e) (contains_head x [])
  ]

  leaving_is : (y x : ℕ) → Contains (leaving nodes y) x → (y ≡ x) × (Contains nodes x → ⊥)
  leaving_is y x c = elim (cases_of (list_any (nat_eq y) nodes)) [
    | inl e ↦ absurd (contains_none x (subst (λ (b : Bool). Contains (if b then [] else y ∷ []) x) e c))
    | inr e ↦ elim (contains_cases y [] x (subst (λ (b : Bool). Contains (if b then [] else y ∷ []) x) e c)) [
      | inl same ↦ (same, λ d. not_both (list_any (nat_eq y) nodes) e (contains_listed y nodes (subst (λ (z : ℕ). Contains nodes z) (sym same) d)))
      | inr none ↦ absurd (contains_none x none)
    ]
  ]

  module _ (g : List (List ℕ)) where
    leaving_all_has : (a x : ℕ) → Contains nodes a → HasEdge g a x → (Contains nodes x → ⊥) → Contains (leaving_all g nodes) x
    leaving_all_has a x c edge out =
        in_flat (leaving_from g nodes) nodes a x c (in_flat (leaving nodes) (successors_of g a) x x edge (leaving_has x out))

    leaving_all_from : (x : ℕ) → Contains (leaving_all g nodes) x → (Contains nodes x → ⊥) × ((a : ℕ) × Contains nodes a × HasEdge g a x)
    leaving_all_from x c =
        let h = from_flat (leaving_from g nodes) nodes x c in
        let k = from_flat (leaving nodes) (successors_of g h.0) x h.2 in
        let is = leaving_is k.0 x k.2 in
        (is.1, (h.0, h.1, subst (λ (y : ℕ). HasEdge g h.0 y) is.0 k.1))

pub exits_are : (g : List (List ℕ)) (l : Entered) → HasNodes g 0 l → (x : ℕ) → Contains (rising (leaving_all g l.nodes)) x ↔ IsExit g 0 l.entry x
exits_are g l nodes x = (
  λ c. let h = leaving_all_from l.nodes g x (rising_from (leaving_all g l.nodes) x c) in
      (λ i. h.0 ((nodes.held x).1 i), (h.1.0, (nodes.held h.1.0).0 h.1.1, h.1.2)),
  λ e. rising_has (leaving_all g l.nodes) x
      (leaving_all_has l.nodes g e.1.0 x ((nodes.held e.1.0).1 e.1.1) e.1.2 (λ c. e.0 ((nodes.held x).0 c))),
)
