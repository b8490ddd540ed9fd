-- Terms in scope, by one valuation for each way.
use Rattle.std.proofs.Common.{◌≡◌, inl, inr, ℕ, ◌+◌, ℤ, List, [], ◌∷◌, ◌++◌, length, Contains, subst, sym}
use Rattle.common_laws.proofs.Members.{contains_cases, contains_none}
use Rattle.rule_terms.specs.declared.item.Item.{Item}
use Rattle.rule_terms.specs.Terms.{Term}
use Rattle.rule_terms.specs.Paths.{paths_of}
use Rattle.relations.specs.Scope.{IsScoped, AreScoped}
use Rattle.relation_runs.specs.Passing.{Amounts, ItemsPass, ItemsSpend}
use Rattle.relation_runs.specs.Trees.{TermPasses, TermSpends}
use Rattle.relation_runs.proofs.Terms.{term_pass, way_pass, term_spend, way_spend}
use Rattle.relation_runs.proofs.Setting.{way_flat, flat_way, spent_flat, flat_spent}

pub way_scoped : (nodes : List ℕ) (sizes : ℕ) (paths : List (List Item)) (way : List Item) → AreScoped nodes sizes paths → Contains paths way → IsScoped nodes sizes [] way
way_scoped nodes sizes [] way s m = absurd (contains_none way m)
way_scoped nodes sizes (path ∷ paths) way s m = elim (contains_cases path paths way m) [
  | inl e ↦ subst (IsScoped nodes sizes []) e s.0
  | inr n ↦ way_scoped nodes sizes paths way s.1 n
]

module _ (P : Amounts) (nodes : List ℕ) (v : List ℤ) (t : Term) (c : ℕ) (s : AreScoped nodes (length v) (paths_of t)) where
  pub term_flat : TermPasses P v t c → (way : List Item) × (zs : List ℤ) × Contains (paths_of t) way × ItemsPass P (v ++ zs) way c
  term_flat p =
      let w = term_pass P v t c p in
      let f = way_flat P nodes v w.0 c (way_scoped nodes (length v) (paths_of t) w.0 s w.1) w.2 in
      (w.0, f.0, w.1, f.1)

  pub flat_term : ((way : List Item) × (zs : List ℤ) × Contains (paths_of t) way × ItemsPass P (v ++ zs) way c) → TermPasses P v t c
  flat_term p = way_pass P v t p.0 c p.2 (flat_way P nodes v p.1 p.0 c (way_scoped nodes (length v) (paths_of t) p.0 s p.2) p.3)

module _ (P S : Amounts) (nodes : List ℕ) (v : List ℤ) (t : Term) (c : ℕ) (s : AreScoped nodes (length v) (paths_of t)) where
  pub spent_term_flat : TermSpends P S v t c → (way : List Item) × (zs : List ℤ) × Contains (paths_of t) way × ItemsSpend P S (v ++ zs) way c
  spent_term_flat p =
      let w = term_spend P S v t c p in
      let f = spent_flat P S nodes v w.0 c (way_scoped nodes (length v) (paths_of t) w.0 s w.1) w.2 in
      (w.0, f.0, w.1, f.1)

  pub flat_spent_term : ((way : List Item) × (zs : List ℤ) × Contains (paths_of t) way × ItemsSpend P S (v ++ zs) way c) → TermSpends P S v t c
  flat_spent_term p = way_spend P S v t p.0 c p.2 (flat_spent P S nodes v p.1 p.0 c (way_scoped nodes (length v) (paths_of t) p.0 s p.2) p.3)
