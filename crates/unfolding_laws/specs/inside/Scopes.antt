-- Which variables steps name, and which nodes they call.
use Rattle.std.specs.Prelude.{ℕ, IsTrue, List, [], ◌∷◌, length}
use Rattle.std.specs.List.{list_all}
use Rattle.lin_rows.specs.Linear.{Linear}
use Rattle.rule_terms.specs.declared.item.Item.{Item}
use Rattle.relations.specs.Scope.{lin_bound, is_in_range, has_arity, made_after}
use Rattle.base_relations.specs.Steps.{Step, Does, Enters, Leaves}
use Rattle.base_relations.specs.Unfolding.{stays}

-- how many sizes a rule has, and the variables that it made, the latest first
pub record Bound : Type 0 where
  pub sizes : ℕ
  pub made : List ℕ

abbrev pub bound_after : Bound → Item → Bound
bound_after b item = record { sizes = b.sizes; made = made_after item b.made }

abbrev pub entered_with : List Linear → Bound
entered_with args = record { sizes = length args; made = [] }

-- what is named is bound, and calls fit, in the rule that a step is of, and in those around it
abbrev pub AreScopedSteps : List ℕ → Bound → List Bound → List Step → Type 0
AreScopedSteps nodes b outer [] = Unit {0}
AreScopedSteps nodes b outer (Does item ∷ rest) =
    IsTrue (is_in_range nodes b.sizes b.made item) × IsTrue (has_arity nodes item) × AreScopedSteps nodes (bound_after b item) outer rest
AreScopedSteps nodes b outer (Enters args ∷ rest) =
    IsTrue (list_all (λ (l : Linear). lin_bound b.sizes b.made l) args) × AreScopedSteps nodes (entered_with args) (b ∷ outer) rest
AreScopedSteps nodes b [] (Leaves ∷ rest) = AreScopedSteps nodes b [] rest
AreScopedSteps nodes b (around ∷ outer) (Leaves ∷ rest) = AreScopedSteps nodes around outer rest

-- no call of another node than covers is left
abbrev pub AreUnfolded : List ℕ → List Step → Type 0
AreUnfolded covers [] = Unit {0}
AreUnfolded covers (step ∷ rest) = IsTrue (stays covers step) × AreUnfolded covers rest
