-- The types that `Rattle.base_relations.specs.Making` speaks of and doesn't name for others.
use Rattle.base_relations.specs.Making.{begun}

abbrev type_of : {A : Type 0} → A → Type 0
type_of {A} a = A

-- a rule that is being made
abbrev pub Making : Type 0
Making = type_of (begun 0)

-- the rule that a step is of
abbrev pub Frame : Type 0
Frame = type_of (begun 0).frame
