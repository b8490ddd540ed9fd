-- A rule whose calls are replaced, step by step: between the arguments of a replaced call and the end of the rule that
-- stands in its place, the items of that rule, by its own variables.
use Rattle.std.specs.Prelude.{List, map}
use Rattle.lin_rows.specs.Linear.{Linear}
use Rattle.rule_terms.specs.declared.item.Item.{Item}

pub data Step : Type 0 where
  -- an item
  Does : Item → Step
  -- a rule begins, whose sizes are these
  Enters : List Linear → Step
  -- it ends
  Leaves : Step

abbrev pub Trace : Type 0
Trace = List Step

-- the items of a way
abbrev pub steps_of : List Item → List Step
steps_of items = map Does items
