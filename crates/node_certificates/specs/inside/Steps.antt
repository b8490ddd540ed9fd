-- The steps of items one after another, with the rows that were asked for so far.
use Rattle.std.specs.Prelude.{ℕ, nat_eq, List, [], ◌∷◌, ◌++◌, if◌then◌else◌}
use Rattle.std.specs.List.{flat_map}
use Rattle.lin_rows.specs.Linear.{Linear}
use Rattle.lin_rows.specs.declared.row.Row.{Row}
use Rattle.lin_rows.specs.declared.row.Transition.{Transition}
use Rattle.rule_terms.specs.declared.item.Item.{Item}
use Rattle.rule_terms.specs.declared.item.Item.TheVariants.{Assume, Spend, Fresh, Call}

abbrev pub call_step : ℕ → List Row → ℕ → List Linear → List Transition
call_step self rows node args = if nat_eq node self then record { rows = rows; next = args } ∷ [] else []

abbrev pub steps_from : ℕ → List Row → List Item → List Transition
steps_from self rows [] = []
steps_from self rows (Assume row ∷ rest) = steps_from self (rows ++ row ∷ []) rest
steps_from self rows (Spend n ∷ rest) = steps_from self rows rest
steps_from self rows (Fresh v ∷ rest) = steps_from self rows rest
steps_from self rows (Call node args ∷ rest) = call_step self rows node args ++ steps_from self rows rest

abbrev pub all_steps : ℕ → List (List Item) → List Transition
all_steps self rules = flat_map (λ (rule : List Item). steps_from self [] rule) rules
