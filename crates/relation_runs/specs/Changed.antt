-- Items whose variables are replaced: sizes by arguments, fresh variables by others.
use Rattle.std.specs.Prelude.{ℕ, List, [], ◌∷◌, map}
use Rattle.lin_rows.specs.Linear.{Linear}
use Rattle.lin_rows.specs.Transitions.{after}
use Rattle.rule_terms.specs.declared.item.Item.{Item}
use Rattle.rule_terms.specs.declared.item.Item.TheVariants.{Assume, Spend, Fresh, Call}

-- variable i is replaced by expression i of the list, one past its end by 0; a variable v that is made by f v
abbrev pub item_after : List Linear → (ℕ → ℕ) → Item → Item
item_after next f (Assume row) = Assume (record { lin = after row.lin next })
item_after next f (Spend n) = Spend n
item_after next f (Fresh v) = Fresh (f v)
item_after next f (Call node args) = Call node (map (λ (l : Linear). after l next) args)

abbrev pub items_after : List Linear → (ℕ → ℕ) → List Item → List Item
items_after next f items = map (item_after next f) items
