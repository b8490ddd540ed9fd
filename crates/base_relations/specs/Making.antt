-- The items of a rule whose calls were replaced. Its variables are the sizes and then those that its items make, in order.
use Rattle.std.specs.Prelude.{ℕ, suc, Option, Some, None, List, [], ◌∷◌, ◌++◌}
use Rattle.q128.specs.Rule.{◌>>=◌}
use Rattle.lin_rows.specs.Linear.{Linear}
use Rattle.rule_terms.specs.declared.item.Item.{Item}
use Rattle.rule_terms.specs.declared.item.Item.TheVariants.{Assume, Spend, Fresh, Call}
use Rattle.base_relations.specs.declared.making.Frame.{Frame}
use Rattle.base_relations.specs.declared.making.Making.{Making}
use Rattle.base_relations.specs.Steps.{Step, Does, Enters, Leaves, Trace}
use Rattle.base_relations.specs.Substitution.{lin_replaced, lin_numbered}

-- an expression of a rule, over so many variables
abbrev pub lin_by : Option (List Linear) → List (ℕ × ℕ) → ℕ → Linear → Option Linear
lin_by None made n l = Some (lin_numbered made n l)
lin_by (Some args) made n l = lin_replaced args made n l

unfoldable pub lin_made : Frame → ℕ → Linear → Option Linear
lin_made frame n l = lin_by frame.args frame.made n l

-- expressions, of which the first are done already
unfoldable pub lins_made : Frame → ℕ → List Linear → List Linear → Option (List Linear)
lins_made frame n done [] = Some done
lins_made frame n done (l ∷ ls) = do
  made ← lin_made frame n l
  lins_made frame n (done ++ made ∷ []) ls

-- with one item more
abbrev pub with_item : Making → Item → Making
with_item m item = record m { items = m.items ++ item ∷ [] }

-- with one variable more, which gets the next number
abbrev pub with_variable : Making → ℕ → Making
with_variable m v =
    record { items = m.items ++ Fresh m.next ∷ []; frame = record m.frame { made = m.frame.made ++ (v, m.next) ∷ [] }; outer = m.outer; next = suc m.next }

-- in a rule with these sizes
abbrev pub entered : Making → List Linear → Making
entered m args = record m { frame = record { args = Some args; made = [] }; outer = m.frame ∷ m.outer }

-- in the rule around it
abbrev pub left : Making → List Frame → Making
left m [] = m
left m (frame ∷ frames) = record m { frame = frame; outer = frames }

unfoldable pub step_made : Making → Step → Option Making
step_made m (Does (Assume row)) = do
  l ← lin_made m.frame m.next row.lin
  Some (with_item m (Assume (record { lin = l })))
step_made m (Does (Spend n)) = Some (with_item m (Spend n))
step_made m (Does (Fresh v)) = Some (with_variable m v)
step_made m (Does (Call node args)) = do
  ls ← lins_made m.frame m.next [] args
  Some (with_item m (Call node ls))
step_made m (Enters args) = do
  ls ← lins_made m.frame m.next [] args
  Some (entered m ls)
step_made m Leaves = Some (left m m.outer)

unfoldable pub steps_made : Making → Trace → Option Making
steps_made m [] = Some m
steps_made m (step ∷ rest) = do
  next ← step_made m step
  steps_made next rest

-- where making begins, in a node of so many sizes
abbrev pub begun : ℕ → Making
begun sizes = record { items = []; frame = record { args = None; made = [] }; outer = []; next = sizes }

-- the items, or None where a number leaves its limit
unfoldable pub items_made : ℕ → Trace → Option (List Item)
items_made sizes trace = do
  m ← steps_made (begun sizes) trace
  Some m.items
