-- What is said of the rules of a node: how far each is looked at, and the caps of what it calls (Albert, Arenas, Genaim and
-- Puebla, Closed-form upper bounds in static cost analysis, 2011, on base cases, recursive cases and loops).
use Rattle.std.specs.Prelude.{ℕ, ◌+◌, nat_eq, nat_lt, Bool, false, List, [], ◌∷◌, ◌&&◌, Option, find, map, if◌then◌else◌}
use Rattle.std.specs.List.{list_any}
use Rattle.std.specs.Ordering.{int_eq}
use lib.Pointwise.{pointwise}
use Rattle.lin_rows.specs.Linear.{Linear}
use Rattle.rule_terms.specs.declared.item.Item.{Item}
use Rattle.rule_terms.specs.declared.item.Item.TheVariants.{Assume, Spend, Fresh, Call}

pub data Part : Type 0 where
  -- the first so many items, none of them a self call, ask for rows that contradict each other
  Dead : ℕ → Part
  -- no item is a self call
  Leaf : Part
  -- some item is a self call; after the first so many items, none of them one, the ranking isn't negative
  Gate : ℕ → Part

-- an expression of the called node's form, and its cap: u over s
pub record Cap : Type 0 where
  pub expression : Linear
  pub cap : Linear
  pub divisor : ℕ

-- a rule, its part, and for each of its calls, in order, the caps of the called node's expressions; a self call has none
pub record Ruled : Type 0 where
  pub items : List Item
  pub part : Part
  pub caps : List (List Cap)

abbrev pub items_in : List Ruled → List (List Item)
items_in rules = map (λ (r : Ruled). r.items) rules

-- ---- caps
abbrev pub lin_eq : Linear → Linear → Bool
lin_eq a b = pointwise int_eq a.coefficients b.coefficients && int_eq a.constant b.constant

abbrev pub cap_of : List Cap → Linear → Option Cap
cap_of caps l = find (λ (c : Cap). lin_eq c.expression l) caps

-- the caps of the next call, and of those behind it
abbrev pub next_caps : List (List Cap) → List Cap
next_caps [] = []
next_caps (caps ∷ rest) = caps

abbrev pub later_caps : List (List Cap) → List (List Cap)
later_caps [] = []
later_caps (caps ∷ rest) = rest

-- ---- self calls
abbrev pub self_call : ℕ → Item → ℕ
self_call self (Assume row) = 0
self_call self (Spend n) = 0
self_call self (Fresh v) = 0
self_call self (Call node args) = if nat_eq node self then 1 else 0

-- how many of the items are calls of the node itself
abbrev pub self_calls : ℕ → List Item → ℕ
self_calls self [] = 0
self_calls self (item ∷ rest) = self_call self item + self_calls self rest

-- the node calls itself
abbrev pub calls_itself : ℕ → List Ruled → Bool
calls_itself self rules = list_any (λ (r : Ruled). nat_lt 0 (self_calls self r.items)) rules

-- ---- items that are the same
abbrev pub item_eq : Item → Item → Bool
item_eq (Assume a) (Assume b) = lin_eq a.lin b.lin
item_eq (Spend n) (Spend m) = nat_eq n m
item_eq (Fresh v) (Fresh w) = nat_eq v w
item_eq (Call n xs) (Call m ys) = nat_eq n m && pointwise lin_eq xs ys
item_eq x y = false

abbrev pub items_eq : List Item → List Item → Bool
items_eq xs ys = pointwise item_eq xs ys
