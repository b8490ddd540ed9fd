-- By which exit, and with which values, a node is left.
use Rattle.std.specs.Prelude.{◌≡◌, ℕ, zero, suc, ◌<◌, ℤ, pos, List, [], ◌∷◌, ◌++◌, length, map, All, Contains, slice_get, slice_index_or, Some}
use Rattle.lin_rows.specs.Linear.{Linear}
use Rattle.lin_rows.specs.Points.{HoldsAtWhole}
use Rattle.lin_rows.specs.Transitions.{next_wholes}
use Rattle.rule_terms.specs.declared.item.Item.{Item}
use Rattle.rule_terms.specs.declared.item.Item.TheVariants.{Assume, Spend, Fresh, Call}
use Rattle.relations.specs.declared.ending.End.{End}
use Rattle.relations.specs.declared.ending.End.TheVariants.{Out, Tail, Thrown}
use Rattle.relations.specs.declared.ending.CallPart.{CallPart}
use Rattle.relations.specs.declared.ending.PathEnd.{PathEnd}
use Rattle.relation_runs.specs.Passing.{Amounts, Ways, PassesBelow}

-- the exit by which a node is left at sizes, and the values there
abbrev pub Outcomes : Type 1
Outcomes = ℕ → List ℤ → ℕ → List ℤ → Type 0

-- how each node's ways end, in the order of the ways
abbrev pub WayEnds : Type 0
WayEnds = ℕ → List PathEnd

-- the value of a variable, 0 past the end
abbrev pub variable : List ℤ → ℕ → ℤ
variable zs v = slice_index_or zs v (pos 0)

-- each row holds, and each call that isn't last passes
abbrev pub ItemHolds : Amounts → List ℤ → Item → List Item → Type 0
ItemHolds P zs (Assume row) rest = HoldsAtWhole row.lin zs
ItemHolds P zs (Spend n) rest = Unit {0}
ItemHolds P zs (Fresh v) rest = Unit {0}
ItemHolds P zs (Call node args) [] = Unit {0}
ItemHolds P zs (Call node args) (next ∷ rest) = (a : ℕ) × P node (next_wholes args zs) a

abbrev pub ItemsHold : Amounts → List ℤ → List Item → Type 0
ItemsHold P zs [] = Unit {0}
ItemsHold P zs (item ∷ rest) = ItemHolds P zs item rest × ItemsHold P zs rest

-- a call has the outcome of its part: by the part's exit, with the values of its variables, or with some values where it
-- has none
abbrev pub LeavesWith : Outcomes → ℕ → List ℤ → ℕ → List ℤ → List ℕ → Type 0
LeavesWith O node v exit zs [] = (w : List ℤ) × O node v exit w
LeavesWith O node v exit zs (z ∷ fresh) = O node v exit (map (variable zs) (z ∷ fresh))

pub record PartLeads (O : Outcomes) (zs : List ℤ) (items : List Item) (part : CallPart) : Type 0 where
  pub node : ℕ
  pub args : List Linear
  pub item : slice_get items part.item ≡ Some (Call node args)
  pub leaves : LeavesWith O node (next_wholes args zs) part.exit zs part.fresh

-- the last call's node is left so
pub record TailLeads (O : Outcomes) (zs : List ℤ) (items : List Item) (exit : ℕ) (w : List ℤ) : Type 0 where
  pub front : List Item
  pub node : ℕ
  pub args : List Linear
  pub last : items ≡ front ++ Call node args ∷ []
  pub leaves : O node (next_wholes args zs) exit w

-- the way's end is this exit with these values
abbrev pub EndLeads : Outcomes → List ℤ → List Item → End → ℕ → List ℤ → Type 0
EndLeads O zs items (Out x values) exit w = (exit ≡ x) × (w ≡ next_wholes values zs)
EndLeads O zs items Tail exit w = TailLeads O zs items exit w
EndLeads O zs items Thrown exit w = ⊥

-- the items lead to the exit and its values, at the values zs
pub record ItemsLead (P : Amounts) (O : Outcomes) (zs : List ℤ) (items : List Item) (ending : PathEnd) (exit : ℕ) (w : List ℤ) : Type 0 where
  pub holds : ItemsHold P zs items
  pub parts : All (PartLeads O zs items) ending.calls
  pub end : EndLeads O zs items ending.end exit w

-- some way of the node does, at a depth below h
abbrev pub OutcomeBelow : Ways → WayEnds → ℕ → Outcomes
OutcomeBelow ways ends zero n v exit w = ⊥
OutcomeBelow ways ends (suc h) n v exit w =
    (i : ℕ) × (way : List Item) × (ending : PathEnd) × (zs : List ℤ)
    × (slice_get (ways n) i ≡ Some way) × (slice_get (ends n) i ≡ Some ending)
    × ItemsLead (PassesBelow ways h) (OutcomeBelow ways ends h) (v ++ zs) way ending exit w

abbrev pub Outcome : Ways → WayEnds → Outcomes
Outcome ways ends n v exit w = (h : ℕ) × OutcomeBelow ways ends h n v exit w
