-- Base relations are made node by node and rule by rule: at most 1,024 rules of a node, and of a rule at most 4,096 items,
-- 512 variables that it makes and 1,024 rows, in this order, and then each number within its limit.
use Rattle.std.specs.Prelude.{ℕ, suc, ◌+◌, nat_lt, nat_eq, Bool, ◌||◌, List, [], ◌∷◌, ◌++◌, length, Option, Some, None, Result, Ok, Err, if◌then◌else◌}
use Rattle.std.specs.Option.{ok_or}
use Rattle.rule_terms.specs.declared.item.Item.{Item}
use Rattle.rule_terms.specs.declared.item.Item.TheVariants.{Assume, Spend, Fresh, Call}
use Rattle.base_relations.specs.declared.fault.UnfoldFault.{UnfoldFault}
use Rattle.base_relations.specs.declared.fault.UnfoldFault.TheVariants.{TooManyRules, TooLongRule, TooManyFresh, TooManyRows, TooLarge}
use Rattle.base_relations.specs.Steps.{Step, Does, Enters, Leaves, Trace}
use Rattle.base_relations.specs.Unfolding.{is_cover, node_traces}
use Rattle.base_relations.specs.Making.{items_made}

infixl 10 ◌>>=◌
abbrev pub ◌>>=◌ : {A B : Type 0} → Result A UnfoldFault → (A → Result B UnfoldFault) → Result B UnfoldFault
(Ok x) >>= f = f x
(Err e) >>= f = Err e

-- ---- what is counted
abbrev pub items_at : Step → ℕ
items_at (Does item) = 1
items_at (Enters args) = 0
items_at Leaves = 0

abbrev pub fresh_at : Step → ℕ
fresh_at (Does (Assume row)) = 0
fresh_at (Does (Spend n)) = 0
fresh_at (Does (Fresh v)) = 1
fresh_at (Does (Call node args)) = 0
fresh_at (Enters args) = 0
fresh_at Leaves = 0

abbrev pub rows_at : Step → ℕ
rows_at (Does (Assume row)) = 1
rows_at (Does (Spend n)) = 0
rows_at (Does (Fresh v)) = 0
rows_at (Does (Call node args)) = 0
rows_at (Enters args) = 0
rows_at Leaves = 0

abbrev pub total : (Step → ℕ) → Trace → ℕ
total count [] = 0
total count (step ∷ rest) = count step + total count rest

-- ---- a rule of a node that has so many sizes, or its first fault
unfoldable pub rule_made : ℕ → Trace → Result (List Item) UnfoldFault
rule_made sizes trace =
    if nat_lt 4096 (total items_at trace) then Err TooLongRule
    else (if nat_lt 512 (total fresh_at trace) then Err TooManyFresh
    else (if nat_lt 1024 (total rows_at trace) then Err TooManyRows else ok_or (items_made sizes trace) TooLarge))

-- ---- the rules of a node, of which some are made already, or the first fault
unfoldable pub rules_made : ℕ → List (List Item) → List Trace → Result (List (List Item)) UnfoldFault
rules_made sizes done [] = Ok done
rules_made sizes done (trace ∷ rest) =
    if nat_lt (length done) 1024 then (do
      rule ← rule_made sizes trace
      rules_made sizes (done ++ rule ∷ []) rest)
    else Err TooManyRules

-- ---- nodes
-- the covers and the target have base relations
abbrev pub has_base : List ℕ → ℕ → ℕ → Bool
has_base covers target n = is_cover covers n || nat_eq target n

-- the rules of a node's base relation, and None where it has none
abbrev pub base_rules : Bool → ℕ → List Trace → Result (Option (List (List Item))) UnfoldFault
base_rules has sizes traces =
    if has then (do
      rules ← rules_made sizes [] traces
      Ok (Some rules))
    else Ok None

-- those of all nodes from n on, which have so many sizes; those of the nodes before are made already
unfoldable pub bases_made : (ℕ → Bool) → (ℕ → List Trace) → List (Option (List (List Item))) → ℕ → List ℕ → Result (List (Option (List (List Item)))) UnfoldFault
bases_made has traces done n [] = Ok done
bases_made has traces done n (sizes ∷ rest) = do
  rules ← base_rules (has n) sizes (traces n)
  bases_made has traces (done ++ rules ∷ []) (suc n) rest
