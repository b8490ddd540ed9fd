-- How a term is left: as one of its ways is. The ends of its ways stand in the order of the ways.
use Rattle.std.specs.Prelude.{◌≡◌, ◌⊎◌, ℕ, zero, ◌+◌, ℤ, List, [], ◌∷◌, ◌++◌, drop, slice_get, Some}
use Rattle.rule_terms.specs.declared.item.Item.{Item}
use Rattle.rule_terms.specs.declared.item.Item.TheVariants.{Assume, Spend, Fresh, Call}
use Rattle.rule_terms.specs.Terms.{Term, Ends, Assumes, Spends, Makes, Calls, Either}
use Rattle.relations.specs.declared.ending.PathEnd.{PathEnd}
use Rattle.relation_runs.specs.Passing.{Amounts}
use Rattle.relation_runs.specs.Leading.{Outcomes, ItemsLead}

-- how many ways lead through a term
abbrev pub ways_count : Term → ℕ
ways_count Ends = 1
ways_count (Assumes row rest) = ways_count rest
ways_count (Spends n rest) = ways_count rest
ways_count (Makes v rest) = ways_count rest
ways_count (Calls node args rest) = ways_count rest
ways_count (Either first second) = ways_count first + ways_count second

-- at the values zs, behind the items of the front, the term leads to the exit and its values
abbrev pub TermLeads : Amounts → Outcomes → List ℤ → List Item → Term → List PathEnd → ℕ → List ℤ → Type 0
TermLeads P O zs front Ends ends exit w = (ending : PathEnd) × (slice_get ends zero ≡ Some ending) × ItemsLead P O zs front ending exit w
TermLeads P O zs front (Assumes row rest) ends exit w = TermLeads P O zs (front ++ Assume row ∷ []) rest ends exit w
TermLeads P O zs front (Spends n rest) ends exit w = TermLeads P O zs (front ++ Spend n ∷ []) rest ends exit w
TermLeads P O zs front (Makes v rest) ends exit w = TermLeads P O zs (front ++ Fresh v ∷ []) rest ends exit w
TermLeads P O zs front (Calls node args rest) ends exit w = TermLeads P O zs (front ++ Call node args ∷ []) rest ends exit w
TermLeads P O zs front (Either first second) ends exit w =
    TermLeads P O zs front first ends exit w ⊎ TermLeads P O zs front second (drop (ways_count first) ends) exit w
