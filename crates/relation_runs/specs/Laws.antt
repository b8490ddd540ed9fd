-- The laws of what passes, is spent and leads. Each is said of every relation by its ways.
use Rattle.std.specs.Prelude.{◌≡◌, ◌⊎◌, ◌↔◌, ℕ, suc, ◌+◌, ◌≤◌, ℤ, List, [], ◌∷◌, ◌++◌, length, Contains, slice_get, Some}
use Rattle.lin_rows.specs.Linear.{Linear}
use Rattle.lin_rows.specs.Transitions.{next_wholes}
use Rattle.rule_terms.specs.declared.item.Item.{Item}
use Rattle.rule_terms.specs.declared.item.Item.TheVariants.{Call}
use Rattle.rule_terms.specs.declared.rule.Rule.{Rule}
use Rattle.rule_terms.specs.Terms.{Term, term_of}
use Rattle.rule_terms.specs.Paths.{paths_of}
use Rattle.relations.specs.declared.node.Node.{Node}
use Rattle.relations.specs.Relation.{Relation}
use Rattle.relations.specs.Scope.{AreScoped, IsRelation}
use Rattle.relation_runs.specs.Passing.{Ways, ItemsPass, ItemsSpend, PassesBelow, SpendsBelow}
use Rattle.relation_runs.specs.Leading.{WayEnds, variable, ItemsLead, OutcomeBelow}
use Rattle.relation_runs.specs.TermOutcomes.{TermLeads}
use Rattle.relations.specs.declared.ending.PathEnd.{PathEnd}
use Rattle.relation_runs.specs.Trees.{variable_set, TermPasses, TermSpends}
use Rattle.relation_runs.specs.Changed.{items_after}
use Rattle.relation_runs.specs.Nodes.{ways_in}

-- ---- depths
-- what passes, is spent or leads at a depth does so at each greater one
abbrev pub DeeperPasses : Type 0
DeeperPasses = (ways : Ways) (h k n : ℕ) (v : List ℤ) (c : ℕ) → h ≤ k → PassesBelow ways h n v c → PassesBelow ways k n v c

abbrev pub DeeperSpends : Type 0
DeeperSpends = (ways : Ways) (h k n : ℕ) (v : List ℤ) (c : ℕ) → h ≤ k → SpendsBelow ways h n v c → SpendsBelow ways k n v c

abbrev pub DeeperLeads : Type 0
DeeperLeads = (ways : Ways) (ends : WayEnds) (h k n : ℕ) (v : List ℤ) (exit : ℕ) (w : List ℤ) → h ≤ k → OutcomeBelow ways ends h n v exit w → OutcomeBelow ways ends k n v exit w

-- what a node passes it spends
abbrev pub PassedIsSpent : Type 0
PassedIsSpent = (ways : Ways) (h n : ℕ) (v : List ℤ) (c : ℕ) → PassesBelow ways h n v c → SpendsBelow ways h n v c

-- ---- items
-- what a front passes or spends, the whole spends
abbrev pub FrontIsSpent : Type 0
FrontIsSpent =
    (ways : Ways) (h : ℕ) (zs : List ℤ) (front back : List Item) (c : ℕ)
    → (ItemsPass (PassesBelow ways h) zs front c ⊎ ItemsSpend (PassesBelow ways h) (SpendsBelow ways h) zs front c)
    → ItemsSpend (PassesBelow ways h) (SpendsBelow ways h) zs (front ++ back) c

-- joined lists pass where each passes
abbrev pub PassesJoined : Type 0
PassesJoined =
    (ways : Ways) (h : ℕ) (zs : List ℤ) (front back : List Item) (c : ℕ)
    → ItemsPass (PassesBelow ways h) zs (front ++ back) c
    ↔ ((a : ℕ) × (b : ℕ) × (c ≡ a + b) × ItemsPass (PassesBelow ways h) zs front a × ItemsPass (PassesBelow ways h) zs back b)

-- and spend what the front spends, or what it passes and the back spends
abbrev pub SpendsJoined : Type 0
SpendsJoined =
    (ways : Ways) (h : ℕ) (zs : List ℤ) (front back : List Item) (c : ℕ)
    → ItemsSpend (PassesBelow ways h) (SpendsBelow ways h) zs (front ++ back) c
    ↔ (ItemsSpend (PassesBelow ways h) (SpendsBelow ways h) zs front c
    ⊎ ((a : ℕ) × (b : ℕ) × (c ≡ a + b) × ItemsPass (PassesBelow ways h) zs front a × ItemsSpend (PassesBelow ways h) (SpendsBelow ways h) zs back b))

-- what is spent is what a prefix passes, or that and what a call right behind the prefix spends
abbrev pub IsPrefixCost : Ways → ℕ → List ℤ → List Item → ℕ → Type 0
IsPrefixCost ways h zs items c =
    (front : List Item) × (back : List Item) × (items ≡ front ++ back)
    × (ItemsPass (PassesBelow ways h) zs front c
    ⊎ ((node : ℕ) × (args : List Linear) × (rest : List Item) × (a : ℕ) × (b : ℕ)
    × (back ≡ Call node args ∷ rest) × (c ≡ a + b)
    × ItemsPass (PassesBelow ways h) zs front a × SpendsBelow ways h node (next_wholes args zs) b))

abbrev pub SpentByPrefix : Type 0
SpentByPrefix =
    (ways : Ways) (h : ℕ) (zs : List ℤ) (items : List Item) (c : ℕ)
    → ItemsSpend (PassesBelow ways h) (SpendsBelow ways h) zs items c ↔ IsPrefixCost ways h zs items c

-- ---- valuations
-- valuations that give each variable the same value are the same: so values of 0 at the end may be left out
abbrev pub SameValuesPass : Type 0
SameValuesPass =
    (ways : Ways) (h : ℕ) (xs ys : List ℤ) (items : List Item) (c : ℕ) → ((i : ℕ) → variable xs i ≡ variable ys i)
    → ItemsPass (PassesBelow ways h) xs items c → ItemsPass (PassesBelow ways h) ys items c

abbrev pub SameValuesSpend : Type 0
SameValuesSpend =
    (ways : Ways) (h : ℕ) (xs ys : List ℤ) (items : List Item) (c : ℕ) → ((i : ℕ) → variable xs i ≡ variable ys i)
    → ItemsSpend (PassesBelow ways h) (SpendsBelow ways h) xs items c → ItemsSpend (PassesBelow ways h) (SpendsBelow ways h) ys items c

-- items whose variables are replaced pass what they pass at the values of what stands in their place. The sizes of a rule
-- are replaced by the arguments of its call so, and its fresh variables by others.
abbrev pub ReplacedPass : Type 0
ReplacedPass =
    (ways : Ways) (h : ℕ) (next : List Linear) (f : ℕ → ℕ) (zs : List ℤ) (items : List Item) (c : ℕ)
    → ItemsPass (PassesBelow ways h) zs (items_after next f items) c ↔ ItemsPass (PassesBelow ways h) (next_wholes next zs) items c

abbrev pub ReplacedSpend : Type 0
ReplacedSpend =
    (ways : Ways) (h : ℕ) (next : List Linear) (f : ℕ → ℕ) (zs : List ℤ) (items : List Item) (c : ℕ)
    → ItemsSpend (PassesBelow ways h) (SpendsBelow ways h) zs (items_after next f items) c
    ↔ ItemsSpend (PassesBelow ways h) (SpendsBelow ways h) (next_wholes next zs) items c

-- ---- terms
-- a variable that is numbered by the length of the valuation is added at its end
abbrev pub NumberedGrows : Type 0
NumberedGrows = (zs : List ℤ) (z : ℤ) → variable_set zs (length zs) z ≡ zs ++ z ∷ []

-- a term in scope passes where one of its ways does
abbrev pub TermsPass : Type 0
TermsPass =
    (ways : Ways) (h : ℕ) (nodes : List ℕ) (v : List ℤ) (t : Term) (c : ℕ) → AreScoped nodes (length v) (paths_of t)
    → TermPasses (PassesBelow ways h) v t c
    ↔ ((way : List Item) × (zs : List ℤ) × Contains (paths_of t) way × ItemsPass (PassesBelow ways h) (v ++ zs) way c)

-- and spends so
abbrev pub TermsSpend : Type 0
TermsSpend =
    (ways : Ways) (h : ℕ) (nodes : List ℕ) (v : List ℤ) (t : Term) (c : ℕ) → AreScoped nodes (length v) (paths_of t)
    → TermSpends (PassesBelow ways h) (SpendsBelow ways h) v t c
    ↔ ((way : List Item) × (zs : List ℤ) × Contains (paths_of t) way × ItemsSpend (PassesBelow ways h) (SpendsBelow ways h) (v ++ zs) way c)

-- ---- nodes
-- a node of a relation passes, at as many sizes as it has, what one of its rules passes
abbrev pub NodesPass : Type 0
NodesPass =
    (relation : Relation) (h n : ℕ) (node : Node) (v : List ℤ) (c : ℕ) → IsRelation relation → slice_get relation n ≡ Some node → length v ≡ length node.lengths
    → PassesBelow (ways_in relation) (suc h) n v c ↔ ((rule : Rule) × Contains node.rules rule × TermPasses (PassesBelow (ways_in relation) h) v (term_of rule) c)

-- and spends what one of its rules spends
abbrev pub NodesSpend : Type 0
NodesSpend =
    (relation : Relation) (h n : ℕ) (node : Node) (v : List ℤ) (c : ℕ) → IsRelation relation → slice_get relation n ≡ Some node → length v ≡ length node.lengths
    → SpendsBelow (ways_in relation) (suc h) n v c
    ↔ ((rule : Rule) × Contains node.rules rule × TermSpends (PassesBelow (ways_in relation) h) (SpendsBelow (ways_in relation) h) v (term_of rule) c)

-- ---- outcomes of terms
-- a term leads to an exit and its values, at given values, where one of its ways does with the end of the same place
abbrev pub TermsLead : Type 0
TermsLead =
    (ways : Ways) (ends : WayEnds) (h : ℕ) (zs : List ℤ) (t : Term) (endings : List PathEnd) (exit : ℕ) (w : List ℤ)
    → TermLeads (PassesBelow ways h) (OutcomeBelow ways ends h) zs [] t endings exit w
    ↔ ((i : ℕ) × (way : List Item) × (ending : PathEnd) × (slice_get (paths_of t) i ≡ Some way) × (slice_get endings i ≡ Some ending)
    × ItemsLead (PassesBelow ways h) (OutcomeBelow ways ends h) zs way ending exit w)
