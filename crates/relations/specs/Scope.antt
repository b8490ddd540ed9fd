-- What is wrong with a rule. It is read way by way, in the order of its paths; the first item with a fault decides, and at
-- one item what is out of range comes before a wrong number of arguments, and this before a count that is passed.
use Rattle.std.specs.Prelude.{ℕ, zero, suc, ◌+◌, ◌==◌, nat_lt, nat_eq, Bool, true, false, not, ◌&&◌, ◌||◌, ℤ, pos, List, [], ◌∷◌, ◌++◌, length, count_by, slice_get, Option, Some, None, if◌then◌else◌, IsTrue, ◌≤◌}
use Rattle.std.specs.List.{list_any, list_all}
use Rattle.std.specs.Option.{option_or}
use Rattle.std.specs.Ordering.{int_eq}
use Rattle.lin_rows.specs.Linear.{Linear}
use Rattle.rule_terms.specs.declared.item.Item.{Item}
use Rattle.rule_terms.specs.declared.item.Item.TheVariants.{Assume, Spend, Fresh, Call}
use Rattle.rule_terms.specs.declared.rule.Rule.{Rule}
use Rattle.rule_terms.specs.Terms.{Term, term_of}
use Rattle.rule_terms.specs.Paths.{paths_of}
use Rattle.relations.specs.declared.fault.RelFault.{RelFault}
use Rattle.relations.specs.declared.fault.RelFault.TheVariants.{Arity, Range, TooManyTerms}
use Rattle.relations.specs.declared.node.Node.{Node}
use Rattle.relations.specs.Relation.{Relation, sizes_of}

-- ---- what is counted: items, and coefficients other than 0
abbrev pub lin_terms : Linear → ℕ
lin_terms l = count_by (λ c. not (int_eq c (pos 0))) l.coefficients

abbrev pub args_terms_of : List Linear → ℕ
args_terms_of [] = 0
args_terms_of (l ∷ ls) = lin_terms l + args_terms_of ls

abbrev pub item_terms : Item → ℕ
item_terms (Assume row) = 1 + lin_terms row.lin
item_terms (Spend n) = 1
item_terms (Fresh v) = 1
item_terms (Call node args) = 1 + args_terms_of args

abbrev pub path_terms : List Item → ℕ
path_terms [] = 0
path_terms (item ∷ rest) = item_terms item + path_terms rest

-- each item once for each path that it is on
abbrev pub paths_terms : List (List Item) → ℕ
paths_terms [] = 0
paths_terms (path ∷ paths) = path_terms path + paths_terms paths

abbrev pub rules_terms : List Rule → ℕ
rules_terms [] = 0
rules_terms (rule ∷ rules) = paths_terms (paths_of (term_of rule)) + rules_terms rules

abbrev pub terms_of : Relation → ℕ
terms_of [] = 0
terms_of (node ∷ nodes) = rules_terms node.rules + terms_of nodes

-- ---- what is bound: the sizes, and the variables that were made before on the same path
abbrev pub is_bound : ℕ → List ℕ → ℕ → Bool
is_bound sizes made v = nat_lt v sizes || list_any (nat_eq v) made

-- each variable from i on that has a coefficient other than 0 is bound
abbrev pub coefficients_bound : ℕ → List ℕ → ℕ → List ℤ → Bool
coefficients_bound sizes made i [] = true
coefficients_bound sizes made i (c ∷ cs) = (int_eq c (pos 0) || is_bound sizes made i) && coefficients_bound sizes made (suc i) cs

-- an expression names the variables that have a coefficient other than 0
abbrev pub lin_bound : ℕ → List ℕ → Linear → Bool
lin_bound sizes made l = coefficients_bound sizes made 0 l.coefficients

abbrev pub is_in_range : List ℕ → ℕ → List ℕ → Item → Bool
is_in_range nodes sizes made (Assume row) = lin_bound sizes made row.lin
is_in_range nodes sizes made (Spend n) = true
is_in_range nodes sizes made (Fresh v) = not (is_bound sizes made v)
is_in_range nodes sizes made (Call node args) = nat_lt node (length nodes) && list_all (λ (l : Linear). lin_bound sizes made l) args

-- the called node, which has so many sizes, is given as many arguments
abbrev pub fits_sizes : ℕ → Option ℕ → Bool
fits_sizes arguments None = false
fits_sizes arguments (Some sizes) = arguments == sizes

abbrev pub has_arity : List ℕ → Item → Bool
has_arity nodes (Assume row) = true
has_arity nodes (Spend n) = true
has_arity nodes (Fresh v) = true
has_arity nodes (Call node args) = fits_sizes (length args) (slice_get nodes node)

-- the variables that are made behind an item, the latest first
abbrev pub made_after : Item → List ℕ → List ℕ
made_after (Assume row) made = made
made_after (Spend n) made = made
made_after (Fresh v) made = v ∷ made
made_after (Call node args) made = made

-- the greatest number of items and coefficients of a relation
abbrev pub term_limit : ℕ
term_limit = 16777216

-- ---- the fault of an item where so much was counted before it
unfoldable pub item_fault : List ℕ → ℕ → List ℕ → ℕ → Item → Option RelFault
item_fault nodes sizes made count item =
    if is_in_range nodes sizes made item then
    (if has_arity nodes item then (if nat_lt term_limit (count + item_terms item) then Some TooManyTerms else None) else Some Arity)
    else Some Range

-- the first fault on a path
abbrev pub path_fault : List ℕ → ℕ → List ℕ → ℕ → List Item → Option RelFault
path_fault nodes sizes made count [] = None
path_fault nodes sizes made count (item ∷ rest) =
    option_or (item_fault nodes sizes made count item) (path_fault nodes sizes (made_after item made) (count + item_terms item) rest)

-- and on any path
abbrev pub paths_fault : List ℕ → ℕ → ℕ → List (List Item) → Option RelFault
paths_fault nodes sizes count [] = None
paths_fault nodes sizes count (path ∷ paths) = option_or (path_fault nodes sizes [] count path) (paths_fault nodes sizes (count + path_terms path) paths)

-- the rule of a node that has so many sizes; a node that isn't held is out of range
abbrev pub node_fault : List ℕ → ℕ → Option ℕ → Term → Option RelFault
node_fault nodes count None rule = Some Range
node_fault nodes count (Some sizes) rule = paths_fault nodes sizes count (paths_of rule)

abbrev pub rule_fault : Relation → ℕ → Term → Option RelFault
rule_fault relation node rule = node_fault (sizes_of relation) (terms_of relation) (slice_get (sizes_of relation) node) rule

-- ---- the relation with the rule behind those of the node
abbrev pub with_rule : Node → Rule → Node
with_rule node rule = record node { rules = node.rules ++ rule ∷ [] }

abbrev pub added_rule : Relation → ℕ → Rule → Relation
added_rule [] n rule = []
added_rule (node ∷ nodes) zero rule = with_rule node rule ∷ nodes
added_rule (node ∷ nodes) (suc n) rule = node ∷ added_rule nodes n rule

-- ---- what each rule of a relation keeps: on each path, what is named is bound, and calls fit
abbrev pub IsScoped : List ℕ → ℕ → List ℕ → List Item → Type 0
IsScoped nodes sizes made [] = Unit {0}
IsScoped nodes sizes made (item ∷ rest) =
    IsTrue (is_in_range nodes sizes made item) × IsTrue (has_arity nodes item) × IsScoped nodes sizes (made_after item made) rest

abbrev pub AreScoped : List ℕ → ℕ → List (List Item) → Type 0
AreScoped nodes sizes [] = Unit {0}
AreScoped nodes sizes (path ∷ paths) = IsScoped nodes sizes [] path × AreScoped nodes sizes paths

abbrev pub AreScopedRules : List ℕ → ℕ → List Rule → Type 0
AreScopedRules nodes sizes [] = Unit {0}
AreScopedRules nodes sizes (rule ∷ rules) = AreScoped nodes sizes (paths_of (term_of rule)) × AreScopedRules nodes sizes rules

-- and a node has at most 32 sizes
abbrev pub AreScopedNodes : List ℕ → Relation → Type 0
AreScopedNodes nodes [] = Unit {0}
AreScopedNodes nodes (node ∷ rest) = (length node.lengths ≤ 32) × AreScopedRules nodes (length node.lengths) node.rules × AreScopedNodes nodes rest

-- each rule is in scope, and the count is kept
pub record IsRelation (relation : Relation) : Type 0 where
  pub scoped : AreScopedNodes (sizes_of relation) relation
  pub terms : terms_of relation ≤ term_limit
