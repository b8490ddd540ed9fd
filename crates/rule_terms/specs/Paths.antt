-- The ways through a term, as lists of items: the first part of a split before the second.
use Rattle.std.specs.Prelude.{List, [], ◌∷◌, ◌++◌, map}
use Rattle.rule_terms.specs.declared.item.Item.{Item}
use Rattle.rule_terms.specs.declared.item.Item.TheVariants.{Assume, Spend, Fresh, Call}
use Rattle.rule_terms.specs.Algebra.{Algebra}
use Rattle.rule_terms.specs.Terms.{Term, Ends, Assumes, Spends, Makes, Calls, Either}

-- the item in front of each list
abbrev pub behind : Item → List (List Item) → List (List Item)
behind item paths = map (λ (path : List Item). item ∷ path) paths

abbrev pub paths_of : Term → List (List Item)
paths_of Ends = [] ∷ []
paths_of (Assumes row rest) = behind (Assume row) (paths_of rest)
paths_of (Spends n rest) = behind (Spend n) (paths_of rest)
paths_of (Makes v rest) = behind (Fresh v) (paths_of rest)
paths_of (Calls node args rest) = behind (Call node args) (paths_of rest)
paths_of (Either first second) = paths_of first ++ paths_of second

-- the same by an algebra
abbrev pub lister : Algebra (List (List Item))
lister = record {
  stop = [] ∷ [];
  assume = λ row rest. behind (Assume row) rest;
  spend = λ n rest. behind (Spend n) rest;
  fresh = λ v rest. behind (Fresh v) rest;
  call = λ node args rest. behind (Call node args) rest;
  split = λ first second. first ++ second;
}
