-- A rule of a cost relation as a term (Albert, Arenas, Genaim, Puebla and Zanardini, Cost analysis of object-oriented
-- bytecode programs: cost relations), without the boxes that hold its parts.
use Rattle.std.specs.Prelude.{ℕ, List}
use Rattle.lin_rows.specs.Linear.{Linear}
use Rattle.lin_rows.specs.declared.row.Row.{Row}
use Rattle.rule_terms.specs.declared.rule.Rule.{Rule, Stop, Assume', Spend', Fresh', Call', Split'}

pub data Term : Type 0 where
  -- nothing is left
  Ends : Term
  -- a row is asked to hold
  Assumes : Row → Term → Term
  -- so much is spent
  Spends : ℕ → Term → Term
  -- a variable is given any whole number
  Makes : ℕ → Term → Term
  -- a node is called with sizes
  Calls : ℕ → List Linear → Term → Term
  -- one of two terms follows
  Either : Term → Term → Term

abbrev pub term_of : Rule → Term
term_of Stop = Ends
term_of (Assume' row p rest) = Assumes row (term_of rest)
term_of (Spend' n p rest) = Spends n (term_of rest)
term_of (Fresh' v p rest) = Makes v (term_of rest)
term_of (Call' node args p rest) = Calls node args (term_of rest)
term_of (Split' p first q second) = Either (term_of first) (term_of second)
