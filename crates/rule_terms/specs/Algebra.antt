-- What an algebra makes of a term, from its ends up.
use Rattle.std.specs.Prelude.{ℕ, List}
use Rattle.lin_rows.specs.Linear.{Linear}
use Rattle.lin_rows.specs.declared.row.Row.{Row}
use Rattle.rule_terms.specs.Terms.{Term, Ends, Assumes, Spends, Makes, Calls, Either}

-- a value for the end, and one for each kind of item from what was made of the term behind it
pub record Algebra (Out : Type 0) : Type 0 where
  pub stop : Out
  pub assume : Row → Out → Out
  pub spend : ℕ → Out → Out
  pub fresh : ℕ → Out → Out
  pub call : ℕ → List Linear → Out → Out
  pub split : Out → Out → Out

abbrev pub fold_of : {Out : Type 0} → Algebra Out → Term → Out
fold_of a Ends = a.stop
fold_of a (Assumes row rest) = a.assume row (fold_of a rest)
fold_of a (Spends n rest) = a.spend n (fold_of a rest)
fold_of a (Makes v rest) = a.fresh v (fold_of a rest)
fold_of a (Calls node args rest) = a.call node args (fold_of a rest)
fold_of a (Either first second) = a.split (fold_of a first) (fold_of a second)
