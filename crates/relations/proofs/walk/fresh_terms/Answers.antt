use Rattle.std.proofs.Common.{◌≡◌, true, false, rules}
use Rattle.relations.specs.Scope.{is_bound}
use Rattle.relations.specs.inside.Walk.{made_of}
use Rattle.relations.proofs.Faults.{fresh_known, fresh_steps}
use Rattle.relations.proofs.walk.fresh_terms.Goals as goal

pub returns-then-is_known-clause-steps : goal.returns-then-is_known-clause-steps
returns-then-is_known-clause-steps c =
    let e : is_bound c.args.sizes (made_of c.args.marks.now) c.args.v ≡ true = search rules in
    λ nodes. fresh_known nodes c.args.sizes (made_of c.args.marks.now) c.args.count c.args.v e

pub returns-clause-steps : goal.returns-clause-steps
returns-clause-steps c =
    let e : is_bound c.args.sizes (made_of c.args.marks.now) c.args.v ≡ false = search rules in
    λ nodes. fresh_steps nodes c.args.sizes (made_of c.args.marks.now) c.args.count c.args.v c.within.result e c.within.ensures
