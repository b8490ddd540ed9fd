use Rattle.std.proofs.Common.{◌≡◌, ℕ, ◌+◌, Result, true, false, rules, ap, subst}
use Rattle.relations.specs.declared.fault.RelFault.{RelFault}
use Rattle.relations.specs.Scope.{lin_bound}
use Rattle.relations.specs.inside.Walk.{made_of, WithinLimit}
use Rattle.relations.proofs.Faults.{row_unknown, row_steps}
use Rattle.relations.proofs.walk.row_terms.Goals as goal

pub returns-then-not-are_known-clause-steps : goal.returns-then-not-are_known-clause-steps
returns-then-not-are_known-clause-steps c =
    let e : lin_bound c.args.sizes (made_of c.args.marks.now) c.args.row.now.lin ≡ false = search rules in
    λ nodes. row_unknown nodes c.args.sizes (made_of c.args.marks.now) c.args.count c.args.row.now e

pub returns-clause-steps : goal.returns-clause-steps
returns-clause-steps c =
    let e : lin_bound c.args.sizes (made_of c.args.marks.now) c.args.row.now.lin ≡ true = search rules in
    let r : Result ℕ RelFault = c.within.result in
    let w = subst (λ k. WithinLimit c.args.count (1 + k) c.within.result) c.terms.ensures.is c.within.ensures in
    λ nodes. row_steps nodes c.args.sizes (made_of c.args.marks.now) c.args.count c.args.row.now r e w
