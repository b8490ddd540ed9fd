use Rattle.std.proofs.Common.{◌∙◌}
use Rattle.class_hierarchy.proofs.Cycles.{number_bound}
use Rattle.class_hierarchy.proofs.classes.Classes.number.Goals as goal

pub returns-clause-bound : goal.returns-clause-bound
returns-clause-bound c =
    let numbered = rw c.self.view_is at c.self.invariant.numbered in
    number_bound c.args.self.now c.args.name.now c.copied-number.result (c.copied-number.ensures ∙ c.get.ensures.value ∙ numbered c.args.name.now)
