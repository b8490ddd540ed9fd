use Rattle.std.proofs.Common.{◌∙◌, ap}
use Rattle.std.specs.List.{list_any}
use Rattle.relations.specs.inside.Walk.{makes}
use Rattle.relations.proofs.Bounds.{made_bound}
use Rattle.relations.proofs.walk.is_known.Goals as goal

pub returns-else-v-sizes : goal.returns-else-v-sizes
returns-else-v-sizes c = made_bound c.args.sizes c.args.v c.args.marks.now c.is_made.result c.if-v-sizes.false (c.is_made.ensures ∙ ap (list_any (makes c.args.v)) c.from_below.ensures)
