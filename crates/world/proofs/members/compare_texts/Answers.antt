use Rattle.std.proofs.Common.{sym, ◌∙◌}
use Rattle.world.specs.Members.{Key, key_cmp}
use Rattle.world.proofs.Keys.{level_there}
use Rattle.world.proofs.members.compare_texts.Goals as goal

pub loop-position-preserved : goal.loop-position-preserved
loop-position-preserved c =
    let x : Key = record { name = c.args.name.now; desc = c.args.desc.now } in
    let y : Key = record { name = c.args.other_name.now; desc = c.args.other_desc.now } in
    level_there x y c.loop-position.position c.compare_at-order.result (key_cmp x y) c.loop-position.invariant c.compare_at-order.ensures (sym c.is_ne.ensures ∙ c.if-is_ne.false)
