use Rattle.null_facts.proofs.Counting.{sizes_next}
use Rattle.null_facts.proofs.building.add_sizes.Goals as goal

pub loop-pc-preserved : goal.loop-pc-preserved
loop-pc-preserved c =
    let l = c.loop-pc in
    sizes_next c.args.method.now.kinds.now l.pc c.before-in-loop-pc.result.now c.size_of.result c.in_ok-number.field-0 l.sizes.items c.push.new.self.items _
    c.before-in-loop-pc.ensures c.size_of.ensures c.in_ok-number.ensures c.in_ok-push.ensures.items l.invariant
