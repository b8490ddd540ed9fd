use Rattle.std.proofs.Common.{◌<◌, length, arith}
use Rattle.rule_terms.proofs.Ways.{put_at}
use Rattle.rule_terms.proofs.stack.put_on_each.Goals as goal

pub loop-i-preserved : goal.loop-i-preserved
loop-i-preserved c =
    let xs = c.args.stacks.now.items in
    let low : c.loop-i.i < length xs = omega (arith, c.len-i-end.ensures, c.loop-i-test.true) in
    let put = put_at c.args.item.now xs c.loop-i.stacks.items c.loop-i.i c.index_mut-stack.result.now low c.loop-i.invariant c.index_mut-stack.ensures.value in
    cc (put, c.in_ok-push.ensures.ok, c.in_ok-clone.ensures.cases)
