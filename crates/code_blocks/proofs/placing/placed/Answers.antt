use Rattle.std.proofs.Common.{◌+◌, ◌-◌, length, arith, sym, subst}
use Rattle.code_blocks.proofs.Placings.{IsSoFar, start, end_past, end_none, end_broken, next}
use Rattle.code_blocks.proofs.placing.placed.Goals as goal

pub loop-init : goal.loop-init
loop-init c = start c.args.code.now (length c.args.code.now - 0) c.new-instructions.result (omega arith) c.new-instructions.ensures

pub returns-then-not-pc-code : goal.returns-then-not-pc-code
returns-then-not-pc-code c = end_past c.args.code.now (length c.args.code.now - c.loop.counter) c.loop.pc c.loop.instructions c.loop.invariant (grind arith)

pub returns-in-Err : goal.returns-in-Err
returns-in-Err c = end_broken c.args.code.now (length c.args.code.now - c.loop.counter) (length c.args.code.now - (c.loop.counter + 1)) c.loop.pc c.loop.instructions c.in-Err.field-0 c.loop.invariant (omega arith) (grind arith) (sym c.in-Err.ensures)

pub loop-preserved : goal.loop-preserved
loop-preserved c =
    subst (λ xs. IsSoFar c.args.code.now (length c.args.code.now - (c.loop.counter + 1)) (c.loop.pc + c.in-Ok.instr.len) xs) (sym c.in_ok-push-in-Ok.ensures.ok)
    (next c.args.code.now (length c.args.code.now - c.loop.counter) (length c.args.code.now - (c.loop.counter + 1)) c.loop.pc c.loop.instructions c.in-Ok.instr c.loop.invariant (omega arith) (grind arith) (sym c.in-Ok.ensures))

pub returns : goal.returns
returns c = end_none c.args.code.now (length c.args.code.now - c.loop.counter) c.loop.pc c.loop.instructions c.loop.invariant (omega arith)
