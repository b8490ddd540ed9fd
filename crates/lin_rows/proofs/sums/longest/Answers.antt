use Rattle.std.proofs.Common.{◌≡◌, ◌+◌, max, length, drop, arith, ap, ◌∙◌}
use Rattle.lin_rows.specs.Rows.{lins, longest_of}
use Rattle.lin_rows.proofs.LongestRows.{longest_step, longest_end, longest_room}
use Rattle.lin_rows.proofs.sums.longest.Goals as goal

pub loop-row-init : goal.loop-row-init
loop-row-init c = omega arith

pub loop-row-preserved : goal.loop-row-preserved
loop-row-preserved c =
    let step = longest_step c.args.rows.now c.loop-row.row-index c.loop-row.longest _ c.row-item.result c.loop-row-test.true c.row-item.is c.loop-row.invariant in
    let made : c.max-longest.result ≡ max (length c.row-item.result.lin.coefficients) c.loop-row.longest = c.max-longest.ensures ∙ ap (λ n. max n c.loop-row.longest) c.len.ensures in
    ap (λ n. max n (longest_of (lins (drop (c.loop-row.row-index + 1) c.args.rows.now)))) made ∙ step

pub returns-clause-value : goal.returns-clause-value
returns-clause-value c = longest_end c.args.rows.now c.loop-row.row-index c.loop-row.longest _ (omega arith) c.loop-row.invariant

pub returns-clause-room : goal.returns-clause-room
returns-clause-room c = longest_room (lins c.args.rows.now) c.loop-row.longest (longest_end c.args.rows.now c.loop-row.row-index c.loop-row.longest _ (omega arith) c.loop-row.invariant)
