use Rattle.std.specs.Prelude.{◌≡◌, ℕ, ◌+◌}
use Rattle.std.proofs.Common.{arith, ap, ◌∙◌, get_or, ◌-◌}
use Rattle.lin_rows.specs.Linear.{row_at, nothing}
use Rattle.lin_rows.specs.Rows.{lins}
use Rattle.lin_rows.proofs.Terms.{lin_at}
use Rattle.small_sums.proofs.KeyLists.{keys_pushed}
use Rattle.small_sums.proofs.index.keys_of.Goals as goal

back : (n : ℕ) → n + 1 - 1 ≡ n
back n = omega arith

pub loop-row-preserved : goal.loop-row-preserved
loop-row-preserved c =
    let i = c.loop-row.row-index in
    let here : row_at (lins c.args.rows.now) (i + 1) ≡ c.row-item.result.lin = ap (λ (n : ℕ). get_or (lins c.args.rows.now) n nothing) (back i) ∙ lin_at c.args.rows.now i c.row-item.result nothing c.loop-row-test.true c.row-item.is in
    keys_pushed i (lins c.args.rows.now) c.loop-row.keys.items c.push.new.self.items c.push-in-loop-row.new.self.items c.row-item.result.lin c.coefficients.result.now c.key_of-key.result c.doubled.result here c.coefficients.ensures c.in_ok-push.ensures.items c.in_ok-push-2.ensures.items c.key_of-key.ensures (c.doubled.ensures _ c.key_of-key.ensures) c.loop-row.invariant
