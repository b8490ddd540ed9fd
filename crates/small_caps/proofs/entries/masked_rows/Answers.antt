use Rattle.std.specs.Prelude.{List, [], ◌∷◌, length}
use Rattle.std.proofs.Common.{arith, ap}
use Rattle.std.proofs.lemmas.List.{length-append}
use Rattle.lin_rows.specs.declared.row.Row.{Row}
use Rattle.small_caps.proofs.Masks.{row_pushed}
use Rattle.small_caps.proofs.entries.masked_rows.Goals as goal

pub loop-row-preserved : goal.loop-row-preserved
loop-row-preserved c = record {
  long = omega (arith, ap (λ (xs : List Row). length xs) c.in_ok-push.ensures.items, length-append c.loop-row.made.items (record { lin = c.in_ok-lin.lin } ∷ []), c.loop-row.invariant.long);
  each = row_pushed c.args.entry.now c.args.rows.now c.loop-row.made.items c.push.new.self.items c.loop-row.row-index c.row-item.result c.in_ok-lin.lin c.loop-row-test.true c.row-item.is c.loop-row.invariant.long c.in_ok-push.ensures.items c.in_ok-lin.ensures c.loop-row.invariant.each;
}
