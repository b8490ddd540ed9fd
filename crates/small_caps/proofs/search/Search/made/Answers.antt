use Rattle.std.proofs.Common.{refl}
use Rattle.lin_rows.specs.Rows.{lins}
use Rattle.small_caps.proofs.Trials.{cap_found, cap_alone}
use Rattle.small_caps.proofs.search.Search.made.Goals as goal

pub returns-clause-made : goal.returns-clause-made
returns-clause-made c =
    let s = c.args.self.now in
    let sum = c.if-not-sum.ensures.yes refl in
    let cap = (rw c.in-Some.is at c.in_ok-cap.ensures) in
    record {
      found = record { made = cap_found (lins s.rows.now) s.l.now s.entry.now s.multiple c.args.pick.front c.args.pick.last c.sum.new.scratch c.in-Some.cap sum.0 cap; key = c.in_ok-key.ensures };
      alone = cap_alone (lins s.rows.now) s.l.now s.entry.now s.multiple c.args.pick.front c.args.pick.last c.sum.new.scratch c.in-Some.cap sum.0 sum.1 cap;
    }
