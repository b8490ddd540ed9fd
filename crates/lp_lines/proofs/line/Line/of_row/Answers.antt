use Rattle.std.specs.Prelude.{◌≡◌, FitsSigned}
use Rattle.std.specs.Int.{w128}
use Rattle.std.proofs.Common.{rules, ap, ◌∙◌}
use Rattle.std.proofs.lemmas.Int.{to_z-of_z}
use Rattle.q128.specs.Fraction.{whole}
use Rattle.lp_lines.proofs.Pushes.{row_more, numbers_more}
use Rattle.lp_lines.proofs.line.Line.of_row.Goals as goal

pub loop-v-preserved : goal.loop-v-preserved
loop-v-preserved c =
    let fits : FitsSigned w128 c.get.result = search rules in
    let made : c.whole.result ≡ whole c.get.result = simp to_z-of_z at c.whole.ensures in
    record {
      line = row_more c.args.lin.now c.loop-v.v c.loop-v.numbers.items c.push.new.self.items c.whole.result c.loop-v.invariant.line c.in_ok-push.ensures.items (made ∙ ap whole c.get.ensures);
      numbers = numbers_more c.loop-v.numbers.items c.push.new.self.items c.whole.result c.get.result c.loop-v.invariant.numbers c.in_ok-push.ensures.items made fits;
    }

pub returns-clause-numbers : goal.returns-clause-numbers
returns-clause-numbers c =
    let fits : FitsSigned w128 c.constant.result = search rules in
    let made : c.whole-2.result ≡ whole c.constant.result = simp to_z-of_z at c.whole-2.ensures in
    numbers_more c.loop-v.numbers.items c.push-2.new.self.items c.whole-2.result c.constant.result c.loop-v.invariant.numbers c.in_ok-push-2.ensures.items made fits
