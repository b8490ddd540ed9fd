use Rattle.std.specs.Prelude.{◌≡◌, ◌<◌, pos, length, FitsSigned, ◌-ℤ◌, ◌*ℤ◌}
use Rattle.std.specs.Int.{w128}
use Rattle.std.proofs.Common.{arith, rules, sym, ap, ◌∙◌, subst}
use Rattle.std.proofs.lemmas.Int.{to_z-of_z}
use Rattle.small_levels.specs.Numbers.{value_of}
use Rattle.small_levels.specs.Falls.{IsUnit, first_of}
use Rattle.small_levels.proofs.FallParts.{fall_is, sum_all, fall_more, between_more, between_four, past_either}
use Rattle.small_levels.proofs.falls.fall_part.Goals as goal

pub loop-j-preserved : goal.loop-j-preserved
loop-j-preserved c =
    let f = c.args.f.now in
    let j = c.loop-j.j in
    let lt : j < length f.coefficients = omega (arith, c.loop-j-test.true, c.min-count.ensures, c.len.ensures) in
    let k : j < length c.args.next.now = omega (arith, c.loop-j-test.true, c.min-count.ensures) in
    let number : FitsSigned w128 c.part.result = search rules in
    let unit : FitsSigned w128 c.get.result = search rules in
    let lowered : value_of c.lowered-fall.result ≡ value_of c.loop-j.fall -ℤ (c.get.result *ℤ c.part.result) = simp to_z-of_z at c.lowered-fall.ensures in
    let is_unit : IsUnit c.get.result = subst (λ z. IsUnit z) (sym c.get.ensures) (c.requires j (pos 0) lt) in
    record {
      made = fall_more f c.args.next.now c.args.at j c.index-next-j.result (value_of c.loop-j.fall) (value_of c.lowered-fall.result) c.get.result c.part.result lt k (sym c.index-next-j.is) c.get.ensures c.part.ensures c.loop-j.invariant.made lowered;
      bounded = between_more j (value_of c.loop-j.fall) (value_of c.lowered-fall.result) c.get.result c.part.result is_unit number c.loop-j.invariant.bounded lowered;
    }

pub returns-clause-value : goal.returns-clause-value
returns-clause-value c =
    let f = c.args.f.now in
    c.loop-j.invariant.made
    ∙ ap (λ x. first_of f c.args.at -ℤ x) (sum_all f.coefficients c.args.next.now c.args.at c.loop-j.j (past_either (length f.coefficients) (length c.args.next.now) c.min-count.result c.loop-j.j (omega (arith, c.min-count.ensures, c.len.ensures)) c.loop-j-test.false))
    ∙ sym (fall_is f c.args.next.now c.args.at)

pub returns-clause-modest : goal.returns-clause-modest
returns-clause-modest c = between_four c.loop-j.j (value_of c.loop-j.fall) c.loop-j.invariant.bounded (omega (arith, c.loop-j.auto.j-end, c.min-count.ensures, c.len.ensures, c.len.auto))
