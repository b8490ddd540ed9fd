use Rattle.std.specs.Prelude.{◌≡◌, ℤ, pos, List, [], ◌∷◌, ◌++◌, length, FitsSigned}
use Rattle.std.specs.Int.{w128}
use Rattle.std.proofs.Common.{arith, rules, sym, ap, subst, get_or}
use Rattle.std.proofs.lemmas.Int.{to_z-of_z}
use Rattle.std.proofs.lemmas.List.{length-append}
use Rattle.small_cert.specs.Multiples.{times_of}
use Rattle.small_caps.specs.inside.Numbers.{IsCoefficientAt}
use Rattle.small_caps.proofs.Candidates.{coefficients_more, coefficients_all}
use Rattle.small_caps.proofs.candidate.coefficients.Goals as goal

pub loop-v-preserved : goal.loop-v-preserved
loop-v-preserved c =
    let fits : FitsSigned w128 c.in-Some.made = search rules in
    let list = c.loop-v.list.items in
    let items : c.push.new.self.items ≡ list ++ c.in-Some.made ∷ [] = simp to_z-of_z at c.in_ok-push-in-Some.ensures.items in
    let here : IsCoefficientAt c.args.sum.now c.args.l.now c.args.entry.now (times_of c.args.multiple) c.loop-v.v c.in-Some.made = c.in-Some.ensures in
    record {
      long = omega (arith, ap (λ (xs : List ℤ). length xs) items, length-append list (c.in-Some.made ∷ []), c.loop-v.invariant.long);
      each = λ i lt. subst (λ (xs : List ℤ). IsCoefficientAt c.args.sum.now c.args.l.now c.args.entry.now (times_of c.args.multiple) i (get_or xs i (pos 0))) (sym items)
          (coefficients_more c.args.sum.now c.args.l.now c.args.entry.now (times_of c.args.multiple) list c.loop-v.v c.in-Some.made c.loop-v.invariant.long c.loop-v.invariant.each here i lt);
    }

pub returns : goal.returns
returns c = (
  coefficients_all c.args.sum.now c.args.l.now c.args.entry.now (times_of c.args.multiple) c.loop-v.list.items c.loop-v.v c.loop-v.invariant.long
      (omega (arith, c.loop-v-test.false, c.max-v-end.ensures, c.len.ensures)) (omega (arith, c.loop-v-test.false, c.max-v-end.ensures, c.len-2.ensures)) c.loop-v.invariant.each,
  omega (arith, c.loop-v.invariant.long, c.loop-v.auto.v-end, c.max-v-end.type_inv),
)
