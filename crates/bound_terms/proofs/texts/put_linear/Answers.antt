use Rattle.std.specs.Prelude.{ℕ, List, [], pos, ◌≡◌, ◌+◌, ◌++◌, true, FitsSigned, OnOk}
use Rattle.std.specs.Int.{w128}
use Rattle.std.proofs.Common.{rules, get_or, drop, sym, ◌∙◌, ap, subst, arith}
use Rattle.std.proofs.lemmas.Int.{to_z-of_z}
use Rattle.bound_terms.specs.Texts.{parts_from}
use Rattle.bound_terms.specs.inside.Writing.{sum_behind, with_term}
use Rattle.bound_terms.proofs.Writing.{parts_more, parts_end}
use Rattle.bound_terms.proofs.texts.put_linear.Goals as goal

pub loop-v-preserved : goal.loop-v-preserved
loop-v-preserved c =
    let cs = c.coefficients-coefficients.result.now in
    let v = c.loop-v.v in
    let x = get_or cs v (pos 0) in
    let k = c.args.expression.now.constant in
    let fit : FitsSigned w128 x = search rules in
    let rest = parts_from (v + 1) (drop (v + 1) cs) k in
    let made : c.put_term.new.out.items ++ sum_behind c.in_ok-is_first.is_first rest ≡ c.loop-v.out.items ++ sum_behind c.loop-v.is_first (with_term x v rest) = simp to_z-of_z at (c.in_ok-is_first.ensures rest) in
    made ∙ ap (λ ps. c.loop-v.out.items ++ sum_behind c.loop-v.is_first ps) (sym (parts_more cs v k (omega arith))) ∙ c.loop-v.invariant

pub returns : goal.returns
returns c =
    let cs = c.coefficients-coefficients.result.now in
    let v = c.loop-v.v in
    let k = c.args.expression.now.constant in
    let fit_result : FitsSigned w128 c.constant.result = search rules in
    let fit : FitsSigned w128 k = subst (FitsSigned w128) c.constant.ensures fit_result in
    let made : OnOk c.put_constant.result (c.put_constant.new.out.items ≡ c.loop-v.out.items ++ sum_behind c.loop-v.is_first (parts_from 0 [] k)) = simp (to_z-of_z, c.constant.ensures) at c.put_constant.ensures in
    let whole : c.loop-v.out.items ++ sum_behind c.loop-v.is_first (parts_from 0 [] k) ≡ c.args.out.now.items ++ sum_behind true (parts_from 0 c.args.expression.now.coefficients k) =
    ap (λ ps. c.loop-v.out.items ++ sum_behind c.loop-v.is_first ps) (sym (parts_end cs v k (omega arith))) ∙ c.loop-v.invariant ∙ ap (λ ds. c.args.out.now.items ++ sum_behind true (parts_from 0 ds k)) c.coefficients-coefficients.ensures in
    let P : List ℕ → Type 0 = λ z. OnOk c.put_constant.result (c.put_constant.new.out.items ≡ z) in
    subst P whole made
