use Rattle.std.specs.Prelude.{◌≡◌, pos, FitsSigned}
use Rattle.std.specs.Int.{w128}
use Rattle.std.proofs.Common.{◌-◌, rules, sym, ap, ◌∙◌, arith, to_z, of_z}
use Rattle.std.proofs.lemmas.Int.{to_z-of_z}
use Rattle.bound_forms.proofs.Trimming.{shorter, whole}
use Rattle.bound_forms.proofs.reducing.trimmed_len.Goals as goal

pub loop-len-preserved : goal.loop-len-preserved
loop-len-preserved c =
    let n = c.loop-len.len in
    let fit : FitsSigned w128 c.get.result = search rules in
    let zero : c.get.result ≡ pos 0 = sym (to_z-of_z w128 c.get.result fit) ∙ ap (to_z w128) c.if-get-eq0.true in
    (omega (arith, c.loop-len.invariant.0), shorter c.args.l.now.coefficients (n - 1) n (omega (arith, c.loop-len-test.true)) c.loop-len.invariant.0 (sym c.get.ensures ∙ zero) c.loop-len.invariant.1)

pub returns-else-get-eq0-clause-value : goal.returns-else-get-eq0-clause-value
returns-else-get-eq0-clause-value c =
    let n = c.loop-len.len in
    whole c.args.l.now.coefficients (n - 1) n (omega (arith, c.loop-len-test.true)) c.loop-len.invariant.0 (λ e. c.if-get-eq0.false (ap (of_z w128) (c.get.ensures ∙ e))) c.loop-len.invariant.1
