use Rattle.std.proofs.Common.{◌≡◌, sym, arith, subst, ℕ, true, inl, inr}
use Rattle.std.proofs.lemmas.Bool.{cases_eq}
use Rattle.entries.specs.inside.Survey.{PassesAt}
use Rattle.entries.proofs.survey.all_pass.Goals as goal

pub returns-then-not-passes_at : goal.returns-then-not-passes_at
returns-then-not-passes_at c = (
  λ wrong. absurd cc,
  λ all.
      let passes : c.passes_at.result ≡ true = (c.passes_at.ensures c.args.root c.in_ok-paths.ensures).1 (all.each c.loop-b.b (omega (arith, c.loop-b-test.true, c.nodes-b-end.ensures.value))) in
      absurd cc,
)

pub loop-b-preserved : goal.loop-b-preserved
loop-b-preserved c = λ b inside.
    elim (cases_eq b c.loop-b.b) [
      | inl here ↦ subst (λ (k : ℕ). PassesAt c.args.acyclic c.args.survey.now.graph c.args.survey.now.marks.items c.args.root k) (sym here) ((c.passes_at.ensures c.args.root c.in_ok-paths.ensures).0 c.if-not-passes_at.false)
      | inr other ↦ c.loop-b.invariant b (omega (arith, inside))
    ]
