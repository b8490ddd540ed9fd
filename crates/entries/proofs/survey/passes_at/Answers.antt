use Rattle.std.proofs.Common.{IsTrue, refl, sym, ◌∙◌, subst}
use Rattle.std.proofs.lemmas.List.{get_or_default}
use Rattle.entries.specs.declared.survey.Mark.{Mark}
use Rattle.entries.specs.inside.Survey.{passes}
use Rattle.entries.proofs.survey.passes_at.Goals as goal

-- src/entering_heap.rt:177:9
pub returns-then-not-reaches : goal.returns-then-not-reaches
returns-then-not-reaches c = λ root s. ((λ t reach d. let at = (c.reaches.ensures _ root s).1 reach in absurd cc), λ p. refl)

-- src/entering_heap.rt:171:1
pub returns : goal.returns
returns c = λ root s.
    let Good : Mark → Type 0 = λ m. IsTrue (passes c.args.acyclic m) in
    let reached = (c.reaches.ensures _ root s).0 c.if-not-reaches.false in (
      (λ t reach d. subst Good (c.index.ensures ∙ get_or_default c.args.survey.now.marks.items c.args.b c.index.result.now d c.requires.mark) (subst IsTrue c.passes.ensures t)),
      λ p. subst IsTrue (sym c.passes.ensures) (subst Good (sym c.index.ensures) (p reached c.index.result.now)),
    )
