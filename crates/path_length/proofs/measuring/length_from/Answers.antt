use Rattle.std.proofs.Common.{ℕ, ◌≡◌, List, length, Option, inl, refl, sym, subst, arith}
use Rattle.std.proofs.lemmas.List.{nil_from_length}
use Rattle.frames.specs.declared.value.Value.TheVariants.{Ref}
use Rattle.path_length.specs.declared.walk.Visit.{Visit}
use Rattle.path_length.specs.Lengths.{IsPathLength}
use Rattle.path_length.specs.inside.Walking.{IsWalk}
use Rattle.path_length.proofs.Chains.{held_below}
use Rattle.path_length.proofs.Steps.{ended}
use Rattle.path_length.proofs.measuring.length_from.Goals as goal

pub returns : goal.returns
returns c =
    let heap = c.args.heap.now in
    let marks = c.loop-visit.walk.marks.items in
    let a = c.in_default.ensures.cases in
    let none : length c.loop-visit.walk.visits.items ≡ 0 = omega arith in
    let e = nil_from_length c.loop-visit.walk.visits.items none in
    let walk = subst (λ (vs : List Visit). IsWalk heap c.args.root marks vs) e c.loop-visit.invariant in
    subst (λ (o : Option ℕ). IsPathLength heap (Ref c.args.root) o) (sym c.length_at.ensures) (ended heap c.args.root marks (held_below heap c.args.root (c.requires c.args.root (inl refl))) walk)
