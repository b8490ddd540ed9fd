use Rattle.std.proofs.Common.{◌≡◌, ℕ, List, length, sym, subst, ◌∙◌, ap, Contains, flat_map}
use Rattle.std.specs.List.{zip}
use Rattle.null_flow.specs.declared.edge.NullEdge.{NullEdge}
use Rattle.null_flow.specs.Flow.{IsBetween}
use Rattle.null_facts.specs.Program.{edges_in, edges_of}
use Rattle.null_facts.proofs.Between.{all_between}
use Rattle.null_facts.proofs.solving.solve.Goals as goal

pub new-requires : goal.new-requires
new-requires c = λ edge h.
    let ms = c.args.methods.now in
    let firsts = c.as_slice.ensures.value ∙ c.in_ok-firsts.ensures in
    let all : c.in_ok-edges.edges.items ≡ edges_of ms = c.in_ok-edges.ensures ∙ ap (λ fs. flat_map (edges_in fs) (zip fs ms)) firsts in
    subst (λ (sizes : List ℕ). IsBetween (length sizes) edge) (sym c.in_ok-sizes.ensures)
    (all_between ms c.requires edge (subst (λ (edges : List NullEdge). Contains edges edge) all h))
