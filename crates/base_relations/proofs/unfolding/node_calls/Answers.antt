use Rattle.std.proofs.Common.{◌≡◌, ◌∙◌, ◌↔◌, ◌<◌, List, ℕ, length, map, sym, subst}
use Rattle.std.specs.List.{Contains}
use Rattle.graph_core.specs.Graphs.{IsRising, successors_of}
use Rattle.relations.specs.declared.direct.Called.{Called}
use Rattle.base_relations.specs.Unfolding.{Calls}
use Rattle.base_relations.proofs.unfolding.node_calls.Goals as goal

pub returns : goal.returns
returns c =
    let eq : map (λ (d : Called). d.node) c.in_ok-called.called ≡ successors_of c.args.g.now c.args.node = c.in_ok-called.ensures.nodes ∙ c.successors.ensures.value in
    record {
      rising = subst IsRising (sym eq) c.successors.ensures.rising;
      each = λ b. subst (λ (xs : List ℕ). Contains xs b ↔ (Calls c.args.rules.now b × (b < length c.args.r.now))) (sym eq) (c.requires.edges b);
      names = c.in_ok-called.ensures.names;
    }
