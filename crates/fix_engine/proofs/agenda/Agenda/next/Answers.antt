use Rattle.std.proofs.Common.{ap, sym, ◌∙◌, arith}
use Rattle.std.proofs.lemmas.List.{length-set}
use Rattle.fix_engine.specs.Agenda.{Waiting}
use Rattle.fix_engine.proofs.Agendas.{IsMarked-pop, head_is_within}
use Rattle.fix_engine.proofs.agenda.Agenda.next.Goals as goal

pub index_mut-requires : goal.index_mut-requires
index_mut-requires c =
    let l = head_is_within _ c.self.inside.waiting.items c.in_ok-edge.edge c.pop_front.new.self.items c.in_ok-edge.ensures.items c.self.invariant in
    omega (arith, l, c.self.inside.is_waiting.ok.0)

pub invariant_of-self-2 : goal.invariant_of-self-2
invariant_of-self-2 c =
    IsMarked-pop _ c.self.inside.waiting.items _ _ c.in_ok-edge.ensures.items c.self.invariant

pub returns : goal.returns
returns c =
    let count = ap (λ (w : Waiting). w.edges) c.self.view_is in
    let l = head_is_within _ c.self.inside.waiting.items c.in_ok-edge.edge c.pop_front.new.self.items c.in_ok-edge.ensures.items c.self.invariant in (
      sym (ap (λ (w : Waiting). w.list) c.self.view_is) ∙ c.in_ok-edge.ensures.items,
      length-set _ _ _ ∙ count,
      omega (arith, l, count),
    )
