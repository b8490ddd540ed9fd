use Rattle.std.proofs.Common.{arith, below_more}
use Rattle.std.proofs.lemmas.List.{get_or_default}
use Rattle.fix_engine.proofs.Agendas.{Grows-more}
use Rattle.fix_engine.proofs.agenda.Agenda.add_all.Goals as goal

pub loop-edge-preserved : goal.loop-edge-preserved
loop-edge-preserved c =
    record {
      grows = Grows-more _ _ _ _ _ c.loop-edge.invariant.grows c.in_ok-add.ensures.grows;
      listed = below_more _ _ (λ k h. c.in_ok-add.ensures.grows.kept _ (c.loop-edge.invariant.listed k h)) c.in_ok-add.ensures.listed;
    }

pub returns-clause-listed : goal.returns-clause-listed
returns-clause-listed c =
    λ k d h. rw (get_or_default c.args.edges.now k d 0 h) (c.loop-edge.invariant.listed k (omega arith))
