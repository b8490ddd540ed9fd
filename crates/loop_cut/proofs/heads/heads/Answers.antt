use Rattle.std.proofs.Common.{subst, List, ◌↔◌, Bool, ◌<◌}
use Rattle.std.specs.Prelude.{Contains}
use Rattle.std.proofs.lemmas.List.Elements.{All-contains}
use Rattle.graph_core.specs.Marked.{IsMarked}
use Rattle.loop_cut.specs.declared.found.CodeLoop.{CodeLoop}
use Rattle.loop_cut.proofs.Arriving.{heads_all}
use Rattle.loop_cut.proofs.heads.heads.Goals as goal

pub returns-clause-heads : goal.returns-clause-heads
returns-clause-heads c =
    λ x. heads_all c.args.size c.args.came.now c.args.loops.now c.in_ok-marks.marks.items c.mark_entries.new.marks.items c.in_ok-heads.heads
    c.in_ok-marks.ensures.count c.requires.some (λ l h. All-contains (λ (m : CodeLoop). m.entry < c.args.size) c.args.loops.now l c.requires.entries h) c.in_ok-marks.ensures.joins c.mark_entries.ensures.marked
    (λ y. subst (λ (ms : List Bool). Contains c.in_ok-heads.heads y ↔ IsMarked ms y) c.as_slice.ensures.value (c.in_ok-heads.ensures.all y)) x
