use Rattle.std.proofs.Common.{◌++◌, ◌∷◌, [], List, take, map, sym, ap, subst, ◌∙◌}
use Rattle.std.specs.Prelude.{All}
use Rattle.std.proofs.lemmas.List.{map_push}
use Rattle.std.proofs.lemmas.List.Elements.{All-push}
use Rattle.common_laws.proofs.Parts.{take_next}
use Rattle.graph_core.specs.Nests.{Entered}
use Rattle.graph_loops.proofs.Arounds.{loop_begins, loop_nodes, nest_read}
use Rattle.loop_cut.specs.declared.found.CodeLoop.{CodeLoop}
use Rattle.loop_cut.specs.CodeLoops.{IsCut, entered_of}
use Rattle.loop_cut.proofs.cutting.code_loops.Goals as goal

pub code_loop-requires-clause-begins : goal.code_loop-requires-clause-begins
code_loop-requires-clause-begins c =
    loop_begins c.args.graph.now 0 c.loops-l-items.result.now (nest_read _ _ _ _ c.loops-l-items.ensures c.requires.nested.nest) c.loop-l.l-index c.l-item.result c.loop-l-test.true c.l-item.is

pub code_loop-requires-clause-nodes : goal.code_loop-requires-clause-nodes
code_loop-requires-clause-nodes c =
    loop_nodes c.args.graph.now 0 c.loops-l-items.result.now (nest_read _ _ _ _ c.loops-l-items.ensures c.requires.nested.nest) c.loop-l.l-index c.l-item.result c.loop-l-test.true c.l-item.is

pub loop-l-preserved : goal.loop-l-preserved
loop-l-preserved c =
    let more = c.in_ok-push.ensures.ok in
    let one = c.in_ok-code_loop.field-0 in
    record {
      same =
          ap (λ (ls : List CodeLoop). map entered_of ls) more ∙ map_push entered_of c.loop-l.found one
          ∙ ap (λ (es : List Entered). es ++ entered_of one ∷ []) c.loop-l.invariant.same
          ∙ ap (λ (e : Entered). take c.loop-l.l-index c.loops-l-items.result.now ++ e ∷ []) c.in_ok-code_loop.ensures.same
          ∙ sym (take_next c.loops-l-items.result.now c.loop-l.l-index c.l-item.result c.l-item.result c.loop-l-test.true c.l-item.is);
      each = λ heights s. subst (All (IsCut c.args.body.now heights c.args.graph.now)) (sym more)
          (All-push (IsCut c.args.body.now heights c.args.graph.now) c.loop-l.found one (c.loop-l.invariant.each heights s) (c.in_ok-code_loop.ensures.cut heights s));
    }
