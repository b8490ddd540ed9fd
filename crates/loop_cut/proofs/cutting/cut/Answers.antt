use Rattle.std.proofs.Common.{Err, ap, sym, subst, List}
use Rattle.std.specs.Prelude.{All}
use Rattle.std.proofs.lemmas.Result.{err_from_is_err_and}
use Rattle.std.proofs.lemmas.List.Elements.{All-weaker}
use Rattle.graph_core.proofs.LoopLaws.{err_same}
use Rattle.loop_cut.specs.declared.found.CodeLoop.{CodeLoop}
use Rattle.loop_cut.specs.CodeLoops.{IsCut}
use Rattle.loop_cut.specs.inside.Gathered.{ExitsAre}
use Rattle.loop_cut.proofs.Whole.{nest_is}
use Rattle.loop_cut.proofs.cutting.cut.Goals as goal

pub returns-in_err-nested-clause-irreducible : goal.returns-in_err-nested-clause-irreducible
returns-in_err-nested-clause-irreducible c =
    let p = err_from_is_err_and c.from_residual-in_err-nested.result c.from_residual-in_err-nested.ensures.1 in
    λ a b e.
    let fault = nest_is _ a b (err_same c.from_residual-in_err-nested.result p.0 _ _ p.1 p.2 e) in
    record { graph = c.in_ok-graph.graph; is_graph = c.in_ok-graph.ensures; first = c.in_err-nested.ensures.two_entries a b (ap Err fault) }

pub heads_of-requires-clause-exits : goal.heads_of-requires-clause-exits
heads_of-requires-clause-exits c =
    subst (λ (ls : List CodeLoop). All (λ l. ExitsAre c.in_ok-graph.graph l) ls) (sym c.as_slice.ensures)
    (All-weaker (IsCut c.args.body.now c.args.heights.now c.in_ok-graph.graph) (λ l. ExitsAre c.in_ok-graph.graph l) (λ l h. h.exits) c.in_ok-found.found
    (c.in_ok-found.ensures.each c.args.heights.now c.in_ok-survey.ensures))

pub returns-clause-loops : goal.returns-clause-loops
returns-clause-loops c = record {
  graph = c.in_ok-graph.ensures;
  nested = c.in_ok-nested.ensures.nested;
  one_entry = c.in_ok-nested.ensures.one_entry;
  same = c.in_ok-found.ensures.same;
  each = c.in_ok-found.ensures.each c.args.heights.now c.in_ok-survey.ensures;
  heads_rise = c.in_ok-heads.ensures.rising;
  heads = c.in_ok-heads.ensures.heads;
}
