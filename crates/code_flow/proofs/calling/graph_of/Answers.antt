use Rattle.std.proofs.Common.{◌≡◌, arith, subst, length, ◌∙◌}
use Rattle.std.specs.Prelude.{flat_map}
use Rattle.code_flow.specs.Scanned.{site_targets}
use Rattle.code_flow.specs.Returning.{Adds, IsGraphTo}
use Rattle.code_flow.proofs.Edges.{graph_step}
use Rattle.code_flow.proofs.calling.graph_of.Goals as goal

pub loop-i-preserved : goal.loop-i-preserved
loop-i-preserved c = (
  c.in_ok-add_sites.ensures.nodes ∙ c.loop-i.invariant.0,
  λ w.
      graph_step w c.args.found.now c.args.scans.now c.loop-i.i c.index-scans-i.result c.index-scans-i.result c.loop-i.graph c.add_sites.new.graph (omega arith) c.index-scans-i.is
      (subst (λ l. Adds c.args.found.now c.loop-i.i (flat_map site_targets l) c.loop-i.graph c.add_sites.new.graph) c.as_slice-in-loop-i.ensures c.in_ok-add_sites.ensures.added)
      (c.loop-i.invariant.1 w),
)

pub returns : goal.returns
returns c = λ w is. let n : c.loop-i.i ≡ length c.args.found.now = omega arith in subst (λ k. IsGraphTo w c.args.found.now k c.loop-i.graph) n (c.loop-i.invariant.1 w is)
