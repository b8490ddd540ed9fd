use Rattle.std.proofs.Common.{◌<◌, ◌*◌, ◌^◌, arith}
use Rattle.std.proofs.lemmas.Nat.{mul-lt}
use Rattle.fix_engine.proofs.Steps.{EndsWithin-next}
use Rattle.fix_engine.proofs.search.settle.Goals as goal

pub overflow_mul-visits-2 : goal.overflow_mul-visits-2
overflow_mul-visits-2 g c =
    let few : 2 * c.edges.result < 2 ^ 33 = omega (arith, c.edges.type_inv) in
    let most : 2 * c.edges.result * c.height.result < 2 ^ 33 * 2 ^ 64 = mul-lt (2 * c.edges.result) c.height.result (2 ^ 33) (2 ^ 64) few c.height.type_inv in
    omega arith

pub loop-edge-init : goal.loop-edge-init
loop-edge-init g c =
    record { way = c.requires.way; edges = c.requires.edges; met = c.requires.met; ends = rw (c.edges.ensures, c.height.ensures) c.requires.ends }

pub overflow_sub-visits : goal.overflow_sub-visits
overflow_sub-visits g c =
    (EndsWithin-next _ _ _ _ _ _ _ _ c.in-Some.ensures.0 c.loop-edge.invariant.ends).0

pub loop-edge-preserved : goal.loop-edge-preserved
loop-edge-preserved g c =
    record {
      way = c.in_ok-visit.ensures.way;
      edges = c.in_ok-visit.ensures.edges;
      met = c.in_ok-visit.ensures.met;
      ends = c.in_ok-visit.ensures.ends _ (EndsWithin-next _ _ _ _ _ _ _ _ c.in-Some.ensures.0 c.loop-edge.invariant.ends).1;
    }
