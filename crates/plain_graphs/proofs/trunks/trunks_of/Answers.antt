use Rattle.std.proofs.Common.{ℕ, List, length, arith, ap}
use Rattle.std.proofs.lemmas.List.{length_push}
use Rattle.plain_graphs.specs.Plain.{IsTrunk}
use Rattle.plain_graphs.proofs.Listings.{each_push}
use Rattle.plain_graphs.proofs.trunks.trunks_of.Goals as goal

pub loop-x-preserved : goal.loop-x-preserved
loop-x-preserved c =
    let i = c.loop-x.invariant in
    let count = i.count in
    let more = length_push c.loop-x.trunks.items c.in_ok-trunk.trunk in
    let is = ap (λ (xs : List (List ℕ)). length xs) c.in_ok-push.ensures.items in
    record {
      count = omega arith;
      trunks = each_push (IsTrunk c.args.g.now c.args.root) _ _ _ _ _ c.in_ok-push.ensures.items count i.trunks c.in_ok-trunk.ensures;
    }

pub returns-clause-trunks : goal.returns-clause-trunks
returns-clause-trunks c =
    λ x l. let n = c.nodes-x-end.ensures.value in let e = c.loop-x-test.false in c.loop-x.invariant.trunks x (omega arith)
