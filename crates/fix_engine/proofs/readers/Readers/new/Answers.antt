use Rattle.std.proofs.Common.{◌≡◌, ℕ, length, drop, replicate, rules, subst, arith}
use Rattle.std.proofs.lemmas.List.{take_at}
use Rattle.fix_engine.specs.Counting.{ArePlaced}
use Rattle.fix_engine.proofs.Tables.{counts_small, ArePlaced-zeros, AreOffsets-placed, AreReaders-placed}
use Rattle.fix_engine.proofs.readers.Readers.new.Goals as goal

pub add_up-requires : goal.add_up-requires
add_up-requires g c =
    counts_small _ _ (g.met.F.Flow.lawful c.args.flow.now) _ c.in_ok-offsets.ensures (omega arith) _ c.deref_mut.ensures.value

pub index-reads-requires : goal.index-reads-requires
index-reads-requires g c = let count = c.in_ok-offsets.ensures.count in omega arith

pub loop-edge-init : goal.loop-edge-init
loop-edge-init g c =
    let same = take_at c.add_up.new.numbers (drop (length c.add_up.new.numbers) c.in_ok-offsets.offsets.items) c.in_ok-offsets.offsets.len (omega arith) in
    let zeros : c.in_ok-edges.edges.items ≡ replicate c.index-reads.result.now 0 = search rules in
    rw same (ArePlaced-zeros _ _ (g.met.F.Flow.lawful c.args.flow.now) _ c.in_ok-offsets.ensures _ c.deref_mut.ensures.value _ (omega arith) c.add_up.ensures _ _ c.points.ensures (rw same at c.index-reads.ensures) _ zeros)

pub invariant_of-result : goal.invariant_of-result
invariant_of-result g c =
    let p = g.F.Flow.problem c.args.flow.now in
    let all : c.loop-edge.edge ≡ p.edges = omega arith in
    AreOffsets-placed _ p (g.met.F.Flow.lawful c.args.flow.now) _ _ (subst (λ (n : ℕ). ArePlaced p n c.loop-edge.offsets.items c.loop-edge.edges.items) all c.loop-edge.invariant)

pub returns : goal.returns
returns g c =
    let p = g.F.Flow.problem c.args.flow.now in
    let all : c.loop-edge.edge ≡ p.edges = omega arith in
    AreReaders-placed _ p (g.met.F.Flow.lawful c.args.flow.now) _ _ (subst (λ (n : ℕ). ArePlaced p n c.loop-edge.offsets.items c.loop-edge.edges.items) all c.loop-edge.invariant)
