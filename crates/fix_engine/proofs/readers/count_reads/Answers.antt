use Rattle.std.proofs.Common.{◌<◌, ◌+◌, length, refl, sym, ◌∙◌, arith}
use Rattle.std.specs.Prelude.{slice_index}
use Rattle.fix_engine.proofs.Counts.{reads_of_small, get_or-bump, hit_small, AreCounts-one, AreCounts-two}
use Rattle.fix_engine.proofs.readers.count_reads.Goals as goal

pub overflow_add-counts : goal.overflow_add-counts
overflow_add-counts g c =
    let p = g.F.Flow.problem c.args.flow.now in
    let in_s : c.source.result < p.points + 1 = omega (arith, (g.met.F.Flow.lawful c.args.flow.now).source c.args.edge c.requires.edge, c.source.ensures) in
    let few = reads_of_small p c.args.edge c.source.result in
    let is = c.requires.counts.at c.source.result in_s in
    omega arith

pub overflow_add-counts-in-Some : goal.overflow_add-counts-in-Some
overflow_add-counts-in-Some g c =
    let p = g.F.Flow.problem c.args.flow.now in
    let in_s : c.source.result < length c.args.counts.now = omega (arith, (g.met.F.Flow.lawful c.args.flow.now).source c.args.edge c.requires.edge, c.source.ensures, c.requires.counts.count) in
    let in_q : c.in-Some.point < p.points + 1 = omega (arith, (g.met.F.Flow.lawful c.args.flow.now).also c.args.edge c.in-Some.point c.requires.edge (sym c.also.ensures ∙ c.in-Some.is)) in
    let few = reads_of_small p c.args.edge c.in-Some.point in
    let is = c.requires.counts.at c.in-Some.point in_q in
    let one = hit_small c.source.result c.in-Some.point in
    let more = get_or-bump c.args.counts.now c.source.result c.in-Some.point (slice_index c.args.counts.now c.source.result + 1) in_s refl in
    omega arith

pub returns-in_default : goal.returns-in_default
returns-in_default g c =
    let p = g.F.Flow.problem c.args.flow.now in
    let in_s : c.source.result < length c.args.counts.now = omega (arith, (g.met.F.Flow.lawful c.args.flow.now).source c.args.edge c.requires.edge, c.source.ensures, c.requires.counts.count) in
    AreCounts-one p _ _ c.requires.counts _ _ c.source.ensures in_s refl (sym c.also.ensures ∙ c.in_default.is)

pub returns-in-Some : goal.returns-in-Some
returns-in-Some g c =
    let p = g.F.Flow.problem c.args.flow.now in
    let both = sym c.also.ensures ∙ c.in-Some.is in
    let in_s : c.source.result < length c.args.counts.now = omega (arith, (g.met.F.Flow.lawful c.args.flow.now).source c.args.edge c.requires.edge, c.source.ensures, c.requires.counts.count) in
    let in_q : c.in-Some.point < length c.args.counts.now = omega (arith, (g.met.F.Flow.lawful c.args.flow.now).also c.args.edge c.in-Some.point c.requires.edge both, c.requires.counts.count) in
    AreCounts-two p _ _ c.requires.counts _ _ c.source.ensures in_s refl _ _ both in_q refl
