use Rattle.std.proofs.Common.{◌≡◌, ℕ, ◌<◌, length, ◌∙◌, sym, ap, subst, arith, Option, IfOk}
use Rattle.std.specs.Prelude.{option_map}
use Rattle.std.specs.Option.{option_copied}
use Rattle.fix_engine.specs.Problem.{Both}
use Rattle.fix_engine.specs.Solution.{at_points, carried}
use Rattle.fix_engine.proofs.Points.{at_points-read, Both-facts}
use Rattle.fix_engine.proofs.search.carry.Goals as goal

pub transfer-requires-clause-also : goal.transfer-requires-clause-also
transfer-requires-clause-also g c =
    let p = g.F.Flow.problem c.args.flow.now in
    let law = g.met.F.Flow.lawful c.args.flow.now in
    let s = at_points p c.args.facts.now in
    let copied = c.second-also.ensures p.start ∙ ap (λ (o : Option ℕ). option_map s o) c.also.ensures in
    subst (Both p.IsFact (p.also c.args.edge)) (sym copied) (Both-facts p.IsFact s (p.also c.args.edge) (λ q h. c.requires.facts q (law.also c.args.edge q c.requires.edge h)))

pub returns : goal.returns
returns g c =
    let p = g.F.Flow.problem c.args.flow.now in
    let law = g.met.F.Flow.lawful c.args.flow.now in
    let s = at_points p c.args.facts.now in
    let copied = c.second-also.ensures p.start ∙ ap (λ (o : Option ℕ). option_map s o) c.also.ensures in
    let l : c.source.result < length c.args.facts.now = omega (arith, law.source c.args.edge c.requires.edge, c.requires.count, c.source.ensures) in
    let read = at_points-read p c.args.facts.now c.source.result (p.source c.args.edge) c.index-facts-source.result c.source.ensures l c.index-facts-source.is in
    let same : p.transfer c.args.edge c.index-facts-source.result (option_copied c.second-also.result) ≡ carried p s c.args.edge = ap (λ (x : g.row.F-Fact.Denot). p.transfer c.args.edge x (option_copied c.second-also.result)) read ∙ ap (λ (o : Option g.row.F-Fact.Denot). p.transfer c.args.edge (s (p.source c.args.edge)) o) copied in
    subst (λ (y : g.row.F-Fact.Denot). IfOk c.transfer.result (λ made. made ≡ y)) same c.transfer.ensures
