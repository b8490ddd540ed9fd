use Rattle.std.specs.Prelude.{ℕ, Option, Some}
use Rattle.std.proofs.Common.{◌∙◌, subst}
use Rattle.small_caps.specs.inside.Search.{question_of, IsVisited}
use Rattle.small_caps.proofs.Searching.{better_trans, visited_more}
use Rattle.small_caps.proofs.search.Search.better_behind.Goals as goal

pub loop-at-preserved : goal.loop-at-preserved
loop-at-preserved c =
    let q = question_of c.args.self.now in
    let before = c.loop-at.invariant in
    let visited : IsVisited q c.loop-at.best c.args.front c.args.key (Some c.in-Some.place) = subst (λ (at : Option ℕ). IsVisited q c.loop-at.best c.args.front c.args.key at) c.in-Some.is before.visited in
    let more = c.in_ok-best.ensures in
    record {
      room = c.better_at.ensures.room ∙ before.room;
      better = better_trans q c.args.best c.loop-at.best c.in_ok-best.best before.better more.better.0;
      visited = visited_more q c.args.front c.args.key c.loop-at.best c.in_ok-best.best c.in-Some.place c.before-at.result visited more.better.0.keeps more.better.1 c.before-at.ensures;
    }
