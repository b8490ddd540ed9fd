use Rattle.std.specs.Prelude.{ℕ, List, length, Option, Some, None}
use Rattle.std.proofs.Common.{refl, ◌∙◌, subst}
use Rattle.lin_rows.specs.declared.row.Row.{Row}
use Rattle.lin_rows.specs.Rows.{lins}
use Rattle.small_sums.specs.inside.Search.{IsVisited, AreKeys}
use Rattle.small_sums.proofs.Best.{keeps_trans}
use Rattle.small_sums.proofs.Behind.{visited_more, visited_all}
use Rattle.small_sums.proofs.index.RowIndex.better_behind.Goals as goal

pub loop-at-preserved : goal.loop-at-preserved
loop-at-preserved c =
    let rows = lins c.args.self.now in
    let before = c.loop-at.invariant in
    let visited : IsVisited rows c.self.inside.places c.args.goal.now c.loop-at.best c.args.front c.args.key (Some c.in-Some.place) = subst (λ (at : Option ℕ). IsVisited rows c.self.inside.places c.args.goal.now c.loop-at.best c.args.front c.args.key at) c.in-Some.is before.visited in
    record {
      room = c.better_at-best.ensures.room ∙ before.room;
      found = λ f. c.better_at-best.ensures.found (before.found f);
      keeps = keeps_trans c.args.best c.loop-at.best c.better_at-best.result before.keeps c.better_at-best.ensures.keeps;
      visited = visited_more rows c.self.inside.places c.args.goal.now c.args.front c.args.key c.loop-at.best c.better_at-best.result c.in-Some.place c.previous-at.result visited c.better_at-best.ensures.keeps c.better_at-best.ensures.covers c.previous-at.ensures;
    }

pub returns-clause-covers : goal.returns-clause-covers
returns-clause-covers c =
    let rows = lins c.args.self.now in
    let visited : IsVisited rows c.self.inside.places c.args.goal.now c.loop-at.best c.args.front c.args.key None = subst (λ (at : Option ℕ). IsVisited rows c.self.inside.places c.args.goal.now c.loop-at.best c.args.front c.args.key at) c.in_default.is c.loop-at.invariant.visited in
    let keys : AreKeys rows c.self.inside.places = subst (λ (xs : List Row). AreKeys (lins xs) c.self.inside.places) c.self.view_is c.self.invariant.0 in
    visited_all rows c.self.inside.places c.args.goal.now c.args.front c.args.key (length rows) c.loop-at.best refl keys visited
