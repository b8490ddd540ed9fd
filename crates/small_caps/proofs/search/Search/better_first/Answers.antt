use Rattle.std.specs.Prelude.{[], ◌∷◌, ◌*◌, ◌≤◌, length}
use Rattle.std.proofs.Common.{arith, refl, ◌∙◌}
use Rattle.small_caps.specs.declared.pick.Front.TheVariants.{One}
use Rattle.small_caps.specs.inside.Search.{question_of, IsLeft}
use Rattle.small_caps.proofs.Searching.{left_more, front_covered, first_started, first_more, first_all, better_same, better_trans, same_count}
use Rattle.small_caps.proofs.search.Search.better_first.Goals as goal

pub better_second-requires-clause-left : goal.better_second-requires-clause-left
better_second-requires-clause-left c = left_more (question_of c.args.self.now) [] c.args.first c.args.total c.key.result c.rest_of-left.result c.requires.total c.key.ensures c.rest_of-left.ensures

pub loop-second-init : goal.loop-second-init
loop-second-init c =
    let q = question_of c.args.self.now in
    let left : IsLeft q (c.args.first ∷ []) c.rest_of-left.result = left_more q [] c.args.first c.args.total c.key.result c.rest_of-left.result c.requires.total c.key.ensures c.rest_of-left.ensures in
    let more = c.in_ok-best.ensures.better in
    record {
      room = refl;
      better = better_same q c.args.best c.in_ok-best.best more.0;
      covers = first_started q c.in_ok-best.best c.args.first (front_covered q c.in_ok-best.best (One c.args.first) c.rest_of-left.result c.requires.ready left more.1);
    }

pub loop-second-preserved : goal.loop-second-preserved
loop-second-preserved c =
    let q = question_of c.args.self.now in
    let before = c.loop-second.invariant in
    let more = c.in_ok-best-2.ensures.better in
    record {
      room = c.better_second.ensures.room ∙ before.room;
      better = better_trans q c.in_ok-best.best c.loop-second.best c.in_ok-best-2.best before.better more.0;
      covers = first_more q c.loop-second.best c.in_ok-best-2.best c.args.first c.loop-second.second before.covers more.0.keeps more.1;
    }

pub returns-clause-better : goal.returns-clause-better
returns-clause-better c =
    let q = question_of c.args.self.now in
    let now = c.loop-second.invariant in
    let count = same_count c.args.self.now.rows.now c.args.self.now.index.now c.requires.ready.are_masked.count in
    let all : 2 * length c.args.self.now.rows.now ≤ c.loop-second.second = omega (arith, count, c.places-second-end.ensures.value, c.loop-second-test.false) in (
      better_trans q c.args.best c.in_ok-best.best c.loop-second.best c.in_ok-best.ensures.better.0 now.better,
      first_all q c.loop-second.best c.args.first c.loop-second.second (2 * length c.args.self.now.rows.now) all now.covers,
    )
