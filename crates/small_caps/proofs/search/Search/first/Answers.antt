use Rattle.std.specs.Prelude.{◌≡◌, ◌*◌, ◌≤◌, pos, length}
use Rattle.std.proofs.Common.{arith, sym, ap, ◌∙◌, subst}
use Rattle.std.proofs.lemmas.List.{length-replicate, length-map}
use Rattle.q128.specs.Fraction.{whole}
use Rattle.lin_rows.specs.Combining.{Combination}
use Rattle.lin_rows.specs.declared.row.Row.{Row}
use Rattle.small_caps.specs.declared.pick.Front.TheVariants.{Zero}
use Rattle.small_caps.specs.inside.Search.{question_of, CoversFirst}
use Rattle.small_caps.proofs.Searching.{front_covered, all_started, all_more, all_all, better_same, better_trans, same_count}
use Rattle.small_caps.proofs.search.Search.first.Goals as goal

pub loop-first-init : goal.loop-first-init
loop-first-init c =
    let q = question_of c.args.self.now in
    let zeros_long : length c.in_ok-scratch.scratch.coefficients ≡ c.longest.result = ap (λ (s : Combination). length s.coefficients) c.in_ok-scratch.ensures ∙ length-replicate c.longest.result (whole (pos 0)) in
    let more = c.in_ok-best.ensures.better in
    record {
      room = c.better_behind.ensures.room ∙ (zeros_long ∙ c.longest.ensures.value);
      better = better_same q c.args.best c.in_ok-best.best more.0;
      covers = all_started q c.in_ok-best.best (front_covered q c.in_ok-best.best Zero c.total-total.result c.requires.ready c.total-total.ensures more.1);
    }

pub loop-first-preserved : goal.loop-first-preserved
loop-first-preserved c =
    let q = question_of c.args.self.now in
    let before = c.loop-first.invariant in
    let more = c.in_ok-best-2.ensures.better in
    let count = length-map c.args.self.now.rows.now (λ (r : Row). r.lin) in
    record {
      room = c.better_first.ensures.room ∙ before.room;
      better = better_trans q c.in_ok-best.best c.loop-first.best c.in_ok-best-2.best before.better more.0;
      covers = all_more q c.loop-first.best c.in_ok-best-2.best c.loop-first.first before.covers more.0.keeps (subst (λ (n : _). CoversFirst q c.in_ok-best-2.best c.loop-first.first (2 * n)) (sym count) more.1);
    }

pub returns : goal.returns
returns c =
    let q = question_of c.args.self.now in
    let now = c.loop-first.invariant in
    let count = same_count c.args.self.now.rows.now c.args.self.now.index.now c.requires.ready.are_masked.count in
    let all : 2 * length c.args.self.now.rows.now ≤ c.loop-first.first = omega (arith, count, c.places-first-end.ensures.value, c.loop-first-test.false) in (
      better_trans q c.args.best c.in_ok-best.best c.loop-first.best c.in_ok-best.ensures.better.0 now.better,
      all_all q c.loop-first.best c.loop-first.first (2 * length c.args.self.now.rows.now) all now.covers,
    )
