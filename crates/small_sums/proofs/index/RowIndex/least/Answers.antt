use Rattle.std.specs.Prelude.{◌≡◌, pos, List, length}
use Rattle.std.proofs.Common.{arith, ap, ◌∙◌, subst}
use Rattle.std.proofs.lemmas.List.{length-replicate}
use Rattle.q128.specs.Fraction.{whole}
use Rattle.lin_rows.specs.Combining.{Combination}
use Rattle.lin_rows.specs.declared.row.Row.{Row}
use Rattle.lin_rows.specs.Rows.{lins, longest_of}
use Rattle.small_sums.specs.inside.Search.{AreKeys}
use Rattle.small_sums.proofs.Searching.{searched_first, searched_more, searched_answer}
use Rattle.small_sums.proofs.index.RowIndex.least.Goals as goal

pub loop-front-init : goal.loop-front-init
loop-front-init c =
    let zeros_long : length c.in_ok-scratch.scratch.coefficients ≡ c.longest.result = ap (λ (s : Combination). length s.coefficients) c.in_ok-scratch.ensures ∙ length-replicate c.longest.result (whole (pos 0)) in
    let wide : c.longest.result ≡ longest_of (lins c.args.self.now) = c.longest.ensures.value ∙ ap (λ (rows : List Row). longest_of (lins rows)) c.self.view_is in
    record {
      room = c.better_behind-best.ensures.room ∙ (c.better-best.ensures.room ∙ (zeros_long ∙ wide));
      searched = searched_first (lins c.args.self.now) c.args.goal.now c.coefficients.result.now c.key_of-total.result c.coefficients.ensures c.key_of-total.ensures c.better-best.result c.better_behind-best.result
          (c.better_behind-best.ensures.found (c.better-best.ensures.found tt)) c.better-best.ensures.covers c.better_behind-best.ensures.keeps c.better_behind-best.ensures.covers;
    }

pub loop-front-preserved : goal.loop-front-preserved
loop-front-preserved c =
    let rows = lins c.args.self.now in
    let keys : AreKeys rows c.self.inside.places = subst (λ (xs : List Row). AreKeys (lins xs) c.self.inside.places) c.self.view_is c.self.invariant.0 in
    let now = c.better_behind-best-in-loop-front in
    record {
      room = now.ensures.room ∙ c.loop-front.invariant.room;
      searched = searched_more rows c.args.goal.now c.coefficients.result.now c.key_of-total.result c.coefficients.ensures c.key_of-total.ensures c.self.inside.places keys c.loop-front.best now.result c.loop-front.front c.key.result c.rest_of-key.result
          (omega (arith, c.loop-front-test.true, c.len-front-end.ensures)) c.key.ensures c.rest_of-key.ensures c.loop-front.invariant.searched now.ensures.found now.ensures.keeps now.ensures.covers;
    }

pub returns : goal.returns
returns c =
    let rows = lins c.args.self.now in
    let keys : AreKeys rows c.self.inside.places = subst (λ (xs : List Row). AreKeys (lins xs) c.self.inside.places) c.self.view_is c.self.invariant.0 in
    searched_answer rows c.args.goal.now c.loop-front.best c.loop-front.front (omega (arith, keys.count, c.loop-front-test.false, c.len-front-end.ensures)) c.loop-front.invariant.searched
