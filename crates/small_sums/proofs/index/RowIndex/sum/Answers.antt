use Rattle.std.specs.Prelude.{◌≡◌, pos, length, List, FitsSigned}
use Rattle.std.specs.Int.{w128}
use Rattle.std.proofs.Common.{refl, rules, to_z, of_z}
use Rattle.std.proofs.lemmas.Int.{to_z-of_z}
use Rattle.small_sums.specs.Terms.{multipliers_of}
use Rattle.small_sums.proofs.Tried.{tried}
use Rattle.std.proofs.Common.{sym, ap, ◌∙◌, subst}
use Rattle.std.proofs.lemmas.List.{length-replicate}
use Rattle.q128.specs.Fraction.{Fraction, whole, IsLowest}
use Rattle.lin_rows.specs.declared.row.Row.{Row}
use Rattle.lin_rows.specs.Combining.{Combination, zeros, rows_added}
use Rattle.lin_rows.specs.Rows.{lins, longest_of}
use Rattle.lin_rows.proofs.LongestRows.{longest_room}
use Rattle.small_sums.proofs.index.RowIndex.sum.Goals as goal

pub add_to-requires-clause-room : goal.add_to-requires-clause-room
add_to-requires-clause-room c =
    let cleared : length c.clear.new.self.coefficients ≡ longest_of (lins c.args.self.now) = ap (λ (s : Combination). length s.coefficients) c.clear.ensures ∙ length-replicate (length c.args.scratch.now.coefficients) (whole (pos 0)) ∙ c.requires.room in
    longest_room (lins c.self.inside.rows.now) (length c.clear.new.self.coefficients) (cleared ∙ ap (λ (rows : List Row). longest_of (lins rows)) (sym c.self.view_is))

pub returns-in-Ok-clause-sum : goal.returns-in-Ok-clause-sum
returns-in-Ok-clause-sum c =
    let fits : FitsSigned w128 c.numerator.result = search rules in
    let read : to_z w128 (of_z w128 c.numerator.result) ≡ c.add_to.new.sum.constant.num = simp to_z-of_z (c.numerator.ensures.value ∙ ap (λ (x : Fraction). x.num) c.constant.ensures) in
    tried c.args.self.now c.args.goal.now c.args.terms c.clear.new.self c.add_to.new.sum (to_z w128 (of_z w128 c.numerator.result)) (c.clear.ensures ∙ ap zeros c.requires.room) c.requires.terms
    (ap (λ (rows : List Row). rows_added (lins rows) c.clear.new.self (multipliers_of c.args.terms)) (sym c.self.view_is) ∙ c.in-Ok.ensures.ok) (c.if-has_coefficients.ensures.0 refl) (subst (λ (x : Fraction). IsLowest x) c.constant.ensures c.numerator.ensures.lowest) read
