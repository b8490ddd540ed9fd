use Rattle.std.specs.Prelude.{ℕ, ◌≡◌, length, Ok}
use Rattle.std.proofs.Common.{sym, ap, ◌∙◌, subst}
use Rattle.std.proofs.lemmas.List.{length-map}
use Rattle.lin_rows.specs.declared.row.Row.{Row}
use Rattle.lin_rows.specs.Combining.{Combination, zeros, rows_added}
use Rattle.lin_rows.specs.Proving.{Multipliers, AreRowNumbers, Reaches}
use Rattle.lin_rows.specs.Rows.{lins}
use Rattle.lin_rows.proofs.Sound.{reached_holds}
use Rattle.lin_rows.proofs.Totals.{sum_is, reaches_there, reaches_back}
use Rattle.lin_rows.proofs.sums.reaches.Goals as goal

pub returns-clause-exact : goal.returns-clause-exact
returns-clause-exact c =
    let rows = lins c.args.rows.now in
    let n = length c.args.scratch.now.coefficients in
    let numbers : AreRowNumbers (length rows) c.args.m.now = subst (λ (k : ℕ). AreRowNumbers k c.args.m.now) (sym (length-map c.args.rows.now (λ (r : Row). r.lin))) c.requires.numbers in
    let made : rows_added rows (zeros n) c.args.m.now ≡ Ok c.add_rows.new.self =
    ap (λ (s : Combination). rows_added rows s c.args.m.now) (sym c.clear.ensures) ∙ ap (λ (m : Multipliers). rows_added rows c.clear.new.self m) (sym c.as_slice.ensures) ∙ c.in_ok-add_rows.ensures.ok in
    let sum = sum_is rows n c.args.m.now c.add_rows.new.self c.requires.room made in (
      λ yes. let both = c.is_reached.ensures.0 yes in reaches_there rows c.args.m.now c.args.goal.now.lin c.add_rows.new.self numbers sum both.0 both.1,
      λ reached. c.is_reached.ensures.1 (reached.not_negative, reaches_back rows c.args.m.now c.args.goal.now.lin c.add_rows.new.self sum reached),
    )

pub returns-clause-sound : goal.returns-clause-sound
returns-clause-sound c = λ yes t v positive rows_hold.
    let reached : Reaches (lins c.args.rows.now) c.args.m.now c.args.goal.now.lin = (returns-clause-exact c).0 (cc yes) in
    reached_holds (lins c.args.rows.now) c.args.m.now c.args.goal.now.lin t v reached positive rows_hold
