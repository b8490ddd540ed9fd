use Rattle.std.specs.Prelude.{◌≡◌, ◌<ℤ◌, ◌≤ℤ◌, zero, suc, ℤ, pos, negsuc, FitsSigned}
use Rattle.std.specs.Int.{w128}
use Rattle.std.proofs.Common.{rules, subst, sym, arith}
use Rattle.std.proofs.lemmas.Bool.{false≢true}
use Rattle.std.proofs.lemmas.Int.{ints, to_z-of_z}
use Rattle.small_levels.specs.Numbers.{value_of}
use Rattle.small_levels.proofs.Measures.{no_measure_c, no_measure_d, is_made}
use Rattle.small_levels.proofs.measure.measure_of.Goals as goal

pub returns-in_err-c : goal.returns-in_err-c
returns-in_err-c c = rw c.from_residual.ensures (no_measure_c c.args.levels c.factor_of-factor.result c.factor_of-factor.ensures c.in_err-c.ensures)

pub returns-in_err-d : goal.returns-in_err-d
returns-in_err-d c = rw c.from_residual-in_err-d.ensures (no_measure_d c.args.levels c.factor_of-factor.result c.factor_of-factor.ensures c.in_err-d.ensures)

positive : (z : ℤ) → (z ≤ℤ pos 0 → ⊥) → pos 0 <ℤ z
positive (pos zero) h = absurd (h (omega (arith, ints)))
positive (pos (suc n)) h = omega (arith, ints)
positive (negsuc n) h = absurd (h (omega (arith, ints)))

above : (z w : ℤ) → w ≡ pos 0 → (z ≤ℤ w → ⊥) → pos 0 <ℤ z
above z w e h = positive z (λ le. h (subst (λ (x : ℤ). z ≤ℤ x) (sym e) le))

pub returns : goal.returns
returns c =
    let c_fits : FitsSigned w128 c.in_ok-c.c = search rules in
    let d_fits : FitsSigned w128 c.in_ok-d.d = search rules in
    let falls : pos 0 <ℤ value_of c.args.levels.fall = above (value_of c.args.levels.fall) (value_of c.of.result) c.of.ensures (λ le. false≢true (c.if-is_at_most.ensures.1 le)) in
    simp to_z-of_z (is_made c.args.levels (record { gate = c.share_of.result; fall = c.share_of-2.result; factor = c.factor_of-factor.result; c = c.in_ok-c.c; d = c.in_ok-d.d }) c.factor_of-factor.ensures falls c.in_ok-c.ensures c.in_ok-d.ensures c_fits.sfits d_fits.sfits (simp to_z-of_z at c.share_of.ensures) (simp to_z-of_z at c.share_of-2.ensures))
