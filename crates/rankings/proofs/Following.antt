-- What follows from rows by rankings and by small sums.
use Rattle.std.specs.Prelude.{ℤ, pos, negsuc, ◌*ℤ◌, ◌≤ℤ◌, ◌<ℤ◌}
use Rattle.std.proofs.Common.{arith, inl}
use Rattle.std.proofs.lemmas.Int.{ints}
use Rattle.q128.specs.Fraction.{Fraction, whole, IsAtMost, minus, times}
use Rattle.q128.proofs.Field.{same_sym, nonneg-same}
use Rattle.lin_rows.specs.Points.{value_at}
use Rattle.lin_rows.specs.Transitions.{drop_of, next_at}
use Rattle.lin_rows.proofs.Expressions.{value_at-constant}
use Rattle.lin_rows.proofs.Sound.{proved_holds}
use Rattle.lin_rows.proofs.StepValues.{step_at}
use Rattle.small_cert.specs.Small.{falsehood}
use Rattle.small_cert.proofs.Proved.{small_reaches}
use Rattle.rankings.specs.Laws.{RankingFollows, SmallFollows, SmallContradicts}
use Rattle.rankings.proofs.Kept.{not_zero, divided, are_shared}

not_under : (x y : Fraction) → IsAtMost y x → pos 0 ≤ℤ (minus x y).num
not_under x y h = omega (arith, ints, h)

pub ranking_follows : RankingFollows
ranking_follows sizes steps f c d step r m = (
  record { holds = λ t v positive rows. r.not_negative step (record { t = t; v = v }) m (record { positive = positive; holds = rows }) },
  record {
    holds = λ t v positive rows.
        let F = value_at f t v in
        let N = value_at f t (next_at step.next t v) in
        let D = times (whole d) t in
        let fall : IsAtMost D (minus F N) = r.falls step (record { t = t; v = v }) m (record { positive = positive; holds = rows }) in
        let low : pos 0 ≤ℤ (minus (minus F N) D).num = not_under (minus F N) D fall in
        let all = value_at (drop_of f step.next d) t v in
        record { not_negative = nonneg-same (minus (minus F N) D) all (same_sym all (minus (minus F N) D) (step_at f step.next d t v).fallen) low };
  },
)

pub small_follows : SmallFollows
small_follows rows l s = record {
  holds = λ t v positive held.
      let n = divided s.1 s.0 in
      proved_holds rows n l t v (inl (small_reaches rows l n s.0 s.1 s.2 (are_shared s.1 s.0 (not_zero s.1 s.2.multiple)))) positive held;
}

minus_one : (t : ℤ) → pos 0 <ℤ t → pos 0 ≤ℤ (negsuc 0 *ℤ t) → ⊥
minus_one (pos n) low high = omega (arith, ints, low, high)
minus_one (negsuc n) low high = omega (arith, ints, low)

pub small_contradicts : SmallContradicts
small_contradicts rows s = record {
  none = λ t v positive held.
      let h = ((small_follows rows falsehood s).holds t v positive held).not_negative in
      let value = value_at falsehood t v in
      let made = times (whole (negsuc 0)) t in
      minus_one t.num positive (nonneg-same value made (value_at-constant (negsuc 0) t v) h);
}
