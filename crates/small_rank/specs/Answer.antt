-- What a small ranking that is answered says.
use Rattle.std.specs.Prelude.{◌≡◌, ◌⊎◌, ℕ, ℤ, pos, negsuc, List, [], ◌∷◌, length}
use Rattle.std.specs.List.{AllZip}
use Rattle.q128.specs.Fraction.{Fraction, whole}
use Rattle.lin_rows.specs.declared.row.Transition.{Transition}
use Rattle.lin_rows.specs.Linear.{Linear}
use Rattle.lin_rows.specs.Proving.{Multipliers}
use Rattle.lin_rows.specs.Rows.{lins}
use Rattle.lin_rows.specs.Transitions.{lin_times}
use Rattle.small_cert.specs.Small.{AreShared, IsLeastBy}
use Rattle.small_levels.specs.declared.measure.Factor.TheVariants.{One}
use Rattle.small_levels.specs.Leveled.{fall_of, IsLive, ProvesDead, AreDead}
use Rattle.small_levels.specs.Measured.{times_in}
use Rattle.small_rank.specs.declared.ranking.StepProof.{StepProof}
use Rattle.small_rank.specs.declared.ranking.StepProof.TheVariants.{Dead, Live}
use Rattle.small_rank.specs.declared.ranking.SmallRank.{SmallRank}
use Rattle.small_rank.specs.Ranking.{zero_of, IsFirstRanking, HasNoRanking}

-- how many sizes the steps have, each of which has as many next values
abbrev pub sizes_of : List Transition → ℕ
sizes_of [] = 0
sizes_of (t ∷ steps) = length t.next

-- where no step is live, f is 0, c is -1 and d is 1
pub record IsDeadRank (steps : List Transition) (r : SmallRank) : Type 0 where
  pub dead : AreDead steps
  pub function : r.function ≡ zero_of (sizes_of steps)
  pub gate : r.gate ≡ whole (negsuc 0)
  pub fall : r.fall ≡ whole (pos 1)
  pub factor : r.factor ≡ One
  pub f : r.f ≡ zero_of (sizes_of steps)
  pub c : r.c ≡ negsuc 0
  pub d : r.d ≡ pos 1

-- else it is the first ranking
pub record IsLiveRank (steps : List Transition) (r : SmallRank) : Type 0 where
  pub first : IsFirstRanking steps (sizes_of steps) r.function r.gate r.fall (times_in r.factor) r.c r.d
  pub f : r.f ≡ lin_times (pos (times_in r.factor)) r.function

-- multipliers n prove l with the least constant for which it is small
abbrev pub ProvesLeast : Transition → Linear → Multipliers → Type 0
ProvesLeast t l n = (x : Fraction) × (m : Multipliers) × (k : ℤ) × IsLeastBy (lins t.rows) l x m k × AreShared n m k

-- what is kept for a step proves it
abbrev pub ProvesStep : Linear → StepProof → Transition → Type 0
ProvesStep f (Dead n) t = ProvesDead t n
ProvesStep f (Live gate fall) t = IsLive t × ProvesLeast t f gate × ProvesLeast t (fall_of f t) fall

-- one or the other, and what proves each step
pub record IsSmallRank (steps : List Transition) (r : SmallRank) : Type 0 where
  pub is : IsDeadRank steps r ⊎ IsLiveRank steps r
  pub proofs : AllZip (ProvesStep r.function) r.steps steps

-- some step is live, and there is no ranking
pub record HasNoSmallRank (steps : List Transition) : Type 0 where
  pub live : AreDead steps → ⊥
  pub none : HasNoRanking steps (sizes_of steps)
