-- What proves steps, and small rankings made of it.
use Rattle.std.specs.Prelude.{◌≡◌, ℕ, ℤ, pos, List, [], ◌∷◌, ◌++◌, Option, Some, None, MatchOption}
use Rattle.std.specs.List.{AllZip}
use Rattle.std.specs.Option.{IsSome}
use Rattle.std.proofs.Common.{refl, sym, ap, subst}
use Rattle.lin_rows.specs.declared.row.Transition.{Transition}
use Rattle.lin_rows.specs.Linear.{Linear}
use Rattle.lin_rows.specs.Proving.{Multipliers}
use Rattle.lin_rows.specs.Rows.{lins}
use Rattle.small_sums.specs.Terms.{multipliers_of}
use Rattle.small_cert.specs.Multiples.{times_of}
use Rattle.small_cert.specs.Least.{constant_of}
use Rattle.small_levels.specs.Falls.{IsFallList, AreUnits}
use Rattle.small_levels.specs.Leveled.{IsLive, fall_of}
use Rattle.small_levels.proofs.LevelSums.{no_levels, shifted}
use Rattle.small_rank.specs.declared.functions.Found.{Found}
use Rattle.small_rank.specs.declared.ranking.StepProof.TheVariants.{Live}
use Rattle.small_rank.specs.Answer.{ProvesLeast, ProvesStep}
use Rattle.small_rank.specs.inside.Search.{IsFirstFound}
use Rattle.small_rank.specs.inside.Steps.{ProvesLeastOf, HasLevelsOn}
use Rattle.small_rank.proofs.Ranked.{function_units}

-- an option that isn't none has a value
pub some_of : {A : Type 0} (P : Type 0) (R : A → Type 0) (o : Option A) → MatchOption o P R → (P → ⊥) → IsSome o
some_of P R None h not = absurd (not h)
some_of P R (Some x) h not = refl

-- ---- one step
gate_proved : (t : Transition) (f : Linear) (n : Multipliers) → f.constant ≡ pos 0 → ProvesLeastOf t f.coefficients n → ProvesLeast t f n
gate_proved t f n constant (l, h, shared) =
    subst (λ (e : Linear). ProvesLeast t e n) (ap (λ (z : ℤ). record { coefficients = f.coefficients; constant = z }) (sym constant)) (constant_of l, multipliers_of l.terms, times_of l.multiple, h, shared)

fall_proved : (t : Transition) (f : Linear) (cs : List ℤ) (n : Multipliers) → IsFallList f t.next cs → ProvesLeastOf t cs n → ProvesLeast t (fall_of f t) n
fall_proved t f cs n list (l, h, shared) = (_, multipliers_of l.terms, times_of l.multiple, shifted (lins t.rows) (fall_of f t) cs list.each l h, shared)

pub live_proved : (t : Transition) (f : Linear) (cs : List ℤ) (gate fall : Multipliers) → IsLive t → f.constant ≡ pos 0 → IsFallList f t.next cs → ProvesLeastOf t f.coefficients gate → ProvesLeastOf t cs fall → ProvesStep f (Live gate fall) t
live_proved t f cs gate fall live constant list g h = (live, gate_proved t f gate constant g, fall_proved t f cs fall list h)

-- ---- all steps
pub AllZip-push : {A B : Type 0} (R : A → B → Type 0) (xs : List A) (ys : List B) (x : A) (y : B) → AllZip R xs ys → R x y → AllZip R (xs ++ x ∷ []) (ys ++ y ∷ [])
AllZip-push R [] [] x y all here = (here, tt)
AllZip-push R [] (b ∷ ys) x y all here = absurd all
AllZip-push R (a ∷ xs) [] x y all here = absurd all
AllZip-push R (a ∷ xs) (b ∷ ys) x y all here = (all.0, AllZip-push R xs ys x y all.1 here)

pub found_levels : (steps : List Transition) (n : ℕ) (r : Found) → IsFirstFound steps n r → HasLevelsOn steps r.function
found_levels steps n r first t there live none = no_levels steps t r.function there live none r.measure.gate r.measure.fall first.ranking.gate first.ranking.fall

-- ---- functions
pub first_units : (steps : List Transition) (n : ℕ) (r : Found) → IsFirstFound steps n r → AreUnits r.function
first_units steps n r first = function_units n r.function first.ranking.function
