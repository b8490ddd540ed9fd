-- Whether a step is live.
use Rattle.std.specs.Prelude.{◌≡◌, ℤ, List, Option, Some, None, MatchOption}
use Rattle.std.proofs.Common.{subst}
use Rattle.lin_rows.specs.declared.row.Row.{Row}
use Rattle.lin_rows.specs.declared.row.Transition.{Transition}
use Rattle.lin_rows.specs.Linear.{Linear}
use Rattle.lin_rows.specs.Proving.{Multipliers}
use Rattle.lin_rows.specs.Rows.{lins}
use Rattle.small_cert.specs.Small.{IsSmall, IsSmallBy, AreShared, falsehood}
use Rattle.small_levels.specs.Leveled.{IsLive, ProvesDead}

abbrev Known : List Row → Linear → Option Multipliers → Type 0
Known rows goal o = MatchOption o (IsSmall (lins rows) goal → ⊥) (λ n. (m : Multipliers) × (k : ℤ) × IsSmallBy (lins rows) goal m k × AreShared n m k)

decided : (t : Transition) (o : Option Multipliers) → Known t.rows falsehood o → MatchOption o (IsLive t) (ProvesDead t)
decided t None h = record { live = h }
decided t (Some n) h = h

pub live_known : (t : Transition) (rows : List Row) (goal : Linear) (o : Option Multipliers) → rows ≡ t.rows → goal ≡ falsehood
    → MatchOption o (IsSmall (lins rows) goal → ⊥) (λ n. (m : Multipliers) × (k : ℤ) × IsSmallBy (lins rows) goal m k × AreShared n m k) → MatchOption o (IsLive t) (ProvesDead t)
live_known t rows goal o is is_goal h = decided t o (subst (λ (g : Linear). Known t.rows g o) is_goal (subst (λ (rs : List Row). Known rs goal o) is h))
