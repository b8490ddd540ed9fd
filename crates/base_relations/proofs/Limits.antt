-- The limit of numbers, against the library's checked operations.
use Rattle.std.specs.Prelude.{◌≤◌, ◌<◌, ◌^◌, ◌≡◌, ℤ, FitsSigned, None, unsigned_abs}
use Rattle.std.specs.Int.{w128}
use Rattle.std.proofs.Common.{refl, ⊎_elim}
use Rattle.std.proofs.lemmas.Bool.{cases_lt, le-ltb}
use Rattle.std.proofs.lemmas.Int.{fits_signed_from_abs}
use Rattle.base_relations.specs.Substitution.{limited}

limited-none : (z : ℤ) → 2 ^ 127 ≤ unsigned_abs z → limited z ≡ None
unfolding limited
limited-none z h = rw (le-ltb _ _ h) refl

-- what doesn't fit passes the limit
pub limited_unfit : (z : ℤ) → (FitsSigned w128 z → ⊥) → limited z ≡ None
limited_unfit z h = ⊎_elim (λ low. absurd (h (fits_signed_from_abs w128 z low))) (λ high. limited-none z high) (cases_lt (unsigned_abs z) (2 ^ 127))
