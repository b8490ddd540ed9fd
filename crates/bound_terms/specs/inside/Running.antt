-- What is left of a value while its parts are gone through.
use Rattle.std.specs.Prelude.{ℕ, suc, ◌≤◌, ◌<◌, ◌^◌, ◌≡◌, Option, Some, None, ℤ, pos, ◌+ℤ◌, ◌*ℤ◌, List, [], ◌∷◌, slice_index_or}

-- a sum with the terms from variable i on
abbrev pub running : List ℤ → ℤ → ℕ → List ℤ → ℤ
running sizes s i [] = s
running sizes s i (c ∷ cs) = running sizes (s +ℤ (c *ℤ slice_index_or sizes i (pos 0))) (suc i) cs

-- a product so far, or that it isn't below 2^128
abbrev pub Holds : Option ℕ → ℕ → Type 0
Holds (Some p) m = (p ≡ m) × (m < 2 ^ 128)
Holds None m = 2 ^ 128 ≤ m
