-- Lists of numbers like the marks of a ruler: between two equal marks stands a greater one (Graham, Knuth and Patashnik,
-- Concrete Mathematics, section 4.5, on the ruler function).
use Rattle.std.specs.Prelude.{◌≡◌, ℕ, ◌<◌, ◌^◌, List, [], ◌∷◌, length, All, ⊤}

-- k doesn't come again before a greater number
abbrev pub NoReturn : ℕ → List ℕ → Type 0
NoReturn k [] = ⊤
NoReturn k (j ∷ ks) = (j ≡ k → ⊥) × (j < k → NoReturn k ks)

abbrev pub IsRuler : List ℕ → Type 0
IsRuler [] = ⊤
IsRuler (k ∷ ks) = NoReturn k ks × IsRuler ks

-- a ruler of numbers below n is shorter than the n-th power of 2
abbrev pub RulersAreShort : Type 0
RulersAreShort = (n : ℕ) (ks : List ℕ) → All (λ (k : ℕ). k < n) ks → IsRuler ks → length ks < 2 ^ n
