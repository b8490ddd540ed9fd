-- How values grow: what closed forms of recursive costs stand on.
use Rattle.std.specs.Prelude.{ℕ, ◌+◌, ◌*◌, ◌/◌, ◌^◌, ◌≤◌, ◌≡◌, ℤ, pos, ◌+ℤ◌, ◌*ℤ◌, ◌≤ℤ◌, List}
use Rattle.bound_terms.specs.Terms.{Term, Terms, none, more}
use Rattle.bound_terms.specs.Values.{not_below_zero, geo, value_of, total_of, greatest_of}

-- a term is one of several
pub data IsPart (t : Term) : Terms → Type 0 where
  here : {ts : Terms} → IsPart t (more t ts)
  behind : {u : Term} {ts : Terms} → IsPart t ts → IsPart t (more u ts)

-- one power more
abbrev pub PowersGo : Type 0
PowersGo = (b n : ℕ) → (geo b (n + 1) ≡ b * geo b n + 1) × (b ^ (n + 1) ≡ b * b ^ n)

-- more powers, and powers of a greater base, are no less
abbrev pub PowersGrow : Type 0
PowersGrow = (a b n m : ℕ) → 1 ≤ a → a ≤ b → n ≤ m → (geo a n ≤ geo b m) × (a ^ n ≤ b ^ m)

-- the powers of 1
abbrev pub PowersOfOne : Type 0
PowersOfOne = (n : ℕ) → (geo 1 n ≡ n) × (1 ^ n ≡ 1)

-- a maximum is at least each part, and at most what each part is at most
abbrev pub MaximaAreLeast : Type 0
MaximaAreLeast =
    (sizes : List ℤ) (ts : Terms)
    → ((t : Term) → IsPart t ts → value_of sizes t ≤ greatest_of sizes ts)
    × ((k : ℕ) → ((t : Term) → IsPart t ts → value_of sizes t ≤ k) → greatest_of sizes ts ≤ k)

-- a sum is at least each part
abbrev pub SumsHoldParts : Type 0
SumsHoldParts = (sizes : List ℤ) (ts : Terms) (t : Term) → IsPart t ts → value_of sizes t ≤ total_of sizes ts

-- what stands before a sum stands before each of its parts
abbrev pub spread : ℕ → List ℤ → Terms → ℕ
spread k sizes none = 0
spread k sizes (more t ts) = k * value_of sizes t + spread k sizes ts

abbrev pub ProductsSpread : Type 0
ProductsSpread = (k : ℕ) (sizes : List ℤ) (ts : Terms) → k * total_of sizes ts ≡ spread k sizes ts

-- a greater expression has no lesser floor
abbrev pub FloorsGrow : Type 0
FloorsGrow = (l u : ℤ) (d : ℕ) → 1 ≤ d → l ≤ℤ u → not_below_zero l / d ≤ not_below_zero u / d

-- an expression that is at least d greater, and that isn't below d, has a floor that is at least 1 greater
abbrev pub FloorsFall : Type 0
FloorsFall = (l u : ℤ) (d : ℕ) → 1 ≤ d → pos d ≤ℤ u → (l +ℤ pos d) ≤ℤ u → not_below_zero l / d + 1 ≤ not_below_zero u / d

-- an expression that is at most u over s has at most the floor of u over s times its divisor
abbrev pub FloorsOfCaps : Type 0
FloorsOfCaps = (l u : ℤ) (s d : ℕ) → 1 ≤ s → 1 ≤ d → (pos s *ℤ l) ≤ℤ u → not_below_zero l / d ≤ not_below_zero u / (s * d)
