-- how the table of readers comes about: how often each point's fact is read, and what stands so far
use Rattle.std.specs.Prelude.{◌≡◌, ℕ, ◌+◌, ◌<◌, ◌≤◌, ◌==◌, if◌then◌else◌, Option, Some, None, List, length, All, slice_index}
use Rattle.std.proofs.Common.{zero, suc}
use Rattle.fix_engine.specs.Problem.{Problem}

-- 1 at j, and 0 elsewhere
abbrev pub hit : ℕ → ℕ → ℕ
hit j k = (if j == k then 1 else 0)

abbrev pub also_hit : Option ℕ → ℕ → ℕ
also_hit None k = 0
also_hit (Some q) k = hit q k

-- how often the first n edges read the fact at k
abbrev pub reads_of : {Fact : Type 0} → Problem Fact → ℕ → ℕ → ℕ
reads_of p zero k = 0
reads_of p (suc n) k = reads_of p n k + hit (p.source n) k + also_hit (p.also n) k

-- the sum of f at each number below k
abbrev pub sum_below : (ℕ → ℕ) → ℕ → ℕ
sum_below f zero = 0
sum_below f (suc k) = sum_below f k + f k

-- how often the first n edges read each point's fact, by point, and a number more
pub record AreCounts {Fact : Type 0} (p : Problem Fact) (n : ℕ) (counts : List ℕ) : Type 0 where
  pub count : length counts ≡ p.points + 1
  pub at : (k : ℕ) → k < p.points + 1 → slice_index counts k ≡ reads_of p n k

-- an edge stands in the part of the list that a point's row has filled so far, from its offset on
abbrev pub IsPlaced : (ℕ → ℕ) → List ℕ → List ℕ → ℕ → ℕ → Type 0
IsPlaced all offsets list k e = (j : ℕ) × (slice_index offsets k ≤ j) × (j < sum_below all (suc k)) × (slice_index list j ≡ e)

-- Rows that are filled from their ends down, of `done` edges by point so far and of `all` in the end.
pub record AreFilled (all done : ℕ → ℕ) (points : ℕ) (offsets list : List ℕ) : Type 0 where
  pub count : length offsets ≡ points
  pub room : length list ≡ sum_below all points
  pub at : (k : ℕ) → k < points → slice_index offsets k + done k ≡ sum_below all (suc k)

-- the first n edges stand in the rows of the points that they read
pub record ArePlaced {Fact : Type 0} (p : Problem Fact) (n : ℕ) (offsets list : List ℕ) : Type 0 where
  pub filled : AreFilled (reads_of p p.edges) (reads_of p n) (p.points + 1) offsets list
  pub source : (e : ℕ) → e < n → IsPlaced (reads_of p p.edges) offsets list (p.source e) e
  pub also : (e q : ℕ) → e < n → p.also e ≡ Some q → IsPlaced (reads_of p p.edges) offsets list q e
  pub within : All (λ e. e < p.edges) list
