use Rattle.std.specs.Prelude.{◌≡◌, ℕ, ◌+◌, ◌<◌, ◌≤◌, Option, Some, None, List, [], ◌∷◌, length, Contains, slice_index, slice_index_or, slice_range, sum_by}
use Rattle.std.proofs.Common.{zero, suc}
use Rattle.fix_engine.specs.Problem.{Problem}

-- the edges that read a point's fact, of the table of all points
abbrev pub readers_of : List (List ℕ) → ℕ → List ℕ
readers_of rows k = slice_index_or rows k []

-- how many facts an edge reads, by its second point
abbrev pub facts_read : Option ℕ → ℕ
facts_read None = 1
facts_read (Some q) = 2

-- how many facts the first n edges read, all together
abbrev pub reads : {Fact : Type 0} → Problem Fact → ℕ → ℕ
reads p zero = 0
reads p (suc n) = reads p n + facts_read (p.also n)

-- the table has, of the first n edges, those that read each point's fact
pub record AreReaders {Fact : Type 0} (p : Problem Fact) (n : ℕ) (rows : List (List ℕ)) : Type 0 where
  pub count : length rows ≡ p.points
  pub source : (e : ℕ) → e < n → Contains (readers_of rows (p.source e)) e
  pub also : (e q : ℕ) → e < n → p.also e ≡ Some q → Contains (readers_of rows q) e
  pub within : (k e : ℕ) → Contains (readers_of rows k) e → e < n
  pub total : sum_by (λ (row : List ℕ). length row) rows ≡ reads p n

-- each edge that reads a point's fact waits
pub record AllWait {Fact : Type 0} (p : Problem Fact) (k : ℕ) (waiting : List ℕ) : Type 0 where
  pub source : (e : ℕ) → e < p.edges → p.source e ≡ k → Contains waiting e
  pub also : (e : ℕ) → e < p.edges → p.also e ≡ Some k → Contains waiting e

-- the rows that stand one behind the other in a list: from an offset to the first of these ends, from
-- there to the next, and so on
abbrev pub rows_from : ℕ → List ℕ → List ℕ → List (List ℕ)
rows_from a [] list = []
rows_from a (b ∷ ends) list = slice_range list a b ∷ rows_from b ends list

-- the rows between one offset and the next
abbrev pub rows_of : List ℕ → List ℕ → List (List ℕ)
rows_of [] list = []
rows_of (a ∷ ends) list = rows_from a ends list

-- offsets into a list don't fall
pub record AreOffsets (offsets list : List ℕ) : Type 0 where
  pub rising : (k : ℕ) → suc k < length offsets → slice_index offsets k ≤ slice_index offsets (suc k)
  pub within : (k : ℕ) → k < length offsets → slice_index offsets k ≤ length list
