use Rattle.std.specs.Prelude.{◌≡◌, ℕ, ◌+◌, ◌<◌, ◌≤◌, Bool, true, false, List, length, Contains, slice_index_or}

-- edges that wait to be visited, in order, of so many edges
pub record Waiting : Type 0 where
  pub edges : ℕ
  pub list : List ℕ

-- the list has edges alone, and each edge that is marked
pub record IsMarked (marks : List Bool) (list : List ℕ) : Type 0 where
  pub within : (e : ℕ) → Contains list e → e < length marks
  pub marked : (e : ℕ) → slice_index_or marks e false ≡ true → Contains list e

-- whatever waited waits still, and at most so many more do
pub record Grows (before after : Waiting) (by : ℕ) : Type 0 where
  pub edges : after.edges ≡ before.edges
  pub kept : (e : ℕ) → Contains before.list e → Contains after.list e
  pub room : length after.list ≤ length before.list + by
