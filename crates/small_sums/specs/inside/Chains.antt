-- Where keys stand in a list of keys, and how the places of each key are linked.
use Rattle.std.specs.Prelude.{◌≡◌, ◌≢◌, ℕ, suc, ◌%◌, ◌<◌, ◌≤◌, List, length, slice_index}

-- the last place before `last_end` at which the key stands
pub record IsLastBefore (keys : List ℕ) (key last_end place : ℕ) : Type 0 where
  pub within : place < last_end
  pub there : slice_index keys place ≡ key
  pub behind : (i : ℕ) → place < i → i < last_end → slice_index keys i ≢ key

-- the key stands at no place before `last_end`
pub record IsNowhereBefore (keys : List ℕ) (key last_end : ℕ) : Type 0 where
  pub nowhere : (i : ℕ) → i < last_end → slice_index keys i ≢ key

-- Of the first n keys, each link is one more than a place in the same bucket, or 0, and leaves out no place of the bucket.
pub record AreLinked (n buckets : ℕ) (keys links : List ℕ) : Type 0 where
  pub count : length links ≡ length keys
  pub within : (j : ℕ) → j < n → slice_index links j ≤ j
  pub same : (j i : ℕ) → j < n → slice_index links j ≡ suc i → slice_index keys i % buckets ≡ slice_index keys j % buckets
  pub hold : (j i : ℕ) → j < n → i < j → slice_index keys i % buckets ≡ slice_index keys j % buckets → i < slice_index links j

-- Of the first n keys, each head is one more than the last place in its bucket, or 0.
pub record AreHeads (n buckets : ℕ) (keys heads : List ℕ) : Type 0 where
  pub some : 0 < buckets
  pub count : length heads ≡ buckets
  pub within : (b : ℕ) → slice_index heads b ≤ n
  pub same : (b i : ℕ) → b < buckets → slice_index heads b ≡ suc i → slice_index keys i % buckets ≡ b
  pub hold : (i : ℕ) → i < n → i < slice_index heads (slice_index keys i % buckets)

pub record IsChained (keys heads links : List ℕ) : Type 0 where
  pub heads_are : AreHeads (length keys) (length heads) keys heads
  pub links_are : AreLinked (length keys) (length heads) keys links
