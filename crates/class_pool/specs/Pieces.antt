-- Bytes that are pieces, one after another.
use Rattle.std.specs.Prelude.{◌≡◌, ℕ, ◌+◌, ◌<◌, ◌^◌, List, [], ◌∷◌, ◌++◌, length}
use Rattle.byteorder.specs.Endian.{big_bytes}
use Rattle.class_pool.specs.Place.{Place}

-- the bytes are pieces in order, one for each element
abbrev pub Each : {A : Type 0} → (List ℕ → A → Type 0) → List ℕ → List A → Type 0
Each Is bytes [] = bytes ≡ []
Each Is bytes (x ∷ xs) = (piece : List ℕ) × (others : List ℕ) × (bytes ≡ piece ++ others) × Is piece x × Each Is others xs

-- a count of two bytes, and so many pieces
pub record Counted {A : Type 0} (Is : List ℕ → A → Type 0) (bytes : List ℕ) (xs : List A) : Type 0 where
  pub pieces : List ℕ
  pub short : length xs < 2 ^ 16
  pub parts : bytes ≡ big_bytes 2 (length xs) ++ pieces
  pub each : Each Is pieces xs

-- the bytes at the place begin with a piece for x, and the next place stands after it
pub record StartsWith {A : Type 0} (Is : List ℕ → A → Type 0) (place : Place) (x : A) (next : Place) : Type 0 where
  pub piece : List ℕ
  pub is : Is piece x
  pub parts : place.rest ≡ piece ++ next.rest
  pub moved : next.at ≡ place.at + length piece
