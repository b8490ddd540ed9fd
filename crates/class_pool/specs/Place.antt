-- A place in a file, and what reading at it takes.
use Rattle.std.specs.Prelude.{ℕ, ◌+◌, ◌<◌, List, length, drop, slice_index, Option, Some, None, nat_lt, if◌then◌else◌}
use Rattle.byteorder.specs.Endian.{big_number}

-- how many bytes stand before the place, counted from the file's first byte, and the bytes from it on
pub record Place : Type 0 where
  pub at : ℕ
  pub rest : List ℕ

-- where the bytes end
abbrev pub end_of : Place → ℕ
end_of place = place.at + length place.rest

-- the place n bytes further on
abbrev pub after : ℕ → Place → Place
after n place = record { at = place.at + n; rest = drop n place.rest }

-- the number in the next n bytes, the highest first, where there are so many
abbrev pub number_at : ℕ → Place → Option ℕ
number_at n place = if nat_lt (length place.rest) n then None else Some (big_number n place.rest)

-- the numbers are bytes
abbrev pub IsBytes : List ℕ → Type 0
IsBytes bytes = (i : ℕ) → slice_index bytes i < 256
