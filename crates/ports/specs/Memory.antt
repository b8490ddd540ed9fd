-- Files and bytes in memory, where some calls are made to fail.
use Rattle.std.specs.Prelude.{◌==◌, ℕ, List, [], ◌∷◌, length, take, Option, Some, None, Result, Ok, Err, nat_lt, if◌then◌else◌}
use Rattle.std.specs.List.{list_any}
use Rattle.ports.specs.declared.shelf.Fetch.{Fetch}
use Rattle.ports.specs.declared.shelf.Fetch.TheVariants.{Failed, TooLong}
use Rattle.ports.specs.Shelf.{Blamed, ShelfState, bytes_at, longest_file, raised}
use Rattle.ports.specs.Sink.{SinkState}

-- the number of the call that comes next, counted from 1
abbrev pub next_call : ℕ → ℕ
next_call calls = raised calls

-- The files as pairs of a path and its bytes, the numbers of the calls that are to fail, how many calls
-- were made, and the counts.
pub record HeldFiles : Type 0 where
  pub files : List (List ℕ × List ℕ)
  pub fails : List ℕ
  pub calls : ℕ
  pub faults : Blamed
  pub longs : Blamed

-- no call was made yet
abbrev pub unasked : List (List ℕ × List ℕ) → List ℕ → HeldFiles
unasked files fails =
    record { files = files; fails = fails; calls = 0; faults = record { count = 0; path = [] }; longs = record { count = 0; path = [] } }

-- what these files mean as a shelf
abbrev pub shelf_of : HeldFiles → ShelfState
shelf_of held = record { files = Some held.files; faults = held.faults; longs = held.longs }

abbrev pub fetched_of : Option (List ℕ) → Result (List ℕ) Fetch
fetched_of None = Err Failed
fetched_of (Some bytes) = if nat_lt longest_file (length bytes) then Err TooLong else Ok bytes

-- What the next call answers, unless memory runs out: one that is to fail fails, and one on a path that
-- isn't held.
abbrev pub fetched : HeldFiles → List ℕ → Result (List ℕ) Fetch
fetched held path =
    if list_any (λ call. call == next_call held.calls) held.fails then Err Failed else fetched_of (bytes_at held.files path)

-- The bytes so far, the numbers of the calls that are to fail, each with how many bytes it takes before,
-- how many calls were made, and how many failed.
pub record HeldBytes : Type 0 where
  pub bytes : List ℕ
  pub fails : List (ℕ × ℕ)
  pub calls : ℕ
  pub faults : ℕ

-- what these bytes mean as a sink
abbrev pub sink_of : HeldBytes → SinkState
sink_of held = record { content = Some held.bytes; calls = held.calls; faults = held.faults }

-- how many bytes the call with this number takes before it fails, where it is to fail
abbrev pub taken_at : List (ℕ × ℕ) → ℕ → Option ℕ
taken_at [] call = None
taken_at (fail ∷ fails) call = if fail.0 == call then Some fail.1 else taken_at fails call

-- what the next call takes, unless memory runs out: all, or a front where it is to fail
abbrev pub taken_of : Option ℕ → List ℕ → List ℕ
taken_of None piece = piece
taken_of (Some n) piece = take n piece

-- how many bytes the next call takes before it fails, where it is to fail
abbrev pub next_fail : HeldBytes → Option ℕ
next_fail held = taken_at held.fails (next_call held.calls)
