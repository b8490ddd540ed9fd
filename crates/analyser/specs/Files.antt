-- The files that are fetched.
use Rattle.std.specs.Prelude.{◌≡◌, ◌<◌, ◌≤◌, ℕ, List, length, take, Option, Some, slice_get, sum_by}
use Rattle.std.specs.List.{AllZip, AllByRecursion}
use Rattle.class_pool.specs.Place.{IsBytes}
use Rattle.cost_words.specs.declared.command.PathWord.{PathWord}
use Rattle.ports.specs.Shelf.{ShelfState, Holds, HoldsLonger, Blames, longest_file}
use Rattle.analyser.specs.declared.fetching.File.{File}

-- how many files are named at most
abbrev pub most_files : ℕ
most_files = 1024

-- how many bytes all fetched files have together at most
abbrev pub most_bytes : ℕ
most_bytes = 268435456

-- these files stand at the paths, where the shelf tells what it holds, each with the word of its path and no
-- longer than a file may be
abbrev pub HoldsAll : Option (List (List ℕ × List ℕ)) → List PathWord → List File → Type 0
HoldsAll told paths files =
    AllZip (λ path file. (file.word ≡ path.index) × Holds told path.path file.bytes × (length file.bytes ≤ longest_file)) paths files

-- what the files hold are bytes, numbers below 256
abbrev pub HoldBytes : List File → Type 0
HoldBytes files = AllByRecursion (λ file. IsBytes file.bytes) files

-- the shelf tells what it holds
pub record Tells (shelf : ShelfState) : Type 0 where
  pub told : List (List ℕ × List ℕ)
  pub is_told : shelf.files ≡ Some told

-- how many bytes the files have together
abbrev pub total : List File → ℕ
total files = sum_by (λ file. length file.bytes) files

-- the first files were fetched, so many, and keep the limit
pub record IsFetched (shelf : ShelfState) (paths : List PathWord) (count : ℕ) : Type 0 where
  pub files : List File
  pub held : HoldsAll shelf.files (take count paths) files
  pub fits : total files ≤ most_bytes

-- the shelf's count of faults rose, the path beside it is the one of this word, and the other count stands as it
-- stood
pub record IsFailedAt (before after : ShelfState) (path : PathWord) (word : ℕ) : Type 0 where
  pub is_word : word ≡ path.index
  pub blames : Blames before.faults after.faults path.path
  pub longs : after.longs ≡ before.longs

-- the shelf's count of long files rose, the path beside it is the one of this word, where the shelf tells what
-- it holds, that is more there than a file may have, and the other count stands as it stood
pub record IsOverlongAt (before after : ShelfState) (path : PathWord) (word : ℕ) : Type 0 where
  pub is_word : word ≡ path.index
  pub blames : Blames before.longs after.longs path.path
  pub longer : HoldsLonger before.files path.path
  pub faults : after.faults ≡ before.faults

-- so it was at one of the paths, and the files before it were fetched
pub record IsFailed (before after : ShelfState) (paths : List PathWord) (word : ℕ) : Type 0 where
  pub place : ℕ
  pub path : PathWord
  pub stands : slice_get paths place ≡ Some path
  pub failed : IsFailedAt before after path word
  pub front : IsFetched before paths place

pub record IsOverlong (before after : ShelfState) (paths : List PathWord) (word : ℕ) : Type 0 where
  pub place : ℕ
  pub path : PathWord
  pub stands : slice_get paths place ≡ Some path
  pub overlong : IsOverlongAt before after path word
  pub front : IsFetched before paths place

-- more bytes than a file may have stand at the path of this word, and the files before it can be fetched
pub record IsFirstLong (shelf : ShelfState) (paths : List PathWord) (word : ℕ) : Type 0 where
  pub place : ℕ
  pub path : PathWord
  pub stands : slice_get paths place ≡ Some path
  pub is_word : word ≡ path.index
  pub longer : HoldsLonger shelf.files path.path
  pub front : IsFetched shelf paths place

-- the first files, so many, have too many bytes together
pub record IsTooBig (shelf : ShelfState) (paths : List PathWord) : Type 0 where
  pub count : ℕ
  pub files : List File
  pub held : HoldsAll shelf.files (take count paths) files
  pub big : most_bytes < total files
