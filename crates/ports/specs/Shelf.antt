-- What a shelf of files means.
use Rattle.std.specs.Prelude.{◌≡◌, ◌⊎◌, ◌+◌, ◌-◌, ◌<◌, ◌^◌, ℕ, Bool, List, [], ◌∷◌, length, Option, Some, None, nat_eq, if◌then◌else◌, MatchOption, min}
use lib.Pointwise.{pointwise}

-- a count that never falls, and the path of the last call that raised it
pub record Blamed : Type 0 where
  pub count : ℕ
  pub path : List ℕ

-- The files as pairs of a path and its bytes, where the shelf tells them: of two pairs with one path the
-- first counts. Beside them its counts of faults and of files that were too long.
pub record ShelfState : Type 0 where
  pub files : Option (List (List ℕ × List ℕ))
  pub faults : Blamed
  pub longs : Blamed

-- nothing went wrong yet
abbrev pub fresh : Option (List (List ℕ × List ℕ)) → ShelfState
fresh files = record { files = files; faults = record { count = 0; path = [] }; longs = record { count = 0; path = [] } }

-- how many bytes a file may have
abbrev pub longest_file : ℕ
longest_file = 16777216

-- a count that is raised once, and stays at its type's end
abbrev pub raised : ℕ → ℕ
raised count = min (count + 1) (2 ^ 64 - 1)

-- a count rose: one that stands at its type's end counts as risen
abbrev pub Rises : ℕ → ℕ → Type 0
Rises old new = (old < new) ⊎ (new ≡ 2 ^ 64 - 1)

-- the count rose, and the path beside it is this one
abbrev pub Blames : Blamed → Blamed → List ℕ → Type 0
Blames old new path = Rises old.count new.count × (new.path ≡ path)

abbrev pub is_path : List ℕ → List ℕ → Bool
is_path a b = pointwise nat_eq a b

-- the bytes of the first pair with this path
abbrev pub bytes_at : List (List ℕ × List ℕ) → List ℕ → Option (List ℕ)
bytes_at [] path = None
bytes_at (file ∷ files) path = if is_path file.0 path then Some file.1 else bytes_at files path

-- these bytes stand at the path, where the shelf tells what it holds
abbrev pub Holds : Option (List (List ℕ × List ℕ)) → List ℕ → List ℕ → Type 0
Holds files path bytes = MatchOption files (Unit {0}) (λ told. bytes_at told path ≡ Some bytes)

-- more bytes than a file may have stand at the path, where the shelf tells what it holds
abbrev pub HoldsLonger : Option (List (List ℕ × List ℕ)) → List ℕ → Type 0
HoldsLonger files path = MatchOption files (Unit {0}) (λ told. (bytes : List ℕ) × (bytes_at told path ≡ Some bytes) × (longest_file < length bytes))
