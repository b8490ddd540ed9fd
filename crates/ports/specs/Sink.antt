-- What a sink of bytes means.
use Rattle.std.specs.Prelude.{◌≡◌, ◌⊎◌, ℕ, ◌++◌, List, Option}
use Rattle.std.specs.Option.{option_map}
use Rattle.ports.specs.Shelf.{raised}

-- the bytes that it has, where it tells them, how often it was called, and how often it failed
pub record SinkState : Type 0 where
  pub content : Option (List ℕ)
  pub calls : ℕ
  pub faults : ℕ

-- it was called once between, whatever came of it: where the count stood at its type's end, it still does
abbrev pub IsCalledOnce : SinkState → SinkState → Type 0
IsCalledOnce old new = new.calls ≡ raised old.calls

-- or not at all
abbrev pub IsCalledAtMostOnce : SinkState → SinkState → Type 0
IsCalledAtMostOnce old new = (new.calls ≡ old.calls) ⊎ IsCalledOnce old new

-- the piece was appended to what is told
abbrev pub Appends : Option (List ℕ) → List ℕ → Option (List ℕ) → Type 0
Appends old piece new = new ≡ option_map (λ bytes. bytes ++ piece) old

-- the front of the piece was appended
abbrev pub AppendsPrefix : Option (List ℕ) → List ℕ → Option (List ℕ) → Type 0
AppendsPrefix old piece new = (front : List ℕ) × (back : List ℕ) × (piece ≡ front ++ back) × Appends old front new
