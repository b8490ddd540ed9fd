-- What a sink takes before it fails.
use Rattle.std.proofs.Common.{◌≡◌, ℕ, List, ◌++◌, take, drop, Option, Some, refl, sym, take-append-drop}
use Rattle.ports.specs.Sink.{AppendsPrefix}

-- so many bytes of the piece are a front of it
pub takes_front : (old : Option (List ℕ)) (bytes new piece : List ℕ) (n : ℕ) → Some bytes ≡ old → new ≡ bytes ++ take n piece → AppendsPrefix old piece (Some new)
takes_front old bytes new piece n told added = (take n piece, drop n piece, sym (take-append-drop n piece), rw (← told, added) refl)
