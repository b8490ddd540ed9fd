-- Bytes that are added at the end of others.
use Rattle.std.specs.Prelude.{◌≡◌, ℕ, List, ◌++◌, Result, OnOk}

-- the bytes are added, where memory is there
abbrev pub Puts : {E : Type 0} → Result (Unit {0}) E → List ℕ → List ℕ → List ℕ → Type 0
Puts result old new bytes = OnOk result (new ≡ old ++ bytes)
