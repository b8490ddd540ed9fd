-- How many bytes pieces take, and how a text begins with one.
use Rattle.std.specs.Prelude.{◌≡◌, ◌<◌, ℕ, suc, ◌==◌, List, [], ◌∷◌, ◌++◌, length, Option, Some, None, if◌then◌else◌}
use Rattle.descriptors.specs.Pieces.{pieces}

-- how many bytes a name takes, with its `;`
abbrev pub name_size : List ℕ → ℕ
name_size [] = 0
name_size (b ∷ text) = if b == 59 then 1 else suc (name_size text)

-- how many bytes the piece takes that a text begins with
abbrev pub piece_size : List ℕ → ℕ
piece_size [] = 0
piece_size (b ∷ text) =
    if b == 91 then suc (piece_size text)
    else if b == 76 then suc (name_size text) else 1

-- the first piece of a text and what stands behind it, or the text is empty
abbrev pub IsFirstPiece : Option (List ℕ × List ℕ) → List ℕ → Type 0
IsFirstPiece None text = text ≡ []
IsFirstPiece (Some first) text = (pieces text ≡ first.0 ∷ pieces first.1) × ((text ≡ first.0 ++ first.1) × (length first.1 < length text))
