-- A descriptor cut into pieces: types, each as the text that stands for it, and parentheses (JVMS 4.3.2, 4.3.3). Any
-- text can be cut so, of the grammar or not.
use Rattle.std.specs.Prelude.{◌≡◌, ◌<◌, ℕ, zero, suc, ◌==◌, Bool, false, List, [], ◌∷◌, length, drop, Option, Some, None, if◌then◌else◌}
use Rattle.std.specs.List.{concat}

-- up to the `;`, with it
abbrev pub name_text : List ℕ → List ℕ
name_text [] = []
name_text (b ∷ text) = if b == 59 then b ∷ [] else b ∷ name_text text

-- the piece that a text begins with: `[` stands before the type of an array's elements, and `L` before a name
abbrev pub first_piece : List ℕ → List ℕ
first_piece [] = []
first_piece (b ∷ text) =
    if b == 91 then b ∷ first_piece text
    else if b == 76 then b ∷ name_text text else b ∷ []

-- the pieces, of which there are at most n
abbrev pub pieces_from : ℕ → List ℕ → List (List ℕ)
pieces_from zero text = []
pieces_from (suc n) [] = []
pieces_from (suc n) (b ∷ text) = first_piece (b ∷ text) ∷ pieces_from n (drop (length (first_piece (b ∷ text))) (b ∷ text))

-- all pieces of a text
unfoldable pub pieces : List ℕ → List (List ℕ)
pieces text = pieces_from (length text) text

-- a piece that begins so is a `)`
abbrev pub is_close : List ℕ → Bool
is_close [] = false
is_close (b ∷ text) = b == 41

-- the pieces up to the `)`
abbrev pub before_close : List (List ℕ) → List (List ℕ)
before_close [] = []
before_close (piece ∷ others) = if is_close piece then [] else piece ∷ before_close others

-- the pieces behind the `)`
abbrev pub behind_close : List (List ℕ) → List (List ℕ)
behind_close [] = []
behind_close (piece ∷ others) = if is_close piece then others else behind_close others

-- the types of a text, up to a `)` or its end
unfoldable pub types_of : List ℕ → List (List ℕ)
types_of text = before_close (pieces text)

-- what stands behind the `)` of a text
unfoldable pub behind_types : List ℕ → List ℕ
behind_types text = concat (behind_close (pieces text))

-- the types of a method's parameters, in order: they stand behind the `(`
abbrev pub parameters_of : List ℕ → List (List ℕ)
parameters_of desc = types_of (drop 1 desc)

-- the type of a method's result, or `V`
abbrev pub result_of : List ℕ → List ℕ
result_of desc = behind_types (drop 1 desc)

-- the first type of a text and what stands behind it, or the text has no type before a `)`
abbrev pub IsFirstType : Option (List ℕ × List ℕ) → List ℕ → Type 0
IsFirstType None text = (types_of text ≡ []) × (behind_types text ≡ drop 1 text)
IsFirstType (Some first) text =
    (types_of text ≡ first.0 ∷ types_of first.1) × ((length first.1 < length text) × (behind_types text ≡ behind_types first.1))
