-- A text is its pieces, one by one.
use Rattle.std.proofs.Common.{◌≡◌, ℕ, zero, suc, ◌<◌, ◌≤◌, Bool, true, false, List, [], ◌∷◌, ◌++◌, length, take, drop, get_or, Option, Some, None, refl, sym, ◌∙◌, ap, subst, append_assoc, arith}
use Rattle.std.specs.Prelude.{◌==◌, if◌then◌else◌}
use Rattle.std.specs.List.{concat}
use Rattle.std.proofs.lemmas.Bool.{eqb-true, eqb-false}
use Rattle.std.proofs.lemmas.List.{length-drop, length-take, take-append-drop}
use Rattle.descriptors.specs.Pieces.{name_text, first_piece, pieces_from, pieces, is_close, before_close, behind_close, types_of, behind_types, IsFirstType}
use Rattle.descriptors.specs.Sizes.{name_size, piece_size, IsFirstPiece}

-- ---- names

name_long : (n : ℕ) (text : List ℕ) (ends : Bool) → n ≤ length text → (if ends then 1 else suc n) ≤ suc (length text)
name_long n text true within = omega arith
name_long n text false within = omega (arith, within)

pub name_within : (text : List ℕ) → name_size text ≤ length text
name_within [] = omega arith
name_within (b ∷ text) = name_long (name_size text) text (b == 59) (name_within text)

name_part : (b : ℕ) (text : List ℕ) (ends : Bool) → name_text text ≡ take (name_size text) text
    → (if ends then b ∷ [] else b ∷ name_text text) ≡ take (if ends then 1 else suc (name_size text)) (b ∷ text)
name_part b text true is = refl
name_part b text false is = ap (λ (rest : List ℕ). b ∷ rest) is

name_taken : (text : List ℕ) → name_text text ≡ take (name_size text) text
name_taken [] = refl
name_taken (b ∷ text) = name_part b text (b == 59) (name_taken text)

-- ---- pieces

piece_long : (n m : ℕ) (text : List ℕ) (array object : Bool) → n ≤ length text → m ≤ length text
    → (if array then suc n else if object then suc m else 1) ≤ suc (length text)
piece_long n m text true object within named = omega (arith, within)
piece_long n m text false true within named = omega (arith, named)
piece_long n m text false false within named = omega arith

pub piece_within : (text : List ℕ) → piece_size text ≤ length text
piece_within [] = omega arith
piece_within (b ∷ text) = piece_long (piece_size text) (name_size text) text (b == 91) (b == 76) (piece_within text) (name_within text)

some_long : (n m : ℕ) (array object : Bool) → 1 ≤ (if array then suc n else if object then suc m else 1)
some_long n m true object = omega arith
some_long n m false true = omega arith
some_long n m false false = omega arith

-- a piece takes a byte at least
piece_some : (b : ℕ) (text : List ℕ) → 1 ≤ piece_size (b ∷ text)
piece_some b text = some_long (piece_size text) (name_size text) (b == 91) (b == 76)

piece_part : (b : ℕ) (text : List ℕ) (array object : Bool) → first_piece text ≡ take (piece_size text) text
    → (if array then b ∷ first_piece text else if object then b ∷ name_text text else b ∷ [])
    ≡ take (if array then suc (piece_size text) else if object then suc (name_size text) else 1) (b ∷ text)
piece_part b text true object is = ap (λ (rest : List ℕ). b ∷ rest) is
piece_part b text false true is = ap (λ (rest : List ℕ). b ∷ rest) (name_taken text)
piece_part b text false false is = refl

piece_taken : (text : List ℕ) → first_piece text ≡ take (piece_size text) text
piece_taken [] = refl
piece_taken (b ∷ text) = piece_part b text (b == 91) (b == 76) (piece_taken text)

piece_length : (text : List ℕ) → length (first_piece text) ≡ piece_size text
piece_length text = ap length (piece_taken text) ∙ omega (arith, length-take (piece_size text) text, piece_within text)

behind_short : (b : ℕ) (text : List ℕ) → length (drop (length (first_piece (b ∷ text))) (b ∷ text)) ≤ length text
behind_short b text = omega (arith, length-drop (length (first_piece (b ∷ text))) (b ∷ text), piece_length (b ∷ text), piece_some b text)

-- ---- lists of pieces

pieces_same : (n m : ℕ) (text : List ℕ) → length text ≤ n → length text ≤ m → pieces_from n text ≡ pieces_from m text
pieces_same zero zero text few fewer = refl
pieces_same zero (suc m) [] few fewer = refl
pieces_same zero (suc m) (b ∷ text) few fewer = absurd (omega (arith, few))
pieces_same (suc n) zero [] few fewer = refl
pieces_same (suc n) zero (b ∷ text) few fewer = absurd (omega (arith, fewer))
pieces_same (suc n) (suc m) [] few fewer = refl
pieces_same (suc n) (suc m) (b ∷ text) few fewer =
    rw (pieces_same n m (drop (length (first_piece (b ∷ text))) (b ∷ text)) (omega (arith, behind_short b text, few)) (omega (arith, behind_short b text, fewer))) refl

pub no_pieces : pieces [] ≡ []
unfolding pieces
no_pieces = refl

-- the first piece, and those of what stands behind it
pub next_piece : (b : ℕ) (text : List ℕ) → pieces (b ∷ text) ≡ first_piece (b ∷ text) ∷ pieces (drop (length (first_piece (b ∷ text))) (b ∷ text))
unfolding pieces
next_piece b text =
    let rest : List ℕ = drop (length (first_piece (b ∷ text))) (b ∷ text) in
    ap (λ (others : List (List ℕ)). first_piece (b ∷ text) ∷ others) (pieces_same (length text) (length rest) rest (behind_short b text) (omega arith))

-- a text that begins with a piece
pub begins_with : (b : ℕ) (text piece rest : List ℕ) → first_piece (b ∷ text) ≡ piece → drop (length piece) (b ∷ text) ≡ rest → pieces (b ∷ text) ≡ piece ∷ pieces rest
begins_with b text piece rest first behind =
    next_piece b text
    ∙ ap (λ (p : List ℕ). p ∷ pieces (drop (length p) (b ∷ text))) first
    ∙ ap (λ (r : List ℕ). piece ∷ pieces r) behind

pub not_empty : (text : List ℕ) (empty : Bool) → empty ≡ (length text == 0) → empty ≡ false → 1 ≤ length text
not_empty [] empty is some = absurd cc
not_empty (b ∷ text) empty is some = omega arith

pub first_at : (text : List ℕ) (n : ℕ) → 1 ≤ length text → n ≡ piece_size text → IsFirstPiece (Some (take n text, drop n text)) text
first_at [] n some size = absurd (omega (arith, some))
first_at (b ∷ text) n some size =
    let first : first_piece (b ∷ text) ≡ take n (b ∷ text) = piece_taken (b ∷ text) ∙ ap (λ (m : ℕ). take m (b ∷ text)) (sym size) in
    let long : length (take n (b ∷ text)) ≡ n = ap length (sym first) ∙ piece_length (b ∷ text) ∙ sym size in (
      begins_with b text (take n (b ∷ text)) (drop n (b ∷ text)) first (ap (λ (m : ℕ). drop m (b ∷ text)) long),
      (sym (take-append-drop n (b ∷ text)), omega (arith, length-drop n (b ∷ text), piece_some b text, size)),
    )

-- ---- types

before_by : (piece : List ℕ) (others : List (List ℕ)) (close : Bool) → close ≡ false
    → (if close then [] else piece ∷ before_close others) ≡ piece ∷ before_close others
before_by piece others true is = absurd cc
before_by piece others false is = refl

behind_by : (piece : List ℕ) (others : List (List ℕ)) (close : Bool) → close ≡ false
    → (if close then others else behind_close others) ≡ behind_close others
behind_by piece others true is = absurd cc
behind_by piece others false is = refl

-- a piece that is no `)` is the first type
pub types_go : (text piece rest : List ℕ) → pieces text ≡ piece ∷ pieces rest → is_close piece ≡ false → types_of text ≡ piece ∷ types_of rest
unfolding types_of
types_go text piece rest is other = ap before_close is ∙ before_by piece (pieces rest) (is_close piece) other

pub behind_goes : (text piece rest : List ℕ) → pieces text ≡ piece ∷ pieces rest → is_close piece ≡ false → behind_types text ≡ behind_types rest
unfolding behind_types
behind_goes text piece rest is other = ap (λ (ps : List (List ℕ)). concat (behind_close ps)) is ∙ ap concat (behind_by piece (pieces rest) (is_close piece) other)

pub types_end : (rest : List ℕ) → types_of (41 ∷ rest) ≡ []
unfolding types_of
types_end rest = ap before_close (begins_with 41 rest (41 ∷ []) rest refl refl)

pub types_none : types_of [] ≡ []
unfolding types_of
types_none = ap before_close no_pieces

pub behind_none : behind_types [] ≡ []
unfolding behind_types
behind_none = ap (λ (ps : List (List ℕ)). concat (behind_close ps)) no_pieces

-- ---- pieces joined

joined_by : (n : ℕ) (text : List ℕ) → length text ≤ n → concat (pieces text) ≡ text
joined_by n [] few = ap concat no_pieces
joined_by zero (b ∷ text) few = absurd (omega (arith, few))
joined_by (suc n) (b ∷ text) few =
    let piece : List ℕ = first_piece (b ∷ text) in
    let rest : List ℕ = drop (length piece) (b ∷ text) in
    let size : piece ≡ take (length piece) (b ∷ text) = piece_taken (b ∷ text) ∙ ap (λ (m : ℕ). take m (b ∷ text)) (sym (piece_length (b ∷ text))) in
    ap concat (next_piece b text)
    ∙ ap (λ (t : List ℕ). piece ++ t) (joined_by n rest (omega (arith, behind_short b text, few)))
    ∙ ap (λ (p : List ℕ). p ++ rest) size
    ∙ take-append-drop (length piece) (b ∷ text)

pub joined : (text : List ℕ) → concat (pieces text) ≡ text
joined text = joined_by (length text) text (omega arith)

pub behind_end : (rest : List ℕ) → behind_types (41 ∷ rest) ≡ rest
unfolding behind_types
behind_end rest = ap (λ (ps : List (List ℕ)). concat (behind_close ps)) (begins_with 41 rest (41 ∷ []) rest refl refl) ∙ joined rest

-- ---- the first type

no_close_by : (b : ℕ) (close : Bool) → (b == 41) ≡ close → (b ≡ 41 → ⊥) → (b == 41) ≡ false
no_close_by b true is other = absurd (other (eqb-true b 41 is))
no_close_by b false is other = is

-- a piece at the front of a text that begins with no `)` is no `)`
open_piece : (b : ℕ) (text piece rest : List ℕ) → (b ≡ 41 → ⊥) → b ∷ text ≡ piece ++ rest → length rest < length (b ∷ text) → is_close piece ≡ false
open_piece b text [] rest other parts short = absurd (omega (arith, ap length parts, short))
open_piece b text (c ∷ piece) rest other parts short =
    let same : b ≡ c = ap (λ (t : List ℕ). get_or t 0 0) parts in
    subst (λ (x : ℕ). (x == 41) ≡ false) same (no_close_by b (b == 41) refl other)

pub first_none : (text : List ℕ) → length text < 1 → IsFirstType None text
first_none [] e = (types_none, behind_none)
first_none (b ∷ text) e = absurd (omega (arith, e))

pub first_ends : (text : List ℕ) → 1 ≤ length text → get_or text 0 0 ≡ 41 → IsFirstType None text
first_ends [] some at = absurd (omega (arith, some))
first_ends (b ∷ text) some at =
    let same : 41 ≡ b = sym at in
    subst (λ (x : ℕ). IsFirstType None (x ∷ text)) same (types_end text, behind_end text)

first_goes : (text piece rest : List ℕ) → (get_or text 0 0 ≡ 41 → ⊥) → IsFirstPiece (Some (piece, rest)) text → IsFirstType (Some (piece, rest)) text
first_goes [] piece rest other first = absurd (omega (arith, first.1.1))
first_goes (b ∷ text) piece rest other first =
    let goes = open_piece b text piece rest other first.1.0 first.1.1 in
    (types_go (b ∷ text) piece rest first.0 goes, (first.1.1, behind_goes (b ∷ text) piece rest first.0 goes))

closed_end : (b : ℕ) (text : List ℕ) → b ≡ 41 → b ∷ text ≡ concat (types_of (b ∷ text)) ++ 41 ∷ behind_types (b ∷ text)
closed_end b text at =
    subst (λ (x : ℕ). x ∷ text ≡ concat (types_of (x ∷ text)) ++ 41 ∷ behind_types (x ∷ text)) (sym at)
    (ap (λ (t : List ℕ). 41 ∷ t) (sym (behind_end text)) ∙ ap (λ (ts : List (List ℕ)). concat ts ++ 41 ∷ behind_types (41 ∷ text)) (sym (types_end text)))

closed_on : (text piece rest : List ℕ) → IsFirstPiece (Some (piece, rest)) text → is_close piece ≡ false
    → rest ≡ concat (types_of rest) ++ 41 ∷ behind_types rest → text ≡ concat (types_of text) ++ 41 ∷ behind_types text
closed_on text piece rest first other is =
    first.1.0
    ∙ ap (λ (t : List ℕ). piece ++ t) is
    ∙ sym (append_assoc piece (concat (types_of rest)) (41 ∷ behind_types rest))
    ∙ ap (λ (ts : List (List ℕ)). concat ts ++ 41 ∷ behind_types rest) (sym (types_go text piece rest first.0 other))
    ∙ ap (λ (r : List ℕ). concat (types_of text) ++ 41 ∷ r) (sym (behind_goes text piece rest first.0 other))

closed_at : (n b : ℕ) (text : List ℕ) (close : Bool) → (b == 41) ≡ close → length (b ∷ text) ≤ suc n → (behind_types (b ∷ text) ≡ [] → ⊥)
    → ((t : List ℕ) → length t ≤ n → (behind_types t ≡ [] → ⊥) → t ≡ concat (types_of t) ++ 41 ∷ behind_types t)
    → b ∷ text ≡ concat (types_of (b ∷ text)) ++ 41 ∷ behind_types (b ∷ text)
closed_at n b text true is few some others = closed_end b text (eqb-true b 41 is)
closed_at n b text false is few some others =
    let size : ℕ = piece_size (b ∷ text) in
    let piece : List ℕ = take size (b ∷ text) in
    let rest : List ℕ = drop size (b ∷ text) in
    let first : IsFirstPiece (Some (piece, rest)) (b ∷ text) = first_at (b ∷ text) size (omega arith) refl in
    let other = open_piece b text piece rest (eqb-false b 41 is) first.1.0 first.1.1 in
    closed_on (b ∷ text) piece rest first other (others rest (omega (arith, first.1.1, few)) (λ e. some (behind_goes (b ∷ text) piece rest first.0 other ∙ e)))

pub first_of : (text : List ℕ) (first : Option (List ℕ × List ℕ)) → 1 ≤ length text → (get_or text 0 0 ≡ 41 → ⊥) → IsFirstPiece first text → IsFirstType first text
first_of text None some other is = absurd (omega (arith, ap length is, some))
first_of text (Some first) some other is = first_goes text first.0 first.1 other is

-- a text in which a result stands is its types, a `)` and what stands behind
closed_by : (n : ℕ) (text : List ℕ) → length text ≤ n → (behind_types text ≡ [] → ⊥) → text ≡ concat (types_of text) ++ 41 ∷ behind_types text
closed_by n [] few some = absurd (some behind_none)
closed_by zero (b ∷ text) few some = absurd (omega (arith, few))
closed_by (suc n) (b ∷ text) few some = closed_at n b text (b == 41) refl few some (λ t short goes. closed_by n t short goes)

pub closed : (text : List ℕ) → (behind_types text ≡ [] → ⊥) → text ≡ concat (types_of text) ++ 41 ∷ behind_types text
closed text some = closed_by (length text) text (omega arith) some
