-- Pieces at a place, over the form `Is` that a piece has.
use Rattle.std.proofs.Common.{◌≡◌, ℕ, ◌+◌, ◌^◌, ◌<◌, List, [], ◌∷◌, ◌++◌, length, Some, refl, sym, ap, ◌∙◌, append_assoc, arith}
use Rattle.std.proofs.lemmas.List.{append-nil, length-append}
use Rattle.byteorder.specs.Endian.{big_bytes}
use Rattle.byteorder.specs.Numbers.{length-bytes_high_first}
use Rattle.class_pool.specs.Place.{Place, after, number_at, IsBytes}
use Rattle.class_pool.specs.Pieces.{Each, StartsWith}
use Rattle.class_pool.proofs.Numbers.{IsBytes-rest, number_takes, number_again}

-- ---- bytes in parts

-- a front, and a piece after it
pub joined : (rest front middle piece next : List ℕ) → rest ≡ front ++ middle → middle ≡ piece ++ next → rest ≡ (front ++ piece) ++ next
joined rest front middle piece next first second =
    first ∙ ap (λ (b : List ℕ). front ++ b) second ∙ sym (append_assoc front piece next)

-- a piece that is a front and a body
pub cut_off : (rest piece next front body : List ℕ) → rest ≡ piece ++ next → piece ≡ front ++ body → rest ≡ front ++ (body ++ next)
cut_off rest piece next front body whole parts =
    whole ∙ ap (λ (b : List ℕ). b ++ next) parts ∙ append_assoc front body next

-- ---- one piece after another

abbrev pub IsBoth : {A B : Type 0} → (List ℕ → A → Type 0) → (List ℕ → B → Type 0) → List ℕ → A × B → Type 0
IsBoth First Second bytes z = (a : List ℕ) × (b : List ℕ) × (bytes ≡ a ++ b) × First a z.0 × Second b z.1

-- a piece, and then another
pub starts_both : {A B : Type 0} (First : List ℕ → A → Type 0) (Second : List ℕ → B → Type 0) (place middle next : Place) (x : A) (y : B)
    → StartsWith First place x middle → StartsWith Second middle y next → StartsWith (IsBoth First Second) place (x, y) next
starts_both First Second place middle next x y p q =
    record {
      piece = p.piece ++ q.piece;
      is = (p.piece, q.piece, refl, p.is, q.is);
      parts = joined place.rest p.piece middle.rest q.piece next.rest p.parts q.parts;
      moved = omega (arith, p.moved, q.moved, length-append p.piece q.piece);
    }

-- the bytes after what was read are bytes
pub starts-rest : {A : Type 0} (Is : List ℕ → A → Type 0) (place next : Place) (x : A) → StartsWith Is place x next → IsBytes place.rest → IsBytes next.rest
starts-rest Is place next x p fits = IsBytes-rest place.rest p.piece next.rest p.parts fits

-- a number of n bytes
abbrev pub IsNumber : ℕ → List ℕ → ℕ → Type 0
IsNumber n bytes k = (bytes ≡ big_bytes n k) × (k < 256 ^ n)

pub number_starts : (n : ℕ) (place : Place) (k : ℕ) → IsBytes place.rest → number_at n place ≡ Some k → StartsWith (IsNumber n) place k (after n place)
number_starts n place k fits e =
    let t = number_takes n place k fits e in
    record { piece = big_bytes n k; is = (refl, t.1); parts = t.0; moved = ap (λ (m : ℕ). place.at + m) (sym (length-bytes_high_first n k)) }

pub number_ends : (n : ℕ) (place next : Place) (k : ℕ) → StartsWith (IsNumber n) place k next → (number_at n place ≡ Some k) × (after n place ≡ next)
number_ends n place next k p =
    let again = number_again n place k next.rest p.is.1 (p.parts ∙ ap (λ (b : List ℕ). b ++ next.rest) p.is.0) in
    let len : length p.piece ≡ n = ap length p.is.0 ∙ length-bytes_high_first n k in
    let at : place.at + n ≡ next.at = omega (arith, p.moved, len) in
    (again.0, again.1 ∙ ap (λ (m : ℕ). let q : Place = record { at = m; rest = next.rest } in q) at)

-- ---- many pieces

pub Each-push : {A : Type 0} (Is : List ℕ → A → Type 0) (bytes piece : List ℕ) (xs : List A) (x : A) → Each Is bytes xs → Is piece x → Each Is (bytes ++ piece) (xs ++ x ∷ [])
Each-push Is bytes piece [] x none is = (piece, [], ap (λ (b : List ℕ). b ++ piece) none ∙ sym (append-nil piece), is, refl)
Each-push Is bytes piece (y ∷ ys) x each is =
    (each.0, each.1 ++ piece, ap (λ (b : List ℕ). b ++ piece) each.2 ∙ append_assoc each.0 each.1 piece, each.3, Each-push Is each.1 piece ys x each.4 is)
