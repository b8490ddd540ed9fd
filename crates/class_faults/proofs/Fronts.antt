-- Bytes in parts of one length are the same parts.
use Rattle.std.proofs.Common.{◌≡◌, ℕ, zero, suc, ◌^◌, ◌<◌, List, [], ◌∷◌, ◌++◌, length, drop, get_or, refl, sym, ap, ◌∙◌, append_assoc, arith}
use Rattle.byteorder.specs.Endian.{big_bytes, big_from}
use Rattle.byteorder.specs.Numbers.{big_number-reads_back, length-bytes_high_first}
use Rattle.class_pool.specs.Place.{Place}
use Rattle.class_pool.specs.Pieces.{Each, Counted, StartsWith}
use Rattle.class_faults.specs.Pieces.{IsNumber, HasNumberAt}

pub same_front : (a b r s : List ℕ) → a ++ r ≡ b ++ s → length a ≡ length b → (a ≡ b) × (r ≡ s)
same_front [] [] r s e len = (refl, e)
same_front [] (y ∷ b) r s e len = absurd (omega (arith, len))
same_front (x ∷ a) [] r s e len = absurd (omega (arith, len))
same_front (x ∷ a) (y ∷ b) r s e len =
    let others = same_front a b r s (ap (drop 1) e) (omega (arith, len)) in
    let first : x ≡ y = ap (λ (l : List ℕ). get_or l 0 0) e in
    (rw (first, others.0) refl, others.1)

pub same_number : (width m n : ℕ) → m < 256 ^ width → n < 256 ^ width → big_bytes width m ≡ big_bytes width n → m ≡ n
same_number width m n fits_m fits_n e =
    let read_m : big_from 0 width (big_bytes width m ++ []) ≡ m = big_number-reads_back width m [] fits_m in
    let read_n : big_from 0 width (big_bytes width n ++ []) ≡ n = big_number-reads_back width n [] fits_n in
    sym read_m ∙ ap (λ (b : List ℕ). big_from 0 width (b ++ [])) e ∙ read_n

pub same_width : (width m n : ℕ) → length (big_bytes width m) ≡ length (big_bytes width n)
same_width width m n = length-bytes_high_first width m ∙ sym (length-bytes_high_first width n)

-- the number that stands there is this one
pub number_same : (width skip : ℕ) (place : Place) (n m : ℕ) (front more : List ℕ) → HasNumberAt width skip place n → place.rest ≡ front ++ (big_bytes width m ++ more) → length front ≡ skip → m < 256 ^ width → n ≡ m
number_same width skip place n m front more h e sized fits =
    let a = same_front h.before front (big_bytes width n ++ h.behind) (big_bytes width m ++ more) (sym h.parts ∙ e) (h.skipped ∙ sym sized) in
    let b = same_front (big_bytes width n) (big_bytes width m) h.behind more a.1 (same_width width n m) in
    same_number width n m h.fits fits b.0

-- ---- pieces that are left

-- the bytes are so many pieces, and what stands behind them
pub record Left {A : Type 0} (Is : List ℕ → A → Type 0) (n : ℕ) (rest tail : List ℕ) : Type 0 where
  pub xs : List A
  pub pieces : List ℕ
  pub sized : length xs ≡ n
  pub each : Each Is pieces xs
  pub parts : rest ≡ pieces ++ tail

nothing_left_of : {A : Type 0} (Is : List ℕ → A → Type 0) (rest tail pieces : List ℕ) (xs : List A) → length xs ≡ 0 → Each Is pieces xs → rest ≡ pieces ++ tail → rest ≡ tail
nothing_left_of Is rest tail pieces [] sized each parts = parts ∙ ap (λ (p : List ℕ). p ++ tail) each
nothing_left_of Is rest tail pieces (x ∷ xs) sized each parts = absurd (omega (arith, sized))

pub nothing_left : {A : Type 0} (Is : List ℕ → A → Type 0) (rest tail : List ℕ) → Left Is zero rest tail → rest ≡ tail
nothing_left Is rest tail l = nothing_left_of Is rest tail l.pieces l.xs l.sized l.each l.parts

-- behind a count
pub record CountLeft {A : Type 0} (Is : List ℕ → A → Type 0) (n : ℕ) (rest tail : List ℕ) (xs : List A) : Type 0 where
  pub left : Left Is n rest tail
  pub same : left.xs ≡ xs

pub left_of_count : {A : Type 0} (Is : List ℕ → A → Type 0) (place next : Place) (n : ℕ) (counted tail : List ℕ) (xs : List A) → Counted Is counted xs → place.rest ≡ counted ++ tail → StartsWith (IsNumber 2) place n next
    → CountLeft Is n next.rest tail xs
left_of_count Is place next n counted tail xs c e s =
    let count : List ℕ = big_bytes 2 (length xs) in
    let all : count ++ (c.pieces ++ tail) ≡ s.piece ++ next.rest = sym (append_assoc count c.pieces tail) ∙ ap (λ (b : List ℕ). b ++ tail) (sym c.parts) ∙ sym e ∙ s.parts in
    let f = same_front count s.piece (c.pieces ++ tail) next.rest all (omega (arith, length-bytes_high_first 2 (length xs), ap length s.is.0, length-bytes_high_first 2 n)) in
    record { left = record { xs = xs; pieces = c.pieces; sized = same_number 2 (length xs) n c.short s.is.1 (f.0 ∙ s.is.0); each = c.each; parts = sym f.1 }; same = refl }

-- the first of some pieces, and the others
pub record First {A : Type 0} (Is : List ℕ → A → Type 0) (n : ℕ) (rest tail : List ℕ) (all : List A) : Type 0 where
  pub x : A
  pub xs : List A
  pub piece : List ℕ
  pub pieces : List ℕ
  pub is : Is piece x
  pub each : Each Is pieces xs
  pub sized : length xs ≡ n
  pub same : all ≡ x ∷ xs
  pub parts : rest ≡ piece ++ (pieces ++ tail)

first_of : {A : Type 0} (Is : List ℕ → A → Type 0) (n : ℕ) (rest tail pieces : List ℕ) (xs : List A) → length xs ≡ suc n → Each Is pieces xs → rest ≡ pieces ++ tail → First Is n rest tail xs
first_of Is n rest tail pieces [] sized each parts = absurd (omega (arith, sized))
first_of Is n rest tail pieces (x ∷ xs) sized each parts = record {
  x = x;
  xs = xs;
  piece = each.0;
  pieces = each.1;
  is = each.3;
  each = each.4;
  sized = omega (arith, sized);
  same = refl;
  parts = parts ∙ ap (λ (p : List ℕ). p ++ tail) each.2 ∙ append_assoc each.0 each.1 tail;
}

pub first_left : {A : Type 0} (Is : List ℕ → A → Type 0) (n : ℕ) (rest tail : List ℕ) (l : Left Is (suc n) rest tail) → First Is n rest tail l.xs
first_left Is n rest tail l = first_of Is n rest tail l.pieces l.xs l.sized l.each l.parts

-- the others, behind a piece of the length of the first
pub others_left : {A : Type 0} (Is : List ℕ → A → Type 0) (n : ℕ) (rest tail : List ℕ) (all : List A) (f : First Is n rest tail all) (piece next : List ℕ) → rest ≡ piece ++ next → length f.piece ≡ length piece → (f.piece ≡ piece) × (next ≡ f.pieces ++ tail)
others_left Is n rest tail all f piece next e len = let s = same_front f.piece piece (f.pieces ++ tail) next (sym f.parts ∙ e) len in (s.0, sym s.1)
