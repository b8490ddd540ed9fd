-- How many slots a frame has behind an instruction.
use Rattle.std.proofs.Common.{◌≡◌, ℕ, ◌+◌, ◌-◌, ℤ, pos, negsuc, ◌+ℤ◌, ◌-ℤ◌, refl, arith}
use Rattle.std.proofs.lemmas.Int.{ints}
use Rattle.kind_frames.specs.Frames.{words_in}
use Rattle.kind_effects.specs.Frames.{missing}

-- words that are kept below the n that are popped, and those of `len` more that stand above the bottom
kept_by :
    (m n len : ℕ) (z y : ℤ) → pos m -ℤ pos n ≡ z → z +ℤ pos len ≡ y
    → (m - n) + (len - missing z) ≡ words_in y
kept_by m n len (pos a) (pos b) e f = omega (arith, ints, e, f)
kept_by m n len (pos a) (negsuc b) e f = absurd (omega (arith, ints, e, f))
kept_by m n len (negsuc a) (pos b) e f = omega (arith, ints, e, f)
kept_by m n len (negsuc a) (negsuc b) e f = omega (arith, ints, e, f)

none_by :
    (m n len : ℕ) (z y : ℤ) → negsuc m -ℤ pos n ≡ z → z +ℤ pos len ≡ y
    → (0 - n) + (len - missing z) ≡ words_in y
none_by m n len (pos a) y e f = absurd (omega (arith, ints, e))
none_by m n len (negsuc a) (pos b) e f = omega (arith, ints, e, f)
none_by m n len (negsuc a) (negsuc b) e f = omega (arith, ints, e, f)

pub words_kept : (h : ℤ) (n len : ℕ) → (words_in h - n) + (len - missing (h -ℤ pos n)) ≡ words_in ((h -ℤ pos n) +ℤ pos len)
words_kept (pos m) n len = kept_by m n len (pos m -ℤ pos n) ((pos m -ℤ pos n) +ℤ pos len) refl refl
words_kept (negsuc m) n len = none_by m n len (negsuc m -ℤ pos n) ((negsuc m -ℤ pos n) +ℤ pos len) refl refl
