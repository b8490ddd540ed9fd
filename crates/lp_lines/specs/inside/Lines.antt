-- One line of the table in a pivot: the numbers of an expression, of which a 0 needs no operation.
use Rattle.std.specs.Prelude.{◌≡◌, ◌≢◌, Bool, ℕ, ◌<◌, pos, List, length, Result, Ok, Err, if◌then◌else◌}
use Rattle.std.specs.Option.{ok_or}
use Rattle.std.specs.Ordering.{int_eq}
use Rattle.q128.specs.Fraction.{Fraction, whole}
use Rattle.q128.specs.Rule.{sub_rule, mul_rule, div_rule}
use Rattle.q128.specs.declared.q.TooWide.{TooWide}
use Rattle.q128.specs.declared.q.QOp.TheVariants.{Sub, Mul, Div}
use Rattle.lp_lines.specs.Numbers.{place_of}

infixl 10 ◌>>=◌
abbrev pub ◌>>=◌ : {A B : Type 0} → Result A TooWide → (A → Result B TooWide) → Result B TooWide
(Ok x) >>= f = f x
(Err e) >>= f = Err e

abbrev pub divided : Fraction → Fraction → Result Fraction TooWide
divided x y = ok_or (div_rule x y) (record { a = x; b = y; op = Div })

abbrev pub lessened : Fraction → Fraction → Result Fraction TooWide
lessened x y = ok_or (sub_rule x y) (record { a = x; b = y; op = Sub })

abbrev pub multiplied : Fraction → Fraction → Result Fraction TooWide
multiplied x y = ok_or (mul_rule x y) (record { a = x; b = y; op = Mul })

-- 0 - q/k
unfoldable pub solved_number : Fraction → Fraction → Result Fraction TooWide
solved_number k q =
    if int_eq q.num (pos 0) then Ok q else do
      share ← divided q k
      lessened (whole (pos 0)) share

-- own - share * q
unfoldable pub rest_number : Fraction → Fraction → Fraction → Result Fraction TooWide
rest_number share own q =
    if int_eq q.num (pos 0) then Ok own else do
      product ← multiplied share q
      lessened own product

-- the number of the column stays, for now
unfoldable pub solved_unless : Bool → Fraction → Fraction → Result Fraction TooWide
solved_unless stays k q = if stays then Ok q else solved_number k q

unfoldable pub rest_unless : Bool → Fraction → Fraction → Fraction → Result Fraction TooWide
rest_unless stays share own q = if stays then Ok own else rest_number share own q

-- the line of the expression that is solved for the number of a column
pub record IsSolvedLine (column : ℕ) (before after : List Fraction) : Type 0 where
  pub size : length after ≡ length before
  pub here : divided (whole (pos 1)) (place_of before column) ≡ Ok (place_of after column)
  pub others : (p : ℕ) → p < length before → p ≢ column → solved_number (place_of before column) (place_of before p) ≡ Ok (place_of after p)

-- or the operation of it that is too wide
pub data FailsSolving (column : ℕ) (before : List Fraction) (e : TooWide) : Type 0 where
  here : divided (whole (pos 1)) (place_of before column) ≡ Err e → FailsSolving column before e
  other : (p : ℕ) → p < length before → p ≢ column → solved_number (place_of before column) (place_of before p) ≡ Err e → FailsSolving column before e

-- another line, into which it is put: the line of the pivot is taken as it was before
pub record IsRestLine (column : ℕ) (pivot before after : List Fraction) : Type 0 where
  pub size : length after ≡ length before
  pub here : divided (place_of before column) (place_of pivot column) ≡ Ok (place_of after column)
  pub others : (p : ℕ) → p < length before → p ≢ column → rest_number (place_of after column) (place_of before p) (place_of pivot p) ≡ Ok (place_of after p)

pub data FailsRest (column : ℕ) (pivot before : List Fraction) (e : TooWide) : Type 0 where
  share : divided (place_of before column) (place_of pivot column) ≡ Err e → FailsRest column pivot before e
  other : (s : Fraction) (p : ℕ) → divided (place_of before column) (place_of pivot column) ≡ Ok s → p < length before → p ≢ column → rest_number s (place_of before p) (place_of pivot p) ≡ Err e → FailsRest column pivot before e

-- a line into which the solved one is put, or that has no use for it
pub data IsNext (column : ℕ) (pivot before after : List Fraction) : Type 0 where
  put : IsRestLine column pivot before after → IsNext column pivot before after
  stays : (place_of before column).num ≡ pos 0 → after ≡ before → IsNext column pivot before after
