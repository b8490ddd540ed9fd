-- The order in which a sum of rows is made, one term after another, each by the rule of fractions: multiplier by
-- multiplier, of each row the coefficients by variable and then the constant. A coefficient 0 makes no number. The first
-- number that leaves the type ends it.
use Rattle.std.specs.Prelude.{ℕ, ℤ, pos, List, [], ◌∷◌, ◌++◌, Result, Ok, Err, if◌then◌else◌, replicate, slice_index_or}
use Rattle.std.specs.Option.{ok_or}
use Rattle.std.specs.Ordering.{int_eq}
use Rattle.q128.specs.Fraction.{Fraction, whole, IsSame, IsAtMost}
use Rattle.q128.specs.Rule.{add_rule, mul_rule}
use Rattle.q128.specs.declared.q.TooWide.{TooWide}
use Rattle.q128.specs.declared.q.QOp.TheVariants.{Add, Mul}
use Rattle.lin_rows.specs.Linear.{Linear, coefficient_of, row_at}
use Rattle.lin_rows.specs.Proving.{Multipliers}

infixl 10 ◌>>=◌
abbrev pub ◌>>=◌ : {A B : Type 0} → Result A TooWide → (A → Result B TooWide) → Result B TooWide
(Ok x) >>= f = f x
(Err e) >>= f = Err e

abbrev pub added : Fraction → Fraction → Result Fraction TooWide
added x y = ok_or (add_rule x y) (record { a = x; b = y; op = Add })

abbrev pub multiplied : Fraction → Fraction → Result Fraction TooWide
multiplied x y = ok_or (mul_rule x y) (record { a = x; b = y; op = Mul })

-- x + q * c
unfoldable pub term_added : Fraction → Fraction → ℤ → Result Fraction TooWide
term_added x q c =
    if int_eq c (pos 0) then Ok x else do
      product ← multiplied q (whole c)
      added x product

-- the places, of which the first are done already, with q times the coefficients added place by place
unfoldable pub places_added : List Fraction → List Fraction → Fraction → List ℤ → Result (List Fraction) TooWide
places_added done xs q [] = Ok (done ++ xs)
places_added done [] q (c ∷ cs) = Ok done
places_added done (x ∷ xs) q (c ∷ cs) = do
  y ← term_added x q c
  places_added (done ++ y ∷ []) xs q cs

-- a sum of rows: a fraction for each variable, and the constant
pub record Combination : Type 0 where
  pub coefficients : List Fraction
  pub constant : Fraction

-- the sum with q times l added
unfoldable pub row_added : Combination → Fraction → Linear → Result Combination TooWide
row_added s q l = do
  places ← places_added [] s.coefficients q l.coefficients
  constant ← term_added s.constant q l.constant
  Ok (record { coefficients = places; constant = constant })

-- the sum with all rows times their factors added
unfoldable pub rows_added : List Linear → Combination → Multipliers → Result Combination TooWide
rows_added rows s [] = Ok s
rows_added rows s (p ∷ m) = do
  next ← row_added s p.1 (row_at rows p.0)
  rows_added rows next m

-- no row yet, with so many places
abbrev pub zeros : ℕ → Combination
zeros n = record { coefficients = replicate n (whole (pos 0)); constant = whole (pos 0) }

-- x with each coefficient times its coordinate added, then the constant times t
unfoldable pub terms_added : Fraction → List ℤ → List Fraction → Result Fraction TooWide
terms_added x [] v = Ok x
terms_added x (c ∷ cs) [] = Ok x
terms_added x (c ∷ cs) (q ∷ v) = do
  y ← term_added x q c
  terms_added y cs v

unfoldable pub value_made : Linear → Fraction → List Fraction → Result Fraction TooWide
value_made l t v = do
  x ← terms_added (whole (pos 0)) l.coefficients v
  term_added x t l.constant

-- the sum has the coefficients of l
pub record HasCoefficients (s : Combination) (l : Linear) : Type 0 where
  pub each : (v : ℕ) → IsSame (slice_index_or s.coefficients v (whole (pos 0))) (whole (coefficient_of l v))

-- and at most its constant
pub record IsUnder (s : Combination) (l : Linear) : Type 0 where
  pub coefficients : HasCoefficients s l
  pub constant : IsAtMost s.constant (whole l.constant)
