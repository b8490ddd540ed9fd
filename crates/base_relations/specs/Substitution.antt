-- Variables of a replaced rule are replaced by expressions: its sizes by the call's arguments, the variables that it makes
-- by numbered ones. Products and sums are made term by term, in order, each at most 2^127 - 1 in absolute value.
use Rattle.std.specs.Prelude.{ℕ, zero, suc, ◌^◌, nat_lt, nat_eq, ℤ, pos, ◌+ℤ◌, ◌*ℤ◌, unsigned_abs, Option, Some, None, List, [], ◌∷◌, ◌++◌, length, replicate, slice_index_or, slice_set, if◌then◌else◌}
use Rattle.std.specs.Ordering.{int_eq}
use Rattle.q128.specs.Rule.{◌>>=◌}
use Rattle.lin_rows.specs.Linear.{Linear, coefficient_of, nothing}

-- the expression 0, with so many places
abbrev pub zeros : ℕ → Linear
zeros n = record { coefficients = replicate n (pos 0); constant = pos 0 }

-- the number, where its absolute value keeps the limit
unfoldable pub limited : ℤ → Option ℤ
limited z = if nat_lt (unsigned_abs z) (2 ^ 127) then Some z else None

-- x + c * e
unfoldable pub number_added : ℤ → ℤ → ℤ → Option ℤ
number_added x c e = do
  product ← limited (c *ℤ e)
  limited (x +ℤ product)

-- the places, of which the first are done already, with c times the coefficients added place by place
unfoldable pub places_added : List ℤ → List ℤ → ℤ → List ℤ → Option (List ℤ)
places_added done xs c [] = Some (done ++ xs)
places_added done [] c (e ∷ es) = Some done
places_added done (x ∷ xs) c (e ∷ es) = do
  y ← number_added x c e
  places_added (done ++ y ∷ []) xs c es

-- the sum with c times an expression added
unfoldable pub lin_added : Linear → ℤ → Linear → Option Linear
lin_added sum c e = do
  places ← places_added [] sum.coefficients c e.coefficients
  constant ← number_added sum.constant c e.constant
  Some (record { coefficients = places; constant = constant })

-- and with c times a variable added
unfoldable pub variable_added : Linear → ℤ → ℕ → Option Linear
variable_added sum c u = do
  y ← number_added (coefficient_of sum u) c (pos 1)
  Some (record sum { coefficients = slice_set sum.coefficients u y })

-- ---- what stands for variables
-- the numbers of the variables that were made, in order; another variable keeps its own
abbrev pub number_of : List (ℕ × ℕ) → ℕ → ℕ
number_of [] v = v
number_of (p ∷ made) v = if nat_eq p.0 v then p.1 else number_of made v

-- the sum with c times what stands for the variable v added: an argument, or a numbered variable. A coefficient 0 makes no number.
unfoldable pub term_added : List Linear → List (ℕ × ℕ) → Linear → ℕ → ℤ → Option Linear
term_added args made sum v c =
    if int_eq c (pos 0) then Some sum
    else (if nat_lt v (length args) then lin_added sum c (slice_index_or args v nothing) else variable_added sum c (number_of made v))

unfoldable pub terms_added : List Linear → List (ℕ × ℕ) → Linear → ℕ → List ℤ → Option Linear
terms_added args made sum v [] = Some sum
terms_added args made sum v (c ∷ cs) = do
  next ← term_added args made sum v c
  terms_added args made next (suc v) cs

-- an expression of a rule in a call's place, over so many variables: the terms in order, then the constant
unfoldable pub lin_replaced : List Linear → List (ℕ × ℕ) → ℕ → Linear → Option Linear
lin_replaced args made n l = do
  sum ← terms_added args made (zeros n) 0 l.coefficients
  constant ← limited (sum.constant +ℤ l.constant)
  Some (record sum { constant = constant })

-- ---- the rule that has the calls
-- its variables are numbered alone
abbrev pub places_moved : List (ℕ × ℕ) → List ℤ → ℕ → List ℤ → List ℤ
places_moved made xs v [] = xs
places_moved made xs v (c ∷ cs) = places_moved made (if int_eq c (pos 0) then xs else slice_set xs (number_of made v) c) (suc v) cs

abbrev pub lin_numbered : List (ℕ × ℕ) → ℕ → Linear → Linear
lin_numbered made n l = record { coefficients = places_moved made (replicate n (pos 0)) 0 l.coefficients; constant = l.constant }
