-- Expressions in lowest terms, and those that don't depend on a size.
use Rattle.std.specs.Prelude.{ℕ, ◌/◌, ◌^◌, ◌==◌, ℤ, pos, int_div, unsigned_abs, List, [], ◌∷◌, map, if◌then◌else◌}
use Rattle.q128.specs.Rule.{gcd}
use Rattle.bound_terms.specs.Terms.{Floored, Floor, Power, Geometric}
use Rattle.bound_terms.specs.Values.{not_below_zero, geo}
use Rattle.bound_forms.specs.Monomials.{Form, constant, one_atom}

-- the list without the zeros at its end
abbrev pub onto_trimmed : ℤ → List ℤ → List ℤ
onto_trimmed c [] = if unsigned_abs c == 0 then [] else c ∷ []
onto_trimmed c (d ∷ ds) = c ∷ d ∷ ds

abbrev pub trimmed : List ℤ → List ℤ
trimmed [] = []
trimmed (c ∷ cs) = onto_trimmed c (trimmed cs)

-- what divides a number and all of several
abbrev pub common_divisor : ℕ → List ℤ → ℕ
common_divisor d [] = d
common_divisor d (c ∷ cs) = common_divisor (gcd (unsigned_abs c) d) cs

-- an expression and its divisor without what divides all of them
abbrev pub divided : List ℤ → ℤ → ℕ → ℕ → Floored
divided cs k d g = record { expression = record { coefficients = map (λ c. int_div c (pos g)) cs; constant = int_div k (pos g) }; divisor = d / g }

abbrev pub lowest : Floored → Floored
lowest n = divided (trimmed n.expression.coefficients) n.expression.constant n.divisor (common_divisor (gcd (unsigned_abs n.expression.constant) n.divisor) n.expression.coefficients)

-- what doesn't depend on a size is a number, and what does is made of its lowest terms
abbrev pub by_sizes : List ℤ → Form → Form → Form
by_sizes [] number atom = number
by_sizes (c ∷ cs) number atom = atom

-- the value of what doesn't depend on a size
abbrev pub fixed_value : Floored → ℕ
fixed_value n = not_below_zero n.expression.constant / n.divisor

abbrev pub floor_form : Floored → Form
floor_form n = by_sizes (trimmed n.expression.coefficients) (constant (fixed_value n)) (one_atom (Floor (lowest n)))

-- a base 1 has no other power than 1, and the sum of its powers is how many they are
abbrev pub power_form : ℕ → Floored → Form
power_form b n =
    if b == 1 then constant 1
    else by_sizes (trimmed n.expression.coefficients) (constant (b ^ fixed_value n)) (one_atom (Power b (lowest n)))

abbrev pub geometric_form : ℕ → Floored → Form
geometric_form b n =
    if b == 1 then floor_form n
    else by_sizes (trimmed n.expression.coefficients) (constant (geo b (fixed_value n))) (one_atom (Geometric b (lowest n)))
