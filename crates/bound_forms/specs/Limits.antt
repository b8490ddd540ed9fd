-- Which forms pass a limit.
use Rattle.std.specs.Prelude.{ℕ, zero, suc, ◌^◌, nat_le, nat_lt, ◌||◌, ◌≡◌, Bool, false}
use Rattle.bound_terms.specs.Terms.{Term, Number, Floor, Total, Product, Greatest, Power, Geometric, Terms, none, more}
use Rattle.bound_forms.specs.Monomials.{Form, form_term}

-- the greatest number of monomials
abbrev pub most_monomials : ℕ
most_monomials = 65536

-- the least number that is too great for a coefficient or a divisor
abbrev pub past_limit : ℕ
past_limit = 2 ^ 127

abbrev pub count : Terms → ℕ
count none = zero
count (more t ts) = suc (count ts)

abbrev mutual
  -- a sum in it, itself or an operand of a maximum, has too many monomials
  pub has_many : Term → Bool
  has_many (Number n) = false
  has_many (Floor n) = false
  has_many (Total ts) = nat_lt most_monomials (count ts) || some_has_many ts
  has_many (Product ts) = some_has_many ts
  has_many (Greatest ts) = some_has_many ts
  has_many (Power b n) = false
  has_many (Geometric b n) = false

  pub some_has_many : Terms → Bool
  some_has_many none = false
  some_has_many (more t ts) = has_many t || some_has_many ts

abbrev mutual
  -- a coefficient or divisor in it is too great
  pub has_great : Term → Bool
  has_great (Number n) = nat_le past_limit n
  has_great (Floor n) = nat_le past_limit n.divisor
  has_great (Total ts) = some_has_great ts
  has_great (Product ts) = some_has_great ts
  has_great (Greatest ts) = some_has_great ts
  has_great (Power b n) = nat_le past_limit n.divisor
  has_great (Geometric b n) = nat_le past_limit n.divisor

  pub some_has_great : Terms → Bool
  some_has_great none = false
  some_has_great (more t ts) = has_great t || some_has_great ts

-- the form keeps both limits
pub record Keeps (p : Form) : Type 0 where
  pub few : has_many (form_term p) ≡ false
  pub small : has_great (form_term p) ≡ false
