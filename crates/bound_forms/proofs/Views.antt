-- What the terms of bounds with parts are.
use Rattle.std.proofs.Common.{ℕ, ◌≡◌, map}
use Rattle.std.specs.Global.{Vec}
use Rattle.bound_terms.specs.declared.bound.Bound.{Bound}
use Rattle.bound_terms.specs.declared.bound.Bound.TheVariants.{Const, Nat, Sum, Prod, Max, Pow, Geo}
use Rattle.bound_terms.specs.declared.bound.Bound.TheFolds.{the_lemmas}
use Rattle.bound_terms.specs.Terms.{Floored, Number, Floor, Total, Product, Greatest, Power, Geometric, terms}
use Rattle.bound_terms.specs.Bounds.{term_of}

pub sum_term : (parts : Vec Bound) → term_of (Sum parts) ≡ Total (terms (map term_of parts.items))
sum_term parts = simp the_lemmas

pub product_term : (parts : Vec Bound) → term_of (Prod parts) ≡ Product (terms (map term_of parts.items))
product_term parts = simp the_lemmas

pub maximum_term : (parts : Vec Bound) → term_of (Max parts) ≡ Greatest (terms (map term_of parts.items))
maximum_term parts = simp the_lemmas

pub number_term : (n : ℕ) → term_of (Const n) ≡ Number n
number_term n = simp the_lemmas

pub floor_term : (n : Floored) → term_of (Nat n) ≡ Floor n
floor_term n = simp the_lemmas

pub power_term : (b : ℕ) (n : Floored) → term_of (Pow b n) ≡ Power b n
power_term b n = simp the_lemmas

pub geometric_term : (b : ℕ) (n : Floored) → term_of (Geo b n) ≡ Geometric b n
geometric_term b n = simp the_lemmas
