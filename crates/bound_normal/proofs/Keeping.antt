-- All that a normal form needs keeps the limits.
use Rattle.std.proofs.Common.{ℕ, zero, suc, ◌≡◌, ◌<◌, ◌≤◌, Bool, true, false, nat_le, nat_lt, length, refl, sym, ◌∙◌, ap, subst, arith}
use Rattle.std.specs.Prelude.{◌||◌}
use Rattle.std.proofs.lemmas.Bool.Decides.{nat_tests}
use Rattle.bound_terms.specs.Terms.{Term, Number, Floor, Total, Product, Greatest, Power, Geometric, Terms, none, more}
use Rattle.bound_terms.specs.Laws.{IsPart, here, behind}
use Rattle.bound_forms.specs.Monomials.{Form, form_term, constant}
use Rattle.bound_forms.specs.Forms.{form}
use Rattle.bound_forms.specs.Maxima.{form_of}
use Rattle.bound_forms.specs.Limits.{most_monomials, past_limit, count, has_many, some_has_many, has_great, some_has_great, Keeps}
use Rattle.bound_forms.specs.Needed.{Needs, itself, in_total, in_product, in_greatest, NeedsKeep}
use Rattle.bound_forms.specs.Normal.{IsNormal, AreNormal, AreMonomials, IsProduct, IsScaled, AreAtoms, IsAtom}
use Rattle.bound_normal.proofs.Again.{product_back, atom_again, product_again, normal_again}

-- ---- terms that pass no limit
record Small (t : Term) : Type 0 where
  few : has_many t ≡ false
  small : has_great t ≡ false

record AllSmall (ts : Terms) : Type 0 where
  few : some_has_many ts ≡ false
  small : some_has_great ts ≡ false

neither : (a b : Bool) → a ≡ false → b ≡ false → (a || b) ≡ false
neither false b e f = f
neither true b e f = absurd (cc)

below : (n : ℕ) → n < past_limit → nat_le past_limit n ≡ false
below n h = grind (arith, nat_tests)

few_enough : (n : ℕ) → n ≤ most_monomials → nat_lt most_monomials n ≡ false
few_enough n h = grind (arith, nat_tests)

no_terms : AllSmall none
no_terms = record { few = refl; small = refl }

one_more : (t : Term) (ts : Terms) → Small t → AllSmall ts → AllSmall (more t ts)
one_more t ts h g = record { few = neither (has_many t) (some_has_many ts) h.few g.few; small = neither (has_great t) (some_has_great ts) h.small g.small }

counted : (ts : Terms) → count ts ≡ length (form_of (Total ts))
counted none = refl
counted (more t ts) = ap suc (counted ts)

total_small : (ts : Terms) → count ts ≤ most_monomials → AllSmall ts → Small (Total ts)
total_small ts h g = record { few = neither (nat_lt most_monomials (count ts)) (some_has_many ts) (few_enough (count ts) h) g.few; small = g.small }

number_small : (c : ℕ) → c < past_limit → Small (Number c)
number_small c h = record { few = refl; small = below c h }

mutual
  atom_small : (t : Term) → IsAtom t → Small t
  atom_small (Number n) h = absurd h
  atom_small (Floor n) h = record { few = refl; small = below n.divisor h.within_limit }
  atom_small (Total ts) h = absurd h
  atom_small (Product ts) h = absurd h
  atom_small (Greatest ts) h = let all = sums_small ts h.0 in record { few = all.few; small = all.small }
  atom_small (Power b n) h = record { few = refl; small = below n.divisor h.exponent.within_limit }
  atom_small (Geometric b n) h = record { few = refl; small = below n.divisor h.exponent.within_limit }

  normal_small : (t : Term) → IsNormal t → Small t
  normal_small (Number n) h = absurd h
  normal_small (Floor n) h = absurd h
  normal_small (Total ts) h = total_small ts (subst (λ n. n ≤ most_monomials) (sym (counted ts)) h.1.few) (products_small ts h.0)
  normal_small (Product ts) h = absurd h
  normal_small (Greatest ts) h = absurd h
  normal_small (Power b n) h = absurd h
  normal_small (Geometric b n) h = absurd h

  product_small : (t : Term) → IsProduct t → Small t
  product_small (Number n) h = absurd h
  product_small (Floor n) h = absurd h
  product_small (Total ts) h = absurd h
  product_small (Product ts) h = let all = factors_small ts h in record { few = all.few; small = all.small }
  product_small (Greatest ts) h = absurd h
  product_small (Power b n) h = absurd h
  product_small (Geometric b n) h = absurd h

  factors_small : (ts : Terms) → IsScaled ts → AllSmall ts
  factors_small none h = absurd h
  factors_small (more (Number c) ts) h = one_more (Number c) ts (number_small c h.0.within_limit) (atoms_small ts h.1)
  factors_small (more (Floor n) ts) h = absurd h
  factors_small (more (Total us) ts) h = absurd h
  factors_small (more (Product us) ts) h = absurd h
  factors_small (more (Greatest us) ts) h = absurd h
  factors_small (more (Power b n) ts) h = absurd h
  factors_small (more (Geometric b n) ts) h = absurd h

  atoms_small : (ts : Terms) → AreAtoms ts → AllSmall ts
  atoms_small none h = no_terms
  atoms_small (more t ts) h = one_more t ts (atom_small t h.0) (atoms_small ts h.1)

  products_small : (ts : Terms) → AreMonomials ts → AllSmall ts
  products_small none h = no_terms
  products_small (more t ts) h = one_more t ts (product_small t h.0) (products_small ts h.1)

  sums_small : (ts : Terms) → AreNormal ts → AllSmall ts
  sums_small none h = no_terms
  sums_small (more t ts) h = one_more t ts (normal_small t h.0) (sums_small ts h.1)

-- ---- their forms
keeps_by : (p : Form) (t : Term) → form_term p ≡ t → Small t → Keeps p
keeps_by p t e h = record { few = ap has_many e ∙ h.few; small = ap has_great e ∙ h.small }

one_small : (t : Term) → Small t → Small (Total (more t none))
one_small t h = total_small (more t none) (omega arith) (one_more t none h no_terms)

normal_form_keeps : (t : Term) → IsNormal t → Keeps (form t)
normal_form_keeps t h = keeps_by (form t) t (normal_again t h) (normal_small t h)

product_form_keeps : (t : Term) → IsProduct t → Keeps (form t)
product_form_keeps t h =
    keeps_by (form t) (Total (more t none)) (ap form_term (product_again t h) ∙ ap (λ u. Total (more u none)) (product_back t h)) (one_small t (product_small t h))

scaled_small : (c : ℕ) (ts : Terms) → c < past_limit → AllSmall ts → Small (Product (more (Number c) ts))
scaled_small c ts h g = let all = one_more (Number c) ts (number_small c h) g in record { few = all.few; small = all.small }

atom_form_keeps : (t : Term) → IsAtom t → Keeps (form t)
atom_form_keeps t h =
    keeps_by (form t) (Total (more (Product (more (Number 1) (more t none))) none)) (ap form_term (atom_again t h))
    (one_small (Product (more (Number 1) (more t none))) (scaled_small 1 (more t none) (omega arith) (one_more t none (atom_small t h) no_terms)))

number_form_keeps : (c : ℕ) → c < past_limit → Keeps (form (Number c))
number_form_keeps zero h = record { few = refl; small = refl }
number_form_keeps (suc n) h = keeps_by (constant (suc n)) (Total (more (Product (more (Number (suc n)) none)) none)) refl (one_small (Product (more (Number (suc n)) none)) (scaled_small (suc n) none h no_terms))

-- ---- parts
part_normal : (ts : Terms) (v : Term) → AreNormal ts → IsPart v ts → IsNormal v
part_normal none v h p = elim p [ ]
part_normal (more t ts) v h here = h.0
part_normal (more t ts) v h (behind p) = part_normal ts v h.1 p

part_product : (ts : Terms) (v : Term) → AreMonomials ts → IsPart v ts → IsProduct v
part_product none v h p = elim p [ ]
part_product (more t ts) v h here = h.0
part_product (more t ts) v h (behind p) = part_product ts v h.1 p

part_atom : (ts : Terms) (v : Term) → AreAtoms ts → IsPart v ts → IsAtom v
part_atom none v h p = elim p [ ]
part_atom (more t ts) v h here = h.0
part_atom (more t ts) v h (behind p) = part_atom ts v h.1 p

-- what may stand in a normal form
data Piece (t : Term) : Type 0 where
  of_sum : IsNormal t → Piece t
  of_product : IsProduct t → Piece t
  of_atom : IsAtom t → Piece t
  of_number : (c : ℕ) → t ≡ Number c → c < past_limit → Piece t

piece_keeps : (t : Term) → Piece t → Keeps (form t)
piece_keeps t (of_sum h) = normal_form_keeps t h
piece_keeps t (of_product h) = product_form_keeps t h
piece_keeps t (of_atom h) = atom_form_keeps t h
piece_keeps t (of_number c e h) = subst (λ u. Keeps (form u)) (sym e) (number_form_keeps c h)

factor_piece : (ts : Terms) (v : Term) → IsScaled ts → IsPart v ts → Piece v
factor_piece none v h p = absurd h
factor_piece (more (Number c) ts) v h here = of_number c refl h.0.within_limit
factor_piece (more (Number c) ts) v h (behind p) = of_atom (part_atom ts v h.1 p)
factor_piece (more (Floor m) ts) v h p = absurd h
factor_piece (more (Total us) ts) v h p = absurd h
factor_piece (more (Product us) ts) v h p = absurd h
factor_piece (more (Greatest us) ts) v h p = absurd h
factor_piece (more (Power b m) ts) v h p = absurd h
factor_piece (more (Geometric b m) ts) v h p = absurd h

in_sum : (ts : Terms) (v : Term) → Piece (Total ts) → IsPart v ts → Piece v
in_sum ts v (of_sum h) p = of_product (part_product ts v h.0 p)
in_sum ts v (of_product h) p = absurd h
in_sum ts v (of_atom h) p = absurd h
in_sum ts v (of_number c e h) p = absurd (cc)

in_factors : (ts : Terms) (v : Term) → Piece (Product ts) → IsPart v ts → Piece v
in_factors ts v (of_sum h) p = absurd h
in_factors ts v (of_product h) p = factor_piece ts v h p
in_factors ts v (of_atom h) p = absurd h
in_factors ts v (of_number c e h) p = absurd (cc)

in_operands : (ts : Terms) (v : Term) → Piece (Greatest ts) → IsPart v ts → Piece v
in_operands ts v (of_sum h) p = absurd h
in_operands ts v (of_product h) p = absurd h
in_operands ts v (of_atom h) p = of_sum (part_normal ts v h.0 p)
in_operands ts v (of_number c e h) p = absurd (cc)

needs_keep : (u t : Term) → Piece t → Needs u t → Keeps (form u)
needs_keep u t h itself = piece_keeps t h
needs_keep u (Total ts) h (in_total {v} p n) = needs_keep u v (in_sum ts v h p) n
needs_keep u (Product ts) h (in_product {v} some p n) = needs_keep u v (in_factors ts v h p) n
needs_keep u (Greatest ts) h (in_greatest {v} p n) = needs_keep u v (in_operands ts v h p) n

pub normal_keeps : (t : Term) → IsNormal t → NeedsKeep t
normal_keeps t h u n = needs_keep u t (of_sum h) n
