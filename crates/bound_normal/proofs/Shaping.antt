-- The forms of what the machine holds are normal forms.
use Rattle.std.proofs.Common.{ℕ, ◌≡◌, ◌≤◌, ◌==◌, false, List, [], ◌∷◌, length, get_or, map, sym, subst, arith}
use Rattle.std.specs.Prelude.{All, nat_lt}
use Rattle.std.proofs.lemmas.Bool.{or_parts, leb-false, ltb-false, eqb-false}
use Rattle.std.proofs.lemmas.List.Elements.{All-head, All-tail}
use Rattle.bound_terms.specs.Terms.{Floored, Term, Number, Floor, Total, Product, Greatest, Power, Geometric, Terms, none, more, terms}
use Rattle.bound_forms.specs.Monomials.{Form, monomial_term, form_term}
use Rattle.bound_forms.specs.Lowest.{lowest}
use Rattle.bound_forms.specs.Forms.{form}
use Rattle.bound_forms.specs.Limits.{most_monomials, past_limit, count, some_has_many, has_great, Keeps}
use Rattle.bound_forms.specs.Normal.{IsHeld, IsLowest, IsRaised, IsFlat, Rising, NotFalling, IsNormal, AreNormal, AreMonomials, AreAtoms, IsAtom}
use Rattle.bound_forms.specs.inside.Pruning.{IsLow}
use Rattle.bound_forms.proofs.Combining.{EachAtom}
use Rattle.bound_forms.proofs.Shapes.{IsScaled, IsShaped, IsShapedAtom, shaped, leaf, maximum, AreLeaves, Each, EachOf, form_shaped, listed_terms, form_back, forms_back}
use Rattle.bound_forms.proofs.Limiting.{AtomKeeps, keeps_atoms, keeps_low, counts, each_keeps}
use Rattle.bound_normal.specs.Held.{IsBase, IsHeldTerm, AreHeldTerms}
use Rattle.bound_normal.proofs.Divisors.{lowest_is}

-- ---- leaves
abbrev Held : Term → Type 0
Held (Floor n) = IsHeld n
Held (Power b n) = IsBase b × IsHeld n
Held (Geometric b n) = IsBase b × IsHeld n
Held t = Unit {0}

-- an atom that is no maximum is in normal form, where its divisor keeps the limit
abbrev NormalLeaf : Term → Type 0
NormalLeaf (Floor n) = has_great (Floor n) ≡ false → IsLowest n
NormalLeaf (Power b n) = has_great (Power b n) ≡ false → IsRaised b n
NormalLeaf (Geometric b n) = has_great (Geometric b n) ≡ false → IsRaised b n
NormalLeaf t = ⊥

raised : (b : ℕ) (n : Floored) → IsBase b → (b == 1) ≡ false → IsLowest n → IsRaised b n
raised b n base other low =
    let apart : b ≡ 1 → ⊥ = eqb-false b 1 other in
    record { base = omega (arith, base.low, apart); held = base.high; exponent = low }

normal_leaves : AreLeaves Held NormalLeaf
normal_leaves = record {
  floor = λ n h g small. lowest_is n h g (leb-false past_limit (lowest n).divisor small);
  power = λ b n h e g small. raised b (lowest n) h.0 e (lowest_is n h.1 g (leb-false past_limit (lowest n).divisor small));
  geometric = λ b n h e g small. raised b (lowest n) h.0 e (lowest_is n h.1 g (leb-false past_limit (lowest n).divisor small));
  exponent = λ b n h. h.1;
  no_maximum = λ ts h. h;
}

mutual
  each_held : (t : Term) → IsHeldTerm t → Each Held t
  each_held (Number n) h = tt
  each_held (Floor n) h = h
  each_held (Total ts) h = each_of_held ts h
  each_held (Product ts) h = each_of_held ts h
  each_held (Greatest ts) h = each_of_held ts h
  each_held (Power b n) h = h
  each_held (Geometric b n) h = h

  each_of_held : (ts : Terms) → AreHeldTerms ts → EachOf Held ts
  each_of_held none h = tt
  each_of_held (more t ts) h = (each_held t h.0, each_of_held ts h.1)

-- ---- sums of monomials
are_atoms : (as' : List Term) → All IsAtom as' → AreAtoms (terms as')
are_atoms [] h = tt
are_atoms (a ∷ rest) h = (All-head IsAtom a rest h, are_atoms rest (All-tail IsAtom a rest h))

are_monomials : (p : Form) → All IsScaled p → All IsLow p → All (EachAtom IsAtom) p → AreMonomials (terms (map monomial_term p))
are_monomials [] s l h = tt
are_monomials (m ∷ p) s l h =
    let scaled = All-head IsScaled m p s in (
      (
        record { positive = scaled.positive; within_limit = All-head IsLow m p l; in_order = subst NotFalling (sym (listed_terms m.atoms)) scaled.in_order },
        are_atoms m.atoms (All-head (EachAtom IsAtom) m p h),
      ),
      are_monomials p (All-tail IsScaled m p s) (All-tail IsLow m p l) (All-tail (EachAtom IsAtom) m p h),
    )

is_few : (p : Form) → Keeps p → length p ≤ most_monomials
is_few p k =
    let ts = terms (map monomial_term p) in
    omega (arith, ltb-false most_monomials (count ts) (or_parts (nat_lt most_monomials (count ts)) (some_has_many ts) k.few).0, counts p)

is_normal : (p : Form) → Rising p → All IsScaled p → Keeps p → All (EachAtom IsAtom) p → IsNormal (form_term p)
is_normal p r s k h = (
  are_monomials p s (keeps_low p k) h,
  record { in_order = subst Rising (sym (form_back p)) r; few = subst (λ q. length q ≤ most_monomials) (sym (form_back p)) (is_few p k) },
)

are_normal : (ps : List Form) → All (λ p. IsNormal (form_term p)) ps → AreNormal (terms (map form_term ps))
are_normal [] h = tt
are_normal (p ∷ ps) h = (All-head (λ p. IsNormal (form_term p)) p ps h, are_normal ps (All-tail (λ p. IsNormal (form_term p)) p ps h))

leaf_normal : (a : Term) → NormalLeaf a → AtomKeeps a → IsAtom a
leaf_normal (Number n) l k = absurd l
leaf_normal (Floor n) l k = l k.1
leaf_normal (Total ts) l k = absurd l
leaf_normal (Product ts) l k = absurd l
leaf_normal (Greatest ts) l k = absurd l
leaf_normal (Power b n) l k = l k.1
leaf_normal (Geometric b n) l k = l k.1

mutual
  shape_normal : (p : Form) → IsShaped NormalLeaf p → Keeps p → IsNormal (form_term p)
  shape_normal p (shaped r s a) k =
      is_normal p r s k (λ i m l j b h. atom_normal (get_or (get_or p i m).atoms j b) (a i m l j b h) (keeps_atoms p k i m l j b h))

  atom_normal : (a : Term) → IsShapedAtom NormalLeaf a → AtomKeeps a → IsAtom a
  atom_normal a (leaf l) k = leaf_normal a l k
  atom_normal a (maximum {ps = ps} h f) k = (
    are_normal ps (λ i p l. shape_normal (get_or ps i p) (h i p l) (each_keeps ps k.0 k.1 i p l)),
    subst IsFlat (sym (forms_back ps)) f,
  )

pub forms_are_normal : (t : Term) → IsHeldTerm t → Keeps (form t) → IsNormal (form_term (form t))
forms_are_normal t held k = shape_normal (form t) (form_shaped Held NormalLeaf normal_leaves t (each_held t held)) k
