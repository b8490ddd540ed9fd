-- Values of cost expressions at other sizes.
use Rattle.std.specs.Prelude.{ℕ, ◌≤◌, ◌*◌, ◌≡◌, ℤ, List, [], ◌∷◌, ◌++◌, Contains}
use Rattle.std.proofs.Common.{arith, subst, inl, inr}
use Rattle.std.proofs.lemmas.List.Elements.{Contains-append_left, Contains-append_right, Contains-append_cases}
use Rattle.std.proofs.Math.Nat.{mul-le-mul_left}
use Rattle.common_laws.proofs.Members.{contains_head, contains_cases, contains_none}
use Rattle.bound_terms.specs.Terms.{Floored, Term, Number, Floor, Total, Product, Greatest, Power, Geometric, Terms, none, more}
use Rattle.bound_terms.specs.Values.{floored_value, value_of, total_of, product_of, greatest_of}
use Rattle.bound_terms.proofs.Following.{powers_grow}
use Rattle.node_forms.specs.Floors.{replaced, all_replaced, floors_of, all_floors, IsProper, AreProper}

pub mul_more : (a b c d : ℕ) → a ≤ b → c ≤ d → a * c ≤ b * d
mul_more a b c d h k =
    let first = mul-le-mul_left a k in
    let second = mul-le-mul_left d h in
    let e : a * d ≡ d * a = grind arith in
    let g : d * b ≡ b * d = grind arith in
    omega (arith, first, second, e, g)

module _ (f : Floored → Floored) (v e : List ℤ) where
  -- each of these is worth no more than what replaces it
  abbrev pub Grow : List Floored → Type 0
  Grow ns = (n : Floored) → Contains ns n → floored_value v n ≤ floored_value e (f n)

  first_grows : (ns ms : List Floored) → Grow (ns ++ ms) → Grow ns
  first_grows ns ms g n m = g n (Contains-append_left ns ms n m)

  later_grow : (ns ms : List Floored) → Grow (ns ++ ms) → Grow ms
  later_grow ns ms g n m = g n (Contains-append_right ns ms n m)

  mutual
    pub replaced_value : (t : Term) → IsProper t → Grow (floors_of t) → value_of v t ≤ value_of e (replaced f t)
    replaced_value (Number n) p g = omega arith
    replaced_value (Floor n) p g = g n (contains_head n [])
    replaced_value (Total ts) p g = replaced_total ts p g
    replaced_value (Product ts) p g = replaced_product ts p g
    replaced_value (Greatest ts) p g = replaced_greatest ts p g
    replaced_value (Power b n) p g = (powers_grow b b (floored_value v n) (floored_value e (f n)) p.0 (omega arith) (g n (contains_head n []))).1
    replaced_value (Geometric b n) p g = (powers_grow b b (floored_value v n) (floored_value e (f n)) p.0 (omega arith) (g n (contains_head n []))).0

    replaced_total : (ts : Terms) → AreProper ts → Grow (all_floors ts) → total_of v ts ≤ total_of e (all_replaced f ts)
    replaced_total none p g = omega arith
    replaced_total (more t ts) p g =
        let a = replaced_value t p.0 (first_grows (floors_of t) (all_floors ts) g) in
        let b = replaced_total ts p.1 (later_grow (floors_of t) (all_floors ts) g) in
        omega (arith, a, b)

    replaced_product : (ts : Terms) → AreProper ts → Grow (all_floors ts) → product_of v ts ≤ product_of e (all_replaced f ts)
    replaced_product none p g = omega arith
    replaced_product (more t ts) p g =
        let a = replaced_value t p.0 (first_grows (floors_of t) (all_floors ts) g) in
        let b = replaced_product ts p.1 (later_grow (floors_of t) (all_floors ts) g) in
        mul_more (value_of v t) (value_of e (replaced f t)) (product_of v ts) (product_of e (all_replaced f ts)) a b

    replaced_greatest : (ts : Terms) → AreProper ts → Grow (all_floors ts) → greatest_of v ts ≤ greatest_of e (all_replaced f ts)
    replaced_greatest none p g = omega arith
    replaced_greatest (more t ts) p g =
        let a = replaced_value t p.0 (first_grows (floors_of t) (all_floors ts) g) in
        let b = replaced_greatest ts p.1 (later_grow (floors_of t) (all_floors ts) g) in
        omega (arith, a, b)

one_floor : (k n : Floored) → 1 ≤ k.divisor → Contains (k ∷ []) n → 1 ≤ n.divisor
one_floor k n p m = elim (contains_cases k [] n m) [ inl e ↦ subst (λ (x : Floored). 1 ≤ x.divisor) e p | inr empty ↦ absurd (contains_none n empty) ]

-- each divided expression of a proper term has a divisor
mutual
  pub proper_floor : (t : Term) (n : Floored) → IsProper t → Contains (floors_of t) n → 1 ≤ n.divisor
  proper_floor (Number k) n p m = absurd (contains_none n m)
  proper_floor (Floor k) n p m = one_floor k n p m
  proper_floor (Total ts) n p m = proper_floors ts n p m
  proper_floor (Product ts) n p m = proper_floors ts n p m
  proper_floor (Greatest ts) n p m = proper_floors ts n p m
  proper_floor (Power b k) n p m = one_floor k n p.1 m
  proper_floor (Geometric b k) n p m = one_floor k n p.1 m

  proper_floors : (ts : Terms) (n : Floored) → AreProper ts → Contains (all_floors ts) n → 1 ≤ n.divisor
  proper_floors none n p m = absurd (contains_none n m)
  proper_floors (more t ts) n p m = elim (Contains-append_cases (floors_of t) (all_floors ts) n m) [
    | inl a ↦ proper_floor t n p.0 a
    | inr b ↦ proper_floors ts n p.1 b
  ]
