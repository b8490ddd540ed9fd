-- The laws of values.
use Rattle.std.proofs.Common.{ℕ, zero, suc, ◌≡◌, ◌≤◌, ◌+◌, ◌-◌, ◌*◌, ◌/◌, ◌^◌, ℤ, pos, negsuc, ◌+ℤ◌, ◌*ℤ◌, ◌≤ℤ◌, List, sym, subst, arith, add-one}
use Rattle.std.proofs.lemmas.Int.{ints}
use Rattle.std.proofs.lemmas.Nat.{le-div}
use Rattle.std.proofs.Math.Nat.{pow-succ', pow-le-pow_left, pow-le-pow_right, div-mul-le_self, mul-le-mul_left}
use Rattle.std.proofs.Math.IntN.{pos-*ℤ-pos}
use Rattle.bound_terms.specs.Terms.{Term, Terms, none, more}
use Rattle.bound_terms.specs.Values.{not_below_zero, geo, value_of, total_of, greatest_of}
use Rattle.bound_terms.specs.Laws.{IsPart, here, behind, PowersGo, PowersGrow, PowersOfOne, MaximaAreLeast, SumsHoldParts, ProductsSpread, FloorsGrow, FloorsFall, FloorsOfCaps}
use Rattle.bound_terms.proofs.Growth.{one_pow, geo_one, geo_next, geo_mono}

-- ---- powers
pub powers_go : PowersGo
powers_go b n =
    let P : ℕ → Type 0 = λ m. (geo b m ≡ b * geo b n + 1) × (b ^ m ≡ b * b ^ n) in
    subst P (sym (add-one n)) (geo_next b n, pow-succ' b n)

geo_base : (a b n : ℕ) → a ≤ b → geo a n ≤ geo b n
geo_base a b zero h = omega arith
geo_base a b (suc n) h = omega (arith, geo_base a b n h, pow-le-pow_left h n)

pub powers_grow : PowersGrow
powers_grow a b n m one h longer =
    let e : n + (m - n) ≡ m = omega (arith, longer) in
    let P : ℕ → Type 0 = λ x. geo b n ≤ geo b x in
    let further : geo b n ≤ geo b m = subst P e (geo_mono b n (m - n)) in
    let higher : b ^ n ≤ b ^ m = pow-le-pow_right (omega (arith, one, h)) longer in
    (omega (arith, geo_base a b n h, further), omega (arith, pow-le-pow_left h n, higher))

pub powers_of_one : PowersOfOne
powers_of_one n = (geo_one n, one_pow n)

-- ---- parts
part_below : (sizes : List ℤ) (t : Term) {ts : Terms} → IsPart t ts → value_of sizes t ≤ greatest_of sizes ts
part_below sizes t here = omega arith
part_below sizes t (behind p) = omega (arith, part_below sizes t p)

least : (sizes : List ℤ) (ts : Terms) (k : ℕ) → ((t : Term) → IsPart t ts → value_of sizes t ≤ k) → greatest_of sizes ts ≤ k
least sizes none k h = omega arith
least sizes (more t ts) k h = omega (arith, h t here, least sizes ts k (λ u p. h u (behind p)))

pub maxima_are_least : MaximaAreLeast
maxima_are_least sizes ts = (λ t p. part_below sizes t p, λ k h. least sizes ts k h)

part_within : (sizes : List ℤ) (t : Term) {ts : Terms} → IsPart t ts → value_of sizes t ≤ total_of sizes ts
part_within sizes t here = omega arith
part_within sizes t (behind p) = omega (arith, part_within sizes t p)

pub sums_hold_parts : SumsHoldParts
sums_hold_parts sizes ts t p = part_within sizes t p

pub products_spread : ProductsSpread
products_spread k sizes none = omega arith
products_spread k sizes (more t ts) = grind (arith, products_spread k sizes ts)

-- ---- floors
floors_nat : (a b d : ℕ) → 1 ≤ d → a ≤ b → a / d ≤ b / d
floors_nat a b d p h = le-div (a / d) b d (omega (arith, p)) (omega (arith, div-mul-le_self a d, h))

cut_grows : (l u : ℤ) → l ≤ℤ u → not_below_zero l ≤ not_below_zero u
cut_grows (pos a) (pos b) h = omega (arith, ints, h)
cut_grows (pos a) (negsuc b) h = absurd (omega (arith, ints, h))
cut_grows (negsuc a) u h = omega arith

pub floors_grow : FloorsGrow
floors_grow l u d p h = floors_nat (not_below_zero l) (not_below_zero u) d p (cut_grows l u h)

cut_falls : (l u : ℤ) (d : ℕ) → pos d ≤ℤ u → (l +ℤ pos d) ≤ℤ u → not_below_zero l + d ≤ not_below_zero u
cut_falls l (negsuc b) d low h = absurd (omega (arith, ints, low))
cut_falls (pos a) (pos b) d low h = omega (arith, ints, h)
cut_falls (negsuc a) (pos b) d low h = omega (arith, ints, low)

pub floors_fall : FloorsFall
floors_fall l u d p low h =
    let a = not_below_zero l in
    let q = a / d in
    let e : (q + 1) * d ≡ q * d + d = grind arith in
    le-div (q + 1) (not_below_zero u) d (omega (arith, p)) (omega (arith, e, div-mul-le_self a d, cut_falls l u d low h))

cut_capped : (l u : ℤ) (s : ℕ) → (pos s *ℤ l) ≤ℤ u → s * not_below_zero l ≤ not_below_zero u
cut_capped (pos a) u s h =
    let P : ℤ → Type 0 = λ z. z ≤ℤ u in
    cut_grows (pos (s * a)) u (subst P (pos-*ℤ-pos s a) h)
cut_capped (negsuc a) u s h = grind arith

pub floors_of_caps : FloorsOfCaps
floors_of_caps l u s d one p h =
    let a = not_below_zero l in
    let q = a / d in
    let e : q * (s * d) ≡ s * (q * d) = grind arith in
    let less : s * (q * d) ≤ s * a = mul-le-mul_left s (div-mul-le_self a d) in
    le-div q (not_below_zero u) (s * d) (grind (arith, one, p)) (omega (arith, e, less, cut_capped l u s h))
