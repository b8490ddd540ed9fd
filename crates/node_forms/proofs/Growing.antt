-- The amounts of a tree of visits: at most b visits behind each, so many high.
use Rattle.std.proofs.Common.{◌≡◌, ℕ, zero, suc, ◌+◌, ◌*◌, ◌^◌, ◌≤◌, ℤ, List, [], ◌∷◌, Contains, sym, subst, arith, inl, inr}
use Rattle.common_laws.proofs.Members.{contains_cases, contains_none}
use Rattle.bound_terms.specs.Terms.{Floored, Term, terms}
use Rattle.bound_terms.specs.Values.{geo, floored_value, value_of, greatest_of}
use Rattle.bound_terms.proofs.Following.{powers_go, powers_grow, powers_of_one}
use Rattle.node_forms.specs.Costs.{Costs, most}
use Rattle.node_forms.specs.Forms.{form_by}
use Rattle.node_forms.proofs.Terms.{mul_more}

pub greatest_has : (e : List ℤ) (ts : List Term) (t : Term) → Contains ts t → value_of e t ≤ greatest_of e (terms ts)
greatest_has e [] t m = absurd (contains_none t m)
greatest_has e (u ∷ ts) t m = elim (contains_cases u ts t m) [
  | inl same ↦ subst (λ (x : Term). value_of e x ≤ greatest_of e (terms (u ∷ ts))) same (omega arith)
  | inr later ↦ let h = greatest_has e ts t later in omega (arith, h)
]

pub most_has : (ns : List ℕ) (n : ℕ) → Contains ns n → n ≤ most ns
most_has [] n m = absurd (contains_none n m)
most_has (k ∷ ns) n m = elim (contains_cases k ns n m) [
  | inl same ↦ subst (λ x. x ≤ most (k ∷ ns)) same (omega arith)
  | inr later ↦ let h = most_has ns n later in omega (arith, h)
]

-- ---- so much where each visit costs so much, the last ones cost so much, and each has at most b behind it
abbrev pub amount : ℕ → ℕ → ℕ → ℕ → ℕ
amount zero visit last n = last
amount (suc b) visit last n = geo (suc b) n * visit + suc b ^ n * last

power_low : (b n : ℕ) → 1 ≤ suc b ^ n
power_low b n = let h = (powers_grow 1 (suc b) n n (omega arith) (omega arith) (omega arith)).1 in let e = (powers_of_one n).1 in omega (arith, h, e)

geo_low : (b n : ℕ) → 1 ≤ n → 1 ≤ geo (suc b) n
geo_low b n low = let h = (powers_grow 1 (suc b) n n (omega arith) (omega arith) (omega arith)).0 in let e = (powers_of_one n).0 in omega (arith, h, e, low)

once : (a k : ℕ) → 1 ≤ a → k ≤ a * k
once a k low = let h = mul_more 1 a k k low (omega arith) in let e : 1 * k ≡ k = omega arith in omega (arith, h, e)

pub last_within : (b visit last n : ℕ) → last ≤ amount b visit last n
last_within zero visit last n = omega arith
last_within (suc b) visit last n = let h = once (suc b ^ n) last (power_low b n) in omega (arith, h)

pub visit_within : (b visit last n : ℕ) → 1 ≤ b → 1 ≤ n → visit ≤ amount b visit last n
visit_within zero visit last n some low = absurd (let f : ⊥ = omega (arith, some) in f)
visit_within (suc b) visit last n some low = let h = once (geo (suc b) n) visit (geo_low b n low) in omega (arith, h)

pub amount_grows : (b visit last n m : ℕ) → n ≤ m → amount b visit last n ≤ amount b visit last m
amount_grows zero visit last n m h = omega arith
amount_grows (suc b) visit last n m h =
    let p = powers_grow (suc b) (suc b) n m (omega arith) (omega arith) h in
    let g = mul_more (geo (suc b) n) (geo (suc b) m) visit visit p.0 (omega arith) in
    let q = mul_more (suc b ^ n) (suc b ^ m) last last p.1 (omega arith) in
    omega (arith, g, q)

next_is : (b g p visit last : ℕ) → visit + b * (g * visit + p * last) ≡ (b * g + 1) * visit + (b * p) * last
next_is b g p visit last = grind arith

-- one visit, and at most b behind it that are less high
pub visit_more : (b visit last n j k : ℕ) → 1 ≤ b → j ≤ b → k ≤ visit + j * amount b visit last n → k ≤ amount b visit last (n + 1)
visit_more zero visit last n j k some few h = absurd (let f : ⊥ = omega (arith, some) in f)
visit_more (suc b) visit last n j k some few h =
    let g = geo (suc b) n in
    let p = suc b ^ n in
    let all = mul_more j (suc b) (amount (suc b) visit last n) (amount (suc b) visit last n) few (omega arith) in
    let e = next_is (suc b) g p visit last in
    let low : k ≤ (suc b * g + 1) * visit + (suc b * p) * last = omega (arith, h, all, e) in
    let go = powers_go (suc b) n in
    let first : k ≤ geo (suc b) (n + 1) * visit + (suc b * p) * last = subst (λ (x : ℕ). k ≤ x * visit + (suc b * p) * last) (sym go.0) low in
    subst (λ (x : ℕ). k ≤ geo (suc b) (n + 1) * visit + x * last) (sym go.1) first

-- ---- the form is worth it
nothing_more : (a b k : ℕ) → k ≤ a * b → k ≤ a * (b * 1)
nothing_more a b k h = let e : b * 1 ≡ b = omega arith in subst (λ (x : ℕ). k ≤ a * x) (sym e) h

pub form_is_worth : (b : ℕ) (costs : Costs) (n : Floored) (e : List ℤ) → amount b (greatest_of e (terms costs.visit)) (greatest_of e (terms costs.last)) (floored_value e n) ≤ value_of e (form_by b costs n)
form_is_worth zero costs n e = omega arith
form_is_worth (suc zero) costs n e =
    let V = greatest_of e (terms costs.visit) in
    let L = greatest_of e (terms costs.last) in
    let h = floored_value e n in
    let one = powers_of_one h in
    let first : geo 1 h * V ≤ h * (V * 1) = nothing_more h V (geo 1 h * V) (subst (λ (x : ℕ). geo 1 h * V ≤ x * V) one.0 (omega arith)) in
    let second : 1 ^ h * L ≤ L = subst (λ (x : ℕ). x * L ≤ L) (sym one.1) (omega arith) in
    omega (arith, first, second)
form_is_worth (suc (suc b)) costs n e =
    let V = greatest_of e (terms costs.visit) in
    let L = greatest_of e (terms costs.last) in
    let h = floored_value e n in
    let first = nothing_more (geo (suc (suc b)) h) V (geo (suc (suc b)) h * V) (omega arith) in
    let second = nothing_more (suc (suc b) ^ h) L (suc (suc b) ^ h * L) (omega arith) in
    omega (arith, first, second)
