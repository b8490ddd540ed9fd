-- A product of values, part by part.
use Rattle.std.proofs.Common.{ℕ, ◌≡◌, ◌*◌, ◌+◌, ◌<◌, List, ◌∷◌, length, get_or, drop, sym, ◌∙◌, ap, subst, arith}
use Rattle.std.proofs.lemmas.List.{drop_more}
use Rattle.std.specs.Prelude.{ℤ, ◌↔◌, Option}
use Rattle.bound_terms.specs.declared.bound.Bound.{Bound}
use Rattle.bound_terms.specs.Bounds.{term_of, terms_of}
use Rattle.bound_terms.specs.Values.{value_of, product_of, Fits, AllFit}
use Rattle.bound_terms.specs.inside.Running.{Holds}

-- what the loop keeps of a product and the parts that are left
abbrev pub Multiplies : List ℤ → Type 0 → ℕ → Option ℕ → List Bound → Type 0
Multiplies sizes P whole o bs = (AllFit sizes (terms_of bs) ↔ P) × ((m : ℕ) × Holds o m × (m * product_of sizes (terms_of bs) ≡ whole))

same_product : (m v p whole : ℕ) → m * (v * p) ≡ whole → (m * v) * p ≡ whole
same_product m v p whole e = grind (arith, e)

multiplied : (sizes : List ℤ) (P : Type 0) (whole v : ℕ) (o r : Option ℕ) (b : Bound) (bs : List Bound) → Fits sizes (term_of b) → v ≡ value_of sizes (term_of b) → ((m : ℕ) → Holds o m → Holds r (m * v)) → Multiplies sizes P whole o (b ∷ bs) → Multiplies sizes P whole r bs
multiplied sizes P whole v o r b bs fits is times h =
    let m = h.1.0 in
    let e : m * (v * product_of sizes (terms_of bs)) ≡ whole = let Q : ℕ → Type 0 = λ x. m * (x * product_of sizes (terms_of bs)) ≡ whole in subst Q (sym is) h.1.2 in
    ((λ all. h.0.0 (fits, all), λ p. (h.0.1 p).1), (m * v, times m h.1.1, same_product m v (product_of sizes (terms_of bs)) whole e))

pub multiplied_at : (sizes : List ℤ) (P : Type 0) (whole v : ℕ) (o r : Option ℕ) (bs : List Bound) (i : ℕ) (b : Bound) → i < length bs → b ≡ get_or bs i b → Fits sizes (term_of b) → v ≡ value_of sizes (term_of b) → ((m : ℕ) → Holds o m → Holds r (m * v)) → Multiplies sizes P whole o (drop i bs) → Multiplies sizes P whole r (drop (i + 1) bs)
multiplied_at sizes P whole v o r bs i b below at fits is times h =
    let e : drop i bs ≡ b ∷ drop (i + 1) bs = drop_more bs i b below ∙ ap (λ x. x ∷ drop (i + 1) bs) (sym at) in
    let Q : List Bound → Type 0 = λ ds. Multiplies sizes P whole o ds in
    multiplied sizes P whole v o r b (drop (i + 1) bs) fits is times (subst Q e h)
