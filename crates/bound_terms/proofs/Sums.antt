-- An expression's value as the sum that is made term by term.
use Rattle.std.proofs.Common.{ℕ, suc, ◌≡◌, ℤ, pos, ◌+ℤ◌, ◌*ℤ◌, List, [], ◌∷◌, slice_index_or, refl, sym, ◌∙◌, ap, arith, drop, subst, get_or, length, ◌+◌, ◌<◌, ◌≤◌, add-one}
use Rattle.std.proofs.lemmas.Int.{ints}
use Rattle.std.proofs.lemmas.List.{drop_more, drop_all}
use Rattle.std.specs.Prelude.{FitsSigned, ◌↔◌, Result, Ok, Err}
use Rattle.std.specs.Int.{w128}
use Rattle.bound_terms.specs.declared.values.TooBig.{TooBig}
use Rattle.bound_terms.specs.Values.{SumsFit, IsSummed, Answers}
use Rattle.lin_rows.specs.Linear.{Linear}
use Rattle.lin_rows.specs.Points.{whole_sum, whole_value}
use Rattle.bound_terms.specs.inside.Running.{running}

-- a sum from some size on
from_size : List ℤ → ℕ → List ℤ → ℤ
from_size sizes i cs = running sizes (pos 0) i cs

running_from : (sizes : List ℤ) (s : ℤ) (i : ℕ) (cs : List ℤ) → running sizes s i cs ≡ s +ℤ running sizes (pos 0) i cs
running_from sizes s i [] = omega (arith, ints)
running_from sizes s i (c ∷ cs) =
    let x = c *ℤ slice_index_or sizes i (pos 0) in
    omega (arith, ints, running_from sizes (s +ℤ x) (suc i) cs, running_from sizes (pos 0 +ℤ x) (suc i) cs)

-- a size in front moves the others one on
running_behind : (z : ℤ) (sizes : List ℤ) (s : ℤ) (i : ℕ) (cs : List ℤ) → running (z ∷ sizes) s (suc i) cs ≡ running sizes s i cs
running_behind z sizes s i [] = refl
running_behind z sizes s i (c ∷ cs) = running_behind z sizes (s +ℤ (c *ℤ slice_index_or sizes i (pos 0))) (suc i) cs

no_sizes : (i : ℕ) (s : ℤ) (cs : List ℤ) → running [] s i cs ≡ s
no_sizes i s [] = refl
no_sizes i s (c ∷ cs) = no_sizes (suc i) (s +ℤ (c *ℤ pos 0)) cs ∙ omega (arith, ints)

nothing_sums : (zs : List ℤ) → whole_sum (λ i. slice_index_or [] i (pos 0)) zs ≡ pos 0
nothing_sums [] = refl
nothing_sums (z ∷ zs) = omega (arith, ints, nothing_sums zs)

whole_running : (cs zs : List ℤ) → whole_sum (λ i. slice_index_or cs i (pos 0)) zs ≡ running zs (pos 0) 0 cs
whole_running cs [] = sym (no_sizes 0 (pos 0) cs)
whole_running [] (z ∷ zs) = nothing_sums (z ∷ zs)
whole_running (c ∷ cs) (z ∷ zs) =
    let e = running_from (z ∷ zs) (pos 0 +ℤ (c *ℤ z)) 1 cs in
    let b = running_behind z zs (pos 0) 0 cs in
    omega (arith, ints, e, b, whole_running cs zs)

pub running_is_value : (l : Linear) (zs : List ℤ) → running zs (pos 0) 0 l.coefficients +ℤ l.constant ≡ whole_value l zs
running_is_value l zs = ap (λ s. s +ℤ l.constant) (sym (whole_running l.coefficients zs))

-- ---- the loop
-- what its invariant says of a sum at a variable
abbrev pub Keeps : List ℤ → Type 0 → ℤ → ℤ → ℤ → ℕ → List ℤ → Type 0
Keeps sizes P r k s i cs = (SumsFit sizes s i cs k ↔ P) × (running sizes s i cs ≡ r)

kept_more : (sizes : List ℤ) (P : Type 0) (r k s : ℤ) (i : ℕ) (c : ℤ) (cs : List ℤ) → FitsSigned w128 (s +ℤ (c *ℤ slice_index_or sizes i (pos 0))) → Keeps sizes P r k s i (c ∷ cs) → Keeps sizes P r k (s +ℤ (c *ℤ slice_index_or sizes i (pos 0))) (suc i) cs
kept_more sizes P r k s i c cs fit h = ((λ x. h.0.0 (fit, x), λ p. (h.0.1 p).1), h.1)

pub kept : (sizes : List ℤ) (P : Type 0) (r k s : ℤ) (i : ℕ) (cs : List ℤ) → i < length cs → FitsSigned w128 (s +ℤ (get_or cs i (pos 0) *ℤ slice_index_or sizes i (pos 0))) → Keeps sizes P r k s i (drop i cs) → Keeps sizes P r k (s +ℤ (get_or cs i (pos 0) *ℤ slice_index_or sizes i (pos 0))) (i + 1) (drop (i + 1) cs)
kept sizes P r k s i cs below fit h =
    let y = s +ℤ (get_or cs i (pos 0) *ℤ slice_index_or sizes i (pos 0)) in
    let one : Keeps sizes P r k y (suc i) (drop (i + 1) cs) = kept_more sizes P r k s i (get_or cs i (pos 0)) (drop (i + 1) cs) fit (let Q : List ℤ → Type 0 = λ ds. Keeps sizes P r k s i ds in subst Q (drop_more cs i (pos 0) below) h) in
    let Q : ℕ → Type 0 = λ n. Keeps sizes P r k y n (drop (i + 1) cs) in
    subst Q (sym (add-one i)) one

pub not_kept : (sizes : List ℤ) (P : Type 0) (r k s : ℤ) (i : ℕ) (cs : List ℤ) → i < length cs → ¬ FitsSigned w128 (s +ℤ (get_or cs i (pos 0) *ℤ slice_index_or sizes i (pos 0))) → Keeps sizes P r k s i (drop i cs) → ¬ P
not_kept sizes P r k s i cs below wide h p =
    let more : Keeps sizes P r k s i (get_or cs i (pos 0) ∷ drop (i + 1) cs) = let Q : List ℤ → Type 0 = λ ds. Keeps sizes P r k s i ds in subst Q (drop_more cs i (pos 0) below) h in
    wide (more.0.1 p).0

answers_kept : (sizes : List ℤ) (P : Type 0) (r k s value : ℤ) (i : ℕ) (x : Result ℤ TooBig) → r +ℤ k ≡ value → Keeps sizes P r k s i [] → Answers x (FitsSigned w128 (s +ℤ k)) (s +ℤ k) → Answers x P value
answers_kept sizes P r k s value i (Ok y) e h a = (h.0.0 a.0, a.1 ∙ ap (λ z. z +ℤ k) h.1 ∙ e)
answers_kept sizes P r k s value i (Err b) e h a = λ p. a (h.0.1 p)

pub answers : (sizes : List ℤ) (l : Linear) (cs : List ℤ) (s : ℤ) (i : ℕ) (x : Result ℤ TooBig) → cs ≡ l.coefficients → length cs ≤ i → Keeps sizes (IsSummed sizes l) (running sizes (pos 0) 0 cs) l.constant s i (drop i cs) → Answers x (FitsSigned w128 (s +ℤ l.constant)) (s +ℤ l.constant) → Answers x (IsSummed sizes l) (whole_value l sizes)
answers sizes l cs s i x same all h a =
    let r = running sizes (pos 0) 0 cs in
    let none : Keeps sizes (IsSummed sizes l) r l.constant s i [] = let Q : List ℤ → Type 0 = λ ds. Keeps sizes (IsSummed sizes l) r l.constant s i ds in subst Q (drop_all i cs all) h in
    answers_kept sizes (IsSummed sizes l) r l.constant s (whole_value l sizes) i x (ap (λ ds. running sizes (pos 0) 0 ds +ℤ l.constant) same ∙ running_is_value l sizes) none a
