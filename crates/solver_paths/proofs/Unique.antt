-- A choice, in whatever order, has one dictionary.
use Rattle.std.specs.Prelude.{◌≡◌, ℕ, false, if◌then◌else◌, pos, nat_eq, List, [], ◌∷◌, Contains}
use Rattle.std.specs.List.{IsDistinct, list_any}
use Rattle.std.proofs.Common.{inl, inr, true≢false, refl, sym, ap, ◌∙◌, subst}
use Rattle.std.proofs.lemmas.Bool.{eq-eqb, eqb-true, false_from_ne_true}
use Rattle.std.proofs.lemmas.Map.Keys.{IsDistinct-tail}
use Rattle.std.proofs.lemmas.List.Elements.{All-from_recursion, All-contains}
use Rattle.q128.specs.Fraction.{Fraction, whole, IsSame, plus, times}
use Rattle.q128.proofs.Field.{same_refl, same_sym, same_trans, plus-same, times-zero, zero-plus}
use Rattle.q128.proofs.Order.{lowest-unique}
use Rattle.fraction_laws.proofs.Sums.{times-one, plus-cancel}
use Rattle.common_laws.proofs.Members.{contains_head, contains_tail, contains_cases, contains_none}
use Rattle.common_laws.proofs.Numbers.{contains_listed}
use Rattle.lin_rows.specs.Linear.{Linear}
use Rattle.solver_paths.specs.Choices.{IsOut, AreEqual, Dictionary, expressed, Expresses, IsDictionary}
use Rattle.solver_paths.proofs.Chosen.{not_listed}
use Rattle.solver_paths.proofs.Basics.{at_zeros}

-- ---- expressions at chosen values
-- only the values of the chosen numbers count
pub expressed_each : (d : Dictionary) (cs : List ℕ) (x y : ℕ → Fraction) (n : ℕ) → ((c : ℕ) → Contains cs c → x c ≡ y c) → expressed d cs x n ≡ expressed d cs y n
expressed_each d [] x y n same = refl
expressed_each d (c ∷ cs) x y n same =
    ap (λ z. plus (times (d.coefficient n c) z) (expressed d cs x n)) (same c (contains_head c cs))
    ∙ ap (λ z. plus (times (d.coefficient n c) (y c)) z) (expressed_each d cs x y n (λ e h. same e (contains_tail c cs e h)))

-- 1 for one number, 0 for the others
pub unit_at : ℕ → ℕ → Fraction
unit_at c n = if nat_eq n c then whole (pos 1) else whole (pos 0)

unit_here : (c : ℕ) → unit_at c c ≡ whole (pos 1)
unfolding unit_at
unit_here c = ap (λ b. if b then whole (pos 1) else whole (pos 0)) (eq-eqb c c refl)

unit_past : (c n : ℕ) → nat_eq n c ≡ false → unit_at c n ≡ whole (pos 0)
unfolding unit_at
unit_past c n e = ap (λ b. if b then whole (pos 1) else whole (pos 0)) e

-- the head isn't among the others
pub head_apart : (c : ℕ) (cs : List ℕ) → IsDistinct nat_eq (c ∷ cs) → (e : ℕ) → Contains cs e → nat_eq c e ≡ false
unfolding IsDistinct
head_apart c cs distinct e there = All-contains (λ y. nat_eq c y ≡ false) cs e (All-from_recursion (λ y. nat_eq c y ≡ false) cs distinct.0) there

pub not_equal_back : (a b : ℕ) → nat_eq a b ≡ false → nat_eq b a ≡ false
not_equal_back a b e = false_from_ne_true (nat_eq b a) (λ t. true≢false (sym (eq-eqb a b (sym (eqb-true b a t))) ∙ e))

pub at_unit : (d : Dictionary) (cs : List ℕ) (c n : ℕ) → IsDistinct nat_eq cs → Contains cs c → IsSame (expressed d cs (unit_at c) n) (plus (d.coefficient n c) (d.constant n))
at_unit d [] c n distinct there = absurd (contains_none c there)
at_unit d (e ∷ cs) c n distinct there = elim (contains_cases e cs c there) [
  | inl same ↦
      let k = d.coefficient n c in
      let term : IsSame (times k (unit_at c c)) k = subst (λ z. IsSame (times k z) k) (sym (unit_here c)) (times-one k) in
      let rest : IsSame (expressed d cs (unit_at c) n) (d.constant n) = at_zeros d cs (unit_at c) n (λ u h. unit_past c u (not_equal_back c u (subst (λ v. nat_eq v u ≡ false) same (head_apart e cs distinct u h)))) in
      subst (λ v. IsSame (plus (times (d.coefficient n v) (unit_at c v)) (expressed d cs (unit_at c) n)) (plus k (d.constant n))) (sym same)
      (plus-same (times k (unit_at c c)) k (expressed d cs (unit_at c) n) (d.constant n) term rest)
  | inr later ↦
      let k = d.coefficient n e in
      let zero = whole (pos 0) in
      let goal = plus (d.coefficient n c) (d.constant n) in
      let past : unit_at c e ≡ zero = unit_past c e (head_apart e cs distinct c later) in
      let term : IsSame (times k (unit_at c e)) zero = subst (λ z. IsSame (times k z) zero) (sym past) (times-zero k) in
      let rest = at_unit d cs c n (IsDistinct-tail nat_eq e cs distinct) later in
      same_trans (plus (times k (unit_at c e)) (expressed d cs (unit_at c) n)) (plus zero goal) goal
      (plus-same (times k (unit_at c e)) zero (expressed d cs (unit_at c) n) goal term rest)
      (zero-plus goal)
]

-- ---- both dictionaries express the same
-- values that are given for the chosen numbers, and expressed for the others
pub filled : List ℕ → Dictionary → (ℕ → Fraction) → ℕ → Fraction
filled choice d y n = if list_any (nat_eq n) choice then y n else expressed d choice y n

filled_chosen : (choice : List ℕ) (d : Dictionary) (y : ℕ → Fraction) (n : ℕ) → Contains choice n → filled choice d y n ≡ y n
unfolding filled
filled_chosen choice d y n h = ap (λ b. if b then y n else expressed d choice y n) (contains_listed n choice h)

pub filled_out : (choice : List ℕ) (d : Dictionary) (y : ℕ → Fraction) (n : ℕ) → (Contains choice n → ⊥) → filled choice d y n ≡ expressed d choice y n
unfolding filled
filled_out choice d y n h = ap (λ b. if b then y n else expressed d choice y n) (not_listed choice n h)

pub filled_expresses : (rows : List Linear) (choice : List ℕ) (d : Dictionary) (y : ℕ → Fraction) → Expresses rows choice d (filled choice d y)
filled_expresses rows choice d y = record { each = each }
  where
    each : (n : ℕ) → IsOut rows choice n → IsSame (filled choice d y n) (expressed d choice (filled choice d y) n)
    each n out =
        let e : filled choice d y n ≡ expressed d choice (filled choice d y) n = filled_out choice d y n out.apart ∙ sym (expressed_each d choice (filled choice d y) y n (filled_chosen choice d y)) in
        subst (λ z. IsSame (filled choice d y n) z) e (same_refl (filled choice d y n))

pub express_same : (rows : List Linear) (a b : List ℕ) (da db : Dictionary) → IsDictionary rows a da → IsDictionary rows b db → AreEqual a b → (y : ℕ → Fraction) (n : ℕ) → IsOut rows b n → IsSame (expressed da a y n) (expressed db b y n)
express_same rows a b da db isa isb equal y n out =
    let x = filled a da y in
    let solves = (isa.same x).1 (filled_expresses rows a da y) in
    let there : IsSame (x n) (expressed db b x n) = ((isb.same x).0 solves).each n out in
    let left : x n ≡ expressed da a y n = filled_out a da y n (λ h. out.apart ((equal n).0 h)) in
    let right : expressed db b x n ≡ expressed db b y n = expressed_each db b x y n (λ c h. filled_chosen a da y c ((equal c).1 h)) in
    subst (λ z. IsSame z (expressed db b y n)) left (subst (λ z. IsSame (x n) z) right there)

-- ---- so their numbers are the same
pub same_constant : (rows : List Linear) (a b : List ℕ) (da db : Dictionary) → IsDictionary rows a da → IsDictionary rows b db → AreEqual a b → (n : ℕ) → IsOut rows b n → da.constant n ≡ db.constant n
same_constant rows a b da db isa isb equal n out =
    let y = λ (m : ℕ). whole (pos 0) in
    let left = at_zeros da a y n (λ c h. refl) in
    let right = at_zeros db b y n (λ c h. refl) in
    let same = same_trans (da.constant n) (expressed da a y n) (db.constant n) (same_sym (expressed da a y n) (da.constant n) left)
    (same_trans (expressed da a y n) (expressed db b y n) (db.constant n) (express_same rows a b da db isa isb equal y n out) right) in
    lowest-unique (da.constant n) (db.constant n) (isa.constants n) (isb.constants n) same

pub same_coefficient : (rows : List Linear) (a b : List ℕ) (da db : Dictionary) → IsDictionary rows a da → IsDictionary rows b db → AreEqual a b → (n c : ℕ) → IsOut rows b n → Contains b c → da.coefficient n c ≡ db.coefficient n c
same_coefficient rows a b da db isa isb equal n c out there =
    let y = unit_at c in
    let k = da.coefficient n c in
    let l = db.coefficient n c in
    let left = at_unit da a c n isa.distinct ((equal c).1 there) in
    let right = at_unit db b c n isb.distinct there in
    let sums = same_trans (plus k (da.constant n)) (expressed da a y n) (plus l (db.constant n)) (same_sym (expressed da a y n) (plus k (da.constant n)) left)
    (same_trans (expressed da a y n) (expressed db b y n) (plus l (db.constant n)) (express_same rows a b da db isa isb equal y n out) right) in
    let constants = same_constant rows a b da db isa isb equal n out in
    let same : IsSame k l = plus-cancel k l (db.constant n) (subst (λ z. IsSame (plus k z) (plus l (db.constant n))) constants sums) in
    lowest-unique k l (isa.coefficients n c) (isb.coefficients n c) same
