-- The value of each number where each chosen number is 0.
use Rattle.std.specs.Prelude.{◌≡◌, ℕ, if◌then◌else◌, pos, ◌≤ℤ◌, ◌<ℤ◌, List, [], ◌∷◌, Contains}
use Rattle.std.proofs.Common.{refl, sym, ap, subst}
use Rattle.q128.specs.Fraction.{Fraction, whole, IsSame, plus, times}
use Rattle.q128.proofs.Field.{same_sym, same_trans, plus-same, times-zero, zero-plus}
use Rattle.fraction_laws.proofs.Signs.{sum_signs}
use Rattle.common_laws.proofs.Members.{contains_head, contains_tail}
use Rattle.common_laws.proofs.Numbers.{contains_listed}
use Rattle.lin_rows.specs.Linear.{Linear}
use Rattle.solver_paths.specs.Choices.{IsOut, Solves, Dictionary, expressed, IsDictionary, basic_value}
use Rattle.solver_paths.proofs.Chosen.{not_listed}

pub basic_chosen : (choice : List ℕ) (d : Dictionary) (n : ℕ) → Contains choice n → basic_value choice d n ≡ whole (pos 0)
basic_chosen choice d n h = ap (λ b. if b then whole (pos 0) else d.constant n) (contains_listed n choice h)

pub basic_out : (choice : List ℕ) (d : Dictionary) (n : ℕ) → (Contains choice n → ⊥) → basic_value choice d n ≡ d.constant n
basic_out choice d n h = ap (λ b. if b then whole (pos 0) else d.constant n) (not_listed choice n h)

-- an expression where each of its numbers is 0
pub at_zeros : (d : Dictionary) (cs : List ℕ) (x : ℕ → Fraction) (n : ℕ) → ((c : ℕ) → Contains cs c → x c ≡ whole (pos 0)) → IsSame (expressed d cs x n) (d.constant n)
at_zeros d [] x n none = refl
at_zeros d (c ∷ cs) x n none =
    let k = d.coefficient n c in
    let zero = whole (pos 0) in
    let term : IsSame (times k (x c)) zero = subst (λ z. IsSame (times k z) zero) (sym (none c (contains_head c cs))) (times-zero k) in
    let rest = at_zeros d cs x n (λ e h. none e (contains_tail c cs e h)) in
    same_trans (plus (times k (x c)) (expressed d cs x n)) (plus zero (d.constant n)) (d.constant n)
    (plus-same (times k (x c)) zero (expressed d cs x n) (d.constant n) term rest)
    (zero-plus (d.constant n))

-- the basic values of a choice solve the rows
pub basic_solves : (rows : List Linear) (choice : List ℕ) (d : Dictionary) → IsDictionary rows choice d → Solves rows (basic_value choice d)
basic_solves rows choice d is = (is.same (basic_value choice d)).1 (record { each = each })
  where
    each : (n : ℕ) → IsOut rows choice n → IsSame (basic_value choice d n) (expressed d choice (basic_value choice d) n)
    each n out = subst (λ z. IsSame z (expressed d choice (basic_value choice d) n)) (sym (basic_out choice d n out.apart)) (same_sym (expressed d choice (basic_value choice d) n) (d.constant n) (at_zeros d choice (basic_value choice d) n (basic_chosen choice d)))

-- so they meet the equations of each other choice
pub basic_carried : (rows : List Linear) (a b : List ℕ) (da db : Dictionary) → IsDictionary rows a da → IsDictionary rows b db → (n : ℕ) → IsOut rows b n → IsSame (basic_value a da n) (expressed db b (basic_value a da) n)
basic_carried rows a b da db isa isb n out = ((isb.same (basic_value a da)).0 (basic_solves rows a da isa)).each n out

-- an expression is negative where its constant is and no term is above 0
pub stays_negative : (d : Dictionary) (cs : List ℕ) (x : ℕ → Fraction) (n : ℕ) → (d.constant n).num <ℤ pos 0 → ((c : ℕ) → Contains cs c → (times (d.coefficient n c) (x c)).num ≤ℤ pos 0) → (expressed d cs x n).num <ℤ pos 0
stays_negative d [] x n low terms = low
stays_negative d (c ∷ cs) x n low terms =
    (sum_signs (times (d.coefficient n c) (x c)) (expressed d cs x n)).right (terms c (contains_head c cs)) (stays_negative d cs x n low (λ e h. terms e (contains_tail c cs e h)))
