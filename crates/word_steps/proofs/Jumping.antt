-- Jumps, by cases.
use Rattle.std.proofs.Common.{◌≡◌, ◌≢◌, ℕ, zero, suc, ◌+◌, ◌-◌, ◌<◌, ◌≤◌, Bool, true, false, List, Option, Some, None, refl, sym, ◌∙◌, ap, subst, arith, ℤ, pos, ⊎_elim}
use Rattle.std.specs.Prelude.{if◌then◌else◌, option_map}
use Rattle.std.specs.Ordering.{int_eq}
use Rattle.std.proofs.lemmas.Bool.{cases_lt}
use Rattle.std.proofs.lemmas.Bool.Decides.{Decides-int_eq, not_from_Decides}
use Rattle.op_table.specs.declared.acts.Action.{Action}
use Rattle.op_table.specs.declared.acts.Action.TheVariants as acts
use Rattle.op_table.specs.declared.acts.Test.{Test}
use Rattle.op_table.specs.declared.acts.Width.TheVariants as widths
use Rattle.op_table.specs.Cases.{case_at}
use Rattle.frames.specs.declared.value.Value.{Value}
use Rattle.frames.specs.Words.{PoppedNumber, PoppedTwo, popped_number, popped_two}
use Rattle.word_steps.specs.Branches as rows
use Rattle.word_steps.specs.Branches.{Chosen, Jump, Jumps, Tested, IsJump, asked, branch, case_from, holds, jump_of, null_on, same_on}

-- ---- the case of a switch

differs : (x n : ℤ) → int_eq x n ≡ false → x ≢ n
differs x n test = not_from_Decides (int_eq x n) (Decides-int_eq x n) test

apart : (x n : ℤ) → x ≢ n → int_eq x n ≡ false
apart x n other =
    elim (int_eq x n) as (λ b. int_eq x n ≡ b → b ≡ false) [ true ↦ λ test. absurd (other ((Decides-int_eq x n).0 test)) | false ↦ λ test. refl ] refl

one_more : (code : List ℕ) (pc : ℕ) (n : ℤ) (i : ℕ) → ((k : ℕ) → k < i → (case_at code pc k).0 ≢ n) → (case_at code pc i).0 ≢ n
    → (k : ℕ) → k < suc i → (case_at code pc k).0 ≢ n
one_more code pc n i before here k below =
    ⊎_elim (λ (under : k < i). before k under)
    (λ (over : i ≤ k). let same : i ≡ k = omega arith in subst (λ (m : ℕ). (case_at code pc m).0 ≢ n) same here) (cases_lt k i)

-- the cases before this one have other values
pub chosen_from : (code : List ℕ) (pc : ℕ) (n default : ℤ) (count i left : ℕ) → i + left ≡ count
    → ((k : ℕ) → k < i → (case_at code pc k).0 ≢ n) → Chosen code pc n default count (case_from code pc default n i left)
chosen_from code pc n default count i zero all before = rows.unmatched (λ k below. before k (omega arith))
chosen_from code pc n default count i (suc left) all before =
    let P : Bool → Type 0 = λ b. int_eq (case_at code pc i).0 n ≡ b
    → Chosen code pc n default count (if b then (case_at code pc i).1 else case_from code pc default n (suc i) left) in
    elim (int_eq (case_at code pc i).0 n) as P [
      | true ↦ λ test. rows.matched (omega arith) ((Decides-int_eq (case_at code pc i).0 n).0 test) before
      | false ↦ λ test.
          chosen_from code pc n default count (suc i) left (omega arith) (one_more code pc n i before (differs (case_at code pc i).0 n test))
    ] refl

skips : (code : List ℕ) (pc : ℕ) (n default : ℤ) (i left : ℕ) → (case_at code pc i).0 ≢ n
    → case_from code pc default n i (suc left) ≡ case_from code pc default n (suc i) left
skips code pc n default i left other = rw (apart (case_at code pc i).0 n other) refl

meets : (code : List ℕ) (pc : ℕ) (n default : ℤ) (i left : ℕ) → (case_at code pc i).0 ≡ n
    → case_from code pc default n i (suc left) ≡ (case_at code pc i).1
meets code pc n default i left same = rw ((Decides-int_eq (case_at code pc i).0 n).1 same) refl

-- behind so many cases that have other values
case_behind : (code : List ℕ) (pc : ℕ) (n default : ℤ) (i from left all at : ℕ) → ((k : ℕ) → k < at → (case_at code pc k).0 ≢ n)
    → all ≡ i + left → at ≡ from + i → case_from code pc default n from all ≡ case_from code pc default n at left
case_behind code pc n default zero from left all at before is to =
    let same : all ≡ left = omega arith in
    let here : from ≡ at = omega arith in
    ap (λ (m : ℕ). case_from code pc default n from m) same ∙ ap (λ (m : ℕ). case_from code pc default n m left) here
case_behind code pc n default (suc i) from left zero at before is to = absurd (omega arith)
case_behind code pc n default (suc i) from left (suc all) at before is to =
    skips code pc n default from all (before from (omega arith))
    ∙ case_behind code pc n default i (suc from) left all at before (omega arith) (omega arith)

case_of : (code : List ℕ) (pc : ℕ) (n default : ℤ) (count : ℕ) (far : ℤ) → Chosen code pc n default count far → case_from code pc default n 0 count ≡ far
case_of code pc n default count far (rows.matched {i} inside value before) =
    let left : ℕ = count - suc i in
    case_behind code pc n default i 0 (suc left) count i before (omega arith) (omega arith) ∙ meets code pc n default i left value
case_of code pc n default count far (rows.unmatched before) = case_behind code pc n default count 0 0 count count before (omega arith) (omega arith)

-- ---- the loop over the cases

one_left : (count i : ℕ) → i < count → count - i ≡ suc (count - (i + 1))
one_left count i inside = omega arith

-- a case that has the value
pub meets_at : (code : List ℕ) (pc : ℕ) (n default : ℤ) (count i : ℕ) (found : ℤ × ℤ) → i < count → found ≡ case_at code pc i → found.0 ≡ n
    → case_from code pc default n i (count - i) ≡ found.1
meets_at code pc n default count i found inside is same =
    ap (λ (m : ℕ). case_from code pc default n i m) (one_left count i inside)
    ∙ meets code pc n default i (count - (i + 1)) (sym (ap (λ (p : ℤ × ℤ). p.0) is) ∙ same) ∙ sym (ap (λ (p : ℤ × ℤ). p.1) is)

-- and one that has another
pub skips_at : (code : List ℕ) (pc : ℕ) (n default : ℤ) (count i : ℕ) (found : ℤ × ℤ) → i < count → found ≡ case_at code pc i → found.0 ≢ n
    → case_from code pc default n i (count - i) ≡ case_from code pc default n (i + 1) (count - (i + 1))
skips_at code pc n default count i found inside is other =
    let next : suc i ≡ i + 1 = omega arith in
    ap (λ (m : ℕ). case_from code pc default n i m) (one_left count i inside)
    ∙ skips code pc n default i (count - (i + 1)) (λ same. other (ap (λ (p : ℤ × ℤ). p.0) is ∙ same))
    ∙ ap (λ (m : ℕ). case_from code pc default n m (count - (i + 1))) next

-- ---- a jump is a case

zero_jumps : (code : List ℕ) (pc len : ℕ) (stack : List Value) (test : Test) (d : ℤ) (found : Option PoppedNumber) → popped_number widths.Int stack ≡ found
    → IsJump code pc len stack (acts.IfZero test d) (option_map (λ p. branch len d (holds test p.number (pos 0)) p.rest) found)
zero_jumps code pc len stack test d None is = tt
zero_jumps code pc len stack test d (Some p) is = rows.if_zero is refl

ints_jump : (code : List ℕ) (pc len : ℕ) (stack : List Value) (test : Test) (d : ℤ) (found : Option PoppedTwo) → popped_two widths.Int widths.Int stack ≡ found
    → IsJump code pc len stack (acts.IfInts test d) (option_map (λ p. branch len d (holds test p.first p.second) p.rest) found)
ints_jump code pc len stack test d None is = tt
ints_jump code pc len stack test d (Some p) is = rows.if_ints is refl

same_jumps : (code : List ℕ) (pc len : ℕ) (stack : List Value) (same : Bool) (d : ℤ) (found : Option Tested) → same_on stack ≡ found
    → IsJump code pc len stack (acts.IfSame same d) (option_map (λ t. branch len d (asked same t.holds) t.rest) found)
same_jumps code pc len stack same d None is = tt
same_jumps code pc len stack same d (Some t) is = rows.if_same is refl

null_jumps : (code : List ℕ) (pc len : ℕ) (stack : List Value) (null : Bool) (d : ℤ) (found : Option Tested) → null_on stack ≡ found
    → IsJump code pc len stack (acts.IfNull null d) (option_map (λ t. branch len d (asked null t.holds) t.rest) found)
null_jumps code pc len stack null d None is = tt
null_jumps code pc len stack null d (Some t) is = rows.if_null is refl

switch_jumps : (code : List ℕ) (pc len : ℕ) (stack : List Value) (default low : ℤ) (count : ℕ) (pairs : Bool) (found : Option PoppedNumber)
    → popped_number widths.Int stack ≡ found
    → IsJump code pc len stack (acts.Switch default low count pairs)
    (option_map (λ p. record { far = case_from code pc default p.number 0 count; stack = p.rest }) found)
switch_jumps code pc len stack default low count pairs None is = tt
switch_jumps code pc len stack default low count pairs (Some p) is =
    rows.switch is (chosen_from code pc p.number default count 0 count (omega arith) (λ k below. absurd (omega (arith, below))))

pub jumps_are_cases : (code : List ℕ) (pc len : ℕ) (action : Action) (stack : List Value) → IsJump code pc len stack action (jump_of code pc len action stack)
unfolding jump_of
jumps_are_cases code pc len (acts.IfZero test d) stack = zero_jumps code pc len stack test d (popped_number widths.Int stack) refl
jumps_are_cases code pc len (acts.IfInts test d) stack = ints_jump code pc len stack test d (popped_two widths.Int widths.Int stack) refl
jumps_are_cases code pc len (acts.IfSame same d) stack = same_jumps code pc len stack same d (same_on stack) refl
jumps_are_cases code pc len (acts.IfNull null d) stack = null_jumps code pc len stack null d (null_on stack) refl
jumps_are_cases code pc len (acts.Goto d) stack = rows.goto
jumps_are_cases code pc len (acts.Switch default low count pairs) stack =
    switch_jumps code pc len stack default low count pairs (popped_number widths.Int stack) refl
jumps_are_cases code pc len action stack = tt

-- ---- each of the cases is a jump

pub cases_are_jumps : (code : List ℕ) (pc len : ℕ) (action : Action) (stack : List Value) (far : ℤ) (rest : List Value)
    → Jumps code pc len stack action far rest → jump_of code pc len action stack ≡ Some (record { far = far; stack = rest })
unfolding jump_of
cases_are_jumps code pc len action stack far rest (rows.if_zero is by) = rw (is, by) refl
cases_are_jumps code pc len action stack far rest (rows.if_ints is by) = rw (is, by) refl
cases_are_jumps code pc len action stack far rest (rows.if_same is by) = rw (is, by) refl
cases_are_jumps code pc len action stack far rest (rows.if_null is by) = rw (is, by) refl
cases_are_jumps code pc len action stack far rest rows.goto = refl
cases_are_jumps code pc len action stack far rest (rows.switch {default} {low} {count} {pairs} {p} is by) =
    rw (is, case_of code pc p.number default count far by) refl
