-- Two pivots that can't both be the solver's: one by which a row h enters, and one by which it leaves for a lower row,
-- where the rows above h that the second has chosen are chosen at the first too.
use Rattle.std.specs.Prelude.{◌≡◌, ◌≢◌, ◌⊎◌, ℕ, ◌<◌, ◌≤◌, ℤ, pos, negsuc, zero, suc, ◌≤ℤ◌, ◌<ℤ◌, List, Contains}
use Rattle.std.proofs.Common.{arith, inl, inr, refl, sym, ap, subst}
use Rattle.std.proofs.lemmas.Bool.{cases_lt, cases_order}
use Rattle.std.proofs.lemmas.Int.{ints, by_lt_z}
use Rattle.std.proofs.lemmas.List.Elements.{All-contains}
use Rattle.q128.specs.Fraction.{Fraction, times}
use Rattle.fraction_laws.proofs.Signs.{signs_agree, product_signs}
use Rattle.lin_rows.specs.Linear.{Linear}
use Rattle.solver_paths.specs.Choices.{variable_count, number_count, IsRow, Dictionary, expressed, IsDictionary, basic_value}
use Rattle.solver_paths.specs.Pivots.{MayLeave, IsWorst, IsPivot, NoneLeaves}
use Rattle.solver_paths.proofs.Chosen.{chosen_or_not}
use Rattle.solver_paths.proofs.Basics.{basic_chosen, basic_out, basic_carried, stays_negative}

-- ---- where a pivot's row is worst, the basic values of the rows below it aren't negative
pub met_below : (rows : List Linear) (choice : List ℕ) (d : Dictionary) (h s : ℕ) → IsWorst rows choice d h → s < h → IsRow rows s → pos 0 ≤ℤ (basic_value choice d s).num
met_below rows choice d h s worst lt row = elim (chosen_or_not choice s) [
  | inl has ↦ subst (λ z. pos 0 ≤ℤ z.num) (sym (basic_chosen choice d s has)) (omega (arith, ints))
  | inr lacks ↦ subst (λ z. pos 0 ≤ℤ z.num) (sym (basic_out choice d s lacks)) ((worst.lowest s lt).met row (record { within = row.within; apart = lacks }))
]

pub worst_negative : (rows : List Linear) (choice : List ℕ) (d : Dictionary) (h : ℕ) → IsWorst rows choice d h → (basic_value choice d h).num <ℤ pos 0
worst_negative rows choice d h worst = subst (λ z. z.num <ℤ pos 0) (sym (basic_out choice d h worst.out.apart)) worst.negative

-- ---- the signs of coefficients of numbers that may not leave
pub none_of_variable : (rows : List Linear) (k : Fraction) (c : ℕ) → (MayLeave rows k c → ⊥) → c < variable_count rows → k.num ≡ pos 0
none_of_variable rows k c not lt = is k.num (λ some. not (inl (lt, some)))
  where
    is : (n : ℤ) → (n ≢ pos 0 → ⊥) → n ≡ pos 0
    is (pos zero) h = refl
    is (pos (suc m)) h = absurd (h (λ e. absurd (cc)))
    is (negsuc m) h = absurd (h (λ e. absurd (cc)))

pub low_of_row : (rows : List Linear) (k : Fraction) (c : ℕ) → (MayLeave rows k c → ⊥) → IsRow rows c → k.num ≤ℤ pos 0
low_of_row rows k c not row = by_lt_z (pos 0) k.num (λ lt. absurd (not (inr (row, lt)))) (λ le. le)

high_of_row : (rows : List Linear) (k : Fraction) (c : ℕ) → MayLeave rows k c → IsRow rows c → pos 0 <ℤ k.num
high_of_row rows k c (inl both) row = let l = both.0 in let m = row.past_variables in absurd (omega arith)
high_of_row rows k c (inr both) row = both.1

-- ---- the terms of the second pivot's row, at the basic values of the first
record Given (rows : List Linear) (a b : List ℕ) (da db : Dictionary) (h r : ℕ) : Type 0 where
  dictionary : IsDictionary rows b db
  worst : IsWorst rows a da h
  leaves : MayLeave rows (db.coefficient r h) h
  lowest : NoneLeaves rows b db r h
  above : (s : ℕ) → h < s → Contains b s → Contains a s

term_low : (rows : List Linear) (a b : List ℕ) (da db : Dictionary) (h r c : ℕ) → Given rows a b da db h r → Contains b c → (times (db.coefficient r c) (basic_value a da c)).num ≤ℤ pos 0
term_low rows a b da db h r c g there = elim (cases_order c h) [
  | inl same ↦
      let k = product_signs (db.coefficient r h) (basic_value a da h) in
      let low = k.negative (high_of_row rows (db.coefficient r h) h g.leaves g.worst.row) (worst_negative rows a da h g.worst) in
      subst (λ n. (times (db.coefficient r n) (basic_value a da n)).num ≤ℤ pos 0) (sym same) (omega (arith, ints))
  | inr (inl lt) ↦ below lt (g.lowest c lt there) (cases_lt c (variable_count rows))
  | inr (inr gt) ↦
      let k = product_signs (db.coefficient r c) (basic_value a da c) in
      let none : (basic_value a da c).num ≡ pos 0 = ap (λ z. z.num) (basic_chosen a da c (g.above c gt there)) in
      omega (arith, ints, k.right_none none)
]
  where
    below : c < h → (MayLeave rows (db.coefficient r c) c → ⊥) → (c < variable_count rows) ⊎ (variable_count rows ≤ c) → (times (db.coefficient r c) (basic_value a da c)).num ≤ℤ pos 0
    below lt not (inl variable) =
        let k = product_signs (db.coefficient r c) (basic_value a da c) in
        omega (arith, ints, k.left_none (none_of_variable rows (db.coefficient r c) c not variable))
    below lt not (inr past) =
        let k = product_signs (db.coefficient r c) (basic_value a da c) in
        let row : IsRow rows c = record { past_variables = past; within = All-contains (λ (n : ℕ). n < number_count rows) b c g.dictionary.below there } in
        k.low (low_of_row rows (db.coefficient r c) c not row) (met_below rows a da h c g.worst lt row)

pub clash : (rows : List Linear) (a b : List ℕ) (da db : Dictionary) (h c r : ℕ) → IsDictionary rows a da → IsPivot rows a da h c → IsDictionary rows b db → IsPivot rows b db r h → r < h → ((s : ℕ) → h < s → Contains b s → Contains a s) → ⊥
clash rows a b da db h c r isa first isb second lt above =
    let g : Given rows a b da db h r = record { dictionary = isb; worst = first.worst; leaves = second.leaves; lowest = second.lowest; above = above } in
    let low = stays_negative db b (basic_value a da) r second.worst.negative (λ e there. term_low rows a b da db h r e g there) in
    let same = basic_carried rows a b da db isa isb r second.worst.out in
    let negative = (signs_agree (basic_value a da r) (expressed db b (basic_value a da) r)).negative same low in
    let met = met_below rows a da h r first.worst lt second.worst.row in
    omega (arith, ints)
