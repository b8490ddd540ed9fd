-- Lists of distances and places that grow.
use Rattle.std.proofs.Common.{◌≡◌, ℕ, suc, ◌+◌, ◌-◌, ◌<◌, ◌≤◌, List, [], ◌∷◌, ◌++◌, arith, refl, sym, ap, ◌∙◌, append_assoc, ℤ}
use Rattle.op_table.specs.Cases.{case_at}
use Rattle.code_blocks.specs.Successors.{case_distances}

pub more_cases : (code : List ℕ) (pc count i : ℕ) (before far : List ℤ) (d : ℤ) → i < count → d ≡ (case_at code pc i).1
    → before ≡ far ++ case_distances code pc i (count - i) → before ≡ (far ++ d ∷ []) ++ case_distances code pc (i + 1) (count - (i + 1))
more_cases code pc count i before far d lt e h =
    let n : count - i ≡ suc (count - (i + 1)) = omega arith in
    let k : i + 1 ≡ suc i = omega arith in
    h ∙ ap (λ (m : ℕ). far ++ case_distances code pc i m) n
    ∙ ap (λ (x : ℤ). far ++ (x ∷ case_distances code pc (suc i) (count - (i + 1)))) (sym e)
    ∙ sym (append_assoc far (d ∷ []) (case_distances code pc (suc i) (count - (i + 1))))
    ∙ ap (λ (m : ℕ). (far ++ d ∷ []) ++ case_distances code pc m (count - (i + 1))) (sym k)

append_none : (xs : List ℤ) → xs ++ [] ≡ xs
append_none [] = refl
append_none (x ∷ xs) = ap (λ ys. x ∷ ys) (append_none xs)

pub no_cases : (code : List ℕ) (pc count i : ℕ) (before far : List ℤ) → count ≤ i → before ≡ far ++ case_distances code pc i (count - i) → far ≡ before
no_cases code pc count i before far le h =
    let n : count - i ≡ 0 = omega arith in
    sym (h ∙ ap (λ (m : ℕ). far ++ case_distances code pc i m) n ∙ append_none far)
