-- Where a word is cut.
use Rattle.std.proofs.Common.{◌≡◌, ℕ, zero, suc, ◌+◌, ◌-◌, ◌<◌, ◌≤◌, Bool, true, false, ◌&&◌, cond, eqb, ltb, nat_eq, List, [], ◌∷◌, length, get_or, take, drop, Some, None, refl, sym, ◌∙◌, arith, add-one, take_all, length-drop}
use Rattle.std.specs.List.{starts_with, position, position_or_len}
use Rattle.std.proofs.lemmas.List.Sums.{fails_before_first}
use Rattle.std.proofs.lemmas.Bool.{false≢true}
use Rattle.std.proofs.lemmas.Bool.Decides.{nat_tests}
use Rattle.std.proofs.lemmas.Option.{none-some}
use borrow.Author.Tests.{ltb-false}
use Rattle.cost_words.specs.Target.{at_dot, at_colon}

pub at_dot-found : (word : List ℕ) (i : ℕ) → i < length word → eqb (get_or word i 0) 46 ≡ true → ((k : ℕ) → k < i → eqb (get_or word k 0) 46 ≡ false) → at_dot word ≡ Some (take i word, drop (suc i) word)
at_dot-found [] i within found before = absurd (omega arith)
at_dot-found (b ∷ word) zero within found before = rw found refl
at_dot-found (b ∷ word) (suc i) within found before =
    let here : eqb b 46 ≡ false = before 0 (omega arith) in
    let rest = at_dot-found word i (omega arith) found (λ k h. before (suc k) (omega arith)) in
    rw (here, rest) refl

-- as code cuts: behind the place up to the end
pub at_dot-cut : (word : List ℕ) (i : ℕ) → i < length word → eqb (get_or word i 0) 46 ≡ true → ((k : ℕ) → k < i → eqb (get_or word k 0) 46 ≡ false) → Some (take i word, take (length word - (i + 1)) (drop (i + 1) word)) ≡ at_dot word
at_dot-cut word i within found before =
    let all : take (length word - suc i) (drop (suc i) word) ≡ drop (suc i) word = take_all _ _ (simp length-drop (omega arith)) in
    rw (at_dot-found word i within found before, add-one, all) refl

pub at_dot-none : (word : List ℕ) → ((k : ℕ) → k < length word → eqb (get_or word k 0) 46 ≡ false) → at_dot word ≡ None
at_dot-none [] before = refl
at_dot-none (b ∷ word) before =
    let here : eqb b 46 ≡ false = before 0 (omega arith) in
    let rest = at_dot-none word (λ k h. before (suc k) (omega arith)) in
    rw (here, rest) refl

abbrev pub colon : List ℕ
colon = 58 ∷ 40 ∷ []

and_false : (b : Bool) → (b && false) ≡ false
and_false true = refl
and_false false = refl

is_past : (b : Bool) (i : ℕ) → None ≡ cond b (Some i) None → b ≡ false
is_past true i h = absurd (none-some i h)
is_past false i h = refl

same_test : (a b : ℕ) (rest : List ℕ) (t : Bool) → starts_with nat_eq (a ∷ b ∷ rest) colon ≡ t → (eqb a 58 && eqb b 40) ≡ t
same_test a b rest t h = grind (arith, nat_tests)

pub at_colon-found : (word : List ℕ) (i : ℕ) → i < length word → starts_with nat_eq (drop i word) colon ≡ true → ((k : ℕ) → k < i → starts_with nat_eq (drop k word) colon ≡ false) → at_colon word ≡ Some (take i word, drop (suc i) word)
at_colon-found [] i within found before = absurd (omega arith)
at_colon-found (a ∷ []) zero within found before = absurd (false≢true (sym (and_false (eqb 58 a)) ∙ found))
at_colon-found (a ∷ []) (suc i) within found before = absurd (omega arith)
at_colon-found (a ∷ b ∷ word) zero within found before = rw (same_test a b word true found) refl
at_colon-found (a ∷ b ∷ word) (suc i) within found before =
    let here = same_test a b word false (before 0 (omega arith)) in
    let rest = at_colon-found (b ∷ word) i (omega arith) found (λ k h. before (suc k) (omega arith)) in
    rw (here, rest) refl

-- as code tests: from the place up to the end
pub at_colon-cut : (word : List ℕ) (i : ℕ) → i < length word → true ≡ starts_with nat_eq (take (length word - i) (drop i word)) colon → ((k : ℕ) → k < i → starts_with nat_eq (drop k word) colon ≡ false) → Some (take i word, drop (i + 1) word) ≡ at_colon word
at_colon-cut word i within found before =
    let all : take (length word - i) (drop i word) ≡ drop i word = take_all _ _ (simp length-drop (omega arith)) in
    let here : starts_with nat_eq (drop i word) colon ≡ true = sym (rw all at found) in
    rw (at_colon-found word i within here before, add-one) refl

pub at_colon-none : (word : List ℕ) → ((k : ℕ) → k < length word → starts_with nat_eq (drop k word) colon ≡ false) → at_colon word ≡ None
at_colon-none [] before = refl
at_colon-none (a ∷ []) before = refl
at_colon-none (a ∷ b ∷ word) before =
    let here = same_test a b word false (before 0 (omega arith)) in
    let rest = at_colon-none (b ∷ word) (λ k h. before (suc k) (omega arith)) in
    rw (here, rest) refl

-- what `position` says where it finds none
pub fails_everywhere : (p : ℕ → Bool) (xs : List ℕ) → None ≡ position p xs → (k : ℕ) → k < length xs → p (get_or xs k 0) ≡ false
fails_everywhere p xs none k h =
    let past : ltb (position_or_len p xs) (length xs) ≡ false = is_past _ _ none in
    let far : length xs ≤ position_or_len p xs = ltb-false _ _ past in
    fails_before_first p xs k 0 (omega arith)
