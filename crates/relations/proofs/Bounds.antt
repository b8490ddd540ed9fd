-- What is bound, by marks and by places.
use Rattle.std.proofs.Common.{◌≡◌, ℕ, zero, suc, ◌+◌, ◌<◌, ◌≤◌, nat_lt, nat_eq, Bool, true, false, not, ◌&&◌, ◌||◌, ℤ, pos, List, [], ◌∷◌, ◌++◌, reverse, drop, get_or, length, sum_by, take, refl, sym, ap, ◌∙◌, add-one, arith}
use Rattle.std.specs.List.{list_any, list_all}
use Rattle.std.specs.Ordering.{int_eq}
use Rattle.std.proofs.lemmas.List.{reverse-append, drop_more, drop_all}
use Rattle.std.proofs.lemmas.Bool.{le-ltb}
use Rattle.std.proofs.lemmas.List.Folds.{list_any-append}
use Rattle.relations.specs.declared.walk.Mark.{Mark}
use Rattle.relations.specs.declared.walk.Mark.TheVariants.{Made, Second}
use Rattle.relations.specs.Scope.{is_bound, coefficients_bound, lin_bound}
use Rattle.relations.specs.inside.Walk.{made_of, makes}

or_false : (a : Bool) → (a || false) ≡ a
or_false true = refl
or_false false = refl

or_swap : (a b : Bool) → (a || b) ≡ (b || a)
or_swap true true = refl
or_swap true false = refl
or_swap false true = refl
or_swap false false = refl

any_reverse : {A : Type 0} (p : A → Bool) (xs : List A) → list_any p (reverse xs) ≡ list_any p xs
any_reverse p [] = refl
any_reverse p (x ∷ xs) =
    ap (list_any p) (reverse-append (x ∷ []) xs) ∙ list_any-append p (reverse xs) (x ∷ []) ∙ ap (λ b. b || (p x || false)) (any_reverse p xs)
    ∙ ap (λ b. list_any p xs || b) (or_false (p x)) ∙ or_swap (list_any p xs) (p x)

any_makes : (v : ℕ) (marks : List Mark) → list_any (makes v) marks ≡ list_any (nat_eq v) (made_of marks)
any_makes v [] = refl
any_makes v (Made w ∷ marks) = ap (λ b. nat_eq v w || b) (any_makes v marks)
any_makes v (Second rule along ∷ marks) = any_makes v marks

-- a variable that is no size is bound where a mark makes it
pub made_bound : (sizes v : ℕ) (marks : List Mark) (b : Bool) → sizes ≤ v → b ≡ list_any (makes v) (reverse marks) → b ≡ is_bound sizes (made_of marks) v
made_bound sizes v marks b low e = e ∙ any_reverse (makes v) marks ∙ any_makes v marks ∙ ap (λ c. c || list_any (nat_eq v) (made_of marks)) (sym (le-ltb v sizes low))

-- one coefficient more
pub bound_next : (sizes : ℕ) (made : List ℕ) (i : ℕ) (cs : List ℤ) → i < length cs → coefficients_bound sizes made i (drop i cs) ≡ ((int_eq (get_or cs i (pos 0)) (pos 0) || is_bound sizes made i) && coefficients_bound sizes made (i + 1) (drop (i + 1) cs))
bound_next sizes made i cs low = ap (coefficients_bound sizes made i) (drop_more cs i (pos 0) low) ∙ ap (λ k. (int_eq (get_or cs i (pos 0)) (pos 0) || is_bound sizes made i) && coefficients_bound sizes made k (drop (i + 1) cs)) (let e : suc i ≡ i + 1 = omega arith in e)

pub bound_end : (sizes : ℕ) (made : List ℕ) (i : ℕ) (cs : List ℤ) → length cs ≤ i → coefficients_bound sizes made i (drop i cs) ≡ true
bound_end sizes made i cs low = ap (coefficients_bound sizes made i) (drop_all i cs low)
