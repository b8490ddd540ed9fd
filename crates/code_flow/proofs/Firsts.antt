-- The first answer for the things of a list.
use Rattle.std.proofs.Common.{◌≡◌, ℕ, suc, ◌+◌, ◌<◌, ◌≤◌, List, [], ◌∷◌, length, drop, get_or, map, Option, Some, None, arith, refl, sym, ap, ◌∙◌}
use Rattle.std.specs.Prelude.{Contains, slice_get}
use Rattle.std.specs.Option.{option_or}
use Rattle.std.proofs.lemmas.List.{drop_all}
use Rattle.common_laws.proofs.Parts.{drop_next}
use Rattle.common_laws.proofs.Members.{contains_head, contains_tail}
use Rattle.code_flow.specs.Flow.{first_of}
use Rattle.code_flow.specs.Checking.{first_from}

-- ---- without places

of_next : {A B : Type 0} (f : A → Option B) (xs : List A) (i : ℕ) (x d : A) (o : Option B) → i < length xs → x ≡ get_or xs i d → f x ≡ o → first_of f (drop i xs) ≡ option_or o (first_of f (drop (i + 1) xs))
unfolding first_of
of_next f xs i x d o lt e h = ap (λ l. first_of f l) (drop_next xs i x d lt e) ∙ ap (λ q. option_or q (first_of f (drop (i + 1) xs))) h

pub of_later : {A B : Type 0} (f : A → Option B) (xs : List A) (i : ℕ) (x d : A) (r : Option B) → i < length xs → x ≡ get_or xs i d → f x ≡ None → r ≡ first_of f (drop i xs) → r ≡ first_of f (drop (i + 1) xs)
of_later f xs i x d r lt e h is = is ∙ of_next f xs i x d None lt e h

pub of_here : {A B : Type 0} (f : A → Option B) (xs : List A) (i : ℕ) (x d : A) (y : B) (r : Option B) → i < length xs → x ≡ get_or xs i d → f x ≡ Some y → r ≡ first_of f (drop i xs) → Some y ≡ r
of_here f xs i x d y r lt e h is = sym (is ∙ of_next f xs i x d (Some y) lt e h)

pub of_end : {A B : Type 0} (f : A → Option B) (xs : List A) (i : ℕ) (r : Option B) → length xs ≤ i → r ≡ first_of f (drop i xs) → None ≡ r
unfolding first_of
of_end f xs i r le is = sym (is ∙ ap (λ l. first_of f l) (drop_all i xs le))

pub of_same : {A B : Type 0} (f g : A → Option B) (xs : List A) → ((x : A) → Contains xs x → f x ≡ g x) → first_of f xs ≡ first_of g xs
unfolding first_of
of_same f g [] h = refl
of_same f g (x ∷ xs) h = ap (λ o. option_or o (first_of f xs)) (h x (contains_head x xs)) ∙ ap (λ o. option_or (g x) o) (of_same f g xs (λ y c. h y (contains_tail x xs y c)))

-- ---- with places

from_next : {A B : Type 0} (f : ℕ → A → Option B) (xs : List A) (i : ℕ) (x d : A) (o : Option B) → i < length xs → x ≡ get_or xs i d → f i x ≡ o → first_from f i (drop i xs) ≡ option_or o (first_from f (i + 1) (drop (i + 1) xs))
unfolding first_from
from_next f xs i x d o lt e h =
    let k : suc i ≡ i + 1 = omega arith in
    ap (λ l. first_from f i l) (drop_next xs i x d lt e) ∙ ap (λ q. option_or q (first_from f (suc i) (drop (i + 1) xs))) h ∙ ap (λ j. option_or o (first_from f j (drop (i + 1) xs))) k

pub from_later : {A B : Type 0} (f : ℕ → A → Option B) (xs : List A) (i : ℕ) (x d : A) (r : Option B) → i < length xs → x ≡ get_or xs i d → f i x ≡ None → r ≡ first_from f i (drop i xs) → r ≡ first_from f (i + 1) (drop (i + 1) xs)
from_later f xs i x d r lt e h is = is ∙ from_next f xs i x d None lt e h

pub from_here : {A B : Type 0} (f : ℕ → A → Option B) (xs : List A) (i : ℕ) (x d : A) (y : B) (r : Option B) → i < length xs → x ≡ get_or xs i d → f i x ≡ Some y → r ≡ first_from f i (drop i xs) → Some y ≡ r
from_here f xs i x d y r lt e h is = sym (is ∙ from_next f xs i x d (Some y) lt e h)

pub from_end : {A B : Type 0} (f : ℕ → A → Option B) (xs : List A) (i : ℕ) (r : Option B) → length xs ≤ i → r ≡ first_from f i (drop i xs) → None ≡ r
unfolding first_from
from_end f xs i r le is = sym (is ∙ ap (λ l. first_from f i l) (drop_all i xs le))

pub from_of : {A B C : Type 0} (f : ℕ → A → Option B) (g : C → Option B) (s : C → A) (xs : List C) (k : ℕ) → ((i : ℕ) (x : C) → slice_get xs i ≡ Some x → f (k + i) (s x) ≡ g x) → first_from f k (map s xs) ≡ first_of g xs
unfolding first_from first_of
from_of f g s [] k h = refl
from_of f g s (x ∷ xs) k h =
    let first : k + 0 ≡ k = omega arith in
    ap (λ o. option_or o (first_from f (suc k) (map s xs))) (ap (λ j. f j (s x)) (sym first) ∙ h 0 x refl)
    ∙ ap (λ o. option_or (g x) o) (from_of f g s xs (suc k) (λ i y at. let n : suc k + i ≡ k + suc i = omega arith in ap (λ j. f j (s y)) n ∙ h (suc i) y at))
