-- The first answer for the classes in order.
use Rattle.std.proofs.Common.{◌≡◌, ℕ, suc, ◌+◌, ◌-◌, ◌<◌, ◌≤◌, Option, Some, None, arith, refl, ap, ◌∙◌, add-one}
use Rattle.std.specs.Option.{option_or}
use Rattle.class_hierarchy.specs.Building.{first_number}

number_at : {A : Type 0} (f : ℕ → Option A) (n i : ℕ) → i < n → first_number f (n - i) i ≡ option_or (f i) (first_number f (n - (i + 1)) (i + 1))
unfolding first_number
number_at f n i h = let less : n - i ≡ suc (n - (i + 1)) = omega arith in rw (less, add-one) refl

pub number_here : {A : Type 0} (f : ℕ → Option A) (n i : ℕ) (x : A) (r : Option A) → i < n → r ≡ first_number f (n - i) i → f i ≡ Some x → r ≡ Some x
number_here f n i x r h e g = e ∙ number_at f n i h ∙ ap (λ o. option_or o (first_number f (n - (i + 1)) (i + 1))) g

pub number_later : {A : Type 0} (f : ℕ → Option A) (n i : ℕ) (r : Option A) → i < n → r ≡ first_number f (n - i) i → f i ≡ None → r ≡ first_number f (n - (i + 1)) (i + 1)
number_later f n i r h e g = e ∙ number_at f n i h ∙ ap (λ o. option_or o (first_number f (n - (i + 1)) (i + 1))) g

pub number_end : {A : Type 0} (f : ℕ → Option A) (n i : ℕ) (r : Option A) → n ≤ i → r ≡ first_number f (n - i) i → r ≡ None
unfolding first_number
number_end f n i r h e = let none : n - i ≡ 0 = omega arith in e ∙ ap (λ k. first_number f k i) none
