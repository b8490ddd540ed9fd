-- The first answer for the elements of a list.
use Rattle.std.proofs.Common.{◌≡◌, inl, inr, List, [], ◌∷◌, Option, None, subst}
use Rattle.std.specs.Prelude.{Contains}
use Rattle.common_laws.proofs.Choices.{or_none}
use Rattle.common_laws.proofs.Members.{contains_cases, contains_none}
use Rattle.code_flow.specs.Flow.{first_of}
pub use Rattle.common_laws.proofs.Members.{in_map, from_map}
pub use Rattle.common_laws.proofs.Tests.{any_in as true_of}

-- where no answer comes first, none comes
pub none_of : {A B : Type 0} (f : A → Option B) (xs : List A) → first_of f xs ≡ None → (a : A) → Contains xs a → f a ≡ None
unfolding first_of
none_of f [] none a h = absurd (contains_none a h)
none_of f (x ∷ xs) none a h =
    let parts = or_none (f x) (first_of f xs) none in
    elim (contains_cases x xs a h) [
      | inl same ↦ subst (λ y. f y ≡ None) same parts.0
      | inr later ↦ none_of f xs parts.1 a later
    ]
