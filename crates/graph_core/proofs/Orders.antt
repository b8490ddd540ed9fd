-- lists compared number by number
use Rattle.std.proofs.Common.{◌≡◌, ℕ, List, [], ◌∷◌, refl, inl, inr, arith}
use Rattle.graph_core.specs.Paths.{IsNotAfter, IsFirstPath}

pub not_after_both : (xs ys : List ℕ) → IsNotAfter xs ys → IsNotAfter ys xs → xs ≡ ys
not_after_both [] [] h k = refl
not_after_both [] (y ∷ ys) h k = absurd k
not_after_both (x ∷ xs) [] h k = absurd h
not_after_both (x ∷ xs) (y ∷ ys) (inl l) (inl m) = absurd (omega arith)
not_after_both (x ∷ xs) (y ∷ ys) (inl l) (inr m) = let e : y ≡ x = m.0 in absurd (omega arith)
not_after_both (x ∷ xs) (y ∷ ys) (inr l) (inl m) = let e : x ≡ y = l.0 in absurd (omega arith)
not_after_both (x ∷ xs) (y ∷ ys) (inr l) (inr m) =
    let e : x ≡ y = l.0 in
    let r : xs ≡ ys = not_after_both xs ys l.1 m.1 in
    cc

pub first_path_one : (g : List (List ℕ)) (root b : ℕ) (p q : List ℕ) → IsFirstPath g root p b → IsFirstPath g root q b → p ≡ q
first_path_one g root b p q h k = not_after_both p q (h.first q k.path) (k.first p h.path)
