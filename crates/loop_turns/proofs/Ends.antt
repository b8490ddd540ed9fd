-- A list doesn't end in a longer one, and ends in one as long as itself only where that is itself.
use Rattle.std.proofs.Common.{◌≡◌, ℕ, suc, ◌+◌, List, [], ◌∷◌, ◌++◌, length, refl, sym, ap, arith}

length_of_both : (xs ys : List ℕ) → length (xs ++ ys) ≡ length xs + length ys
length_of_both [] ys = omega arith
length_of_both (x ∷ xs) ys = let e = length_of_both xs ys in omega arith

pub no_longer_end : (front s : List ℕ) (l : ℕ) (rear : List ℕ) → s ≡ front ++ (l ∷ (rear ++ s)) → ⊥
no_longer_end front s l rear e =
    let whole : length s ≡ length (front ++ (l ∷ (rear ++ s))) = ap length e in
    let parts = length_of_both front (l ∷ (rear ++ s)) in
    let end = length_of_both rear s in
    let one : length (l ∷ (rear ++ s)) ≡ suc (length (rear ++ s)) = refl in
    absurd (omega arith)

pub own_end : (front s : List ℕ) (q l : ℕ) (rear : List ℕ) → q ∷ s ≡ front ++ (l ∷ (rear ++ s)) → (l ≡ q) × (rear ≡ [])
own_end [] s q l rear e = at_once rear (let f : s ≡ rear ++ s = cc in f) (let f : q ≡ l = cc in f)
  where
    at_once : (rear : List ℕ) → s ≡ rear ++ s → q ≡ l → (l ≡ q) × (rear ≡ [])
    at_once [] e f = (sym f, refl)
    at_once (x ∷ rear) e f = absurd (no_longer_end [] s x rear e)
own_end (x ∷ front) s q l rear e = absurd (no_longer_end front s l rear (let f : s ≡ front ++ (l ∷ (rear ++ s)) = cc in f))
