-- What is made of one number more.
use Rattle.std.proofs.Common.{◌≡◌, ℕ, ◌+◌, ◌≤◌, arith, Bool, List, [], ◌∷◌, ◌++◌, map, ap, sym, ◌∙◌, zero-add}
use Rattle.std.specs.List.{range_with_len}
use Rattle.std.proofs.lemmas.List.FromFn.{map-range_with_len_more}

pub one_more : (f : ℕ → Bool) (n : ℕ) (made new : List Bool) (v : Bool) → made ≡ map f (range_with_len 0 n) → new ≡ made ++ v ∷ [] → v ≡ f n → new ≡ map f (range_with_len 0 (n + 1))
one_more f n made new v e g h = g ∙ ap (λ l. l ++ v ∷ []) e ∙ ap (λ x. map f (range_with_len 0 n) ++ x ∷ []) h ∙ sym (map-range_with_len_more f 0 n n (zero-add n))

pub all_made : (f : ℕ → Bool) (n m : ℕ) (made : List Bool) → made ≡ map f (range_with_len 0 n) → m ≤ n → n ≤ m → made ≡ map f (range_with_len 0 m)
all_made f n m made e up down =
    let same : n ≡ m = omega arith in
    e ∙ ap (λ k. map f (range_with_len 0 k)) same
