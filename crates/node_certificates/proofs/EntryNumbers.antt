-- One more number behind those of the first sizes.
use Rattle.std.proofs.Common.{◌≡◌, ℕ, ◌+◌, List, [], ◌∷◌, ◌++◌, map, arith, refl, sym, ap, ◌∙◌}
use Rattle.std.specs.List.{range_with_len}
use Rattle.std.proofs.lemmas.List.FromFn.{map-range_with_len_more}

each_same : (xs : List ℕ) → map (λ (x : ℕ). x) xs ≡ xs
each_same [] = refl
each_same (x ∷ xs) = ap (λ (ys : List ℕ). x ∷ ys) (each_same xs)

pub range_more : (n : ℕ) → range_with_len 0 (n + 1) ≡ range_with_len 0 n ++ n ∷ []
range_more n =
    let e : 0 + n ≡ n = omega arith in
    sym (each_same (range_with_len 0 (n + 1))) ∙ map-range_with_len_more (λ (x : ℕ). x) 0 n n e ∙ ap (λ (ys : List ℕ). ys ++ n ∷ []) (each_same (range_with_len 0 n))
