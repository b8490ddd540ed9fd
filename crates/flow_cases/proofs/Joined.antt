-- A join with a fact that lies below, and one that is no rise.
use Rattle.std.proofs.Common.{◌≡◌, refl, ap, arith, Bool, true, false, ◌||◌, List, [], ◌∷◌, length, map, drop}
use Rattle.std.specs.List.{zip, list_all}
use Rattle.flow_cases.specs.Slots.{implies}

pub joined_above : (xs ys : List Bool) → length xs ≡ length ys → list_all (λ p. implies p.0 p.1) (zip ys xs) ≡ true → xs ≡ map (λ p. p.0 || p.1) (zip xs ys)
joined_above [] ys e h = refl
joined_above (x ∷ xs) [] e h = absurd (omega (arith, e))
joined_above (true ∷ xs) (true ∷ ys) e h =
    let rest : length xs ≡ length ys = omega (arith, e) in
    ap (λ l. true ∷ l) (joined_above xs ys rest h)
joined_above (true ∷ xs) (false ∷ ys) e h =
    let rest : length xs ≡ length ys = omega (arith, e) in
    ap (λ l. true ∷ l) (joined_above xs ys rest h)
joined_above (false ∷ xs) (false ∷ ys) e h =
    let rest : length xs ≡ length ys = omega (arith, e) in
    ap (λ l. false ∷ l) (joined_above xs ys rest h)
joined_above (false ∷ xs) (true ∷ ys) e h = absurd cc

pub below_join : (xs ys : List Bool) → length xs ≡ length ys → xs ≡ map (λ p. p.0 || p.1) (zip xs ys) → list_all (λ p. implies p.0 p.1) (zip ys xs) ≡ true
below_join [] [] e h = refl
below_join [] (y ∷ ys) e h = absurd (omega (arith, e))
below_join (x ∷ xs) [] e h = absurd (omega (arith, e))
below_join (true ∷ xs) (true ∷ ys) e h =
    let rest : length xs ≡ length ys = omega (arith, e) in
    below_join xs ys rest (ap (drop 1) h)
below_join (true ∷ xs) (false ∷ ys) e h =
    let rest : length xs ≡ length ys = omega (arith, e) in
    below_join xs ys rest (ap (drop 1) h)
below_join (false ∷ xs) (false ∷ ys) e h =
    let rest : length xs ≡ length ys = omega (arith, e) in
    below_join xs ys rest (ap (drop 1) h)
below_join (false ∷ xs) (true ∷ ys) e h = absurd cc
