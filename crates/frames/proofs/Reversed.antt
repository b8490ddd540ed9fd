-- Lists that are seen the other way round.
use Rattle.std.proofs.Common.{◌≡◌, ℕ, zero, suc, ◌-◌, ◌≤◌, List, [], ◌∷◌, ◌++◌, length, take, drop, reverse, refl, sym, ◌∙◌, ap, arith}
use Rattle.std.specs.Prelude.{slice_set}
use Rattle.std.proofs.lemmas.List.{reverse-append, reverse-reverse, take-append-drop, take-append-le, take_all, length-reverse, length-drop}
use Rattle.std.proofs.Math.Seq.{drop-append_seam}

-- a list the other way round, in two parts
parts : {X : Type 0} (xs : List X) (n : ℕ) → reverse xs ≡ reverse (drop (length xs - n) xs) ++ reverse (take (length xs - n) xs)
parts xs n = ap reverse (sym (take-append-drop (length xs - n) xs)) ∙ reverse-append (take (length xs - n) xs) (drop (length xs - n) xs)

long : {X : Type 0} (xs : List X) (n : ℕ) → n ≤ length xs → length (reverse (drop (length xs - n) xs)) ≡ n
long xs n within = omega (arith, length-reverse (drop (length xs - n) xs), length-drop (length xs - n) xs)

-- without the last so many values, the other way round
pub reverse-take : {X : Type 0} (xs : List X) (n : ℕ) → n ≤ length xs → reverse (take (length xs - n) xs) ≡ drop n (reverse xs)
reverse-take {X} xs n within =
    let front : List X = reverse (drop (length xs - n) xs) in
    let back : List X = reverse (take (length xs - n) xs) in
    sym (ap (drop n) (parts xs n) ∙ ap (λ (m : ℕ). drop m (front ++ back)) (sym (long xs n within)) ∙ drop-append_seam front back)

-- the last so many values, as they are
pub reverse-take-reverse : {X : Type 0} (xs : List X) (n : ℕ) → n ≤ length xs → reverse (take n (reverse xs)) ≡ drop (length xs - n) xs
reverse-take-reverse {X} xs n within =
    let front : List X = reverse (drop (length xs - n) xs) in
    let back : List X = reverse (take (length xs - n) xs) in
    let cut : take n (front ++ back) ≡ take n front = take-append-le n front back (omega (arith, long xs n within)) in
    let whole : take n front ≡ front = take_all n front (omega (arith, long xs n within)) in
    ap reverse (ap (take n) (parts xs n) ∙ cut ∙ whole) ∙ reverse-reverse (drop (length xs - n) xs)

-- another value in the place of the last
last_set : {X : Type 0} (xs : List X) (n : ℕ) (x : X) → suc n ≡ length xs → slice_set xs n x ≡ take n xs ++ x ∷ []
last_set [] n x is = absurd (omega (arith, is))
last_set (y ∷ []) zero x is = refl
last_set (y ∷ z ∷ xs) zero x is = absurd (omega (arith, is))
last_set {X} (y ∷ xs) (suc n) x is = ap (λ (rest : List X). y ∷ rest) (last_set xs n x (omega (arith, is)))

-- another value in the place of the top
pub top_set : {X : Type 0} (xs : List X) (n : ℕ) (x : X) → suc n ≡ length xs → reverse (slice_set xs n x) ≡ x ∷ drop 1 (reverse xs)
top_set {X} xs n x is =
    ap reverse (last_set xs n x is) ∙ reverse-append (take n xs) (x ∷ [])
    ∙ ap (λ (rest : List X). x ∷ rest) (ap (λ (m : ℕ). reverse (take m xs)) (let e : n ≡ length xs - 1 = omega (arith, is) in e) ∙ reverse-take xs 1 (omega (arith, is)))

pub ruleset ends = (reverse-take, reverse-take-reverse, reverse-append, length-reverse)
