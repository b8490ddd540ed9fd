-- The keys of all places.
use Rattle.std.specs.Prelude.{◌≡◌, ℕ, ◌+◌, ◌/◌, ◌%◌, ◌<◌, ℤ, pos, ◌*ℤ◌, List, [], ◌∷◌, ◌++◌, length}
use Rattle.std.proofs.Common.{arith, refl, sym, ap, ◌∙◌, subst, get_or, ⊎_elim}
use Rattle.std.proofs.lemmas.Int.{ints}
use Rattle.std.proofs.lemmas.Bool.{cases_lt, cases_eq}
use Rattle.std.proofs.lemmas.List.{length-append, get_or_append_left, get_or_at}
use Rattle.lin_rows.specs.Linear.{Linear, row_at}
use Rattle.small_sums.specs.Keys.{digits, IsResidue}
use Rattle.small_sums.specs.Places.{digits_at}
use Rattle.small_sums.specs.inside.Search.{AreKeysTo}

one_time : (z : ℤ) → pos 1 *ℤ z ≡ z
one_time z = omega (arith, ints)

-- an even place and an odd one
pub digits_once : (rows : List Linear) (place i : ℕ) → place / 2 ≡ i → place % 2 ≡ 0 → digits_at rows place ≡ digits (row_at rows (i + 1)).coefficients
digits_once rows place i half even = rw (half, even) (one_time (digits (row_at rows (i + 1)).coefficients))

pub digits_twice : (rows : List Linear) (place i : ℕ) → place / 2 ≡ i → place % 2 ≡ 1 → digits_at rows place ≡ pos 2 *ℤ digits (row_at rows (i + 1)).coefficients
digits_twice rows place i half odd = rw (half, odd) refl

-- a row more
at_last : (xs : List ℕ) (y i : ℕ) → i ≡ length xs → get_or (xs ++ y ∷ []) i 0 ≡ y
at_last xs y i e = get_or_at xs y [] 0 i (sym e)

pub keys_more : (n : ℕ) (rows : List Linear) (keys : List ℕ) (k d : ℕ) → AreKeysTo n rows keys → IsResidue (digits (row_at rows (n + 1)).coefficients) k → IsResidue (pos 2 *ℤ digits (row_at rows (n + 1)).coefficients) d → AreKeysTo (n + 1) rows ((keys ++ k ∷ []) ++ d ∷ [])
keys_more n rows keys k d are once twice = record { count = omega (arith, are.count, long, long_last); each = each }
  where
    long : length (keys ++ k ∷ []) ≡ length keys + 1
    long = length-append keys (k ∷ [])

    long_last : length ((keys ++ k ∷ []) ++ d ∷ []) ≡ length keys + 1 + 1
    long_last = length-append (keys ++ k ∷ []) (d ∷ []) ∙ ap (λ (m : ℕ). m + 1) long

    -- an old place
    old : (place : ℕ) → place < length keys → IsResidue (digits_at rows place) (get_or ((keys ++ k ∷ []) ++ d ∷ []) place 0)
    old place lt =
        let front : get_or ((keys ++ k ∷ []) ++ d ∷ []) place 0 ≡ get_or keys place 0 = get_or_append_left (keys ++ k ∷ []) (d ∷ []) 0 place (omega (arith, long, lt)) ∙ get_or_append_left keys (k ∷ []) 0 place lt in
        subst (λ (r : ℕ). IsResidue (digits_at rows place) r) (sym front) (are.each place lt)

    -- the row once
    first : (place : ℕ) → place ≡ length keys → IsResidue (digits_at rows place) (get_or ((keys ++ k ∷ []) ++ d ∷ []) place 0)
    first place e =
        let there : get_or ((keys ++ k ∷ []) ++ d ∷ []) place 0 ≡ k = get_or_append_left (keys ++ k ∷ []) (d ∷ []) 0 place (omega (arith, long, e)) ∙ at_last keys k place e in
        let is : digits_at rows place ≡ digits (row_at rows (n + 1)).coefficients = digits_once rows place n (omega (arith, e, are.count)) (omega (arith, e, are.count)) in
        subst (λ (r : ℕ). IsResidue (digits_at rows place) r) (sym there) (subst (λ (z : ℤ). IsResidue z k) (sym is) once)

    -- the row twice
    second : (place : ℕ) → place ≡ length keys + 1 → IsResidue (digits_at rows place) (get_or ((keys ++ k ∷ []) ++ d ∷ []) place 0)
    second place e =
        let there : get_or ((keys ++ k ∷ []) ++ d ∷ []) place 0 ≡ d = at_last (keys ++ k ∷ []) d place (omega (arith, e, long)) in
        let is : digits_at rows place ≡ pos 2 *ℤ digits (row_at rows (n + 1)).coefficients = digits_twice rows place n (omega (arith, e, are.count)) (omega (arith, e, are.count)) in
        subst (λ (r : ℕ). IsResidue (digits_at rows place) r) (sym there) (subst (λ (z : ℤ). IsResidue z d) (sym is) twice)

    each : (place : ℕ) → place < length ((keys ++ k ∷ []) ++ d ∷ []) → IsResidue (digits_at rows place) (get_or ((keys ++ k ∷ []) ++ d ∷ []) place 0)
    each place lt = ⊎_elim (λ less. old place less) (λ le. ⊎_elim (λ e. first place e) (λ ne. second place (omega (arith, lt, le, ne, long_last))) (cases_eq place (length keys))) (cases_lt place (length keys))

-- the same with what the code makes
pub keys_pushed : (n : ℕ) (rows : List Linear) (keys one two : List ℕ) (l : Linear) (cs : List ℤ) (k d : ℕ) → row_at rows (n + 1) ≡ l → cs ≡ l.coefficients → one ≡ keys ++ k ∷ [] → two ≡ one ++ d ∷ [] → IsResidue (digits cs) k → IsResidue (pos 2 *ℤ digits cs) d → AreKeysTo n rows keys → AreKeysTo (n + 1) rows two
keys_pushed n rows keys one two l cs k d row read first second once twice are =
    let same : cs ≡ (row_at rows (n + 1)).coefficients = read ∙ ap (λ (m : Linear). m.coefficients) (sym row) in
    let all : two ≡ (keys ++ k ∷ []) ++ d ∷ [] = second ∙ ap (λ (xs : List ℕ). xs ++ d ∷ []) first in
    subst (λ (xs : List ℕ). AreKeysTo (n + 1) rows xs) (sym all)
    (keys_more n rows keys k d are (subst (λ (xs : List ℤ). IsResidue (digits xs) k) same once) (subst (λ (xs : List ℤ). IsResidue (pos 2 *ℤ digits xs) d) same twice))
