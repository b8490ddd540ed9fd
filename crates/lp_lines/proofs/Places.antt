-- Places of numbers in lists of numbers that differ.
use Rattle.std.specs.Prelude.{◌≡◌, ◌≢◌, ◌⊎◌, ℕ, zero, suc, ◌<◌, ◌≤◌, nat_eq, if◌then◌else◌, List, [], ◌∷◌, length, map, set, get_or, Contains}
use Rattle.std.specs.List.{IsDistinct}
use Rattle.std.proofs.Common.{arith, inl, inr, sym, ap, ◌∙◌, subst}
use Rattle.std.proofs.lemmas.Bool.{cases_eq, cases_lt, eq-eqb}
use Rattle.std.proofs.lemmas.Grind.{same_number_lists}
use Rattle.std.proofs.lemmas.List.{get_or-set_same, get_or-set_other, get_or_default, get_or-map, length-set, length-map}
use Rattle.std.proofs.lemmas.List.Sums.{position_or_len_is}
use Rattle.std.proofs.lemmas.Map.Keys.{IsDistinct-tail}
use Rattle.solver_paths.proofs.Unique.{head_apart}
use Rattle.lp_lines.specs.Tables.{AreApart, place_in}
use Rattle.lp_lines.proofs.Lines.{differs, differ_so}

-- ---- numbers that differ
apart_at : (x : ℕ) (xs : List ℕ) → IsDistinct nat_eq (x ∷ xs) → AreApart xs → (i j : ℕ) → i < j → j < length (x ∷ xs) → get_or (x ∷ xs) i 0 ≢ get_or (x ∷ xs) j 0
apart_at x xs distinct rest i zero lt within same = absurd (omega arith)
apart_at x xs distinct rest zero (suc j) lt within same =
    let inside : j < length xs = omega arith in
    differ_so x (get_or xs j 0) (head_apart x xs distinct (get_or xs j 0) (j, inside, get_or_default xs j (get_or xs j 0) 0 inside)) same
apart_at x xs distinct rest (suc i) (suc j) lt within same = rest.each i j (omega arith) (omega arith) same

pub distinct_apart : (xs : List ℕ) → IsDistinct nat_eq xs → AreApart xs
distinct_apart [] distinct = record { each = λ i j lt within. absurd (omega arith) }
distinct_apart (x ∷ xs) distinct = record { each = apart_at x xs distinct (distinct_apart xs (IsDistinct-tail nat_eq x xs distinct)) }

-- at two places
pub apart_places : (xs : List ℕ) → AreApart xs → (i j : ℕ) → i < length xs → j < length xs → i ≢ j → get_or xs i 0 ≢ get_or xs j 0
apart_places xs apart i j li lj other same = elim (sides i j other) [
  | inl lt ↦ apart.each i j lt lj same
  | inr gt ↦ apart.each j i gt li (sym same)
]
  where
    past : (i j : ℕ) → j ≤ i → i ≢ j → j < i
    past i j le other = elim (cases_eq i j) [
      | inl same ↦ absurd (other same)
      | inr apart ↦ omega arith
    ]

    sides : (i j : ℕ) → i ≢ j → (i < j) ⊎ (j < i)
    sides i j other = elim (cases_lt i j) [
      | inl lt ↦ inl lt
      | inr le ↦ inr (past i j le other)
    ]

pub listed_at : (xs : List ℕ) (i : ℕ) → i < length xs → Contains xs (get_or xs i 0)
listed_at xs i lt = (i, lt, get_or_default xs i (get_or xs i 0) 0 lt)

-- ---- the place of a number
pub placed : (xs : List ℕ) (i n : ℕ) → AreApart xs → i < length xs → get_or xs i 0 ≡ n → place_in xs n ≡ i
placed xs i n apart lt is =
    position_or_len_is (nat_eq n) xs i 0 (omega arith)
    (λ k before. differs n (get_or xs k 0) (λ same. apart.each k i before lt (sym same ∙ sym is)))
    (λ inside. eq-eqb n (get_or xs i 0) (sym is))

pub record IsPlace (xs : List ℕ) (n i : ℕ) : Type 0 where
  pub within : i < length xs
  pub here : get_or xs i 0 ≡ n

pub place_found : (xs : List ℕ) (n : ℕ) → AreApart xs → Contains xs n → IsPlace xs n (place_in xs n)
place_found xs n apart there =
    let here : get_or xs there.0 0 ≡ n = get_or_default xs there.0 0 n there.1 ∙ there.2 in
    subst (IsPlace xs n) (sym (placed xs there.0 n apart there.1 here)) (record { within = there.1; here = here })

-- ---- one number in the place of another
pub set_apart : (xs : List ℕ) (k v : ℕ) → AreApart xs → (Contains xs v → ⊥) → k < length xs → AreApart (set xs k v)
set_apart xs k v apart new within = record { each = each }
  where
    each : (i j : ℕ) → i < j → j < length (set xs k v) → get_or (set xs k v) i 0 ≢ get_or (set xs k v) j 0
    each i j lt inside same =
        let long = length-set xs k v in
        elim (cases_eq i k) [
          | inl here ↦ new (subst (Contains xs) (sym (get_or-set_other xs k j v 0 (λ e. absurd (omega arith))) ∙ sym same ∙ ap (λ p. get_or (set xs k v) p 0) here ∙ get_or-set_same xs k v 0 within) (listed_at xs j (omega arith)))
          | inr past ↦ elim (cases_eq j k) [
            | inl here ↦ new (subst (Contains xs) (sym (get_or-set_other xs k i v 0 past) ∙ same ∙ ap (λ p. get_or (set xs k v) p 0) here ∙ get_or-set_same xs k v 0 within) (listed_at xs i (omega arith)))
            | inr beyond ↦ apart.each i j lt (omega arith) (sym (get_or-set_other xs k i v 0 past) ∙ same ∙ get_or-set_other xs k j v 0 beyond)
          ]
        ]

pub set_place : (xs : List ℕ) (k v : ℕ) → AreApart xs → (Contains xs v → ⊥) → k < length xs → place_in (set xs k v) v ≡ k
set_place xs k v apart new within = placed (set xs k v) k v (set_apart xs k v apart new within) (omega (arith, length-set xs k v)) (get_or-set_same xs k v 0 within)

pub kept_place : (xs : List ℕ) (k v n : ℕ) → AreApart xs → (Contains xs v → ⊥) → k < length xs → Contains xs n → n ≢ get_or xs k 0 → place_in (set xs k v) n ≡ place_in xs n
kept_place xs k v n apart new within there other =
    let at = place_found xs n apart there in
    let past : place_in xs n ≢ k = λ e. other (sym at.here ∙ ap (λ p. get_or xs p 0) e) in
    placed (set xs k v) (place_in xs n) n (set_apart xs k v apart new within) (omega (arith, at.within, length-set xs k v)) (get_or-set_other xs k (place_in xs n) v 0 past ∙ at.here)

pub other_place : (xs : List ℕ) (k n : ℕ) → AreApart xs → Contains xs n → n ≢ get_or xs k 0 → place_in xs n ≢ k
other_place xs k n apart there other e = other (sym (place_found xs n apart there).here ∙ ap (λ p. get_or xs p 0) e)

-- the list with one number in the place of another, by places and by numbers
pub set_replaces : (xs : List ℕ) (k v : ℕ) → AreApart xs → k < length xs → set xs k v ≡ map (λ n. if nat_eq n (get_or xs k 0) then v else n) xs
set_replaces xs k v apart within =
    let f = λ (n : ℕ). if nat_eq n (get_or xs k 0) then v else n in
    same_number_lists (set xs k v) (map f xs) (length-set xs k v ∙ sym (length-map xs f)) (λ i lt. each i (omega (arith, length-set xs k v)) ∙ sym (get_or-map f xs i 0 0 (omega (arith, length-set xs k v))))
  where
    each : (i : ℕ) → i < length xs → get_or (set xs k v) i 0 ≡ (if nat_eq (get_or xs i 0) (get_or xs k 0) then v else get_or xs i 0)
    each i lt = elim (cases_eq i k) [
      | inl here ↦ ap (λ p. get_or (set xs k v) p 0) here ∙ get_or-set_same xs k v 0 within ∙ sym (ap (λ b. if b then v else get_or xs i 0) (eq-eqb (get_or xs i 0) (get_or xs k 0) (ap (λ p. get_or xs p 0) here)))
      | inr past ↦ get_or-set_other xs k i v 0 past ∙ sym (ap (λ b. if b then v else get_or xs i 0) (differs (get_or xs i 0) (get_or xs k 0) (apart_places xs apart i k lt within past)))
    ]

pub set_has : (xs : List ℕ) (k v : ℕ) → k < length xs → Contains (set xs k v) v
set_has xs k v within = (k, omega (arith, length-set xs k v), get_or-set_same xs k v v within)

pub set_keeps : (xs : List ℕ) (k v n : ℕ) → Contains xs n → n ≢ get_or xs k 0 → Contains (set xs k v) n
set_keeps xs k v n there other =
    let past : there.0 ≢ k = λ e. other (sym there.2 ∙ get_or_default xs there.0 n 0 there.1 ∙ ap (λ p. get_or xs p 0) e) in
    (there.0, omega (arith, there.1, length-set xs k v), get_or-set_other xs k there.0 v n past ∙ there.2)

pub set_had : (xs : List ℕ) (k v n : ℕ) → AreApart xs → k < length xs → Contains (set xs k v) n → (n ≡ v) ⊎ (Contains xs n × (n ≢ get_or xs k 0))
set_had xs k v n apart within there =
    let lt : there.0 < length xs = omega (arith, there.1, length-set xs k v) in
    elim (cases_eq there.0 k) [
      | inl here ↦ inl (sym there.2 ∙ ap (λ p. get_or (set xs k v) p n) here ∙ get_or-set_same xs k v n within)
      | inr past ↦
          let at : get_or xs there.0 n ≡ n = sym (get_or-set_other xs k there.0 v n past) ∙ there.2 in
          inr ((there.0, lt, at), λ (e : n ≡ get_or xs k 0). apart_places xs apart there.0 k lt within past (get_or_default xs there.0 0 n lt ∙ at ∙ e))
    ]
