-- Classes behind all that they name, and rows of what stands above each class.
use Rattle.std.proofs.Common.{◌≡◌, ◌≢◌, inl, inr, ℕ, ◌+◌, ◌<◌, ◌≤◌, true, List, [], ◌∷◌, ◌++◌, length, map, take, set, get_or, arith, refl, sym, ap, subst, ◌∙◌, nat_eq}
use Rattle.std.specs.Prelude.{All}
use Rattle.std.specs.List.Sorted.{IsPermutation, IsNonDecreasingBy}
use Rattle.std.specs.List.{list_any, flat_map}
use Rattle.std.proofs.lemmas.Bool.{cases_lt, cases_eq}
use Rattle.std.proofs.Math.ListN.{get_or-map}
use Rattle.std.proofs.lemmas.List.{take_all, get_or-take, length-map, length-set, get_or-set_same, get_or-set_other, get_or_default}
use Rattle.std.proofs.lemmas.Grind.{common_steps}
use Rattle.std.proofs.lemmas.List.Sorted.{All-permutation, Contains-permutation, length_permutation}
use Rattle.common_laws.proofs.Numbers.{place_listed, listed_place, one_listed}
use Rattle.common_laws.proofs.Tests.{any_either}
use Rattle.class_hierarchy.specs.declared.rank.Ranked.{Ranked}
use Rattle.class_hierarchy.specs.World.{World, interfaces, above}
use Rattle.class_hierarchy.specs.Building.{LeadsTo, IsWellBuilt, supers}
use Rattle.class_hierarchy.specs.Building.LeadsTo.{once, through}
use Rattle.class_hierarchy.specs.Tables.{SameFirst, row_at, with_above, AreLinks, HasRow, AreRows, SetsRow, Shows}
use Rattle.class_hierarchy.specs.Ranks.{number_in, AreRanks, IsByRank}
use Rattle.class_hierarchy.specs.Orders.{IsSupersFirst}
use Rattle.class_hierarchy.proofs.Rows.{none_past}
use Rattle.class_hierarchy.proofs.Cycles.{supers_below}
use Rattle.class_hierarchy.proofs.WellBuilt.{above_whole, interface_step}

-- ---- the order

abbrev Fits : List ℕ → Ranked → Type 0
Fits ranks r = (r.class < length ranks) × (number_in ranks r.class ≡ r.rank)

pub by_rank_so : (ranks : List ℕ) (made order : List Ranked) (n : ℕ) → n ≡ length ranks → length made ≡ n → ((k : ℕ) (d : Ranked) → k < n → get_or made k d ≡ record { rank = number_in ranks k; class = k }) → IsPermutation made order → IsNonDecreasingBy (λ (r : Ranked). r.rank) order → IsByRank ranks order
by_rank_so ranks made order n e len is p up =
    let fit : All (Fits ranks) made = λ k d lt. let within : k < n = omega (arith, lt, len) in subst (Fits ranks) (sym (is k d within)) (omega (arith, within, e), refl) in
    let all = All-permutation (Fits ranks) made order p fit in
    record {
      count = length_permutation made order p ∙ len ∙ e;
      all = λ c lt. Contains-permutation made order (record { rank = number_in ranks c; class = c }) p (c, omega (arith, lt, e, len), is c (record { rank = number_in ranks c; class = c }) (omega (arith, lt, e)));
      below = λ k d lt. (all k d lt).0;
      ranked = λ k d lt. (all k d lt).1;
      rising = up;
    }

-- what a class names stands before it
before : (w : World) (ranks : List ℕ) (order : List Ranked) (i c j : ℕ) (d : Ranked) → AreRanks w ranks → IsByRank ranks order → i < length order → c ≡ (get_or order i d).class → j < length w → list_any (nat_eq j) (supers w c) ≡ true → (k : ℕ) × (k < i) × (k < length order) × ((get_or order k d).class ≡ j)
before w ranks order i c j d r o lt e inside step =
    let there = o.all j (rw r.count inside) in
    let at : get_or order there.0 d ≡ record { rank = number_in ranks j; class = j } = get_or_default order there.0 d (record { rank = number_in ranks j; class = j }) there.1 ∙ there.2 in
    let here : c < length w = rw (← r.count) (rw e (o.below i d lt)) in
    let less : number_in ranks j < number_in ranks c = r.rise c j here step in
    let mine : number_in ranks c ≡ (get_or order i d).rank = ap (λ x. number_in ranks x) e ∙ o.ranked i d lt in
    elim (cases_lt there.0 i) [
      | inl first ↦ (there.0, first, there.1, ap (λ (x : Ranked). x.class) at)
      | inr later ↦
          let up : (get_or order i d).rank ≤ (get_or order there.0 d).rank = o.rising i there.0 d later there.1 in
          let theirs : (get_or order there.0 d).rank ≡ number_in ranks j = ap (λ (x : Ranked). x.rank) at in
          absurd (omega (arith, less, mine, up, theirs))
    ]

abbrev first_ranked : Ranked
first_ranked = record { rank = 0; class = 0 }

placed_in : (xs : List ℕ) (k c : ℕ) → k < length xs → get_or xs k 0 ≡ c → list_any (nat_eq c) xs ≡ true
placed_in xs k c lt e = subst (λ x. list_any (nat_eq x) xs ≡ true) e (place_listed xs k 0 lt)

taken_at : (xs : List ℕ) (i k : ℕ) → k < i → get_or (take i xs) k 0 ≡ get_or xs k 0
taken_at xs i k lt = grind (arith, common_steps)

taken_in : (xs : List ℕ) (i k c : ℕ) → k < i → k < length xs → get_or xs k 0 ≡ c → list_any (nat_eq c) (take i xs) ≡ true
taken_in xs i k c less lt e = placed_in (take i xs) k c (grind (arith, common_steps)) (taken_at xs i k less ∙ e)

class_in : (order : List Ranked) (k : ℕ) → get_or (map (λ (r : Ranked). r.class) order) k 0 ≡ (get_or order k first_ranked).class
class_in order k = get_or-map (λ (r : Ranked). r.class) order k first_ranked

-- the classes by rising rank stand behind what they name
pub behind_supers : (w : World) (ranks : List ℕ) (order : List Ranked) (xs : List ℕ) → AreRanks w ranks → IsByRank ranks order → xs ≡ map (λ (r : Ranked). r.class) order → IsSupersFirst w xs
behind_supers w ranks order xs r o e =
    let len : length xs ≡ length order = ap (λ (l : List ℕ). length l) e ∙ length-map order (λ (r : Ranked). r.class) in
    let at : (k : ℕ) → get_or xs k 0 ≡ (get_or order k first_ranked).class = λ k. ap (λ (l : List ℕ). get_or l k 0) e ∙ class_in order k in
    let inside : (i : ℕ) → i < length xs → i < length order = λ i lt. omega (arith, lt, len) in
    record {
      count = len ∙ o.count ∙ r.count;
      all = λ c lt. let there = o.all c (rw r.count lt) in
          let mine : Ranked = record { rank = number_in ranks c; class = c } in
          let seen : get_or order there.0 first_ranked ≡ mine = get_or_default order there.0 first_ranked mine there.1 ∙ there.2 in
          placed_in xs there.0 c (omega (arith, there.1, len)) (at there.0 ∙ ap (λ (x : Ranked). x.class) seen);
      within = λ i lt. rw (at i, ← r.count) (o.below i first_ranked (inside i lt));
      supers_first = λ i d lt step. let p = before w ranks order i (get_or xs i 0) d first_ranked r o (inside i lt) (at i) (supers_below w (get_or xs i 0) d step) step in
          taken_in xs i p.0 d p.1 (omega (arith, p.2, len)) (at p.0 ∙ p.3);
    }

-- ---- the rows

-- the rows of the first n classes of the order
pub record AreRowsUpTo (w : World) (order : List ℕ) (n : ℕ) (rows : List (List ℕ)) : Type 0 where
  pub count : length rows ≡ length w
  pub done : (c : ℕ) → list_any (nat_eq c) (take n order) ≡ true → HasRow w rows c
  pub few : (c : ℕ) → length (interfaces w c) < 2 → row_at rows c ≡ []

pub rows_start : (w : World) (order : List ℕ) (rows : List (List ℕ)) → length rows ≡ length w → ((c : ℕ) → row_at rows c ≡ []) → AreRowsUpTo w order 0 rows
rows_start w order rows e none = record { count = e; done = λ c there. absurd cc; few = λ c lt. none c }

pub row_inside : (w : World) (order : List ℕ) (rows : List (List ℕ)) (i : ℕ) → IsSupersFirst w order → AreRowsUpTo w order i rows → i < length order → get_or order i 0 < length rows
row_inside w order rows i o h lt = rw h.count (o.within i lt)

-- a place among the first n
place_taken : (xs : List ℕ) (n c : ℕ) → list_any (nat_eq c) (take n xs) ≡ true → (k : ℕ) × (k < n) × (k < length xs) × (get_or xs k 0 ≡ c)
place_taken xs n c h =
    let p = listed_place c (take n xs) 0 h in
    let few : length (take n xs) ≤ n = grind (arith, common_steps) in
    let within : length (take n xs) ≤ length xs = grind (arith, common_steps) in
    let less : p.0 < n = omega (arith, p.1, few) in
    (p.0, less, omega (arith, p.1, within), sym (get_or-take n xs p.0 0 less) ∙ p.2)

taken_step : (w : World) (order : List ℕ) (n c d : ℕ) → IsSupersFirst w order → list_any (nat_eq c) (take n order) ≡ true → list_any (nat_eq d) (supers w c) ≡ true → list_any (nat_eq d) (take n order) ≡ true
taken_step w order n c d o there step =
    let p = place_taken order n c there in
    let q = place_taken order p.0 d (o.supers_first p.0 d p.2 (subst (λ x. list_any (nat_eq d) (supers w x) ≡ true) (sym p.3) step)) in
    taken_in order n q.0 d (omega (arith, p.1, q.1)) q.2 q.3

-- what the first n lead to is among them
taken_on : (w : World) (order : List ℕ) (n c d : ℕ) → IsSupersFirst w order → list_any (nat_eq c) (take n order) ≡ true → LeadsTo (supers w) c d → list_any (nat_eq d) (take n order) ≡ true
taken_on w order n c d o there (once step) = taken_step w order n c d o there step
taken_on w order n c d o there (through {d = b} step more) = taken_on w order n b d o (taken_step w order n c b o there step) more

pub shows_before : (w : World) (links rows : List (List ℕ)) (order : List ℕ) (i j : ℕ) → IsWellBuilt w → AreLinks w links → IsSupersFirst w order → AreRowsUpTo w order i rows → i < length order → list_any (nat_eq j) (interfaces w (get_or order i 0)) ≡ true → Shows w links rows j
shows_before w links rows order i j built are o h lt step =
    let there = o.supers_first i j lt (interface_step w (get_or order i 0) j step) in
    record {
      well_built = built;
      are_links = are;
      own = h.done j there;
      higher = λ d lead. h.done d (taken_on w order i j d o there lead);
    }

set_at : (w : World) (old new : List (List ℕ)) (c d : ℕ) → SetsRow w c old new → (d ≢ c → HasRow w old d) → HasRow w new d
set_at w old new c d sets kept several = elim (cases_eq d c) [
  | inl here ↦ subst (λ x. SameFirst (row_at new x) (above w x)) (sym here) (sets.1 (subst (λ x. 2 ≤ length (interfaces w x)) here several))
  | inr other ↦ rw (sets.2 d (λ e. absurd (other e))) (kept other several)
]

last_taken : (d : ℕ) (xs : List ℕ) (i : ℕ) → i < length xs → d ≢ get_or xs i 0 → list_any (nat_eq d) (take (i + 1) xs) ≡ true → list_any (nat_eq d) (take i xs) ≡ true
last_taken d xs i lt other h =
    let more : take (i + 1) xs ≡ take i xs ++ get_or xs i 0 ∷ [] = grind (arith, common_steps) in
    elim (any_either (nat_eq d) (take i xs) (get_or xs i 0 ∷ []) (subst (λ l. list_any (nat_eq d) l ≡ true) more h)) [
      | inl old ↦ old
      | inr new ↦ absurd (other (one_listed d (get_or xs i 0) new))
    ]

pub rows_next : (w : World) (order : List ℕ) (i : ℕ) (old new : List (List ℕ)) → i < length order → SetsRow w (get_or order i 0) old new → AreRowsUpTo w order i old → AreRowsUpTo w order (i + 1) new
rows_next w order i old new lt sets h = record {
  count = sets.0 ∙ h.count;
  done = λ d there. set_at w old new (get_or order i 0) d sets (λ other. h.done d (last_taken d order i lt other there));
  few = λ d lt. sets.2 d (λ e. subst (λ x. length (interfaces w x) < 2) e lt) ∙ h.few d lt;
}

pub rows_end : (w : World) (order : List ℕ) (n : ℕ) (rows : List (List ℕ)) → length order ≤ n → IsSupersFirst w order → AreRowsUpTo w order n rows → AreRows w rows
rows_end w order n rows le o h = (
  h.count,
  λ c several. elim (cases_lt c (length w)) [
    | inl lt ↦ h.done c (rw (take_all n order le) (o.all c lt)) several
    | inr past ↦ absurd (let none : length (interfaces w c) ≡ 0 = ap (λ (l : List ℕ). length l) (none_past w c (omega arith)) in omega (arith, none, several))
  ],
  h.few,
)

-- ---- one row

pub row_set : (w : World) (links rows : List (List ℕ)) (c : ℕ) (row : List ℕ) → IsWellBuilt w → AreLinks w links → c < length rows → 2 ≤ length (row_at links c) → SameFirst row (flat_map (with_above w) (row_at links c)) → SetsRow w c rows (set rows c row)
row_set w links rows c row built are lt several same =
    let many : 2 ≤ length (interfaces w c) = subst (λ (l : List ℕ). 2 ≤ length l) (are.1 c) several in (
      length-set rows c row,
      λ h. rw (get_or-set_same rows c row [] lt, above_whole w built c, ← are.1 c) same,
      λ d few. elim (cases_eq d c) [
        | inl here ↦ absurd (omega (arith, many, few here))
        | inr other ↦ get_or-set_other rows c d row [] other
      ],
    )
