-- The steps of the search.
use Rattle.std.specs.Prelude.{◌≡◌, ◌⊎◌, ℕ, ◌+◌, ◌*◌, ◌/◌, ◌%◌, ◌<◌, ◌≤◌, ℤ, pos, negsuc, ◌+ℤ◌, ◌-ℤ◌, ◌*ℤ◌, List, [], ◌∷◌, ◌++◌, length, Option, Some, None, MatchOption, Result, Ok, Err, IfOk, ◌-◌}
use Rattle.std.specs.declared.alloc.AllocError.{AllocError}
use Rattle.std.proofs.Common.{arith, sym, ap, ◌∙◌, subst, ⊎_elim}
use Rattle.std.proofs.lemmas.Int.{ints}
use Rattle.std.proofs.lemmas.Bool.{cases_lt, cases_eq}
use Rattle.std.proofs.lemmas.List.{length-map}
use Rattle.lin_rows.specs.Linear.{Linear}
use Rattle.lin_rows.specs.declared.row.Row.{Row}
use Rattle.lin_rows.specs.Rows.{lins}
use Rattle.small_sums.specs.Keys.{digits, IsResidue}
use Rattle.small_sums.specs.Places.{digits_at, IsLastWith, HasNoneWith}
use Rattle.small_sums.proofs.Residues.{low_residue, negative_residue, zero_residue}
use Rattle.small_cert.specs.Order.{key_of}
use Rattle.small_caps.specs.declared.pick.Front.{Front}
use Rattle.small_caps.specs.declared.pick.Front.TheVariants.{Zero, One, Two}
use Rattle.small_caps.specs.declared.search.Found.{Found}
use Rattle.small_caps.specs.inside.Entries.{IsMasked}
use Rattle.small_caps.specs.inside.Picks.{places_in, IsBehind}
use Rattle.small_caps.specs.inside.Search.{IsFound, IsBetter, IsLeft, Covers, Keeps, Question, IsReady, digits_sum, HasNoneAt, IsMadeAt, CoversPick, CoversFront, CoversKey, CoversFirst, CoversAll, IsPast, IsAt, IsVisited}
use Rattle.small_caps.proofs.Firsts.{first_moved, keeps_trans, keeps_same}
use Rattle.small_caps.proofs.Totals.{digits_cancel}

-- ---- one more cap
covers_moved : (now : Option Found) (u w : Linear) → Covers now u → key_of w ≡ key_of u → w.constant ≡ u.constant → Covers now w
covers_moved None u w h e f = absurd h
covers_moved (Some g) u w h e f = first_moved g.cap u w h e f

module _ (q : Question) (front : Front) (last : ℕ) where
  pub better_made : (best now : Option Found) (found : Found) → IsFound q.rows q.l q.entry best → IsMadeAt q front last found → Keeps best now → Covers now found.cap → (now ≡ best) ⊎ (now ≡ Some found)
      → IsBetter q.rows q.l q.entry best now × CoversPick q now front last
  better_made best now found is made keeps covers one = (
    record {
      found = ⊎_elim (λ e. subst (λ (b : Option Found). IsFound q.rows q.l q.entry b) (sym e) is) (λ e. subst (λ (b : Option Found). IsFound q.rows q.l q.entry b) (sym e) made.found) one;
      keeps = keeps;
    },
    record { each = λ w h. covers_moved now found.cap w covers (made.alone w h).0 (made.alone w h).1 },
  )

  pub better_kept : (best : Option Found) → IsFound q.rows q.l q.entry best → HasNoneAt q front last → IsBetter q.rows q.l q.entry best best × CoversPick q best front last
  better_kept best is none = (record { found = is; keeps = keeps_same best }, record { each = λ w h. absurd (none w h) })

pub keep_pick : (q : Question) (before now : Option Found) (front : Front) (last : ℕ) → Keeps before now → CoversPick q before front last → CoversPick q now front last
keep_pick q before now front last keeps covers = record { each = λ w h. keeps.each w (covers.each w h) }

pub keep_front : (q : Question) (before now : Option Found) (front : Front) → Keeps before now → CoversFront q before front → CoversFront q now front
keep_front q before now front keeps covers = record { each = λ last lt behind. keep_pick q before now front last keeps (covers.each last lt behind) }

pub keep_first : (q : Question) (before now : Option Found) (first n : ℕ) → Keeps before now → CoversFirst q before first n → CoversFirst q now first n
keep_first q before now first n keeps covers = record { one = keep_front q before now (One first) keeps covers.one; two = λ second lt behind. keep_front q before now (Two first second) keeps (covers.two second lt behind) }

pub better_trans : (q : Question) (a b d : Option Found) → IsBetter q.rows q.l q.entry a b → IsBetter q.rows q.l q.entry b d → IsBetter q.rows q.l q.entry a d
better_trans q a b d h k = record { found = k.found; keeps = keeps_trans a b d h.keeps k.keeps }

-- ---- the places of a key
abbrev pub IsLast : Question → ℕ → ℕ → Option ℕ → Type 0
IsLast q key last_end at = MatchOption at (HasNoneWith q.masked key last_end) (IsLastWith q.masked key last_end)

unpast : (q : Question) (key last_end : ℕ) (at : Option ℕ) (place : ℕ) → IsLast q key last_end at → place < last_end → IsResidue (digits_at q.masked place) key → IsPast at place → ⊥
unpast q key last_end None place h lt e past = h.nowhere place lt e
unpast q key last_end (Some p) place h lt e past = h.behind place past lt e

next_at : (q : Question) (key last_end count : ℕ) (at : Option ℕ) → last_end ≤ count → IsLast q key last_end at → IsAt count q.masked key at
next_at q key last_end count None le h = tt
next_at q key last_end count (Some p) le h = (omega (arith, h.within, le), h.there)

module _ (q : Question) (front : Front) (key : ℕ) where
  pub visited_first : (best : Option Found) (at : Option ℕ) (n : ℕ) → n ≡ length q.rows → IsLast q key (2 * n) at → IsVisited q best front key at
  visited_first best at n is h = record {
    next = next_at q key (2 * n) (2 * length q.rows) at (omega (arith, is)) h;
    each = λ last lt behind e past. absurd (unpast q key (2 * n) at last h (omega (arith, lt, is)) e past);
  }

  one_more : (best now : Option Found) (p last : ℕ) → IsVisited q best front key (Some p) → Keeps best now → (IsBehind front p → CoversPick q now front p) → last < 2 * length q.rows → IsBehind front last → IsResidue (digits_at q.masked last) key → p ≤ last → CoversPick q now front last
  one_more best now p last visited keeps here lt behind e le = ⊎_elim
      (λ (same : last ≡ p). subst (λ (r : ℕ). CoversPick q now front r) (sym same) (here (subst (λ (r : ℕ). IsBehind front r) same behind)))
      (λ ne. keep_pick q best now front last keeps (visited.each last lt behind e (omega (arith, le, ne)))) (cases_eq last p)

  pub visited_more : (best now : Option Found) (p : ℕ) (at : Option ℕ) → IsVisited q best front key (Some p) → Keeps best now → (IsBehind front p → CoversPick q now front p) → ((k : ℕ) → IsResidue (digits_at q.masked p) k → IsLast q k p at) → IsVisited q now front key at
  visited_more best now p at visited keeps here before =
      let found : IsLast q key p at = before key visited.next.1 in
      let inside : p < 2 * length q.rows = visited.next.0 in
      record {
        next = next_at q key p (2 * length q.rows) at (omega (arith, inside)) found;
        each = λ last lt behind e past. ⊎_elim
            (λ less. absurd (unpast q key p at last found less e past))
            (λ le. one_more best now p last visited keeps here lt behind e le) (cases_lt last p);
      }

  pub visited_all : (best : Option Found) → IsVisited q best front key None → CoversKey q best front key
  visited_all best visited = record { each = λ last lt behind e. visited.each last lt behind e tt }

-- ---- keys
residue_of : (z : ℤ) → (r : ℕ) × IsResidue z r
residue_of (pos n) = (n % 18446744073709551616, low_residue n)
residue_of (negsuc n) = (18446744073709551615 - n % 18446744073709551616, negative_residue n (n % 18446744073709551616) (low_residue n))

abbrev pub IsRest : ℕ → ℕ → ℕ → Type 0
IsRest total part result = (z x y : ℤ) (rest : ℕ) → IsResidue z total → IsResidue x part → IsResidue y rest → z ≡ x +ℤ y → rest ≡ result

rest_residue : (z x : ℤ) (t p r : ℕ) → IsResidue z t → IsResidue x p → IsRest t p r → IsResidue (z -ℤ x) r
rest_residue z x t p r h k is =
    let some = residue_of (z -ℤ x) in
    subst (λ (n : ℕ). IsResidue (z -ℤ x) n) (is z x (z -ℤ x) some.0 h k some.1 (split z x)) some.1
  where
    split : (z x : ℤ) → z ≡ x +ℤ (z -ℤ x)
    split z x = omega (arith, ints)

digits_push : (rows : List Linear) (ps : List ℕ) (p : ℕ) → digits_sum rows (ps ++ p ∷ []) ≡ digits_sum rows ps +ℤ digits_at rows p
digits_push rows [] p = only (digits_at rows p)
  where
    only : (z : ℤ) → z +ℤ pos 0 ≡ pos 0 +ℤ z
    only z = omega (arith, ints)
digits_push rows (r ∷ ps) p = ap (λ z. digits_at rows r +ℤ z) (digits_push rows ps p) ∙ turned (digits_at rows r) (digits_sum rows ps) (digits_at rows p)
  where
    turned : (a b d : ℤ) → a +ℤ (b +ℤ d) ≡ (a +ℤ b) +ℤ d
    turned a b d = omega (arith, ints)

pub left_more : (q : Question) (ps : List ℕ) (p left part result : ℕ) → IsLeft q ps left → IsResidue (digits_at q.masked p) part → IsRest left part result → IsLeft q (ps ++ p ∷ []) result
left_more q ps p left part result h k is = record {
  own = h.own;
  own_is = h.own_is;
  residue = subst (λ (z : ℤ). IsResidue z result) (taken (pos 0 -ℤ q.times *ℤ digits h.own.coefficients) (digits_sum q.masked ps) (digits_at q.masked p) ∙ ap (λ (z : ℤ). (pos 0 -ℤ q.times *ℤ digits h.own.coefficients) -ℤ z) (sym (digits_push q.masked ps p)))
      (rest_residue ((pos 0 -ℤ q.times *ℤ digits h.own.coefficients) -ℤ digits_sum q.masked ps) (digits_at q.masked p) left part result h.residue k is);
}
  where
    taken : (a b d : ℤ) → (a -ℤ b) -ℤ d ≡ a -ℤ (b +ℤ d)
    taken a b d = omega (arith, ints)

-- the key of the sum
module _ (q : Question) (own : Linear) (cs : List ℤ) (key : ℕ) (is : IsMasked q.entry q.l own) (read : cs ≡ own.coefficients) (residue : IsResidue (digits cs) key) where
  own_residue : IsResidue (digits own.coefficients) key
  own_residue = subst (λ (xs : List ℤ). IsResidue (digits xs) key) read residue

  once_residue : (once : ℕ) → IsRest 0 key once → IsResidue (pos 0 -ℤ digits own.coefficients) once
  once_residue once rest = rest_residue (pos 0) (digits own.coefficients) 0 key once zero_residue own_residue rest

  pub once_left : (once : ℕ) → q.times ≡ pos 1 → IsRest 0 key once → IsLeft q [] once
  once_left once e rest = record { own = own; own_is = is; residue = subst (λ (k : ℤ). IsResidue ((pos 0 -ℤ k *ℤ digits own.coefficients) -ℤ pos 0) once) (sym e) (subst (λ (z : ℤ). IsResidue z once) (as_once (digits own.coefficients)) (once_residue once rest)) }
    where
      as_once : (d : ℤ) → pos 0 -ℤ d ≡ (pos 0 -ℤ pos 1 *ℤ d) -ℤ pos 0
      as_once d = omega (arith, ints)

  pub twice_left : (once twice : ℕ) → q.times ≡ pos 2 → IsRest 0 key once → IsRest once key twice → IsLeft q [] twice
  twice_left once twice e rest more = record {
    own = own;
    own_is = is;
    residue = subst (λ (k : ℤ). IsResidue ((pos 0 -ℤ k *ℤ digits own.coefficients) -ℤ pos 0) twice) (sym e)
        (subst (λ (z : ℤ). IsResidue z twice) (as_twice (digits own.coefficients)) (rest_residue (pos 0 -ℤ digits own.coefficients) (digits own.coefficients) once key twice (once_residue once rest) own_residue more));
  }
    where
      as_twice : (d : ℤ) → (pos 0 -ℤ d) -ℤ d ≡ (pos 0 -ℤ pos 2 *ℤ d) -ℤ pos 0
      as_twice d = omega (arith, ints)

-- what the key leads to are all last rows
last_digits : (s l m : ℤ) → (s +ℤ l) +ℤ m ≡ pos 0 → (pos 0 -ℤ m) -ℤ s ≡ l
last_digits s l m e = omega (arith, ints, e)

pub front_covered : (q : Question) (best : Option Found) (front : Front) (key : ℕ) → IsReady q → IsLeft q (places_in front) key → CoversKey q best front key → CoversFront q best front
front_covered q best front key ready left covers = record {
  each = λ last lt behind. record {
    each = λ w h.
        let all : digits_sum q.masked (places_in front ++ last ∷ []) +ℤ q.times *ℤ digits left.own.coefficients ≡ pos 0 = digits_cancel q.rows q.masked q.l left.own q.entry q.times (places_in front ++ last ∷ []) w ready.are_masked left.own_is h in
        let parted : (digits_sum q.masked (places_in front) +ℤ digits_at q.masked last) +ℤ q.times *ℤ digits left.own.coefficients ≡ pos 0 = ap (λ (z : ℤ). z +ℤ q.times *ℤ digits left.own.coefficients) (sym (digits_push q.masked (places_in front) last)) ∙ all in
        let is : (pos 0 -ℤ q.times *ℤ digits left.own.coefficients) -ℤ digits_sum q.masked (places_in front) ≡ digits_at q.masked last = last_digits (digits_sum q.masked (places_in front)) (digits_at q.masked last) (q.times *ℤ digits left.own.coefficients) parted in
        (covers.each last lt behind (subst (λ (z : ℤ). IsResidue z key) is left.residue)).each w h;
  };
}

-- ---- front rows
pub first_started : (q : Question) (best : Option Found) (first : ℕ) → CoversFront q best (One first) → CoversFirst q best first (first + 1)
first_started q best first covers = record { one = covers; two = λ second lt behind. absurd (not_behind first second lt behind) }
  where
    not_behind : (first second : ℕ) → second < first + 1 → first / 2 < second / 2 → ⊥
    not_behind first second lt h = omega (arith, lt, h)

pub first_more : (q : Question) (best now : Option Found) (first second : ℕ) → CoversFirst q best first second → Keeps best now → (first / 2 < second / 2 → CoversFront q now (Two first second)) → CoversFirst q now first (second + 1)
first_more q best now first second covers keeps here = record {
  one = keep_front q best now (One first) keeps covers.one;
  two = λ other lt behind. ⊎_elim
      (λ less. keep_front q best now (Two first other) keeps (covers.two other less behind))
      (λ le.
      let same : other ≡ second = omega (arith, lt, le) in
      subst (λ (o : ℕ). CoversFront q now (Two first o)) (sym same) (here (subst (λ (o : ℕ). first / 2 < o / 2) same behind))) (cases_lt other second);
}

pub first_all : (q : Question) (best : Option Found) (first n m : ℕ) → m ≤ n → CoversFirst q best first n → CoversFirst q best first m
first_all q best first n m le covers = record { one = covers.one; two = λ second lt behind. covers.two second (omega (arith, lt, le)) behind }

pub all_started : (q : Question) (best : Option Found) → CoversFront q best Zero → CoversAll q best 0
all_started q best none = record { zero = none; each = λ first lt. absurd (omega (arith, lt)) }

pub all_more : (q : Question) (best now : Option Found) (first : ℕ) → CoversAll q best first → Keeps best now → CoversFirst q now first (2 * length q.rows) → CoversAll q now (first + 1)
all_more q best now first covers keeps here = record {
  zero = keep_front q best now Zero keeps covers.zero;
  each = λ other lt. ⊎_elim
      (λ less. keep_first q best now other (2 * length q.rows) keeps (covers.each other less))
      (λ le.
      let same : other ≡ first = omega (arith, lt, le) in
      subst (λ (o : ℕ). CoversFirst q now o (2 * length q.rows)) (sym same) here) (cases_lt other first);
}

pub all_all : (q : Question) (best : Option Found) (n m : ℕ) → m ≤ n → CoversAll q best n → CoversAll q best m
all_all q best n m le covers = record { zero = covers.zero; each = λ first lt. covers.each first (omega (arith, lt, le)) }

-- ---- the same with what the code makes
abbrev pub IsKept : Question → Option Found → (Option Found → Type 0) → Result (Option Found) AllocError → Type 0
IsKept q best P res = IfOk res (λ now. IsBetter q.rows q.l q.entry best now × P now)

pub kept_front : (q : Question) (best : Option Found) (front : Front) (key : ℕ) (P : Type 0) (res : Result (Option Found) AllocError) → IsReady q → IsLeft q (places_in front) key → IsKept q best (λ now. CoversKey q now front key) res → IsKept q best (λ now. P → CoversFront q now front) res
kept_front q best front key P (Err e) ready left h = h
kept_front q best front key P (Ok now) ready left h = (h.0, λ p. front_covered q now front key ready left h.1)

pub same_count : (rows made : List Row) → length (lins made) ≡ length (lins rows) → length made ≡ length rows
same_count rows made e = sym (length-map made (λ (r : Row). r.lin)) ∙ e ∙ length-map rows (λ (r : Row). r.lin)

pub better_same : (q : Question) (a b : Option Found) → IsBetter q.rows q.l q.entry a b → IsBetter q.rows q.l q.entry b b
better_same q a b h = record { found = h.found; keeps = keeps_same b }
