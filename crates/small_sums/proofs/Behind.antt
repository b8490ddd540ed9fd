-- The places of a key, visited from the last one on.
use Rattle.std.specs.Prelude.{◌≡◌, ℕ, ◌<◌, ◌≤◌, List, length, Option, Some, None, MatchOption}
use Rattle.std.proofs.Common.{arith, subst, get_or, ⊎_elim}
use Rattle.std.proofs.lemmas.Bool.{cases_lt, cases_eq}
use Rattle.lin_rows.specs.Linear.{Linear}
use Rattle.small_sums.specs.declared.term.Sum.{Sum}
use Rattle.small_sums.specs.declared.term.Terms.{Terms}
use Rattle.small_sums.specs.inside.Chains.{IsLastBefore, IsNowhereBefore}
use Rattle.small_sums.specs.Places.{digits_at}
use Rattle.small_sums.specs.inside.Search.{AreKeysTo, Follow, CoversTerms, CoversKey, Keeps, IsPast, IsAt, IsVisited, left_of}
use Rattle.small_sums.proofs.Residues.{residue_is_one}

pub keep_terms : (rows : List Linear) (goal : Linear) (before now : Option Sum) (t : Terms) → Keeps before now → CoversTerms rows goal before t → CoversTerms rows goal now t
keep_terms rows goal before now t keeps covers = record { each = λ s h. keeps.each s.constant (covers.each s h) }

-- what a look-up answers
abbrev pub IsLast : List ℕ → ℕ → ℕ → Option ℕ → Type 0
IsLast keys key last_end at = MatchOption at (IsNowhereBefore keys key last_end) (IsLastBefore keys key last_end)

-- no place before the end is past it
unpast : (keys : List ℕ) (key last_end : ℕ) (at : Option ℕ) (place : ℕ) → IsLast keys key last_end at → place < last_end → get_or keys place 0 ≡ key → IsPast at place → ⊥
unpast keys key last_end None place h lt e past = h.nowhere place lt e
unpast keys key last_end (Some p) place h lt e past = h.behind place past lt e

next_at : (keys : List ℕ) (key last_end : ℕ) (at : Option ℕ) → last_end ≤ length keys → IsLast keys key last_end at → IsAt keys key at
next_at keys key last_end None le h = tt
next_at keys key last_end (Some p) le h = (omega (arith, h.within, le), h.there)

module _ (rows : List Linear) (keys : List ℕ) (goal : Linear) (front : Option ℕ) (key : ℕ) where
  pub visited_first : (best : Option Sum) (at : Option ℕ) → IsLast keys key (length keys) at → IsVisited rows keys goal best front key at
  visited_first best at h = record {
    next = next_at keys key (length keys) at (omega arith) h;
    each = λ place lt e past t f. absurd (unpast keys key (length keys) at place h lt e past);
  }

  one_more : (best now : Option Sum) (p place : ℕ) → IsVisited rows keys goal best front key (Some p) → Keeps best now → ((t : Terms) → Follow front p t → CoversTerms rows goal now t) → place < length keys → get_or keys place 0 ≡ key → p ≤ place → (t : Terms) → Follow front place t → CoversTerms rows goal now t
  one_more best now p place visited keeps here lt e le t f = ⊎_elim
      (λ (same : place ≡ p). here t (subst (λ (q : ℕ). Follow front q t) same f))
      (λ ne. keep_terms rows goal best now t keeps (visited.each place lt e (omega (arith, le, ne)) t f)) (cases_eq place p)

  pub visited_more : (best now : Option Sum) (p : ℕ) (at : Option ℕ) → IsVisited rows keys goal best front key (Some p) → Keeps best now → ((t : Terms) → Follow front p t → CoversTerms rows goal now t) → IsLast keys (get_or keys p 0) p at → IsVisited rows keys goal now front key at
  visited_more best now p at visited keeps here last =
      let found : IsLast keys key p at = subst (λ (k : ℕ). IsLast keys k p at) visited.next.1 last in
      let inside : p < length keys = visited.next.0 in
      record {
        next = next_at keys key p at (omega (arith, inside)) found;
        each = λ place lt e past t f. ⊎_elim
            (λ less. absurd (unpast keys key p at place found less e past))
            (λ le. one_more best now p place visited keeps here lt e le t f) (cases_lt place p);
      }

  pub visited_all : (n : ℕ) (best : Option Sum) → n ≡ length rows → AreKeysTo n rows keys → IsVisited rows keys goal best front key None → CoversKey rows goal best front key
  visited_all n best is are visited = record {
    each = λ place lt residue t f.
        let inside : place < length keys = omega (arith, lt, are.count, is) in
        visited.each place inside (residue_is_one (digits_at rows place) (get_or keys place 0) key (are.each place inside) residue) tt t f;
  }

pub left_less : (keys : List ℕ) (key p : ℕ) (at : Option ℕ) → IsLast keys key p at → left_of at < left_of (Some p)
left_less keys key p None h = omega arith
left_less keys key p (Some q) h = omega (arith, h.within)
