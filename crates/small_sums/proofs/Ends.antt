-- The places of a key, as what their rows are.
use Rattle.std.specs.Prelude.{◌≡◌, ℕ, ◌*◌, ◌<◌, ◌≤◌, List, length, Option, Some, None, MatchOption}
use Rattle.std.proofs.Common.{arith, subst, get_or}
use Rattle.lin_rows.specs.Linear.{Linear}
use Rattle.small_sums.specs.Keys.{IsResidue}
use Rattle.small_sums.specs.Places.{digits_at, IsLastWith, HasNoneWith}
use Rattle.small_sums.specs.inside.Search.{AreKeys}
use Rattle.small_sums.proofs.Behind.{IsLast}
use Rattle.small_sums.proofs.Residues.{residue_is_one}

module _ (rows : List Linear) (keys : List ℕ) (are : AreKeys rows keys) where
  same_key : (place key : ℕ) → place < length keys → IsResidue (digits_at rows place) key → get_or keys place 0 ≡ key
  same_key place key lt h = residue_is_one (digits_at rows place) (get_or keys place 0) key (are.each place lt) h

  pub ends_of : (key last_end : ℕ) (at : Option ℕ) → last_end ≤ length keys → IsLast keys key last_end at → MatchOption at (HasNoneWith rows key last_end) (IsLastWith rows key last_end)
  ends_of key last_end None le h = record { nowhere = λ i lt residue. h.nowhere i lt (same_key i key (omega (arith, lt, le)) residue) }
  ends_of key last_end (Some place) le h = record {
    within = h.within;
    there = subst (λ (k : ℕ). IsResidue (digits_at rows place) k) h.there (are.each place (omega (arith, h.within, le)));
    behind = λ i past lt residue. h.behind i past lt (same_key i key (omega (arith, lt, le)) residue);
  }

  pub last_ends : (n key : ℕ) (at : Option ℕ) → n ≡ length rows → IsLast keys key (length keys) at → MatchOption at (HasNoneWith rows key (2 * n)) (IsLastWith rows key (2 * n))
  last_ends n key at is h =
      let all : length keys ≡ 2 * n = omega (arith, are.count, is) in
      subst (λ (m : ℕ). MatchOption at (HasNoneWith rows key m) (IsLastWith rows key m)) all (ends_of key (length keys) at (omega arith) h)

  pub ends_before : (place key : ℕ) (at : Option ℕ) → place < length keys → IsResidue (digits_at rows place) key → IsLast keys (get_or keys place 0) place at → MatchOption at (HasNoneWith rows key place) (IsLastWith rows key place)
  ends_before place key at lt residue h =
      ends_of key place at (omega (arith, lt)) (subst (λ (k : ℕ). IsLast keys k place at) (same_key place key lt residue) h)
