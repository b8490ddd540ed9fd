-- Multiples of numbers, where they fit.
use Rattle.std.specs.Prelude.{◌≡◌, ℕ, ◌+◌, ◌<◌, ℤ, pos, ◌*ℤ◌, List, [], ◌∷◌, ◌++◌, length, All, FitsSigned, Option, Some, None, Result, Ok, Err, IfOk, MatchOption}
use Rattle.std.specs.Int.{w128}
use Rattle.std.specs.declared.alloc.AllocError.{AllocError}
use Rattle.std.proofs.Common.{sym, ap, ◌∙◌, subst, get_or, take}
use Rattle.std.proofs.lemmas.List.{get_or-map, length-map, take_more, map-append}
use Rattle.q128.specs.Fraction.{whole}
use Rattle.q128.specs.Laws.{IsNarrow}
use Rattle.lin_rows.specs.Linear.{Linear}
use Rattle.lin_rows.specs.Proving.{Multipliers}
use Rattle.lin_rows.specs.Combining.{Combination}
use Rattle.small_sums.specs.declared.term.Sum.{Sum}
use Rattle.small_sums.specs.Sums.{IsMatch, IsLeastMatch, HasNoMatch}
use Rattle.small_sums.specs.Terms.{multipliers_of}
use Rattle.small_cert.specs.Least.{expression_of}
use Rattle.small_cert.specs.inside.Levels.{scaled_list, IsMatchBy, IsLeastMatchBy, HasNoneBy}

pub fits_narrow : (z : ℤ) → FitsSigned w128 z → IsNarrow z
fits_narrow z h = h.sfits

pub narrow_fits : (z : ℤ) → IsNarrow z → FitsSigned w128 z
narrow_fits z h = record { sfits = h }

-- one that doesn't fit
pub not_all_fit : (k : ℤ) (cs : List ℤ) (i : ℕ) → i < length cs → (FitsSigned w128 (k *ℤ get_or cs i (pos 0)) → ⊥) → All IsNarrow (scaled_list k cs) → ⊥
not_all_fit k cs i lt not_fit all =
    not_fit (narrow_fits (k *ℤ get_or cs i (pos 0))
    (subst IsNarrow (get_or-map (λ (c : ℤ). k *ℤ c) cs i (pos 0) (pos 0) lt) (all i (pos 0) (subst (λ (n : ℕ). i < n) (sym (length-map cs (λ (c : ℤ). k *ℤ c))) lt))))

pub scaled_more : (k : ℤ) (cs made : List ℤ) (i : ℕ) → i < length cs → made ≡ scaled_list k (take i cs) → made ++ (k *ℤ get_or cs i (pos 0)) ∷ [] ≡ scaled_list k (take (i + 1) cs)
scaled_more k cs made i lt e =
    ap (λ (xs : List ℤ). xs ++ (k *ℤ get_or cs i (pos 0)) ∷ []) e
    ∙ sym (ap (λ (xs : List ℤ). scaled_list k xs) (take_more cs i (pos 0) lt) ∙ map-append (λ (c : ℤ). k *ℤ c) (take i cs) (get_or cs i (pos 0) ∷ []))

-- ---- the least sum for a multiple
match_from : (rows : List Linear) (cs : List ℤ) (k : ℤ) (m : Multipliers) (s : Combination) → All IsNarrow (scaled_list k cs) → IsMatch rows (expression_of (scaled_list k cs)) m s → IsMatchBy rows cs k m s
match_from rows cs k m s fits h = record { fits = fits; small = h.small; same = h.same }

match_to : (rows : List Linear) (cs : List ℤ) (k : ℤ) (m : Multipliers) (s : Combination) → IsMatchBy rows cs k m s → IsMatch rows (expression_of (scaled_list k cs)) m s
match_to rows cs k m s h = record { small = h.small; same = h.same }

found : (rows : List Linear) (cs : List ℤ) (k : ℤ) (res : Result (Option Sum) AllocError) → All IsNarrow (scaled_list k cs)
    → IfOk res (λ least. MatchOption least (HasNoMatch rows (expression_of (scaled_list k cs))) (λ f. (s : Combination) × IsLeastMatch rows (expression_of (scaled_list k cs)) (multipliers_of f.terms) s × (whole f.constant ≡ s.constant)))
    → IfOk res (λ least. MatchOption least (HasNoneBy rows cs k) (λ f. (s : Combination) × IsLeastMatchBy rows cs k (multipliers_of f.terms) s × (whole f.constant ≡ s.constant)))
found rows cs k (Err e) fits h = h
found rows cs k (Ok None) fits h = λ m s g. h m s (match_to rows cs k m s g)
found rows cs k (Ok (Some f)) fits h = (h.0, record { matching = match_from rows cs k (multipliers_of f.terms) h.0 fits h.1.matching; least = λ n u g. h.1.least n u (match_to rows cs k n u g) }, h.2)

pub least_found : (rows : List Linear) (cs : List ℤ) (k : ℤ) (t : Linear) (res : Result (Option Sum) AllocError) → All IsNarrow (scaled_list k cs) → t ≡ expression_of (scaled_list k cs)
    → IfOk res (λ least. MatchOption least (HasNoMatch rows t) (λ f. (s : Combination) × IsLeastMatch rows t (multipliers_of f.terms) s × (whole f.constant ≡ s.constant)))
    → IfOk res (λ least. MatchOption least (HasNoneBy rows cs k) (λ f. (s : Combination) × IsLeastMatchBy rows cs k (multipliers_of f.terms) s × (whole f.constant ≡ s.constant)))
least_found rows cs k t res fits is h =
    let P : Linear → Type 0 = λ t. IfOk res (λ least. MatchOption least (HasNoMatch rows t) (λ f. (s : Combination) × IsLeastMatch rows t (multipliers_of f.terms) s × (whole f.constant ≡ s.constant))) in
    found rows cs k res fits (subst P is h)

-- the same with what the code makes
pub least_made : (rows : List Linear) (cs numbers made : List ℤ) (k times : ℤ) (t : Linear) (res : Result (Option Sum) AllocError) → times ≡ k → All IsNarrow (scaled_list times cs) → numbers ≡ scaled_list times cs → made ≡ numbers → t ≡ expression_of made
    → IfOk res (λ least. MatchOption least (HasNoMatch rows t) (λ f. (s : Combination) × IsLeastMatch rows t (multipliers_of f.terms) s × (whole f.constant ≡ s.constant)))
    → IfOk res (λ least. MatchOption least (HasNoneBy rows cs k) (λ f. (s : Combination) × IsLeastMatchBy rows cs k (multipliers_of f.terms) s × (whole f.constant ≡ s.constant)))
least_made rows cs numbers made k times t res same fits is copied read h =
    least_found rows cs k t res (subst (λ (x : ℤ). All IsNarrow (scaled_list x cs)) same fits)
    (read ∙ ap (λ (xs : List ℤ). expression_of xs) (copied ∙ is) ∙ ap (λ (x : ℤ). expression_of (scaled_list x cs)) same) h
