-- Default methods that no other overrides.
use Rattle.std.proofs.Common.{◌≡◌, inl, inr, ℕ, ◌<◌, ◌≤◌, length, get_or, arith, Bool, true, false, ◌&&◌, ◌||◌, not, if◌then◌else◌, List, [], ◌∷◌, Option, Some, None, cond, refl, sym, ap, ◌∙◌, nat_eq}
use Rattle.std.specs.Prelude.{find, slice_get, Result, Ok, Err}
use Rattle.std.specs.Option.{ok_or}
use Rattle.std.specs.Result.{MatchResult, is_ok}
use Rattle.std.specs.List.{list_any, filter, flat_map}
use Rattle.std.specs.List.Sorted.{IsPermutation, IsBinarySearchResult, IsNonDecreasing}
use Rattle.std.specs.Ordering.{nat_cmp}
use Rattle.std.proofs.lemmas.Bool.{cases_lt, eq-eqb, ne_eqb}
use Rattle.std.proofs.lemmas.Grind.{get_or_default_zero}
use Rattle.std.proofs.lemmas.List.Folds.{list_any-append, list_any_at, list_any_none}
use Rattle.std.proofs.lemmas.List.Sorted.{list_any-IsPermutation, searched}
use Rattle.common_laws.proofs.Tests.{any_flat, any_filter, filter_twice, find_filter}
use Rattle.world.specs.declared.member.MemberId.{MemberId}
use Rattle.world.specs.declared.fault.ResolveFault.{ResolveFault}
use Rattle.world.specs.declared.fault.ResolveFault.TheVariants.{MissingMember, Ambiguous}
use Rattle.world.specs.declared.access.MethodKind.TheVariants as kinds
use Rattle.class_hierarchy.specs.World.{World, above}
use Rattle.world.specs.Resolution.{first_of, method_in, has_default, is_overridden, is_most_specific, alone, only, interface_method}
use Rattle.class_hierarchy.specs.Tables.{SameFirst}
use Rattle.world.specs.Tables.{Tells}
use Rattle.class_hierarchy.proofs.First.{any_same}
use Rattle.world.proofs.Finding.{tells_as}

-- ---- a search in what rises

is_missed : (x : ℕ) (xs : List ℕ) (i : ℕ) → ((k : ℕ) → k < i → get_or xs k 0 < x) → ((k : ℕ) → i ≤ k → k < length xs → x < get_or xs k 0) → list_any (nat_eq x) xs ≡ false
is_missed x xs i lower higher =
    list_any_none (nat_eq x) xs
    (λ k d lt. ne_eqb x (get_or xs k d) (λ same.
    let zero_too : get_or xs k d ≡ get_or xs k 0 = get_or_default_zero xs k d lt in
    elim (cases_lt k i) [
      | inl before ↦ let less = lower k before in omega arith
      | inr behind ↦ let more = higher k behind lt in omega arith
    ]))

search_tells : (x : ℕ) (xs : List ℕ) (r : Result ℕ ℕ) → MatchResult r (λ i. (i < length xs) × (get_or xs i 0 ≡ x)) (λ i. (i ≤ length xs) × ((k : ℕ) → k < i → get_or xs k 0 < x) × ((k : ℕ) → i ≤ k → k < length xs → x < get_or xs k 0)) → is_ok r ≡ list_any (nat_eq x) xs
search_tells x xs (Ok i) h = sym (list_any_at (nat_eq x) xs i 0 h.0 (eq-eqb x (get_or xs i 0) (sym h.1)))
search_tells x xs (Err i) h = sym (is_missed x xs i h.1 h.2)

pub searched_by : (x : ℕ) (xs : List ℕ) (r : Result ℕ ℕ) → IsNonDecreasing xs → IsBinarySearchResult (λ y. nat_cmp y x) xs r → is_ok r ≡ list_any (nat_eq x) xs
searched_by x xs r up h = search_tells x xs r (searched xs x r h (λ i j le lt. up i j 0 le lt))

-- ---- what is overridden

-- that is what stands above an interface with a default method
pub overridden_by : (w : World) (name desc among : List ℕ) (d : ℕ) → is_overridden w name desc among d ≡ list_any (nat_eq d) (flat_map (above w) (filter (has_default w name desc) among))
overridden_by w name desc among d =
    sym (any_flat (nat_eq d) (above w) (filter (has_default w name desc) among) ∙ any_filter (λ e. list_any (nat_eq d) (above w e)) (has_default w name desc) among)

-- and that is found in a sorted list of it
found_by : (w : World) (name desc among found rising : List ℕ) → SameFirst found (flat_map (above w) (filter (has_default w name desc) among)) → IsPermutation found rising → (d : ℕ) → is_overridden w name desc among d ≡ list_any (nat_eq d) rising
found_by w name desc among found rising f h d =
    overridden_by w name desc among d
    ∙ sym (any_same (nat_eq d) found (flat_map (above w) (filter (has_default w name desc) among)) f)
    ∙ list_any-IsPermutation (nat_eq d) found rising h

pub specific_by : (w : World) (name desc among candidates found rising : List ℕ) → candidates ≡ filter (has_default w name desc) among → SameFirst found (flat_map (above w) candidates) → IsPermutation found rising → filter (λ d. not (list_any (nat_eq d) rising)) candidates ≡ filter (is_most_specific w name desc among) among
specific_by w name desc among candidates found rising e f h =
    ap (λ l. filter (λ d. not (list_any (nat_eq d) rising)) l) e
    ∙ filter_twice (has_default w name desc) (λ d. not (list_any (nat_eq d) rising)) (is_most_specific w name desc among)
    (λ d. ap (λ b. has_default w name desc d && not b) (found_by w name desc among found rising (rw e at f) h d)) among

-- ---- the method

only_by : (p : ℕ → Bool) (among passed : List ℕ) (answer : ℕ → Option MemberId) (otherwise : Result MemberId ResolveFault) (o : Option ℕ) → passed ≡ filter p among → o ≡ slice_get passed 0 → only p among answer otherwise ≡ alone (λ e. true) passed answer otherwise o
only_by p among passed answer otherwise o e h =
    let first : find p among ≡ o = find_filter p among ∙ sym (h ∙ ap (λ l. slice_get l 0) e) in
    ap (λ q. alone p among answer otherwise q) first
    ∙ elim o as (λ q. alone p among answer otherwise q ≡ alone (λ e. true) passed answer otherwise q) [
      | None ↦ refl
      | Some d ↦ ap (λ b. if b then Err Ambiguous else ok_or (answer d) MissingMember) (sym (ap (λ l. list_any (λ e. not (nat_eq d e)) l) e ∙ any_filter (λ e. not (nat_eq d e)) p among))
    ]

pub method_some : (w : World) (name desc among specific : List ℕ) (d : ℕ) (r : Result MemberId ResolveFault) → specific ≡ filter (is_most_specific w name desc among) among → Some d ≡ slice_get specific 0 → r ≡ (if list_any (λ e. not (nat_eq d e)) specific then Err Ambiguous else ok_or (method_in w name desc kinds.Default d) MissingMember) → Tells r (interface_method w name desc among)
unfolding interface_method
method_some w name desc among specific d r e h is =
    let otherwise = ok_or (first_of (method_in w name desc kinds.Inherited) among) MissingMember in
    tells_as r (only (is_most_specific w name desc among) among (method_in w name desc kinds.Default) otherwise)
    (is ∙ sym (only_by (is_most_specific w name desc among) among specific (method_in w name desc kinds.Default) otherwise (Some d) e h))

pub method_none : (w : World) (name desc among specific : List ℕ) (r : Result MemberId ResolveFault) → specific ≡ filter (is_most_specific w name desc among) among → None ≡ slice_get specific 0 → r ≡ ok_or (first_of (method_in w name desc kinds.Inherited) among) MissingMember → Tells r (interface_method w name desc among)
unfolding interface_method
method_none w name desc among specific r e h is =
    let otherwise = ok_or (first_of (method_in w name desc kinds.Inherited) among) MissingMember in
    tells_as r (only (is_most_specific w name desc among) among (method_in w name desc kinds.Default) otherwise)
    (is ∙ sym (only_by (is_most_specific w name desc among) among specific (method_in w name desc kinds.Default) otherwise None e h))
