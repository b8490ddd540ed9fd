-- Methods that are listed one by one.
use Rattle.std.proofs.Common.{◌≡◌, inl, inr, ℕ, zero, suc, ◌+◌, ◌-◌, ◌<◌, ◌≤◌, List, [], ◌∷◌, ◌++◌, map, length, take, drop, drop-cons, get_or, All, Some, None, Result, Ok, Err, arith, refl, sym, ap, subst, ◌∙◌}
use Rattle.std.specs.Prelude.{flat_map, slice_get, Contains, if◌then◌else◌}
use Rattle.std.proofs.lemmas.Grind.{common_steps}
use Rattle.std.proofs.lemmas.List.{map-append, take_all}
use Rattle.std.proofs.lemmas.Option.{get_or_from_slice_get, slice_get_within}
use Rattle.std.proofs.lemmas.List.Elements.{Contains-get_or, All-contains}
use Rattle.common_laws.proofs.Parts.{take_next}
use Rattle.common_laws.proofs.Members.{from_flat}
use Rattle.op_table.specs.declared.construct.Construct.{Construct}
use Rattle.world.specs.declared.member.MemberId.{MemberId}
use Rattle.class_hierarchy.specs.World.{World}
use Rattle.world.specs.Tables.{HasMethod}
use Rattle.code_flow.specs.declared.scanning.Site.{Site}
use Rattle.code_flow.specs.declared.scanning.Scan.{Scan}
use Rattle.code_flow.specs.Listing.{is_among, targets_in, callees, with_new, most_methods, listed, listed_then, reached}
use Rattle.code_flow.specs.Scanning.{scan_of}
use Rattle.code_flow.specs.ThereScanning.{AreMethods, HasTargets}
use Rattle.code_flow.specs.Scanned.{site_targets, IsListedTo, IsListed}
use Rattle.code_flow.proofs.ListingLaws.{with_new_grows, with_new_from, grown_longer, grown_takes_to}
use Rattle.code_flow.proofs.ReachedLaws.{past_end}
use Rattle.code_flow.proofs.ScanLaws.{callees_scanned}

-- ---- the targets of instructions

pub new_append : (ms xs ys : List MemberId) → with_new ms (xs ++ ys) ≡ with_new (with_new ms xs) ys
unfolding with_new
new_append ms [] ys = refl
new_append ms (x ∷ xs) ys = new_append (if is_among ms x then ms else ms ++ x ∷ []) xs ys

flat_front : (sites : List Site) (i : ℕ) (s d : Site) → i < length sites → s ≡ get_or sites i d → flat_map site_targets (drop i sites) ≡ site_targets s ++ flat_map site_targets (drop (i + 1) sites)
flat_front sites i s d lt e =
    let front : drop i sites ≡ s ∷ drop (suc i) sites = drop-cons sites i d lt ∙ ap (λ y. y ∷ drop (suc i) sites) (sym e) in
    let past : drop (suc i) sites ≡ drop (i + 1) sites = let k : suc i ≡ i + 1 = omega arith in ap (λ j. drop j sites) k in
    ap (λ l. flat_map site_targets l) front ∙ ap (λ l. site_targets s ++ flat_map site_targets l) past

pub targets_step : (start now ms : List MemberId) (sites : List Site) (i : ℕ) (s d : Site) → i < length sites → s ≡ get_or sites i d → now ≡ with_new ms (site_targets s)
    → with_new start (flat_map site_targets sites) ≡ with_new ms (flat_map site_targets (drop i sites)) → with_new start (flat_map site_targets sites) ≡ with_new now (flat_map site_targets (drop (i + 1) sites))
targets_step start now ms sites i s d lt e n h =
    h ∙ ap (λ l. with_new ms l) (flat_front sites i s d lt e)
    ∙ new_append ms (site_targets s) (flat_map site_targets (drop (i + 1) sites))
    ∙ ap (λ l. with_new l (flat_map site_targets (drop (i + 1) sites))) (sym n)

pub targets_end : (start ms : List MemberId) (sites : List Site) (i : ℕ) → length sites ≤ i → with_new start (flat_map site_targets sites) ≡ with_new ms (flat_map site_targets (drop i sites)) → ms ≡ with_new start (flat_map site_targets sites)
unfolding with_new
targets_end start ms sites i le h =
    let none : drop i sites ≡ [] = grind (arith, common_steps) in
    sym (h ∙ ap (λ l. with_new ms (flat_map site_targets l)) none)

-- ---- they are methods

by_verdict : (w : World) (verdict : Result (List MemberId) Construct) (u : MemberId) → AreMethods w verdict → Contains (targets_in verdict) u → HasMethod w u
by_verdict w (Ok ts) u h c = All-contains (HasMethod w) ts u h c
by_verdict w (Err e) u h c = absurd (omega (arith, c.1))

in_sites : (w : World) (sites : List Site) (u : MemberId) → All (HasTargets w) sites → Contains (flat_map site_targets sites) u → HasMethod w u
in_sites w sites u h c =
    let from = from_flat site_targets sites u c in
    by_verdict w from.0.verdict u (All-contains (HasTargets w) sites from.0 h from.1) from.2

pub still_there : (w : World) (old now : List MemberId) (sites : List Site) → All (HasTargets w) sites → now ≡ with_new old (flat_map site_targets sites) → All (HasMethod w) old → All (HasMethod w) now
still_there w old now sites targets e h = λ k d lt.
    let c : Contains (with_new old (flat_map site_targets sites)) (get_or now k d) = subst (λ l. Contains l (get_or now k d)) e (Contains-get_or now k d lt) in
    elim (with_new_from old (flat_map site_targets sites) (get_or now k d) c) [
      | inl before ↦ All-contains (HasMethod w) old (get_or now k d) h before
      | inr new ↦ in_sites w sites (get_or now k d) targets new
    ]

-- ---- method by method

pub listed_start : (w : World) (m : MemberId) (ms : List MemberId) (scans : List Scan) → HasMethod w m → ms ≡ m ∷ [] → scans ≡ [] → IsListedTo w m 0 ms scans
unfolding reached
listed_start w m ms scans there e f = record {
  rest = rw e refl;
  scanned = f;
  long = omega arith;
  there = rw e (λ k d lt. let first : k ≡ 0 = omega (arith, lt) in rw first there);
}

listed_one : (w : World) (n : ℕ) (ms : List MemberId) (k : ℕ) (x : MemberId) → slice_get ms k ≡ Some x → listed w (suc n) ms k ≡ listed w n (with_new ms (callees w x)) (suc k)
unfolding listed
listed_one w n ms k x e = ap (λ o. listed_then (λ now. listed w n now (suc k)) w ms o) e

pub listed_next : (w : World) (m : MemberId) (k : ℕ) (ms now : List MemberId) (scans more : List Scan) (x : MemberId) → k < most_methods → slice_get ms k ≡ Some x
    → now ≡ with_new ms (flat_map site_targets (scan_of w x).body.sites) → more ≡ scans ++ scan_of w x ∷ [] → (All (HasMethod w) ms → All (HasMethod w) now)
    → IsListedTo w m k ms scans → IsListedTo w m (k + 1) now more
listed_next w m k ms now scans more x few e n s there h =
    let by : now ≡ with_new ms (callees w x) = n ∙ ap (λ ts. with_new ms ts) (sym (callees_scanned w x)) in
    let lt : k < length ms = slice_get_within ms k x e in
    let grows = with_new_grows ms (callees w x) in
    let longer : length ms ≤ length now = subst (λ l. length ms ≤ length l) (sym by) (grown_longer ms (with_new ms (callees w x)) grows) in
    let fuel : most_methods - k ≡ suc (most_methods - (k + 1)) = omega arith in
    let at : suc k ≡ k + 1 = omega arith in
    let front : take (k + 1) now ≡ take (k + 1) ms = ap (λ l. take (k + 1) l) by ∙ grown_takes_to ms (with_new ms (callees w x)) (k + 1) grows (omega (arith, lt)) in
    let next : take (k + 1) ms ≡ take k ms ++ x ∷ [] = take_next ms k x x lt (sym (get_or_from_slice_get ms k x x e)) in
    record {
      rest = h.rest ∙ ap (λ n. listed w n ms k) fuel ∙ listed_one w (most_methods - (k + 1)) ms k x e ∙ ap (λ l. listed w (most_methods - (k + 1)) l (suc k)) (sym by) ∙ ap (λ j. listed w (most_methods - (k + 1)) now j) at;
      scanned = s ∙ ap (λ l. l ++ scan_of w x ∷ []) h.scanned ∙ sym (map-append (scan_of w) (take k ms) (x ∷ [])) ∙ ap (λ l. map (scan_of w) l) (sym (front ∙ next));
      long = omega (arith, longer, lt);
      there = there h.there;
    }

listed_stop : (w : World) (n : ℕ) (ms : List MemberId) (k : ℕ) → slice_get ms k ≡ None → listed w n ms k ≡ ms
unfolding listed
listed_stop w zero ms k e = refl
listed_stop w (suc n) ms k e = ap (λ o. listed_then (λ now. listed w n now (suc k)) w ms o) e

pub listed_end : (w : World) (m : MemberId) (k : ℕ) (ms : List MemberId) (scans : List Scan) → k ≤ most_methods → slice_get ms k ≡ None → IsListedTo w m k ms scans → IsListed w m ms scans
listed_end w m k ms scans few e h =
    let whole : reached w m ≡ ms = h.rest ∙ listed_stop w (most_methods - k) ms k e in
    let le : length ms ≤ k = past_end ms k e in
    let front : take k ms ≡ ms = take_all k ms le in
    let most : take most_methods ms ≡ ms = take_all most_methods ms (omega (arith, le, few)) in
    record {
      whole = sym whole;
      scanned = h.scanned ∙ ap (λ l. map (scan_of w) l) (front ∙ sym most ∙ ap (λ l. take most_methods l) (sym whole));
    }

listed_none : (w : World) (ms : List MemberId) (k : ℕ) → listed w 0 ms k ≡ ms
unfolding listed
listed_none w ms k = refl

pub listed_full : (w : World) (m : MemberId) (k : ℕ) (ms : List MemberId) (scans : List Scan) → k ≡ most_methods → IsListedTo w m k ms scans → IsListed w m ms scans
listed_full w m k ms scans e h =
    let fuel : most_methods - k ≡ 0 = omega (arith, e) in
    let whole : reached w m ≡ ms = h.rest ∙ ap (λ n. listed w n ms k) fuel ∙ listed_none w ms k in
    record {
      whole = sym whole;
      scanned = h.scanned ∙ ap (λ j. map (scan_of w) (take j ms)) e ∙ ap (λ l. map (scan_of w) (take most_methods l)) (sym whole);
    }
