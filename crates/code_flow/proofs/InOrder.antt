-- The listed methods stand in the order in which they are called.
use Rattle.std.proofs.Common.{◌≡◌, ℕ, zero, suc, ◌+◌, ◌<◌, ◌≤◌, List, [], ◌∷◌, ◌++◌, length, take, Option, Some, None, arith, refl, sym, ap, ◌∙◌, append-nil}
use Rattle.std.specs.Prelude.{flat_map, slice_get}
use Rattle.std.proofs.lemmas.Grind.{flat_map-append}
use Rattle.std.proofs.lemmas.List.{take_all}
use Rattle.std.proofs.lemmas.Option.{get_or_from_slice_get, slice_get_within}
use Rattle.common_laws.proofs.Parts.{take_next}
use Rattle.world.specs.declared.member.MemberId.{MemberId}
use Rattle.class_hierarchy.specs.World.{World}
use Rattle.code_flow.specs.Listing.{most_methods, callees, with_new, distinct, listed_then, listed, reached}
use Rattle.code_flow.proofs.ListingLaws.{with_new_grows, grown_takes_to}
use Rattle.code_flow.proofs.ReachedLaws.{past_end}
use Rattle.code_flow.proofs.Listings.{new_append}

-- they are the method and what the first k of them call
abbrev InOrder : World → MemberId → ℕ → List MemberId → Type 0
InOrder w m k ms = ms ≡ distinct (m ∷ flat_map (callees w) (take k ms))

start : (w : World) (m : MemberId) → InOrder w m 0 (m ∷ [])
unfolding with_new
start w m = refl

next : (w : World) (m : MemberId) (k : ℕ) (ms : List MemberId) (x : MemberId) → slice_get ms k ≡ Some x → InOrder w m k ms → InOrder w m (suc k) (with_new ms (callees w x))
next w m k ms x at h =
    let lt : k < length ms = slice_get_within ms k x at in
    let e : suc k ≡ k + 1 = omega arith in
    let front : take (suc k) (with_new ms (callees w x)) ≡ take k ms ++ x ∷ [] =
    grown_takes_to ms (with_new ms (callees w x)) (suc k) (with_new_grows ms (callees w x)) (omega arith) ∙ ap (λ j. take j ms) e ∙ take_next ms k x x lt (sym (get_or_from_slice_get ms k x x at)) in
    let called : flat_map (callees w) (take k ms ++ x ∷ []) ≡ flat_map (callees w) (take k ms) ++ callees w x =
    flat_map-append (callees w) (take k ms) (x ∷ []) ∙ ap (λ l. flat_map (callees w) (take k ms) ++ l) (append-nil (callees w x)) in
    ap (λ l. with_new l (callees w x)) h
    ∙ sym (new_append [] (m ∷ flat_map (callees w) (take k ms)) (callees w x))
    ∙ ap (λ l. distinct (m ∷ l)) (sym called)
    ∙ ap (λ l. distinct (m ∷ flat_map (callees w) l)) (sym front)

at_end : (w : World) (m : MemberId) (k most : ℕ) (ms : List MemberId) → take k ms ≡ take most ms → InOrder w m k ms → InOrder w m most ms
at_end w m k most ms e h = h ∙ ap (λ l. distinct (m ∷ flat_map (callees w) l)) e

then_in_order : (n : ℕ) (w : World) (m : MemberId) (ms : List MemberId) (k most : ℕ) (o : Option MemberId) → slice_get ms k ≡ o → suc n + k ≡ most
    → ((now : List MemberId) → InOrder w m (suc k) now → InOrder w m most (listed w n now (suc k))) → InOrder w m k ms → InOrder w m most (listed_then (λ now. listed w n now (suc k)) w ms o)
then_in_order n w m ms k most None at count others h =
    let le : length ms ≤ k = past_end ms k at in
    at_end w m k most ms (take_all k ms le ∙ sym (take_all most ms (omega arith))) h
then_in_order n w m ms k most (Some x) at count others h = others (with_new ms (callees w x)) (next w m k ms x at h)

in_order : (n : ℕ) (w : World) (m : MemberId) (ms : List MemberId) (k most : ℕ) → n + k ≡ most → InOrder w m k ms → InOrder w m most (listed w n ms k)
unfolding listed
in_order zero w m ms k most count h = at_end w m k most ms (let e : k ≡ most = omega arith in ap (λ j. take j ms) e) h
in_order (suc n) w m ms k most count h = then_in_order n w m ms k most (slice_get ms k) refl count (λ now g. in_order n w m now (suc k) most (omega arith) g) h

pub reached_in_order : (w : World) (m : MemberId) → reached w m ≡ distinct (m ∷ flat_map (callees w) (take most_methods (reached w m)))
unfolding reached
reached_in_order w m = in_order most_methods w m (m ∷ []) 0 most_methods (omega arith) (start w m)
