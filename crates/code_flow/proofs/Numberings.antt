-- Methods by their place in a list.
use Rattle.std.proofs.Common.{◌≡◌, ℕ, suc, ◌+◌, ◌<◌, ◌≤◌, Bool, true, false, List, [], ◌∷◌, ◌++◌, length, drop, drop-cons, get_or, Some, None, arith, refl, sym, ap, subst, ◌∙◌, true≢false}
use Rattle.std.specs.Prelude.{if◌then◌else◌, is_some, Result, Ok, Err, OnOk, OnErr}
use Rattle.std.specs.List.{position}
use Rattle.std.specs.Ordering.{nat_cmp}
use Rattle.std.specs.Cmp.{tied_then, unsigned_tied}
use Rattle.std.specs.BTreeMap.{BTreeMap, is_at}
use Rattle.std.specs.Map.{lookup}
use Rattle.std.proofs.lemmas.Grind.{common_steps}
use Rattle.common_laws.proofs.Positions.{position_any, position_last, position_push}
use Rattle.world.specs.declared.member.MemberId.{MemberId}
use Rattle.code_flow.specs.Listing.{is_method, is_among, with_new}
use Rattle.code_flow.specs.Numbering.{key_cmp, place_in, HasPlaces}
use Rattle.code_flow.proofs.Members.{is_method_same, same_is_method}

-- ---- places

pub is_old : (ms : List MemberId) (m : MemberId) (i : ℕ) → Some i ≡ position (is_method m) ms → is_among ms m ≡ true
is_old ms m i e = position_any (is_method m) ms ∙ ap is_some (sym e)

pub is_new : (ms : List MemberId) (m : MemberId) → None ≡ position (is_method m) ms → is_among ms m ≡ false
is_new ms m e = position_any (is_method m) ms ∙ ap is_some (sym e)

-- ---- one more method

at_key : (m q : MemberId) → is_at (key_cmp (m.class, m.member)) (q.class, q.member) ≡ is_method m q
at_key m q = sym (tied_then (nat_cmp m.class q.class) (nat_cmp m.member q.member)) ∙ rw (unsigned_tied m.class q.class, unsigned_tied m.member q.member) refl

abbrev IsPushed : BTreeMap (ℕ × ℕ) ℕ → BTreeMap (ℕ × ℕ) ℕ → ℕ → MemberId → Type 0
IsPushed old new n m = (key : ℕ × ℕ) → place_in new key ≡ (if is_at (key_cmp (m.class, m.member)) key then Some n else place_in old key)

apart : (m q : MemberId) (b : Bool) → is_method m q ≡ b → is_method q m ≡ false → is_method m q ≡ false
apart m q true e f = absurd (true≢false (sym (same_is_method q m (sym (is_method_same m q e))) ∙ f))
apart m q false e f = e

one_place : (old new : BTreeMap (ℕ × ℕ) ℕ) (ms : List MemberId) (m q : MemberId) (b : Bool) → is_method q m ≡ b → HasPlaces old ms → position (is_method m) ms ≡ None → IsPushed old new (length ms) m → place_in new (q.class, q.member) ≡ position (is_method q) (ms ++ m ∷ [])
one_place old new ms m q true e h none pushed =
    let same : q ≡ m = is_method_same q m e in
    let here : is_at (key_cmp (m.class, m.member)) (q.class, q.member) ≡ true = at_key m q ∙ same_is_method m q (sym same) in
    pushed (q.class, q.member) ∙ ap (λ b. if b then Some (length ms) else place_in old (q.class, q.member)) here ∙ sym (position_last (is_method q) ms m e (subst (λ x. position (is_method x) ms ≡ None) (sym same) none))
one_place old new ms m q false e h none pushed =
    pushed (q.class, q.member) ∙ ap (λ b. if b then Some (length ms) else place_in old (q.class, q.member)) (at_key m q ∙ apart m q (is_method m q) refl e) ∙ h q ∙ sym (position_push (is_method q) ms m e)

same_places : (old new : BTreeMap (ℕ × ℕ) ℕ) (ms now : List MemberId) → now ≡ ms → new.entries ≡ old.entries → HasPlaces old ms → HasPlaces new now
same_places old new ms now e f h = λ q. ap (λ es. lookup (is_at (key_cmp (q.class, q.member))) es) f ∙ h q ∙ ap (λ xs. position (is_method q) xs) (sym e)

pub places_pushed : {A E : Type 0} (r : Result A E) (old new : BTreeMap (ℕ × ℕ) ℕ) (ms now : List MemberId) (m : MemberId) → HasPlaces old ms → None ≡ position (is_method m) ms → OnOk r (now ≡ ms ++ m ∷ []) → OnOk r (IsPushed old new (length ms) m) → OnErr r ((now ≡ ms) × (new.entries ≡ old.entries)) → HasPlaces new now
places_pushed (Ok a) old new ms now m h none e pushed kept = λ q. one_place old new ms m q (is_method q m) refl h (sym none) pushed ∙ ap (λ xs. position (is_method q) xs) (sym e)
places_pushed (Err e) old new ms now m h none i pushed kept = same_places old new ms now kept.0 kept.1 h

-- ---- all of a list

pub new_step : (start now ms ts : List MemberId) (i : ℕ) (x d : MemberId) → i < length ts → x ≡ get_or ts i d → now ≡ (if is_among ms x then ms else ms ++ x ∷ []) → with_new start ts ≡ with_new ms (drop i ts) → with_new start ts ≡ with_new now (drop (i + 1) ts)
unfolding with_new
new_step start now ms ts i x d lt e n h =
    let front : drop i ts ≡ x ∷ drop (suc i) ts = drop-cons ts i d lt ∙ ap (λ y. y ∷ drop (suc i) ts) (sym e) in
    let past : drop (suc i) ts ≡ drop (i + 1) ts = let k : suc i ≡ i + 1 = omega arith in ap (λ j. drop j ts) k in
    h ∙ ap (λ l. with_new ms l) front ∙ ap (λ l. with_new l (drop (suc i) ts)) (sym n) ∙ ap (λ l. with_new now l) past

pub new_end : (start ms ts : List MemberId) (i : ℕ) → length ts ≤ i → with_new start ts ≡ with_new ms (drop i ts) → ms ≡ with_new start ts
unfolding with_new
new_end start ms ts i le h =
    let none : drop i ts ≡ [] = grind (arith, common_steps) in
    sym (h ∙ ap (λ l. with_new ms l) none)
