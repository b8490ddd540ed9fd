-- A list of methods with new ones: it only grows at its end, and each method stands in it once.
use Rattle.std.proofs.Common.{◌≡◌, ◌⊎◌, inl, inr, ℕ, zero, suc, ◌<◌, ◌≤◌, Bool, true, false, List, [], ◌∷◌, ◌++◌, length, take, get_or, AllPairs, Option, Some, None, arith, refl, sym, ap, ◌∙◌, subst, append_assoc, append-nil}
use Rattle.std.specs.Prelude.{Contains, slice_get, if◌then◌else◌}
use Rattle.std.proofs.lemmas.List.{take_at, take-append-le, get_or_append_left, length-append}
use Rattle.std.proofs.lemmas.List.Elements.{Contains-append_left, Contains-push, Contains-push_cases, Contains-get_or}
use Rattle.std.proofs.lemmas.List.Quantifiers.{all_pairs_push}
use Rattle.std.proofs.lemmas.Option.{get_or_from_slice_get, slice_get-get_or, slice_get_within}
use Rattle.common_laws.proofs.Members.{contains_head, contains_tail, contains_cases, contains_none}
use Rattle.world.specs.declared.member.MemberId.{MemberId}
use Rattle.class_hierarchy.specs.World.{World}
use Rattle.code_flow.specs.Listing.{is_among, callees, with_new, listed_then, listed}
use Rattle.code_flow.proofs.Members.{among_listed, listed_among}

-- ---- a list that grows at its end

abbrev pub Grown : List MemberId → List MemberId → Type 0
Grown ms more = (others : List MemberId) × (more ≡ ms ++ others)

pub grown_not : (ms : List MemberId) → Grown ms ms
grown_not ms = ([], sym (append-nil ms))

pub grown_through : (ms more most : List MemberId) → Grown ms more → Grown more most → Grown ms most
grown_through ms more most g h = (g.0 ++ h.0, h.1 ∙ (ap (λ (l : List MemberId). l ++ h.0) g.1 ∙ append_assoc ms g.0 h.0))

-- what is listed once stays listed
pub grown_keeps : (ms more : List MemberId) (t : MemberId) → Grown ms more → Contains ms t → Contains more t
grown_keeps ms more t g h = subst (λ (l : List MemberId). Contains l t) (sym g.1) (Contains-append_left ms g.0 t h)

-- at its place
pub grown_at : (ms more : List MemberId) (k : ℕ) (d : MemberId) → Grown ms more → k < length ms → get_or more k d ≡ get_or ms k d
grown_at ms more k d g lt = ap (λ (l : List MemberId). get_or l k d) g.1 ∙ get_or_append_left ms g.0 d k lt

pub grown_longer : (ms more : List MemberId) → Grown ms more → length ms ≤ length more
grown_longer ms more g = omega (arith, ap (λ (l : List MemberId). length l) g.1, length-append ms g.0)

pub grown_takes : (ms more : List MemberId) → Grown ms more → take (length ms) more ≡ ms
grown_takes ms more g = ap (λ (l : List MemberId). take (length ms) l) g.1 ∙ take_at ms g.0 (length ms) refl

pub grown_gets : (ms more : List MemberId) (k : ℕ) (x : MemberId) → Grown ms more → slice_get ms k ≡ Some x → slice_get more k ≡ Some x
grown_gets ms more k x g h =
    let lt = slice_get_within ms k x h in
    slice_get-get_or more k x (omega (arith, lt, grown_longer ms more g)) ∙ ap (λ (y : MemberId). Some y) (grown_at ms more k x g lt ∙ get_or_from_slice_get ms k x x h)

pub grown_takes_to : (ms more : List MemberId) (k : ℕ) → Grown ms more → k ≤ length ms → take k more ≡ take k ms
grown_takes_to ms more k g le = ap (λ (l : List MemberId). take k l) g.1 ∙ take-append-le k ms g.0 le

-- ---- the new ones of a list

abbrev pub Once : List MemberId → Type 0
Once ms = AllPairs (λ (a b : MemberId). ¬ (a ≡ b)) ms

one_grows : (b : Bool) (ms : List MemberId) (t : MemberId) → Grown ms (if b then ms else ms ++ t ∷ [])
one_grows true ms t = grown_not ms
one_grows false ms t = (t ∷ [], refl)

one_from : (b : Bool) (ms : List MemberId) (t u : MemberId) → Contains (if b then ms else ms ++ t ∷ []) u → Contains ms u ⊎ (t ≡ u)
one_from true ms t u h = inl h
one_from false ms t u h = Contains-push_cases ms t u h

one_there : (b : Bool) (ms : List MemberId) (t : MemberId) → is_among ms t ≡ b → Contains (if b then ms else ms ++ t ∷ []) t
one_there true ms t h = among_listed ms t h
one_there false ms t h = Contains-push ms t

one_once : (b : Bool) (ms : List MemberId) (t : MemberId) → is_among ms t ≡ b → Once ms → Once (if b then ms else ms ++ t ∷ [])
one_once true ms t h once = once
one_once false ms t h once = all_pairs_push (λ (a b : MemberId). ¬ (a ≡ b)) ms t once (λ k d lt same.
    let there : is_among ms t ≡ true = listed_among ms t (subst (λ (u : MemberId). Contains ms u) same (Contains-get_or ms k d lt)) in
    absurd cc)

-- with the next one
abbrev next_of : List MemberId → MemberId → List MemberId
next_of ms t = if is_among ms t then ms else ms ++ t ∷ []

-- what is listed stands at the front
pub with_new_grows : (ms ts : List MemberId) → Grown ms (with_new ms ts)
unfolding with_new
with_new_grows ms [] = grown_not ms
with_new_grows ms (t ∷ ts) = grown_through ms (next_of ms t) (with_new (next_of ms t) ts) (one_grows (is_among ms t) ms t) (with_new_grows (next_of ms t) ts)

-- nothing else is added
pub with_new_from : (ms ts : List MemberId) (u : MemberId) → Contains (with_new ms ts) u → Contains ms u ⊎ Contains ts u
unfolding with_new
with_new_from ms [] u h = inl h
with_new_from ms (t ∷ ts) u h =
    elim (with_new_from (next_of ms t) ts u h) [
      | inl now ↦ elim (one_from (is_among ms t) ms t u now) [
        | inl old ↦ inl old
        | inr same ↦ inr (subst (λ (x : MemberId). Contains (t ∷ ts) x) same (contains_head t ts))
      ]
      | inr later ↦ inr (contains_tail t ts u later)
    ]

-- all are added
pub with_new_there : (ms ts : List MemberId) (u : MemberId) → Contains ts u → Contains (with_new ms ts) u
unfolding with_new
with_new_there ms [] u h = absurd (contains_none u h)
with_new_there ms (t ∷ ts) u h =
    elim (contains_cases t ts u h) [
      | inl same ↦ subst (λ (x : MemberId). Contains (with_new (next_of ms t) ts) x) same
          (grown_keeps (next_of ms t) (with_new (next_of ms t) ts) t (with_new_grows (next_of ms t) ts) (one_there (is_among ms t) ms t refl))
      | inr later ↦ with_new_there (next_of ms t) ts u later
    ]

-- each stands once
pub with_new_once : (ms ts : List MemberId) → Once ms → Once (with_new ms ts)
unfolding with_new
with_new_once ms [] once = once
with_new_once ms (t ∷ ts) once = with_new_once (next_of ms t) ts (one_once (is_among ms t) ms t refl once)

-- ---- the listing grows

listed_at_grows : (n : ℕ) (w : World) (ms : List MemberId) (k : ℕ) (o : Option MemberId) → ((now : List MemberId) → Grown now (listed w n now (suc k))) → Grown ms (listed_then (λ now. listed w n now (suc k)) w ms o)
listed_at_grows n w ms k None others = grown_not ms
listed_at_grows n w ms k (Some m) others =
    grown_through ms (with_new ms (callees w m)) (listed w n (with_new ms (callees w m)) (suc k)) (with_new_grows ms (callees w m)) (others (with_new ms (callees w m)))

pub listed_grows : (n : ℕ) (w : World) (ms : List MemberId) (k : ℕ) → Grown ms (listed w n ms k)
unfolding listed
listed_grows zero w ms k = grown_not ms
listed_grows (suc n) w ms k = listed_at_grows n w ms k (slice_get ms k) (λ now. listed_grows n w now (suc k))

-- what was listed is the front of what is listed later
pub listed_takes : (n : ℕ) (w : World) (ms : List MemberId) (k : ℕ) → take (length ms) (listed w n ms k) ≡ ms
listed_takes n w ms k = grown_takes ms (listed w n ms k) (listed_grows n w ms k)
