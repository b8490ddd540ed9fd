-- What a method reaches: the listed methods are those that calls lead to, where they are not more than are looked at.
use Rattle.std.proofs.Common.{◌≡◌, ◌⊎◌, inl, inr, ℕ, zero, suc, ◌+◌, ◌<◌, ◌≤◌, true, List, [], ◌∷◌, length, get_or, Option, Some, None, arith, refl, sym, ap, ◌∙◌, subst}
use Rattle.std.specs.Prelude.{Contains, slice_get}
use Rattle.std.proofs.lemmas.Bool.{cases_lt}
use Rattle.std.proofs.lemmas.Option.{get_or_from_slice_get, slice_get-get_or, slice_get_cases, slice_get_within}
use Rattle.common_laws.proofs.Repeats.{no_longer}
use Rattle.common_laws.proofs.Members.{contains_cases, contains_none}
use Rattle.world.specs.declared.member.MemberId.{MemberId}
use Rattle.class_hierarchy.specs.World.{World}
use Rattle.code_flow.specs.Listing.{most_methods, is_among, callees, with_new, listed_then, listed, reached, Leads}
use Rattle.code_flow.specs.Listing.Leads.{calls, through}
use Rattle.code_flow.specs.Program.{IsListing}
use Rattle.code_flow.proofs.Members.{listed_among, among_listed}
use Rattle.code_flow.proofs.ListingLaws.{Once, grown_keeps, grown_at, grown_longer, with_new_grows, with_new_from, with_new_there, with_new_once}

leads_on : (w : World) (m t u : MemberId) → Leads w m t → is_among (callees w t) u ≡ true → Leads w m u
leads_on w m t u (calls h) k = through h (calls k)
leads_on w m t u (through h more) k = through h (leads_on w _ t u more k)

-- what is called from what is reached is reached
reached_on : (w : World) (m t u : MemberId) → (t ≡ m) ⊎ Leads w m t → is_among (callees w t) u ≡ true → Leads w m u
reached_on w m t u (inl same) k = calls (subst (λ (x : MemberId). is_among (callees w x) u ≡ true) same k)
reached_on w m t u (inr leads) k = leads_on w m t u leads k

-- the methods that are listed when the first k were looked at
pub record IsLooked (w : World) (m : MemberId) (k : ℕ) (ms : List MemberId) : Type 0 where
  pub begins : slice_get ms 0 ≡ Some m
  pub sound : (t : MemberId) → Contains ms t → (t ≡ m) ⊎ Leads w m t
  pub closed : (j : ℕ) (d : MemberId) → j < k → j < length ms → (t : MemberId) → Contains (callees w (get_or ms j d)) t → Contains ms t
  pub called : (t : MemberId) → Contains ms t → (t ≡ m) ⊎ ((i : ℕ) × (i < k) × (i < length ms) × ((d : MemberId) → Contains (callees w (get_or ms i d)) t))
  pub once : Once ms

module _ (w : World) (m : MemberId) (k : ℕ) (ms : List MemberId) (l : IsLooked w m k ms) (x : MemberId) (here : slice_get ms k ≡ Some x) where
  within : k < length ms
  within = slice_get_within ms k x here

  at_k : (d : MemberId) → get_or ms k d ≡ x
  at_k d = get_or_from_slice_get ms k x d here

  next_begins : slice_get (with_new ms (callees w x)) 0 ≡ Some m
  next_begins =
      let longer = grown_longer ms (with_new ms (callees w x)) (with_new_grows ms (callees w x)) in
      let lt = within in
      slice_get-get_or (with_new ms (callees w x)) 0 m (omega arith)
      ∙ ap (λ (y : MemberId). Some y) (grown_at ms (with_new ms (callees w x)) 0 m (with_new_grows ms (callees w x)) (omega arith) ∙ get_or_from_slice_get ms 0 m m l.begins)

  next_sound : (t : MemberId) → Contains (with_new ms (callees w x)) t → (t ≡ m) ⊎ Leads w m t
  next_sound t h =
      elim (with_new_from ms (callees w x) t h) [
        | inl old ↦ l.sound t old
        | inr new ↦ inr (reached_on w m x t (l.sound x (k, within, at_k x)) (listed_among (callees w x) t new))
      ]

  next_closed : (j : ℕ) (d : MemberId) → j < suc k → (t : MemberId) → Contains (callees w (get_or (with_new ms (callees w x)) j d)) t → Contains (with_new ms (callees w x)) t
  next_closed j d lt t h =
      let inside = within in
      let was : Contains (callees w (get_or ms j d)) t = subst (λ (y : MemberId). Contains (callees w y) t) (grown_at ms (with_new ms (callees w x)) j d (with_new_grows ms (callees w x)) (omega arith)) h in
      elim (cases_lt j k) [
        | inl before ↦ grown_keeps ms (with_new ms (callees w x)) t (with_new_grows ms (callees w x)) (l.closed j d before (omega arith) t was)
        | inr after ↦
            let same : j ≡ k = omega arith in
            with_new_there ms (callees w x) t (subst (λ (y : MemberId). Contains (callees w y) t) (ap (λ (i : ℕ). get_or ms i d) same ∙ at_k d) was)
      ]

  next_called : (t : MemberId) → Contains (with_new ms (callees w x)) t → (t ≡ m) ⊎ ((i : ℕ) × (i < suc k) × (i < length (with_new ms (callees w x))) × ((d : MemberId) → Contains (callees w (get_or (with_new ms (callees w x)) i d)) t))
  next_called t h =
      let longer = grown_longer ms (with_new ms (callees w x)) (with_new_grows ms (callees w x)) in
      let lt = within in
      elim (with_new_from ms (callees w x) t h) [
        | inl old ↦ elim (l.called t old) [
          | inl same ↦ inl same
          | inr caller ↦ inr (
            caller.0,
            omega (arith, caller.1),
            omega (arith, caller.2),
            λ d.
                subst (λ (y : MemberId). Contains (callees w y) t) (sym (grown_at ms (with_new ms (callees w x)) caller.0 d (with_new_grows ms (callees w x)) caller.2)) (caller.3 d),
          )
        ]
        | inr new ↦ inr (
          k,
          omega arith,
          omega arith,
          λ d.
              subst (λ (y : MemberId). Contains (callees w y) t) (sym (grown_at ms (with_new ms (callees w x)) k d (with_new_grows ms (callees w x)) within ∙ at_k d)) new,
        )
      ]

  -- one more was looked at
  looked_next : IsLooked w m (suc k) (with_new ms (callees w x))
  looked_next = record {
    begins = next_begins;
    sound = next_sound;
    closed = λ j d lt inside t h. next_closed j d lt t h;
    called = next_called;
    once = with_new_once ms (callees w x) l.once;
  }

looked_first : (w : World) (m : MemberId) → IsLooked w m 0 (m ∷ [])
looked_first w m = record {
  begins = refl;
  sound = λ t h. elim (contains_cases m [] t h) [ inl e ↦ inl (sym e) | inr none ↦ absurd (contains_none t none) ];
  closed = λ j d lt inside t h. absurd (omega arith);
  called = λ t h. elim (contains_cases m [] t h) [ inl e ↦ inl (sym e) | inr none ↦ absurd (contains_none t none) ];
  once = λ i j d lt inside. absurd (omega arith);
}

-- what is listed in the end, where at most so many are looked at
pub record IsLookedUpTo (w : World) (m : MemberId) (most : ℕ) (ms : List MemberId) : Type 0 where
  pub count : ℕ
  pub few : count ≤ most
  pub looked : IsLooked w m count ms
  pub all : (length ms ≤ count) ⊎ (count ≡ most)

pub past_end : (ms : List MemberId) (k : ℕ) → slice_get ms k ≡ None → length ms ≤ k
past_end ms k h =
    elim (slice_get_cases ms k).1 [
      | inl there ↦ let e : None ≡ Some there.0 = sym h ∙ there.2 in absurd cc
      | inr past ↦ past.0
    ]

looked_at : (n : ℕ) (w : World) (m : MemberId) (ms : List MemberId) (k most : ℕ) (o : Option MemberId) → slice_get ms k ≡ o → suc n + k ≡ most → ((now : List MemberId) → IsLooked w m (suc k) now → IsLookedUpTo w m most (listed w n now (suc k))) → IsLooked w m k ms → IsLookedUpTo w m most (listed_then (λ now. listed w n now (suc k)) w ms o)
looked_at n w m ms k most None at count others l = record { count = k; few = omega arith; looked = l; all = inl (past_end ms k at) }
looked_at n w m ms k most (Some x) at count others l = others (with_new ms (callees w x)) (looked_next w m k ms l x at)

looked_up_to : (n : ℕ) (w : World) (m : MemberId) (ms : List MemberId) (k most : ℕ) → n + k ≡ most → IsLooked w m k ms → IsLookedUpTo w m most (listed w n ms k)
unfolding listed
looked_up_to zero w m ms k most count l = record { count = k; few = omega arith; looked = l; all = inr (omega arith) }
looked_up_to (suc n) w m ms k most count l = looked_at n w m ms k most (slice_get ms k) refl count (λ now h. looked_up_to n w m now (suc k) most (omega arith) h) l

pub reached_looked : (w : World) (m : MemberId) → IsLookedUpTo w m most_methods (reached w m)
unfolding reached
reached_looked w m = looked_up_to most_methods w m (m ∷ []) 0 most_methods (omega arith) (looked_first w m)

-- ---- where they are not more than are looked at

module _ (w : World) (m : MemberId) (few : length (reached w m) ≤ most_methods) where
  all_looked : length (reached w m) ≤ (reached_looked w m).count
  all_looked = elim (reached_looked w m).all [ inl all ↦ all | inr most ↦ omega arith ]

  -- what a listed method calls is listed
  pub reached_closed : (x t : MemberId) → Contains (reached w m) x → Contains (callees w x) t → Contains (reached w m) t
  reached_closed x t h c =
      let all = all_looked in
      (reached_looked w m).looked.closed h.0 x (omega (arith, h.1)) h.1 t (subst (λ (y : MemberId). Contains (callees w y) t) (sym h.2) c)

  -- and so all that calls lead to
  pub reached_leads : (x t : MemberId) → Contains (reached w m) x → Leads w x t → Contains (reached w m) t
  reached_leads x t h (calls c) = reached_closed x t h (among_listed (callees w x) t c)
  reached_leads x t h (through {t = y} c more) = reached_leads y t (reached_closed x y h (among_listed (callees w x) y c)) more

pub reached_begins : (w : World) (m : MemberId) → Contains (reached w m) m
reached_begins w m = (0, slice_get_within (reached w m) 0 m (reached_looked w m).looked.begins, get_or_from_slice_get (reached w m) 0 m m (reached_looked w m).looked.begins)

-- the listed methods are those that calls lead to
pub reached_is_listing : (w : World) (m : MemberId) → length (reached w m) ≤ most_methods → IsListing w m (reached w m)
reached_is_listing w m few = record {
  begins = (reached_looked w m).looked.begins;
  sound = (reached_looked w m).looked.sound;
  whole = λ t h. reached_leads w m few m t (reached_begins w m) h;
  once = (reached_looked w m).looked.once;
}

-- what a listed method reaches is listed
pub listed_within : (w : World) (m t u : MemberId) → length (reached w m) ≤ most_methods → Contains (reached w m) t → Contains (reached w t) u → Contains (reached w m) u
listed_within w m t u few there h =
    elim ((reached_looked w t).looked.sound u h) [
      | inl same ↦ subst (λ (x : MemberId). Contains (reached w m) x) (sym same) there
      | inr leads ↦ reached_leads w m few t u there leads
    ]

-- a listed method reaches no more methods
pub listed_from_callee : (w : World) (m t : MemberId) → length (reached w m) ≤ most_methods → Contains (reached w m) t → length (reached w t) ≤ most_methods
listed_from_callee w m t few there =
    let less = no_longer (reached w t) (reached w m) (reached_looked w t).looked.once (λ u h. listed_within w m t u few there h) in
    omega arith

-- ---- with the test

-- a method reaches what it lists
pub leads_among : (w : World) (m t : MemberId) → length (reached w m) ≤ most_methods → (t ≡ m) ⊎ Leads w m t → is_among (reached w m) t ≡ true
leads_among w m t few (inl same) = listed_among (reached w m) t (subst (λ (x : MemberId). Contains (reached w m) x) (sym same) (reached_begins w m))
leads_among w m t few (inr leads) = listed_among (reached w m) t (reached_leads w m few m t (reached_begins w m) leads)

pub among_leads : (w : World) (m t : MemberId) → is_among (reached w m) t ≡ true → (t ≡ m) ⊎ Leads w m t
among_leads w m t h = (reached_looked w m).looked.sound t (among_listed (reached w m) t h)
