-- Targets, receiver by receiver.
use Rattle.std.proofs.Common.{◌≡◌, ◌⊎◌, inl, inr, ℕ, zero, suc, ◌<◌, ◌≤◌, Bool, true, false, List, [], ◌∷◌, length, get_or, Option, Some, None, arith, refl, sym, ap, subst, ◌∙◌, All, AllPairs, true≢false}
use Rattle.std.specs.Prelude.{Result, Ok, Err, IsTrue, Contains, nat_lt, if◌then◌else◌}
use Rattle.std.specs.Ordering.{nat_cmp, match_ordering}
use Rattle.std.specs.Cmp.Lexicographic.{slice_cmp}
use Rattle.std.specs.declared.cmp.Ordering.{Ordering}
use Rattle.std.specs.declared.cmp.Ordering.TheVariants.{Less, Equal, Greater}
use Rattle.std.specs.Ordering.{ordering_reverse}
use Rattle.std.specs.Borrow.{Bor}
use Rattle.std.specs.Map.{values_of}
use Rattle.std.specs.BTreeMap.{insert_entry}
use Rattle.std.proofs.lemmas.Bool.{ltb-true, ltb-false, cases_lt}
use Rattle.std.proofs.lemmas.Cmp.{nat_list_cmp_total}
use Rattle.std.proofs.lemmas.List.Kept.{AllPairs-cons}
use Rattle.std.proofs.lemmas.List.Elements.{Contains-get_or, All-contains}
use Rattle.std.proofs.lemmas.Map.Lookups.{exact_bytes}
use Rattle.common_laws.proofs.Members.{contains_head, contains_tail, contains_cases}
use Rattle.world.specs.declared.member.MemberId.{MemberId}
use Rattle.world.specs.declared.fault.ResolveFault.{ResolveFault}
use Rattle.class_hierarchy.specs.World.{World, class_at}
use Rattle.world.specs.Selection.{selected_by}
use Rattle.world.specs.Tables.{HasMethod}
use Rattle.world.specs.Targets.{is_receiver, rank, IsBefore, AreTargets, IsFirstFault}
use Rattle.world.specs.Collecting.{GivesBelow, name_order, with_target, AreNamed, first_kind, IsFirstBelow, Collects}
use Rattle.class_hierarchy.proofs.OwnNames.{HasNames}
use Rattle.world.proofs.There.{selected_there, selected_same}

-- ---- with one target more

from_at : (w : World) (t s : MemberId) (ss : List MemberId) (u : MemberId) (o : Ordering) → (Contains (with_target w t ss) u → (u ≡ t) ⊎ Contains ss u) → Contains (match_ordering o (t ∷ s ∷ ss) (t ∷ ss) (s ∷ with_target w t ss)) u → (u ≡ t) ⊎ Contains (s ∷ ss) u
from_at w t s ss u Less ih c = elim (contains_cases t (s ∷ ss) u c) [ inl e ↦ inl (sym e) | inr d ↦ inr d ]
from_at w t s ss u Equal ih c = elim (contains_cases t ss u c) [ inl e ↦ inl (sym e) | inr d ↦ inr (contains_tail s ss u d) ]
from_at w t s ss u Greater ih c = elim (contains_cases s (with_target w t ss) u c) [
  | inl e ↦ inr (subst (λ x. Contains (s ∷ ss) x) e (contains_head s ss))
  | inr d ↦ elim (ih d) [ inl e ↦ inl e | inr f ↦ inr (contains_tail s ss u f) ]
]

from_with : (w : World) (t : MemberId) (xs : List MemberId) (u : MemberId) → Contains (with_target w t xs) u → (u ≡ t) ⊎ Contains xs u
unfolding with_target
from_with w t [] u c = elim (contains_cases t [] u c) [ inl e ↦ inl (sym e) | inr d ↦ inr d ]
from_with w t (s ∷ ss) u c = from_at w t s ss u (name_order w t s) (from_with w t ss u) c

-- one of the same class is the same
abbrev IsAlone : World → MemberId → List MemberId → Type 0
IsAlone w t xs = (s : MemberId) → Contains xs s → name_order w t s ≡ Equal → s ≡ t

into_at : (w : World) (t s : MemberId) (ss : List MemberId) (u : MemberId) (o : Ordering) → (o ≡ Equal → s ≡ t) → (Contains ss u → Contains (with_target w t ss) u) → Contains (s ∷ ss) u → Contains (match_ordering o (t ∷ s ∷ ss) (t ∷ ss) (s ∷ with_target w t ss)) u
into_at w t s ss u Less h ih c = contains_tail t (s ∷ ss) u c
into_at w t s ss u Equal h ih c = elim (contains_cases s ss u c) [
  | inl e ↦ subst (λ x. Contains (t ∷ ss) x) (sym (h refl) ∙ e) (contains_head t ss)
  | inr d ↦ contains_tail t ss u d
]
into_at w t s ss u Greater h ih c = elim (contains_cases s ss u c) [
  | inl e ↦ subst (λ x. Contains (s ∷ with_target w t ss) x) e (contains_head s (with_target w t ss))
  | inr d ↦ contains_tail s (with_target w t ss) u (ih d)
]

into_with : (w : World) (t : MemberId) (xs : List MemberId) (u : MemberId) → IsAlone w t xs → Contains xs u → Contains (with_target w t xs) u
unfolding with_target
into_with w t [] u h c = contains_tail t [] u c
into_with w t (s ∷ ss) u h c = into_at w t s ss u (name_order w t s) (h s (contains_head s ss)) (into_with w t ss u (λ x k e. h x (contains_tail s ss x k) e)) c

it_at : (w : World) (t s : MemberId) (ss : List MemberId) (o : Ordering) → Contains (with_target w t ss) t → Contains (match_ordering o (t ∷ s ∷ ss) (t ∷ ss) (s ∷ with_target w t ss)) t
it_at w t s ss Less ih = contains_head t (s ∷ ss)
it_at w t s ss Equal ih = contains_head t ss
it_at w t s ss Greater ih = contains_tail s (with_target w t ss) t ih

it_with : (w : World) (t : MemberId) (xs : List MemberId) → Contains (with_target w t xs) t
unfolding with_target
it_with w t [] = contains_head t []
it_with w t (s ∷ ss) = it_at w t s ss (name_order w t s) (it_with w t ss)

before_all : (w : World) (s t : MemberId) (ss : List MemberId) → IsBefore w s t → ((k : ℕ) (d : MemberId) → k < length ss → IsBefore w s (get_or ss k d)) → (u : MemberId) → Contains (with_target w t ss) u → IsBefore w s u
before_all w s t ss b h u c = elim (from_with w t ss u c) [
  | inl e ↦ subst (λ x. IsBefore w s x) (sym e) b
  | inr d ↦ All-contains (λ x. IsBefore w s x) ss u h d
]

above_it : (w : World) (t s : MemberId) (ss : List MemberId) → IsBefore w t s → ((k : ℕ) (d : MemberId) → k < length ss → IsBefore w s (get_or ss k d)) → (k : ℕ) (d : MemberId) → k < length (s ∷ ss) → IsBefore w t (get_or (s ∷ ss) k d)
above_it w t s ss b h zero d lt = b
above_it w t s ss b h (suc k) d lt = nat_list_cmp_total.trans (class_at w t.class).name (class_at w s.class).name (class_at w (get_or ss k d).class).name b (h k d (omega arith))

order_at : (w : World) (t s : MemberId) (ss : List MemberId) (o : Ordering) → name_order w t s ≡ o → (o ≡ Equal → s ≡ t) → AllPairs (IsBefore w) (s ∷ ss) → AllPairs (IsBefore w) (with_target w t ss) → AllPairs (IsBefore w) (match_ordering o (t ∷ s ∷ ss) (t ∷ ss) (s ∷ with_target w t ss))
order_at w t s ss Less e k h ih = AllPairs-cons (IsBefore w) t (s ∷ ss) (above_it w t s ss e (λ j d l. h 0 (suc j) d (omega arith) (omega arith))) h
order_at w t s ss Equal e k h ih = subst (λ x. AllPairs (IsBefore w) (x ∷ ss)) (k refl) h
order_at w t s ss Greater e k h ih =
    let b : IsBefore w s t = nat_list_cmp_total.antisymm (class_at w s.class).name (class_at w t.class).name ∙ ap ordering_reverse e in
    AllPairs-cons (IsBefore w) s (with_target w t ss) (λ k d lt. before_all w s t ss b (λ j b l. h 0 (suc j) b (omega arith) (omega arith)) (get_or (with_target w t ss) k d) (Contains-get_or (with_target w t ss) k d lt)) ih

order_with : (w : World) (t : MemberId) (xs : List MemberId) → IsAlone w t xs → AllPairs (IsBefore w) xs → AllPairs (IsBefore w) (with_target w t xs)
unfolding with_target
order_with w t [] k h = λ i j d lt within. absurd (omega arith)
order_with w t (s ∷ ss) k h =
    order_at w t s ss (name_order w t s) refl (k s (contains_head s ss)) h (order_with w t ss (λ x c e. k x (contains_tail s ss x c) e) (λ i j d lt within. h (suc i) (suc j) d (omega arith) (omega arith)))

-- ---- one receiver more

split : (w : World) (c : ℕ) (m : MemberId) (r : ℕ) (a : Result MemberId ResolveFault) → GivesBelow w c m (suc r) a → GivesBelow w c m r a ⊎ (IsTrue (is_receiver w c r) × (selected_by w m r ≡ a))
split w c m r a g = elim (cases_lt g.0 r) [
  | inl lt ↦ inl (g.0, lt, g.2, g.3)
  | inr le ↦ let same : g.0 ≡ r = omega (arith, g.1) in inr (subst (λ k. IsTrue (is_receiver w c k)) same g.2, ap (λ k. selected_by w m k) (sym same) ∙ g.3)
]

more : (w : World) (c : ℕ) (m : MemberId) (r : ℕ) (a : Result MemberId ResolveFault) → GivesBelow w c m r a → GivesBelow w c m (suc r) a
more w c m r a g = (g.0, omega (arith, g.1), g.2, g.3)

here : (w : World) (c : ℕ) (m : MemberId) (r : ℕ) (a : Result MemberId ResolveFault) → IsTrue (is_receiver w c r) → selected_by w m r ≡ a → GivesBelow w c m (suc r) a
here w c m r a i e = (r, omega arith, i, e)

first_keeps : (w : World) (c : ℕ) (m : MemberId) (r : ℕ) (f : Option ResolveFault) → ((x : ResolveFault) → IsTrue (is_receiver w c r) → selected_by w m r ≡ Err x → ⊥) → IsFirstBelow w c m r f → IsFirstBelow w c m (suc r) f
first_keeps w c m r None never h = λ x g. elim (split w c m r (Err x) g) [ inl b ↦ h x b | inr p ↦ never x p.0 p.1 ]
first_keeps w c m r (Some f) never h = (more w c m r (Err f) h.0, λ x g. elim (split w c m r (Err x) g) [ inl b ↦ h.1 x b | inr p ↦ absurd (never x p.0 p.1) ])

pub collects_pass : (w : World) (c : ℕ) (m : MemberId) (r : ℕ) (xs : List MemberId) (f : Option ResolveFault) → is_receiver w c r ≡ false → Collects w c m r xs f → Collects w c m (suc r) xs f
collects_pass w c m r xs f never h = record {
  all = λ t. (
    λ k. more w c m r (Ok t) ((h.all t).0 k),
    λ g. elim (split w c m r (Ok t) g) [ inl b ↦ (h.all t).1 b | inr p ↦ absurd (true≢false (sym p.0 ∙ never)) ],
  );
  in_order = h.in_order;
  first = first_keeps w c m r f (λ x i e. true≢false (sym i ∙ never)) h.first;
}

alike : (w : World) (c : ℕ) (m : MemberId) (r : ℕ) (s t : MemberId) → HasNames w → HasMethod w m → r < length w → selected_by w m r ≡ Ok t → GivesBelow w c m r (Ok s) → name_order w t s ≡ Equal → s ≡ t
alike w c m r s t names there lt e g o =
    let lower : g.0 < length w = omega (arith, g.1) in
    selected_same w m g.0 r s t lower lt g.3 e (names s.class t.class (selected_there w m g.0 s lower there g.3).0 (selected_there w m r t lt there e).0 (sym (exact_bytes (class_at w t.class).name (class_at w s.class).name o)))

pub collects_target : (w : World) (c : ℕ) (m : MemberId) (r : ℕ) (xs : List MemberId) (f : Option ResolveFault) (t : MemberId) → HasNames w → HasMethod w m → r < length w → is_receiver w c r ≡ true → selected_by w m r ≡ Ok t → Collects w c m r xs f → Collects w c m (suc r) (with_target w t xs) f
collects_target w c m r xs f t names there lt i e h =
    let alone : IsAlone w t xs = λ s k o. alike w c m r s t names there lt e ((h.all s).0 k) o in
    record {
      all = λ u. (
        λ k. elim (from_with w t xs u k) [ inl s ↦ here w c m r (Ok u) i (e ∙ ap Ok (sym s)) | inr d ↦ more w c m r (Ok u) ((h.all u).0 d) ],
        λ g. elim (split w c m r (Ok u) g) [
          | inl b ↦ into_with w t xs u alone ((h.all u).1 b)
          | inr p ↦ let same : t ≡ u = cc in subst (λ x. Contains (with_target w t xs) x) same (it_with w t xs)
        ],
      );
      in_order = order_with w t xs alone h.in_order;
      first = first_keeps w c m r f (λ x j k. cc) h.first;
    }

rank_same : (x y : ResolveFault) → x ≡ y → rank x ≤ rank y
rank_same x y e = subst (λ z. rank x ≤ rank z) e (omega arith)

first_two : (w : World) (c : ℕ) (m : MemberId) (r : ℕ) (old f : ResolveFault) (b : Bool) → nat_lt (rank f) (rank old) ≡ b → IsTrue (is_receiver w c r) → selected_by w m r ≡ Err f → IsFirstBelow w c m r (Some old) → IsFirstBelow w c m (suc r) (Some (if b then f else old))
first_two w c m r old f true k i e h =
    let lt : rank f < rank old = ltb-true (rank f) (rank old) k in
    (here w c m r (Err f) i e, λ x g. elim (split w c m r (Err x) g) [ inl b ↦ omega (arith, lt, h.1 x b) | inr p ↦ rank_same f x (cc) ])
first_two w c m r old f false k i e h =
    let le : rank old ≤ rank f = ltb-false (rank f) (rank old) k in
    (more w c m r (Err old) h.0, λ x g. elim (split w c m r (Err x) g) [ inl b ↦ h.1 x b | inr p ↦ omega (arith, le, rank_same f x (cc)) ])

first_more : (w : World) (c : ℕ) (m : MemberId) (r : ℕ) (old : Option ResolveFault) (f : ResolveFault) → IsTrue (is_receiver w c r) → selected_by w m r ≡ Err f → IsFirstBelow w c m r old → IsFirstBelow w c m (suc r) (Some (first_kind old f))
first_more w c m r None f i e h = (here w c m r (Err f) i e, λ x g. elim (split w c m r (Err x) g) [ inl b ↦ absurd (h x b) | inr p ↦ rank_same f x (cc) ])
first_more w c m r (Some old) f i e h = first_two w c m r old f (nat_lt (rank f) (rank old)) refl i e h

pub collects_fault : (w : World) (c : ℕ) (m : MemberId) (r : ℕ) (xs : List MemberId) (old : Option ResolveFault) (f : ResolveFault) → is_receiver w c r ≡ true → selected_by w m r ≡ Err f → Collects w c m r xs old → Collects w c m (suc r) xs (Some (first_kind old f))
collects_fault w c m r xs old f i e h = record {
  all = λ u. (
    λ k. more w c m r (Ok u) ((h.all u).0 k),
    λ g. elim (split w c m r (Ok u) g) [ inl b ↦ (h.all u).1 b | inr p ↦ absurd cc ],
  );
  in_order = h.in_order;
  first = first_more w c m r old f i e h.first;
}

-- ---- at the names of their classes

name_same : (w : World) (k : Bor (List ℕ)) (t s : MemberId) (name : List ℕ) → k.now ≡ (class_at w t.class).name → name ≡ (class_at w s.class).name → slice_cmp nat_cmp k.now name ≡ name_order w t s
name_same w k t s name e f = ap (λ x. slice_cmp nat_cmp x name) e ∙ ap (λ x. slice_cmp nat_cmp (class_at w t.class).name x) f

values_at : (w : World) (k : Bor (List ℕ)) (t : MemberId) (e : Bor (List ℕ) × MemberId) (es : List (Bor (List ℕ) × MemberId)) (o : Ordering) → values_of (insert_entry (λ x y. slice_cmp nat_cmp x.now y.now) es k t) ≡ with_target w t (values_of es) → values_of (match_ordering o ((k, t) ∷ e ∷ es) ((e.0, t) ∷ es) (e ∷ insert_entry (λ x y. slice_cmp nat_cmp x.now y.now) es k t)) ≡ match_ordering o (t ∷ e.1 ∷ values_of es) (t ∷ values_of es) (e.1 ∷ with_target w t (values_of es))
values_at w k t e es Less ih = refl
values_at w k t e es Equal ih = refl
values_at w k t e es Greater ih = ap (λ l. e.1 ∷ l) ih

pub values_with : (w : World) (k : Bor (List ℕ)) (t : MemberId) (es : List (Bor (List ℕ) × MemberId)) → k.now ≡ (class_at w t.class).name → AreNamed w es → values_of (insert_entry (λ x y. slice_cmp nat_cmp x.now y.now) es k t) ≡ with_target w t (values_of es)
unfolding with_target
values_with w k t [] f h = refl
values_with w k t (e ∷ es) f h =
    values_at w k t e es (slice_cmp nat_cmp k.now e.0.now) (values_with w k t es f h.1)
    ∙ ap (λ o. match_ordering o (t ∷ e.1 ∷ values_of es) (t ∷ values_of es) (e.1 ∷ with_target w t (values_of es))) (name_same w k t e.1 e.0.now f h.0)

named_at : (w : World) (k : Bor (List ℕ)) (t : MemberId) (e : Bor (List ℕ) × MemberId) (es : List (Bor (List ℕ) × MemberId)) (o : Ordering) → slice_cmp nat_cmp k.now e.0.now ≡ o → k.now ≡ (class_at w t.class).name → AreNamed w (e ∷ es) → AreNamed w (insert_entry (λ x y. slice_cmp nat_cmp x.now y.now) es k t) → AreNamed w (match_ordering o ((k, t) ∷ e ∷ es) ((e.0, t) ∷ es) (e ∷ insert_entry (λ x y. slice_cmp nat_cmp x.now y.now) es k t))
named_at w k t e es Less o f h ih = (f, h)
named_at w k t e es Equal o f h ih = (sym (exact_bytes k.now e.0.now o) ∙ f, h.1)
named_at w k t e es Greater o f h ih = (h.0, ih)

pub named_with : (w : World) (k : Bor (List ℕ)) (t : MemberId) (es : List (Bor (List ℕ) × MemberId)) → k.now ≡ (class_at w t.class).name → AreNamed w es → AreNamed w (insert_entry (λ x y. slice_cmp nat_cmp x.now y.now) es k t)
named_with w k t [] f h = (f, tt)
named_with w k t (e ∷ es) f h = named_at w k t e es (slice_cmp nat_cmp k.now e.0.now) refl f h (named_with w k t es f h.1)

-- ---- all receivers

pub collects_start : (w : World) (c : ℕ) (m : MemberId) → Collects w c m 0 [] None
collects_start w c m = record {
  all = λ t. (λ k. absurd (omega (arith, k.1)), λ g. absurd (omega (arith, g.1)));
  in_order = λ i j d lt within. absurd (omega arith);
  first = λ x g. absurd (omega (arith, g.1));
}

targets_all : (w : World) (c : ℕ) (m : MemberId) (xs : List MemberId) → Collects w c m (length w) xs None → AreTargets w c m xs
targets_all w c m xs h = record { all = h.all; in_order = h.in_order; no_fault = h.first }

fault_all : (w : World) (c : ℕ) (m : MemberId) (xs : List MemberId) (f : ResolveFault) → Collects w c m (length w) xs (Some f) → IsFirstFault w c m f
fault_all w c m xs f h = record { met = h.first.0; first = h.first.1 }

pub targets_end : (w : World) (c : ℕ) (m : MemberId) (n : ℕ) (xs : List MemberId) (o : Option ResolveFault) → n ≡ length w → o ≡ None → Collects w c m n xs o → AreTargets w c m xs
targets_end w c m n xs o e f h = targets_all w c m xs (subst (λ q. Collects w c m (length w) xs q) f (subst (λ k. Collects w c m k xs o) e h))

pub fault_end : (w : World) (c : ℕ) (m : MemberId) (n : ℕ) (xs : List MemberId) (o : Option ResolveFault) (x : ResolveFault) → n ≡ length w → o ≡ Some x → Collects w c m n xs o → IsFirstFault w c m x
fault_end w c m n xs o x e f h = fault_all w c m xs x (subst (λ q. Collects w c m (length w) xs q) f (subst (λ k. Collects w c m k xs o) e h))

pub targets_there : (w : World) (c : ℕ) (m : MemberId) (xs : List MemberId) → HasMethod w m → AreTargets w c m xs → All (HasMethod w) xs
targets_there w c m xs there h = λ k d lt.
    let g = (h.all (get_or xs k d)).0 (Contains-get_or xs k d lt) in
    selected_there w m g.0 (get_or xs k d) g.1 there g.3
