-- What holds of a class, from what holds of the classes that it names.
use Rattle.std.proofs.Common.{◌≡◌, ◌⊎◌, inl, inr, ℕ, ◌+◌, ◌<◌, ◌≤◌, Bool, true, false, ◌||◌, ◌&&◌, not, cond, List, [], ◌∷◌, ◌++◌, length, take, get_or, set, Option, Some, None, is_some, refl, sym, ap, subst, ◌∙◌, nat_eq, true≢false}
use Rattle.std.specs.Prelude.{Ok, Err, find, slice_get, if◌then◌else◌}
use Rattle.std.specs.Option.{option_or, option_map, option_map_or, option_and_then, option_to_list, ok_or}
use Rattle.std.specs.List.{list_any, flat_map, position}
use Rattle.std.proofs.lemmas.Bool.{eqb-true, eq-eqb, cases_eq, and_parts, or_cases, not-true, false_from_ne_true}
use Rattle.std.proofs.lemmas.List.{length-set, get_or-set_same, get_or-set_other, take_more, take_all, append-nil}
use Rattle.std.proofs.lemmas.List.Folds.{list_any-append}
use Rattle.std.proofs.lemmas.Slice.Eq.{bytes_eq-Decides}
use Rattle.common_laws.proofs.Choices.{or_none, or_nothing, or_assoc}
use Rattle.common_laws.proofs.Numbers.{contains_listed, listed_contains, place_listed, head_listed, tail_listed, one_listed, flat_listed, listed_flat}
use Rattle.common_laws.proofs.Tests.{any_in, any_has, any_left, any_right, any_either, find_none, find_some}
use Rattle.class_reader.specs.declared.class.Method.{Method}
use Rattle.class_reader.specs.Flags.{is_private, is_static, is_abstract}
use Rattle.world.specs.declared.member.MemberId.{MemberId}
use Rattle.world.specs.declared.access.MethodKind.{MethodKind}
use Rattle.world.specs.declared.access.MethodKind.TheVariants as kinds
use Rattle.world.specs.declared.fault.ResolveFault.TheVariants.{MissingMember}
use Rattle.world.specs.declared.standing.Spread.{Spread}
use Rattle.world.specs.declared.standing.Spread.TheVariants.{Empty, One, Several}
use Rattle.world.specs.declared.standing.Among.{Among}
use Rattle.world.specs.declared.standing.Chain.{Chain}
use Rattle.world.specs.declared.standing.Standing.{Standing}
use Rattle.world.specs.Access.{has_kind}
use Rattle.class_hierarchy.specs.World.{World, class_at, superclass, interfaces, line, above, superinterfaces, ancestors}
use Rattle.class_hierarchy.specs.Building.{supers, IsWellBuilt}
use Rattle.class_hierarchy.specs.Orders.{IsSupersFirst}
use Rattle.world.specs.Resolution.{first_of, member, is_method, of_kind, method_in, alone}
use Rattle.world.specs.Selection.{method_of, package_of, same_package, meets_package, only_default, inherited, is_package_override}
use Rattle.world.specs.Standings.{Passes, IsSpread, own, joined, is_several, declares, IsAmong, joined_among, IsChain, joined_chain, blank, standing_at, Stands, HasSupersStand, AreStandings, default_by}
use Rattle.class_hierarchy.proofs.First.{flat_next}
use Rattle.class_hierarchy.proofs.WellBuilt.{line_whole, line_on, above_whole, interface_step}

-- ---- classes that pass

passes_left : (p : ℕ → Bool) (xs ys : List ℕ) (d : ℕ) → Passes p xs d → Passes p (xs ++ ys) d
passes_left p xs ys d h = (any_left (nat_eq d) xs ys h.0, h.1)

passes_right : (p : ℕ → Bool) (xs ys : List ℕ) (d : ℕ) → Passes p ys d → Passes p (xs ++ ys) d
passes_right p xs ys d h = (any_right (nat_eq d) xs ys h.0, h.1)

passes_either : (p : ℕ → Bool) (xs ys : List ℕ) (d : ℕ) → Passes p (xs ++ ys) d → Passes p xs d ⊎ Passes p ys d
passes_either p xs ys d h = elim (any_either (nat_eq d) xs ys h.0) [ inl left ↦ inl (left, h.1) | inr right ↦ inr (right, h.1) ]

-- likeness of classes
pub record IsLikeness (alike : ℕ → ℕ → Bool) : Type 0 where
  pub itself : (d : ℕ) → alike d d ≡ true
  pub back : (d e : ℕ) → alike d e ≡ true → alike e d ≡ true
  pub on : (d e f : ℕ) → alike d e ≡ true → alike e f ≡ true → alike d f ≡ true

pub same_class : IsLikeness nat_eq
same_class = record {
  itself = λ d. eq-eqb d d refl;
  back = λ d e h. eq-eqb e d (sym (eqb-true d e h));
  on = λ d e f h k. eq-eqb d f (eqb-true d e h ∙ eqb-true e f k);
}

pub same_packages : (w : World) → IsLikeness (same_package w)
same_packages w = record {
  itself = λ d. (bytes_eq-Decides (package_of (class_at w d).name) (package_of (class_at w d).name)).1 refl;
  back = λ d e h. (bytes_eq-Decides (package_of (class_at w e).name) (package_of (class_at w d).name)).1 (sym ((bytes_eq-Decides (package_of (class_at w d).name) (package_of (class_at w e).name)).0 h));
  on = λ d e f h k. (bytes_eq-Decides (package_of (class_at w d).name) (package_of (class_at w f).name)).1 ((bytes_eq-Decides (package_of (class_at w d).name) (package_of (class_at w e).name)).0 h ∙ (bytes_eq-Decides (package_of (class_at w e).name) (package_of (class_at w f).name)).0 k);
}

-- ---- of two lists

left_alone : (p : ℕ → Bool) (alike : ℕ → ℕ → Bool) (xs ys : List ℕ) (d : ℕ) → IsSpread p alike xs (One d) → IsSpread p alike ys Empty → IsSpread p alike (xs ++ ys) (One d)
left_alone p alike xs ys d h none = (passes_left p xs ys d h.0, λ e k. elim (passes_either p xs ys e k) [ inl left ↦ h.1 e left | inr right ↦ absurd (none e right) ])

right_alone : (p : ℕ → Bool) (alike : ℕ → ℕ → Bool) (xs ys : List ℕ) (b : Spread) → IsSpread p alike xs Empty → IsSpread p alike ys b → IsSpread p alike (xs ++ ys) b
right_alone p alike xs ys Empty none k = λ d h. elim (passes_either p xs ys d h) [ inl left ↦ none d left | inr right ↦ k d right ]
right_alone p alike xs ys (One d) none k = (passes_right p xs ys d k.0, λ e h. elim (passes_either p xs ys e h) [ inl left ↦ absurd (none e left) | inr right ↦ k.1 e right ])
right_alone p alike xs ys Several none k = (k.0, k.1, passes_right p xs ys k.0 k.2, passes_right p xs ys k.1 k.3, k.4)

two_ones : (p : ℕ → Bool) (alike : ℕ → ℕ → Bool) (xs ys : List ℕ) (d e : ℕ) (b : Bool) → IsLikeness alike → alike d e ≡ b → IsSpread p alike xs (One d) → IsSpread p alike ys (One e) → IsSpread p alike (xs ++ ys) (if b then One d else Several)
two_ones p alike xs ys d e true like same h k = (passes_left p xs ys d h.0, λ f g. elim (passes_either p xs ys f g) [ inl left ↦ h.1 f left | inr right ↦ like.on d e f same (k.1 f right) ])
two_ones p alike xs ys d e false like apart h k = (d, e, passes_left p xs ys d h.0, passes_right p xs ys e k.0, apart)

spread_joined : (p : ℕ → Bool) (alike : ℕ → ℕ → Bool) (xs ys : List ℕ) (a b : Spread) → IsLikeness alike → IsSpread p alike xs a → IsSpread p alike ys b → IsSpread p alike (xs ++ ys) (joined alike a b)
spread_joined p alike xs ys Empty b like h k = right_alone p alike xs ys b h k
spread_joined p alike xs ys Several b like h k = (h.0, h.1, passes_left p xs ys h.0 h.2, passes_left p xs ys h.1 h.3, h.4)
spread_joined p alike xs ys (One d) Empty like h k = left_alone p alike xs ys d h k
spread_joined p alike xs ys (One d) (One e) like h k = two_ones p alike xs ys d e (alike d e) like refl h k
spread_joined p alike xs ys (One d) Several like h k = (k.0, k.1, passes_right p xs ys k.0 k.2, passes_right p xs ys k.1 k.3, k.4)

pub among_joined : (w : World) (c : ℕ) (m : MemberId) (xs ys : List ℕ) (a b : Among) → IsAmong w c m xs a → IsAmong w c m ys b → IsAmong w c m (xs ++ ys) (joined_among a b)
among_joined w c m xs ys a b h k = record {
  named = ap (λ t. t || b.is_named) h.named ∙ ap (λ t. list_any (nat_eq c) xs || t) k.named ∙ sym (list_any-append (nat_eq c) xs ys);
  declaring = ap (λ t. t || b.is_declaring) h.declaring ∙ ap (λ t. list_any (nat_eq m.class) xs || t) k.declaring ∙ sym (list_any-append (nat_eq m.class) xs ys);
  defaults = spread_joined (declares w m kinds.Default) nat_eq xs ys a.defaults b.defaults same_class h.defaults k.defaults;
}

first_append : {A : Type 0} (f : ℕ → Option A) (xs ys : List ℕ) → first_of f (xs ++ ys) ≡ option_or (first_of f xs) (first_of f ys)
first_append f [] ys = refl
first_append f (x ∷ xs) ys = ap (λ o. option_or (f x) o) (first_append f xs ys) ∙ or_assoc (f x) (first_of f xs) (first_of f ys)

pub chain_joined : (w : World) (m : MemberId) (xs ys : List ℕ) (a b : Chain) → IsChain w m xs a → IsChain w m ys b → IsChain w m (xs ++ ys) (joined_chain w a b)
chain_joined w m xs ys a b h k =
    let f = method_in w (method_of w m).name (method_of w m).desc kinds.Inherited in
    record {
      inherited = ap (λ o. option_or o b.inherited) h.inherited ∙ ap (λ o. option_or (first_of f xs) o) k.inherited ∙ sym (first_append f xs ys);
      packaged = ap (λ t. t || b.is_packaged) h.packaged ∙ ap (λ t. list_any (declares w m kinds.Package) xs || t) k.packaged ∙ sym (list_any-append (declares w m kinds.Package) xs ys);
      packages = spread_joined (declares w m kinds.Any) (same_package w) xs ys a.packages b.packages (same_packages w) h.packages k.packages;
    }

-- ---- a class alone

spread_own : (p : ℕ → Bool) (alike : ℕ → ℕ → Bool) (r : ℕ) (b : Bool) → IsLikeness alike → p r ≡ b → IsSpread p alike (r ∷ []) (own b r)
spread_own p alike r true like e = (
  (head_listed r [], e),
  λ d h. subst (λ x. alike r x ≡ true) (sym (one_listed d r h.0)) (like.itself r),
)
spread_own p alike r false like e = λ d h. true≢false (sym h.1 ∙ ap p (one_listed d r h.0) ∙ e)

or_last : (b : Bool) → b ≡ (b || false)
or_last true = refl
or_last false = refl

pub among_own : (w : World) (c : ℕ) (m : MemberId) (r : ℕ) (named declaring : Bool) (defaults : Spread) → named ≡ nat_eq c r → declaring ≡ nat_eq m.class r → defaults ≡ own (declares w m kinds.Default r) r → IsAmong w c m (r ∷ []) (record { is_named = named; is_declaring = declaring; defaults = defaults })
among_own w c m r named declaring defaults e f g = record {
  named = e ∙ or_last (nat_eq c r);
  declaring = f ∙ or_last (nat_eq m.class r);
  defaults = rw g (spread_own (declares w m kinds.Default) nat_eq r (declares w m kinds.Default r) same_class refl);
}

pub chain_own : (w : World) (m : MemberId) (r : ℕ) (first : Option MemberId) (packaged : Bool) (packages : Spread) → first ≡ method_in w (method_of w m).name (method_of w m).desc kinds.Inherited r → packaged ≡ declares w m kinds.Package r → packages ≡ own (declares w m kinds.Any r) r → IsChain w m (r ∷ []) (record { inherited = first; is_packaged = packaged; packages = packages })
chain_own w m r first packaged packages e f g = record {
  inherited = e ∙ sym (or_nothing (method_in w (method_of w m).name (method_of w m).desc kinds.Inherited r));
  packaged = f ∙ or_last (declares w m kinds.Package r);
  packages = rw g (spread_own (declares w m kinds.Any) (same_package w) r (declares w m kinds.Any r) (same_packages w) refl);
}

-- ---- a class and what it names

abbrev pub with_above : World → ℕ → List ℕ
with_above w i = i ∷ above w i

-- of the i-th interface that the class names
pub interface_stands : (w : World) (c : ℕ) (m : MemberId) (r : ℕ) (xs : List ℕ) (i : ℕ) (standings : List Standing) → xs ≡ interfaces w r → i < length xs → HasSupersStand w c m standings r → Stands w c m (get_or xs i 0) (standing_at standings (get_or xs i 0))
interface_stands w c m r xs i standings e lt h =
    h (get_or xs i 0) (interface_step w r (get_or xs i 0) (subst (λ l. list_any (nat_eq (get_or xs i 0)) l ≡ true) e (place_listed xs i 0 lt)))

-- of the superclass
pub super_stands : (w : World) (c : ℕ) (m : MemberId) (r s : ℕ) (standings : List Standing) → superclass w r ≡ Some s → HasSupersStand w c m standings r → Stands w c m s (standing_at standings s)
unfolding supers
super_stands w c m r s standings e h = h s (any_left (nat_eq s) (option_to_list (superclass w r)) (interfaces w r) (rw (e, eq-eqb s s refl) refl))

pub near_next : (w : World) (c : ℕ) (m : MemberId) (r : ℕ) (xs : List ℕ) (i : ℕ) (near : Among) (up : Standing) → i < length xs → IsAmong w c m (r ∷ flat_map (with_above w) (take i xs)) near → Stands w c m (get_or xs i 0) up → IsAmong w c m (r ∷ flat_map (with_above w) (take (i + 1) xs)) (joined_among near up.near)
near_next w c m r xs i near up lt h k =
    subst (λ l. IsAmong w c m (r ∷ l) (joined_among near up.near)) (sym (flat_next (with_above w) xs i lt))
    (among_joined w c m (r ∷ flat_map (with_above w) (take i xs)) (with_above w (get_or xs i 0)) near up.near h k.near)

pub near_end : (w : World) (c : ℕ) (m : MemberId) (r : ℕ) (xs : List ℕ) (i : ℕ) (near : Among) → IsWellBuilt w → xs ≡ interfaces w r → length xs ≤ i → IsAmong w c m (r ∷ flat_map (with_above w) (take i xs)) near → IsAmong w c m (r ∷ above w r) near
near_end w c m r xs i near built e le h =
    subst (λ l. IsAmong w c m (r ∷ l) near) (ap (λ l. flat_map (with_above w) l) (take_all i xs le ∙ e) ∙ sym (above_whole w built r)) h

line_some : (w : World) (r s : ℕ) → IsWellBuilt w → r < length w → superclass w r ≡ Some s → line w r ≡ r ∷ line w s
line_some w r s built lt e = line_whole w built r lt ∙ ap (λ o. r ∷ line_on w o) e

line_none : (w : World) (r : ℕ) → IsWellBuilt w → r < length w → superclass w r ≡ None → line w r ≡ r ∷ []
line_none w r built lt e = line_whole w built r lt ∙ ap (λ o. r ∷ line_on w o) e

ancestors_by : (w : World) (r : ℕ) (rest : List ℕ) → line w r ≡ r ∷ rest → ancestors w r ≡ (r ∷ above w r) ++ flat_map (with_above w) rest
unfolding ancestors
ancestors_by w r rest e = ap (λ l. flat_map (with_above w) l) e

ancestors_are : (w : World) (s : ℕ) → ancestors w s ≡ flat_map (with_above w) (line w s)
unfolding ancestors
ancestors_are w s = refl

pub stands_some : (w : World) (c : ℕ) (m : MemberId) (r s : ℕ) (near : Among) (chain : Chain) (up : Standing) → IsWellBuilt w → r < length w → superclass w r ≡ Some s → IsAmong w c m (r ∷ above w r) near → IsChain w m (r ∷ []) chain → Stands w c m s up → Stands w c m r (record { near = near; all = joined_among near up.all; chain = joined_chain w chain up.chain })
stands_some w c m r s near chain up built lt e h k u =
    let on = line_some w r s built lt e in
    record {
      near = h;
      all = subst (λ l. IsAmong w c m l (joined_among near up.all)) (ap (λ l. (r ∷ above w r) ++ l) (ancestors_are w s) ∙ sym (ancestors_by w r (line w s) on)) (among_joined w c m (r ∷ above w r) (ancestors w s) near up.all h u.all);
      chain = subst (λ l. IsChain w m l (joined_chain w chain up.chain)) (sym on) (chain_joined w m (r ∷ []) (line w s) chain up.chain k u.chain);
    }

pub stands_none : (w : World) (c : ℕ) (m : MemberId) (r : ℕ) (near : Among) (chain : Chain) → IsWellBuilt w → r < length w → superclass w r ≡ None → IsAmong w c m (r ∷ above w r) near → IsChain w m (r ∷ []) chain → Stands w c m r (record { near = near; all = near; chain = chain })
stands_none w c m r near chain built lt e h k =
    let on = line_none w r built lt e in
    record {
      near = h;
      all = subst (λ l. IsAmong w c m l near) (sym (append-nil (r ∷ above w r)) ∙ sym (ancestors_by w r [] on)) h;
      chain = subst (λ l. IsChain w m l chain) (sym on) k;
    }

-- ---- all classes in their order

-- it holds of the first n of the order
pub record StandUpTo (w : World) (c : ℕ) (m : MemberId) (order : List ℕ) (n : ℕ) (standings : List Standing) : Type 0 where
  pub count : length standings ≡ length w
  pub done : (d : ℕ) → list_any (nat_eq d) (take n order) ≡ true → Stands w c m d (standing_at standings d)

pub stand_start : (w : World) (c : ℕ) (m : MemberId) (order : List ℕ) (standings : List Standing) → length standings ≡ length w → StandUpTo w c m order 0 standings
stand_start w c m order standings e = record { count = e; done = λ d h. absurd cc }

pub supers_stand : (w : World) (c : ℕ) (m : MemberId) (order : List ℕ) (i : ℕ) (standings : List Standing) → IsSupersFirst w order → i < length order → StandUpTo w c m order i standings → HasSupersStand w c m standings (get_or order i 0)
supers_stand w c m order i standings first lt h = λ d e. h.done d (first.supers_first i d lt e)

stand_at : (w : World) (c : ℕ) (m : MemberId) (standings : List Standing) (r d : ℕ) (standing : Standing) → r < length standings → Stands w c m r standing → (d ≡ r) ⊎ Stands w c m d (standing_at standings d) → Stands w c m d (standing_at (set standings r standing) d)
stand_at w c m standings r d standing lt now old = elim (cases_eq d r) [
  | inl here ↦ rw (here, get_or-set_same standings r standing blank lt) now
  | inr other ↦ elim old [ inl here ↦ absurd (other here) | inr kept ↦ rw (get_or-set_other standings r d standing blank other) kept ]
]

pub stand_next : (w : World) (c : ℕ) (m : MemberId) (order : List ℕ) (i : ℕ) (standings : List Standing) (standing : Standing) → IsSupersFirst w order → i < length order → StandUpTo w c m order i standings → Stands w c m (get_or order i 0) standing → StandUpTo w c m order (i + 1) (set standings (get_or order i 0) standing)
stand_next w c m order i standings standing first lt h now =
    let r = get_or order i 0 in
    let more : take (i + 1) order ≡ take i order ++ get_or order i 0 ∷ [] = take_more order i 0 lt in
    record {
      count = length-set standings (get_or order i 0) standing ∙ h.count;
      done = λ d e. stand_at w c m standings (get_or order i 0) d standing (rw h.count (first.within i lt)) now
          (elim (any_either (nat_eq d) (take i order) (get_or order i 0 ∷ []) (subst (λ l. list_any (nat_eq d) l ≡ true) more e)) [
            | inl before ↦ inr (h.done d before)
            | inr last ↦ inl (one_listed d (get_or order i 0) last)
          ]);
    }

pub stand_end : (w : World) (c : ℕ) (m : MemberId) (order : List ℕ) (n : ℕ) (standings : List Standing) → IsSupersFirst w order → length order ≤ n → StandUpTo w c m order n standings → AreStandings w c m standings
stand_end w c m order n standings first le h = record {
  count = h.count;
  each = λ r lt. h.done r (subst (λ l. list_any (nat_eq r) l ≡ true) (sym (take_all n order le)) (first.all r lt));
}

-- ---- what passes

passing : (p : ℕ → Bool) (xs : List ℕ) (d : ℕ) → Passes p xs d → list_any p xs ≡ true
passing p xs d h = any_in p xs d (listed_contains d xs h.0) h.1

passer : (p : ℕ → Bool) (xs : List ℕ) → list_any p xs ≡ true → (d : ℕ) × Passes p xs d
passer p xs h = let at = any_has p xs h in (at.0, (contains_listed at.0 xs at.1, at.2))

found : (p : ℕ → Bool) (xs : List ℕ) (d : ℕ) → find p xs ≡ Some d → Passes p xs d
found p xs d e = let at = find_some p xs d e in (contains_listed d xs at.0, at.1)

and_not : (a b : Bool) → a ≡ true → b ≡ false → (a && not b) ≡ true
and_not a b e f = rw (e, f) refl

-- one of two that aren't alike isn't like a third
not_both : (alike : ℕ → ℕ → Bool) (x d e : ℕ) (a b : Bool) → IsLikeness alike → alike d e ≡ false → alike x d ≡ a → alike x e ≡ b → (alike x d ≡ false) ⊎ (alike x e ≡ false)
not_both alike x d e false b like apart f g = inl f
not_both alike x d e true false like apart f g = inr g
not_both alike x d e true true like apart f g = absurd (true≢false (sym (like.on d x e (like.back x d f) g) ∙ apart))

apart_one : (alike : ℕ → ℕ → Bool) (x d e : ℕ) → IsLikeness alike → alike d e ≡ false → (alike x d ≡ false) ⊎ (alike x e ≡ false)
apart_one alike x d e like apart = not_both alike x d e (alike x d) (alike x e) like apart refl refl

-- one of two that pass and aren't alike isn't like a third
pub has_other : (p : ℕ → Bool) (alike : ℕ → ℕ → Bool) (xs : List ℕ) (x : ℕ) → IsLikeness alike → IsSpread p alike xs Several → list_any (λ y. p y && not (alike x y)) xs ≡ true
has_other p alike xs x like h = elim (apart_one alike x h.0 h.1 like h.4) [
  | inl other ↦ passing (λ y. p y && not (alike x y)) xs h.0 (h.2.0, and_not (p h.0) (alike x h.0) h.2.1 other)
  | inr other ↦ passing (λ y. p y && not (alike x y)) xs h.1 (h.3.0, and_not (p h.1) (alike x h.1) h.3.1 other)
]

-- ---- the only default method

no_other : (p : ℕ → Bool) (xs : List ℕ) (x d : ℕ) → d ≡ x → IsSpread p nat_eq xs (One d) → list_any (λ y. p y && not (nat_eq x y)) xs ≡ false
no_other p xs x d same h = false_from_ne_true (list_any (λ y. p y && not (nat_eq x y)) xs) (λ t.
    let k = passer (λ y. p y && not (nat_eq x y)) xs t in
    let parts = and_parts (p k.0) (not (nat_eq x k.0)) k.1.1 in
    let alike : nat_eq x k.0 ≡ true = subst (λ y. nat_eq y k.0 ≡ true) same (h.1 k.0 (k.1.0, parts.0)) in
    true≢false (sym alike ∙ not-true (nat_eq x k.0) parts.1))

only_at : (p : ℕ → Bool) (xs : List ℕ) (answer : ℕ → Option MemberId) (s : Spread) (o : Option ℕ) → find p xs ≡ o → IsSpread p nat_eq xs s → alone p xs answer (Err MissingMember) o ≡ default_by s answer
only_at p xs answer Empty None e h = refl
only_at p xs answer Empty (Some x) e h = absurd (h x (found p xs x e))
only_at p xs answer (One d) None e h = absurd (true≢false (sym (passing p xs d h.0) ∙ find_none p xs e))
only_at p xs answer (One d) (Some x) e h =
    let same : d ≡ x = eqb-true d x (h.1 x (found p xs x e)) in
    rw (no_other p xs x d same h) (ap (λ y. ok_or (answer y) MissingMember) (sym same))
only_at p xs answer Several None e h = absurd (true≢false (sym (passing p xs h.0 h.2) ∙ find_none p xs e))
only_at p xs answer Several (Some x) e h = rw (has_other p nat_eq xs x same_class h) refl

spread_moved : (p : ℕ → Bool) (alike : ℕ → ℕ → Bool) (xs ys : List ℕ) → ((d : ℕ) → Passes p xs d → Passes p ys d) → ((d : ℕ) → Passes p ys d → Passes p xs d) → (s : Spread) → IsSpread p alike xs s → IsSpread p alike ys s
spread_moved p alike xs ys into back Empty h = λ d k. h d (back d k)
spread_moved p alike xs ys into back (One d) h = (into d h.0, λ e k. h.1 e (back e k))
spread_moved p alike xs ys into back Several h = (h.0, h.1, into h.0 h.2, into h.1 h.3, h.4)

in_more : (f : ℕ → List ℕ) (xs : List ℕ) (d : ℕ) → list_any (nat_eq d) (flat_map f xs) ≡ true → list_any (nat_eq d) (flat_map (λ x. x ∷ f x) xs) ≡ true
in_more f xs d h = let p = listed_flat d f xs h in flat_listed d (λ x. x ∷ f x) xs p.0 p.1 (tail_listed d p.0 (f p.0) p.2)

in_less : (f : ℕ → List ℕ) (xs : List ℕ) (d : ℕ) → list_any (nat_eq d) (flat_map (λ x. x ∷ f x) xs) ≡ true → (list_any (nat_eq d) xs ≡ true) ⊎ (list_any (nat_eq d) (flat_map f xs) ≡ true)
in_less f xs d h =
    let p = listed_flat d (λ x. x ∷ f x) xs h in
    elim (or_cases (nat_eq d p.0) (list_any (nat_eq d) (f p.0)) p.2) [
      | inl here ↦ inl (subst (λ x. list_any (nat_eq x) xs ≡ true) (sym (eqb-true d p.0 here)) p.1)
      | inr above ↦ inr (flat_listed d f xs p.0 p.1 above)
    ]

none_each : {A : Type 0} (f : ℕ → Option A) (xs : List ℕ) (d : ℕ) → first_of f xs ≡ None → list_any (nat_eq d) xs ≡ true → f d ≡ None
none_each f [] d e h = absurd cc
none_each f (x ∷ xs) d e h =
    let parts = or_none (f x) (first_of f xs) e in
    elim (or_cases (nat_eq d x) (list_any (nat_eq d) xs) h) [
      | inl here ↦ ap f (eqb-true d x here) ∙ parts.0
      | inr later ↦ none_each f xs d parts.1 later
    ]

-- ---- kinds

to_test : (c place : ℕ) (b : Bool) → is_some (option_map (member c) (if b then Some place else None)) ≡ true → b ≡ true
to_test c place true h = refl
to_test c place false h = h

from_test : (c place : ℕ) (b : Bool) → b ≡ true → is_some (option_map (member c) (if b then Some place else None)) ≡ true
from_test c place true h = refl
from_test c place false h = h

at_kind : (k l : MethodKind) (c place : ℕ) (o : Option Method) → ((flags : ℕ) → has_kind k flags ≡ true → has_kind l flags ≡ true) → is_some (option_map (member c) (if option_map_or (λ (method : Method). has_kind k method.flags) o false then Some place else None)) ≡ true → is_some (option_map (member c) (if option_map_or (λ (method : Method). has_kind l method.flags) o false then Some place else None)) ≡ true
at_kind k l c place None sub h = h
at_kind k l c place (Some method) sub h = from_test c place (has_kind l method.flags) (sub method.flags (to_test c place (has_kind k method.flags) h))

some_kind : (k l : MethodKind) (c : ℕ) (methods : List Method) (o : Option ℕ) → ((flags : ℕ) → has_kind k flags ≡ true → has_kind l flags ≡ true) → is_some (option_map (member c) (option_and_then (of_kind k methods) o)) ≡ true → is_some (option_map (member c) (option_and_then (of_kind l methods) o)) ≡ true
some_kind k l c methods None sub h = h
some_kind k l c methods (Some place) sub h = at_kind k l c place (slice_get methods place) sub h

declares_more : (w : World) (m : MemberId) (k l : MethodKind) (d : ℕ) → ((flags : ℕ) → has_kind k flags ≡ true → has_kind l flags ≡ true) → declares w m k d ≡ true → declares w m l d ≡ true
unfolding method_in
declares_more w m k l d sub h = some_kind k l d (class_at w d).methods (position (is_method (method_of w m).name (method_of w m).desc) (class_at w d).methods) sub h

package_any : (w : World) (m : MemberId) (d : ℕ) → declares w m kinds.Package d ≡ true → declares w m kinds.Any d ≡ true
package_any w m d h = declares_more w m kinds.Package kinds.Any d (λ flags k. refl) h

fewer : (a b c : Bool) → not (a || b || c) ≡ true → not (b || c) ≡ true
fewer true b c h = absurd cc
fewer false b c h = h

default_inherited : (w : World) (m : MemberId) (d : ℕ) → declares w m kinds.Default d ≡ true → declares w m kinds.Inherited d ≡ true
default_inherited w m d h = declares_more w m kinds.Default kinds.Inherited d (λ flags k. fewer (is_abstract flags) (is_private flags) (is_static flags) k) h

-- ---- what is inherited

none_default : (w : World) (m : MemberId) (xs : List ℕ) (d : ℕ) → first_of (method_in w (method_of w m).name (method_of w m).desc kinds.Inherited) xs ≡ None → list_any (nat_eq d) xs ≡ true → declares w m kinds.Default d ≡ true → ⊥
none_default w m xs d none there h =
    let nothing : declares w m kinds.Inherited d ≡ false = ap (λ (o : Option MemberId). is_some o) (none_each (method_in w (method_of w m).name (method_of w m).desc kinds.Inherited) xs d none there) in
    true≢false (sym (default_inherited w m d h) ∙ nothing)

-- where no class of the line has an inherited method, those with a default method are superinterfaces
defaults_above : (w : World) (m : MemberId) (r : ℕ) (s : Spread) → first_of (method_in w (method_of w m).name (method_of w m).desc kinds.Inherited) (line w r) ≡ None → IsSpread (declares w m kinds.Default) nat_eq (ancestors w r) s → IsSpread (declares w m kinds.Default) nat_eq (superinterfaces w r) s
unfolding ancestors superinterfaces
defaults_above w m r s none h =
    spread_moved (declares w m kinds.Default) nat_eq (flat_map (λ d. d ∷ above w d) (line w r)) (flat_map (above w) (line w r))
    (λ d k. (elim (in_less (above w) (line w r) d k.0) [ inl there ↦ absurd (none_default w m (line w r) d none there k.1) | inr there ↦ there ], k.1))
    (λ d k. (in_more (above w) (line w r) d k.0, k.1))
    s h

pub inherited_some : (w : World) (c : ℕ) (m : MemberId) (r : ℕ) (standing : Standing) (first : MemberId) → Stands w c m r standing → standing.chain.inherited ≡ Some first → Ok first ≡ inherited w (method_of w m).name (method_of w m).desc r
unfolding inherited
inherited_some w c m r standing first h e =
    let there : first_of (method_in w (method_of w m).name (method_of w m).desc kinds.Inherited) (line w r) ≡ Some first = sym h.chain.inherited ∙ e in
    rw there refl

pub inherited_none : (w : World) (c : ℕ) (m : MemberId) (r : ℕ) (standing : Standing) → Stands w c m r standing → standing.chain.inherited ≡ None → default_by standing.all.defaults (method_in w (method_of w m).name (method_of w m).desc kinds.Default) ≡ inherited w (method_of w m).name (method_of w m).desc r
unfolding inherited only_default
inherited_none w c m r standing h e =
    let none : first_of (method_in w (method_of w m).name (method_of w m).desc kinds.Inherited) (line w r) ≡ None = sym h.chain.inherited ∙ e in
    rw none (sym (only_at (declares w m kinds.Default) (superinterfaces w r) (method_in w (method_of w m).name (method_of w m).desc kinds.Default) standing.all.defaults (find (declares w m kinds.Default) (superinterfaces w r)) refl (defaults_above w m r standing.all.defaults none h.all.defaults)))

-- ---- packages

and_none : (b : Bool) → false ≡ (b && false)
and_none true = refl
and_none false = refl

and_all : (b : Bool) → b ≡ (b && true)
and_all true = refl
and_all false = refl

iff_same : (a b : Bool) → (a ≡ true → b ≡ true) → (b ≡ true → a ≡ true) → a ≡ b
iff_same true true f g = refl
iff_same true false f g = sym (f refl)
iff_same false true f g = g refl
iff_same false false f g = refl

-- one that passes the first test isn't like one that passes the second
abbrev clash : (ℕ → Bool) → (ℕ → Bool) → (ℕ → ℕ → Bool) → List ℕ → Bool
clash p q alike xs = list_any (λ d. p d && list_any (λ e. q e && not (alike d e)) xs) xs

two_of : (p q : ℕ → Bool) (alike : ℕ → ℕ → Bool) (xs : List ℕ) → clash p q alike xs ≡ true → (d : ℕ) × (e : ℕ) × Passes p xs d × Passes q xs e × (alike d e ≡ false)
two_of p q alike xs t =
    let k = passer (λ d. p d && list_any (λ e. q e && not (alike d e)) xs) xs t in
    let parts = and_parts (p k.0) (list_any (λ e. q e && not (alike k.0 e)) xs) k.1.1 in
    let j = passer (λ e. q e && not (alike k.0 e)) xs parts.1 in
    let rest = and_parts (q j.0) (not (alike k.0 j.0)) j.1.1 in
    (k.0, j.0, (k.1.0, parts.0), (j.1.0, rest.0), not-true (alike k.0 j.0) rest.1)

clash_by : (p q : ℕ → Bool) (alike : ℕ → ℕ → Bool) (xs : List ℕ) (s : Spread) → IsLikeness alike → ((d : ℕ) → p d ≡ true → q d ≡ true) → IsSpread q alike xs s → clash p q alike xs ≡ (list_any p xs && is_several s)
clash_by p q alike xs Empty like sub h =
    false_from_ne_true (clash p q alike xs) (λ t. let two = two_of p q alike xs t in h two.1 two.3) ∙ and_none (list_any p xs)
clash_by p q alike xs (One d) like sub h =
    false_from_ne_true (clash p q alike xs) (λ t.
    let two = two_of p q alike xs t in
    let same = like.on two.0 d two.1 (like.back d two.0 (h.1 two.0 (two.2.0, sub two.0 two.2.1))) (h.1 two.1 two.3) in
    true≢false (sym same ∙ two.4))
    ∙ and_none (list_any p xs)
clash_by p q alike xs Several like sub h =
    iff_same (clash p q alike xs) (list_any p xs)
    (λ t. let two = two_of p q alike xs t in passing p xs two.0 two.2)
    (λ t.
    let k = passer p xs t in
    passing (λ d. p d && list_any (λ e. q e && not (alike d e)) xs) xs k.0 (k.1.0, rw (k.1.1, has_other q alike xs k.0 like h) refl))
    ∙ and_all (list_any p xs)

meets_by : (w : World) (m : MemberId) (xs : List ℕ) (chain : Chain) → IsChain w m xs chain → meets_package w (method_of w m).name (method_of w m).desc xs ≡ (chain.is_packaged && is_several chain.packages)
unfolding meets_package
meets_by w m xs chain h =
    clash_by (declares w m kinds.Package) (declares w m kinds.Any) (same_package w) xs chain.packages (same_packages w) (package_any w m) h.packages
    ∙ ap (λ b. b && is_several chain.packages) (sym h.packaged)

-- the methods of the line meet across packages
pub override_by : (w : World) (c : ℕ) (m : MemberId) (r : ℕ) (standing : Standing) → Stands w c m r standing → is_private (method_of w m).flags ≡ false → (standing.chain.is_packaged && is_several standing.chain.packages) ≡ is_package_override w r (method_of w m)
override_by w c m r standing h open_to_all = rw open_to_all (sym (meets_by w m (line w r) standing.chain h.chain))
