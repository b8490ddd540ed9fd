-- The first answer among classes.
use Rattle.std.proofs.Common.{◌≡◌, ℕ, ◌+◌, ◌<◌, ◌≤◌, Bool, ◌&&◌, not, if◌then◌else◌, List, [], ◌∷◌, length, drop, get_or, Option, Some, None, arith, cond, refl, sym, ap, subst, ◌∙◌, nat_eq, add-one, drop-cons, is_some}
use Rattle.std.specs.Prelude.{find, Result, Ok, Err}
use Rattle.std.specs.Option.{option_or, option_and_then, ok_or}
use Rattle.std.specs.List.{list_any}
use Rattle.std.proofs.lemmas.Grind.{common_steps}
use Rattle.common_laws.proofs.Tests.{any_each, find_each}
use Rattle.world.specs.declared.member.MemberId.{MemberId}
use Rattle.world.specs.declared.fault.ResolveFault.{ResolveFault}
use Rattle.world.specs.declared.fault.ResolveFault.TheVariants.{MissingMember, Ambiguous}
use Rattle.world.specs.declared.access.MethodKind.TheVariants as kinds
use Rattle.class_hierarchy.specs.World.{World, line, above, superinterfaces, ancestors}
use Rattle.world.specs.Resolution.{first_of, method_in, has_default, is_most_specific, alone, only, interface_method, field_in, field_from, method_from}
use Rattle.class_hierarchy.specs.Tables.{SameFirst}
use Rattle.class_hierarchy.proofs.First.{any_same}
use Rattle.world.specs.Tables.{Tells}

-- ---- loops

first_at : {A : Type 0} (f : ℕ → Option A) (xs : List ℕ) (i : ℕ) → i < length xs → first_of f (drop i xs) ≡ option_or (f (get_or xs i 0)) (first_of f (drop (i + 1) xs))
first_at f xs i h = rw (add-one, drop-cons xs i 0) refl

pub first_here : {A : Type 0} (f : ℕ → Option A) (xs : List ℕ) (i : ℕ) (x : A) (r : Option A) → i < length xs → r ≡ first_of f (drop i xs) → f (get_or xs i 0) ≡ Some x → r ≡ Some x
first_here f xs i x r h e g = e ∙ first_at f xs i h ∙ ap (λ o. option_or o (first_of f (drop (i + 1) xs))) g

pub first_later : {A : Type 0} (f : ℕ → Option A) (xs : List ℕ) (i : ℕ) (r : Option A) → i < length xs → r ≡ first_of f (drop i xs) → f (get_or xs i 0) ≡ None → r ≡ first_of f (drop (i + 1) xs)
first_later f xs i r h e g = e ∙ first_at f xs i h ∙ ap (λ o. option_or o (first_of f (drop (i + 1) xs))) g

pub first_end : {A : Type 0} (f : ℕ → Option A) (xs : List ℕ) (i : ℕ) (r : Option A) → length xs ≤ i → r ≡ first_of f (drop i xs) → r ≡ None
first_end f xs i r h e = let none : drop i xs ≡ [] = grind (arith, common_steps) in e ∙ ap (λ l. first_of f l) none

-- ---- the same first ones

by_find_head : {A : Type 0} (f : ℕ → Option A) (x : ℕ) (xs : List ℕ) (o : Option A) → f x ≡ o → first_of f xs ≡ option_and_then f (find (λ y. is_some (f y)) xs) → option_or o (first_of f xs) ≡ option_and_then f (cond (is_some o) (Some x) (find (λ y. is_some (f y)) xs))
by_find_head f x xs None e h = h
by_find_head f x xs (Some y) e h = sym e

by_find : {A : Type 0} (f : ℕ → Option A) (xs : List ℕ) → first_of f xs ≡ option_and_then f (find (λ x. is_some (f x)) xs)
by_find f [] = refl
by_find f (x ∷ xs) = by_find_head f x xs (f x) refl (by_find f xs)

pub first_same : {A : Type 0} (f : ℕ → Option A) (xs ys : List ℕ) → SameFirst xs ys → first_of f xs ≡ first_of f ys
first_same f xs ys h = by_find f xs ∙ ap (λ o. option_and_then f o) (h.same (λ x. is_some (f x))) ∙ sym (by_find f ys)

alone_same : (p q : ℕ → Bool) (xs ys : List ℕ) (answer : ℕ → Option MemberId) (otherwise other : Result MemberId ResolveFault) → ((x : ℕ) → p x ≡ q x) → SameFirst xs ys → otherwise ≡ other → (o : Option ℕ) → alone p xs answer otherwise o ≡ alone q ys answer other o
alone_same p q xs ys answer otherwise other each h e None = e
alone_same p q xs ys answer otherwise other each h e (Some d) =
    let others : list_any (λ x. p x && not (nat_eq d x)) xs ≡ list_any (λ x. q x && not (nat_eq d x)) ys =
    any_same (λ x. p x && not (nat_eq d x)) xs ys h
    ∙ any_each (λ x. p x && not (nat_eq d x)) (λ x. q x && not (nat_eq d x)) (λ x. ap (λ b. b && not (nat_eq d x)) (each x)) ys in
    ap (λ b. if b then Err Ambiguous else ok_or (answer d) MissingMember) others

pub only_same : (p q : ℕ → Bool) (xs ys : List ℕ) (answer : ℕ → Option MemberId) (otherwise other : Result MemberId ResolveFault) → ((x : ℕ) → p x ≡ q x) → SameFirst xs ys → otherwise ≡ other → only p xs answer otherwise ≡ only q ys answer other
only_same p q xs ys answer otherwise other each h e =
    ap (λ o. alone p xs answer otherwise o) (h.same p ∙ find_each p q each ys) ∙ alone_same p q xs ys answer otherwise other each h e (find q ys)

pub interface_same : (w : World) (name desc xs ys : List ℕ) → SameFirst xs ys → interface_method w name desc xs ≡ interface_method w name desc ys
unfolding interface_method
interface_same w name desc xs ys h =
    only_same (is_most_specific w name desc xs) (is_most_specific w name desc ys) xs ys (method_in w name desc kinds.Default)
    (ok_or (first_of (method_in w name desc kinds.Inherited) xs) MissingMember)
    (ok_or (first_of (method_in w name desc kinds.Inherited) ys) MissingMember)
    (λ x. ap (λ b. has_default w name desc x && not b) (any_same (λ e. has_default w name desc e && list_any (nat_eq x) (above w e)) xs ys h))
    h
    (ap (λ o. ok_or o MissingMember) (first_same (method_in w name desc kinds.Inherited) xs ys h))

-- ---- what is answered

pub tells_self : {A : Type 0} (r : Result A ResolveFault) → Tells r r
tells_self (Ok x) = refl
tells_self (Err fault) = λ ne. refl

pub tells_as : {A : Type 0} (r s : Result A ResolveFault) → r ≡ s → Tells r s
tells_as r s e = rw (← e) (tells_self r)

pub field_by : (w : World) (name desc : List ℕ) (c : ℕ) (v : List ℕ) (r : Result MemberId ResolveFault) → SameFirst v (ancestors w c) → r ≡ ok_or (first_of (field_in w name desc) v) MissingMember → Tells r (field_from w name desc c)
unfolding field_from
field_by w name desc c v r h e =
    tells_as r (ok_or (first_of (field_in w name desc) (ancestors w c)) MissingMember) (e ∙ ap (λ o. ok_or o MissingMember) (first_same (field_in w name desc) v (ancestors w c) h))

pub method_by : (w : World) (name desc : List ℕ) (c : ℕ) (l v : List ℕ) (r : Result MemberId ResolveFault) → l ≡ line w c → SameFirst v (superinterfaces w c) → None ≡ first_of (method_in w name desc kinds.Any) l → Tells r (interface_method w name desc v) → Tells r (method_from w name desc c)
unfolding method_from
method_by w name desc c l v r e h none i =
    let nothing : first_of (method_in w name desc kinds.Any) (line w c) ≡ None = rw (← e) (sym none) in
    rw nothing (subst (λ (answer : Result MemberId ResolveFault). Tells r answer) (interface_same w name desc v (superinterfaces w c) h) i)

-- ---- by numbers
