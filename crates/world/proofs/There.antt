-- What a name means is there.
use Rattle.std.proofs.Common.{◌≡◌, ℕ, ◌<◌, Bool, true, false, ◌&&◌, not, cond, List, [], ◌∷◌, length, Option, Some, None, refl, sym, ap, subst, ◌∙◌, nat_eq}
use Rattle.std.specs.Prelude.{find, Result, Ok, Err, if◌then◌else◌}
use Rattle.std.specs.Option.{option_or, option_and_then, option_map, ok_or, option_map_or}
use Rattle.std.specs.Prelude.{slice_get}
use Rattle.std.specs.List.{list_any, position}
use Rattle.std.proofs.lemmas.Bool.{eq-eqb}
use Rattle.std.proofs.lemmas.List.Quantifiers.{position-Some}
use Rattle.common_laws.proofs.Numbers.{contains_listed, head_listed, tail_listed}
use Rattle.common_laws.proofs.Tests.{find_some}
use Rattle.class_reader.specs.declared.class.Field.{Field}
use Rattle.class_reader.specs.declared.class.Method.{Method}
use Rattle.world.specs.declared.member.MemberId.{MemberId}
use Rattle.world.specs.declared.access.MethodKind.{MethodKind}
use Rattle.world.specs.declared.access.MethodKind.TheVariants as kinds
use Rattle.world.specs.declared.fault.ResolveFault.{ResolveFault}
use Rattle.world.specs.declared.fault.ResolveFault.TheVariants.{MissingMember, Ambiguous, PackageOverride, AbstractTarget, NotInstance}
use Rattle.world.specs.Access.{has_kind, is_no_target}
use Rattle.class_reader.specs.Flags.{is_private}
use Rattle.class_hierarchy.specs.World.{World, constructor, class_at, line, above, superinterfaces, ancestors, is_below}
use Rattle.world.specs.Resolution.{first_of, member, is_field, field_in, field_from, is_method, of_kind, method_in, alone, only, interface_method, or_interface, method_from, has_default, is_most_specific}
use Rattle.world.specs.Selection.{method_of, only_default, inherited, is_package_override, allowed, chosen, selected_by}
use Rattle.world.specs.Tables.{HasField, HasMethod}
use Rattle.class_hierarchy.proofs.Inside.{AreClasses, more_below, flat_below, above_below, line_inside, superinterfaces_inside}

-- ---- heads of lists

first_head : {A : Type 0} (f : ℕ → Option A) (x : ℕ) (xs : List ℕ) (m : A) (o : Option A) → f x ≡ o → option_or o (first_of f xs) ≡ Some m → (first_of f xs ≡ Some m → (y : ℕ) × (list_any (nat_eq y) xs ≡ true) × (f y ≡ Some m)) → (y : ℕ) × (list_any (nat_eq y) (x ∷ xs) ≡ true) × (f y ≡ Some m)
first_head f x xs m None g e h = let p = h e in (p.0, tail_listed p.0 x xs p.1, p.2)
first_head f x xs m (Some y) g e h = (x, head_listed x xs, g ∙ e)

kind_test : (b : Bool) (place i : ℕ) → (if b then Some place else None) ≡ Some i → i ≡ place
kind_test true place i e = cc
kind_test false place i e = absurd cc

-- ---- the class that answers

first_in : {A : Type 0} (f : ℕ → Option A) (xs : List ℕ) (m : A) → first_of f xs ≡ Some m → (x : ℕ) × (list_any (nat_eq x) xs ≡ true) × (f x ≡ Some m)
first_in f [] m e = absurd cc
first_in f (x ∷ xs) m e = first_head f x xs m (f x) refl e (first_in f xs m)

-- ---- methods

kind_place : (kind : MethodKind) (methods : List Method) (place i : ℕ) → of_kind kind methods place ≡ Some i → i ≡ place
kind_place kind methods place i e = kind_test (option_map_or (λ (method : Method). has_kind kind method.flags) (slice_get methods place) false) place i e

mapped : (c : ℕ) (o : Option ℕ) (m : MemberId) → option_map (member c) o ≡ Some m → (i : ℕ) × (o ≡ Some i) × (member c i ≡ m)
mapped c None m e = absurd cc
mapped c (Some i) m e = (i, refl, cc)

-- a method of the world, and the first in its class of this name and descriptor
abbrev pub IsPlaced : World → List ℕ → List ℕ → MemberId → Type 0
IsPlaced w name desc m = HasMethod w m × (position (is_method name desc) (class_at w m.class).methods ≡ Some m.member)

method_placed : (w : World) (name desc : List ℕ) (kind : MethodKind) (c : ℕ) (m : MemberId) (o : Option ℕ) → position (is_method name desc) (class_at w c).methods ≡ o → c < length w → option_map (member c) (option_and_then (of_kind kind (class_at w c).methods) o) ≡ Some m → IsPlaced w name desc m
method_placed w name desc kind c m None p h e = absurd cc
method_placed w name desc kind c m (Some place) p h e =
    let at = mapped c (of_kind kind (class_at w c).methods place) m e in
    let same : at.0 ≡ place = kind_place kind (class_at w c).methods place at.0 at.1 in
    let within : place < length (class_at w c).methods = (position-Some (is_method name desc) (class_at w c).methods place constructor p).0 in
    rw (← at.2) ((h, rw same within), p ∙ ap Some (sym same))

method_there : (w : World) (name desc : List ℕ) (kind : MethodKind) (c : ℕ) (m : MemberId) → c < length w → method_in w name desc kind c ≡ Some m → IsPlaced w name desc m
unfolding method_in
method_there w name desc kind c m h e = method_placed w name desc kind c m (position (is_method name desc) (class_at w c).methods) refl h e

pub first_there : (w : World) (name desc : List ℕ) (kind : MethodKind) (xs : List ℕ) (m : MemberId) → AreClasses w xs → first_of (method_in w name desc kind) xs ≡ Some m → IsPlaced w name desc m
first_there w name desc kind xs m h e =
    let p = first_in (method_in w name desc kind) xs m e in
    method_there w name desc kind p.0 m (h p.0 p.1) p.2

or_there : (P : MemberId → Type 0) (o : Option MemberId) (fault : ResolveFault) (m : MemberId) → ((x : MemberId) → o ≡ Some x → P x) → ok_or o fault ≡ Ok m → P m
or_there P None fault m h e = absurd cc
or_there P (Some x) fault m h e = let same : x ≡ m = cc in rw (← same) (h x refl)

chosen_there : (P : MemberId → Type 0) (b : Bool) (o : Option MemberId) (m : MemberId) → ((x : MemberId) → o ≡ Some x → P x) → (if b then Err Ambiguous else ok_or o MissingMember) ≡ Ok m → P m
chosen_there P true o m h e = absurd cc
chosen_there P false o m h e = or_there P o MissingMember m h e

alone_there : (P : MemberId → Type 0) (w : World) (p : ℕ → Bool) (xs : List ℕ) (answer : ℕ → Option MemberId) (otherwise : Result MemberId ResolveFault) (m : MemberId) (o : Option ℕ) → ((d : ℕ) → o ≡ Some d → d < length w) → ((d : ℕ) → d < length w → (x : MemberId) → answer d ≡ Some x → P x) → (otherwise ≡ Ok m → P m) → alone p xs answer otherwise o ≡ Ok m → P m
alone_there P w p xs answer otherwise m None b h k e = k e
alone_there P w p xs answer otherwise m (Some d) b h k e = chosen_there P (list_any (λ x. p x && not (nat_eq d x)) xs) (answer d) m (h d (b d refl)) e

only_there : (w : World) (name desc : List ℕ) (kind : MethodKind) (p : ℕ → Bool) (xs : List ℕ) (otherwise : Result MemberId ResolveFault) (m : MemberId) → AreClasses w xs → (otherwise ≡ Ok m → IsPlaced w name desc m) → only p xs (method_in w name desc kind) otherwise ≡ Ok m → IsPlaced w name desc m
only_there w name desc kind p xs otherwise m h k e =
    alone_there (IsPlaced w name desc) w p xs (method_in w name desc kind) otherwise m (find p xs) (λ d f. h d (contains_listed d xs (find_some p xs d f).0)) (λ d b x f. method_there w name desc kind d x b f) k e

interface_there : (w : World) (name desc xs : List ℕ) (m : MemberId) → AreClasses w xs → interface_method w name desc xs ≡ Ok m → IsPlaced w name desc m
unfolding interface_method
interface_there w name desc xs m h e =
    only_there w name desc kinds.Default (is_most_specific w name desc xs) xs (ok_or (first_of (method_in w name desc kinds.Inherited) xs) MissingMember) m h
    (or_there (IsPlaced w name desc) (first_of (method_in w name desc kinds.Inherited) xs) MissingMember m (λ x f. first_there w name desc kinds.Inherited xs x h f))
    e

default_there : (w : World) (name desc xs : List ℕ) (m : MemberId) → AreClasses w xs → only_default w name desc xs ≡ Ok m → IsPlaced w name desc m
unfolding only_default
default_there w name desc xs m h e = only_there w name desc kinds.Default (has_default w name desc) xs (Err MissingMember) m h (λ f. absurd cc) e

or_interface_there : (P : MemberId → Type 0) (o : Option MemberId) (otherwise : Result MemberId ResolveFault) (m : MemberId) → ((x : MemberId) → o ≡ Some x → P x) → (otherwise ≡ Ok m → P m) → or_interface o otherwise ≡ Ok m → P m
or_interface_there P None otherwise m h k e = k e
or_interface_there P (Some x) otherwise m h k e = let same : x ≡ m = cc in rw (← same) (h x refl)

pub method_from_there : (w : World) (name desc : List ℕ) (c : ℕ) (m : MemberId) → c < length w → method_from w name desc c ≡ Ok m → IsPlaced w name desc m
unfolding method_from
method_from_there w name desc c m h e =
    or_interface_there (IsPlaced w name desc) (first_of (method_in w name desc kinds.Any) (line w c)) (interface_method w name desc (superinterfaces w c)) m
    (λ x f. first_there w name desc kinds.Any (line w c) x (line_inside w c h) f)
    (interface_there w name desc (superinterfaces w c) m (superinterfaces_inside w c h))
    e

pub inherited_there : (w : World) (name desc : List ℕ) (c : ℕ) (m : MemberId) → c < length w → inherited w name desc c ≡ Ok m → IsPlaced w name desc m
unfolding inherited
inherited_there w name desc c m h e =
    or_interface_there (IsPlaced w name desc) (first_of (method_in w name desc kinds.Inherited) (line w c)) (only_default w name desc (superinterfaces w c)) m
    (λ x f. first_there w name desc kinds.Inherited (line w c) x (line_inside w c h) f)
    (default_there w name desc (superinterfaces w c) m (superinterfaces_inside w c h))
    e

chosen_is : (w : World) (r : ℕ) (m s : MemberId) (method : Method) (b : Bool) → r < length w → HasMethod w m → (if b then Ok m else inherited w method.name method.desc r) ≡ Ok s → HasMethod w s
chosen_is w r m s method true h there e = let same : m ≡ s = cc in rw (← same) there
chosen_is w r m s method false h there e = (inherited_there w method.name method.desc r s h e).0

last_is : (a b c : Bool) (s t : MemberId) → (if a then Err PackageOverride else if b then Err AbstractTarget else if c then Ok s else Err NotInstance) ≡ Ok t → s ≡ t
last_is true b c s t e = absurd cc
last_is false true c s t e = absurd cc
last_is false false true s t e = cc
last_is false false false s t e = absurd cc

allowed_there : (w : World) (r : ℕ) (m t : MemberId) (o : Result MemberId ResolveFault) → ((s : MemberId) → o ≡ Ok s → HasMethod w s) → allowed w r m o ≡ Ok t → HasMethod w t
allowed_there w r m t (Err fault) h e = absurd cc
allowed_there w r m t (Ok s) h e =
    let same : s ≡ t = last_is (is_package_override w r (method_of w m)) (is_no_target (method_of w s).flags) (is_below w r m.class) s t e in
    rw (← same) (h s refl)

pub selected_there : (w : World) (m : MemberId) (r : ℕ) (t : MemberId) → r < length w → HasMethod w m → selected_by w m r ≡ Ok t → HasMethod w t
unfolding selected_by
selected_there w m r t h there e =
    allowed_there w r m t (chosen w r m (method_of w m)) (λ s f. chosen_is w r m s (method_of w m) (is_private (method_of w m).flags) h there f) e

-- ---- one method of a class

-- what runs: the method itself where it is private, and else the first in its class of the name and the descriptor
abbrev pub IsOwn : World → MemberId → MemberId → Bool → Type 0
IsOwn w m t true = m ≡ t
IsOwn w m t false = IsPlaced w (method_of w m).name (method_of w m).desc t

own_is : (w : World) (r : ℕ) (m s : MemberId) (b : Bool) → r < length w → (if b then Ok m else inherited w (method_of w m).name (method_of w m).desc r) ≡ Ok s → IsOwn w m s b
own_is w r m s true h e = cc
own_is w r m s false h e = inherited_there w (method_of w m).name (method_of w m).desc r s h e

allowed_own : (w : World) (r : ℕ) (m t : MemberId) (b : Bool) (o : Result MemberId ResolveFault) → ((s : MemberId) → o ≡ Ok s → IsOwn w m s b) → allowed w r m o ≡ Ok t → IsOwn w m t b
allowed_own w r m t b (Err fault) h e = absurd cc
allowed_own w r m t b (Ok s) h e =
    let same : s ≡ t = last_is (is_package_override w r (method_of w m)) (is_no_target (method_of w s).flags) (is_below w r m.class) s t e in
    subst (λ x. IsOwn w m x b) same (h s refl)

selected_own : (w : World) (m : MemberId) (r : ℕ) (t : MemberId) → r < length w → selected_by w m r ≡ Ok t → IsOwn w m t (is_private (method_of w m).flags)
unfolding selected_by
selected_own w m r t h e =
    allowed_own w r m t (is_private (method_of w m).flags) (chosen w r m (method_of w m)) (λ s f. own_is w r m s (is_private (method_of w m).flags) h f) e

placed_same : (w : World) (name desc : List ℕ) (s t : MemberId) → s.class ≡ t.class → position (is_method name desc) (class_at w s.class).methods ≡ Some s.member → position (is_method name desc) (class_at w t.class).methods ≡ Some t.member → s ≡ t
placed_same w name desc s t c f g =
    let one : position (is_method name desc) (class_at w s.class).methods ≡ Some t.member = ap (λ d. position (is_method name desc) (class_at w d).methods) c ∙ g in
    let place : s.member ≡ t.member = cc in
    λ i. record { class = c i; member = place i }

own_same : (w : World) (m s t : MemberId) (b : Bool) → IsOwn w m s b → IsOwn w m t b → s.class ≡ t.class → s ≡ t
own_same w m s t true f g c = sym f ∙ g
own_same w m s t false f g c = placed_same w (method_of w m).name (method_of w m).desc s t c f.1 g.1

-- a class has one method that runs
pub selected_same : (w : World) (m : MemberId) (q r : ℕ) (s t : MemberId) → q < length w → r < length w → selected_by w m q ≡ Ok s → selected_by w m r ≡ Ok t → s.class ≡ t.class → s ≡ t
selected_same w m q r s t h k e f c = own_same w m s t (is_private (method_of w m).flags) (selected_own w m q s h e) (selected_own w m r t k f) c

-- ---- fields

-- what stands past the end of fields
no_field : Field
no_field = record { flags = 0; name = []; desc = [] }

pub ancestors_inside : (w : World) (c : ℕ) → c < length w → AreClasses w (ancestors w c)
unfolding ancestors
ancestors_inside w c h =
    flat_below w (λ d. d ∷ above w d) (λ x k. more_below w x (above w x) k (above_below w (length w) x)) (line w c) (line_inside w c h)

field_placed : (w : World) (name desc : List ℕ) (c : ℕ) (m : MemberId) (o : Option ℕ) → position (is_field name desc) (class_at w c).fields ≡ o → c < length w → option_map (member c) o ≡ Some m → HasField w m
field_placed w name desc c m None p h e = absurd cc
field_placed w name desc c m (Some place) p h e =
    let within : place < length (class_at w c).fields = (position-Some (is_field name desc) (class_at w c).fields place no_field p).0 in
    let same : member c place ≡ m = cc in
    rw (← same) (h, within)

field_there : (w : World) (name desc : List ℕ) (c : ℕ) (m : MemberId) → c < length w → field_in w name desc c ≡ Some m → HasField w m
unfolding field_in
field_there w name desc c m h e = field_placed w name desc c m (position (is_field name desc) (class_at w c).fields) refl h e

first_field_there : (w : World) (name desc xs : List ℕ) (m : MemberId) → AreClasses w xs → first_of (field_in w name desc) xs ≡ Some m → HasField w m
first_field_there w name desc xs m h e =
    let p = first_in (field_in w name desc) xs m e in
    field_there w name desc p.0 m (h p.0 p.1) p.2

pub field_from_there : (w : World) (name desc : List ℕ) (c : ℕ) (m : MemberId) → c < length w → field_from w name desc c ≡ Ok m → HasField w m
unfolding field_from
field_from_there w name desc c m h e =
    or_there (HasField w) (first_of (field_in w name desc) (ancestors w c)) MissingMember m
    (λ x f. first_field_there w name desc (ancestors w c) x (ancestors_inside w c h) f)
    e
