-- The method that a call runs has the descriptor that the call names, and is static exactly where the call is.
use Rattle.std.proofs.Common.{◌≡◌, ℕ, ◌<◌, Bool, true, false, ◌&&◌, ◌||◌, not, List, [], ◌∷◌, length, Option, Some, None, Result, Ok, Err, refl, sym, ap, ◌∙◌, subst, arith}
use Rattle.std.specs.Prelude.{if◌then◌else◌, slice_get, slice_index_or}
use Rattle.std.specs.List.{position}
use Rattle.std.specs.Str.{bytes_eq}
use Rattle.std.proofs.lemmas.Bool.{and_parts}
use Rattle.std.proofs.lemmas.Slice.Eq.{bytes_eq-Decides}
use Rattle.std.proofs.lemmas.List.Quantifiers.{position-Some}
use Rattle.class_pool.specs.Pool.{member_at}
use Rattle.class_reader.specs.declared.class.Method.{Method}
use Rattle.class_reader.specs.Flags.{is_static, is_abstract, is_private}
use Rattle.op_table.specs.declared.acts.Call.{Call}
use Rattle.op_table.specs.declared.acts.Call.TheVariants.{Virtual, Special, Static, Interface}
use Rattle.op_table.specs.declared.construct.Construct.{Construct}
use Rattle.op_table.specs.declared.construct.Construct.TheVariants as constructs
use Rattle.kind_effects.specs.Effects.{descriptor_in, descriptor_at}
use Rattle.world.specs.declared.member.MemberId.{MemberId}
use Rattle.world.specs.declared.fault.ResolveFault.{ResolveFault}
use Rattle.world.specs.declared.fault.ResolveFault.TheVariants.{PackageOverride, AbstractTarget, NotInstance}
use Rattle.class_hierarchy.specs.World.{World, constructor, class_at, number_of, is_below}
use Rattle.class_hierarchy.proofs.Cycles.{number_below}
use Rattle.world.specs.Access.{is_no_target}
use Rattle.world.specs.Resolution.{is_method, method_from, resolved_method, in_class}
use Rattle.world.specs.Selection.{method_of, inherited, is_package_override, allowed, chosen, selected_by}
use Rattle.world.proofs.There.{IsPlaced, method_from_there, inherited_there}
use Rattle.linking.specs.declared.calls.Meant.{Meant}
use Rattle.linking.specs.Told.{told, then_by, unless}
use Rattle.linking.specs.References.{Reference, against_call}
use Rattle.linking.specs.Calls.{is_same, is_static_call, fits, of_class, meant_in, meant, meant_to, meant_by, from_superclass, is_super_call, found, looked_up}
use Rattle.linking.proofs.Linked.{behind, untold}
use Rattle.frames.specs.declared.here.Here.{Here}
use Rattle.frames.specs.declared.value.Value.{Value}
use Rattle.frames.specs.Heap.{Cells}
use Rattle.frames.specs.Standing.{Standing}
use Rattle.steps.specs.Row as rows
use Rattle.steps.specs.Row.{Dispatched}
use Rattle.steps.proofs.Dispatching.{ReceiverIsMade}

-- a method with a descriptor, static or not
pub record IsOf (w : World) (static : Bool) (desc : List ℕ) (m : MemberId) : Type 0 where
  pub described : (method_of w m).desc ≡ desc
  pub is_static : is_static (method_of w m).flags ≡ static

named_method : (name desc : List ℕ) (method : Method) → is_method name desc method ≡ true → method.desc ≡ desc
named_method name desc method is = (bytes_eq-Decides method.desc desc).0 (and_parts (bytes_eq method.name name) (bytes_eq method.desc desc) is).1

placed_desc : (w : World) (name desc : List ℕ) (m : MemberId) → IsPlaced w name desc m → (method_of w m).desc ≡ desc
placed_desc w name desc m is = named_method name desc (method_of w m) (position-Some (is_method name desc) (class_at w m.class).methods m.member constructor is.1).1

-- ---- where the call fits the method

same_if : (a b : Bool) → is_same a b ≡ true → a ≡ b
same_if true true e = refl
same_if true false e = absurd cc
same_if false true e = absurd cc
same_if false false e = refl

fits_if : (b : Bool) (m t : MemberId) → (if b then Ok m else Err constructs.Incompatible) ≡ Ok t → (b ≡ true) × (m ≡ t)
fits_if true m t e = (refl, cc)
fits_if false m t e = absurd cc

-- what fits is of the call
fitted : (w : World) (call : Call) (desc : List ℕ) (m t : MemberId) → (method_of w m).desc ≡ desc → fits w call m ≡ Ok t → IsOf w (is_static_call call) desc t
fitted w call desc m t described e =
    let is = fits_if (is_same (is_static (method_of w m).flags) (is_static_call call)) m t e in
    subst (λ (x : MemberId). IsOf w (is_static_call call) desc x) is.1
    (record { described = described; is_static = same_if (is_static (method_of w m).flags) (is_static_call call) is.0 })

-- ---- what a call means

meant_in_of : (w : World) (call : Call) (class name desc : List ℕ) (o : Option ℕ) (m : Meant) → number_of w class ≡ o → meant_in w call name desc o ≡ Ok m → IsOf w (is_static_call call) desc m.method
meant_in_of w call class name desc None m at e = absurd cc
meant_in_of w call class name desc (Some c) m at e =
    let last = behind (of_class c) (then_by (fits w call) (told (method_from w name desc c))) m e in
    let before = behind (fits w call) (told (method_from w name desc c)) last.0 last.1 in
    let placed = method_from_there w name desc c before.0 (number_below w class c at) (untold (method_from w name desc c) before.0 before.1) in
    let this : Meant = record { class = c; method = last.0 } in
    let same : this ≡ m = cc in
    subst (λ (x : Meant). IsOf w (is_static_call call) desc x.method) same (fitted w call desc before.0 last.0 (placed_desc w name desc before.0 placed) before.2)

meant_of : (w : World) (call : Call) (class name desc : List ℕ) (m : Meant) → meant w call class name desc ≡ Ok m → IsOf w (is_static_call call) desc m.method
unfolding meant
meant_of w call class name desc m e = meant_in_of w call class name desc (number_of w class) m refl e

meant_to_of : (w : World) (call : Call) (reference : Option Reference) (m : Meant) → meant_to w call reference ≡ Ok m → IsOf w (is_static_call call) (descriptor_in reference) m.method
meant_to_of w call None m e = absurd cc
meant_to_of w call (Some (tag, class, name, desc)) m e = meant_of w call class name desc m e

passed : {A : Type 0} (r : Result A Construct) (o : Option Construct) (a : A) → unless r o ≡ Ok a → r ≡ Ok a
passed r None a e = e
passed r (Some construct) a e = absurd cc

pub means_of : (w : World) (call : Call) (reference : Option Reference) (m : Meant) → meant_by w call reference ≡ Ok m → IsOf w (is_static_call call) (descriptor_in reference) m.method
unfolding meant_by
means_of w call reference m e = meant_to_of w call reference m (passed (meant_to w call reference) (against_call reference) m e)

-- ---- what it looks up

resolved_in : (w : World) (name desc class : List ℕ) (o : Option ℕ) (x : MemberId) → number_of w class ≡ o → in_class o (method_from w name desc) ≡ Ok x → (method_of w x).desc ≡ desc
resolved_in w name desc class None x at e = absurd cc
resolved_in w name desc class (Some c) x at e = placed_desc w name desc x (method_from_there w name desc c x (number_below w class c at) e)

resolved_desc : (w : World) (class name desc : List ℕ) (x : MemberId) → resolved_method w class name desc ≡ Ok x → (method_of w x).desc ≡ desc
unfolding resolved_method
resolved_desc w class name desc x e = resolved_in w name desc class (number_of w class) x refl e

above_desc : (w : World) (method : Method) (name : Option (List ℕ)) (x : MemberId) → from_superclass w method name ≡ Ok x → (method_of w x).desc ≡ method.desc
above_desc w method None x e = absurd cc
above_desc w method (Some name) x e = resolved_desc w name method.name method.desc x (untold (resolved_method w name method.name method.desc) x e)

same_desc : (w : World) (m x : MemberId) → ◌≡◌ {A = Result MemberId Construct} (Ok m) (Ok x) → (method_of w x).desc ≡ (method_of w m).desc
same_desc w m x e = let same : m ≡ x = cc in ap (λ (y : MemberId). (method_of w y).desc) (sym same)

super_desc : (w : World) (current : ℕ) (m : Meant) (x : MemberId) (b : Bool) → (if b then from_superclass w (method_of w m.method) (class_at w current).super_name else Ok m.method) ≡ Ok x
    → (method_of w x).desc ≡ (method_of w m.method).desc
super_desc w current m x true e = above_desc w (method_of w m.method) (class_at w current).super_name x e
super_desc w current m x false e = same_desc w m.method x e

special_of : (w : World) (current : ℕ) (desc : List ℕ) (m : Meant) (t : MemberId) → (method_of w m.method).desc ≡ desc → looked_up w current Special m ≡ Ok t → IsOf w false desc t
unfolding looked_up
special_of w current desc m t described e =
    let before = behind (fits w Special) (found w current Special m) t e in
    fitted w Special desc before.0 t (super_desc w current m before.0 (is_super_call w current m) before.1 ∙ described) before.2

-- ---- what a receiver selects

selected_if : (a b c : Bool) (s t : MemberId) → (if a then Err PackageOverride else if b then Err AbstractTarget else if c then Ok s else Err NotInstance) ≡ Ok t → (b ≡ false) × (s ≡ t)
selected_if true b c s t e = absurd cc
selected_if false true c s t e = absurd cc
selected_if false false true s t e = (refl, cc)
selected_if false false false s t e = absurd cc

no_static : (a b : Bool) → (a || b) ≡ false → a ≡ false
no_static true b e = absurd cc
no_static false b e = refl

allowed_of : (w : World) (r : ℕ) (desc : List ℕ) (m t : MemberId) (o : Result MemberId ResolveFault) → ((s : MemberId) → o ≡ Ok s → (method_of w s).desc ≡ desc) → allowed w r m o ≡ Ok t → IsOf w false desc t
allowed_of w r desc m t (Err fault) each e = absurd cc
allowed_of w r desc m t (Ok s) each e =
    let is = selected_if (is_package_override w r (method_of w m)) (is_no_target (method_of w s).flags) (is_below w r m.class) s t e in
    subst (λ (x : MemberId). IsOf w false desc x) is.1
    (record { described = each s refl; is_static = no_static (is_static (method_of w s).flags) (is_abstract (method_of w s).flags) is.0 })

chosen_desc : (w : World) (r : ℕ) (m s : MemberId) (method : Method) (b : Bool) → r < length w → method ≡ method_of w m → (if b then Ok m else inherited w method.name method.desc r) ≡ Ok s → (method_of w s).desc ≡ method.desc
chosen_desc w r m s method true below is e = let same : m ≡ s = cc in ap (λ (y : MemberId). (method_of w y).desc) (sym same) ∙ ap (λ (x : Method). x.desc) (sym is)
chosen_desc w r m s method false below is e = placed_desc w method.name method.desc s (inherited_there w method.name method.desc r s below e)

selected_of : (w : World) (r : ℕ) (desc : List ℕ) (m t : MemberId) → r < length w → (method_of w m).desc ≡ desc → selected_by w m r ≡ Ok t → IsOf w false desc t
unfolding selected_by
selected_of w r desc m t below described e =
    allowed_of w r desc m t (chosen w r m (method_of w m)) (λ s f. chosen_desc w r m s (method_of w m) (is_private (method_of w m).flags) below refl f ∙ described) e

-- ---- the method that runs

-- the method that a call runs is of the call, where its receiver is of a class of the world
pub runs_of : {w : World} {heap : Cells} {current : ℕ} {call : Call} {words : List Value} {t : MemberId} (desc : List ℕ) (m : Meant)
    → ReceiverIsMade w heap words → IsOf w (is_static_call call) desc m.method → Dispatched w heap current m call words t → IsOf w (is_static_call call) desc t
runs_of desc m made is rows.static = is
runs_of {w = w} {current = current} {t = t} desc m made is (rows.special of looks) = special_of w current desc m t is.described looks
runs_of {w = w} {t = t} desc m made is (rows.virtual {r = r} {c = c} {fields = fields} {words = words} at below selects) =
    selected_of w c desc m.method t (made r c fields words refl at).0 is.described selects
runs_of {w = w} {t = t} desc m made is (rows.interface {r = r} {c = c} {fields = fields} {words = words} at below selects) =
    selected_of w c desc m.method t (made r c fields words refl at).0 is.described selects
