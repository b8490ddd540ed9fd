-- What stands against a program is founded.
use Rattle.std.proofs.Common.{◌≡◌, inl, inr, ℕ, zero, suc, ◌<◌, Bool, true, false, List, [], ◌∷◌, length, Option, Some, None, refl, sym, subst, arith}
use Rattle.std.specs.Prelude.{Result, Ok, Err, slice_get, map, take}
use Rattle.std.specs.Option.{option_and_then}
use Rattle.common_laws.proofs.Choices.{or_some}
use Rattle.class_pool.specs.declared.target.Target.{Target}
use Rattle.class_reader.specs.declared.class.ClassRecord.{ClassRecord}
use Rattle.class_reader.specs.declared.class.Method.{Method}
use Rattle.op_table.specs.declared.construct.Construct.{Construct}
use Rattle.op_table.specs.declared.construct.Construct.TheVariants.{Later}
use Rattle.world.specs.declared.member.MemberId.{MemberId}
use Rattle.class_hierarchy.specs.World.{World, class_at}
use Rattle.world.specs.Tables.{HasMethod}
use Rattle.linking.specs.Methods.{method_at}
use Rattle.code_flow.specs.declared.fault.FlowFault.{FlowFault}
use Rattle.code_flow.specs.declared.fault.FlowFault.TheVariants.{NoMethod, Unsupported, TooManyMethods}
use Rattle.code_flow.specs.Plans.{Plan}
use Rattle.code_flow.specs.Judging.{Judged, places_at, places_of}
use Rattle.code_flow.specs.Listing.{most_methods, is_among, reached}
use Rattle.code_flow.specs.Flow.{method_named, lead_back, fault_if, fault_of, first_of, first_in, first_fault, planned, unless, flow_at, flow_of}
use Rattle.code_flow.specs.Faults.{IsFounded}

-- the first answer for a list is one for a thing of it
first_from : {A B : Type 0} (f : A → Option B) (P : B → Type 0) → ((a : A) (b : B) → f a ≡ Some b → P b) → (xs : List A) (b : B) → first_of f xs ≡ Some b → P b
unfolding first_of
first_from f P each [] b e = absurd cc
first_from f P each (x ∷ xs) b e = elim (or_some (f x) (first_of f xs) b e) [
  | inl here ↦ each x b here
  | inr later ↦ first_from f P each xs b later
]

-- a fault of a place of the method
abbrev IsFaultOf : World → Target → MemberId → FlowFault → Type 0
IsFaultOf w target m fault = HasMethod w m → IsFounded w target fault

if_founded : (w : World) (target : Target) (m : MemberId) (b : Bool) (wanted fault : FlowFault) → (HasMethod w m → IsFounded w target wanted) → fault_if b wanted ≡ Some fault → IsFaultOf w target m fault
if_founded w target m true wanted fault is e = let same : wanted ≡ fault = cc in subst (λ (f : FlowFault). IsFaultOf w target m f) same is
if_founded w target m false wanted fault is e = absurd cc

place_founded : (w : World) (target : Target) (over : Option MemberId) (m : MemberId) (pc : ℕ) (verdict : Result (List MemberId) Construct) (fault : FlowFault) → fault_of w over m pc verdict ≡ Some fault → IsFaultOf w target m fault
place_founded w target over m pc (Err construct) fault e = let same : Unsupported m pc construct ≡ fault = cc in subst (λ (f : FlowFault). IsFaultOf w target m f) same (λ h. h)
place_founded w target None m pc (Ok ts) fault e = if_founded w target m (lead_back w m ts) (Unsupported m pc Later) fault (λ h. h) e
place_founded w target (Some first_over) m pc (Ok ts) fault e = if_founded w target m (is_among ts first_over) TooManyMethods fault (λ h. tt) e

class_there : (w : World) (c : ℕ) (class : ClassRecord) → slice_get w c ≡ Some class → (c < length w) × (class_at w c ≡ class)
class_there [] c class e = absurd cc
class_there (k ∷ w) zero class e = let same : k ≡ class = cc in (omega arith, same)
class_there (k ∷ w) (suc c) class e = let there = class_there w c class e in (omega (arith, there.0), there.1)

within : (ms : List Method) (i : ℕ) (method : Method) → slice_get ms i ≡ Some method → i < length ms
within [] i method e = absurd cc
within (m ∷ ms) zero method e = omega arith
within (m ∷ ms) (suc i) method e = let there = within ms i method e in omega (arith, there)

there_in : (w : World) (m : MemberId) (method : Method) (class : Option ClassRecord) → slice_get w m.class ≡ class → option_and_then (λ (k : ClassRecord). slice_get k.methods m.member) class ≡ Some method → HasMethod w m
there_in w m method None at e = absurd cc
there_in w m method (Some class) at e =
    let there = class_there w m.class class at in
    let place : m.member < length class.methods = within class.methods m.member method e in
    (there.0, subst (λ (k : ClassRecord). m.member < length k.methods) (sym there.1) place)

pub method_there : (w : World) (m : MemberId) (method : Method) → method_at w m ≡ Some method → HasMethod w m
method_there w m method e = there_in w m method (slice_get w m.class) refl e

-- a method at whose places there is a fault is there
first_founded : (w : World) (target : Target) (over : Option MemberId) (m : MemberId) (fault : FlowFault) (found : Option Method) → method_at w m ≡ found
    → first_of (λ (place : Judged). fault_of w over m place.pc place.verdict) (places_at w m.class found) ≡ Some fault → IsFounded w target fault
unfolding first_of
first_founded w target over m fault None at e = absurd cc
first_founded w target over m fault (Some method) at e =
    first_from (λ (place : Judged). fault_of w over m place.pc place.verdict) (IsFaultOf w target m)
    (λ place b is. place_founded w target over m place.pc place.verdict b is) (places_at w m.class (Some method)) fault e (method_there w m method at)

in_founded : (w : World) (target : Target) (over : Option MemberId) (m : MemberId) (fault : FlowFault) → first_in w over m ≡ Some fault → IsFounded w target fault
unfolding places_of
in_founded w target over m fault e = first_founded w target over m fault (method_at w m) refl e

all_founded : (w : World) (target : Target) (over : Option MemberId) (ms : List MemberId) (fault : FlowFault) → first_fault w over ms ≡ Some fault → IsFounded w target fault
unfolding first_fault
all_founded w target over ms fault e = first_from (first_in w over) (IsFounded w target) (λ m b is. in_founded w target over m b is) ms fault e

unless_founded : (w : World) (target : Target) (program : List Plan) (found : Option FlowFault) (fault : FlowFault) → ((f : FlowFault) → found ≡ Some f → IsFounded w target f)
    → unless program found ≡ Err fault → IsFounded w target fault
unless_founded w target program None fault each e = absurd cc
unless_founded w target program (Some f) fault each e = let same : f ≡ fault = cc in subst (IsFounded w target) same (each f refl)

at_founded : (w : World) (target : Target) (m : Option MemberId) (fault : FlowFault) → method_named w target ≡ m → flow_at w m ≡ Err fault → IsFounded w target fault
at_founded w target None fault named e = let same : NoMethod ≡ fault = cc in subst (IsFounded w target) same named
at_founded w target (Some m) fault named e =
    let ms = reached w m in
    unless_founded w target (map (planned w) ms) (first_fault w (slice_get ms most_methods) (take most_methods ms)) fault
    (λ f is. all_founded w target (slice_get ms most_methods) (take most_methods ms) f is) e

pub founded : (w : World) (target : Target) (fault : FlowFault) → flow_of w target ≡ Err fault → IsFounded w target fault
unfolding flow_of
founded w target fault e = at_founded w target (method_named w target) fault refl e
