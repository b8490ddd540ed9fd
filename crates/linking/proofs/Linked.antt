-- What is meant and looked up is there, and the methods that a call can run.
use Rattle.std.proofs.Common.{◌≡◌, ℕ, ◌<◌, Bool, true, false, List, length, Option, Some, None, Result, Ok, Err, refl, sym, ap, ◌∙◌, subst}
use Rattle.std.specs.Prelude.{if◌then◌else◌}
use Rattle.class_reader.specs.declared.class.Method.{Method}
use Rattle.class_reader.specs.Flags.{is_static}
use Rattle.op_table.specs.declared.acts.Call.{Call}
use Rattle.op_table.specs.declared.acts.Call.TheVariants.{Virtual, Special, Static, Interface}
use Rattle.op_table.specs.declared.construct.Construct.{Construct}
use Rattle.op_table.specs.declared.construct.Construct.TheVariants as constructs
use Rattle.world.specs.declared.member.MemberId.{MemberId}
use Rattle.world.specs.declared.fault.ResolveFault.{ResolveFault}
use Rattle.class_hierarchy.specs.World.{World, class_at, number_of}
use Rattle.world.specs.Resolution.{method_from, resolved_method, in_class}
use Rattle.world.specs.Selection.{method_of}
use Rattle.world.specs.Tables.{HasMethod}
use Rattle.class_hierarchy.proofs.Cycles.{number_below}
use Rattle.world.proofs.There.{method_from_there}
use Rattle.linking.specs.declared.calls.Meant.{Meant}
use Rattle.linking.specs.Told.{told, then_by, unless}
use Rattle.linking.specs.References.{Reference, against_call}
use Rattle.linking.specs.Calls.{is_same, is_static_call, fits, of_class, meant_in, meant, from_superclass, is_super_call, found, looked_up, linked_from, linked, meant_to, meant_by, run_by, called, called_by}

-- ---- answers that are handed on

-- an answer behind another one comes from it
pub behind : {A B : Type 0} (f : A → Result B Construct) (r : Result A Construct) (b : B) → then_by f r ≡ Ok b → (a : A) × (r ≡ Ok a) × (f a ≡ Ok b)
behind f (Ok a) b e = (a, refl, e)
behind f (Err construct) b e = absurd cc

pub untold : {A : Type 0} (r : Result A ResolveFault) (a : A) → told r ≡ Ok a → r ≡ Ok a
untold (Ok x) a e = let same : x ≡ a = cc in ap Ok same
untold (Err fault) a e = absurd cc

fitting : (b : Bool) (m x : MemberId) → (if b then Ok m else Err constructs.Incompatible) ≡ Ok x → m ≡ x
fitting true m x e = cc
fitting false m x e = absurd cc

fits_same : (w : World) (call : Call) (m x : MemberId) → fits w call m ≡ Ok x → m ≡ x
fits_same w call m x e = fitting (is_same (is_static (method_of w m).flags) (is_static_call call)) m x e

-- ---- methods

abbrev pub IsThere : World → Meant → Type 0
IsThere w m = (m.class < length w) × HasMethod w m.method

in_there : (w : World) (name desc class : List ℕ) (o : Option ℕ) (x : MemberId) → number_of w class ≡ o → in_class o (method_from w name desc) ≡ Ok x → HasMethod w x
in_there w name desc class None x at e = absurd cc
in_there w name desc class (Some c) x at e = (method_from_there w name desc c x (number_below w class c at) e).0

resolved_there : (w : World) (class name desc : List ℕ) (x : MemberId) → resolved_method w class name desc ≡ Ok x → HasMethod w x
unfolding resolved_method
resolved_there w class name desc x e = in_there w name desc class (number_of w class) x refl e

meant_there_in : (w : World) (call : Call) (class name desc : List ℕ) (o : Option ℕ) (m : Meant) → number_of w class ≡ o → meant_in w call name desc o ≡ Ok m → IsThere w m
meant_there_in w call class name desc None m at e = absurd cc
meant_there_in w call class name desc (Some c) m at e =
    let last = behind (of_class c) (then_by (fits w call) (told (method_from w name desc c))) m e in
    let before = behind (fits w call) (told (method_from w name desc c)) last.0 last.1 in
    let from : method_from w name desc c ≡ Ok before.0 = untold (method_from w name desc c) before.0 before.1 in
    let inside : c < length w = number_below w class c at in
    let there : HasMethod w before.0 = (method_from_there w name desc c before.0 inside from).0 in
    let this : Meant = record { class = c; method = last.0 } in
    let same : this ≡ m = cc in
    subst (λ (x : Meant). IsThere w x) same (inside, subst (λ (x : MemberId). HasMethod w x) (fits_same w call before.0 last.0 before.2) there)

meant_there : (w : World) (call : Call) (class name desc : List ℕ) (m : Meant) → meant w call class name desc ≡ Ok m → IsThere w m
unfolding meant
meant_there w call class name desc m e = meant_there_in w call class name desc (number_of w class) m refl e

above_there : (w : World) (method : Method) (name : Option (List ℕ)) (x : MemberId) → from_superclass w method name ≡ Ok x → HasMethod w x
above_there w method None x e = absurd cc
above_there w method (Some name) x e = resolved_there w name method.name method.desc x (untold (resolved_method w name method.name method.desc) x e)

same_there : (w : World) (m x : MemberId) → HasMethod w m → ◌≡◌ {A = Result MemberId Construct} (Ok m) (Ok x) → HasMethod w x
same_there w m x there e = let same : m ≡ x = cc in subst (λ (y : MemberId). HasMethod w y) same there

super_there : (w : World) (current : ℕ) (m : Meant) (x : MemberId) (b : Bool) → HasMethod w m.method
    → (if b then from_superclass w (method_of w m.method) (class_at w current).super_name else Ok m.method) ≡ Ok x → HasMethod w x
super_there w current m x true there e = above_there w (method_of w m.method) (class_at w current).super_name x e
super_there w current m x false there e = same_there w m.method x there e

found_there : (w : World) (current : ℕ) (call : Call) (m : Meant) (x : MemberId) → HasMethod w m.method → found w current call m ≡ Ok x → HasMethod w x
found_there w current Special m x there e = super_there w current m x (is_super_call w current m) there e
found_there w current Static m x there e = same_there w m.method x there e
found_there w current Virtual m x there e = same_there w m.method x there e
found_there w current Interface m x there e = same_there w m.method x there e

looked_there : (w : World) (current : ℕ) (call : Call) (m : Meant) (x : MemberId) → HasMethod w m.method → looked_up w current call m ≡ Ok x → HasMethod w x
unfolding looked_up
looked_there w current call m x there e =
    let before = behind (fits w call) (found w current call m) x e in
    subst (λ (y : MemberId). HasMethod w y) (fits_same w call before.0 x before.2) (found_there w current call m before.0 there before.1)

-- a call that isn't invokespecial looks up the method that it means
pub looks_up_meant : (w : World) (current : ℕ) (call : Call) (m : Meant) (t : MemberId) → ¬ (call ≡ Special) → looked_up w current call m ≡ Ok t → m.method ≡ t
unfolding looked_up
looks_up_meant w current Special m t other e = absurd (other refl)
looks_up_meant w current Static m t other e = fits_same w Static m.method t e
looks_up_meant w current Virtual m t other e = fits_same w Virtual m.method t e
looks_up_meant w current Interface m t other e = fits_same w Interface m.method t e

-- ---- what a call means and the methods that it can run

passed : {A : Type 0} (r : Result A Construct) (o : Option Construct) (a : A) → unless r o ≡ Ok a → r ≡ Ok a
passed r None a e = e
passed r (Some construct) a e = absurd cc

-- what a call means is there, as is what it looks up, which runs these methods
pub record Runs (w : World) (current : ℕ) (call : Call) (m : Meant) (ts : List MemberId) : Type 0 where
  pub there : IsThere w m
  pub target : MemberId
  pub looks : looked_up w current call m ≡ Ok target
  pub target_there : HasMethod w target
  pub runs : run_by w call (record { class = m.class; method = target }) ≡ Ok ts

runs_named : (w : World) (current : ℕ) (call : Call) (class name desc : List ℕ) (m : Meant) (ts : List MemberId)
    → meant w call class name desc ≡ Ok m → called w current call class name desc ≡ Ok ts → Runs w current call m ts
unfolding called linked
runs_named w current call class name desc m ts means calls =
    let there : IsThere w m = meant_there w call class name desc m means in
    let last = behind (run_by w call) (then_by (linked_from w current call) (meant w call class name desc)) ts calls in
    let from : linked_from w current call m ≡ Ok last.0 = sym (ap (then_by (linked_from w current call)) means) ∙ last.1 in
    let found = behind (of_class m.class) (looked_up w current call m) last.0 from in
    let this : Meant = record { class = m.class; method = found.0 } in
    let same : this ≡ last.0 = cc in
    record {
      there = there;
      target = found.0;
      looks = found.1;
      target_there = looked_there w current call m found.0 there.1 found.1;
      runs = ap (run_by w call) same ∙ last.2;
    }

runs_to : (w : World) (current : ℕ) (call : Call) (reference : Option Reference) (m : Meant) (ts : List MemberId)
    → meant_to w call reference ≡ Ok m → called_by w current call reference ≡ Ok ts → Runs w current call m ts
runs_to w current call None m ts means calls = absurd cc
runs_to w current call (Some (tag, class, name, desc)) m ts means calls = runs_named w current call class name desc m ts means calls

-- what a call means is there, and what it looks up runs one of the methods that the call can run
pub meant_runs : (w : World) (current : ℕ) (call : Call) (reference : Option Reference) (m : Meant) (ts : List MemberId)
    → meant_by w call reference ≡ Ok m → called_by w current call reference ≡ Ok ts → Runs w current call m ts
unfolding meant_by
meant_runs w current call reference m ts means calls =
    runs_to w current call reference m ts (passed (meant_to w call reference) (against_call reference) m means) calls
