-- What the definitions of a method say, by its scan.
use Rattle.std.proofs.Common.{◌≡◌, ℕ, Bool, true, false, List, [], ◌∷◌, ◌++◌, map, Option, Some, None, refl, sym, ap, ◌∙◌}
use Rattle.std.specs.Prelude.{flat_map, option_and_then, if◌then◌else◌}
use Rattle.std.specs.Option.{option_or}
use Rattle.std.proofs.lemmas.Grind.{flat_map-append}
use Rattle.class_reader.specs.declared.class.Method.{Method}
use Rattle.class_reader.specs.declared.class.Code.{Code}
use Rattle.op_table.specs.declared.construct.Construct.{Construct}
use Rattle.op_table.specs.declared.construct.Construct.TheVariants as constructs
use Rattle.world.specs.declared.member.MemberId.{MemberId}
use Rattle.class_hierarchy.specs.World.{World}
use Rattle.linking.specs.Methods.{method_at}
use Rattle.code_flow.specs.declared.fault.FlowFault.{FlowFault}
use Rattle.code_blocks.specs.declared.instruction.Placed.{Placed}
use Rattle.code_blocks.specs.Placing.{placed, broken}
use Rattle.class_reader.specs.Flags.{is_synchronized}
use Rattle.descriptors.specs.Texts.{names_float}
use Rattle.code_flow.specs.Judging.{Judged, has_handlers, is_empty, judged_if, against_method, against_break, judged_place, places_in, places_at, places_of}
use Rattle.code_flow.specs.Listing.{targets_at, callees}
use Rattle.code_flow.specs.Flow.{first_of, fault_of, first_in, planned_place, planned_in, planned}
use Rattle.code_flow.specs.Scanning.{site_of, first_against, scan_in, scan_at, scan_of}
use Rattle.code_flow.specs.Scanned.{site_targets, unsupported_at, unsupported_opcode, site_fault, scan_fault, planned_site, planned_by}

-- ---- callees

none_at : (b : Bool) (construct : Construct) → flat_map targets_at (judged_if b construct) ≡ []
none_at true construct = refl
none_at false construct = refl

none_before : (b : Bool) (construct : Construct) (places : List Judged) → flat_map targets_at places ≡ [] → flat_map targets_at (places ++ judged_if b construct) ≡ []
none_before b construct places none = flat_map-append targets_at places (judged_if b construct) ∙ rw (none, none_at b construct) refl

none_against : (method : Method) (code : Code) → flat_map targets_at (against_method method code) ≡ []
none_against method code =
    let floats : List Judged = judged_if (names_float method.desc) constructs.Float in
    let locks : List Judged = floats ++ judged_if (is_synchronized method.flags) constructs.Synchronized in
    none_before (is_empty code.bytes) constructs.FallsOff (locks ++ judged_if (has_handlers code.handlers) constructs.Handler)
    (none_before (has_handlers code.handlers) constructs.Handler locks (none_before (is_synchronized method.flags) constructs.Synchronized floats (none_at (names_float method.desc) constructs.Float)))

none_broken : (o : Option ℕ) → flat_map targets_at (against_break o) ≡ []
none_broken None = refl
none_broken (Some pc) = refl

append_none : (xs : List MemberId) → xs ++ [] ≡ xs
append_none [] = refl
append_none (x ∷ xs) = ap (λ ys. x ∷ ys) (append_none xs)

same_targets : (w : World) (current : ℕ) (code : List ℕ) (ps : List Placed) → flat_map targets_at (map (judged_place w current code) ps) ≡ flat_map site_targets (map (site_of w current code) ps)
same_targets w current code [] = refl
same_targets w current code (p ∷ ps) = ap (λ ts. targets_at (judged_place w current code p) ++ ts) (same_targets w current code ps)

callees_in : (w : World) (m : MemberId) (method : Method) (code : Option Code) → flat_map targets_at (places_in w m.class method code) ≡ flat_map site_targets (scan_in w m method code).body.sites
callees_in w m method None = refl
callees_in w m method (Some code) =
    flat_map-append targets_at (against_method method code ++ map (judged_place w m.class code.bytes) (placed code.bytes)) (against_break (broken code.bytes))
    ∙ ap (λ l. flat_map targets_at (against_method method code ++ map (judged_place w m.class code.bytes) (placed code.bytes)) ++ l) (none_broken (broken code.bytes))
    ∙ append_none (flat_map targets_at (against_method method code ++ map (judged_place w m.class code.bytes) (placed code.bytes)))
    ∙ flat_map-append targets_at (against_method method code) (map (judged_place w m.class code.bytes) (placed code.bytes))
    ∙ ap (λ l. l ++ flat_map targets_at (map (judged_place w m.class code.bytes) (placed code.bytes))) (none_against method code)
    ∙ same_targets w m.class code.bytes (placed code.bytes)

callees_at : (w : World) (m : MemberId) (o : Option Method) → flat_map targets_at (places_at w m.class o) ≡ flat_map site_targets (scan_at w m o).body.sites
callees_at w m None = refl
callees_at w m (Some method) = callees_in w m method method.code

pub callees_scanned : (w : World) (m : MemberId) → callees w m ≡ flat_map site_targets (scan_of w m).body.sites
unfolding callees places_of scan_of
callees_scanned w m = callees_at w m (method_at w m)

-- ---- the first fault

or_assoc : (a b c : Option FlowFault) → option_or (option_or a b) c ≡ option_or a (option_or b c)
or_assoc None b c = refl
or_assoc (Some x) b c = refl

pub first_append : {A : Type 0} (f : A → Option FlowFault) (xs ys : List A) → first_of f (xs ++ ys) ≡ option_or (first_of f xs) (first_of f ys)
unfolding first_of
first_append f [] ys = refl
first_append f (x ∷ xs) ys = ap (λ o. option_or (f x) o) (first_append f xs ys) ∙ sym (or_assoc (f x) (first_of f xs) (first_of f ys))

pub first_map : {A B : Type 0} (f : B → Option FlowFault) (g : A → B) (xs : List A) → first_of f (map g xs) ≡ first_of (λ x. f (g x)) xs
unfolding first_of
first_map f g [] = refl
first_map f g (x ∷ xs) = ap (λ o. option_or (f (g x)) o) (first_map f g xs)

abbrev place_fault : World → Option MemberId → MemberId → Judged → Option FlowFault
place_fault w over m place = fault_of w over m place.pc place.verdict

four : (w : World) (over : Option MemberId) (m : MemberId) (a b c d : Bool)
    → first_of (place_fault w over m) (judged_if a constructs.Float ++ judged_if b constructs.Synchronized ++ judged_if c constructs.Handler ++ judged_if d constructs.FallsOff)
    ≡ unsupported_at m 0 (if a then Some constructs.Float else if b then Some constructs.Synchronized else if c then Some constructs.Handler else if d then Some constructs.FallsOff else None)
unfolding first_of
four w over m true b c d = refl
four w over m false true c d = refl
four w over m false false true d = refl
four w over m false false false true = refl
four w over m false false false false = refl

broken_fault : (w : World) (over : Option MemberId) (m : MemberId) (o : Option ℕ) → first_of (place_fault w over m) (against_break o) ≡ unsupported_opcode m o
unfolding first_of
broken_fault w over m None = refl
broken_fault w over m (Some pc) = refl

sites_fault : (w : World) (over : Option MemberId) (m : MemberId) (code : List ℕ) (ps : List Placed) → first_of (place_fault w over m) (map (judged_place w m.class code) ps) ≡ first_of (site_fault w over m) (map (site_of w m.class code) ps)
unfolding first_of
sites_fault w over m code [] = refl
sites_fault w over m code (p ∷ ps) = ap (λ o. option_or (place_fault w over m (judged_place w m.class code p)) o) (sites_fault w over m code ps)

fault_in : (w : World) (over : Option MemberId) (m : MemberId) (method : Method) (code : Option Code) → first_of (place_fault w over m) (places_in w m.class method code) ≡ scan_fault w over (scan_in w m method code)
unfolding first_of
fault_in w over m method None = refl
fault_in w over m method (Some code) =
    first_append (place_fault w over m) (against_method method code ++ map (judged_place w m.class code.bytes) (placed code.bytes)) (against_break (broken code.bytes))
    ∙ ap (λ o. option_or o (first_of (place_fault w over m) (against_break (broken code.bytes)))) (first_append (place_fault w over m) (against_method method code) (map (judged_place w m.class code.bytes) (placed code.bytes)))
    ∙ or_assoc (first_of (place_fault w over m) (against_method method code)) (first_of (place_fault w over m) (map (judged_place w m.class code.bytes) (placed code.bytes))) (first_of (place_fault w over m) (against_break (broken code.bytes)))
    ∙ ap (λ o. option_or o (option_or (first_of (place_fault w over m) (map (judged_place w m.class code.bytes) (placed code.bytes))) (first_of (place_fault w over m) (against_break (broken code.bytes))))) (four w over m (names_float method.desc) (is_synchronized method.flags) (has_handlers code.handlers) (is_empty code.bytes))
    ∙ ap (λ o. option_or (unsupported_at m 0 (first_against method code)) (option_or o (first_of (place_fault w over m) (against_break (broken code.bytes))))) (sites_fault w over m code.bytes (placed code.bytes))
    ∙ ap (λ o. option_or (unsupported_at m 0 (first_against method code)) (option_or (first_of (site_fault w over m) (map (site_of w m.class code.bytes) (placed code.bytes))) o)) (broken_fault w over m (broken code.bytes))

fault_at : (w : World) (over : Option MemberId) (m : MemberId) (o : Option Method) → first_of (place_fault w over m) (places_at w m.class o) ≡ scan_fault w over (scan_at w m o)
unfolding first_of
fault_at w over m None = refl
fault_at w over m (Some method) = fault_in w over m method method.code

pub fault_scanned : (w : World) (over : Option MemberId) (m : MemberId) → first_in w over m ≡ scan_fault w over (scan_of w m)
unfolding places_of scan_of
fault_scanned w over m = fault_at w over m (method_at w m)

-- ---- the instructions

same_planned : (w : World) (current : ℕ) (code : List ℕ) (ps : List Placed) → map (planned_place w current code) ps ≡ map planned_site (map (site_of w current code) ps)
same_planned w current code [] = refl
same_planned w current code (p ∷ ps) = ap (λ xs. planned_place w current code p ∷ xs) (same_planned w current code ps)

planned_code : (w : World) (m : MemberId) (method : Method) (code : Option Code) → planned_in w m.class code ≡ map planned_site (scan_in w m method code).body.sites
planned_code w m method None = refl
planned_code w m method (Some code) = same_planned w m.class code.bytes (placed code.bytes)

planned_method : (w : World) (m : MemberId) (o : Option Method) → planned_in w m.class (option_and_then (λ method. method.code) o) ≡ map planned_site (scan_at w m o).body.sites
planned_method w m None = refl
planned_method w m (Some method) = planned_code w m method method.code

method_in : (w : World) (m : MemberId) (method : Method) (code : Option Code) → (scan_in w m method code).method ≡ m
method_in w m method None = refl
method_in w m method (Some code) = refl

method_by : (w : World) (m : MemberId) (o : Option Method) → (scan_at w m o).method ≡ m
method_by w m None = refl
method_by w m (Some method) = method_in w m method method.code

pub scan_method : (w : World) (m : MemberId) → (scan_of w m).method ≡ m
unfolding scan_of
scan_method w m = method_by w m (method_at w m)

pub planned_scanned : (w : World) (m : MemberId) → planned w m ≡ planned_by (scan_of w m)
unfolding planned scan_of
planned_scanned w m = rw (planned_method w m (method_at w m), method_by w m (method_at w m)) refl
