-- A method against which nothing stands has code, and this is sound.
use Rattle.std.proofs.Common.{◌≡◌, ℕ, ◌≤◌, Bool, true, false, not, ◌&&◌, List, [], ◌∷◌, ◌++◌, map, length, Option, Some, None, Result, Ok, Err, arith, refl, ap, subst, Contains, ℤ, pos, ◌+ℤ◌}
use Rattle.std.specs.List.{AllByRecursion, list_any}
use Rattle.std.proofs.lemmas.List.Elements.{All-from_recursion, All-contains, Contains-append_left, Contains-append_right}
use Rattle.common_laws.proofs.Members.{contains_head, in_map}
use Rattle.class_pool.specs.declared.constant.Constant.{Constant}
use Rattle.class_reader.specs.declared.class.Method.{Method}
use Rattle.class_reader.specs.declared.class.Code.{Code}
use Rattle.class_reader.specs.Flags.{is_synchronized}
use Rattle.descriptors.specs.Texts.{names_float}
use Rattle.op_table.specs.Actions.{action_of}
use Rattle.op_table.specs.Cases.{case_count}
use Rattle.op_table.specs.declared.acts.Action.{Action}
use Rattle.op_table.specs.declared.acts.Action.TheVariants as acts
use Rattle.op_table.specs.declared.construct.Construct.{Construct}
use Rattle.op_table.specs.declared.construct.Construct.TheVariants as constructs
use Rattle.world.specs.declared.member.MemberId.{MemberId}
use Rattle.class_hierarchy.specs.World.{World, class_at}
use Rattle.linking.specs.Methods.{method_at}
use Rattle.code_blocks.specs.declared.instruction.Placed.{Placed}
use Rattle.code_blocks.specs.Placing.{placed, broken, is_last, is_place_at}
use Rattle.code_blocks.specs.Successors.{goes_behind, distances_by, has_bad_target}
use Rattle.code_blocks.specs.Laws.{IsSound}
use Rattle.code_flow.specs.Judging.{Judged, shown, is_end, meant, judged, judged_past, judged_if, judged_place, has_handlers, is_empty, against_method, against_break, places_in, places_at, places_of}
use Rattle.code_flow.specs.Program.{IsFree, HasNoConstruct}

-- ---- an instruction against which nothing stands

past_is : (falls_off : Bool) (meaning : Result (List MemberId) Construct) (construct : Option Construct) (ts : List MemberId) → judged_past falls_off meaning construct ≡ Ok ts
    → (falls_off ≡ false) × (meaning ≡ Ok ts) × (construct ≡ None)
past_is falls_off meaning (Some construct) ts e = absurd cc
past_is true meaning None ts e = absurd cc
past_is false meaning None ts e = (refl, e, refl)

abbrev pub IsPast : World → ℕ → List ℕ → Placed → List MemberId → Type 0
IsPast w current code p ts =
    ((is_last code p && not (is_end (action_of p.instr))) ≡ false) × (meant w current (class_at w current).pool (action_of p.instr) ≡ Ok ts) × (shown (class_at w current).pool (action_of p.instr) ≡ None)

pub judged_is : (w : World) (current : ℕ) (code : List ℕ) (p : Placed) (ts : List MemberId) → judged w current code p ≡ Ok ts → IsPast w current code p ts
unfolding judged
judged_is w current code p ts e =
    let pool : List (Option Constant) = (class_at w current).pool in
    past_is (is_last code p && not (is_end (action_of p.instr))) (meant w current pool (action_of p.instr)) (shown pool (action_of p.instr)) ts e

no_distance : (pool : List (Option Constant)) (code : List ℕ) (pc cases : ℕ) (action : Action) → shown pool action ≡ None → distances_by code pc cases action ≡ []
no_distance pool code pc cases (acts.IfZero test d) none = absurd cc
no_distance pool code pc cases (acts.IfInts test d) none = absurd cc
no_distance pool code pc cases (acts.IfSame same d) none = absurd cc
no_distance pool code pc cases (acts.IfNull null d) none = absurd cc
no_distance pool code pc cases (acts.Goto d) none = absurd cc
no_distance pool code pc cases (acts.Switch default low count pairs) none = absurd cc
no_distance pool code pc cases action none = refl

no_jump : (pool : List (Option Constant)) (code : List ℕ) (p : Placed) → shown pool (action_of p.instr) ≡ None → has_bad_target code p ≡ false
unfolding has_bad_target
no_jump pool code p none = ap (list_any (λ (d : ℤ). not (is_place_at (placed code) (pos p.pc +ℤ d)))) (no_distance pool code p.pc (case_count p.instr.args) (action_of p.instr) none)

ends : (action : Action) → is_end action ≡ true → goes_behind action ≡ false
ends (acts.Return kind) is = refl
ends acts.ReturnNothing is = refl
ends acts.Throw is = refl
ends action is = absurd cc

last_ends : (last end : Bool) → (last && not end) ≡ false → last ≡ true → end ≡ true
last_ends true true off is = refl
last_ends true false off is = absurd cc
last_ends false end off is = absurd cc

-- ---- its places

whole_by : (front : List Judged) (at : Option ℕ) → ((place : Judged) → Contains (front ++ against_break at) place → IsFree place) → at ≡ None
whole_by front None free = refl
whole_by front (Some pc) free =
    let place : Judged = record { pc = pc; verdict = Err constructs.Opcode } in
    let free_place = free place (Contains-append_right front (place ∷ []) place (contains_head place [])) in
    absurd (let no : Err constructs.Opcode ≡ Ok free_place.0 = free_place.1 in cc)

some_by : (front : List Judged) (bytes : List ℕ) → ((place : Judged) → Contains (front ++ judged_if (is_empty bytes) constructs.FallsOff) place → IsFree place) → 1 ≤ length bytes
some_by front (byte ∷ bytes) free = omega arith
some_by front [] free =
    let place : Judged = record { pc = 0; verdict = Err constructs.FallsOff } in
    let free_place = free place (Contains-append_right front (place ∷ []) place (contains_head place [])) in
    absurd (let no : Err constructs.FallsOff ≡ Ok free_place.0 = free_place.1 in cc)

-- the places of a method with this code
abbrev places : World → ℕ → Method → Code → List Judged
places w current method code = places_in w current method (Some code)

abbrev AreFree : List Judged → Type 0
AreFree all = (place : Judged) → Contains all place → IsFree place

abbrev judged_all : World → ℕ → List ℕ → List Judged
judged_all w current code = map (judged_place w current code) (placed code)

module _ (w : World) (current : ℕ) (method : Method) (code : Code) (free : AreFree (places w current method code)) where
  in_front : (place : Judged) → Contains (against_method method code ++ judged_all w current code.bytes) place → Contains (places w current method code) place
  in_front place there = Contains-append_left (against_method method code ++ judged_all w current code.bytes) (against_break (broken code.bytes)) place there

  verdict_in : (p : Placed) → Contains (placed code.bytes) p → (ts : List MemberId) × (judged w current code.bytes p ≡ Ok ts)
  verdict_in p there =
      let place : Judged = judged_place w current code.bytes p in
      let here : Contains (judged_all w current code.bytes) place = in_map (judged_place w current code.bytes) (placed code.bytes) p there in
      free place (in_front place (Contains-append_right (against_method method code) (judged_all w current code.bytes) place here))

  some_in : 1 ≤ length code.bytes
  some_in =
      let front : List Judged = judged_if (names_float method.desc) constructs.Float ++ judged_if (is_synchronized method.flags) constructs.Synchronized ++ judged_if (has_handlers code.handlers) constructs.Handler in
      some_by front code.bytes
      (λ place there. free place (in_front place (Contains-append_left (against_method method code) (judged_all w current code.bytes) place there)))

  sound_in : IsSound code.bytes
  sound_in = record {
    whole = whole_by (against_method method code ++ judged_all w current code.bytes) (broken code.bytes) free;
    jumps = λ p there.
        let verdict = verdict_in p there in
        no_jump (class_at w current).pool code.bytes p (judged_is w current code.bytes p verdict.0 verdict.1).2;
    stays = λ p there last.
        let verdict = verdict_in p there in
        ends (action_of p.instr) (last_ends (is_last code.bytes p) (is_end (action_of p.instr)) (judged_is w current code.bytes p verdict.0 verdict.1).0 last);
  }

-- ---- a method against which nothing stands

-- its code, with what is known of it
pub record HasFreeCode (w : World) (m : MemberId) (method : Method) : Type 0 where
  pub code : Code
  pub own : method.code ≡ Some code
  pub some : 1 ≤ length code.bytes
  pub sound : IsSound code.bytes
  pub verdicts : (p : Placed) → Contains (placed code.bytes) p → (ts : List MemberId) × (judged w m.class code.bytes p ≡ Ok ts)

free_of_all : (all : List Judged) → AllByRecursion IsFree all → AreFree all
free_of_all all free place there = All-contains IsFree all place (All-from_recursion IsFree all free) there

coded_in : (w : World) (m : MemberId) (method : Method) (o : Option Code) → method.code ≡ o → AreFree (places_in w m.class method o) → HasFreeCode w m method
coded_in w m method None is free =
    let place : Judged = record { pc = 0; verdict = Err constructs.AbstractTarget } in
    let free_place = free place (contains_head place []) in
    absurd (let no : Err constructs.AbstractTarget ≡ Ok free_place.0 = free_place.1 in cc)
coded_in w m method (Some code) is free = record {
  code = code;
  own = is;
  some = some_in w m.class method code free;
  sound = sound_in w m.class method code free;
  verdicts = verdict_in w m.class method code free;
}

places_are : (w : World) (m : MemberId) (method : Method) → method_at w m ≡ Some method → places_of w m ≡ places_in w m.class method method.code
unfolding places_of
places_are w m method e = ap (places_at w m.class) e

pub free_code : (w : World) (m : MemberId) (method : Method) → method_at w m ≡ Some method → HasNoConstruct w m → HasFreeCode w m method
free_code w m method e free =
    coded_in w m method method.code refl (free_of_all (places_in w m.class method method.code) (subst (λ (all : List Judged). AllByRecursion IsFree all) (places_are w m method e) free))
