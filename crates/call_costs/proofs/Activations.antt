-- What is known of an activation of a program's method, and of the instruction at which it stands.
use Rattle.std.proofs.Common.{◌≡◌, ℕ, List, [], ◌∷◌, ◌++◌, map, Option, Some, None, Result, Ok, Err, refl, sym, ◌∙◌, ap, subst, Contains}
use Rattle.std.specs.Prelude.{option_and_then, option_map}
use Rattle.std.specs.List.{AllByRecursion}
use Rattle.std.specs.Result.{result_ok}
use Rattle.std.proofs.lemmas.List.Elements.{All-from_recursion, All-contains, Contains-append_left, Contains-append_right}
use Rattle.common_laws.proofs.Members.{contains_head, in_map}
use Rattle.class_reader.specs.declared.class.Method.{Method}
use Rattle.class_reader.specs.declared.class.Code.{Code}
use Rattle.op_table.specs.Actions.{action_of}
use Rattle.op_table.specs.Grammar.{instr_at}
use Rattle.op_table.specs.declared.construct.Construct.TheVariants as constructs
use Rattle.op_table.specs.declared.instr.Instr.{Instr}
use Rattle.world.specs.declared.member.MemberId.{MemberId}
use Rattle.class_hierarchy.specs.World.{World}
use Rattle.frames.specs.declared.frame.Frame.{Frame}
use Rattle.frames.specs.declared.here.Here.{Here}
use Rattle.frames.specs.Outcome.{Outcome}
use Rattle.frames.specs.Standing.{Standing, standing_on, standing_in, standing_of, standing_at}
use Rattle.linking.specs.Methods.{method_at, code_at}
use Rattle.steps.specs.Step.{outcome_of}
use Rattle.steps.specs.Row as rows
use Rattle.steps.specs.Row.{Row, RowAt}
use Rattle.steps.proofs.Rows.{outcome_is_row}
use Rattle.code_flow.specs.Plans.{Planned, Plan}
use Rattle.code_blocks.specs.declared.instruction.Placed.{Placed}
use Rattle.code_blocks.specs.Placing.{placed, broken}
use Rattle.code_flow.specs.Judging.{Judged, judged, judged_place, against_method, against_break, places_in, places_at, places_of}
use Rattle.code_flow.specs.Listing.{targets_in}
use Rattle.code_flow.specs.Flow.{planned_place, planned_in, planned}
use Rattle.code_flow.specs.Program.{IsFree, Calls, IsProgram}
use Rattle.call_costs.proofs.Placing.{OnPath, path_instr, path_at}
use Rattle.call_costs.proofs.Stable.{the_method, found_method, listed_method}
use Rattle.call_costs.proofs.Words.{AreKnown}

abbrev pub IsListed : List Plan → MemberId → Type 0
IsListed program m = Contains (map (λ (r : Plan). r.method) program) m

-- the activation is one of a listed method, at an instruction, and its words are known
pub record IsStanding (w : World) (program : List Plan) (a : Here) : Type 0 where
  pub listed : IsListed program a.frame.method
  pub code : Code
  pub has_code : code_at w a.frame.method ≡ Some code
  pub path : OnPath code.bytes a.frame.pc
  pub locals : AreKnown w a.heap a.frame.locals
  pub stack : AreKnown w a.heap a.frame.stack

-- ---- a listed method

pub record IsOwn (w : World) (program : List Plan) (m : MemberId) : Type 0 where
  pub reached : Plan
  pub listed : Contains program reached
  pub of_method : reached.method ≡ m
  pub planned : reached ≡ planned w m
  pub found : the_method m program ≡ Some reached

pub own_reached : (w : World) (first m : MemberId) (program : List Plan) → IsProgram w first program → IsListed program m → IsOwn w program m
own_reached w first m program is listed =
    let r = listed_method m program listed in
    let there = found_method m program r.0 r.1 in
    let own : r.0 ≡ planned w r.0.method = is.own r.0 there.0 in
    record {
      reached = r.0;
      listed = there.0;
      of_method = sym there.1;
      planned = own ∙ ap (λ (n : MemberId). planned w n) (sym there.1);
      found = r.1;
    }

code_split : (o : Option Method) (code : Code) → option_and_then (λ (method : Method). method.code) o ≡ Some code → (method : Method) × (o ≡ Some method) × (method.code ≡ Some code)
code_split None code e = absurd cc
code_split (Some method) code e = (method, refl, e)

-- the places of a method with code
pub places_with : (w : World) (m : MemberId) (code : Code) → code_at w m ≡ Some code
    → (method : Method) × (places_of w m ≡ against_method method code ++ map (judged_place w m.class code.bytes) (placed code.bytes) ++ against_break (broken code.bytes))
unfolding places_of
places_with w m code e =
    let split = code_split (method_at w m) code e in
    let method : Method = split.0 in
    (method, ap (places_at w m.class) split.1 ∙ ap (places_in w m.class method) split.2)

places_free : (w : World) (first m : MemberId) (program : List Plan) → IsProgram w first program → IsListed program m → (place : Judged) → Contains (places_of w m) place → IsFree place
places_free w first m program is listed place there =
    let own = own_reached w first m program is listed in
    let free : AllByRecursion IsFree (places_of w m) = subst (λ (n : MemberId). AllByRecursion IsFree (places_of w n)) own.of_method (is.free own.reached own.listed) in
    All-contains IsFree (places_of w m) place (All-from_recursion IsFree (places_of w m) free) there

-- nothing stands against an instruction of it
pub verdict_at : (w : World) (first m : MemberId) (program : List Plan) (code : Code) (p : Placed) → IsProgram w first program → IsListed program m → code_at w m ≡ Some code
    → Contains (placed code.bytes) p → (ts : List MemberId) × (judged w m.class code.bytes p ≡ Ok ts)
verdict_at w first m program code p is listed has there =
    let places = places_with w m code has in
    let place : Judged = judged_place w m.class code.bytes p in
    let judged_places = map (judged_place w m.class code.bytes) (placed code.bytes) in
    let against = against_method places.0 code in
    let here : Contains judged_places place = in_map (judged_place w m.class code.bytes) (placed code.bytes) p there in
    let in_all = Contains-append_left (against ++ judged_places) (against_break (broken code.bytes)) place (Contains-append_right against judged_places place here) in
    places_free w first m program is listed place (subst (λ (all : List Judged). Contains all place) (sym places.1) in_all)

whole_by : (front : List Judged) (at : Option ℕ) → ((place : Judged) → Contains (front ++ against_break at) place → IsFree place) → at ≡ None
whole_by front None free = refl
whole_by front (Some pc) free =
    let place : Judged = record { pc = pc; verdict = Err constructs.Opcode } in
    let is = free place (Contains-append_right front (place ∷ []) place (contains_head place [])) in
    absurd (let no : Err constructs.Opcode ≡ Ok is.0 = is.1 in cc)

-- and its code isn't broken
pub code_whole : (w : World) (first m : MemberId) (program : List Plan) (code : Code) → IsProgram w first program → IsListed program m → code_at w m ≡ Some code → broken code.bytes ≡ None
code_whole w first m program code is listed has =
    let places = places_with w m code has in
    let front = against_method places.0 code ++ map (judged_place w m.class code.bytes) (placed code.bytes) in
    whole_by front (broken code.bytes)
    (λ place there. places_free w first m program is listed place (subst (λ (all : List Judged). Contains all place) (sym places.1) there))

-- its instructions
pub own_instructions : (w : World) (m : MemberId) (code : Code) → code_at w m ≡ Some code → (planned w m).instructions ≡ map (planned_place w m.class code.bytes) (placed code.bytes)
unfolding planned
own_instructions w m code has = ap (planned_in w m.class) has

-- ---- the instruction at which an activation stands

standing_by : (w : World) (frame : Frame) (o : Option Method) (code : Code) (i : Instr) → option_and_then (λ (method : Method). method.code) o ≡ Some code → instr_at code.bytes frame.pc ≡ Ok i
    → (method : Method) × (option_and_then (standing_of w frame) o ≡ Some (standing_on w frame method code i))
standing_by w frame None code i has is = absurd cc
standing_by w frame (Some method) code i has is =
    (method, ap (option_and_then (standing_in w frame method)) has ∙ ap (λ (r : Result Instr _). option_map (standing_on w frame method code) (result_ok r)) is)

standing_is : (w : World) (frame : Frame) (code : Code) (i : Instr) → code_at w frame.method ≡ Some code → instr_at code.bytes frame.pc ≡ Ok i
    → (method : Method) × (standing_at w frame ≡ Some (standing_on w frame method code i))
unfolding standing_at
standing_is w frame code i has is = standing_by w frame (method_at w frame.method) code i has is

row_in : {o : Outcome} (w : World) (a : Here) (s : Standing) → RowAt w a o → standing_at w a.frame ≡ Some s → Row w s a (action_of s.instr) o
row_in w a s (rows.nowhere none) is = absurd cc
row_in {o = o} w a s (rows.stands t at row) is =
    let same : t ≡ s = cc in
    subst (λ (x : Standing). Row w x a (action_of x.instr) o) same row

-- the instruction, the methods that it can call, and what it makes
pub record Current (w : World) (program : List Plan) (a : Here) (code : Code) : Type 0 where
  pub instr : Instr
  pub is : instr_at code.bytes a.frame.pc ≡ Ok instr
  pub targets : List MemberId
  pub verdict : judged w a.frame.method.class code.bytes (record { pc = a.frame.pc; instr = instr }) ≡ Ok targets
  pub method : Method
  pub stands : standing_at w a.frame ≡ Some (standing_on w a.frame method code instr)
  pub row : Row w (standing_on w a.frame method code instr) a (action_of instr) (outcome_of w a)

pub current_of : (w : World) (first : MemberId) (program : List Plan) (a : Here) → IsProgram w first program → (s : IsStanding w program a) → Current w program a s.code
current_of w first program a is s =
    let i = path_instr s.code.bytes a.frame.pc s.path in
    let verdict = verdict_at w first a.frame.method program s.code (record { pc = a.frame.pc; instr = i.0 }) is s.listed s.has_code (path_at s.code.bytes a.frame.pc i.0 s.path i.1) in
    let stands = standing_is w a.frame s.code i.0 s.has_code i.1 in
    record {
      instr = i.0;
      is = i.1;
      targets = verdict.0;
      verdict = verdict.1;
      method = stands.0;
      stands = stands.1;
      row = row_in w a (standing_on w a.frame stands.0 s.code i.0) (outcome_is_row w a) stands.1;
    }

-- the method calls each of them
pub current_calls : (w : World) (first : MemberId) (program : List Plan) (a : Here) (t : MemberId) → IsProgram w first program → (s : IsStanding w program a) → (p : Current w program a s.code)
    → Contains p.targets t → Calls program a.frame.method t
current_calls w first program a t is s p there =
    let m : MemberId = a.frame.method in
    let own = own_reached w first m program is s.listed in
    let place : Placed = record { pc = a.frame.pc; instr = p.instr } in
    let at : Contains (placed s.code.bytes) place = path_at s.code.bytes a.frame.pc p.instr s.path p.is in
    let instructions = map (planned_place w m.class s.code.bytes) (placed s.code.bytes) in
    let same : own.reached.instructions ≡ instructions = ap (λ (r : Plan). r.instructions) own.planned ∙ own_instructions w m s.code s.has_code in
    let this : Planned = planned_place w m.class s.code.bytes place in
    record {
      caller = own.reached;
      listed = own.listed;
      is_caller = own.of_method;
      instruction = this;
      stands = subst (λ (all : List Planned). Contains all this) (sym same) (in_map (planned_place w m.class s.code.bytes) (placed s.code.bytes) place at);
      calls = subst (λ (r : Result (List MemberId) _). Contains (targets_in r) t) (sym p.verdict) there;
    }
