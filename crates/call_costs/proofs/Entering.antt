-- Each configuration of a run stands in the program.
use Rattle.std.proofs.Common.{◌≡◌, inl, ℕ, suc, false, ◌<◌, List, [], ◌∷◌, length, map, get_or, Option, Some, refl, sym, ◌∙◌, ap, subst, arith, Contains}
use Rattle.std.specs.Prelude.{slice_get, option_and_then}
use Rattle.std.proofs.lemmas.List.Elements.{All-nil, All-cons, All-append, All-weaker, Contains-get_or, recursion_from_All}
use Rattle.common_laws.proofs.Members.{contains_head, in_map}
use Rattle.class_reader.specs.declared.class.Method.{Method}
use Rattle.world.specs.declared.member.MemberId.{MemberId}
use Rattle.class_hierarchy.specs.World.{World}
use Rattle.class_hierarchy.specs.Building.{IsWellBuilt}
use Rattle.nested_runs.proofs.Kept.{nest_since, top_since}
use Rattle.frames.specs.declared.value.Value.{Value}
use Rattle.frames.specs.declared.value.Value.TheVariants.{Int, Long, Pad, Null, Ref}
use Rattle.frames.specs.declared.heap.Cell.{Cell}
use Rattle.frames.specs.declared.here.Here.{Here}
use Rattle.steps.specs.declared.configuration.State.{State}
use Rattle.frames.specs.Heap.{Cells, cell_at}
use Rattle.linking.specs.Methods.{code_at}
use Rattle.entries.specs.Entry.{IsHeld, words_of_value, words_of_values, IsEntry}
use Rattle.machine.specs.Run.{IsRun}
use Rattle.machine.specs.Moment.{Moment}
use Rattle.machine.proofs.Moments.{at_moment}
use Rattle.code_flow.specs.Plans.{Planned, Plan}
use Rattle.code_blocks.specs.declared.instruction.Placed.{Placed}
use Rattle.code_blocks.specs.Placing.{placed}
use Rattle.code_flow.specs.Flow.{planned, planned_place}
use Rattle.code_flow.specs.Program.{IsProgram}
use Rattle.call_costs.specs.Standing.{IsSound, Stands, HasInstructions}
use Rattle.call_costs.proofs.Placing.{path_start, path_instr, path_at}
use Rattle.call_costs.proofs.Words.{IsKnown, AreKnown, first_known}
use Rattle.call_costs.proofs.Heaps.{grows_self}
use Rattle.call_costs.proofs.Activations.{IsListed, IsStanding, own_reached, own_instructions, code_whole}
use Rattle.call_costs.proofs.Standing.{Since, standing_kept}

-- ---- an entry

held_known : (w : World) (heap : Cells) (r : ℕ) → IsHeld w heap (cell_at heap r) → IsKnown w heap (Ref r)
held_known w heap r held = λ c fields at.
    let is = subst (λ (cell : Option Cell). IsHeld w heap cell) at held in
    (is.known, is.instantiable)

argument_known : (w : World) (heap : Cells) (arguments : List Value) (value : Value) → ((a : ℕ) → Contains arguments (Ref a) → IsHeld w heap (cell_at heap a)) → Contains arguments value → IsKnown w heap value
argument_known w heap arguments (Int n) held there = tt
argument_known w heap arguments (Long n) held there = tt
argument_known w heap arguments Pad held there = tt
argument_known w heap arguments Null held there = tt
argument_known w heap arguments (Ref r) held there = held_known w heap r (held r there)

value_words : (w : World) (heap : Cells) (value : Value) → IsKnown w heap value → AreKnown w heap (words_of_value value)
value_words w heap (Int n) known = All-cons (IsKnown w heap) (Int n) [] tt (All-nil (IsKnown w heap))
value_words w heap (Long n) known = All-cons (IsKnown w heap) (Long n) (Pad ∷ []) tt (All-cons (IsKnown w heap) Pad [] tt (All-nil (IsKnown w heap)))
value_words w heap Pad known = All-cons (IsKnown w heap) Pad [] tt (All-nil (IsKnown w heap))
value_words w heap Null known = All-cons (IsKnown w heap) Null [] tt (All-nil (IsKnown w heap))
value_words w heap (Ref r) known = All-cons (IsKnown w heap) (Ref r) [] known (All-nil (IsKnown w heap))

values_words : (w : World) (heap : Cells) (values : List Value) → ((k : ℕ) (d : Value) → k < length values → IsKnown w heap (get_or values k d)) → AreKnown w heap (words_of_values values)
values_words w heap [] all = All-nil (IsKnown w heap)
values_words w heap (value ∷ values) all =
    All-append (IsKnown w heap) (words_of_value value) (words_of_values values)
    (value_words w heap value (all 0 value (omega arith)))
    (values_words w heap values (λ k d inside. all (suc k) d (omega arith)))

first_listed : (w : World) (m : MemberId) (program : List Plan) → slice_get program 0 ≡ Some (planned w m) → IsListed program m
unfolding planned
first_listed w m [] e = absurd cc
first_listed w m (r ∷ others) e =
    let same : r ≡ planned w m = cc in
    subst (λ (n : MemberId). IsListed (r ∷ others) n) (ap (λ (x : Plan). x.method) same) (contains_head r.method (map (λ (x : Plan). x.method) others))

pub program_listed : (w : World) (m : MemberId) (program : List Plan) → IsProgram w m program → IsListed program m
program_listed w m program is = first_listed w m program is.start

pub entry_code : (w : World) (m : MemberId) (first : State) → (e : IsEntry w m first) → code_at w m ≡ Some e.code
entry_code w m first e = ap (option_and_then (λ (method : Method). method.code)) e.declared ∙ e.has_code

pub entry_stands : (w : World) (m : MemberId) (program : List Plan) (first : State) → IsProgram w m program → (e : IsEntry w m first) → 0 < length e.code.bytes
    → IsStanding w program first.here
entry_stands w m program first is e some =
    let listed = program_listed w m program is in
    let has = entry_code w m first e in
    let held : (a : ℕ) → Contains e.arguments (Ref a) → IsHeld w e.heap (cell_at e.heap a) = λ a there. e.handed.held a a there (inl refl) in
    let known : AreKnown w e.heap (words_of_values e.arguments) =
    values_words w e.heap e.arguments (λ k d inside. argument_known w e.heap e.arguments (get_or e.arguments k d) held (Contains-get_or e.arguments k d inside))
    in
    subst (λ (s : State). IsStanding w program s.here) (sym e.entered)
    (record {
      listed = listed;
      code = e.code;
      has_code = has;
      path = path_start e.code.bytes some (code_whole w m m program e.code is listed has);
      locals = first_known w e.heap (words_of_values e.arguments) e.code.max_locals known;
      stack = All-nil (IsKnown w e.heap);
    })

-- ---- a moment

pub moment_since : (w : World) (m : MemberId) (program : List Plan) (weights : ℕ → ℕ) (first now : State) → IsWellBuilt w → IsProgram w m program → IsStanding w program first.here
    → Moment w weights false first now → (start : Here) × Since w program start now.here
moment_since w m program weights first now well is stands moment =
    let begun : Since w program first.here first.here = record { stands = stands; grows = grows_self w first.here.heap } in
    top_since (nest_since (standing_kept weights well is) begun moment.nest)

word_sound : (w : World) (heap : Cells) (value : Value) → IsKnown w heap value → IsSound w heap value
word_sound w heap (Int n) known = tt
word_sound w heap (Long n) known = tt
word_sound w heap Pad known = tt
word_sound w heap Null known = tt
word_sound w heap (Ref r) known = λ c fields at. (known c fields at).1

standing_told : (w : World) (m : MemberId) (program : List Plan) (a : Here) → IsProgram w m program → IsStanding w program a → Stands w program a
standing_told w m program a is s =
    let n : MemberId = a.frame.method in
    let own = own_reached w m n program is s.listed in
    let i = path_instr s.code.bytes a.frame.pc s.path in
    let place : Placed = record { pc = a.frame.pc; instr = i.0 } in
    let at : Contains (placed s.code.bytes) place = path_at s.code.bytes a.frame.pc i.0 s.path i.1 in
    let this : Planned = planned_place w n.class s.code.bytes place in
    let same : own.reached.instructions ≡ map (planned_place w n.class s.code.bytes) (placed s.code.bytes) = ap (λ (r : Plan). r.instructions) own.planned ∙ own_instructions w n s.code s.has_code in
    let sound = word_sound w a.heap in
    record {
      reached = own.reached;
      listed = own.listed;
      is_method = own.of_method;
      instruction = this;
      placed = subst (λ (all : List Planned). Contains all this) (sym same) (in_map (planned_place w n.class s.code.bytes) (placed s.code.bytes) place at);
      at = refl;
      locals = recursion_from_All (IsSound w a.heap) a.frame.locals (All-weaker (IsKnown w a.heap) (IsSound w a.heap) sound a.frame.locals s.locals);
      stack = recursion_from_All (IsSound w a.heap) a.frame.stack (All-weaker (IsKnown w a.heap) (IsSound w a.heap) sound a.frame.stack s.stack);
    }

pub run_stands : (w : World) (m : MemberId) (program : List Plan) (weights : ℕ → ℕ) (run : List State) (moment : ℕ) (now : State)
    → IsWellBuilt w → IsProgram w m program → HasInstructions w m → IsRun w weights m run → slice_get run moment ≡ Some now → Stands w program now.here
run_stands w m program weights [] moment now well is has runs at = absurd runs
run_stands w m program weights (first ∷ later) moment now well is has runs at =
    let entry = runs.0 in
    let stands = entry_stands w m program first is entry (has entry.code (entry_code w m first entry)) in
    let since = moment_since w m program weights first now well is stands (at_moment w weights false m first later runs moment now at tt) in
    standing_told w m program now.here is since.1.stands
