-- How much a step adds to the heap and to what is spent.
use Rattle.std.proofs.Common.{Bool, true, false, ◌≡◌, ℕ, suc, ◌+◌, ◌≤◌, List, [], ◌∷◌, length, Option, Some, None, ap, arith, length-set}
use Rattle.std.specs.Option.{option_map_or}
use Rattle.std.specs.Prelude.{slice_set, Result, Ok, Err, IfOk, OnErr}
use Rattle.op_table.specs.declared.acts.Action.{Action}
use Rattle.class_hierarchy.specs.World.{World}
use Rattle.frames.specs.declared.value.Value.{Value}
use Rattle.frames.specs.declared.heap.Cell.{Cell}
use Rattle.frames.specs.declared.frame.Frame.{Frame}
use Rattle.frames.specs.declared.here.Here.{Here}
use Rattle.steps.specs.declared.configuration.State.{State}
use Rattle.steps.specs.declared.configuration.Event.{Event}
use Rattle.frames.specs.Heap.{Cells, cell_at, with_cell, with_item, with_member}
use Rattle.frames.specs.Outcome.{Goes, Throws, Stops, Outcome, Enters, Leaves}
use Rattle.frames.specs.Standing.{Standing}
use Rattle.object_steps.specs.After.{After}
use Rattle.object_steps.specs.ArrayCases as array_cases
use Rattle.object_steps.specs.ArrayCases.{ArrayChange}
use Rattle.object_steps.specs.FieldCases as field_cases
use Rattle.object_steps.specs.FieldCases.{FieldChange}
use Rattle.object_steps.specs.CastCases as cast_cases
use Rattle.object_steps.specs.CastCases.{CastChange}
use Rattle.steps.specs.Row.{Row, RowAt}
use Rattle.steps.specs.Row as rows
use Rattle.steps.specs.Step.{leave, outcome_of, resumed, return_to, settle}
use Rattle.steps.proofs.Rows.{outcome_is_row}

-- ---- the heap

cell_grows : (cell : Cell) (heap : Cells) → length (with_cell cell heap) ≤ suc (length heap)
cell_grows cell [] = omega arith
cell_grows cell (None ∷ heap) = omega arith
cell_grows cell (Some other ∷ heap) = omega (arith, cell_grows cell heap)

-- at most one number more is held
abbrev pub Holds : Here → Outcome → Type 0
Holds at (Goes wraps here) = length here.heap ≤ suc (length at.heap)
Holds at (Enters caller callee) = Unit {0}
Holds at (Leaves value) = Unit {0}
Holds at (Throws what) = Unit {0}
Holds at (Stops k) = Unit {0}

changed_holds : (change : Cell → Cell) (r : ℕ) (heap : Cells) (at : Option Cell) → length (option_map_or (λ (cell : Cell). slice_set heap r (Some (change cell))) at heap) ≤ suc (length heap)
changed_holds change r heap None = omega arith
changed_holds change r heap (Some cell) = omega (arith, length-set heap r (Some (change cell)))

array_holds : {w : World} {s : Standing} {at : Here} {action : Action} {a : After} → ArrayChange w s at action a → length a.heap ≤ suc (length at.heap)
array_holds (array_cases.loads a1 a2 a3 a4) = omega arith
array_holds {at = at} (array_cases.stores {a = a} {i = i} a1 a2 a3 a4 a5) = changed_holds (with_item i _) a.number at.heap (cell_at at.heap a.number)
array_holds (array_cases.length_read a1 a2 a3 a4) = omega arith
array_holds {at = at} (array_cases.makes a1 a2 a3) = cell_grows _ at.heap
array_holds {at = at} (array_cases.makes_references a1 a2 a3 a4) = cell_grows _ at.heap

field_holds : {w : World} {s : Standing} {at : Here} {action : Action} {a : After} → FieldChange w s at action a → length a.heap ≤ suc (length at.heap)
field_holds (field_cases.gets a1 a2 a3 a4) = omega arith
field_holds {at = at} (field_cases.puts {r = r} {f = f} a1 a2 a3 a4 a5) = changed_holds (with_member f.field _) r at.heap (cell_at at.heap r)
field_holds (field_cases.gets_static a1 a2) = omega arith
field_holds (field_cases.puts_static a1 a2 a3) = omega arith

cast_holds : {w : World} {s : Standing} {at : Here} {action : Action} {a : After} → CastChange w s at action a → length a.heap ≤ suc (length at.heap)
cast_holds (cast_cases.null_passes a1 a2 a3) = omega arith
cast_holds (cast_cases.passes a1 a2 a3 a4) = omega arith
cast_holds (cast_cases.null_is_none a1 a2 a3) = omega arith
cast_holds (cast_cases.is_one a1 a2 a3 a4) = omega arith
cast_holds (cast_cases.is_none a1 a2 a3 a4) = omega arith

row_holds : {w : World} {s : Standing} {at : Here} {action : Action} {outcome : Outcome} → Row w s at action outcome → Holds at outcome
row_holds (rows.computes made room) = omega arith
row_holds (rows.jumps is to room) = omega arith
row_holds {w} {s} {at} (rows.creates means room) = cell_grows _ at.heap
row_holds (rows.arrays is room) = array_holds is
row_holds (rows.fields is room) = field_holds is
row_holds (rows.casts is room) = cast_holds is
row_holds (rows.arrays_throw is) = tt
row_holds (rows.fields_throw is) = tt
row_holds (rows.casts_throw is) = tt
row_holds (rows.enters called) = tt
row_holds (rows.returns top typed) = tt
row_holds (rows.returns_nothing typed) = tt
row_holds (rows.divides by) = tt
row_holds (rows.null_receiver called) = tt
row_holds (rows.null_thrown top) = tt
row_holds (rows.given top) = tt
row_holds rows.stops = tt

at_holds : {w : World} {at : Here} {outcome : Outcome} → RowAt w at outcome → Holds at outcome
at_holds (rows.nowhere none) = tt
at_holds (rows.stands s is row) = row_holds row

return_holds : (cost : ℕ) (before : State) (callers : List Frame) (frame : Option Frame) → length (return_to cost before callers frame).1.here.heap ≤ suc (length before.here.heap)
return_holds cost before callers None = omega arith
return_holds cost before callers (Some frame) = omega arith

leave_holds : (w : World) (cost : ℕ) (before : State) (value : Option Value) (callers : List Frame) → length (leave w cost before value callers).1.here.heap ≤ suc (length before.here.heap)
leave_holds w cost before value [] = omega arith
leave_holds w cost before value (caller ∷ callers) = return_holds cost before callers (resumed w caller value)

settle_holds : (w : World) (cost : ℕ) (before : State) (outcome : Outcome) → Holds before.here outcome → length (settle w cost before outcome).1.here.heap ≤ suc (length before.here.heap)
settle_holds w cost before (Goes false here) holds = holds
settle_holds w cost before (Goes true here) holds = holds
settle_holds w cost before (Throws what) holds = omega arith
settle_holds w cost before (Stops k) holds = omega arith
settle_holds w cost before (Enters caller callee) holds = omega arith
settle_holds w cost before (Leaves value) holds = leave_holds w cost before value before.callers

-- a step adds one number at most
pub held_after : {E : Type 0} (r : Result Event E) (w : World) (cost : ℕ) (before now : State)
    → IfOk r (λ (event : Event). settle w cost before (outcome_of w before.here) ≡ (event, now)) → OnErr r (now ≡ before) → length now.here.heap ≤ length before.here.heap + 1
held_after (Ok event) w cost before now made kept =
    omega (arith, settle_holds w cost before (outcome_of w before.here) (at_holds (outcome_is_row w before.here)), ap (λ (s : Event × State). length s.1.here.heap) made)
held_after (Err error) w cost before now made kept = omega (arith, ap (λ (s : State). length s.here.heap) kept)

-- ---- what is spent

return_spends : (cost : ℕ) (before : State) (callers : List Frame) (frame : Option Frame) → (return_to cost before callers frame).1.spent ≤ before.spent + cost
return_spends cost before callers None = omega arith
return_spends cost before callers (Some frame) = omega arith

leave_spends : (w : World) (cost : ℕ) (before : State) (value : Option Value) (callers : List Frame) → (leave w cost before value callers).1.spent ≤ before.spent + cost
leave_spends w cost before value [] = omega arith
leave_spends w cost before value (caller ∷ callers) = return_spends cost before callers (resumed w caller value)

settle_spends : (w : World) (cost : ℕ) (before : State) (outcome : Outcome) → (settle w cost before outcome).1.spent ≤ before.spent + cost
settle_spends w cost before (Goes false here) = omega arith
settle_spends w cost before (Goes true here) = omega arith
settle_spends w cost before (Throws what) = omega arith
settle_spends w cost before (Stops k) = omega arith
settle_spends w cost before (Enters caller callee) = omega arith
settle_spends w cost before (Leaves value) = leave_spends w cost before value before.callers

-- a step spends its cost at most
pub spent_after : {E : Type 0} (r : Result Event E) (w : World) (cost : ℕ) (before now : State) (outcome : Outcome)
    → IfOk r (λ (event : Event). settle w cost before outcome ≡ (event, now)) → OnErr r (now ≡ before) → cost ≤ 1000000 → now.spent ≤ before.spent + 1000000
spent_after (Ok event) w cost before now outcome made kept small = omega (arith, settle_spends w cost before outcome, ap (λ (s : Event × State). s.1.spent) made, small)
spent_after (Err error) w cost before now outcome made kept small = omega (arith, ap (λ (s : State). s.spent) kept)
