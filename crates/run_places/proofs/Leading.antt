-- Where an instruction goes on in its frame, it goes to one of its successors.
use Rattle.std.proofs.Common.{◌≡◌, ◌⊎◌, inl, inr, ℕ, zero, suc, ◌+◌, ◌<◌, ◌≤◌, Bool, true, false, List, [], ◌∷◌, Option, Some, Ok, refl, sym, ◌∙◌, ap, subst, arith, Contains, ℤ, pos, ◌+ℤ◌}
use Rattle.std.specs.Prelude.{if◌then◌else◌}
use Rattle.common_laws.proofs.Members.{contains_head, contains_tail, in_flat}
use Rattle.class_pool.specs.declared.constant.Constant.{Constant}
use Rattle.op_table.specs.Actions.{action_of}
use Rattle.op_table.specs.Cases.{case_at, case_count, cases_of}
use Rattle.op_table.specs.Grammar.{instr_at}
use Rattle.op_table.specs.declared.instr.Instr.{Instr}
use Rattle.op_table.specs.declared.acts.Action.{Action}
use Rattle.op_table.specs.declared.acts.Action.TheVariants as acts
use Rattle.class_hierarchy.specs.World.{World}
use Rattle.code_blocks.specs.declared.instruction.Placed.{Placed}
use Rattle.code_blocks.specs.Successors.{goes_behind, case_distances, distances_by, distances, places_of, place_so_far, successors_of}
use Rattle.code_blocks.proofs.Sets.{successors_are_a_set}
use Rattle.frames.specs.declared.value.Value.{Value}
use Rattle.frames.specs.declared.frame.Frame.{Frame}
use Rattle.frames.specs.declared.here.Here.{Here}
use Rattle.frames.specs.Outcome.{Outcome, Goes, placed_at, moved}
use Rattle.frames.specs.Standing.{Standing, next_pc, standing_at}
use Rattle.word_steps.specs.Computed as computed
use Rattle.word_steps.specs.Computed.{Computed}
use Rattle.word_steps.specs.Branches as ways
use Rattle.word_steps.specs.Branches.{Chosen, Jumps}
use Rattle.word_steps.proofs.Counts.{known_cases}
use Rattle.object_steps.specs.After.{After, left}
use Rattle.object_steps.specs.ArrayCases as arrays
use Rattle.object_steps.specs.ArrayCases.{ArrayChange}
use Rattle.object_steps.specs.FieldCases as fields
use Rattle.object_steps.specs.FieldCases.{FieldChange}
use Rattle.object_steps.specs.CastCases as casts
use Rattle.object_steps.specs.CastCases.{CastChange}
use Rattle.steps.specs.Step.{outcome_of}
use Rattle.steps.specs.Row as rows
use Rattle.steps.specs.Row.{Row, RowAt}
use Rattle.steps.proofs.Rows.{outcome_is_row}
use Rattle.well_formed.proofs.Pushes.{IsRead, standing_read}
use Rattle.run_places.specs.Standing.{place_of}

-- ---- instructions behind which the code goes on

computed_on : {pool : List (Option Constant)} {locals stack now after : List Value} {action : Action} {wrapping : Bool} → Computed pool locals stack action wrapping now after → goes_behind action ≡ true
computed_on computed.nothing = refl
computed_on computed.null = refl
computed_on computed.int = refl
computed_on computed.long = refl
computed_on (computed.int_constant is) = refl
computed_on (computed.long_constant is) = refl
computed_on (computed.load is) = refl
computed_on (computed.store is to) = refl
computed_on (computed.shuffle is) = refl
computed_on (computed.arithmetic is whole) = refl
computed_on (computed.negate is) = refl
computed_on (computed.shift is) = refl
computed_on (computed.logic is) = refl
computed_on (computed.increment is) = refl
computed_on (computed.int_to_long is) = refl
computed_on (computed.long_to_int is) = refl
computed_on (computed.narrow is) = refl
computed_on (computed.compare is) = refl

array_on : {w : World} {s : Standing} {at : Here} {action : Action} {a : After} → ArrayChange w s at action a → goes_behind action ≡ true
array_on (arrays.loads a1 a2 a3 a4) = refl
array_on (arrays.stores a1 a2 a3 a4 a5) = refl
array_on (arrays.length_read a1 a2 a3 a4) = refl
array_on (arrays.makes a1 a2 a3) = refl
array_on (arrays.makes_references a1 a2 a3 a4) = refl

field_on : {w : World} {s : Standing} {at : Here} {action : Action} {a : After} → FieldChange w s at action a → goes_behind action ≡ true
field_on (fields.gets a1 a2 a3 a4) = refl
field_on (fields.puts a1 a2 a3 a4 a5) = refl
field_on (fields.gets_static a1 a2) = refl
field_on (fields.puts_static a1 a2 a3) = refl

cast_on : {w : World} {s : Standing} {at : Here} {action : Action} {a : After} → CastChange w s at action a → goes_behind action ≡ true
cast_on (casts.null_passes a1 a2 a3) = refl
cast_on (casts.passes a1 a2 a3 a4) = refl
cast_on (casts.null_is_none a1 a2 a3) = refl
cast_on (casts.is_one a1 a2 a3 a4) = refl
cast_on (casts.is_none a1 a2 a3 a4) = refl

-- ---- jumps

-- behind the instruction, or as far as it can jump
abbrev pub GoesFar : List ℕ → ℕ → ℕ → ℕ → Action → ℤ → Type 0
GoesFar code pc len cases action far = ((goes_behind action ≡ true) × (far ≡ pos len)) ⊎ Contains (distances_by code pc cases action) far

branch_far : (passes : Bool) (d : ℤ) (len : ℕ) → ((if passes then d else pos len) ≡ pos len) ⊎ Contains (d ∷ []) (if passes then d else pos len)
branch_far true d len = inr (contains_head d [])
branch_far false d len = inl refl

case_there : (code : List ℕ) (pc i k n : ℕ) → i < n → Contains (case_distances code pc k n) (case_at code pc (k + i)).1
case_there code pc i k zero below = absurd (omega arith)
case_there code pc zero k (suc n) below =
    let same : k ≡ k + 0 = omega arith in
    subst (λ (j : ℕ). Contains ((case_at code pc k).1 ∷ case_distances code pc (suc k) n) (case_at code pc j).1) same (contains_head (case_at code pc k).1 (case_distances code pc (suc k) n))
case_there code pc (suc i) k (suc n) below =
    let same : suc k + i ≡ k + suc i = omega arith in
    contains_tail (case_at code pc k).1 (case_distances code pc (suc k) n) (case_at code pc (k + suc i)).1
    (subst (λ (j : ℕ). Contains (case_distances code pc (suc k) n) (case_at code pc j).1) same (case_there code pc i (suc k) n (omega arith)))

chosen_far : {code : List ℕ} {pc count : ℕ} {n default far : ℤ} (cases : ℕ) → count ≤ cases → Chosen code pc n default count far → Contains (default ∷ case_distances code pc 0 cases) far
chosen_far {code = code} {pc = pc} {default = default} cases few (ways.matched {i = i} below is first) =
    contains_tail default (case_distances code pc 0 cases) (case_at code pc i).1
    (let same : 0 + i ≡ i = omega arith in subst (λ (j : ℕ). Contains (case_distances code pc 0 cases) (case_at code pc j).1) same (case_there code pc i 0 cases (omega arith)))
chosen_far {code = code} {pc = pc} {default = default} cases few (ways.unmatched none) = contains_head default (case_distances code pc 0 cases)

-- a switch has no more cases than its operands say
abbrev pub HasFewCases : Action → ℕ → Type 0
HasFewCases (acts.Switch default low count pairs) cases = count ≤ cases
HasFewCases action cases = Unit {0}

jump_far : {code : List ℕ} {pc len : ℕ} {stack rest : List Value} {action : Action} {far : ℤ} (cases : ℕ) → HasFewCases action cases → Jumps code pc len stack action far rest → GoesFar code pc len cases action far
jump_far {len = len} cases few (ways.if_zero {d = d} {passes = passes} is by) = elim (branch_far passes d len) [ inl past ↦ inl (refl, past) | inr there ↦ inr there ]
jump_far {len = len} cases few (ways.if_ints {d = d} {passes = passes} is by) = elim (branch_far passes d len) [ inl past ↦ inl (refl, past) | inr there ↦ inr there ]
jump_far {len = len} cases few (ways.if_same {d = d} {passes = passes} is by) = elim (branch_far passes d len) [ inl past ↦ inl (refl, past) | inr there ↦ inr there ]
jump_far {len = len} cases few (ways.if_null {d = d} {passes = passes} is by) = elim (branch_far passes d len) [ inl past ↦ inl (refl, past) | inr there ↦ inr there ]
jump_far cases few (ways.goto {d = d}) = inr (contains_head d [])
jump_far cases few (ways.switch is chosen) = inr (chosen_far cases few chosen)

-- ---- all instructions

-- the frame goes on behind the instruction, or where it jumps to
pub record GoesTo (s : Standing) (at now : Here) (cases : ℕ) (action : Action) : Type 0 where
  pub far : ℤ
  pub by : GoesFar s.code.bytes at.frame.pc s.instr.len cases action far
  pub to : pos at.frame.pc +ℤ far ≡ pos now.frame.pc
  pub method : now.frame.method ≡ at.frame.method

goes_past : (s : Standing) (at now : Here) (cases : ℕ) (action : Action) → goes_behind action ≡ true → next_pc s at ≡ now.frame.pc → at.frame.method ≡ now.frame.method → GoesTo s at now cases action
goes_past s at now cases action on pc method = record { far = pos s.instr.len; by = inl (on, refl); to = ap pos pc; method = sym method }

row_goes : (w : World) (s : Standing) (at now : Here) (wraps : Bool) (cases : ℕ) {action : Action} {o : Outcome} → HasFewCases action cases → Row w s at action o → o ≡ Goes wraps now → GoesTo s at now cases action
row_goes w s at now wraps cases {action = action} few (rows.computes {locals = locals} {stack = stack} c room) e =
    let same : moved s at locals stack at.heap ≡ now = cc in
    goes_past s at now cases action (computed_on c) (ap (λ (x : Here). x.frame.pc) same) (ap (λ (x : Here). x.frame.method) same)
row_goes w s at now wraps cases few (rows.jumps {far = far} {stack = stack} {pc = pc} j to room) e =
    let same : placed_at pc at at.frame.locals stack at.heap ≡ now = cc in
    record {
      far = far;
      by = jump_far cases few j;
      to = to ∙ ap (λ (x : Here). pos x.frame.pc) same;
      method = ap (λ (x : Here). x.frame.method) (sym same);
    }
row_goes w s at now wraps cases {action = action} few (rows.arrays {a = a} c room) e =
    let same : left s at a ≡ now = cc in
    goes_past s at now cases action (array_on c) (ap (λ (x : Here). x.frame.pc) same) (ap (λ (x : Here). x.frame.method) same)
row_goes w s at now wraps cases {action = action} few (rows.fields {a = a} c room) e =
    let same : left s at a ≡ now = cc in
    goes_past s at now cases action (field_on c) (ap (λ (x : Here). x.frame.pc) same) (ap (λ (x : Here). x.frame.method) same)
row_goes w s at now wraps cases {action = action} few (rows.casts {a = a} c room) e =
    let same : left s at a ≡ now = cc in
    goes_past s at now cases action (cast_on c) (ap (λ (x : Here). x.frame.pc) same) (ap (λ (x : Here). x.frame.method) same)
row_goes w s at now wraps cases {action = action} few (rows.creates {c = c} means room) e =
    let same : rows.with_object w s at c ≡ now = cc in
    goes_past s at now cases action refl (ap (λ (x : Here). x.frame.pc) same) (ap (λ (x : Here). x.frame.method) same)
row_goes w s at now wraps cases few (rows.arrays_throw t) e = absurd cc
row_goes w s at now wraps cases few (rows.fields_throw t) e = absurd cc
row_goes w s at now wraps cases few (rows.casts_throw t) e = absurd cc
row_goes w s at now wraps cases few (rows.enters called) e = absurd cc
row_goes w s at now wraps cases few (rows.null_receiver called) e = absurd cc
row_goes w s at now wraps cases few (rows.returns top typed) e = absurd cc
row_goes w s at now wraps cases few (rows.returns_nothing is) e = absurd cc
row_goes w s at now wraps cases few (rows.divides by) e = absurd cc
row_goes w s at now wraps cases few (rows.null_thrown is) e = absurd cc
row_goes w s at now wraps cases few (rows.given is) e = absurd cc
row_goes w s at now wraps cases few rows.stops e = absurd cc

few_by : (code : List ℕ) (pc : ℕ) (i : Instr) (action : Action) → instr_at code pc ≡ Ok i → action ≡ action_of i → HasFewCases action (case_count i.args)
few_by code pc i (acts.Switch default low count pairs) read is =
    let few : count ≤ cases_of (instr_at code pc) = known_cases code pc i (acts.Switch default low count pairs) default low count pairs read is refl in
    rw read at few
few_by code pc i action read is = tt

-- ---- successors

behind_there : (p : Placed) (b : Bool) → b ≡ true → Contains (if b then (p.pc + p.instr.len) ∷ [] else []) (p.pc + p.instr.len)
behind_there p true is = contains_head (p.pc + p.instr.len) []
behind_there p false is = absurd cc

-- the place behind it is a successor of an instruction behind which the code goes on
pub behind_leads : (code : List ℕ) (p : Placed) → goes_behind (action_of p.instr) ≡ true → Contains (successors_of code p) (p.pc + p.instr.len)
behind_leads code p is = ((successors_are_a_set code p).1 (p.pc + p.instr.len)).1 (inl (behind_there p (goes_behind (action_of p.instr)) is))

target_there : (pc x : ℕ) (z : ℤ) → z ≡ pos x → Contains (places_of z) x
target_there pc x z is = rw is (contains_head x [])

target_leads : (code : List ℕ) (p : Placed) (far : ℤ) (x : ℕ) → Contains (distances code p) far → pos p.pc +ℤ far ≡ pos x → Contains (successors_of code p) x
target_leads code p far x there to =
    ((successors_are_a_set code p).1 x).1 (inr (in_flat (place_so_far p.pc) (distances code p) far x there (target_there p.pc x (pos p.pc +ℤ far) to)))

pos_same : (a b : ℕ) → pos a ≡ pos b → a ≡ b
pos_same a b e = cc

goes_to_successor : (code : List ℕ) (pc x : ℕ) (i : Instr) (far : ℤ) → GoesFar code pc i.len (case_count i.args) (action_of i) far → pos pc +ℤ far ≡ pos x
    → Contains (successors_of code (record { pc = pc; instr = i })) x
goes_to_successor code pc x i far (inl past) to =
    let same : pos (pc + i.len) ≡ pos x = ap (λ (d : ℤ). pos pc +ℤ d) (sym past.1) ∙ to in
    subst (λ (y : ℕ). Contains (successors_of code (record { pc = pc; instr = i })) y) (pos_same (pc + i.len) x same) (behind_leads code (record { pc = pc; instr = i }) past.0)
goes_to_successor code pc x i far (inr there) to = target_leads code (record { pc = pc; instr = i }) far x there to

-- ---- outcomes

-- what the frame's instruction goes on to, of the same method
pub record LeadsOn (s : Standing) (at now : Here) : Type 0 where
  pub successor : Contains (successors_of s.code.bytes (place_of at.frame s)) now.frame.pc
  pub method : now.frame.method ≡ at.frame.method

pub row_leads : (w : World) (s : Standing) (at now : Here) (wraps : Bool) (o : Outcome) → standing_at w at.frame ≡ Some s → Row w s at (action_of s.instr) o → o ≡ Goes wraps now → LeadsOn s at now
row_leads w s at now wraps o stands row e =
    let read : IsRead w at.frame s = standing_read w at.frame s stands in
    let few : HasFewCases (action_of s.instr) (case_count s.instr.args) = few_by s.code.bytes at.frame.pc s.instr (action_of s.instr) read.read refl in
    let goes : GoesTo s at now (case_count s.instr.args) (action_of s.instr) = row_goes w s at now wraps (case_count s.instr.args) few row e in
    record { successor = goes_to_successor s.code.bytes at.frame.pc now.frame.pc s.instr goes.far goes.by goes.to; method = goes.method }

same_standing : (w : World) (frame : Frame) (s t : Standing) → standing_at w frame ≡ Some s → standing_at w frame ≡ Some t → s ≡ t
same_standing w frame s t one other = let both : Some s ≡ Some t = sym one ∙ other in cc

at_leads : {w : World} {at : Here} {o : Outcome} (s : Standing) (now : Here) (wraps : Bool) → standing_at w at.frame ≡ Some s → RowAt w at o → o ≡ Goes wraps now → LeadsOn s at now
at_leads s now wraps stands (rows.nowhere none) e = absurd cc
at_leads {w = w} {at = at} {o = o} s now wraps stands (rows.stands t other row) e =
    let same : t ≡ s = same_standing w at.frame t s other stands in
    subst (λ (x : Standing). LeadsOn x at now) same (row_leads w t at now wraps o other row e)

pub leads_on : (w : World) (s : Standing) (at now : Here) (wraps : Bool) → standing_at w at.frame ≡ Some s → outcome_of w at ≡ Goes wraps now → LeadsOn s at now
leads_on w s at now wraps stands e = at_leads s now wraps stands (outcome_is_row w at) e

pub outcome_leads : (w : World) (s : Standing) (at now : Here) (wraps : Bool) → standing_at w at.frame ≡ Some s → outcome_of w at ≡ Goes wraps now
    → Contains (successors_of s.code.bytes (place_of at.frame s)) now.frame.pc
outcome_leads w s at now wraps stands e = (leads_on w s at now wraps stands e).successor
