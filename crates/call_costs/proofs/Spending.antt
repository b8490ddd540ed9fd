-- What the rest of an activation's method costs pays for all that it does, and for the methods that it calls.
use Rattle.std.proofs.Common.{◌≡◌, inl, inr, ℕ, ◌+◌, ◌-◌, ◌<◌, ◌≤◌, Bool, true, false, List, [], ◌∷◌, length, map, Option, Some, None, Ok, refl, sym, ◌∙◌, ap, arith, Contains, nat_le}
use Rattle.std.specs.Prelude.{if◌then◌else◌}
use Rattle.std.specs.Option.{option_map_or}
use Rattle.std.proofs.lemmas.Bool.Decides.{nat_tests}
use Rattle.common_laws.proofs.Members.{contains_cases, contains_none, in_map}
use Rattle.class_reader.specs.declared.class.Code.{Code}
use Rattle.op_table.specs.Actions.{action_of}
use Rattle.op_table.specs.Grammar.{instr_at}
use Rattle.op_table.specs.declared.instr.Instr.{Instr}
use Rattle.world.specs.declared.member.MemberId.{MemberId}
use Rattle.class_hierarchy.specs.World.{World}
use Rattle.class_hierarchy.specs.Building.{IsWellBuilt}
use Rattle.nested_runs.specs.Spending.{IsClosedWhere}
use Rattle.frames.specs.declared.frame.Frame.{Frame}
use Rattle.frames.specs.declared.here.Here.{Here}
use Rattle.frames.specs.Outcome.{in_frame}
use Rattle.linking.specs.Methods.{code_at}
use Rattle.steps.specs.Step.{weight_of}
use Rattle.steps.specs.Calling.{new_frame}
use Rattle.machine.specs.Moment as moments
use Rattle.machine.specs.Moment.{End, MayGo, Moves, Starts, Ends, Resumes, IsSpent, Moment, activations}
use Rattle.code_flow.specs.Plans.{Planned, Plan}
use Rattle.code_blocks.specs.declared.instruction.Placed.{Placed}
use Rattle.code_blocks.specs.Placing.{placed_from, placed}
use Rattle.code_flow.specs.Judging.{is_end, judged}
use Rattle.code_flow.specs.Listing.{targets_in}
use Rattle.code_flow.specs.Flow.{planned_place}
use Rattle.code_flow.specs.Program.{IsProgram}
use Rattle.call_costs.specs.Costs.{greatest, cost_of_code, instructions_of, cost_of}
use Rattle.call_costs.proofs.Stable.{cost_step, program_deep}
use Rattle.call_costs.proofs.Placing.{behind, behind_is}
use Rattle.call_costs.proofs.Activations.{IsListed, IsStanding, own_reached, own_instructions, current_of, current_calls}
use Rattle.call_costs.proofs.Standing.{Since, Over, move_stands, call_by, call_target, back_by}

-- ---- the greatest of some costs

greatest_if : (cost others : ℕ) (b : Bool) → nat_le cost others ≡ b → (cost ≤ (if b then others else cost)) × (others ≤ (if b then others else cost))
greatest_if cost others true e = let low : cost ≤ others = grind (arith, nat_tests) in (low, omega arith)
greatest_if cost others false e = let high : others < cost = grind (arith, nat_tests) in (omega arith, omega arith)

pub greatest_least : (costs : List ℕ) (cost : ℕ) → Contains costs cost → cost ≤ greatest costs
unfolding greatest
greatest_least [] cost there = absurd (contains_none cost there)
greatest_least (c ∷ costs) cost there =
    let both = greatest_if c (greatest costs) (nat_le c (greatest costs)) refl in
    elim (contains_cases c costs cost there) [
      | inl same ↦ omega (arith, both.0, same)
      | inr later ↦ omega (arith, both.1, greatest_least costs cost later)
    ]

-- ---- what is left

unfoldable pub left_in : (ℕ → ℕ) → List Plan → World → MemberId → ℕ → Option Code → ℕ
left_in weights program w m pc None = 0
left_in weights program w m pc (Some code) = cost_of_code weights (cost_of weights program) (map (planned_place w m.class code.bytes) (behind code.bytes pc))

-- the instructions of the activation's method from its pc on
unfoldable pub left : (ℕ → ℕ) → List Plan → World → Here → ℕ
left weights program w a = left_in weights program w a.frame.method a.frame.pc (code_at w a.frame.method)

rest_if : Bool → ℕ → ℕ
rest_if true rest = 0
rest_if false rest = rest

code_first : (weights : ℕ → ℕ) (program : List Plan) (i : Planned) (is : List Planned)
    → cost_of_code weights (cost_of weights program) (i ∷ is) ≡ weights i.instr.op + greatest (map (cost_of weights program) i.targets) + rest_if (is_end (action_of i.instr)) (cost_of_code weights (cost_of weights program) is)
unfolding cost_of_code rest_if
code_first weights program i is =
    let cost : ℕ = weights i.instr.op + greatest (map (cost_of weights program) i.targets) in
    let rest : ℕ = cost_of_code weights (cost_of weights program) is in
    elim (is_end (action_of i.instr)) as (λ (b : Bool). cost + (if b then 0 else rest) ≡ cost + rest_if b rest) [ true ↦ refl | false ↦ refl ]

-- what comes next costs what is left behind the instruction
left_at : (weights : ℕ → ℕ) (program : List Plan) (w : World) (m : MemberId) (pc : ℕ) (code : Code) (i : Instr) → instr_at code.bytes pc ≡ Ok i → (ts : List MemberId)
    → targets_in (judged w m.class code.bytes (record { pc = pc; instr = i })) ≡ ts
    → left_in weights program w m pc (Some code)
    ≡ weights i.op + greatest (map (cost_of weights program) ts) + rest_if (is_end (action_of i)) (left_in weights program w m (pc + i.len) (Some code))
unfolding left_in
left_at weights program w m pc code i is ts e =
    let plan = planned_place w m.class code.bytes in
    let place : Placed = record { pc = pc; instr = i } in
    let others : List Planned = map plan (behind code.bytes (pc + i.len)) in
    ap (λ (ps : List Placed). cost_of_code weights (cost_of weights program) (map plan ps)) (behind_is code.bytes pc i is)
    ∙ code_first weights program (plan place) others
    ∙ ap (λ (t : List MemberId). weights i.op + greatest (map (cost_of weights program) t) + rest_if (is_end (action_of i)) (cost_of_code weights (cost_of weights program) others)) e

-- a method's first activation has its cost left
pub start_left : (weights : ℕ → ℕ) (program : List Plan) (w : World) (first m : MemberId) (code : Code) → IsProgram w first program → IsListed program m → code_at w m ≡ Some code
    → left_in weights program w m 0 (code_at w m) ≡ cost_of weights program m
unfolding left_in
start_left weights program w first m code is listed has =
    let own = own_reached w first m program is listed in
    let cost : List Planned → ℕ = λ i. cost_of_code weights (cost_of weights program) i in
    let all : length code.bytes - 0 ≡ length code.bytes = omega arith in
    let planned_all : List Planned = map (planned_place w m.class code.bytes) (placed code.bytes) in
    let instructions : instructions_of program m ≡ planned_all =
    ap (λ (o : Option Plan). option_map_or (λ (r : Plan). r.instructions) o []) own.found
    ∙ ap (λ (r : Plan). r.instructions) own.planned
    ∙ own_instructions w m code has
    in
    ap (left_in weights program w m 0) has
    ∙ ap (λ (n : ℕ). cost (map (planned_place w m.class code.bytes) (placed_from n code.bytes 0))) all
    ∙ ap cost (sym instructions)
    ∙ sym (cost_step weights program m (program_deep w first program m is listed))

module _ {w : World} {first : MemberId} {program : List Plan} (weights : ℕ → ℕ) (well : IsWellBuilt w) (is : IsProgram w first program) where
  -- what is left pays for the instruction, for the method that it calls, and for what comes next
  left_splits : {a : Here} (s : IsStanding w program a)
      → left weights program w a
      ≡ moments.cost_of w weights a + greatest (map (cost_of weights program) (current_of w first program a is s).targets)
      + rest_if (is_end (action_of (current_of w first program a is s).instr)) (left_in weights program w a.frame.method (a.frame.pc + (current_of w first program a is s).instr.len) (code_at w a.frame.method))
  unfolding left
  left_splits {a = a} s =
      let p = current_of w first program a is s in
      let m : MemberId = a.frame.method in
      let weight : weights p.instr.op ≡ moments.cost_of w weights a = sym (ap (weight_of weights) p.stands) in
      let g : ℕ = greatest (map (cost_of weights program) p.targets) in
      let rest : Option Code → ℕ = λ o. rest_if (is_end (action_of p.instr)) (left_in weights program w m (a.frame.pc + p.instr.len) o) in
      ap (left_in weights program w m a.frame.pc) s.has_code
      ∙ left_at weights program w m a.frame.pc s.code p.instr p.is p.targets (ap targets_in p.verdict)
      ∙ ap (λ (k : ℕ). k + g + rest (Some s.code)) weight
      ∙ ap (λ (o : Option Code). moments.cost_of w weights a + g + rest o) (sym s.has_code)

  pub pays_here : {a : Here} → IsStanding w program a → moments.cost_of w weights a ≤ left weights program w a
  pays_here {a = a} s =
      let p = current_of w first program a is s in
      let g : ℕ = greatest (map (cost_of weights program) p.targets) in
      omega (arith, left_splits s)

  -- where no end of the method comes
  left_goes_on : {a : Here} (s : IsStanding w program a) → is_end (action_of (current_of w first program a is s).instr) ≡ false
      → left weights program w a
      ≡ moments.cost_of w weights a + greatest (map (cost_of weights program) (current_of w first program a is s).targets)
      + left_in weights program w a.frame.method (a.frame.pc + (current_of w first program a is s).instr.len) (code_at w a.frame.method)
  unfolding rest_if
  left_goes_on {a = a} s on =
      let p = current_of w first program a is s in
      let g : ℕ = greatest (map (cost_of weights program) p.targets) in
      let later : ℕ = left_in weights program w a.frame.method (a.frame.pc + p.instr.len) (code_at w a.frame.method) in
      left_splits s ∙ ap (λ (b : Bool). moments.cost_of w weights a + g + rest_if b later) on

  pays_move : {a b : Here} {k c : ℕ} → IsStanding w program a → Moves w weights false a k b → c ≤ left weights program w b → k + c ≤ left weights program w a
  unfolding left
  pays_move {a = a} {b = b} s m spent =
      let p = current_of w first program a is s in
      let on = move_stands weights well is s m in
      let next : left weights program w b ≡ left_in weights program w a.frame.method (a.frame.pc + p.instr.len) (code_at w a.frame.method) = ap (λ (x : Here). left weights program w x) on.now in
      omega (arith, spent, next, m.costs, left_goes_on s on.no_end)

  -- a call of a method that the instruction can call
  pays_call : {a b : Here} {k c rest : ℕ} (s : IsStanding w program a) → Starts w weights a k b → c ≤ left weights program w b
      → rest ≤ left_in weights program w a.frame.method (a.frame.pc + (current_of w first program a is s).instr.len) (code_at w a.frame.method)
      → k + (c + rest) ≤ left weights program w a
  unfolding left
  pays_call {a = a} {b = b} s st spent behind_it =
      let p = current_of w first program a is s in
      let c = call_by weights well is s st.makes in
      let t : MemberId = c.called.target in
      let there : Contains p.targets t = call_target weights well is s st.makes in
      let listed : IsListed program t = is.closed a.frame.method t (current_calls w first program a t is s p there) in
      let now : b ≡ in_frame a (new_frame t c.called.code c.called.taken.handed.words) = st.begins ∙ ap (in_frame a) c.called.enters in
      let begun : left weights program w b ≡ cost_of weights program t = ap (λ (x : Here). left weights program w x) now ∙ start_left weights program w first t c.called.code is listed c.called.has_code in
      let most : cost_of weights program t ≤ greatest (map (cost_of weights program) p.targets) = greatest_least (map (cost_of weights program) p.targets) (cost_of weights program t) (in_map (cost_of weights program) p.targets t there) in
      let on : is_end (action_of p.instr) ≡ false = ap is_end c.is in
      omega (arith, spent, begun, most, behind_it, st.costs, left_goes_on s on)

  resumed_left : {a r : Here} {e : End} (s : IsStanding w program a) → Resumes w a e r
      → left weights program w r ≡ left_in weights program w a.frame.method (a.frame.pc + (current_of w first program a is s).instr.len) (code_at w a.frame.method)
  unfolding left
  resumed_left {a = a} {r = r} s re =
      let p = current_of w first program a is s in
      let c = call_by weights well is s re.waits.1 in
      let back = back_by weights well is s re in
      let at : Frame → ℕ = λ f. left_in weights program w f.method f.pc (code_at w f.method) in
      let behind : Frame → ℕ = λ f. left_in weights program w f.method (f.pc + p.instr.len) (code_at w f.method) in
      ap (λ (x : Here). left weights program w x) re.now
      ∙ ap at back.now
      ∙ ap behind c.called.waits

  pub costs_closed : IsClosedWhere (activations w weights false) (λ start a. Since w program start a) (λ start e. Over w start e)
      (λ a c e. c ≤ left weights program w a) (λ a c. c ≤ left weights program w a)
  costs_closed = record {
    spends_nothing = λ since. omega arith;
    spends_move = λ since m now spent. pays_move since.stands m spent;
    spends_start = λ since st begun spent. let all = pays_call {rest = 0} since.stands st spent (omega arith) in omega (arith, all);
    spends_call = λ since st begun passed over re now spent.
        let next = resumed_left since.stands re in
        pays_call since.stands st passed (omega (arith, spent, next));
    passes_move = λ since m now spent over. pays_move since.stands m spent;
    passes_call = λ since st begun passed over re now spent whole.
        let next = resumed_left since.stands re in
        pays_call since.stands st passed (omega (arith, spent, next));
    passes_end = λ since en over. let here = pays_here since.stands in omega (arith, here, en.costs);
  }
