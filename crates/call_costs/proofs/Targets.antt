-- What stands at a place of a program, and what a call there runs.
use Rattle.std.proofs.Common.{◌≡◌, ℕ, ◌<◌, Bool, true, false, not, List, [], ◌∷◌, length, Option, Some, None, Result, Ok, Err, refl, ap, subst, arith, Contains, IsTrue}
use Rattle.std.specs.Prelude.{◌&&◌, if◌then◌else◌}
use Rattle.std.proofs.lemmas.List.Elements.{All-head}
use Rattle.class_pool.specs.Pool.{member_at}
use Rattle.op_table.specs.Actions.{action_of}
use Rattle.op_table.specs.declared.acts.Action.{Action}
use Rattle.op_table.specs.declared.acts.Action.TheVariants as acts
use Rattle.op_table.specs.declared.acts.Call.{Call}
use Rattle.op_table.specs.declared.construct.Construct.{Construct}
use Rattle.world.specs.declared.member.MemberId.{MemberId}
use Rattle.class_hierarchy.specs.World.{World, class_at}
use Rattle.linking.specs.declared.calls.Meant.{Meant}
use Rattle.linking.specs.Calls.{meant_by, called_by}
use Rattle.linking.proofs.Linked.{Runs, meant_runs}
use Rattle.frames.specs.declared.value.Value.{Value}
use Rattle.frames.specs.declared.value.Value.TheVariants.{Ref}
use Rattle.frames.specs.Heap.{Cells}
use Rattle.steps.proofs.Dispatching.{ReceiverIsMade}
use Rattle.code_blocks.specs.declared.instruction.Placed.{Placed}
use Rattle.code_blocks.specs.Placing.{is_last}
use Rattle.code_flow.specs.Judging.{shown, meant, judged, judged_past, is_end}
use Rattle.call_costs.proofs.Words.{IsKnown, AreKnown}

-- ---- the receiver

-- the object on which a call runs is of a class of which there can be objects
pub receiver_made : (w : World) (heap : Cells) (words : List Value) → AreKnown w heap words → ReceiverIsMade w heap words
receiver_made w heap words known r c fields others is at =
    let first : AreKnown w heap (Ref r ∷ others) = subst (λ (xs : List Value). AreKnown w heap xs) is known in
    All-head (IsKnown w heap) (Ref r) others first c fields at

-- ---- what stands at a place

past_is : (falls_off : Bool) (meaning : Result (List MemberId) Construct) (construct : Option Construct) (ts : List MemberId) → judged_past falls_off meaning construct ≡ Ok ts → meaning ≡ Ok ts
past_is falls_off meaning (Some construct) ts e = absurd cc
past_is true meaning None ts e = absurd cc
past_is false meaning None ts e = e

past_none : (falls_off : Bool) (meaning : Result (List MemberId) Construct) (construct : Option Construct) (ts : List MemberId)
    → judged_past falls_off meaning construct ≡ Ok ts → construct ≡ None
past_none falls_off meaning (Some construct) ts e = absurd cc
past_none falls_off meaning None ts e = refl

-- an instruction of a program shows nothing that isn't analysed
pub shows_none : (w : World) (current : ℕ) (code : List ℕ) (p : Placed) (ts : List MemberId) → judged w current code p ≡ Ok ts
    → shown (class_at w current).pool (action_of p.instr) ≡ None
unfolding judged
shows_none w current code p ts e =
    let pool = (class_at w current).pool in
    past_none (is_last code p && not (is_end (action_of p.instr))) (meant w current pool (action_of p.instr)) (shown pool (action_of p.instr)) ts e

pub judged_call : (w : World) (current : ℕ) (code : List ℕ) (p : Placed) (call : Call) (i : ℕ) (ts : List MemberId) → judged w current code p ≡ Ok ts → action_of p.instr ≡ acts.Call call i
    → called_by w current call (member_at (class_at w current).pool i) ≡ Ok ts
unfolding judged
judged_call w current code p call i ts e is =
    let pool = (class_at w current).pool in
    let meaning = past_is (is_last code p && not (is_end (action_of p.instr))) (meant w current pool (action_of p.instr)) (shown pool (action_of p.instr)) ts e in
    subst (λ (a : Action). meant w current pool a ≡ Ok ts) is meaning

-- what a call means is there, and what it looks up runs one of the methods that the instruction can call
pub call_runs : (w : World) (current : ℕ) (code : List ℕ) (p : Placed) (call : Call) (i : ℕ) (ts : List MemberId) (m : Meant)
    → judged w current code p ≡ Ok ts → action_of p.instr ≡ acts.Call call i → meant_by w call (member_at (class_at w current).pool i) ≡ Ok m
    → Runs w current call m ts
call_runs w current code p call i ts m e is means =
    meant_runs w current call (member_at (class_at w current).pool i) m ts means (judged_call w current code p call i ts e is)
