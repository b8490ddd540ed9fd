-- A program's code as places and edges: those of its methods, one method after the other, and from each call to the start of
-- each method that it can call.
use Rattle.std.specs.Prelude.{ℕ, ◌+◌, ◌<◌, Bool, true, false, not, List, [], ◌∷◌, ◌++◌, length, map, flat_map, slice_index_or, Contains}
use Rattle.std.specs.List.{zip}
use Rattle.class_reader.specs.Flags.{is_static}
use Rattle.op_table.specs.Actions.{action_of}
use Rattle.op_table.specs.declared.acts.Action.{Action}
use Rattle.op_table.specs.declared.acts.Action.TheVariants as acts
use Rattle.op_table.specs.declared.acts.Call.{Call}
use Rattle.op_table.specs.declared.acts.Call.TheVariants as calls
use Rattle.code_blocks.specs.declared.instruction.Instruction.{Instruction}
use Rattle.method_body.specs.Bodies.{MethodBody}
use Rattle.kind_frames.specs.declared.fact.KindFact.{KindFact}
use Rattle.kind_frames.specs.declared.fact.KindFact.TheVariants as facts
use Rattle.kind_effects.specs.Effects.{pops}
use Rattle.fix_engine.specs.Problem.{Problem}
use Rattle.null_flow.specs.declared.edge.NullEdge.{NullEdge}
use Rattle.null_flow.specs.declared.edge.Way.{Way}
use Rattle.null_flow.specs.declared.edge.Way.TheVariants.{Behind, Enters}
use Rattle.null_flow.specs.declared.fact.NullFact.{NullFact}
use Rattle.null_flow.specs.Flow.{null_problem}
use Rattle.null_facts.specs.declared.method.NullMethod.{NullMethod}

-- ---- places

-- how many slots frames have, by their kinds; none at a place that no frame comes to
abbrev pub size_of : KindFact → ℕ
size_of facts.Unreached = 0
size_of (facts.Known frame) = length frame.slots
size_of facts.Mixed = 0

abbrev pub sizes_in : NullMethod → List ℕ
sizes_in m = map size_of m.kinds.now

-- at each place, method after method
abbrev pub sizes_of : List NullMethod → List ℕ
sizes_of ms = flat_map sizes_in ms

abbrev pub firsts_from : ℕ → List NullMethod → List ℕ
firsts_from k [] = []
firsts_from k (m ∷ ms) = k ∷ firsts_from (k + length m.body.now.code.bytes) ms

-- the number of each method's first place
abbrev pub firsts_of : List NullMethod → List ℕ
firsts_of ms = firsts_from 0 ms

abbrev pub first_at : List ℕ → ℕ → ℕ
first_at firsts method = slice_index_or firsts method 0

-- ---- edges

-- a call hands a receiver
abbrev pub takes_receiver : Call → Bool
takes_receiver calls.Virtual = true
takes_receiver calls.Special = true
takes_receiver calls.Static = false
takes_receiver calls.Interface = true

unfoldable pub has_receiver : Action → Bool
has_receiver (acts.Call c i) = takes_receiver c
has_receiver action = false

abbrev pub edge_from : MethodBody → ℕ → Instruction → Way → ℕ → NullEdge
edge_from b first i way to = record { from = first + i.pc; to = to; locals = b.code.max_locals; pops = pops b.class.pool (action_of i.instr); way = way }

-- to each instruction that can come next: a call's too, whatever its methods do
abbrev pub onward : MethodBody → ℕ → Instruction → List NullEdge
onward b first i = map (λ x. edge_from b first i (Behind (action_of i.instr)) (first + x)) i.successors

-- to the start of each method that the instruction can call
abbrev pub entering : List ℕ → MethodBody → ℕ → Instruction → List ℕ → List NullEdge
entering firsts b first i targets = map (λ t. edge_from b first i (Enters (has_receiver (action_of i.instr))) (first_at firsts t)) targets

abbrev pub edges_at : List ℕ → MethodBody → ℕ → Instruction × List ℕ → List NullEdge
edges_at firsts b first p = onward b first p.0 ++ entering firsts b first p.0 p.1

abbrev pub edges_in : List ℕ → ℕ × NullMethod → List NullEdge
edges_in firsts p = flat_map (edges_at firsts p.1.body.now p.0) (zip p.1.body.now.instructions p.1.targets)

abbrev pub edges_of : List NullMethod → List NullEdge
edges_of ms = flat_map (edges_in (firsts_of ms)) (zip (firsts_of ms) ms)

-- ---- the flow

-- the first method, which is the one that is asked for, has a receiver
abbrev pub receiver_of : List NullMethod → Bool
receiver_of [] = false
receiver_of (m ∷ ms) = not (is_static m.body.now.method.flags)

abbrev pub program_problem : List NullMethod → Problem NullFact
program_problem ms = null_problem (receiver_of ms) (sizes_of ms) (edges_of ms)

-- each call leads to methods of the program
abbrev pub AreCalls : List NullMethod → Type 0
AreCalls ms = (m : NullMethod) → Contains ms m → (targets : List ℕ) → Contains m.targets targets → (t : ℕ) → Contains targets t → t < length ms
