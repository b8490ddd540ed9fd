-- The kinds of a method's frames as a data flow problem: its points are the places of the code.
use Rattle.std.specs.Prelude.{ℕ, ◌+◌, ◌*◌, ◌<◌, ◌==◌, List, length, map, flat_map, slice_get, unwrap_or, None, if◌then◌else◌}
use Rattle.class_reader.specs.Flags.{is_static}
use Rattle.op_table.specs.Actions.{action_of}
use Rattle.op_table.specs.declared.acts.Action.TheVariants as acts
use Rattle.code_blocks.specs.declared.instruction.Instruction.{Instruction}
use Rattle.method_body.specs.Bodies.{MethodBody}
use Rattle.fix_engine.specs.Problem.{Problem}
use Rattle.kind_frames.specs.declared.fact.KindFrame.{KindFrame}
use Rattle.kind_frames.specs.declared.fact.KindFact.{KindFact}
use Rattle.kind_frames.specs.declared.fact.KindFact.TheVariants as facts
use Rattle.kind_effects.specs.Entry.{entry_frame}
use Rattle.kind_effects.specs.Frames.{most_words, fact_after, IsFact}
use Rattle.frame_kinds.specs.declared.edge.Edge.{Edge}

-- ---- edges

-- from an instruction to each of its successors
abbrev pub edges_from : Instruction → List Edge
edges_from i = map (λ x. record { from = i.pc; action = action_of i.instr; to = x }) i.successors

-- in the order of the instructions
abbrev pub edges_of : List Instruction → List Edge
edges_of is = flat_map edges_from is

abbrev pub nowhere : Edge
nowhere = record { from = 0; action = acts.Nothing; to = 0 }

abbrev pub edge_at : List Edge → ℕ → Edge
edge_at edges e = unwrap_or (slice_get edges e) nowhere

-- it lies between two of so many places
abbrev pub IsBetween : ℕ → Edge → Type 0
IsBetween size edge = (edge.from < size) × (edge.to < size)

-- ---- facts

-- the frame at the method's start
abbrev pub entry_of : MethodBody → KindFrame
entry_of b = entry_frame b.code.max_locals (is_static b.method.flags) b.method.desc

abbrev pub start_at : MethodBody → ℕ → KindFact
start_at b pc = if pc == 0 then facts.Known (entry_of b) else facts.Unreached

-- what an edge makes of what is known where it leads from
abbrev pub made_by : MethodBody → Edge → KindFact → KindFact
made_by b edge fact = fact_after b.class.pool edge.action b.code.max_locals fact

-- The facts at a place are those of the method; nothing comes to a place at which no instruction begins.
abbrev pub kind_problem : MethodBody → Problem KindFact
kind_problem b = record {
  points = length b.code.bytes;
  edges = length (edges_of b.instructions);
  height = 3 * (b.code.max_locals + most_words) + 3;
  source = λ e. (edge_at (edges_of b.instructions) e).from;
  also = λ e. None;
  goal = λ e. (edge_at (edges_of b.instructions) e).to;
  IsFact = λ pc fact. IsFact b.code.max_locals fact;
  start = start_at b;
  transfer = λ e fact also. made_by b (edge_at (edges_of b.instructions) e) fact;
}
