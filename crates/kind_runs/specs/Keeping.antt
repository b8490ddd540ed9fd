-- What instructions make of frames whose words are of kinds, and what the order of kinds says of frames.
use Rattle.std.specs.Prelude.{◌≡◌, ℕ, Bool, true, Some}
use Rattle.op_table.specs.Actions.{action_of}
use Rattle.kind_frames.specs.declared.fact.KindFrame.{KindFrame}
use Rattle.kind_frames.specs.declared.fact.KindFact.{KindFact}
use Rattle.kind_frames.specs.Frames.{fact_below}
use Rattle.kind_effects.specs.Frames.{frame_after, IsFact}
use Rattle.class_hierarchy.specs.World.{World}
use Rattle.frames.specs.declared.frame.Frame.{Frame}
use Rattle.frames.specs.declared.here.Here.{Here}
use Rattle.frames.specs.Heap.{Cells}
use Rattle.frames.specs.Kept.{KeepsHeap}
use Rattle.frames.specs.Outcome.{Goes}
use Rattle.frames.specs.Standing.{Standing, standing_at}
use Rattle.steps.specs.Step.{outcome_of}
use Rattle.well_formed.specs.WellFormed.{IsWellFormed, IsOfFiles}
use Rattle.kind_runs.specs.Meaning.{IsOfKinds, IsAsKnown, NamesNoArray}

-- Where an instruction goes on in its frame, the frame is of the kinds that the effect of the instruction says.
abbrev pub InstructionsHaveEffects : Type 0
InstructionsHaveEffects =
    (w : World) (s : Standing) (at now : Here) (wraps : Bool) (known : KindFrame)
    → IsOfFiles w → NamesNoArray w → IsWellFormed w at → standing_at w at.frame ≡ Some s → outcome_of w at ≡ Goes wraps now
    → IsOfKinds at.heap s.code.max_locals known at.frame
    → IsOfKinds now.heap s.code.max_locals (frame_after s.class.pool (action_of s.instr) s.code.max_locals known) now.frame

-- A frame that is as a fact says is as each fact above it says.
abbrev pub FactsAboveHold : Type 0
FactsAboveHold =
    (heap : Cells) (locals : ℕ) (a b : KindFact) (frame : Frame) → IsFact locals a → IsFact locals b
    → fact_below a b ≡ true → IsAsKnown heap locals a frame → IsAsKnown heap locals b frame

-- It stays so where the heap keeps what it has.
abbrev pub KindsStay : Type 0
KindsStay =
    (before now : Cells) (locals : ℕ) (fact : KindFact) (frame : Frame) → KeepsHeap before now
    → IsAsKnown before locals fact frame → IsAsKnown now locals fact frame
