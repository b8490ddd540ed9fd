-- What is known of a frame at a method's start (JVMS 2.6.1): it holds the receiver, where the method isn't static, and
-- the arguments in its first locals; nothing was stored in the others.
use Rattle.std.specs.Prelude.{ℕ, Bool, pos, List, [], ◌∷◌, ◌++◌, flat_map, take, replicate, if◌then◌else◌}
use Rattle.slot_facts.specs.declared.kind.Kind.{Kind}
use Rattle.slot_facts.specs.declared.kind.Kind.TheVariants as kinds
use Rattle.descriptors.specs.Pieces.{parameters_of}
use Rattle.kind_frames.specs.declared.fact.KindFrame.{KindFrame}
use Rattle.kind_effects.specs.Types.{kinds_of_type}

-- the kinds of the words that are handed to a method
abbrev pub kinds_handed : Bool → List ℕ → List Kind
kinds_handed static desc = (if static then [] else kinds.Obj ∷ []) ++ flat_map kinds_of_type (parameters_of desc)

-- the frame at the start of a method with so many locals
abbrev pub entry_frame : ℕ → Bool → List ℕ → KindFrame
entry_frame locals static desc = record { height = pos 0; slots = take locals (kinds_handed static desc ++ replicate locals kinds.Top) }
