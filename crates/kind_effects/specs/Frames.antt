-- What is known of frames behind an instruction, by what is known before it.
use Rattle.std.specs.Prelude.{ℕ, suc, ◌-◌, ◌^◌, ◌&&◌, Bool, ℤ, pos, negsuc, neg_ℤ, ◌+ℤ◌, ◌-ℤ◌, ◌≤ℤ◌, int_le, List, ◌++◌, length, take, drop, replicate, Option, if◌then◌else◌}
use Rattle.std.specs.List.{list_any}
use Rattle.class_pool.specs.declared.constant.Constant.{Constant}
use Rattle.op_table.specs.declared.acts.Action.{Action}
use Rattle.slot_facts.specs.declared.kind.Kind.{Kind}
use Rattle.slot_facts.specs.declared.kind.Kind.TheVariants as kinds
use Rattle.kind_frames.specs.Kinds.{is_top}
use Rattle.kind_frames.specs.Frames.{IsFactOf}
use Rattle.kind_frames.specs.declared.fact.KindFrame.{KindFrame}
use Rattle.kind_frames.specs.declared.fact.KindFact.{KindFact}
use Rattle.kind_frames.specs.declared.fact.KindFact.TheVariants as facts
use Rattle.kind_effects.specs.Effects.{pops, pushed, locals_after, locals_read}

-- ---- words on the operand stack, which stands from the bottom up

-- the n words on top: nothing is known of those that lie below the bottom
abbrev pub top_words : ℕ → List Kind → List Kind
top_words n stack = replicate (n - length stack) kinds.Top ++ drop (length stack - n) stack

-- what lies below the n words on top
abbrev pub below_words : ℕ → List Kind → List Kind
below_words n stack = take (length stack - n) stack

-- how many words are missing up to the bottom
abbrev pub missing : ℤ → ℕ
missing (pos n) = 0
missing (negsuc n) = suc n

-- ---- frames, of a method with so many locals

abbrev pub locals_of : ℕ → KindFrame → List Kind
locals_of locals frame = take locals frame.slots

abbrev pub stack_of : ℕ → KindFrame → List Kind
stack_of locals frame = drop locals frame.slots

-- the words that the action pops
abbrev pub popped : List (Option Constant) → Action → ℕ → KindFrame → List Kind
popped pool action locals frame = top_words (pops pool action) (stack_of locals frame)

-- the words that it pushes
abbrev pub pushed_on : List (Option Constant) → Action → ℕ → KindFrame → List Kind
pushed_on pool action locals frame = pushed pool action (locals_of locals frame) (popped pool action locals frame)

-- the height where the words are popped
abbrev pub height_below : List (Option Constant) → Action → KindFrame → ℤ
height_below pool action frame = frame.height -ℤ pos (pops pool action)

-- The frame behind an instruction that does this: the words are popped, and others are pushed, of which those below the
-- bottom aren't kept.
unfoldable pub frame_after : List (Option Constant) → Action → ℕ → KindFrame → KindFrame
frame_after pool action locals frame = record {
  height = height_below pool action frame +ℤ pos (length (pushed_on pool action locals frame));
  slots = locals_after action (locals_of locals frame) (popped pool action locals frame)
      ++ below_words (pops pool action) (stack_of locals frame)
      ++ drop (missing (height_below pool action frame)) (pushed_on pool action locals frame);
}

-- The kinds of the slots that an instruction uses which does this: the words that it pops and the locals that it reads.
unfoldable pub kinds_used : List (Option Constant) → Action → ℕ → KindFrame → List Kind
kinds_used pool action locals frame = popped pool action locals frame ++ locals_read action (locals_of locals frame)

-- nothing is known of a slot that it uses
abbrev pub uses_top : List (Option Constant) → Action → ℕ → KindFrame → Bool
uses_top pool action locals frame = list_any is_top (kinds_used pool action locals frame)

-- ---- facts

-- No operand stack is so high, nor so far below its bottom, unless a way through the code passes one place twice: it
-- would be there at different heights.
abbrev pub most_words : ℕ
most_words = 2 ^ 40

abbrev pub is_within : ℤ → Bool
is_within height = int_le (neg_ℤ (pos most_words)) height && int_le height (pos most_words)

-- where the height is past the limits, frames of different heights come
abbrev pub limited : KindFrame → KindFact
limited frame = if is_within frame.height then facts.Known frame else facts.Mixed

-- what is known behind an instruction that does this
abbrev pub fact_after : List (Option Constant) → Action → ℕ → KindFact → KindFact
fact_after pool action locals facts.Unreached = facts.Unreached
fact_after pool action locals (facts.Known frame) = limited (frame_after pool action locals frame)
fact_after pool action locals facts.Mixed = facts.Mixed

-- a frame isn't too far below the bottom
abbrev pub IsAboveLimit : KindFact → Type 0
IsAboveLimit facts.Unreached = Unit {0}
IsAboveLimit (facts.Known frame) = neg_ℤ (pos most_words) ≤ℤ frame.height
IsAboveLimit facts.Mixed = Unit {0}

-- the facts of a method with so many locals
abbrev pub IsFact : ℕ → KindFact → Type 0
IsFact locals fact = IsFactOf locals most_words fact × IsAboveLimit fact
