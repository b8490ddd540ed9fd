-- What an instruction makes of what is known of null in a frame, and what is known of one that it begins. A frame has so many
-- locals, and the instruction pops so many words.
use Rattle.std.specs.Prelude.{ℕ, ◌-◌, Bool, true, false, List, [], ◌∷◌, ◌++◌, length, map, take, drop, replicate, slice_set, if◌then◌else◌}
use Rattle.op_table.specs.declared.acts.Action.{Action}
use Rattle.null_flow.specs.declared.origins.Origin.{Origin}
use Rattle.null_flow.specs.declared.origins.Origin.TheVariants.{New, Local, Word, Number}
use Rattle.null_flow.specs.declared.origins.Stored.{Stored}
use Rattle.null_flow.specs.declared.fact.NullFact.{NullFact}
use Rattle.null_flow.specs.declared.fact.NullFact.TheVariants as facts
use Rattle.null_flow.specs.declared.edge.NullEdge.{NullEdge}
use Rattle.null_flow.specs.declared.edge.Way.{Way}
use Rattle.null_flow.specs.declared.edge.Way.TheVariants.{Behind, Enters, Caught}
use Rattle.null_flow.specs.Facts.{flag_at}
use Rattle.null_flow.specs.Origins.{pushes, stores}

-- ---- words on the operand stack, which stands from the bottom up

-- the n words on top
abbrev pub top_words : ℕ → List Bool → List Bool
top_words n stack = drop (length stack - n) stack

-- what lies below them
abbrev pub below_words : ℕ → List Bool → List Bool
below_words n stack = take (length stack - n) stack

-- ---- values

-- a value from there is no null, where these locals and popped words are none
abbrev pub is_new : List Bool → List Bool → Origin → Bool
is_new locals words New = true
is_new locals words (Local n) = flag_at locals n
is_new locals words (Word n) = flag_at words n
is_new locals words Number = false

-- the locals when each value is stored
abbrev pub with_stored : (Origin → Bool) → List Stored → List Bool → List Bool
with_stored flag [] locals = locals
with_stored flag (s ∷ rest) locals = with_stored flag rest (slice_set locals s.local (flag s.origin))

-- ---- slots

-- the locals, then the words below those that are popped, then those that are pushed
abbrev pub slots_left : Action → ℕ → List Bool → List Bool → List Bool
slots_left action pops locals stack =
    with_stored (is_new locals (top_words pops stack)) (stores action) locals
    ++ below_words pops stack
    ++ map (is_new locals (top_words pops stack)) (pushes action)

unfoldable pub slots_after : Action → ℕ → ℕ → List Bool → List Bool
slots_after action pops locals slots = slots_left action pops (take locals slots) (drop locals slots)

-- the words that a call hands to its method; a receiver is no null
unfoldable pub slots_handed : Bool → ℕ → ℕ → List Bool → List Bool
slots_handed receiver pops locals slots =
    if receiver then true ∷ drop 1 (top_words pops (drop locals slots)) else top_words pops (drop locals slots)

-- where an exception is caught, it stands alone on the operand stack, and is no null
unfoldable pub slots_caught : ℕ → List Bool → List Bool
slots_caught locals slots = take locals slots ++ true ∷ []

-- the slots of a frame that comes so
abbrev pub slots_along : Way → ℕ → ℕ → List Bool → List Bool
slots_along (Behind action) pops locals slots = slots_after action pops locals slots
slots_along (Enters receiver) pops locals slots = slots_handed receiver pops locals slots
slots_along Caught pops locals slots = slots_caught locals slots

-- ---- facts, of a place where frames have so many slots: of those that aren't told, nothing is known

abbrev pub fitted : ℕ → List Bool → List Bool
fitted size slots = take size (slots ++ replicate size false)

-- what an edge makes of what is known where it leads from
abbrev pub fact_along : NullEdge → ℕ → NullFact → NullFact
fact_along edge size facts.Unreached = facts.Unreached
fact_along edge size (facts.Known slots) = facts.Known (fitted size (slots_along edge.way edge.pops edge.locals slots))
