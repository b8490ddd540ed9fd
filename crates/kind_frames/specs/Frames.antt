-- What is known of frames at one point of the code: nothing came there; the operand stack's height and the kinds of all
-- slots; or frames of different heights came there, and nothing is known of them.
use Rattle.std.specs.Prelude.{◌≡◌, ℕ, ◌+◌, Bool, true, false, ◌&&◌, List, length, map, ℤ, pos, negsuc, ◌≤ℤ◌, if◌then◌else◌}
use Rattle.std.specs.Ordering.{int_eq}
use Rattle.std.specs.List.{zip, list_all}
use Rattle.fix_engine.specs.Order.{Order}
use Rattle.slot_facts.specs.declared.kind.Kind.{Kind}
use Rattle.kind_frames.specs.Kinds.{joined, is_below}
use Rattle.kind_frames.specs.declared.fact.KindFrame.{KindFrame}
use Rattle.kind_frames.specs.declared.fact.KindFact.{KindFact}
use Rattle.kind_frames.specs.declared.fact.KindFact.TheVariants as facts

abbrev pub all_below : List Kind → List Kind → Bool
all_below a b = list_all (λ (p : Kind × Kind). is_below p.0 p.1) (zip a b)

abbrev pub all_joined : List Kind → List Kind → List Kind
all_joined a b = map (λ (p : Kind × Kind). joined p.0 p.1) (zip a b)

-- ---- frames

abbrev pub frame_below : KindFrame → KindFrame → Bool
frame_below a b = int_eq a.height b.height && all_below a.slots b.slots

abbrev pub frames_joined : KindFrame → KindFrame → KindFact
frames_joined a b =
    if int_eq a.height b.height then facts.Known (record { height = a.height; slots = all_joined a.slots b.slots }) else facts.Mixed

-- ---- facts

abbrev pub is_mixed : KindFact → Bool
is_mixed facts.Unreached = false
is_mixed (facts.Known frame) = false
is_mixed facts.Mixed = true

abbrev pub frame_below_fact : KindFrame → KindFact → Bool
frame_below_fact a facts.Unreached = false
frame_below_fact a (facts.Known b) = frame_below a b
frame_below_fact a facts.Mixed = true

abbrev pub fact_below : KindFact → KindFact → Bool
fact_below facts.Unreached b = true
fact_below (facts.Known a) b = frame_below_fact a b
fact_below facts.Mixed b = is_mixed b

abbrev pub with_frame : KindFrame → KindFact → KindFact
with_frame a facts.Unreached = facts.Known a
with_frame a (facts.Known b) = frames_joined a b
with_frame a facts.Mixed = facts.Mixed

abbrev pub facts_joined : KindFact → KindFact → KindFact
facts_joined facts.Unreached b = b
facts_joined (facts.Known a) b = with_frame a b
facts_joined facts.Mixed b = facts.Mixed

-- frames of one height have as many slots
abbrev pub AreAlike : KindFact → KindFact → Type 0
AreAlike (facts.Known a) (facts.Known b) = a.height ≡ b.height → length a.slots ≡ length b.slots
AreAlike a b = Unit {0}

abbrev pub kind_order : Order KindFact
kind_order = record { Alike = λ a b. AreAlike a b; leq = λ a b. fact_below a b; join = λ a b. facts_joined a b }

-- ---- the facts of a method

-- words on the operand stack; none where more words were popped than there are
abbrev pub words_in : ℤ → ℕ
words_in (pos n) = n
words_in (negsuc n) = 0

-- of a method with so many locals, where the operand stack has at most so many words
abbrev pub IsFactOf : ℕ → ℕ → KindFact → Type 0
IsFactOf locals most facts.Unreached = Unit {0}
IsFactOf locals most (facts.Known frame) = (length frame.slots ≡ locals + words_in frame.height) × (frame.height ≤ℤ pos most)
IsFactOf locals most facts.Mixed = Unit {0}
