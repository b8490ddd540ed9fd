-- What is known of null at one point of the code: no frame comes there, or the slots that hold no null in each frame that
-- does. A fact lies below another where it says at least as much.
use Rattle.std.specs.Prelude.{◌≡◌, ℕ, Bool, true, false, ◌&&◌, ◌||◌, not, List, length, map, slice_index_or}
use Rattle.std.specs.List.{zip, list_all}
use Rattle.fix_engine.specs.Order.{Order}
use Rattle.null_flow.specs.declared.fact.NullFact.{NullFact}
use Rattle.null_flow.specs.declared.fact.NullFact.TheVariants as facts

-- ---- for each slot whether it holds no null

-- no null in a slot that isn't there is told
abbrev pub flag_at : List Bool → ℕ → Bool
flag_at flags n = slice_index_or flags n false

-- each slot that holds no null by b holds none by a
abbrev pub all_below : List Bool → List Bool → Bool
all_below a b = list_all (λ (p : Bool × Bool). p.0 || not p.1) (zip a b)

-- the slots that hold no null by both
abbrev pub all_joined : List Bool → List Bool → List Bool
all_joined a b = map (λ (p : Bool × Bool). p.0 && p.1) (zip a b)

-- ---- facts

abbrev pub is_non_null : NullFact → ℕ → Bool
is_non_null facts.Unreached slot = false
is_non_null (facts.Known flags) slot = flag_at flags slot

abbrev pub known_below : List Bool → NullFact → Bool
known_below a facts.Unreached = false
known_below a (facts.Known b) = all_below a b

abbrev pub fact_below : NullFact → NullFact → Bool
fact_below facts.Unreached b = true
fact_below (facts.Known a) b = known_below a b

abbrev pub joined_known : List Bool → NullFact → NullFact
joined_known a facts.Unreached = facts.Known a
joined_known a (facts.Known b) = facts.Known (all_joined a b)

-- of frames that come by two ways: a slot holds no null where it holds none by both
abbrev pub facts_joined : NullFact → NullFact → NullFact
facts_joined facts.Unreached b = b
facts_joined (facts.Known a) b = joined_known a b

-- of frames with as many slots
abbrev pub AreAlike : NullFact → NullFact → Type 0
AreAlike (facts.Known a) (facts.Known b) = length a ≡ length b
AreAlike a b = Unit {0}

abbrev pub null_order : Order NullFact
null_order = record { Alike = λ a b. AreAlike a b; leq = λ a b. fact_below a b; join = λ a b. facts_joined a b }

-- of frames with so many slots
abbrev pub IsFactOf : ℕ → NullFact → Type 0
IsFactOf size facts.Unreached = Unit {0}
IsFactOf size (facts.Known flags) = length flags ≡ size
