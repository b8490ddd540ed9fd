-- What is known of a frame's slots at one point of the code.
use Rattle.std.specs.Prelude.{ℕ, ◌==◌, ◌&&◌, ◌||◌, Bool}
use Rattle.std.specs.List.{list_any}
use Rattle.slot_facts.specs.declared.facts.SlotFacts.{SlotFacts}

-- the pair is of the two slots, in either order
abbrev pub is_pair : ℕ → ℕ → ℕ × ℕ → Bool
is_pair a b pair = (pair.0 == a && pair.1 == b) || (pair.0 == b && pair.1 == a)

-- the two slots may share: a pair of them stands
abbrev pub may_share : SlotFacts → ℕ → ℕ → Bool
may_share facts a b = list_any (is_pair a b) facts.sharing
