-- The laws of the order: what is known of frames is a lattice of bounded height.
use Rattle.std.specs.Prelude.{ℕ, ◌+◌, ◌*◌, ◌≤◌, List, length}
use Rattle.fix_engine.specs.Lawful.{IsOrder, IsJoin, IsChain}
use Rattle.kind_frames.specs.Frames.{kind_order, IsFactOf}
use Rattle.kind_frames.specs.declared.fact.KindFact.{KindFact}

abbrev pub FactsAreOrdered : Type 0
FactsAreOrdered = (locals most : ℕ) → IsOrder kind_order (IsFactOf locals most)

abbrev pub FactsHaveJoins : Type 0
FactsHaveJoins = (locals most : ℕ) → IsJoin kind_order (IsFactOf locals most)

-- nothing, a frame whose slots rise three times each, and all
abbrev pub ChainsAreShort : Type 0
ChainsAreShort =
    (locals most : ℕ) (chain : List KindFact) → IsChain kind_order (IsFactOf locals most) chain → length chain ≤ 3 * (locals + most) + 3
