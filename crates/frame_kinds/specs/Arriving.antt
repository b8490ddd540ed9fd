-- The frames that come to a place along ways through the code, one by one, and what is known of them.
use Rattle.std.specs.Prelude.{◌≡◌, ◌≢◌, ◌<◌, ◌≤◌, ℕ, true, length, Contains}
use Rattle.method_body.specs.Bodies.{MethodBody, IsBody}
use Rattle.fix_engine.specs.Solution.{IsSolution, IsLeast}
use Rattle.kind_frames.specs.Frames.{kind_order, fact_below}
use Rattle.kind_frames.specs.declared.fact.KindFrame.{KindFrame}
use Rattle.kind_frames.specs.declared.fact.KindFact.{KindFact}
use Rattle.kind_frames.specs.declared.fact.KindFact.TheVariants as facts
use Rattle.kind_effects.specs.Effects.{descriptor_at}
use Rattle.kind_effects.specs.Frames.{frame_after, limited}
use Rattle.frame_kinds.specs.declared.edge.Edge.{Edge}
use Rattle.frame_kinds.specs.Flow.{edges_of, entry_of, kind_problem}

-- a frame comes to a place, along a way from the method's start
pub data Comes (b : MethodBody) : ℕ → KindFrame → Type 0 where
  at_start : Comes b 0 (entry_of b)
  onward :
      {frame : KindFrame} (edge : Edge) → Contains (edges_of b.instructions) edge → Comes b edge.from frame
      → Comes b edge.to (frame_after b.class.pool edge.action b.code.max_locals frame)

-- two of different heights come to a place
pub record ComeApart (b : MethodBody) (pc : ℕ) : Type 0 where
  pub one : KindFrame
  pub other : KindFrame
  pub comes : Comes b pc one
  pub other_comes : Comes b pc other
  pub apart : one.height ≢ other.height

-- no descriptor is longer than a text of a class file (JVMS 4.4.7)
abbrev pub HasShortDescriptors : MethodBody → Type 0
HasShortDescriptors b = (i : ℕ) → length (descriptor_at b.class.pool i) ≤ 65535

-- ---- the laws

-- each lies below what is known at the place
abbrev pub FramesLieBelow : Type 0
FramesLieBelow =
    (b : MethodBody) (s : ℕ → KindFact) (pc : ℕ) (frame : KindFrame) → IsBody b → IsSolution kind_order (kind_problem b) s
    → Comes b pc frame → fact_below (limited frame) (s pc) ≡ true

-- where two of different heights come, it is known that they do
abbrev pub HeightsAreSeen : Type 0
HeightsAreSeen =
    (b : MethodBody) (s : ℕ → KindFact) (pc : ℕ) (one other : KindFrame) → IsBody b → IsSolution kind_order (kind_problem b) s
    → Comes b pc one → Comes b pc other → one.height ≢ other.height → s pc ≡ facts.Mixed

-- where the least solution says that frames of different heights come, two do
abbrev pub MixedComeApart : Type 0
MixedComeApart =
    (b : MethodBody) (s : ℕ → KindFact) (pc : ℕ) → IsBody b → HasShortDescriptors b → IsLeast kind_order (kind_problem b) s
    → pc < length b.code.bytes → s pc ≡ facts.Mixed → ComeApart b pc
