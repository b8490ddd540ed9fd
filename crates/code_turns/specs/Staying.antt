-- What frames keep over the turns of loops (JVMS 2.6.1).
use Rattle.std.specs.Prelude.{◌≡◌, ℕ, Bool, List, Option, Some, slice_get, Contains}
use Rattle.nested_runs.specs.Nest.{Went, Done}
use Rattle.world.specs.declared.member.MemberId.{MemberId}
use Rattle.class_hierarchy.specs.World.{World}
use Rattle.loop_cut.specs.declared.found.CodeLoop.{CodeLoop}
use Rattle.frames.specs.declared.here.Here.{Here}
use Rattle.loop_turns.specs.Turns.{turn, Left, turns}
use Rattle.loop_runs.specs.Unchanged.{Stays}
use Rattle.code_turns.specs.Homes.{CutMethod, AreAllCut, places}
use Rattle.code_turns.specs.Knowing.{standing_activations}

-- from one to the other, by a turn in this region that still stands there or has been left
pub data TurnLeads (w : World) (methods : List MemberId) (cuts : MemberId → Option CutMethod) (weights : ℕ → ℕ) (unwrapped : Bool) (region : List ℕ) (a b : Here) : Type 0 where
  goes : {cost : ℕ} → Went (turns (standing_activations w methods weights unwrapped) (places cuts)) (turn a region) cost (turn b region) → TurnLeads w methods cuts weights unwrapped region a b
  left : {cost : ℕ} → Done (turns (standing_activations w methods weights unwrapped) (places cuts)) (turn a region) cost (Left b) → TurnLeads w methods cuts weights unwrapped region a b

-- a loop of the listed method of which the frame is one: that of the region, or one around it
pub record IsLoopOf (methods : List MemberId) (cuts : MemberId → Option CutMethod) (a : Here) (region : List ℕ) (c : CutMethod) (l : CodeLoop) : Type 0 where
  pub listed : Contains methods a.frame.method
  pub has : cuts a.frame.method ≡ Some c
  pub known : Contains c.loops.loops l
  pub around : Contains region l.entry

-- over a loop's turn, the turns inside it and all calls among them, its frame stays in the loop's blocks
abbrev pub LoopTurnsStay : Type 0
LoopTurnsStay =
    (w : World) (methods : List MemberId) (cuts : MemberId → Option CutMethod) (weights : ℕ → ℕ) (unwrapped : Bool) (region : List ℕ) (a b : Here)
    (c : CutMethod) (l : CodeLoop)
    → AreAllCut w methods cuts → IsLoopOf methods cuts a region c l → TurnLeads w methods cuts weights unwrapped region a b
    → Stays w c.body l.blocks a b

-- so the locals that the loop doesn't change keep their words
abbrev pub LoopTurnsKeepLocals : Type 0
LoopTurnsKeepLocals =
    (w : World) (methods : List MemberId) (cuts : MemberId → Option CutMethod) (weights : ℕ → ℕ) (unwrapped : Bool) (region : List ℕ) (a b : Here)
    (c : CutMethod) (l : CodeLoop) (n : ℕ)
    → AreAllCut w methods cuts → IsLoopOf methods cuts a region c l → TurnLeads w methods cuts weights unwrapped region a b
    → (Contains l.changed n → ⊥) → slice_get b.frame.locals n ≡ slice_get a.frame.locals n
