-- The kinds of a program's methods, and what they say of activations (JVMS 2.6).
use Rattle.std.specs.Prelude.{◌≡◌, ℕ, List, Some, None, Contains}
use Rattle.method_body.specs.Bodies.{MethodBody, IsBody}
use Rattle.fix_engine.specs.Solution.{IsLeast}
use Rattle.kind_frames.specs.declared.fact.KindFrame.{KindFrame}
use Rattle.kind_frames.specs.declared.fact.KindFact.{KindFact}
use Rattle.kind_frames.specs.declared.fact.KindFact.TheVariants as facts
use Rattle.kind_frames.specs.Frames.{kind_order}
use Rattle.frame_kinds.specs.Flow.{kind_problem}
use Rattle.frame_kinds.specs.Disagreeing.{first_disagreement}
use Rattle.world.specs.declared.member.MemberId.{MemberId}
use Rattle.class_hierarchy.specs.World.{World, class_at}
use Rattle.linking.specs.Methods.{method_at}
use Rattle.frames.specs.declared.here.Here.{Here}
use Rattle.well_formed.specs.WellFormed.{IsWellFormed}
use Rattle.kind_runs.specs.Meaning.{IsOfKinds}
use Rattle.run_places.specs.Standing.{Stands}

-- what is known of the frames of each method, by place
abbrev pub KindTable : Type 0
KindTable = MemberId → ℕ → KindFact

-- The method's least kinds, which agree.
pub record HasKinds (w : World) (m : MemberId) (kinds : ℕ → KindFact) : Type 0 where
  pub body : MethodBody
  pub is : IsBody body
  pub of_class : body.class ≡ class_at w m.class
  pub declared : method_at w m ≡ Some body.method
  pub least : IsLeast kind_order (kind_problem body) kinds
  pub agree : first_disagreement body kinds ≡ None

-- so has each of the methods
abbrev pub AllHaveKinds : World → List MemberId → KindTable → Type 0
AllHaveKinds w methods table = (m : MemberId) → Contains methods m → HasKinds w m (table m)

-- An activation of one of the methods is as the kinds at its place say: its operand stack has the height, and its words
-- are of the kinds. Numbers lie in their range, and references lead to what is held.
pub record IsAsKinds (w : World) (methods : List MemberId) (table : KindTable) (here : Here) : Type 0 where
  pub stands : Stands w methods here.frame
  pub formed : IsWellFormed w here
  pub known : KindFrame
  pub at_place : table here.frame.method here.frame.pc ≡ facts.Known known
  pub words : IsOfKinds here.heap stands.code.max_locals known here.frame
