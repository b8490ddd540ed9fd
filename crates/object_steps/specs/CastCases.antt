-- What an instruction that asks what a reference is an instance of leaves, by cases (JVMS 6.5.checkcast, 6.5.instanceof).
use Rattle.std.specs.Prelude.{◌≡◌, ℕ, pos, true, false, List, Some, Result, Ok, Err}
use Rattle.class_pool.specs.Pool.{class_name_at}
use Rattle.op_table.specs.declared.acts.Action.{Action}
use Rattle.op_table.specs.declared.acts.Action.TheVariants as acts
use Rattle.op_table.specs.declared.acts.Kind.TheVariants as kinds
use Rattle.class_hierarchy.specs.World.{World}
use Rattle.frames.specs.declared.value.Value.TheVariants.{Int, Null, Ref}
use Rattle.frames.specs.declared.here.Here.{Here}
use Rattle.frames.specs.declared.failure.Failure.{Failure}
use Rattle.frames.specs.declared.failure.Failure.TheVariants.{Throws, Stops}
use Rattle.frames.specs.declared.failure.Raised.{Raised}
use Rattle.frames.specs.declared.failure.Raised.TheVariants as raised
use Rattle.frames.specs.Words.{Popped, popped}
use Rattle.frames.specs.Heap.{cell_at, is_instance}
use Rattle.frames.specs.Standing.{Standing}
use Rattle.object_steps.specs.Classes.{class_known, type_named}
use Rattle.object_steps.specs.After.{After, read}
use Rattle.object_steps.specs.Casts.{cast_after}

-- By the action: what is left where it goes on.
pub data CastChange (w : World) (s : Standing) (at : Here) : Action → After → Type 0 where
  null_passes :
      {i : ℕ} {name : List ℕ} {p : Popped}
      → class_known w (class_name_at s.class.pool i) ≡ Ok name → popped kinds.Reference at.frame.stack ≡ Some p → p.value ≡ Null
      → CastChange w s at (acts.CheckCast i) (read at Null p.rest)
  passes :
      {i r : ℕ} {name : List ℕ} {p : Popped}
      → class_known w (class_name_at s.class.pool i) ≡ Ok name → popped kinds.Reference at.frame.stack ≡ Some p → p.value ≡ Ref r
      → is_instance w (type_named name) (cell_at at.heap r) ≡ true
      → CastChange w s at (acts.CheckCast i) (read at (Ref r) p.rest)
  null_is_none :
      {i : ℕ} {name : List ℕ} {p : Popped}
      → class_known w (class_name_at s.class.pool i) ≡ Ok name → popped kinds.Reference at.frame.stack ≡ Some p → p.value ≡ Null
      → CastChange w s at (acts.InstanceOf i) (read at (Int (pos 0)) p.rest)
  is_one :
      {i r : ℕ} {name : List ℕ} {p : Popped}
      → class_known w (class_name_at s.class.pool i) ≡ Ok name → popped kinds.Reference at.frame.stack ≡ Some p → p.value ≡ Ref r
      → is_instance w (type_named name) (cell_at at.heap r) ≡ true
      → CastChange w s at (acts.InstanceOf i) (read at (Int (pos 1)) p.rest)
  is_none :
      {i r : ℕ} {name : List ℕ} {p : Popped}
      → class_known w (class_name_at s.class.pool i) ≡ Ok name → popped kinds.Reference at.frame.stack ≡ Some p → p.value ≡ Ref r
      → is_instance w (type_named name) (cell_at at.heap r) ≡ false
      → CastChange w s at (acts.InstanceOf i) (read at (Int (pos 0)) p.rest)

-- What it throws, and what it saw.
pub data CastThrows (w : World) (s : Standing) (at : Here) : Action → Raised → Type 0 where
  not_passed :
      {i r : ℕ} {name : List ℕ} {p : Popped}
      → class_known w (class_name_at s.class.pool i) ≡ Ok name → popped kinds.Reference at.frame.stack ≡ Some p → p.value ≡ Ref r
      → is_instance w (type_named name) (cell_at at.heap r) ≡ false
      → CastThrows w s at (acts.CheckCast i) raised.ClassCast

-- ---- the laws

-- what is left is one of the cases, or what is thrown is, or the run stops
abbrev pub IsCastCase : World → Standing → Here → Action → Result After Failure → Type 0
IsCastCase w s at action (Ok a) = CastChange w s at action a
IsCastCase w s at action (Err (Throws what)) = CastThrows w s at action what
IsCastCase w s at action (Err (Stops k)) = Unit {0}

abbrev pub CastsAreCases : Type 0
CastsAreCases = (w : World) (s : Standing) (at : Here) (action : Action) → IsCastCase w s at action (cast_after w s at action)

-- each of the cases is met
abbrev pub CastCasesAreLeft : Type 0
CastCasesAreLeft =
    (w : World) (s : Standing) (at : Here) (action : Action) (a : After) → CastChange w s at action a → cast_after w s at action ≡ Ok a

abbrev pub CastCasesAreThrown : Type 0
CastCasesAreThrown =
    (w : World) (s : Standing) (at : Here) (action : Action) (what : Raised)
    → CastThrows w s at action what → cast_after w s at action ≡ Err (Throws what)
