-- What an instruction leaves that asks what a reference is an instance of is one of the cases, and each of these is met.
use Rattle.std.proofs.Common.{◌≡◌, ℕ, Bool, true, false, List, Option, Some, None, Result, Ok, Err, refl}
use Rattle.std.specs.Prelude.{pos, if◌then◌else◌}
use Rattle.class_pool.specs.Pool.{class_name_at}
use Rattle.op_table.specs.declared.acts.Action.{Action}
use Rattle.op_table.specs.declared.acts.Action.TheVariants as acts
use Rattle.op_table.specs.declared.acts.Kind.TheVariants as kinds
use Rattle.op_table.specs.declared.construct.Construct.{Construct}
use Rattle.class_hierarchy.specs.World.{World}
use Rattle.frames.specs.declared.value.Value.{Value}
use Rattle.frames.specs.declared.value.Value.TheVariants.{Int, Long, Pad, Null, Ref}
use Rattle.frames.specs.declared.here.Here.{Here}
use Rattle.frames.specs.declared.failure.Failure.TheVariants.{Throws}
use Rattle.frames.specs.declared.failure.Raised.{Raised}
use Rattle.frames.specs.declared.failure.Raised.TheVariants as raised
use Rattle.frames.specs.Words.{Popped, popped}
use Rattle.frames.specs.Heap.{cell_at, is_instance}
use Rattle.frames.specs.Standing.{Standing}
use Rattle.object_steps.specs.Classes.{class_known, type_named}
use Rattle.object_steps.specs.After.{After, reads}
use Rattle.object_steps.specs.Casts as casts
use Rattle.object_steps.specs.Casts.{cast_after}
use Rattle.object_steps.specs.CastCases as rows
use Rattle.object_steps.specs.CastCases.{IsCastCase, CastChange, CastThrows}

-- ---- checkcast

instance_cast : (w : World) (s : Standing) (at : Here) (i r : ℕ) (name : List ℕ) (p : Popped) (instance : Bool)
    → class_known w (class_name_at s.class.pool i) ≡ Ok name → popped kinds.Reference at.frame.stack ≡ Some p → p.value ≡ Ref r
    → is_instance w (type_named name) (cell_at at.heap r) ≡ instance
    → IsCastCase w s at (acts.CheckCast i) (reads at p.rest (if instance then Ok (Ref r) else Err (Throws raised.ClassCast)))
instance_cast w s at i r name p true of top is instance = rows.passes of top is instance
instance_cast w s at i r name p false of top is instance = rows.not_passed of top is instance

value_cast : (w : World) (s : Standing) (at : Here) (i : ℕ) (name : List ℕ) (p : Popped) (value : Value)
    → class_known w (class_name_at s.class.pool i) ≡ Ok name → popped kinds.Reference at.frame.stack ≡ Some p → p.value ≡ value
    → IsCastCase w s at (acts.CheckCast i) (reads at p.rest (casts.cast w at.heap (type_named name) value))
value_cast w s at i name p (Int n) of top is = tt
value_cast w s at i name p (Long n) of top is = tt
value_cast w s at i name p Pad of top is = tt
value_cast w s at i name p Null of top is = rows.null_passes of top is
value_cast w s at i name p (Ref r) of top is = instance_cast w s at i r name p (is_instance w (type_named name) (cell_at at.heap r)) of top is refl

popped_cast : (w : World) (s : Standing) (at : Here) (i : ℕ) (name : List ℕ) (p : Option Popped)
    → class_known w (class_name_at s.class.pool i) ≡ Ok name → popped kinds.Reference at.frame.stack ≡ p
    → IsCastCase w s at (acts.CheckCast i) (casts.on_popped at (casts.cast w at.heap (type_named name)) p)
popped_cast w s at i name None of top = tt
popped_cast w s at i name (Some p) of top = value_cast w s at i name p p.value of top refl

named_cast : (w : World) (s : Standing) (at : Here) (i : ℕ) (name : Result (List ℕ) Construct) → class_known w (class_name_at s.class.pool i) ≡ name
    → IsCastCase w s at (acts.CheckCast i) (casts.cast_to w at name)
named_cast w s at i (Err construct) of = tt
named_cast w s at i (Ok name) of = popped_cast w s at i name (popped kinds.Reference at.frame.stack) of refl

-- ---- instanceof

instance_test : (w : World) (s : Standing) (at : Here) (i r : ℕ) (name : List ℕ) (p : Popped) (instance : Bool)
    → class_known w (class_name_at s.class.pool i) ≡ Ok name → popped kinds.Reference at.frame.stack ≡ Some p → p.value ≡ Ref r
    → is_instance w (type_named name) (cell_at at.heap r) ≡ instance
    → IsCastCase w s at (acts.InstanceOf i) (reads at p.rest (Ok (Int (if instance then pos 1 else pos 0))))
instance_test w s at i r name p true of top is instance = rows.is_one of top is instance
instance_test w s at i r name p false of top is instance = rows.is_none of top is instance

value_test : (w : World) (s : Standing) (at : Here) (i : ℕ) (name : List ℕ) (p : Popped) (value : Value)
    → class_known w (class_name_at s.class.pool i) ≡ Ok name → popped kinds.Reference at.frame.stack ≡ Some p → p.value ≡ value
    → IsCastCase w s at (acts.InstanceOf i) (reads at p.rest (casts.test w at.heap (type_named name) value))
value_test w s at i name p (Int n) of top is = tt
value_test w s at i name p (Long n) of top is = tt
value_test w s at i name p Pad of top is = tt
value_test w s at i name p Null of top is = rows.null_is_none of top is
value_test w s at i name p (Ref r) of top is = instance_test w s at i r name p (is_instance w (type_named name) (cell_at at.heap r)) of top is refl

popped_test : (w : World) (s : Standing) (at : Here) (i : ℕ) (name : List ℕ) (p : Option Popped)
    → class_known w (class_name_at s.class.pool i) ≡ Ok name → popped kinds.Reference at.frame.stack ≡ p
    → IsCastCase w s at (acts.InstanceOf i) (casts.on_popped at (casts.test w at.heap (type_named name)) p)
popped_test w s at i name None of top = tt
popped_test w s at i name (Some p) of top = value_test w s at i name p p.value of top refl

named_test : (w : World) (s : Standing) (at : Here) (i : ℕ) (name : Result (List ℕ) Construct) → class_known w (class_name_at s.class.pool i) ≡ name
    → IsCastCase w s at (acts.InstanceOf i) (casts.test_of w at name)
named_test w s at i (Err construct) of = tt
named_test w s at i (Ok name) of = popped_test w s at i name (popped kinds.Reference at.frame.stack) of refl

-- ---- all

pub casts_are_cases : (w : World) (s : Standing) (at : Here) (action : Action) → IsCastCase w s at action (cast_after w s at action)
unfolding cast_after
casts_are_cases w s at (acts.CheckCast i) = named_cast w s at i (class_known w (class_name_at s.class.pool i)) refl
casts_are_cases w s at (acts.InstanceOf i) = named_test w s at i (class_known w (class_name_at s.class.pool i)) refl
casts_are_cases w s at action = tt

pub cast_cases_left : (w : World) (s : Standing) (at : Here) (action : Action) (a : After) → CastChange w s at action a → cast_after w s at action ≡ Ok a
unfolding cast_after
cast_cases_left w s at action a (rows.null_passes of top is) = rw (of, top, is) refl
cast_cases_left w s at action a (rows.passes of top is instance) = rw (of, top, is, instance) refl
cast_cases_left w s at action a (rows.null_is_none of top is) = rw (of, top, is) refl
cast_cases_left w s at action a (rows.is_one of top is instance) = rw (of, top, is, instance) refl
cast_cases_left w s at action a (rows.is_none of top is instance) = rw (of, top, is, instance) refl

pub cast_cases_thrown : (w : World) (s : Standing) (at : Here) (action : Action) (what : Raised) → CastThrows w s at action what
    → cast_after w s at action ≡ Err (Throws what)
unfolding cast_after
cast_cases_thrown w s at action what (rows.not_passed of top is instance) = rw (of, top, is, instance) refl
