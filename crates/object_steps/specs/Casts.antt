-- What a reference is an instance of (JVMS 6.5.checkcast, 6.5.instanceof).
use Rattle.std.specs.Prelude.{pos, List, Option, Some, None, Result, Ok, Err, ℕ, if◌then◌else◌}
use Rattle.class_pool.specs.Pool.{class_name_at}
use Rattle.op_table.specs.declared.acts.Action.{Action}
use Rattle.op_table.specs.declared.acts.Action.TheVariants as acts
use Rattle.op_table.specs.declared.acts.Kind.TheVariants as kinds
use Rattle.op_table.specs.declared.construct.Construct.{Construct}
use Rattle.class_hierarchy.specs.World.{World}
use Rattle.frames.specs.declared.value.Value.{Value}
use Rattle.frames.specs.declared.value.Value.TheVariants.{Int, Long, Pad, Null, Ref}
use Rattle.frames.specs.declared.here.Here.{Here}
use Rattle.frames.specs.declared.failure.Failure.{Failure}
use Rattle.frames.specs.declared.failure.Failure.TheVariants.{Throws, Stops}
use Rattle.frames.specs.declared.failure.Raised.TheVariants as raised
use Rattle.frames.specs.declared.failure.Stop.TheVariants.{Support}
use Rattle.frames.specs.Words.{Popped, popped}
use Rattle.frames.specs.Heap.{Cells, cell_at, is_instance}
use Rattle.frames.specs.Standing.{Standing}
use Rattle.frames.specs.Outcome.{stop_of}
use Rattle.object_steps.specs.Classes.{class_known, type_named}
use Rattle.object_steps.specs.After.{After, reads, misfit}

-- null and an instance of the type stay, and anything else throws
abbrev pub cast : World → Cells → List ℕ → Value → Result Value Failure
cast w heap type Null = Ok Null
cast w heap type (Ref r) = if is_instance w type (cell_at heap r) then Ok (Ref r) else Err (Throws raised.ClassCast)
cast w heap type (Int n) = misfit
cast w heap type (Long n) = misfit
cast w heap type Pad = misfit

-- 1 for an instance of the type, 0 for anything else and null
abbrev pub test : World → Cells → List ℕ → Value → Result Value Failure
test w heap type Null = Ok (Int (pos 0))
test w heap type (Ref r) = Ok (Int (if is_instance w type (cell_at heap r) then pos 1 else pos 0))
test w heap type (Int n) = misfit
test w heap type (Long n) = misfit
test w heap type Pad = misfit

abbrev pub on_popped : Here → (Value → Result Value Failure) → Option Popped → Result After Failure
on_popped here f None = misfit
on_popped here f (Some p) = reads here p.rest (f p.value)

abbrev pub cast_to : World → Here → Result (List ℕ) Construct → Result After Failure
cast_to w here (Err construct) = Err (Stops (stop_of construct))
cast_to w here (Ok name) = on_popped here (cast w here.heap (type_named name)) (popped kinds.Reference here.frame.stack)

abbrev pub test_of : World → Here → Result (List ℕ) Construct → Result After Failure
test_of w here (Err construct) = Err (Stops (stop_of construct))
test_of w here (Ok name) = on_popped here (test w here.heap (type_named name)) (popped kinds.Reference here.frame.stack)

-- what such an instruction leaves
unfoldable pub cast_after : World → Standing → Here → Action → Result After Failure
cast_after w s here (acts.CheckCast i) = cast_to w here (class_known w (class_name_at s.class.pool i))
cast_after w s here (acts.InstanceOf i) = test_of w here (class_known w (class_name_at s.class.pool i))
cast_after w s here action = Err (Stops Support)
