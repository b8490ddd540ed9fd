-- New objects (JVMS 6.5.new).
use Rattle.std.specs.Prelude.{◌≡◌, ℕ, false, ◌∷◌, Result, Ok, Err}
use Rattle.class_pool.specs.Pool.{class_name_at}
use Rattle.op_table.specs.declared.construct.Construct.{Construct}
use Rattle.class_hierarchy.specs.World.{World}
use Rattle.linking.specs.Members.{made_by}
use Rattle.frames.specs.declared.value.Value.TheVariants.{Ref}
use Rattle.frames.specs.declared.heap.Cell.{Cell}
use Rattle.frames.specs.declared.heap.Cell.TheVariants.{Object}
use Rattle.frames.specs.declared.here.Here.{Here}
use Rattle.frames.specs.Heap.{free_number, with_cell, new_fields}
use Rattle.frames.specs.Standing.{Standing}
use Rattle.frames.specs.Outcome.{Outcome, Stops, stop_of, goes_on, moved, placed_at}

abbrev pub make_object : World → Standing → Here → Result ℕ Construct → Outcome
make_object w s here (Err construct) = Stops (stop_of construct)
make_object w s here (Ok c) =
    goes_on s.code false (moved s here here.frame.locals (Ref (free_number here.heap) ∷ here.frame.stack) (with_cell (Object c (new_fields w c)) here.heap))

-- the outcome of making an object of the class with this index
unfoldable pub new_object : World → Standing → Here → ℕ → Outcome
new_object w s here i = make_object w s here (made_by w (class_name_at s.class.pool i))

-- the frame goes on there with the number of what is new, and the heap has it
abbrev pub IsMade : ℕ → Cell → Here → Here → Type 0
IsMade pc cell before now =
    now ≡ placed_at pc before before.frame.locals (Ref (free_number before.heap) ∷ before.frame.stack) (with_cell cell before.heap)
