use Rattle.std.proofs.Common.{sym, ◌∙◌, ap}
use Rattle.std.specs.Prelude.{slice_set}
use Rattle.frames.specs.Heap.{with_member}
use Rattle.frames.specs.declared.heap.Cell.{Cell}
use Rattle.frames.specs.declared.heap.Cell.TheVariants as cells
use Rattle.frames.proofs.Heaps.{field_written}
use Rattle.frames.proofs.heap.Heap.set_field.Goals as goal
use Rattle.frames.proofs.heap.Heap.set_field.Goals.{in-Object, in_default}

pub returns : goal.returns
returns c =
    let held = c.self.inside.cells.items in
    let written = λ (cell : Cell). slice_set held c.args.object (with_member c.args.field c.args.value cell) in
    elim c.match-index_mut.branch [
      | in-Object w ↦
          field_written c.args.self.now held _ c.args.object c.args.field c.args.value _ (sym c.self.view_is) c.requires
          (ap (λ h. h.cells.items) w.self-inside-is
          ∙ ap (λ fields. slice_set held c.args.object (cells.Object w.in-Object.class fields)) w.set_value.ensures
          ∙ ap written (sym w.in-Object.is ∙ c.index_mut.ensures.value))
      | in_default w ↦
          field_written c.args.self.now held _ c.args.object c.args.field c.args.value _ (sym c.self.view_is) c.requires
          (ap (λ h. h.cells.items) w.self-inside-is
          ∙ ap (λ (cell : Cell). slice_set held c.args.object cell) w.in_default.is
          ∙ ap written (sym w.in_default.is ∙ c.index_mut.ensures.value))
    ]
