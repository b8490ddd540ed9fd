use Rattle.std.proofs.Common.{sym, ◌∙◌, ap}
use Rattle.std.specs.Prelude.{slice_set}
use Rattle.frames.specs.Heap.{with_item}
use Rattle.frames.specs.declared.heap.Cell.{Cell}
use Rattle.frames.specs.declared.heap.Cell.TheVariants as cells
use Rattle.frames.proofs.Heaps.{element_written}
use Rattle.frames.proofs.heap.Heap.set_element.Goals as goal
use Rattle.frames.proofs.heap.Heap.set_element.Goals.{in-Array, in_default}

pub returns : goal.returns
returns c =
    let held = c.self.inside.cells.items in
    let written = λ (cell : Cell). slice_set held c.args.array (with_item c.args.index c.args.value cell) in
    elim c.match-index_mut.branch [
      | in-Array w ↦
          element_written c.args.self.now held _ c.args.array c.args.index c.args.value _ (sym c.self.view_is) c.requires
          (ap (λ h. h.cells.items) w.self-inside-is
          ∙ ap (λ items. slice_set held c.args.array (cells.Array w.in-Array.element items)) w.set.ensures
          ∙ ap written (sym w.in-Array.is ∙ c.index_mut.ensures.value))
      | in_default w ↦
          element_written c.args.self.now held _ c.args.array c.args.index c.args.value _ (sym c.self.view_is) c.requires
          (ap (λ h. h.cells.items) w.self-inside-is
          ∙ ap (λ (cell : Cell). slice_set held c.args.array cell) w.in_default.is
          ∙ ap written (sym w.in_default.is ∙ c.index_mut.ensures.value))
    ]
