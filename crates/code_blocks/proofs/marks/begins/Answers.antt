use Rattle.std.proofs.Common.{◌≡◌, false, length, arith, ap, ◌∙◌}
use Rattle.std.specs.Prelude.{slice_index_or}
use Rattle.std.proofs.lemmas.List.{length-replicate}
use Rattle.code_blocks.proofs.Marking.{begins_first, begins_next, none_marked}
use Rattle.code_blocks.proofs.marks.begins.Goals as goal

pub loop-i-init : goal.loop-i-init
loop-i-init c =
    let count : length c.in_ok-places.places ≡ c.args.size = ap (λ l. length l) c.in_ok-places.ensures ∙ length-replicate c.args.size false in
    record {
      count = c.mark.ensures.count ∙ count;
      marked = λ x lt.
          begins_first x (slice_index_or c.in_ok-places.places x false) (slice_index_or c.mark.new.self x false)
          (none_marked c.args.size x c.in_ok-places.places c.in_ok-places.ensures)
          (c.mark.ensures.marked x (omega arith));
    }

pub loop-i-preserved : goal.loop-i-preserved
loop-i-preserved c =
    let count : length c.loop-i.places ≡ c.args.size = c.loop-i.invariant.count in
    record {
      count = c.mark_starts.ensures.count ∙ count;
      marked = λ x lt.
          begins_next c.args.instructions.now c.loop-i.i-index c.i-item.result c.i-item.result x (slice_index_or c.loop-i.places x false) (slice_index_or c.mark_starts.new.places x false)
          c.loop-i-test.true c.i-item.is (c.loop-i.invariant.marked x lt) (c.mark_starts.ensures.marked x (omega arith));
    }
