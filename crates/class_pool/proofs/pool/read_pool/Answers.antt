use Rattle.std.proofs.Common.{arith, sym, ap, subst, ◌∙◌}
use Rattle.std.specs.Prelude.{sum_by}
use Rattle.std.specs.List.{AllByRecursion}
use Rattle.class_pool.specs.Pool.{IsLinkedSlot}
use Rattle.class_pool.specs.Place.{IsBytes}
use Rattle.class_pool.specs.PoolReading.{slot_size}
use Rattle.class_pool.proofs.Numbers.{IsBytes-drop}
use Rattle.class_pool.proofs.Getters.{Slots}
use Rattle.class_pool.proofs.PoolFaults.{are_linked}
use Rattle.class_pool.proofs.Tables.{slots_sized}
use Rattle.class_pool.proofs.pool.read_pool.Goals as goal

pub check_links-requires : goal.check_links-requires
check_links-requires c =
    let moved = c.in_ok-count.ensures.moved in
    let fits : IsBytes c.u2.new.self.rest = rw moved (IsBytes-drop 2 c.args.cursor.now.rest c.has_bytes.ensures) in
    let sized = slots_sized c.saturating_sub.result c.u2.new.self c.in_ok-slots.slots.items c.read_slots.new.cursor fits c.in_ok-slots.ensures in
    let all = ap (sum_by slot_size) c.deref.ensures.value in
    rw all (omega (arith, sized, c.at-start.ensures, c.at-end.ensures, c.at-end.type_inv))

pub invariant_of-result : goal.invariant_of-result
invariant_of-result c =
    let linked = are_linked c.deref.result.now c.at-start.result c.deref.result.now c.in_ok-check_links.field-0 (sym c.check_links.ensures ∙ c.in_ok-check_links.was) in
    subst (λ (slots : Slots). AllByRecursion (IsLinkedSlot slots) slots) c.deref.ensures.value linked
