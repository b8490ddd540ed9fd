use Rattle.std.proofs.Common.{◌≡◌, ◌+◌, ◌<◌, ◌^◌, drop, sum_by}
use Rattle.class_pool.specs.PoolReading.{slot_size, links_from}
use Rattle.class_pool.proofs.links.check_links.Given as goal

abbrev pub invariant-loop-slot : goal.invariant-loop-slot
invariant-loop-slot l = record {
  links : links_from l.slots l.at (drop l.slot-index l.slots) ≡ links_from l.slots l.start l.slots;
  fits : l.at + sum_by slot_size (drop l.slot-index l.slots) < 2 ^ 32;
}
