use Rattle.std.proofs.Common.{map, rules}
use Rattle.std.specs.Ordering.{is_lt}
use Rattle.std.proofs.lemmas.List.Sorted.{IsPartitionPoint-from_clause}
use Rattle.world.specs.Members.{Key, key_cmp, key_at}
use Rattle.world.proofs.Keys.{partitioned}
use Rattle.world.proofs.members.count_before.Goals as goal

pub returns : goal.returns
returns g c =
    let keys = map g.T.Member.key c.args.items.now in
    let key : Key = record { name = c.args.name.now; desc = c.args.desc.now } in
    IsPartitionPoint-from_clause (λ i. is_lt (key_cmp (key_at (map g.T.Member.key c.args.items.now) i) (record { name = c.args.name.now; desc = c.args.desc.now }))) c.args.places.now c.partition_point.result c.partition_point.ensures.partitioned (partitioned keys c.args.places.now key c.requires) (λ a r q k. search rules)
