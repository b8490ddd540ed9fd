use Rattle.std.proofs.Common.{◌≡◌, map, length, arith, rules}
use Rattle.std.proofs.lemmas.List.{length-map}
use Rattle.world.proofs.Keys.{by_key, sorted_by}
use Rattle.world.proofs.members.places_of.Goals as goal

pub returns : goal.returns
returns g c =
    let keys = map g.T.Member.key c.args.items.now in
    let count : length c.args.items.now ≡ length (map g.T.Member.key c.args.items.now) = omega (arith, length-map c.args.items.now g.T.Member.key) in
    rw c.from.ensures (by_key keys c.in_ok-places.places.items c.sort_unstable_by.new.self.items (length c.args.items.now) count c.in_ok-places.ensures c.sort_unstable_by.ensures.permutation (sorted_by keys c.sort_unstable_by.new.self.items c.sort_unstable_by.ensures.sorted (λ a r q k. search rules)))
