use Rattle.std.proofs.Common.{◌<◌, ◌≤◌, length, map, sym, ap, ◌∙◌}
use Rattle.std.specs.Ordering.{is_eq}
use Rattle.std.proofs.lemmas.Bool.{ltb-true, ltb-false}
use Rattle.world.proofs.Keys.{found, absent, past}
use Rattle.world.proofs.members.place_of.Goals as goal

pub returns-then-is_eq : goal.returns-then-is_eq
returns-then-is_eq g c =
    let keys = map g.T.Member.key c.args.items.now in
    let within : c.count_before-at.result < length c.args.places.now = ltb-true c.count_before-at.result (length c.args.places.now) (sym c.in-Some.ensures.lookup.0) in
    let equal = ap is_eq (sym c.compare.ensures) ∙ sym c.is_eq.ensures ∙ c.if-is_eq.true in
    sym (found keys c.args.places.now c.args.name.now c.args.desc.now c.count_before-at.result c.in-Some.place.now c.requires c.count_before-at.ensures within c.in-Some.ensures.lookup.1 equal)

pub returns-else-is_eq : goal.returns-else-is_eq
returns-else-is_eq g c =
    let keys = map g.T.Member.key c.args.items.now in
    let within : c.count_before-at.result < length c.args.places.now = ltb-true c.count_before-at.result (length c.args.places.now) (sym c.in-Some.ensures.lookup.0) in
    let apart = ap is_eq (sym c.compare.ensures) ∙ sym c.is_eq.ensures ∙ c.if-is_eq.false in
    sym (absent keys c.args.places.now c.args.name.now c.args.desc.now c.count_before-at.result c.in-Some.place.now c.requires c.count_before-at.ensures within c.in-Some.ensures.lookup.1 apart)

pub returns-in-None : goal.returns-in-None
returns-in-None g c =
    let behind : length c.args.places.now ≤ c.count_before-at.result = ltb-false c.count_before-at.result (length c.args.places.now) (sym c.in-None.ensures.lookup.0) in
    sym (past (map g.T.Member.key c.args.items.now) c.args.places.now c.args.name.now c.args.desc.now c.count_before-at.result c.requires c.count_before-at.ensures behind)
