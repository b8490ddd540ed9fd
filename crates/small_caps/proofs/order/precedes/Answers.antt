use Rattle.std.specs.Prelude.{◌≡◌, ◌<ℤ◌, ◌↔◌, true, false, IsTrue, FitsSigned}
use Rattle.std.specs.Int.{w128}
use Rattle.std.proofs.Common.{refl, inl, rules}
use Rattle.std.proofs.lemmas.Int.{to_z-of_z}
use Rattle.small_caps.proofs.Keys.{key_less, key_equal, key_greater, equal_by, not_lesser}
use Rattle.small_caps.proofs.order.precedes.Goals as goal

pub returns-in-Less : goal.returns-in-Less
returns-in-Less c = (λ t. inl (key_less c.args.key.now c.args.other.now c.cmp.result c.cmp.ensures c.in-Less.is), λ l. refl)

pub returns-in-Equal : goal.returns-in-Equal
returns-in-Equal c =
    let first : FitsSigned w128 c.args.constant = search rules in
    let second : FitsSigned w128 c.args.other_constant = search rules in
    let less : IsTrue c.is_less.result ↔ (c.args.constant <ℤ c.args.other_constant) = simp to_z-of_z at c.is_less.ensures in
    equal_by c.args.key.now c.args.other.now c.args.constant c.args.other_constant (IsTrue c.is_less.result) (key_equal c.args.key.now c.args.other.now c.cmp.result c.cmp.ensures c.in-Equal.is) less

pub returns-in-Greater : goal.returns-in-Greater
returns-in-Greater c = (λ (t : false ≡ true). absurd cc, λ l. absurd (not_lesser c.args.key.now c.args.other.now c.args.constant c.args.other_constant (key_greater c.args.key.now c.args.other.now c.cmp.result c.cmp.ensures c.in-Greater.is) l))
