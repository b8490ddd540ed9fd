use Rattle.std.proofs.Common.{◌≡◌, ℕ, List, Option, Some, refl, ◌∙◌}
use Rattle.class_pool.specs.declared.constant.Constant.{Constant}
use Rattle.class_reader.specs.MemberReading.{Declarations}
use Rattle.class_reader.specs.TextTable.{key_of, members_in}
use Rattle.class_reader.proofs.TextTables.{keeps_indexed, is_met_before, is_added}
use Rattle.class_reader.proofs.declared.Declared.add.Goals as goal

-- what is seen of these fields
abbrev seen : List (Option Constant) → List (ℕ × ℕ) → Declarations
seen pool pairs = record { pool = pool; members = members_in pool pairs }

pub invariant_of-self-2 : goal.invariant_of-self-2
invariant_of-self-2 c =
    let d = c.self.inside in
    let found : key_of d.facts.items (c.args.name, c.args.desc) ≡ Some c.in-Some.key = cc in
    rw c.in_ok-is_met.ensures.pairs (keeps_indexed d.pool.now d.facts.items d.keys.keys c.add_pair.new.keys.keys d.pairs.items c.self.invariant c.args.name c.args.desc c.in-Some.key found c.in_ok-is_met.ensures.keys)

pub returns : goal.returns
returns c =
    let d = c.self.inside in
    let found : key_of d.facts.items (c.args.name, c.args.desc) ≡ Some c.in-Some.key = cc in
    let met = is_met_before d.pool.now d.facts.items d.keys.keys d.pairs.items c.self.invariant c.args.name c.args.desc c.in-Some.key found in
    let added = is_added d.pool.now d.facts.items d.keys.keys d.pairs.items c.self.invariant c.args.name c.args.desc c.in-Some.key found in
    rw (← c.self.view_is) (c.in_ok-is_met.ensures.met ∙ met, rw (c.in_ok-is_met.ensures.pairs, added) refl)
