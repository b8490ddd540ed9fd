use Rattle.std.proofs.Common.{sym, ◌∙◌}
use Rattle.graph_core.proofs.Trails.{told_by, told_not_above, told_not_below, both_ways}
use Rattle.graph_core.proofs.tree.FirstPaths.lies_on.Goals as goal

pub returns-in_default : goal.returns-in_default
returns-in_default c =
    λ g root s. (λ t. absurd (cc), λ on. absurd (told_not_above c.args.self.now c.args.h c.args.node (sym c.number.ensures ∙ c.in_default.is) ((s.on c.args.h c.args.node).1 on)))

pub returns-in_default-number : goal.returns-in_default-number
returns-in_default-number c =
    λ g root s. (λ t. absurd (cc), λ on. absurd (told_not_below c.args.self.now c.args.h c.args.node (sym c.number-2.ensures ∙ c.in_default-number.is) ((s.on c.args.h c.args.node).1 on)))

pub is_between-requires : goal.is_between-requires
is_between-requires c =
    c.requires.search.2.fits c.args.h c.in-Some.upper (sym c.number.ensures ∙ c.in-Some.is)

pub returns : goal.returns
returns c =
    let told = told_by c.args.self.now c.args.h c.args.node c.in-Some.upper c.in-Some-number.number _ (sym c.number.ensures ∙ c.in-Some.is) (sym c.number-2.ensures ∙ c.in-Some-number.is) c.is_between.ensures in
    λ g root s. both_ways told (s.on c.args.h c.args.node)
