use Rattle.std.specs.Prelude.{◌≡◌, true, false}
use Rattle.std.proofs.Common.{refl}
use Rattle.small_caps.specs.inside.Search.{IsEarlier}
use Rattle.small_caps.proofs.Firsts.{not_lesser_first, first_self, keeps_first}
use Rattle.small_caps.proofs.search.first_of.Goals as goal

pub returns-then-is_before-clause-keeps : goal.returns-then-is_before-clause-keeps
returns-then-is_before-clause-keeps c = keeps_first c.args.best c.in-Some.found c.args.more c.in-Some.is (c.if-is_before.ensures.0 refl)

pub returns-then-is_before-clause-covers : goal.returns-then-is_before-clause-covers
returns-then-is_before-clause-covers c = first_self c.args.more.cap

pub returns-else-is_before-clause-covers : goal.returns-else-is_before-clause-covers
returns-else-is_before-clause-covers c = not_lesser_first c.args.more.cap c.in-Some.found.cap (λ (h : IsEarlier c.args.more.cap c.in-Some.found.cap). let t : false ≡ true = c.if-is_before.ensures.1 h in absurd cc)

pub returns-in-None-clause-covers : goal.returns-in-None-clause-covers
returns-in-None-clause-covers c = first_self c.args.more.cap
