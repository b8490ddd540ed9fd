use Rattle.std.proofs.Common.{rules}
use Rattle.fix_engine.proofs.Tables.{row_within, row_grows, all_wait}
use Rattle.fix_engine.proofs.search.wake.Goals as goal

pub add_all-requires : goal.add_all-requires
add_all-requires g c =
    row_within _ _ _ _ _ _ c.requires.readers c.requires.edges c.of.ensures

pub returns-clause-grows : goal.returns-clause-grows
returns-clause-grows g c =
    search (rules, row_grows, c.in_ok-add_all.ensures.grows, c.of.ensures)

pub returns-clause-woken : goal.returns-clause-woken
returns-clause-woken g c = search (all_wait, c.requires.readers, c.in_ok-add_all.ensures.listed)
