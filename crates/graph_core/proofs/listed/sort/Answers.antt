use Rattle.graph_core.proofs.MarkedLists.{listed_sorted, rising_sorted}
use Rattle.graph_core.proofs.listed.sort.Goals as goal

pub returns-clause-listed : goal.returns-clause-listed
returns-clause-listed c = listed_sorted _ _ c.requires.listed _ c.sort_unstable.ensures.permutation

pub returns-clause-rising : goal.returns-clause-rising
returns-clause-rising c = rising_sorted _ _ c.requires.listed _ c.sort_unstable.ensures.permutation c.sort_unstable.ensures.sorted
