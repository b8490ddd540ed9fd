use Rattle.graph_core.proofs.MarkedLists.{listed_none}
use Rattle.graph_core.proofs.listed.none_listed.Goals as goal

pub returns-clause-listed : goal.returns-clause-listed
returns-clause-listed c = listed_none _ _ _ (c.in_ok-marks.ensures.items_if_clones_equal (λ y h. h)) c.new.ensures.items
