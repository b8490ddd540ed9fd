use Rattle.std.proofs.Common.{true, set, subst, sym}
use Rattle.graph_core.specs.MarkLists.{IsListed}
use Rattle.graph_core.proofs.MarkedLists.{listed_more}
use Rattle.graph_core.proofs.listed.list.Goals as goal

pub returns-clause-listed : goal.returns-clause-listed
returns-clause-listed c =
    subst (IsListed (set c.args.listed.now.marks.items c.args.x true)) (sym c.in_ok-push.ensures.items) (listed_more _ _ c.requires.listed _ c.requires.x c.requires.unmarked)
