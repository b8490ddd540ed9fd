use Rattle.std.proofs.Common.{◌↔◌, Option, ℕ, sym, subst}
use Rattle.std.specs.Prelude.{IsTrue}
use Rattle.plain_graphs.specs.Nearest.{IsNearest}
use Rattle.plain_graphs.proofs.nesting.is_nearest.Goals as goal

pub returns-in-None : goal.returns-in-None
returns-in-None c =
    subst (λ (o : Option ℕ). IsTrue c.has_none.result ↔ IsNearest c.args.p.now.graph.now c.args.p.now.root c.args.x c.args.e o) (sym c.in-None.is) c.has_none.ensures
