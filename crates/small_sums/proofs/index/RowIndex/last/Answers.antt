use Rattle.std.specs.Prelude.{List, length}
use Rattle.std.proofs.Common.{subst}
use Rattle.lin_rows.specs.declared.row.Row.{Row}
use Rattle.lin_rows.specs.Rows.{lins}
use Rattle.small_sums.specs.inside.Search.{AreKeys}
use Rattle.small_sums.proofs.Ends.{last_ends}
use Rattle.std.proofs.Common.{sym}
use Rattle.std.proofs.lemmas.List.{length-map}
use Rattle.small_sums.proofs.index.RowIndex.last.Goals as goal

pub returns : goal.returns
returns c =
    let rows = lins c.args.self.now in
    let keys : AreKeys rows c.self.inside.places = subst (λ (xs : List Row). AreKeys (lins xs) c.self.inside.places) c.self.view_is c.self.invariant.0 in
    last_ends rows c.self.inside.places keys (length c.args.self.now) c.args.key c.last.result (sym (length-map c.args.self.now (λ (r : Row). r.lin))) c.last.ensures
