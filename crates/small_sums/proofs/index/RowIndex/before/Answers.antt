use Rattle.std.specs.Prelude.{List}
use Rattle.std.proofs.Common.{arith, subst}
use Rattle.lin_rows.specs.declared.row.Row.{Row}
use Rattle.lin_rows.specs.Rows.{lins}
use Rattle.small_sums.specs.inside.Search.{AreKeys}
use Rattle.small_sums.proofs.Ends.{ends_before}
use Rattle.std.proofs.lemmas.List.{length-map}
use Rattle.small_sums.proofs.index.RowIndex.before.Goals as goal

pub returns : goal.returns
returns c =
    let rows = lins c.args.self.now in
    let keys : AreKeys rows c.self.inside.places = subst (λ (xs : List Row). AreKeys (lins xs) c.self.inside.places) c.self.view_is c.self.invariant.0 in
    let count = length-map c.args.self.now (λ (r : Row). r.lin) in
    λ key residue. ends_before rows c.self.inside.places keys c.args.place key c.previous.result (omega (arith, keys.count, count, c.requires)) residue c.previous.ensures
