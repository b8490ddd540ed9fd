use Rattle.std.specs.Prelude.{◌≡◌, pos, length}
use Rattle.std.proofs.Common.{sym, ap, ◌∙◌}
use Rattle.std.proofs.lemmas.List.{length-replicate}
use Rattle.std.proofs.lemmas.List.{length-map}
use Rattle.q128.specs.Fraction.{whole}
use Rattle.lin_rows.specs.declared.row.Row.{Row}
use Rattle.lin_rows.specs.Combining.{Combination, zeros}
use Rattle.lin_rows.specs.Rows.{lins, longest_of}
use Rattle.lin_rows.proofs.LongestRows.{longest_room}
use Rattle.small_caps.proofs.Trials.{tried_ok}
use Rattle.small_caps.proofs.search.Search.sum.Goals as goal

pub add_to-requires-clause-room : goal.add_to-requires-clause-room
add_to-requires-clause-room c =
    let cleared : length c.clear.new.self.coefficients ≡ longest_of (lins c.args.self.now.rows.now) = ap (λ (s : Combination). length s.coefficients) c.clear.ensures ∙ length-replicate (length c.args.scratch.now.coefficients) (whole (pos 0)) ∙ c.requires.room in
    longest_room (lins c.args.self.now.rows.now) (length c.clear.new.self.coefficients) cleared

pub returns-clause-yes : goal.returns-clause-yes
returns-clause-yes c =
    tried_ok (lins c.args.self.now.rows.now) (length c.args.self.now.rows.now) c.args.pick.front c.args.pick.last c.clear.new.self c.add_to.new.sum c.add_to.result c.is_ok.result (sym (length-map c.args.self.now.rows.now (λ (r : Row). r.lin)))
    c.requires.front c.requires.last c.requires.behind (c.clear.ensures ∙ ap zeros c.requires.room) c.is_ok.ensures.value c.add_to.ensures.ok
