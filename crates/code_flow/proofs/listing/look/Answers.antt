use Rattle.std.proofs.Common.{ap, ◌∙◌}
use Rattle.std.specs.Prelude.{flat_map}
use Rattle.code_flow.specs.Listing.{with_new}
use Rattle.code_flow.specs.Scanned.{site_targets}
use Rattle.code_flow.proofs.Listings.{still_there}
use Rattle.code_flow.proofs.listing.look.Goals as goal

pub returns-clause-there : goal.returns-clause-there
returns-clause-there c =
    still_there c.args.w.now c.args.listing.now.found c.add_targets.new.found c.in_ok-scan.scan.body.sites c.in_ok-scan.ensures.there
    (c.in_ok-add_targets.ensures ∙ ap (λ l. with_new c.args.listing.now.found (flat_map site_targets l)) c.as_slice.ensures)
