use Rattle.std.proofs.Common.{◌≡◌, drop}
use Rattle.std.specs.Prelude.{flat_map}
use Rattle.code_flow.specs.Listing.{with_new}
use Rattle.code_flow.specs.Scanned.{site_targets}
use Rattle.code_flow.proofs.listing.add_targets.Given as goal

abbrev pub invariant-loop-site : goal.invariant-loop-site
invariant-loop-site l = with_new l.fn.found (flat_map site_targets l.sites) ≡ with_new l.found (flat_map site_targets (drop l.site-index l.sites))
