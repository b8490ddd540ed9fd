use Rattle.std.proofs.Common.{◌≡◌, take, map}
use Rattle.code_flow.specs.Scanned.{site_targets}
use Rattle.code_flow.proofs.planning.all_targets.Given as goal

abbrev pub invariant-loop-site : goal.invariant-loop-site
invariant-loop-site l = l.all ≡ map site_targets (take l.site-index l.sites)
