use Rattle.std.proofs.Common.{take}
use Rattle.std.specs.Prelude.{flat_map}
use Rattle.code_flow.specs.Scanned.{site_targets}
use Rattle.code_flow.specs.Returning.{Adds}
use Rattle.code_flow.proofs.calling.add_sites.Given as goal

abbrev pub invariant-loop-site : goal.invariant-loop-site
invariant-loop-site l = Adds l.found l.i (flat_map site_targets (take l.site-index l.sites)) l.fn.graph l.graph
