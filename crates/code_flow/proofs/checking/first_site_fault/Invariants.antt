use Rattle.std.proofs.Common.{◌≡◌, drop}
use Rattle.code_flow.specs.Flow.{first_of}
use Rattle.code_flow.specs.Checking.{checked_site}
use Rattle.code_flow.proofs.checking.first_site_fault.Given as goal

abbrev pub invariant-loop-site : goal.invariant-loop-site
invariant-loop-site l = first_of (checked_site l.check l.found l.i l.m) l.sites ≡ first_of (checked_site l.check l.found l.i l.m) (drop l.site-index l.sites)
