use Rattle.std.proofs.Common.{◌≡◌, All, map, take}
use Rattle.code_flow.specs.Scanning.{site_of}
use Rattle.code_flow.specs.ThereScanning.{HasTargets}
use Rattle.code_flow.proofs.scanning.sites_of.Given as goal

abbrev pub invariant-loop-p : goal.invariant-loop-p
invariant-loop-p l = record {
  exact : l.sites ≡ map (site_of l.w l.current l.code) (take l.p-index l.p-items);
  there : All (HasTargets l.w) l.sites;
}
