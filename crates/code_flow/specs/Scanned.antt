-- What the scans of methods say together.
use Rattle.std.specs.Prelude.{◌≡◌, ℕ, ◌≤◌, ◌-◌, List, map, length, take, All, Option, Some, None}
use Rattle.std.specs.Option.{option_or}
use Rattle.op_table.specs.declared.construct.Construct.{Construct}
use Rattle.op_table.specs.declared.construct.Construct.TheVariants.{Opcode}
use Rattle.world.specs.declared.member.MemberId.{MemberId}
use Rattle.class_hierarchy.specs.World.{World}
use Rattle.world.specs.Tables.{HasMethod}
use Rattle.code_flow.specs.declared.fault.FlowFault.{FlowFault}
use Rattle.code_flow.specs.declared.fault.FlowFault.TheVariants.{Unsupported}
use Rattle.code_flow.specs.Plans.{Planned, Plan}
use Rattle.code_flow.specs.declared.scanning.Site.{Site}
use Rattle.code_flow.specs.declared.scanning.Scan.{Scan}
use Rattle.code_flow.specs.Listing.{targets_in, most_methods, listed, reached}
use Rattle.code_flow.specs.Flow.{first_of, fault_of}
use Rattle.code_flow.specs.Program.{HasNoConstruct}
use Rattle.code_flow.specs.Scanning.{scan_of}

abbrev pub site_targets : Site → List MemberId
site_targets site = targets_in site.verdict

-- what stands against the method itself, and what stands where no instruction does
abbrev pub unsupported_at : MemberId → ℕ → Option Construct → Option FlowFault
unsupported_at m pc None = None
unsupported_at m pc (Some construct) = Some (Unsupported m pc construct)

abbrev pub unsupported_opcode : MemberId → Option ℕ → Option FlowFault
unsupported_opcode m None = None
unsupported_opcode m (Some pc) = Some (Unsupported m pc Opcode)

abbrev pub site_fault : World → Option MemberId → MemberId → Site → Option FlowFault
site_fault w over m site = fault_of w over m site.pc site.verdict

-- the first fault of a method
abbrev pub scan_fault : World → Option MemberId → Scan → Option FlowFault
scan_fault w over scan =
    option_or
    (unsupported_at scan.method 0 scan.against)
    (option_or (first_of (site_fault w over scan.method) scan.body.sites) (unsupported_opcode scan.method scan.body.broken))

abbrev pub planned_site : Site → Planned
planned_site site = record { pc = site.pc; instr = site.instr; targets = site_targets site }

abbrev pub planned_by : Scan → Plan
planned_by scan = record { method = scan.method; instructions = map planned_site scan.body.sites }

-- a scan of a method of the world, against which nothing stands
pub record IsScanned (w : World) (scan : Scan) : Type 0 where
  pub there : HasMethod w scan.method
  pub own : scan ≡ scan_of w scan.method
  pub free : HasNoConstruct w scan.method

-- the first k methods were looked at
pub record IsListedTo (w : World) (m : MemberId) (k : ℕ) (ms : List MemberId) (scans : List Scan) : Type 0 where
  pub rest : reached w m ≡ listed w (most_methods - k) ms k
  pub scanned : scans ≡ map (scan_of w) (take k ms)
  pub long : k ≤ length ms
  pub there : All (HasMethod w) ms

-- all were, up to as many as are analysed
pub record IsListed (w : World) (m : MemberId) (ms : List MemberId) (scans : List Scan) : Type 0 where
  pub whole : ms ≡ reached w m
  pub scanned : scans ≡ map (scan_of w) (take most_methods (reached w m))
