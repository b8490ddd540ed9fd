-- The methods that a scan names are there.
use Rattle.std.specs.Prelude.{Result, Ok, Err, List, All}
use Rattle.op_table.specs.declared.construct.Construct.{Construct}
use Rattle.world.specs.declared.member.MemberId.{MemberId}
use Rattle.class_hierarchy.specs.World.{World}
use Rattle.world.specs.Tables.{HasMethod}
use Rattle.code_flow.specs.declared.scanning.Site.{Site}
use Rattle.code_flow.specs.declared.scanning.Scan.{Scan}

abbrev pub AreMethods : World → Result (List MemberId) Construct → Type 0
AreMethods w (Ok ts) = All (HasMethod w) ts
AreMethods w (Err construct) = Unit {0}

abbrev pub HasTargets : World → Site → Type 0
HasTargets w site = AreMethods w site.verdict

abbrev pub AreThere : World → Scan → Type 0
AreThere w scan = All (HasTargets w) scan.body.sites
