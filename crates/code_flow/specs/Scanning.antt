-- What is known of a method from a scan of its code.
use Rattle.std.specs.Prelude.{ℕ, List, [], map, Option, Some, None, if◌then◌else◌}
use Rattle.class_reader.specs.declared.class.Method.{Method}
use Rattle.class_reader.specs.declared.class.Code.{Code}
use Rattle.op_table.specs.declared.construct.Construct.{Construct}
use Rattle.op_table.specs.declared.construct.Construct.TheVariants as constructs
use Rattle.world.specs.declared.member.MemberId.{MemberId}
use Rattle.class_hierarchy.specs.World.{World}
use Rattle.linking.specs.Methods.{method_at}
use Rattle.code_flow.specs.declared.scanning.Site.{Site}
use Rattle.code_flow.specs.declared.scanning.Sites.{Sites}
use Rattle.code_flow.specs.declared.scanning.Scan.{Scan}
use Rattle.code_blocks.specs.declared.instruction.Placed.{Placed}
use Rattle.code_blocks.specs.Placing.{placed, broken}
use Rattle.class_reader.specs.Flags.{is_synchronized}
use Rattle.descriptors.specs.Texts.{names_float}
use Rattle.code_flow.specs.Judging.{has_handlers, is_empty, judged}

-- an instruction with what is known of it
abbrev pub site_of : World → ℕ → List ℕ → Placed → Site
site_of w current code p = record { pc = p.pc; instr = p.instr; verdict = judged w current code p }

-- of the whole code
abbrev pub sites_of : World → ℕ → List ℕ → Sites
sites_of w current code = record { sites = map (site_of w current code) (placed code); broken = broken code }

-- the first construct that stands against the method itself
abbrev pub first_against : Method → Code → Option Construct
first_against method code =
    if names_float method.desc then Some constructs.Float
    else if is_synchronized method.flags then Some constructs.Synchronized
    else if has_handlers code.handlers then Some constructs.Handler
    else if is_empty code.bytes then Some constructs.FallsOff else None

abbrev pub scan_in : World → MemberId → Method → Option Code → Scan
scan_in w m method None = record { method = m; against = Some constructs.AbstractTarget; body = record { sites = []; broken = None } }
scan_in w m method (Some code) = record { method = m; against = first_against method code; body = sites_of w m.class code.bytes }

abbrev pub scan_at : World → MemberId → Option Method → Scan
scan_at w m None = record { method = m; against = None; body = record { sites = []; broken = None } }
scan_at w m (Some method) = scan_in w m method method.code

-- what a scan of the method finds
unfoldable pub scan_of : World → MemberId → Scan
scan_of w m = scan_at w m (method_at w m)
