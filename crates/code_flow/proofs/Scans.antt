-- What a scan of a method finds.
use Rattle.std.proofs.Common.{◌≡◌, [], Option, Some, None, refl, ◌∙◌}
use Rattle.std.specs.Prelude.{slice_get}
use Rattle.std.proofs.lemmas.Option.{slice_get-get_or}
use Rattle.class_reader.specs.declared.class.Code.{Code}
use Rattle.op_table.specs.declared.construct.Construct.TheVariants as constructs
use Rattle.world.specs.declared.member.MemberId.{MemberId}
use Rattle.class_hierarchy.specs.World.{World, constructor, object_class, class_at}
use Rattle.world.specs.Selection.{method_of}
use Rattle.world.specs.Tables.{HasMethod}
use Rattle.linking.specs.Methods.{method_at, code_at}
use Rattle.code_flow.specs.Flow.{with_code}
use Rattle.code_flow.specs.Scanning.{sites_of, first_against, scan_in, scan_of}

pub method_there : (w : World) (m : MemberId) → HasMethod w m → method_at w m ≡ Some (method_of w m)
method_there w m there =
    let at_class : slice_get w m.class ≡ Some (class_at w m.class) = slice_get-get_or w m.class object_class there.0 in
    rw at_class (slice_get-get_or (class_at w m.class).methods m.member constructor there.1)

pub scan_there : (w : World) (m : MemberId) → HasMethod w m → scan_of w m ≡ scan_in w m (method_of w m) (method_of w m).code
unfolding scan_of
scan_there w m there = rw (method_there w m there) refl

-- of a method with code, and of one without
pub scanned : (w : World) (m : MemberId) (code : Code) → HasMethod w m → (method_of w m).code ≡ Some code → scan_of w m ≡ record { method = m; against = first_against (method_of w m) code; body = sites_of w m.class code.bytes }
scanned w m code there e = scan_there w m there ∙ rw e refl

pub none_scanned : (w : World) (m : MemberId) → HasMethod w m → (method_of w m).code ≡ None → scan_of w m ≡ record { method = m; against = Some constructs.AbstractTarget; body = record { sites = []; broken = None } }
none_scanned w m there e = scan_there w m there ∙ rw e refl

-- ---- its code

pub coded_at : (w : World) (m : MemberId) (o : Option Code) → HasMethod w m → (method_of w m).code ≡ o → code_at w m ≡ o
coded_at w m o there e = rw (method_there w m there) e

pub coded : (w : World) (m : MemberId) (code : Code) → HasMethod w m → (method_of w m).code ≡ Some code → with_code w m ≡ Some m
coded w m code there e = rw (coded_at w m (Some code) there e) refl

pub not_coded : (w : World) (m : MemberId) → HasMethod w m → (method_of w m).code ≡ None → with_code w m ≡ None
not_coded w m there e = rw (coded_at w m None there e) refl
