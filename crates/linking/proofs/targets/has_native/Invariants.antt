use Rattle.std.proofs.Common.{◌≡◌, take}
use Rattle.std.specs.Prelude.{false}
use Rattle.std.specs.List.{list_any}
use Rattle.class_reader.specs.Flags as flag
use Rattle.world.specs.Selection.{method_of}
use Rattle.linking.proofs.targets.has_native.Given as goal

abbrev pub invariant-loop-method : goal.invariant-loop-method
invariant-loop-method l = list_any (λ t. flag.is_native (method_of l.world t).flags) (take l.method-index l.methods) ≡ false
