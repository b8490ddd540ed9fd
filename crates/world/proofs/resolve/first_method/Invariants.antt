use Rattle.std.proofs.Common.{◌≡◌, drop}
use Rattle.world.specs.Resolution.{first_of, method_in}
use Rattle.world.proofs.resolve.first_method.Given as goal

abbrev pub invariant-loop-class : goal.invariant-loop-class
invariant-loop-class l = first_of (method_in l.world l.name l.desc l.kind) l.among ≡ first_of (method_in l.world l.name l.desc l.kind) (drop l.class-index l.among)
