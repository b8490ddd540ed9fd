use Rattle.std.proofs.Common.{◌≡◌, drop}
use Rattle.world.specs.Resolution.{first_of, field_in}
use Rattle.world.proofs.resolve.first_field.Given as goal

abbrev pub invariant-loop-class : goal.invariant-loop-class
invariant-loop-class l = first_of (field_in l.world l.name l.desc) l.among ≡ first_of (field_in l.world l.name l.desc) (drop l.class-index l.among)
