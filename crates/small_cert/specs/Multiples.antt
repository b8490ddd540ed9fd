-- An inequality is taken once or twice.
use Rattle.std.specs.Prelude.{ℤ, pos}
use Rattle.small_cert.specs.declared.multiple.Multiple.{Multiple}
use Rattle.small_cert.specs.declared.multiple.Multiple.TheVariants.{Once, Twice}

abbrev pub times_of : Multiple → ℤ
times_of Once = pos 1
times_of Twice = pos 2
