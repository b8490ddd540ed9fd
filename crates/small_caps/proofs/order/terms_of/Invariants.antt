use Rattle.std.proofs.Common.{◌≡◌, take}
use Rattle.small_cert.specs.Order.{terms_from}
use Rattle.small_caps.proofs.order.terms_of.Given as goal

abbrev pub invariant-loop-v : goal.invariant-loop-v
invariant-loop-v l = l.terms.items ≡ terms_from 0 (take l.v l.l.coefficients)
