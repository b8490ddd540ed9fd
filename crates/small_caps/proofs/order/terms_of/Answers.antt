use Rattle.std.specs.Prelude.{◌≡◌, [], ◌∷◌, ◌++◌, FitsSigned}
use Rattle.std.specs.Int.{w128}
use Rattle.std.proofs.Common.{arith, rules}
use Rattle.std.proofs.lemmas.Int.{to_z-of_z}
use Rattle.small_cert.specs.Order.{terms_from}
use Rattle.small_caps.proofs.Keys.{terms_pushed}
use Rattle.small_caps.proofs.order.terms_of.Goals as goal

pub loop-v-preserved : goal.loop-v-preserved
loop-v-preserved c =
    let fits : FitsSigned w128 c.get.result = search rules in
    let made : c.push_term.new.terms.items ≡ c.loop-v.terms.items ++ terms_from c.loop-v.v (c.get.result ∷ []) = simp to_z-of_z at c.in_ok-push_term.ensures in
    terms_pushed c.args.l.now.coefficients c.loop-v.terms.items c.push_term.new.terms.items c.loop-v.v c.get.result (omega (arith, c.len-v-end.ensures)) c.loop-v.invariant c.get.ensures made
