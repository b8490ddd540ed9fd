use Rattle.small_caps.specs.inside.Search.{question_of}
use Rattle.small_caps.proofs.Searching.{once_left, twice_left}
use Rattle.std.proofs.Common.{ap}
use Rattle.small_cert.specs.Multiples.{times_of}
use Rattle.small_cert.specs.declared.multiple.Multiple.{Multiple}
use Rattle.small_caps.proofs.search.Search.total.Goals as goal

pub returns-in-Once : goal.returns-in-Once
returns-in-Once c =
    once_left (question_of c.args.self.now) c.args.own.now c.coefficients.result.now c.key_of-key.result c.requires c.coefficients.ensures c.key_of-key.ensures c.rest_of-once.result (ap (λ (m : Multiple). times_of m) c.in-Once.is) c.rest_of-once.ensures

pub returns-in-Twice : goal.returns-in-Twice
returns-in-Twice c =
    twice_left (question_of c.args.self.now) c.args.own.now c.coefficients.result.now c.key_of-key.result c.requires c.coefficients.ensures c.key_of-key.ensures c.rest_of-once.result c.rest_of.result (ap (λ (m : Multiple). times_of m) c.in-Twice.is) c.rest_of-once.ensures c.rest_of.ensures
