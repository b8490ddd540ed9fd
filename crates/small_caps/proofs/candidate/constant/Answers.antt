use Rattle.std.specs.Prelude.{FitsSigned}
use Rattle.std.specs.Int.{w128}
use Rattle.std.proofs.Common.{rules}
use Rattle.std.proofs.lemmas.Int.{to_z-of_z}
use Rattle.small_cert.specs.Multiples.{times_of}
use Rattle.small_caps.proofs.Candidates.{is_multiple, share_rounded, constant_answer}
use Rattle.small_caps.proofs.candidate.constant.Goals as goal

pub returns-in-Some : goal.returns-in-Some
returns-in-Some c =
    let sum_fits : FitsSigned w128 c.args.sum = search rules in
    let shared : FitsSigned w128 c.share-shared.result = search rules in
    let own : FitsSigned w128 c.args.own = search rules in
    let times : FitsSigned w128 c.times.result = search rules in
    let low = simp to_z-of_z at c.share-shared.ensures.low in
    let high = simp to_z-of_z at c.share-shared.ensures.high in
    let product = simp to_z-of_z at c.in-Some.ensures in
    let sum = simp to_z-of_z at c.checked_add.ensures in
    constant_answer c.checked_add.result (times_of c.args.multiple) c.args.sum c.args.own c.share-shared.result c.times.result (is_multiple c.args.multiple)
    (share_rounded (times_of c.args.multiple) c.args.sum c.args.own c.share-shared.result low high) sum c.times.ensures product.0
