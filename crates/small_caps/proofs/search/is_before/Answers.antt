use Rattle.std.specs.Prelude.{IsTrue, FitsSigned}
use Rattle.std.specs.Int.{w128}
use Rattle.std.proofs.Common.{rules, ◌∙◌}
use Rattle.std.proofs.lemmas.Int.{to_z-of_z}
use Rattle.small_cert.specs.Order.{key_of}
use Rattle.small_caps.proofs.Keys.{lesser_read}
use Rattle.small_caps.proofs.search.is_before.Goals as goal

pub returns : goal.returns
returns c =
    let first : FitsSigned w128 c.constant.result = search rules in
    let second : FitsSigned w128 c.constant-2.result = search rules in
    lesser_read (IsTrue c.precedes.result) c.deref.result.now (key_of c.args.a.now.cap) c.deref-2.result.now (key_of c.args.b.now.cap) c.constant.result c.args.a.now.cap.constant c.constant-2.result c.args.b.now.cap.constant
    (c.deref.ensures.value ∙ c.requires.first) (c.deref-2.ensures.value ∙ c.requires.second) c.constant.ensures c.constant-2.ensures (simp to_z-of_z at c.precedes.ensures)
