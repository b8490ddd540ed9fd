use Rattle.std.proofs.Common.{ℕ, Bool, ap, ◌∙◌, arith}
use Rattle.std.specs.Bool.{then_some}
use Rattle.cost_words.proofs.Numbers.{none_within, some_within, then_some_is}
use Rattle.cost_words.proofs.number.number_within.Goals as goal

pub returns-in-Ok : goal.returns-in-Ok
returns-in-Ok c =
    let test = ap (λ (b : Bool). then_some b c.in-Ok.n) c.is_number.ensures in
    c.then_some.ensures ∙ test ∙ then_some_is _ c.in-Ok.n
    ∙ some_within ℕ c.args.low c.args.high c.args.text.now c.in-Ok.n (omega arith) c.in-Ok.ensures.value.0

pub returns-in-Err : goal.returns-in-Err
returns-in-Err c = none_within {E = ℕ} c.args.low c.args.high c.args.text.now 0 (omega arith) c.in-Err.ensures.value.0
