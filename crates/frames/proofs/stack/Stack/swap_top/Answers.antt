use Rattle.std.proofs.Common.{◌≡◌, suc, ◌-◌, ◌<◌, length, reverse, ◌∙◌, ap, arith, ◌∷◌, drop}
use Rattle.std.specs.Prelude.{slice_set}
use Rattle.std.proofs.lemmas.List.{length-reverse}
use Rattle.frames.proofs.Reversed.{top_set}
use Rattle.frames.proofs.stack.Stack.swap_top.Goals as goal

pub returns-clause-stack : goal.returns-clause-stack
returns-clause-stack g c =
    let items = c.self.inside.items.items in
    let seen : reverse items ≡ c.args.self.now = c.self.view_is in
    let some : 0 < length items = omega (arith, c.requires, length-reverse items, ap length seen) in
    let last : suc (c.len-last.result - 1) ≡ length items = omega (arith, c.len-last.ensures, some) in
    let shown : reverse (slice_set items (c.len-last.result - 1) c.swap.new.x) ≡ c.swap.new.x ∷ drop 1 (reverse items) = top_set items (c.len-last.result - 1) c.swap.new.x last in
    shown ∙ ap (λ v. v ∷ drop 1 (reverse items)) c.swap.ensures.x_after ∙ ap (λ vs. c.args.other.now ∷ drop 1 vs) seen
