use Rattle.std.proofs.Common.{◌≡◌, ℕ, ◌≤◌, ◌-◌, ◌∙◌, sym, ap, arith, length, take, drop, reverse}
use Rattle.std.proofs.lemmas.List.{length-reverse, take_rest}
use Rattle.frames.proofs.Reversed.{reverse-take-reverse}
use Rattle.frames.proofs.stack.Stack.front.Goals as goal

pub returns : goal.returns
returns g c =
    let items = c.self.inside.items.items in
    let seen : reverse items ≡ c.args.self.now = c.self.view_is in
    let same : c.deref.result.now ≡ items = c.deref.ensures.value in
    let size : c.len.result ≡ length items = omega (arith, c.len.ensures) in
    let within : c.args.count ≤ length items = omega (arith, c.requires, length-reverse items, ap length seen) in
    ap (λ xs. take (length xs - (c.len.result - c.args.count)) (drop (c.len.result - c.args.count) xs)) same
    ∙ take_rest items (c.len.result - c.args.count)
    ∙ ap (λ (n : ℕ). drop (n - c.args.count) items) size
    ∙ sym (reverse-take-reverse items c.args.count within)
    ∙ ap (λ xs. reverse (take c.args.count xs)) seen
