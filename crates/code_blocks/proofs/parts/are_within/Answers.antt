use Rattle.std.proofs.Common.{◌≡◌, ◌∙◌, true, false, sym, rules}
use Rattle.std.specs.Prelude.{IsTrue, Contains}
use Rattle.code_blocks.proofs.parts.are_within.Goals as goal

pub returns-then-not-is_within : goal.returns-then-not-is_within
returns-then-not-is_within c = (
  λ h. let e : false ≡ true = h in absurd cc,
  λ all.
      let there : Contains c.args.instructions.now c.i-item.result = (c.loop-i.i-index, c.loop-i-test.true, sym c.i-item.is) in
      let told : IsTrue c.is_within.result = c.is_within.ensures.1 (all.places c.i-item.result there, all.successors c.i-item.result there) in
      let no : c.is_within.result ≡ false = search rules in
      let e : true ≡ false = sym told ∙ no in
      absurd cc,
)
