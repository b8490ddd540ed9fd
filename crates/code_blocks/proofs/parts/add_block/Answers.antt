use Rattle.std.proofs.Common.{◌≡◌, ◌<◌, ◌≤◌, arith, sym, ap, subst, ◌∙◌}
use Rattle.common_laws.proofs.Members.{contains_at}
use Rattle.code_blocks.specs.declared.instruction.Block.{Block}
use Rattle.code_blocks.proofs.Cuts.{blocks_next, blocks_skip}
use Rattle.code_blocks.proofs.parts.add_block.Goals as goal

pub block-requires-clause-first : goal.block-requires-clause-first
block-requires-clause-first c = let ordered : c.args.first ≤ c.args.last = c.requires.whole.ordered in let last = c.requires.last in omega arith

pub is_reached-requires-clause-inside : goal.is_reached-requires-clause-inside
is_reached-requires-clause-inside c =
    let of = c.in_ok-block.ensures in
    let place : c.in_ok-block.block.pc ≡ of.first.pc = ap (λ (b : Block). b.pc) of.is_block in
    subst (λ x. x < c.args.survey.now.size) (sym place) (c.requires.within.places of.first (contains_at c.args.instructions.now c.args.first of.first of.at_first))

pub returns-in_ok-push : goal.returns-in_ok-push
returns-in_ok-push c =
    blocks_next c.args.instructions.now c.args.first c.args.last c.args.blocks.now c.push.new.self c.in_ok-block.block c.requires.known c.requires.whole c.requires.cut c.in_ok-block.ensures
    ((c.is_reached.ensures c.args.instructions.now c.requires.survey.paths).0 c.if-is_reached.true) c.in_ok-push.ensures.ok

pub returns-else-is_reached : goal.returns-else-is_reached
returns-else-is_reached c =
    blocks_skip c.args.instructions.now c.args.first c.args.last c.args.blocks.now c.in_ok-block.block c.requires.known c.requires.whole c.in_ok-block.ensures
    (λ h. let e = sym ((c.is_reached.ensures c.args.instructions.now c.requires.survey.paths).1 h) ∙ c.if-is_reached.false in absurd cc)
