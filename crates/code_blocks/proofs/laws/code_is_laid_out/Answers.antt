use Rattle.code_blocks.proofs.Sets.{placed_stand, laid_out}
use Rattle.code_blocks.proofs.laws.code_is_laid_out.Goals as goal

pub returns-clause-stands : goal.returns-clause-stands
returns-clause-stands c = placed_stand c.instrs_fit.ensures

pub returns-clause-laid_out : goal.returns-clause-laid_out
returns-clause-laid_out c = laid_out c.instrs_fit.ensures
