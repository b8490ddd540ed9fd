use Rattle.class_writer.proofs.Over.{is_over}
use Rattle.class_writer.proofs.laws.over_is_none.Goals as goal

pub returns : goal.returns
returns c = is_over
