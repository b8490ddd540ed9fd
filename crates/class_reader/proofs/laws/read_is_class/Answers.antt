use Rattle.class_reader.proofs.ValidLaws.{valid_class}
use Rattle.class_reader.proofs.laws.read_is_class.Goals as goal

pub returns : goal.returns
returns c = valid_class
