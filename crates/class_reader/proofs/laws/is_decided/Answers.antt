use Rattle.class_reader.proofs.VerdictLaws.{decided}
use Rattle.class_reader.proofs.laws.is_decided.Goals as goal

pub returns : goal.returns
returns c = decided
