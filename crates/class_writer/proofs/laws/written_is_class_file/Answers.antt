use Rattle.class_writer.proofs.ClassBytes.{class_written}
use Rattle.class_writer.proofs.laws.written_is_class_file.Goals as goal

pub returns : goal.returns
returns c = class_written
