use Rattle.class_writer.proofs.ClassBytes.{code_sized}
use Rattle.class_writer.proofs.code.code_len.Goals as goal

pub returns : goal.returns
returns c = rw (c.len.ensures, c.len-2.ensures) (λ pool. code_sized pool c.args.code.now)
