use Rattle.descriptors.proofs.Methods.{text_answer}
use Rattle.descriptors.proofs.tests.is_method_text.Goals as goal

pub returns-clause-grammar : goal.returns-clause-grammar
returns-clause-grammar c = text_answer c.is_text.result c.args.desc.now c.is_text.ensures
