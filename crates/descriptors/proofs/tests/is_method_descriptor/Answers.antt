use Rattle.descriptors.proofs.Methods.{method_answer}
use Rattle.descriptors.proofs.tests.is_method_descriptor.Goals as goal

pub returns-clause-grammar : goal.returns-clause-grammar
returns-clause-grammar c = method_answer c.args.is_static c.describes.result c.args.desc.now c.describes.ensures
