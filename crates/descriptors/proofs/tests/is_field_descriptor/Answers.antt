use Rattle.descriptors.proofs.Methods.{field_answer}
use Rattle.descriptors.proofs.tests.is_field_descriptor.Goals as goal

pub returns-clause-grammar : goal.returns-clause-grammar
returns-clause-grammar c = field_answer c.is_field.result c.args.desc.now c.is_field.ensures
