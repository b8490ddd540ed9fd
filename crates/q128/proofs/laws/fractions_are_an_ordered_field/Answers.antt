use Rattle.q128.proofs.Ordered.{are_ordered_field}
use Rattle.q128.proofs.laws.fractions_are_an_ordered_field.Goals as goal

pub returns : goal.returns
returns c = are_ordered_field
