use Rattle.frames.proofs.Keeping.{cell_keeps, element_keeps, field_keeps, types_keep}
use Rattle.frames.proofs.laws.numbers_are_kept.Goals as goal

pub returns-clause-cells : goal.returns-clause-cells
returns-clause-cells c = cell_keeps

pub returns-clause-elements : goal.returns-clause-elements
returns-clause-elements c = element_keeps

pub returns-clause-fields : goal.returns-clause-fields
returns-clause-fields c = field_keeps

pub returns-clause-types : goal.returns-clause-types
returns-clause-types c = types_keep
