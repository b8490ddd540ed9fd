use Rattle.object_steps.proofs.Changes.{arrays_change, casts_change, changes_keep, fields_change}
use Rattle.object_steps.proofs.laws.heaps_are_kept.Goals as goal

pub returns-clause-arrays : goal.returns-clause-arrays
returns-clause-arrays c = arrays_change

pub returns-clause-fields : goal.returns-clause-fields
returns-clause-fields c = fields_change

pub returns-clause-casts : goal.returns-clause-casts
returns-clause-casts c = casts_change

pub returns-clause-kept : goal.returns-clause-kept
returns-clause-kept c = changes_keep
