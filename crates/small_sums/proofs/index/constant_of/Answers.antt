use Rattle.std.specs.Prelude.{length}
use Rattle.small_sums.proofs.Numbered.{one_within, first_within, last_within}
use Rattle.small_sums.proofs.index.constant_of.Goals as goal

pub constant_at-requires-clause-low : goal.constant_at-requires-clause-low
constant_at-requires-clause-low c = (one_within (length c.args.rows.now) c.args.terms c.in-One.last c.in-One.is c.requires).0

pub constant_at-requires-clause-high : goal.constant_at-requires-clause-high
constant_at-requires-clause-high c = (one_within (length c.args.rows.now) c.args.terms c.in-One.last c.in-One.is c.requires).1

pub constant_at-requires-in-Two-clause-low : goal.constant_at-requires-in-Two-clause-low
constant_at-requires-in-Two-clause-low c = (first_within (length c.args.rows.now) c.args.terms c.in-Two.first c.in-Two.last c.in-Two.is c.requires).0

pub constant_at-requires-in-Two-clause-high : goal.constant_at-requires-in-Two-clause-high
constant_at-requires-in-Two-clause-high c = (first_within (length c.args.rows.now) c.args.terms c.in-Two.first c.in-Two.last c.in-Two.is c.requires).1

pub constant_at-requires-in-Two-2-clause-low : goal.constant_at-requires-in-Two-2-clause-low
constant_at-requires-in-Two-2-clause-low c = (last_within (length c.args.rows.now) c.args.terms c.in-Two.first c.in-Two.last c.in-Two.is c.requires).0

pub constant_at-requires-in-Two-2-clause-high : goal.constant_at-requires-in-Two-2-clause-high
constant_at-requires-in-Two-2-clause-high c = (last_within (length c.args.rows.now) c.args.terms c.in-Two.first c.in-Two.last c.in-Two.is c.requires).1
