use Rattle.std.proofs.Common.{FitsSigned, w32, rules}
use Rattle.std.proofs.lemmas.Int.{to_z-of_z}
use Rattle.word_steps.specs.Branches.{jump_of}
use Rattle.word_steps.proofs.branches.leap_of.Goals as goal

pub returns-in-IfZero : goal.returns-in-IfZero
unfolding jump_of
returns-in-IfZero c =
    let far : FitsSigned w32 c.in-IfZero.far = search rules in
    rw c.in-IfZero.is (simp to_z-of_z at (c.if_zero.ensures c.args.fetched.now.standing.instr.len))

pub returns-in-IfInts : goal.returns-in-IfInts
unfolding jump_of
returns-in-IfInts c =
    let far : FitsSigned w32 c.in-IfInts.far = search rules in
    rw c.in-IfInts.is (simp to_z-of_z at (c.if_ints.ensures c.args.fetched.now.standing.instr.len))

pub returns-in-IfSame : goal.returns-in-IfSame
unfolding jump_of
returns-in-IfSame c =
    let far : FitsSigned w32 c.in-IfSame.far = search rules in
    rw c.in-IfSame.is (simp to_z-of_z at (c.if_same.ensures c.args.fetched.now.standing.instr.len))

pub returns-in-IfNull : goal.returns-in-IfNull
unfolding jump_of
returns-in-IfNull c =
    let far : FitsSigned w32 c.in-IfNull.far = search rules in
    rw c.in-IfNull.is (simp to_z-of_z at (c.if_null.ensures c.args.fetched.now.standing.instr.len))
