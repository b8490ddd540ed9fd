use Rattle.std.proofs.Common.{drop}
use Rattle.op_table.specs.Grammar.{padding}
use Rattle.op_table.proofs.SwitchCases.{same-pair, table-case, pair-case}
use Rattle.op_table.proofs.cases.laid_out_case.Goals as goal

pub table_case-requires-clause-below : goal.table_case-requires-clause-below
table_case-requires-clause-below c =
    let known = rw c.in-TableSwitch.is at c.requires.known in
    let there = table-case c.args.pc c.args._opcode (drop (padding c.args.pc) c.args.bytes.now) c.args.i known in
    rw (c.behind-operands.ensures, c.padding.ensures.value) there.below

pub returns-in-TableSwitch : goal.returns-in-TableSwitch
returns-in-TableSwitch c =
    let known = rw c.in-TableSwitch.is at c.requires.known in
    let there = table-case c.args.pc c.args._opcode (drop (padding c.args.pc) c.args.bytes.now) c.args.i known in
    let value = rw (c.behind-operands.ensures, c.padding.ensures.value) at c.table_case.ensures.value in
    let jump = rw (c.behind-operands.ensures, c.padding.ensures.value) at c.table_case.ensures.jump in
    rw c.in-TableSwitch.is (same-pair _ _ _ _ value jump there.value there.jump)

pub pair_at-requires : goal.pair_at-requires
pair_at-requires c =
    let known = rw c.in-LookupSwitch.is at c.requires.known in
    let there = pair-case c.args.pc c.args._opcode (drop (padding c.args.pc) c.args.bytes.now) c.args.i known in
    rw (c.behind.ensures, c.behind-operands.ensures, c.padding.ensures.value) there.room

pub returns-in-LookupSwitch : goal.returns-in-LookupSwitch
returns-in-LookupSwitch c =
    let known = rw c.in-LookupSwitch.is at c.requires.known in
    let there = pair-case c.args.pc c.args._opcode (drop (padding c.args.pc) c.args.bytes.now) c.args.i known in
    let value = rw (c.behind.ensures, c.behind-operands.ensures, c.padding.ensures.value) at c.pair_at.ensures.value in
    let jump = rw (c.behind.ensures, c.behind-operands.ensures, c.padding.ensures.value) at c.pair_at.ensures.jump in
    rw c.in-LookupSwitch.is (same-pair _ _ _ _ value jump there.value there.jump)
