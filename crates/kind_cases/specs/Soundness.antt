-- Whether an instruction stands in sound code as it should.
use Rattle.std.specs.Prelude.{ℕ, ◌&&◌, Bool, not, List}
use Rattle.op_table.specs.Actions.{action_of}
use Rattle.code_blocks.specs.declared.instruction.Placed.{Placed}
use Rattle.code_blocks.specs.Placing.{is_last}
use Rattle.code_blocks.specs.Successors.{goes_behind, has_bad_target}

-- each of its jumps leads to an instruction, and it isn't the last where it can go on behind itself
abbrev pub stands : List ℕ → Placed → Bool
stands code p = not (has_bad_target code p) && not (is_last code p && goes_behind (action_of p.instr))
