use Rattle.std.proofs.Common.{arith, refl, get_or}
use Rattle.world.specs.declared.member.MemberId.{MemberId}
use Rattle.code_flow.proofs.Numberings.{new_step, new_end}
use Rattle.code_flow.proofs.found.Found.add_all.Goals as goal

-- what stands past the end
abbrev none : MemberId
none = record { class = 0; member = 0 }

pub loop-m-preserved : goal.loop-m-preserved
loop-m-preserved c = new_step c.args.self.now c.add.new.self c.loop-m.self c.args.methods.now c.loop-m.m-index (get_or c.args.methods.now c.loop-m.m-index none) none (omega arith) refl c.in_ok-add.ensures c.loop-m.invariant

pub returns : goal.returns
returns c = new_end c.args.self.now c.loop-m.self c.args.methods.now c.loop-m.m-index (omega arith) c.loop-m.invariant
