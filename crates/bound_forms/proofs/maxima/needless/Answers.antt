use Rattle.std.proofs.Common.{◌∙◌, sym}
use Rattle.bound_forms.proofs.Flags.{rising_at, rising_front, rising_behind, flags_go, covered_flag, exceeded_flag}
use Rattle.bound_forms.proofs.maxima.needless.Goals as goal
use Rattle.bound_forms.proofs.maxima.needless.Goals.{then-is_covered, else-is_covered}

pub is_covered-requires-clause-operands : goal.is_covered-requires-clause-operands
is_covered-requires-clause-operands c = rising_front c.args.operands.now c.loop-i.i c.requires

pub is_covered-requires-clause-form : goal.is_covered-requires-clause-form
is_covered-requires-clause-form c = rising_at c.args.operands.now c.loop-i.i c.index-operands-i.result c.as_slice-p.result.now c.requires c.loop-i-test.true c.index-operands-i.is c.as_slice-p.ensures.value

pub is_exceeded-is_needless-requires-clause-operands : goal.is_exceeded-is_needless-requires-clause-operands
is_exceeded-is_needless-requires-clause-operands c = rising_behind c.args.operands.now c.loop-i.i c.requires

pub is_exceeded-is_needless-requires-clause-form : goal.is_exceeded-is_needless-requires-clause-form
is_exceeded-is_needless-requires-clause-form c = rising_at c.args.operands.now c.loop-i.i c.index-operands-i.result c.as_slice-p.result.now c.requires c.loop-i-test.true c.index-operands-i.is c.as_slice-p.ensures.value

pub loop-i-preserved : goal.loop-i-preserved
loop-i-preserved c =
    flags_go c.args.operands.now c.loop-i.i c.index-operands-i.result c.as_slice-p.result.now c.loop-i.flags.items c.push.new.self.items c.if-is_covered.is_needless _ c.loop-i-test.true c.index-operands-i.is c.as_slice-p.ensures.value
    (elim c.if-is_covered.branch [
      | then-is_covered w ↦ covered_flag _ _ _ (w.is_needless-is ∙ w.if-is_covered.true) (sym c.is_covered.ensures ∙ w.if-is_covered.true)
      | else-is_covered w ↦ exceeded_flag _ _ _ (w.is_needless-is ∙ w.is_exceeded-is_needless.ensures) (sym c.is_covered.ensures ∙ w.if-is_covered.false)
    ])
    c.in_ok-push.ensures.items c.loop-i.invariant
