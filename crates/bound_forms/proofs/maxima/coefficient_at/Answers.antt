use Rattle.std.proofs.Common.{map, ◌∙◌}
use Rattle.bound_terms.specs.Bounds.{term_of}
use Rattle.bound_forms.proofs.Covering.{not_found, past_end, not_equal}
use Rattle.bound_forms.proofs.maxima.coefficient_at.Goals as goal
use Rattle.bound_forms.proofs.maxima.coefficient_at.Goals.{else-j-q-via-then-j-q+else-eq, else-j-q-via-else-j-q}

pub returns-else-j-q : goal.returns-else-j-q
returns-else-j-q c =
    elim c.else-j-q.branch [
      | else-j-q-via-then-j-q+else-eq w ↦
          not_found c.args.q.now c.args.j w.index-q-j.result c.args.m.now w.if-j-q.true w.index-q-j.is (λ e. not_equal w.order.result w.eq.result w.eq.ensures w.if-eq.false (w.order.ensures ∙ e)) c.requires.order c.requires.place
      | else-j-q-via-else-j-q w ↦ past_end c.args.q.now c.args.j (map term_of c.args.m.now.1) w.if-j-q.false
    ]
