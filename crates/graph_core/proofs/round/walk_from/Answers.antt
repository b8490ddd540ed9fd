use Rattle.std.proofs.Common.{ℕ, List, subst, sym}
use Rattle.graph_core.specs.Leaving.{IsRound}
use Rattle.graph_core.proofs.Reach.{Reaches-itself}
use Rattle.graph_core.proofs.Rounds.{round_entered, entered_found, entered_kept, entered_reaching, IsMoreFrom-none, IsMoreFrom-through, no_place}
use Rattle.graph_core.proofs.round.walk_from.Goals as goal

pub loop-round-init : goal.loop-round-init
loop-round-init c =
    let e = c.in_ok-enter.ensures in
    let r = round_entered _ _ _ _ _ c.requires.round _ c.requires.root _ _ e.entered (λ a l. absurd (no_place _ c.requires.rest a l)) in
    record {
      round = subst (λ (ns : List ℕ). IsRound c.args.g.now c.enter.new.round.found.items ns c.enter.new.round.stack.items c.enter.new.round.order.items) (sym e.nexts) (subst (IsRound c.args.g.now c.enter.new.round.found.items c.args.round.now.nexts.items c.enter.new.round.stack.items) (sym e.order) r);
      reaching = entered_reaching _ _ _ _ _ c.requires.round _ c.requires.root _ _ e.entered c.args.root (Reaches-itself c.args.g.now c.args.root) (λ i l. absurd (no_place _ c.requires.rest i l));
      more = IsMoreFrom-none _ _ _ _ e.order;
      root = entered_found _ _ _ _ _ c.requires.round _ c.requires.root _ _ e.entered;
      kept = entered_kept _ _ _ _ _ c.requires.round _ c.requires.root _ _ e.entered;
    }

pub loop-round-preserved : goal.loop-round-preserved
loop-round-preserved c =
    let s = c.in_ok-step.ensures in
    let m = s.more c.args.root c.loop-round.invariant.reaching in
    record {
      round = s.round;
      reaching = m.0;
      more = IsMoreFrom-through _ _ _ _ _ c.loop-round.invariant.more m.1;
      root = s.kept c.args.root c.loop-round.invariant.root;
      kept = λ x h. s.kept x (c.loop-round.invariant.kept x h);
    }
