use Rattle.std.proofs.Common.{ℕ, List, ◌+◌, ◌<◌, set, refl, subst, sym}
use Rattle.graph_core.specs.Leaving.{IsRound, round_left}
use Rattle.graph_core.proofs.Rounds.{look_round, look_reaching, look_less}
use Rattle.graph_core.proofs.round.look.Goals as goal

pub returns-clause-round : goal.returns-clause-round
returns-clause-round c =
    let e = c.in_ok-enter.ensures in
    let r = look_round _ _ _ _ _ c.requires.round _ _ c.requires.v c.requires.top c.requires.next c.requires.more _ c.successors.ensures.value c.successors.ensures.ends _ refl _ _ e.entered in
    subst (λ (ns : List ℕ). IsRound c.args.g.now c.enter.new.round.found.items (set ns c.args.v (c.args.next + 1)) c.enter.new.round.stack.items c.enter.new.round.order.items) (sym e.nexts) (subst (IsRound c.args.g.now c.enter.new.round.found.items (set c.args.round.now.nexts.items c.args.v (c.args.next + 1)) c.enter.new.round.stack.items) (sym e.order) r)

pub returns-clause-reaching : goal.returns-clause-reaching
returns-clause-reaching c =
    let e = c.in_ok-enter.ensures in
    look_reaching _ _ _ _ _ c.requires.round _ _ c.requires.v c.requires.top c.requires.next c.requires.more _ c.successors.ensures.value c.successors.ensures.ends _ refl _ _ e.entered

pub returns-clause-falls : goal.returns-clause-falls
returns-clause-falls c =
    let e = c.in_ok-enter.ensures in
    subst (λ (ns : List ℕ). round_left c.args.g.now (set ns c.args.v (c.args.next + 1)) c.enter.new.round.stack.items < round_left c.args.g.now c.args.round.now.nexts.items c.args.round.now.stack.items) (sym e.nexts) (look_less _ _ _ _ _ c.requires.round _ _ c.requires.v c.requires.top c.requires.next c.requires.more _ c.successors.ensures.value c.successors.ensures.ends _ refl _ _ e.entered)
