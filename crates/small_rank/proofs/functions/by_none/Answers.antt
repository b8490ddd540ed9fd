use Rattle.std.specs.Prelude.{[]}
use Rattle.small_rank.proofs.TermLists.{zero_made}
use Rattle.small_rank.proofs.Moves.{none_first}
use Rattle.small_rank.proofs.Answered.{own_size, tried_searched}
use Rattle.small_rank.proofs.functions.by_none.Goals as goal

pub tried-requires : goal.tried-requires
tried-requires c = let h = zero_made c.args.sizes c.in_ok-function.function c.in_ok-function.ensures in own_size c.args.sizes c.in_ok-function.function h.0

pub returns : goal.returns
returns c =
    let h = zero_made c.args.sizes c.in_ok-function.function c.in_ok-function.ensures in
    tried_searched c.args.steps.now c.args.sizes c.in_ok-function.function [] c.tried.result h.0 h.1 (none_first c.args.steps.now c.args.sizes) c.tried.ensures
