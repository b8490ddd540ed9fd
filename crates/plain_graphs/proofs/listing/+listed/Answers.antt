use Rattle.std.proofs.Common.{ℕ, List, Bool, ◌∙◌, subst}
use Rattle.plain_graphs.specs.Plain.{AreListed, ArePutBefore}
use Rattle.plain_graphs.proofs.Listings.{listed_used, listed_more, listed_all}
use Rattle.plain_graphs.proofs.listing.+listed.Goals as goal

pub loop-x-preserved-then-used-x : goal.loop-x-preserved-then-used-x
loop-x-preserved-then-used-x t c = listed_used _ _ _ c.loop-x-test.true c.if-used-x.true c.loop-x.invariant

pub loop-x-preserved : goal.loop-x-preserved
loop-x-preserved t c =
    let used = c.deref.ensures.value ∙ c.in_ok-marks.ensures in
    let tails = subst (λ (us : List Bool). AreListed us c.in_ok-tails.tails.items) used c.in_ok-tails.ensures in
    let put = subst (λ (ts : List (List ℕ)). ArePutBefore c.loop-x.x ts c.loop-x.lists.items c.put_before.new.lists.items) c.deref-in-loop-x.ensures.value c.in_ok-put_before.ensures in
    listed_more _ _ c.loop-x-test.true c.if-used-x.false _ _ _ c.loop-x.invariant tails put

pub returns : goal.returns
returns t c =
    let a = c.loop-x-test.false in
    listed_all _ c.loop-x.x _ a c.loop-x.invariant
