use Rattle.plain_graphs.proofs.Listings.{after_end}
use Rattle.plain_graphs.proofs.listing.is_not_after.Goals as goal

pub returns-then-i-ys : goal.returns-then-i-ys
returns-then-i-ys c =
    (λ no_way. absurd (cc), λ h. absurd (after_end _ _ _ c.loop-i-test.true c.if-i-ys.true (c.loop-i.invariant.0 h)))
