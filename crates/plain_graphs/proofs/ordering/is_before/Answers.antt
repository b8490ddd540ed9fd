use Rattle.std.proofs.Common.{◌≡◌, Contains, refl, inl, inr, ⊎_elim}
use Rattle.graph_core.proofs.Marks.{lies_false}
use Rattle.plain_graphs.proofs.ordering.is_before.Goals as goal

pub returns-then-not-is_lowest_chosen : goal.returns-then-not-is_lowest_chosen
returns-then-not-is_lowest_chosen c =
    (λ t low r. absurd (lies_false _ c.if-not-is_lowest_chosen.true c.is_lowest_chosen.ensures low), λ h. refl)

pub returns-then-not-leads_there : goal.returns-then-not-leads_there
returns-then-not-leads_there c =
    (λ t low r. absurd (lies_false _ c.if-not-leads_there.true c.leads_there.ensures r), λ h. refl)

pub returns-then-w-v : goal.returns-then-w-v
returns-then-w-v c = (λ t low r. inl c.if-w-v.true, λ h. refl)

pub returns : goal.returns
returns c =
    let low = c.is_lowest_chosen.ensures.0 c.if-not-is_lowest_chosen.false in
    let r = c.leads_there.ensures.0 c.if-not-leads_there.false in
    (λ t l s. inr (c.has.ensures.0 t), λ h. c.has.ensures.1 (⊎_elim (λ (e : c.args.w ≡ c.args.v). absurd (c.if-w-v.false e)) (λ (d : Contains c.args.before.now c.args.w). d) (h low r)))
