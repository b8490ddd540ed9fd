use Rattle.code_flow.proofs.Sites.{among_placed, sites_next, there_next, sites_all}
use Rattle.code_flow.proofs.scanning.sites_of.Goals as goal

pub site_of-requires-clause-within : goal.site_of-requires-clause-within
site_of-requires-clause-within c =
    let there = among_placed c.args.code.now c.in_ok-placement.placement c.as_slice-p-items.result.now c.loop-p.p-index c.p-item.result c.in_ok-placement.ensures c.as_slice-p-items.ensures c.loop-p-test.true c.p-item.is in
    (c.code_is_laid_out.ensures.stands c.args.code.now c.p-item.result there).2

pub loop-p-preserved : goal.loop-p-preserved
loop-p-preserved c = record {
  exact = sites_next c.args.w.now c.args.current c.args.code.now c.as_slice-p-items.result.now c.loop-p.p-index c.p-item.result c.p-item.result c.loop-p.sites c.push.new.self c.in_ok-site_of.field-0 c.loop-p-test.true c.p-item.is
      c.loop-p.invariant.exact c.in_ok-site_of.ensures.exact c.in_ok-push.ensures.ok;
  there = there_next c.args.w.now c.loop-p.sites c.push.new.self c.in_ok-site_of.field-0 c.loop-p.invariant.there c.in_ok-site_of.ensures.there c.in_ok-push.ensures.ok;
}

pub returns : goal.returns
returns c = record {
  there = c.loop-p.invariant.there;
  exact = sites_all c.args.w.now c.args.current c.args.code.now c.in_ok-placement.placement c.as_slice-p-items.result.now c.loop-p.p-index c.loop-p.sites c.in_ok-placement.ensures c.as_slice-p-items.ensures c.loop-p-test.false
      c.loop-p.invariant.exact;
}
