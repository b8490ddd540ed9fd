use Rattle.std.proofs.Common.{ap, subst}
use Rattle.bound_forms.specs.Coded.{coded_form}
use Rattle.bound_forms.specs.Answered.{IsSmall}
use Rattle.bound_forms.proofs.Tables.{entry_goes, entries_end, small_entries}
use Rattle.bound_forms.proofs.gathering.Gathering.finish.Goals as goal

pub loop-entry-preserved : goal.loop-entry-preserved
loop-entry-preserved c =
    entry_goes c.loop-entry.form.items c.push.new.self.items c.loop-entry.entry-iterator c.next.new.self c.in-Some.entry c.from_entry.result c.args.self c.in-Some.ensures.steps c.from_entry.ensures c.in_ok-push.ensures.items c.loop-entry.invariant

pub returns : goal.returns
returns c = (
  ap coded_form (entries_end c.loop-entry.form.items c.loop-entry.entry-iterator c.args.self c.in-None.ensures.steps.0 c.loop-entry.invariant.0),
  subst (λ v. IsSmall (coded_form v)) c.self.view_is (small_entries c.self.inside.table.entries c.self.invariant.0 c.self.invariant.1),
)
