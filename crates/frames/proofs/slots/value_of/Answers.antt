use Rattle.std.proofs.Common.{sym, ◌∙◌}
use Rattle.frames.proofs.Members.{found, no_value}
use Rattle.frames.proofs.slots.value_of.Goals as goal

pub returns-in_err-place : goal.returns-in_err-place
returns-in_err-place c = c.from_residual.ensures ∙ sym (no_value c.args.member c.args.values.now (sym c.place_of.ensures ∙ c.in_err-place.was))

pub returns : goal.returns
returns c = sym (found c.args.member c.args.values.now c.in_ok-place.place _ (sym c.place_of.ensures ∙ c.in_ok-place.was))
