use Rattle.std.proofs.Common.{sym, ◌∙◌, ap}
use Rattle.frames.specs.Slots.{place_of}
use Rattle.frames.proofs.Members.{replaced, kept}
use Rattle.frames.proofs.slots.set_value.Goals as goal

pub returns-in-Some : goal.returns-in-Some
returns-in-Some c =
    c.set.ensures
    ∙ sym (replaced c.args.member c.args.value c.args.values.now c.in-Some.place (ap (place_of c.args.member) (sym c.as_slice.ensures) ∙ sym c.place_of.ensures ∙ c.in-Some.is))

pub returns-in_default : goal.returns-in_default
returns-in_default c = sym (kept c.args.member c.args.value c.args.values.now (ap (place_of c.args.member) (sym c.as_slice.ensures) ∙ sym c.place_of.ensures ∙ c.in_default.is))
