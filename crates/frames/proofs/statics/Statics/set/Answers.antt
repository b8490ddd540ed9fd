use Rattle.std.proofs.Common.{sym, ◌∙◌, ap, subst, List, slice_set}
use Rattle.world.specs.declared.member.MemberId.{MemberId}
use Rattle.frames.specs.declared.value.Value.{Value}
use Rattle.frames.specs.Slots.{place_of}
use Rattle.frames.specs.Places.{HasPlaces}
use Rattle.frames.proofs.Members.{replaced, kept}
use Rattle.frames.proofs.Placing.{places_kept}
use Rattle.frames.proofs.statics.Statics.set.Goals as goal

pub invariant_of-self : goal.invariant_of-self
invariant_of-self c =
    subst (HasPlaces c.self.inside.places) (sym c.set.ensures)
    (places_kept c.self.inside.places c.self.inside.values c.args.field c.args.value c.in-Some.place c.self.invariant
    (ap (place_of c.args.field) c.self.view_is ∙ sym c.place.ensures ∙ c.in-Some.is))

pub returns-in-Some : goal.returns-in-Some
returns-in-Some c =
    c.set.ensures
    ∙ ap (λ (values : List (MemberId × Value)). slice_set values c.in-Some.place (c.args.field, c.args.value)) c.self.view_is
    ∙ sym (replaced c.args.field c.args.value c.args.self.now c.in-Some.place (sym c.place.ensures ∙ c.in-Some.is))

pub returns-in_default : goal.returns-in_default
returns-in_default c = sym (kept c.args.field c.args.value c.args.self.now (sym c.place.ensures ∙ c.in_default.is))
