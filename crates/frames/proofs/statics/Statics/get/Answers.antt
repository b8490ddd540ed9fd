use Rattle.std.proofs.Common.{sym, ◌∙◌, ap, List, Some, slice_index_or}
use Rattle.std.specs.Prelude.{pos}
use Rattle.world.specs.declared.member.MemberId.{MemberId}
use Rattle.frames.specs.declared.value.Value.{Value}
use Rattle.frames.specs.declared.value.Value.TheVariants.{Int}
use Rattle.frames.proofs.Members.{found, no_value}
use Rattle.frames.proofs.statics.Statics.get.Goals as goal

pub returns-in_err-place : goal.returns-in_err-place
returns-in_err-place c = c.from_residual.ensures ∙ sym (no_value c.args.field c.args.self.now (sym c.place.ensures ∙ c.in_err-place.was))

pub returns : goal.returns
returns c =
    let same = c.as_slice.ensures ∙ c.self.view_is in
    ap (λ (values : List (MemberId × Value)). Some (slice_index_or values c.in_ok-place.place (record { class = 0; member = 0 }, Int (pos 0))).1) same
    ∙ sym (found c.args.field c.args.self.now c.in_ok-place.place _ (sym c.place.ensures ∙ c.in_ok-place.was))
