use Rattle.std.proofs.Common.{◌∙◌, ◌++◌, sym, ap, subst}
use Rattle.std.specs.Prelude.{All}
use Rattle.std.proofs.lemmas.Result.{on_ok_weaker}
use Rattle.bound_forms.specs.Coded.{coded_form}
use Rattle.bound_forms.specs.Answered.{coded_forms}
use Rattle.bound_forms.specs.inside.Pruning.{IsLow, is_alone}
use Rattle.bound_forms.proofs.Readings.{last_atoms}
use Rattle.bound_forms.proofs.reading.put_operands.Goals as goal

pub put_maximum-requires : goal.put_maximum-requires
put_maximum-requires c =
    let w = last_atoms c.args.form.items c.pop.new.self.items c.in-Some.monomial c.into_atoms.result.items c.in-Some.ensures.items (c.if-not-is_alone.ensures ∙ ap (λ f. is_alone (coded_form f)) c.as_slice.ensures.value) c.into_atoms.ensures in
    record { alone = w.0; low = subst (All (All IsLow)) w.1 c.requires }

pub returns-in-Some : goal.returns-in-Some
returns-in-Some c =
    let w = last_atoms c.args.form.items c.pop.new.self.items c.in-Some.monomial c.into_atoms.result.items c.in-Some.ensures.items (c.if-not-is_alone.ensures ∙ ap (λ f. is_alone (coded_form f)) c.as_slice.ensures.value) c.into_atoms.ensures in
    on_ok_weaker c.put_maximum.result (λ h. h ∙ ap (λ ps. coded_forms c.args.operands.now.items ++ ps) (sym w.1)) c.put_maximum.ensures
