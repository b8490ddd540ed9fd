use Rattle.std.proofs.Common.{◌∙◌, ◌++◌, sym, ap, subst}
use Rattle.std.specs.Prelude.{All}
use Rattle.std.proofs.lemmas.Result.{on_ok_weaker}
use Rattle.bound_forms.specs.Answered.{coded_forms}
use Rattle.bound_forms.specs.inside.Pruning.{IsLow}
use Rattle.bound_forms.proofs.Readings.{maximum_read}
use Rattle.bound_forms.proofs.reading.put_parts.Goals as goal

pub put_forms-requires : goal.put_forms-requires
put_forms-requires c = subst (All (All IsLow)) (maximum_read c.args.atom c.in-Max.parts c.in-Max.is) c.requires

pub returns-in-Max : goal.returns-in-Max
returns-in-Max c =
    on_ok_weaker c.put_forms.result (λ h. h ∙ ap (λ ps. coded_forms c.args.operands.now.items ++ ps) (sym (maximum_read c.args.atom c.in-Max.parts c.in-Max.is))) c.put_forms.ensures
