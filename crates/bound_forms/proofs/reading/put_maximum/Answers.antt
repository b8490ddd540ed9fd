use Rattle.std.proofs.Common.{◌∙◌, ◌++◌, sym, ap, subst}
use Rattle.std.specs.Prelude.{All}
use Rattle.std.proofs.lemmas.Result.{on_ok_weaker}
use Rattle.bound_forms.specs.Answered.{coded_forms}
use Rattle.bound_forms.specs.inside.Pruning.{IsLow}
use Rattle.bound_forms.proofs.Readings.{last_atom}
use Rattle.bound_forms.proofs.reading.put_maximum.Goals as goal

pub put_parts-requires : goal.put_parts-requires
put_parts-requires c = subst (All (All IsLow)) (last_atom c.args.atoms.items c.pop.new.self.items c.in-Some.atom c.in-Some.ensures.items c.requires.alone) c.requires.low

pub returns-in-Some : goal.returns-in-Some
returns-in-Some c =
    on_ok_weaker c.put_parts.result (λ h. h ∙ ap (λ ps. coded_forms c.args.operands.now.items ++ ps) (sym (last_atom c.args.atoms.items c.pop.new.self.items c.in-Some.atom c.in-Some.ensures.items c.requires.alone))) c.put_parts.ensures
