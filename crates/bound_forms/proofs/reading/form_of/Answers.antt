use Rattle.std.proofs.Common.{◌≡◌, ◌∙◌, sym, subst, map}
use Rattle.std.specs.Prelude.{All, ℕ, List}
use Rattle.std.specs.Global.{Vec}
use Rattle.std.proofs.lemmas.Result.{IfOk-weaker}
use Rattle.bound_terms.specs.declared.bound.Bound.{Bound}
use Rattle.bound_terms.specs.Bounds.{term_of}
use Rattle.bound_forms.specs.Maxima.{monomial_of, form_of}
use Rattle.bound_forms.specs.Coded.{coded_form}
use Rattle.bound_forms.specs.inside.Pruning.{IsLow}
use Rattle.bound_forms.proofs.Readings.{sum_read}
use Rattle.bound_forms.proofs.reading.form_of.Goals as goal

pub form_of_parts-requires : goal.form_of_parts-requires
form_of_parts-requires c = subst (All IsLow) (sum_read c.args.bound c.in-Sum.parts c.in-Sum.is) c.requires

pub returns-in-Sum : goal.returns-in-Sum
returns-in-Sum c =
    IfOk-weaker c.form_of_parts.result (λ (f : Vec (ℕ × List Bound)). coded_form f.items ≡ map monomial_of (map term_of c.in-Sum.parts.items)) (λ f. coded_form f.items ≡ form_of (term_of c.args.bound))
    (λ f h. h ∙ sym (sum_read c.args.bound c.in-Sum.parts c.in-Sum.is)) c.form_of_parts.ensures
