use Rattle.std.proofs.Common.{◌≡◌, ◌<◌, length, rules}
use Rattle.std.proofs.lemmas.Result.{IfOk-weaker}
use Rattle.bound_terms.specs.Bounds.{terms_of}
use Rattle.bound_forms.specs.Maxima.{monomial_by}
use Rattle.bound_forms.specs.Coded.{coded}
use Rattle.bound_forms.proofs.Readings.{read_monomial}
use Rattle.bound_forms.proofs.reading.monomial_of_parts.Goals as goal

pub returns-in-Const : goal.returns-in-Const
returns-in-Const c =
    let some : 0 < length c.args.parts.items = search rules in
    IfOk-weaker c.new.result (λ m. m ≡ (c.in-Const.n, c.remove.new.self.items)) (λ m. coded m ≡ monomial_by (terms_of c.args.parts.items))
    (λ m h. read_monomial c.args.parts.items c.remove.new.self.items c.in-Const.n m some c.in-Const.ensures.value c.in-Const.ensures.items h) c.new.ensures
