use Rattle.std.proofs.Common.{ℕ, ◌∙◌, sym, ap, map}
use Rattle.std.specs.Global.{Vec}
use Rattle.bound_terms.specs.Bounds.{term_of}
use Rattle.bound_forms.specs.Monomials.{atoms_order}
use Rattle.bound_forms.proofs.Tables.{order_of_as_many}
use Rattle.bound_forms.proofs.monomial.Monomial.order.Goals as goal

pub returns-in-Equal : goal.returns-in-Equal
returns-in-Equal c =
    let a = c.self.inside in
    let b = c.other.inside in
    let ks = c.as_slice-keys.result.now in
    let ls = c.as_slice-others.result.now in
    order_of_as_many ks ls a.atoms.items b.atoms.items c.cmp-in-Equal.result
    (ap (map (λ (k : Vec ℕ). k.items)) c.as_slice-keys.ensures.value ∙ c.self.invariant.0) (ap (map (λ (k : Vec ℕ). k.items)) c.as_slice-others.ensures.value ∙ c.other.invariant.0)
    (sym c.cmp.ensures ∙ c.in-Equal.is) c.cmp-in-Equal.ensures
    ∙ ap (λ v. atoms_order (map term_of v.1) (map term_of b.atoms.items)) c.self.view_is
    ∙ ap (λ v. atoms_order (map term_of c.args.self.now.1) (map term_of v.1)) c.other.view_is
