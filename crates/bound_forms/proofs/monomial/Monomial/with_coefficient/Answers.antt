use Rattle.std.proofs.Common.{map, ap, ◌∙◌, sym}
use Rattle.std.specs.Global.{Vec}
use Rattle.std.specs.Prelude.{ℕ}
use Rattle.bound_forms.specs.Monomials.{atom_key}
use Rattle.bound_forms.proofs.monomial.Monomial.with_coefficient.Goals as goal

pub invariant_of-result : goal.invariant_of-result
invariant_of-result c =
    (c.in_ok-copy_keys.ensures ∙ ap (map (λ (k : Vec ℕ). k.items)) c.as_slice.ensures.value ∙ c.self.invariant.0 ∙ ap (map atom_key) (sym (c.in_ok-copy_all.ensures ∙ ap (map _) c.as_slice-2.ensures.value)), c.requires)
