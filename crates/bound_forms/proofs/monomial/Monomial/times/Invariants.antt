use Rattle.std.proofs.Common.{◌≡◌, map, drop}
use Rattle.bound_terms.specs.Bounds.{term_of}
use Rattle.bound_forms.specs.Monomials.{atoms_onto}
use Rattle.bound_forms.specs.Coded.{coded}
use Rattle.bound_forms.proofs.monomial.Monomial.times.Given as goal

abbrev pub invariant-loop-i : goal.invariant-loop-i
invariant-loop-i l =
    ((coded l.product).coefficient ≡ l.coefficient)
    × (atoms_onto (coded l.product).atoms (map term_of (drop l.i l.other-inside.atoms.items)) ≡ atoms_onto (coded l.self).atoms (map term_of l.other-inside.atoms.items))
