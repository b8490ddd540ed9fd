use Rattle.std.proofs.Common.{ℕ, ◌≡◌, ◌++◌, map, drop}
use Rattle.std.specs.Global.{Vec}
use Rattle.bound_terms.specs.Bounds.{term_of}
use Rattle.bound_forms.specs.Monomials.{atom_key}
use Rattle.bound_forms.proofs.monomial.keys_of.Given as goal

abbrev pub invariant-loop-atom : goal.invariant-loop-atom
invariant-loop-atom l = map (λ (k : Vec ℕ). k.items) l.keys.items ++ map atom_key (map term_of (drop l.atom-index l.atoms)) ≡ map atom_key (map term_of l.atoms)
