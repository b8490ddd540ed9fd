use Rattle.std.proofs.Common.{ap, ◌∙◌, map}
use Rattle.std.specs.Global.{Vec}
use Rattle.bound_terms.specs.Bounds.{term_of}
use Rattle.bound_forms.specs.Monomials.{put_atom}
use Rattle.bound_forms.specs.inside.Places.{key_place}
use Rattle.bound_forms.proofs.Atoms.{keys_with, atoms_with, made_of}
use Rattle.bound_forms.proofs.monomial.Monomial.with_atom.Goals as goal

pub invariant_of-result : goal.invariant_of-result
invariant_of-result c =
    let inside = c.self.inside in (
      keys_with inside.keys.items c.insert.new.self.items inside.atoms.items c.insert-2.new.self.items c.key_place-i.result c.in_ok-from_slice.field-0 c.in_ok-copy.field-0 c.args.key.now (term_of c.args.atom.now)
          c.self.invariant.0 c.in_ok-insert.ensures.items c.in_ok-insert-2.ensures.items c.in_ok-from_slice.ensures.items c.requires c.in_ok-copy.ensures,
      c.self.invariant.1,
    )

pub returns : goal.returns
returns c =
    let inside = c.self.inside in
    made_of inside.coefficient c.args.self.0 (map term_of c.insert-2.new.self.items) _ (ap (λ v. v.0) c.self.view_is)
    (atoms_with inside.keys.items inside.atoms.items c.insert-2.new.self.items c.key_place-i.result c.in_ok-copy.field-0 c.args.key.now (term_of c.args.atom.now)
    c.self.invariant.0 c.in_ok-insert-2.ensures.items (c.key_place-i.ensures.place ∙ ap (λ ks. key_place c.args.key.now (map (λ (x : Vec _). x.items) ks)) c.as_slice.ensures.value) c.requires c.in_ok-copy.ensures
    ∙ ap (λ v. put_atom (term_of c.args.atom.now) (map term_of v.1)) c.self.view_is)
