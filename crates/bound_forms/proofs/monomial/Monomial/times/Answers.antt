use Rattle.std.proofs.Common.{◌<◌, length, rules, ◌∙◌}
use Rattle.bound_forms.proofs.Atoms.{key_at}
use Rattle.bound_forms.proofs.monomial.Monomial.times.Goals as goal

pub with_atom-requires : goal.with_atom-requires
with_atom-requires c =
    let inside = c.other.inside in
    let h : c.loop-i.i < length inside.keys.items = search rules in
    c.as_slice.ensures.value ∙ key_at inside.keys.items inside.atoms.items c.loop-i.i c.index.result.now c.index-in-loop-i.result.now c.other.invariant.0 h c.index.ensures c.index-in-loop-i.ensures
