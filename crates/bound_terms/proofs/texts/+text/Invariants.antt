use Rattle.std.proofs.Common.{◌≡◌, ◌++◌, drop}
use Rattle.bound_terms.specs.Bounds.{terms_of}
use Rattle.bound_terms.specs.Texts.{joined, texts_of}
use Rattle.bound_terms.specs.inside.Writing.{joined_behind}
use Rattle.bound_terms.proofs.texts.+text.Given as goal

abbrev pub invariant-put_joined-loop-part : goal.invariant-put_joined-loop-part
invariant-put_joined-loop-part l =
    l.out.items ++ joined_behind l.is_first l.between (texts_of (terms_of (drop l.part-index l.parts)))
    ≡ l.initial.out.items ++ joined l.between (texts_of (terms_of l.parts))
