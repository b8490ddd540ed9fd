use Rattle.std.proofs.Common.{drop}
use Rattle.bound_terms.specs.Bounds.{terms_of}
use Rattle.bound_normal.specs.Held.{AreHeldTerms}
use Rattle.bound_normal.proofs.normalizing.+seeing.Given as goal

abbrev pub invariant-see_all-loop-part : goal.invariant-see_all-loop-part
invariant-see_all-loop-part l = AreHeldTerms (terms_of (drop l.part-index l.parts)) → AreHeldTerms (terms_of l.parts)
