-- Classes that are no world have one fault.
use Rattle.std.proofs.Common.{◌≡◌, ℕ, List, sym, ◌∙◌, ap, inl, inr}
use Rattle.class_hierarchy.specs.declared.fault.WorldFault.{WorldFault}
use Rattle.class_hierarchy.specs.declared.fault.WorldFault.TheVariants.{SuperCycle}
use Rattle.class_hierarchy.specs.World.{World, class_at}
use Rattle.class_hierarchy.specs.Building.{IsWellBuilt, IsFirstCyclic, IsFault, repeats, misses, mixes, returns, inherits}
use Rattle.analyser.proofs.Told.{compared}

one_cyclic : (w : World) (a b : List ℕ) → IsFirstCyclic w a → IsFirstCyclic w b → b ≡ a
one_cyclic w a b u v = elim (compared u.0 v.0) [
  | inl apart ↦ elim apart [ inl less ↦ absurd (v.4 u.0 less u.3) | inr more ↦ absurd (u.4 v.0 more v.3) ]
  | inr same ↦ sym v.2 ∙ ap (λ (c : ℕ). (class_at w c).name) (sym same) ∙ u.2
]

-- classes have one fault
pub same_fault : (w : World) (f g : WorldFault) → IsFault w f → IsFault w g → g ≡ f
same_fault w f g (repeats e) (repeats d) = cc
same_fault w f g (repeats e) (misses n d) = absurd cc
same_fault w f g (repeats e) (mixes n m d) = absurd cc
same_fault w f g (repeats e) (returns h c) = let n = h.once in absurd cc
same_fault w f g (repeats e) (inherits h acyclic d) = let n = h.once in absurd cc
same_fault w f g (misses n e) (repeats d) = absurd cc
same_fault w f g (misses n e) (misses m d) = cc
same_fault w f g (misses n e) (mixes m k d) = absurd cc
same_fault w f g (misses n e) (returns h c) = let m = h.there in absurd cc
same_fault w f g (misses n e) (inherits h acyclic d) = let m = h.there in absurd cc
same_fault w f g (mixes n m e) (repeats d) = absurd cc
same_fault w f g (mixes n m e) (misses k d) = absurd cc
same_fault w f g (mixes n m e) (mixes k l d) = cc
same_fault w f g (mixes n m e) (returns h c) = let k = h.right in absurd cc
same_fault w f g (mixes n m e) (inherits h acyclic d) = let k = h.right in absurd cc
same_fault w f g (returns h c) (repeats d) = let n = h.once in absurd cc
same_fault w f g (returns h c) (misses n d) = let m = h.there in absurd cc
same_fault w f g (returns h c) (mixes n m d) = let k = h.right in absurd cc
same_fault w f g (returns h c) (returns k d) = ap SuperCycle (one_cyclic w _ _ c d)
same_fault w f g (returns h c) (inherits k acyclic d) = absurd (acyclic c.0 c.3)
same_fault w f g (inherits h acyclic e) (repeats d) = let n = h.once in absurd cc
same_fault w f g (inherits h acyclic e) (misses n d) = let m = h.there in absurd cc
same_fault w f g (inherits h acyclic e) (mixes n m d) = let k = h.right in absurd cc
same_fault w f g (inherits h acyclic e) (returns k c) = absurd (acyclic c.0 c.3)
same_fault w f g (inherits h acyclic e) (inherits k other d) = cc

-- and a world has none
pub no_fault : (w : World) (f : WorldFault) → IsFault w f → IsWellBuilt w → ⊥
no_fault w f (repeats e) built = let n = built.has_supers.once in absurd cc
no_fault w f (misses n e) built = let m = built.has_supers.there in absurd cc
no_fault w f (mixes n m e) built = let k = built.has_supers.right in absurd cc
no_fault w f (returns h c) built = built.no_cycle c.0 c.3
no_fault w f (inherits h acyclic e) built = let n = built.none_final in absurd cc
