use Rattle.std.proofs.Common.{◌≡◌, ◌≤◌, ◌-◌, ◌∷◌, length, drop}
use Rattle.bound_forms.specs.Monomials.{Form}
use Rattle.bound_forms.specs.Normal.{Rising}
use Rattle.bound_forms.specs.Maxima.{covers}
use Rattle.bound_forms.specs.Coded.{coded, coded_form}
use Rattle.bound_forms.proofs.maxima.place_from.Given as goal

abbrev pub invariant-loop-place : goal.invariant-loop-place
invariant-loop-place l =
    (l.place ≤ length l.q)
    × ((ms : Form) → Rising (coded l.m ∷ ms) → covers (coded_form (drop l.place l.q)) (coded l.m ∷ ms) ≡ covers (coded_form (drop l.j l.q)) (coded l.m ∷ ms))

abbrev pub decreases-loop-place : goal.decreases-loop-place
decreases-loop-place l = length l.q - l.place
