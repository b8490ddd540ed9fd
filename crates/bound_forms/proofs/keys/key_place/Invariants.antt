use Rattle.std.proofs.Common.{ℕ, ◌≡◌, ◌+◌, map, drop}
use Rattle.std.specs.Global.{Vec}
use Rattle.bound_forms.specs.inside.Places.{key_place}
use Rattle.bound_forms.proofs.keys.key_place.Given as goal

abbrev pub invariant-loop-i : goal.invariant-loop-i
invariant-loop-i l = key_place l.key (map (λ (k : Vec ℕ). k.items) l.keys) ≡ l.i + key_place l.key (map (λ (k : Vec ℕ). k.items) (drop l.i l.keys))
