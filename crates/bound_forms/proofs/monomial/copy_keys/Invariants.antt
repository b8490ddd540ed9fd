use Rattle.std.proofs.Common.{ℕ, ◌≡◌, ◌++◌, map, drop}
use Rattle.std.specs.Global.{Vec}
use Rattle.bound_forms.proofs.monomial.copy_keys.Given as goal

abbrev pub invariant-loop-key : goal.invariant-loop-key
invariant-loop-key l = map (λ (k : Vec ℕ). k.items) l.copies.items ++ map (λ (k : Vec ℕ). k.items) (drop l.key-index l.keys) ≡ map (λ (k : Vec ℕ). k.items) l.keys
