use Rattle.std.proofs.Common.{◌≡◌, ◌+◌, ◌++◌, length, map}
use Rattle.frames.specs.Heap.{default_of, own_fields}
use Rattle.object_steps.proofs.objects.add_fields.Given as goal

abbrev pub invariant-loop-rest : goal.invariant-loop-rest
invariant-loop-rest l = (l.fields.items ++ map (λ f. (f.0, default_of f.1)) (own_fields l.class l.member l.rest) ≡ l.fn.fields.items ++ map (λ f. (f.0, default_of f.1)) (own_fields l.class 0 l.own)) × (l.member + length l.rest ≡ length l.own)

abbrev pub decreases-loop-rest : goal.decreases-loop-rest
decreases-loop-rest l = length l.rest
