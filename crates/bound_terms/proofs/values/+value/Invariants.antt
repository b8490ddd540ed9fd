use Rattle.std.proofs.Common.{ℕ, ◌≡◌, ◌+◌, ◌*◌, ◌<◌, ◌^◌, max, drop}
use Rattle.std.specs.Prelude.{◌↔◌}
use Rattle.bound_terms.specs.Bounds.{terms_of}
use Rattle.bound_terms.specs.Values.{total_of, product_of, greatest_of, AllFit}
use Rattle.bound_terms.specs.inside.Running.{Holds}
use Rattle.bound_terms.proofs.values.+value.Given as goal

abbrev pub invariant-greatest-loop-part : goal.invariant-greatest-loop-part
invariant-greatest-loop-part l =
    (AllFit l.sizes (terms_of (drop l.part-index l.parts)) ↔ AllFit l.sizes (terms_of l.parts))
    × (max l.greatest (greatest_of l.sizes (terms_of (drop l.part-index l.parts))) ≡ greatest_of l.sizes (terms_of l.parts))

abbrev pub invariant-product-loop-part : goal.invariant-product-loop-part
invariant-product-loop-part l =
    (AllFit l.sizes (terms_of (drop l.part-index l.parts)) ↔ AllFit l.sizes (terms_of l.parts))
    × ((m : ℕ) × Holds l.product m × (m * product_of l.sizes (terms_of (drop l.part-index l.parts)) ≡ product_of l.sizes (terms_of l.parts)))

abbrev pub invariant-total-loop-part : goal.invariant-total-loop-part
invariant-total-loop-part l =
    (AllFit l.sizes (terms_of (drop l.part-index l.parts)) ↔ AllFit l.sizes (terms_of l.parts))
    × (l.sum + total_of l.sizes (terms_of (drop l.part-index l.parts)) ≡ total_of l.sizes (terms_of l.parts))
    × (l.sum < 2 ^ 128)
