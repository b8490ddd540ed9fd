use Rattle.bound_terms.specs.Bounds.{terms_of}
use Rattle.bound_terms.specs.Values.{product_of, AllFit}
use Rattle.bound_terms.proofs.Parts.{multiplied_at}
use Rattle.bound_terms.proofs.values.+value.Goals as goal

pub product-loop-part-preserved : goal.product-loop-part-preserved
product-loop-part-preserved t c =
    let sizes = c.args.sizes.now in
    let parts = c.args.parts.now in
    multiplied_at sizes (AllFit sizes (terms_of parts)) (product_of sizes (terms_of parts)) c.in_ok-value.value c.loop-part.product c.times-product.result parts c.loop-part.part-index c.part-item.result
    c.loop-part-test.true c.part-item.is c.in_ok-value.ensures.0 c.in_ok-value.ensures.1 c.times-product.ensures c.loop-part.invariant
