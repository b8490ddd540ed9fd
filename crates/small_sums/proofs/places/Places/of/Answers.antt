use Rattle.std.specs.Prelude.{◌+◌}
use Rattle.std.proofs.Common.{arith}
use Rattle.small_sums.proofs.Links.{heads_step, links_step}
use Rattle.small_sums.proofs.places.Places.of.Goals as goal

pub loop-place-preserved : goal.loop-place-preserved
loop-place-preserved c =
    let heads = c.loop-place.invariant.heads in
    let links = c.loop-place.invariant.links in
    record {
      heads = heads_step c.loop-place.place (c.len-count.result + 1) c.index.result.now c.bucket_of-bucket.result c.args.keys.items c.loop-place.heads.items c.loop-place.links.items (omega arith) c.index.ensures c.bucket_of-bucket.ensures.value heads links;
      links = links_step c.loop-place.place (c.len-count.result + 1) c.index.result.now c.bucket_of-bucket.result c.index-in-loop-place.result.now c.args.keys.items c.loop-place.heads.items c.loop-place.links.items (omega arith) c.index.ensures c.bucket_of-bucket.ensures.value (omega (arith, heads.count)) c.index-in-loop-place.ensures heads links;
    }
