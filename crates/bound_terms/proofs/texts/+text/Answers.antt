use Rattle.std.specs.Prelude.{◌≡◌, ◌==◌, false, length}
use Rattle.bound_terms.specs.Bounds.{terms_of}
use Rattle.bound_terms.specs.Texts.{is_left_out}
use Rattle.bound_terms.proofs.Writing.{total_text_is, product_text_whole}
use Rattle.bound_terms.proofs.texts.+text.Goals as goal

pub put_total-returns-else-is_empty : goal.put_total-returns-else-is_empty
put_total-returns-else-is_empty t c =
    let some : false ≡ (length c.args.parts.now == 0) = c.if-is_empty.ensures in
    rw (total_text_is c.args.parts.now some) c.put_joined.ensures

pub put_product-returns-else-is_left_out : goal.put_product-returns-else-is_left_out
put_product-returns-else-is_left_out t c =
    let some : false ≡ (length c.args.parts.now == 0) = c.if-is_empty.ensures in
    let kept : false ≡ is_left_out (terms_of c.args.parts.now) = c.if-is_left_out.ensures in
    rw (product_text_whole c.args.parts.now (is_left_out (terms_of c.args.parts.now)) some kept) c.put_joined-else-is_left_out.ensures
