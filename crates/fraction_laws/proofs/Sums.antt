-- What sums and products cancel.
use Rattle.std.specs.Prelude.{pos}
use Rattle.std.proofs.Common.{refl}
use Rattle.q128.specs.Fraction.{Fraction, whole, IsSame, plus, negative, times}
use Rattle.q128.proofs.Field.{same_sym, same_trans, plus-same, plus_assoc, plus-zero}
use Rattle.q128.proofs.Ordered.{are_ordered_field}

pub times-one : (x : Fraction) → IsSame (times x (whole (pos 1))) x
times-one x = are_ordered_field.field.products.leaves x

pub plus-negative : (x : Fraction) → IsSame (plus x (negative x)) (whole (pos 0))
plus-negative x = are_ordered_field.field.negatives x

-- x + z with z taken away again
pub plus-back : (x z : Fraction) → IsSame (plus (plus x z) (negative z)) x
plus-back x z =
    same_trans (plus (plus x z) (negative z)) (plus x (plus z (negative z))) x (plus_assoc x z (negative z))
    (same_trans (plus x (plus z (negative z))) (plus x (whole (pos 0))) x (plus-same x x (plus z (negative z)) (whole (pos 0)) refl (plus-negative z)) (plus-zero x))

pub plus-cancel : (x y z : Fraction) → IsSame (plus x z) (plus y z) → IsSame x y
plus-cancel x y z e =
    same_trans x (plus (plus x z) (negative z)) y (same_sym (plus (plus x z) (negative z)) x (plus-back x z))
    (same_trans (plus (plus x z) (negative z)) (plus (plus y z) (negative z)) y (plus-same (plus x z) (plus y z) (negative z) (negative z) e refl) (plus-back y z))
