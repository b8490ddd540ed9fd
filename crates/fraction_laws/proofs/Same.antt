-- Being one rational, as a record, so that the fractions of an equation are found from its type.
use Rattle.std.specs.Prelude.{pos}
use Rattle.q128.specs.Fraction.{Fraction, whole, IsSame, plus, negative, times}
use Rattle.q128.proofs.Field.{same_refl, same_sym, same_trans, plus-same, plus_assoc, plus-zero, plus_comm, plus_swap, times-same, times_comm, times_assoc, times_plus, plus_times, zero-plus, zero-times, times-zero}
use Rattle.q128.proofs.Ordered.{negative-same, one-times}
use Rattle.fraction_laws.proofs.Sums.{times-one, plus-negative, plus-cancel}

pub record Same (x y : Fraction) : Type 0 where
  pub is : IsSame x y

pub same : {x : Fraction} → Same x x
same {x} = record { is = same_refl x }

pub back : {x y : Fraction} → Same x y → Same y x
back {x} {y} e = record { is = same_sym x y e.is }

infixr 4 ◌∘◌
pub ◌∘◌ : {x y z : Fraction} → Same x y → Same y z → Same x z
◌∘◌ {x} {y} {z} e f = record { is = same_trans x y z e.is f.is }

pub sums : {x x' y y' : Fraction} → Same x x' → Same y y' → Same (plus x y) (plus x' y')
sums {x} {x'} {y} {y'} e f = record { is = plus-same x x' y y' e.is f.is }

pub products : {x x' y y' : Fraction} → Same x x' → Same y y' → Same (times x y) (times x' y')
products {x} {x'} {y} {y'} e f = record { is = times-same x x' y y' e.is f.is }

pub negatives : {x y : Fraction} → Same x y → Same (negative x) (negative y)
negatives {x} {y} e = record { is = negative-same x y e.is }

pub associate : (x y z : Fraction) → Same (plus (plus x y) z) (plus x (plus y z))
associate x y z = record { is = plus_assoc x y z }

pub swap : (x y : Fraction) → Same (plus x y) (plus y x)
swap x y = record { is = plus_comm x y }

pub regroup : (a b c d : Fraction) → Same (plus (plus a b) (plus c d)) (plus (plus a c) (plus b d))
regroup a b c d = record { is = plus_swap a b c d }

pub no_more : (x : Fraction) → Same (plus x (whole (pos 0))) x
no_more x = record { is = plus-zero x }

pub none_more : (x : Fraction) → Same (plus (whole (pos 0)) x) x
none_more x = record { is = zero-plus x }

pub opposed : (x : Fraction) → Same (plus x (negative x)) (whole (pos 0))
opposed x = record { is = plus-negative x }

pub turn : (x y : Fraction) → Same (times x y) (times y x)
turn x y = record { is = times_comm x y }

pub collect : (x y z : Fraction) → Same (times (times x y) z) (times x (times y z))
collect x y z = record { is = times_assoc x y z }

pub share_out : (q x y : Fraction) → Same (times q (plus x y)) (plus (times q x) (times q y))
share_out q x y = record { is = times_plus q x y }

pub share_left : (x y q : Fraction) → Same (times (plus x y) q) (plus (times x q) (times y q))
share_left x y q = record { is = plus_times x y q }

pub once : (x : Fraction) → Same (times (whole (pos 1)) x) x
once x = record { is = one-times x }

pub by_one : (x : Fraction) → Same (times x (whole (pos 1))) x
by_one x = record { is = times-one x }

pub of_none : (x : Fraction) → Same (times (whole (pos 0)) x) (whole (pos 0))
of_none x = record { is = zero-times x }

pub by_none : (x : Fraction) → Same (times x (whole (pos 0))) (whole (pos 0))
by_none x = record { is = times-zero x }

pub take_away : {x y : Fraction} (z : Fraction) → Same (plus x z) (plus y z) → Same x y
take_away {x} {y} z e = record { is = plus-cancel x y z e.is }

-- x + y = 0 where y = -x
pub cancels : (x y : Fraction) → Same y (negative x) → Same (plus x y) (whole (pos 0))
cancels x y e = sums same e ∘ opposed x

-- (-x) y = -(x y)
pub negative_left : (x y : Fraction) → Same (times (negative x) y) (negative (times x y))
negative_left x y =
    let all : Same (plus (times (negative x) y) (times x y)) (plus (negative (times x y)) (times x y)) =
    back (share_left (negative x) x y) ∘ products (swap (negative x) x ∘ opposed x) same ∘ of_none y ∘ back (opposed (times x y)) ∘ swap (times x y) (negative (times x y)) in
    take_away (times x y) all

-- ---- one equation solved for another of its numbers
-- with k h = 1 and o' k = -o: where r = k c + o, c = h r + o'
pub solved : (r c o o' k h : Fraction) → Same (times h k) (whole (pos 1)) → Same (times o' k) (negative o) → Same r (plus (times k c) o) → Same c (plus (times h r) o')
solved r c o o' k h unit other is =
    let alone : Same o' (negative (times h o)) =
    back (by_one o') ∘ products same (back unit ∘ turn h k) ∘ back (collect o' k h) ∘ products other same ∘ negative_left o h ∘ negatives (turn o h) in
    let gone : Same (plus (times h o) o') (whole (pos 0)) = cancels (times h o) o' alone in
    let opened : Same (times h r) (plus c (times h o)) =
    products same is ∘ share_out h (times k c) o ∘ sums (back (collect h k c) ∘ products unit same ∘ once c) same in
    back (sums opened same ∘ associate c (times h o) o' ∘ sums same gone ∘ no_more c)

pub unsolved : (r c o o' k h : Fraction) → Same (times h k) (whole (pos 1)) → Same (times o' k) (negative o) → Same c (plus (times h r) o') → Same r (plus (times k c) o)
unsolved r c o o' k h unit other is =
    let opened : Same (times k c) (plus r (times k o')) =
    products same is ∘ share_out k (times h r) o' ∘ sums (back (collect k h r) ∘ products (turn k h ∘ unit) same ∘ once r) same in
    let gone : Same (plus (times k o') o) (whole (pos 0)) = swap (times k o') o ∘ cancels o (times k o') (turn k o' ∘ other) in
    back (sums opened same ∘ associate r (times k o') o ∘ sums same gone ∘ no_more r)

-- and put into another: with s k = m and o' + s o = p, where r = k c + o, m c + p = s r + o'
pub inserted : (r c o o' p k m s : Fraction) → Same (times s k) m → Same (plus o' (times s o)) p → Same r (plus (times k c) o) → Same (plus (times m c) p) (plus (times s r) o')
inserted r c o o' p k m s shared rest is =
    let opened : Same (times s r) (plus (times m c) (times s o)) =
    products same is ∘ share_out s (times k c) o ∘ sums (back (collect s k c) ∘ products shared same) same in
    back (sums opened same ∘ associate (times m c) (times s o) o' ∘ sums same (swap (times s o) o' ∘ rest))
