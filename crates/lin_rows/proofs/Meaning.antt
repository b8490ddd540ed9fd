-- What the terms, made one after another, add up to.
use Rattle.std.specs.Prelude.{◌≡◌, ℤ, pos, ◌≤ℤ◌, List, [], ◌∷◌, Option, Some, None, Result, Ok, Err, true}
use Rattle.std.specs.Option.{ok_or}
use Rattle.std.specs.Ordering.{int_eq}
use Rattle.std.proofs.Common.{refl, sym, ap, get_or, ⊎_elim}
use Rattle.std.proofs.lemmas.Bool.{cases_Bool}
use Rattle.std.specs.Cmp.{signed_Decides}
use Rattle.q128.specs.Fraction.{Fraction, whole, IsSame, plus, times}
use Rattle.q128.specs.Rule.{add_rule, mul_rule}
use Rattle.q128.specs.declared.q.TooWide.{TooWide}
use Rattle.q128.proofs.Exact.{add-exact, mul-exact}
use Rattle.q128.proofs.Field.{same_trans, plus-same, times_comm, plus_assoc, times-zero, plus-zero, zero-plus, nonneg-same}
use Rattle.lin_rows.proofs.Dots.{dot-zero}
use Rattle.lin_rows.specs.Linear.{Linear}
use Rattle.lin_rows.specs.Points.{dot, value_at, HoldsAt}
use Rattle.lin_rows.specs.Combining.{◌>>=◌, added, multiplied, term_added, terms_added, value_made}

pub record Bound {A B : Type 0} (r : Result A TooWide) (f : A → Result B TooWide) (y : B) : Type 0 where
  pub x : A
  pub was : r ≡ Ok x
  pub then_is : f x ≡ Ok y

pub bind-ok : {A B : Type 0} (r : Result A TooWide) (f : A → Result B TooWide) (y : B) → (r >>= f) ≡ Ok y → Bound r f y
bind-ok (Ok x) f y e = record { x = x; was = refl; then_is = e }
bind-ok (Err x) f y e = absurd (cc)

ok_or-ok : (o : Option Fraction) (e : TooWide) (z : Fraction) → ok_or o e ≡ Ok z → o ≡ Some z
ok_or-ok (Some x) e z f = let g : x ≡ z = cc in ap (λ (k : Fraction). Some k) g
ok_or-ok None e z f = absurd (cc)

zero_term : (x y q : Fraction) (c : ℤ) → c ≡ pos 0 → y ≡ x → IsSame y (plus x (times q (whole c)))
zero_term x y q c e f =
    rw (e, f) (sym (same_trans (plus x (times q (whole (pos 0)))) (plus x (whole (pos 0))) x (plus-same x x (times q (whole (pos 0))) (whole (pos 0)) refl (times-zero q)) (plus-zero x)))

made_term : (x y q : Fraction) (c : ℤ) → (multiplied q (whole c) >>= added x) ≡ Ok y → IsSame y (plus x (times q (whole c)))
made_term x y q c e =
    let p = bind-ok (multiplied q (whole c)) (added x) y e in
    let product : IsSame p.x (times q (whole c)) = mul-exact q (whole c) p.x (ok_or-ok (mul_rule q (whole c)) _ p.x p.was) in
    let sum : IsSame y (plus x p.x) = add-exact x p.x y (ok_or-ok (add_rule x p.x) _ y p.then_is) in
    same_trans y (plus x p.x) (plus x (times q (whole c))) sum (plus-same x x p.x (times q (whole c)) refl product)

pub term_made : (x y q : Fraction) (c : ℤ) → term_added x q c ≡ Ok y → IsSame y (plus x (times q (whole c)))
unfolding term_added
term_made x y q c e = ⊎_elim (λ z. zero_term x y q c ((signed_Decides c (pos 0)).0 z) (is_same z)) (λ z. made_term x y q c (rw z at e)) (cases_Bool (int_eq c (pos 0)))
  where
    from : ◌≡◌ {A = Result Fraction TooWide} (Ok x) (Ok y) → y ≡ x
    from f = cc

    is_same : int_eq c (pos 0) ≡ true → y ≡ x
    is_same z = from (rw z at e)

pub terms_made : (x z : Fraction) (cs : List ℤ) (v : List Fraction) → terms_added x cs v ≡ Ok z → IsSame z (plus x (dot (λ i. whole (get_or cs i (pos 0))) v))
unfolding terms_added
terms_made x z [] [] e = let f : z ≡ x = cc in rw f (sym (plus-zero x))
terms_made x z [] (q ∷ v) e =
    let f : z ≡ x = cc in
    rw f (sym (same_trans (plus x (dot (λ i. whole (pos 0)) (q ∷ v))) (plus x (whole (pos 0))) x (plus-same x x (dot (λ i. whole (pos 0)) (q ∷ v)) (whole (pos 0)) refl (dot-zero (q ∷ v))) (plus-zero x)))
terms_made x z (c ∷ cs) [] e = let f : z ≡ x = cc in rw f (sym (plus-zero x))
terms_made x z (c ∷ cs) (q ∷ v) e =
    let y = bind-ok (term_added x q c) (λ y. terms_added y cs v) z e in
    let rest = dot (λ i. whole (get_or cs i (pos 0))) v in
    let head : IsSame y.x (plus x (times q (whole c))) = term_made x y.x q c y.was in
    let head' : IsSame y.x (plus x (times (whole c) q)) = same_trans y.x (plus x (times q (whole c))) (plus x (times (whole c) q)) head (plus-same x x (times q (whole c)) (times (whole c) q) refl (times_comm q (whole c))) in
    let tail : IsSame z (plus y.x rest) = terms_made y.x z cs v y.then_is in
    same_trans z (plus y.x rest) (plus x (plus (times (whole c) q) rest)) tail
    (same_trans (plus y.x rest) (plus (plus x (times (whole c) q)) rest) (plus x (plus (times (whole c) q) rest))
    (plus-same y.x (plus x (times (whole c) q)) rest rest head' refl) (plus_assoc x (times (whole c) q) rest))

pub value_made-exact : (l : Linear) (t : Fraction) (v : List Fraction) (z : Fraction) → value_made l t v ≡ Ok z → IsSame z (value_at l t v)
unfolding value_made
value_made-exact l t v z e =
    let k = whole l.constant in
    let d = dot (λ i. whole (get_or l.coefficients i (pos 0))) v in
    let x = bind-ok (terms_added (whole (pos 0)) l.coefficients v) (λ x. term_added x t l.constant) z e in
    let sum : IsSame x.x d = same_trans x.x (plus (whole (pos 0)) d) d (terms_made (whole (pos 0)) x.x l.coefficients v x.was) (zero-plus d) in
    let all : IsSame z (plus x.x (times t k)) = term_made x.x z t l.constant x.then_is in
    same_trans z (plus x.x (times t k)) (plus d (times k t)) all (plus-same x.x d (times t k) (times k t) sum (times_comm t k))

pub holds-there : (l : Linear) (t : Fraction) (v : List Fraction) (z : Fraction) → value_made l t v ≡ Ok z → pos 0 ≤ℤ z.num → HoldsAt l t v
holds-there l t v z e h = record { not_negative = nonneg-same z (value_at l t v) (value_made-exact l t v z e) h }

pub holds-back : (l : Linear) (t : Fraction) (v : List Fraction) (z : Fraction) → value_made l t v ≡ Ok z → HoldsAt l t v → pos 0 ≤ℤ z.num
holds-back l t v z e h = nonneg-same (value_at l t v) z (sym (value_made-exact l t v z e)) h.not_negative
