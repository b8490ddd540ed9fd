-- Laws of `dot`.
use Rattle.std.specs.Prelude.{ℕ, zero, suc, pos, List, [], ◌∷◌}
use Rattle.std.proofs.Common.{refl, sym}
use Rattle.q128.specs.Fraction.{Fraction, whole, IsSame, plus, times}
use Rattle.q128.proofs.Field.{same_trans, plus-same, times-same, times_assoc, times_plus, plus_times, times-zero, zero-times, plus-zero, plus_swap}
use Rattle.lin_rows.specs.Points.{dot}

pub dot-same : (f g : ℕ → Fraction) (v : List Fraction) → ((i : ℕ) → IsSame (f i) (g i)) → IsSame (dot f v) (dot g v)
dot-same f g [] e = refl
dot-same f g (q ∷ v) e =
    plus-same (times (f zero) q) (times (g zero) q) (dot (λ i. f (suc i)) v) (dot (λ i. g (suc i)) v)
    (times-same (f zero) (g zero) q q (e zero) refl) (dot-same (λ i. f (suc i)) (λ i. g (suc i)) v (λ i. e (suc i)))

pub dot-zero : (v : List Fraction) → IsSame (dot (λ i. whole (pos 0)) v) (whole (pos 0))
dot-zero [] = refl
dot-zero (q ∷ v) =
    same_trans (plus (times (whole (pos 0)) q) (dot (λ i. whole (pos 0)) v)) (plus (whole (pos 0)) (whole (pos 0))) (whole (pos 0))
    (plus-same (times (whole (pos 0)) q) (whole (pos 0)) (dot (λ i. whole (pos 0)) v) (whole (pos 0)) (zero-times q) (dot-zero v)) (plus-zero (whole (pos 0)))

pub dot-plus : (f g : ℕ → Fraction) (v : List Fraction) → IsSame (dot (λ i. plus (f i) (g i)) v) (plus (dot f v) (dot g v))
dot-plus f g [] = sym (plus-zero (whole (pos 0)))
dot-plus f g (q ∷ v) =
    let F = dot (λ i. f (suc i)) v in
    let G = dot (λ i. g (suc i)) v in
    let both = dot (λ i. plus (f (suc i)) (g (suc i))) v in
    let a = times (f zero) q in
    let b = times (g zero) q in
    same_trans (plus (times (plus (f zero) (g zero)) q) both) (plus (plus a b) (plus F G)) (plus (plus a F) (plus b G))
    (plus-same (times (plus (f zero) (g zero)) q) (plus a b) both (plus F G) (plus_times (f zero) (g zero) q) (dot-plus (λ i. f (suc i)) (λ i. g (suc i)) v))
    (plus_swap a b F G)

pub dot-times : (p : Fraction) (f : ℕ → Fraction) (v : List Fraction) → IsSame (dot (λ i. times p (f i)) v) (times p (dot f v))
dot-times p f [] = sym (times-zero p)
dot-times p f (q ∷ v) =
    let F = dot (λ i. f (suc i)) v in
    let P = dot (λ i. times p (f (suc i))) v in
    same_trans (plus (times (times p (f zero)) q) P) (plus (times p (times (f zero) q)) (times p F)) (times p (plus (times (f zero) q) F))
    (plus-same (times (times p (f zero)) q) (times p (times (f zero) q)) P (times p F) (times_assoc p (f zero) q) (dot-times p (λ i. f (suc i)) v))
    (sym (times_plus p (times (f zero) q) F))
