-- Sums over the members of a list, and one member taken out.
use Rattle.std.specs.Prelude.{◌≡◌, ℕ, false, if◌then◌else◌, pos, nat_eq, List, [], ◌∷◌, map, Contains}
use Rattle.std.specs.List.{IsDistinct}
use Rattle.std.proofs.Common.{inl, inr, refl, sym, ap, ◌∙◌, subst}
use Rattle.std.proofs.lemmas.Bool.{cases_Bool, eq-eqb}
use Rattle.std.proofs.lemmas.Map.Keys.{IsDistinct-tail}
use Rattle.q128.specs.Fraction.{Fraction, whole, plus, negative, times}
use Rattle.common_laws.proofs.Members.{contains_head, contains_tail, contains_cases, contains_none}
use Rattle.fraction_laws.proofs.Same.{Same, same, back, ◌∘◌, sums, associate, swap, regroup, none_more, no_more, share_out, share_left, take_away, opposed}
use Rattle.solver_paths.specs.Choices.{Dictionary, expressed}
use Rattle.solver_paths.proofs.Unique.{head_apart, not_equal_back}

unfoldable pub total : (ℕ → Fraction) → List ℕ → Fraction → Fraction
total f [] z = z
total f (c ∷ cs) z = plus (f c) (total f cs z)

pub expressed_total : (d : Dictionary) (cs : List ℕ) (x : ℕ → Fraction) (n : ℕ) → expressed d cs x n ≡ total (λ s. times (d.coefficient n s) (x s)) cs (d.constant n)
unfolding total
expressed_total d [] x n = refl
expressed_total d (c ∷ cs) x n = ap (λ z. plus (times (d.coefficient n c) (x c)) z) (expressed_total d cs x n)

pub total_map : (f : ℕ → Fraction) (g : ℕ → ℕ) (cs : List ℕ) (z : Fraction) → total f (map g cs) z ≡ total (λ s. f (g s)) cs z
unfolding total
total_map f g [] z = refl
total_map f g (c ∷ cs) z = ap (λ y. plus (f (g c)) y) (total_map f g cs z)

pub total_each : (f g : ℕ → Fraction) (cs : List ℕ) (z : Fraction) → ((s : ℕ) → Contains cs s → f s ≡ g s) → total f cs z ≡ total g cs z
unfolding total
total_each f g [] z e = refl
total_each f g (c ∷ cs) z e = ap (λ y. plus y (total f cs z)) (e c (contains_head c cs)) ∙ ap (λ y. plus (g c) y) (total_each f g cs z (λ s h. e s (contains_tail c cs s h)))

-- ---- one member taken out
pub rest_of : (ℕ → Fraction) → ℕ → ℕ → Fraction
rest_of f c s = if nat_eq s c then whole (pos 0) else f s

pub rest_there : (f : ℕ → Fraction) (c : ℕ) → rest_of f c c ≡ whole (pos 0)
unfolding rest_of
rest_there f c = ap (λ b. if b then whole (pos 0) else f c) (eq-eqb c c refl)

pub rest_past : (f : ℕ → Fraction) (c s : ℕ) → nat_eq s c ≡ false → rest_of f c s ≡ f s
unfolding rest_of
rest_past f c s e = ap (λ b. if b then whole (pos 0) else f s) e

-- what holds of 0 and of other numbers holds of the rest, for sums side by side
pub by_both : (P : Fraction → Fraction → Type 0) (f g : ℕ → Fraction) (c s : ℕ) → P (whole (pos 0)) (whole (pos 0)) → (nat_eq s c ≡ false → P (f s) (g s)) → P (rest_of f c s) (rest_of g c s)
unfolding rest_of
by_both P f g c s none some = elim (cases_Bool (nat_eq s c)) [
  | inl e ↦ subst (λ b. P (if b then whole (pos 0) else f s) (if b then whole (pos 0) else g s)) (sym e) none
  | inr e ↦ subst (λ b. P (if b then whole (pos 0) else f s) (if b then whole (pos 0) else g s)) (sym e) (some e)
]

pub by_three : (P : Fraction → Fraction → Fraction → Type 0) (f g h : ℕ → Fraction) (c s : ℕ) → P (whole (pos 0)) (whole (pos 0)) (whole (pos 0)) → (nat_eq s c ≡ false → P (f s) (g s) (h s)) → P (rest_of f c s) (rest_of g c s) (rest_of h c s)
unfolding rest_of
by_three P f g h c s none some = elim (cases_Bool (nat_eq s c)) [
  | inl e ↦ subst (λ b. P (if b then whole (pos 0) else f s) (if b then whole (pos 0) else g s) (if b then whole (pos 0) else h s)) (sym e) none
  | inr e ↦ subst (λ b. P (if b then whole (pos 0) else f s) (if b then whole (pos 0) else g s) (if b then whole (pos 0) else h s)) (sym e) (some e)
]

pub rest_each : (f g : ℕ → Fraction) (c s : ℕ) → (nat_eq s c ≡ false → f s ≡ g s) → rest_of f c s ≡ rest_of g c s
unfolding rest_of
rest_each f g c s e = elim (cases_Bool (nat_eq s c)) [
  | inl at ↦ ap (λ b. if b then whole (pos 0) else f s) at ∙ sym (ap (λ b. if b then whole (pos 0) else g s) at)
  | inr past ↦ ap (λ b. if b then whole (pos 0) else f s) past ∙ e past ∙ sym (ap (λ b. if b then whole (pos 0) else g s) past)
]

past_two : (a b x : Fraction) → Same (plus a (plus b x)) (plus b (plus a x))
past_two a b x = back (associate a b x) ∘ sums (swap a b) same ∘ associate b a x

pub taken : (f : ℕ → Fraction) (cs : List ℕ) (c : ℕ) (z : Fraction) → IsDistinct nat_eq cs → Contains cs c → Same (total f cs z) (plus (f c) (total (rest_of f c) cs z))
unfolding total
taken f [] c z distinct there = absurd (contains_none c there)
taken f (e ∷ cs) c z distinct there = elim (contains_cases e cs c there) [
  | inl is ↦
      let others : total (rest_of f e) cs z ≡ total f cs z = total_each (rest_of f e) f cs z (λ s h. rest_past f e s (not_equal_back e s (head_apart e cs distinct s h))) in
      let here : Same (plus (rest_of f e e) (total (rest_of f e) cs z)) (total f cs z) =
      subst (λ y. Same (plus y (total (rest_of f e) cs z)) (total f cs z)) (sym (rest_there f e))
      (subst (λ y. Same (plus (whole (pos 0)) y) (total f cs z)) (sym others) (none_more (total f cs z))) in
      subst (λ u. Same (plus (f e) (total f cs z)) (plus (f u) (plus (rest_of f u e) (total (rest_of f u) cs z)))) is (sums same (back here))
  | inr later ↦
      let past : rest_of f c e ≡ f e = rest_past f c e (head_apart e cs distinct c later) in
      subst (λ y. Same (plus (f e) (total f cs z)) (plus (f c) (plus y (total (rest_of f c) cs z)))) (sym past)
      (sums same (taken f cs c z (IsDistinct-tail nat_eq e cs distinct) later) ∘ past_two (f e) (f c) (total (rest_of f c) cs z))
]

-- ---- sums term by term
negative_sum : (a b : Fraction) → Same (plus (negative a) (negative b)) (negative (plus a b))
negative_sum a b =
    let ends : Same (plus (plus (negative a) (negative b)) (plus a b)) (whole (pos 0)) =
    regroup (negative a) (negative b) a b ∘ sums (swap (negative a) a ∘ opposed a) (swap (negative b) b ∘ opposed b) ∘ no_more (whole (pos 0)) in
    take_away (plus a b) (ends ∘ back (opposed (plus a b)) ∘ swap (plus a b) (negative (plus a b)))

pub total_opposed : (f g : ℕ → Fraction) (cs : List ℕ) (z w k : Fraction) → ((s : ℕ) → Contains cs s → Same (times (f s) k) (negative (g s))) → Same (times z k) (negative w) → Same (times (total f cs z) k) (negative (total g cs w))
unfolding total
total_opposed f g [] z w k each last = last
total_opposed f g (c ∷ cs) z w k each last =
    share_left (f c) (total f cs z) k ∘ sums (each c (contains_head c cs)) (total_opposed f g cs z w k (λ s h. each s (contains_tail c cs s h)) last) ∘ negative_sum (g c) (total g cs w)

pub total_rests : (f g h : ℕ → Fraction) (cs : List ℕ) (z w v m : Fraction) → ((s : ℕ) → Contains cs s → Same (plus (f s) (times m (g s))) (h s)) → Same (plus z (times m w)) v → Same (plus (total f cs z) (times m (total g cs w))) (total h cs v)
unfolding total
total_rests f g h [] z w v m each last = last
total_rests f g h (c ∷ cs) z w v m each last =
    sums same (share_out m (g c) (total g cs w)) ∘ regroup (f c) (total f cs z) (times m (g c)) (times m (total g cs w)) ∘ sums (each c (contains_head c cs)) (total_rests f g h cs z w v m (λ s t. each s (contains_tail c cs s t)) last)
