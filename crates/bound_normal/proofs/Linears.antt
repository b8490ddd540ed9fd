-- Texts tell expressions apart.
use Rattle.std.proofs.Common.{ℕ, ◌≡◌, ◌<◌, ◌^◌, ◌==◌, Bool, true, false, List, [], ◌∷◌, ◌++◌, length, decimal, codes, refl, sym, ◌∙◌, ap, subst, arith}
use Rattle.std.specs.Prelude.{All, if◌then◌else◌}
use Rattle.std.specs.List.{flat_map}
use Rattle.std.specs.Str.Parse.{AllDigits}
use Rattle.std.specs.Char.{digit_value}
use Rattle.std.proofs.lemmas.Bool.{eqb-true}
use Rattle.std.proofs.lemmas.Fmt.{decimal_digit}
use Rattle.std.proofs.lemmas.List.{append_assoc, append_cancel_right, length-append}
use Rattle.std.proofs.lemmas.List.Elements.{All-head, All-tail}
use Rattle.bound_terms.specs.Texts.{times_text, later_part, signed_sum}
use Rattle.bound_normal.proofs.Digits.{heads, tails, all_digits, some_digit, same_number, Without, until, digits_without, without-append, IsTail, to_space}

-- ---- a number of times a size
abbrev pub front_by : Bool → ℕ → List ℕ
front_by b k = if b then [] else decimal k ++ codes "*"

pub times_split : (k v : ℕ) → times_text k v ≡ front_by (k == 1) k ++ 97 ∷ decimal v
times_split k v = append_assoc (front_by (k == 1) k) (codes "a") (decimal v)

front_without : (b : Bool) (k : ℕ) → k < 2 ^ 128 → Without 97 (front_by b k)
front_without true k h = tt
front_without false k h = without-append 97 (decimal k) (codes "*") (digits_without 97 (decimal k) (λ d. absurd (omega (arith, d))) (all_digits k h)) (λ e. absurd (omega (arith, e)), tt)

none_pushed : (u : List ℕ) (c : ℕ) → [] ≡ u ++ c ∷ [] → ⊥
none_pushed [] c e = absurd (cc)
none_pushed (x ∷ u) c e = absurd (cc)

front_reads : (b c : Bool) (j k : ℕ) → (j == 1) ≡ b → (k == 1) ≡ c → j < 2 ^ 128 → k < 2 ^ 128 → front_by b j ≡ front_by c k → j ≡ k
front_reads true true j k x y h g e = eqb-true j 1 x ∙ sym (eqb-true k 1 y)
front_reads true false j k x y h g e = absurd (none_pushed (decimal k) 42 e)
front_reads false true j k x y h g e = absurd (none_pushed (decimal j) 42 (sym e))
front_reads false false j k x y h g e = same_number j k h g (append_cancel_right (decimal j) (decimal k) (codes "*") e)

pub times_reads : (j v k w : ℕ) → j < 2 ^ 128 → v < 2 ^ 128 → k < 2 ^ 128 → w < 2 ^ 128 → times_text j v ≡ times_text k w → (j ≡ k) × (v ≡ w)
times_reads j v k w a b c d e =
    let x = until 97 (front_by (j == 1) j) (front_by (k == 1) k) (decimal v) (decimal w) (front_without (j == 1) j a) (front_without (k == 1) k c) (sym (times_split j v) ∙ e ∙ times_split k w) in
    (front_reads (j == 1) (k == 1) j k refl refl a c x.0, same_number v w b d x.1)

-- ---- parts of a sum
abbrev pub Opens : List ℕ → Type 0
Opens [] = ⊥
Opens (x ∷ xs) = (x ≡ 45 → ⊥) × (x ∷ xs ≡ 48 ∷ [] → ⊥)

pub record IsPartText (t : List ℕ) : Type 0 where
  pub one : Without 32 t
  pub opens : Opens t

digits_open : (u : List ℕ) → 0 < length u → AllDigits 10 u → (u ≡ 48 ∷ [] → ⊥) → Opens u
digits_open [] h a n = absurd (omega (arith, h))
digits_open (x ∷ u) h a n = (λ e. absurd (omega (arith, subst (λ k. digit_value k < 10) e a.0)), n)

pub number_part : (k : ℕ) → k < 2 ^ 128 → (k ≡ 0 → ⊥) → IsPartText (decimal k)
number_part k h some = record {
  one = digits_without 32 (decimal k) (λ d. absurd (omega (arith, d))) (all_digits k h);
  opens = digits_open (decimal k) (some_digit k h) (all_digits k h) (λ e. some (same_number k 0 h (omega arith) (e ∙ sym (decimal_digit 0 (omega arith)))));
}

opens-append : (u v : List ℕ) → 0 < length u → 0 < length v → AllDigits 10 u → Opens (u ++ v)
opens-append [] v h g a = absurd (omega (arith, h))
opens-append (x ∷ u) v h g a = (λ e. absurd (omega (arith, subst (λ k. digit_value k < 10) e a.0)), λ e. absurd (omega (arith, ap length e, length-append u v, g)))

times_opens : (b : Bool) (k v : ℕ) → k < 2 ^ 128 → v < 2 ^ 128 → Opens (front_by b k ++ 97 ∷ decimal v)
times_opens true k v h g = (λ e. absurd (omega (arith, e)), λ e. absurd (omega (arith, heads e)))
times_opens false k v h g = subst Opens (sym (append_assoc (decimal k) (codes "*") (97 ∷ decimal v))) (opens-append (decimal k) (42 ∷ 97 ∷ decimal v) (some_digit k h) (omega arith) (all_digits k h))

front_spaceless : (b : Bool) (k : ℕ) → k < 2 ^ 128 → Without 32 (front_by b k)
front_spaceless true k h = tt
front_spaceless false k h = without-append 32 (decimal k) (codes "*") (digits_without 32 (decimal k) (λ d. absurd (omega (arith, d))) (all_digits k h)) (λ e. absurd (omega (arith, e)), tt)

pub times_part : (k v : ℕ) → k < 2 ^ 128 → v < 2 ^ 128 → IsPartText (times_text k v)
times_part k v h g =
    let digits : Without 32 (decimal v) = digits_without 32 (decimal v) (λ d. absurd (omega (arith, d))) (all_digits v g) in
    subst IsPartText (sym (times_split k v)) (record { one = without-append 32 (front_by (k == 1) k) (97 ∷ decimal v) (front_spaceless (k == 1) k h) (λ e. absurd (omega (arith, e)), digits); opens = times_opens (k == 1) k v h g })

-- ---- sums
abbrev pub AreParts : List (Bool × List ℕ) → Type 0
AreParts ps = All (λ p. IsPartText p.1) ps

later_is_tail : (ps : List (Bool × List ℕ)) → IsTail (flat_map later_part ps)
later_is_tail [] = tt
later_is_tail ((true, t) ∷ ps) = refl
later_is_tail ((false, t) ∷ ps) = refl

pair_is : (a b : Bool) (t u : List ℕ) (ps qs : List (Bool × List ℕ)) → a ≡ b → t ≡ u → ps ≡ qs → (a, t) ∷ ps ≡ (b, u) ∷ qs
pair_is a b t u ps qs e f g = ap (λ x. (x, t) ∷ ps) e ∙ ap (λ x. (b, x) ∷ ps) f ∙ ap (λ x. (b, u) ∷ x) g

texts_read : (a b : Bool) (t u : List ℕ) (ps qs : List (Bool × List ℕ)) → AreParts ((a, t) ∷ ps) → AreParts ((b, u) ∷ qs) → a ≡ b → t ++ flat_map later_part ps ≡ u ++ flat_map later_part qs
    → (flat_map later_part ps ≡ flat_map later_part qs → ps ≡ qs) → (a, t) ∷ ps ≡ (b, u) ∷ qs
texts_read a b t u ps qs h g e f later =
    let w = to_space t u (flat_map later_part ps) (flat_map later_part qs) (All-head (λ (p : Bool × List ℕ). IsPartText p.1) (a, t) ps h).one (All-head (λ (p : Bool × List ℕ). IsPartText p.1) (b, u) qs g).one (later_is_tail ps) (later_is_tail qs) f in
    pair_is a b t u ps qs e w.0 (later w.1)

later_reads : (ps qs : List (Bool × List ℕ)) → AreParts ps → AreParts qs → flat_map later_part ps ≡ flat_map later_part qs → ps ≡ qs
later_reads [] [] h g e = refl
later_reads [] ((true, u) ∷ qs) h g e = absurd (cc)
later_reads [] ((false, u) ∷ qs) h g e = absurd (cc)
later_reads ((true, t) ∷ ps) [] h g e = absurd (cc)
later_reads ((false, t) ∷ ps) [] h g e = absurd (cc)
later_reads ((true, t) ∷ ps) ((true, u) ∷ qs) h g e =
    texts_read true true t u ps qs h g refl (tails (tails (tails e))) (later_reads ps qs (All-tail (λ (p : Bool × List ℕ). IsPartText p.1) (true, t) ps h) (All-tail (λ (p : Bool × List ℕ). IsPartText p.1) (true, u) qs g))
later_reads ((true, t) ∷ ps) ((false, u) ∷ qs) h g e = absurd (omega (arith, heads (tails e)))
later_reads ((false, t) ∷ ps) ((true, u) ∷ qs) h g e = absurd (omega (arith, heads (tails e)))
later_reads ((false, t) ∷ ps) ((false, u) ∷ qs) h g e =
    texts_read false false t u ps qs h g refl (tails (tails (tails e))) (later_reads ps qs (All-tail (λ (p : Bool × List ℕ). IsPartText p.1) (false, t) ps h) (All-tail (λ (p : Bool × List ℕ). IsPartText p.1) (false, u) qs g))

minus_no : (u r s : List ℕ) → Opens u → 45 ∷ r ≡ u ++ s → ⊥
minus_no [] r s o e = o
minus_no (x ∷ u) r s o e = o.0 (sym (heads e))

nil_both : (u v : List ℕ) → [] ≡ u ++ v → u ≡ []
nil_both [] v e = refl
nil_both (x ∷ u) v e = absurd (cc)

zero_no : (u s : List ℕ) → Opens u → 48 ∷ [] ≡ u ++ s → ⊥
zero_no [] s o e = o
zero_no (x ∷ u) s o e = o.1 (ap (λ h. h ∷ u) (sym (heads e)) ∙ ap (λ t. 48 ∷ t) (nil_both u s (tails e)))

pub signed_reads : (ps qs : List (Bool × List ℕ)) → AreParts ps → AreParts qs → signed_sum ps ≡ signed_sum qs → ps ≡ qs
signed_reads [] [] h g e = refl
signed_reads [] ((true, u) ∷ qs) h g e = absurd (omega (arith, heads e))
signed_reads [] ((false, u) ∷ qs) h g e = absurd (zero_no u (flat_map later_part qs) (All-head (λ (p : Bool × List ℕ). IsPartText p.1) (false, u) qs g).opens e)
signed_reads ((true, t) ∷ ps) [] h g e = absurd (omega (arith, heads e))
signed_reads ((false, t) ∷ ps) [] h g e = absurd (zero_no t (flat_map later_part ps) (All-head (λ (p : Bool × List ℕ). IsPartText p.1) (false, t) ps h).opens (sym e))
signed_reads ((true, t) ∷ ps) ((true, u) ∷ qs) h g e =
    texts_read true true t u ps qs h g refl (tails e) (later_reads ps qs (All-tail (λ (p : Bool × List ℕ). IsPartText p.1) (true, t) ps h) (All-tail (λ (p : Bool × List ℕ). IsPartText p.1) (true, u) qs g))
signed_reads ((true, t) ∷ ps) ((false, u) ∷ qs) h g e = absurd (minus_no u (t ++ flat_map later_part ps) (flat_map later_part qs) (All-head (λ (p : Bool × List ℕ). IsPartText p.1) (false, u) qs g).opens e)
signed_reads ((false, t) ∷ ps) ((true, u) ∷ qs) h g e = absurd (minus_no t (u ++ flat_map later_part qs) (flat_map later_part ps) (All-head (λ (p : Bool × List ℕ). IsPartText p.1) (false, t) ps h).opens (sym e))
signed_reads ((false, t) ∷ ps) ((false, u) ∷ qs) h g e =
    texts_read false false t u ps qs h g refl e (later_reads ps qs (All-tail (λ (p : Bool × List ℕ). IsPartText p.1) (false, t) ps h) (All-tail (λ (p : Bool × List ℕ). IsPartText p.1) (false, u) qs g))
