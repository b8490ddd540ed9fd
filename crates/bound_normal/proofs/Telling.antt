-- Texts tell normal forms apart.
use Rattle.std.proofs.Common.{ℕ, ◌≡◌, ◌<◌, ◌≤◌, ◌^◌, ◌==◌, Bool, true, false, List, [], ◌∷◌, ◌++◌, length, map, decimal, codes, refl, sym, ◌∙◌, ap, subst, arith}
use Rattle.std.specs.List.{flat_map}
use Rattle.std.specs.Char.{digit_value}
use Rattle.std.specs.Str.Parse.{AllDigits}
use Rattle.std.proofs.lemmas.Bool.{eqb-true}
use Rattle.std.proofs.lemmas.Fmt.{decimal_digit}
use Rattle.std.proofs.lemmas.List.{append_assoc, append_cancel_left}
use Rattle.bound_terms.specs.Terms.{Floored, Term, Number, Floor, Total, Product, Greatest, Power, Geometric, Terms, none, more}
use Rattle.bound_terms.specs.Texts.{floored_text, joined, total_text, is_left_out, product_text, text_of, texts_of}
use Rattle.bound_forms.specs.Monomials.{atom_key}
use Rattle.bound_forms.specs.Maxima.{listed, form_of}
use Rattle.bound_forms.specs.Limits.{past_limit}
use Rattle.bound_forms.specs.Normal.{IsLowest, IsRaised, IsFlat, IsNormal, AreNormal, AreMonomials, IsProduct, IsScaled, AreAtoms, IsAtom}
use Rattle.bound_normal.proofs.Digits.{heads, tails, all_digits, some_digit, NoDigit, number_reads}
use Rattle.bound_normal.proofs.Expressions.{well, floored_by, floored_reads}

-- ---- what may follow a text
abbrev pub Anything : List ℕ → Type 0
Anything r = Unit {0}

abbrev pub NoStar : List ℕ → Type 0
NoStar [] = Unit {0}
NoStar (c ∷ r) = c ≡ 42 → ⊥

-- a monomial: neither a digit nor a star
abbrev pub Stops : List ℕ → Type 0
Stops [] = Unit {0}
Stops (c ∷ r) = (digit_value c < 10 → ⊥) × (c ≡ 42 → ⊥)

-- a sum: no space either
abbrev pub Closes : List ℕ → Type 0
Closes [] = Unit {0}
Closes (c ∷ r) = (digit_value c < 10 → ⊥) × (c ≡ 42 → ⊥) × (c ≡ 32 → ⊥)

-- the operands of a maximum: the bracket
abbrev pub Shut : List ℕ → Type 0
Shut [] = ⊥
Shut (c ∷ r) = c ≡ 41

no_star : (r : List ℕ) → Stops r → NoStar r
no_star [] h = tt
no_star (c ∷ r) h = h.1

stops_digit : (r : List ℕ) → Stops r → NoDigit r
stops_digit [] h = tt
stops_digit (c ∷ r) h = h.0

closes_stops : (r : List ℕ) → Closes r → Stops r
closes_stops [] h = tt
closes_stops (c ∷ r) h = (h.0, h.1)

shut_closes : (r : List ℕ) → Shut r → Closes r
shut_closes [] h = absurd h
shut_closes (c ∷ r) h = (λ d. absurd (omega (arith, subst (λ k. digit_value k < 10) h d)), λ e. absurd (omega (arith, h, e)), λ e. absurd (omega (arith, h, e)))

-- ---- terms that are told by their texts
abbrev pub Reads : (Term → Type 0) → (List ℕ → Type 0) → Term → Type 0
Reads P R t = (u : Term) → P u → (r s : List ℕ) → R r → R s → text_of t ++ r ≡ text_of u ++ s → (t ≡ u) × (r ≡ s)

abbrev pub EachTerm : (Term → Type 0) → Terms → Type 0
EachTerm Q none = Unit {0}
EachTerm Q (more t ts) = Q t × EachTerm Q ts

each_atom : (ts : Terms) → AreAtoms ts → EachTerm IsAtom ts
each_atom none h = tt
each_atom (more t ts) h = (h.0, each_atom ts h.1)

each_product : (ts : Terms) → AreMonomials ts → EachTerm IsProduct ts
each_product none h = tt
each_product (more t ts) h = (h.0, each_product ts h.1)

each_normal : (ts : Terms) → AreNormal ts → EachTerm IsNormal ts
each_normal none h = tt
each_normal (more t ts) h = (h.0, each_normal ts h.1)

-- ---- texts behind a separator, which begins with c
abbrev behind_text : List ℕ → Terms → List ℕ
behind_text sep ts = flat_map (λ y. sep ++ y) (texts_of ts)

record IsBetween (c : ℕ) (R E : List ℕ → Type 0) : Type 0 where
  between : (x : List ℕ) → R (c ∷ x)
  last : (x : List ℕ) → E x → R x
  ends : (x : List ℕ) → E (c ∷ x) → ⊥

goes_on : (c : ℕ) (rest : List ℕ) (R E : List ℕ → Type 0) → IsBetween c R E → (ts : Terms) (r : List ℕ) → E r → R (behind_text (c ∷ rest) ts ++ r)
goes_on c rest R E k none r e = k.last r e
goes_on c rest R E k (more t ts) r e = k.between (((rest ++ text_of t) ++ behind_text (c ∷ rest) ts) ++ r)

front_splits : (rest t b r : List ℕ) → ((rest ++ t) ++ b) ++ r ≡ rest ++ (t ++ (b ++ r))
front_splits rest t b r = append_assoc (rest ++ t) b r ∙ append_assoc rest t (b ++ r)

none_follows : (c : ℕ) (R E : List ℕ → Type 0) → IsBetween c R E → (r x : List ℕ) → E r → r ≡ c ∷ x → ⊥
none_follows c R E k r x h e = k.ends x (subst E e h)

behind_reads : (c : ℕ) (rest : List ℕ) (P : Term → Type 0) (R E : List ℕ → Type 0) → IsBetween c R E → (ts us : Terms) → EachTerm (Reads P R) ts → EachTerm P us → (r s : List ℕ) → E r → E s
    → behind_text (c ∷ rest) ts ++ r ≡ behind_text (c ∷ rest) us ++ s → (ts ≡ us) × (r ≡ s)
behind_reads c rest P R E k none none h g r s x y e = (refl, e)
behind_reads c rest P R E k none (more u us) h g r s x y e = absurd (none_follows c R E k r (((rest ++ text_of u) ++ behind_text (c ∷ rest) us) ++ s) x e)
behind_reads c rest P R E k (more t ts) none h g r s x y e = absurd (none_follows c R E k s (((rest ++ text_of t) ++ behind_text (c ∷ rest) ts) ++ r) y (sym e))
behind_reads c rest P R E k (more t ts) (more u us) h g r s x y e =
    let a = behind_text (c ∷ rest) ts in
    let b = behind_text (c ∷ rest) us in
    let f = append_cancel_left rest (text_of t ++ (a ++ r)) (text_of u ++ (b ++ s)) (sym (front_splits rest (text_of t) a r) ∙ tails e ∙ front_splits rest (text_of u) b s) in
    let w = h.0 u g.0 (a ++ r) (b ++ s) (goes_on c rest R E k ts r x) (goes_on c rest R E k us s y) f in
    let v = behind_reads c rest P R E k ts us h.1 g.1 r s x y w.1 in
    (ap (λ z. more z ts) w.0 ∙ ap (λ zs. more u zs) v.0, v.1)

-- ---- atoms without operands
not_floor : (b : Bool) (n : Floored) (r : List ℕ) (c : ℕ) (x : List ℕ) → (c ≡ 110 → ⊥) → (c ≡ 40 → ⊥) → floored_by b n ++ r ≡ c ∷ x → ⊥
not_floor true n r c x h g e = h (sym (heads e))
not_floor false n r c x h g e = g (sym (heads e))

raised_splits : (d f r : List ℕ) → (((d ++ 44 ∷ []) ++ f) ++ 41 ∷ []) ++ r ≡ d ++ 44 ∷ (f ++ 41 ∷ r)
raised_splits d f r = append_assoc ((d ++ 44 ∷ []) ++ f) (41 ∷ []) r ∙ append_assoc (d ++ 44 ∷ []) f (41 ∷ r) ∙ append_assoc d (44 ∷ []) (f ++ 41 ∷ r)

no_comma : (x : List ℕ) → NoDigit (44 ∷ x)
no_comma x d = absurd (omega (arith, d))

raised_reads : (b c : ℕ) (n m : Floored) (r s : List ℕ) → IsRaised b n → IsRaised c m → (((decimal b ++ 44 ∷ []) ++ floored_text n) ++ 41 ∷ []) ++ r ≡ (((decimal c ++ 44 ∷ []) ++ floored_text m) ++ 41 ∷ []) ++ s → (b ≡ c) × (n ≡ m) × (r ≡ s)
raised_reads b c n m r s h g e =
    let x = floored_text n ++ 41 ∷ r in
    let y = floored_text m ++ 41 ∷ s in
    let w = number_reads b c (44 ∷ x) (44 ∷ y) h.held g.held (no_comma x) (no_comma y) (sym (raised_splits (decimal b) (floored_text n) r) ∙ e ∙ raised_splits (decimal c) (floored_text m) s) in
    let f = floored_reads n m (41 ∷ r) (41 ∷ s) (well n h.exponent) (well m g.exponent) (tails w.1) in
    (w.0, f.0, tails f.1)

floor_reads : (n : Floored) → IsLowest n → Reads IsAtom Anything (Floor n)
floor_reads n h (Number k) g r s x y e = absurd g
floor_reads n h (Floor m) g r s x y e = let w = floored_reads n m r s (well n h) (well m g) e in (ap Floor w.0, w.1)
floor_reads n h (Total us) g r s x y e = absurd g
floor_reads n h (Product us) g r s x y e = absurd g
floor_reads n h (Greatest us) g r s x y e = absurd (not_floor (n.divisor == 1) n r 109 (97 ∷ 120 ∷ 40 ∷ ((joined (codes ",") (texts_of us) ++ 41 ∷ []) ++ s)) (λ z. absurd (omega (arith, z))) (λ z. absurd (omega (arith, z))) e)
floor_reads n h (Power c m) g r s x y e = absurd (not_floor (n.divisor == 1) n r 112 (111 ∷ 119 ∷ 40 ∷ ((((decimal c ++ 44 ∷ []) ++ floored_text m) ++ 41 ∷ []) ++ s)) (λ z. absurd (omega (arith, z))) (λ z. absurd (omega (arith, z))) e)
floor_reads n h (Geometric c m) g r s x y e = absurd (not_floor (n.divisor == 1) n r 103 (101 ∷ 111 ∷ 40 ∷ ((((decimal c ++ 44 ∷ []) ++ floored_text m) ++ 41 ∷ []) ++ s)) (λ z. absurd (omega (arith, z))) (λ z. absurd (omega (arith, z))) e)

power_reads : (b : ℕ) (n : Floored) → IsRaised b n → Reads IsAtom Anything (Power b n)
power_reads b n h (Number k) g r s x y e = absurd g
power_reads b n h (Floor m) g r s x y e = absurd (not_floor (m.divisor == 1) m s 112 (111 ∷ 119 ∷ 40 ∷ ((((decimal b ++ 44 ∷ []) ++ floored_text n) ++ 41 ∷ []) ++ r)) (λ z. absurd (omega (arith, z))) (λ z. absurd (omega (arith, z))) (sym e))
power_reads b n h (Total us) g r s x y e = absurd g
power_reads b n h (Product us) g r s x y e = absurd g
power_reads b n h (Greatest us) g r s x y e = absurd (omega (arith, heads e))
power_reads b n h (Power c m) g r s x y e = let w = raised_reads b c n m r s h g (tails (tails (tails (tails e)))) in (ap (λ z. Power z n) w.0 ∙ ap (Power c) w.1, w.2)
power_reads b n h (Geometric c m) g r s x y e = absurd (omega (arith, heads e))

geometric_reads : (b : ℕ) (n : Floored) → IsRaised b n → Reads IsAtom Anything (Geometric b n)
geometric_reads b n h (Number k) g r s x y e = absurd g
geometric_reads b n h (Floor m) g r s x y e = absurd (not_floor (m.divisor == 1) m s 103 (101 ∷ 111 ∷ 40 ∷ ((((decimal b ++ 44 ∷ []) ++ floored_text n) ++ 41 ∷ []) ++ r)) (λ z. absurd (omega (arith, z))) (λ z. absurd (omega (arith, z))) (sym e))
geometric_reads b n h (Total us) g r s x y e = absurd g
geometric_reads b n h (Product us) g r s x y e = absurd g
geometric_reads b n h (Greatest us) g r s x y e = absurd (omega (arith, heads e))
geometric_reads b n h (Power c m) g r s x y e = absurd (omega (arith, heads e))
geometric_reads b n h (Geometric c m) g r s x y e = let w = raised_reads b c n m r s h g (tails (tails (tails (tails e)))) in (ap (λ z. Geometric z n) w.0 ∙ ap (Geometric c) w.1, w.2)

-- ---- maxima
comma : IsBetween 44 Closes Shut
comma = record {
  between = λ x. (λ d. absurd (omega (arith, d)), λ e. absurd (omega (arith, e)), λ e. absurd (omega (arith, e)));
  last = shut_closes;
  ends = λ x e. absurd (omega (arith, e));
}

operands_read : (ts us : Terms) → IsFlat (map form_of (listed ts)) → IsFlat (map form_of (listed us)) → EachTerm (Reads IsNormal Closes) ts → EachTerm IsNormal us → (r s : List ℕ)
    → (joined (codes ",") (texts_of ts) ++ 41 ∷ []) ++ r ≡ (joined (codes ",") (texts_of us) ++ 41 ∷ []) ++ s → (ts ≡ us) × (r ≡ s)
operands_read none us f k h g r s e = absurd (omega (arith, f.several))
operands_read (more t ts) none f k h g r s e = absurd (omega (arith, k.several))
operands_read (more t ts) (more u us) f k h g r s e =
    let a = behind_text (44 ∷ []) ts in
    let b = behind_text (44 ∷ []) us in
    let w = h.0 u g.0 (a ++ 41 ∷ r) (b ++ 41 ∷ s) (goes_on 44 [] Closes Shut comma ts (41 ∷ r) refl) (goes_on 44 [] Closes Shut comma us (41 ∷ s) refl)
    (sym (front_splits (text_of t) a (41 ∷ []) r) ∙ e ∙ front_splits (text_of u) b (41 ∷ []) s) in
    let v = behind_reads 44 [] IsNormal Closes Shut comma ts us h.1 g.1 (41 ∷ r) (41 ∷ s) refl refl w.1 in
    (ap (λ z. more z ts) w.0 ∙ ap (λ zs. more u zs) v.0, tails v.1)

greatest_reads : (ts : Terms) → IsFlat (map form_of (listed ts)) → EachTerm (Reads IsNormal Closes) ts → Reads IsAtom Anything (Greatest ts)
greatest_reads ts f h (Number k) g r s x y e = absurd g
greatest_reads ts f h (Floor m) g r s x y e = absurd (not_floor (m.divisor == 1) m s 109 (97 ∷ 120 ∷ 40 ∷ ((joined (codes ",") (texts_of ts) ++ 41 ∷ []) ++ r)) (λ z. absurd (omega (arith, z))) (λ z. absurd (omega (arith, z))) (sym e))
greatest_reads ts f h (Total us) g r s x y e = absurd g
greatest_reads ts f h (Product us) g r s x y e = absurd g
greatest_reads ts f h (Greatest us) g r s x y e = let w = operands_read ts us f g.1 h (each_normal us g.0) r s (tails (tails (tails (tails e)))) in (ap Greatest w.0, w.1)
greatest_reads ts f h (Power c m) g r s x y e = absurd (omega (arith, heads e))
greatest_reads ts f h (Geometric c m) g r s x y e = absurd (omega (arith, heads e))

-- ---- monomials
star : IsBetween 42 Anything NoStar
star = record { between = λ x. tt; last = λ x h. tt; ends = λ x h. h refl }

no_digits : (u y : List ℕ) → 0 < length u → AllDigits 10 u → NoDigit (u ++ y) → ⊥
no_digits [] y h a n = omega (arith, h)
no_digits (c ∷ u) y h a n = n a.0

floor_opens : (b : Bool) (n : Floored) (r : List ℕ) → NoDigit (floored_by b n ++ r)
floor_opens true n r = λ d. omega (arith, d)
floor_opens false n r = λ d. omega (arith, d)

atom_opens : (t : Term) → IsAtom t → (r : List ℕ) → NoDigit (text_of t ++ r)
atom_opens (Number k) h r = absurd h
atom_opens (Floor n) h r = floor_opens (n.divisor == 1) n r
atom_opens (Total ts) h r = absurd h
atom_opens (Product ts) h r = absurd h
atom_opens (Greatest ts) h r = λ d. omega (arith, d)
atom_opens (Power b n) h r = λ d. omega (arith, d)
atom_opens (Geometric b n) h r = λ d. omega (arith, d)

-- an atom's text isn't a number's
no_number : (t : Term) → IsAtom t → (x : List ℕ) (d : ℕ) (y : List ℕ) → d < 2 ^ 128 → text_of t ++ x ≡ decimal d ++ y → ⊥
no_number t h x d y small e = no_digits (decimal d) y (some_digit d small) (all_digits d small) (subst NoDigit e (atom_opens t h x))

is_left : (c : ℕ) (t : Term) (ts : Terms) → is_left_out (more (Number c) (more t ts)) ≡ true → c ≡ 1
is_left c t ts e = eqb-true c 1 e

stars_digit : (ts : Terms) (r : List ℕ) → Stops r → NoDigit (behind_text (42 ∷ []) ts ++ r)
stars_digit none r h = stops_digit r h
stars_digit (more t ts) r h = λ d. omega (arith, d)

factors_read_by : (b a : Bool) (c d : ℕ) (ts us : Terms) → is_left_out (more (Number c) ts) ≡ b → is_left_out (more (Number d) us) ≡ a → c < 2 ^ 128 → d < 2 ^ 128
    → EachTerm (Reads IsAtom Anything) ts → EachTerm IsAtom ts → EachTerm IsAtom us → (r s : List ℕ) → Stops r → Stops s
    → product_text b (decimal c ∷ texts_of ts) ++ r ≡ product_text a (decimal d ∷ texts_of us) ++ s → (c ≡ d) × (ts ≡ us) × (r ≡ s)
factors_read_by true true c d none us x y m n h i g r s o q e = absurd (cc)
factors_read_by true true c d (more t ts) none x y m n h i g r s o q e = absurd (cc)
factors_read_by true true c d (more t ts) (more u us) x y m n h i g r s o q e =
    let a = behind_text (42 ∷ []) ts in
    let b = behind_text (42 ∷ []) us in
    let w = h.0 u g.0 (a ++ r) (b ++ s) tt tt (sym (append_assoc (text_of t) a r) ∙ e ∙ append_assoc (text_of u) b s) in
    let v = behind_reads 42 [] IsAtom Anything NoStar star ts us h.1 g.1 r s (no_star r o) (no_star s q) w.1 in
    (is_left c t ts x ∙ sym (is_left d u us y), ap (λ z. more z ts) w.0 ∙ ap (λ zs. more u zs) v.0, v.1)
factors_read_by true false c d none us x y m n h i g r s o q e = absurd (cc)
factors_read_by true false c d (more t ts) us x y m n h i g r s o q e =
    absurd (no_number t i.0 (behind_text (42 ∷ []) ts ++ r) d (behind_text (42 ∷ []) us ++ s) n (sym (append_assoc (text_of t) (behind_text (42 ∷ []) ts) r) ∙ e ∙ append_assoc (decimal d) (behind_text (42 ∷ []) us) s))
factors_read_by false true c d ts none x y m n h i g r s o q e = absurd (cc)
factors_read_by false true c d ts (more u us) x y m n h i g r s o q e =
    absurd (no_number u g.0 (behind_text (42 ∷ []) us ++ s) c (behind_text (42 ∷ []) ts ++ r) m (sym (append_assoc (text_of u) (behind_text (42 ∷ []) us) s) ∙ sym e ∙ append_assoc (decimal c) (behind_text (42 ∷ []) ts) r))
factors_read_by false false c d ts us x y m n h i g r s o q e =
    let a = behind_text (42 ∷ []) ts in
    let b = behind_text (42 ∷ []) us in
    let w = number_reads c d (a ++ r) (b ++ s) m n (stars_digit ts r o) (stars_digit us s q) (sym (append_assoc (decimal c) a r) ∙ e ∙ append_assoc (decimal d) b s) in
    let v = behind_reads 42 [] IsAtom Anything NoStar star ts us h g r s (no_star r o) (no_star s q) w.1 in
    (w.0, v.0, v.1)

small : (c : ℕ) → c < past_limit → c < 2 ^ 128
small c h = omega (arith, h)

factors_read : (c : ℕ) (ts : Terms) → c < past_limit → AreAtoms ts → EachTerm (Reads IsAtom Anything) ts → (us : Terms) → IsScaled us → (r s : List ℕ) → Stops r → Stops s
    → text_of (Product (more (Number c) ts)) ++ r ≡ text_of (Product us) ++ s → (Product (more (Number c) ts) ≡ Product us) × (r ≡ s)
factors_read c ts l i h none g r s o q e = absurd g
factors_read c ts l i h (more (Number d) us) g r s o q e =
    let w = factors_read_by (is_left_out (more (Number c) ts)) (is_left_out (more (Number d) us)) c d ts us refl refl (small c l) (small d g.0.within_limit) h (each_atom ts i) (each_atom us g.1) r s o q e in
    (ap (λ z. Product (more (Number z) ts)) w.0 ∙ ap (λ zs. Product (more (Number d) zs)) w.1, w.2)
factors_read c ts l i h (more (Floor n) us) g r s o q e = absurd g
factors_read c ts l i h (more (Total vs) us) g r s o q e = absurd g
factors_read c ts l i h (more (Product vs) us) g r s o q e = absurd g
factors_read c ts l i h (more (Greatest vs) us) g r s o q e = absurd g
factors_read c ts l i h (more (Power d n) us) g r s o q e = absurd g
factors_read c ts l i h (more (Geometric d n) us) g r s o q e = absurd g

monomial_reads : (c : ℕ) (ts : Terms) → c < past_limit → AreAtoms ts → EachTerm (Reads IsAtom Anything) ts → Reads IsProduct Stops (Product (more (Number c) ts))
monomial_reads c ts l i h (Number k) g r s o q e = absurd g
monomial_reads c ts l i h (Floor n) g r s o q e = absurd g
monomial_reads c ts l i h (Total us) g r s o q e = absurd g
monomial_reads c ts l i h (Product us) g r s o q e = factors_read c ts l i h us g r s o q e
monomial_reads c ts l i h (Greatest us) g r s o q e = absurd g
monomial_reads c ts l i h (Power d n) g r s o q e = absurd g
monomial_reads c ts l i h (Geometric d n) g r s o q e = absurd g

-- ---- sums
plus : IsBetween 32 Stops Closes
plus = record {
  between = λ x. (λ d. absurd (omega (arith, d)), λ e. absurd (omega (arith, e)));
  last = closes_stops;
  ends = λ x h. h.2 refl;
}

-- a monomial isn't 0
no_zero_by : (b : Bool) (d : ℕ) (us : Terms) → is_left_out (more (Number d) us) ≡ b → 1 ≤ d → d < 2 ^ 128 → EachTerm IsAtom us → (r x : List ℕ) → Stops r → Stops x → 48 ∷ r ≡ product_text b (decimal d ∷ texts_of us) ++ x → ⊥
no_zero_by true d none y p n g r x o q e = absurd (cc)
no_zero_by true d (more u us) y p n g r x o q e =
    let z = behind_text (42 ∷ []) us in
    no_number u g.0 (z ++ x) 0 r (omega arith) (sym (append_assoc (text_of u) z x) ∙ sym e ∙ ap (λ v. v ++ r) (sym (decimal_digit 0 (omega arith))))
no_zero_by false d us y p n g r x o q e =
    let z = behind_text (42 ∷ []) us in
    let w = number_reads d 0 (z ++ x) r n (omega arith) (stars_digit us x q) (stops_digit r o) (sym (append_assoc (decimal d) z x) ∙ sym e ∙ ap (λ v. v ++ r) (sym (decimal_digit 0 (omega arith)))) in
    omega (arith, w.0, p)

no_zero_of : (us : Terms) → IsScaled us → (r x : List ℕ) → Stops r → Stops x → 48 ∷ r ≡ text_of (Product us) ++ x → ⊥
no_zero_of none g r x o q e = g
no_zero_of (more (Number d) us) g r x o q e = no_zero_by (is_left_out (more (Number d) us)) d us refl g.0.positive (small d g.0.within_limit) (each_atom us g.1) r x o q e
no_zero_of (more (Floor n) us) g r x o q e = g
no_zero_of (more (Total vs) us) g r x o q e = g
no_zero_of (more (Product vs) us) g r x o q e = g
no_zero_of (more (Greatest vs) us) g r x o q e = g
no_zero_of (more (Power d n) us) g r x o q e = g
no_zero_of (more (Geometric d n) us) g r x o q e = g

no_zero : (u : Term) → IsProduct u → (r x : List ℕ) → Stops r → Stops x → 48 ∷ r ≡ text_of u ++ x → ⊥
no_zero (Number k) g r x o q e = g
no_zero (Floor n) g r x o q e = g
no_zero (Total us) g r x o q e = g
no_zero (Product us) g r x o q e = no_zero_of us g r x o q e
no_zero (Greatest us) g r x o q e = g
no_zero (Power d n) g r x o q e = g
no_zero (Geometric d n) g r x o q e = g

totals_read : (ts us : Terms) → EachTerm (Reads IsProduct Stops) ts → EachTerm IsProduct ts → EachTerm IsProduct us → (r s : List ℕ) → Closes r → Closes s → total_text (texts_of ts) ++ r ≡ total_text (texts_of us) ++ s → (ts ≡ us) × (r ≡ s)
totals_read none none h i g r s o q e = (refl, tails e)
totals_read none (more u us) h i g r s o q e =
    let b = behind_text (32 ∷ 43 ∷ 32 ∷ []) us in
    absurd (no_zero u g.0 r (b ++ s) (closes_stops r o) (goes_on 32 (43 ∷ 32 ∷ []) Stops Closes plus us s q) (e ∙ append_assoc (text_of u) b s))
totals_read (more t ts) none h i g r s o q e =
    let a = behind_text (32 ∷ 43 ∷ 32 ∷ []) ts in
    absurd (no_zero t i.0 s (a ++ r) (closes_stops s q) (goes_on 32 (43 ∷ 32 ∷ []) Stops Closes plus ts r o) (sym e ∙ append_assoc (text_of t) a r))
totals_read (more t ts) (more u us) h i g r s o q e =
    let a = behind_text (32 ∷ 43 ∷ 32 ∷ []) ts in
    let b = behind_text (32 ∷ 43 ∷ 32 ∷ []) us in
    let w = h.0 u g.0 (a ++ r) (b ++ s) (goes_on 32 (43 ∷ 32 ∷ []) Stops Closes plus ts r o) (goes_on 32 (43 ∷ 32 ∷ []) Stops Closes plus us s q) (sym (append_assoc (text_of t) a r) ∙ e ∙ append_assoc (text_of u) b s) in
    let v = behind_reads 32 (43 ∷ 32 ∷ []) IsProduct Stops Closes plus ts us h.1 g.1 r s o q w.1 in
    (ap (λ z. more z ts) w.0 ∙ ap (λ zs. more u zs) v.0, v.1)

total_reads : (ts : Terms) → EachTerm (Reads IsProduct Stops) ts → EachTerm IsProduct ts → Reads IsNormal Closes (Total ts)
total_reads ts h i (Number k) g r s o q e = absurd g
total_reads ts h i (Floor n) g r s o q e = absurd g
total_reads ts h i (Total us) g r s o q e = let w = totals_read ts us h i (each_product us g.0) r s o q e in (ap Total w.0, w.1)
total_reads ts h i (Product us) g r s o q e = absurd g
total_reads ts h i (Greatest us) g r s o q e = absurd g
total_reads ts h i (Power d n) g r s o q e = absurd g
total_reads ts h i (Geometric d n) g r s o q e = absurd g

-- ---- whole terms
mutual
  pub atom_reads : (t : Term) → IsAtom t → Reads IsAtom Anything t
  atom_reads (Number n) h = absurd h
  atom_reads (Floor n) h = floor_reads n h
  atom_reads (Total ts) h = absurd h
  atom_reads (Product ts) h = absurd h
  atom_reads (Greatest ts) h = greatest_reads ts h.1 (sums_read ts h.0)
  atom_reads (Power b n) h = power_reads b n h
  atom_reads (Geometric b n) h = geometric_reads b n h

  pub sum_reads : (t : Term) → IsNormal t → Reads IsNormal Closes t
  sum_reads (Number n) h = absurd h
  sum_reads (Floor n) h = absurd h
  sum_reads (Total ts) h = total_reads ts (products_read ts h.0) (each_product ts h.0)
  sum_reads (Product ts) h = absurd h
  sum_reads (Greatest ts) h = absurd h
  sum_reads (Power b n) h = absurd h
  sum_reads (Geometric b n) h = absurd h

  product_reads : (t : Term) → IsProduct t → Reads IsProduct Stops t
  product_reads (Number n) h = absurd h
  product_reads (Floor n) h = absurd h
  product_reads (Total ts) h = absurd h
  product_reads (Product ts) h = scaled_reads ts h
  product_reads (Greatest ts) h = absurd h
  product_reads (Power b n) h = absurd h
  product_reads (Geometric b n) h = absurd h

  scaled_reads : (ts : Terms) → IsScaled ts → Reads IsProduct Stops (Product ts)
  scaled_reads none h = absurd h
  scaled_reads (more (Number c) ts) h = monomial_reads c ts h.0.within_limit h.1 (atoms_read ts h.1)
  scaled_reads (more (Floor n) ts) h = absurd h
  scaled_reads (more (Total us) ts) h = absurd h
  scaled_reads (more (Product us) ts) h = absurd h
  scaled_reads (more (Greatest us) ts) h = absurd h
  scaled_reads (more (Power b n) ts) h = absurd h
  scaled_reads (more (Geometric b n) ts) h = absurd h

  atoms_read : (ts : Terms) → AreAtoms ts → EachTerm (Reads IsAtom Anything) ts
  atoms_read none h = tt
  atoms_read (more t ts) h = (atom_reads t h.0, atoms_read ts h.1)

  products_read : (ts : Terms) → AreMonomials ts → EachTerm (Reads IsProduct Stops) ts
  products_read none h = tt
  products_read (more t ts) h = (product_reads t h.0, products_read ts h.1)

  sums_read : (ts : Terms) → AreNormal ts → EachTerm (Reads IsNormal Closes) ts
  sums_read none h = tt
  sums_read (more t ts) h = (sum_reads t h.0, sums_read ts h.1)

-- two normal forms with one text are one
pub texts_tell : (t u : Term) → IsNormal t → IsNormal u → text_of t ≡ text_of u → t ≡ u
texts_tell t u h g e = (sum_reads t h u g [] [] tt tt (ap (λ x. x ++ []) e)).0

-- two atoms with one key are one
pub keys_tell : (a b : Term) → IsAtom a → IsAtom b → atom_key a ≡ atom_key b → a ≡ b
keys_tell a b h g e = (atom_reads a h b g [] [] tt tt (ap (λ x. x ++ []) (tails e))).0
