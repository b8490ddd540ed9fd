-- The levels of a function on steps.
use Rattle.std.specs.Prelude.{◌≡◌, ◌⊎◌, ℕ, zero, suc, ◌+◌, ◌*◌, ◌<◌, ◌≤◌, ℤ, pos, ◌+ℤ◌, ◌-ℤ◌, ◌*ℤ◌, ◌≤ℤ◌, List, [], ◌∷◌, ◌++◌, length, map, All, Contains, Option, Some, None, MatchOption}
use Rattle.std.proofs.Common.{arith, refl, sym, ap, ◌∙◌, subst, get_or, inl, inr, ⊎_elim}
use Rattle.std.proofs.lemmas.Bool.{cases_lt}
use Rattle.std.proofs.lemmas.Int.{ints}
use Rattle.std.proofs.lemmas.List.{get_or_past, get_or-map, length-map}
use Rattle.std.proofs.lemmas.List.Elements.{All-from_get_or, Contains-append_left, Contains-push, Contains-push_cases, Contains-get_or}
use Rattle.q128.specs.Fraction.{Fraction, whole, den_of, IsSame, IsAtMost, plus, negative, times}
use Rattle.q128.specs.Laws.{IsNarrow}
use Rattle.q128.proofs.Ring.{*ℤ_assoc, +ℤ-*ℤ}
use Rattle.q128.proofs.Field.{same_refl, same_sym, same_trans, times-same, zero-plus}
use Rattle.q128.proofs.Ordered.{at_most_trans, are_ordered_field}
use Rattle.lin_rows.specs.declared.row.Transition.{Transition}
use Rattle.lin_rows.specs.Linear.{Linear, coefficient_of}
use Rattle.lin_rows.specs.Proving.{Multipliers}
use Rattle.lin_rows.specs.Rows.{lins}
use Rattle.small_sums.specs.Terms.{multipliers_of}
use Rattle.small_cert.specs.declared.least.Least.{Least}
use Rattle.small_cert.specs.Multiples.{times_of}
use Rattle.small_cert.specs.Small.{IsMultiple, IsReachedBy, IsLeastBy, IsLeast}
use Rattle.small_cert.specs.Least.{halves, expression_of, IsLeastSum, HasNoLeast}
use Rattle.small_levels.specs.declared.levels.Levels.{Levels}
use Rattle.small_levels.specs.Leveled.{IsLive, AreDead, fall_of, IsGate, IsDrop}
use Rattle.small_levels.specs.Numbers.{value_of}
use Rattle.small_levels.specs.Falls.{IsFallList, HasNoFallList}
use Rattle.small_levels.specs.Measured.{AreLevels, AreKnown, HasNoLevels, halves_in}
use Rattle.small_levels.proofs.FallParts.{place_of_multiple}

-- ---- the same coefficients
zero_fits : (k : ℤ) → IsNarrow (k *ℤ pos 0)
zero_fits k = subst IsNarrow (none k) (omega arith)
  where
    none : (k : ℤ) → pos 0 ≡ k *ℤ pos 0
    none k = omega (arith, ints)

fits_at : (k : ℤ) (xs : List ℤ) (v : ℕ) → All IsNarrow (map (λ c. k *ℤ c) xs) → IsNarrow (k *ℤ get_or xs v (pos 0))
fits_at k xs v all =
    ⊎_elim (λ (lt : v < length xs). subst IsNarrow (get_or-map (λ (c : ℤ). k *ℤ c) xs v (pos 0) (pos 0) lt) (all v (pos 0) (subst (λ (n : ℕ). v < n) (sym (length-map xs (λ (c : ℤ). k *ℤ c))) lt)))
    (λ (h : length xs ≤ v). subst (λ (z : ℤ). IsNarrow (k *ℤ z)) (sym (get_or_past xs v (pos 0) h)) (zero_fits k)) (cases_lt v (length xs))

fits_same : (k : ℤ) (xs ys : List ℤ) → ((v : ℕ) → get_or ys v (pos 0) ≡ get_or xs v (pos 0)) → All IsNarrow (map (λ c. k *ℤ c) xs) → All IsNarrow (map (λ c. k *ℤ c) ys)
fits_same k xs ys same all =
    All-from_get_or IsNarrow (map (λ c. k *ℤ c) ys) (pos 0) (λ v lt. subst IsNarrow (sym (place_of_multiple k ys v ∙ ap (λ z. k *ℤ z) (same v))) (fits_at k xs v all))

constant_moved : (k : ℤ) (a b s : Fraction) → IsSame a b → IsSame s (times (whole k) a) → IsSame s (times (whole k) b)
constant_moved k a b s e h = same_trans s (times (whole k) a) (times (whole k) b) h (times-same (whole k) (whole k) a b (same_refl (whole k)) e)

-- what is reached for one expression is reached for another with the same coefficients
moved : (rows : List Linear) (l e : Linear) (x y : Fraction) (m : Multipliers) (k : ℤ) → ((v : ℕ) → coefficient_of e v ≡ coefficient_of l v) → IsSame (plus (whole l.constant) x) (plus (whole e.constant) y)
    → IsReachedBy rows l x m k → IsReachedBy rows e y m k
moved rows l e x y m k same constants h = record {
  multiple = h.multiple;
  fits = fits_same k l.coefficients e.coefficients same h.fits;
  sum = h.sum;
  small = h.small;
  same = record { each = λ v. subst (λ (z : ℤ). IsSame (get_or h.sum.coefficients v (whole (pos 0))) (whole z)) (place_of_multiple k l.coefficients v ∙ ap (λ z. k *ℤ z) (sym (same v)) ∙ sym (place_of_multiple k e.coefficients v)) (h.same.each v) };
  constant = constant_moved k (plus (whole l.constant) x) (plus (whole e.constant) y) h.sum.constant constants h.constant;
}

-- ---- with the constant taken away
shift_same : (c z : ℤ) → IsSame (plus (whole (pos 0)) (halves z)) (plus (whole c) (halves (z -ℤ (pos 2 *ℤ c))))
shift_same c z = omega (arith, ints)

shift_most : (c z : ℤ) (y : Fraction) → IsAtMost (halves z) (plus (whole c) y) → IsAtMost (halves (z -ℤ (pos 2 *ℤ c))) y
shift_most c z y h = back (z -ℤ (pos 2 *ℤ c)) (den_of y) y.num (subst (λ (w : ℤ). (w *ℤ den_of y) ≤ℤ ((c *ℤ den_of y +ℤ y.num *ℤ pos 1) *ℤ pos 2)) (again c z) (given h))
  where
    again : (c z : ℤ) → z ≡ (z -ℤ (pos 2 *ℤ c)) +ℤ pos 2 *ℤ c
    again c z = omega (arith, ints)

    given : IsAtMost (halves z) (plus (whole c) y) → (z *ℤ den_of y) ≤ℤ ((c *ℤ den_of y +ℤ y.num *ℤ pos 1) *ℤ pos 2)
    given h = subst (λ (k : ℕ). (z *ℤ pos (suc k)) ≤ℤ ((c *ℤ den_of y +ℤ y.num *ℤ pos 1) *ℤ pos 2)) (nothing y.den_less_one) h
      where
        nothing : (d : ℕ) → 0 * suc d + d ≡ d
        nothing d = omega arith

    least : (t d e n : ℤ) → (t +ℤ pos 2 *ℤ e) ≤ℤ ((e +ℤ n *ℤ pos 1) *ℤ pos 2) → t ≤ℤ (n *ℤ pos 2)
    least t d e n h = omega (arith, ints, h)

    back : (t d n : ℤ) → ((t +ℤ pos 2 *ℤ c) *ℤ d) ≤ℤ ((c *ℤ d +ℤ n *ℤ pos 1) *ℤ pos 2) → (t *ℤ d) ≤ℤ (n *ℤ pos 2)
    back t d n h = least (t *ℤ d) d (c *ℤ d) n (subst (λ (w : ℤ). w ≤ℤ ((c *ℤ d +ℤ n *ℤ pos 1) *ℤ pos 2)) (+ℤ-*ℤ t (pos 2 *ℤ c) d ∙ ap (λ w. t *ℤ d +ℤ w) (*ℤ_assoc (pos 2) c d)) h)

zero_same : (x : Fraction) → IsSame x (plus (whole (pos 0)) x)
zero_same x = same_sym (plus (whole (pos 0)) x) x (zero-plus x)

module _ (rows : List Linear) (l : Linear) (cs : List ℤ) (same : (v : ℕ) → get_or cs v (pos 0) ≡ coefficient_of l v) where
  -- the least constant of the expression from that of the coefficients
  pub shifted : (f : Least) → IsLeastSum rows cs f → IsLeastBy rows l (halves (halves_in f -ℤ (pos 2 *ℤ l.constant))) (multipliers_of f.terms) (times_of f.multiple)
  shifted f h = record {
    reached = moved rows (expression_of cs) l (halves (halves_in f)) (halves (halves_in f -ℤ (pos 2 *ℤ l.constant))) (multipliers_of f.terms) (times_of f.multiple) (λ v. sym (same v)) (shift_same l.constant (halves_in f)) h.reached;
    least = λ y r. shift_most l.constant (halves_in f) y (h.least (plus (whole l.constant) y) (r.0, r.1, moved rows l (expression_of cs) y (plus (whole l.constant) y) r.0 r.1 same (zero_same (plus (whole l.constant) y)) r.2));
  }

  -- without one
  none_shifted : HasNoLeast rows cs → (x : Fraction) → IsLeast rows l x → ⊥
  none_shifted none x h = none (plus (whole l.constant) x) (h.0, h.1, moved rows l (expression_of cs) x (plus (whole l.constant) x) h.0 h.1 same (zero_same (plus (whole l.constant) x)) h.2.reached)

half_narrow : (k z : ℤ) → IsMultiple k → IsNarrow (k *ℤ z) → IsNarrow z
half_narrow k z (inl e) h = once z (subst (λ (k : ℤ). IsNarrow (k *ℤ z)) e h)
  where
    once : (z : ℤ) → IsNarrow (pos 1 *ℤ z) → IsNarrow z
    once z h = omega (arith, ints, h)
half_narrow k z (inr e) h = twice z (subst (λ (k : ℤ). IsNarrow (k *ℤ z)) e h)
  where
    twice : (z : ℤ) → IsNarrow (pos 2 *ℤ z) → IsNarrow z
    twice z h = omega (arith, ints, h)

-- ---- one step
-- what a search for the least constant answers
abbrev pub LeastOf : Transition → List ℤ → Option Least → Type 0
LeastOf t cs o = MatchOption o (HasNoLeast (lins t.rows) cs) (IsLeastSum (lins t.rows) cs)

only : (t u : Transition) → Contains (t ∷ []) u → t ≡ u
only t u (zero, lt, e) = e
only t u (suc k, lt, e) = absurd (omega (arith, lt))

first_in : (t : Transition) → Contains (t ∷ []) t
first_in t = Contains-get_or (t ∷ []) 0 t (omega arith)

pub no_gate : (t : Transition) (f : Linear) → IsLive t → HasNoLeast (lins t.rows) f.coefficients → HasNoLevels (t ∷ []) f
no_gate t f live none c d gate fall = let x = gate.each t (first_in t) live in none_shifted (lins t.rows) f f.coefficients (λ v. refl) none x.0 x.1

pub no_coefficients : (t : Transition) (f : Linear) → IsLive t → HasNoFallList f t.next → HasNoLevels (t ∷ []) f
no_coefficients t f live wide c d gate fall =
    let x = fall.each t (first_in t) live in
    wide.wide (half_narrow x.1.1 (coefficient_of (fall_of f t) wide.variable) x.1.2.reached.multiple (fits_at x.1.1 (fall_of f t).coefficients wide.variable x.1.2.reached.fits))

pub no_fall : (t : Transition) (f : Linear) (cs : List ℤ) → IsLive t → IsFallList f t.next cs → HasNoLeast (lins t.rows) cs → HasNoLevels (t ∷ []) f
no_fall t f cs live list none c d gate fall = let x = fall.each t (first_in t) live in none_shifted (lins t.rows) (fall_of f t) cs list.each none x.0 x.1

module _ (t : Transition) (f : Linear) (live : IsLive t) where
  gate_of : (x : Fraction) → IsLeast (lins t.rows) f x → IsGate (t ∷ []) f x
  gate_of x h = record {
    each = λ u k l. (x, subst (λ (u : Transition). IsLeast (lins u.rows) f x) (only t u k) h, are_ordered_field.order.reflexive x x (same_refl x));
    one = (t, first_in t, live, (x, h, same_refl x));
  }

  fall_level : (x d : Fraction) → IsLeast (lins t.rows) (fall_of f t) x → IsSame d (negative x) → IsDrop (t ∷ []) f d
  fall_level x d h e = record {
    each = λ u k l. (x, subst (λ (u : Transition). IsLeast (lins u.rows) (fall_of f u) x) (only t u k) h, are_ordered_field.order.reflexive d (negative x) e);
    one = (t, first_in t, live, (x, h, e));
  }

negative_same : (c z : ℤ) → IsSame (halves ((pos 2 *ℤ c) -ℤ z)) (negative (halves (z -ℤ (pos 2 *ℤ c))))
negative_same c z = omega (arith, ints)

pub levels_made : (t : Transition) (f : Linear) (cs : List ℤ) (gate fall : Least) (l : Levels) → IsLive t → f.constant ≡ pos 0 → IsFallList f t.next cs → IsLeastSum (lins t.rows) f.coefficients gate → IsLeastSum (lins t.rows) cs fall
    → value_of l.gate ≡ halves_in gate → value_of l.fall ≡ (pos 2 *ℤ (fall_of f t).constant) -ℤ halves_in fall → AreLevels (t ∷ []) f l
levels_made t f cs gate fall l live constant list g h is_gate is_fall = record {
  gate = subst (λ (z : ℤ). IsGate (t ∷ []) f (halves z)) (same_gate ∙ sym is_gate)
      (gate_of t f live (halves (halves_in gate -ℤ (pos 2 *ℤ f.constant))) (multipliers_of gate.terms, times_of gate.multiple, shifted (lins t.rows) f f.coefficients (λ v. refl) gate g));
  fall = subst (λ (z : ℤ). IsDrop (t ∷ []) f (halves z)) (sym is_fall)
      (fall_level t f live (halves (halves_in fall -ℤ (pos 2 *ℤ (fall_of f t).constant))) (halves ((pos 2 *ℤ (fall_of f t).constant) -ℤ halves_in fall)) (multipliers_of fall.terms, times_of fall.multiple, shifted (lins t.rows) (fall_of f t) cs list.each fall h) (negative_same (fall_of f t).constant (halves_in fall)));
}
  where
    away : (z : ℤ) → z -ℤ (pos 2 *ℤ pos 0) ≡ z
    away z = omega (arith, ints)

    same_gate : halves_in gate -ℤ (pos 2 *ℤ f.constant) ≡ halves_in gate
    same_gate = ap (λ c. halves_in gate -ℤ (pos 2 *ℤ c)) constant ∙ away (halves_in gate)

-- ---- one step after another
halves_most : (a b : ℤ) → a ≤ℤ b → IsAtMost (halves a) (halves b)
halves_most a b h = omega (arith, ints, h)

pub joined_first : (steps : List Transition) (t : Transition) (f : Linear) (l : Levels) → AreDead steps → AreLevels (t ∷ []) f l → AreLevels (steps ++ t ∷ []) f l
joined_first steps t f l dead h = record {
  gate = record { each = λ u k live. ⊎_elim (λ before. absurd (dead u before live)) (λ here. h.gate.each u (at u here) live) (Contains-push_cases steps t u k); one = (t, Contains-push steps t, live_here, gate_here) };
  fall = record { each = λ u k live. ⊎_elim (λ before. absurd (dead u before live)) (λ here. h.fall.each u (at u here) live) (Contains-push_cases steps t u k); one = (t, Contains-push steps t, live_here, fall_here) };
}
  where
    at : (u : Transition) → t ≡ u → Contains (t ∷ []) u
    at u e = subst (λ (u : Transition). Contains (t ∷ []) u) e (first_in t)

    live_here : IsLive t
    live_here = subst (λ (u : Transition). IsLive u) (sym (only t h.gate.one.0 h.gate.one.1)) h.gate.one.2

    gate_here : (x : Fraction) × IsLeast (lins t.rows) f x × IsSame x (halves (value_of l.gate))
    gate_here = subst (λ (u : Transition). (x : Fraction) × IsLeast (lins u.rows) f x × IsSame x (halves (value_of l.gate))) (sym (only t h.gate.one.0 h.gate.one.1)) h.gate.one.3

    fall_here : (x : Fraction) × IsLeast (lins t.rows) (fall_of f t) x × IsSame (halves (value_of l.fall)) (negative x)
    fall_here = subst (λ (u : Transition). (x : Fraction) × IsLeast (lins u.rows) (fall_of f u) x × IsSame (halves (value_of l.fall)) (negative x)) (sym (only t h.fall.one.0 h.fall.one.1)) h.fall.one.3

module _ (steps : List Transition) (t : Transition) (f : Linear) where
  gate_raised : (ss : List Transition) (a c : ℤ) → IsGate ss f (halves a) → a ≤ℤ c → (u : Transition) → Contains ss u → IsLive u → (x : Fraction) × IsLeast (lins u.rows) f x × IsAtMost x (halves c)
  gate_raised ss a c h le u k live = let x = h.each u k live in (x.0, x.1, at_most_trans x.0 (halves a) (halves c) x.2 (halves_most a c le))

  fall_lowered : (ss : List Transition) (a d : ℤ) → IsDrop ss f (halves a) → d ≤ℤ a → (u : Transition) → Contains ss u → IsLive u → (x : Fraction) × IsLeast (lins u.rows) (fall_of f u) x × IsAtMost (halves d) (negative x)
  fall_lowered ss a d h le u k live = let x = h.each u k live in (x.0, x.1, at_most_trans (halves d) (halves a) (negative x.0) (halves_most d a le) x.2)

  one_in : (u : Transition) → t ≡ u → Contains (t ∷ []) u
  one_in u e = subst (λ (u : Transition). Contains (t ∷ []) u) e (first_in t)

  moved_in : (u : Transition) → Contains (t ∷ []) u → Contains (steps ++ t ∷ []) u
  moved_in u k = subst (λ (u : Transition). Contains (steps ++ t ∷ []) u) (only t u k) (Contains-push steps t)

  gate_one : (a b c : ℤ) → IsGate steps f (halves a) → IsGate (t ∷ []) f (halves b) → (c ≡ a) ⊎ (c ≡ b) → (u : Transition) × Contains (steps ++ t ∷ []) u × IsLive u × ((x : Fraction) × IsLeast (lins u.rows) f x × IsSame x (halves c))
  gate_one a b c g h (inl e) = (g.one.0, Contains-append_left steps (t ∷ []) g.one.0 g.one.1, g.one.2, subst (λ (z : ℤ). (x : Fraction) × IsLeast (lins g.one.0.rows) f x × IsSame x (halves z)) (sym e) g.one.3)
  gate_one a b c g h (inr e) = (h.one.0, moved_in h.one.0 h.one.1, h.one.2, subst (λ (z : ℤ). (x : Fraction) × IsLeast (lins h.one.0.rows) f x × IsSame x (halves z)) (sym e) h.one.3)

  fall_one : (a b d : ℤ) → IsDrop steps f (halves a) → IsDrop (t ∷ []) f (halves b) → (d ≡ a) ⊎ (d ≡ b) → (u : Transition) × Contains (steps ++ t ∷ []) u × IsLive u × ((x : Fraction) × IsLeast (lins u.rows) (fall_of f u) x × IsSame (halves d) (negative x))
  fall_one a b d g h (inl e) = (g.one.0, Contains-append_left steps (t ∷ []) g.one.0 g.one.1, g.one.2, subst (λ (z : ℤ). (x : Fraction) × IsLeast (lins g.one.0.rows) (fall_of f g.one.0) x × IsSame (halves z) (negative x)) (sym e) g.one.3)
  fall_one a b d g h (inr e) = (h.one.0, moved_in h.one.0 h.one.1, h.one.2, subst (λ (z : ℤ). (x : Fraction) × IsLeast (lins h.one.0.rows) (fall_of f h.one.0) x × IsSame (halves z) (negative x)) (sym e) h.one.3)

  gate_joined : (a b c : ℤ) → IsGate steps f (halves a) → IsGate (t ∷ []) f (halves b) → a ≤ℤ c → b ≤ℤ c → (c ≡ a) ⊎ (c ≡ b) → IsGate (steps ++ t ∷ []) f (halves c)
  gate_joined a b c g h le more is = record {
    each = λ u k live. ⊎_elim (λ before. gate_raised steps a c g le u before live) (λ here. gate_raised (t ∷ []) b c h more u (one_in u here) live) (Contains-push_cases steps t u k);
    one = gate_one a b c g h is;
  }

  fall_joined : (a b d : ℤ) → IsDrop steps f (halves a) → IsDrop (t ∷ []) f (halves b) → d ≤ℤ a → d ≤ℤ b → (d ≡ a) ⊎ (d ≡ b) → IsDrop (steps ++ t ∷ []) f (halves d)
  fall_joined a b d g h le more is = record {
    each = λ u k live. ⊎_elim (λ before. fall_lowered steps a d g le u before live) (λ here. fall_lowered (t ∷ []) b d h more u (one_in u here) live) (Contains-push_cases steps t u k);
    one = fall_one a b d g h is;
  }

-- a dead step adds nothing
pub known_dead : (steps : List Transition) (t : Transition) (f : Linear) (o : Option Levels) → (IsLive t → ⊥) → AreKnown steps f o → AreKnown (steps ++ t ∷ []) f o
known_dead steps t f None dead h = λ u k live. ⊎_elim (λ before. h u before live) (λ here. dead (subst (λ (u : Transition). IsLive u) (sym here) live)) (Contains-push_cases steps t u k)
known_dead steps t f (Some l) dead h = record {
  gate = record { each = λ u k live. ⊎_elim (λ before. h.gate.each u before live) (λ here. absurd (dead (subst (λ (u : Transition). IsLive u) (sym here) live))) (Contains-push_cases steps t u k); one = (h.gate.one.0, Contains-append_left steps (t ∷ []) h.gate.one.0 h.gate.one.1, h.gate.one.2, h.gate.one.3) };
  fall = record { each = λ u k live. ⊎_elim (λ before. h.fall.each u before live) (λ here. absurd (dead (subst (λ (u : Transition). IsLive u) (sym here) live))) (Contains-push_cases steps t u k); one = (h.fall.one.0, Contains-append_left steps (t ∷ []) h.fall.one.0 h.fall.one.1, h.fall.one.2, h.fall.one.3) };
}

-- a live step without levels leaves none
pub no_levels : (steps : List Transition) (t : Transition) (f : Linear) → Contains steps t → IsLive t → HasNoLevels (t ∷ []) f → HasNoLevels steps f
no_levels steps t f there live none c d gate fall =
    let x = gate.each t there live in
    let y = fall.each t there live in
    none x.0 (negative y.0) (gate_of t f live x.0 x.1) (fall_level t f live y.0 (negative y.0) y.1 (same_refl (negative y.0)))

-- and so does a lack of live steps
pub none_live : (steps : List Transition) (f : Linear) → AreDead steps → HasNoLevels steps f
none_live steps f dead c d gate fall = dead gate.one.0 gate.one.1 gate.one.2

-- the greater gate and the lesser fall
pub joined_both : (steps : List Transition) (t : Transition) (f : Linear) (k h r : Levels) → AreLevels steps f k → AreLevels (t ∷ []) f h → value_of k.gate ≤ℤ value_of r.gate → value_of h.gate ≤ℤ value_of r.gate → (r.gate ≡ k.gate) ⊎ (r.gate ≡ h.gate)
    → value_of r.fall ≤ℤ value_of k.fall → value_of r.fall ≤ℤ value_of h.fall → (r.fall ≡ k.fall) ⊎ (r.fall ≡ h.fall) → AreLevels (steps ++ t ∷ []) f r
joined_both steps t f k h r known more low high one fall_low fall_high fall_is = record {
  gate = gate_joined steps t f (value_of k.gate) (value_of h.gate) (value_of r.gate) known.gate more.gate low high (⊎_elim (λ e. inl (ap value_of e)) (λ e. inr (ap value_of e)) one);
  fall = fall_joined steps t f (value_of k.fall) (value_of h.fall) (value_of r.fall) known.fall more.fall fall_low fall_high (⊎_elim (λ e. inl (ap value_of e)) (λ e. inr (ap value_of e)) fall_is);
}

-- what is known of all steps
pub known_answer : (steps : List Transition) (f : Linear) (o : Option Levels) → AreKnown steps f o → MatchOption o (HasNoLevels steps f) (AreLevels steps f)
known_answer steps f None h = none_live steps f h
known_answer steps f (Some l) h = h
