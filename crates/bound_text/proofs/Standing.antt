-- The texts of normal forms are read.
use Rattle.std.proofs.Common.{ℕ, zero, suc, ◌≡◌, ◌<◌, ◌≤◌, ◌^◌, ◌==◌, Bool, true, false, List, [], ◌∷◌, ◌++◌, decimal, codes, refl, sym, ◌∙◌, ap, arith}
use Rattle.std.specs.Prelude.{Option, Some, None, if◌then◌else◌}
use Rattle.std.specs.List.{flat_map}
use Rattle.std.proofs.lemmas.Bool.Decides.{nat_tests}
use Rattle.std.proofs.lemmas.Bool.{eqb-true}
use Rattle.std.proofs.lemmas.List.{append_assoc, append-nil}
use Rattle.bound_terms.specs.Terms.{Floored, Term, Number, Floor, Total, Product, Greatest, Power, Geometric, Terms, none, more, terms}
use Rattle.bound_terms.specs.Texts.{linear_text, floored_text, product_text, text_of, texts_of}
use Rattle.bound_forms.specs.Limits.{past_limit}
use Rattle.bound_forms.specs.Maxima.{listed}
use Rattle.bound_forms.specs.Normal.{IsLowest, IsRaised, IsNormal, AreNormal, AreMonomials, IsProduct, IsScaled, AreAtoms, IsAtom}
use Rattle.bound_normal.proofs.Digits.{Without}
use Rattle.bound_normal.proofs.Expressions.{well, linear_without}
use Rattle.bound_normal.proofs.Values.{terms_listed}
use Rattle.bound_text.specs.declared.reader.Place.{Place}
use Rattle.bound_text.specs.declared.reader.Place.TheVariants.{Adding, Raising, Drawing, Dividing, Shutting}
use Rattle.bound_text.specs.declared.reader.Kind.{Kind}
use Rattle.bound_text.specs.declared.reader.Kind.TheVariants.{Nat, Geo, Pow}
use Rattle.bound_text.specs.inside.Runs.{run, is_digit, digit_onto, at_least_one}
use Rattle.bound_text.specs.inside.Expressions.{Drawn, nothing_drawn, settled, drawn_with}
use Rattle.bound_text.specs.inside.Sums.{OpenSum, sum_behind, nothing_open, with_atom, with_monomial, with_operand}
use Rattle.bound_text.specs.inside.Readers.{Stand, between, atom_by, place_behind, step, read_term}
use Rattle.bound_text.proofs.Numbers.{run-append, Takes, number_run}
use Rattle.bound_text.proofs.Expressing.{pending, linear_run}

-- ---- where a reader stands in an atom
abbrev standing : Place → Kind → ℕ → Option ℕ → Drawn → OpenSum → List OpenSum → Stand
standing place kind base divisor drawn sum around = record { place = place; letter = 0; kind = kind; base = base; divisor = divisor; drawn = drawn; sum = sum; around = around }

abbrev Test : Bool → Stand → Stand → Stand
Test b x y = if b then x else y

chosen : (b : Bool) (x y : Stand) → b ≡ true → Test b x y ≡ x
chosen true x y e = refl
chosen false x y e = absurd (cc)

passed : (b : Bool) (x y : Stand) → b ≡ false → Test b x y ≡ y
passed true x y e = absurd (cc)
passed false x y e = refl

unequal_by : (b : Bool) (c k : ℕ) → (c == k) ≡ b → (c ≡ k → ⊥) → (c == k) ≡ false
unequal_by true c k e h = absurd (h (eqb-true c k e))
unequal_by false c k e h = e

unequal : (c k : ℕ) → (c ≡ k → ⊥) → (c == k) ≡ false
unequal c k h = unequal_by (c == k) c k refl h

drawn_byte : (divisor : Option ℕ) (c : ℕ) → (c ≡ 41 → ⊥) → (kind : Kind) (base : ℕ) (drawn : Drawn) (sum : OpenSum) (around : List OpenSum)
    → step c (standing Drawing kind base divisor drawn sum around) ≡ standing Drawing kind base divisor (drawn_with c drawn) sum around
drawn_byte None c h kind base drawn sum around = passed (c == 41) _ _ (unequal c 41 h)
drawn_byte (Some d) c h kind base drawn sum around = passed (c == 41) _ _ (unequal c 41 h)

drawn_run : (u : List ℕ) → Without 41 u → (divisor : Option ℕ) (kind : Kind) (base : ℕ) (drawn : Drawn) (sum : OpenSum) (around : List OpenSum)
    → run step u (standing Drawing kind base divisor drawn sum around) ≡ standing Drawing kind base divisor (run drawn_with u drawn) sum around
drawn_run [] h divisor kind base drawn sum around = refl
drawn_run (c ∷ u) h divisor kind base drawn sum around =
    ap (run step u) (drawn_byte divisor c h.0 kind base drawn sum around) ∙ drawn_run u h.1 divisor kind base (drawn_with c drawn) sum around

-- ---- divided expressions
one_or : (n : ℕ) → 1 ≤ n → at_least_one n ≡ n
one_or n h = grind (arith, nat_tests)

abbrev behind_leaf : Kind → ℕ → Floored → OpenSum → List OpenSum → Stand
behind_leaf kind base n sum around = standing (place_behind kind) Nat 0 None nothing_drawn (with_atom (atom_by kind base n) sum) around

floored_is : (drawn : Drawn) (n : Floored) (divisor : ℕ) → settled false drawn ≡ pending n.expression.coefficients n.expression.constant false None None → divisor ≡ n.divisor
    → record { expression = record { coefficients = (settled false drawn).coefficients; constant = (settled false drawn).constant }; divisor = divisor } ≡ n
floored_is drawn n divisor e f =
    ap (λ (d : Drawn). let x : Floored = record { expression = record { coefficients = d.coefficients; constant = d.constant }; divisor = divisor } in x) e
    ∙ ap (λ (k : ℕ). let x : Floored = record { expression = n.expression; divisor = k } in x) f

abbrev floored_by : Bool → Floored → List ℕ
floored_by b n =
    if b then codes "nat(" ++ linear_text n.expression ++ codes ")"
    else codes "(nat(" ++ linear_text n.expression ++ codes ")/" ++ decimal n.divisor ++ codes ")"

drawn_whole : (n : Floored) → IsLowest n → settled false (run drawn_with (linear_text n.expression) nothing_drawn) ≡ pending n.expression.coefficients n.expression.constant false None None
drawn_whole n h = linear_run n.expression h.held.coefficients h.held.constant h.held.variables (well n h).used

divisor_takes : (kind : Kind) (base : ℕ) (drawn : Drawn) (sum : OpenSum) (around : List OpenSum) → Takes step (λ d. standing Dividing kind base (Some d) drawn sum around)
divisor_takes kind base drawn sum around n c e = chosen (is_digit c) _ _ e

floored_run_by : (b : Bool) (n : Floored) → (n.divisor == 1) ≡ b → IsLowest n → (kind : Kind) (base : ℕ) (sum : OpenSum) (around : List OpenSum)
    → run step (floored_by b n) (standing Adding kind base None nothing_drawn sum around) ≡ behind_leaf kind base n sum around
floored_run_by true n e h kind base sum around =
    let drawn = run drawn_with (linear_text n.expression) nothing_drawn in
    run-append step (codes "nat(" ++ linear_text n.expression) (codes ")") (standing Adding kind base None nothing_drawn sum around)
    ∙ ap (run step (codes ")")) (drawn_run (linear_text n.expression) (linear_without n (well n h)) None kind base nothing_drawn sum around)
    ∙ ap (λ m. behind_leaf kind base m sum around) (floored_is drawn n 1 (drawn_whole n h) (sym (eqb-true n.divisor 1 e)))
floored_run_by false n e h kind base sum around =
    let drawn = run drawn_with (linear_text n.expression) nothing_drawn in
    let front = codes "(nat(" ++ linear_text n.expression in
    let start = standing Adding kind base None nothing_drawn sum around in
    run-append step ((front ++ codes ")/") ++ decimal n.divisor) (codes ")") start
    ∙ ap (run step (codes ")")) (run-append step (front ++ codes ")/") (decimal n.divisor) start
    ∙ ap (run step (decimal n.divisor)) (run-append step front (codes ")/") start ∙ ap (run step (codes ")/")) (drawn_run (linear_text n.expression) (linear_without n (well n h)) (Some 0) kind base nothing_drawn sum around))
    ∙ number_run step (λ d. standing Dividing kind base (Some d) drawn sum around) (standing Dividing kind base (Some 0) drawn sum around) (divisor_takes kind base drawn sum around) (λ c x. divisor_takes kind base drawn sum around 0 c x) n.divisor (well n h).divisor)
    ∙ ap (λ m. behind_leaf kind base m sum around) (floored_is drawn n (at_least_one n.divisor) (drawn_whole n h) (one_or n.divisor h.held.positive))

floored_run : (n : Floored) → IsLowest n → (kind : Kind) (base : ℕ) (sum : OpenSum) (around : List OpenSum)
    → run step (floored_text n) (standing Adding kind base None nothing_drawn sum around) ≡ behind_leaf kind base n sum around
floored_run n h kind base sum around = floored_run_by (n.divisor == 1) n refl h kind base sum around

-- ---- powers
base_takes : (kind : Kind) (sum : OpenSum) (around : List OpenSum) → Takes step (λ b. standing Raising kind b None nothing_drawn sum around)
base_takes kind sum around n c e = chosen (is_digit c) _ _ e

base_run : (kind : Kind) (b : ℕ) → b < 2 ^ 128 → (sum : OpenSum) (around : List OpenSum) → run step (decimal b) (standing Raising kind 0 None nothing_drawn sum around) ≡ standing Raising kind b None nothing_drawn sum around
base_run kind b h sum around =
    number_run step (λ d. standing Raising kind d None nothing_drawn sum around) (standing Raising kind 0 None nothing_drawn sum around) (base_takes kind sum around) (λ c x. base_takes kind sum around 0 c x) b h

powers_run : (kind : Kind) (b : ℕ) (n : Floored) → IsRaised b n → place_behind kind ≡ Shutting → (sum : OpenSum) (around : List OpenSum)
    → run step (((decimal b ++ codes ",") ++ floored_text n) ++ codes ")") (standing Raising kind 0 None nothing_drawn sum around) ≡ between (with_atom (atom_by kind b n) sum) around
powers_run kind b n h e sum around =
    run-append step ((decimal b ++ codes ",") ++ floored_text n) (codes ")") (standing Raising kind 0 None nothing_drawn sum around)
    ∙ ap (run step (codes ")")) (run-append step (decimal b ++ codes ",") (floored_text n) (standing Raising kind 0 None nothing_drawn sum around)
    ∙ ap (run step (floored_text n)) (run-append step (decimal b) (codes ",") (standing Raising kind 0 None nothing_drawn sum around) ∙ ap (run step (codes ",")) (base_run kind b h.held sum around))
    ∙ floored_run n h.exponent kind b sum around ∙ ap (λ place. standing place Nat 0 None nothing_drawn (with_atom (atom_by kind b n) sum) around) e)

spelled : (name x y z w : List ℕ) → (((name ++ x) ++ y) ++ z) ++ w ≡ name ++ (((x ++ y) ++ z) ++ w)
spelled name x y z w =
    ap (λ t. (t ++ z) ++ w) (append_assoc name x y) ∙ ap (λ t. t ++ w) (append_assoc name (x ++ y) z) ∙ append_assoc name ((x ++ y) ++ z) w

power_run : (b : ℕ) (n : Floored) → IsRaised b n → (sum : OpenSum) (around : List OpenSum) → run step (text_of (Power b n)) (between sum around) ≡ between (with_atom (Power b n) sum) around
power_run b n h sum around =
    ap (λ t. run step t (between sum around)) (spelled (codes "pow(") (decimal b) (codes ",") (floored_text n) (codes ")"))
    ∙ powers_run Pow b n h refl sum around ∙ ap (λ c. between (with_atom (Power c n) sum) around) (one_or b (omega (arith, h.base)))

geometric_run : (b : ℕ) (n : Floored) → IsRaised b n → (sum : OpenSum) (around : List OpenSum) → run step (text_of (Geometric b n)) (between sum around) ≡ between (with_atom (Geometric b n) sum) around
geometric_run b n h sum around =
    ap (λ t. run step t (between sum around)) (spelled (codes "geo(") (decimal b) (codes ",") (floored_text n) (codes ")"))
    ∙ powers_run Geo b n h refl sum around ∙ ap (λ c. between (with_atom (Geometric c n) sum) around) (one_or b (omega (arith, h.base)))

-- ---- sums
abbrev adding : List Term → List Term → Option ℕ → List Term → OpenSum
adding operands monomials coefficient atoms = record { operands = operands; monomials = monomials; coefficient = coefficient; atoms = atoms }

-- the reader has gone on to where a monomial, or a sum, ends
record HasRead (text : List ℕ) (from : OpenSum) (around : List OpenSum) (made : OpenSum → OpenSum) (to : OpenSum) : Type 0 where
  ended : OpenSum
  runs : run step text (between from around) ≡ between ended around
  makes : made ended ≡ to

coefficient_takes : (operands monomials atoms : List Term) (around : List OpenSum) → Takes step (λ c. between (adding operands monomials (Some c) atoms) around)
coefficient_takes operands monomials atoms around n c e = chosen (is_digit c) _ _ e

coefficient_starts : (operands monomials : List Term) (around : List OpenSum) (c : ℕ) → is_digit c ≡ true → step c (between (sum_behind operands monomials) around) ≡ between (adding operands monomials (Some (digit_onto 0 c)) []) around
coefficient_starts operands monomials around c e = chosen (is_digit c) _ _ e

coefficient_run : (operands monomials : List Term) (around : List OpenSum) (c : ℕ) → c < 2 ^ 128 → run step (decimal c) (between (sum_behind operands monomials) around) ≡ between (adding operands monomials (Some c) []) around
coefficient_run operands monomials around c h =
    number_run step (λ c. between (adding operands monomials (Some c) []) around) (between (sum_behind operands monomials) around) (coefficient_takes operands monomials [] around) (coefficient_starts operands monomials around) c h

abbrev behind_text : List ℕ → Terms → List ℕ
behind_text sep ts = flat_map (λ y. sep ++ y) (texts_of ts)

abbrev AtomRuns : Term → Type 0
AtomRuns t = (sum : OpenSum) (around : List OpenSum) → run step (text_of t) (between sum around) ≡ between (with_atom t sum) around

abbrev EachRuns : Terms → Type 0
EachRuns none = Unit {0}
EachRuns (more t ts) = AtomRuns t × EachRuns ts

atoms_run : (ts : Terms) → EachRuns ts → (operands monomials : List Term) (coefficient : Option ℕ) (atoms : List Term) (around : List OpenSum)
    → run step (behind_text (codes "*") ts) (between (adding operands monomials coefficient atoms) around) ≡ between (adding operands monomials coefficient (atoms ++ listed ts)) around
atoms_run none h operands monomials coefficient atoms around = ap (λ xs. between (adding operands monomials coefficient xs) around) (sym (append-nil atoms))
atoms_run (more t ts) h operands monomials coefficient atoms around =
    run-append step (text_of t) (behind_text (codes "*") ts) (between (adding operands monomials coefficient atoms) around)
    ∙ ap (run step (behind_text (codes "*") ts)) (h.0 (adding operands monomials coefficient atoms) around)
    ∙ atoms_run ts h.1 operands monomials coefficient (atoms ++ t ∷ []) around
    ∙ ap (λ xs. between (adding operands monomials coefficient xs) around) (append_assoc atoms (t ∷ []) (listed ts))

monomial_is : (operands monomials : List Term) (c : ℕ) (ts : Terms) → 1 ≤ c → with_monomial (adding operands monomials (Some c) (listed ts)) ≡ sum_behind operands (monomials ++ Product (more (Number c) ts) ∷ [])
monomial_is operands monomials zero ts h = absurd (omega (arith, h))
monomial_is operands monomials (suc n) ts h = ap (λ us. sum_behind operands (monomials ++ Product (more (Number (suc n)) us) ∷ [])) (terms_listed ts)

monomial_of_one : (operands monomials : List Term) (ts : Terms) → with_monomial (adding operands monomials None (listed ts)) ≡ sum_behind operands (monomials ++ Product (more (Number 1) ts) ∷ [])
monomial_of_one operands monomials ts = ap (λ us. sum_behind operands (monomials ++ Product (more (Number 1) us) ∷ [])) (terms_listed ts)

abbrev ReadsMonomial : List ℕ → Term → Type 0
ReadsMonomial text t = (operands monomials : List Term) (around : List OpenSum) → HasRead text (sum_behind operands monomials) around with_monomial (sum_behind operands (monomials ++ t ∷ []))

product_run_by : (b : Bool) (c : ℕ) (t : Term) (ts : Terms) → (c == 1) ≡ b → 1 ≤ c → c < past_limit → EachRuns (more t ts) → ReadsMonomial (product_text b (texts_of (more (Number c) (more t ts)))) (Product (more (Number c) (more t ts)))
product_run_by true c t ts e low high h operands monomials around = record {
  ended = adding operands monomials None (listed (more t ts));
  runs = run-append step (text_of t) (behind_text (codes "*") ts) (between (sum_behind operands monomials) around)
      ∙ ap (run step (behind_text (codes "*") ts)) (h.0 (sum_behind operands monomials) around) ∙ atoms_run ts h.1 operands monomials None (t ∷ []) around;
  makes = monomial_of_one operands monomials (more t ts) ∙ ap (λ k. sum_behind operands (monomials ++ Product (more (Number k) (more t ts)) ∷ [])) (sym (eqb-true c 1 e));
}
product_run_by false c t ts e low high h operands monomials around = record {
  ended = adding operands monomials (Some c) (listed (more t ts));
  runs = run-append step (decimal c) (behind_text (codes "*") (more t ts)) (between (sum_behind operands monomials) around)
      ∙ ap (run step (behind_text (codes "*") (more t ts))) (coefficient_run operands monomials around c (omega (arith, high))) ∙ atoms_run (more t ts) h operands monomials (Some c) [] around;
  makes = monomial_is operands monomials c (more t ts) low;
}

scaled_run : (c : ℕ) (ts : Terms) → 1 ≤ c → c < past_limit → EachRuns ts → ReadsMonomial (text_of (Product (more (Number c) ts))) (Product (more (Number c) ts))
scaled_run c none low high h operands monomials around = record {
  ended = adding operands monomials (Some c) [];
  runs = ap (λ t. run step t (between (sum_behind operands monomials) around)) (append-nil (decimal c)) ∙ coefficient_run operands monomials around c (omega (arith, high));
  makes = monomial_is operands monomials c none low;
}
scaled_run c (more t ts) low high h operands monomials around = product_run_by (c == 1) c t ts refl low high h operands monomials around

abbrev EachReads : Terms → Type 0
EachReads none = Unit {0}
EachReads (more t ts) = ReadsMonomial (text_of t) t × EachReads ts

monomials_run : (t : Term) (ts : Terms) → ReadsMonomial (text_of t) t → EachReads ts → (operands monomials : List Term) (around : List OpenSum)
    → HasRead (text_of t ++ behind_text (codes " + ") ts) (sum_behind operands monomials) around with_monomial (sum_behind operands (monomials ++ t ∷ listed ts))
monomials_run t none h g operands monomials around =
    let one = h operands monomials around in
    record { ended = one.ended; runs = ap (λ u. run step u (between (sum_behind operands monomials) around)) (append-nil (text_of t)) ∙ one.runs; makes = one.makes }
monomials_run t (more u us) h g operands monomials around =
    let one = h operands monomials around in
    let others = monomials_run u us g.0 g.1 operands (monomials ++ t ∷ []) around in
    record {
      ended = others.ended;
      runs = run-append step (text_of t) (behind_text (codes " + ") (more u us)) (between (sum_behind operands monomials) around)
          ∙ ap (run step (behind_text (codes " + ") (more u us))) one.runs
          ∙ ap (λ s. run step (text_of u ++ behind_text (codes " + ") us) (between s around)) one.makes ∙ others.runs;
      makes = others.makes ∙ ap (sum_behind operands) (append_assoc monomials (t ∷ []) (u ∷ listed us));
    }

abbrev ReadsSum : Term → Type 0
ReadsSum t = (operands : List Term) (around : List OpenSum) → HasRead (text_of t) (sum_behind operands []) around with_operand (sum_behind (operands ++ t ∷ []) [])

operand_is : (operands : List Term) (ended : OpenSum) (ts : Terms) → with_monomial ended ≡ sum_behind operands (listed ts) → with_operand ended ≡ sum_behind (operands ++ Total ts ∷ []) []
operand_is operands ended ts e =
    ap (λ (s : OpenSum). sum_behind (s.operands ++ Total (terms s.monomials) ∷ []) []) e ∙ ap (λ us. sum_behind (operands ++ Total us ∷ []) []) (terms_listed ts)

total_run : (ts : Terms) → EachReads ts → ReadsSum (Total ts)
total_run none h operands around = record { ended = adding operands [] (Some 0) []; runs = refl; makes = refl }
total_run (more t ts) h operands around =
    let all = monomials_run t ts h.0 h.1 operands [] around in
    record { ended = all.ended; runs = all.runs; makes = operand_is operands all.ended (more t ts) all.makes }

abbrev EachSum : Terms → Type 0
EachSum none = Unit {0}
EachSum (more t ts) = ReadsSum t × EachSum ts

operands_run : (t : Term) (ts : Terms) → ReadsSum t → EachSum ts → (operands : List Term) (around : List OpenSum)
    → HasRead (text_of t ++ behind_text (codes ",") ts) (sum_behind operands []) around with_operand (sum_behind (operands ++ t ∷ listed ts) [])
operands_run t none h g operands around =
    let one = h operands around in
    record { ended = one.ended; runs = ap (λ u. run step u (between (sum_behind operands []) around)) (append-nil (text_of t)) ∙ one.runs; makes = one.makes }
operands_run t (more u us) h g operands around =
    let one = h operands around in
    let others = operands_run u us g.0 g.1 (operands ++ t ∷ []) around in
    record {
      ended = others.ended;
      runs = run-append step (text_of t) (behind_text (codes ",") (more u us)) (between (sum_behind operands []) around)
          ∙ ap (run step (behind_text (codes ",") (more u us))) one.runs
          ∙ ap (λ s. run step (text_of u ++ behind_text (codes ",") us) (between s around)) one.makes ∙ others.runs;
      makes = others.makes ∙ ap (λ xs. sum_behind xs []) (append_assoc operands (t ∷ []) (u ∷ listed us));
    }

maximum_run : (t : Term) (ts : Terms) → ReadsSum t → EachSum ts → AtomRuns (Greatest (more t ts))
maximum_run t ts h g sum around =
    let all = operands_run t ts h g [] (sum ∷ around) in
    run-append step (codes "max(" ++ (text_of t ++ behind_text (codes ",") ts)) (codes ")") (between sum around)
    ∙ ap (run step (codes ")")) all.runs
    ∙ ap (λ (s : OpenSum). between (with_atom (Greatest (terms s.operands)) sum) around) all.makes
    ∙ ap (λ us. between (with_atom (Greatest (more t us)) sum) around) (terms_listed ts)

-- ---- whole terms
mutual
  atom_run : (t : Term) → IsAtom t → AtomRuns t
  atom_run (Number n) h sum around = absurd h
  atom_run (Floor n) h sum around = floored_run n h Nat 0 sum around
  atom_run (Total ts) h sum around = absurd h
  atom_run (Product ts) h sum around = absurd h
  atom_run (Greatest none) h sum around = absurd (omega (arith, h.1.several))
  atom_run (Greatest (more t ts)) h sum around = maximum_run t ts (sum_run t h.0.0) (sums_run ts h.0.1) sum around
  atom_run (Power b n) h sum around = power_run b n h sum around
  atom_run (Geometric b n) h sum around = geometric_run b n h sum around

  sum_run : (t : Term) → IsNormal t → ReadsSum t
  sum_run (Number n) h operands around = absurd h
  sum_run (Floor n) h operands around = absurd h
  sum_run (Total ts) h operands around = total_run ts (products_run ts h.0) operands around
  sum_run (Product ts) h operands around = absurd h
  sum_run (Greatest ts) h operands around = absurd h
  sum_run (Power b n) h operands around = absurd h
  sum_run (Geometric b n) h operands around = absurd h

  product_run : (t : Term) → IsProduct t → ReadsMonomial (text_of t) t
  product_run (Number n) h operands monomials around = absurd h
  product_run (Floor n) h operands monomials around = absurd h
  product_run (Total ts) h operands monomials around = absurd h
  product_run (Product ts) h operands monomials around = factors_run ts h operands monomials around
  product_run (Greatest ts) h operands monomials around = absurd h
  product_run (Power b n) h operands monomials around = absurd h
  product_run (Geometric b n) h operands monomials around = absurd h

  factors_run : (ts : Terms) → IsScaled ts → ReadsMonomial (text_of (Product ts)) (Product ts)
  factors_run none h operands monomials around = absurd h
  factors_run (more (Number c) ts) h operands monomials around = scaled_run c ts h.0.positive h.0.within_limit (each_run ts h.1) operands monomials around
  factors_run (more (Floor n) ts) h operands monomials around = absurd h
  factors_run (more (Total us) ts) h operands monomials around = absurd h
  factors_run (more (Product us) ts) h operands monomials around = absurd h
  factors_run (more (Greatest us) ts) h operands monomials around = absurd h
  factors_run (more (Power b n) ts) h operands monomials around = absurd h
  factors_run (more (Geometric b n) ts) h operands monomials around = absurd h

  each_run : (ts : Terms) → AreAtoms ts → EachRuns ts
  each_run none h = tt
  each_run (more t ts) h = (atom_run t h.0, each_run ts h.1)

  products_run : (ts : Terms) → AreMonomials ts → EachReads ts
  products_run none h = tt
  products_run (more t ts) h = (product_run t h.0, products_run ts h.1)

  sums_run : (ts : Terms) → AreNormal ts → EachSum ts
  sums_run none h = tt
  sums_run (more t ts) h = (sum_run t h.0, sums_run ts h.1)

only_operand : (xs : List Term) (t u : Term) → xs ++ t ∷ [] ≡ u ∷ [] → t ≡ u
only_operand [] t u e = cc
only_operand (x ∷ []) t u e = absurd (cc)
only_operand (x ∷ y ∷ xs) t u e = absurd (cc)

-- a normal form's text makes it
pub normal_run : (t : Term) → IsNormal t → read_term (run step (text_of t) (between nothing_open [])) ≡ t
normal_run t h =
    let whole = sum_run t h [] [] in
    ap read_term whole.runs ∙ only_operand whole.ended.operands (read_term (between whole.ended [])) t (ap (λ (s : OpenSum). s.operands) whole.makes)
