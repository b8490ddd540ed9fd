-- A rule that is being made: what stands for its variables has their values.
use Rattle.std.proofs.Common.{◌≡◌, ◌≢◌, ⊎_elim, ℕ, zero, suc, ◌<◌, nat_lt, nat_eq, Bool, true, false, ◌||◌, ℤ, ◌+ℤ◌, List, [], ◌∷◌, ◌++◌, length, get_or, Option, Some, None, if◌then◌else◌, refl, sym, ap, ◌∙◌, subst, arith}
use Rattle.std.specs.List.{list_any, list_all}
use Rattle.std.proofs.lemmas.Bool.{eq-eqb, ne_eqb, lt-ltb}
use Rattle.lin_rows.specs.Linear.{Linear, nothing}
use Rattle.lin_rows.specs.Points.{whole_value}
use Rattle.lin_rows.specs.Transitions.{next_wholes}
use Rattle.relations.specs.Scope.{is_bound, lin_bound}
use Rattle.relation_runs.specs.Leading.{variable}
use Rattle.relation_runs.specs.Trees.{variable_set}
use Rattle.relation_runs.proofs.Values.{variable_left}
use Rattle.relation_runs.proofs.Setting.{set_here, set_other, both_left, both_right, bound_more, bound_cases, bound_size}
use Rattle.base_relations.specs.Substitution.{number_of, lin_numbered}
use Rattle.base_relations.specs.Making.{lin_by, lin_made, lins_made}
use Rattle.unfolding_laws.specs.inside.Makings.{Frame}
use Rattle.unfolding_laws.specs.inside.Scopes.{Bound, entered_with}
use Rattle.unfolding_laws.proofs.Sums.{bound_some, same_some, listed_value, value_is}
use Rattle.unfolding_laws.proofs.MadeValues.{named_bound, named_more, listed_same, argument_or, stands, IsPlaced, AreShort, replaced_is, numbered_size, numbered_is}

-- ---- numbers of variables
abbrev pub IsNoKey : List (ℕ × ℕ) → ℕ → Type 0
IsNoKey [] i = Unit {0}
IsNoKey (p ∷ made) i = (p.0 ≢ i) × IsNoKey made i

push_here : (made : List (ℕ × ℕ)) (v u : ℕ) → IsNoKey made v → number_of (made ++ (v, u) ∷ []) v ≡ u
push_here [] v u h = ap (λ (b : Bool). if b then u else v) (eq-eqb v v refl)
push_here (p ∷ made) v u h = ap (λ (b : Bool). if b then p.1 else number_of (made ++ (v, u) ∷ []) v) (ne_eqb p.0 v h.0) ∙ push_here made v u h.1

push_other : (made : List (ℕ × ℕ)) (v u i : ℕ) → v ≢ i → number_of (made ++ (v, u) ∷ []) i ≡ number_of made i
push_other [] v u i n = ap (λ (b : Bool). if b then u else i) (ne_eqb v i n)
push_other (p ∷ made) v u i n = ap (λ (k : ℕ). if nat_eq p.0 i then p.1 else k) (push_other made v u i n)

push_no_key : (made : List (ℕ × ℕ)) (v u i : ℕ) → v ≢ i → IsNoKey made i → IsNoKey (made ++ (v, u) ∷ []) i
push_no_key [] v u i n h = (n, tt)
push_no_key (p ∷ made) v u i n h = (h.0, push_no_key made v u i n h.1)

-- ---- what a frame keeps over n variables
abbrev pub IsHere : Bound → ℕ → Type 0
IsHere b i = is_bound b.sizes b.made i ≡ true

abbrev pub AreKeys : List (ℕ × ℕ) → Bound → Type 0
AreKeys made b = (i : ℕ) → (IsHere b i → ⊥) → IsNoKey made i

-- the rule that has the calls: its variables have different numbers
pub record RootFits (made : List (ℕ × ℕ)) (b : Bound) (n : ℕ) : Type 0 where
  pub low : (i : ℕ) → IsHere b i → number_of made i < n
  pub apart : (i j : ℕ) → IsHere b i → IsHere b j → number_of made i ≡ number_of made j → i ≡ j
  pub keys : AreKeys made b

-- a rule in a call's place
pub record InnerFits (args : List Linear) (made : List (ℕ × ℕ)) (b : Bound) (n : ℕ) : Type 0 where
  pub sizes : length args ≡ b.sizes
  pub short : AreShort args n
  pub placed : (i : ℕ) → IsHere b i → IsPlaced args made n i
  pub keys : AreKeys made b

abbrev pub Fits : Option (List Linear) → List (ℕ × ℕ) → Bound → ℕ → Type 0
Fits None made b n = RootFits made b n
Fits (Some args) made b n = InnerFits args made b n

-- what stands for a variable has its value
abbrev pub Agrees : Option (List Linear) → List (ℕ × ℕ) → Bound → List ℤ → List ℤ → Type 0
Agrees args made b rho zs = (i : ℕ) → IsHere b i → variable rho i ≡ stands args made (variable zs) i

pub fits_more : (args : Option (List Linear)) (made : List (ℕ × ℕ)) (b : Bound) (n : ℕ) → Fits args made b n → Fits args made b (suc n)
fits_more None made b n f = record { low = λ i h. let l = f.low i h in omega arith; apart = f.apart; keys = f.keys }
fits_more (Some args) made b n f = record { sizes = f.sizes; short = λ i. let l = f.short i in omega arith; placed = λ i h e. let l = f.placed i h e in omega arith; keys = f.keys }

-- ---- expressions
-- n places, and the value of the expression that it comes from
pub record IsMade (n : ℕ) (k l : Linear) (zs rho : List ℤ) : Type 0 where
  pub size : length k.coefficients ≡ n
  pub value : whole_value k zs ≡ whole_value l rho

to_rho : (args : Option (List Linear)) (made : List (ℕ × ℕ)) (b : Bound) (rho zs : List ℤ) (l : Linear) → Agrees args made b rho zs → lin_bound b.sizes b.made l ≡ true → listed_value l (stands args made (variable zs)) ≡ whole_value l rho
to_rho args made b rho zs l agrees bound =
    sym (value_is l rho ∙ ap (λ s. s +ℤ l.constant) (listed_same l.coefficients (variable rho) (stands args made (variable zs)) 0
    (named_more (λ i. IsHere b i) (λ i. variable rho i ≡ stands args made (variable zs) i) 0 l.coefficients agrees (named_bound b.sizes b.made l bound))))

lin_by_is : (args : Option (List Linear)) (made : List (ℕ × ℕ)) (b : Bound) (n : ℕ) (rho zs : List ℤ) (l k : Linear) → Fits args made b n → Agrees args made b rho zs → lin_bound b.sizes b.made l ≡ true → lin_by args made n l ≡ Some k → IsMade n k l zs rho
lin_by_is None made b n rho zs l k fits agrees bound h =
    let named = named_bound b.sizes b.made l bound in
    subst (λ e. IsMade n e l zs rho) (same_some (lin_numbered made n l) k h) (record {
      size = numbered_size made n (λ i. IsHere b i) fits.low fits.apart (variable zs) l named;
      value = value_is (lin_numbered made n l) zs ∙ numbered_is made n (λ i. IsHere b i) fits.low fits.apart (variable zs) l named ∙ to_rho None made b rho zs l agrees bound;
    })
lin_by_is (Some args) made b n rho zs l k fits agrees bound h =
    let named = named_more (λ i. IsHere b i) (IsPlaced args made n) 0 l.coefficients fits.placed (named_bound b.sizes b.made l bound) in
    let r = replaced_is args made n fits.short (variable zs) l k named h in
    record { size = r.size; value = value_is k zs ∙ r.value ∙ to_rho (Some args) made b rho zs l agrees bound }

module _ (f : Frame) (b : Bound) (n : ℕ) (rho zs : List ℤ) (fits : Fits f.args f.made b n) (agrees : Agrees f.args f.made b rho zs) where
  pub lin_is : (l k : Linear) → lin_bound b.sizes b.made l ≡ true → lin_made f n l ≡ Some k → IsMade n k l zs rho
  unfolding lin_made
  lin_is l k bound h = lin_by_is f.args f.made b n rho zs l k fits agrees bound h

  pub record AreMade (ks ls : List Linear) : Type 0 where
    pub count : length ks ≡ length ls
    pub short : AreShort ks n
    pub values : next_wholes ks zs ≡ next_wholes ls rho

  one_more : (done : List Linear) (k : Linear) (ks : List Linear) → (done ++ k ∷ []) ++ ks ≡ done ++ k ∷ ks
  one_more [] k ks = refl
  one_more (d ∷ done) k ks = ap (λ (xs : List Linear). d ∷ xs) (one_more done k ks)

  no_more : (done : List Linear) → done ++ [] ≡ done
  no_more [] = refl
  no_more (d ∷ done) = ap (λ (xs : List Linear). d ∷ xs) (no_more done)

  short_more : (k : Linear) (ks : List Linear) → length k.coefficients ≡ n → AreShort ks n → AreShort (k ∷ ks) n
  short_more k ks size short zero = omega arith
  short_more k ks size short (suc i) = short i

  lins_from : (done ls all : List Linear) → list_all (λ (l : Linear). lin_bound b.sizes b.made l) ls ≡ true → lins_made f n done ls ≡ Some all → (ks : List Linear) × (all ≡ done ++ ks) × AreMade ks ls
  unfolding lins_made
  lins_from done [] all bound h = ([], sym (same_some done all h) ∙ sym (no_more done), record { count = refl; short = λ i. omega arith; values = refl })
  lins_from done (l ∷ ls) all bound h =
      let o = bound_some (lin_made f n l) (λ made. lins_made f n (done ++ made ∷ []) ls) all h in
      let first = lin_is l o.0 (both_left (lin_bound b.sizes b.made l) (list_all (λ (x : Linear). lin_bound b.sizes b.made x) ls) bound) o.1 in
      let rest = lins_from (done ++ o.0 ∷ []) ls all (both_right (lin_bound b.sizes b.made l) (list_all (λ (x : Linear). lin_bound b.sizes b.made x) ls) bound) o.2 in (
        o.0 ∷ rest.0,
        rest.1 ∙ one_more done o.0 rest.0,
        record {
          count = ap suc rest.2.count;
          short = short_more o.0 rest.0 first.size rest.2.short;
          values = ap (λ z. z ∷ next_wholes rest.0 zs) first.value ∙ ap (λ vs. whole_value l rho ∷ vs) rest.2.values;
        },
      )

  pub lins_are : (ls all : List Linear) → list_all (λ (l : Linear). lin_bound b.sizes b.made l) ls ≡ true → lins_made f n [] ls ≡ Some all → AreMade all ls
  lins_are ls all bound h = let r = lins_from [] ls all bound h in subst (λ ks. AreMade ks ls) (sym r.1) r.2

-- ---- a variable that is made
or_true : (a : Bool) → (a || true) ≡ true
or_true true = refl
or_true false = refl

bound_new : (sizes : ℕ) (made : List ℕ) (v : ℕ) → is_bound sizes (v ∷ made) v ≡ true
bound_new sizes made v = ap (λ (t : Bool). nat_lt v sizes || (t || list_any (nat_eq v) made)) (eq-eqb v v refl) ∙ or_true (nat_lt v sizes)

or_none : (a b : Bool) → (a || b) ≡ false → a ≡ false
or_none true b e = e
or_none false b e = refl

module _ (made : List (ℕ × ℕ)) (b : Bound) (n v : ℕ) (free : is_bound b.sizes b.made v ≡ false) where
  abbrev Behind : Bound
  Behind = record { sizes = b.sizes; made = v ∷ b.made }

  abbrev Pushed : List (ℕ × ℕ)
  Pushed = made ++ (v, n) ∷ []

  not_here : IsHere b v → ⊥
  not_here h = let e : true ≡ false = sym h ∙ free in cc

  differs : (i : ℕ) → IsHere b i → v ≢ i
  differs i h e = not_here (subst (λ k. IsHere b k) (sym e) h)

  keys_more : AreKeys made b → AreKeys Pushed Behind
  keys_more keys i h =
      push_no_key made v n i (λ e. h (subst (λ k. IsHere Behind k) e (bound_new b.sizes b.made v))) (keys i (λ old. h (bound_more b.sizes b.made v i old)))

  here : AreKeys made b → number_of Pushed v ≡ n
  here keys = push_here made v n (keys v not_here)

  there : (i : ℕ) → IsHere b i → number_of Pushed i ≡ number_of made i
  there i h = push_other made v n i (differs i h)

  -- of a variable there: the new one, or one from before
  by_case : (P : ℕ → Type 0) → P v → ((i : ℕ) → IsHere b i → P i) → (i : ℕ) → IsHere Behind i → P i
  by_case P new old i h = ⊎_elim (λ e. subst P (sym e) new) (λ o. old i o) (bound_cases b.sizes b.made v i h)

  root_low : RootFits made b n → (i : ℕ) → IsHere Behind i → number_of Pushed i < suc n
  root_low f i h = by_case (λ k. number_of Pushed k < suc n) (let e = here f.keys in omega arith) (λ k o. let e = there k o in let l = f.low k o in omega arith) i h

  root_apart : RootFits made b n → (i j : ℕ) → IsHere Behind i → IsHere Behind j → number_of Pushed i ≡ number_of Pushed j → i ≡ j
  root_apart f i j h k = by_case (λ x. number_of Pushed x ≡ number_of Pushed j → x ≡ j)
      (by_case (λ y. number_of Pushed v ≡ number_of Pushed y → v ≡ y) (λ e. refl)
      (λ y o e. absurd (let a = here f.keys in let c = there y o in let l = f.low y o in let g : ⊥ = omega arith in g)) j k)
      (λ x p. by_case (λ y. number_of Pushed x ≡ number_of Pushed y → x ≡ y)
      (λ e. absurd (let a = here f.keys in let c = there x p in let l = f.low x p in let g : ⊥ = omega arith in g))
      (λ y o e. f.apart x y p o (sym (there x p) ∙ e ∙ there y o)) j k) i h

  pub fits_behind : (args : Option (List Linear)) → Fits args made b n → Fits args Pushed Behind (suc n)
  fits_behind None f = record { low = root_low f; apart = root_apart f; keys = keys_more f.keys }
  fits_behind (Some args) f = record {
    sizes = f.sizes;
    short = λ i. let l = f.short i in omega arith;
    placed = by_case (λ k. IsPlaced args Pushed (suc n) k) (λ e. let s = here f.keys in omega arith) (λ k o e. let s = there k o in let l = f.placed k o e in omega arith);
    keys = keys_more f.keys;
  }

  stands_new : (args : Option (List Linear)) (x : ℕ → ℤ) → Fits args made b n → stands args Pushed x v ≡ x n
  stands_new None x f = ap x (here f.keys)
  stands_new (Some args) x f =
      ap (argument_or args Pushed x v) (ap (nat_lt v) f.sizes ∙ or_none (nat_lt v b.sizes) (list_any (nat_eq v) b.made) free) ∙ ap x (here f.keys)

  by_argument : (args : List Linear) (x : ℕ → ℤ) (i : ℕ) (t : Bool) → IsHere b i → argument_or args made x i t ≡ argument_or args Pushed x i t
  by_argument args x i true h = refl
  by_argument args x i false h = ap x (sym (there i h))

  stands_old : (args : Option (List Linear)) (x : ℕ → ℤ) (i : ℕ) → IsHere b i → stands args made x i ≡ stands args Pushed x i
  stands_old None x i h = ap x (sym (there i h))
  stands_old (Some args) x i h = by_argument args x i (nat_lt i (length args)) h

  pub agrees_behind : (args : Option (List Linear)) (rho zs : List ℤ) (z : ℤ) → z ≡ variable zs n → Fits args made b n → Agrees args made b rho zs → Agrees args Pushed Behind (variable_set rho v z) zs
  agrees_behind args rho zs z e f agrees = by_case (λ k. variable (variable_set rho v z) k ≡ stands args Pushed (variable zs) k)
      (set_here rho v z ∙ e ∙ sym (stands_new args (variable zs) f))
      (λ k o. set_other rho v z k (λ s. differs k o (sym s)) ∙ agrees k o ∙ stands_old args (variable zs) k o)

-- ---- a rule that begins
abbrev none_made : List (ℕ × ℕ)
none_made = []

pub variable_next : (ls : List Linear) (zs : List ℤ) (i : ℕ) → i < length ls → variable (next_wholes ls zs) i ≡ whole_value (get_or ls i nothing) zs
variable_next [] zs i low = absurd (omega arith)
variable_next (l ∷ ls) zs zero low = refl
variable_next (l ∷ ls) zs (suc i) low = variable_next ls zs i (omega arith)

pub root_begins : (v tail : List ℤ) → RootFits none_made (record { sizes = length v; made = [] }) (length v) × Agrees None none_made (record { sizes = length v; made = [] }) v (v ++ tail)
root_begins v tail = (
  record { low = λ i h. bound_size (length v) i h; apart = λ i j h k e. e; keys = λ i h. tt },
  λ i h. sym (variable_left v tail i (bound_size (length v) i h)),
)

pub inner_begins : (args ks : List Linear) (n : ℕ) (rho zs : List ℤ) → length ks ≡ length args → AreShort ks n → next_wholes ks zs ≡ next_wholes args rho
    → InnerFits ks none_made (entered_with args) n × Agrees (Some ks) none_made (entered_with args) (next_wholes args rho) zs
inner_begins args ks n rho zs count short values = (
  record { sizes = count; short = short; placed = λ i h e. absurd (let l = low i h in let t = lt-ltb i (length ks) l in let f : true ≡ false = sym t ∙ e in let g : ⊥ = cc in g); keys = λ i h. tt },
  λ i h. ap (λ (vs : List ℤ). variable vs i) (sym values) ∙ variable_next ks zs i (low i h) ∙ value_is (get_or ks i nothing) zs ∙ sym (ap (argument_or ks none_made (variable zs) i) (lt-ltb i (length ks) (low i h))),
)
  where
    low : (i : ℕ) → IsHere (entered_with args) i → i < length ks
    low i h = let l = bound_size (length args) i h in omega arith
