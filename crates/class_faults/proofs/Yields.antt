-- What reading past faults yields: something of each fault, of what was read, and of where it was cut.
use Rattle.std.proofs.Common.{◌≡◌, ℕ, zero, suc, ◌+◌, ◌<◌, ◌≤◌, Bool, true, false, cond, ltb, List, [], ◌∷◌, ◌++◌, length, take, Option, Some, None, refl, sym, ap, subst}
use Rattle.std.specs.List.{AllByRecursion}
use Rattle.std.proofs.lemmas.Bool.{ltb-false, ltb-true}
use Rattle.std.proofs.lemmas.List.{take-append-drop, length-take-le}
use Rattle.class_pool.specs.Place.{Place, after, number_at, IsBytes}
use Rattle.class_pool.specs.Pieces.{StartsWith}
use Rattle.class_pool.proofs.Pieces.{number_starts}
use Rattle.class_reader.specs.declared.fault.ClassFault.{ClassFault}
use Rattle.class_reader.specs.Met.{Met, done, cut, with_faults, behind, goes_on, ◌>>=◌, num_at, number_or_cut, bytes_at, times, pushed}
use Rattle.class_faults.specs.Pieces.{IsNumber}

pub record Yields {A : Type 0} (P : ClassFault → Type 0) (Cut : Type 0) (K : A → Type 0) (met : Met A) : Type 0 where
  pub faults : AllByRecursion P met.faults
  pub value : (x : A) → met.value ≡ Some x → K x
  pub cut : met.value ≡ None → Cut

some_is : {A : Type 0} (x y : A) → (let o : Option A = Some x in o) ≡ Some y → x ≡ y
some_is x y e = cc

-- ---- lists of faults

pub all_joined : {A : Type 0} (P : A → Type 0) (xs ys : List A) → AllByRecursion P xs → AllByRecursion P ys → AllByRecursion P (xs ++ ys)
all_joined P [] ys h k = k
all_joined P (x ∷ xs) ys h k = (h.0, all_joined P xs ys h.1 k)

pub all_split : {A : Type 0} (P : A → Type 0) (xs ys : List A) → AllByRecursion P (xs ++ ys) → AllByRecursion P ys
all_split P [] ys h = h
all_split P (x ∷ xs) ys h = all_split P xs ys h.1

-- ---- steps

pub yields_done : {A : Type 0} {P : ClassFault → Type 0} {Cut : Type 0} {K : A → Type 0} (x : A) → K x → Yields P Cut K (done x)
yields_done {A} {P} {Cut} {K} x k = record { faults = tt; value = λ y e. subst K (some_is x y e) k; cut = λ e. absurd (let uncut = e in cc) }

pub yields_with : {A : Type 0} {P : ClassFault → Type 0} {Cut : Type 0} {K : A → Type 0} (faults : List ClassFault) (x : A) → AllByRecursion P faults → K x → Yields P Cut K (with_faults faults x)
yields_with {A} {P} {Cut} {K} faults x all k = record { faults = all; value = λ y e. subst K (some_is x y e) k; cut = λ e. absurd (let uncut = e in cc) }

pub yields_behind : {A : Type 0} {P : ClassFault → Type 0} {Cut : Type 0} {K : A → Type 0} (faults : List ClassFault) (met : Met A) → AllByRecursion P faults → Yields P Cut K met → Yields P Cut K (behind faults met)
yields_behind {A} {P} {Cut} {K} faults met all y = record { faults = all_joined P faults met.faults all y.faults; value = y.value; cut = y.cut }

yields_goes : {A B : Type 0} {P : ClassFault → Type 0} {Cut : Type 0} (K : A → Type 0) {L : B → Type 0} (faults : List ClassFault) (value : Option A) (f : A → Met B) → AllByRecursion P faults
    → ((x : A) → value ≡ Some x → K x) → (value ≡ None → Cut) → ((x : A) → K x → Yields P Cut L (f x)) → Yields P Cut L (goes_on faults f value)
yields_goes {A} {B} {P} {Cut} K {L} faults None f all k uncut g = record { faults = all; value = λ y e. absurd (let wrong = e in cc); cut = λ e. uncut refl }
yields_goes {A} {B} {P} {Cut} K {L} faults (Some x) f all k uncut g = yields_behind faults (f x) all (g x (k x refl))

pub yields_then : {A B : Type 0} {P : ClassFault → Type 0} {Cut : Type 0} (K : A → Type 0) {L : B → Type 0} (met : Met A) (f : A → Met B) → Yields P Cut K met → ((x : A) → K x → Yields P Cut L (f x)) → Yields P Cut L (met >>= f)
yields_then {A} {B} {P} {Cut} K {L} met f y g = yields_goes K met.faults met.value f y.faults y.value y.cut g

pub yields_as : {A : Type 0} {P : ClassFault → Type 0} {Cut : Type 0} {K : A → Type 0} (L : A → Type 0) (met : Met A) → Yields P Cut K met → ((x : A) → K x → L x) → Yields P Cut L met
yields_as {A} {P} {Cut} {K} L met y g = record { faults = y.faults; value = λ x e. g x (y.value x e); cut = y.cut }

-- ---- numbers and bytes

num_yields_of : {P : ClassFault → Type 0} {Cut : Type 0} (n : ℕ) (place : Place) (o : Option ℕ) → ((k : ℕ) → o ≡ Some k → StartsWith (IsNumber n) place k (after n place)) → (o ≡ None → Cut)
    → Yields P Cut (λ (z : ℕ × Place). StartsWith (IsNumber n) place z.0 z.1) (number_or_cut n place o)
num_yields_of n place None k uncut = record { faults = tt; value = λ y e. absurd (let wrong = e in cc); cut = λ e. uncut refl }
num_yields_of n place (Some m) k uncut = yields_done (m, after n place) (k m refl)

cut_of : {A : Type 0} (b : Bool) (x : A) → cond b None (Some x) ≡ None → b ≡ true
cut_of true x e = refl
cut_of false x e = absurd (let wrong = e in cc)

pub num_yields : {P : ClassFault → Type 0} {Cut : Type 0} (n : ℕ) (place : Place) → IsBytes place.rest → (length place.rest < n → Cut) → Yields P Cut (λ (z : ℕ × Place). StartsWith (IsNumber n) place z.0 z.1) (num_at n place)
num_yields n place fits short =
    num_yields_of n place (number_at n place) (λ k e. number_starts n place k fits e) (λ e. short (ltb-true (length place.rest) n (cut_of (ltb (length place.rest) n) _ e)))

-- so many bytes
abbrev pub AreBytes : ℕ → List ℕ → List ℕ → Type 0
AreBytes n bytes x = (bytes ≡ x) × (length x ≡ n)

bytes_yield_of : {P : ClassFault → Type 0} {Cut : Type 0} (n : ℕ) (place : Place) (short : Bool) → (short ≡ false → StartsWith (AreBytes n) place (take n place.rest) (after n place)) → (short ≡ true → Cut)
    → Yields P Cut (λ (z : List ℕ × Place). StartsWith (AreBytes n) place z.0 z.1) (cond short cut (done (take n place.rest, after n place)))
bytes_yield_of n place true k uncut = record { faults = tt; value = λ y e. absurd (let wrong = e in cc); cut = λ e. uncut refl }
bytes_yield_of n place false k uncut = yields_done (take n place.rest, after n place) (k refl)

bytes_start : (n : ℕ) (place : Place) → n ≤ length place.rest → StartsWith (AreBytes n) place (take n place.rest) (after n place)
bytes_start n place long =
    let sized : length (take n place.rest) ≡ n = length-take-le n place.rest long in
    record { piece = take n place.rest; is = (refl, sized); parts = sym (take-append-drop n place.rest); moved = ap (λ (k : ℕ). place.at + k) (sym sized) }

pub bytes_yield : {P : ClassFault → Type 0} {Cut : Type 0} (n : ℕ) (place : Place) → (length place.rest < n → Cut) → Yields P Cut (λ (z : List ℕ × Place). StartsWith (AreBytes n) place z.0 z.1) (bytes_at n place)
bytes_yield n place short =
    bytes_yield_of n place (ltb (length place.rest) n) (λ e. bytes_start n place (ltb-false (length place.rest) n e)) (λ e. short (ltb-true (length place.rest) n e))

-- ---- loops

pub times_yield : {S : Type 0} {P : ClassFault → Type 0} {Cut : Type 0} (Inv : ℕ → S → Type 0) (step : S → Met S) → ((n : ℕ) (s : S) → Inv (suc n) s → Yields P Cut (Inv n) (step s)) → (n : ℕ) (s : S) → Inv n s → Yields P Cut (Inv zero) (times step n s)
unfolding times
times_yield Inv step one zero s h = yields_done s h
times_yield Inv step one (suc n) s h = yields_then (Inv n) (step s) (times step n) (one n s h) (λ t k. times_yield Inv step one n t k)

pub pushed_yields : {A S : Type 0} {P : ClassFault → Type 0} {Cut : Type 0} (K : S → Type 0) (read : S → Met (A × S)) (s : List A × S) → Yields P Cut (λ (z : A × S). K z.1) (read s.1) → Yields P Cut (λ (t : List A × S). K t.1) (pushed read s)
unfolding pushed
pushed_yields {A} {S} K read s y = yields_then (λ (z : A × S). K z.1) (read s.1) _ y (λ x k. yields_done (s.0 ++ x.0 ∷ [], x.1) k)
