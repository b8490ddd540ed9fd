-- Reading past faults, step by step: what passes is the pieces, and each piece passes.
use Rattle.std.proofs.Common.{◌≡◌, ℕ, ◌+◌, ◌≤◌, Bool, true, false, cond, ltb, List, [], ◌∷◌, ◌++◌, length, take, Option, Some, None, refl, sym, ap, subst, ◌∙◌, append_assoc, arith}
use Rattle.std.proofs.lemmas.Bool.{ltb-false, le-ltb}
use Rattle.std.proofs.lemmas.List.{length-append, take_at, drop_at, take-append-drop, length-take-le}
use Rattle.class_pool.specs.Place.{Place, after, number_at, IsBytes}
use Rattle.class_pool.specs.Pieces.{StartsWith}
use Rattle.class_pool.proofs.Numbers.{IsBytes-take}
use Rattle.class_pool.proofs.Pieces.{IsNumber, number_starts, number_ends, starts-rest}
use Rattle.class_reader.specs.declared.fault.ClassFault.{ClassFault}
use Rattle.class_reader.specs.Met.{Met, done, cut, goes_on, ◌>>=◌, Passes, number_or_cut, num_at, bytes_at}

-- ---- a step

pub both_empty : (xs ys : List ClassFault) → xs ++ ys ≡ [] → (xs ≡ []) × (ys ≡ [])
both_empty [] ys e = (refl, e)
both_empty (x ∷ xs) ys e = absurd cc

step_at : {A B : Type 0} (faults : List ClassFault) (value : Option A) (f : A → Met B) (y : B) → Passes (goes_on faults f value) y → (x : A) × (value ≡ Some x) × (faults ≡ []) × Passes (f x) y
step_at faults None f y p = absurd (let no = p.0 in cc)
step_at faults (Some x) f y p = let none = both_empty faults (f x).faults p.1 in (x, refl, none.0, (p.0, none.1))

-- what passes is a step that passed, and then the others
pub stepped : {A B : Type 0} (met : Met A) (f : A → Met B) (y : B) → Passes (met >>= f) y → (x : A) × Passes met x × Passes (f x) y
stepped met f y p = let s = step_at met.faults met.value f y p in (s.0, (s.1, s.2), s.3)

pub steps : {A B : Type 0} {met : Met A} {x : A} {y : B} (f : A → Met B) → Passes met x → Passes (f x) y → Passes (met >>= f) y
steps {A} {B} {met} {x} {y} f p q =
    let goes : Option A → List ClassFault → Type 0 = λ value faults. Passes (goes_on faults f value) y in
    let passes : goes (Some x) [] = q in
    subst (λ (value : Option A). goes value met.faults) (sym p.0) (subst (λ (faults : List ClassFault). goes (Some x) faults) (sym p.1) passes)

pub passes_is : {A : Type 0} (x y : A) → Passes (done x) y → x ≡ y
passes_is x y p = let same = p.0 in cc

pub two_pass : {A : Type 0} (met : Met A) (x y : A) → Passes met x → Passes met y → x ≡ y
two_pass met x y p q = let same = sym p.0 ∙ q.0 in cc

-- what holds of what was read
pub carried : {A : Type 0} (P : A → Type 0) (x y : A) → Passes (done x) y → P x → P y
carried P x y p h = subst P (passes_is x y p) h

-- ---- bytes between places

pub record Spans (place : Place) (piece : List ℕ) (next : Place) : Type 0 where
  pub parts : place.rest ≡ piece ++ next.rest
  pub moved : next.at ≡ place.at + length piece

pub spanned : {A : Type 0} {Is : List ℕ → A → Type 0} {place : Place} {x : A} {next : Place} (p : StartsWith Is place x next) → Spans place p.piece next
spanned p = record { parts = p.parts; moved = p.moved }

pub starts : {A : Type 0} {place : Place} {next : Place} (Is : List ℕ → A → Type 0) (x : A) (piece : List ℕ) → Spans place piece next → Is piece x → StartsWith Is place x next
starts Is x piece p is = record { piece = piece; is = is; parts = p.parts; moved = p.moved }

pub joined : {place middle next : Place} {a b : List ℕ} → Spans place a middle → Spans middle b next → Spans place (a ++ b) next
joined {place} {middle} {next} {a} {b} p q =
    record {
      parts = p.parts ∙ ap (λ (rest : List ℕ). a ++ rest) q.parts ∙ sym (append_assoc a b next.rest);
      moved = omega (arith, p.moved, q.moved, length-append a b);
    }

-- the place behind the first of two pieces
abbrev pub middle_of : Place → List ℕ → List ℕ → Place → Place
middle_of place a b next = record { at = place.at + length a; rest = b ++ next.rest }

pub first_of_two : {place next : Place} (a b : List ℕ) → Spans place (a ++ b) next → Spans place a (middle_of place a b next)
first_of_two {place} {next} a b p = record { parts = p.parts ∙ append_assoc a b next.rest; moved = refl }

pub second_of_two : {place next : Place} (a b : List ℕ) → Spans place (a ++ b) next → Spans (middle_of place a b next) b next
second_of_two {place} {next} a b p = record { parts = refl; moved = omega (arith, p.moved, length-append a b) }

pub bytes_of : {place next : Place} {piece : List ℕ} → Spans place piece next → IsBytes place.rest → IsBytes piece
bytes_of {place} {next} {piece} p fits =
    let e : take (length piece) place.rest ≡ piece = ap (take (length piece)) p.parts ∙ take_at piece next.rest (length piece) refl in
    subst IsBytes e (IsBytes-take (length piece) place.rest fits)

-- the same piece, written otherwise
pub rewritten : {place next : Place} {a b : List ℕ} → a ≡ b → Spans place a next → Spans place b next
rewritten {place} {next} e p = subst (λ (t : List ℕ). Spans place t next) e p

-- ---- readers

-- what passes is the pieces of this form, and nothing else
pub record IsReader {A : Type 0} (read : Place → Met (A × Place)) (Is : List ℕ → A → Type 0) : Type 0 where
  pub takes : (place : Place) (x : A) (next : Place) → IsBytes place.rest → Passes (read place) (x, next) → StartsWith Is place x next
  pub again : (place : Place) (x : A) (next : Place) → StartsWith Is place x next → Passes (read place) (x, next)

-- a piece that was read, and what passes behind it
pub record Took {A B : Type 0} (Is : List ℕ → A → Type 0) (place : Place) (f : A × Place → Met B) (y : B) : Type 0 where
  pub value : A
  pub next : Place
  pub starts : StartsWith Is place value next
  pub fits : IsBytes next.rest
  pub others : Passes (f (value, next)) y

pub took : {A B : Type 0} {read : Place → Met (A × Place)} {Is : List ℕ → A → Type 0} (reader : IsReader read Is) (place : Place) (f : A × Place → Met B) (y : B)
    → IsBytes place.rest → Passes (read place >>= f) y → Took Is place f y
took {A} {B} {read} {Is} reader place f y fits p =
    let s = stepped (read place) f y p in
    let one = reader.takes place s.0.0 s.0.1 fits s.1 in
    record { value = s.0.0; next = s.0.1; starts = one; fits = starts-rest Is place s.0.1 s.0.0 one fits; others = s.2 }

-- a piece at the front of some, and what passes behind it
pub takes_first : {A B : Type 0} {read : Place → Met (A × Place)} {Is : List ℕ → A → Type 0} {place next : Place} {y : B} (reader : IsReader read Is) (x : A) (a b : List ℕ) (f : A × Place → Met B)
    → Spans place (a ++ b) next → Is a x → Passes (f (x, middle_of place a b next)) y → Passes (read place >>= f) y
takes_first {A} {B} {read} {Is} {place} {next} reader x a b f spans is others =
    steps f (reader.again place x (middle_of place a b next) (starts Is x a (first_of_two a b spans) is)) others

-- the last piece, and what passes behind it
pub takes_last : {A B : Type 0} {read : Place → Met (A × Place)} {Is : List ℕ → A → Type 0} {place next : Place} {y : B} (reader : IsReader read Is) (x : A) (a : List ℕ) (f : A × Place → Met B)
    → Spans place a next → Is a x → Passes (f (x, next)) y → Passes (read place >>= f) y
takes_last {A} {B} {read} {Is} {place} {next} reader x a f spans is others = steps f (reader.again place x next (starts Is x a spans is)) others

-- what was read is one value and one place
pub same_start : {A : Type 0} (Is : List ℕ → A → Type 0) (place : Place) (x y : A) (p q : Place) → Passes {A = A × Place} (done (x, p)) (y, q) → StartsWith Is place x p → StartsWith Is place y q
same_start {A} Is place x y p q e s =
    carried (λ z. StartsWith Is place z.0 z.1) (x, p) (y, q) e s

-- ---- numbers

num_met : (n : ℕ) (place : Place) (read : Option ℕ) (k : ℕ) (next : Place) → Passes (number_or_cut n place read) (k, next) → (read ≡ Some k) × (after n place ≡ next)
num_met n place None k next p = absurd (let no = p.0 in cc)
num_met n place (Some j) k next p =
    let same = passes_is (j, after n place) (k, next) p in
    (ap (λ (z : ℕ × Place). Some z.0) same, ap (λ (z : ℕ × Place). z.1) same)

num_takes : (n : ℕ) (place : Place) (k : ℕ) (next : Place) → IsBytes place.rest → Passes (num_at n place) (k, next) → StartsWith (IsNumber n) place k next
num_takes n place k next fits p =
    let m = num_met n place (number_at n place) k next p in
    subst (λ (q : Place). StartsWith (IsNumber n) place k q) m.1 (number_starts n place k fits m.0)

num_again : (n : ℕ) (place : Place) (k : ℕ) (next : Place) → StartsWith (IsNumber n) place k next → Passes (num_at n place) (k, next)
num_again n place k next s =
    let e = number_ends n place next k s in
    let passes : Passes {A = ℕ × Place} (done (k, after n place)) (k, next) = (ap (λ (q : Place). let o : Option (ℕ × Place) = Some (k, q) in o) e.1, refl) in
    subst (λ (o : Option ℕ). Passes (number_or_cut n place o) (k, next)) (sym e.0) passes

pub num_reader : (n : ℕ) → IsReader (num_at n) (IsNumber n)
num_reader n = record { takes = num_takes n; again = num_again n }

-- ---- bytes

abbrev pub AreSoMany : ℕ → List ℕ → List ℕ → Type 0
AreSoMany n bytes x = (bytes ≡ x) × (length x ≡ n)

uncut : {A : Type 0} (b : Bool) (x y : A) → Passes (cond b cut (done x)) y → (b ≡ false) × (x ≡ y)
uncut true x y p = absurd (let no = p.0 in cc)
uncut false x y p = (refl, passes_is x y p)

bytes_take : (n : ℕ) (place : Place) (x : List ℕ) (next : Place) → IsBytes place.rest → Passes (bytes_at n place) (x, next) → StartsWith (AreSoMany n) place x next
bytes_take n place x next fits p =
    let u = uncut (ltb (length place.rest) n) (take n place.rest, after n place) (x, next) p in
    let long : n ≤ length place.rest = ltb-false (length place.rest) n u.0 in
    let sized : length (take n place.rest) ≡ n = length-take-le n place.rest long in
    let here : StartsWith (AreSoMany n) place (take n place.rest) (after n place) =
    record { piece = take n place.rest; is = (refl, sized); parts = sym (take-append-drop n place.rest); moved = ap (λ (k : ℕ). place.at + k) (sym sized) } in
    subst (λ (z : List ℕ × Place). StartsWith (AreSoMany n) place z.0 z.1) u.1 here

bytes_again : (n : ℕ) (place : Place) (x : List ℕ) (next : Place) → StartsWith (AreSoMany n) place x next → Passes (bytes_at n place) (x, next)
bytes_again n place x next s =
    let parts : place.rest ≡ x ++ next.rest = s.parts ∙ ap (λ (b : List ℕ). b ++ next.rest) s.is.0 in
    let long : ltb (length (x ++ next.rest)) n ≡ false = le-ltb (length (x ++ next.rest)) n (omega (arith, length-append x next.rest, s.is.1)) in
    let moved : place.at + n ≡ next.at = omega (arith, s.moved, ap length s.is.0, s.is.1) in
    rw (parts, long, take_at x next.rest n s.is.1, drop_at x next.rest n s.is.1, moved) (refl, refl)

pub bytes_reader : (n : ℕ) → IsReader (bytes_at n) (AreSoMany n)
bytes_reader n = record { takes = bytes_take n; again = bytes_again n }
