-- Members that are distinct: each is none of those before it.
use Rattle.std.proofs.Common.{◌≡◌, ◌≢◌, ◌↔◌, ℕ, true, false, List, [], ◌∷◌, ◌++◌, refl, sym, ap, ◌∙◌}
use Rattle.std.specs.List.{AllByRecursion, list_any}
use Rattle.std.specs.Str.{bytes_eq}
use Rattle.std.proofs.lemmas.Bool.{and_parts, and_from, or_parts, or_from, false≢true, false_from_ne_true}
use Rattle.std.proofs.lemmas.Slice.Eq.{bytes_eq-Decides}
use Rattle.class_reader.specs.ClassReading.{Members, is_pair}
use Rattle.class_reader.specs.ClassFile.{AreDistinct}

-- ---- facts of each element

all_parts : {A : Type 0} (P : A → Type 0) (xs ys : List A) → AllByRecursion P (xs ++ ys) → AllByRecursion P xs × AllByRecursion P ys
all_parts P [] ys h = (tt, h)
all_parts P (x ∷ xs) ys h = let others = all_parts P xs ys h.1 in ((h.0, others.0), others.1)

all_joined : {A : Type 0} (P : A → Type 0) (xs ys : List A) → AllByRecursion P xs → AllByRecursion P ys → AllByRecursion P (xs ++ ys)
all_joined P [] ys h k = k
all_joined P (x ∷ xs) ys h k = (h.0, all_joined P xs ys h.1 k)

all_both : {A : Type 0} (P Q : A → Type 0) (xs : List A) → AllByRecursion P xs → AllByRecursion Q xs → AllByRecursion (λ x. P x × Q x) xs
all_both P Q [] h k = tt
all_both P Q (x ∷ xs) h k = ((h.0, k.0), all_both P Q xs h.1 k.1)

all_each : {A : Type 0} (P Q : A → Type 0) (xs : List A) → AllByRecursion (λ x. P x × Q x) xs → AllByRecursion P xs × AllByRecursion Q xs
all_each P Q [] h = (tt, tt)
all_each P Q (x ∷ xs) h = let others = all_each P Q xs h.1 in ((h.0.0, others.0), (h.0.1, others.1))

all_hold : {A : Type 0} (P : A → Type 0) → ((x : A) → P x) → (xs : List A) → AllByRecursion P xs
all_hold P h [] = tt
all_hold P h (x ∷ xs) = (h x, all_hold P h xs)

-- ---- the test of a member

abbrev pub Pair : Type 0
Pair = List ℕ × List ℕ

pair_decided : (pair other : Pair) → (is_pair pair.0 pair.1 other ≡ true) ↔ (other ≡ pair)
pair_decided pair other = (
  λ h.
      let parts = and_parts (bytes_eq other.0 pair.0) (bytes_eq other.1 pair.1) h in
      let name : other.0 ≡ pair.0 = (bytes_eq-Decides other.0 pair.0).0 parts.0 in
      let desc : other.1 ≡ pair.1 = (bytes_eq-Decides other.1 pair.1).0 parts.1 in
      ap (λ (n : List ℕ). let p : Pair = (n, other.1) in p) name ∙ ap (λ (d : List ℕ). let p : Pair = (pair.0, d) in p) desc,
  λ e.
      let name : other.0 ≡ pair.0 = ap (λ (p : Pair). p.0) e in
      let desc : other.1 ≡ pair.1 = ap (λ (p : Pair). p.1) e in
      and_from (bytes_eq other.0 pair.0) (bytes_eq other.1 pair.1) ((bytes_eq-Decides other.0 pair.0).1 name) ((bytes_eq-Decides other.1 pair.1).1 desc),
)

-- none of those before is the member
abbrev pub NotAmong : Members → Pair → Type 0
NotAmong before pair = AllByRecursion (λ other. other ≢ pair) before

pub not_among : (before : Members) (pair : Pair) → list_any (is_pair pair.0 pair.1) before ≡ false → NotAmong before pair
not_among [] pair h = tt
not_among (other ∷ before) pair h =
    let parts = or_parts (is_pair pair.0 pair.1 other) (list_any (is_pair pair.0 pair.1) before) h in
    (λ e. false≢true (sym parts.0 ∙ (pair_decided pair other).1 e), not_among before pair parts.1)

pub none_among : (before : Members) (pair : Pair) → NotAmong before pair → list_any (is_pair pair.0 pair.1) before ≡ false
none_among [] pair h = refl
none_among (other ∷ before) pair h =
    or_from (is_pair pair.0 pair.1 other) (list_any (is_pair pair.0 pair.1) before) (false_from_ne_true (is_pair pair.0 pair.1 other) (λ yes. h.0 ((pair_decided pair other).0 yes))) (none_among before pair h.1)

-- ---- one after another

-- each is none of those before it
abbrev pub AreNew : Members → Members → Type 0
AreNew before [] = Unit {0}
AreNew before (pair ∷ pairs) = NotAmong before pair × AreNew (before ++ pair ∷ []) pairs

-- those before are none of these
abbrev Apart : Members → Members → Type 0
Apart before pairs = AllByRecursion (λ other. AllByRecursion (λ pair. other ≢ pair) pairs) before

new_apart : (before pairs : Members) → AreNew before pairs → Apart before pairs × AreDistinct pairs
new_apart before [] h = (all_hold (λ other. Unit {0}) (λ other. tt) before, tt)
new_apart before (pair ∷ pairs) h =
    let others = new_apart (before ++ pair ∷ []) pairs h.1 in
    let parts = all_parts (λ other. AllByRecursion (λ p. other ≢ p) pairs) before (pair ∷ []) others.0 in
    (all_both (λ other. other ≢ pair) (λ other. AllByRecursion (λ p. other ≢ p) pairs) before h.0 parts.0, (parts.1.0, others.1))

apart_new : (before pairs : Members) → Apart before pairs → AreDistinct pairs → AreNew before pairs
apart_new before [] apart distinct = tt
apart_new before (pair ∷ pairs) apart distinct =
    let parts = all_each (λ other. other ≢ pair) (λ other. AllByRecursion (λ p. other ≢ p) pairs) before apart in
    (parts.0, apart_new (before ++ pair ∷ []) pairs (all_joined (λ other. AllByRecursion (λ p. other ≢ p) pairs) before (pair ∷ []) parts.1 (distinct.0, tt)) distinct.1)

pub new_distinct : (pairs : Members) → AreNew [] pairs → AreDistinct pairs
new_distinct pairs h = (new_apart [] pairs h).1

pub distinct_new : (pairs : Members) → AreDistinct pairs → AreNew [] pairs
distinct_new pairs h = apart_new [] pairs tt h
