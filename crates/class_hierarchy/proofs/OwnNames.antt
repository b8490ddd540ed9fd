-- Each class has a name of its own.
use Rattle.std.proofs.Common.{◌≡◌, inl, inr, ℕ, zero, suc, ◌+◌, ◌<◌, ◌≤◌, Bool, true, false, List, [], ◌∷◌, length, get_or, Option, Some, None, arith, refl, sym, ap, ◌∙◌, true≢false}
use Rattle.std.specs.Prelude.{nat_lt, if◌then◌else◌}
use Rattle.std.proofs.lemmas.Bool.{ltb-false, cases_lt}
use Rattle.std.specs.List.{position}
use Rattle.std.specs.Option.{option_map_or}
use Rattle.std.proofs.lemmas.Slice.Eq.{bytes_eq-Decides}
use Rattle.common_laws.proofs.Choices.{or_none}
use Rattle.common_laws.proofs.Positions.{position_hit, position_behind}
use Rattle.class_reader.specs.declared.class.ClassRecord.{ClassRecord}
use Rattle.class_hierarchy.specs.declared.fault.WorldFault.{WorldFault}
use Rattle.class_hierarchy.specs.declared.fault.WorldFault.TheVariants.{Twice}
use Rattle.class_hierarchy.specs.Building.{first_number, first_class, twice, is_twice}
use Rattle.class_hierarchy.specs.World.{World, class_at, object_class, is_named, number_of}

abbrev pub HasNames : World → Type 0
HasNames w = (a b : ℕ) → a < length w → b < length w → (class_at w a).name ≡ (class_at w b).name → a ≡ b

pub first_none : (f : ℕ → Option WorldFault) (n c k : ℕ) → first_number f n c ≡ None → c ≤ k → k < c + n → f k ≡ None
unfolding first_number
first_none f zero c k h le lt = absurd (omega arith)
first_none f (suc n) c k h le lt =
    let parts = or_none (f c) (first_number f n (suc c)) h in
    elim (cases_lt c k) [
      | inl below ↦ first_none f n (suc c) k parts.1 below (omega arith)
      | inr past ↦ let same : c ≡ k = omega arith in ap f (sym same) ∙ parts.0
    ]

first_by : (p : ClassRecord → Bool) (x : ClassRecord) (xs : List ClassRecord) (a : ℕ) (d : ClassRecord) (b : Bool) → p x ≡ b → a < length (x ∷ xs) → p (get_or (x ∷ xs) a d) ≡ true → ((k : ℕ) → k < length xs → p (get_or xs k d) ≡ true → (i : ℕ) × (position p xs ≡ Some i) × (i ≤ k)) → (i : ℕ) × (position p (x ∷ xs) ≡ Some i) × (i ≤ a)
first_by p x xs a d true e lt h ih = (0, position_hit p x xs e, omega arith)
first_by p x xs zero d false e lt h ih = absurd (true≢false (sym h ∙ e))
first_by p x xs (suc a) d false e lt h ih = let r = ih a (omega arith) h in (r.0 + 1, position_behind p x xs r.0 e r.1, omega (arith, r.2))

place_first : (p : ClassRecord → Bool) (xs : List ClassRecord) (d : ClassRecord) (a : ℕ) → a < length xs → p (get_or xs a d) ≡ true → (i : ℕ) × (position p xs ≡ Some i) × (i ≤ a)
place_first p [] d a lt h = absurd (omega arith)
place_first p (x ∷ xs) d a lt h = first_by p x xs a d (p x) refl lt h (place_first p xs d)

if_none : (b : Bool) (x : WorldFault) → (if b then Some x else None) ≡ None → b ≡ false
if_none true x h = absurd cc
if_none false x h = refl

not_twice : (w : World) (b : ℕ) → twice w b ≡ None → is_twice w b ≡ false
unfolding twice
not_twice w b h = if_none (is_twice w b) (Twice (class_at w b).name) h

lower_twice : (w : World) (b i : ℕ) → position (is_named (class_at w b).name) w ≡ Some i → is_twice w b ≡ nat_lt i b
unfolding number_of
lower_twice w b i h = ap (λ o. option_map_or (λ d. nat_lt d b) o false) h

apart : (w : World) → first_class w (twice w) ≡ None → (a b : ℕ) → a < b → b < length w → (class_at w a).name ≡ (class_at w b).name → ⊥
apart w h a b lt lb e =
    let first = place_first (is_named (class_at w b).name) w object_class a (omega arith) ((bytes_eq-Decides (class_at w a).name (class_at w b).name).1 e) in
    let past : b ≤ first.0 = ltb-false first.0 b (sym (lower_twice w b first.0 first.1) ∙ not_twice w b (first_none (twice w) (length w) 0 b h (omega arith) (omega arith))) in
    omega (arith, past, first.2)

pub has_names : (w : World) → first_class w (twice w) ≡ None → HasNames w
has_names w h a b la lb e = elim (cases_lt a b) [
  | inl lt ↦ absurd (apart w h a b lt lb e)
  | inr ge ↦ elim (cases_lt b a) [ inl lt ↦ absurd (apart w h b a lt la (sym e)) | inr le ↦ omega arith ]
]

pub own_name : (w : World) → first_class w (twice w) ≡ None → (c : ℕ) → c < length w → number_of w (class_at w c).name ≡ Some c
unfolding number_of
own_name w h c lt =
    let first = place_first (is_named (class_at w c).name) w object_class c lt ((bytes_eq-Decides (class_at w c).name (class_at w c).name).1 refl) in
    let past : c ≤ first.0 = ltb-false first.0 c (sym (lower_twice w c first.0 first.1) ∙ not_twice w c (first_none (twice w) (length w) 0 c h (omega arith) (omega arith))) in
    let same : first.0 ≡ c = omega (arith, past, first.2) in
    first.1 ∙ ap Some same
