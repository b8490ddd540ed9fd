-- Lists of flags, of one length, place by place: the first says at least as much as the second.
use Rattle.std.proofs.Common.{◌≡◌, ◌⊎◌, inl, inr, ℕ, zero, suc, ◌+◌, ◌<◌, ◌≤◌, Bool, true, false, List, [], ◌∷◌, ◌++◌, length, take, drop, set, get_or, refl, sym, ap, ◌∙◌, arith}
use Rattle.std.proofs.lemmas.Bool.{and_parts, and_from}
use Rattle.std.proofs.lemmas.List.{append-nil}
use Rattle.std.specs.Prelude.{◌&&◌, ◌||◌, not}
use Rattle.null_flow.specs.Facts.{all_below, all_joined}

-- what is known to be no null by the second is so by the first
pub data Under : Bool → Bool → Type 0 where
  itself : {x : Bool} → Under x x
  lost : Under true false

pub under_is : (x y : Bool) → (x || not y) ≡ true → Under x y
under_is true true h = itself
under_is true false h = lost
under_is false true h = absurd cc
under_is false false h = itself

pub is_under : {x y : Bool} → Under x y → (x || not y) ≡ true
is_under {x = true} itself = refl
is_under {x = false} itself = refl
is_under lost = refl

under_antisymmetric : {x y : Bool} → Under x y → Under y x → x ≡ y
under_antisymmetric itself other = refl
under_antisymmetric {x = true} {y = false} lost other = absurd (let e = is_under other in cc)

under_transitive : {x y z : Bool} → Under x y → Under y z → Under x z
under_transitive itself other = other
under_transitive lost itself = lost

pub under_false : (x : Bool) → Under x false
under_false true = lost
under_false false = itself

left_under : (x y : Bool) → Under x (x && y)
left_under true true = itself
left_under true false = lost
left_under false y = itself

right_under : (x y : Bool) → Under y (x && y)
right_under true y = itself
right_under false y = under_false y

least_under : (x y z : Bool) → Under x z → Under y z → Under (x && y) z
least_under true y z p q = q
least_under false y z p q = p

joined_under : (x y : Bool) → Under y x → (x && y) ≡ x
joined_under true true p = refl
joined_under true false p = absurd (let e = is_under p in cc)
joined_under false y p = refl

-- ---- lists

pub data Each : List Bool → List Bool → Type 0 where
  none : Each [] []
  more : {x y : Bool} {xs ys : List Bool} → Under x y → Each xs ys → Each (x ∷ xs) (y ∷ ys)

pub each_is : (xs ys : List Bool) → length xs ≡ length ys → all_below xs ys ≡ true → Each xs ys
each_is [] [] e h = none
each_is [] (y ∷ ys) e h = absurd (omega arith)
each_is (x ∷ xs) [] e h = absurd (omega arith)
each_is (x ∷ xs) (y ∷ ys) e h =
    let parts = and_parts (x || not y) (all_below xs ys) h in
    more (under_is x y parts.0) (each_is xs ys (omega arith) parts.1)

pub is_each : {xs ys : List Bool} → Each xs ys → all_below xs ys ≡ true
is_each none = refl
is_each (more {x = x} {y = y} {xs = xs} {ys = ys} b rest) = and_from (x || not y) (all_below xs ys) (is_under b) (is_each rest)

pub each_itself : (xs : List Bool) → Each xs xs
each_itself [] = none
each_itself (x ∷ xs) = more itself (each_itself xs)

pub each_antisymmetric : {xs ys : List Bool} → Each xs ys → Each ys xs → xs ≡ ys
each_antisymmetric none none = refl
each_antisymmetric (more {y = y} {xs = xs} b rest) (more c others) =
    ap (λ z. z ∷ xs) (under_antisymmetric b c) ∙ ap (λ zs. y ∷ zs) (each_antisymmetric rest others)

pub each_transitive : {xs ys zs : List Bool} → Each xs ys → Each ys zs → Each xs zs
each_transitive none none = none
each_transitive (more b rest) (more c others) = more (under_transitive b c) (each_transitive rest others)

pub joined_length : (xs ys : List Bool) → length xs ≡ length ys → length (all_joined xs ys) ≡ length xs
joined_length [] ys e = refl
joined_length (x ∷ xs) [] e = absurd (omega arith)
joined_length (x ∷ xs) (y ∷ ys) e = ap (λ n. suc n) (joined_length xs ys (omega arith))

pub each_left : (xs ys : List Bool) → length xs ≡ length ys → Each xs (all_joined xs ys)
each_left [] ys e = none
each_left (x ∷ xs) [] e = absurd (omega arith)
each_left (x ∷ xs) (y ∷ ys) e = more (left_under x y) (each_left xs ys (omega arith))

pub each_right : (xs ys : List Bool) → length xs ≡ length ys → Each ys (all_joined xs ys)
each_right [] [] e = none
each_right [] (y ∷ ys) e = absurd (omega arith)
each_right (x ∷ xs) [] e = absurd (omega arith)
each_right (x ∷ xs) (y ∷ ys) e = more (right_under x y) (each_right xs ys (omega arith))

pub each_least : {xs ys zs : List Bool} → Each xs zs → Each ys zs → Each (all_joined xs ys) zs
each_least none none = none
each_least (more {x = x} {y = z} b rest) (more {x = y} c others) = more (least_under x y z b c) (each_least rest others)

pub all_joined_above : {xs ys : List Bool} → Each ys xs → all_joined xs ys ≡ xs
all_joined_above none = refl
all_joined_above (more {x = y} {y = x} {xs = ys} {ys = xs} b rest) =
    ap (λ z. z ∷ all_joined xs ys) (joined_under x y b) ∙ ap (λ zs. x ∷ zs) (all_joined_above rest)

-- ---- how often a list can rise

abbrev pub level : Bool → ℕ
level true = 0
level false = 1

abbrev pub levels : List Bool → ℕ
levels [] = 0
levels (x ∷ xs) = level x + levels xs

level_small : (x : Bool) → level x ≤ 1
level_small true = omega arith
level_small false = omega arith

pub levels_small : (xs : List Bool) → levels xs ≤ length xs
levels_small [] = omega arith
levels_small (x ∷ xs) = let one = level_small x in let rest = levels_small xs in omega arith

level_rises : {x y : Bool} → Under x y → ((x ≡ y) ⊎ (level x < level y)) × (level x ≤ level y)
level_rises itself = (inl refl, omega arith)
level_rises lost = (inr (omega arith), omega arith)

rises_or_same : {x y : Bool} {xs ys : List Bool} → (x ≡ y) ⊎ (level x < level y) → (xs ≡ ys) ⊎ (levels xs < levels ys) → level x ≤ level y → levels xs ≤ levels ys → ((x ∷ xs) ≡ (y ∷ ys)) ⊎ (levels (x ∷ xs) < levels (y ∷ ys))
rises_or_same {y = y} {xs = xs} (inl e) (inl f) p q = inl (ap (λ z. z ∷ xs) e ∙ ap (λ zs. y ∷ zs) f)
rises_or_same (inl e) (inr f) p q = inr (omega arith)
rises_or_same (inr e) f p q = inr (omega arith)

pub levels_rise : {xs ys : List Bool} → Each xs ys → ((xs ≡ ys) ⊎ (levels xs < levels ys)) × (levels xs ≤ levels ys)
levels_rise none = (inl refl, omega arith)
levels_rise (more {x = x} {y = y} {xs = xs} {ys = ys} b rest) =
    let one = level_rises b in let others = levels_rise rest in
    (rises_or_same one.0 others.0 one.1 others.1, let p = one.1 in let q = others.1 in omega arith)

-- ---- lists that are made of others

pub each_length : {xs ys : List Bool} → Each xs ys → length xs ≡ length ys
each_length none = refl
each_length (more b rest) = ap (λ n. suc n) (each_length rest)

pub each_append : {xs ys us vs : List Bool} → Each xs ys → Each us vs → Each (xs ++ us) (ys ++ vs)
each_append none others = others
each_append (more b rest) others = more b (each_append rest others)

pub each_take : {xs ys : List Bool} (n : ℕ) → Each xs ys → Each (take n xs) (take n ys)
each_take zero each = none
each_take (suc n) none = none
each_take (suc n) (more b rest) = more b (each_take n rest)

pub each_drop : {xs ys : List Bool} (n : ℕ) → Each xs ys → Each (drop n xs) (drop n ys)
each_drop zero each = each
each_drop (suc n) none = none
each_drop (suc n) (more b rest) = each_drop n rest

pub each_set : {xs ys : List Bool} {x y : Bool} (n : ℕ) → Under x y → Each xs ys → Each (set xs n x) (set ys n y)
each_set n b none = none
each_set zero b (more c rest) = more b rest
each_set (suc n) b (more c rest) = more c (each_set n b rest)

pub each_at : {xs ys : List Bool} (n : ℕ) → Each xs ys → Under (get_or xs n false) (get_or ys n false)
each_at n none = itself
each_at zero (more b rest) = b
each_at (suc n) (more b rest) = each_at n rest

-- ---- a list that is joined flag by flag, at the end of one of the two

joined_with_none : (xs : List Bool) → all_joined xs [] ≡ []
joined_with_none [] = refl
joined_with_none (x ∷ xs) = refl

done_before : (flags rest whole : List Bool) → rest ≡ [] → flags ++ rest ≡ whole → flags ≡ whole
done_before flags rest whole e h = sym (append-nil flags) ∙ ap (λ xs. flags ++ xs) (sym e) ∙ h

none_of : (xs : List Bool) → length xs ≡ 0 → xs ≡ []
none_of [] e = refl
none_of (x ∷ xs) e = absurd (omega (arith, e))

pub first_ended : (flags xs ys whole : List Bool) → length xs ≡ 0 → flags ++ all_joined xs ys ≡ whole → flags ≡ whole
first_ended flags xs ys whole e h = done_before flags (all_joined xs ys) whole (ap (λ zs. all_joined zs ys) (none_of xs e)) h

pub second_ended : (flags xs ys whole : List Bool) → length ys ≡ 0 → flags ++ all_joined xs ys ≡ whole → flags ≡ whole
second_ended flags xs ys whole e h = done_before flags (all_joined xs ys) whole (ap (λ zs. all_joined xs zs) (none_of ys e) ∙ joined_with_none xs) h
