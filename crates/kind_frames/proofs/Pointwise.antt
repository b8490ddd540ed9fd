-- Lists of kinds, of one length, place by place.
use Rattle.std.proofs.Common.{◌≡◌, ◌⊎◌, inl, inr, ℕ, suc, ◌+◌, ◌*◌, ◌<◌, ◌≤◌, true, List, [], ◌∷◌, ◌++◌, length, refl, sym, ap, ◌∙◌, arith}
use Rattle.std.proofs.lemmas.Bool.{and_parts, and_from}
use Rattle.std.proofs.lemmas.List.{append-nil}
use Rattle.slot_facts.specs.declared.kind.Kind.{Kind}
use Rattle.slot_facts.specs.declared.kind.Kind.TheVariants as kinds
use Rattle.kind_frames.specs.Kinds.{is_below}
use Rattle.kind_frames.specs.Frames.{all_below, all_joined}
use Rattle.kind_frames.proofs.KindOrder.{Below, itself, below_is, is_below_of, antisymmetric, transitive, left_below, right_below, least, joined_above, level, level_rises}

-- each kind of the first list lies below that of the other
pub data Each : List Kind → List Kind → Type 0 where
  none : Each [] []
  more : {x y : Kind} {xs ys : List Kind} → Below x y → Each xs ys → Each (x ∷ xs) (y ∷ ys)

pub each_is : (xs ys : List Kind) → length xs ≡ length ys → all_below xs ys ≡ true → Each xs ys
each_is [] [] e h = none
each_is [] (y ∷ ys) e h = absurd (omega arith)
each_is (x ∷ xs) [] e h = absurd (omega arith)
each_is (x ∷ xs) (y ∷ ys) e h =
    let parts = and_parts (is_below x y) (all_below xs ys) h in
    more (below_is x y parts.0) (each_is xs ys (omega arith) parts.1)

pub is_each : {xs ys : List Kind} → Each xs ys → all_below xs ys ≡ true
is_each none = refl
is_each (more {x = x} {y = y} {xs = xs} {ys = ys} b rest) = and_from (is_below x y) (all_below xs ys) (is_below_of b) (is_each rest)

pub each_itself : (xs : List Kind) → Each xs xs
each_itself [] = none
each_itself (x ∷ xs) = more itself (each_itself xs)

pub each_antisymmetric : {xs ys : List Kind} → Each xs ys → Each ys xs → xs ≡ ys
each_antisymmetric none none = refl
each_antisymmetric (more {y = y} {xs = xs} b rest) (more c others) =
    ap (λ z. z ∷ xs) (antisymmetric b (is_below_of c)) ∙ ap (λ zs. y ∷ zs) (each_antisymmetric rest others)

pub each_transitive : {xs ys zs : List Kind} → Each xs ys → Each ys zs → Each xs zs
each_transitive none none = none
each_transitive (more b rest) (more c others) = more (transitive b c) (each_transitive rest others)

pub joined_length : (xs ys : List Kind) → length xs ≡ length ys → length (all_joined xs ys) ≡ length xs
joined_length [] ys e = refl
joined_length (x ∷ xs) [] e = absurd (omega arith)
joined_length (x ∷ xs) (y ∷ ys) e = ap (λ n. suc n) (joined_length xs ys (omega arith))

pub each_left : (xs ys : List Kind) → length xs ≡ length ys → Each xs (all_joined xs ys)
each_left [] ys e = none
each_left (x ∷ xs) [] e = absurd (omega arith)
each_left (x ∷ xs) (y ∷ ys) e = more (left_below x y) (each_left xs ys (omega arith))

pub each_right : (xs ys : List Kind) → length xs ≡ length ys → Each ys (all_joined xs ys)
each_right [] [] e = none
each_right [] (y ∷ ys) e = absurd (omega arith)
each_right (x ∷ xs) [] e = absurd (omega arith)
each_right (x ∷ xs) (y ∷ ys) e = more (right_below x y) (each_right xs ys (omega arith))

pub each_least : {xs ys zs : List Kind} → Each xs zs → Each ys zs → Each (all_joined xs ys) zs
each_least none none = none
each_least (more b rest) (more c others) = more (least b c) (each_least rest others)

pub all_joined_above : {xs ys : List Kind} → Each ys xs → all_joined xs ys ≡ xs
all_joined_above none = refl
all_joined_above (more {y = y} {xs = xs} {ys = ys} b rest) = ap (λ z. z ∷ all_joined ys xs) (joined_above b) ∙ ap (λ zs. y ∷ zs) (all_joined_above rest)

-- ---- how often a list can rise

abbrev pub levels : List Kind → ℕ
levels [] = 0
levels (x ∷ xs) = level x + levels xs

level_small : (x : Kind) → level x ≤ 3
level_small kinds.Int = omega arith
level_small kinds.Long = omega arith
level_small kinds.Pad = omega arith
level_small (kinds.Arr element) = omega arith
level_small kinds.Obj = omega arith
level_small kinds.Null = omega arith
level_small kinds.Top = omega arith

pub levels_small : (xs : List Kind) → levels xs ≤ 3 * length xs
levels_small [] = omega arith
levels_small (x ∷ xs) = let one = level_small x in let rest = levels_small xs in omega arith

rises_or_same : {x y : Kind} {xs ys : List Kind} → (x ≡ y) ⊎ (level x < level y) → (xs ≡ ys) ⊎ (levels xs < levels ys) → level x ≤ level y → levels xs ≤ levels ys → ((x ∷ xs) ≡ (y ∷ ys)) ⊎ (levels (x ∷ xs) < levels (y ∷ ys))
rises_or_same {y = y} {xs = xs} (inl e) (inl f) p q = inl (ap (λ z. z ∷ xs) e ∙ ap (λ zs. y ∷ zs) f)
rises_or_same (inl e) (inr f) p q = inr (omega arith)
rises_or_same (inr e) f p q = inr (omega arith)

pub levels_rise : {xs ys : List Kind} → Each xs ys → ((xs ≡ ys) ⊎ (levels xs < levels ys)) × (levels xs ≤ levels ys)
levels_rise none = (inl refl, omega arith)
levels_rise (more {x = x} {y = y} {xs = xs} {ys = ys} b rest) =
    let one = level_rises b in let others = levels_rise rest in
    (rises_or_same one.0 others.0 one.1 others.1, let p = one.1 in let q = others.1 in omega arith)

-- ---- a list that is joined kind by kind, at the end of one of the two

joined_with_none : (xs : List Kind) → all_joined xs [] ≡ []
joined_with_none [] = refl
joined_with_none (x ∷ xs) = refl

done_before : (kinds rest whole : List Kind) → rest ≡ [] → kinds ++ rest ≡ whole → kinds ≡ whole
done_before kinds rest whole e h = sym (append-nil kinds) ∙ ap (λ xs. kinds ++ xs) (sym e) ∙ h

none_of : (xs : List Kind) → length xs ≡ 0 → xs ≡ []
none_of [] e = refl
none_of (x ∷ xs) e = absurd (omega (arith, e))

pub first_ended : (kinds xs ys whole : List Kind) → length xs ≡ 0 → kinds ++ all_joined xs ys ≡ whole → kinds ≡ whole
first_ended kinds xs ys whole e h = done_before kinds (all_joined xs ys) whole (ap (λ zs. all_joined zs ys) (none_of xs e)) h

pub second_ended : (kinds xs ys whole : List Kind) → length ys ≡ 0 → kinds ++ all_joined xs ys ≡ whole → kinds ≡ whole
second_ended kinds xs ys whole e h = done_before kinds (all_joined xs ys) whole (ap (λ zs. all_joined xs zs) (none_of ys e) ∙ joined_with_none xs) h
