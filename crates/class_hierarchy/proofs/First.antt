-- Lists with the same first element for each test.
use Rattle.std.proofs.Common.{◌≡◌, ℕ, ◌+◌, ◌<◌, Bool, true, false, List, [], ◌∷◌, ◌++◌, length, take, Option, Some, None, arith, refl, sym, ap, ◌∙◌, nat_eq, append_assoc, append-nil, get_or, if◌then◌else◌}
use Rattle.std.specs.Prelude.{find, is_some}
use Rattle.std.specs.Option.{option_or}
use Rattle.std.specs.List.{flat_map, list_any}
use Rattle.std.proofs.lemmas.Bool.{eq-eqb, or_right}
use Rattle.std.proofs.lemmas.Grind.{common_steps}
use Rattle.indexmap.specs.IndexSet.{insert_key}
use Rattle.std.proofs.lemmas.List.Folds.{find-append}
use Rattle.common_laws.proofs.Numbers.{listed_contains}
use Rattle.common_laws.proofs.Tests.{any_find, find_misses}
use Rattle.class_hierarchy.specs.Tables.{SameFirst}

pub same_append : (a b c d : List ℕ) → SameFirst a b → SameFirst c d → SameFirst (a ++ c) (b ++ d)
same_append a b c d f g = record {
  same = λ p. find-append p a c ∙ ap (λ o. option_or o (find p c)) (f.same p) ∙ ap (λ o. option_or (find p b) o) (g.same p) ∙ sym (find-append p b d);
}

pub same_self : (a : List ℕ) → SameFirst a a
same_self a = record { same = λ p. refl }

pub same_trans : (a b c : List ℕ) → SameFirst a b → SameFirst b c → SameFirst a c
same_trans a b c f g = record { same = λ p. f.same p ∙ g.same p }

-- ---- tests

or_miss : (o : Option ℕ) (y : ℕ) (p : ℕ → Bool) → (o ≡ None → p y ≡ false) → option_or o (find p (y ∷ [])) ≡ o
or_miss (Some x) y p h = refl
or_miss None y p h = rw (h refl) refl

-- ---- what is added

pub add_more : (a b xs ys zs : List ℕ) → SameFirst a (b ++ xs) → SameFirst zs (a ++ ys) → SameFirst zs (b ++ (xs ++ ys))
add_more a b xs ys zs f g = rw (← append_assoc b xs ys) (same_trans zs (a ++ ys) (b ++ xs ++ ys) g (same_append a (b ++ xs) ys ys f (same_self ys)))

pub add_next : (a b zs : List ℕ) (xs : List ℕ) (i : ℕ) → i < length xs → SameFirst a (b ++ take i xs) → SameFirst zs (a ++ get_or xs i 0 ∷ []) → SameFirst zs (b ++ take (i + 1) xs)
add_next a b zs xs i h f g = let e : take (i + 1) xs ≡ take i xs ++ get_or xs i 0 ∷ [] = grind (arith, common_steps) in rw e (add_more a b (take i xs) (get_or xs i 0 ∷ []) zs f g)

pub flat_next : (f : ℕ → List ℕ) (xs : List ℕ) (i : ℕ) → i < length xs → flat_map f (take (i + 1) xs) ≡ flat_map f (take i xs) ++ f (get_or xs i 0)
flat_next f xs i h = grind (arith, common_steps)

pub same_next : (f : ℕ → List ℕ) (a zs xs : List ℕ) (i : ℕ) → i < length xs → SameFirst a (flat_map f (take i xs)) → SameFirst zs (a ++ f (get_or xs i 0)) → SameFirst zs (flat_map f (take (i + 1) xs))
same_next f a zs xs i h g k = rw (flat_next f xs i h) (same_trans zs (a ++ f (get_or xs i 0)) (flat_map f (take i xs) ++ f (get_or xs i 0)) k (same_append a (flat_map f (take i xs)) (f (get_or xs i 0)) (f (get_or xs i 0)) g (same_self (f (get_or xs i 0)))))

-- ---- more members

same_listed : (y : ℕ) (xs : List ℕ) → list_any (nat_eq y) xs ≡ true → SameFirst xs (xs ++ y ∷ [])
same_listed y xs there = record {
  same = λ p. sym (find-append p xs (y ∷ []) ∙ or_miss (find p xs) y p (λ none. find_misses p xs y none (listed_contains y xs there)));
}

-- members again change no first one
pub same_members : (xs ys : List ℕ) → ((d : ℕ) → list_any (nat_eq d) ys ≡ true → list_any (nat_eq d) xs ≡ true) → SameFirst xs (xs ++ ys)
same_members xs [] h = rw (append-nil xs) (same_self xs)
same_members xs (y ∷ ys) h =
    let here : list_any (nat_eq y) xs ≡ true = h y (rw (eq-eqb y y refl) refl) in
    let rest : SameFirst xs (xs ++ ys) = same_members xs ys (λ d k. h d (or_right (nat_eq d y) (list_any (nat_eq d) ys) k)) in
    rw (← append_assoc xs (y ∷ []) ys) (same_trans xs (xs ++ ys) ((xs ++ y ∷ []) ++ ys) rest (same_append xs (xs ++ y ∷ []) ys ys (same_listed y xs here) (same_self ys)))

insert_by : (b : Bool) (xs zs : List ℕ) (y : ℕ) → list_any (nat_eq y) xs ≡ b → zs ≡ (if b then xs else xs ++ y ∷ []) → SameFirst zs (xs ++ y ∷ [])
insert_by true xs zs y there e = rw e (same_listed y xs there)
insert_by false xs zs y there e = rw e (same_self (xs ++ y ∷ []))

pub insert_same : (xs zs : List ℕ) (y : ℕ) → zs ≡ insert_key nat_eq xs y → SameFirst zs (xs ++ y ∷ [])
insert_same xs zs y e = insert_by (list_any (nat_eq y) xs) xs zs y refl e

pub each_next : (f : ℕ → List ℕ) (a b zs xs : List ℕ) (i : ℕ) → i < length xs → SameFirst a (b ++ flat_map f (take i xs)) → SameFirst zs (a ++ f (get_or xs i 0)) → SameFirst zs (b ++ flat_map f (take (i + 1) xs))
each_next f a b zs xs i h g k = rw (flat_next f xs i h) (add_more a b (flat_map f (take i xs)) (f (get_or xs i 0)) zs g k)

pub any_same : (p : ℕ → Bool) (xs ys : List ℕ) → SameFirst xs ys → list_any p xs ≡ list_any p ys
any_same p xs ys h = any_find p xs ∙ ap (λ o. is_some o) (h.same p) ∙ sym (any_find p ys)
