-- Lists of traces, each of the first with each of the second behind it.
use Rattle.std.proofs.Common.{◌≡◌, List, [], ◌∷◌, ◌++◌, map, refl, sym, ap, ap₂, ◌∙◌, append_assoc}
use Rattle.std.specs.List.{flat_map, Contains}
use Rattle.std.proofs.lemmas.List.{map-append}
use Rattle.std.proofs.lemmas.Grind.{flat_map-append}
use Rattle.base_relations.specs.Steps.{Step, Enters, Leaves, Trace}
use Rattle.lin_rows.specs.Linear.{Linear}
use Rattle.base_relations.specs.inside.Expansions.{combined}

pub append_nil : {A : Type 0} (xs : List A) → xs ++ [] ≡ xs
append_nil [] = refl
append_nil (x ∷ xs) = ap (λ ys. x ∷ ys) (append_nil xs)

pub map_same : {A B : Type 0} (f g : A → B) (xs : List A) → ((x : A) → f x ≡ g x) → map f xs ≡ map g xs
map_same f g [] h = refl
map_same f g (x ∷ xs) h = ap₂ (λ y ys. y ∷ ys) (h x) (map_same f g xs h)

pub map_map : {A B C : Type 0} (g : B → C) (f : A → B) (xs : List A) → map g (map f xs) ≡ map (λ x. g (f x)) xs
map_map g f [] = refl
map_map g f (x ∷ xs) = ap (λ ys. g (f x) ∷ ys) (map_map g f xs)

pub map_itself : {A : Type 0} (xs : List A) → map (λ x. x) xs ≡ xs
map_itself [] = refl
map_itself (x ∷ xs) = ap (λ ys. x ∷ ys) (map_itself xs)

pub combined_append : (xs ys zs : List Trace) → combined (xs ++ ys) zs ≡ combined xs zs ++ combined ys zs
combined_append xs ys zs = flat_map-append (λ (x : Trace). map (λ (y : Trace). x ++ y) zs) xs ys

-- one step before each
pub combined_one : (s : Step) (ys : List Trace) → combined ((s ∷ []) ∷ []) ys ≡ map (λ (y : Trace). s ∷ y) ys
combined_one s ys = append_nil (map (λ (y : Trace). s ∷ y) ys)

combined_none : (ys : List Trace) → combined ([] ∷ []) ys ≡ ys
combined_none ys = append_nil (map (λ (y : Trace). y) ys) ∙ map_itself ys

combined_map : (x : Trace) (ys zs : List Trace) → combined (map (λ (y : Trace). x ++ y) ys) zs ≡ map (λ (y : Trace). x ++ y) (combined ys zs)
combined_map x [] zs = refl
combined_map x (y ∷ ys) zs =
    ap₂ (λ (a b : List Trace). a ++ b)
    (map_same (λ (z : Trace). (x ++ y) ++ z) (λ (z : Trace). x ++ (y ++ z)) zs (λ z. append_assoc x y z) ∙ sym (map_map (λ (z : Trace). x ++ z) (λ (z : Trace). y ++ z) zs))
    (combined_map x ys zs)
    ∙ sym (map-append (λ (z : Trace). x ++ z) (map (λ (z : Trace). y ++ z) zs) (combined ys zs))

pub combined_assoc : (xs ys zs : List Trace) → combined (combined xs ys) zs ≡ combined xs (combined ys zs)
combined_assoc [] ys zs = refl
combined_assoc (x ∷ xs) ys zs =
    combined_append (map (λ (y : Trace). x ++ y) ys) (combined xs ys) zs ∙ ap₂ (λ (a b : List Trace). a ++ b) (combined_map x ys zs) (combined_assoc xs ys zs)

pub combined_start : (ys : List Trace) → combined ([] ∷ []) ys ≡ ys
combined_start ys = combined_none ys

-- a rule in a call's place
pub bracketed : (args : List Linear) (xs ys : List Trace) →
    combined (map (λ (t : Trace). Enters args ∷ (t ++ Leaves ∷ [])) xs) ys ≡ map (λ (t : Trace). Enters args ∷ t) (combined xs (map (λ (y : Trace). Leaves ∷ y) ys))
bracketed args [] ys = refl
bracketed args (x ∷ xs) ys =
    ap₂ (λ (a b : List Trace). a ++ b) one (bracketed args xs ys)
    ∙ sym (map-append (λ (t : Trace). Enters args ∷ t) (map (λ (z : Trace). x ++ z) (map (λ (y : Trace). Leaves ∷ y) ys)) (combined xs (map (λ (y : Trace). Leaves ∷ y) ys)))
  where
    one : map (λ (y : Trace). (Enters args ∷ (x ++ Leaves ∷ [])) ++ y) ys ≡ map (λ (t : Trace). Enters args ∷ t) (map (λ (z : Trace). x ++ z) (map (λ (y : Trace). Leaves ∷ y) ys))
    one =
        map_same (λ (y : Trace). (Enters args ∷ (x ++ Leaves ∷ [])) ++ y) (λ (y : Trace). Enters args ∷ (x ++ Leaves ∷ y)) ys (λ y. ap (λ (t : Trace). Enters args ∷ t) (append_assoc x (Leaves ∷ []) y))
        ∙ sym (map_map (λ (t : Trace). Enters args ∷ t) (λ (y : Trace). x ++ Leaves ∷ y) ys) ∙ ap (map (λ (t : Trace). Enters args ∷ t)) (sym (map_map (λ (z : Trace). x ++ z) (λ (y : Trace). Leaves ∷ y) ys))
