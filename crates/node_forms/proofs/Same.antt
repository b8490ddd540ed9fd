-- Items that compare equal are the same.
use Rattle.std.proofs.Common.{◌≡◌, ℕ, Bool, true, false, ◌&&◌, ℤ, List, [], ◌∷◌, refl, ap, ◌∙◌}
use Rattle.std.specs.Ordering.{int_eq}
use Rattle.std.proofs.lemmas.Bool.{eqb-true}
use Rattle.std.proofs.lemmas.Bool.Decides.{Decides-int_eq}
use lib.Pointwise.{pointwise}
use Rattle.lin_rows.specs.declared.row.Row.{Row}
use Rattle.lin_rows.specs.Linear.{Linear}
use Rattle.rule_terms.specs.declared.item.Item.{Item}
use Rattle.rule_terms.specs.declared.item.Item.TheVariants.{Assume, Spend, Fresh, Call}
use Rattle.node_forms.specs.Parts.{lin_eq, item_eq, items_eq}

left : (a b : Bool) → (a && b) ≡ true → a ≡ true
left true b e = refl
left false b e = e

right : (a b : Bool) → (a && b) ≡ true → b ≡ true
right true b e = e
right false b e = absurd (let f : ⊥ = cc in f)

all_same : {A : Type 0} (eq : A → A → Bool) → ((x y : A) → eq x y ≡ true → x ≡ y) → (xs ys : List A) → pointwise eq xs ys ≡ true → xs ≡ ys
all_same eq one [] [] e = refl
all_same eq one [] (y ∷ ys) e = absurd (let f : ⊥ = cc in f)
all_same eq one (x ∷ xs) [] e = absurd (let f : ⊥ = cc in f)
all_same eq one (x ∷ xs) (y ∷ ys) e =
    ap (λ z. z ∷ xs) (one x y (left (eq x y) (pointwise eq xs ys) e)) ∙ ap (λ zs. y ∷ zs) (all_same eq one xs ys (right (eq x y) (pointwise eq xs ys) e))

int_same : (x y : ℤ) → int_eq x y ≡ true → x ≡ y
int_same x y e = (Decides-int_eq x y).0 e

lin_same : (a b : Linear) → lin_eq a b ≡ true → a ≡ b
lin_same a b e =
    let cs = pointwise int_eq a.coefficients b.coefficients in
    let k = int_eq a.constant b.constant in
    ap (λ (xs : List ℤ). let l : Linear = record { coefficients = xs; constant = a.constant } in l) (all_same int_eq int_same a.coefficients b.coefficients (left cs k e))
    ∙ ap (λ (z : ℤ). let l : Linear = record { coefficients = b.coefficients; constant = z } in l) (int_same a.constant b.constant (right cs k e))

row_same : (a b : Row) → lin_eq a.lin b.lin ≡ true → a ≡ b
row_same a b e = ap (λ (l : Linear). let r : Row = record { lin = l } in r) (lin_same a.lin b.lin e)

no_item : {P : Type 0} → false ≡ true → P
no_item e = absurd (let f : ⊥ = cc in f)

item_same : (x y : Item) → item_eq x y ≡ true → x ≡ y
item_same (Assume a) (Assume b) e = ap Assume (row_same a b e)
item_same (Assume a) (Spend m) e = no_item e
item_same (Assume a) (Fresh w) e = no_item e
item_same (Assume a) (Call m ys) e = no_item e
item_same (Spend n) (Assume b) e = no_item e
item_same (Spend n) (Spend m) e = ap Spend (eqb-true n m e)
item_same (Spend n) (Fresh w) e = no_item e
item_same (Spend n) (Call m ys) e = no_item e
item_same (Fresh v) (Assume b) e = no_item e
item_same (Fresh v) (Spend m) e = no_item e
item_same (Fresh v) (Fresh w) e = ap Fresh (eqb-true v w e)
item_same (Fresh v) (Call m ys) e = no_item e
item_same (Call n xs) (Assume b) e = no_item e
item_same (Call n xs) (Spend m) e = no_item e
item_same (Call n xs) (Fresh w) e = no_item e
item_same (Call n xs) (Call m ys) e = call_same n m xs ys e
  where
    call_same : (n m : ℕ) (xs ys : List Linear) → item_eq (Call n xs) (Call m ys) ≡ true → Call n xs ≡ Call m ys
    call_same n m xs ys e =
        ap (λ (k : ℕ). Call k xs) (eqb-true n m (left _ (pointwise lin_eq xs ys) e)) ∙ ap (λ (zs : List Linear). Call m zs) (all_same lin_eq lin_same xs ys (right _ (pointwise lin_eq xs ys) e))

pub items_same : (xs ys : List Item) → items_eq xs ys ≡ true → xs ≡ ys
items_same xs ys e = all_same item_eq item_same xs ys e
