-- The ways through a term, by an algebra and from the last to the first.
use Rattle.std.proofs.Common.{◌≡◌, ℕ, zero, suc, ◌+◌, ◌<◌, List, [], ◌∷◌, ◌++◌, reverse, map, length, take, drop, get_or, refl, sym, ap, ◌∙◌, add-one, arith}
use Rattle.std.proofs.Math.ListN.{set}
use Rattle.std.proofs.lemmas.List.{reverse-append, map-append}
use Rattle.rule_terms.specs.declared.item.Item.{Item}
use Rattle.rule_terms.specs.declared.item.Item.TheVariants.{Assume, Spend, Fresh, Call}
use Rattle.rule_terms.specs.Terms.{Term, Ends, Assumes, Spends, Makes, Calls, Either}
use Rattle.rule_terms.specs.Algebra.{fold_of}
use Rattle.rule_terms.specs.Paths.{paths_of, behind, lister}

pub lister_lists : (t : Term) → fold_of lister t ≡ paths_of t
lister_lists Ends = refl
lister_lists (Assumes row rest) = ap (behind (Assume row)) (lister_lists rest)
lister_lists (Spends n rest) = ap (behind (Spend n)) (lister_lists rest)
lister_lists (Makes v rest) = ap (behind (Fresh v)) (lister_lists rest)
lister_lists (Calls node args rest) = ap (behind (Call node args)) (lister_lists rest)
lister_lists (Either first second) = ap (λ ps. ps ++ fold_of lister second) (lister_lists first) ∙ ap (λ ps. paths_of first ++ ps) (lister_lists second)

pub behind_reverse : (item : Item) (paths : List (List Item)) → behind item (reverse paths) ≡ reverse (behind item paths)
behind_reverse item [] = refl
behind_reverse item (path ∷ paths) =
    let f = λ (p : List Item). item ∷ p in
    ap (map f) (reverse-append (path ∷ []) paths) ∙ map-append f (reverse paths) (path ∷ []) ∙ ap (λ ps. ps ++ (item ∷ path) ∷ []) (behind_reverse item paths)
    ∙ sym (reverse-append ((item ∷ path) ∷ []) (behind item paths))

-- one list more has the item before it
put_next : (item : Item) (xs : List (List Item)) (i : ℕ) (d : List Item) → i < length xs → set (behind item (take i xs) ++ drop i xs) i (item ∷ get_or (behind item (take i xs) ++ drop i xs) i d) ≡ behind item (take (suc i) xs) ++ drop (suc i) xs
put_next item [] i d low = absurd (lt_none i low)
  where
    lt_none : (i : ℕ) → i < 0 → ⊥
    lt_none i low = omega arith
put_next item (x ∷ xs) zero d low = refl
put_next item (x ∷ xs) (suc i) d low = ap (λ (ps : List (List Item)). (item ∷ x) ∷ ps) (put_next item xs i d (omega arith))

pub put_at : (item : Item) (xs ys : List (List Item)) (i : ℕ) (d : List Item) → i < length xs → ys ≡ behind item (take i xs) ++ drop i xs → d ≡ get_or ys i d → set ys i (item ∷ d) ≡ behind item (take (i + 1) xs) ++ drop (i + 1) xs
put_at item xs ys i d low e is =
    rw add-one (ap (λ (x : List Item). set ys i (item ∷ x)) is ∙ ap (λ (zs : List (List Item)). set zs i (item ∷ get_or zs i d)) e ∙ put_next item xs i d low)
