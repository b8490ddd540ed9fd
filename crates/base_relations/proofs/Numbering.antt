-- Steps of the loops that make numbers, expressions and items.
use Rattle.std.proofs.Common.{◌≡◌, ◌⊎◌, ℕ, zero, suc, ◌+◌, ◌<◌, ◌≤◌, min, nat_eq, Bool, true, false, ℤ, pos, List, [], ◌∷◌, ◌++◌, length, map, Option, Some, None, if◌then◌else◌, refl, sym, ap, ◌∙◌, subst, arith, get_or, drop, take, set, ⊎_elim, inl, inr, add-one, cond}
use Rattle.std.specs.Ordering.{int_eq}
use Rattle.std.proofs.lemmas.Bool.{cases_lt, eq-eqb, ne_eqb}
use Rattle.std.proofs.lemmas.List.{drop_more, drop_all, take_more_set, drop-set-lt, take-append-drop}
use Rattle.q128.specs.Rule.{◌>>=◌}
use Rattle.lin_rows.specs.Linear.{Linear}
use Rattle.rule_terms.specs.declared.item.Item.{Item}
use Rattle.base_relations.specs.declared.making.Frame.{Frame}
use Rattle.base_relations.specs.declared.making.Making.{Making}
use Rattle.base_relations.specs.declared.part.Done.{Done}
use Rattle.base_relations.specs.Steps.{Step, Does, Enters, Leaves}
use Rattle.base_relations.specs.Substitution.{number_added, places_added, number_of, term_added, terms_added, places_moved}
use Rattle.base_relations.specs.Making.{lin_made, lins_made, step_made, steps_made}
use Rattle.base_relations.specs.inside.Trails.{done_step}

-- ---- numbers of variables
pub number_past : (made : List (ℕ × ℕ)) (i v : ℕ) (p : ℕ × ℕ) → i < length made → p ≡ get_or made i p → (p.0 ≡ v → ⊥) → number_of (drop i made) v ≡ number_of (drop (i + 1) made) v
number_past made i v p low is h =
    ap (λ (ps : List (ℕ × ℕ)). number_of ps v) (drop_more made i p low)
    ∙ ap (λ (q : ℕ × ℕ). if nat_eq q.0 v then q.1 else number_of (drop (i + 1) made) v) (sym is) ∙ ap (λ (b : Bool). if b then p.1 else number_of (drop (i + 1) made) v) (ne_eqb p.0 v h)

pub number_here : (made : List (ℕ × ℕ)) (i v : ℕ) (p : ℕ × ℕ) → i < length made → p ≡ get_or made i p → p.0 ≡ v → number_of (drop i made) v ≡ p.1
number_here made i v p low is h =
    ap (λ (ps : List (ℕ × ℕ)). number_of ps v) (drop_more made i p low)
    ∙ ap (λ (q : ℕ × ℕ). if nat_eq q.0 v then q.1 else number_of (drop (i + 1) made) v) (sym is) ∙ ap (λ (b : Bool). if b then p.1 else number_of (drop (i + 1) made) v) (eq-eqb p.0 v h)

pub number_none : (made : List (ℕ × ℕ)) (i v : ℕ) → length made ≤ i → number_of (drop i made) v ≡ v
number_none made i v h = ap (λ (ps : List (ℕ × ℕ)). number_of ps v) (drop_all i made h)

-- ---- places
places_added_more : (xs : List ℤ) (k : ℤ) (cs : List ℤ) (i : ℕ) (x c : ℤ) → i < length cs → i < length xs →
    places_added (take i xs) (drop i xs) k (drop i cs) ≡ (number_added (get_or xs i x) k (get_or cs i c) >>= λ y. places_added (take i xs ++ y ∷ []) (drop (i + 1) xs) k (drop (i + 1) cs))
unfolding places_added
places_added_more xs k cs i x c h l = rw (drop_more cs i c h, drop_more xs i x l) refl

pub places_some : (xs : List ℤ) (k : ℤ) (cs : List ℤ) (i : ℕ) (y : ℤ) (all : Option (List ℤ)) → i < length cs → i < length xs → number_added (get_or xs i (pos 0)) k (get_or cs i (pos 0)) ≡ Some y
    → places_added (take i xs) (drop i xs) k (drop i cs) ≡ all → places_added (take (i + 1) (set xs i y)) (drop (i + 1) (set xs i y)) k (drop (i + 1) cs) ≡ all
places_some xs k cs i y all h l was f =
    rw (take_more_set xs i y l, drop-set-lt (i + 1) xs i y (omega arith))
    (ap (λ s. s >>= λ z. places_added (take i xs ++ z ∷ []) (drop (i + 1) xs) k (drop (i + 1) cs)) (sym was) ∙ sym (places_added_more xs k cs i (pos 0) (pos 0) h l) ∙ f)

pub places_none : (xs : List ℤ) (k : ℤ) (cs : List ℤ) (i : ℕ) (all : Option (List ℤ)) → i < length cs → i < length xs → number_added (get_or xs i (pos 0)) k (get_or cs i (pos 0)) ≡ None
    → places_added (take i xs) (drop i xs) k (drop i cs) ≡ all → all ≡ None
places_none xs k cs i all h l was f =
    sym f ∙ places_added_more xs k cs i (pos 0) (pos 0) h l ∙ ap (λ s. s >>= λ z. places_added (take i xs ++ z ∷ []) (drop (i + 1) xs) k (drop (i + 1) cs)) was

no_coefficients : (done xs : List ℤ) (k : ℤ) → places_added done xs k [] ≡ Some (done ++ xs)
unfolding places_added
no_coefficients done xs k = refl

no_places : (done : List ℤ) (k : ℤ) (cs : List ℤ) → places_added done [] k cs ≡ Some done
unfolding places_added
no_places done k [] = ap (λ (ys : List ℤ). Some ys) (append_nil done)
  where
    append_nil : (ys : List ℤ) → ys ++ [] ≡ ys
    append_nil [] = refl
    append_nil (y ∷ ys) = ap (λ zs. y ∷ zs) (append_nil ys)
no_places done k (c ∷ cs) = refl

take_whole : (xs : List ℤ) (i : ℕ) → length xs ≤ i → take i xs ≡ xs
take_whole [] zero h = refl
take_whole [] (suc i) h = refl
take_whole (x ∷ xs) zero h = absurd (omega arith)
take_whole (x ∷ xs) (suc i) h = ap (λ ys. x ∷ ys) (take_whole xs i (omega arith))

pub places_end : (xs : List ℤ) (k : ℤ) (cs : List ℤ) (i : ℕ) (all : Option (List ℤ)) → min (length cs) (length xs) ≤ i → places_added (take i xs) (drop i xs) k (drop i cs) ≡ all → all ≡ Some xs
places_end xs k cs i all h f = ⊎_elim by_coefficients by_places one
  where
    one : (length cs ≤ i) ⊎ (length xs ≤ i)
    one = ⊎_elim (λ l. inr (omega arith)) (λ l. inl l) (cases_lt i (length cs))

    by_coefficients : length cs ≤ i → all ≡ Some xs
    by_coefficients l = sym f ∙ ap (λ (es : List ℤ). places_added (take i xs) (drop i xs) k es) (drop_all i cs l) ∙ no_coefficients (take i xs) (drop i xs) k ∙ ap (λ (ys : List ℤ). Some ys) (take-append-drop i xs)

    by_places : length xs ≤ i → all ≡ Some xs
    by_places l =
        sym f ∙ ap (λ (es : List ℤ). places_added (take i xs) es k (drop i cs)) (drop_all i xs l) ∙ no_places (take i xs) k (drop i cs) ∙ ap (λ (ys : List ℤ). Some ys) (take_whole xs i l)

-- ---- terms
terms_more : (args : List Linear) (made : List (ℕ × ℕ)) (sum : Linear) (cs : List ℤ) (v : ℕ) → v < length cs →
    terms_added args made sum v (drop v cs) ≡ (term_added args made sum v (get_or cs v (pos 0)) >>= λ next. terms_added args made next (v + 1) (drop (v + 1) cs))
unfolding terms_added
terms_more args made sum cs v h = rw (drop_more cs v (pos 0) h, add-one) refl

pub terms_some : (args : List Linear) (made : List (ℕ × ℕ)) (sum next : Linear) (cs : List ℤ) (v : ℕ) (all : Option Linear) → v < length cs → term_added args made sum v (get_or cs v (pos 0)) ≡ Some next
    → terms_added args made sum v (drop v cs) ≡ all → terms_added args made next (v + 1) (drop (v + 1) cs) ≡ all
terms_some args made sum next cs v all h was f =
    ap (λ s. s >>= λ z. terms_added args made z (v + 1) (drop (v + 1) cs)) (sym was) ∙ sym (terms_more args made sum cs v h) ∙ f

pub terms_none : (args : List Linear) (made : List (ℕ × ℕ)) (sum : Linear) (cs : List ℤ) (v : ℕ) (all : Option Linear) → v < length cs → term_added args made sum v (get_or cs v (pos 0)) ≡ None
    → terms_added args made sum v (drop v cs) ≡ all → all ≡ None
terms_none args made sum cs v all h was f = sym f ∙ terms_more args made sum cs v h ∙ ap (λ s. s >>= λ z. terms_added args made z (v + 1) (drop (v + 1) cs)) was

no_terms : (args : List Linear) (made : List (ℕ × ℕ)) (sum : Linear) (v : ℕ) → terms_added args made sum v [] ≡ Some sum
unfolding terms_added
no_terms args made sum v = refl

pub terms_end : (args : List Linear) (made : List (ℕ × ℕ)) (sum : Linear) (cs : List ℤ) (v : ℕ) (all : Option Linear) → length cs ≤ v → terms_added args made sum v (drop v cs) ≡ all → all ≡ Some sum
terms_end args made sum cs v all h f = sym f ∙ ap (terms_added args made sum v) (drop_all v cs h) ∙ no_terms args made sum v

-- ---- expressions
lins_more : (frame : Frame) (n : ℕ) (done ls : List Linear) (i : ℕ) (l : Linear) → i < length ls →
    lins_made frame n done (drop i ls) ≡ (lin_made frame n (get_or ls i l) >>= λ k. lins_made frame n (done ++ k ∷ []) (drop (i + 1) ls))
unfolding lins_made
lins_more frame n done ls i l h = rw (drop_more ls i l h) refl

pub lins_some : (frame : Frame) (n : ℕ) (done ls : List Linear) (i : ℕ) (l k : Linear) (all : Option (List Linear)) → i < length ls → l ≡ get_or ls i l → lin_made frame n l ≡ Some k
    → lins_made frame n done (drop i ls) ≡ all → lins_made frame n (done ++ k ∷ []) (drop (i + 1) ls) ≡ all
lins_some frame n done ls i l k all h is was f =
    ap (λ s. s >>= λ z. lins_made frame n (done ++ z ∷ []) (drop (i + 1) ls)) (sym (ap (lin_made frame n) (sym is) ∙ was)) ∙ sym (lins_more frame n done ls i l h) ∙ f

pub lins_none : (frame : Frame) (n : ℕ) (done ls : List Linear) (i : ℕ) (l : Linear) (all : Option (List Linear)) → i < length ls → l ≡ get_or ls i l → lin_made frame n l ≡ None
    → lins_made frame n done (drop i ls) ≡ all → all ≡ None
lins_none frame n done ls i l all h is was f =
    sym f ∙ lins_more frame n done ls i l h ∙ ap (λ s. s >>= λ z. lins_made frame n (done ++ z ∷ []) (drop (i + 1) ls)) (ap (lin_made frame n) (sym is) ∙ was)

no_lins : (frame : Frame) (n : ℕ) (done : List Linear) → lins_made frame n done [] ≡ Some done
unfolding lins_made
no_lins frame n done = refl

pub lins_end : (frame : Frame) (n : ℕ) (done ls : List Linear) (i : ℕ) (all : Option (List Linear)) → length ls ≤ i → lins_made frame n done (drop i ls) ≡ all → all ≡ Some done
lins_end frame n done ls i all h f = sym f ∙ ap (lins_made frame n done) (drop_all i ls h) ∙ no_lins frame n done
