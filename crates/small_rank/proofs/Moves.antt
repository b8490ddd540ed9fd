-- The keys of functions in their order, from one to the next.
use Rattle.std.specs.Prelude.{◌≡◌, ◌⊎◌, ℕ, ◌+◌, ◌<◌, ◌≤◌, ℤ, pos, negsuc, List, [], ◌∷◌}
use Rattle.std.proofs.Common.{arith, refl, sym, ap, ◌∙◌, subst, inl, inr, ⊎_elim, get_or}
use Rattle.lin_rows.specs.declared.row.Transition.{Transition}
use Rattle.lin_rows.specs.Linear.{Linear}
use Rattle.small_cert.specs.Order.{key_of, rank_of, terms_of, Precedes}
use Rattle.small_rank.specs.declared.functions.Found.{Found}
use Rattle.small_rank.specs.Ranking.{IsFunction, IsRanking, HasNoRanking}
use Rattle.small_rank.specs.inside.Search.{IsSign, HasNoRankingBy, HasNoneBefore, HasNoneUpTo, IsFoundBy, IsFirstFound}
use Rattle.small_rank.proofs.Shapes.{Shape, none, one, two, Term, key_in, function_shape, same_function}

-- the keys of functions of n sizes
pub data Key (n : ℕ) : List ℕ → Type 0 where
  no_size : Key n (0 ∷ [])
  one_size : (i r : ℕ) → i < n → r < 2 → Key n (1 ∷ i ∷ r ∷ [])
  two_sizes : (i j r s : ℕ) → i < j → j < n → r < 2 → s < 2 → Key n (2 ∷ i ∷ j ∷ r ∷ s ∷ [])

rank_low : (a : ℤ) → IsSign a → rank_of a < 2
rank_low a (inl e) = subst (λ (z : ℤ). rank_of z < 2) (sym e) (omega arith)
rank_low a (inr e) = subst (λ (z : ℤ). rank_of z < 2) (sym e) (omega arith)

shape_key : (n : ℕ) (ts : List Term) → Shape n ts → Key n (key_in ts)
shape_key n _ none = no_size
shape_key n _ (one i a lt sign) = one_size i (rank_of a) lt (rank_low a sign)
shape_key n _ (two i j a b less lt sign other) = two_sizes i j (rank_of a) (rank_of b) less lt (rank_low a sign) (rank_low b other)

pub function_key : (n : ℕ) (g : Linear) → IsFunction n g → Key n (key_of g)
function_key n g h = shape_key n (terms_of g) (function_shape n g h)

-- what comes before the next key comes before this one, or is this one
abbrev pub Moves : ℕ → List ℕ → List ℕ → Type 0
Moves n key next = (k : List ℕ) → Key n k → Precedes k next → Precedes k key

abbrev pub Follows : ℕ → List ℕ → List ℕ → Type 0
Follows n key next = (k : List ℕ) → Key n k → Precedes k next → Precedes k key ⊎ (k ≡ key)

pub moved : (steps : List Transition) (n : ℕ) (key next : List ℕ) → Moves n key next → HasNoneBefore steps n key → HasNoneBefore steps n next
moved steps n key next moves h = record { each = λ g p c d s x y r. h.each g (moves (key_of g) (function_key n g r.function) p) c d s x y r }

pub followed : (steps : List Transition) (n : ℕ) (key next : List ℕ) → Follows n key next → HasNoneUpTo steps n key → HasNoneBefore steps n next
followed steps n key next follows h = record { each = λ g p c d s x y r. ⊎_elim (λ q. h.before.each g q c d s x y r) (λ e. h.here g e c d s x y r) (follows (key_of g) (function_key n g r.function) p) }

-- ---- each move
no_key : (n : ℕ) (k : List ℕ) → Key n k → Precedes k (0 ∷ []) → ⊥
no_key n _ no_size p = grind arith
no_key n _ (one_size i r lt sign) p = grind arith
no_key n _ (two_sizes i j r s less lt first second) p = grind arith

pub none_first : (steps : List Transition) (n : ℕ) → HasNoneBefore steps n (0 ∷ [])
none_first steps n = record { each = λ g p c d s x y r. no_key n (key_of g) (function_key n g r.function) p }

pub to_singles : (n : ℕ) → Follows n (0 ∷ []) (1 ∷ 0 ∷ [])
to_singles n _ no_size p = grind arith
to_singles n _ (one_size v q lt sign) p = grind arith
to_singles n _ (two_sizes v w q r less lt first second) p = grind arith

pub to_one : (n i : ℕ) → Moves n (1 ∷ i ∷ []) (1 ∷ i ∷ 0 ∷ [])
to_one n i _ no_size p = grind arith
to_one n i _ (one_size v q lt sign) p = grind arith
to_one n i _ (two_sizes v w q r less lt first second) p = grind arith

pub to_minus : (n i : ℕ) → Follows n (1 ∷ i ∷ 0 ∷ []) (1 ∷ i ∷ 1 ∷ [])
to_minus n i _ no_size p = grind arith
to_minus n i _ (one_size v q lt sign) p = grind arith
to_minus n i _ (two_sizes v w q r less lt first second) p = grind arith

pub to_next : (n i : ℕ) → Follows n (1 ∷ i ∷ 1 ∷ []) (1 ∷ (i + 1) ∷ [])
to_next n i _ no_size p = grind arith
to_next n i _ (one_size v q lt sign) p = grind arith
to_next n i _ (two_sizes v w q r less lt first second) p = grind arith

pub to_pairs : (n i : ℕ) → n ≤ i → Moves n (1 ∷ i ∷ []) (2 ∷ 0 ∷ [])
to_pairs n i end _ no_size p = grind arith
to_pairs n i end _ (one_size v q lt sign) p = grind arith
to_pairs n i end _ (two_sizes v w q r less lt first second) p = grind arith

pub to_second : (n i : ℕ) → Moves n (2 ∷ i ∷ []) (2 ∷ i ∷ (i + 1) ∷ [])
to_second n i _ no_size p = grind arith
to_second n i _ (one_size v q lt sign) p = grind arith
to_second n i _ (two_sizes v w q r less lt first second) p = grind arith

pub to_plus : (n i j : ℕ) → Moves n (2 ∷ i ∷ j ∷ []) (2 ∷ i ∷ j ∷ 0 ∷ [])
to_plus n i j _ no_size p = grind arith
to_plus n i j _ (one_size v q lt sign) p = grind arith
to_plus n i j _ (two_sizes v w q r less lt first second) p = grind arith

pub to_two : (n i j a : ℕ) → Moves n (2 ∷ i ∷ j ∷ a ∷ []) (2 ∷ i ∷ j ∷ a ∷ 0 ∷ [])
to_two n i j a _ no_size p = grind arith
to_two n i j a _ (one_size v q lt sign) p = grind arith
to_two n i j a _ (two_sizes v w q r less lt first second) p = grind arith

pub to_two_minus : (n i j a : ℕ) → Follows n (2 ∷ i ∷ j ∷ a ∷ 0 ∷ []) (2 ∷ i ∷ j ∷ a ∷ 1 ∷ [])
to_two_minus n i j a _ no_size p = grind arith
to_two_minus n i j a _ (one_size v q lt sign) p = grind arith
to_two_minus n i j a _ (two_sizes v w q r less lt first second) p = grind arith

pub to_rank : (n i j a : ℕ) → Follows n (2 ∷ i ∷ j ∷ a ∷ 1 ∷ []) (2 ∷ i ∷ j ∷ (a + 1) ∷ [])
to_rank n i j a _ no_size p = grind arith
to_rank n i j a _ (one_size v q lt sign) p = grind arith
to_rank n i j a _ (two_sizes v w q r less lt first second) p = grind arith

pub to_later : (n i j : ℕ) → Moves n (2 ∷ i ∷ j ∷ 2 ∷ []) (2 ∷ i ∷ (j + 1) ∷ [])
to_later n i j _ no_size p = grind arith
to_later n i j _ (one_size v q lt sign) p = grind arith
to_later n i j _ (two_sizes v w q r less lt first second) p = grind arith

pub to_first : (n i j : ℕ) → n ≤ j → Moves n (2 ∷ i ∷ j ∷ []) (2 ∷ (i + 1) ∷ [])
to_first n i j end _ no_size p = grind arith
to_first n i j end _ (one_size v q lt sign) p = grind arith
to_first n i j end _ (two_sizes v w q r less lt first second) p = grind arith

all_keys : (n i : ℕ) → n ≤ i → (k : List ℕ) → Key n k → Precedes k (2 ∷ i ∷ [])
all_keys n i end _ no_size = inl (omega arith)
all_keys n i end _ (one_size v q lt sign) = inl (omega arith)
all_keys n i end _ (two_sizes v w q r less lt first second) = inr (refl, inl (omega (arith, less, lt, end)))

pub none_left : (steps : List Transition) (n i : ℕ) → n ≤ i → HasNoneBefore steps n (2 ∷ i ∷ []) → HasNoRanking steps n
none_left steps n i end h g c d s x y r = h.each g (all_keys n i end (key_of g) (function_key n g r.function)) c d s x y r

-- ---- functions with equal keys
same_rank : (a b : ℤ) → IsSign a → IsSign b → rank_of a ≡ rank_of b → a ≡ b
same_rank a b (inl e) (inl h) k = e ∙ sym h
same_rank a b (inr e) (inr h) k = e ∙ sym h
same_rank a b (inl e) (inr h) k = absurd (apart (subst (λ (z : ℤ). rank_of z ≡ rank_of (negsuc 0)) e (subst (λ (z : ℤ). rank_of a ≡ rank_of z) h k)))
  where
    apart : rank_of (pos 1) ≡ rank_of (negsuc 0) → ⊥
    apart e = omega (arith, e)
same_rank a b (inr e) (inl h) k = absurd (apart (subst (λ (z : ℤ). rank_of z ≡ rank_of (pos 1)) e (subst (λ (z : ℤ). rank_of a ≡ rank_of z) h k)))
  where
    apart : rank_of (negsuc 0) ≡ rank_of (pos 1) → ⊥
    apart e = omega (arith, e)

same_at : (ks ls : List ℕ) (i : ℕ) → ks ≡ ls → get_or ks i 0 ≡ get_or ls i 0
same_at ks ls i e = ap (λ (ks : List ℕ). get_or ks i 0) e

same_shape : (n : ℕ) (ts us : List Term) → Shape n ts → Shape n us → key_in ts ≡ key_in us → ts ≡ us
same_shape n _ _ none none e = refl
same_shape n _ _ none (one i a lt sign) e = absurd (omega (arith, same_at _ _ 0 e))
same_shape n _ _ none (two i j a b less lt sign other) e = absurd (omega (arith, same_at _ _ 0 e))
same_shape n _ _ (one i a lt sign) none e = absurd (omega (arith, same_at _ _ 0 e))
same_shape n _ _ (one i a lt sign) (one v p l s) e = ap (λ (x : ℕ). (x, a) ∷ []) (same_at _ _ 1 e) ∙ ap (λ (z : ℤ). (v, z) ∷ []) (same_rank a p sign s (same_at _ _ 2 e))
same_shape n _ _ (one i a lt sign) (two v w p q m l s o) e = absurd (omega (arith, same_at _ _ 0 e))
same_shape n _ _ (two i j a b less lt sign other) none e = absurd (omega (arith, same_at _ _ 0 e))
same_shape n _ _ (two i j a b less lt sign other) (one v p l s) e = absurd (omega (arith, same_at _ _ 0 e))
same_shape n _ _ (two i j a b less lt sign other) (two v w p q m l s o) e =
    ap (λ (x : ℕ). (x, a) ∷ (j, b) ∷ []) (same_at _ _ 1 e) ∙ ap (λ (y : ℕ). (v, a) ∷ (y, b) ∷ []) (same_at _ _ 2 e) ∙ ap (λ (z : ℤ). (v, z) ∷ (w, b) ∷ []) (same_rank a p sign s (same_at _ _ 3 e)) ∙ ap (λ (z : ℤ). (v, p) ∷ (w, z) ∷ []) (same_rank b q other o (same_at _ _ 4 e))

same_key : (n : ℕ) (f g : Linear) → IsFunction n f → IsFunction n g → key_of g ≡ key_of f → g ≡ f
same_key n f g h k e = same_function n g f k h (same_shape n (terms_of g) (terms_of f) (function_shape n g k) (function_shape n f h) e)

-- a function with this key that has no ranking, and one that has
pub tried_none : (steps : List Transition) (n : ℕ) (f : Linear) (ts : List Term) → IsFunction n f → terms_of f ≡ ts → HasNoneBefore steps n (key_in ts) → HasNoRankingBy steps n f → HasNoneUpTo steps n (key_in ts)
tried_none steps n f ts h is before no_ranking = record {
  before = before;
  here = λ g e c d s x y r. no_ranking c d s x y (subst (λ (g : Linear). IsRanking steps n g c d s x y) (same_key n f g h r.function (e ∙ ap key_in (sym is))) r);
}

pub tried_some : (steps : List Transition) (n : ℕ) (r : Found) (ts : List Term) → terms_of r.function ≡ ts → HasNoneBefore steps n (key_in ts) → IsFoundBy steps n r → IsFirstFound steps n r
tried_some steps n r ts is before found = record {
  ranking = found;
  first = λ g b e s x y less h. before.each g (subst (λ (us : List Term). Precedes (key_of g) (key_in us)) is less.less) b e s x y h;
}
