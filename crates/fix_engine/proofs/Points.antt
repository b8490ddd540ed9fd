-- facts by point, and what an edge makes of them
use Rattle.std.proofs.Common.{◌≡◌, ◌≢◌, ◌⊎◌, ℕ, ◌<◌, Option, Some, None, List, length, get_or, set, refl, sym, ◌∙◌, ap, inl, inr, subst, get_or-set_same, get_or-set_other}
use Rattle.std.specs.Prelude.{slice_get, unwrap_or, option_map}
use Rattle.std.proofs.lemmas.Bool.{cases_eq}
use Rattle.std.proofs.lemmas.List.{get_or_default}
use Rattle.std.proofs.lemmas.Option.{unwrap_or-slice_get}
use Rattle.fix_engine.specs.Order.{Order, Below}
use Rattle.fix_engine.specs.Problem.{Problem, Both}
use Rattle.fix_engine.specs.Lawful.{IsLawful}
use Rattle.fix_engine.specs.Solution.{at_points, carried}

pub at_points-get_or : {Fact : Type 0} (p : Problem Fact) (facts : List Fact) (k : ℕ) → at_points p facts k ≡ get_or facts k (p.start k)
at_points-get_or p facts k = unwrap_or-slice_get facts k (p.start k)

-- the fact that a list has at a point, as an index reads it
pub at_points-at : {Fact : Type 0} (p : Problem Fact) (facts : List Fact) (k : ℕ) (x : Fact) → slice_get facts k ≡ Some x → at_points p facts k ≡ x
at_points-at {Fact} p facts k x e = ap (λ (o : Option Fact). unwrap_or o (p.start k)) e

pub at_points-set_same : {Fact : Type 0} (p : Problem Fact) (facts : List Fact) (g : ℕ) (v : Fact) → g < length facts → at_points p (set facts g v) g ≡ v
at_points-set_same p facts g v l = at_points-get_or p (set facts g v) g ∙ get_or-set_same facts g v (p.start g) l

pub at_points-set_other : {Fact : Type 0} (p : Problem Fact) (facts : List Fact) (g k : ℕ) (v : Fact) → k ≢ g → at_points p (set facts g v) k ≡ at_points p facts k
at_points-set_other p facts g k v o =
    at_points-get_or p (set facts g v) k ∙ (get_or-set_other facts g k v (p.start k) o ∙ sym (at_points-get_or p facts k))

-- what an index reads is the fact at the point
pub at_points-read : {Fact : Type 0} (p : Problem Fact) (facts : List Fact) (i k : ℕ) (x : Fact) → i ≡ k → i < length facts → x ≡ get_or facts i x → x ≡ at_points p facts k
at_points-read {Fact} p facts i k x e l read =
    let there : x ≡ at_points p facts i = read ∙ (get_or_default facts i x (p.start i) l ∙ sym (at_points-get_or p facts i)) in
    subst (λ (j : ℕ). x ≡ at_points p facts j) e there

-- the same function on a second point, where there is one
pub option_map-same : {Fact : Type 0} (s t : ℕ → Fact) (o : Option ℕ) → ((q : ℕ) → o ≡ Some q → s q ≡ t q) → option_map s o ≡ option_map t o
option_map-same s t None h = refl
option_map-same {Fact} s t (Some q) h = ap (λ (x : Fact). Some x) (h q refl)

pub Both-facts : {Fact : Type 0} (P : ℕ → Fact → Type 0) (s : ℕ → Fact) (o : Option ℕ) → ((q : ℕ) → o ≡ Some q → P q (s q)) → Both P o (option_map s o)
Both-facts P s None h = tt
Both-facts P s (Some q) h = h q refl

pub Both-below : {Fact : Type 0} (R : Fact → Fact → Type 0) (s t : ℕ → Fact) (o : Option ℕ) → ((q : ℕ) → o ≡ Some q → R (s q) (t q)) → Both R (option_map s o) (option_map t o)
Both-below R s t None h = tt
Both-below R s t (Some q) h = h q refl

also_some : (r g : ℕ) → (r ≡ g) ⊎ (r ≢ g) → (Some r ≡ Some g) ⊎ ((q : ℕ) → Some r ≡ Some q → q ≢ g)
also_some r g (inl s) = inl (ap (λ (x : ℕ). Some x) s)
also_some r g (inr o) = inr (λ q h s. let e : r ≡ q = cc in o (e ∙ s))

-- whether a second point is g
pub also_cases : (o : Option ℕ) (g : ℕ) → (o ≡ Some g) ⊎ ((q : ℕ) → o ≡ Some q → q ≢ g)
also_cases None g = inr (λ q h. absurd (cc))
also_cases (Some r) g = also_some r g (cases_eq r g)

module _ {Fact : Type 0} (order : Order Fact) (p : Problem Fact) (law : IsLawful order p) where
  -- what an edge makes of facts is a fact of its goal
  pub carried_fact : (s : ℕ → Fact) → ((k : ℕ) → k < p.points → p.IsFact k (s k)) → (e : ℕ) → e < p.edges → p.IsFact (p.goal e) (carried p s e)
  carried_fact s are e l =
      law.transfer e _ _ l (are _ (law.source e l)) (Both-facts p.IsFact s (p.also e) (λ q h. are q (law.also e q l h)))

  -- what an edge makes of lower facts is lower
  pub carried_below : (s t : ℕ → Fact) → ((k : ℕ) → k < p.points → p.IsFact k (s k)) → ((k : ℕ) → k < p.points → p.IsFact k (t k)) → ((k : ℕ) → k < p.points → Below order (s k) (t k)) → (e : ℕ) → e < p.edges → Below order (carried p s e) (carried p t e)
  carried_below s t are be h e l =
      law.monotone e _ _ _ _ l (are _ (law.source e l)) (be _ (law.source e l)) (Both-facts p.IsFact s (p.also e) (λ q i. are q (law.also e q l i))) (Both-facts p.IsFact t (p.also e) (λ q i. be q (law.also e q l i))) (h _ (law.source e l)) (Both-below (Below order) s t (p.also e) (λ q i. h q (law.also e q l i)))
