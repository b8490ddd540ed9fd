-- each node that is reached has a first path
use Rattle.std.proofs.Common.{◌≡◌, ◌≢◌, ◌⊎◌, ℕ, zero, suc, ◌<◌, ◌≤◌, eqb, false, true, List, [], ◌∷◌, length, map, flat_map, Contains, refl, sym, inl, inr, ⊎_elim, subst, arith}
use Rattle.std.specs.List.{IsDistinct}
use Rattle.std.proofs.lemmas.Bool.{cases_eq, eqb-true}
use Rattle.std.proofs.lemmas.Bool.Decides.{eqb_tells}
use Rattle.std.proofs.lemmas.List.Elements.{recursion_from_All}
use Rattle.std.proofs.lemmas.Map.Steps.{length-le_from_distinct_below}
use Rattle.std.proofs.lemmas.Map.Views.{Contains-from_any}
use Rattle.common_laws.proofs.Members.{contains_head, contains_tail, contains_cases, contains_none, in_map, in_flat}
use Rattle.graph_core.specs.Graphs.{successors_of}
use Rattle.graph_core.specs.Paths.{Leads, IsWithoutRepeat, IsPath, Reaches, IsNotAfter, IsFirstPath}
use Rattle.graph_core.proofs.Lists.{cases_Contains}
use Rattle.graph_loops.proofs.Firsts.{Before, cases_before, before_not_after, not_after_itself, not_after_through, all_of, edge_source}

module _ (P : List ℕ → Type 0) (decide : (q : List ℕ) → P q ⊎ (P q → ⊥)) where
  -- a list with a property, not after p nor any of these lists with it
  abbrev LeastOf : List (List ℕ) → List ℕ → Type 0
  LeastOf qs p =
      (q : List ℕ) × P q × IsNotAfter q p × ((o : List ℕ) → Contains qs o → P o → IsNotAfter q o)

  least_more : (o : List ℕ) (qs : List (List ℕ)) (p : List ℕ) → P p → ((q : List ℕ) → P q → LeastOf qs q) → P o ⊎ (P o → ⊥) → IsNotAfter p o ⊎ Before o p → LeastOf (o ∷ qs) p
  least_more o qs p here rec (inr none) w =
      let l = rec p here in
      (l.0, l.1, l.2, λ b c h. ⊎_elim (λ (e : o ≡ b). absurd (none (subst P (sym e) h))) (λ (d : Contains qs b). l.3 b d h) (contains_cases o qs b c))
  least_more o qs p here rec (inl there) (inl n) =
      let l = rec p here in
      (l.0, l.1, l.2, λ b c h. ⊎_elim (λ (e : o ≡ b). subst (IsNotAfter l.0) e (not_after_through l.0 p o l.2 n)) (λ (d : Contains qs b). l.3 b d h) (contains_cases o qs b c))
  least_more o qs p here rec (inl there) (inr before) =
      let l = rec o there in
      (l.0, l.1, not_after_through l.0 o p l.2 (before_not_after o p before), λ b c h. ⊎_elim (λ (e : o ≡ b). subst (IsNotAfter l.0) e l.2) (λ (d : Contains qs b). l.3 b d h) (contains_cases o qs b c))

  least_of : (qs : List (List ℕ)) (p : List ℕ) → P p → LeastOf qs p
  least_of [] p here = (p, here, not_after_itself p, λ o c h. absurd (contains_none o c))
  least_of (o ∷ qs) p here = least_more o qs p here (least_of qs) (decide o) (cases_before p o)

repeat_or : (xs : List ℕ) → IsWithoutRepeat xs ⊎ (IsWithoutRepeat xs → ⊥)
repeat_or [] = inl tt
repeat_or (x ∷ xs) = at (cases_Contains xs x) (repeat_or xs)
  where
    at : Contains xs x ⊎ (Contains xs x → ⊥) → IsWithoutRepeat xs ⊎ (IsWithoutRepeat xs → ⊥) → IsWithoutRepeat (x ∷ xs) ⊎ (IsWithoutRepeat (x ∷ xs) → ⊥)
    at (inl c) w = inr (λ h. h.0 c)
    at (inr n) (inl w) = inl (n, w)
    at (inr n) (inr w) = inr (λ h. w h.1)

distinct : (xs : List ℕ) → IsWithoutRepeat xs → IsDistinct eqb xs
unfolding IsDistinct
distinct [] r = tt
distinct (x ∷ xs) r =
    (recursion_from_All (λ (y : ℕ). eqb x y ≡ false) xs (all_of (λ (y : ℕ). eqb x y ≡ false) xs (λ y c. apart y c (eqb_tells x y))), distinct xs r.1)
  where
    apart : (y : ℕ) → Contains xs y → ((eqb x y ≡ true) × (x ≡ y)) ⊎ ((eqb x y ≡ false) × (x ≢ y)) → eqb x y ≡ false
    apart y c (inl h) = absurd (r.0 (subst (Contains xs) (sym h.1) c))
    apart y c (inr h) = h.0

-- the nodes of a path that an edge leaves: all but the last
abbrev sources : ℕ → List ℕ → List ℕ
sources x [] = []
sources x (y ∷ rest) = x ∷ sources y rest

sources_count : (x : ℕ) (rest : List ℕ) → length rest ≡ length (sources x rest)
sources_count x [] = refl
sources_count x (y ∷ rest) = let e = sources_count y rest in omega arith

sources_in : (x : ℕ) (rest : List ℕ) (y : ℕ) → Contains (sources x rest) y → Contains (x ∷ rest) y
sources_in x [] y c = absurd (contains_none y c)
sources_in x (z ∷ rest) y c =
    ⊎_elim (λ (e : x ≡ y). subst (Contains (x ∷ z ∷ rest)) e (contains_head x (z ∷ rest))) (λ (d : Contains (sources z rest) y). contains_tail x (z ∷ rest) y (sources_in z rest y d)) (contains_cases x (sources z rest) y c)

sources_once : (x : ℕ) (rest : List ℕ) → IsWithoutRepeat (x ∷ rest) → IsWithoutRepeat (sources x rest)
sources_once x [] w = tt
sources_once x (y ∷ rest) w = (λ c. w.0 (sources_in y rest x c), sources_once y rest w.1)

module _ (g : List (List ℕ)) where
  leads_or : (rest : List ℕ) (x v : ℕ) → Leads g x rest v ⊎ (Leads g x rest v → ⊥)
  leads_or [] x v = cases_eq x v
  leads_or (y ∷ rest) x v = at (cases_Contains (successors_of g x) y) (leads_or rest y v)
    where
      at : Contains (successors_of g x) y ⊎ (Contains (successors_of g x) y → ⊥) → Leads g y rest v ⊎ (Leads g y rest v → ⊥) → Leads g x (y ∷ rest) v ⊎ (Leads g x (y ∷ rest) v → ⊥)
      at (inl e) (inl l) = inl (e, l)
      at (inl e) (inr n) = inr (λ h. n h.1)
      at (inr n) w = inr (λ h. n h.0)

  path_or : (x v : ℕ) (rest : List ℕ) → IsPath g x rest v ⊎ (IsPath g x rest v → ⊥)
  path_or x v rest = at (leads_or rest x v) (repeat_or (x ∷ rest))
    where
      at : Leads g x rest v ⊎ (Leads g x rest v → ⊥) → IsWithoutRepeat (x ∷ rest) ⊎ (IsWithoutRepeat (x ∷ rest) → ⊥) → IsPath g x rest v ⊎ (IsPath g x rest v → ⊥)
      at (inl l) (inl w) = inl (record { leads = l; no_repeat = w })
      at (inl l) (inr n) = inr (λ h. n h.no_repeat)
      at (inr n) w = inr (λ h. n h.leads)

  sources_low : (x : ℕ) (rest : List ℕ) (v : ℕ) → Leads g x rest v → (y : ℕ) → Contains (sources x rest) y → y < length g
  sources_low x [] v l y c = absurd (contains_none y c)
  sources_low x (z ∷ rest) v l y c =
      ⊎_elim (λ (e : x ≡ y). subst (λ (w : ℕ). w < length g) e (edge_source g x z l.0)) (λ (d : Contains (sources z rest) y). sources_low z rest v l.1 y d) (contains_cases x (sources z rest) y c)

  short : (x : ℕ) (rest : List ℕ) (v : ℕ) → IsPath g x rest v → length rest ≤ length g
  short x rest v path =
      let l = length-le_from_distinct_below (sources x rest) (length g) (distinct (sources x rest) (sources_once x rest path.no_repeat)) (λ q e. sources_low x rest v path.leads q (Contains-from_any eqb-true q (sources x rest) e)) in
      let e = sources_count x rest in
      omega arith

  -- all ways from x along at most n edges
  abbrev ways : ℕ → ℕ → List (List ℕ)
  ways zero x = [] ∷ []
  ways (suc n) x = [] ∷ flat_map (λ (y : ℕ). map (λ (p : List ℕ). y ∷ p) (ways n y)) (successors_of g x)

  in_ways : (rest : List ℕ) (n x v : ℕ) → Leads g x rest v → length rest ≤ n → Contains (ways n x) rest
  in_ways [] zero x v l m = contains_head [] []
  in_ways [] (suc n) x v l m =
      contains_head [] (flat_map (λ (y : ℕ). map (λ (p : List ℕ). y ∷ p) (ways n y)) (successors_of g x))
  in_ways (z ∷ rest) zero x v l m = absurd (omega arith)
  in_ways (z ∷ rest) (suc n) x v l m =
      let there = in_map (λ (p : List ℕ). z ∷ p) (ways n z) rest (in_ways rest n z v l.1 (omega arith)) in
      contains_tail [] (flat_map (λ (y : ℕ). map (λ (p : List ℕ). y ∷ p) (ways n y)) (successors_of g x)) (z ∷ rest) (in_flat (λ (y : ℕ). map (λ (p : List ℕ). y ∷ p) (ways n y)) (successors_of g x) z (z ∷ rest) l.0 there)

  pub first_to : (root x : ℕ) → Reaches g root x → (p : List ℕ) × IsFirstPath g root p x
  first_to root x r =
      let l = least_of (λ (q : List ℕ). IsPath g root q x) (path_or root x) (ways (length g) root) r.0 r.1 in
      (l.0, record { path = l.1; first = λ other o. l.3 other (in_ways other (length g) root x o.leads (short root other x o)) o })
