-- the tree path of a depth first search is the first path
use Rattle.std.proofs.Common.{◌≡◌, ◌≢◌, ◌⊎◌, ◌↔◌, Bool, IsTrue, None, ℕ, zero, suc, ◌<◌, ◌≤◌, Option, Some, List, [], ◌∷◌, ◌++◌, length, map, Contains, refl, sym, ◌∙◌, ap, inl, inr, ⊎_elim, subst, arith}
use Rattle.std.specs.Prelude.{is_some}
use Rattle.std.proofs.lemmas.Bool.{cases_order, cases_eq, cases_lt}
use Rattle.graph_core.specs.Graphs.{HasEdge}
use Rattle.graph_core.specs.Paths.{Leads, IsWithoutRepeat, IsNotAfter, IsFirstPath, LiesOnFirstPath, Reaches}
use Rattle.graph_core.specs.Search.{Found, node_at, parent_at, last_at, number_of, IsTold, IsToldOn, IsSearchTree, IsSearch}
use Rattle.graph_core.proofs.Lists.{Contains-cons_cases, Contains-tail, Contains-head, Contains-nil}
use Rattle.graph_core.proofs.Orders.{first_path_one}

-- numbers from j to k, each the parent of the next
abbrev pub Trail : Found → ℕ → List ℕ → ℕ → Type 0
Trail f j [] k = j ≡ k
Trail f j (i ∷ ks) k = (0 < i) × (i < length f.order) × (parent_at f i ≡ j) × Trail f i ks k

module _ (g : List (List ℕ)) (root : ℕ) (f : Found) (s : IsSearchTree g root f) where
  same_number : (v k m : ℕ) → number_of f v ≡ Some k → number_of f v ≡ Some m → k ≡ m
  same_number v k m h i = let e : Some k ≡ Some m = sym h ∙ i in cc

  step_up : (i j : ℕ) → 0 < i → i < length f.order → parent_at f i ≡ j → j < i
  step_up i j o l e = let p = (s.tree i l).earlier o in omega arith

  trail_le : (ks : List ℕ) (j k : ℕ) → Trail f j ks k → j ≤ k
  trail_le [] j k e = omega arith
  trail_le (i ∷ ks) j k h =
      let up = step_up i j h.0 h.1 h.2 in
      let rest = trail_le ks i k h.3 in
      omega arith

  trail_leads : (ks : List ℕ) (j k : ℕ) → Trail f j ks k → Leads g (node_at f j) (map (node_at f) ks) (node_at f k)
  trail_leads [] j k e = ap (node_at f) e
  trail_leads (i ∷ ks) j k h =
      (subst (λ (p : ℕ). HasEdge g (node_at f p) (node_at f i)) h.2 ((s.tree i h.1).edge h.0), trail_leads ks i k h.3)

  trail_avoids : (ks : List ℕ) (j k : ℕ) → Trail f j ks k → (v m : ℕ) → number_of f v ≡ Some m → m ≤ j → Contains (map (node_at f) ks) v → ⊥
  trail_avoids [] j k e v m n l h = Contains-nil v h
  trail_avoids (i ∷ ks) j k h v m n l c =
      let up = step_up i j h.0 h.1 h.2 in
      ⊎_elim (λ (e : node_at f i ≡ v). let here : number_of f v ≡ Some i = subst (λ (w : ℕ). number_of f w ≡ Some i) e (s.numbered.numbered i h.1) in let same = same_number v i m here n in let no : ⊥ = omega arith in no) (λ (r : Contains (map (node_at f) ks) v). trail_avoids ks i k h.3 v m n (omega arith) r) (Contains-cons_cases (node_at f i) (map (node_at f) ks) v c)

  trail_no_repeat : (ks : List ℕ) (j k : ℕ) → j < length f.order → Trail f j ks k → IsWithoutRepeat (node_at f j ∷ map (node_at f) ks)
  trail_no_repeat [] j k l e = (Contains-nil (node_at f j), tt)
  trail_no_repeat (i ∷ ks) j k l h =
      (trail_avoids (i ∷ ks) j k h (node_at f j) j (s.numbered.numbered j l) (omega arith), trail_no_repeat ks i k h.1 h.3)

  trail_inside : (ks : List ℕ) (j k : ℕ) → j < length f.order → Trail f j ks k → k ≤ last_at f j
  trail_inside [] j k l e = let m = (s.tree j l).last in omega arith
  trail_inside (i ∷ ks) j k l h =
      let rest = trail_inside ks i k h.1 h.3 in
      let up = (s.tree i h.1).inside h.0 in
      let same : last_at f (parent_at f i) ≡ last_at f j = ap (last_at f) h.2 in
      omega arith

  -- a way from what was found before i, past what i stands below, comes to no more than was found before i
  stays : (rest : List ℕ) (x v m i : ℕ) → number_of f x ≡ Some m → m < i → ((a : ℕ) → a < i → i ≤ last_at f a → Contains (x ∷ rest) (node_at f a) → ⊥) → Leads g x rest v → (k : ℕ) × (number_of f v ≡ Some k) × (k < i)
  stays [] x v m i n l avoids e = (m, subst (λ (w : ℕ). number_of f w ≡ Some m) e n, l)
  stays (y ∷ rest) x v m i n l avoids h =
      let named = s.numbered.named x m n in
      let from_m : HasEdge g (node_at f m) y = subst (λ (w : ℕ). HasEdge g w y) (sym named.1) h.0 in
      let next = s.left m named.0 y from_m in
      let Goal : Type 0 = (k : ℕ) × (number_of f v ≡ Some k) × (k < i) in
      ⊎_elim (λ (before : last_at f m < i). let r : Goal = stays rest y v next.0 i next.1 (let q = next.2 in omega arith) (λ a b c d. avoids a b c (Contains-tail x (y ∷ rest) (node_at f a) d)) h.1 in r) (λ (above : i ≤ last_at f m). let r : Goal = absurd (avoids m l above (subst (Contains (x ∷ y ∷ rest)) (sym named.1) (Contains-head x (y ∷ rest)))) in r) (cases_lt (last_at f m) i)

  -- what stands above the child i of j is j or stands above j
  avoids_child : (xs : List ℕ) (i j : ℕ) → 0 < i → i < length f.order → parent_at f i ≡ j → (Contains xs (node_at f j) → ⊥) → ((a : ℕ) → a < j → j ≤ last_at f a → Contains xs (node_at f a) → ⊥) → (a : ℕ) → a < i → i ≤ last_at f a → Contains xs (node_at f a) → ⊥
  avoids_child xs i j o l e apart avoids a m n h =
      let up = step_up i j o l e in
      let near = (s.tree i l).around a m n in
      ⊎_elim (λ (same : a ≡ j). apart (subst (λ (b : ℕ). Contains xs (node_at f b)) same h)) (λ (other : a ≢ j). avoids a (omega arith) (omega arith) h) (cases_eq a j)

  trail_first : (ks : List ℕ) (j k : ℕ) → j < length f.order → k < length f.order → Trail f j ks k → (rest : List ℕ) → Leads g (node_at f j) rest (node_at f k) → IsWithoutRepeat (node_at f j ∷ rest) → ((a : ℕ) → a < j → j ≤ last_at f a → Contains rest (node_at f a) → ⊥) → IsNotAfter (map (node_at f) ks) rest
  trail_first [] j k l m h rest leads apart avoids = tt
  trail_first (i ∷ ks) j k l m h [] leads apart avoids =
      let up = step_up i j h.0 h.1 h.2 in
      let along = trail_le ks i k h.3 in
      let same = same_number (node_at f j) j k (s.numbered.numbered j l) (subst (λ (w : ℕ). number_of f w ≡ Some k) (sym leads) (s.numbered.numbered k m)) in
      absurd (omega arith)
  trail_first (i ∷ ks) j k l m h (x ∷ rest) leads apart avoids =
      let up = step_up i j h.0 h.1 h.2 in
      let along = trail_le ks i k h.3 in
      let past = avoids_child (x ∷ rest) i j h.0 h.1 h.2 apart.0 avoids in
      ⊎_elim (λ (e : x ≡ node_at f i). inr (sym e, trail_first ks i k h.1 m h.3 rest (subst (λ (w : ℕ). Leads g w rest (node_at f k)) e leads.1) (subst (λ (w : ℕ). IsWithoutRepeat (w ∷ rest)) e apart.1) (λ a b c d. past a b c (Contains-tail x rest (node_at f a) d)))) (λ (o : (x < node_at f i) ⊎ (node_at f i < x)). ⊎_elim (λ (lower : x < node_at f i). let found = (s.tree i h.1).lower x h.0 (subst (λ (p : ℕ). HasEdge g (node_at f p) x) (sym h.2) leads.0) lower in let ends = stays rest x (node_at f k) found.0 i found.1 found.2 past leads.1 in let same = same_number (node_at f k) ends.0 k ends.1 (s.numbered.numbered k m) in let less = ends.2 in let no : ⊥ = omega arith in absurd no) (λ (higher : node_at f i < x). inl higher) o) (cases_order x (node_at f i))

  trail_push : (ks : List ℕ) (j m k : ℕ) → Trail f j ks m → 0 < k → k < length f.order → parent_at f k ≡ m → Trail f j (ks ++ k ∷ []) k
  trail_push [] j m k e o l p = (o, l, p ∙ sym e, refl)
  trail_push (i ∷ ks) j m k h o l p = (h.0, h.1, h.2, trail_push ks i m k h.3 o l p)

  trail_within : (n k : ℕ) → k < n → k < length f.order → (ks : List ℕ) × Trail f 0 ks k
  trail_within zero k l m = absurd (omega arith)
  trail_within (suc n) zero l m = ([], refl)
  trail_within (suc n) (suc k) l m =
      let up = (s.tree (suc k) m).earlier (omega arith) in
      let above = trail_within n (parent_at f (suc k)) (omega arith) (omega arith) in
      (above.0 ++ suc k ∷ [], trail_push above.0 0 (parent_at f (suc k)) (suc k) above.1 (omega arith) m refl)

  trail_to : (k : ℕ) → k < length f.order → (ks : List ℕ) × Trail f 0 ks k
  trail_to k l = trail_within (suc k) k (omega arith) l

  trail_is_first : (ks : List ℕ) (k : ℕ) → k < length f.order → Trail f 0 ks k → IsFirstPath g root (map (node_at f) ks) (node_at f k)
  trail_is_first ks k l h =
      let some = s.numbered.some in
      subst (λ (r : ℕ). IsFirstPath g r (map (node_at f) ks) (node_at f k)) s.first (record { path = record { leads = trail_leads ks 0 k h; no_repeat = trail_no_repeat ks 0 k some h }; first = λ other p. trail_first ks 0 k some l h other p.leads p.no_repeat (λ a b c d. absurd (omega arith)) })

  trail_has : (ks : List ℕ) (j k v : ℕ) → j < length f.order → Trail f j ks k → Contains (node_at f j ∷ map (node_at f) ks) v → (m : ℕ) × (number_of f v ≡ Some m) × (m ≤ k) × (k ≤ last_at f m)
  trail_has [] j k v l h c =
      ⊎_elim (λ (e : node_at f j ≡ v). (j, subst (λ (w : ℕ). number_of f w ≡ Some j) e (s.numbered.numbered j l), trail_le [] j k h, trail_inside [] j k l h)) (λ (r : Contains [] v). absurd (Contains-nil v r)) (Contains-cons_cases (node_at f j) [] v c)
  trail_has (i ∷ ks) j k v l h c =
      ⊎_elim (λ (e : node_at f j ≡ v). (j, subst (λ (w : ℕ). number_of f w ≡ Some j) e (s.numbered.numbered j l), trail_le (i ∷ ks) j k h, trail_inside (i ∷ ks) j k l h)) (λ (r : Contains (map (node_at f) (i ∷ ks)) v). trail_has ks i k v h.1 h.3 r) (Contains-cons_cases (node_at f j) (map (node_at f) (i ∷ ks)) v c)

  trail_holds : (ks : List ℕ) (j k m : ℕ) → k < length f.order → Trail f j ks k → j ≤ m → m ≤ k → k ≤ last_at f m → Contains (node_at f j ∷ map (node_at f) ks) (node_at f m)
  trail_holds [] j k m l h a b c =
      let e : j ≡ m = omega arith in
      subst (λ (n : ℕ). Contains (node_at f j ∷ []) (node_at f n)) e (Contains-head (node_at f j) [])
  trail_holds (i ∷ ks) j k m l h a b c =
      let along = trail_le ks i k h.3 in
      ⊎_elim (λ (e : j ≡ m). subst (λ (n : ℕ). Contains (node_at f j ∷ map (node_at f) (i ∷ ks)) (node_at f n)) e (Contains-head (node_at f j) (map (node_at f) (i ∷ ks)))) (λ (o : j ≢ m). ⊎_elim (λ (under : m < i). let near = (s.tree i h.1).around m under (omega arith) in let at = h.2 in let no : ⊥ = omega arith in absurd no) (λ (over : i ≤ m). Contains-tail (node_at f j) (map (node_at f) (i ∷ ks)) (node_at f m) (trail_holds ks i k m l h.3 over b c)) (cases_lt m i)) (cases_eq j m)

  -- what can be come to is found
  comes_to : (rest : List ℕ) (x v m : ℕ) → number_of f x ≡ Some m → Leads g x rest v → (k : ℕ) × (number_of f v ≡ Some k)
  comes_to [] x v m n e = (m, subst (λ (w : ℕ). number_of f w ≡ Some m) e n)
  comes_to (y ∷ rest) x v m n h =
      let named = s.numbered.named x m n in
      let next = s.left m named.0 y (subst (λ (w : ℕ). HasEdge g w y) (sym named.1) h.0) in
      comes_to rest y v next.0 next.1 h.1

  root_number : number_of f root ≡ Some 0
  root_number =
      subst (λ (w : ℕ). number_of f w ≡ Some 0) s.first (s.numbered.numbered 0 s.numbered.some)

  pub found_from : (v : ℕ) → Reaches g root v → (k : ℕ) × (number_of f v ≡ Some k)
  found_from v h = comes_to h.0 root v 0 root_number h.1.leads

  first_to : (v k : ℕ) → number_of f v ≡ Some k → (rest : List ℕ) × IsFirstPath g root rest v
  first_to v k n =
      let named = s.numbered.named v k n in
      let trail = trail_to k named.0 in
      (map (node_at f) trail.0, subst (IsFirstPath g root (map (node_at f) trail.0)) named.1 (trail_is_first trail.0 k named.0 trail.1))

  pub reached_from : (v k : ℕ) → number_of f v ≡ Some k → Reaches g root v
  reached_from v k n = let p = first_to v k n in (p.0, p.1.path)

  -- the numbers of h and of v, of which the second is among those from the first to its last
  pub lies_from : (h v : ℕ) → LiesOnFirstPath g root h v → (m : ℕ) × (k : ℕ) × (number_of f h ≡ Some m) × (number_of f v ≡ Some k) × (m ≤ k) × (k ≤ last_at f m)
  lies_from h v on =
      let found = found_from v (on.0, on.1.path) in
      let named = s.numbered.named v found.0 found.1 in
      let trail = trail_to found.0 named.0 in
      let is_first = subst (IsFirstPath g root (map (node_at f) trail.0)) named.1 (trail_is_first trail.0 found.0 named.0 trail.1) in
      let same = first_path_one g root v on.0 (map (node_at f) trail.0) on.1 is_first in
      let there : Contains (root ∷ map (node_at f) trail.0) h = subst (λ (p : List ℕ). Contains (root ∷ p) h) same on.2 in
      let has = trail_has trail.0 0 found.0 h s.numbered.some trail.1 (subst (λ (r : ℕ). Contains (r ∷ map (node_at f) trail.0) h) (sym s.first) there) in
      (has.0, found.0, has.1, found.1, has.2, has.3)

  pub lies_to : (h v m k : ℕ) → number_of f h ≡ Some m → number_of f v ≡ Some k → m ≤ k → k ≤ last_at f m → LiesOnFirstPath g root h v
  lies_to h v m k p n a b =
      let named = s.numbered.named v k n in
      let upper = s.numbered.named h m p in
      let trail = trail_to k named.0 in
      let is_first = subst (IsFirstPath g root (map (node_at f) trail.0)) named.1 (trail_is_first trail.0 k named.0 trail.1) in
      let holds = trail_holds trail.0 0 k m named.0 trail.1 (omega arith) a b in
      (map (node_at f) trail.0, is_first, subst (λ (r : ℕ). Contains (r ∷ map (node_at f) trail.0) h) s.first (subst (Contains (node_at f 0 ∷ map (node_at f) trail.0)) upper.1 holds))

  between_is : (h v m k : ℕ) → number_of f h ≡ Some m → number_of f v ≡ Some k → LiesOnFirstPath g root h v → (m ≤ k) × (k ≤ last_at f m)
  between_is h v m k p n on =
      let there = lies_from h v on in
      let a = same_number h there.0 m there.2 p in
      let b = same_number v there.1 k there.3 n in
      let c = there.4 in
      let d = there.5 in
      let e : last_at f there.0 ≡ last_at f m = ap (last_at f) a in
      (omega arith, omega arith)

  pub IsSearch-tree : IsSearch g root f
  IsSearch-tree =
      record {
        count = s.numbered.number_count;
        fits = λ v k h. let l = (s.numbered.named v k h).0 in let n = s.numbered.last_count in omega arith;
        reached = λ v. (λ t. reached_from v t.0 t.1, found_from v);
        on = λ h v. (λ t. lies_to h v t.0 t.1 t.2 t.3 t.4 t.5, lies_from h v);
      }

-- what numbers tell
module _ (f : Found) where
  one_number : (v k m : ℕ) → number_of f v ≡ Some k → number_of f v ≡ Some m → k ≡ m
  one_number v k m h i = let e : Some k ≡ Some m = sym h ∙ i in cc

  told_between : (h v m k : ℕ) → number_of f h ≡ Some m → number_of f v ≡ Some k → IsToldOn f h v → (m ≤ k) × (k ≤ last_at f m)
  told_between h v m k p n on =
      let a = one_number h on.0 m on.2 p in
      let b = one_number v on.1 k on.3 n in
      let e : last_at f on.0 ≡ last_at f m = ap (last_at f) a in
      let x = on.4 in
      let y = on.5 in
      (omega arith, omega arith)

  pub told_by : (h v m k : ℕ) (r : Bool) → number_of f h ≡ Some m → number_of f v ≡ Some k → (IsTrue r ↔ ((m ≤ k) × (k ≤ last_at f m))) → IsTrue r ↔ IsToldOn f h v
  told_by h v m k r p n e =
      (λ t. let b = e.0 t in (m, k, p, n, b.0, b.1), λ on. e.1 (told_between h v m k p n on))

  pub told_not_above : (h v : ℕ) → number_of f h ≡ None → IsToldOn f h v → ⊥
  told_not_above h v none on = let no : None ≡ Some on.0 = sym none ∙ on.2 in cc

  pub told_not_below : (h v : ℕ) → number_of f v ≡ None → IsToldOn f h v → ⊥
  told_not_below h v none on = let no : None ≡ Some on.1 = sym none ∙ on.3 in cc

  told_some : (v : ℕ) (o : Option ℕ) → number_of f v ≡ o → IsTrue (is_some o) ↔ IsTold f v
  told_some v None e = (λ t. absurd (cc), λ h. let no : None ≡ Some h.0 = sym e ∙ h.1 in absurd (cc))
  told_some v (Some k) e = (λ t. (k, e), λ h. refl)

  pub is_told : (v : ℕ) → IsTrue (is_some (number_of f v)) ↔ IsTold f v
  is_told v = told_some v (number_of f v) refl

-- one equivalence after another
pub both_ways : {P Q R : Type 0} → P ↔ Q → Q ↔ R → P ↔ R
both_ways h k = (λ p. k.0 (h.0 p), λ r. h.1 (k.1 r))
