-- what the steps of a depth first search keep
use Rattle.std.proofs.Common.{◌≡◌, ◌≢◌, ◌⊎◌, ℕ, zero, suc, ◌+◌, ◌-◌, ◌*◌, ◌<◌, ◌≤◌, true, false, not, cond, Option, Some, None, List, [], ◌∷◌, length, get_or, set, refl, sym, ◌∙◌, ap, inl, inr, ⊎_elim, subst, arith, get_or-set_same, get_or-set_other}
use Rattle.std.specs.Prelude.{is_some}
use Rattle.std.proofs.Math.Nat.{mul-le-mul_right}
use Rattle.std.proofs.lemmas.Bool.{cases_order, cases_eq}
use Rattle.std.proofs.lemmas.List.{length-set, length_push, get_or_append_left, get_or_push, get_or_default}
use Rattle.std.proofs.lemmas.List.Sums.{sum_by-set}
use Rattle.std.proofs.lemmas.List.Elements.{Contains-get_or}
use Rattle.graph_core.specs.Graphs.{HasEdge, IsRising, EndsAtNodes, successors_of}
use Rattle.graph_core.specs.Search.{Found, node_at, parent_at, last_at, number_of, IsNumbered, IsInTree, IsLeft, IsSearchTree}
use Rattle.graph_core.specs.Walk.{found_more, left_at, unfound, IsWalk, looks_left, steps_left}

-- a look at a successor more
pub looks_left-set : (g : List (List ℕ)) (nexts : List ℕ) (v : ℕ) → length nexts ≡ length g → v < length g → get_or nexts v 0 < length (get_or g v []) → suc (looks_left g (set nexts v (get_or nexts v 0 + 1))) ≡ looks_left g nexts
looks_left-set [] nexts v e l m = absurd (omega arith)
looks_left-set (row ∷ g) [] v e l m = absurd (omega arith)
looks_left-set (row ∷ g) (next ∷ nexts) zero e l m = omega arith
looks_left-set (row ∷ g) (next ∷ nexts) (suc v) e l m =
    let h = looks_left-set g nexts v (omega arith) (omega arith) m in omega arith

pub steps-less : (more less n here there : ℕ) → suc less ≡ more → there < n → less * n + there < more * n + here
steps-less more less n here there e l =
    let m : suc less * n ≤ more * n = mul-le-mul_right n (omega arith) in
    omega arith

-- the looks so far, with one more
module _ (g : List (List ℕ)) (old new : Found) (nexts : List ℕ) (v s : ℕ) (kept : (x k : ℕ) → number_of old x ≡ Some k → number_of new x ≡ Some k) (now : (m : ℕ) × (number_of new s ≡ Some m)) (fits : v < length nexts) (at : s ≡ get_or (successors_of g v) (get_or nexts v 0) 0) (looked : (x i : ℕ) → i < get_or nexts x 0 → i < length (successors_of g x) → (m : ℕ) × (number_of old (get_or (successors_of g x) i 0) ≡ Some m)) where
  keep : (x : ℕ) → (m : ℕ) × (number_of old x ≡ Some m) → (m : ℕ) × (number_of new x ≡ Some m)
  keep x h = (h.0, kept x h.0 h.1)

  looked_here : (i : ℕ) → i < get_or nexts v 0 + 1 → i < length (successors_of g v) → (i ≡ get_or nexts v 0) ⊎ (i ≢ get_or nexts v 0) → (m : ℕ) × (number_of new (get_or (successors_of g v) i 0) ≡ Some m)
  looked_here i l m (inl e) =
      subst (λ (y : ℕ). (k : ℕ) × (number_of new y ≡ Some k)) (at ∙ sym (ap (λ (j : ℕ). get_or (successors_of g v) j 0) e)) now
  looked_here i l m (inr o) = keep _ (looked v i (omega arith) m)

  looked_at : (x i : ℕ) → (x ≡ v) ⊎ (x ≢ v) → i < get_or (set nexts v (get_or nexts v 0 + 1)) x 0 → i < length (successors_of g x) → (m : ℕ) × (number_of new (get_or (successors_of g x) i 0) ≡ Some m)
  looked_at x i (inl e) l m =
      let same = get_or-set_same nexts v (get_or nexts v 0 + 1) 0 fits in
      let here : get_or (set nexts v (get_or nexts v 0 + 1)) x 0 ≡ get_or nexts v 0 + 1 = subst (λ (y : ℕ). get_or (set nexts v (get_or nexts v 0 + 1)) y 0 ≡ get_or nexts v 0 + 1) (sym e) same in
      subst (λ (y : ℕ). (k : ℕ) × (number_of new (get_or (successors_of g y) i 0) ≡ Some k)) (sym e) (looked_here i (omega arith) (subst (λ (y : ℕ). i < length (successors_of g y)) e m) (cases_eq i (get_or nexts v 0)))
  looked_at x i (inr o) l m =
      let other = get_or-set_other nexts v x (get_or nexts v 0 + 1) 0 o in
      keep _ (looked x i (omega arith) m)

  pub looked-next : (x i : ℕ) → i < get_or (set nexts v (get_or nexts v 0 + 1)) x 0 → i < length (successors_of g x) → (m : ℕ) × (number_of new (get_or (successors_of g x) i 0) ≡ Some m)
  looked-next x i l m = looked_at x i (cases_eq x v) l m

-- one node more
module _ (g : List (List ℕ)) (f : Found) (n : IsNumbered g f) (s from : ℕ) (fresh : number_of f s ≡ None) (fits : s < length g) where
  node_old : (k : ℕ) → k < length f.order → node_at (found_more f s from) k ≡ node_at f k
  node_old k l = get_or_append_left f.order (s ∷ []) 0 k l

  node_new : node_at (found_more f s from) (length f.order) ≡ s
  node_new = get_or_push f.order s 0 (length f.order) refl

  parent_old : (k : ℕ) → k < length f.order → parent_at (found_more f s from) k ≡ parent_at f k
  parent_old k l = let e = n.parent_count in get_or_append_left f.parents (from ∷ []) 0 k (omega arith)

  parent_new : parent_at (found_more f s from) (length f.order) ≡ from
  parent_new = get_or_push f.parents from 0 (length f.order) n.parent_count

  last_old : (k : ℕ) → k < length f.order → last_at (found_more f s from) k ≡ last_at f k
  last_old k l = let e = n.last_count in get_or_append_left f.lasts (length f.numbers ∷ []) 0 k (omega arith)

  last_new : last_at (found_more f s from) (length f.order) ≡ length g
  last_new = get_or_push f.lasts (length f.numbers) 0 (length f.order) n.last_count ∙ n.number_count

  number_new : number_of (found_more f s from) s ≡ Some (length f.order)
  number_new = let e = n.number_count in get_or-set_same f.numbers s (Some (length f.order)) None (omega arith)

  number_other : (x : ℕ) → x ≢ s → number_of (found_more f s from) x ≡ number_of f x
  number_other x o = get_or-set_other f.numbers s x (Some (length f.order)) None o

  pub number_old : (x k : ℕ) → number_of f x ≡ Some k → number_of (found_more f s from) x ≡ Some k
  number_old x k h =
      ⊎_elim (λ (e : x ≡ s). let no : None ≡ Some k = sym fresh ∙ (subst (λ (y : ℕ). number_of f y ≡ Some k) e h) in absurd (cc)) (λ (o : x ≢ s). number_other x o ∙ h) (cases_eq x s)

  number_from : (x k : ℕ) → number_of (found_more f s from) x ≡ Some k → (number_of f x ≡ Some k) ⊎ ((x ≡ s) × (k ≡ length f.order))
  number_from x k h =
      ⊎_elim (λ (e : x ≡ s). let here : Some k ≡ Some (length f.order) = sym h ∙ subst (λ (y : ℕ). number_of (found_more f s from) y ≡ Some (length f.order)) (sym e) number_new in inr (e, cc)) (λ (o : x ≢ s). inl (sym (number_other x o) ∙ h)) (cases_eq x s)

  count_more : length (found_more f s from).order ≡ length f.order + 1
  count_more = length_push f.order s

  at_numbered : (k : ℕ) → (k < length f.order) ⊎ (k ≡ length f.order) → number_of (found_more f s from) (node_at (found_more f s from) k) ≡ Some k
  at_numbered k (inl l) =
      subst (λ (y : ℕ). number_of (found_more f s from) y ≡ Some k) (sym (node_old k l)) (number_old (node_at f k) k (n.numbered k l))
  at_numbered k (inr e) =
      subst (λ (y : ℕ). number_of (found_more f s from) (node_at (found_more f s from) y) ≡ Some y) (sym e) (subst (λ (y : ℕ). number_of (found_more f s from) y ≡ Some (length f.order)) (sym node_new) number_new)

  at_nodes : (k : ℕ) → (k < length f.order) ⊎ (k ≡ length f.order) → node_at (found_more f s from) k < length g
  at_nodes k (inl l) = let a = n.nodes k l in let b = node_old k l in omega arith
  at_nodes k (inr e) =
      subst (λ (y : ℕ). node_at (found_more f s from) y < length g) (sym e) (let b = node_new in omega arith)

  old_or_new : (k : ℕ) → k < length (found_more f s from).order → (k < length f.order) ⊎ (k ≡ length f.order)
  old_or_new k l =
      let c = count_more in
      ⊎_elim (λ (e : k ≡ length f.order). inr e) (λ (o : k ≢ length f.order). let m : k < length f.order = omega arith in inl m) (cases_eq k (length f.order))

  named_old : (x k : ℕ) → number_of f x ≡ Some k → (k < length (found_more f s from).order) × (node_at (found_more f s from) k ≡ x)
  named_old x k h =
      let c = count_more in
      let was = n.named x k h in
      (omega arith, node_old k was.0 ∙ was.1)

  named_new : (x k : ℕ) → x ≡ s → k ≡ length f.order → (k < length (found_more f s from).order) × (node_at (found_more f s from) k ≡ x)
  named_new x k e i =
      let c = count_more in
      (omega arith, ap (node_at (found_more f s from)) i ∙ (node_new ∙ sym e))

  pub IsNumbered-more : IsNumbered g (found_more f s from)
  IsNumbered-more =
      let c = count_more in
      let p = n.parent_count in
      let q = n.last_count in
      record {
        some = omega arith;
        parent_count = let a = length_push f.parents from in omega arith;
        last_count = let a = length_push f.lasts (length f.numbers) in omega arith;
        number_count = length-set f.numbers s (Some (length f.order)) ∙ n.number_count;
        nodes = λ k l. at_nodes k (old_or_new k l);
        numbered = λ k l. at_numbered k (old_or_new k l);
        named = λ x k h. ⊎_elim (named_old x k) (λ (new : (x ≡ s) × (k ≡ length f.order)). named_new x k new.0 new.1) (number_from x k h);
      }

  unfound_less : unfound (found_more f s from) + 1 ≡ unfound f
  unfound_less =
      let e = n.number_count in
      let l : s < length f.numbers = omega arith in
      let change = sum_by-set (λ (o : Option ℕ). cond {A = ℕ} (not (is_some o)) 1 0) f.numbers s (Some (length f.order)) None l in
      let was : cond {A = ℕ} (not (is_some (number_of f s))) 1 0 ≡ 1 = ap (λ (o : Option ℕ). cond {A = ℕ} (not (is_some o)) 1 0) fresh in
      omega arith

  tree_old : (k : ℕ) → k < length f.order → IsInTree g f k → IsInTree g (found_more f s from) k
  tree_old k l t =
      let same = last_old k l in
      let up = parent_old k l in
      let node = node_old k l in
      record {
        last = let a = t.last in omega arith;
        earlier = λ o. let a = t.earlier o in omega arith;
        edge = λ o. let a = t.earlier o in let m : parent_at f k < length f.order = omega arith in subst (λ (y : ℕ). HasEdge g (node_at (found_more f s from) y) (node_at (found_more f s from) k)) (sym up) (subst (λ (y : ℕ). HasEdge g (node_at (found_more f s from) (parent_at f k)) y) (sym node) (subst (λ (y : ℕ). HasEdge g y (node_at f k)) (sym (node_old (parent_at f k) m)) (t.edge o)));
        inside = λ o. let a = t.earlier o in let b = t.inside o in let m : parent_at f k < length f.order = omega arith in let q = last_old (parent_at f k) m in let r : last_at (found_more f s from) (parent_at (found_more f s from) k) ≡ last_at (found_more f s from) (parent_at f k) = ap (last_at (found_more f s from)) up in omega arith;
        lower = λ x o h less. let a = t.earlier o in let m : parent_at f k < length f.order = omega arith in let e : node_at (found_more f s from) (parent_at (found_more f s from) k) ≡ node_at f (parent_at f k) = ap (node_at (found_more f s from)) up ∙ node_old (parent_at f k) m in let found = t.lower x o (subst (λ (y : ℕ). HasEdge g y x) e h) (omega arith) in (found.0, number_old x found.0 found.1, found.2);
        around = λ m a b. let q = last_old m (omega arith) in let r = t.around m a (omega arith) in omega arith;
      }

  left_old : (k : ℕ) → k < length f.order → IsLeft g f k → IsLeft g (found_more f s from) k
  left_old k l t x h =
      let found = t x (subst (λ (y : ℕ). HasEdge g y x) (node_old k l) h) in
      let same = last_old k l in
      let most = found.2 in
      (found.0, number_old x found.0 found.1, omega arith)

-- the search goes on at a node that it finds
module _ (g : List (List ℕ)) (f : Found) (nexts : List ℕ) (here : ℕ) (w : IsWalk g f nexts here) (s : ℕ) (fresh : number_of f s ≡ None) (fits : s < length g) (edge : HasEdge g (node_at f here) s) (lower : (x : ℕ) → HasEdge g (node_at f here) x → x < s → (m : ℕ) × (number_of f x ≡ Some m)) where
  tree_new : IsInTree g (found_more f s here) (length f.order)
  tree_new =
      let n = w.numbered in
      let sum = w.spare in
      let low = w.below in
      let last = last_new g f n s here fresh fits in
      let up = parent_new g f n s here fresh fits in
      let up_node : node_at (found_more f s here) (parent_at (found_more f s here) (length f.order)) ≡ node_at f here = ap (node_at (found_more f s here)) up ∙ node_old g f n s here fresh fits here low in
      let node = node_new g f n s here fresh fits in
      record {
        last = omega arith;
        earlier = λ o. omega arith;
        edge = λ o. subst (λ (y : ℕ). HasEdge g y (node_at (found_more f s here) (length f.order))) (sym up_node) (subst (HasEdge g (node_at f here)) (sym node) edge);
        inside = λ o. let a = w.waits in let b = last_old g f n s here fresh fits here low in let c : last_at (found_more f s here) (parent_at (found_more f s here) (length f.order)) ≡ last_at (found_more f s here) here = ap (last_at (found_more f s here)) up in omega arith;
        lower = λ x o h less. let found = lower x (subst (λ (y : ℕ). HasEdge g y x) up_node h) (omega arith) in (found.0, number_old g f n s here fresh fits x found.0 found.1, (n.named x found.0 found.1).0);
        around = λ m a b. let same = last_old g f n s here fresh fits m a in ⊎_elim (λ (e : last_at f m ≡ length g). let c = w.under m a e in let r : m ≤ parent_at (found_more f s here) (length f.order) = omega arith in r) (λ (c : (last_at f m < length f.order) × IsLeft g f m). let d = c.0 in let r : m ≤ parent_at (found_more f s here) (length f.order) = omega arith in r) (w.left m a);
      }

  tree_each : (k : ℕ) → (k < length f.order) ⊎ (k ≡ length f.order) → IsInTree g (found_more f s here) k
  tree_each k (inl l) = tree_old g f w.numbered s here fresh fits k l (w.tree k l)
  tree_each k (inr e) = subst (IsInTree g (found_more f s here)) (sym e) tree_new

  left_each : (k : ℕ) → (k < length f.order) ⊎ (k ≡ length f.order) → (last_at (found_more f s here) k ≡ length g) ⊎ ((last_at (found_more f s here) k < length (found_more f s here).order) × IsLeft g (found_more f s here) k)
  left_each k (inl l) =
      let same = last_old g f w.numbered s here fresh fits k l in
      let c = count_more g f w.numbered s here fresh fits in
      ⊎_elim (λ (e : last_at f k ≡ length g). inl (same ∙ e)) (λ (h : (last_at f k < length f.order) × IsLeft g f k). let d = h.0 in let r : last_at (found_more f s here) k < length (found_more f s here).order = omega arith in inr (r, left_old g f w.numbered s here fresh fits k l h.1)) (w.left k l)
  left_each k (inr e) =
      inl (ap (last_at (found_more f s here)) e ∙ last_new g f w.numbered s here fresh fits)

  pub IsWalk-find : (more : List ℕ) → length more ≡ length g → ((x i : ℕ) → i < get_or more x 0 → i < length (successors_of g x) → (m : ℕ) × (number_of (found_more f s here) (get_or (successors_of g x) i 0) ≡ Some m)) → IsWalk g (found_more f s here) more (length f.order)
  IsWalk-find more count looked =
      let n = w.numbered in
      let c = count_more g f n s here fresh fits in
      record {
        numbered = IsNumbered-more g f n s here fresh fits;
        spare = let a = unfound_less g f n s here fresh fits in let b = w.spare in omega arith;
        tree = λ k l. tree_each k (old_or_new g f n s here fresh fits k l);
        below = omega arith;
        waits = last_new g f n s here fresh fits;
        left = λ k l. left_each k (old_or_new g f n s here fresh fits k l);
        under = λ k l e. omega arith;
        next_count = count;
        looked = looked;
      }

  pub first_more : node_at (found_more f s here) 0 ≡ node_at f 0
  first_more = node_old g f w.numbered s here fresh fits 0 w.numbered.some

-- the search leaves the node where it stands
module _ (g : List (List ℕ)) (f : Found) (nexts : List ℕ) (here : ℕ) (w : IsWalk g f nexts here) (all : length (successors_of g (node_at f here)) ≤ get_or nexts (node_at f here) 0) where
  few : length f.order ≤ length g
  few = let sum = w.spare in omega arith

  last_here : last_at (left_at f here) here ≡ length f.order - 1
  last_here =
      let a = w.below in
      let b = w.numbered.last_count in
      get_or-set_same f.lasts here (length f.order - 1) 0 (omega arith)

  last_there : (k : ℕ) → k ≢ here → last_at (left_at f here) k ≡ last_at f k
  last_there k o = get_or-set_other f.lasts here k (length f.order - 1) 0 o

  leaves : IsLeft g (left_at f here) here
  leaves x h =
      let place : get_or (successors_of g (node_at f here)) h.0 0 ≡ x = get_or_default (successors_of g (node_at f here)) h.0 0 x h.1 ∙ h.2 in
      let found = w.looked (node_at f here) h.0 (let l = h.1 in omega arith) h.1 in
      let mine : number_of f x ≡ Some found.0 = subst (λ (y : ℕ). number_of f y ≡ Some found.0) place found.1 in
      let low = (w.numbered.named x found.0 mine).0 in
      let last = last_here in
      (found.0, mine, omega arith)

  inside_left : (k : ℕ) → k < length f.order → 0 < k → (k ≡ here) ⊎ (k ≢ here) → (parent_at f k ≡ here) ⊎ (parent_at f k ≢ here) → last_at (left_at f here) k ≤ last_at (left_at f here) (parent_at f k)
  inside_left k l o (inl e) (inl p) = let a = (w.tree k l).earlier o in absurd (omega arith)
  inside_left k l o (inl e) (inr q) =
      let a = (w.tree k l).inside o in
      let b = last_there (parent_at f k) q in
      let c = last_here in
      let d : last_at (left_at f here) k ≡ last_at (left_at f here) here = ap (last_at (left_at f here)) e in
      let u : last_at f k ≡ last_at f here = ap (last_at f) e in
      let v = w.waits in
      let small = few in
      omega arith
  inside_left k l o (inr q) (inl p) =
      let same = last_there k q in
      let c = last_here in
      let d : last_at (left_at f here) (parent_at f k) ≡ last_at (left_at f here) here = ap (last_at (left_at f here)) p in
      let a = (w.tree k l).earlier o in
      ⊎_elim (λ (e : last_at f k ≡ length g). let u = w.under k l e in let no : ⊥ = omega arith in absurd no) (λ (h : (last_at f k < length f.order) × IsLeft g f k). let t = h.0 in let r : last_at (left_at f here) k ≤ last_at (left_at f here) (parent_at f k) = omega arith in r) (w.left k l)
  inside_left k l o (inr q) (inr r) =
      let a = last_there k q in
      let b = last_there (parent_at f k) r in
      let c = (w.tree k l).inside o in
      omega arith

  last_left : (k : ℕ) → k < length f.order → (k ≡ here) ⊎ (k ≢ here) → k ≤ last_at (left_at f here) k
  last_left k l (inl e) =
      let c = last_here in
      let d : last_at (left_at f here) k ≡ last_at (left_at f here) here = ap (last_at (left_at f here)) e in
      omega arith
  last_left k l (inr o) = let a = last_there k o in let b = (w.tree k l).last in omega arith

  around_left : (k : ℕ) → k < length f.order → (m : ℕ) → (m ≡ here) ⊎ (m ≢ here) → m < k → k ≤ last_at (left_at f here) m → m ≤ parent_at f k
  around_left k l m (inl e) a b =
      let u : last_at f m ≡ last_at f here = ap (last_at f) e in
      let v = w.waits in
      let small = few in
      (w.tree k l).around m a (omega arith)
  around_left k l m (inr o) a b = let same = last_there m o in (w.tree k l).around m a (omega arith)

  tree_left : (k : ℕ) → k < length f.order → IsInTree g (left_at f here) k
  tree_left k l =
      let t = w.tree k l in
      record {
        last = last_left k l (cases_eq k here);
        earlier = t.earlier;
        edge = t.edge;
        inside = λ o. inside_left k l o (cases_eq k here) (cases_eq (parent_at f k) here);
        lower = t.lower;
        around = λ m a b. around_left k l m (cases_eq m here) a b;
      }

  numbered_left : IsNumbered g (left_at f here)
  numbered_left =
      let n = w.numbered in
      record {
        some = n.some;
        parent_count = n.parent_count;
        last_count = length-set f.lasts here (length f.order - 1) ∙ n.last_count;
        number_count = n.number_count;
        nodes = n.nodes;
        numbered = n.numbered;
        named = n.named;
      }

  left_left : (k : ℕ) → k < length f.order → (k ≡ here) ⊎ (k ≢ here) → (last_at (left_at f here) k ≡ length g) ⊎ ((last_at (left_at f here) k < length f.order) × IsLeft g (left_at f here) k)
  left_left k l (inl e) =
      let c = last_here in
      let d : last_at (left_at f here) k ≡ last_at (left_at f here) here = ap (last_at (left_at f here)) e in
      let r : last_at (left_at f here) k < length f.order = omega arith in
      inr (r, subst (IsLeft g (left_at f here)) (sym e) leaves)
  left_left k l (inr o) =
      let same = last_there k o in
      ⊎_elim (λ (e : last_at f k ≡ length g). inl (same ∙ e)) (λ (h : (last_at f k < length f.order) × IsLeft g f k). let t = h.0 in let r : last_at (left_at f here) k < length f.order = omega arith in inr (r, λ x i. let found = h.1 x i in let m = found.2 in (found.0, found.1, omega arith))) (w.left k l)

  under_left : (k : ℕ) → k < length f.order → (k ≡ here) ⊎ (k ≢ here) → last_at (left_at f here) k ≡ length g → (k < here) × (last_at f k ≡ length g)
  under_left k l (inl e) h =
      let c = last_here in
      let d : last_at (left_at f here) k ≡ last_at (left_at f here) here = ap (last_at (left_at f here)) e in
      let small = few in
      let some = w.numbered.some in
      absurd (omega arith)
  under_left k l (inr o) h =
      let same = last_there k o in
      let e : last_at f k ≡ length g = sym same ∙ h in
      let u = w.under k l e in
      (omega arith, e)

  -- where the root is left, the search is done
  pub IsSearch-end : (root : ℕ) → here ≡ 0 → root ≡ node_at f 0 → IsSearchTree g root (left_at f here)
  IsSearch-end root e r =
      record {
        first = sym r;
        numbered = numbered_left;
        tree = tree_left;
        left = λ k l. ⊎_elim (λ (h : last_at (left_at f here) k ≡ length g). let u = under_left k l (cases_eq k here) h in let v = u.0 in let no : ⊥ = omega arith in absurd no) (λ (h : (last_at (left_at f here) k < length f.order) × IsLeft g (left_at f here) k). h.1) (left_left k l (cases_eq k here));
      }

  -- and else it stands at the parent
  pub IsWalk-up : here ≢ 0 → IsWalk g (left_at f here) nexts (parent_at f here)
  IsWalk-up o =
      let t = w.tree here w.below in
      let some : 0 < here = omega arith in
      let up = t.earlier some in
      let low = w.below in
      let small = few in
      let v = w.waits in
      let low_up : parent_at f here < length f.order = omega arith in
      let apart : parent_at f here ≢ here = omega arith in
      let inside = t.inside some in
      record {
        numbered = numbered_left;
        spare = w.spare;
        tree = tree_left;
        below = low_up;
        waits = last_there (parent_at f here) apart ∙ ⊎_elim (λ (e : last_at f (parent_at f here) ≡ length g). e) (λ (h : (last_at f (parent_at f here) < length f.order) × IsLeft g f (parent_at f here)). let q = h.0 in let no : ⊥ = omega arith in absurd no) (w.left (parent_at f here) low_up);
        left = λ k l. left_left k l (cases_eq k here);
        under = λ k l h. let u = under_left k l (cases_eq k here) h in let a = u.0 in let b = u.1 in t.around k a (omega arith);
        next_count = w.next_count;
        looked = w.looked;
      }

some_at : (o : Option ℕ) → is_some o ≡ true → (k : ℕ) × (o ≡ Some k)
some_at None h = absurd (cc)
some_at (Some k) h = (k, refl)

none_there : (o : Option ℕ) → is_some o ≡ false → o ≡ None
none_there None h = refl
none_there (Some k) h = absurd (cc)

-- the node at which the search stands, as the code reads it
module _ (g : List (List ℕ)) (f : Found) (nexts : List ℕ) (here : ℕ) (w : IsWalk g f nexts here) (v next : ℕ) (row : List ℕ) (at : v ≡ node_at f here) (read : next ≡ get_or nexts v next) (is_row : row ≡ successors_of g v) where
  here_fits : node_at f here < length nexts
  here_fits = let a = w.numbered.nodes here w.below in let b = w.next_count in omega arith

  next_is : next ≡ get_or nexts (node_at f here) 0
  next_is =
      let there : next ≡ get_or nexts (node_at f here) next = subst (λ (x : ℕ). next ≡ get_or nexts x next) at read in
      there ∙ get_or_default nexts (node_at f here) next 0 here_fits

  row_is : row ≡ successors_of g (node_at f here)
  row_is = subst (λ (x : ℕ). row ≡ successors_of g x) at is_row

  pub none_left : length row ≤ next → length (successors_of g (node_at f here)) ≤ get_or nexts (node_at f here) 0
  none_left l = let a = ap (λ (xs : List ℕ). length xs) row_is in let b = next_is in omega arith

  module _ (more : get_or nexts (node_at f here) 0 < length (successors_of g (node_at f here))) (s : ℕ) (is : s ≡ get_or row next 0) where
    successor_is : s ≡ get_or (successors_of g (node_at f here)) (get_or nexts (node_at f here) 0) 0
    successor_is =
        is ∙ (ap (λ (xs : List ℕ). get_or xs next 0) row_is ∙ ap (λ (j : ℕ). get_or (successors_of g (node_at f here)) j 0) next_is)

    nexts_are : set nexts v (next + 1) ≡ set nexts (node_at f here) (get_or nexts (node_at f here) 0 + 1)
    nexts_are =
        ap (λ (x : ℕ). set nexts x (next + 1)) at ∙ ap (λ (j : ℕ). set nexts (node_at f here) (j + 1)) next_is

    edge_to : HasEdge g (node_at f here) s
    edge_to =
        subst (HasEdge g (node_at f here)) (sym successor_is) (Contains-get_or (successors_of g (node_at f here)) (get_or nexts (node_at f here) 0) 0 more)

    pub look_again : is_some (number_of f s) ≡ true → IsWalk g f (set nexts v (next + 1)) here
    look_again known =
        subst (λ (ns : List ℕ). IsWalk g f ns here) (sym nexts_are) (record { numbered = w.numbered; spare = w.spare; tree = w.tree; below = w.below; waits = w.waits; left = w.left; under = w.under; next_count = length-set nexts (node_at f here) (get_or nexts (node_at f here) 0 + 1) ∙ w.next_count; looked = looked-next g f f nexts (node_at f here) s (λ x k h. h) (some_at (number_of f s) known) here_fits successor_is w.looked })

    pub look_falls : (there : ℕ) → there < length g → steps_left g (set nexts v (next + 1)) there < steps_left g nexts here
    look_falls there l =
        subst (λ (ns : List ℕ). steps_left g ns there < steps_left g nexts here) (sym nexts_are) (steps-less (looks_left g nexts) (looks_left g (set nexts (node_at f here) (get_or nexts (node_at f here) 0 + 1))) (length g) here there (looks_left-set g nexts (node_at f here) w.next_count (w.numbered.nodes here w.below) more) l)

    pub here_below : here < length g
    here_below = let a = w.below in let b = w.spare in omega arith

    module _ (ends : EndsAtNodes g) (rising : IsRising (successors_of g (node_at f here))) (fresh : is_some (number_of f s) ≡ false) where
      lower_found : (x : ℕ) → HasEdge g (node_at f here) x → x < s → (m : ℕ) × (number_of f x ≡ Some m)
      lower_found x h l =
          let place : get_or (successors_of g (node_at f here)) h.0 0 ≡ x = get_or_default (successors_of g (node_at f here)) h.0 0 x h.1 ∙ h.2 in
          let apart = successor_is in
          let before : h.0 < get_or nexts (node_at f here) 0 = ⊎_elim (λ (e : h.0 ≡ get_or nexts (node_at f here) 0). let same : get_or (successors_of g (node_at f here)) h.0 0 ≡ get_or (successors_of g (node_at f here)) (get_or nexts (node_at f here) 0) 0 = ap (λ (j : ℕ). get_or (successors_of g (node_at f here)) j 0) e in let no : ⊥ = omega arith in absurd no) (λ (o : (h.0 < get_or nexts (node_at f here) 0) ⊎ (get_or nexts (node_at f here) 0 < h.0)). ⊎_elim (λ (b : h.0 < get_or nexts (node_at f here) 0). b) (λ (b : get_or nexts (node_at f here) 0 < h.0). let up = rising (get_or nexts (node_at f here) 0) h.0 b h.1 in let no : ⊥ = omega arith in absurd no) o) (cases_order h.0 (get_or nexts (node_at f here) 0)) in
          let found = w.looked (node_at f here) h.0 before h.1 in
          (found.0, subst (λ (y : ℕ). number_of f y ≡ Some found.0) place found.1)

      pub successor_fits : s < length g
      successor_fits = ends (node_at f here) s edge_to

      none : number_of f s ≡ None
      none = none_there (number_of f s) fresh

      pub look_found : IsWalk g (found_more f s here) (set nexts v (next + 1)) (length f.order)
      look_found =
          let n = w.numbered in
          let new = number_new g f n s here none successor_fits in
          subst (λ (ns : List ℕ). IsWalk g (found_more f s here) ns (length f.order)) (sym nexts_are) (IsWalk-find g f nexts here w s none successor_fits edge_to lower_found (set nexts (node_at f here) (get_or nexts (node_at f here) 0 + 1)) (length-set nexts (node_at f here) (get_or nexts (node_at f here) 0 + 1) ∙ w.next_count) (looked-next g f (found_more f s here) nexts (node_at f here) s (number_old g f n s here none successor_fits) (length f.order, new) here_fits successor_is w.looked))

      pub found_below : length f.order < length g
      found_below =
          let n = w.numbered in
          let a = unfound_less g f n s here none successor_fits in
          let b = w.spare in
          omega arith

      pub look_first : node_at (found_more f s here) 0 ≡ node_at f 0
      look_first = first_more g f nexts here w s none successor_fits edge_to lower_found

-- the same walk under other names
pub IsWalk-moved : (g : List (List ℕ)) (f f' : Found) (nexts : List ℕ) (here here' : ℕ) → f' ≡ f → here' ≡ here → IsWalk g f nexts here → IsWalk g f' nexts here'
IsWalk-moved g f f' nexts here here' e h w =
    subst (λ (x : Found). IsWalk g x nexts here') (sym e) (subst (IsWalk g f nexts) (sym h) w)
