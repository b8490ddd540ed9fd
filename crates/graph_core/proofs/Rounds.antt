-- what the steps of a walk of a whole graph keep
use Rattle.std.proofs.Common.{◌≡◌, ◌≢◌, ◌⊎◌, ℕ, ◌+◌, ◌<◌, ◌≤◌, Bool, true, false, not, cond, List, [], ◌∷◌, ◌++◌, length, get_or, set, All, Contains, refl, sym, ◌∙◌, ap, inl, inr, ⊎_elim, subst, arith, get_or-set_same, get_or-set_other}
use Rattle.std.proofs.lemmas.Bool.{cases_eq, cases_lt, false≢true}
use Rattle.std.proofs.lemmas.List.{length-set, length_push, get_or_append_left, get_or_push, get_or_default}
use Rattle.std.specs.Prelude.{count_by}
use Rattle.std.proofs.lemmas.List.Sums.{sum_by-set}
use Rattle.std.proofs.lemmas.List.Elements.{Contains-get_or, Contains-append_left, Contains-append_right, Contains-append_cases}
use Rattle.graph_core.specs.Graphs.{HasEdge, successors_of}
use Rattle.graph_core.specs.Paths.{Reaches}
use Rattle.graph_core.specs.Marked.{IsMarked}
use Rattle.graph_core.specs.Leaving.{IsLeftAt, IsWaitingAt, IsRound, IsEntered, IsMoreFrom, IsReaching, IsLeaving, round_left}
use Rattle.graph_core.proofs.Lists.{Contains-head}
use Rattle.graph_core.proofs.Reach.{Reaches-itself, Reaches-before, Reaches-through}
use Rattle.graph_core.proofs.Walks.{looks_left-set}
use Rattle.graph_core.proofs.Marks.{marked_below}

-- the place of a number in a list
pub place_of : (xs : List ℕ) (x : ℕ) → Contains xs x → (k : ℕ) × (k < length xs) × (get_or xs k 0 ≡ x)
place_of xs x h = (h.0, h.1, get_or_default xs h.0 0 x h.1 ∙ h.2)

pub Contains-place : (xs : List ℕ) (x k : ℕ) → k < length xs → get_or xs k 0 ≡ x → Contains xs x
Contains-place xs x k l e = subst (Contains xs) e (Contains-get_or xs k 0 l)

pub push_cases : (xs : List ℕ) (x i : ℕ) → i < length (xs ++ x ∷ []) → (i < length xs) ⊎ (i ≡ length xs)
push_cases xs x i l =
    let n = length_push xs x in
    ⊎_elim (λ (e : i ≡ length xs). inr e) (λ (o : i ≢ length xs). let m : i < length xs = omega arith in inl m) (cases_eq i (length xs))

-- what waits still waits where the stack below it and what was left are so still
waiting_moved : (g : List (List ℕ)) (stack order stack' order' : List ℕ) (a : ℕ) → IsWaitingAt g stack order a → ((b : ℕ) → b ≤ a → get_or stack' b 0 ≡ get_or stack b 0) → ((k : ℕ) → k < length order → get_or order' k 0 ≡ get_or order k 0) → length order ≤ length order' → ((b : ℕ) → a ≤ b → b < length stack' → Reaches g (get_or stack a 0) (get_or stack' b 0)) → ((k : ℕ) → length order ≤ k → k < length order' → Reaches g (get_or stack a 0) (get_or order' k 0)) → IsWaitingAt g stack' order' a
waiting_moved g stack order stack' order' a t same kept longer above reached =
    let low = t.before in
    record {
      since = t.since;
      before = omega arith;
      reached = λ k l m. subst (λ (x : ℕ). Reaches g x (get_or order' k 0)) (sym (same a (omega arith))) (⊎_elim (λ (o : k < length order). subst (Reaches g (get_or stack a 0)) (sym (kept k o)) (t.reached k l o)) (λ (n : length order ≤ k). reached k n m) (cases_lt k (length order)));
      above = λ b l m. subst (λ (x : ℕ). Reaches g x (get_or stack' b 0)) (sym (same a (omega arith))) (above b l m);
      closed = λ k y l h. ⊎_elim (λ (o : (j : ℕ) × (j < t.since) × (get_or order j 0 ≡ y)). let m = o.1 in inl (o.0, o.1, kept o.0 (omega arith) ∙ o.2)) (λ (o : (b : ℕ) × (b < a) × (get_or stack b 0 ≡ y)). let m = o.1 in inr (o.0, o.1, same o.0 (omega arith) ∙ o.2)) (t.closed k y l (subst (λ (x : ℕ). HasEdge g x y) (kept k (omega arith)) h));
    }

left_moved : (g : List (List ℕ)) (order order' : List ℕ) (i : ℕ) → IsLeftAt g order i → ((k : ℕ) → k ≤ i → get_or order' k 0 ≡ get_or order k 0) → IsLeftAt g order' i
left_moved g order order' i t kept =
    let low = t.before in
    record {
      since = t.since;
      before = t.before;
      reached = λ k l m. subst (λ (x : ℕ). Reaches g x (get_or order' k 0)) (sym (kept i (omega arith))) (subst (Reaches g (get_or order i 0)) (sym (kept k m)) (t.reached k l m));
      closed = λ k j l m n h. t.closed k j l m n (subst (λ (x : ℕ). HasEdge g x (get_or order j 0)) (kept k (omega arith)) (subst (HasEdge g (get_or order' k 0)) (kept j n) h));
    }

mark_set : (found : List Bool) (s : ℕ) → s < length found → (x : ℕ) → IsMarked found x → IsMarked (set found s true) x
mark_set found s l x m =
    ⊎_elim (λ (e : x ≡ s). subst (IsMarked (set found s true)) (sym e) (get_or-set_same found s true false l)) (λ (o : x ≢ s). get_or-set_other found s x true false o ∙ m) (cases_eq x s)

-- a node that wasn't found before is put on the stack
module _ (g : List (List ℕ)) (found : List Bool) (nexts stack order : List ℕ) (w : IsRound g found nexts stack order) (s : ℕ) (fresh : get_or found s false ≡ false) (fits : s < length g) (reach : (a : ℕ) → a < length stack → Reaches g (get_or stack a 0) s) where
  mark_kept : (x : ℕ) → IsMarked found x → IsMarked (set found s true) x
  mark_kept = mark_set found s (omega (arith, w.found_count))

  mark_new : IsMarked (set found s true) s
  mark_new = get_or-set_same found s true false (omega (arith, w.found_count))

  mark_from : (x : ℕ) → IsMarked (set found s true) x → IsMarked found x ⊎ (x ≡ s)
  mark_from x m =
      ⊎_elim (λ (e : x ≡ s). inr e) (λ (o : x ≢ s). inl (sym (get_or-set_other found s x true false o) ∙ m)) (cases_eq x s)

  unlike : (x : ℕ) → IsMarked found x → x ≢ s
  unlike x m e = false≢true (sym fresh ∙ subst (IsMarked found) e m)

  at_old : (i : ℕ) → i < length stack → get_or (stack ++ s ∷ []) i 0 ≡ get_or stack i 0
  at_old i l = get_or_append_left stack (s ∷ []) 0 i l

  at_new : (i : ℕ) → i ≡ length stack → get_or (stack ++ s ∷ []) i 0 ≡ s
  at_new i e = get_or_push stack s 0 i (sym e)

  waits_old : (a : ℕ) → a < length stack → IsWaitingAt g (stack ++ s ∷ []) order a
  waits_old a l =
      let t = w.waiting a l in
      waiting_moved g stack order (stack ++ s ∷ []) order a t (λ b m. at_old b (omega arith)) (λ k m. refl) (omega arith) (λ b m n. ⊎_elim (λ (o : b < length stack). subst (Reaches g (get_or stack a 0)) (sym (at_old b o)) (t.above b m o)) (λ (e : b ≡ length stack). subst (Reaches g (get_or stack a 0)) (sym (at_new b e)) (reach a l)) (push_cases stack s b n)) (λ k m n. absurd (omega arith))

  waits_new : (a : ℕ) → a ≡ length stack → IsWaitingAt g (stack ++ s ∷ []) order a
  waits_new a e =
      let n = length_push stack s in
      record {
        since = length order;
        before = omega arith;
        reached = λ k l m. absurd (omega arith);
        above = λ b l m. let same : b ≡ a = omega arith in subst (λ (i : ℕ). Reaches g (get_or (stack ++ s ∷ []) a 0) (get_or (stack ++ s ∷ []) i 0)) (sym same) (Reaches-itself g (get_or (stack ++ s ∷ []) a 0));
        closed = λ k y l h. ⊎_elim (λ (c : Contains stack y). let p = place_of stack y c in let m = p.1 in inr (p.0, omega arith, at_old p.0 p.1 ∙ p.2)) (λ (c : Contains order y). inl (place_of order y c)) (w.placed y (w.done k y l h));
      }

  spare_enter : length (stack ++ s ∷ []) + length order + count_by not (set found s true) ≡ length g
  spare_enter =
      let a = w.found_count in
      let n = length_push stack s in
      let sum = w.spare in
      let change = sum_by-set (λ (b : Bool). cond {A = ℕ} (not b) 1 0) found s true false (omega arith) in
      let was : cond {A = ℕ} (not (get_or found s false)) 1 0 ≡ 1 = ap (λ (b : Bool). cond {A = ℕ} (not b) 1 0) fresh in
      omega arith

  pub round_enter : IsRound g (set found s true) nexts (stack ++ s ∷ []) order
  round_enter =
      record {
        found_count = length-set found s true ∙ w.found_count;
        next_count = w.next_count;
        spare = spare_enter;
        in_stack = λ i l. ⊎_elim (λ (o : i < length stack). subst (IsMarked (set found s true)) (sym (at_old i o)) (mark_kept (get_or stack i 0) (w.in_stack i o))) (λ (e : i ≡ length stack). subst (IsMarked (set found s true)) (sym (at_new i e)) mark_new) (push_cases stack s i l);
        in_order = λ i l. mark_kept (get_or order i 0) (w.in_order i l);
        placed = λ x m. ⊎_elim (λ (o : IsMarked found x). ⊎_elim (λ (c : Contains stack x). inl (Contains-append_left stack (s ∷ []) x c)) (λ (c : Contains order x). inr c) (w.placed x o)) (λ (e : x ≡ s). inl (subst (Contains (stack ++ s ∷ [])) (sym e) (Contains-append_right stack (s ∷ []) s (Contains-head s [])))) (mark_from x m);
        stack_distinct = λ i j l m. ⊎_elim (λ (o : j < length stack). let p = at_old i (omega arith) in let q = at_old j o in let r = w.stack_distinct i j l o in omega arith) (λ (e : j ≡ length stack). let o : i < length stack = omega arith in let p = at_old i o in let q = at_new j e in let r = unlike (get_or stack i 0) (w.in_stack i o) in omega arith) (push_cases stack s j m);
        order_distinct = w.order_distinct;
        apart = λ i j l m. ⊎_elim (λ (o : i < length stack). let p = at_old i o in let r = w.apart i j o m in omega arith) (λ (e : i ≡ length stack). let q = at_new i e in let r = unlike (get_or order j 0) (w.in_order j m) in omega arith) (push_cases stack s i l);
        looked = λ x i l m. mark_kept (get_or (successors_of g x) i 0) (w.looked x i l m);
        done = λ k y l h. mark_kept y (w.done k y l h);
        waiting = λ a l. ⊎_elim (waits_old a) (waits_new a) (push_cases stack s a l);
        left = w.left;
      }

-- one successor more was looked at, and it was found
pub round_look : (g : List (List ℕ)) (found : List Bool) (nexts stack order : List ℕ) → IsRound g found nexts stack order → (v : ℕ) → v < length g → IsMarked found (get_or (successors_of g v) (get_or nexts v 0) 0) → IsRound g found (set nexts v (get_or nexts v 0 + 1)) stack order
round_look g found nexts stack order w v l now =
    record {
      found_count = w.found_count;
      next_count = length-set nexts v (get_or nexts v 0 + 1) ∙ w.next_count;
      spare = w.spare;
      in_stack = w.in_stack;
      in_order = w.in_order;
      placed = w.placed;
      stack_distinct = w.stack_distinct;
      order_distinct = w.order_distinct;
      apart = w.apart;
      looked = λ x i m n. ⊎_elim (here x i m n) (there x i m n) (cases_eq x v);
      done = w.done;
      waiting = w.waiting;
      left = w.left;
    }
  where
    there : (x i : ℕ) → i < get_or (set nexts v (get_or nexts v 0 + 1)) x 0 → i < length (successors_of g x) → x ≢ v → IsMarked found (get_or (successors_of g x) i 0)
    there x i m n o =
        let same = get_or-set_other nexts v x (get_or nexts v 0 + 1) 0 o in w.looked x i (omega arith) n

    at_v : (i : ℕ) → i < get_or (set nexts v (get_or nexts v 0 + 1)) v 0 → i < length (successors_of g v) → IsMarked found (get_or (successors_of g v) i 0)
    at_v i m n =
        let c = w.next_count in
        let same = get_or-set_same nexts v (get_or nexts v 0 + 1) 0 (omega arith) in
        ⊎_elim (λ (e : i ≡ get_or nexts v 0). subst (λ (j : ℕ). IsMarked found (get_or (successors_of g v) j 0)) (sym e) now) (λ (o : i ≢ get_or nexts v 0). w.looked v i (omega arith) n) (cases_eq i (get_or nexts v 0))

    here : (x i : ℕ) → i < get_or (set nexts v (get_or nexts v 0 + 1)) x 0 → i < length (successors_of g x) → x ≡ v → IsMarked found (get_or (successors_of g x) i 0)
    here x i m n e =
        subst (λ (y : ℕ). IsMarked found (get_or (successors_of g y) i 0)) (sym e) (at_v i (subst (λ (y : ℕ). i < get_or (set nexts v (get_or nexts v 0 + 1)) y 0) e m) (subst (λ (y : ℕ). i < length (successors_of g y)) e n))

-- the node on top is left, where all its successors were looked at
module _ (g : List (List ℕ)) (found : List Bool) (nexts below order : List ℕ) (v : ℕ) (w : IsRound g found nexts (below ++ v ∷ []) order) where
  top_old : (i : ℕ) → i < length below → get_or (below ++ v ∷ []) i 0 ≡ get_or below i 0
  top_old i l = get_or_append_left below (v ∷ []) 0 i l

  top_is : get_or (below ++ v ∷ []) (length below) 0 ≡ v
  top_is = get_or_push below v 0 (length below) refl

  top_within : length below < length (below ++ v ∷ [])
  top_within = let n = length_push below v in omega arith

  left_old : (i : ℕ) → i < length order → get_or (order ++ v ∷ []) i 0 ≡ get_or order i 0
  left_old i l = get_or_append_left order (v ∷ []) 0 i l

  left_new : (i : ℕ) → i ≡ length order → get_or (order ++ v ∷ []) i 0 ≡ v
  left_new i e = get_or_push order v 0 i (sym e)

  v_marked : IsMarked found v
  v_marked = subst (IsMarked found) top_is (w.in_stack (length below) top_within)

  v_done : length (successors_of g v) ≤ get_or nexts v 0 → (y : ℕ) → HasEdge g v y → IsMarked found y
  v_done all y h =
      let p = place_of (successors_of g v) y h in
      let l = p.1 in
      subst (IsMarked found) p.2 (w.looked v p.0 (omega arith) p.1)

  v_waits : IsWaitingAt g (below ++ v ∷ []) order (length below)
  v_waits = w.waiting (length below) top_within

  reached_here : (k : ℕ) → v_waits.since ≤ k → k ≤ length order → Reaches g v (get_or (order ++ v ∷ []) k 0)
  reached_here k l m =
      ⊎_elim (λ (o : k < length order). subst (Reaches g v) (sym (left_old k o)) (subst (λ (x : ℕ). Reaches g x (get_or order k 0)) top_is (v_waits.reached k l o))) (λ (n : length order ≤ k). subst (Reaches g v) (sym (left_new k (omega arith))) (Reaches-itself g v)) (cases_lt k (length order))

  -- what has its place since v was found has no place before, nor below v
  not_before : (j y : ℕ) → v_waits.since ≤ j → j ≤ length order → get_or (order ++ v ∷ []) j 0 ≡ y → (i : ℕ) × (i < v_waits.since) × (get_or order i 0 ≡ y) → ⊥
  not_before j y l m e o =
      let low = v_waits.before in
      let a = o.1 in
      let b = o.2 in
      ⊎_elim (λ (n : j < length order). let p = left_old j n in let q = w.order_distinct o.0 j (omega arith) n in let no : ⊥ = omega arith in no) (λ (n : length order ≤ j). let p = left_new j (omega arith) in let t = top_is in let q = w.apart (length below) o.0 top_within (omega arith) in let no : ⊥ = omega arith in no) (cases_lt j (length order))

  not_below : (j y : ℕ) → j ≤ length order → get_or (order ++ v ∷ []) j 0 ≡ y → (b : ℕ) × (b < length below) × (get_or (below ++ v ∷ []) b 0 ≡ y) → ⊥
  not_below j y m e o =
      let a = o.1 in
      let b = o.2 in
      let c = length_push below v in
      let d = top_within in
      ⊎_elim (λ (n : j < length order). let p = left_old j n in let q = w.apart o.0 j (omega arith) n in let no : ⊥ = omega arith in no) (λ (n : length order ≤ j). let p = left_new j (omega arith) in let t = top_is in let q = w.stack_distinct o.0 (length below) o.1 top_within in let no : ⊥ = omega arith in no) (cases_lt j (length order))

  left_here : IsLeftAt g (order ++ v ∷ []) (length order)
  left_here =
      record {
        since = v_waits.since;
        before = v_waits.before;
        reached = λ k l m. subst (λ (x : ℕ). Reaches g x (get_or (order ++ v ∷ []) k 0)) (sym (left_new (length order) refl)) (reached_here k l m);
        closed = λ k j l m n h. let low = v_waits.before in ⊎_elim (not_before j (get_or (order ++ v ∷ []) j 0) m n refl) (not_below j (get_or (order ++ v ∷ []) j 0) n refl) (v_waits.closed k (get_or (order ++ v ∷ []) j 0) l (subst (λ (x : ℕ). HasEdge g x (get_or (order ++ v ∷ []) j 0)) (left_old k (omega arith)) h));
      }

  waits_below : (a : ℕ) → a < length below → IsWaitingAt g below (order ++ v ∷ []) a
  waits_below a l =
      let n = length_push below v in
      let o = length_push order v in
      let t = w.waiting a (omega arith) in
      waiting_moved g (below ++ v ∷ []) order below (order ++ v ∷ []) a t (λ b m. sym (top_old b (omega arith))) left_old (omega arith) (λ b m k. subst (Reaches g (get_or (below ++ v ∷ []) a 0)) (top_old b k) (t.above b m (omega arith))) (λ k m i. subst (Reaches g (get_or (below ++ v ∷ []) a 0)) (top_is ∙ sym (left_new k (omega arith))) (t.above (length below) (omega arith) top_within))

  placed_left : (x : ℕ) → IsMarked found x → Contains below x ⊎ Contains (order ++ v ∷ []) x
  placed_left x m =
      ⊎_elim (λ (c : Contains (below ++ v ∷ []) x). ⊎_elim (λ (d : Contains below x). inl d) (λ (d : Contains (v ∷ []) x). inr (Contains-append_right order (v ∷ []) x d)) (Contains-append_cases below (v ∷ []) x c)) (λ (c : Contains order x). inr (Contains-append_left order (v ∷ []) x c)) (w.placed x m)

  pub v_fits : v < length g
  v_fits = let a = marked_below found v v_marked in let b = w.found_count in omega arith

  pub round_leave : length (successors_of g v) ≤ get_or nexts v 0 → IsRound g found nexts below (order ++ v ∷ [])
  round_leave all =
      let n = length_push below v in
      record {
        found_count = w.found_count;
        next_count = w.next_count;
        spare = let sum = w.spare in let m = length_push order v in omega arith;
        in_stack = λ i l. subst (IsMarked found) (top_old i l) (w.in_stack i (omega arith));
        in_order = λ i l. ⊎_elim (λ (o : i < length order). subst (IsMarked found) (sym (left_old i o)) (w.in_order i o)) (λ (e : i ≡ length order). subst (IsMarked found) (sym (left_new i e)) v_marked) (push_cases order v i l);
        placed = placed_left;
        stack_distinct = λ i j l m. let p = top_old i (omega arith) in let q = top_old j m in let r = w.stack_distinct i j l (omega arith) in omega arith;
        order_distinct = λ i j l m. ⊎_elim (λ (o : j < length order). let p = left_old i (omega arith) in let q = left_old j o in let r = w.order_distinct i j l o in omega arith) (λ (e : j ≡ length order). let p = left_old i (omega arith) in let q = left_new j e in let t = top_is in let r = w.apart (length below) i top_within (omega arith) in omega arith) (push_cases order v j m);
        apart = λ i j l m. let p = top_old i l in ⊎_elim (λ (o : j < length order). let q = left_old j o in let r = w.apart i j (omega arith) o in omega arith) (λ (e : j ≡ length order). let q = left_new j e in let t = top_is in let r = w.stack_distinct i (length below) l top_within in omega arith) (push_cases order v j m);
        looked = w.looked;
        done = λ k y l h. ⊎_elim (λ (o : k < length order). w.done k y o (subst (λ (x : ℕ). HasEdge g x y) (left_old k o) h)) (λ (e : k ≡ length order). v_done all y (subst (λ (x : ℕ). HasEdge g x y) (left_new k e) h)) (push_cases order v k l);
        waiting = waits_below;
        left = λ i l. ⊎_elim (λ (o : i < length order). left_moved g order (order ++ v ∷ []) i (w.left i o) (λ k m. left_old k (omega arith))) (λ (e : i ≡ length order). subst (IsLeftAt g (order ++ v ∷ [])) (sym e) left_here) (push_cases order v i l);
      }

-- what an entered node makes of a round
module _ (g : List (List ℕ)) (found : List Bool) (nexts stack order : List ℕ) (w : IsRound g found nexts stack order) (s : ℕ) (fits : s < length g) (found' : List Bool) (stack' : List ℕ) (e : IsEntered found stack s found' stack') where
  pub round_entered : ((a : ℕ) → a < length stack → Reaches g (get_or stack a 0) s) → IsRound g found' nexts stack' order
  round_entered reach =
      ⊎_elim (λ (o : IsMarked found s × (found' ≡ found) × (stack' ≡ stack)). subst (λ (fs : List Bool). IsRound g fs nexts stack' order) (sym o.1) (subst (λ (xs : List ℕ). IsRound g found nexts xs order) (sym o.2) w)) (λ (n : (get_or found s false ≡ false) × (found' ≡ set found s true) × (stack' ≡ stack ++ s ∷ [])). subst (λ (fs : List Bool). IsRound g fs nexts stack' order) (sym n.1) (subst (λ (xs : List ℕ). IsRound g (set found s true) nexts xs order) (sym n.2) (round_enter g found nexts stack order w s n.0 fits reach))) e

  pub entered_found : IsMarked found' s
  entered_found =
      ⊎_elim (λ (o : IsMarked found s × (found' ≡ found) × (stack' ≡ stack)). subst (λ (fs : List Bool). IsMarked fs s) (sym o.1) o.0) (λ (n : (get_or found s false ≡ false) × (found' ≡ set found s true) × (stack' ≡ stack ++ s ∷ [])). subst (λ (fs : List Bool). IsMarked fs s) (sym n.1) (get_or-set_same found s true false (omega (arith, w.found_count)))) e

  pub entered_kept : (x : ℕ) → IsMarked found x → IsMarked found' x
  entered_kept x m =
      ⊎_elim (λ (o : IsMarked found s × (found' ≡ found) × (stack' ≡ stack)). subst (λ (fs : List Bool). IsMarked fs x) (sym o.1) m) (λ (n : (get_or found s false ≡ false) × (found' ≡ set found s true) × (stack' ≡ stack ++ s ∷ [])). subst (λ (fs : List Bool). IsMarked fs x) (sym n.1) (mark_set found s (omega (arith, w.found_count)) x m)) e

  pub entered_reaching : (root : ℕ) → Reaches g root s → IsReaching g root stack → IsReaching g root stack'
  entered_reaching root h all i l =
      ⊎_elim (λ (o : IsMarked found s × (found' ≡ found) × (stack' ≡ stack)). subst (λ (xs : List ℕ). Reaches g root (get_or xs i 0)) (sym o.2) (all i (subst (λ (xs : List ℕ). i < length xs) o.2 l))) (λ (n : (get_or found s false ≡ false) × (found' ≡ set found s true) × (stack' ≡ stack ++ s ∷ [])). subst (λ (xs : List ℕ). Reaches g root (get_or xs i 0)) (sym n.2) (reaching_pushed (subst (λ (xs : List ℕ). i < length xs) n.2 l))) e
    where
      reaching_pushed : i < length (stack ++ s ∷ []) → Reaches g root (get_or (stack ++ s ∷ []) i 0)
      reaching_pushed m =
          ⊎_elim (λ (o : i < length stack). subst (Reaches g root) (sym (get_or_append_left stack (s ∷ []) 0 i o)) (all i o)) (λ (q : i ≡ length stack). subst (Reaches g root) (sym (get_or_push stack s 0 i (sym q))) h) (push_cases stack s i m)

  pub entered_length : length stack' ≤ length stack + 1
  entered_length =
      let n = length_push stack s in
      ⊎_elim (λ (o : IsMarked found s × (found' ≡ found) × (stack' ≡ stack)). let q = ap (λ (xs : List ℕ). length xs) o.2 in let r : length stack' ≤ length stack + 1 = omega arith in r) (λ (o : (get_or found s false ≡ false) × (found' ≡ set found s true) × (stack' ≡ stack ++ s ∷ [])). let q = ap (λ (xs : List ℕ). length xs) o.2 in let r : length stack' ≤ length stack + 1 = omega arith in r) e

-- a look at a successor of the node on top
module _ (g : List (List ℕ)) (found : List Bool) (nexts stack order : List ℕ) (w : IsRound g found nexts stack order) (v next : ℕ) (l : v < length g) (top : (below : List ℕ) × (stack ≡ below ++ v ∷ [])) (is_next : next ≡ get_or nexts v 0) (more : next < length (successors_of g v)) (row : List ℕ) (is_row : row ≡ successors_of g v) (ends : All (λ b. b < length g) (successors_of g v)) (s : ℕ) (is : s ≡ get_or row next 0) (found' : List Bool) (stack' : List ℕ) (e : IsEntered found stack s found' stack') where
  s_is : s ≡ get_or (successors_of g v) next 0
  s_is = is ∙ ap (λ (xs : List ℕ). get_or xs next 0) is_row

  s_edge : HasEdge g v s
  s_edge = subst (HasEdge g v) (sym s_is) (Contains-get_or (successors_of g v) next 0 more)

  pub look_fits : s < length g
  look_fits = subst (λ (x : ℕ). x < length g) (sym s_is) (ends next 0 more)

  top_reach : (a : ℕ) → a < length stack → Reaches g (get_or stack a 0) v
  top_reach a m =
      let n = length_push top.0 v in
      let q = ap (λ (xs : List ℕ). length xs) top.1 in
      let there : get_or stack (length top.0) 0 ≡ v = ap (λ (xs : List ℕ). get_or xs (length top.0) 0) top.1 ∙ get_or_push top.0 v 0 (length top.0) refl in
      subst (Reaches g (get_or stack a 0)) there ((w.waiting a m).above (length top.0) (omega arith) (omega arith))

  v_reaches : Reaches g v s
  v_reaches = Reaches-before g v s s s_edge (Reaches-itself g s)

  nexts_same : set nexts v (next + 1) ≡ set nexts v (get_or nexts v 0 + 1)
  nexts_same = ap (λ (i : ℕ). set nexts v (i + 1)) is_next

  pub look_round : IsRound g found' (set nexts v (next + 1)) stack' order
  look_round =
      let entered = round_entered g found nexts stack order w s look_fits found' stack' e (λ a m. Reaches-through g (get_or stack a 0) v s (top_reach a m) v_reaches) in
      let there : s ≡ get_or (successors_of g v) (get_or nexts v 0) 0 = s_is ∙ ap (λ (i : ℕ). get_or (successors_of g v) i 0) is_next in
      subst (λ (ns : List ℕ). IsRound g found' ns stack' order) (sym nexts_same) (round_look g found' nexts stack' order entered v l (subst (IsMarked found') there (entered_found g found nexts stack order w s look_fits found' stack' e)))

  pub look_reaching : (root : ℕ) → IsReaching g root stack → IsReaching g root stack'
  look_reaching root all =
      let n = length_push top.0 v in
      let q = ap (λ (xs : List ℕ). length xs) top.1 in
      let there : get_or stack (length top.0) 0 ≡ v = ap (λ (xs : List ℕ). get_or xs (length top.0) 0) top.1 ∙ get_or_push top.0 v 0 (length top.0) refl in
      let to_v : Reaches g root v = subst (Reaches g root) there (all (length top.0) (omega arith)) in
      entered_reaching g found nexts stack order w s look_fits found' stack' e root (Reaches-through g root v s to_v v_reaches) all

  pub look_kept : (x : ℕ) → IsMarked found x → IsMarked found' x
  look_kept = entered_kept g found nexts stack order w s look_fits found' stack' e

  pub look_less : round_left g (set nexts v (next + 1)) stack' < round_left g nexts stack
  look_less =
      let a = looks_left-set g nexts v w.next_count l (omega (arith, more, is_next)) in
      let b = entered_length g found nexts stack order w s look_fits found' stack' e in
      subst (λ (ns : List ℕ). round_left g ns stack' < round_left g nexts stack) (sym nexts_same) (omega (arith, a, b))

-- where the code sees that no successor is left to look at
pub step_all : (g : List (List ℕ)) (found : List Bool) (nexts below order : List ℕ) (v : ℕ) → IsRound g found nexts (below ++ v ∷ []) order → (next : ℕ) (row : List ℕ) → next ≡ get_or nexts v next → row ≡ successors_of g v → length row ≤ next → length (successors_of g v) ≤ get_or nexts v 0
step_all g found nexts below order v w next row read is l =
    let a = ap (λ (xs : List ℕ). length xs) is in
    let b = w.next_count in
    let c = get_or_default nexts v next 0 (omega (arith, v_fits g found nexts below order v w, b)) in
    omega arith

-- the node on top is left
pub leave_more : (g : List (List ℕ)) (below order : List ℕ) (v root : ℕ) → IsReaching g root (below ++ v ∷ []) → IsReaching g root below × IsMoreFrom g root order (order ++ v ∷ [])
leave_more g below order v root all = (rest, more)
  where
    rest : IsReaching g root below
    rest i l =
        let n = length_push below v in
        subst (Reaches g root) (get_or_append_left below (v ∷ []) 0 i l) (all i (omega arith))

    to_v : Reaches g root v
    to_v =
        let n = length_push below v in
        subst (Reaches g root) (get_or_push below v 0 (length below) refl) (all (length below) (omega arith))

    more : IsMoreFrom g root order (order ++ v ∷ [])
    more =
        let n = length_push order v in
        record {
          longer = omega arith;
          kept = λ k l. get_or_append_left order (v ∷ []) 0 k l;
          reached = λ k l m. subst (Reaches g root) (sym (get_or_push order v 0 k (omega arith))) to_v;
        }

pub IsMoreFrom-none : (g : List (List ℕ)) (root : ℕ) (order order' : List ℕ) → order' ≡ order → IsMoreFrom g root order order'
IsMoreFrom-none g root order order' e =
    subst (IsMoreFrom g root order) (sym e) (record { longer = omega arith; kept = λ k l. refl; reached = λ k l m. absurd (omega arith) })

pub IsMoreFrom-through : (g : List (List ℕ)) (root : ℕ) (a b c : List ℕ) → IsMoreFrom g root a b → IsMoreFrom g root b c → IsMoreFrom g root a c
IsMoreFrom-through g root a b c h k =
    let l = h.longer in
    let m = k.longer in
    record {
      longer = omega arith;
      kept = λ i n. k.kept i (omega arith) ∙ h.kept i n;
      reached = λ i n o. ⊎_elim (λ (p : i < length b). subst (Reaches g root) (sym (k.kept i p)) (h.reached i n p)) (λ (p : length b ≤ i). k.reached i p o) (cases_lt i (length b));
    }

pub no_place : (xs : List ℕ) → xs ≡ [] → (a : ℕ) → a < length xs → ⊥
no_place xs e a l = let n = ap (λ (ys : List ℕ). length ys) e in omega arith

-- what was found was left, where nothing waits
pub rest_placed : (g : List (List ℕ)) (found : List Bool) (nexts stack order : List ℕ) → IsRound g found nexts stack order → stack ≡ [] → (x : ℕ) → IsMarked found x → Contains order x
rest_placed g found nexts stack order w e x m =
    ⊎_elim (λ (c : Contains stack x). absurd (no_place stack e c.0 c.1)) (λ (c : Contains order x). c) (w.placed x m)

pub leaving_end : (g : List (List ℕ)) (found : List Bool) (nexts stack order : List ℕ) → IsRound g found nexts stack order → stack ≡ [] → ((x : ℕ) → x < length g → IsMarked found x) → IsLeaving g order
leaving_end g found nexts stack order w e all =
    record {
      nodes = λ i l. let m = marked_below found (get_or order i 0) (w.in_order i l) in let n = w.found_count in omega arith;
      every = λ x l. rest_placed g found nexts stack order w e x (all x l);
      distinct = w.order_distinct;
      left = w.left;
    }
