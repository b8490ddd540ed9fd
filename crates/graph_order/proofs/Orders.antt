-- what stands in the order, and why it comes next
use Rattle.std.proofs.Common.{◌≡◌, ◌≢◌, ◌⊎◌, ◌↔◌, ℕ, zero, suc, ◌+◌, ◌<◌, ◌≤◌, Bool, true, Option, Some, List, [], ◌∷◌, ◌++◌, length, get_or, take, set, All, Contains, refl, sym, ◌∙◌, ap, inl, inr, ⊎_elim, subst, arith, add-one}
use Rattle.std.proofs.lemmas.Bool.{cases_eq, cases_lt}
use Rattle.std.proofs.lemmas.List.{length_push, get_or_default, get_or_push, get_or_append_left, take-append-le, take_all, take_more, get_or-take, length-take-le}
use Rattle.std.proofs.lemmas.List.Elements.{All-contains, Contains-get_or, Contains-push, Contains-push_cases, Contains-append_left}
use Rattle.graph_core.specs.Graphs.{HasEdge, EndsAtNodes, successors_of}
use Rattle.graph_core.specs.Marked.{IsMarked}
use Rattle.graph_core.specs.Paths.{Leads, Reaches}
use Rattle.graph_core.proofs.Lists.{Contains-cons_cases, Contains-head, Contains-tail, Contains-nil}
use Rattle.graph_core.proofs.Marks.{marked_below}
use Rattle.graph_core.proofs.Reach.{Reaches-itself, Reaches-before, Reaches-through, Reaches-node}
use Rattle.graph_order.specs.CalleesFirst.{IsLowestChosen, IsReady, IsNext, AreNexts, IsCalleeFirst}
use Rattle.graph_order.specs.inside.Parts.{AreParts, first_of}
use Rattle.graph_order.specs.inside.Line.{IsLine, IsLooked, IsHeld, IsWaiting, NoneDue, AreCallersDue}
use Rattle.graph_order.proofs.Joins.{edge_source}
use Rattle.graph_order.proofs.Lines.{IsLine-done}

-- the components of a graph, and what is known of a line of them
module _ (g : List (List ℕ)) (ends : EndsAtNodes g) (chosen : List Bool) (numbers : List ℕ) (c callers : List (List ℕ)) (firsts : List (Option ℕ)) (parts : AreParts g chosen numbers c callers firsts) where
  abbrev number : ℕ → ℕ
  number v = get_or numbers v 0

  chosen_count : length chosen ≡ length g
  chosen_count = parts.chosen_count

  -- the number of a chosen node has a lowest one
  lowest_is : (v : ℕ) → IsLowestChosen g chosen v → first_of firsts (number v) ≡ Some v
  lowest_is v h =
      let n = parts.components.count in
      let l = marked_below chosen v h.marked in
      let first = parts.lowest.each v (omega arith) (omega arith) h.marked in
      let within = parts.lowest.within first.0 (number v) first.1 in
      let together = (parts.components.together v first.0 (omega arith) (omega arith)).0 (sym (parts.lowest.number first.0 (number v) first.1)) in
      let a = h.lowest first.0 together (parts.lowest.marked first.0 (number v) first.1) in
      let b = first.2 in
      let e : first.0 ≡ v = omega arith in
      subst (λ (w : ℕ). first_of firsts (number v) ≡ Some w) e first.1

  is_lowest : (v x : ℕ) → first_of firsts x ≡ Some v → IsLowestChosen g chosen v
  is_lowest v x e =
      let n = parts.components.count in
      let l = parts.lowest.within v x e in
      let at = parts.lowest.number v x e in
      record {
        marked = parts.lowest.marked v x e;
        lowest = λ w t m. let k = marked_below chosen w m in let same = (parts.components.together v w (omega arith) (omega arith)).1 t in let first = parts.lowest.each w (omega arith) (omega arith) m in let is : Some first.0 ≡ Some v = sym first.1 ∙ (ap (first_of firsts) (sym same ∙ at) ∙ e) in let s : first.0 ≡ v = cc in let b = first.2 in omega arith;
      }

  one_number : (x y v : ℕ) → first_of firsts x ≡ Some v → first_of firsts y ≡ Some v → y ≡ x
  one_number x y v a b = sym (parts.lowest.number v y b) ∙ parts.lowest.number v x a

  node_within : (v x : ℕ) → first_of firsts x ≡ Some v → x < length c
  node_within v x e =
      subst (λ (y : ℕ). y < length c) (parts.lowest.number v x e) (parts.condensed.counted.below v (parts.lowest.within v x e))

  falls_along : (rest : List ℕ) (a b : ℕ) → a < length g → Leads g a rest b → number b ≤ number a
  falls_along [] a b l e = let s : number a ≡ number b = ap number e in omega arith
  falls_along (x ∷ rest) a b l h =
      let here = parts.components.callees a x h.0 l in
      let more = falls_along rest x b (ends a x h.0) h.1 in
      omega arith

  module _ (done : List Bool) (nexts free ready order : List ℕ) (l : IsLine c firsts done nexts free ready order NoneDue) where
    -- each callee of what was looked at whole is done
    callee_done : (x y : ℕ) → IsLooked c nexts x → HasEdge c x y → IsMarked done y
    callee_done x y looked e =
        subst (IsMarked done) (get_or_default (successors_of c x) e.0 0 y e.1 ∙ e.2) (l.looked x e.0 (let k = e.1 in omega arith) e.1)

    -- from what was looked at whole a path leads to what has its number or is done
    done_along : (x : ℕ) → IsLooked c nexts x → (rest : List ℕ) (a b : ℕ) → Leads g a rest b → (number a ≡ x) ⊎ IsMarked done (number a) → (number b ≡ x) ⊎ IsMarked done (number b)
    done_along x looked [] a b e h = subst (λ (z : ℕ). (number z ≡ x) ⊎ IsMarked done (number z)) e h
    done_along x looked (z ∷ rest) a b e h = done_along x looked rest z b e.1 (step h (cases_eq (number a) (number z)))
      where
        step : (number a ≡ x) ⊎ IsMarked done (number a) → (number a ≡ number z) ⊎ (number a ≢ number z) → (number z ≡ x) ⊎ IsMarked done (number z)
        step h (inl s) = subst (λ (k : ℕ). (k ≡ x) ⊎ IsMarked done k) s h
        step (inl n) (inr o) =
            inr (callee_done (number a) (number z) (subst (IsLooked c nexts) (sym n) looked) ((parts.condensed.edges (number a) (number z)).1 (a, z, e.0, refl, refl, o)))
        step (inr d) (inr o) =
            inr (callee_done (number a) (number z) (l.whole (number a) d) ((parts.condensed.edges (number a) (number z)).1 (a, z, e.0, refl, refl, o)))

    -- the lowest chosen node of a component that isn't done and was looked at whole is ready
    ready_is : (v x : ℕ) → first_of firsts x ≡ Some v → IsLooked c nexts x → (IsMarked done x → ⊥) → IsReady g chosen order v
    ready_is v x e looked undone =
        record {
          first = is_lowest v x e;
          waits = λ h. let o = (l.in_order v).0 h in undone (subst (IsMarked done) (one_number x o.0 v e o.1) o.2);
          callees = λ w lowest r. ⊎_elim (λ (s : number w ≡ x). let is : Some w ≡ Some v = sym (lowest_is w lowest) ∙ (ap (first_of firsts) s ∙ e) in let same : w ≡ v = cc in inl same) (λ (d : IsMarked done (number w)). inr ((l.in_order w).1 (number w, lowest_is w lowest, d))) (done_along x looked r.0 v w r.1.leads (inl (parts.lowest.number v x e)));
        }

    module _ (none : free ≡ []) where
      not_free : (x : ℕ) → Contains free x → ⊥
      not_free x h = Contains-nil x (subst (λ (xs : List ℕ). Contains xs x) none h)

      -- what the component of w calls into is done, where w is ready
      module _ (w : ℕ) (r : IsReady g chosen order w) where
        w_fits : w < length g
        w_fits = let m = marked_below chosen w r.first.marked in omega arith

        waiting_done : (y x : ℕ) → Reaches g w x → number x ≡ y → y < number w → IsWaiting firsts free ready y → IsMarked done y
        waiting_done y x h e low (inl f) = absurd (not_free y f.1)
        waiting_done y x h e low (inr f) =
            let n = parts.components.count in
            let v = f.0 in
            let v_fits = parts.lowest.within v y f.1 in
            let v_at = parts.lowest.number v y f.1 in
            let x_fits = Reaches-node g ends w x w_fits h in
            let together = (parts.components.together x v x_fits (omega arith)).0 (e ∙ sym v_at) in
            ⊎_elim (λ (s : v ≡ w). let a : number v ≡ number w = ap number s in absurd (omega arith)) (λ (in_order : Contains order v). let o = (l.in_order v).0 in_order in subst (IsMarked done) (one_number y o.0 v f.1 o.1) o.2) (r.callees v (is_lowest v y f.1) (Reaches-through g w x v h together.0))

        held_on : (y x : ℕ) → Reaches g w x → number x ≡ y → IsHeld c done nexts y → (z : ℕ) × (b : ℕ) × Reaches g w b × (number b ≡ z) × (z < y) × (IsMarked done z → ⊥)
        held_on y x h e held =
            let n = parts.components.count in
            let z = get_or (successors_of c y) (get_or nexts y 0) 0 in
            let j = (parts.condensed.edges y z).0 (Contains-get_or (successors_of c y) (get_or nexts y 0) 0 held.0) in
            let x_fits = Reaches-node g ends w x w_fits h in
            let a_fits : j.0 < length g = edge_source g j.0 j.1 j.2 in
            let together = (parts.components.together x j.0 x_fits a_fits).0 (e ∙ sym j.3) in
            let reached = Reaches-through g w j.0 j.1 (Reaches-through g w x j.0 h together.0) (Reaches-before g j.0 j.1 j.1 j.2 (Reaches-itself g j.1)) in
            let down = parts.components.callees j.0 j.1 j.2 a_fits in
            let a = j.3 in
            let b = j.4 in
            let o = j.5 in
            (z, j.1, reached, j.4, omega arith, held.1)

        below_at : (y x : ℕ) → Reaches g w x → number x ≡ y → y < number w → ((z b : ℕ) → z < y → Reaches g w b → number b ≡ z → IsMarked done z) → (IsMarked done y ⊎ IsWaiting firsts free ready y) ⊎ (IsHeld c done nexts y ⊎ NoneDue y) → IsMarked done y
        below_at y x h e low rec (inl (inl d)) = d
        below_at y x h e low rec (inl (inr f)) = waiting_done y x h e low f
        below_at y x h e low rec (inr (inl held)) =
            let on = held_on y x h e held in absurd (on.5 (rec on.0 on.1 on.4 on.2 on.3))
        below_at y x h e low rec (inr (inr d)) = absurd d

        y_within : (y x : ℕ) → Reaches g w x → number x ≡ y → y < length c
        y_within y x h e =
            let n = parts.components.count in
            let m = Reaches-node g ends w x w_fits h in
            subst (λ (z : ℕ). z < length c) e (parts.condensed.counted.below x (omega arith))

        below_done : (fuel y x : ℕ) → y < fuel → Reaches g w x → number x ≡ y → y < number w → IsMarked done y
        below_done zero y x k h e low = absurd (omega arith)
        below_done (suc fuel) y x k h e low =
            below_at y x h e low (λ z b m r is. below_done fuel z b (omega arith) r is (omega arith)) (l.waits y (y_within y x h e))

        -- so it is among those that are held ready
        pub is_held_ready : Contains ready w
        is_held_ready = at (l.waits (number w) (node_within w (number w) first))
          where
            first : first_of firsts (number w) ≡ Some w
            first = lowest_is w r.first

            at : (IsMarked done (number w) ⊎ IsWaiting firsts free ready (number w)) ⊎ (IsHeld c done nexts (number w) ⊎ NoneDue (number w)) → Contains ready w
            at (inl (inl d)) = absurd (r.waits ((l.in_order w).1 (number w, first, d)))
            at (inl (inr (inl f))) = absurd (not_free (number w) f.1)
            at (inl (inr (inr f))) =
                let is : Some f.0 ≡ Some w = sym f.1 ∙ first in
                let same : f.0 ≡ w = cc in
                subst (Contains ready) same f.2
            at (inr (inl held)) =
                let on = held_on (number w) w (Reaches-itself g w) refl held in
                absurd (on.5 (below_done (suc on.0) on.0 on.1 (omega arith) on.2 on.3 on.4))
            at (inr (inr d)) = absurd d

      -- where nothing waits all is done
      done_at : ready ≡ [] → (y : ℕ) → y < length c → ((z : ℕ) → z < y → IsMarked done z) → (IsMarked done y ⊎ IsWaiting firsts free ready y) ⊎ (IsHeld c done nexts y ⊎ NoneDue y) → IsMarked done y
      done_at nothing y fits rec (inl (inl d)) = d
      done_at nothing y fits rec (inl (inr (inl f))) = absurd (not_free y f.1)
      done_at nothing y fits rec (inl (inr (inr f))) =
          absurd (Contains-nil f.0 (subst (λ (xs : List ℕ). Contains xs f.0) nothing f.2))
      done_at nothing y fits rec (inr (inl held)) =
          let z = get_or (successors_of c y) (get_or nexts y 0) 0 in
          let j = (parts.condensed.edges y z).0 (Contains-get_or (successors_of c y) (get_or nexts y 0) 0 held.0) in
          let down = parts.components.callees j.0 j.1 j.2 (edge_source g j.0 j.1 j.2) in
          let a = j.3 in
          let b = j.4 in
          let o = j.5 in
          absurd (held.1 (rec z (omega arith)))
      done_at nothing y fits rec (inr (inr d)) = absurd d

      all_done : ready ≡ [] → (fuel y : ℕ) → y < fuel → y < length c → IsMarked done y
      all_done nothing zero y k fits = absurd (omega arith)
      all_done nothing (suc fuel) y k fits =
          done_at nothing y fits (λ z m. all_done nothing fuel z (omega arith) (omega arith)) (l.waits y fits)

      pub IsCalleeFirst-end : ready ≡ [] → AreNexts g chosen order → IsCalleeFirst g chosen order
      IsCalleeFirst-end nothing nexts =
          record {
            next = nexts;
            every = λ v h. let e = lowest_is v h in let m = node_within v (number v) e in (l.in_order v).1 (number v, e, all_done nothing (suc (number v)) (number v) (omega arith) m);
          }

      module _ (v : ℕ) (rest : List ℕ) (is : ready ≡ v ∷ rest) (lowest : All (λ x. v < x) rest) where
        v_ready : Contains ready v
        v_ready = subst (λ (xs : List ℕ). Contains xs v) (sym is) (Contains-head v rest)

        pub IsNext-lowest : IsNext g chosen order v
        IsNext-lowest =
            let o = l.is_ready v v_ready in
            record {
              ready = ready_is v o.0 o.2 o.3 o.4;
              lowest = λ w r. ⊎_elim (λ (s : v ≡ w). let m : v ≤ w = omega arith in m) (λ (a : Contains rest w). let m = All-contains (λ (x : ℕ). v < x) rest w lowest a in omega arith) (Contains-cons_cases v rest w (subst (λ (xs : List ℕ). Contains xs w) is (is_held_ready w r)));
            }

        pub v_within : v < length numbers
        v_within = let o = l.is_ready v v_ready in parts.lowest.within v o.0 o.2

        at_v : first_of firsts (number v) ≡ Some v
        at_v =
            let o = l.is_ready v v_ready in
            subst (λ (y : ℕ). first_of firsts y ≡ Some v) (sym (parts.lowest.number v o.0 o.2)) o.2

        pub IsLine-ready : (number v < length c) × IsLine c firsts (set done (number v) true) nexts free rest (order ++ v ∷ []) (AreCallersDue c nexts (number v))
        IsLine-ready =
            let o = l.is_ready v v_ready in
            let at = parts.lowest.number v o.0 o.2 in
            (node_within v (number v) at_v, IsLine-done c firsts done nexts free ready order l (number v) (node_within v (number v) at_v) (subst (IsLooked c nexts) (sym at) o.3) (λ y u a b. one_number (number v) y u a b) free rest (order ++ v ∷ []) (λ y h. h) (λ y h. inr h) from to in_order)
          where
            from : (u : ℕ) → Contains rest u → Contains ready u × (first_of firsts (number v) ≡ Some u → ⊥)
            from u h =
                (subst (λ (xs : List ℕ). Contains xs u) (sym is) (Contains-tail v rest u h), λ e. let s : Some v ≡ Some u = sym at_v ∙ e in let same : v ≡ u = cc in let m = All-contains (λ (x : ℕ). v < x) rest u lowest h in omega arith)

            to : (u : ℕ) → Contains ready u → (first_of firsts (number v) ≡ Some u) ⊎ Contains rest u
            to u h =
                ⊎_elim (λ (s : v ≡ u). inl (at_v ∙ ap Some s)) (λ (a : Contains rest u). inr a) (Contains-cons_cases v rest u (subst (λ (xs : List ℕ). Contains xs u) is h))

            in_order : (u : ℕ) → Contains (order ++ v ∷ []) u ↔ (Contains order u ⊎ (first_of firsts (number v) ≡ Some u))
            in_order u =
                (λ h. ⊎_elim (λ (a : Contains order u). inl a) (λ (s : v ≡ u). inr (at_v ∙ ap Some s)) (Contains-push_cases order v u h), λ h. ⊎_elim (λ (a : Contains order u). Contains-append_left order (v ∷ []) u a) (λ (e : first_of firsts (number v) ≡ Some u). let s : Some v ≡ Some u = sym at_v ∙ e in let same : v ≡ u = cc in subst (Contains (order ++ v ∷ [])) same (Contains-push order v)) h)

-- one more in the order
pub AreNexts-push : (g : List (List ℕ)) (chosen : List Bool) (order : List ℕ) (v : ℕ) → AreNexts g chosen order → IsNext g chosen order v → AreNexts g chosen (order ++ v ∷ [])
AreNexts-push g chosen order v h next i l = at (cases_eq i (length order))
  where
    short : i ≤ length order → take i (order ++ v ∷ []) ≡ take i order
    short m = take-append-le i order (v ∷ []) m

    at : (i ≡ length order) ⊎ (i ≢ length order) → IsNext g chosen (take i (order ++ v ∷ [])) (get_or (order ++ v ∷ []) i 0)
    at (inl e) =
        let all : take i order ≡ order = take_all i order (omega arith) in
        subst (λ (xs : List ℕ). IsNext g chosen xs (get_or (order ++ v ∷ []) i 0)) (sym (short (omega arith) ∙ all)) (subst (IsNext g chosen order) (sym (get_or_push order v 0 i (sym e))) next)
    at (inr o) =
        let n = length_push order v in
        subst (λ (xs : List ℕ). IsNext g chosen xs (get_or (order ++ v ∷ []) i 0)) (sym (short (omega arith))) (subst (IsNext g chosen (take i order)) (sym (get_or_append_left order (v ∷ []) 0 i (omega arith))) (h i (omega arith)))

module _ (g : List (List ℕ)) (chosen : List Bool) where
  -- what stands before place i stands before a later one
  before_more : (order : List ℕ) (i j v : ℕ) → i ≤ j → i ≤ length order → Contains (take i order) v → j ≤ length order → Contains (take j order) v
  before_more order i j v l m h n =
      let a = length-take-le i order m in
      let b = length-take-le j order n in
      let k = h.1 in
      (h.0, omega arith, get_or-take j order h.0 v (omega arith) ∙ (sym (get_or-take i order h.0 v (omega arith)) ∙ h.2))

  stands_before : (order : List ℕ) (i j : ℕ) → i < j → j ≤ length order → Contains (take j order) (get_or order i 0)
  stands_before order i j l m =
      let a = length-take-le j order m in
      subst (Contains (take j order)) (get_or-take j order i 0 l) (Contains-get_or (take j order) i 0 (omega arith))

  -- what is called doesn't stand after its caller
  pub order_falls : (order : List ℕ) → IsCalleeFirst g chosen order → (i j : ℕ) → i < length order → j < length order → Reaches g (get_or order i 0) (get_or order j 0) → j ≤ i
  order_falls order h i j l m r =
      ⊎_elim (λ (later : i < j). absurd ((h.next j m).ready.waits (⊎_elim (λ (s : get_or order j 0 ≡ get_or order i 0). subst (Contains (take j order)) (sym s) (stands_before order i j later (omega arith))) (λ (b : Contains (take i order) (get_or order j 0)). before_more order i j (get_or order j 0) (omega arith) (omega arith) b (omega arith)) ((h.next i l).ready.callees (get_or order j 0) (h.next j m).ready.first r)))) (λ (le : j ≤ i). le) (cases_lt i j)

  module _ (xs ys : List ℕ) (a : IsCalleeFirst g chosen xs) (b : IsCalleeFirst g chosen ys) where
    -- where one order ends the other does
    ends_too : (n : ℕ) → take n xs ≡ take n ys → length ys ≤ n → n < length xs → ⊥
    ends_too n e m l =
        (a.next n l).ready.waits (subst (λ (zs : List ℕ). Contains zs (get_or xs n 0)) (sym (e ∙ take_all n ys m)) (b.every (get_or xs n 0) (a.next n l).ready.first))

  same_next : (xs ys : List ℕ) → IsCalleeFirst g chosen xs → IsCalleeFirst g chosen ys → (n : ℕ) → take n xs ≡ take n ys → (n < length xs) ⊎ (length xs ≤ n) → (n < length ys) ⊎ (length ys ≤ n) → take (n + 1) xs ≡ take (n + 1) ys
  same_next xs ys a b n e (inl l) (inl m) =
      let p = a.next n l in
      let q = b.next n m in
      let low = p.lowest (get_or ys n 0) (subst (λ (zs : List ℕ). IsReady g chosen zs (get_or ys n 0)) (sym e) q.ready) in
      let high = q.lowest (get_or xs n 0) (subst (λ (zs : List ℕ). IsReady g chosen zs (get_or xs n 0)) e p.ready) in
      let same : get_or xs n 0 ≡ get_or ys n 0 = omega arith in
      let one = take_more xs n 0 l in
      let two = take_more ys n 0 m in
      cc
  same_next xs ys a b n e (inl l) (inr m) = absurd (ends_too xs ys a b n e m l)
  same_next xs ys a b n e (inr l) (inl m) = absurd (ends_too ys xs b a n (sym e) l m)
  same_next xs ys a b n e (inr l) (inr m) =
      let p : take (n + 1) xs ≡ xs = take_all (n + 1) xs (omega arith) in
      let q : take (n + 1) ys ≡ ys = take_all (n + 1) ys (omega arith) in
      let r : take n xs ≡ xs = take_all n xs l in
      let s : take n ys ≡ ys = take_all n ys m in
      p ∙ (sym r ∙ (e ∙ (s ∙ sym q)))

  same_first : (xs ys : List ℕ) → IsCalleeFirst g chosen xs → IsCalleeFirst g chosen ys → (n : ℕ) → take n xs ≡ take n ys
  same_first xs ys a b zero = refl
  same_first xs ys a b (suc n) =
      rw (← add-one n) (same_next xs ys a b n (same_first xs ys a b n) (cases_lt n (length xs)) (cases_lt n (length ys)))

  pub order_is_one : (xs ys : List ℕ) → IsCalleeFirst g chosen xs → IsCalleeFirst g chosen ys → xs ≡ ys
  order_is_one xs ys a b =
      sym (take_all (length xs + length ys) xs (omega arith)) ∙ (same_first xs ys a b (length xs + length ys) ∙ take_all (length xs + length ys) ys (omega arith))
