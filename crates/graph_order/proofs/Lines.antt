-- what the steps of a line keep
use Rattle.std.proofs.Common.{◌≡◌, ◌≢◌, ◌⊎◌, ◌↔◌, ℕ, zero, suc, ◌+◌, ◌<◌, ◌≤◌, Bool, true, false, Option, Some, None, List, [], ◌∷◌, ◌++◌, length, get_or, set, Contains, refl, sym, ◌∙◌, ap, inl, inr, ⊎_elim, subst, arith, get_or-set_same, get_or-set_other}
use Rattle.std.proofs.lemmas.Bool.{cases_eq, cases_lt}
use Rattle.std.proofs.lemmas.List.{length-set, length_push, get_or_default}
use Rattle.std.proofs.lemmas.List.Elements.{Contains-get_or, Contains-push, Contains-push_cases, Contains-append_left}
use Rattle.graph_core.specs.Graphs.{HasEdge, IsReverse, successors_of}
use Rattle.graph_core.specs.Marked.{IsMarked}
use Rattle.graph_core.specs.Walk.{looks_left}
use Rattle.graph_order.specs.inside.Parts.{first_of}
use Rattle.graph_order.specs.inside.Line.{IsLine, IsLooked, IsUnlooked, IsHeld, IsWaiting, IsOpen, IsPut, IsDueFrom, IsAllUndone, NoneDue, AreDueFrom, AreCallersDue}

-- more looks at once
pub looks_left-jump : (g : List (List ℕ)) (nexts : List ℕ) (v n : ℕ) → length nexts ≡ length g → v < length g → get_or nexts v 0 ≤ n → n ≤ length (get_or g v []) → looks_left g (set nexts v n) + n ≡ looks_left g nexts + get_or nexts v 0
looks_left-jump [] nexts v n e l m w = absurd (omega arith)
looks_left-jump (row ∷ g) [] v n e l m w = absurd (omega arith)
looks_left-jump (row ∷ g) (next ∷ nexts) zero n e l m w = omega arith
looks_left-jump (row ∷ g) (next ∷ nexts) (suc v) n e l m w =
    let h = looks_left-jump g nexts v n (omega arith) (omega arith) m w in omega arith

module _ (c : List (List ℕ)) (firsts : List (Option ℕ)) (done : List Bool) (nexts free ready order : List ℕ) where
  -- what is due otherwise
  pub IsLine-due : (D E : ℕ → Type 0) → IsLine c firsts done nexts free ready order D → ((x : ℕ) → x < length c → D x → (IsMarked done x ⊎ IsWaiting firsts free ready x) ⊎ (IsHeld c done nexts x ⊎ E x)) → IsLine c firsts done nexts free ready order E
  IsLine-due D E l due =
      record {
        done_count = l.done_count;
        next_count = l.next_count;
        looked = l.looked;
        whole = l.whole;
        is_free = l.is_free;
        is_ready = l.is_ready;
        in_order = l.in_order;
        waits = λ x m. at x m (l.waits x m);
      }
    where
      at : (x : ℕ) → x < length c → (IsMarked done x ⊎ IsWaiting firsts free ready x) ⊎ (IsHeld c done nexts x ⊎ D x) → (IsMarked done x ⊎ IsWaiting firsts free ready x) ⊎ (IsHeld c done nexts x ⊎ E x)
      at x m (inl h) = inl h
      at x m (inr (inl h)) = inr (inl h)
      at x m (inr (inr d)) = due x m d

  -- x waits now
  module _ (D E : ℕ → Type 0) (l : IsLine c firsts done nexts free ready order D) (x : ℕ) (fits : x < length c) (looked : IsLooked c nexts x) (undone : IsMarked done x → ⊥) (due : (y : ℕ) → D y → (y ≡ x) ⊎ E y) where
    put_free : (o : Option ℕ) → o ≡ first_of firsts x → (free' ready' : List ℕ) → IsPut o x free ready free' ready' → (y : ℕ) → Contains free' y → (y < length c) × (first_of firsts y ≡ None) × IsLooked c nexts y
    put_free None e free' ready' p y h =
        ⊎_elim (λ (a : Contains free y). l.is_free y a) (λ (s : x ≡ y). subst (λ (z : ℕ). (z < length c) × (first_of firsts z ≡ None) × IsLooked c nexts z) s (fits, sym e, looked)) (Contains-push_cases free x y (subst (λ (xs : List ℕ). Contains xs y) p.0 h))
    put_free (Some v) e free' ready' p y h = l.is_free y (subst (λ (xs : List ℕ). Contains xs y) p.0 h)

    put_ready : (o : Option ℕ) → o ≡ first_of firsts x → (free' ready' : List ℕ) → IsPut o x free ready free' ready' → (w : ℕ) → Contains ready' w → IsOpen c firsts done nexts w
    put_ready None e free' ready' p w h = l.is_ready w (subst (λ (xs : List ℕ). Contains xs w) p.1 h)
    put_ready (Some v) e free' ready' p w h =
        ⊎_elim (λ (a : Contains ready w). l.is_ready w a) (λ (s : w ≡ v). subst (IsOpen c firsts done nexts) (sym s) (x, fits, sym e, looked, undone)) ((p.1 w).0 h)

    put_kept : (o : Option ℕ) → (free' ready' : List ℕ) → IsPut o x free ready free' ready' → (y : ℕ) → IsWaiting firsts free ready y → IsWaiting firsts free' ready' y
    put_kept None free' ready' p y (inl h) =
        inl (h.0, subst (λ (xs : List ℕ). Contains xs y) (sym p.0) (Contains-append_left free (x ∷ []) y h.1))
    put_kept None free' ready' p y (inr h) = inr (h.0, h.1, subst (λ (xs : List ℕ). Contains xs h.0) (sym p.1) h.2)
    put_kept (Some v) free' ready' p y (inl h) = inl (h.0, subst (λ (xs : List ℕ). Contains xs y) (sym p.0) h.1)
    put_kept (Some v) free' ready' p y (inr h) = inr (h.0, h.1, (p.1 h.0).1 (inl h.2))

    put_there : (o : Option ℕ) → o ≡ first_of firsts x → (free' ready' : List ℕ) → IsPut o x free ready free' ready' → IsWaiting firsts free' ready' x
    put_there None e free' ready' p =
        inl (sym e, subst (λ (xs : List ℕ). Contains xs x) (sym p.0) (Contains-push free x))
    put_there (Some v) e free' ready' p = inr (v, sym e, (p.1 v).1 (inr refl))

    pub IsLine-put : (free' ready' : List ℕ) → IsPut (first_of firsts x) x free ready free' ready' → IsLine c firsts done nexts free' ready' order E
    IsLine-put free' ready' p =
        record {
          done_count = l.done_count;
          next_count = l.next_count;
          looked = l.looked;
          whole = l.whole;
          is_free = put_free (first_of firsts x) refl free' ready' p;
          is_ready = put_ready (first_of firsts x) refl free' ready' p;
          in_order = l.in_order;
          waits = λ y m. at y (l.waits y m);
        }
      where
        kept : (y : ℕ) → IsWaiting firsts free ready y → IsWaiting firsts free' ready' y
        kept = put_kept (first_of firsts x) free' ready' p

        at : (y : ℕ) → (IsMarked done y ⊎ IsWaiting firsts free ready y) ⊎ (IsHeld c done nexts y ⊎ D y) → (IsMarked done y ⊎ IsWaiting firsts free' ready' y) ⊎ (IsHeld c done nexts y ⊎ E y)
        at y (inl (inl h)) = inl (inl h)
        at y (inl (inr h)) = inl (inr (kept y h))
        at y (inr (inl h)) = inr (inl h)
        at y (inr (inr d)) =
            ⊎_elim (λ (s : y ≡ x). inl (inr (subst (IsWaiting firsts free' ready') (sym s) (put_there (first_of firsts x) refl free' ready' p)))) (λ (e : E y). inr (inr e)) (due y d)

pub put_length : (o : Option ℕ) (x : ℕ) (free ready free' ready' : List ℕ) → IsPut o x free ready free' ready' → length free' + length ready' ≤ length free + length ready + 1
put_length None x free ready free' ready' p =
    let a : length free' ≡ length (free ++ x ∷ []) = ap length p.0 in
    let b = length_push free x in
    let d : length ready' ≡ length ready = ap length p.1 in
    omega arith
put_length (Some v) x free ready free' ready' p =
    let a : length free' ≡ length free = ap length p.0 in let b = p.2 in omega arith

-- what is due after a look at x: those further on, and x itself if it was looked at whole
abbrev pub AreDuePast : List (List ℕ) → List ℕ → List ℕ → ℕ → ℕ → ℕ → Type 0
AreDuePast c nexts xs i x y = AreDueFrom c nexts xs (i + 1) y ⊎ ((y ≡ x) × IsLooked c nexts x)

module _ (c : List (List ℕ)) (firsts : List (Option ℕ)) (done : List Bool) (nexts free ready order : List ℕ) (x : ℕ) (fits : x < length c) (xs : List ℕ) (i : ℕ) (at : x ≡ get_or xs i 0) (l : IsLine c firsts done nexts free ready order (AreDueFrom c nexts xs i)) where
  further : (y k : ℕ) → get_or xs k 0 ≡ y → i ≤ k → (y ≡ x → ⊥) → i + 1 ≤ k
  further y k e m o =
      ⊎_elim (λ (s : k ≡ i). absurd (o (sym e ∙ (ap (λ (j : ℕ). get_or xs j 0) s ∙ sym at)))) (λ (n : k ≢ i). omega arith) (cases_eq k i)

  -- x was looked at whole before
  pub IsLine-past : IsLooked c nexts x → IsLine c firsts done nexts free ready order (AreDueFrom c nexts xs (i + 1))
  IsLine-past whole =
      IsLine-due c firsts done nexts free ready order (AreDueFrom c nexts xs i) (AreDueFrom c nexts xs (i + 1)) l (λ y m d. inr (inr (d.0, further y d.0 d.3 d.1 (λ s. let u : IsUnlooked c nexts x = subst (IsUnlooked c nexts) s d.4 in absurd (omega arith)), d.2, d.3, d.4)))

  module _ (unlooked : IsUnlooked c nexts x) (last : ℕ) (more : get_or nexts x 0 ≤ last) (passed : (k : ℕ) → get_or nexts x 0 ≤ k → k < last → IsMarked done (get_or (successors_of c x) k 0)) (stops : last < length (successors_of c x) → IsMarked done (get_or (successors_of c x) last 0) → ⊥) where
    now : List ℕ
    now = set nexts x last

    fits_next : x < length nexts
    fits_next = let n = l.next_count in omega arith

    at_x : get_or (set nexts x last) x 0 ≡ last
    at_x = get_or-set_same nexts x last 0 fits_next

    at_y : (y : ℕ) → (y ≡ x → ⊥) → get_or (set nexts x last) y 0 ≡ get_or nexts y 0
    at_y y o = get_or-set_other nexts x y last 0 o

    not_x : (y : ℕ) → IsLooked c nexts y → y ≡ x → ⊥
    not_x y h s = let u : IsLooked c nexts x = subst (IsLooked c nexts) s h in omega arith

    looked_y : (y : ℕ) → IsLooked c nexts y → IsLooked c (set nexts x last) y
    looked_y y h = let e = at_y y (not_x y h) in omega arith

    pub undone_x : IsMarked done x → ⊥
    undone_x d = not_x x (l.whole x d) refl

    looked_at : (y k : ℕ) → (y ≡ x) ⊎ (y ≢ x) → k < get_or (set nexts x last) y 0 → k < length (successors_of c y) → IsMarked done (get_or (successors_of c y) k 0)
    looked_at y k (inl s) m n =
        let e : get_or (set nexts x last) y 0 ≡ last = ap (λ (z : ℕ). get_or (set nexts x last) z 0) s ∙ at_x in
        subst (λ (z : ℕ). IsMarked done (get_or (successors_of c z) k 0)) (sym s) (⊎_elim (λ (a : k < get_or nexts x 0). l.looked x k a (subst (λ (z : ℕ). k < length (successors_of c z)) s n)) (λ (b : get_or nexts x 0 ≤ k). passed k b (omega arith)) (cases_lt k (get_or nexts x 0)))
    looked_at y k (inr o) m n = let e = at_y y o in l.looked y k (omega arith) n

    waits_x : (last < length (successors_of c x)) ⊎ (length (successors_of c x) ≤ last) → IsHeld c done (set nexts x last) x ⊎ AreDuePast c (set nexts x last) xs i x x
    waits_x (inl m) =
        inl (let e = at_x in omega arith, λ d. stops m (subst (λ (k : ℕ). IsMarked done (get_or (successors_of c x) k 0)) at_x d))
    waits_x (inr m) = let e = at_x in let w : IsLooked c (set nexts x last) x = omega arith in inr (inr (refl, w))

    waits_y : (y : ℕ) → (y ≡ x → ⊥) → IsHeld c done nexts y ⊎ AreDueFrom c nexts xs i y → IsHeld c done (set nexts x last) y ⊎ AreDuePast c (set nexts x last) xs i x y
    waits_y y o (inl h) =
        let a = h.0 in
        let e = at_y y o in
        inl (omega arith, λ d. h.1 (subst (λ (k : ℕ). IsMarked done (get_or (successors_of c y) k 0)) (at_y y o) d))
    waits_y y o (inr d) =
        let a = d.4 in
        let e = at_y y o in
        let u : IsUnlooked c (set nexts x last) y = omega arith in
        inr (inl (d.0, further y d.0 d.3 d.1 o, d.2, d.3, u))

    waits_at : (y : ℕ) → (y ≡ x) ⊎ (y ≢ x) → (IsMarked done y ⊎ IsWaiting firsts free ready y) ⊎ (IsHeld c done nexts y ⊎ AreDueFrom c nexts xs i y) → (IsMarked done y ⊎ IsWaiting firsts free ready y) ⊎ (IsHeld c done (set nexts x last) y ⊎ AreDuePast c (set nexts x last) xs i x y)
    waits_at y s (inl h) = inl h
    waits_at y (inl s) (inr h) =
        inr (subst (λ (z : ℕ). IsHeld c done (set nexts x last) z ⊎ AreDuePast c (set nexts x last) xs i x z) (sym s) (waits_x (cases_lt last (length (successors_of c x)))))
    waits_at y (inr o) (inr h) = inr (waits_y y o h)

    -- as many more of its callees were looked at
    pub IsLine-pass : IsLine c firsts done (set nexts x last) free ready order (AreDuePast c (set nexts x last) xs i x)
    IsLine-pass =
        record {
          done_count = l.done_count;
          next_count = length-set nexts x last ∙ l.next_count;
          looked = λ y k m n. looked_at y k (cases_eq y x) m n;
          whole = λ y d. looked_y y (l.whole y d);
          is_free = λ y h. let f = l.is_free y h in (f.0, f.1, looked_y y f.2);
          is_ready = λ v h. let o = l.is_ready v h in (o.0, o.1, o.2, looked_y o.0 o.3, o.4);
          in_order = l.in_order;
          waits = λ y m. waits_at y (cases_eq y x) (l.waits y m);
        }

    -- it isn't looked at whole
    pub IsLine-held : last < length (successors_of c x) → IsLine c firsts done (set nexts x last) free ready order (AreDueFrom c (set nexts x last) xs (i + 1))
    IsLine-held m =
        IsLine-due c firsts done (set nexts x last) free ready order (AreDuePast c (set nexts x last) xs i x) (AreDueFrom c (set nexts x last) xs (i + 1)) IsLine-pass (λ y n d. inr (inr (due y d)))
      where
        due : (y : ℕ) → AreDuePast c (set nexts x last) xs i x y → AreDueFrom c (set nexts x last) xs (i + 1) y
        due y (inl d) = d
        due y (inr h) = let a = h.1 in let e = at_x in absurd (omega arith)

    -- or it waits
    pub IsLine-wait : length (successors_of c x) ≤ last → (free' ready' : List ℕ) → IsPut (first_of firsts x) x free ready free' ready' → IsLine c firsts done (set nexts x last) free' ready' order (AreDueFrom c (set nexts x last) xs (i + 1))
    IsLine-wait m free' ready' p =
        let e = at_x in
        let w : IsLooked c (set nexts x last) x = omega arith in
        IsLine-put c firsts done (set nexts x last) free ready order (AreDuePast c (set nexts x last) xs i x) (AreDueFrom c (set nexts x last) xs (i + 1)) IsLine-pass x fits w undone_x due free' ready' p
      where
        due : (y : ℕ) → AreDuePast c (set nexts x last) xs i x y → (y ≡ x) ⊎ AreDueFrom c (set nexts x last) xs (i + 1) y
        due y (inl d) = inr d
        due y (inr h) = inl h.0

-- x is done now
module _ (c : List (List ℕ)) (firsts : List (Option ℕ)) (done : List Bool) (nexts free ready order : List ℕ) (l : IsLine c firsts done nexts free ready order NoneDue) (x : ℕ) (fits : x < length c) (looked : IsLooked c nexts x) (one : (y v : ℕ) → first_of firsts x ≡ Some v → first_of firsts y ≡ Some v → y ≡ x) where
  mark_x : IsMarked (set done x true) x
  mark_x = let n = l.done_count in get_or-set_same done x true false (omega arith)

  mark_more : (y : ℕ) → (y ≡ x) ⊎ (y ≢ x) → IsMarked done y → IsMarked (set done x true) y
  mark_more y (inl s) d = subst (IsMarked (set done x true)) (sym s) mark_x
  mark_more y (inr o) d = get_or-set_other done x y true false o ∙ d

  mark_less : (y : ℕ) → (y ≢ x) → IsMarked (set done x true) y → IsMarked done y
  mark_less y o d = sym (get_or-set_other done x y true false o) ∙ d

  module _ (free' ready' order' : List ℕ) (free_from : (y : ℕ) → Contains free' y → Contains free y) (free_to : (y : ℕ) → Contains free y → (y ≡ x) ⊎ Contains free' y) (ready_from : (v : ℕ) → Contains ready' v → Contains ready v × (first_of firsts x ≡ Some v → ⊥)) (ready_to : (v : ℕ) → Contains ready v → (first_of firsts x ≡ Some v) ⊎ Contains ready' v) (in_order : (v : ℕ) → Contains order' v ↔ (Contains order v ⊎ (first_of firsts x ≡ Some v))) where
    open_still : (v : ℕ) → Contains ready' v → IsOpen c firsts (set done x true) nexts v
    open_still v h =
        let from = ready_from v h in
        let o = l.is_ready v from.0 in
        (o.0, o.1, o.2, o.3, λ d. o.4 (mark_less o.0 (λ s. from.1 (subst (λ (z : ℕ). first_of firsts z ≡ Some v) s o.2)) d))

    ordered : (v : ℕ) → Contains order v ⊎ (first_of firsts x ≡ Some v) → (y : ℕ) × (first_of firsts y ≡ Some v) × IsMarked (set done x true) y
    ordered v (inl h) = let o = (l.in_order v).0 h in (o.0, o.1, mark_more o.0 (cases_eq o.0 x) o.2)
    ordered v (inr e) = (x, e, mark_x)

    to_order : (v y : ℕ) → first_of firsts y ≡ Some v → IsMarked (set done x true) y → (y ≡ x) ⊎ (y ≢ x) → Contains order v ⊎ (first_of firsts x ≡ Some v)
    to_order v y e d (inl s) = inr (subst (λ (z : ℕ). first_of firsts z ≡ Some v) s e)
    to_order v y e d (inr o) = inl ((l.in_order v).1 (y, e, mark_less y o d))

    done_waits : (y : ℕ) → (IsMarked done y ⊎ IsWaiting firsts free ready y) ⊎ (IsHeld c done nexts y ⊎ NoneDue y) → (y ≡ x) ⊎ (y ≢ x) → (IsMarked (set done x true) y ⊎ IsWaiting firsts free' ready' y) ⊎ (IsHeld c (set done x true) nexts y ⊎ AreCallersDue c nexts x y)
    done_waits y h (inl s) = inl (inl (subst (IsMarked (set done x true)) (sym s) mark_x))
    done_waits y (inl (inl d)) (inr o) = inl (inl (mark_more y (inr o) d))
    done_waits y (inl (inr (inl w))) (inr o) =
        ⊎_elim (λ (s : y ≡ x). absurd (o s)) (λ (f : Contains free' y). inl (inr (inl (w.0, f)))) (free_to y w.1)
    done_waits y (inl (inr (inr w))) (inr o) =
        ⊎_elim (λ (e : first_of firsts x ≡ Some w.0). absurd (o (one y w.0 e w.1))) (λ (f : Contains ready' w.0). inl (inr (inr (w.0, w.1, f)))) (ready_to w.0 w.2)
    done_waits y (inr (inl h)) (inr o) =
        let z = get_or (successors_of c y) (get_or nexts y 0) 0 in
        ⊎_elim (λ (s : z ≡ x). inr (inr (subst (HasEdge c y) s (Contains-get_or (successors_of c y) (get_or nexts y 0) 0 h.0), h.0))) (λ (n : z ≢ x). inr (inl (h.0, λ d. h.1 (mark_less z n d)))) (cases_eq z x)
    done_waits y (inr (inr d)) (inr o) = absurd d

    pub IsLine-done : IsLine c firsts (set done x true) nexts free' ready' order' (AreCallersDue c nexts x)
    IsLine-done =
        record {
          done_count = length-set done x true ∙ l.done_count;
          next_count = l.next_count;
          looked = λ y i a b. mark_more (get_or (successors_of c y) i 0) (cases_eq (get_or (successors_of c y) i 0) x) (l.looked y i a b);
          whole = λ y d. ⊎_elim (λ (s : y ≡ x). subst (IsLooked c nexts) (sym s) looked) (λ (o : y ≢ x). l.whole y (mark_less y o d)) (cases_eq y x);
          is_free = λ y h. l.is_free y (free_from y h);
          is_ready = open_still;
          in_order = λ v. (λ h. ordered v ((in_order v).0 h), λ h. (in_order v).1 (to_order v h.0 h.1 h.2 (cases_eq h.0 x)));
          waits = λ y m. done_waits y (l.waits y m) (cases_eq y x);
        }

-- a component without a chosen node
pub IsLine-free : (c : List (List ℕ)) (firsts : List (Option ℕ)) (done : List Bool) (nexts free rest ready order : List ℕ) (x : ℕ) → free ≡ rest ++ x ∷ [] → IsLine c firsts done nexts free ready order NoneDue → (x < length c) × IsLine c firsts (set done x true) nexts rest ready order (AreCallersDue c nexts x)
IsLine-free c firsts done nexts free rest ready order x e l =
    let there : Contains free x = subst (λ (xs : List ℕ). Contains xs x) (sym e) (Contains-push rest x) in
    let is = l.is_free x there in
    let no : (v : ℕ) → first_of firsts x ≡ Some v → ⊥ = λ v h. let s : None ≡ Some v = sym is.1 ∙ h in cc in
    (is.0, IsLine-done c firsts done nexts free ready order l x is.0 is.2 (λ y v a b. absurd (no v a)) rest ready order (λ y h. subst (λ (xs : List ℕ). Contains xs y) (sym e) (Contains-append_left rest (x ∷ []) y h)) (λ y h. ⊎_elim (λ (r : Contains rest y). inr r) (λ (s : x ≡ y). inl (sym s)) (Contains-push_cases rest x y (subst (λ (xs : List ℕ). Contains xs y) e h))) (λ v h. (h, no v)) (λ v h. inr h) (λ v. (inl, λ h. ⊎_elim (λ (a : Contains order v). a) (λ (b : first_of firsts x ≡ Some v). absurd (no v b)) h)))

module _ (c : List (List ℕ)) (firsts : List (Option ℕ)) (done : List Bool) (nexts free ready order : List ℕ) (x : ℕ) (l : IsLine c firsts done nexts free ready order (IsDueFrom x)) (undone : IsAllUndone done) where
  -- a component of which all callees were looked at waits
  pub IsLine-first : x < length c → IsLooked c nexts x → (free' ready' : List ℕ) → IsPut (first_of firsts x) x free ready free' ready' → IsLine c firsts done nexts free' ready' order (IsDueFrom (x + 1))
  IsLine-first fits looked free' ready' p =
      IsLine-put c firsts done nexts free ready order (IsDueFrom x) (IsDueFrom (x + 1)) l x fits looked (undone x) (λ y d. ⊎_elim (λ (s : y ≡ x). inl s) (λ (o : y ≢ x). let m : x + 1 ≤ y = omega arith in inr m) (cases_eq y x)) free' ready' p

  -- and another one is held, since nothing is done
  pub IsLine-second : get_or nexts x 0 < length (successors_of c x) → IsLine c firsts done nexts free ready order (IsDueFrom (x + 1))
  IsLine-second some =
      IsLine-due c firsts done nexts free ready order (IsDueFrom x) (IsDueFrom (x + 1)) l (λ y m d. ⊎_elim (λ (s : y ≡ x). inr (inl (subst (IsHeld c done nexts) (sym s) (some, undone (get_or (successors_of c x) (get_or nexts x 0) 0))))) (λ (o : y ≢ x). let n : x + 1 ≤ y = omega arith in inr (inr n)) (cases_eq y x))

-- the callers of y are those in a row of the graph that is turned round
module _ (c callers : List (List ℕ)) (r : IsReverse c callers) (firsts : List (Option ℕ)) (done : List Bool) (nexts free ready order : List ℕ) (y : ℕ) (row : List ℕ) (is : row ≡ successors_of callers y) where
  pub IsLine-callers : IsLine c firsts done nexts free ready order (AreCallersDue c nexts y) → IsLine c firsts done nexts free ready order (AreDueFrom c nexts row 0)
  IsLine-callers l =
      IsLine-due c firsts done nexts free ready order (AreCallersDue c nexts y) (AreDueFrom c nexts row 0) l (λ x m d. let h : Contains row x = subst (λ (xs : List ℕ). Contains xs x) (sym is) ((r.turned x y).1 d.0) in inr (inr (h.0, omega arith, h.1, get_or_default row h.0 0 x h.1 ∙ h.2, d.1)))

-- a look, as it is read
module _ (c : List (List ℕ)) (firsts : List (Option ℕ)) (done : List Bool) (nexts free ready order : List ℕ) (x : ℕ) (fits : x < length c) (callees : List ℕ) (is : callees ≡ successors_of c x) (marks : List Bool) (is_marks : marks ≡ done) (next : ℕ) (read : next ≡ get_or nexts x next) (count : length nexts ≡ length c) (last : ℕ) where
  is_next : next ≡ get_or nexts x 0
  is_next = read ∙ get_or_default nexts x next 0 (omega arith)

  pub look_whole : length callees ≤ next → IsLooked c nexts x
  look_whole all = let a = is_next in let b : length callees ≡ length (successors_of c x) = ap length is in omega arith

  pub look_short : next < length callees → IsUnlooked c nexts x
  look_short some = let a = is_next in let b : length callees ≡ length (successors_of c x) = ap length is in omega arith

  module _ (some : next < length callees) (more : next ≤ last) (within : last ≤ length callees) (passed : (k : ℕ) → next ≤ k → k < last → IsMarked marks (get_or callees k 0)) (stops : last < length callees → IsMarked marks (get_or callees last 0) → ⊥) where
    more' : get_or nexts x 0 ≤ last
    more' = let a = is_next in omega arith

    passed' : (k : ℕ) → get_or nexts x 0 ≤ k → k < last → IsMarked done (get_or (successors_of c x) k 0)
    passed' k a b =
        let e = is_next in
        subst (λ (ms : List Bool). IsMarked ms (get_or (successors_of c x) k 0)) is_marks (subst (λ (xs : List ℕ). IsMarked marks (get_or xs k 0)) is (passed k (omega arith) b))

    stops' : last < length (successors_of c x) → IsMarked done (get_or (successors_of c x) last 0) → ⊥
    stops' a d =
        let b : length callees ≡ length (successors_of c x) = ap length is in
        stops (omega arith) (subst (λ (xs : List ℕ). IsMarked marks (get_or xs last 0)) (sym is) (subst (λ (ms : List Bool). IsMarked ms (get_or (successors_of c x) last 0)) (sym is_marks) d))

    pub look_left : looks_left c (set nexts x last) + last ≡ looks_left c nexts + next
    look_left =
        let b : length callees ≡ length (successors_of c x) = ap length is in
        let e = is_next in
        let j = looks_left-jump c nexts x last count fits more' (omega arith) in
        omega arith

    module _ (due : List ℕ) (i : ℕ) (at : x ≡ get_or due i 0) (l : IsLine c firsts done nexts free ready order (AreDueFrom c nexts due i)) where
      pub look_wait : length callees ≤ last → (free' ready' : List ℕ) → IsPut (first_of firsts x) x free ready free' ready' → IsLine c firsts done (set nexts x last) free' ready' order (AreDueFrom c (set nexts x last) due (i + 1))
      look_wait all free' ready' p =
          let b : length callees ≡ length (successors_of c x) = ap length is in
          IsLine-wait c firsts done nexts free ready order x fits due i at l (look_short some) last more' passed' stops' (omega arith) free' ready' p

      pub look_held : last < length callees → IsLine c firsts done (set nexts x last) free ready order (AreDueFrom c (set nexts x last) due (i + 1))
      look_held short =
          let b : length callees ≡ length (successors_of c x) = ap length is in
          IsLine-held c firsts done nexts free ready order x fits due i at l (look_short some) last more' passed' stops' (omega arith)

pub free_fits : (c : List (List ℕ)) (firsts : List (Option ℕ)) (done : List Bool) (nexts free rest ready order : List ℕ) (x : ℕ) → free ≡ rest ++ x ∷ [] → IsLine c firsts done nexts free ready order NoneDue → x < length done
free_fits c firsts done nexts free rest ready order x e l =
    let m = (IsLine-free c firsts done nexts free rest ready order x e l).0 in
    let n = l.done_count in
    omega arith
