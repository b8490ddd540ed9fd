-- how loops lie in one another
use Rattle.std.proofs.Common.{◌≡◌, ◌≢◌, ◌⊎◌, ℕ, List, [], ◌∷◌, ◌++◌, All, sym, inl, inr, ⊎_elim, subst}
use Rattle.std.proofs.lemmas.Bool.{cases_eq}
use Rattle.std.proofs.lemmas.List.Elements.{All-head, All-tail, All-weaker}
use Rattle.graph_core.specs.Paths.{Leads, Reaches, IsFirstPath, LiesOnFirstPath}
use Rattle.graph_core.specs.Loops.{HasLoop, IsBelow, LoopsBack, IsInLoop}
use Rattle.graph_core.proofs.Marks.{loops_back_before}
use Rattle.graph_loops.specs.Nesting.{LiesWithin}
use Rattle.graph_loops.proofs.Firsts.{all_of, Cut, cut, on_lower, on_upper, on_through, on_chain, on_both, on_past}

module _ (g : List (List ℕ)) (root : ℕ) where
  -- h lies on the first path to what loops back to it
  pub below_head : (h x : ℕ) → LoopsBack g root h x → IsBelow g root h x
  below_head h x l = All-head (IsBelow g root h) x l.rest l.below

  -- and on that to each node of its loop, where it has one at all
  pub on_inside : (h x : ℕ) → LiesOnFirstPath g root h h → IsInLoop g root h x → LiesOnFirstPath g root h x
  on_inside h x on (inl e) = subst (LiesOnFirstPath g root h) (sym e) on
  on_inside h x on (inr l) = (below_head h x l).0

  pub on_loop : (h : ℕ) → HasLoop g root h → LiesOnFirstPath g root h h
  on_loop h l = on_upper g root h l.0 l.1.1

  -- a way along nodes below k to what loops back to k
  pub loops_along : (k : ℕ) (rest : List ℕ) (y x : ℕ) → Leads g y rest x → All (IsBelow g root k) (y ∷ rest) → LoopsBack g root k x → LoopsBack g root k y
  loops_along k [] y x e all l = subst (LoopsBack g root k) (sym e) l
  loops_along k (z ∷ rest) y x h all l =
      loops_back_before g root k y z h.0 (All-head (IsBelow g root k) y (z ∷ rest) all) (loops_along k rest z x h.1 (All-tail (IsBelow g root k) y (z ∷ rest) all) l)

  -- what is below h is below k, where h is
  below_through : (h k x : ℕ) → IsBelow g root k h → LiesOnFirstPath g root h x → IsBelow g root k x
  below_through h k x up on =
      (on_through g root k h x up.0 on, λ e. up.1 (on_both g root h k (subst (LiesOnFirstPath g root h) e on) up.0))

  -- where h loops back to k, its loop lies in that of k
  pub within_of : (h k : ℕ) → LoopsBack g root k h → LiesWithin g root h k
  within_of h k up x (inl e) = inr (subst (LoopsBack g root k) (sym e) up)
  within_of h k up x (inr l) = inr (loops_along k l.rest x l.source l.path.leads below source)
    where
      k_below : IsBelow g root k h
      k_below = below_head k h up

      weaker : (z : ℕ) → IsBelow g root h z → IsBelow g root k z
      weaker z b = below_through h k z k_below b.0

      below : All (IsBelow g root k) (x ∷ l.rest)
      below = All-weaker (IsBelow g root h) (IsBelow g root k) weaker (x ∷ l.rest) l.below

      source : LoopsBack g root k l.source
      source = loops_back_before g root k l.source h l.back.0 (below_through h k l.source k_below l.back.1) up

  -- where h is below k and above a node of the loop of k, it loops back to k
  pub between : (h k x : ℕ) → IsBelow g root k h → LiesOnFirstPath g root h x → LoopsBack g root k x → LoopsBack g root k h
  between h k x up on l = loops_along k s.after h x s.from below l
    where
      s : Cut g root on.0 h x
      s = cut g root h x on

      first : IsFirstPath g root (s.before ++ s.after) x
      first = subst (λ (p : List ℕ). IsFirstPath g root p x) s.is on.1

      below : All (IsBelow g root k) (h ∷ s.after)
      below =
          all_of (IsBelow g root k) (h ∷ s.after) (λ z c. below_through h k z up (on_past g root h x s.before s.after s.first s.from first z c))

  -- Of two loops that hold x, that with the entry nearer to x lies in the other.
  pub nearer_within : (h k x : ℕ) → IsInLoop g root h x → IsInLoop g root k x → LiesOnFirstPath g root k h → LiesWithin g root h k
  nearer_within h k x inside outside on = at (cases_eq h k) outside
    where
      at : (h ≡ k) ⊎ (h ≢ k) → IsInLoop g root k x → LiesWithin g root h k
      at (inl e) o = λ y i. subst (λ (z : ℕ). IsInLoop g root z y) e i
      at (inr n) (inl e) =
          absurd (n (on_both g root h k (subst (LiesOnFirstPath g root h) e (on_inside h x (on_lower g root k h on) inside)) on))
      at (inr n) (inr l) =
          within_of h k (between h k x (on, n) (on_inside h x (on_lower g root k h on) inside) l)

  pub apart_or_within : (h k x : ℕ) → IsInLoop g root h x → IsInLoop g root k x → LiesWithin g root h k ⊎ LiesWithin g root k h
  apart_or_within h k x (inl e) o = inl (λ y i. at y i)
    where
      at : (y : ℕ) → IsInLoop g root h y → IsInLoop g root k y
      at y i = whole (subst (IsInLoop g root k) e o) y i
        where
          whole : IsInLoop g root k h → (z : ℕ) → IsInLoop g root h z → IsInLoop g root k z
          whole (inl s) z j = subst (λ (w : ℕ). IsInLoop g root w z) s j
          whole (inr l) z j = within_of h k l z j
  apart_or_within h k x (inr l) (inl e) = inr (within_of k h (subst (LoopsBack g root h) e l))
  apart_or_within h k x (inr l) (inr m) =
      ⊎_elim (λ (on : LiesOnFirstPath g root h k). inr (nearer_within k h x (inr m) (inr l) on)) (λ (on : LiesOnFirstPath g root k h). inl (nearer_within h k x (inr l) (inr m) on)) (on_chain g root h k x (below_head h x l).0 (below_head k x m).0)

  pub inside_reached : (h x : ℕ) → HasLoop g root h → IsInLoop g root h x → Reaches g root x
  inside_reached h x l i =
      let on = on_inside h x (on_loop h l) i in (on.0, on.1.path)
