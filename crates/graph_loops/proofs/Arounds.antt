-- the innermost loops around nodes, one loop after another
use Rattle.std.proofs.Common.{◌≡◌, ◌≢◌, ◌⊎◌, ℕ, ◌+◌, ◌<◌, ◌≤◌, Option, Some, None, List, [], ◌∷◌, ◌++◌, length, get_or, set, take, Contains, refl, sym, ◌∙◌, ap, inl, inr, ⊎_elim, subst, arith, get_or-set_same, get_or-set_other}
use Rattle.std.proofs.lemmas.Bool.{cases_eq}
use Rattle.std.proofs.lemmas.List.{length-set, take_more, take_all, map_push, get_or_default, length-map, get_or-map, length-take}
use Rattle.std.proofs.lemmas.List.Elements.{All-get_or, Contains-get_or, Contains-push, Contains-push_cases, Contains-append_left}
use Rattle.graph_core.specs.Graphs.{EndsAtNodes}
use Rattle.graph_core.specs.Loops.{HasLoop, IsInLoop}
use Rattle.graph_core.specs.Paths.{Leads, LiesOnFirstPath}
use Rattle.graph_core.specs.Nests.{Entered, HasNodes, IsNest, entries_of}
use Rattle.graph_core.proofs.Lists.{cases_Contains}
use Rattle.graph_loops.specs.Nesting.{IsInnermost, IsParent}
use Rattle.graph_loops.specs.inside.Around.{IsAround, AreAround, AreAroundTo, AreInnerTo}
use Rattle.graph_loops.proofs.Firsts.{edge_source, on_through, on_chain}
use Rattle.graph_loops.proofs.Insides.{on_inside, on_loop, nearer_within}

module _ (g : List (List ℕ)) (root : ℕ) where
  pub begins_at : EndsAtNodes g → (h : ℕ) → HasLoop g root h → h < length g
  begins_at ends h l = ends l.0 h l.1.0

  pub around_begins : (entries : List ℕ) (x p : ℕ) (o : Option ℕ) → o ≡ Some p → IsAround g root entries x o → HasLoop g root p
  around_begins entries x p None e a = let s : None ≡ Some p = e in absurd (cc)
  around_begins entries x p (Some q) e a = let s : Some q ≡ Some p = e in let t : q ≡ p = cc in subst (HasLoop g root) t a.0

  module _ (entries : List ℕ) (h x : ℕ) where
    around_weaker : (o : Option ℕ) → IsAround g root (entries ++ h ∷ []) x o → IsAround g root entries x o
    around_weaker None a = λ k c i. a k (Contains-append_left entries (h ∷ []) k c) i
    around_weaker (Some p) a =
        (a.0, a.1, a.2, λ k c i n. a.3 k (Contains-append_left entries (h ∷ []) k c) i n)

    -- the loop of h doesn't hold x, or begins there
    pub around_still : (IsInLoop g root h x → h ≡ x) → (o : Option ℕ) → IsAround g root entries x o → IsAround g root (entries ++ h ∷ []) x o
    around_still same None a =
        λ k c i. ⊎_elim (λ (d : Contains entries k). a k d i) (λ (e : h ≡ k). sym e ∙ same (subst (λ (z : ℕ). IsInLoop g root z x) (sym e) i)) (Contains-push_cases entries h k c)
    around_still same (Some p) a =
        (a.0, a.1, a.2, λ k c i n. ⊎_elim (λ (d : Contains entries k). a.3 k d i n) (λ (e : h ≡ k). absurd (n (sym e ∙ same (subst (λ (z : ℕ). IsInLoop g root z x) (sym e) i)))) (Contains-push_cases entries h k c))

    module _ (begins : HasLoop g root h) (holds : IsInLoop g root h x) (other : h ≢ x) where
      over : (k : ℕ) → ((Contains entries k) → LiesOnFirstPath g root k h) → Contains (entries ++ h ∷ []) k → LiesOnFirstPath g root k h
      over k old c =
          ⊎_elim old (λ (e : h ≡ k). subst (λ (z : ℕ). LiesOnFirstPath g root z h) e (on_loop g root h begins)) (Contains-push_cases entries h k c)

      -- nothing was around x
      pub around_first : IsAround g root entries x None → IsAround g root (entries ++ h ∷ []) x (Some h)
      around_first a = (begins, holds, other, λ k c i n. over k (λ d. absurd (n (a k d i))) c)

      module _ (p : ℕ) (a : IsAround g root entries x (Some p)) where
        -- the loop of h is nearer
        pub around_nearer : LiesOnFirstPath g root p h → IsAround g root (entries ++ h ∷ []) x (Some h)
        around_nearer on =
            (begins, holds, other, λ k c i n. over k (λ d. on_through g root k p h (a.3 k d i n) on) c)

        -- or what was around x is
        pub around_kept : (LiesOnFirstPath g root p h → ⊥) → IsAround g root (entries ++ h ∷ []) x (Some p)
        around_kept none =
            (a.0, a.1, a.2, λ k c i n. ⊎_elim (λ (d : Contains entries k). a.3 k d i n) (λ (e : h ≡ k). subst (λ (z : ℕ). LiesOnFirstPath g root z p) e upper) (Contains-push_cases entries h k c))
          where
            upper : LiesOnFirstPath g root h p
            upper =
                ⊎_elim (λ (up : LiesOnFirstPath g root h p). up) (λ (up : LiesOnFirstPath g root p h). absurd (none up)) (on_chain g root h p x (on_inside g root h x (on_loop g root h begins) holds) (on_inside g root p x (on_loop g root p a.0) a.1))

  -- one node of the loop of h more
  module _ (entries : List ℕ) (h : ℕ) (nodes : List ℕ) (i : ℕ) (l : i < length nodes) (around : List (Option ℕ)) (w : AreAroundTo g root entries h nodes i around) (x : ℕ) (at : x ≡ get_or nodes i 0) (fits : x < length around) (o : Option ℕ) (now : IsAround g root (entries ++ h ∷ []) x o) where
    same_at : (y : ℕ) → y ≡ x → get_or (set around x o) y None ≡ o
    same_at y e = ap (λ (z : ℕ). get_or (set around x o) z None) e ∙ get_or-set_same around x o None fits

    other_at : (y : ℕ) → y ≢ x → get_or (set around x o) y None ≡ get_or around y None
    other_at y n = get_or-set_other around x y o None n

    pub AreAroundTo-more : AreAroundTo g root entries h nodes (i + 1) (set around x o)
    AreAroundTo-more =
        record {
          before = record { count = length-set around x o ∙ w.before.count; each = λ y. each y (cases_eq y x) };
          more = λ y c. more y (Contains-push_cases (take i nodes) (get_or nodes i 0) y (subst (λ (ns : List ℕ). Contains ns y) (take_more nodes i 0 l) c)) (cases_eq y x);
        }
      where
        each : (y : ℕ) → (y ≡ x) ⊎ (y ≢ x) → IsAround g root entries y (get_or (set around x o) y None)
        each y (inl e) =
            subst (IsAround g root entries y) (sym (same_at y e)) (subst (λ (z : ℕ). IsAround g root entries z o) (sym e) (around_weaker entries h x o now))
        each y (inr n) = subst (IsAround g root entries y) (sym (other_at y n)) (w.before.each y)

        more : (y : ℕ) → Contains (take i nodes) y ⊎ (get_or nodes i 0 ≡ y) → (y ≡ x) ⊎ (y ≢ x) → IsAround g root (entries ++ h ∷ []) y (get_or (set around x o) y None)
        more y c (inl e) =
            subst (IsAround g root (entries ++ h ∷ []) y) (sym (same_at y e)) (subst (λ (z : ℕ). IsAround g root (entries ++ h ∷ []) z o) (sym e) now)
        more y (inl c) (inr n) = subst (IsAround g root (entries ++ h ∷ []) y) (sym (other_at y n)) (w.more y c)
        more y (inr e) (inr n) = absurd (n (sym e ∙ sym at))

  pub AreAroundTo-none : (entries : List ℕ) (h : ℕ) (nodes : List ℕ) (around : List (Option ℕ)) → AreAround g root entries around → AreAroundTo g root entries h nodes 0 around
  AreAroundTo-none entries h nodes around a =
      record { before = a; more = λ x c. let l = c.1 in let n = length-take 0 nodes in absurd (omega arith) }

  -- the loop of h was taken into account at all its nodes
  pub AreAround-loop : (entries : List ℕ) (l : Entered) (i : ℕ) (around : List (Option ℕ)) → HasNodes g root l → length l.nodes ≤ i → AreAroundTo g root entries l.entry l.nodes i around → AreAround g root (entries ++ l.entry ∷ []) around
  AreAround-loop entries l i around nodes all w =
      record { count = w.before.count; each = λ x. each x (cases_Contains l.nodes x) }
    where
      each : (x : ℕ) → Contains l.nodes x ⊎ (Contains l.nodes x → ⊥) → IsAround g root (entries ++ l.entry ∷ []) x (get_or around x None)
      each x (inl c) = w.more x (subst (λ (ns : List ℕ). Contains ns x) (sym (take_all i l.nodes all)) c)
      each x (inr n) =
          around_still entries l.entry x (λ inside. absurd (n ((nodes.held x).1 inside))) (get_or around x None) (w.before.each x)

  -- the entries of the loops so far, with one more
  pub entries_more : (loops : List Entered) (i : ℕ) (l : Entered) → i < length loops → l ≡ get_or loops i l → entries_of (take (i + 1) loops) ≡ entries_of (take i loops) ++ l.entry ∷ []
  entries_more loops i l low is =
      ap entries_of (take_more loops i l low) ∙ (map_push (λ (e : Entered). e.entry) (take i loops) (get_or loops i l) ∙ ap (λ (e : Entered). entries_of (take i loops) ++ e.entry ∷ []) (sym is))

  module _ (loops : List Entered) (nest : IsNest g root loops) where
    pub loop_begins : (i : ℕ) (l : Entered) → i < length loops → l ≡ get_or loops i l → HasLoop g root l.entry
    loop_begins i l low is =
        (nest.entries l.entry).0 (subst (λ (e : Entered). Contains (entries_of loops) e.entry) (sym is) (entry_in loops i l low))
      where
        entry_in : (ls : List Entered) (j : ℕ) (d : Entered) → j < length ls → Contains (entries_of ls) (get_or ls j d).entry
        entry_in ls j d m =
            let n : length (entries_of ls) ≡ length ls = length-map ls (λ (e : Entered). e.entry) in
            subst (Contains (entries_of ls)) (get_or-map (λ (e : Entered). e.entry) ls j d d.entry m) (Contains-get_or (entries_of ls) j d.entry (omega arith))

    pub loop_nodes : (i : ℕ) (l : Entered) → i < length loops → l ≡ get_or loops i l → HasNodes g root l
    loop_nodes i l low is = subst (HasNodes g root) (sym is) (All-get_or (HasNodes g root) loops i l low nest.nodes)

    -- all loops were taken into account
    pub IsParent-all : (x : ℕ) (o : Option ℕ) → IsAround g root (entries_of loops) x o → IsParent g root x o
    IsParent-all x None a = λ h holds. a h ((nest.entries h).1 holds.0) holds.1
    IsParent-all x (Some p) a =
        ((a.0, a.1), a.2, λ k holds n. nearer_within g root p k x a.1 holds.1 (a.3 k ((nest.entries k).1 holds.0) holds.1 n))

    inner_at : (parents : List (Option ℕ)) (x : ℕ) (o : Option ℕ) → (Contains (entries_of loops) x → ⊥) → IsParent g root x o → IsInnermost g root x o
    inner_at parents x None none p = λ h holds. none (subst (Contains (entries_of loops)) (p h holds) ((nest.entries h).1 holds.0))
    inner_at parents x (Some h) none p =
        (p.0, λ k holds. p.2 k holds (λ e. none (subst (Contains (entries_of loops)) e ((nest.entries k).1 holds.0))))

    pub IsInnermost-all : (parents inner : List (Option ℕ)) → AreInnerTo parents (entries_of loops) inner → ((x : ℕ) → IsParent g root x (get_or parents x None)) → (x : ℕ) → IsInnermost g root x (get_or inner x None)
    IsInnermost-all parents inner w p x = at (w.each x)
      where
        at : (Contains (entries_of loops) x × (get_or inner x None ≡ Some x)) ⊎ ((Contains (entries_of loops) x → ⊥) × (get_or inner x None ≡ get_or parents x None)) → IsInnermost g root x (get_or inner x None)
        at (inl h) =
            let begins = (nest.entries x).0 h.0 in
            subst (IsInnermost g root x) (sym h.1) ((begins, inl refl), λ k holds. nearer_within g root x k x (inl refl) holds.1 (on_inside g root k x (on_loop g root k holds.0) holds.1))
        at (inr h) =
            subst (IsInnermost g root x) (sym h.1) (inner_at parents x (get_or parents x None) h.0 (p x))

-- an entry more
pub AreInnerTo-more : (parents inner : List (Option ℕ)) (entries : List ℕ) (h : ℕ) → h < length inner → AreInnerTo parents entries inner → AreInnerTo parents (entries ++ h ∷ []) (set inner h (Some h))
AreInnerTo-more parents inner entries h fits w =
    record { count = length-set inner h (Some h) ∙ w.count; each = λ x. each x (cases_eq x h) (w.each x) }
  where
    each : (x : ℕ) → (x ≡ h) ⊎ (x ≢ h) → (Contains entries x × (get_or inner x None ≡ Some x)) ⊎ ((Contains entries x → ⊥) × (get_or inner x None ≡ get_or parents x None)) → (Contains (entries ++ h ∷ []) x × (get_or (set inner h (Some h)) x None ≡ Some x)) ⊎ ((Contains (entries ++ h ∷ []) x → ⊥) × (get_or (set inner h (Some h)) x None ≡ get_or parents x None))
    each x (inl e) _ =
        inl (subst (Contains (entries ++ h ∷ [])) (sym e) (Contains-push entries h), ap (λ (z : ℕ). get_or (set inner h (Some h)) z None) e ∙ (get_or-set_same inner h (Some h) None fits ∙ ap Some (sym e)))
    each x (inr n) (inl a) =
        inl (Contains-append_left entries (h ∷ []) x a.0, get_or-set_other inner h x (Some h) None n ∙ a.1)
    each x (inr n) (inr a) =
        inr (λ c. ⊎_elim a.0 (λ (e : h ≡ x). n (sym e)) (Contains-push_cases entries h x c), get_or-set_other inner h x (Some h) None n ∙ a.1)

-- a node of a loop, as it is read
module _ (g : List (List ℕ)) (root : ℕ) where
  pub item_inside : (l : Entered) → HasNodes g root l → (nodes : List ℕ) → nodes ≡ l.nodes → (i : ℕ) → i < length nodes → IsInLoop g root l.entry (get_or nodes i 0)
  item_inside l h nodes is i low =
      (h.held (get_or nodes i 0)).0 (subst (λ (xs : List ℕ). Contains xs (get_or nodes i 0)) is (Contains-get_or nodes i 0 low))

  pub item_fits : EndsAtNodes g → (l : Entered) → HasLoop g root l.entry → HasNodes g root l → (nodes : List ℕ) → nodes ≡ l.nodes → (i : ℕ) → i < length nodes → get_or nodes i 0 < length g
  item_fits ends l begins h nodes is i low = fits (get_or nodes i 0) (item_inside l h nodes is i low)
    where
      fits : (x : ℕ) → IsInLoop g root l.entry x → x < length g
      fits x (inl e) = subst (λ (y : ℕ). y < length g) (sym e) (begins_at g root ends l.entry begins)
      fits x (inr b) = leads_source b.rest x b.source b.path.leads (edge_source g b.source l.entry b.back.0)
        where
          leads_source : (rest : List ℕ) (y z : ℕ) → Leads g y rest z → z < length g → y < length g
          leads_source [] y z e m = subst (λ (w : ℕ). w < length g) (sym e) m
          leads_source (w ∷ rest) y z e m = edge_source g y w e.0

  pub around_read : (entries : List ℕ) (around : List (Option ℕ)) → AreAround g root entries around → (x : ℕ) → x < length g → (o : Option ℕ) → o ≡ get_or around x o → IsAround g root entries x o
  around_read entries around w x l o e =
      let n = w.count in
      subst (IsAround g root entries x) (sym (e ∙ get_or_default around x o None (omega arith))) (w.each x)

pub nest_read : (g : List (List ℕ)) (root : ℕ) (loops nest : List Entered) → loops ≡ nest → IsNest g root nest → IsNest g root loops
nest_read g root loops nest e n = subst (IsNest g root) (sym e) n
