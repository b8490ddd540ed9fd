-- What edges do to the loops around: they leave any number, and may then enter one, at its entry.
use Rattle.std.proofs.Common.{◌≡◌, inl, inr, ℕ, List, [], ◌∷◌, Option, Contains, refl, sym, ◌∙◌, subst, append-nil}
use Rattle.std.proofs.lemmas.List.Elements.{Contains-append_right}
use Rattle.common_laws.proofs.Members.{contains_head, contains_cases, contains_none}
use Rattle.graph_core.specs.Graphs.{HasEdge}
use Rattle.graph_core.specs.Paths.{Leads, Reaches}
use Rattle.graph_core.specs.Loops.{HasLoop, IsInLoop}
use Rattle.graph_core.proofs.Lists.{cases_Contains}
use Rattle.graph_loops.specs.Nesting.{IsInnermost, IsParent}
use Rattle.graph_loops.proofs.Firsts.{cut}
use Rattle.graph_loops.proofs.Insides.{below_head}
use Rattle.loop_cut.specs.Laws.{HasOneEntries}
use Rattle.loop_cut.proofs.Walking.{enters}
use Rattle.loop_turns.specs.Regions.{IsIn, Passage}
use Rattle.loop_turns.specs.Regions as regions
use Rattle.code_turns.specs.inside.Around.{AreFrom, none, more, IsAround}
use Rattle.code_turns.proofs.Around.{around_listed, ends_in}

module _ (g : List (List ℕ)) (root : ℕ) where
  -- ---- edges

  module _ (one : HasOneEntries g root) (x y : ℕ) (reached : Reaches g root x) (edge : HasEdge g x y) (from : List ℕ) (here : IsAround g root x from) where
    -- a loop around y, but not around x, begins at y
    entered_at : (h : ℕ) → HasLoop g root h → IsInLoop g root h y → (Contains from h → ⊥) → y ≡ h
    entered_at h begins inside out = enters g root one h x y reached edge (λ i. out (around_listed g root one x from h here (begins, i))) inside

    -- so those around that one are around x
    outer_in : (h : ℕ) (o : Option ℕ) (rest : List ℕ) → y ≡ h → IsParent g root h o → AreFrom g root o rest → IsIn rest from
    outer_in h o rest same parent none = (from, sym (append-nil from))
    outer_in h o rest same parent (more {h = p} begins up outer) =
        elim (cases_Contains from p) [
          | inl c ↦ ends_in g root one here.loops p rest (more begins up outer) c
          | inr out ↦ absurd (parent.1 (sym (entered_at p begins (subst (IsInLoop g root p) (sym same) parent.0.1) out) ∙ same))
        ]

    passes_to : (o : Option ℕ) (to : List ℕ) → IsInnermost g root y o → AreFrom g root o to → Passage from y to
    passes_to o to inner none = regions.Passage.leaves (from, sym (append-nil from))
    passes_to o to inner (more {h = h} {o = p} {rest = rest} begins parent outer) =
        elim (cases_Contains from h) [
          | inl c ↦ regions.Passage.leaves (ends_in g root one here.loops h (h ∷ rest) (more begins parent outer) c)
          | inr out ↦
              let same : y ≡ h = entered_at h begins inner.0.1 out in
              subst (λ (z : ℕ). Passage from y (z ∷ rest)) same
              (regions.Passage.enters (outer_in h p rest same parent outer)
              (λ inside. out (subst (Contains from) same (subst (λ (zs : List ℕ). Contains zs y) (sym inside.1) (Contains-append_right inside.0 (y ∷ rest) y (contains_head y rest))))))
        ]

    pub edge_passes : (to : List ℕ) → IsAround g root y to → Passage from y to
    edge_passes to there = passes_to there.inner to there.innermost there.loops

  -- ---- the root

  path_to_itself : (rest : List ℕ) → Leads g root rest root → (Contains rest root → ⊥) → rest ≡ []
  path_to_itself [] leads once = refl
  path_to_itself (c ∷ rest) leads once = absurd (once (end_there c rest leads.1))
    where
      end_there : (c : ℕ) (rest : List ℕ) → Leads g c rest root → Contains (c ∷ rest) root
      end_there c [] e = subst (λ (z : ℕ). Contains (z ∷ []) root) (sym e) (contains_head root [])
      end_there c (d ∷ rest) l = Contains-append_right (c ∷ []) (d ∷ rest) root (end_there d rest l.1)

  -- a loop that holds the root begins there
  root_begins : (h : ℕ) → IsInLoop g root h root → root ≡ h
  root_begins h (inl e) = e
  root_begins h (inr l) =
      let below = below_head g root h root l in
      let path = below.0.1.path in
      let alone : below.0.0 ≡ [] = path_to_itself below.0.0 path.leads path.no_repeat.0 in
      elim (contains_cases root [] h (subst (λ (zs : List ℕ). Contains (root ∷ zs) h) alone below.0.2)) [ inl e ↦ e | inr c ↦ absurd (contains_none h c) ]

  none_outer : (h : ℕ) (o : Option ℕ) (rest : List ℕ) → root ≡ h → IsParent g root h o → AreFrom g root o rest → rest ≡ []
  none_outer h o rest same parent none = refl
  none_outer h o rest same parent (more {h = p} begins up outer) =
      absurd (parent.1 (sym (root_begins p (subst (IsInLoop g root p) (sym same) parent.0.1)) ∙ same))

  outside_none : (y : ℕ) → IsIn (y ∷ []) [] → ⊥
  outside_none y inside = contains_none y (subst (λ (zs : List ℕ). Contains zs y) (sym inside.1) (Contains-append_right inside.0 (y ∷ []) y (contains_head y [])))

  root_passes_to : (o : Option ℕ) (home : List ℕ) → IsInnermost g root root o → AreFrom g root o home → Passage [] root home
  root_passes_to o home inner none = regions.Passage.leaves ([], refl)
  root_passes_to o home inner (more {h = h} {o = p} {rest = rest} begins parent outer) =
      let same : root ≡ h = root_begins h inner.0.1 in
      subst (λ (z : ℕ). Passage [] root (z ∷ rest)) same
      (subst (λ (zs : List ℕ). Passage [] root (root ∷ zs)) (sym (none_outer h p rest same parent outer))
      (regions.Passage.enters ([], refl) (outside_none root)))

  pub root_passes : (home : List ℕ) → IsAround g root root home → Passage [] root home
  root_passes home is = root_passes_to is.inner home is.innermost is.loops

  -- ---- ends

  module _ (x : ℕ) (last : (y : ℕ) → HasEdge g x y → ⊥) where
    no_way : (rest : List ℕ) (y z : ℕ) → Leads g x rest y → HasEdge g y z → ⊥
    no_way [] y z e edge = last z (subst (λ (v : ℕ). HasEdge g v z) (sym e) edge)
    no_way (c ∷ rest) y z l edge = last c l.0

    in_no_loop : (h : ℕ) → HasLoop g root h → IsInLoop g root h x → ⊥
    in_no_loop h begins (inl e) =
        let s = cut g root h begins.0 begins.1.1 in
        no_way s.after begins.0 h (subst (λ (v : ℕ). Leads g v s.after begins.0) (sym e) s.from) begins.1.0
    in_no_loop h begins (inr l) = no_way l.rest l.source h l.path.leads l.back.0

    ends_at : (o : Option ℕ) (home : List ℕ) → IsInnermost g root x o → AreFrom g root o home → home ≡ []
    ends_at o home inner none = refl
    ends_at o home inner (more {h = h} begins parent outer) = absurd (in_no_loop h begins inner.0.1)

    -- what leads nowhere lies in no loop
    pub end_home : (home : List ℕ) → IsAround g root x home → home ≡ []
    end_home home is = ends_at is.inner home is.innermost is.loops
