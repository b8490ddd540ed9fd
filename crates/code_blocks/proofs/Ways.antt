-- Edges that are added, and what they lead to.
use Rattle.std.proofs.Common.{◌≡◌, ◌⊎◌, ◌↔◌, inl, inr, ℕ, ◌+◌, ◌<◌, ◌≤◌, List, [], ◌∷◌, ◌++◌, length, take, get_or, refl, sym, ap, subst, ◌∙◌}
use Rattle.std.specs.Prelude.{Contains, replicate}
use Rattle.std.proofs.lemmas.List.{take_all}
use Rattle.std.proofs.lemmas.List.Elements.{Contains-append_left, Contains-append_right, Contains-append_cases}
use Rattle.common_laws.proofs.Parts.{take_next}
use Rattle.common_laws.proofs.Members.{contains_head, contains_cases, contains_none}
use Rattle.graph_core.specs.Graphs.{HasEdge}
use Rattle.graph_core.specs.Paths.{Leads, Reaches}
use Rattle.graph_core.proofs.Reach.{Reaches-itself, Reaches-before, Reaches-through}
use Rattle.graph_core.proofs.Rows.{no_edges}
use Rattle.code_blocks.specs.declared.instruction.Instruction.{Instruction}
use Rattle.code_blocks.specs.Blocks.{IsReached}
use Rattle.code_blocks.specs.Blocks.IsReached.{at_start, onward}
use Rattle.code_blocks.specs.inside.Cutting.{HasWay}

-- ---- a list up to one more

module _ {A : Type 0} where
  pub in_more : (xs : List A) (k : ℕ) (x d u : A) → k < length xs → x ≡ get_or xs k d → (Contains (take k xs) u ⊎ (x ≡ u)) → Contains (take (k + 1) xs) u
  in_more xs k x d u lt e h =
      subst (λ l. Contains l u) (sym (take_next xs k x d lt e))
      (elim h [ inl before ↦ Contains-append_left (take k xs) (x ∷ []) u before | inr same ↦ subst (λ v. Contains (take k xs ++ x ∷ []) v) same (Contains-append_right (take k xs) (x ∷ []) x (contains_head x [])) ])

  pub from_more : (xs : List A) (k : ℕ) (x d u : A) → k < length xs → x ≡ get_or xs k d → Contains (take (k + 1) xs) u → Contains (take k xs) u ⊎ (x ≡ u)
  from_more xs k x d u lt e h =
      elim (Contains-append_cases (take k xs) (x ∷ []) u (subst (λ l. Contains l u) (take_next xs k x d lt e) h)) [
        | inl before ↦ inl before
        | inr last ↦ elim (contains_cases x [] u last) [ inl same ↦ inr same | inr none ↦ absurd (contains_none u none) ]
      ]

-- ---- the edges of an instruction

abbrev pub Added : ℕ → List ℕ → List (List ℕ) → List (List ℕ) → Type 0
Added pc ys old new = (x y : ℕ) → HasEdge new x y ↔ (HasEdge old x y ⊎ ((x ≡ pc) × Contains ys y))

pub added_none : (pc : ℕ) (g : List (List ℕ)) → Added pc [] g g
added_none pc g = λ x y. (λ h. inl h, λ h. elim h [ inl old ↦ old | inr p ↦ absurd (contains_none y p.1) ])

pub added_next : (pc : ℕ) (ys : List ℕ) (k s d : ℕ) (a b c : List (List ℕ)) → k < length ys → s ≡ get_or ys k d → Added pc (take k ys) a b
    → ((x y : ℕ) → HasEdge c x y ↔ (HasEdge b x y ⊎ ((x ≡ pc) × (y ≡ s)))) → Added pc (take (k + 1) ys) a c
added_next pc ys k s d a b c lt e h one = λ x y. (
  λ t. elim ((one x y).0 t) [
    | inl before ↦ elim ((h x y).0 before) [ inl old ↦ inl old | inr p ↦ inr (p.0, in_more ys k s d y lt e (inl p.1)) ]
    | inr p ↦ inr (p.0, in_more ys k s d y lt e (inr (sym p.1)))
  ],
  λ t. elim t [
    | inl old ↦ (one x y).1 (inl ((h x y).1 (inl old)))
    | inr p ↦ elim (from_more ys k s d y lt e p.1) [
      | inl before ↦ (one x y).1 (inl ((h x y).1 (inr (p.0, before))))
      | inr same ↦ (one x y).1 (inr (p.0, sym same))
    ]
  ],
)

pub added_all : (pc : ℕ) (ys : List ℕ) (k : ℕ) (a b : List (List ℕ)) → length ys ≤ k → Added pc (take k ys) a b → Added pc ys a b
added_all pc ys k a b le h = subst (λ l. Added pc l a b) (take_all k ys le) h

-- ---- the edges of all instructions

abbrev pub AreWays : List Instruction → List (List ℕ) → Type 0
AreWays is g = (x y : ℕ) → HasEdge g x y ↔ HasWay is x y

pub ways_next : (is : List Instruction) (k : ℕ) (i d : Instruction) (a b : List (List ℕ)) → k < length is → i ≡ get_or is k d → AreWays (take k is) a
    → Added i.pc i.successors a b → AreWays (take (k + 1) is) b
ways_next is k i d a b lt e h added = λ x y. (
  λ t. elim ((added x y).0 t) [
    | inl before ↦ let w = (h x y).0 before in (w.0, in_more is k i d w.0 lt e (inl w.1), w.2, w.3)
    | inr p ↦ (i, in_more is k i d i lt e (inr refl), sym p.0, p.1)
  ],
  λ w. elim (from_more is k i d w.0 lt e w.1) [
    | inl before ↦ (added x y).1 (inl ((h x y).1 (w.0, before, w.2, w.3)))
    | inr same ↦ (added x y).1 (inr (sym (ap (λ (j : Instruction). j.pc) same ∙ w.2), subst (λ (j : Instruction). Contains j.successors y) (sym same) w.3))
  ],
)

pub ways_all : (is : List Instruction) (k : ℕ) (g : List (List ℕ)) → length is ≤ k → AreWays (take k is) g → AreWays is g
ways_all is k g le h = subst (λ l. AreWays l g) (take_all k is le) h

pub ways_none : (n : ℕ) (g : List (List ℕ)) → g ≡ replicate n [] → AreWays [] g
ways_none n g e = λ x y. (
  λ h. absurd (no_edges n g e x y h),
  λ w. absurd (contains_none w.0 w.1),
)

-- ---- what they lead to

reached_along : (is : List Instruction) (g : List (List ℕ)) → AreWays is g → (rest : List ℕ) (a b : ℕ) → IsReached is a → Leads g a rest b → IsReached is b
reached_along is g ways [] a b h e = subst (λ (x : ℕ). IsReached is x) e h
reached_along is g ways (x ∷ rest) a b h l =
    let w = (ways a x).0 l.0 in
    reached_along is g ways rest x b (onward w.0 w.1 (subst (λ (p : ℕ). IsReached is p) (sym w.2) h) w.3) l.1

reaches_all : (is : List Instruction) (g : List (List ℕ)) → AreWays is g → (x : ℕ) → IsReached is x → Reaches g 0 x
reaches_all is g ways x at_start = Reaches-itself g 0
reaches_all is g ways x (onward i there before leads) =
    Reaches-through g 0 i.pc x (reaches_all is g ways i.pc before) (Reaches-before g i.pc x x ((ways i.pc x).1 (i, there, refl, leads)) (Reaches-itself g x))

pub reached_is : (is : List Instruction) (g : List (List ℕ)) → AreWays is g → (x : ℕ) → Reaches g 0 x ↔ IsReached is x
reached_is is g ways x = (λ h. reached_along is g ways h.0 0 x at_start h.1.leads, λ h. reaches_all is g ways x h)
