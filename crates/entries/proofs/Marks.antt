-- The graph of a heap leads where its references lead.
use Rattle.std.proofs.Common.{◌≡◌, ◌↔◌, ◌⊎◌, inl, inr, ℕ, zero, suc, ◌≤◌, ◌<◌, ◌+◌, List, [], ◌∷◌, ◌++◌, Option, Some, None, length, take, refl, sym, ◌∙◌, arith, ap, subst, add-one}
use Rattle.std.specs.Prelude.{slice_index_or, Contains, map}
use Rattle.std.proofs.lemmas.List.Elements.{Contains-append_left, Contains-append_right, Contains-append_cases}
use Rattle.graph_core.specs.Graphs.{HasEdge}
use Rattle.frames.specs.declared.value.Value.{Value}
use Rattle.frames.specs.declared.value.Value.TheVariants.{Int, Long, Pad, Null, Ref}
use Rattle.entries.specs.inside.Survey.{AddsTo, IsGraphBelow, IsGraph, IsMark, AreMarks}
use Rattle.entries.specs.declared.survey.Mark.{Mark}
use Rattle.frames.specs.Heap.{Cells, cell_at}
use Rattle.entries.specs.Entry.{values_in}
use Rattle.class_hierarchy.specs.World.{World}
use Rattle.world.specs.declared.member.MemberId.{MemberId}
use Rattle.std.proofs.lemmas.List.{map-append}
use Rattle.std.proofs.lemmas.Bool.{cases_eq}

abbrev ref_in : Value → Option ℕ
ref_in (Int n) = None
ref_in (Long n) = None
ref_in Pad = None
ref_in Null = None
ref_in (Ref r) = Some r

-- ---- edges that are added

pub adds_nothing : (g : List (List ℕ)) (a : ℕ) → AddsTo g g a []
adds_nothing g a = record { edges = λ x y. (λ edge. inl edge, λ edge. elim edge [ inl old ↦ old | inr new ↦ absurd (omega (arith, new.1.1)) ]) }

only : (value : Value) (y : ℕ) → Contains (value ∷ []) (Ref y) → value ≡ Ref y
only value y (zero, inside, is) = is
only value y (suc k, inside, is) = absurd (omega arith)

pub adds_none : (g : List (List ℕ)) (a : ℕ) (value : Value) → ref_in value ≡ None → AddsTo g g a (value ∷ [])
adds_none g a value none = record { edges = λ x y. (λ edge. inl edge, λ edge. elim edge [ inl old ↦ old | inr new ↦ (let is : ◌≡◌ {A = Option ℕ} (Some y) None = ap ref_in (sym (only value y new.1)) ∙ none in absurd cc) ]) }

ref_same : (b y : ℕ) → Ref b ≡ Ref y → b ≡ y
ref_same b y is = (let some : Some b ≡ Some y = ap ref_in is in cc)

pub adds_past : (g : List (List ℕ)) (a b : ℕ) (value : Value) → value ≡ Ref b → length g ≤ b → AddsTo g g a (value ∷ [])
adds_past g a b value is past = record { edges = λ x y. (λ edge. inl edge, λ edge. elim edge [ inl old ↦ old | inr new ↦ (let same : b ≡ y = ref_same b y (sym is ∙ only value y new.1) in absurd (omega (arith, new.2))) ]) }

pub adds_one : (old new : List (List ℕ)) (a b : ℕ) (value : Value) → value ≡ Ref b → b < length old → ((x y : ℕ) → HasEdge new x y ↔ (HasEdge old x y ⊎ ((x ≡ a) × (y ≡ b)))) → AddsTo old new a (value ∷ [])
adds_one old new a b value is inside added = record {
  edges = λ x y. (
    λ edge. elim ((added x y).0 edge) [ inl before ↦ inl before | inr now ↦ inr (now.0, (0, omega arith, is ∙ ap Ref (sym now.1)), rw now.1 inside) ],
    λ edge. (added x y).1 (elim edge [ inl before ↦ inl before | inr now ↦ inr (now.0, sym (ref_same b y (sym is ∙ only value y now.1))) ]),
  );
}

-- values after values
adds_both : (old mid new : List (List ℕ)) (a : ℕ) (xs ys : List Value) → length mid ≡ length old → AddsTo old mid a xs → AddsTo mid new a ys → AddsTo old new a (xs ++ ys)
adds_both old mid new a xs ys same first second = record {
  edges = λ x y. (
    λ edge. elim ((second.edges x y).0 edge) [
      | inl before ↦ elim ((first.edges x y).0 before) [ inl old ↦ inl old | inr now ↦ inr (now.0, Contains-append_left xs ys (Ref y) now.1, now.2) ]
      | inr now ↦ inr (now.0, Contains-append_right xs ys (Ref y) now.1, omega (arith, now.2))
    ],
    λ edge. (second.edges x y).1 (elim edge [
      | inl before ↦ inl ((first.edges x y).1 (inl before))
      | inr now ↦ elim (Contains-append_cases xs ys (Ref y) now.1) [
        | inl here ↦ inl ((first.edges x y).1 (inr (now.0, here, now.2)))
        | inr there ↦ inr (now.0, there, omega (arith, now.2))
      ]
    ]),
  );
}

take_next : {A : Type 0} (xs : List A) (i : ℕ) (d : A) → i < length xs → take (suc i) xs ≡ take i xs ++ slice_index_or xs i d ∷ []
take_next [] i d inside = absurd (omega arith)
take_next (x ∷ xs) zero d inside = refl
take_next {A = A} (x ∷ xs) (suc i) d inside = ap (λ (rest : List A). x ∷ rest) (take_next xs i d (omega arith))

-- one value more
pub adds_next : (old mid new : List (List ℕ)) (a i : ℕ) (d : Value) (items : List Value) → i < length items → length mid ≡ length old → AddsTo old mid a (take i items) → AddsTo mid new a (slice_index_or items i d ∷ []) → AddsTo old new a (take (i + 1) items)
adds_next old mid new a i d items inside same first second =
    rw (add-one, take_next items i d inside) (adds_both old mid new a (take i items) (slice_index_or items i d ∷ []) same first second)

pub adds_next_field : (old mid new : List (List ℕ)) (a i : ℕ) (d : MemberId × Value) (fields : List (MemberId × Value)) → i < length fields → length mid ≡ length old → AddsTo old mid a (map (λ f. f.1) (take i fields)) → AddsTo mid new a ((slice_index_or fields i d).1 ∷ []) → AddsTo old new a (map (λ f. f.1) (take (i + 1) fields))
adds_next_field old mid new a i d fields inside same first second =
    rw (add-one, take_next fields i d inside, map-append)
    (adds_both old mid new a (map (λ f. f.1) (take i fields)) ((slice_index_or fields i d).1 ∷ []) same first second)

-- ---- the graph of the heap

pub below_next : (heap : Cells) (g new : List (List ℕ)) (n : ℕ) → length g ≡ length heap → IsGraphBelow heap g n → AddsTo g new n (values_in (cell_at heap n)) → IsGraphBelow heap new (n + 1)
below_next heap g new n same below added = record {
  edges = λ x y. (
    λ edge. elim ((added.edges x y).0 edge) [
      | inl old ↦ (let was = (below.edges x y).0 old in (omega (arith, was.0), was.1, was.2))
      | inr now ↦ (omega (arith, now.0), subst (λ (k : ℕ). Contains (values_in (cell_at heap k)) (Ref y)) (sym now.0) now.1, omega (arith, now.2))
    ],
    λ is. (added.edges x y).1 (elim (cases_eq x n) [
      | inl here ↦ inr (here, subst (λ (k : ℕ). Contains (values_in (cell_at heap k)) (Ref y)) here is.1, omega (arith, is.2))
      | inr other ↦ inl ((below.edges x y).1 (omega (arith, is.0), is.1, is.2))
    ]),
  );
}

pub below_all : (heap : Cells) (g : List (List ℕ)) (n : ℕ) → length g ≡ length heap → n ≡ length heap → IsGraphBelow heap g n → IsGraph heap g
below_all heap g n same all below = record { nodes = same; edges = subst (λ (k : ℕ). IsGraphBelow heap g k) all below }

indexed_push : {X : Type 0} (P : ℕ → X → Type 0) (xs : List X) (x : X) → ((k : ℕ) (d : X) → k < length xs → P k (slice_index_or xs k d)) → P (length xs) x → (k : ℕ) (d : X) → k < length (xs ++ x ∷ []) → P k (slice_index_or (xs ++ x ∷ []) k d)
indexed_push P [] x all last zero d inside = last
indexed_push P [] x all last (suc k) d inside = absurd (omega arith)
indexed_push P (y ∷ xs) x all last zero d inside = all 0 d (omega arith)
indexed_push P (y ∷ xs) x all last (suc k) d inside = indexed_push (λ k. P (suc k)) xs x (λ k d inside. all (suc k) d (omega arith)) last k d (omega arith)

pub marks_next : (w : World) (heap : Cells) (g : List (List ℕ)) (b : ℕ) (marks : List Mark) (mark : Mark) → length marks ≡ b → AreMarks w heap g marks → IsMark w heap g b mark → AreMarks w heap g (marks ++ mark ∷ [])
marks_next w heap g b marks mark count all last = indexed_push (IsMark w heap g) marks mark all (subst (λ (k : ℕ). IsMark w heap g k mark) (sym count) last)
