-- What a later heap holds that an earlier one doesn't are objects of classes of which there can be objects.
use Rattle.std.proofs.Common.{◌≡◌, ◌⊎◌, inl, inr, ℕ, zero, suc, List, [], ◌∷◌, Option, Some, None, refl, sym, ◌∙◌, subst}
use Rattle.std.proofs.lemmas.List.Elements.{All-weaker}
use Rattle.world.specs.declared.member.MemberId.{MemberId}
use Rattle.class_hierarchy.specs.World.{World}
use Rattle.frames.specs.declared.value.Value.{Value}
use Rattle.frames.specs.declared.value.Value.TheVariants.{Int, Long, Pad, Null, Ref}
use Rattle.frames.specs.declared.heap.Cell.{Cell}
use Rattle.frames.specs.declared.heap.Cell.TheVariants.{Object}
use Rattle.frames.specs.Heap.{Cells, cell_at, free_number, with_cell}
use Rattle.call_costs.proofs.Words.{IsMade, IsKnown, AreKnown}

abbrev pub Grows : World → Cells → Cells → Type 0
Grows w before now =
    (r c : ℕ) (fields : List (MemberId × Value)) → cell_at now r ≡ Some (Object c fields)
    → (cell_at before r ≡ Some (Object c fields)) ⊎ IsMade w c

pub grows_self : (w : World) (heap : Cells) → Grows w heap heap
grows_self w heap = λ r c fields at. inl at

pub grows_on : (w : World) (a b d : Cells) → Grows w a b → Grows w b d → Grows w a d
grows_on w a b d first later = λ r c fields at. elim (later r c fields at) [ inl before ↦ first r c fields before | inr made ↦ inr made ]

value_later : (w : World) (before now : Cells) (value : Value) → Grows w before now → IsKnown w before value → IsKnown w now value
value_later w before now (Int n) grows known = tt
value_later w before now (Long n) grows known = tt
value_later w before now Pad grows known = tt
value_later w before now Null grows known = tt
value_later w before now (Ref r) grows known = λ c fields at. elim (grows r c fields at) [ inl old ↦ known c fields old | inr made ↦ made ]

pub known_later : (w : World) (before now : Cells) (words : List Value) → Grows w before now → AreKnown w before words → AreKnown w now words
known_later w before now words grows known = All-weaker (IsKnown w before) (IsKnown w now) (λ value k. value_later w before now value grows k) words known

-- ---- a new object

new_at : (heap : Cells) (cell : Cell) → cell_at (with_cell cell heap) (free_number heap) ≡ Some cell
new_at [] cell = refl
new_at (None ∷ heap) cell = refl
new_at (Some other ∷ heap) cell = new_at heap cell

new_or_old : (heap : Cells) (cell : Cell) (r : ℕ) → (cell_at (with_cell cell heap) r ≡ Some cell) ⊎ (cell_at (with_cell cell heap) r ≡ cell_at heap r)
new_or_old [] cell zero = inl refl
new_or_old [] cell (suc r) = inr refl
new_or_old (None ∷ heap) cell zero = inl refl
new_or_old (None ∷ heap) cell (suc r) = inr refl
new_or_old (Some other ∷ heap) cell zero = inr refl
new_or_old (Some other ∷ heap) cell (suc r) = new_or_old heap cell r

same_class : (w : World) (c d : ℕ) (fields others : List (MemberId × Value)) (o : Option Cell) → o ≡ Some (Object c fields) → o ≡ Some (Object d others) → IsMade w c → IsMade w d
same_class w c d fields others o one other made =
    let same : c ≡ d = cc in
    subst (λ k. IsMade w k) same made

pub grows_new : (w : World) (heap : Cells) (c : ℕ) (fields : List (MemberId × Value)) → IsMade w c → Grows w heap (with_cell (Object c fields) heap)
grows_new w heap c fields made = λ r d others at. elim (new_or_old heap (Object c fields) r) [
  | inl new ↦ inr (same_class w c d fields others (cell_at (with_cell (Object c fields) heap) r) new at made)
  | inr old ↦ inl (sym old ∙ at)
]

pub new_known : (w : World) (heap : Cells) (c : ℕ) (fields : List (MemberId × Value)) → IsMade w c → IsKnown w (with_cell (Object c fields) heap) (Ref (free_number heap))
new_known w heap c fields made = λ d others at.
    same_class w c d fields others (cell_at (with_cell (Object c fields) heap) (free_number heap)) (new_at heap (Object c fields)) at made
