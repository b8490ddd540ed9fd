-- A heap in which no number is left out.
use Rattle.std.proofs.Common.{◌≡◌, ℕ, suc, ◌<◌, List, [], ◌∷◌, ◌++◌, length, get_or, map, Option, Some, None, is_some, IsSome, IsTrue, refl, sym, ap, ◌∙◌}
use Rattle.std.specs.Prelude.{slice_get, slice_set, option_and_then, option_map}
use Rattle.std.proofs.lemmas.Option.{slice_get-map, slice_get-get_or, slice_get_within}
use Rattle.std.proofs.lemmas.List.{map-set}
use Rattle.world.specs.declared.member.MemberId.{MemberId}
use Rattle.frames.specs.declared.value.Value.{Value}
use Rattle.frames.specs.declared.heap.Cell.{Cell}
use Rattle.frames.specs.Heap.{Cells, cell_at, free_number, with_cell, array_has, has_element, field_at, value_in, with_changed, with_element, with_field, with_item, with_member}

-- the least free number is the first one behind all
pub free_behind : (cells : List Cell) → free_number (map Some cells) ≡ length cells
free_behind [] = refl
free_behind (c ∷ cells) = ap suc (free_behind cells)

-- what is added stands behind all
pub added_behind : (cells : List Cell) (cell : Cell) → with_cell cell (map Some cells) ≡ map Some (cells ++ cell ∷ [])
added_behind [] cell = refl
added_behind (c ∷ cells) cell = ap (λ (rest : List (Option Cell)). Some c ∷ rest) (added_behind cells cell)

some_slot : (slot : Option Cell) → option_and_then (λ (s : Option Cell). s) (option_map Some slot) ≡ slot
some_slot None = refl
some_slot (Some cell) = refl

-- what has a number stands there
pub at_number : (cells : List Cell) (r : ℕ) → cell_at (map Some cells) r ≡ slice_get cells r
at_number cells r = ap (option_and_then (λ (s : Option Cell). s)) (slice_get-map Some cells r) ∙ some_slot (slice_get cells r)

-- ---- another object or array at a number

changed_at : (change : Cell → Cell) (cells : List Cell) (r : ℕ) (d : Cell) → r < length cells
    → map Some (slice_set cells r (change (get_or cells r d))) ≡ with_changed change r (map Some cells)
changed_at change cells r d within =
    let at : cell_at (map Some cells) r ≡ Some (get_or cells r d) = at_number cells r ∙ slice_get-get_or cells r d within in
    rw at (map-set Some cells r (change (get_or cells r d)))

array_there : (cells : List Cell) (r i : ℕ) (at : Option Cell) → slice_get cells r ≡ at → IsTrue (array_has i at) → r < length cells
array_there cells r i None is has = absurd (cc)
array_there cells r i (Some cell) is has = slice_get_within cells r cell is

-- an element of an array is written
pub element_written : (heap : Cells) (cells after : List Cell) (r i : ℕ) (value : Value) (d : Cell) → heap ≡ map Some cells → IsTrue (has_element r i heap)
    → after ≡ slice_set cells r (with_item i value (get_or cells r d)) → map Some after ≡ with_element r i value heap
element_written heap cells after r i value d all has is =
    let there : r < length cells = array_there cells r i (slice_get cells r) refl (sym (ap (array_has i) (ap (λ (h : Cells). cell_at h r) all ∙ at_number cells r)) ∙ has) in
    ap (map Some) is ∙ changed_at (with_item i value) cells r d there ∙ ap (with_element r i value) (sym all)

field_there : (cells : List Cell) (r : ℕ) (m : MemberId) (at : Option Cell) → slice_get cells r ≡ at → IsSome (value_in m at) → r < length cells
field_there cells r m None is has = absurd (cc)
field_there cells r m (Some cell) is has = slice_get_within cells r cell is

-- a field of an object is written
pub field_written : (heap : Cells) (cells after : List Cell) (r : ℕ) (m : MemberId) (value : Value) (d : Cell) → heap ≡ map Some cells → IsSome (field_at heap r m)
    → after ≡ slice_set cells r (with_member m value (get_or cells r d)) → map Some after ≡ with_field r m value heap
field_written heap cells after r m value d all has is =
    let there : r < length cells = field_there cells r m (slice_get cells r) refl (sym (ap (λ (at : Option Cell). is_some (value_in m at)) (ap (λ (h : Cells). cell_at h r) all ∙ at_number cells r)) ∙ has) in
    ap (map Some) is ∙ changed_at (with_member m value) cells r d there ∙ ap (with_field r m value) (sym all)

pub ruleset heap_steps = (free_behind, added_behind, at_number)
