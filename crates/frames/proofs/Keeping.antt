-- What has a number keeps it.
use Rattle.std.proofs.Common.{◌≡◌, ℕ, zero, suc, Bool, true, false, List, [], ◌∷◌, map, Option, Some, None, refl, sym, ap, subst, length-set}
use Rattle.std.specs.Prelude.{slice_set, if◌then◌else◌}
use Rattle.std.specs.Option.{option_map_or}
use Rattle.class_hierarchy.specs.World.{World}
use Rattle.world.specs.declared.member.MemberId.{MemberId}
use Rattle.frames.specs.declared.value.Value.{Value}
use Rattle.frames.specs.declared.value.Value.TheVariants.{Int, Long, Pad, Null, Ref}
use Rattle.frames.specs.declared.heap.Cell.{Cell}
use Rattle.frames.specs.declared.heap.Cell.TheVariants.{Object, Array}
use Rattle.frames.specs.Slots.{is_member, with_value}
use Rattle.frames.specs.Heap.{Cells, cell_at, is_instance, is_of_type, with_cell, with_changed, with_item, with_member, with_element, with_field}
use Rattle.frames.specs.Kept.{IsKept, KeepsHeap}
use Rattle.frames.specs.Kept as kept
use Rattle.frames.proofs.Placing.{same_member}

kept_itself : (cell : Option Cell) → IsKept cell cell
kept_itself None = kept.nothing
kept_itself (Some (Object class fields)) = kept.object refl
kept_itself (Some (Array type items)) = kept.array refl

pub cell_keeps : (cell : Cell) (heap : Cells) → KeepsHeap heap (with_cell cell heap)
cell_keeps cell [] r = kept.nothing
cell_keeps cell (None ∷ heap) zero = kept.nothing
cell_keeps cell (None ∷ heap) (suc r) = kept_itself (cell_at heap r)
cell_keeps cell (Some other ∷ heap) zero = kept_itself (Some other)
cell_keeps cell (Some other ∷ heap) (suc r) = cell_keeps cell heap r

-- ---- another object or array at a number

set_keeps : (heap : Cells) (r : ℕ) (cell new : Cell) → cell_at heap r ≡ Some cell → IsKept (Some cell) (Some new) → KeepsHeap heap (slice_set heap r (Some new))
set_keeps [] r cell new at is q = kept.nothing
set_keeps (slot ∷ heap) zero cell new at is zero = subst (λ (o : Option Cell). IsKept o (Some new)) (sym at) is
set_keeps (slot ∷ heap) zero cell new at is (suc q) = kept_itself (cell_at heap q)
set_keeps (slot ∷ heap) (suc r) cell new at is zero = kept_itself slot
set_keeps (slot ∷ heap) (suc r) cell new at is (suc q) = set_keeps heap r cell new at is q

changed_by : (change : Cell → Cell) (r : ℕ) (heap : Cells) (at : Option Cell) → ((cell : Cell) → IsKept (Some cell) (Some (change cell))) → cell_at heap r ≡ at
    → KeepsHeap heap (option_map_or (λ (cell : Cell). slice_set heap r (Some (change cell))) at heap)
changed_by change r heap None keeps is q = kept_itself (cell_at heap q)
changed_by change r heap (Some cell) keeps is q = set_keeps heap r cell (change cell) is (keeps cell) q

changed_keeps : (change : Cell → Cell) (r : ℕ) (heap : Cells) → ((cell : Cell) → IsKept (Some cell) (Some (change cell))) → KeepsHeap heap (with_changed change r heap)
changed_keeps change r heap keeps = changed_by change r heap (cell_at heap r) keeps refl

-- ---- elements and fields

item_keeps : (i : ℕ) (value : Value) (cell : Cell) → IsKept (Some cell) (Some (with_item i value cell))
item_keeps i value (Object class fields) = kept.object refl
item_keeps i value (Array type items) = kept.array (length-set items i value)

pub element_keeps : (r i : ℕ) (value : Value) (heap : Cells) → KeepsHeap heap (with_element r i value heap)
element_keeps r i value heap = changed_keeps (with_item i value) r heap (item_keeps i value)

first_same : (m : MemberId) (value : Value) (f : MemberId × Value) (fs : List (MemberId × Value)) (first : Bool) → is_member m f.0 ≡ first
    → map (λ (g : MemberId × Value). g.0) (with_value m value fs) ≡ map (λ (g : MemberId × Value). g.0) fs
    → map (λ (g : MemberId × Value). g.0) (if first then (m, value) ∷ fs else f ∷ with_value m value fs) ≡ f.0 ∷ map (λ (g : MemberId × Value). g.0) fs
first_same m value f fs true is rest = ap (λ (n : MemberId). n ∷ map (λ (g : MemberId × Value). g.0) fs) (same_member m f.0 is)
first_same m value f fs false is rest = ap (λ (ns : List MemberId). f.0 ∷ ns) rest

members_same : (m : MemberId) (value : Value) (fields : List (MemberId × Value)) → map (λ (g : MemberId × Value). g.0) (with_value m value fields) ≡ map (λ (g : MemberId × Value). g.0) fields
members_same m value [] = refl
members_same m value (f ∷ fs) = first_same m value f fs (is_member m f.0) refl (members_same m value fs)

member_keeps : (m : MemberId) (value : Value) (cell : Cell) → IsKept (Some cell) (Some (with_member m value cell))
member_keeps m value (Object class fields) = kept.object (members_same m value fields)
member_keeps m value (Array type items) = kept.array refl

pub field_keeps : (r : ℕ) (m : MemberId) (value : Value) (heap : Cells) → KeepsHeap heap (with_field r m value heap)
field_keeps r m value heap = changed_keeps (with_member m value) r heap (member_keeps m value)

-- a heap keeps itself
pub heap_itself : (heap : Cells) → KeepsHeap heap heap
heap_itself heap r = kept_itself (cell_at heap r)

-- ---- types

instance_kept : (w : World) (type : List ℕ) (before now : Option Cell) → IsKept before now → is_instance w type before ≡ true → is_instance w type now ≡ true
instance_kept w type before now kept.nothing is = absurd (cc)
instance_kept w type before now (kept.object same) is = is
instance_kept w type before now (kept.array same) is = is

-- values stay of their types
pub types_keep : (w : World) (before now : Cells) (type : List ℕ) (value : Value) → KeepsHeap before now → is_of_type w before type value ≡ true → is_of_type w now type value ≡ true
unfolding is_of_type
types_keep w before now type (Int n) keeps is = is
types_keep w before now type (Long n) keeps is = is
types_keep w before now type Pad keeps is = is
types_keep w before now type Null keeps is = is
types_keep w before now type (Ref r) keeps is = instance_kept w type (cell_at before r) (cell_at now r) (keeps r) is
