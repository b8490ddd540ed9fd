-- The object on which a call runs is of a class of which there can be objects.
use Rattle.std.proofs.Common.{◌≡◌, ℕ, List, ◌∷◌, Option, Some, sym, subst, All}
use Rattle.std.proofs.lemmas.List.Elements.{All-head}
use Rattle.world.specs.declared.member.MemberId.{MemberId}
use Rattle.class_hierarchy.specs.World.{World}
use Rattle.frames.specs.declared.value.Value.{Value}
use Rattle.frames.specs.declared.value.Value.TheVariants.{Ref}
use Rattle.frames.specs.declared.heap.Cell.{Cell}
use Rattle.frames.specs.declared.heap.Cell.TheVariants.{Object}
use Rattle.frames.specs.Heap.{Cells, cell_at}
use Rattle.steps.proofs.Dispatching.{IsMade, ReceiverIsMade}
use Rattle.entries.specs.Entry.{IsHeld}
use Rattle.well_formed.specs.WellFormed.{IsWord}
use Rattle.well_formed.proofs.Held.{held_here}

made_in : (w : World) (heap : Cells) (cell : Option Cell) (c : ℕ) (fields : List (MemberId × Value)) → cell ≡ Some (Object c fields) → IsHeld w heap cell → IsMade w c
made_in w heap cell c fields at held =
    let is = subst (λ (o : Option Cell). IsHeld w heap o) at held in
    (is.known, is.instantiable)

pub receiver_made : (w : World) (heap : Cells) (words : List Value) → All (IsWord w heap) words → ReceiverIsMade w heap words
receiver_made w heap words all r c fields others is at =
    let first : All (IsWord w heap) (Ref r ∷ others) = subst (λ (xs : List Value). All (IsWord w heap) xs) is all in
    made_in w heap (cell_at heap r) c fields at (held_here w heap r (All-head (IsWord w heap) (Ref r) others first))
