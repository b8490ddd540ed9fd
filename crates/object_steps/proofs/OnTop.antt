-- References and indices on an operand stack.
use Rattle.std.proofs.Common.{◌≡◌, ℕ, ◌+◌, ℤ, List, [], ◌∷◌, drop, Option, Some, None, refl, arith, drop-drop, length-drop}
use Rattle.std.specs.Prelude.{slice_get}
use Rattle.frames.specs.declared.value.Value.{Value}
use Rattle.frames.specs.declared.value.Value.TheVariants.{Int, Long, Pad, Null, Ref}
use Rattle.frames.proofs.OnTop.{get_behind}
use Rattle.object_steps.specs.inside.Steps.{HasPlace, HasReference, place_in, reference_in}

on_reference : (stack : List Value) → HasReference (reference_in (slice_get stack 0)) 0 stack
on_reference [] = refl
on_reference (Int z ∷ stack) = refl
on_reference (Long z ∷ stack) = refl
on_reference (Pad ∷ stack) = refl
on_reference (Null ∷ stack) = (refl, omega arith)
on_reference (Ref r ∷ stack) = (refl, omega arith)

reference_below : (found : Option Value) (n : ℕ) (stack : List Value) → HasReference found 0 (drop n stack) → HasReference found n stack
reference_below None n stack has = has
reference_below (Some value) n stack has = (rw (drop-drop 1 n stack) at has.0, omega (arith, has.1, length-drop n stack))

pub reference_at : (n : ℕ) (stack : List Value) → HasReference (reference_in (slice_get stack n)) n stack
reference_at n stack =
    let at : slice_get (drop n stack) 0 ≡ slice_get stack n = get_behind n stack 0 n (omega arith) in
    reference_below (reference_in (slice_get stack n)) n stack (rw (← at) (on_reference (drop n stack)))

on_place : (stack : List Value) → HasPlace (place_in (slice_get stack 0) (slice_get stack 1)) 0 stack
on_place [] = refl
on_place (Int z ∷ []) = refl
on_place (Int z ∷ Int y ∷ stack) = refl
on_place (Int z ∷ Long y ∷ stack) = refl
on_place (Int z ∷ Pad ∷ stack) = refl
on_place (Int z ∷ Null ∷ stack) = (refl, omega arith)
on_place (Int z ∷ Ref r ∷ stack) = (refl, omega arith)
on_place (Long z ∷ stack) = refl
on_place (Pad ∷ stack) = refl
on_place (Null ∷ stack) = refl
on_place (Ref r ∷ stack) = refl

place_below : (found : Option (Value × ℤ)) (n : ℕ) (stack : List Value) → HasPlace found 0 (drop n stack) → HasPlace found n stack
place_below None n stack has = has
place_below (Some value) n stack has = (rw (drop-drop 2 n stack) at has.0, omega (arith, has.1, length-drop n stack))

pub place_at : (n : ℕ) (stack : List Value) → HasPlace (place_in (slice_get stack n) (slice_get stack (n + 1))) n stack
place_at n stack =
    let top : slice_get (drop n stack) 0 ≡ slice_get stack n = get_behind n stack 0 n (omega arith) in
    let below : slice_get (drop n stack) 1 ≡ slice_get stack (n + 1) = get_behind n stack 1 (n + 1) (omega arith) in
    place_below (place_in (slice_get stack n) (slice_get stack (n + 1))) n stack (rw (← top, ← below) (on_place (drop n stack)))
