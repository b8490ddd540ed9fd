-- What a call takes from the operand stack.
use Rattle.std.proofs.Common.{◌≡◌, ℕ, Bool, true, false, List, [], ◌∷◌, Option, Some, None, refl}
use Rattle.std.specs.Prelude.{◌&&◌, if◌then◌else◌}
use Rattle.class_hierarchy.specs.World.{World}
use Rattle.frames.specs.declared.value.Value.{Value}
use Rattle.frames.specs.Words.{Popped}
use Rattle.frames.specs.Heap.{Cells, is_of_type}
use Rattle.descriptors.specs.Pieces.{types_of}
use Rattle.steps.specs.Calling.{are_arguments, begins, is_nothing, next_value}
use Rattle.steps.specs.inside.Stepping.{behind_value}

passed_none : (passes : Value → Bool) (others : List Value → Bool) (v : Value) (rest : List Value) (b : Bool)
    → None ≡ (if b then Some rest else None) → (b && others rest) ≡ false
passed_none passes others v rest true is = absurd (cc)
passed_none passes others v rest false is = refl

passed_some : (passes : Value → Bool) (others : List Value → Bool) (v : Value) (rest after : List Value) (b : Bool)
    → Some after ≡ (if b then Some rest else None) → (b && others rest) ≡ others after
passed_some passes others v rest after true is = let same : after ≡ rest = cc in rw same refl
passed_some passes others v rest after false is = absurd (cc)

begins_none : (passes : Value → Bool) (others : List Value → Bool) (p : Option Popped) → None ≡ behind_value passes p → begins passes others p ≡ false
begins_none passes others None is = refl
begins_none passes others (Some p) is = passed_none passes others p.value p.rest (passes p.value) is

begins_some : (passes : Value → Bool) (others : List Value → Bool) (p : Option Popped) (after : List Value) → Some after ≡ behind_value passes p
    → begins passes others p ≡ others after
begins_some passes others None after is = absurd (cc)
begins_some passes others (Some p) after is = passed_some passes others p.value p.rest after (passes p.value) is

-- the first value isn't of the first type
pub none_left : (w : World) (heap : Cells) (left type : List ℕ) (types : List (List ℕ)) (words : List Value) → types_of left ≡ type ∷ types
    → None ≡ behind_value (is_of_type w heap type) (next_value words) → are_arguments w heap (types_of left) words ≡ false
unfolding are_arguments
none_left w heap left type types words is first = rw is (begins_none (is_of_type w heap type) (are_arguments w heap types) (next_value words) first)

-- it is of it
pub some_left : (w : World) (heap : Cells) (left type : List ℕ) (types : List (List ℕ)) (words after : List Value) → types_of left ≡ type ∷ types
    → Some after ≡ behind_value (is_of_type w heap type) (next_value words) → are_arguments w heap (types_of left) words ≡ are_arguments w heap types after
unfolding are_arguments
some_left w heap left type types words after is first = rw is (begins_some (is_of_type w heap type) (are_arguments w heap types) (next_value words) after first)

-- there is no more type
pub no_type : (w : World) (heap : Cells) (left : List ℕ) (words : List Value) → types_of left ≡ [] → are_arguments w heap (types_of left) words ≡ is_nothing words
unfolding are_arguments
no_type w heap left words is = rw is refl
