-- What a change does to the words of a frame.
use Rattle.std.proofs.Common.{◌≡◌, ℕ, zero, suc, ◌+◌, ◌-◌, ◌≤◌, Bool, true, false, List, [], ◌∷◌, ◌++◌, length, take, drop, Option, Some, None, refl, sym, ◌∙◌, ap, arith}
use Rattle.std.specs.Prelude.{◌&&◌, if◌then◌else◌, nat_le, nat_lt, IsSome}
use Rattle.std.proofs.lemmas.List.{length-append, length-drop}
use Rattle.std.proofs.lemmas.Bool.{and_parts}
use Rattle.op_table.specs.declared.acts.Shuffle.{Shuffle}
use Rattle.op_table.specs.declared.acts.Shuffle.TheVariants.{Pop, Pop2, Dup, DupX1, DupX2, Dup2, Dup2X1, Dup2X2, Swap}
use Rattle.frames.specs.declared.value.Value.{Value}
use Rattle.frames.specs.declared.value.Value.TheVariants.{Int, Long, Pad, Null, Ref}
use Rattle.word_steps.specs.declared.change.Change.{Change}
use Rattle.word_steps.specs.declared.change.Change.TheVariants as changes
use Rattle.frames.specs.Words.{pushed, is_whole, placed, shuffled, stored, top_size, below_size, width_of}
use Rattle.word_steps.specs.Computing.{Made, Makes, Fails, shuffle, store_in}
use Rattle.word_steps.specs.inside.Change.{changed, moved_size, taken_by, given_by, word_at, IsPossible, IsHeld, IsTold, IsChanged, IsMaking, settled, went, misfits}
use Rattle.class_reader.specs.declared.class.Code.{Code}
use Rattle.frames.specs.declared.frame.Frame.{Frame}
use Rattle.frames.specs.Outcome.{with_words}

-- a group that is whole is there
whole_long : (n : ℕ) (words : List Value) → is_whole n words ≡ true → n ≤ length words
whole_long zero words whole = omega arith
whole_long (suc zero) [] whole = absurd (cc)
whole_long (suc zero) (w ∷ words) whole = omega arith
whole_long (suc (suc n)) [] whole = absurd (cc)
whole_long (suc (suc n)) (w ∷ words) whole = omega (arith, whole_long (suc n) words whole)

-- the words after a move of words that are there
abbrev pub moved_words : Shuffle → List Value → List Value
moved_words s stack = placed s (take (top_size s) stack) (take (below_size s) (drop (top_size s) stack)) ++ drop (top_size s + below_size s) stack

pub record Moves (s : Shuffle) (stack : List Value) : Type 0 where
  pub long : top_size s + below_size s ≤ length stack
  pub made : shuffled s stack ≡ Some (moved_words s stack)

never : false ≡ true → ⊥
never is = absurd (cc)

case_if : (b : Bool) (x : List Value) → IsSome (if b then Some x else None) → b ≡ true
case_if true x some = refl
case_if false x some = absurd (never some)

pub moves : (s : Shuffle) (stack : List Value) → IsSome (shuffled s stack) → Moves s stack
moves s stack some =
    let whole = case_if (is_whole (top_size s) stack && is_whole (below_size s) (drop (top_size s) stack)) (moved_words s stack) some in
    let both = and_parts (is_whole (top_size s) stack) (is_whole (below_size s) (drop (top_size s) stack)) whole in
    record {
      long = omega (arith, whole_long (top_size s) stack both.0, whole_long (below_size s) (drop (top_size s) stack) both.1, length-drop (top_size s) stack);
      made = rw whole refl;
    }

pub pushed_long : (value : Value) (stack : List Value) → length (pushed value stack) ≡ width_of value + length stack
pushed_long (Int z) stack = omega arith
pushed_long (Long z) stack = omega arith
pushed_long Pad stack = omega arith
pushed_long Null stack = omega arith
pushed_long (Ref r) stack = omega arith

-- ---- the words after a move, one by one

abbrev pub moved_list : Shuffle → Value → Value → Value → Value → List Value
moved_list Pop a b c d = []
moved_list Pop2 a b c d = []
moved_list Dup a b c d = a ∷ a ∷ []
moved_list DupX1 a b c d = a ∷ b ∷ a ∷ []
moved_list DupX2 a b c d = a ∷ b ∷ c ∷ a ∷ []
moved_list Dup2 a b c d = a ∷ b ∷ a ∷ b ∷ []
moved_list Dup2X1 a b c d = a ∷ b ∷ c ∷ a ∷ b ∷ []
moved_list Dup2X2 a b c d = a ∷ b ∷ c ∷ d ∷ a ∷ b ∷ []
moved_list Swap a b c d = b ∷ a ∷ []

abbrev pub moved_on : Shuffle → List Value → List Value
moved_on s stack = moved_list s (word_at stack 0) (word_at stack 1) (word_at stack 2) (word_at stack 3) ++ drop (top_size s + below_size s) stack

listed : (s : Shuffle) (stack : List Value) → top_size s + below_size s ≤ length stack → moved_words s stack ≡ moved_on s stack
listed Pop stack long = refl
listed Pop2 stack long = refl
listed Dup [] long = absurd (omega arith)
listed Dup (a ∷ stack) long = refl
listed DupX1 [] long = absurd (omega arith)
listed DupX1 (a ∷ []) long = absurd (omega arith)
listed DupX1 (a ∷ b ∷ stack) long = refl
listed DupX2 [] long = absurd (omega arith)
listed DupX2 (a ∷ []) long = absurd (omega arith)
listed DupX2 (a ∷ b ∷ []) long = absurd (omega arith)
listed DupX2 (a ∷ b ∷ c ∷ stack) long = refl
listed Dup2 [] long = absurd (omega arith)
listed Dup2 (a ∷ []) long = absurd (omega arith)
listed Dup2 (a ∷ b ∷ stack) long = refl
listed Dup2X1 [] long = absurd (omega arith)
listed Dup2X1 (a ∷ []) long = absurd (omega arith)
listed Dup2X1 (a ∷ b ∷ []) long = absurd (omega arith)
listed Dup2X1 (a ∷ b ∷ c ∷ stack) long = refl
listed Dup2X2 [] long = absurd (omega arith)
listed Dup2X2 (a ∷ []) long = absurd (omega arith)
listed Dup2X2 (a ∷ b ∷ []) long = absurd (omega arith)
listed Dup2X2 (a ∷ b ∷ c ∷ []) long = absurd (omega arith)
listed Dup2X2 (a ∷ b ∷ c ∷ d ∷ stack) long = refl
listed Swap [] long = absurd (omega arith)
listed Swap (a ∷ []) long = absurd (omega arith)
listed Swap (a ∷ b ∷ stack) long = refl

-- a move that can be made
pub moved : (s : Shuffle) (stack : List Value) → IsSome (shuffled s stack) → shuffled s stack ≡ Some (moved_on s stack)
moved s stack some = let m = moves s stack some in m.made ∙ ap Some (listed s stack m.long)

list_long : (s : Shuffle) (a b c d : Value) → length (moved_list s a b c d) ≡ moved_size s
list_long Pop a b c d = refl
list_long Pop2 a b c d = refl
list_long Dup a b c d = refl
list_long DupX1 a b c d = refl
list_long DupX2 a b c d = refl
list_long Dup2 a b c d = refl
list_long Dup2X1 a b c d = refl
list_long Dup2X2 a b c d = refl
list_long Swap a b c d = refl

moved_long : (s : Shuffle) (stack : List Value) → top_size s + below_size s ≤ length stack
    → length stack - (top_size s + below_size s) + moved_size s ≡ length (moved_on s stack)
moved_long s stack long =
    let words : List Value = moved_list s (word_at stack 0) (word_at stack 1) (word_at stack 2) (word_at stack 3) in
    omega (
      arith,
      length-append words (drop (top_size s + below_size s) stack),
      length-drop (top_size s + below_size s) stack,
      list_long s (word_at stack 0) (word_at stack 1) (word_at stack 2) (word_at stack 3),
    )

-- ---- the height of the stack

at_height : (limit : ℕ) {n m : ℕ} {held : Bool} → n ≡ m → held ≡ nat_le n limit → held ≡ nat_le m limit
at_height limit {n} {m} {held} same is = is ∙ ap (λ (k : ℕ). nat_le k limit) same

store_held : (rest : List Value) (locals : Option (List Value)) (limit : ℕ) (held : Bool) → held ≡ nat_le (length rest) limit → IsHeld held limit (store_in rest locals)
store_held rest None limit held is = tt
store_held rest (Some locals) limit held is = is

pub held_after : (change : Change) (locals stack : List Value) (limit : ℕ) (held : Bool) → IsPossible change locals stack
    → held ≡ nat_le (length stack - taken_by change + given_by change) limit → IsHeld held limit (changed change locals stack)
held_after changes.Keeps locals stack limit held possible is = at_height limit (omega arith) is
held_after (changes.Pushes n value wraps) locals stack limit held possible is =
    at_height limit (omega (arith, pushed_long value (drop n stack), length-drop n stack)) is
held_after (changes.Stores n local value) locals stack limit held possible is =
    store_held (drop n stack) (stored locals local value) limit held (at_height limit (omega (arith, length-drop n stack)) is)
held_after (changes.Moves s) locals stack limit held possible is =
    let long : top_size s + below_size s ≤ length stack = (moves s stack possible).long in
    rw (moved s stack possible) (at_height limit (moved_long s stack long) is)
held_after (changes.Sets local n wraps) locals stack limit held possible is = at_height limit (omega arith) is

-- what a change takes is there
pub taken_within : (change : Change) (locals stack : List Value) → IsPossible change locals stack → taken_by change ≤ length stack
taken_within changes.Keeps locals stack possible = omega arith
taken_within (changes.Pushes n value wraps) locals stack possible = possible
taken_within (changes.Stores n local value) locals stack possible = possible.0
taken_within (changes.Moves s) locals stack possible = (moves s stack possible).long
taken_within (changes.Sets local n wraps) locals stack possible = omega arith

-- ---- what is told

pub told_store : (rest : List Value) (locals : Option (List Value)) → IsTold false (store_in rest locals)
told_store rest None = tt
told_store rest (Some locals) = refl

pub told_move : (locals : List Value) (stack : Option (List Value)) → IsTold false (shuffle locals stack)
told_move locals None = tt
told_move locals (Some stack) = refl

-- ---- going on

store_makes : (rest : List Value) (locals : Option (List Value)) → IsSome locals → IsMaking (store_in rest locals)
store_makes rest None some = never some
store_makes rest (Some locals) some = tt

move_makes : (locals : List Value) (stack : Option (List Value)) → IsSome stack → IsMaking (shuffle locals stack)
move_makes locals None some = never some
move_makes locals (Some stack) some = tt

makes : (change : Change) (locals stack : List Value) → IsPossible change locals stack → IsMaking (changed change locals stack)
makes changes.Keeps locals stack possible = tt
makes (changes.Pushes n value wraps) locals stack possible = tt
makes (changes.Stores n local value) locals stack possible = store_makes (drop n stack) (stored locals local value) possible.1
makes (changes.Moves s) locals stack possible = move_makes locals (shuffled s stack) possible
makes (changes.Sets local n wraps) locals stack possible = tt

settled_made : (code : Code) (next : ℕ) (before now : Frame) (held told : Bool) (made : Made)
    → IsMaking made → IsHeld held code.max_stack made → IsTold told made → IsChanged before now made → held ≡ true → nat_lt next (length code.bytes) ≡ true
    → settled code next before made ≡ (went told, with_words now next now.locals now.stack)
settled_made code next before now held told (Fails failure) making is_held is_told is_changed holds inside = absurd making
settled_made code next before now held told (Makes wraps locals stack) making is_held is_told is_changed holds inside =
    let fits : nat_le (length stack) code.max_stack ≡ true = sym is_held ∙ holds in
    rw (fits, inside, is_told, is_changed) refl

-- where there is room the frame goes on
pub settled_by : (change : Change) (code : Code) (next : ℕ) (before now : Frame) (held told : Bool)
    → IsPossible change before.locals before.stack → IsHeld held code.max_stack (changed change before.locals before.stack)
    → IsTold told (changed change before.locals before.stack) → IsChanged before now (changed change before.locals before.stack)
    → held ≡ true → nat_lt next (length code.bytes) ≡ true
    → settled code next before (changed change before.locals before.stack) ≡ (went told, with_words now next now.locals now.stack)
settled_by change code next before now held told possible is_held is_told is_changed holds inside =
    settled_made code next before now held told (changed change before.locals before.stack) (makes change before.locals before.stack possible)
    is_held is_told is_changed holds inside

stopped_made : (code : Code) (next : ℕ) (before : Frame) (held : Bool) (made : Made)
    → IsMaking made → IsHeld held code.max_stack made → held && nat_lt next (length code.bytes) ≡ false
    → settled code next before made ≡ (misfits, before)
stopped_made code next before held (Fails failure) making is_held full = absurd making
stopped_made code next before held (Makes wraps locals stack) making is_held full = rw (← is_held, full) refl

-- and else it stands as it stood
pub stopped_by : (change : Change) (code : Code) (next : ℕ) (before : Frame) (held : Bool)
    → IsPossible change before.locals before.stack → IsHeld held code.max_stack (changed change before.locals before.stack)
    → held && nat_lt next (length code.bytes) ≡ false
    → settled code next before (changed change before.locals before.stack) ≡ (misfits, before)
stopped_by change code next before held possible is_held full =
    stopped_made code next before held (changed change before.locals before.stack) (makes change before.locals before.stack possible) is_held full
