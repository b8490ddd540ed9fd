-- What lies on top of an operand stack.
use Rattle.std.proofs.Common.{◌≡◌, ℕ, zero, suc, ◌+◌, ℤ, List, [], ◌∷◌, drop, Option, Some, None, refl, ap, arith, drop-drop, length-drop}
use Rattle.std.specs.Prelude.{slice_get}
use Rattle.std.proofs.lemmas.Option.{slice_get_within}
use Rattle.op_table.specs.declared.acts.Width.{Width}
use Rattle.op_table.specs.declared.acts.Width.TheVariants as widths
use Rattle.op_table.specs.declared.acts.Kind.TheVariants as kinds
use Rattle.frames.specs.declared.value.Value.{Value}
use Rattle.frames.specs.declared.value.Value.TheVariants.{Int, Long, Pad, Null, Ref}
use Rattle.frames.specs.Words.{popped_number, popped_two, held, loaded}
use Rattle.frames.specs.Tops.{HasOne, HasTwo, HasInt, both, int_on, long_on}

pub one_int : (stack : List Value) → HasOne (int_on (slice_get stack 0)) 1 stack (popped_number widths.Int stack)
one_int [] = refl
one_int (Int z ∷ stack) = (refl, omega arith)
one_int (Long z ∷ stack) = refl
one_int (Pad ∷ stack) = refl
one_int (Null ∷ stack) = refl
one_int (Ref r ∷ stack) = refl

pub one_long : (stack : List Value) → HasOne (long_on (slice_get stack 0) (slice_get stack 1)) 2 stack (popped_number widths.Long stack)
one_long [] = refl
one_long (Int z ∷ stack) = refl
one_long (Long z ∷ stack) = refl
one_long (Pad ∷ []) = refl
one_long (Pad ∷ Int z ∷ stack) = refl
one_long (Pad ∷ Long z ∷ stack) = (refl, omega arith)
one_long (Pad ∷ Pad ∷ stack) = refl
one_long (Pad ∷ Null ∷ stack) = refl
one_long (Pad ∷ Ref r ∷ stack) = refl
one_long (Null ∷ stack) = refl
one_long (Ref r ∷ stack) = refl

two_from : (first second : Width) (n m : ℕ) (stack : List Value) (y x : Option ℤ)
    → HasOne y n stack (popped_number second stack) → HasOne x m (drop n stack) (popped_number first (drop n stack))
    → HasTwo (both y x) (n + m) stack (popped_two first second stack)
two_from first second n m stack None x top below = rw top refl
two_from first second n m stack (Some y) None top below = rw (top.0, below) refl
two_from first second n m stack (Some y) (Some x) top below =
    (rw (top.0, below.0, drop-drop m n stack) refl, omega (arith, top.1, below.1, length-drop n stack))

pub get_behind : (n : ℕ) (stack : List Value) (i k : ℕ) → k ≡ n + i → slice_get (drop n stack) i ≡ slice_get stack k
get_behind zero stack i k is = ap (λ (m : ℕ). slice_get stack m) (let e : i ≡ k = omega arith in e)
get_behind (suc n) [] i k is = refl
get_behind (suc n) (v ∷ stack) i zero is = absurd (omega arith)
get_behind (suc n) (v ∷ stack) i (suc k) is = get_behind n stack i k (omega arith)

pub two_longs : (stack : List Value)
    → HasTwo (both (long_on (slice_get stack 0) (slice_get stack 1)) (long_on (slice_get stack 2) (slice_get stack 3))) 4 stack (popped_two widths.Long widths.Long stack)
two_longs stack =
    let top : slice_get (drop 2 stack) 0 ≡ slice_get stack 2 = get_behind 2 stack 0 2 (omega arith) in
    let below : slice_get (drop 2 stack) 1 ≡ slice_get stack 3 = get_behind 2 stack 1 3 (omega arith) in
    two_from widths.Long widths.Long 2 2 stack (long_on (slice_get stack 0) (slice_get stack 1)) (long_on (slice_get stack 2) (slice_get stack 3)) (one_long stack)
    (rw (← top, ← below) (one_long (drop 2 stack)))

-- ---- locals

loaded_at : (locals : List Value) (local : ℕ) (word next : Option Value) → slice_get locals local ≡ word → HasInt (int_on word) local locals (held kinds.Int word next)
loaded_at locals local None next at = refl
loaded_at locals local (Some (Int z)) next at = (refl, slice_get_within locals local (Int z) at)
loaded_at locals local (Some (Long z)) next at = refl
loaded_at locals local (Some Pad) next at = refl
loaded_at locals local (Some Null) next at = refl
loaded_at locals local (Some (Ref r)) next at = refl

pub loaded_int : (locals : List Value) (local : ℕ) → HasInt (int_on (slice_get locals local)) local locals (loaded kinds.Int locals local)
loaded_int locals local = loaded_at locals local (slice_get locals local) (slice_get locals (local + 1)) refl
