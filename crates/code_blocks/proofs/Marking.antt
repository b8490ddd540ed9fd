-- Marks that grow.
use Rattle.std.proofs.Common.{◌≡◌, ℕ, zero, suc, ◌+◌, ◌<◌, ◌≤◌, Bool, true, false, List, [], ◌∷◌, length, take, get_or, arith, refl, sym, ap, ◌∙◌}
use Rattle.std.specs.Prelude.{◌||◌, ◌==◌, nat_eq, slice_index_or, All, replicate}
use Rattle.std.specs.List.{list_any}
use Rattle.code_blocks.specs.declared.instruction.Placed.{Placed}
use Rattle.code_blocks.specs.declared.instruction.Instruction.{Instruction}
use Rattle.code_blocks.specs.Placing.{is_place}
use Rattle.code_blocks.specs.Blocks.{is_end, next_pc, starts, begins}

or_swap : (a b c : Bool) → (a || (b || c)) ≡ (b || (a || c))
or_swap true true c = refl
or_swap true false c = refl
or_swap false true c = refl
or_swap false false c = refl

module _ {A : Type 0} (f : A → Bool) where
  any_last : (xs : List A) (k : ℕ) (x d : A) → k < length xs → x ≡ get_or xs k d → list_any f (take (suc k) xs) ≡ (f x || list_any f (take k xs))
  any_last [] k x d lt e = absurd (omega arith)
  any_last (y ∷ ys) zero x d lt e = rw e refl
  any_last (y ∷ ys) (suc k) x d lt e = ap (λ (b : Bool). f y || b) (any_last ys k x d (omega arith) e) ∙ or_swap (f y) (f x) (list_any f (take k ys))

  -- one more of the list
  pub any_next : (xs : List A) (k : ℕ) (x d : A) → k < length xs → x ≡ get_or xs k d → list_any f (take (k + 1) xs) ≡ (f x || list_any f (take k xs))
  any_next xs k x d lt e = let n : k + 1 ≡ suc k = omega arith in ap (λ (m : ℕ). list_any f (take m xs)) n ∙ any_last xs k x d lt e

  none_of : (xs : List A) → ((k : ℕ) (d : A) → k < length xs → f (get_or xs k d) ≡ false) → list_any f xs ≡ false
  none_of [] h = refl
  none_of (x ∷ xs) h = rw (h 0 x (omega arith)) (none_of xs (λ k d lt. h (suc k) d (omega arith)))

-- what no instruction stands behind
pub no_place_past : (size x : ℕ) (ps : List Placed) → All (λ (p : Placed). p.pc < size) ps → size ≤ x → is_place ps x ≡ false
no_place_past size x ps inside le = none_of (λ (p : Placed). x == p.pc) ps (λ k d lt. let h = inside k d lt in search arith)

or_join : (a b c : Bool) → (a || (b || c)) ≡ ((b || a) || c)
or_join true true c = refl
or_join true false c = refl
or_join false true c = refl
or_join false false c = refl

-- what an instruction that ends a block starts
pub started : (y : ℕ) (i : Instruction) (old one new : Bool) → is_end i ≡ true → one ≡ ((y == next_pc i) || old) → new ≡ (list_any (nat_eq y) i.successors || one) → new ≡ (starts y i || old)
started y i old one new ends f g =
    let joined : starts y i ≡ ((y == next_pc i) || list_any (nat_eq y) i.successors) = rw ends refl in
    g ∙ ap (λ (b : Bool). list_any (nat_eq y) i.successors || b) f
    ∙ or_join (list_any (nat_eq y) i.successors) (y == next_pc i) old
    ∙ ap (λ (b : Bool). b || old) (sym joined)

-- and one that ends none
pub not_started : (y : ℕ) (i : Instruction) (old : Bool) → is_end i ≡ false → old ≡ (starts y i || old)
not_started y i old ends = rw ends refl

-- one instruction more
pub begins_next : (is : List Instruction) (k : ℕ) (i d : Instruction) (y : ℕ) (old new : Bool) → k < length is → i ≡ get_or is k d
    → old ≡ begins (take k is) y → new ≡ (starts y i || old) → new ≡ begins (take (k + 1) is) y
unfolding begins
begins_next is k i d y old new lt e before more =
    more ∙ ap (λ (b : Bool). starts y i || b) before
    ∙ or_swap (starts y i) (y == 0) (list_any (starts y) (take k is))
    ∙ ap (λ (b : Bool). (y == 0) || b) (sym (any_next (starts y) is k i d lt e))

pub begins_first : (y : ℕ) (old new : Bool) → old ≡ false → new ≡ ((y == 0) || old) → new ≡ begins [] y
unfolding begins
begins_first y old new none is = is ∙ ap (λ (b : Bool). (y == 0) || b) none

-- ---- past the marks

pub unmarked_past : (marks : List Bool) (x : ℕ) → length marks ≤ x → slice_index_or marks x false ≡ false
unmarked_past [] x le = refl
unmarked_past (b ∷ marks) zero le = absurd (omega arith)
unmarked_past (b ∷ marks) (suc x) le = unmarked_past marks x (omega arith)

in_none : (n x : ℕ) → slice_index_or (replicate n false) x false ≡ false
in_none zero x = refl
in_none (suc n) zero = refl
in_none (suc n) (suc x) = in_none n x

pub none_marked : (n x : ℕ) (marks : List Bool) → marks ≡ replicate n false → slice_index_or marks x false ≡ false
none_marked n x marks e = ap (λ (l : List Bool). slice_index_or l x false) e ∙ in_none n x
