-- What a store leaves of the locals.
use Rattle.std.proofs.Common.{◌≡◌, ℕ, zero, suc, ◌+◌, Bool, true, false, List, [], ◌∷◌, length, Option, Some, None, refl, ap, subst, ◌∙◌}
use Rattle.std.specs.Prelude.{Contains, slice_get, slice_set, nat_lt, option_and_then, if◌then◌else◌}
use Rattle.common_laws.proofs.Members.{contains_head, contains_tail}
use Rattle.op_table.specs.declared.acts.Action.TheVariants as acts
use Rattle.op_table.specs.declared.acts.Kind.{Kind}
use Rattle.op_table.specs.declared.acts.Kind.TheVariants as kinds
use Rattle.frames.specs.declared.value.Value.{Value}
use Rattle.frames.specs.declared.value.Value.TheVariants.{Int, Long, Pad, Null, Ref}
use Rattle.frames.specs.Words.{Popped, popped_value, popped, with_word, stored}
use Rattle.loop_cut.specs.Effects.{stored_by}

-- another word in one place leaves the others
pub set_other : (locals : List Value) (m n : ℕ) (word : Value) → (m ≡ n → ⊥) → slice_get (slice_set locals m word) n ≡ slice_get locals n
set_other [] m n word other = refl
set_other (x ∷ xs) zero zero word other = absurd (other refl)
set_other (x ∷ xs) zero (suc n) word other = refl
set_other (x ∷ xs) (suc m) zero word other = refl
set_other (x ∷ xs) (suc m) (suc n) word other = set_other xs m n word (λ e. other (ap suc e))

set_if : (b : Bool) (locals now : List Value) (m n : ℕ) (word : Value) → (m ≡ n → ⊥) → (if b then Some (slice_set locals m word) else None) ≡ Some now
    → slice_get now n ≡ slice_get locals n
set_if true locals now m n word other e =
    let same : now ≡ slice_set locals m word = cc in
    ap (λ (l : List Value). slice_get l n) same ∙ set_other locals m n word other
set_if false locals now m n word other e = absurd cc

word_other : (word : Value) (m : ℕ) (locals now : List Value) (n : ℕ) → (m ≡ n → ⊥) → with_word word m locals ≡ Some now → slice_get now n ≡ slice_get locals n
word_other word m locals now n other e = set_if (nat_lt m (length locals)) locals now m n word other e

pad_other : (m : ℕ) (locals now : List Value) (n : ℕ) (o : Option (List Value)) → (m ≡ n → ⊥)
    → ((l : List Value) → o ≡ Some l → slice_get l n ≡ slice_get locals n) → option_and_then (with_word Pad m) o ≡ Some now → slice_get now n ≡ slice_get locals n
pad_other m locals now n None other before e = absurd cc
pad_other m locals now n (Some l) other before e = word_other Pad m l now n other e ∙ before l refl

abbrev pub IsLong : Value → Type 0
IsLong (Int z) = ⊥
IsLong (Long z) = Unit {0}
IsLong Pad = ⊥
IsLong Null = ⊥
IsLong (Ref r) = ⊥

stored_other : (value : Value) (locals now : List Value) (m n : ℕ) → (m ≡ n → ⊥) → (IsLong value → m + 1 ≡ n → ⊥) → stored locals m value ≡ Some now
    → slice_get now n ≡ slice_get locals n
stored_other (Int z) locals now m n other next e = word_other (Int z) m locals now n other e
stored_other (Long z) locals now m n other next e =
    pad_other (m + 1) locals now n (with_word (Long z) m locals) (next tt) (λ l is. word_other (Long z) m locals l n other is) e
stored_other Pad locals now m n other next e = word_other Pad m locals now n other e
stored_other Null locals now m n other next e = word_other Null m locals now n other e
stored_other (Ref r) locals now m n other next e = word_other (Ref r) m locals now n other e

-- ---- a long alone takes two words

value_same : (value : Value) (rest : List Value) (p : Popped) → popped_value value rest ≡ Some p → p.value ≡ value
value_same value rest p e = let same : p ≡ record { value = value; rest = rest } = cc in ap (λ (x : Popped). x.value) same

not_long : (kind : Kind) (value : Value) (rest : List Value) (p : Popped) → (IsLong value → ⊥) → popped_value value rest ≡ Some p → IsLong p.value → kind ≡ kinds.Long
not_long kind value rest p short e long = absurd (short (subst IsLong (value_same value rest p e) long))

long_kind : (kind : Kind) (stack : List Value) (p : Popped) → popped kind stack ≡ Some p → IsLong p.value → kind ≡ kinds.Long
long_kind kinds.Long stack p e long = refl
long_kind kinds.Int (Int z ∷ stack) p e long = not_long kinds.Int (Int z) stack p (λ l. l) e long
long_kind kinds.Int [] p e long = absurd cc
long_kind kinds.Int (Long z ∷ stack) p e long = absurd cc
long_kind kinds.Int (Pad ∷ stack) p e long = absurd cc
long_kind kinds.Int (Null ∷ stack) p e long = absurd cc
long_kind kinds.Int (Ref r ∷ stack) p e long = absurd cc
long_kind kinds.Reference (Null ∷ stack) p e long = not_long kinds.Reference Null stack p (λ l. l) e long
long_kind kinds.Reference (Ref r ∷ stack) p e long = not_long kinds.Reference (Ref r) stack p (λ l. l) e long
long_kind kinds.Reference [] p e long = absurd cc
long_kind kinds.Reference (Int z ∷ stack) p e long = absurd cc
long_kind kinds.Reference (Long z ∷ stack) p e long = absurd cc
long_kind kinds.Reference (Pad ∷ stack) p e long = absurd cc

stores_first : (kind : Kind) (m : ℕ) → Contains (stored_by (acts.Store kind m)) m
stores_first kinds.Int m = contains_head m []
stores_first kinds.Long m = contains_head m ((m + 1) ∷ [])
stores_first kinds.Reference m = contains_head m []

stores_second : (kind : Kind) (m : ℕ) → kind ≡ kinds.Long → Contains (stored_by (acts.Store kind m)) (m + 1)
stores_second kinds.Int m e = absurd cc
stores_second kinds.Long m e = contains_tail m ((m + 1) ∷ []) (m + 1) (contains_head (m + 1) [])
stores_second kinds.Reference m e = absurd cc

-- a store leaves the locals that it doesn't store to
pub store_keeps : (kind : Kind) (stack locals now : List Value) (m n : ℕ) (p : Popped) → popped kind stack ≡ Some p → stored locals m p.value ≡ Some now
    → (Contains (stored_by (acts.Store kind m)) n → ⊥) → slice_get now n ≡ slice_get locals n
store_keeps kind stack locals now m n p top to none =
    stored_other p.value locals now m n (λ e. none (subst (λ (x : ℕ). Contains (stored_by (acts.Store kind m)) x) e (stores_first kind m)))
    (λ long e. none (subst (λ (x : ℕ). Contains (stored_by (acts.Store kind m)) x) e (stores_second kind m (long_kind kind stack p top long)))) to
