-- Even numbers by their low halves.
use Rattle.std.specs.Prelude.{◌≡◌, ℕ, ◌/◌, ◌%◌, ℤ, pos, ◌+ℤ◌, ◌*ℤ◌, IsTrue}
use Rattle.std.proofs.Common.{arith, nat_eq}
use Rattle.std.proofs.lemmas.Bool.{eqb-true, eq-eqb}
use Rattle.std.proofs.lemmas.Int.{ints}

pub even_to : (h : ℤ) (l : ℕ) → IsTrue (nat_eq (l % 2) 0) → (x : ℤ) × (h *ℤ pos 18446744073709551616 +ℤ pos l ≡ pos 2 *ℤ x)
even_to h l even = (h *ℤ pos 9223372036854775808 +ℤ pos (l / 2), twice (eqb-true (l % 2) 0 even))
  where
    twice : l % 2 ≡ 0 → h *ℤ pos 18446744073709551616 +ℤ pos l ≡ pos 2 *ℤ (h *ℤ pos 9223372036854775808 +ℤ pos (l / 2))
    twice e = omega (arith, ints, e)

pub even_from : (h : ℤ) (l : ℕ) → ((x : ℤ) × (h *ℤ pos 18446744073709551616 +ℤ pos l ≡ pos 2 *ℤ x)) → IsTrue (nat_eq (l % 2) 0)
even_from h l e = eq-eqb (l % 2) 0 (none e.0 e.1)
  where
    none : (x : ℤ) → h *ℤ pos 18446744073709551616 +ℤ pos l ≡ pos 2 *ℤ x → l % 2 ≡ 0
    none x e = omega (arith, ints, e)
