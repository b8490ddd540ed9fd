-- Which cap comes first.
use Rattle.std.specs.Prelude.{◌≡◌, ℕ, ℤ, ◌<ℤ◌, ◌≤ℤ◌, List, Option, Some, None}
use Rattle.std.proofs.Common.{arith, sym, ◌∙◌, subst, inl, inr}
use Rattle.std.proofs.lemmas.Int.{ints}
use Rattle.lin_rows.specs.Linear.{Linear}
use Rattle.small_cert.specs.Order.{key_of, Precedes}
use Rattle.small_caps.specs.Caps.{IsFirst}
use Rattle.small_caps.specs.declared.search.Found.{Found}
use Rattle.small_caps.specs.inside.Search.{IsEarlier, Covers, Keeps}
use Rattle.small_caps.proofs.Keys.{key_apart, key_trans}

less_least : (a b w : ℤ) → a <ℤ b → b ≤ℤ w → a ≤ℤ w
less_least a b w h k = omega (arith, ints, h, k)

pub lesser_first : (a b : Linear) → IsEarlier a b → (w : Linear) → IsFirst b w → IsFirst a w
lesser_first a b (inl h) w f = record {
  first = λ before. f.first (record { less = key_trans (key_of w) (key_of a) (key_of b) before.less h });
  least = λ e. absurd (f.first (record { less = subst (λ (k : List ℕ). Precedes k (key_of b)) (sym e) h }));
}
lesser_first a b (inr h) w f = record {
  first = λ before. f.first (record { less = subst (λ (k : List ℕ). Precedes (key_of w) k) h.0 before.less });
  least = λ e. less_least a.constant b.constant w.constant h.1 (f.least (e ∙ h.0));
}

not_less : (a b : ℤ) → (a <ℤ b → ⊥) → b ≤ℤ a
not_less a b h = grind (arith, ints)

pub not_lesser_first : (a b : Linear) → (IsEarlier a b → ⊥) → IsFirst b a
not_lesser_first a b h = record { first = λ before. h (inl before.less); least = λ e. not_less a.constant b.constant (λ less. h (inr (e, less))) }

same_least : (a : ℤ) → a ≤ℤ a
same_least a = omega (arith, ints)

pub first_self : (a : Linear) → IsFirst a a
first_self a = record { first = λ before. key_apart (key_of a) before.less; least = λ e. same_least a.constant }

pub first_moved : (u w v : Linear) → IsFirst u w → key_of v ≡ key_of w → v.constant ≡ w.constant → IsFirst u v
first_moved u w v f e g = record {
  first = λ before. f.first (record { less = subst (λ (k : List ℕ). Precedes k (key_of u)) e before.less });
  least = λ k. subst (λ (z : ℤ). u.constant ≤ℤ z) (sym g) (f.least (sym e ∙ k));
}

-- ---- the best so far
pub keeps_first : (best : Option Found) (found more : Found) → best ≡ Some found → IsEarlier more.cap found.cap → Keeps best (Some more)
keeps_first best found more e h = record { each = λ w covers. lesser_first more.cap found.cap h w (subst (λ (b : Option Found). Covers b w) e covers) }

pub keeps_none : (best : Option Found) (more : Found) → best ≡ None → Keeps best (Some more)
keeps_none best more e = record { each = λ w covers. absurd (subst (λ (b : Option Found). Covers b w) e covers) }

pub keeps_trans : (a b d : Option Found) → Keeps a b → Keeps b d → Keeps a d
keeps_trans a b d h k = record { each = λ w covers. k.each w (h.each w covers) }

pub keeps_same : (a : Option Found) → Keeps a a
keeps_same a = record { each = λ w covers. covers }
