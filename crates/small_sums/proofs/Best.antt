-- The best sum so far.
use Rattle.std.specs.Prelude.{◌≡◌, Option, Some, None}
use Rattle.std.proofs.Common.{sym, subst, ⊎_elim}
use Rattle.q128.specs.Fraction.{whole, IsAtMost}
use Rattle.q128.proofs.Ordered.{at_most_trans, are_ordered_field}
use Rattle.small_sums.specs.declared.term.Sum.{Sum}
use Rattle.small_sums.specs.inside.Search.{Keeps}

pub keeps_none : (best : Option Sum) (sum : Sum) → best ≡ None → Keeps best (Some sum)
keeps_none None sum e = record { each = λ c h. absurd h }
keeps_none (Some f) sum e = absurd cc

less_kept : (f sum : Sum) → (IsAtMost (whole f.constant) (whole sum.constant) → ⊥) → Keeps (Some f) (Some sum)
less_kept f sum h = record { each = λ c k. ⊎_elim (λ le. absurd (h le)) (λ le. at_most_trans (whole sum.constant) (whole f.constant) c le k) (are_ordered_field.order.total (whole f.constant) (whole sum.constant)) }

pub keeps_less : (best : Option Sum) (f sum : Sum) → best ≡ Some f → (IsAtMost (whole f.constant) (whole sum.constant) → ⊥) → Keeps best (Some sum)
keeps_less best f sum e h = subst (λ (b : Option Sum). Keeps b (Some sum)) (sym e) (less_kept f sum h)

pub keeps_trans : (a b d : Option Sum) → Keeps a b → Keeps b d → Keeps a d
keeps_trans a b d h k = record { each = λ c covers. k.each c (h.each c covers) }
