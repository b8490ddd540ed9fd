-- Each step keeps what an activation went through, and two relations that are kept are kept together.
use Rattle.std.proofs.Common.{ℕ, ◌+◌}
use Rattle.nested_runs.specs.Nest.{Machine, Went, stays, moved, called, Done, done}
use Rattle.nested_runs.specs.Keeping.{Keeps}

module _ {A E : Type 0} (m : Machine A E) where
  called_done : {s w b r : A} {e : E} {k : ℕ} → (c : ℕ) × Went m s c w → m.starts w k b → (c : ℕ) × Done m b c e → m.resumes w e r → (c : ℕ) × Went m s c r
  called_done before st (c, done g en) re = (_, called before.1 st g en re)

  pub history_kept : Keeps m (λ s a. (c : ℕ) × Went m s c a) (λ a e. (c : ℕ) × Done m a c e)
  history_kept = record {
    at_start = λ before st. (0, stays);
    over_move = λ before mv. (before.0 + _, moved before.1 mv);
    over_call = λ before st over re. called_done before st over re;
    at_end = λ before en. (before.0 + _, done before.1 en);
  }

pub both_kept :
    {A E : Type 0} {m : Machine A E} {S T : A → A → Type 0} {P Q : A → E → Type 0}
    → Keeps m S P → Keeps m T Q → Keeps m (λ s a. S s a × T s a) (λ a e. P a e × Q a e)
both_kept one other = record {
  at_start = λ before st. (one.at_start before.0 st, other.at_start before.1 st);
  over_move = λ before mv. (one.over_move before.0 mv, other.over_move before.1 mv);
  over_call = λ before st over re. (one.over_call before.0 st over.0 re, other.over_call before.1 st over.1 re);
  at_end = λ before en. (one.at_end before.0 en, other.at_end before.1 en);
}
