-- What is nested may be spent, and what is done may be passed.
use Rattle.std.proofs.Common.{◌≡◌, ℕ, ◌+◌, List, ◌∷◌, subst, arith}
use Rattle.nested_runs.specs.Nest.{Machine, Went, stays, moved, called, Done, done, Nest, base, above}
use Rattle.nested_runs.specs.Spending.{IsClosed, IsClosedWhere}
use Rattle.nested_runs.specs.Keeping.{Keeps}

module _ {A E : Type 0} {m : Machine A E} {Passes : A → ℕ → E → Type 0} {Spends : A → ℕ → Type 0} (closed : IsClosed m Passes Spends) where
  passes_at : {a : A} {e : E} {c k : ℕ} → c ≡ k → Passes a c e → Passes a k e
  passes_at {a = a} {e = e} eq p = subst (λ i. Passes a i e) eq p

  spends_at : {a : A} {c k : ℕ} → c ≡ k → Spends a c → Spends a k
  spends_at {a = a} eq p = subst (λ i. Spends a i) eq p

  -- what may be passed behind all that an activation went through may be passed before it
  pub went_passes : {a b : A} {e : E} {c k : ℕ} → Went m a c b → Passes b k e → Passes a (c + k) e
  went_passes {k = k} stays p = passes_at (omega arith) p
  went_passes {k = k} (moved {c = c} {k = j} g mv) p = passes_at (omega arith) (went_passes g (closed.passes_move mv p))
  went_passes {k = k} (called {c = c} {k = h} {j = j} {i = i} g st inner en re) p =
      passes_at (omega arith) (went_passes g (closed.passes_call st (went_passes inner (closed.passes_end en)) re p))

  -- what is done is passed
  pub done_passes : {a : A} {e : E} {c : ℕ} → Done m a c e → Passes a c e
  done_passes (done g en) = went_passes g (closed.passes_end en)

  -- what may be spent behind all that an activation went through may be spent before it
  pub went_spends : {a b : A} {c k : ℕ} → Went m a c b → Spends b k → Spends a (c + k)
  went_spends {k = k} stays p = spends_at (omega arith) p
  went_spends {k = k} (moved {c = c} {k = j} g mv) p = spends_at (omega arith) (went_spends g (closed.spends_move mv p))
  went_spends {k = k} (called {c = c} {k = h} {j = j} {i = i} g st inner en re) p =
      spends_at (omega arith) (went_spends g (closed.spends_call st (went_passes inner (closed.passes_end en)) re p))

  -- what the running activation may spend may be spent from the first one on, behind all that is nested
  pub nest_spends : {first b : A} {rest : List A} {c k : ℕ} → Nest m first (b ∷ rest) c → Spends b k → Spends first (c + k)
  nest_spends (base g) p = went_spends g p
  nest_spends {k = k} (above {c = c} {k = i} {j = j} n st g) p =
      spends_at (omega arith) (nest_spends n (closed.spends_start st (went_spends g p)))

  -- what is nested is spent
  pub nest_is_spent : {first : A} {s : List A} {c : ℕ} → Nest m first s c → Spends first c
  nest_is_spent (base {b = b} {c = c} g) = spends_at (omega arith) (nest_spends (base g) (closed.spends_nothing b))
  nest_is_spent (above {d = d} {c = c} {k = k} {j = j} n st g) =
      spends_at (omega arith) (nest_spends (above n st g) (closed.spends_nothing d))

-- what is closed where the relations hold is closed, for each start since which they hold
pub closed_where :
    {A E : Type 0} {m : Machine A E} {Since : A → A → Type 0} {Over : A → E → Type 0} {Passes : A → ℕ → E → Type 0} {Spends : A → ℕ → Type 0}
    → Keeps m Since Over → IsClosedWhere m Since Over Passes Spends
    → IsClosed m (λ a c e. (s : A) → Since s a → Passes a c e × Over s e) (λ a c. (s : A) → Since s a → Spends a c)
closed_where keeps closed = record {
  spends_nothing = λ a s since. closed.spends_nothing since;
  spends_move = λ mv spent s since. let now = keeps.over_move since mv in closed.spends_move since mv now (spent s now);
  spends_start = λ st spent s since. let begun = keeps.at_start since st in closed.spends_start since st begun (spent _ begun);
  spends_call = λ st passed re spent s since.
      let begun = keeps.at_start since st in
      let call = passed _ begun in
      let now = keeps.over_call since st call.1 re in
      closed.spends_call since st begun call.0 call.1 re now (spent s now);
  passes_move = λ mv passed s since.
      let now = keeps.over_move since mv in
      let behind = passed s now in
      (closed.passes_move since mv now behind.0 behind.1, behind.1);
  passes_call = λ st passed re behind s since.
      let begun = keeps.at_start since st in
      let call = passed _ begun in
      let now = keeps.over_call since st call.1 re in
      let rest = behind s now in
      (closed.passes_call since st begun call.0 call.1 re now rest.0 rest.1, rest.1);
  passes_end = λ en s since. let over = keeps.at_end since en in (closed.passes_end since en over, over);
}
