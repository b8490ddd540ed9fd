-- What each step keeps holds in each nest, and over each call that is done; so a machine has the nests
-- of the machine that is strengthened by it.
use Rattle.std.proofs.Common.{ℕ, List, ◌∷◌}
use Rattle.std.specs.List.{AllByRecursion}
use Rattle.nested_runs.specs.Nest.{Machine, Went, stays, moved, called, Done, done, Nest, base, above}
use Rattle.nested_runs.specs.Keeping.{Keeps, KeepsFact, KeepsOrder, EachSince, last, upon, guarded}
use Rattle.nested_runs.specs.Refining.{IsWithin}

-- the running activation stands in the relation to the state in which it started
pub top_since :
    {A E : Type 0} {m : Machine A E} {Since : A → A → Type 0} {first b : A} {rest : List A}
    → EachSince m first Since (b ∷ rest) → (s : A) × Since s b
top_since {first = first} (last since) = (first, since)
top_since (upon {b = b} below started since) = (b, since)

module _ {A E : Type 0} {m : Machine A E} {Since : A → A → Type 0} {Over : A → E → Type 0} (keeps : Keeps m Since Over) where
  -- the relation holds from the start of an activation to its state now, also where a call has just come back
  pub went_since : {a b : A} {c : ℕ} → Since a a → Went m a c b → Since a b
  went_since begun stays = begun
  went_since begun (moved g mv) = keeps.over_move (went_since begun g) mv
  went_since begun (called g st inner en re) =
      let waits = went_since begun g in
      keeps.over_call waits st (keeps.at_end (went_since (keeps.at_start waits st) inner) en) re

  -- the relation holds over a call that is done
  pub done_over : {a : A} {e : E} {c : ℕ} → Since a a → Done m a c e → Over a e
  done_over begun (done g en) = keeps.at_end (went_since begun g) en

  -- an activation that one of a nest starts stands in the relation to itself
  begins : {first w b : A} {rest : List A} {k : ℕ} → EachSince m first Since (w ∷ rest) → m.starts w k b → Since b b
  begins below st = keeps.at_start (top_since below).1 st

  -- the relation holds at each activation of a nest
  pub nest_since : {first : A} {s : List A} {c : ℕ} → Since first first → Nest m first s c → EachSince m first Since s
  nest_since begun (base g) = last (went_since begun g)
  nest_since begun (above n st g) =
      let below = nest_since begun n in
      upon below st (went_since (begins below st) g)

  -- what an activation went through, and its end, in the strengthened machine
  pub went_guarded : {a b : A} {c : ℕ} → Since a a → Went m a c b → Went (guarded m Since Over) a c b
  went_guarded begun stays = stays
  went_guarded {a = a} begun (moved g mv) =
      let before = went_since begun g in
      moved (went_guarded begun g) (record { made = mv; from = a; before = before; now = keeps.over_move before mv })
  went_guarded {a = a} begun (called {b = b} {k = k} g st inner en re) =
      let waits = went_since begun g in
      let called_start = keeps.at_start waits st in
      let ends = went_since called_start inner in
      let whole = keeps.at_end ends en in
      called
      (went_guarded begun g)
      (record { made = st; from = a; before = waits; now = called_start })
      (went_guarded called_start inner)
      (record { made = en; from = b; before = ends; whole = whole })
      (record { made = re; from = a; before = waits; callee = b; cost = k; started = st; whole = whole; now = keeps.over_call waits st whole re })

  pub done_guarded : {a : A} {e : E} {c : ℕ} → Since a a → Done m a c e → Done (guarded m Since Over) a c e
  done_guarded {a = a} begun (done g en) =
      let ends = went_since begun g in
      done (went_guarded begun g) (record { made = en; from = a; before = ends; whole = keeps.at_end ends en })

  -- a start by an activation of a nest, in the strengthened machine
  start_guarded : {first w b : A} {rest : List A} {k : ℕ} → EachSince m first Since (w ∷ rest) → m.starts w k b → (guarded m Since Over).starts w k b
  start_guarded below st = let top = top_since below in record { made = st; from = top.0; before = top.1; now = keeps.at_start top.1 st }

  -- a nest of the machine is one of the strengthened machine
  pub nest_guarded : {first : A} {s : List A} {c : ℕ} → Since first first → Nest m first s c → Nest (guarded m Since Over) first s c
  nest_guarded begun (base g) = base (went_guarded begun g)
  nest_guarded begun (above n st g) =
      let below = nest_since begun n in
      above (nest_guarded begun n) (start_guarded below st) (went_guarded (begins below st) g)

-- the strengthened machine makes no other steps
pub guarded_within : {A E : Type 0} (m : Machine A E) (Since : A → A → Type 0) (Over : A → E → Type 0) → IsWithin (guarded m Since Over) m
guarded_within m Since Over = record {
  moves = λ x. x.made;
  starts = λ x. x.made;
  ends = λ x. x.made;
  resumes = λ x. x.made;
}

-- ---- facts of one state, and orders

-- a fact is a relation that names the state now alone
pub fact_kept : {A E : Type 0} {m : Machine A E} {Fact : A → Type 0} {EndFact : E → Type 0} → KeepsFact m Fact EndFact → Keeps m (λ s a. Fact a) (λ a e. EndFact e)
fact_kept fact = record {
  at_start = λ waits st. fact.at_start waits st;
  over_move = λ before mv. fact.over_move before mv;
  over_call = λ waits st over re. fact.over_call waits st over re;
  at_end = λ before en. fact.at_end before en;
}

each_fact : {A E : Type 0} {m : Machine A E} {Fact : A → Type 0} {first : A} {s : List A} → EachSince m first (λ s a. Fact a) s → AllByRecursion Fact s
each_fact (last since) = (since, tt)
each_fact (upon below st since) = (since, each_fact below)

-- a fact that each step keeps holds at each activation of a nest
pub nest_facts :
    {A E : Type 0} {m : Machine A E} {Fact : A → Type 0} {EndFact : E → Type 0} {first : A} {s : List A} {c : ℕ}
    → KeepsFact m Fact EndFact → Fact first → Nest m first s c → AllByRecursion Fact s
nest_facts fact begun n = each_fact (nest_since (fact_kept fact) begun n)

-- a reflexive and transitive relation that holds over each step is kept by each step
pub order_kept : {A E : Type 0} {m : Machine A E} {Since : A → A → Type 0} {Over : A → E → Type 0} → KeepsOrder m Since Over → Keeps m Since Over
order_kept order = record {
  at_start = λ waits st. order.reflexive _;
  over_move = λ before mv. order.transitive before (order.over_move mv);
  over_call = λ waits st over re. order.transitive waits (order.over_call st over re);
  at_end = λ before en. order.transitive_over before (order.at_end en);
}
