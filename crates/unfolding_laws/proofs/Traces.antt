-- Traces: their scopes, that they call covers alone, and their runs in another mode.
use Rattle.std.proofs.Common.{◌≡◌, ℕ, true, false, nat_lt, IsTrue, ℤ, List, [], ◌∷◌, ◌++◌, length, Contains, slice_get, Some, refl, subst}
use Rattle.std.specs.List.{list_all}
use Rattle.lin_rows.specs.Linear.{Linear}
use Rattle.lin_rows.specs.Transitions.{next_wholes}
use Rattle.rule_terms.specs.declared.item.Item.{Item}
use Rattle.rule_terms.specs.declared.item.Item.TheVariants.{Assume, Spend, Fresh, Call}
use Rattle.relations.specs.Scope.{lin_bound, has_arity, IsScoped}
use Rattle.relation_runs.proofs.Setting.{both_right}
use Rattle.base_relations.specs.Steps.{Step, Does, Enters, Leaves, Trace, steps_of}
use Rattle.base_relations.specs.Unfolding.{ways_at, is_cover, stays, IsUnfolding}
use Rattle.unfolding_laws.specs.inside.Runs.{Mode, Any, WayRun, StepsRun}
use Rattle.unfolding_laws.specs.inside.Scopes.{Bound, bound_after, entered_with, AreScopedSteps, AreUnfolded}
use Rattle.unfolding_laws.proofs.Going.{goes_more, CallsMore, goes_otherwise}
use Rattle.unfolding_laws.proofs.Members.{arity_is, size_at, by_trace, way_scoped}
use Rattle.unfolding_laws.proofs.Unfolded.{AreWays, called_size}

-- ---- a way as steps
pub way_steps : (m : Mode) (rho : List ℤ) (outer : List (List ℤ)) (way : List Item) (c : ℕ) → WayRun m rho way c → StepsRun m rho outer (steps_of way) c
way_steps m rho outer [] c p = p
way_steps m rho outer (item ∷ way) c p = goes_more m Any Any (λ r k. WayRun m r way k) (λ r k. StepsRun m r outer (steps_of way) k) rho item c (λ z e. e) (λ r k q. way_steps m r outer way k q) p

pub steps_way : (m : Mode) (rho : List ℤ) (outer : List (List ℤ)) (way : List Item) (c : ℕ) → StepsRun m rho outer (steps_of way) c → WayRun m rho way c
steps_way m rho outer [] c p = p
steps_way m rho outer (item ∷ way) c p = goes_more m Any Any (λ r k. StepsRun m r outer (steps_of way) k) (λ r k. WayRun m r way k) rho item c (λ z e. e) (λ r k q. steps_way m r outer way k q) p

-- ---- what comes of steps in scope is in scope, and calls covers alone
module _ (nodes : List ℕ) (ways : List (List (List Item))) (covers : List ℕ) (unfolded : List Step → List Trace) (u : IsUnfolding ways covers unfolded) (are : AreWays nodes ways covers) where
  abbrev IsWhole : List Step → Trace → Type 0
  IsWhole steps t = (b : Bound) (around : List Bound) → AreScopedSteps nodes b around steps → AreScopedSteps nodes b around t × AreUnfolded covers t

  stay_whole : (step : Step) (rest : List Step) (t : Trace) → stays covers step ≡ true → IsWhole rest t → IsWhole (step ∷ rest) (step ∷ t)
  stay_whole (Does item) rest t s inner b around scoped = let r = inner (bound_after b item) around scoped.2 in ((scoped.0, scoped.1, r.0), (s, r.1))
  stay_whole (Enters args) rest t s inner b around scoped = let r = inner (entered_with args) (b ∷ around) scoped.1 in ((scoped.0, r.0), (s, r.1))
  stay_whole Leaves rest t s inner b [] scoped = let r = inner b [] scoped in (r.0, (s, r.1))
  stay_whole Leaves rest t s inner b (a ∷ around) scoped = let r = inner a around scoped in (r.0, (s, r.1))

  call_whole : (node : ℕ) (args : List Linear) (rest : List Step) (way : List Item) (t : Trace) → is_cover covers node ≡ false → Contains (ways_at ways node) way → IsWhole (steps_of way ++ Leaves ∷ rest) t
      → IsWhole (Does (Call node args) ∷ rest) (Enters args ∷ t)
  call_whole node args rest way t s w inner b around scoped =
      let sizes = size_at nodes node (length args) (arity_is nodes node args scoped.1) in
      let r = inner (entered_with args) (b ∷ around) (way_scoped nodes (entered_with args) b around way rest (subst (λ k. IsScoped nodes k [] way) sizes (are.scoped node way w)) scoped.2) in
      ((both_right (nat_lt node (length nodes)) (list_all (λ (l : Linear). lin_bound b.sizes b.made l) args) scoped.0, r.0), (refl, r.1))

  pub whole : (t : Trace) (steps : List Step) → Contains (unfolded steps) t → IsWhole steps t
  whole = by_trace ways covers unfolded u IsWhole (λ b around scoped. (tt, tt)) stay_whole call_whole

-- ---- in another mode, by what covers do
module _ (nodes : List ℕ) (covers : List ℕ) (m o : Mode) (stops : (c : ℕ) → m.stop c → o.stop c)
    (passes : (node : ℕ) (v : List ℤ) (c : ℕ) → is_cover covers node ≡ true → slice_get nodes node ≡ Some (length v) → m.pass node v c → o.pass node v c)
    (spends : (node : ℕ) (v : List ℤ) (c : ℕ) → is_cover covers node ≡ true → slice_get nodes node ≡ Some (length v) → m.spend node v c → o.spend node v c) where
  calls_more : (item : Item) (rho : List ℤ) → IsTrue (has_arity nodes item) → IsTrue (stays covers (Does item)) → CallsMore m o rho item
  calls_more (Assume row) rho a s = tt
  calls_more (Spend n) rho a s = tt
  calls_more (Fresh v) rho a s = tt
  calls_more (Call node args) rho a s =
      let size = called_size nodes node args rho a in
      (λ c p. passes node (next_wholes args rho) c s size p, λ c p. spends node (next_wholes args rho) c s size p)

  pub otherwise_run : (t : Trace) (b : Bound) (around : List Bound) (rho : List ℤ) (outer : List (List ℤ)) (c : ℕ) → AreScopedSteps nodes b around t → AreUnfolded covers t → StepsRun m rho outer t c → StepsRun o rho outer t c
  otherwise_run [] b around rho outer c scoped only p = p
  otherwise_run (Does item ∷ t) b around rho outer c scoped only p =
      goes_otherwise m o Any (λ r k. StepsRun m r outer t k) (λ r k. StepsRun o r outer t k) rho item c stops (calls_more item rho scoped.1 only.0)
      (λ r k q. otherwise_run t (bound_after b item) around r outer k scoped.2 only.1 q) p
  otherwise_run (Enters args ∷ t) b around rho outer c scoped only p = otherwise_run t (entered_with args) (b ∷ around) (next_wholes args rho) (rho ∷ outer) c scoped.1 only.1 p
  otherwise_run (Leaves ∷ t) b [] rho [] c scoped only p = otherwise_run t b [] rho [] c scoped only.1 p
  otherwise_run (Leaves ∷ t) b [] rho (x ∷ outer) c scoped only p = otherwise_run t b [] x outer c scoped only.1 p
  otherwise_run (Leaves ∷ t) b (a ∷ around) rho [] c scoped only p = otherwise_run t a around rho [] c scoped only.1 p
  otherwise_run (Leaves ∷ t) b (a ∷ around) rho (x ∷ outer) c scoped only p = otherwise_run t a around x outer c scoped only.1 p
