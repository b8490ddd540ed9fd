-- Steps pass and spend what one of the traces that come of them does.
use Rattle.std.proofs.Common.{◌≡◌, inl, inr, ℕ, Bool, true, false, IsTrue, ℤ, List, [], ◌∷◌, ◌++◌, length, Contains, slice_get, slice_index, Some, refl, sym, ap, ◌∙◌, subst}
use Rattle.common_laws.proofs.Members.{contains_head, contains_tail}
use Rattle.lin_rows.specs.Linear.{Linear}
use Rattle.lin_rows.specs.Transitions.{next_wholes}
use Rattle.rule_terms.specs.declared.item.Item.{Item}
use Rattle.rule_terms.specs.declared.item.Item.TheVariants.{Assume, Spend, Fresh, Call}
use Rattle.relations.specs.Scope.{has_arity, IsScoped}
use Rattle.relation_runs.specs.Trees.{variable_set}
use Rattle.base_relations.specs.Steps.{Step, Does, Enters, Leaves, Trace, steps_of}
use Rattle.base_relations.specs.Unfolding.{ways_at, Calls, is_cover, stays, IsUnfolding}
use Rattle.unfolding_laws.specs.inside.Runs.{Mode, passing, Goes, Any, WayRun, StepsRun}
use Rattle.unfolding_laws.specs.inside.Scopes.{Bound, bound_after, entered_with, AreScopedSteps}
use Rattle.unfolding_laws.proofs.Going.{IsMode, goes_more}
use Rattle.unfolding_laws.proofs.Replacing.{stopped_with, stopped, joined, spent_inside, cut}
use Rattle.unfolding_laws.proofs.Members.{arity_is, size_at, values_length, nothing_in, stay_in, call_in, by_trace, way_scoped}

-- ---- what is asked of a mode
-- some way of a node that passes, or spends, does so
pub record Opens (m : Mode) (nodes : List ℕ) (ways : List (List (List Item))) : Type 0 where
  pub passes : (node : ℕ) (v : List ℤ) (c : ℕ) → slice_get nodes node ≡ Some (length v) → m.pass node v c → (way : List Item) × Contains (ways_at ways node) way × WayRun (passing m.pass) v way c
  pub spends : (node : ℕ) (v : List ℤ) (c : ℕ) → slice_get nodes node ≡ Some (length v) → m.spend node v c → (way : List Item) × Contains (ways_at ways node) way × WayRun m v way c

-- and the other way round
pub record Closes (m : Mode) (nodes : List ℕ) (ways : List (List (List Item))) : Type 0 where
  pub passes : (node : ℕ) (v : List ℤ) (c : ℕ) (way : List Item) → slice_get nodes node ≡ Some (length v) → Contains (ways_at ways node) way → WayRun (passing m.pass) v way c → m.pass node v c
  pub spends : m.stop 0 → (node : ℕ) (v : List ℤ) (c : ℕ) (way : List Item) → slice_get nodes node ≡ Some (length v) → Contains (ways_at ways node) way → WayRun m v way c → m.spend node v c

-- each way is in scope, and a node whose calls are replaced has one
pub record AreWays (nodes : List ℕ) (ways : List (List (List Item))) (covers : List ℕ) : Type 0 where
  pub scoped : (n : ℕ) (way : List Item) → Contains (ways_at ways n) way → IsScoped nodes (slice_index nodes n) [] way
  pub filled : (a b : ℕ) → Calls (ways_at ways a) b → is_cover covers b ≡ false → (way : List Item) × Contains (ways_at ways b) way

pub called_size : (nodes : List ℕ) (node : ℕ) (args : List Linear) (rho : List ℤ) → IsTrue (has_arity nodes (Call node args)) → slice_get nodes node ≡ Some (length (next_wholes args rho))
called_size nodes node args rho e = arity_is nodes node args e ∙ ap Some (sym (values_length args rho))

module _ (nodes : List ℕ) (ways : List (List (List Item))) (covers : List ℕ) (unfolded : List Step → List Trace) (u : IsUnfolding ways covers unfolded) (are : AreWays nodes ways covers) (m : Mode) (is : IsMode m) where
  -- ---- from steps to a trace
  module _ (opens : Opens m nodes ways) where
    abbrev pub SomeTrace : List ℤ → List (List ℤ) → List Step → ℕ → Type 0
    SomeTrace rho outer steps c = (t : Trace) × Contains (unfolded steps) t × StepsRun m rho outer t c

    abbrev pub IsKept : List Step → Type 0
    IsKept steps = (rho : List ℤ) (outer : List (List ℤ)) (c : ℕ) → StepsRun m rho outer steps c → SomeTrace rho outer steps c

    abbrev IsKeptNode : ℕ → Type 0
    IsKeptNode node = (way : List Item) (rest : List Step) → Contains (ways_at ways node) way → IsKept rest → IsKept (steps_of way ++ rest)

    -- an item that stays, and some trace of what is behind it
    abbrev Behind : List ℤ → List (List ℤ) → Item → List Step → ℕ → Type 0
    Behind rho outer item rest c = (t : Trace) × Contains (unfolded rest) t × Goes m Any rho item (λ r k. StepsRun m r outer t k) c

    behind : (item : Item) (rest : List Step) → IsKept rest → (rho : List ℤ) (outer : List (List ℤ)) (c : ℕ) → Goes m Any rho item (λ r k. StepsRun m r outer rest k) c → Behind rho outer item rest c
    behind (Assume row) rest kept rho outer c (inl s) = let r = kept rho outer c (stopped_with m is c s rho outer rest) in (r.0, r.1, inl s)
    behind (Assume row) rest kept rho outer c (inr p) = let r = kept rho outer c p.1 in (r.0, r.1, inr (p.0, r.2))
    behind (Spend n) rest kept rho outer c (inl s) = let r = kept rho outer c (stopped_with m is c s rho outer rest) in (r.0, r.1, inl s)
    behind (Spend n) rest kept rho outer c (inr p) = let r = kept rho outer p.0 p.2 in (r.0, r.1, inr (p.0, p.1, r.2))
    behind (Fresh v) rest kept rho outer c p = let r = kept (variable_set rho v p.0) outer c p.2 in (r.0, r.1, (p.0, tt, r.2))
    behind (Call node args) rest kept rho outer c (inl s) = let r = kept rho outer c (stopped_with m is c s rho outer rest) in (r.0, r.1, inl s)
    behind (Call node args) rest kept rho outer c (inr (inl s)) =
        let r = kept rho outer 0 (stopped m is (is.starts node (next_wholes args rho) c s) rho outer rest) in (r.0, r.1, inr (inl s))
    behind (Call node args) rest kept rho outer c (inr (inr p)) = let r = kept rho outer p.1 p.4 in (r.0, r.1, inr (inr (p.0, p.1, p.2, p.3, r.2)))

    stays_kept : (item : Item) (rest : List Step) → stays covers (Does item) ≡ true → IsKept rest → IsKept (Does item ∷ rest)
    stays_kept item rest s kept rho outer c p =
        let r = behind item rest kept rho outer c p in
        (Does item ∷ r.0, stay_in ways covers unfolded u (Does item) rest r.0 s r.1, r.2)

    leaves_kept : (rest : List Step) → IsKept rest → IsKept (Leaves ∷ rest)
    leaves_kept rest kept rho [] c p = let r = kept rho [] c p in (Leaves ∷ r.0, stay_in ways covers unfolded u Leaves rest r.0 refl r.1, r.2)
    leaves_kept rest kept rho (around ∷ outer) c p = let r = kept around outer c p in (Leaves ∷ r.0, stay_in ways covers unfolded u Leaves rest r.0 refl r.1, r.2)

    module _ (node : ℕ) (args : List Linear) (rest : List Step) (s : is_cover covers node ≡ false) (arity : IsTrue (has_arity nodes (Call node args))) (rho : List ℤ) (outer : List (List ℤ)) where
      entered : (way : List Item) (c : ℕ) → Contains (ways_at ways node) way → IsKept (steps_of way ++ Leaves ∷ rest) → StepsRun m (next_wholes args rho) (rho ∷ outer) (steps_of way ++ Leaves ∷ rest) c → SomeTrace rho outer (Does (Call node args) ∷ rest) c
      entered way c w kept p =
          let r = kept (next_wholes args rho) (rho ∷ outer) c p in
          (Enters args ∷ r.0, call_in ways covers unfolded u node args rest way r.0 s w r.1, r.2)

      replaced : (first : (way : List Item) × Contains (ways_at ways node) way) → ((way : List Item) → Contains (ways_at ways node) way → IsKept (steps_of way ++ Leaves ∷ rest)) → (c : ℕ)
          → StepsRun m rho outer (Does (Call node args) ∷ rest) c → SomeTrace rho outer (Does (Call node args) ∷ rest) c
      replaced first kept c (inl e) = entered first.0 c first.1 (kept first.0 first.1) (stopped_with m is c e (next_wholes args rho) (rho ∷ outer) (steps_of first.0 ++ Leaves ∷ rest))
      replaced first kept c (inr (inl e)) =
          let w = opens.spends node (next_wholes args rho) c (called_size nodes node args rho arity) e in
          entered w.0 c w.1 (kept w.0 w.1) (spent_inside m is (is.starts node (next_wholes args rho) c e) (next_wholes args rho) rho outer w.0 rest c w.2)
      replaced first kept c (inr (inr p)) =
          let w = opens.passes node (next_wholes args rho) p.0 (called_size nodes node args rho arity) p.3 in
          entered w.0 c w.1 (kept w.0 w.1)
          (subst (λ k. StepsRun m (next_wholes args rho) (rho ∷ outer) (steps_of w.0 ++ Leaves ∷ rest) k) (sym p.2) (joined m is (next_wholes args rho) rho outer w.0 rest p.0 p.1 w.2 p.4))

    call_kept : (n b : ℕ) (args : List Linear) (rest : List Step) (t : Bool) → is_cover covers b ≡ t → Calls (ways_at ways n) b → ((b : ℕ) → Calls (ways_at ways n) b → is_cover covers b ≡ false → IsKeptNode b)
        → IsTrue (has_arity nodes (Call b args)) → IsKept rest → IsKept (Does (Call b args) ∷ rest)
    call_kept n b args rest true s called inner arity kept rho outer c p = stays_kept (Call b args) rest s kept rho outer c p
    call_kept n b args rest false s called inner arity kept rho outer c p =
        replaced b args rest s arity rho outer (are.filled n b called s) (λ way w. inner b called s way (Leaves ∷ rest) w (leaves_kept rest kept)) c p

    items_kept : (n : ℕ) (items : List Item) (sizes : ℕ) (made : List ℕ) (rest : List Step) → ((b : ℕ) (args : List Linear) → Contains items (Call b args) → Calls (ways_at ways n) b)
        → ((b : ℕ) → Calls (ways_at ways n) b → is_cover covers b ≡ false → IsKeptNode b) → IsScoped nodes sizes made items → IsKept rest → IsKept (steps_of items ++ rest)
    items_kept n [] sizes made rest called inner scoped kept = kept
    items_kept n (Assume row ∷ items) sizes made rest called inner scoped kept =
        stays_kept (Assume row) (steps_of items ++ rest) refl (items_kept n items sizes made rest (λ b args c. called b args (contains_tail (Assume row) items (Call b args) c)) inner scoped.2 kept)
    items_kept n (Spend k ∷ items) sizes made rest called inner scoped kept =
        stays_kept (Spend k) (steps_of items ++ rest) refl (items_kept n items sizes made rest (λ b args c. called b args (contains_tail (Spend k) items (Call b args) c)) inner scoped.2 kept)
    items_kept n (Fresh v ∷ items) sizes made rest called inner scoped kept =
        stays_kept (Fresh v) (steps_of items ++ rest) refl (items_kept n items sizes (v ∷ made) rest (λ b args c. called b args (contains_tail (Fresh v) items (Call b args) c)) inner scoped.2 kept)
    items_kept n (Call node xs ∷ items) sizes made rest called inner scoped kept =
        call_kept n node xs (steps_of items ++ rest) (is_cover covers node) refl (called node xs (contains_head (Call node xs) items)) inner scoped.1
        (items_kept n items sizes made rest (λ b args c. called b args (contains_tail (Call node xs) items (Call b args) c)) inner scoped.2 kept)

    node_kept : (n : ℕ) → ((b : ℕ) → Calls (ways_at ways n) b → is_cover covers b ≡ false → IsKeptNode b) → IsKeptNode n
    node_kept n inner way rest w kept = items_kept n way (slice_index nodes n) [] rest (λ b args c. (way, args, w, c)) inner (are.scoped n way w) kept

    nothing_kept : IsKept []
    nothing_kept rho outer c p = ([], nothing_in ways covers unfolded u, p)

    no_more : (steps : List Step) → steps ++ [] ≡ steps
    no_more [] = refl
    no_more (s ∷ steps) = ap (λ (x : List Step). s ∷ x) (no_more steps)

    -- by induction along replaced calls
    pub way_kept : ((P : ℕ → Type 0) → ((a : ℕ) → ((b : ℕ) → Calls (ways_at ways a) b → is_cover covers b ≡ false → P b) → P a) → (a : ℕ) → P a)
        → (n : ℕ) (way : List Item) → Contains (ways_at ways n) way → IsKept (steps_of way)
    way_kept falls n way w = subst IsKept (no_more (steps_of way)) (falls IsKeptNode node_kept n way [] w nothing_kept)

  -- ---- from a trace to steps
  module _ (closes : Closes m nodes ways) where
    abbrev IsRestored : List Step → Trace → Type 0
    IsRestored steps t = (b : Bound) (around : List Bound) (rho : List ℤ) (outer : List (List ℤ)) (c : ℕ) → AreScopedSteps nodes b around steps → StepsRun m rho outer t c → StepsRun m rho outer steps c

    stay_restored : (step : Step) (rest : List Step) (t : Trace) → stays covers step ≡ true → IsRestored rest t → IsRestored (step ∷ rest) (step ∷ t)
    stay_restored (Does item) rest t s back b around rho outer c scoped p =
        goes_more m Any Any (λ r k. StepsRun m r outer t k) (λ r k. StepsRun m r outer rest k) rho item c (λ z e. e) (λ r k q. back (bound_after b item) around r outer k scoped.2 q) p
    stay_restored (Enters args) rest t s back b around rho outer c scoped p = back (entered_with args) (b ∷ around) (next_wholes args rho) (rho ∷ outer) c scoped.1 p
    stay_restored Leaves rest t s back b [] rho [] c scoped p = back b [] rho [] c scoped p
    stay_restored Leaves rest t s back b [] rho (x ∷ outer) c scoped p = back b [] x outer c scoped p
    stay_restored Leaves rest t s back b (a ∷ around) rho [] c scoped p = back a around rho [] c scoped p
    stay_restored Leaves rest t s back b (a ∷ around) rho (x ∷ outer) c scoped p = back a around x outer c scoped p

    entered_scoped : (b : Bound) (around : List Bound) (node : ℕ) (args : List Linear) (way : List Item) (rest : List Step) → IsTrue (has_arity nodes (Call node args)) → Contains (ways_at ways node) way → AreScopedSteps nodes b around rest
        → AreScopedSteps nodes (entered_with args) (b ∷ around) (steps_of way ++ Leaves ∷ rest)
    entered_scoped b around node args way rest arity w scoped =
        way_scoped nodes (entered_with args) b around way rest (subst (λ k. IsScoped nodes k [] way) (size_at nodes node (length args) (arity_is nodes node args arity)) (are.scoped node way w)) scoped

    call_restored : (node : ℕ) (args : List Linear) (rest : List Step) (way : List Item) (t : Trace) → is_cover covers node ≡ false → Contains (ways_at ways node) way → IsRestored (steps_of way ++ Leaves ∷ rest) t
        → IsRestored (Does (Call node args) ∷ rest) (Enters args ∷ t)
    call_restored node args rest way t s w back b around rho outer c scoped p =
        let size = called_size nodes node args rho scoped.1 in
        elim (cut m is (next_wholes args rho) rho outer way rest c (back (entered_with args) (b ∷ around) (next_wholes args rho) (rho ∷ outer) c (entered_scoped b around node args way rest scoped.1 w scoped.2) p)) [
          | inl q ↦ inr (inl (closes.spends q.0 node (next_wholes args rho) c way size w q.1))
          | inr r ↦ inr (inr (r.front, r.back, r.sum, closes.passes node (next_wholes args rho) r.front way size w r.fronts, r.backs))
        ]

    pub restored : (t : Trace) (steps : List Step) → Contains (unfolded steps) t → IsRestored steps t
    restored = by_trace ways covers unfolded u IsRestored (λ b around rho outer c scoped p. p) stay_restored call_restored
