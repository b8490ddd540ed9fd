-- What comes of steps, by what it comes from.
use Rattle.std.proofs.Common.{◌≡◌, inl, inr, ℕ, zero, suc, Bool, true, false, IsTrue, ℤ, List, [], ◌∷◌, ◌++◌, length, map, Contains, slice_get, slice_index, Option, Some, None, refl, sym, ap, subst}
use Rattle.std.proofs.lemmas.Bool.{eqb-true}
use Rattle.common_laws.proofs.Members.{contains_head, contains_cases, contains_none, in_map, from_map, in_flat, from_flat}
use Rattle.lin_rows.specs.Linear.{Linear}
use Rattle.lin_rows.specs.Transitions.{next_wholes}
use Rattle.rule_terms.specs.declared.item.Item.{Item}
use Rattle.rule_terms.specs.declared.item.Item.TheVariants.{Assume, Spend, Fresh, Call}
use Rattle.relations.specs.Scope.{fits_sizes, has_arity, IsScoped}
use Rattle.base_relations.specs.Steps.{Step, Does, Enters, Leaves, Trace, steps_of}
use Rattle.base_relations.specs.Unfolding.{ways_at, is_cover, stays, IsUnfolding}
use Rattle.unfolding_laws.specs.inside.Scopes.{Bound, bound_after, AreScopedSteps}

-- ---- sizes of a called node
sized : (k : ℕ) (o : Option ℕ) → IsTrue (fits_sizes k o) → o ≡ Some k
sized k None e = absurd (let f : ⊥ = cc in f)
sized k (Some s) e = ap Some (sym (eqb-true k s e))

pub arity_is : (nodes : List ℕ) (node : ℕ) (args : List Linear) → IsTrue (has_arity nodes (Call node args)) → slice_get nodes node ≡ Some (length args)
arity_is nodes node args e = sized (length args) (slice_get nodes node) e

pub size_at : (nodes : List ℕ) (node k : ℕ) → slice_get nodes node ≡ Some k → slice_index nodes node ≡ k
size_at [] node k e = absurd (let f : ⊥ = cc in f)
size_at (n ∷ nodes) zero k e = cc
size_at (n ∷ nodes) (suc node) k e = size_at nodes node k e

pub values_length : (args : List Linear) (rho : List ℤ) → length (next_wholes args rho) ≡ length args
values_length [] rho = refl
values_length (l ∷ args) rho = ap suc (values_length args rho)

module _ (ways : List (List (List Item))) (covers : List ℕ) (unfolded : List Step → List Trace) (u : IsUnfolding ways covers unfolded) where
  -- ---- in
  pub nothing_in : Contains (unfolded []) []
  nothing_in = subst (λ (ts : List Trace). Contains ts []) (sym u.nothing) (contains_head [] [])

  pub stay_in : (step : Step) (rest : List Step) (t : Trace) → stays covers step ≡ true → Contains (unfolded rest) t → Contains (unfolded (step ∷ rest)) (step ∷ t)
  stay_in step rest t s h = subst (λ (ts : List Trace). Contains ts (step ∷ t)) (sym (u.stay step rest s)) (in_map (λ (x : Trace). step ∷ x) (unfolded rest) t h)

  -- what comes of the steps with a rule in a call's place
  abbrev pub by_way : List Linear → List Step → List Item → List Trace
  by_way args rest way = map (λ (t : Trace). Enters args ∷ t) (unfolded (steps_of way ++ Leaves ∷ rest))

  pub call_in : (node : ℕ) (args : List Linear) (rest : List Step) (way : List Item) (t : Trace) → is_cover covers node ≡ false → Contains (ways_at ways node) way → Contains (unfolded (steps_of way ++ Leaves ∷ rest)) t
      → Contains (unfolded (Does (Call node args) ∷ rest)) (Enters args ∷ t)
  call_in node args rest way t s w h =
      subst (λ (ts : List Trace). Contains ts (Enters args ∷ t)) (sym (u.replaced node args rest s))
      (in_flat (by_way args rest) (ways_at ways node) way (Enters args ∷ t) w (in_map (λ (x : Trace). Enters args ∷ x) (unfolded (steps_of way ++ Leaves ∷ rest)) t h))

  -- ---- out
  nothing_out : (t : Trace) → Contains (unfolded []) t → [] ≡ t
  nothing_out t h = elim (contains_cases [] [] t (subst (λ (ts : List Trace). Contains ts t) u.nothing h)) [ inl e ↦ e | inr n ↦ absurd (contains_none t n) ]

  stay_out : (step : Step) (rest : List Step) (t : Trace) → stays covers step ≡ true → Contains (unfolded (step ∷ rest)) t → (x : Trace) × Contains (unfolded rest) x × (step ∷ x ≡ t)
  stay_out step rest t s h = from_map (λ (x : Trace). step ∷ x) (unfolded rest) t (subst (λ (ts : List Trace). Contains ts t) (u.stay step rest s) h)

  call_out : (node : ℕ) (args : List Linear) (rest : List Step) (t : Trace) → is_cover covers node ≡ false → Contains (unfolded (Does (Call node args) ∷ rest)) t
      → (way : List Item) × Contains (ways_at ways node) way × ((x : Trace) × Contains (unfolded (steps_of way ++ Leaves ∷ rest)) x × (Enters args ∷ x ≡ t))
  call_out node args rest t s h =
      let f = from_flat (by_way args rest) (ways_at ways node) t (subst (λ (ts : List Trace). Contains ts t) (u.replaced node args rest s) h) in
      (f.0, f.1, from_map (λ (x : Trace). Enters args ∷ x) (unfolded (steps_of f.0 ++ Leaves ∷ rest)) t f.2)

  -- ---- by induction on the trace
  module _ (P : List Step → Trace → Type 0) (nothing : P [] [])
      (stay : (step : Step) (rest : List Step) (t : Trace) → stays covers step ≡ true → P rest t → P (step ∷ rest) (step ∷ t))
      (call : (node : ℕ) (args : List Linear) (rest : List Step) (way : List Item) (t : Trace) → is_cover covers node ≡ false → Contains (ways_at ways node) way → P (steps_of way ++ Leaves ∷ rest) t → P (Does (Call node args) ∷ rest) (Enters args ∷ t)) where
    tail_is : (a b : Step) (x y : Trace) → a ∷ x ≡ b ∷ y → x ≡ y
    tail_is a b x y e = cc

    head_is : (a b : Step) (x y : Trace) → a ∷ x ≡ b ∷ y → a ≡ b
    head_is a b x y e = cc

    not_nothing : (a : Step) (x : Trace) → a ∷ x ≡ [] → ⊥
    not_nothing a x e = cc

    abbrev Inner : Trace → Type 0
    Inner t = (steps : List Step) → Contains (unfolded steps) t → P steps t

    stay_at : (x : Step) (t : Trace) → Inner t → (step : Step) (rest : List Step) → stays covers step ≡ true → Contains (unfolded (step ∷ rest)) (x ∷ t) → P (step ∷ rest) (x ∷ t)
    stay_at x t inner step rest s h =
        let r = stay_out step rest (x ∷ t) s h in
        let there : Contains (unfolded rest) t = subst (λ y. Contains (unfolded rest) y) (tail_is step x r.0 t r.2) r.1 in
        subst (λ y. P (step ∷ rest) (y ∷ t)) (head_is step x r.0 t r.2) (stay step rest t s (inner rest there))

    call_at : (x : Step) (t : Trace) → Inner t → (node : ℕ) (args : List Linear) (rest : List Step) (b : Bool) → is_cover covers node ≡ b → Contains (unfolded (Does (Call node args) ∷ rest)) (x ∷ t) → P (Does (Call node args) ∷ rest) (x ∷ t)
    call_at x t inner node args rest true c h = stay_at x t inner (Does (Call node args)) rest c h
    call_at x t inner node args rest false c h =
        let r = call_out node args rest (x ∷ t) c h in
        let there : Contains (unfolded (steps_of r.0 ++ Leaves ∷ rest)) t = subst (λ y. Contains (unfolded (steps_of r.0 ++ Leaves ∷ rest)) y) (tail_is (Enters args) x r.2.0 t r.2.2) r.2.1 in
        subst (λ y. P (Does (Call node args) ∷ rest) (y ∷ t)) (head_is (Enters args) x r.2.0 t r.2.2) (call node args rest r.0 t c r.1 (inner (steps_of r.0 ++ Leaves ∷ rest) there))

    at : (x : Step) (t : Trace) → Inner t → (steps : List Step) → Contains (unfolded steps) (x ∷ t) → P steps (x ∷ t)
    at x t inner [] h = absurd (not_nothing x t (sym (nothing_out (x ∷ t) h)))
    at x t inner (Does (Assume row) ∷ rest) h = stay_at x t inner (Does (Assume row)) rest refl h
    at x t inner (Does (Spend n) ∷ rest) h = stay_at x t inner (Does (Spend n)) rest refl h
    at x t inner (Does (Fresh v) ∷ rest) h = stay_at x t inner (Does (Fresh v)) rest refl h
    at x t inner (Does (Call node args) ∷ rest) h = call_at x t inner node args rest (is_cover covers node) refl h
    at x t inner (Enters args ∷ rest) h = stay_at x t inner (Enters args) rest refl h
    at x t inner (Leaves ∷ rest) h = stay_at x t inner Leaves rest refl h

    none_stay : (step : Step) (rest : List Step) → stays covers step ≡ true → Contains (unfolded (step ∷ rest)) [] → ⊥
    none_stay step rest s h = let r = stay_out step rest [] s h in not_nothing step r.0 r.2

    none_call : (node : ℕ) (args : List Linear) (rest : List Step) (b : Bool) → is_cover covers node ≡ b → Contains (unfolded (Does (Call node args) ∷ rest)) [] → ⊥
    none_call node args rest true c h = none_stay (Does (Call node args)) rest c h
    none_call node args rest false c h = let r = call_out node args rest [] c h in not_nothing (Enters args) r.2.0 r.2.2

    at_end : (steps : List Step) → Contains (unfolded steps) [] → P steps []
    at_end [] h = nothing
    at_end (Does (Assume row) ∷ rest) h = absurd (none_stay (Does (Assume row)) rest refl h)
    at_end (Does (Spend n) ∷ rest) h = absurd (none_stay (Does (Spend n)) rest refl h)
    at_end (Does (Fresh v) ∷ rest) h = absurd (none_stay (Does (Fresh v)) rest refl h)
    at_end (Does (Call node args) ∷ rest) h = absurd (none_call node args rest (is_cover covers node) refl h)
    at_end (Enters args ∷ rest) h = absurd (none_stay (Enters args) rest refl h)
    at_end (Leaves ∷ rest) h = absurd (none_stay Leaves rest refl h)

    pub by_trace : (t : Trace) (steps : List Step) → Contains (unfolded steps) t → P steps t
    by_trace [] steps h = at_end steps h
    by_trace (x ∷ t) steps h = at x t (by_trace t) steps h

-- ---- scopes
pub way_scoped : (nodes : List ℕ) (b around : Bound) (outer : List Bound) (way : List Item) (rest : List Step) → IsScoped nodes b.sizes b.made way → AreScopedSteps nodes around outer rest → AreScopedSteps nodes b (around ∷ outer) (steps_of way ++ Leaves ∷ rest)
way_scoped nodes b around outer [] rest s r = r
way_scoped nodes b around outer (item ∷ way) rest s r = (s.0, s.1, way_scoped nodes (bound_after b item) around outer way rest s.2 r)

pub only_way_scoped : (nodes : List ℕ) (b : Bound) (outer : List Bound) (way : List Item) → IsScoped nodes b.sizes b.made way → AreScopedSteps nodes b outer (steps_of way)
only_way_scoped nodes b outer [] s = tt
only_way_scoped nodes b outer (item ∷ way) s = (s.0, s.1, only_way_scoped nodes (bound_after b item) outer way s.2)
