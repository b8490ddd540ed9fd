-- A replaced call: what it passes or spends, some rule in its place does, and the other way round.
use Rattle.std.proofs.Common.{◌≡◌, ◌⊎◌, inl, inr, ℕ, ◌+◌, ℤ, pos, List, [], ◌∷◌, ◌++◌, refl, sym, subst, arith}
use Rattle.lin_rows.specs.Transitions.{next_wholes}
use Rattle.rule_terms.specs.declared.item.Item.{Item}
use Rattle.rule_terms.specs.declared.item.Item.TheVariants.{Assume, Spend, Fresh, Call}
use Rattle.relation_runs.specs.Trees.{variable_set}
use Rattle.relation_runs.proofs.Items.{Cuts}
use Rattle.base_relations.specs.Steps.{Step, Does, Enters, Leaves, steps_of}
use Rattle.unfolding_laws.specs.inside.Runs.{Mode, passing, Any, WayRun, StepsRun}
use Rattle.unfolding_laws.proofs.Going.{IsMode, goes_more}

-- ---- sums
with_back : (n k a b : ℕ) → a ≡ n + k → a + b ≡ n + (k + b)
with_back n k a b e = omega arith

of_both : (n k c a b : ℕ) → c ≡ n + k → k ≡ a + b → c ≡ n + a + b
of_both n k c a b e f = omega arith

-- ---- one call
module _ (m : Mode) (is : IsMode m) where
  -- where a run may stop it may stop at once
  pub stopped : (s : m.stop 0) (rho : List ℤ) (outer : List (List ℤ)) (steps : List Step) → StepsRun m rho outer steps 0
  stopped s rho outer [] = refl
  stopped s rho outer (Does (Assume row) ∷ rest) = inl s
  stopped s rho outer (Does (Spend n) ∷ rest) = inl s
  stopped s rho outer (Does (Fresh v) ∷ rest) = (pos 0, tt, stopped s (variable_set rho v (pos 0)) outer rest)
  stopped s rho outer (Does (Call node args) ∷ rest) = inl s
  stopped s rho outer (Enters args ∷ rest) = stopped s (next_wholes args rho) (rho ∷ outer) rest
  stopped s rho [] (Leaves ∷ rest) = stopped s rho [] rest
  stopped s rho (around ∷ outer) (Leaves ∷ rest) = stopped s around outer rest

  pub stopped_with : (c : ℕ) → m.stop c → (rho : List ℤ) (outer : List (List ℤ)) (steps : List Step) → StepsRun m rho outer steps c
  stopped_with c s rho outer steps =
      let e = is.ends c s in
      subst (λ k. StepsRun m rho outer steps k) (sym e) (stopped (subst (λ k. m.stop k) e s) rho outer steps)

  -- a rule in a call's place that passes, and what stands behind the call
  pub joined : (v rho : List ℤ) (outer : List (List ℤ)) (way : List Item) (rest : List Step) (a k : ℕ) → WayRun (passing m.pass) v way a → StepsRun m rho outer rest k
      → StepsRun m v (rho ∷ outer) (steps_of way ++ Leaves ∷ rest) (a + k)
  joined v rho outer [] rest a k p q = subst (λ c. StepsRun m rho outer rest c) (let e : k ≡ a + k = omega arith in e) q
  joined v rho outer (Assume row ∷ way) rest a k (inl s) q = absurd s
  joined v rho outer (Assume row ∷ way) rest a k (inr p) q = inr (p.0, joined v rho outer way rest a k p.1 q)
  joined v rho outer (Spend n ∷ way) rest a k (inl s) q = absurd s
  joined v rho outer (Spend n ∷ way) rest a k (inr p) q = inr (p.0 + k, with_back n p.0 a k p.1, joined v rho outer way rest p.0 k p.2 q)
  joined v rho outer (Fresh x ∷ way) rest a k p q = (p.0, tt, joined (variable_set v x p.0) rho outer way rest a k p.2 q)
  joined v rho outer (Call node args ∷ way) rest a k (inl s) q = absurd s
  joined v rho outer (Call node args ∷ way) rest a k (inr (inl s)) q = absurd s
  joined v rho outer (Call node args ∷ way) rest a k (inr (inr p)) q =
      inr (inr (p.0, p.1 + k, with_back p.0 p.1 a k p.2, p.3, joined v rho outer way rest p.1 k p.4 q))

  -- what is spent in the rule, whatever stands behind the call
  pub spent_inside : (s : m.stop 0) (v rho : List ℤ) (outer : List (List ℤ)) (way : List Item) (rest : List Step) (c : ℕ) → WayRun m v way c → StepsRun m v (rho ∷ outer) (steps_of way ++ Leaves ∷ rest) c
  spent_inside s v rho outer [] rest c p = subst (λ k. StepsRun m rho outer rest k) (sym p) (stopped s rho outer rest)
  spent_inside s v rho outer (item ∷ way) rest c p =
      goes_more m Any Any (λ r k. WayRun m r way k) (λ r k. StepsRun m r (rho ∷ outer) (steps_of way ++ Leaves ∷ rest) k) v item c (λ z e. e)
      (λ r k q. spent_inside s r rho outer way rest k q) p

  -- either it is spent inside, or the rule passes
  abbrev pub Cut : List ℤ → List ℤ → List (List ℤ) → List Item → List Step → ℕ → Type 0
  Cut v rho outer way rest c = (m.stop 0 × WayRun m v way c) ⊎ Cuts (WayRun (passing m.pass) v way) (StepsRun m rho outer rest) c

  stops_at_once : (c : ℕ) → m.stop c → m.stop 0
  stops_at_once c s = subst (λ k. m.stop k) (is.ends c s) s

  pub cut : (v rho : List ℤ) (outer : List (List ℤ)) (way : List Item) (rest : List Step) (c : ℕ) → StepsRun m v (rho ∷ outer) (steps_of way ++ Leaves ∷ rest) c → Cut v rho outer way rest c
  cut v rho outer [] rest c p = inr (record { front = 0; back = c; sum = omega arith; fronts = refl; backs = p })
  cut v rho outer (Assume row ∷ way) rest c (inl s) = inl (stops_at_once c s, inl s)
  cut v rho outer (Assume row ∷ way) rest c (inr p) = elim (cut v rho outer way rest c p.1) [
    | inl q ↦ inl (q.0, inr (p.0, q.1))
    | inr r ↦ inr (record { front = r.front; back = r.back; sum = r.sum; fronts = inr (p.0, r.fronts); backs = r.backs })
  ]
  cut v rho outer (Spend n ∷ way) rest c (inl s) = inl (stops_at_once c s, inl s)
  cut v rho outer (Spend n ∷ way) rest c (inr p) = elim (cut v rho outer way rest p.0 p.2) [
    | inl q ↦ inl (q.0, inr (p.0, p.1, q.1))
    | inr r ↦ inr (record { front = n + r.front; back = r.back; sum = of_both n p.0 c r.front r.back p.1 r.sum; fronts = inr (r.front, refl, r.fronts); backs = r.backs })
  ]
  cut v rho outer (Fresh x ∷ way) rest c p = elim (cut (variable_set v x p.0) rho outer way rest c p.2) [
    | inl q ↦ inl (q.0, (p.0, tt, q.1))
    | inr r ↦ inr (record { front = r.front; back = r.back; sum = r.sum; fronts = (p.0, tt, r.fronts); backs = r.backs })
  ]
  cut v rho outer (Call node args ∷ way) rest c (inl s) = inl (stops_at_once c s, inl s)
  cut v rho outer (Call node args ∷ way) rest c (inr (inl s)) = inl (is.starts node (next_wholes args v) c s, inr (inl s))
  cut v rho outer (Call node args ∷ way) rest c (inr (inr p)) = elim (cut v rho outer way rest p.1 p.4) [
    | inl q ↦ inl (q.0, inr (inr (p.0, p.1, p.2, p.3, q.1)))
    | inr r ↦ inr (record { front = p.0 + r.front; back = r.back; sum = of_both p.0 p.1 c r.front r.back p.2 r.sum; fronts = inr (inr (p.0, r.front, refl, p.3, r.fronts)); backs = r.backs })
  ]
