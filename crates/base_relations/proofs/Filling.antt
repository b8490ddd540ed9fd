-- Something comes of steps whose replaced calls have ways.
use Rattle.std.proofs.Common.{◌≡◌, ℕ, zero, suc, ◌+◌, ◌<◌, ◌≤◌, Bool, false, true, List, [], ◌∷◌, ◌++◌, map, length, refl, sym, ap, ◌∙◌, subst, arith, slice_index, slice_index_or, length-append}
use Rattle.std.specs.List.{flat_map, Contains}
use Rattle.std.proofs.lemmas.List.{length-map}
use Rattle.lin_rows.specs.Linear.{Linear}
use Rattle.rule_terms.specs.declared.item.Item.{Item}
use Rattle.rule_terms.specs.declared.item.Item.TheVariants.{Assume, Spend, Fresh, Call}
use Rattle.base_relations.specs.Steps.{Step, Does, Enters, Leaves, Trace, steps_of}
use Rattle.base_relations.specs.Unfolding.{ways_at, is_cover, stays}
use Rattle.base_relations.specs.inside.Expansions.{combined, step_expansion, expansion, node_expansion, greatest, unfolded_by, IsPlan}
use Rattle.base_relations.specs.inside.Trails.{IsGood, AreGood}
use Rattle.base_relations.proofs.Expanding.{contains_tail}

combined_filled : (xs ys : List Trace) → 0 < length xs → 0 < length ys → 0 < length (combined xs ys)
combined_filled [] ys h k = absurd (omega arith)
combined_filled (x ∷ xs) ys h k =
    let more = length-append (map (λ (y : Trace). x ++ y) ys) (combined xs ys) in
    let same = length-map ys (λ (y : Trace). x ++ y) in
    omega arith

-- each replaced call has traces
abbrev AreFilled : List ℕ → (ℕ → List Trace) → List Step → Type 0
AreFilled covers inner steps = (node : ℕ) (args : List Linear) → Contains steps (Does (Call node args)) → is_cover covers node ≡ false → 0 < length (inner node)

step_filled : (covers : List ℕ) (inner : ℕ → List Trace) (s : Step) → ((node : ℕ) (args : List Linear) → s ≡ Does (Call node args) → is_cover covers node ≡ false → 0 < length (inner node)) → 0 < length (step_expansion covers inner s)
step_filled covers inner (Does (Assume row)) h = omega arith
step_filled covers inner (Does (Spend n)) h = omega arith
step_filled covers inner (Does (Fresh v)) h = omega arith
step_filled covers inner (Does (Call node args)) h = by_cover (is_cover covers node) refl
  where
    by_cover : (b : Bool) → is_cover covers node ≡ b → 0 < length (step_expansion covers inner (Does (Call node args)))
    by_cover true e = rw e (omega arith)
    by_cover false e =
        let filled = h node args refl e in
        let same = length-map (inner node) (λ (t : Trace). Enters args ∷ (t ++ Leaves ∷ [])) in
        rw e (omega arith)
step_filled covers inner (Enters args) h = omega arith
step_filled covers inner Leaves h = omega arith

expansion_filled : (covers : List ℕ) (inner : ℕ → List Trace) (steps : List Step) → AreFilled covers inner steps → 0 < length (expansion covers inner steps)
expansion_filled covers inner [] h = omega arith
expansion_filled covers inner (s ∷ rest) h =
    combined_filled (step_expansion covers inner s) (expansion covers inner rest)
    (step_filled covers inner s (λ node args e c. h node args (0, omega arith, e) c))
    (expansion_filled covers inner rest (λ node args k c. h node args (contains_tail s rest (Does (Call node args)) k) c))

-- the items of a way are its steps
step_of_way : (way : List Item) (item : Item) → Contains (steps_of way) (Does item) → Contains way item
step_of_way [] item h = absurd (let low : h.0 < 0 = h.1 in omega arith)
step_of_way (i ∷ way) item (zero, low, is) = (0, omega arith, does_same is)
  where
    does_same : Does i ≡ Does item → i ≡ item
    does_same e = cc
step_of_way (i ∷ way) item (suc k, low, is) = let r = step_of_way way item (k, omega arith, is) in contains_tail i way item r

module _ (ways : List (List (List Item))) (covers ranks : List ℕ) (plan : IsPlan ways covers ranks) where
  by_way : (k n : ℕ) → ((node : ℕ) → 0 < length (ways_at ways node) → 0 < length (node_expansion ways covers k node)) → (ws : List (List Item)) → ways_at ways n ≡ ws → 0 < length ws
      → 0 < length (flat_map (λ (way : List Item). expansion covers (node_expansion ways covers k) (steps_of way)) ws)
  by_way k n inner [] e h = absurd (omega arith)
  by_way k n inner (way ∷ ws) e h =
      let is : Contains (ways_at ways n) way = subst (λ (vs : List (List Item)). Contains vs way) (sym e) (0, omega arith, refl) in
      let filled = expansion_filled covers (node_expansion ways covers k) (steps_of way) (λ node args called c. inner node (plan.calling n node way args is (step_of_way way (Call node args) called) c)) in
      let more = length-append (expansion covers (node_expansion ways covers k) (steps_of way)) (flat_map (λ (w : List Item). expansion covers (node_expansion ways covers k) (steps_of w)) ws) in
      omega arith

  node_filled : (h n : ℕ) → 0 < length (ways_at ways n) → 0 < length (node_expansion ways covers h n)
  node_filled zero n h = omega arith
  node_filled (suc k) n h = by_way k n (node_filled k) (ways_at ways n) refl h

  good_is_filled : (h : ℕ) (steps : List Step) → AreGood ways covers steps → AreFilled covers (node_expansion ways covers h) steps
  good_is_filled h [] g node args called c = absurd (let low : called.0 < 0 = called.1 in omega arith)
  good_is_filled h (s ∷ rest) g node args (zero, low, is) c = first s g is
    where
      first : (s : Step) → AreGood ways covers (s ∷ rest) → s ≡ Does (Call node args) → 0 < length (node_expansion ways covers h node)
      first (Does item) g e = let same : item ≡ Call node args = cc in node_filled h node (subst (λ (i : Item). IsGood ways covers i) same g.0 c)
      first (Enters xs) g e = absurd (cc)
      first Leaves g e = absurd (cc)
  good_is_filled h (s ∷ rest) g node args (suc k, low, is) c = good_is_filled h rest (behind s g) node args (k, omega arith, is) c
    where
      behind : (s : Step) → AreGood ways covers (s ∷ rest) → AreGood ways covers rest
      behind (Does item) g = g.1
      behind (Enters xs) g = g
      behind Leaves g = g

  pub good_filled : (steps : List Step) → AreGood ways covers steps → 0 < length (unfolded_by ways covers ranks steps)
  unfolding unfolded_by
  good_filled steps g = expansion_filled covers (node_expansion ways covers (suc (greatest ranks))) steps (good_is_filled (suc (greatest ranks)) steps g)
