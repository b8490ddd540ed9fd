-- What comes of steps up to the depth of all ranks is the unfolding.
use Rattle.std.proofs.Common.{◌≡◌, ℕ, zero, suc, ◌+◌, ◌<◌, ◌≤◌, max, Bool, false, true, List, [], ◌∷◌, ◌++◌, map, length, refl, sym, ap, ap₂, ◌∙◌, arith, slice_index, slice_index_or}
use Rattle.std.specs.List.{flat_map, Contains}
use Rattle.std.proofs.lemmas.List.{map-append}
use Rattle.lin_rows.specs.Linear.{Linear}
use Rattle.rule_terms.specs.declared.item.Item.{Item}
use Rattle.rule_terms.specs.declared.item.Item.TheVariants.{Assume, Spend, Fresh, Call}
use Rattle.base_relations.specs.Steps.{Step, Does, Enters, Leaves, Trace, steps_of}
use Rattle.base_relations.specs.Unfolding.{ways_at, is_cover, stays, IsUnfolding}
use Rattle.base_relations.specs.inside.Expansions.{combined, step_expansion, expansion, node_expansion, greatest, unfolded_by, IsPlan}
use Rattle.base_relations.proofs.Combining.{combined_append, combined_one, combined_assoc, combined_start, bracketed}

pub contains_head : {A : Type 0} (x : A) (xs : List A) → Contains (x ∷ xs) x
contains_head x xs = (0, omega arith, refl)

pub contains_tail : {A : Type 0} (y : A) (xs : List A) (x : A) → Contains xs x → Contains (y ∷ xs) x
contains_tail y xs x h = (suc h.0, let low : h.0 < length xs = h.1 in omega arith, h.2)

flat_map_same : {A B : Type 0} (f g : A → List B) (xs : List A) → ((x : A) → Contains xs x → f x ≡ g x) → flat_map f xs ≡ flat_map g xs
flat_map_same f g [] h = refl
flat_map_same f g (x ∷ xs) h = ap₂ (λ ys zs. ys ++ zs) (h x (contains_head x xs)) (flat_map_same f g xs (λ y k. h y (contains_tail x xs y k)))

module _ (covers : List ℕ) where
  pub expansion_append : (inner : ℕ → List Trace) (a b : List Step) → expansion covers inner (a ++ b) ≡ combined (expansion covers inner a) (expansion covers inner b)
  expansion_append inner [] b = sym (combined_start (expansion covers inner b))
  expansion_append inner (s ∷ a) b =
      ap (combined (step_expansion covers inner s)) (expansion_append inner a b) ∙ sym (combined_assoc (step_expansion covers inner s) (expansion covers inner a) (expansion covers inner b))

  step_stays : (inner : ℕ → List Trace) (s : Step) → stays covers s ≡ true → step_expansion covers inner s ≡ (s ∷ []) ∷ []
  step_stays inner (Does (Assume row)) h = refl
  step_stays inner (Does (Spend n)) h = refl
  step_stays inner (Does (Fresh v)) h = refl
  step_stays inner (Does (Call node args)) h = rw h refl
  step_stays inner (Enters args) h = refl
  step_stays inner Leaves h = refl

  pub expansion_stays : (inner : ℕ → List Trace) (s : Step) (rest : List Step) → stays covers s ≡ true → expansion covers inner (s ∷ rest) ≡ map (λ (t : Trace). s ∷ t) (expansion covers inner rest)
  expansion_stays inner s rest h = ap (λ (xs : List Trace). combined xs (expansion covers inner rest)) (step_stays inner s h) ∙ combined_one s (expansion covers inner rest)

  -- the same inner traces of replaced nodes, the same traces
  step_same : (inner other : ℕ → List Trace) (item : Item) → ((node : ℕ) (args : List Linear) → item ≡ Call node args → is_cover covers node ≡ false → inner node ≡ other node)
      → step_expansion covers inner (Does item) ≡ step_expansion covers other (Does item)
  step_same inner other (Assume row) h = refl
  step_same inner other (Spend n) h = refl
  step_same inner other (Fresh v) h = refl
  step_same inner other (Call node args) h = by_cover (is_cover covers node) refl
    where
      by_cover : (b : Bool) → is_cover covers node ≡ b → step_expansion covers inner (Does (Call node args)) ≡ step_expansion covers other (Does (Call node args))
      by_cover true e = rw e refl
      by_cover false e = rw e (ap (map (λ (t : Trace). Enters args ∷ (t ++ Leaves ∷ []))) (h node args refl e))

  expansion_same : (inner other : ℕ → List Trace) (way : List Item) → ((node : ℕ) (args : List Linear) → Contains way (Call node args) → is_cover covers node ≡ false → inner node ≡ other node)
      → expansion covers inner (steps_of way) ≡ expansion covers other (steps_of way)
  expansion_same inner other [] h = refl
  expansion_same inner other (item ∷ way) h =
      ap₂ combined
      (step_same inner other item (λ node args e c. h node args (0, omega arith, e) c))
      (expansion_same inner other way (λ node args k c. h node args (contains_tail item way (Call node args) k) c))

  -- a call that is replaced by each way
  replaced_by : (inner : ℕ → List Trace) (args : List Linear) (rest : List Step) (ways : List (List Item)) →
      combined (map (λ (t : Trace). Enters args ∷ (t ++ Leaves ∷ [])) (flat_map (λ (way : List Item). expansion covers inner (steps_of way)) ways)) (expansion covers inner rest)
      ≡ flat_map (λ (way : List Item). map (λ (t : Trace). Enters args ∷ t) (expansion covers inner (steps_of way ++ Leaves ∷ rest))) ways
  replaced_by inner args rest [] = refl
  replaced_by inner args rest (way ∷ ways) =
      ap (λ (xs : List Trace). combined xs (expansion covers inner rest)) (map-append (λ (t : Trace). Enters args ∷ (t ++ Leaves ∷ [])) (expansion covers inner (steps_of way)) (flat_map (λ (w : List Item). expansion covers inner (steps_of w)) ways))
      ∙ combined_append (map (λ (t : Trace). Enters args ∷ (t ++ Leaves ∷ [])) (expansion covers inner (steps_of way))) (map (λ (t : Trace). Enters args ∷ (t ++ Leaves ∷ [])) (flat_map (λ (w : List Item). expansion covers inner (steps_of w)) ways)) (expansion covers inner rest)
      ∙ ap₂ (λ (xs ys : List Trace). xs ++ ys) one (replaced_by inner args rest ways)
    where
      one : combined (map (λ (t : Trace). Enters args ∷ (t ++ Leaves ∷ [])) (expansion covers inner (steps_of way))) (expansion covers inner rest)
          ≡ map (λ (t : Trace). Enters args ∷ t) (expansion covers inner (steps_of way ++ Leaves ∷ rest))
      one =
          bracketed args (expansion covers inner (steps_of way)) (expansion covers inner rest)
          ∙ ap (λ (xs : List Trace). map (λ (t : Trace). Enters args ∷ t) (combined (expansion covers inner (steps_of way)) xs)) (sym (expansion_stays inner Leaves rest refl))
          ∙ ap (map (λ (t : Trace). Enters args ∷ t)) (sym (expansion_append inner (steps_of way) (Leaves ∷ rest)))

module _ (ways : List (List (List Item))) (covers ranks : List ℕ) where
  stable : IsPlan ways covers ranks → (h n : ℕ) → slice_index ranks n < h → node_expansion ways covers (suc h) n ≡ node_expansion ways covers h n
  stable plan zero n low = absurd (omega arith)
  stable plan (suc h) n low =
      flat_map_same (λ (way : List Item). expansion covers (node_expansion ways covers (suc h)) (steps_of way)) (λ (way : List Item). expansion covers (node_expansion ways covers h) (steps_of way)) (ways_at ways n)
      (λ way is. expansion_same covers (node_expansion ways covers (suc h)) (node_expansion ways covers h) way
      (λ node args called c. stable plan h node (let down = plan.down n node way args is called c in omega arith)))

  greatest_is : (rs : List ℕ) (n : ℕ) → slice_index rs n ≤ greatest rs
  greatest_is [] n = omega arith
  greatest_is (r ∷ rs) zero = omega arith
  greatest_is (r ∷ rs) (suc n) = let h = greatest_is rs n in omega arith

  pub unfolding_is : IsPlan ways covers ranks → IsUnfolding ways covers (unfolded_by ways covers ranks)
  unfolding unfolded_by
  unfolding_is plan = record {
    nothing = refl;
    stay = λ step rest h. expansion_stays covers (node_expansion ways covers (suc (greatest ranks))) step rest h;
    replaced = λ node args rest h. by_rank node args rest h;
  }
    where
      inner : ℕ → List Trace
      inner = node_expansion ways covers (suc (greatest ranks))

      by_rank : (node : ℕ) (args : List Linear) (rest : List Step) → is_cover covers node ≡ false
          → expansion covers (node_expansion ways covers (suc (greatest ranks))) (Does (Call node args) ∷ rest)
          ≡ flat_map (λ (way : List Item). map (λ (t : Trace). Enters args ∷ t) (expansion covers (node_expansion ways covers (suc (greatest ranks))) (steps_of way ++ Leaves ∷ rest))) (ways_at ways node)
      by_rank node args rest h =
          let low = greatest_is ranks node in
          let deep = stable plan (suc (greatest ranks)) node (omega arith) in
          rw h
          (ap (λ (xs : List Trace). combined (map (λ (t : Trace). Enters args ∷ (t ++ Leaves ∷ [])) xs) (expansion covers (node_expansion ways covers (suc (greatest ranks))) rest)) (sym deep)
          ∙ replaced_by covers (node_expansion ways covers (suc (greatest ranks))) args rest (ways_at ways node))
