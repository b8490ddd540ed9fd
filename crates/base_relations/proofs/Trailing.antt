-- What comes of a trail stays the same as it goes on, and back.
use Rattle.std.proofs.Common.{◌≡◌, ℕ, zero, suc, ◌+◌, ◌<◌, ◌≤◌, Bool, false, true, List, [], ◌∷◌, ◌++◌, map, length, drop, refl, sym, ap, ap₂, ◌∙◌, subst, arith, slice_index_or, append_assoc, add_assoc}
use Rattle.std.specs.List.{flat_map, Contains}
use Rattle.std.specs.Borrow.{Bor}
use Rattle.std.proofs.lemmas.List.{map-append, length-map, drop_all}
use Rattle.lin_rows.specs.Linear.{Linear}
use Rattle.rule_terms.specs.declared.item.Item.{Item}
use Rattle.rule_terms.specs.declared.item.Item.TheVariants.{Assume, Spend, Fresh, Call}
use Rattle.base_relations.specs.declared.part.Todo.{Todo}
use Rattle.base_relations.specs.declared.part.Done.{Done}
use Rattle.base_relations.specs.declared.part.Done.TheVariants as past
use Rattle.base_relations.specs.Steps.{Step, Does, Enters, Leaves, Trace, steps_of}
use Rattle.base_relations.specs.Unfolding.{ways_at, is_cover, stays, IsUnfolding}
use Rattle.base_relations.specs.Limits.{total, items_at}
use Rattle.base_relations.specs.inside.Trails.{called_node, called_args, done_step, plugged, by_ways, behind_way, later, remaining, done_items, first_length, IsTooLong}
use Rattle.base_relations.proofs.Combining.{map_map}

drop_steps : (way : List Item) (rest : List Step) → drop (suc (length way)) (steps_of way ++ Leaves ∷ rest) ≡ rest
drop_steps [] rest = refl
drop_steps (item ∷ way) rest = drop_steps way rest

drop_at : {A : Type 0} (xs : List A) (i : ℕ) (d : A) → i < length xs → drop i xs ≡ slice_index_or xs i d ∷ drop (suc i) xs
drop_at [] i d h = absurd (omega arith)
drop_at (x ∷ xs) zero d h = refl
drop_at (x ∷ xs) (suc i) d h = drop_at xs i d (omega arith)

pub total_plugged : (done : List Done) (t : Trace) → total items_at (plugged done t) ≡ done_items done + total items_at t
total_plugged [] t = omega arith
total_plugged (past.Item item ∷ done) t = let h = total_plugged done (Does item.now ∷ t) in omega arith
total_plugged (past.Enter item way ∷ done) t = let h = total_plugged done (Enters (called_args item.now) ∷ t) in omega arith
total_plugged (past.Leave ∷ done) t = let h = total_plugged done (Leaves ∷ t) in omega arith

module _ (ways : List (List (List Item))) (covers : List ℕ) (E : List Step → List Trace) (u : IsUnfolding ways covers E) where
  -- ---- forward
  pub keeps : (done : List Done) (d : Done) (s : Step) (rest : List Step) → stays covers s ≡ true → done_step d ≡ s → later E ways (d ∷ done) rest ≡ later E ways done (s ∷ rest)
      → remaining E ways (d ∷ done) rest ≡ remaining E ways done (s ∷ rest)
  keeps done d s rest h is same =
      ap₂ (λ (xs ys : List Trace). xs ++ ys)
      (ap (λ (r : Step). map (λ (t : Trace). plugged done (r ∷ t)) (E rest)) is ∙ sym (map_map (plugged done) (λ (t : Trace). s ∷ t) (E rest)) ∙ ap (map (plugged done)) (sym (u.stay s rest h)))
      same

  replaced_item : (item : Item) (rest : List Step) → stays covers (Does item) ≡ false → E (Does item ∷ rest) ≡ by_ways E (called_args item) rest (ways_at ways (called_node item))
  replaced_item (Assume row) rest h = absurd (cc)
  replaced_item (Spend n) rest h = absurd (cc)
  replaced_item (Fresh v) rest h = absurd (cc)
  replaced_item (Call node args) rest h = u.replaced node args rest h

  by_ways_more : (args : List Linear) (rest : List Step) (ws : List (List Item)) (way : ℕ) → way < length ws
      → by_ways E args rest (drop way ws) ≡ map (λ (t : Trace). Enters args ∷ t) (E (steps_of (slice_index_or ws way []) ++ Leaves ∷ rest)) ++ by_ways E args rest (drop (suc way) ws)
  by_ways_more args rest ws way h = ap (by_ways E args rest) (drop_at ws way [] h)

  behind_is : (item : Item) (way : ℕ) (rest : List Step) → behind_way ways item way (steps_of (slice_index_or (ways_at ways (called_node item)) way []) ++ Leaves ∷ rest) ≡ rest
  behind_is item way rest = drop_steps (slice_index_or (ways_at ways (called_node item)) way []) rest

  -- a call that is replaced by a way: the ways behind it come later
  pub by_rest : (done : List Done) (item : Bor Item) (way : ℕ) (rest : List Step) → way < length (ways_at ways (called_node item.now))
      → remaining E ways (past.Enter item way ∷ done) (steps_of (slice_index_or (ways_at ways (called_node item.now)) way []) ++ Leaves ∷ rest)
      ≡ map (plugged done) (by_ways E (called_args item.now) rest (drop way (ways_at ways (called_node item.now)))) ++ later E ways done (Does item.now ∷ rest)
  by_rest done item way rest h =
      let ws = ways_at ways (called_node item.now) in
      let args = called_args item.now in
      let steps = steps_of (slice_index_or ws way []) ++ Leaves ∷ rest in
      let first = λ (t : Trace). Enters args ∷ t in
      let behind : behind_way ways item.now way steps ≡ rest = behind_is item.now way rest in
      let start : map (plugged (past.Enter item way ∷ done)) (E steps) ≡ map (plugged done) (map first (E steps)) = sym (map_map (plugged done) first (E steps)) in
      let all : map (plugged done) (by_ways E args rest (drop way ws)) ≡ map (plugged done) (map first (E steps)) ++ map (plugged done) (by_ways E args rest (drop (suc way) ws))
      = ap (map (plugged done)) (by_ways_more args rest ws way h) ∙ map-append (plugged done) (map first (E steps)) (by_ways E args rest (drop (suc way) ws)) in
      ap₂ (λ (xs : List Trace) (r : List Step). xs ++ (map (plugged done) (by_ways E args r (drop (suc way) ws)) ++ later E ways done (Does item.now ∷ r))) start behind
      ∙ sym (append_assoc (map (plugged done) (map first (E steps))) (map (plugged done) (by_ways E args rest (drop (suc way) ws))) (later E ways done (Does item.now ∷ rest))) ∙ ap (λ (xs : List Trace). xs ++ later E ways done (Does item.now ∷ rest)) (sym all)

  -- a call is replaced by the first way
  pub enters : (done : List Done) (item : Bor Item) (rest : List Step) → stays covers (Does item.now) ≡ false → 0 < length (ways_at ways (called_node item.now))
      → remaining E ways (past.Enter item 0 ∷ done) (steps_of (slice_index_or (ways_at ways (called_node item.now)) 0 []) ++ Leaves ∷ rest) ≡ remaining E ways done (Does item.now ∷ rest)
  enters done item rest h some =
      by_rest done item 0 rest some ∙ ap (λ (xs : List Trace). map (plugged done) xs ++ later E ways done (Does item.now ∷ rest)) (sym (replaced_item item.now rest h))

  -- ---- back
  pub next_way : (done : List Done) (item : Bor Item) (way : ℕ) (steps : List Step) → suc way < length (ways_at ways (called_node item.now))
      → remaining E ways (past.Enter item (suc way) ∷ done) (steps_of (slice_index_or (ways_at ways (called_node item.now)) (suc way) []) ++ Leaves ∷ behind_way ways item.now way steps)
      ≡ later E ways (past.Enter item way ∷ done) steps
  next_way done item way steps h = by_rest done item (suc way) (behind_way ways item.now way steps) h

  pub no_way : (done : List Done) (item : Bor Item) (way : ℕ) (steps : List Step) → length (ways_at ways (called_node item.now)) ≤ suc way
      → later E ways done (Does item.now ∷ behind_way ways item.now way steps) ≡ later E ways (past.Enter item way ∷ done) steps
  no_way done item way steps h =
      ap (λ (ws : List (List Item)). map (plugged done) (by_ways E (called_args item.now) (behind_way ways item.now way steps) ws) ++ later E ways done (Does item.now ∷ behind_way ways item.now way steps))
      (sym (drop_all (suc way) (ways_at ways (called_node item.now)) h))

  -- ---- lengths
  first_more : (s : Step) (traces : List Trace) → 0 < length traces → first_length (map (λ (t : Trace). s ∷ t) traces) ≡ suc (first_length traces)
  first_more s [] h = absurd (omega arith)
  first_more s (t ∷ traces) h = refl

  first_append : (xs ys : List Trace) → 0 < length xs → first_length (xs ++ ys) ≡ first_length xs
  first_append [] ys h = absurd (omega arith)
  first_append (x ∷ xs) ys h = refl

  pub stay_shorter : (s : Step) (rest : List Step) → stays covers s ≡ true → 0 < length (E rest) → first_length (E rest) < first_length (E (s ∷ rest))
  stay_shorter s rest h some = let e = ap first_length (u.stay s rest h) ∙ first_more s (E rest) some in omega arith

  pub enter_shorter : (item : Item) (rest : List Step) → stays covers (Does item) ≡ false → 0 < length (ways_at ways (called_node item))
      → 0 < length (E (steps_of (slice_index_or (ways_at ways (called_node item)) 0 []) ++ Leaves ∷ rest))
      → first_length (E (steps_of (slice_index_or (ways_at ways (called_node item)) 0 []) ++ Leaves ∷ rest)) < first_length (E (Does item ∷ rest))
  enter_shorter item rest h some filled =
      let ws = ways_at ways (called_node item) in
      let first = λ (t : Trace). Enters (called_args item) ∷ t in
      let inner = E (steps_of (slice_index_or ws 0 []) ++ Leaves ∷ rest) in
      let same : E (Does item ∷ rest) ≡ map first inner ++ by_ways E (called_args item) rest (drop 1 ws) = replaced_item item rest h ∙ by_ways_more (called_args item) rest ws 0 some in
      let long = length-map inner first in
      let e = ap first_length same ∙ first_append (map first inner) (by_ways E (called_args item) rest (drop 1 ws)) (omega arith) ∙ first_more (Enters (called_args item)) inner filled in
      omega arith

  -- ---- too long
  pub too_long : (done : List Done) (item : Item) (rest : List Step) → stays covers (Does item) ≡ true → 0 < length (E rest) → done_items done ≡ 4096 → IsTooLong (remaining E ways done (Does item ∷ rest))
  too_long done item rest h some full = by_first (E rest) refl some
    where
      by_first : (traces : List Trace) → E rest ≡ traces → 0 < length traces → IsTooLong (remaining E ways done (Does item ∷ rest))
      by_first [] e k = absurd (omega arith)
      by_first (t ∷ traces) e k =
          let count = total_plugged done (Does item ∷ t) in (
            plugged done (Does item ∷ t),
            map (plugged done) (map (λ (r : Trace). Does item ∷ r) traces) ++ later E ways done (Does item ∷ rest),
            ap (λ (xs : List Trace). map (plugged done) xs ++ later E ways done (Does item ∷ rest)) (u.stay (Does item) rest h ∙ ap (map (λ (r : Trace). Does item ∷ r)) e),
            omega arith,
          )
