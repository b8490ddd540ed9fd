-- What a trail keeps as its parts are looked at, and taken back.
use Rattle.std.proofs.Common.{◌≡◌, ℕ, zero, suc, ◌+◌, ◌<◌, ◌≤◌, Bool, false, true, not, List, [], ◌∷◌, ◌++◌, map, length, drop, refl, sym, ap, ◌∙◌, subst, arith, slice_index_or, length-append}
use Rattle.std.specs.List.{Contains}
use Rattle.std.specs.Borrow.{Bor}
use Rattle.std.proofs.lemmas.List.{length-map}
use Rattle.lin_rows.specs.Linear.{Linear}
use Rattle.rule_terms.specs.declared.item.Item.{Item}
use Rattle.rule_terms.specs.declared.item.Item.TheVariants.{Assume, Spend, Fresh, Call}
use Rattle.base_relations.specs.declared.part.Todo.{Todo}
use Rattle.base_relations.specs.declared.part.Todo.TheVariants as todo
use Rattle.base_relations.specs.declared.part.Done.{Done}
use Rattle.base_relations.specs.declared.part.Done.TheVariants as past
use Rattle.base_relations.specs.declared.plan.Plan.{Plan}
use Rattle.base_relations.specs.Steps.{Step, Does, Enters, Leaves, Trace, steps_of}
use Rattle.base_relations.specs.Unfolding.{ways_at, stays, IsUnfolding}
use Rattle.base_relations.specs.inside.Expansions.{unfolded_by}
use Rattle.base_relations.specs.inside.Trails.{todo_step, todo_steps, plugged, called_node, called_ways, behind_way, done_items, IsGood, AreGood, ArePast, IsKept, IsPlanned, Advances, all_of, later_of, unfolded_of, first_length, IsTooLong, AreGoodWays}
use Rattle.base_relations.proofs.Combining.{append_nil}
use Rattle.base_relations.proofs.Expanding.{contains_tail, unfolding_is}
use Rattle.base_relations.proofs.Filling.{good_filled}
use Rattle.base_relations.proofs.Trailing.{keeps, enters, next_way, no_way, stay_shorter, enter_shorter, too_long}

pub is_false : (b : Bool) → not b ≡ true → b ≡ false
is_false true e = absurd (let f : ⊥ = cc in f)
is_false false e = refl

pub is_true : (b : Bool) → not b ≡ false → b ≡ true
is_true true e = refl
is_true false e = absurd (let f : ⊥ = cc in f)

contains_at : {A : Type 0} (xs : List A) (i : ℕ) (d : A) → i < length xs → Contains xs (slice_index_or xs i d)
contains_at [] i d h = absurd (omega arith)
contains_at (x ∷ xs) zero d h = (0, omega arith, refl)
contains_at (x ∷ xs) (suc i) d h = contains_tail x xs (slice_index_or xs i d) (contains_at xs i d (omega arith))

drop_steps : (pending : List Todo) (k : ℕ) → todo_steps (drop k pending) ≡ drop k (todo_steps pending)
drop_steps [] zero = refl
drop_steps [] (suc k) = refl
drop_steps (t ∷ pending) zero = refl
drop_steps (t ∷ pending) (suc k) = drop_steps pending k

module _ (ways : List (List (List Item))) (covers : List ℕ) where
  behind : (s : Step) (steps : List Step) → AreGood ways covers (s ∷ steps) → AreGood ways covers steps
  behind (Does item) steps g = g.1
  behind (Enters args) steps g = g
  behind Leaves steps g = g

  drop_good : (steps : List Step) (k : ℕ) → AreGood ways covers steps → AreGood ways covers (drop k steps)
  drop_good [] zero g = g
  drop_good [] (suc k) g = g
  drop_good (s ∷ steps) zero g = g
  drop_good (s ∷ steps) (suc k) g = drop_good steps k (behind s steps g)

  items_good : (items : List Item) (rest : List Step) → ((item : Item) → Contains items item → IsGood ways covers item) → AreGood ways covers rest → AreGood ways covers (steps_of items ++ rest)
  items_good [] rest h g = g
  items_good (item ∷ items) rest h g = (h item (0, omega arith, refl), items_good items rest (λ i k. h i (contains_tail item items i k)) g)

module _ (plan : Plan) (planned : IsPlanned plan) where
  item_good : (n : ℕ) (way : List Item) → Contains (ways_at plan.ways n) way → (item : Item) → Contains way item → IsGood plan.ways plan.covers.covers item
  item_good n way is (Assume row) k h = absurd (cc)
  item_good n way is (Spend m) k h = absurd (cc)
  item_good n way is (Fresh v) k h = absurd (cc)
  item_good n way is (Call node args) k h = planned.calling n node way args is k h

  pub way_good : (n i : ℕ) (rest : List Step) → i < length (ways_at plan.ways n) → AreGood plan.ways plan.covers.covers rest → AreGood plan.ways plan.covers.covers (steps_of (slice_index_or (ways_at plan.ways n) i []) ++ rest)
  way_good n i rest h g =
      items_good plan.ways plan.covers.covers (slice_index_or (ways_at plan.ways n) i []) rest (item_good n (slice_index_or (ways_at plan.ways n) i []) (contains_at (ways_at plan.ways n) i [] h)) g

  pub good_ways : (n : ℕ) (ws : List (List Item)) → ws ≡ ways_at plan.ways n → AreGoodWays plan ws
  good_ways n ws e way is =
      subst (AreGood plan.ways plan.covers.covers) (append_nil (steps_of way))
      (items_good plan.ways plan.covers.covers way [] (item_good n way (subst (λ (vs : List (List Item)). Contains vs way) e is)) tt)

  u : IsUnfolding plan.ways plan.covers.covers (unfolded_by plan.ways plan.covers.covers plan.covers.ranks)
  u = unfolding_is plan.ways plan.covers.covers plan.covers.ranks planned

  filled : (steps : List Step) → AreGood plan.ways plan.covers.covers steps → 0 < length (unfolded_by plan.ways plan.covers.covers plan.covers.ranks steps)
  filled = good_filled plan.ways plan.covers.covers plan.covers.ranks planned

  -- ---- where it begins
  pub start_keeps : (done : List Done) (pending : List Todo) (items : ℕ) (steps : List Step) → done ≡ [] → todo_steps pending ≡ steps → items ≡ 0 → AreGood plan.ways plan.covers.covers steps → IsKept plan done pending items
  start_keeps done pending items steps e f n g =
      rw (e, n) (record { past_good = tt; todo_good = subst (AreGood plan.ways plan.covers.covers) (sym f) g; count = refl; few = omega arith })

  -- ---- an item stays
  pub stay_keeps : (done new_done : List Done) (item : Bor Item) (pending new_pending : List Todo) (items new_items : ℕ) → IsKept plan done (todo.Item item ∷ pending) items
      → new_done ≡ past.Item item ∷ done → new_pending ≡ pending → (new_items ≡ items + 1) × (new_items ≤ 4096) → IsKept plan new_done new_pending new_items
  stay_keeps done new_done item pending new_pending items new_items kept e f n =
      rw (e, f) (record { past_good = (kept.todo_good.0, kept.past_good); todo_good = kept.todo_good.1; count = let k = kept.count in omega (arith, n.0); few = n.1 })

  pub stay_goes : (done new_done : List Done) (item : Bor Item) (pending new_pending : List Todo) (items : ℕ) → IsKept plan done (todo.Item item ∷ pending) items → stays plan.covers.covers (Does item.now) ≡ true
      → new_done ≡ past.Item item ∷ done → new_pending ≡ pending → Advances plan done (Does item.now ∷ todo_steps pending) new_done new_pending
  stay_goes done new_done item pending new_pending items kept h e f =
      rw (e, f) (record {
        same = keeps plan.ways plan.covers.covers (unfolded_by plan.ways plan.covers.covers plan.covers.ranks) u done (past.Item item) (Does item.now) (todo_steps pending) h refl refl;
        shorter = stay_shorter plan.ways plan.covers.covers (unfolded_by plan.ways plan.covers.covers plan.covers.ranks) u (Does item.now) (todo_steps pending) h (filled (todo_steps pending) kept.todo_good.1);
      })

  pub stay_long : (done : List Done) (item : Bor Item) (pending : List Todo) (items : ℕ) → IsKept plan done (todo.Item item ∷ pending) items → stays plan.covers.covers (Does item.now) ≡ true → items ≡ 4096
      → IsTooLong (all_of plan done (Does item.now ∷ todo_steps pending))
  stay_long done item pending items kept h full =
      too_long plan.ways plan.covers.covers (unfolded_by plan.ways plan.covers.covers plan.covers.ranks) u done item.now (todo_steps pending) h (filled (todo_steps pending) kept.todo_good.1) (sym kept.count ∙ full)

  -- ---- a rule ends
  pub leave_keeps : (done new_done : List Done) (pending new_pending : List Todo) (items new_items : ℕ) → IsKept plan done (todo.Leave ∷ pending) items
      → new_done ≡ past.Leave ∷ done → new_pending ≡ pending → new_items ≡ items → IsKept plan new_done new_pending new_items
  leave_keeps done new_done pending new_pending items new_items kept e f n =
      rw (e, f, n) (record { past_good = kept.past_good; todo_good = kept.todo_good; count = kept.count; few = kept.few })

  pub leave_goes : (done new_done : List Done) (pending new_pending : List Todo) (items : ℕ) → IsKept plan done (todo.Leave ∷ pending) items
      → new_done ≡ past.Leave ∷ done → new_pending ≡ pending → Advances plan done (Leaves ∷ todo_steps pending) new_done new_pending
  leave_goes done new_done pending new_pending items kept e f =
      rw (e, f) (record {
        same = keeps plan.ways plan.covers.covers (unfolded_by plan.ways plan.covers.covers plan.covers.ranks) u done past.Leave Leaves (todo_steps pending) refl refl refl;
        shorter = stay_shorter plan.ways plan.covers.covers (unfolded_by plan.ways plan.covers.covers plan.covers.ranks) u Leaves (todo_steps pending) refl (filled (todo_steps pending) kept.todo_good);
      })

  -- ---- a call is replaced
  pub enter_keeps : (done new_done : List Done) (item : Bor Item) (way : ℕ) (rest : List Step) (new_pending : List Todo) (items new_items : ℕ)
      → stays plan.covers.covers (Does item.now) ≡ false → way < length (called_ways plan item.now)
      → AreGood plan.ways plan.covers.covers rest → items ≡ done_items done → items ≤ 4096 → ArePast plan.ways plan.covers.covers done
      → new_done ≡ past.Enter item way ∷ done → todo_steps new_pending ≡ steps_of (slice_index_or (called_ways plan item.now) way []) ++ Leaves ∷ rest → new_items ≡ items
      → IsKept plan new_done new_pending new_items
  enter_keeps done new_done item way rest new_pending items new_items h low g count few past_ok e f n =
      rw (e, n) (record {
        past_good = (h, low, past_ok);
        todo_good = subst (AreGood plan.ways plan.covers.covers) (sym f) (way_good (called_node item.now) way (Leaves ∷ rest) low g);
        count = count;
        few = few;
      })

  pub enter_goes : (done new_done : List Done) (item : Bor Item) (pending new_pending : List Todo) (items : ℕ) → IsKept plan done (todo.Item item ∷ pending) items → stays plan.covers.covers (Does item.now) ≡ false
      → new_done ≡ past.Enter item 0 ∷ done → todo_steps new_pending ≡ steps_of (slice_index_or (called_ways plan item.now) 0 []) ++ Leaves ∷ todo_steps pending
      → Advances plan done (Does item.now ∷ todo_steps pending) new_done new_pending
  enter_goes done new_done item pending new_pending items kept h e f =
      let some : 0 < length (called_ways plan item.now) = kept.todo_good.0 h in
      let new = steps_of (slice_index_or (called_ways plan item.now) 0 []) ++ Leaves ∷ todo_steps pending in
      let good : AreGood plan.ways plan.covers.covers new = way_good (called_node item.now) 0 (Leaves ∷ todo_steps pending) some kept.todo_good.1 in
      rw e (record {
        same = ap (all_of plan (past.Enter item 0 ∷ done)) f ∙ enters plan.ways plan.covers.covers (unfolded_by plan.ways plan.covers.covers plan.covers.ranks) u done item (todo_steps pending) h some;
        shorter =
            subst (λ (steps : List Step). first_length (unfolded_of plan steps) < first_length (unfolded_of plan (Does item.now ∷ todo_steps pending))) (sym f)
            (enter_shorter plan.ways plan.covers.covers (unfolded_by plan.ways plan.covers.covers plan.covers.ranks) u item.now (todo_steps pending) h some (filled new good));
      })

  -- ---- back
  pub item_back : (done new_done : List Done) (item : Bor Item) (pending new_pending : List Todo) (items new_items : ℕ) → IsKept plan (past.Item item ∷ done) pending items
      → new_done ≡ done → new_pending ≡ todo.Item item ∷ pending → new_items + 1 ≡ items → IsKept plan new_done new_pending new_items
  item_back done new_done item pending new_pending items new_items kept e f n =
      rw (e, f) (record { past_good = kept.past_good.1; todo_good = (kept.past_good.0, kept.todo_good); count = let k = kept.count in omega arith; few = let k = kept.few in omega arith })

  pub item_later : (done new_done : List Done) (item : Bor Item) (pending new_pending : List Todo) → new_done ≡ done → new_pending ≡ todo.Item item ∷ pending
      → later_of plan new_done (todo_steps new_pending) ≡ later_of plan (past.Item item ∷ done) (todo_steps pending)
  item_later done new_done item pending new_pending e f = rw (e, f) refl

  pub leave_back : (done new_done : List Done) (pending new_pending : List Todo) (items new_items : ℕ) → IsKept plan (past.Leave ∷ done) pending items
      → new_done ≡ done → new_pending ≡ todo.Leave ∷ pending → new_items ≡ items → IsKept plan new_done new_pending new_items
  leave_back done new_done pending new_pending items new_items kept e f n =
      rw (e, f, n) (record { past_good = kept.past_good; todo_good = kept.todo_good; count = kept.count; few = kept.few })

  pub leave_later : (done new_done : List Done) (pending new_pending : List Todo) → new_done ≡ done → new_pending ≡ todo.Leave ∷ pending
      → later_of plan new_done (todo_steps new_pending) ≡ later_of plan (past.Leave ∷ done) (todo_steps pending)
  leave_later done new_done pending new_pending e f = rw (e, f) refl

  behind_steps : (item : Bor Item) (way : ℕ) (pending : List Todo) → steps_of (slice_index_or (called_ways plan item.now) (suc way) []) ++ Leaves ∷ todo_steps (drop (suc (length (slice_index_or (called_ways plan item.now) way []))) pending)
      ≡ steps_of (slice_index_or (called_ways plan item.now) (suc way) []) ++ Leaves ∷ behind_way plan.ways item.now way (todo_steps pending)
  behind_steps item way pending = ap (λ (r : List Step). steps_of (slice_index_or (called_ways plan item.now) (suc way) []) ++ Leaves ∷ r) (drop_steps pending (suc (length (slice_index_or (called_ways plan item.now) way []))))

  -- the next way
  pub next_keeps : (done new_done : List Done) (item : Bor Item) (way : ℕ) (pending new_pending : List Todo) (items new_items : ℕ) → IsKept plan (past.Enter item way ∷ done) pending items
      → suc way < length (called_ways plan item.now) → new_done ≡ past.Enter item (suc way) ∷ done
      → todo_steps new_pending ≡ steps_of (slice_index_or (called_ways plan item.now) (suc way) []) ++ Leaves ∷ todo_steps (drop (suc (length (slice_index_or (called_ways plan item.now) way []))) pending)
      → new_items ≡ items → IsKept plan new_done new_pending new_items
  next_keeps done new_done item way pending new_pending items new_items kept low e f n =
      enter_keeps done new_done item (suc way) (behind_way plan.ways item.now way (todo_steps pending)) new_pending items new_items kept.past_good.0 low
      (drop_good plan.ways plan.covers.covers (todo_steps pending) (suc (length (slice_index_or (called_ways plan item.now) way []))) kept.todo_good) kept.count kept.few kept.past_good.2 e (f ∙ behind_steps item way pending) n

  pub next_all : (done new_done : List Done) (item : Bor Item) (way : ℕ) (pending new_pending : List Todo) → suc way < length (called_ways plan item.now) → new_done ≡ past.Enter item (suc way) ∷ done
      → todo_steps new_pending ≡ steps_of (slice_index_or (called_ways plan item.now) (suc way) []) ++ Leaves ∷ todo_steps (drop (suc (length (slice_index_or (called_ways plan item.now) way []))) pending)
      → all_of plan new_done (todo_steps new_pending) ≡ later_of plan (past.Enter item way ∷ done) (todo_steps pending)
  next_all done new_done item way pending new_pending low e f =
      rw e (ap (all_of plan (past.Enter item (suc way) ∷ done)) (f ∙ behind_steps item way pending) ∙ next_way plan.ways plan.covers.covers (unfolded_by plan.ways plan.covers.covers plan.covers.ranks) u done item way (todo_steps pending) low)

  -- no way is left
  pub none_keeps : (done new_done : List Done) (item : Bor Item) (way : ℕ) (pending new_pending : List Todo) (items new_items : ℕ) → IsKept plan (past.Enter item way ∷ done) pending items
      → new_done ≡ done → new_pending ≡ todo.Item item ∷ drop (suc (length (slice_index_or (called_ways plan item.now) way []))) pending → new_items ≡ items → IsKept plan new_done new_pending new_items
  none_keeps done new_done item way pending new_pending items new_items kept e f n =
      let k = suc (length (slice_index_or (called_ways plan item.now) way [])) in
      let some : 0 < length (called_ways plan item.now) = let low = kept.past_good.1 in omega arith in
      rw (e, f, n) (record {
        past_good = kept.past_good.2;
        todo_good = (λ _. some, subst (AreGood plan.ways plan.covers.covers) (sym (drop_steps pending k)) (drop_good plan.ways plan.covers.covers (todo_steps pending) k kept.todo_good));
        count = kept.count;
        few = kept.few;
      })

  pub none_later : (done new_done : List Done) (item : Bor Item) (way : ℕ) (pending new_pending : List Todo) → length (called_ways plan item.now) ≤ suc way
      → new_done ≡ done → new_pending ≡ todo.Item item ∷ drop (suc (length (slice_index_or (called_ways plan item.now) way []))) pending
      → later_of plan new_done (todo_steps new_pending) ≡ later_of plan (past.Enter item way ∷ done) (todo_steps pending)
  none_later done new_done item way pending new_pending h e f =
      rw (e, f)
      (ap (λ (steps : List Step). later_of plan done (Does item.now ∷ steps)) (drop_steps pending (suc (length (slice_index_or (called_ways plan item.now) way []))))
      ∙ no_way plan.ways plan.covers.covers (unfolded_by plan.ways plan.covers.covers plan.covers.ranks) u done item way (todo_steps pending) h)

  -- ---- a rule is whole
  pub ended : (done : List Done) → all_of plan done [] ≡ plugged done [] ∷ later_of plan done []
  ended done = ap (λ (traces : List Trace). map (plugged done) traces ++ later_of plan done []) u.nothing

  -- what comes isn't nothing
  pub all_filled : (done : List Done) (pending : List Todo) (items : ℕ) → IsKept plan done pending items → 0 < length (all_of plan done (todo_steps pending))
  all_filled done pending items kept =
      let some = filled (todo_steps pending) kept.todo_good in
      let more = length-append (map (plugged done) (unfolded_of plan (todo_steps pending))) (later_of plan done (todo_steps pending)) in
      let same = length-map (unfolded_of plan (todo_steps pending)) (plugged done) in
      omega arith
