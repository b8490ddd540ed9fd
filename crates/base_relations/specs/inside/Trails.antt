-- A rule whose calls are being replaced: what was looked at, the latest first, and what is still to be looked at.
use Rattle.std.specs.Prelude.{◌≡◌, ℕ, zero, suc, ◌<◌, ◌≤◌, false, List, [], ◌∷◌, ◌++◌, map, length, drop, slice_index_or}
use Rattle.std.specs.List.{flat_map, Contains}
use Rattle.lin_rows.specs.Linear.{Linear}
use Rattle.rule_terms.specs.declared.item.Item.{Item}
use Rattle.rule_terms.specs.declared.item.Item.TheVariants.{Assume, Spend, Fresh, Call}
use Rattle.base_relations.specs.declared.part.Todo.{Todo}
use Rattle.base_relations.specs.declared.part.Todo.TheVariants as todo
use Rattle.base_relations.specs.declared.part.Done.{Done}
use Rattle.base_relations.specs.declared.part.Done.TheVariants as past
use Rattle.base_relations.specs.declared.plan.Plan.{Plan}
use Rattle.base_relations.specs.inside.Expansions.{IsPlan, unfolded_by}
use Rattle.base_relations.specs.Steps.{Step, Does, Enters, Leaves, Trace, steps_of}
use Rattle.base_relations.specs.Unfolding.{ways_at, stays}
use Rattle.base_relations.specs.Limits.{total, items_at}

abbrev pub called_node : Item → ℕ
called_node (Assume row) = 0
called_node (Spend n) = 0
called_node (Fresh v) = 0
called_node (Call node args) = node

abbrev pub called_args : Item → List Linear
called_args (Assume row) = []
called_args (Spend n) = []
called_args (Fresh v) = []
called_args (Call node args) = args

-- ---- steps
abbrev pub todo_step : Todo → Step
todo_step (todo.Item item) = Does item.now
todo_step todo.Leave = Leaves

abbrev pub todo_steps : List Todo → List Step
todo_steps pending = map todo_step pending

abbrev pub done_step : Done → Step
done_step (past.Item item) = Does item.now
done_step (past.Enter item way) = Enters (called_args item.now)
done_step past.Leave = Leaves

-- the steps of what was looked at, before others
abbrev pub plugged : List Done → Trace → Trace
plugged [] t = t
plugged (d ∷ done) t = plugged done (done_step d ∷ t)

-- ---- what comes of it
-- a call is replaced by each of some ways
abbrev pub by_ways : (List Step → List Trace) → List Linear → List Step → List (List Item) → List Trace
by_ways unfolded args rest ways = flat_map (λ (way : List Item). map (λ (t : Trace). Enters args ∷ t) (unfolded (steps_of way ++ Leaves ∷ rest))) ways

-- what stands behind the rule that a call was replaced by
abbrev pub behind_way : List (List (List Item)) → Item → ℕ → List Step → List Step
behind_way ways item way steps = drop (suc (length (slice_index_or (ways_at ways (called_node item)) way []))) steps

-- what comes later, of the calls that were replaced, by the ways behind those that they are replaced by now
abbrev pub later : (List Step → List Trace) → List (List (List Item)) → List Done → List Step → List Trace
later unfolded ways [] steps = []
later unfolded ways (past.Item item ∷ done) steps = later unfolded ways done (Does item.now ∷ steps)
later unfolded ways (past.Enter item way ∷ done) steps =
    map (plugged done) (by_ways unfolded (called_args item.now) (behind_way ways item.now way steps) (drop (suc way) (ways_at ways (called_node item.now))))
    ++ later unfolded ways done (Does item.now ∷ behind_way ways item.now way steps)
later unfolded ways (past.Leave ∷ done) steps = later unfolded ways done (Leaves ∷ steps)

-- and what comes of it now, with what comes later
abbrev pub remaining : (List Step → List Trace) → List (List (List Item)) → List Done → List Step → List Trace
remaining unfolded ways done steps = map (plugged done) (unfolded steps) ++ later unfolded ways done steps

-- ---- what is kept
-- an item that is replaced has a way
abbrev pub IsGood : List (List (List Item)) → List ℕ → Item → Type 0
IsGood ways covers item = stays covers (Does item) ≡ false → 0 < length (ways_at ways (called_node item))

abbrev pub AreGood : List (List (List Item)) → List ℕ → List Step → Type 0
AreGood ways covers [] = Unit {0}
AreGood ways covers (Does item ∷ rest) = IsGood ways covers item × AreGood ways covers rest
AreGood ways covers (Enters args ∷ rest) = AreGood ways covers rest
AreGood ways covers (Leaves ∷ rest) = AreGood ways covers rest

abbrev pub ArePast : List (List (List Item)) → List ℕ → List Done → Type 0
ArePast ways covers [] = Unit {0}
ArePast ways covers (past.Item item ∷ done) = IsGood ways covers item.now × ArePast ways covers done
ArePast ways covers (past.Enter item way ∷ done) =
    (stays covers (Does item.now) ≡ false) × (way < length (ways_at ways (called_node item.now))) × ArePast ways covers done
ArePast ways covers (past.Leave ∷ done) = ArePast ways covers done

abbrev pub done_items : List Done → ℕ
done_items [] = 0
done_items (past.Item item ∷ done) = suc (done_items done)
done_items (past.Enter item way ∷ done) = done_items done
done_items (past.Leave ∷ done) = done_items done

pub record IsTrail (ways : List (List (List Item))) (covers : List ℕ) (done : List Done) (pending : List Todo) (items : ℕ) : Type 0 where
  pub past_good : ArePast ways covers done
  pub todo_good : AreGood ways covers (todo_steps pending)
  pub count : items ≡ done_items done
  pub few : items ≤ 4096

-- ---- what functions do
abbrev pub first_length : List Trace → ℕ
first_length [] = 0
first_length (t ∷ traces) = length t

-- what comes is the same, and the first of it is nearer to its end
pub record GoesOn (unfolded : List Step → List Trace) (ways : List (List (List Item))) (old_done : List Done) (old : List Step) (done : List Done) (pending : List Todo) : Type 0 where
  pub same : remaining unfolded ways done (todo_steps pending) ≡ remaining unfolded ways old_done old
  pub shorter : first_length (unfolded (todo_steps pending)) < first_length (unfolded old)

-- the first that comes has too many items
abbrev pub IsTooLong : List Trace → Type 0
IsTooLong traces = (first : Trace) × (rest : List Trace) × (traces ≡ first ∷ rest) × (4096 < total items_at first)

-- ---- of a plan and a trail
abbrev pub IsPlanned : Plan → Type 0
IsPlanned plan = IsPlan plan.ways plan.covers.covers plan.covers.ranks

abbrev pub unfolded_of : Plan → List Step → List Trace
unfolded_of plan steps = unfolded_by plan.ways plan.covers.covers plan.covers.ranks steps

abbrev pub all_of : Plan → List Done → List Step → List Trace
all_of plan done steps = remaining (unfolded_by plan.ways plan.covers.covers plan.covers.ranks) plan.ways done steps

abbrev pub later_of : Plan → List Done → List Step → List Trace
later_of plan done steps = later (unfolded_by plan.ways plan.covers.covers plan.covers.ranks) plan.ways done steps

abbrev pub IsKept : Plan → List Done → List Todo → ℕ → Type 0
IsKept plan done pending items = IsTrail plan.ways plan.covers.covers done pending items

abbrev pub Advances : Plan → List Done → List Step → List Done → List Todo → Type 0
Advances plan old_done old done pending = GoesOn (unfolded_by plan.ways plan.covers.covers plan.covers.ranks) plan.ways old_done old done pending

-- the ways of the node that an item calls
abbrev pub called_ways : Plan → Item → List (List Item)
called_ways plan item = ways_at plan.ways (called_node item)

abbrev pub AreGoodWays : Plan → List (List Item) → Type 0
AreGoodWays plan ways = (way : List Item) → Contains ways way → AreGood plan.ways plan.covers.covers (steps_of way)

-- what comes of ways, in order
abbrev pub ways_traces : Plan → List (List Item) → List Trace
ways_traces plan ways = flat_map (λ (way : List Item). unfolded_of plan (steps_of way)) ways
