-- A rule that is read as a tree: what stands before a part is counted once for each way through the part.
use Rattle.std.specs.Prelude.{◌≡◌, ◌≢◌, ◌≤◌, ◌<◌, ℕ, ◌+◌, nat_lt, nat_eq, Bool, false, List, [], ◌∷◌, Option, Some, None, Result, Ok, Err, if◌then◌else◌}
use Rattle.lin_rows.specs.Linear.{Linear}
use Rattle.lin_rows.specs.declared.row.Row.{Row}
use Rattle.rule_terms.specs.declared.item.Item.{Item}
use Rattle.rule_terms.specs.declared.item.Item.TheVariants.{Assume, Spend, Fresh, Call}
use Rattle.rule_terms.specs.Terms.{Term, Ends, Assumes, Spends, Makes, Calls, Either, term_of}
use Rattle.relations.specs.declared.fault.RelFault.{RelFault}
use Rattle.relations.specs.declared.fault.RelFault.TheVariants.{TooManyTerms, Memory}
use Rattle.relations.specs.declared.walk.Mark.{Mark}
use Rattle.relations.specs.declared.walk.Mark.TheVariants.{Made, Second}
use Rattle.relations.specs.Scope.{item_fault, item_terms, path_fault, path_terms, made_after, term_limit}

-- how many parts a term has
abbrev pub size_of : Term → ℕ
size_of Ends = 1
size_of (Assumes row rest) = size_of rest + 1
size_of (Spends n rest) = size_of rest + 1
size_of (Makes v rest) = size_of rest + 1
size_of (Calls node args rest) = size_of rest + 1
size_of (Either first second) = size_of first + size_of second + 1

-- each node has few sizes
abbrev pub AreSmall : List ℕ → Type 0
AreSmall [] = Unit {0}
AreSmall (size ∷ sizes) = (size ≤ 32) × AreSmall sizes

-- what stands behind an item, where the item has no fault
abbrev pub past : Option RelFault → Result ℕ RelFault → Result ℕ RelFault
past None behind = behind
past (Some e) behind = Err e

-- an item is read twice only to be counted: what was counted before and what stands before the second part may pass the limit
abbrev pub restarted : ℕ → (ℕ → Result ℕ RelFault) → Result ℕ RelFault → Result ℕ RelFault
restarted along second (Err e) = Err e
restarted along second (Ok before) = if nat_lt term_limit (before + along) then Err TooManyTerms else second before

-- What is counted behind all ways through a term, or its first fault: `along` was counted on the way to it, `before` on the
-- ways that are done.
abbrev pub term_walk : List ℕ → ℕ → List ℕ → ℕ → ℕ → Term → Result ℕ RelFault
term_walk nodes sizes made along before Ends = Ok (before + along)
term_walk nodes sizes made along before (Assumes row rest) =
    past (item_fault nodes sizes made (before + along) (Assume row)) (term_walk nodes sizes made (along + item_terms (Assume row)) before rest)
term_walk nodes sizes made along before (Spends n rest) =
    past (item_fault nodes sizes made (before + along) (Spend n)) (term_walk nodes sizes made (along + 1) before rest)
term_walk nodes sizes made along before (Makes v rest) =
    past (item_fault nodes sizes made (before + along) (Fresh v)) (term_walk nodes sizes (v ∷ made) (along + 1) before rest)
term_walk nodes sizes made along before (Calls node args rest) =
    past (item_fault nodes sizes made (before + along) (Call node args)) (term_walk nodes sizes made (along + item_terms (Call node args)) before rest)
term_walk nodes sizes made along before (Either first second) =
    restarted along (λ b. term_walk nodes sizes made along b second) (term_walk nodes sizes made along before first)

-- ---- marks, the latest first
abbrev pub made_of : List Mark → List ℕ
made_of [] = []
made_of (Made v ∷ marks) = v ∷ made_of marks
made_of (Second rule along ∷ marks) = made_of marks

abbrev pub makes : ℕ → Mark → Bool
makes v (Made w) = nat_eq v w
makes v (Second rule along) = false

-- the second parts that are still to be read, each from what was counted on the way to it
abbrev pub marks_walk : List ℕ → ℕ → List Mark → Result ℕ RelFault → Result ℕ RelFault
marks_walk nodes sizes [] counted = counted
marks_walk nodes sizes (Made v ∷ marks) counted = marks_walk nodes sizes marks counted
marks_walk nodes sizes (Second rule along ∷ marks) counted =
    marks_walk nodes sizes marks (restarted along (λ b. term_walk nodes sizes (made_of marks) along b (term_of rule.now)) counted)

abbrev pub marks_size : List Mark → ℕ
marks_size [] = 0
marks_size (Made v ∷ marks) = marks_size marks
marks_size (Second rule along ∷ marks) = size_of (term_of rule.now) + marks_size marks

-- ---- what functions answer
-- an item's count, or its fault
abbrev pub Steps : Option RelFault → ℕ → Result ℕ RelFault → Type 0
Steps fault terms (Ok n) = (fault ≡ None) × (n ≡ terms)
Steps fault terms (Err e) = fault ≡ Some e

-- so many terms behind a count, where they don't pass the limit
abbrev pub WithinLimit : ℕ → ℕ → Result ℕ RelFault → Type 0
WithinLimit count terms (Ok n) = (n ≡ terms) × (count + terms ≤ term_limit)
WithinLimit count terms (Err e) = (e ≡ TooManyTerms) × (term_limit < count + terms)

-- what was counted on the way to a split, where it may be counted once more
abbrev pub Restarts : ℕ → ℕ → Result ℕ RelFault → Type 0
Restarts before along (Ok n) = (n ≡ along) × (before + along ≤ term_limit) × ((second : ℕ → Result ℕ RelFault) → restarted along second (Ok before) ≡ second before)
Restarts before along (Err e) = (second : ℕ → Result ℕ RelFault) → restarted along second (Ok before) ≡ Err e

-- what is counted, or the fault, but for want of memory
abbrev pub Gives : Result ℕ RelFault → Result ℕ RelFault → Type 0
Gives walked (Ok n) = walked ≡ Ok n
Gives walked (Err e) = e ≢ Memory → walked ≡ Err e

-- the second part that is read next
pub record Resumes (nodes : List ℕ) (sizes : ℕ) (old new : List Mark) (counted : Result ℕ RelFault) (rule : Term) (along : ℕ) : Type 0 where
  pub same : marks_walk nodes sizes old counted ≡ marks_walk nodes sizes new (restarted along (λ b. term_walk nodes sizes (made_of new) along b rule) counted)
  pub size : marks_size old ≡ size_of rule + marks_size new

-- ---- the same by lists
-- the variables that are made along items, the latest first
abbrev pub made_along : List Item → List ℕ → List ℕ
made_along [] made = made
made_along (item ∷ rest) made = made_along rest (made_after item made)

-- what is counted behind all paths, or the first fault
abbrev pub paths_walk : List ℕ → ℕ → ℕ → List (List Item) → Result ℕ RelFault
paths_walk nodes sizes count [] = Ok count
paths_walk nodes sizes count (path ∷ paths) = past (path_fault nodes sizes [] count path) (paths_walk nodes sizes (count + path_terms path) paths)
