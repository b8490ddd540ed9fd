-- The fault of an item, by what is found out about it.
use Rattle.std.proofs.Common.{◌≡◌, ℕ, ◌+◌, ◌<◌, ◌≤◌, nat_lt, ◌==◌, not, ◌&&◌, length, slice_get, Bool, true, false, List, [], ◌∷◌, Option, Some, None, Result, Ok, Err, IsTrue, if◌then◌else◌, refl, sym, ap, ◌∙◌, subst}
use Rattle.std.proofs.lemmas.Bool.{lt-ltb, le-ltb, eq-eqb, eqb-true}
use Rattle.std.specs.List.{list_all}
use Rattle.rule_terms.specs.declared.item.Item.{Item}
use Rattle.relations.specs.declared.fault.RelFault.{RelFault}
use Rattle.relations.specs.declared.fault.RelFault.TheVariants.{Arity, Range, TooManyTerms}
use Rattle.relations.specs.Scope.{is_in_range, has_arity, is_bound, lin_bound, fits_sizes, item_fault, item_terms, term_limit}
use Rattle.lin_rows.specs.Linear.{Linear}
use Rattle.lin_rows.specs.declared.row.Row.{Row}
use Rattle.rule_terms.specs.declared.item.Item.TheVariants.{Assume, Spend, Fresh, Call}
use Rattle.relations.specs.declared.walk.Mark.{Mark}
use Rattle.relations.specs.declared.walk.Mark.TheVariants.{Made, Second}
use Rattle.relations.specs.inside.Walk.{Steps, WithinLimit, Restarts, restarted, marks_walk}
use Rattle.relations.proofs.Walking.{scoped_room, scoped_full}

pub out_of_range : (nodes : List ℕ) (sizes : ℕ) (made : List ℕ) (count : ℕ) (item : Item) → is_in_range nodes sizes made item ≡ false → item_fault nodes sizes made count item ≡ Some Range
unfolding item_fault
out_of_range nodes sizes made count item e =
    ap (λ (b : Bool). if b then (if has_arity nodes item then (if nat_lt term_limit (count + item_terms item) then Some TooManyTerms else None) else Some Arity) else Some Range) e

pub wrong_arity : (nodes : List ℕ) (sizes : ℕ) (made : List ℕ) (count : ℕ) (item : Item) → is_in_range nodes sizes made item ≡ true → has_arity nodes item ≡ false → item_fault nodes sizes made count item ≡ Some Arity
unfolding item_fault
wrong_arity nodes sizes made count item e f =
    ap (λ (b : Bool). if b then (if has_arity nodes item then (if nat_lt term_limit (count + item_terms item) then Some TooManyTerms else None) else Some Arity) else Some Range) e
    ∙ ap (λ (b : Bool). if b then (if nat_lt term_limit (count + item_terms item) then Some TooManyTerms else None) else Some Arity) f

pub steps_within : (nodes : List ℕ) (sizes : ℕ) (made : List ℕ) (count : ℕ) (item : Item) (result : Result ℕ RelFault) → is_in_range nodes sizes made item ≡ true → has_arity nodes item ≡ true → WithinLimit count (item_terms item) result → Steps (item_fault nodes sizes made count item) (item_terms item) result
steps_within nodes sizes made count item (Ok n) range arity w = (scoped_room nodes sizes made count item range arity w.1, w.0)
steps_within nodes sizes made count item (Err e) range arity w = scoped_full nodes sizes made count item range arity w.1 ∙ ap Some (sym w.0)

-- ---- each kind of item
pub row_unknown : (nodes : List ℕ) (sizes : ℕ) (made : List ℕ) (count : ℕ) (row : Row) → lin_bound sizes made row.lin ≡ false → item_fault nodes sizes made count (Assume row) ≡ Some Range
row_unknown nodes sizes made count row e = out_of_range nodes sizes made count (Assume row) e

pub row_steps : (nodes : List ℕ) (sizes : ℕ) (made : List ℕ) (count : ℕ) (row : Row) (result : Result ℕ RelFault) → lin_bound sizes made row.lin ≡ true → WithinLimit count (item_terms (Assume row)) result → Steps (item_fault nodes sizes made count (Assume row)) (item_terms (Assume row)) result
row_steps nodes sizes made count row result e w = steps_within nodes sizes made count (Assume row) result e refl w

pub spend_steps : (nodes : List ℕ) (sizes : ℕ) (made : List ℕ) (count n : ℕ) (result : Result ℕ RelFault) → WithinLimit count 1 result → Steps (item_fault nodes sizes made count (Spend n)) 1 result
spend_steps nodes sizes made count n result w = steps_within nodes sizes made count (Spend n) result refl refl w

pub fresh_known : (nodes : List ℕ) (sizes : ℕ) (made : List ℕ) (count v : ℕ) → is_bound sizes made v ≡ true → item_fault nodes sizes made count (Fresh v) ≡ Some Range
fresh_known nodes sizes made count v e = out_of_range nodes sizes made count (Fresh v) (ap not e)

pub fresh_steps : (nodes : List ℕ) (sizes : ℕ) (made : List ℕ) (count v : ℕ) (result : Result ℕ RelFault) → is_bound sizes made v ≡ false → WithinLimit count 1 result → Steps (item_fault nodes sizes made count (Fresh v)) 1 result
fresh_steps nodes sizes made count v result e w = steps_within nodes sizes made count (Fresh v) result (ap not e) refl w

abbrev pub all_bound : ℕ → List ℕ → List Linear → Bool
all_bound sizes made args = list_all (λ (l : Linear). lin_bound sizes made l) args

not_equal : (a b : ℕ) → (a ≡ b → ⊥) → (a == b) ≡ false
not_equal a b other = tested (a == b) (λ e. other (eqb-true a b e))
  where
    tested : (t : Bool) → (t ≡ true → ⊥) → t ≡ false
    tested true h = absurd (h refl)
    tested false h = refl

pub call_no_node : (nodes : List ℕ) (sizes : ℕ) (made : List ℕ) (count node : ℕ) (args : List Linear) → length nodes ≤ node → item_fault nodes sizes made count (Call node args) ≡ Some Range
call_no_node nodes sizes made count node args past =
    out_of_range nodes sizes made count (Call node args) (ap (λ b. b && all_bound sizes made args) (le-ltb node (length nodes) past))

pub call_unknown : (nodes : List ℕ) (sizes : ℕ) (made : List ℕ) (count node : ℕ) (args : List Linear) → node < length nodes → all_bound sizes made args ≡ false → item_fault nodes sizes made count (Call node args) ≡ Some Range
call_unknown nodes sizes made count node args low e =
    out_of_range nodes sizes made count (Call node args) (ap (λ b. b && all_bound sizes made args) (lt-ltb node (length nodes) low) ∙ e)

pub call_arity : (nodes : List ℕ) (sizes : ℕ) (made : List ℕ) (count node : ℕ) (args : List Linear) (k : ℕ) → node < length nodes → all_bound sizes made args ≡ true → slice_get nodes node ≡ Some k → (length args ≡ k → ⊥) → item_fault nodes sizes made count (Call node args) ≡ Some Arity
call_arity nodes sizes made count node args k low e at other =
    wrong_arity nodes sizes made count (Call node args) (ap (λ b. b && all_bound sizes made args) (lt-ltb node (length nodes) low) ∙ e) (ap (fits_sizes (length args)) at ∙ not_equal (length args) k other)

pub call_steps : (nodes : List ℕ) (sizes : ℕ) (made : List ℕ) (count node : ℕ) (args : List Linear) (k : ℕ) (result : Result ℕ RelFault) → node < length nodes → all_bound sizes made args ≡ true → slice_get nodes node ≡ Some k → length args ≡ k → WithinLimit count (item_terms (Call node args)) result → Steps (item_fault nodes sizes made count (Call node args)) (item_terms (Call node args)) result
call_steps nodes sizes made count node args k result low e at same w =
    steps_within nodes sizes made count (Call node args) result (ap (λ b. b && all_bound sizes made args) (lt-ltb node (length nodes) low) ∙ e) (ap (fits_sizes (length args)) at ∙ eq-eqb (length args) k same) w

-- ---- marks
-- a fault stays the fault, whatever parts are still to be read
pub stops : (nodes : List ℕ) (sizes : ℕ) (marks : List Mark) (e : RelFault) → marks_walk nodes sizes marks (Err e) ≡ Err e
stops nodes sizes [] e = refl
stops nodes sizes (Made v ∷ marks) e = stops nodes sizes marks e
stops nodes sizes (Second rule along ∷ marks) e = stops nodes sizes marks e

pub restarts : (before along : ℕ) (result : Result ℕ RelFault) → WithinLimit before along result → Restarts before along result
restarts before along (Ok n) w = (w.0, w.1, λ second. ap (λ (b : Bool). if b then Err TooManyTerms else second before) (le-ltb term_limit (before + along) w.1))
restarts before along (Err e) w = λ second. ap (λ (b : Bool). if b then Err TooManyTerms else second before) (lt-ltb term_limit (before + along) w.1) ∙ ap Err (sym w.0)
