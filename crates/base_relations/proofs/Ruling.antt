-- Rules that are made one after another.
use Rattle.std.proofs.Common.{◌≡◌, ℕ, zero, suc, ◌+◌, ◌<◌, ◌≤◌, List, [], ◌∷◌, ◌++◌, map, length, reverse, drop, get_or, Bool, Option, Result, Ok, Err, refl, sym, ap, ◌∙◌, arith, add-one, append_assoc, ⊎_elim}
use Rattle.std.specs.List.{flat_map}
use Rattle.std.proofs.lemmas.Bool.{cases_lt, lt-ltb, le-ltb}
use Rattle.std.proofs.lemmas.List.{drop_more, drop_all, map-append, reverse-append}
use Rattle.rule_terms.specs.declared.item.Item.{Item}
use Rattle.base_relations.specs.declared.fault.UnfoldFault.{UnfoldFault}
use Rattle.base_relations.specs.declared.fault.UnfoldFault.TheVariants.{TooManyRules, TooLongRule}
use Rattle.base_relations.specs.declared.part.Done.{Done}
use Rattle.base_relations.specs.Steps.{Step, Trace}
use Rattle.base_relations.specs.Limits.{◌>>=◌, total, items_at, rule_made, rules_made, base_rules, bases_made}
use Rattle.base_relations.specs.declared.part.Todo.{Todo}
use Rattle.base_relations.specs.declared.plan.Plan.{Plan}
use Rattle.base_relations.specs.inside.Trails.{done_step, todo_steps, plugged, IsTooLong, IsKept, IsPlanned, all_of, later_of, unfolded_of}
use Rattle.base_relations.proofs.Combining.{append_nil, map_itself}
use Rattle.base_relations.proofs.Trailing.{total_plugged}
use Rattle.base_relations.proofs.Looking.{ended}

pub rules_full : (sizes : ℕ) (done : List (List Item)) (traces : List Trace) → 1024 ≤ length done → 0 < length traces → rules_made sizes done traces ≡ Err TooManyRules
unfolding rules_made
rules_full sizes done [] h k = absurd (omega arith)
rules_full sizes done (t ∷ traces) h k = rw (le-ltb _ _ h) refl

rules_more : (sizes : ℕ) (done : List (List Item)) (t : Trace) (traces : List Trace) → length done < 1024 → rules_made sizes done (t ∷ traces) ≡ (rule_made sizes t >>= λ rule. rules_made sizes (done ++ rule ∷ []) traces)
unfolding rules_made
rules_more sizes done t traces h = rw (lt-ltb _ _ h) refl

pub rules_fault : (sizes : ℕ) (done : List (List Item)) (t : Trace) (traces all : List Trace) (e : UnfoldFault) → length done < 1024 → all ≡ t ∷ traces → rule_made sizes t ≡ Err e → rules_made sizes done all ≡ Err e
rules_fault sizes done t traces all e h is was = ap (rules_made sizes done) is ∙ rules_more sizes done t traces h ∙ ap (λ r. r >>= λ rule. rules_made sizes (done ++ rule ∷ []) traces) was

pub rules_rule : (sizes : ℕ) (done : List (List Item)) (t : Trace) (traces all : List Trace) (rule : List Item) → length done < 1024 → all ≡ t ∷ traces → rule_made sizes t ≡ Ok rule
    → rules_made sizes done all ≡ rules_made sizes (done ++ rule ∷ []) traces
rules_rule sizes done t traces all rule h is was = ap (rules_made sizes done) is ∙ rules_more sizes done t traces h ∙ ap (λ r. r >>= λ rule. rules_made sizes (done ++ rule ∷ []) traces) was

pub rules_end : (sizes : ℕ) (done : List (List Item)) → rules_made sizes done [] ≡ Ok done
unfolding rules_made
rules_end sizes done = refl

long_rule : (sizes : ℕ) (t : Trace) → 4096 < total items_at t → rule_made sizes t ≡ Err TooLongRule
unfolding rule_made
long_rule sizes t h = rw (lt-ltb _ _ h) refl

pub rules_long : (sizes : ℕ) (done : List (List Item)) (all : List Trace) → length done < 1024 → IsTooLong all → rules_made sizes done all ≡ Err TooLongRule
rules_long sizes done all h long = rules_fault sizes done long.0 long.1 all TooLongRule h long.2 (long_rule sizes long.0 long.3)

-- ---- the rules of several ways
one_more : (sizes : ℕ) (done : List (List Item)) (xs ys : List Trace) (r : Result (List Item) UnfoldFault)
    → ((rule : List Item) → rules_made sizes (done ++ rule ∷ []) (xs ++ ys) ≡ (rules_made sizes (done ++ rule ∷ []) xs >>= λ rules. rules_made sizes rules ys))
    → (r >>= λ rule. rules_made sizes (done ++ rule ∷ []) (xs ++ ys)) ≡ ((r >>= λ rule. rules_made sizes (done ++ rule ∷ []) xs) >>= λ rules. rules_made sizes rules ys)
one_more sizes done xs ys (Ok rule) inner = inner rule
one_more sizes done xs ys (Err e) inner = refl

pub rules_append : (sizes : ℕ) (done : List (List Item)) (xs ys : List Trace) → rules_made sizes done (xs ++ ys) ≡ (rules_made sizes done xs >>= λ rules. rules_made sizes rules ys)
rules_append sizes done [] ys = ap (λ r. r >>= λ rules. rules_made sizes rules ys) (sym (rules_end sizes done))
rules_append sizes done (t ∷ xs) ys =
    ⊎_elim
    (λ h. rules_more sizes done t (xs ++ ys) h ∙ one_more sizes done xs ys (rule_made sizes t) (λ rule. rules_append sizes (done ++ rule ∷ []) xs ys) ∙ ap (λ r. r >>= λ rules. rules_made sizes rules ys) (sym (rules_more sizes done t xs h)))
    (λ h. rules_full sizes done (t ∷ (xs ++ ys)) h (omega arith) ∙ ap (λ r. r >>= λ rules. rules_made sizes rules ys) (sym (rules_full sizes done (t ∷ xs) h (omega arith))))
    (cases_lt (length done) 1024)

way_more : (sizes : ℕ) (f : List Item → List Trace) (rules : List (List Item)) (ways : List (List Item)) (i : ℕ) (way : List Item) → i < length ways → way ≡ get_or ways i way
    → rules_made sizes rules (flat_map f (drop i ways)) ≡ (rules_made sizes rules (f way) >>= λ more. rules_made sizes more (flat_map f (drop (i + 1) ways)))
way_more sizes f rules ways i way low is =
    ap (λ (ws : List (List Item)). rules_made sizes rules (flat_map f ws)) (drop_more ways i way low)
    ∙ ap (λ (w : List Item). rules_made sizes rules (f w ++ flat_map f (drop (i + 1) ways))) (sym is) ∙ rules_append sizes rules (f way) (flat_map f (drop (i + 1) ways))

pub way_ok : (sizes : ℕ) (f : List Item → List Trace) (rules now : List (List Item)) (ways : List (List Item)) (i : ℕ) (way : List Item) (all : Result (List (List Item)) UnfoldFault) → i < length ways → way ≡ get_or ways i way
    → rules_made sizes rules (f way) ≡ Ok now → rules_made sizes rules (flat_map f (drop i ways)) ≡ all → rules_made sizes now (flat_map f (drop (i + 1) ways)) ≡ all
way_ok sizes f rules now ways i way all low is was h =
    ap (λ r. r >>= λ more. rules_made sizes more (flat_map f (drop (i + 1) ways))) (sym was) ∙ sym (way_more sizes f rules ways i way low is) ∙ h

pub way_err : (sizes : ℕ) (f : List Item → List Trace) (rules : List (List Item)) (ways : List (List Item)) (i : ℕ) (way : List Item) (all : Result (List (List Item)) UnfoldFault) (e : UnfoldFault) → i < length ways → way ≡ get_or ways i way
    → rules_made sizes rules (f way) ≡ Err e → rules_made sizes rules (flat_map f (drop i ways)) ≡ all → all ≡ Err e
way_err sizes f rules ways i way all e low is was h =
    sym h ∙ way_more sizes f rules ways i way low is ∙ ap (λ r. r >>= λ more. rules_made sizes more (flat_map f (drop (i + 1) ways))) was

pub way_end : (sizes : ℕ) (f : List Item → List Trace) (rules : List (List Item)) (ways : List (List Item)) (i : ℕ) (all : Result (List (List Item)) UnfoldFault) → length ways ≤ i
    → rules_made sizes rules (flat_map f (drop i ways)) ≡ all → all ≡ Ok rules
way_end sizes f rules ways i all high h = sym h ∙ ap (λ (ws : List (List Item)). rules_made sizes rules (flat_map f ws)) (drop_all i ways high) ∙ rules_end sizes rules

-- ---- the trace of what was looked at
pub plugged_is : (done : List Done) (t : Trace) → plugged done t ≡ map done_step (reverse done) ++ t
plugged_is [] t = refl
plugged_is (d ∷ done) t =
    plugged_is done (done_step d ∷ t)
    ∙ sym (ap (λ (ds : List Done). map done_step ds ++ t) (reverse-append (d ∷ []) done) ∙ ap (λ (ts : Trace). ts ++ t) (map-append done_step (reverse done) (d ∷ [])) ∙ append_assoc (map done_step (reverse done)) (done_step d ∷ []) t)

-- ---- nodes
bases_more : (has : ℕ → Bool) (traces : ℕ → List Trace) (done : List (Option (List (List Item)))) (sizes : List ℕ) (n k : ℕ) → n < length sizes → get_or sizes n 0 ≡ k
    → bases_made has traces done n (drop n sizes) ≡ (base_rules (has n) k (traces n) >>= λ rules. bases_made has traces (done ++ rules ∷ []) (n + 1) (drop (n + 1) sizes))
unfolding bases_made
bases_more has traces done sizes n k low is = rw (drop_more sizes n 0 low, is, add-one) refl

pub bases_ok : (has : ℕ → Bool) (traces : ℕ → List Trace) (done : List (Option (List (List Item)))) (sizes : List ℕ) (n k : ℕ) (rules : Option (List (List Item))) (all : Result (List (Option (List (List Item)))) UnfoldFault)
    → n < length sizes → get_or sizes n 0 ≡ k → base_rules (has n) k (traces n) ≡ Ok rules → bases_made has traces done n (drop n sizes) ≡ all → bases_made has traces (done ++ rules ∷ []) (n + 1) (drop (n + 1) sizes) ≡ all
bases_ok has traces done sizes n k rules all low is was h =
    ap (λ r. r >>= λ more. bases_made has traces (done ++ more ∷ []) (n + 1) (drop (n + 1) sizes)) (sym was) ∙ sym (bases_more has traces done sizes n k low is) ∙ h

pub bases_err : (has : ℕ → Bool) (traces : ℕ → List Trace) (done : List (Option (List (List Item)))) (sizes : List ℕ) (n k : ℕ) (e : UnfoldFault) (all : Result (List (Option (List (List Item)))) UnfoldFault)
    → n < length sizes → get_or sizes n 0 ≡ k → base_rules (has n) k (traces n) ≡ Err e → bases_made has traces done n (drop n sizes) ≡ all → all ≡ Err e
bases_err has traces done sizes n k e all low is was h =
    sym h ∙ bases_more has traces done sizes n k low is ∙ ap (λ r. r >>= λ more. bases_made has traces (done ++ more ∷ []) (n + 1) (drop (n + 1) sizes)) was

no_bases : (has : ℕ → Bool) (traces : ℕ → List Trace) (done : List (Option (List (List Item)))) (n : ℕ) → bases_made has traces done n [] ≡ Ok done
unfolding bases_made
no_bases has traces done n = refl

pub bases_end : (has : ℕ → Bool) (traces : ℕ → List Trace) (done : List (Option (List (List Item)))) (sizes : List ℕ) (n : ℕ) (all : Result (List (Option (List (List Item)))) UnfoldFault)
    → length sizes ≤ n → bases_made has traces done n (drop n sizes) ≡ all → all ≡ Ok done
bases_end has traces done sizes n all high h = sym h ∙ ap (bases_made has traces done n) (drop_all n sizes high) ∙ no_bases has traces done n

append_none : (t : Trace) → t ++ [] ≡ t
append_none [] = refl
append_none (s ∷ t) = ap (λ (r : Trace). s ∷ r) (append_none t)

pub trace_is : (done parts : List Done) → parts ≡ reverse done → map done_step parts ≡ plugged done []
trace_is done parts e = ap (map done_step) e ∙ sym (append_none (map done_step (reverse done))) ∙ sym (plugged_is done [])

pub few_items : (plan : Plan) (done parts : List Done) (pending : List Todo) (items : ℕ) → IsKept plan done pending items → parts ≡ reverse done → total items_at (map done_step parts) ≤ 4096
few_items plan done parts pending items kept e =
    let is = ap (total items_at) (trace_is done parts e) in
    let count = total_plugged done [] in
    let k = kept.count in
    let f = kept.few in
    omega arith

module _ (plan : Plan) (planned : IsPlanned plan) where
  whole : (old : List Trace) (done : List Done) (pending : List Todo) → pending ≡ [] → all_of plan done (todo_steps pending) ≡ old → old ≡ plugged done [] ∷ later_of plan done (todo_steps pending)
  whole old done pending e same =
      sym same ∙ ap (λ (p : List Todo). all_of plan done (todo_steps p)) e ∙ ended plan planned done ∙ ap (λ (p : List Todo). plugged done [] ∷ later_of plan done (todo_steps p)) (sym e)

  -- a rule is made
  pub turn_rule : (sizes : ℕ) (rules : List (List Item)) (old : List Trace) (done parts : List Done) (pending : List Todo) (rule : List Item) → length rules < 1024 → pending ≡ [] → all_of plan done (todo_steps pending) ≡ old
      → parts ≡ reverse done → rule_made sizes (map done_step parts) ≡ Ok rule → rules_made sizes rules old ≡ rules_made sizes (rules ++ rule ∷ []) (later_of plan done (todo_steps pending))
  turn_rule sizes rules old done parts pending rule low e same below was =
      rules_rule sizes rules (plugged done []) (later_of plan done (todo_steps pending)) old rule low (whole old done pending e same) (ap (rule_made sizes) (sym (trace_is done parts below)) ∙ was)

  pub turn_fault : (sizes : ℕ) (rules : List (List Item)) (old : List Trace) (done parts : List Done) (pending : List Todo) (fault : UnfoldFault) → length rules < 1024 → pending ≡ [] → all_of plan done (todo_steps pending) ≡ old
      → parts ≡ reverse done → rule_made sizes (map done_step parts) ≡ Err fault → rules_made sizes rules old ≡ Err fault
  turn_fault sizes rules old done parts pending fault low e same below was =
      rules_fault sizes rules (plugged done []) (later_of plan done (todo_steps pending)) old fault low (whole old done pending e same) (ap (rule_made sizes) (sym (trace_is done parts below)) ∙ was)

  -- where it begins
  pub begins : (done : List Done) (pending : List Todo) (steps : List Step) → done ≡ [] → todo_steps pending ≡ steps → all_of plan done (todo_steps pending) ≡ unfolded_of plan steps
  begins done pending steps e f =
      ap (λ (d : List Done). all_of plan d (todo_steps pending)) e ∙ ap (all_of plan []) f ∙ append_nil (map (λ (t : Trace). t) (unfolded_of plan steps)) ∙ map_itself (unfolded_of plan steps)
