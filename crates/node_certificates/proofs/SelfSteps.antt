-- The steps of items one after another are those of their self calls.
use Rattle.std.proofs.Common.{◌≡◌, ℕ, suc, nat_eq, Bool, true, false, List, [], ◌∷◌, ◌++◌, map, filter, if◌then◌else◌, refl, sym, ap, ◌∙◌}
use Rattle.std.specs.Prelude.{Result, Ok, Err, IfOk}
use Rattle.std.specs.declared.alloc.AllocError.{AllocError}
use Rattle.std.proofs.lemmas.List.{map-append}
use Rattle.lin_rows.specs.declared.row.Row.{Row}
use Rattle.lin_rows.specs.declared.row.Transition.{Transition}
use Rattle.rule_terms.specs.declared.item.Item.{Item}
use Rattle.rule_terms.specs.declared.item.Item.TheVariants.{Assume, Spend, Fresh, Call}
use Rattle.rankings.specs.SelfCalls.{Site, rows_of, sites_from, rules_sites, step_of, self_steps}
use Rattle.node_certificates.specs.inside.Steps.{call_step, steps_from, all_steps}

rows_more : (items : List Item) (item : Item) → rows_of (items ++ item ∷ []) ≡ rows_of items ++ rows_of (item ∷ [])
rows_more [] item = refl
rows_more (Assume row ∷ items) item = ap (λ (rs : List Row). row ∷ rs) (rows_more items item)
rows_more (Spend n ∷ items) item = rows_more items item
rows_more (Fresh v ∷ items) item = rows_more items item
rows_more (Call node args ∷ items) item = rows_more items item

no_more : (rows : List Row) → rows ++ [] ≡ rows
no_more [] = refl
no_more (r ∷ rows) = ap (λ (rs : List Row). r ∷ rs) (no_more rows)

module _ (self : ℕ) where
  abbrev IsSelf : Site → Bool
  IsSelf s = nat_eq s.node self

  by_call : (t : Bool) (s : Site) (sites : List Site) → map step_of (if t then s ∷ filter IsSelf sites else filter IsSelf sites) ≡ (if t then step_of s ∷ [] else []) ++ map step_of (filter IsSelf sites)
  by_call true s sites = refl
  by_call false s sites = refl

  pub sites_steps : (i j : ℕ) (before items : List Item) → map step_of (filter IsSelf (sites_from i j before items)) ≡ steps_from self (rows_of before) items
  sites_steps i j before [] = refl
  sites_steps i j before (Assume row ∷ rest) = sites_steps i j (before ++ Assume row ∷ []) rest ∙ ap (λ rs. steps_from self rs rest) (rows_more before (Assume row))
  sites_steps i j before (Spend n ∷ rest) = sites_steps i j (before ++ Spend n ∷ []) rest ∙ ap (λ rs. steps_from self rs rest) (rows_more before (Spend n) ∙ no_more (rows_of before))
  sites_steps i j before (Fresh v ∷ rest) = sites_steps i j (before ++ Fresh v ∷ []) rest ∙ ap (λ rs. steps_from self rs rest) (rows_more before (Fresh v) ∙ no_more (rows_of before))
  sites_steps i j before (Call node args ∷ rest) =
      let s : Site = record { rule = i; call = j; before = before; node = node; args = args } in
      by_call (nat_eq node self) s (sites_from i (suc j) (before ++ Call node args ∷ []) rest)
      ∙ ap (λ ts. call_step self (rows_of before) node args ++ ts)
      (sites_steps i (suc j) (before ++ Call node args ∷ []) rest ∙ ap (λ rs. steps_from self rs rest) (rows_more before (Call node args) ∙ no_more (rows_of before)))

  filter_append : (xs ys : List Site) → filter IsSelf (xs ++ ys) ≡ filter IsSelf xs ++ filter IsSelf ys
  filter_append [] ys = refl
  filter_append (x ∷ xs) ys = at (nat_eq x.node self) (filter_append xs ys)
    where
      at : (t : Bool) → filter IsSelf (xs ++ ys) ≡ filter IsSelf xs ++ filter IsSelf ys → (if t then x ∷ filter IsSelf (xs ++ ys) else filter IsSelf (xs ++ ys)) ≡ (if t then x ∷ filter IsSelf xs else filter IsSelf xs) ++ filter IsSelf ys
      at true e = ap (λ (s : List Site). x ∷ s) e
      at false e = e

  rules_from : (i : ℕ) (rules : List (List Item)) → map step_of (filter IsSelf (rules_sites i rules)) ≡ all_steps self rules
  rules_from i [] = refl
  rules_from i (rule ∷ rules) =
      ap (map step_of) (filter_append (sites_from i 1 [] rule) (rules_sites (suc i) rules))
      ∙ map-append step_of (filter IsSelf (sites_from i 1 [] rule)) (filter IsSelf (rules_sites (suc i) rules))
      ∙ ap (λ ts. ts ++ map step_of (filter IsSelf (rules_sites (suc i) rules))) (sites_steps i 1 [] rule)
      ∙ ap (λ ts. steps_from self [] rule ++ ts) (rules_from (suc i) rules)

  pub all_are : (rules : List (List Item)) → all_steps self rules ≡ self_steps self rules
  all_are rules = sym (rules_from 1 rules)

  pub answer_steps : (rules : List (List Item)) (res : Result (List Transition) AllocError) → IfOk res (λ steps. steps ≡ all_steps self rules) → IfOk res (λ steps. steps ≡ self_steps self rules)
  answer_steps rules (Err e) is = tt
  answer_steps rules (Ok steps) is = is ∙ all_are rules
