-- A node is bounded by its form: by induction on the depth, over all visits from an entry on.
use Rattle.std.proofs.Common.{◌≡◌, ◌≢◌, ◌⊎◌, inl, inr, ℕ, zero, suc, ◌+◌, ◌*◌, ◌-◌, ◌<◌, ◌≤◌, nat_lt, Bool, true, false, ℤ, pos, ◌+ℤ◌, ◌*ℤ◌, ◌≤ℤ◌, List, [], ◌∷◌, ◌++◌, length, map, take, drop, Contains, refl, sym, ap, ◌∙◌, subst, arith, if◌then◌else◌, flat_map}
use Rattle.std.proofs.lemmas.Int.{ints}
use Rattle.std.proofs.lemmas.Bool.{ltb-true, ltb-false, lt-ltb, cases_Bool}
use Rattle.std.proofs.lemmas.List.Elements.{Contains-append_left, Contains-append_right}
use Rattle.common_laws.proofs.Members.{contains_head, contains_none, in_flat, from_flat, in_map, from_map}
use Rattle.common_laws.proofs.Tests.{any_in, any_has}
use Rattle.q128.specs.Fraction.{whole}
use Rattle.lin_rows.specs.declared.row.Transition.{Transition}
use Rattle.lin_rows.specs.Linear.{Linear, coefficient_of}
use Rattle.lin_rows.specs.Points.{whole_value, RowsHoldAtWhole}
use Rattle.lin_rows.specs.Rows.{lins}
use Rattle.lin_rows.specs.Transitions.{lin_constant, drop_of, next_wholes}
use Rattle.lin_rows.proofs.Expressions.{whole_value-plus, whole_value-constant}
use Rattle.lin_rows.proofs.StepValues.{step_on_wholes}
use Rattle.rule_terms.specs.declared.item.Item.{Item}
use Rattle.rule_terms.specs.declared.item.Item.TheVariants.{Call}
use Rattle.relation_runs.specs.Passing.{Ways, ItemsSpend, PassesBelow, SpendsBelow}
use Rattle.relation_runs.proofs.Items.{spend_cut}
use Rattle.relation_runs.proofs.Depths.{passes_spends}
use Rattle.bound_terms.specs.Terms.{Term, terms}
use Rattle.bound_terms.specs.Values.{floored_value, value_of, greatest_of}
use Rattle.bound_terms.proofs.Following.{floors_fall}
use Rattle.rankings.specs.SelfCalls.{rows_of, self_steps}
use Rattle.rankings.specs.Entailment.{Entails, IsLive}
use Rattle.rankings.specs.Rankings.{raised}
use Rattle.rankings.specs.Caps.{IsCapThere}
use Rattle.rankings.specs.Visits.{Visits, first, later}
use Rattle.rankings.proofs.Wholes.{wholes, rows_to_point, entailed_holds, is_live}
use Rattle.rankings.proofs.Places.{value_over_first, next_length}
use Rattle.rankings.proofs.Kept.{visit_size}
use Rattle.rankings.proofs.Capped.{cap_holds_at_visits, cap_holds_at_entry}
use Rattle.node_forms.specs.Parts.{Part, Dead, Leaf, Gate, Ruled, items_in, self_calls, calls_itself}
use Rattle.node_forms.specs.Costs.{opens, is_past_gate, cost_of, rule_cost, front_cost, recursive_cost, gate_cost, leaf_cost, dead_cost, past_cost, other_dead_cost, branching, most, visit_costs, last_costs, costs_of}
use Rattle.node_forms.specs.Forms.{Ranking, height_of, form_of}
use Rattle.node_forms.specs.Bounding.{Setting, part_steps, gated_steps, PartHolds, counted, AreCapped, NodeHolds}
use Rattle.node_forms.specs.Laws.{Calls, Bounds, NodesAreBounded}
use Rattle.node_forms.proofs.Items.{Held, held_rows, pass_held, cut_at, capped_front}
use Rattle.node_forms.proofs.Same.{items_same}
use Rattle.node_forms.proofs.SelfCalls.{self_step, calls_there}
use Rattle.node_forms.proofs.Spent.{CapsAt, spent}
use Rattle.node_forms.proofs.Growing.{greatest_has, most_has, amount, last_within, visit_within, amount_grows, visit_more, form_is_worth}

raised_value : (f : Linear) (k : ℤ) (zs : List ℤ) → whole_value (raised f k) zs ≡ whole_value f zs +ℤ k
raised_value f k zs = whole_value-plus f (lin_constant k) zs ∙ ap (λ z. whole_value f zs +ℤ z) (whole_value-constant k zs)

-- ---- costs are among those of the node
module _ (s : Setting) (rules : List Ruled) (rule : Ruled) (m : Contains rules rule) where
  gate_in_last : (p : ℕ) → rule.part ≡ Gate p → Contains (last_costs s.self s.forms rules) (front_cost s.self s.forms rule p)
  gate_in_last p at =
      let t = front_cost s.self s.forms rule p in
      Contains-append_left (flat_map (λ (r : Ruled). gate_cost s.self s.forms r r.part) rules) (flat_map (λ (r : Ruled). leaf_cost s.self s.forms r r.part) rules ++ flat_map (other_dead_cost s.self s.forms rules) rules) t
      (in_flat (λ (r : Ruled). gate_cost s.self s.forms r r.part) rules rule t m (subst (λ (q : Part). Contains (gate_cost s.self s.forms rule q) t) (sym at) (contains_head t [])))

  leaf_in_last : rule.part ≡ Leaf → Contains (last_costs s.self s.forms rules) (rule_cost s.self s.forms rule)
  leaf_in_last at =
      let t = rule_cost s.self s.forms rule in
      Contains-append_right (flat_map (λ (r : Ruled). gate_cost s.self s.forms r r.part) rules) (flat_map (λ (r : Ruled). leaf_cost s.self s.forms r r.part) rules ++ flat_map (other_dead_cost s.self s.forms rules) rules) t
      (Contains-append_left (flat_map (λ (r : Ruled). leaf_cost s.self s.forms r r.part) rules) (flat_map (other_dead_cost s.self s.forms rules) rules) t
      (in_flat (λ (r : Ruled). leaf_cost s.self s.forms r r.part) rules rule t m (subst (λ (q : Part). Contains (leaf_cost s.self s.forms rule q) t) (sym at) (contains_head t []))))

  dead_in_last : (p : ℕ) → rule.part ≡ Dead p → is_past_gate rules rule.items ≡ false → Contains (last_costs s.self s.forms rules) (front_cost s.self s.forms rule p)
  dead_in_last p at past =
      let t = front_cost s.self s.forms rule p in
      let own : Contains (dead_cost s.self s.forms rule rule.part) t = subst (λ (q : Part). Contains (dead_cost s.self s.forms rule q) t) (sym at) (contains_head t []) in
      let there : Contains (other_dead_cost s.self s.forms rules rule) t = subst (λ (b : Bool). Contains (if b then [] else dead_cost s.self s.forms rule rule.part) t) (sym past) own in
      Contains-append_right (flat_map (λ (r : Ruled). gate_cost s.self s.forms r r.part) rules) (flat_map (λ (r : Ruled). leaf_cost s.self s.forms r r.part) rules ++ flat_map (other_dead_cost s.self s.forms rules) rules) t
      (Contains-append_right (flat_map (λ (r : Ruled). leaf_cost s.self s.forms r r.part) rules) (flat_map (other_dead_cost s.self s.forms rules) rules) t
      (in_flat (other_dead_cost s.self s.forms rules) rules rule t m there))

  dead_in_visit : (p : ℕ) → rule.part ≡ Dead p → is_past_gate rules rule.items ≡ true → Contains (visit_costs s.self s.forms rules) (front_cost s.self s.forms rule p)
  dead_in_visit p at past =
      let t = front_cost s.self s.forms rule p in
      let own : Contains (dead_cost s.self s.forms rule rule.part) t = subst (λ (q : Part). Contains (dead_cost s.self s.forms rule q) t) (sym at) (contains_head t []) in
      let there : Contains (past_cost s.self s.forms rules rule) t = subst (λ (b : Bool). Contains (if b then dead_cost s.self s.forms rule rule.part else []) t) (sym past) own in
      Contains-append_right (flat_map (λ (r : Ruled). recursive_cost s.self s.forms r r.part) rules) (flat_map (past_cost s.self s.forms rules) rules) t
      (in_flat (past_cost s.self s.forms rules) rules rule t m there)

  rule_in_visit : (p : ℕ) → rule.part ≡ Gate p → Contains (visit_costs s.self s.forms rules) (rule_cost s.self s.forms rule)
  rule_in_visit p at =
      let t = rule_cost s.self s.forms rule in
      Contains-append_left (flat_map (λ (r : Ruled). recursive_cost s.self s.forms r r.part) rules) (flat_map (past_cost s.self s.forms rules) rules) t
      (in_flat (λ (r : Ruled). recursive_cost s.self s.forms r r.part) rules rule t m (subst (λ (q : Part). Contains (recursive_cost s.self s.forms rule q) t) (sym at) (contains_head t [])))

  few_calls : (p : ℕ) → rule.part ≡ Gate p → self_calls s.self rule.items ≤ most (map (λ (r : Ruled). branching s.self r r.part) rules)
  few_calls p at =
      let all = map (λ (r : Ruled). branching s.self r r.part) rules in
      subst (λ (q : Part). branching s.self rule q ≤ most all) at (most_has all (branching s.self rule rule.part) (in_map (λ (r : Ruled). branching s.self r r.part) rules rule m))

module _ (ways : Ways) (s : Setting) (r : Ranking) (rules : List Ruled) (h : NodeHolds s r rules)
    (lower : (node : ℕ) → node ≢ s.self → Calls rules node → Bounds ways s.sizes node (s.forms node)) (e : List ℤ) (len : length e ≡ s.sizes s.self) where
  abbrev steps : List Transition
  steps = gated_steps s.self rules

  abbrev branches : ℕ
  branches = most (map (λ (x : Ruled). branching s.self x x.part) rules)

  abbrev within : ℕ → ℕ
  within n = amount branches (greatest_of e (terms (visit_costs s.self s.forms rules))) (greatest_of e (terms (last_costs s.self s.forms rules))) n

  abbrev height : List ℤ → ℕ
  height x = floored_value x (height_of r)

  visited : (x : List ℤ) → Visits steps e x → length x ≡ s.sizes s.self
  visited x v = visit_size IsLive Entails is_live entailed_holds (s.sizes s.self) steps s.kept e h.inductive h.sizes_are len x v

  -- ---- caps
  calls_some : (rule : Ruled) (q : Part) (step : Transition) → PartHolds s.self r rule.items q → Contains (part_steps s.self rule.items q) step → 0 < self_calls s.self rule.items
  calls_some rule (Dead p) step holds m = absurd (contains_none step m)
  calls_some rule Leaf step holds m = absurd (contains_none step m)
  calls_some rule (Gate p) step holds m = holds.0

  no_step : calls_itself s.self rules ≡ false → (step : Transition) → Contains steps step → ⊥
  no_step is step m =
      let f = from_flat (λ (x : Ruled). part_steps s.self x.items x.part) rules step m in
      let some = calls_some f.0 f.0.part step (h.each f.0 f.1).part f.2 in
      let t = any_in (λ (x : Ruled). nat_lt 0 (self_calls s.self x.items)) rules f.0 f.1 (lt-ltb 0 (self_calls s.self f.0.items) some) in
      let g : ⊥ = cc in g

  only_entry : calls_itself s.self rules ≡ false → (x : List ℤ) → Visits steps e x → e ≡ x
  only_entry is x first = refl
  only_entry is x (later step zs before m t) = absurd (no_step is step m)

  caps_by : (b : Bool) → s.recursive ≡ b → (x zs : List ℤ) → Visits steps e x → CapsAt s (x ++ zs) e
  caps_by true is x zs v rows l u d c held =
      cap_holds_at_visits (s.sizes s.self) steps s.kept rows l u d e x zs h.inductive h.sizes_are len v (subst (λ (b : Bool). IsCapThere b (s.sizes s.self) rows s.kept l u d) is c) held
  caps_by false is x zs v rows l u d c held =
      let same = only_entry (sym h.calls ∙ is) x v in
      let there : RowsHoldAtWhole rows (e ++ zs) = subst (λ (y : List ℤ). RowsHoldAtWhole rows (y ++ zs)) (sym same) held in
      subst (λ (y : List ℤ). (pos d *ℤ whole_value l (y ++ zs)) ≤ℤ whole_value u e) same
      (cap_holds_at_entry (s.sizes s.self) s.kept rows l u d e zs len (subst (λ (b : Bool). IsCapThere b (s.sizes s.self) rows s.kept l u d) is c) there)

  caps_at : (x zs : List ℤ) → Visits steps e x → CapsAt s (x ++ zs) e
  caps_at x zs v = caps_by s.recursive refl x zs v

  -- ---- heights
  used_size : (x : List ℤ) → length x ≡ s.sizes s.self → (i : ℕ) → coefficient_of r.f i ≢ pos 0 → i < length x
  used_size x size i used = elim (cases_Bool (nat_lt i (length x))) [
    | inl t ↦ ltb-true i (length x) t
    | inr f ↦ absurd (used (h.over.variables i (let low = ltb-false i (length x) f in omega (arith, low, size))))
  ]

  value_there : (x zs : List ℤ) → Visits steps e x → whole_value r.f (x ++ zs) ≡ whole_value r.f x
  value_there x zs v = value_over_first r.f x zs (used_size x (visited x v))

  open_there : (x zs : List ℤ) → Visits steps e x → (items : List Item) → Held (x ++ zs) items → Entails (lins (rows_of items)) (raised r.f r.c) → pos 0 ≤ℤ (whole_value r.f x +ℤ r.c)
  open_there x zs v items held opened =
      let low = (entailed_holds (lins (rows_of items)) (raised r.f r.c) (x ++ zs) opened (held_rows (x ++ zs) items held)).not_negative in
      subst (λ (z : ℤ). pos 0 ≤ℤ z) (raised_value r.f r.c (x ++ zs) ∙ ap (λ (z : ℤ). z +ℤ r.c) (value_there x zs v)) low

  top_of : (x : List ℤ) → whole_value (raised r.f (r.c +ℤ pos r.d)) x ≡ whole_value r.f x +ℤ (r.c +ℤ pos r.d)
  top_of x = raised_value r.f (r.c +ℤ pos r.d) x

  one_high : (x : List ℤ) → pos 0 ≤ℤ (whole_value r.f x +ℤ r.c) → 1 ≤ height x
  one_high x low =
      let t = top_of x in
      let f = floors_fall (pos 0) (whole_value (raised r.f (r.c +ℤ pos r.d)) x) r.d h.drop (omega (arith, ints, t, low)) (omega (arith, ints, t, low)) in
      omega (arith, f)

  lower_by_one : (x y : List ℤ) → pos 0 ≤ℤ (whole_value r.f x +ℤ r.c) → (whole_value r.f y +ℤ pos r.d) ≤ℤ whole_value r.f x → height y + 1 ≤ height x
  lower_by_one x y low fall =
      let t = top_of x in
      let u = top_of y in
      floors_fall (whole_value (raised r.f (r.c +ℤ pos r.d)) y) (whole_value (raised r.f (r.c +ℤ pos r.d)) x) r.d h.drop (omega (arith, ints, t, low)) (omega (arith, ints, t, u, fall))

  -- ---- calls of other nodes
  other_calls : (k : ℕ) (zs : List ℤ) (rule : Ruled) → Contains rules rule → (items : List Item) → ((x : Item) → Contains items x → Contains rule.items x)
      → (node : ℕ) (args : List Linear) (c : ℕ) → node ≢ s.self → Contains items (Call node args) → length args ≡ s.sizes node
      → (PassesBelow ways k node (next_wholes args zs) c ⊎ SpendsBelow ways k node (next_wholes args zs) c) → c ≤ value_of (next_wholes args zs) (s.forms node)
  other_calls k zs rule m items inside node args c apart there arity amounts =
      lower node apart (rule, args, m, inside (Call node args) there) (next_wholes args zs) c (next_length args zs ∙ arity) (k, elim amounts [ inl p ↦ passes_spends ways k node (next_wholes args zs) c p | inr q ↦ q ])

  in_front : (p : ℕ) (items : List Item) (x : Item) → Contains (take p items) x → Contains items x
  in_front p items x there = subst (λ (xs : List Item). Contains xs x) (sym (cut_at p items)) (Contains-append_left (take p items) (drop p items) x there)

  -- items without a self call
  free : (k : ℕ) (x zs : List ℤ) → Visits steps e x → (rule : Ruled) → Contains rules rule → (items : List Item) → ((y : Item) → Contains items y → Contains rule.items y)
      → self_calls s.self items ≡ 0 → AreCapped s [] rule.caps items → (c : ℕ) → ItemsSpend (PassesBelow ways k) (SpendsBelow ways k) (x ++ zs) items c → c ≤ value_of e (cost_of s.self s.forms rule.caps items)
  free k x zs v rule m items inside none capped c p =
      let no_self = λ (front rest : List Item) (args : List Linear) (j : ℕ) (at : items ≡ front ++ Call s.self args ∷ rest) (held : Held (x ++ zs) front)
      (q : PassesBelow ways k s.self (next_wholes args (x ++ zs)) j ⊎ SpendsBelow ways k s.self (next_wholes args (x ++ zs)) j).
      let some : 0 < self_calls s.self items = subst (λ (xs : List Item). 0 < self_calls s.self xs) (sym at) (calls_there s.self front rest args) in
      let bad : ⊥ = omega (arith, some, none) in
      absurd {A = j ≤ 0} bad in
      let all = spent (PassesBelow ways k) (SpendsBelow ways k) s (x ++ zs) e items 0 (other_calls k (x ++ zs) rule m items inside) no_self (caps_at x zs v) [] items rule.caps c refl tt capped p in
      omega (arith, all)

  -- ---- rules
  abbrev spends_at : ℕ → List ℤ → List Item → ℕ → Type 0
  spends_at k zs items c = ItemsSpend (PassesBelow ways k) (SpendsBelow ways k) zs items c

  in_last : (t : Term) (x : List ℤ) (c : ℕ) → Contains (last_costs s.self s.forms rules) t → c ≤ value_of e t → c ≤ within (height x)
  in_last t x c m low =
      let top = greatest_has e (last_costs s.self s.forms rules) t m in
      let l = last_within branches (greatest_of e (terms (visit_costs s.self s.forms rules))) (greatest_of e (terms (last_costs s.self s.forms rules))) (height x) in
      omega (arith, low, top, l)

  in_visit : (t : Term) (x : List ℤ) (c : ℕ) → Contains (visit_costs s.self s.forms rules) t → 1 ≤ branches → 1 ≤ height x → c ≤ value_of e t → c ≤ within (height x)
  in_visit t x c m some high low =
      let top = greatest_has e (visit_costs s.self s.forms rules) t m in
      let l = visit_within branches (greatest_of e (terms (visit_costs s.self s.forms rules))) (greatest_of e (terms (last_costs s.self s.forms rules))) (height x) some high in
      omega (arith, low, top, l)

  holds_as : (rule : Ruled) (q : Part) → Contains rules rule → rule.part ≡ q → PartHolds s.self r rule.items q
  holds_as rule q m at = subst (λ (w : Part). PartHolds s.self r rule.items w) at (h.each rule m).part

  capped_as : (rule : Ruled) (q : Part) → Contains rules rule → rule.part ≡ q → AreCapped s [] rule.caps (counted rule.items q)
  capped_as rule q m at = subst (λ (w : Part). AreCapped s [] rule.caps (counted rule.items w)) at (h.each rule m).capped

  some_branch : (rule : Ruled) (p : ℕ) → Contains rules rule → rule.part ≡ Gate p → 1 ≤ branches
  some_branch rule p m at =
      let low = (holds_as rule (Gate p) m at).0 in
      let few = few_calls s rules rule m p at in
      omega (arith, low, few)

  -- what is spent up to a gate
  gate_spent : (k : ℕ) (x zs : List ℤ) → Visits steps e x → (rule : Ruled) (p : ℕ) → Contains rules rule → rule.part ≡ Gate p → (c : ℕ) → spends_at k (x ++ zs) (take p rule.items) c → c ≤ within (height x)
  gate_spent k x zs v rule p m at c f =
      in_last (front_cost s.self s.forms rule p) x c (gate_in_last s rules rule m p at)
      (free k x zs v rule m (take p rule.items) (in_front p rule.items) (holds_as rule (Gate p) m at).1 (capped_front s [] rule.items rule.caps p (capped_as rule (Gate p) m at)) c f)

  leaf_spent : (k : ℕ) (x zs : List ℤ) → Visits steps e x → (rule : Ruled) → Contains rules rule → rule.part ≡ Leaf → (c : ℕ) → spends_at k (x ++ zs) rule.items c → c ≤ within (height x)
  leaf_spent k x zs v rule m at c p =
      in_last (rule_cost s.self s.forms rule) x c (leaf_in_last s rules rule m at)
      (free k x zs v rule m rule.items (λ y there. there) (holds_as rule Leaf m at) (capped_as rule Leaf m at) c p)

  cut_items : (k : ℕ) (zs : List ℤ) (p : ℕ) (items : List Item) (c : ℕ) → spends_at k zs items c → spends_at k zs (take p items) c ⊎ Held zs (take p items)
  cut_items k zs p items c q = elim (spend_cut (PassesBelow ways k) (SpendsBelow ways k) zs (take p items) (drop p items) c (subst (λ (xs : List Item). spends_at k zs xs c) (cut_at p items) q)) [
    | inl f ↦ inl f
    | inr g ↦ inr (pass_held (PassesBelow ways k) zs (take p items) g.front g.fronts)
  ]

  -- a dead rule past the gate of another
  past_spent : (k : ℕ) (x zs : List ℤ) → Visits steps e x → (rule : Ruled) (p : ℕ) → Contains rules rule → rule.part ≡ Dead p → is_past_gate rules rule.items ≡ true → (c : ℕ)
      → c ≤ value_of e (front_cost s.self s.forms rule p) → spends_at k (x ++ zs) rule.items c
      → (other : Ruled) (q : Part) → Contains rules other → other.part ≡ q → opens q other.items rule.items ≡ true → c ≤ within (height x)
  past_spent k x zs v rule p m at past c low sp other (Dead w) mo ao is = absurd (let f : ⊥ = cc in f)
  past_spent k x zs v rule p m at past c low sp other Leaf mo ao is = absurd (let f : ⊥ = cc in f)
  past_spent k x zs v rule p m at past c low sp other (Gate w) mo ao is =
      let same : take w other.items ≡ take w rule.items = items_same (take w other.items) (take w rule.items) is in
      elim (cut_items k (x ++ zs) w rule.items c sp) [
        | inl f ↦ gate_spent k x zs v other w mo ao c (subst (λ (xs : List Item). spends_at k (x ++ zs) xs c) (sym same) f)
        | inr g ↦
            let held : Held (x ++ zs) (take w other.items) = subst (λ (xs : List Item). Held (x ++ zs) xs) (sym same) g in
            let high = one_high x (open_there x zs v (take w other.items) held (holds_as other (Gate w) mo ao).2) in
            in_visit (front_cost s.self s.forms rule p) x c (dead_in_visit s rules rule m p at past) (some_branch other w mo ao) high low
      ]

  dead_spent : (k : ℕ) (x zs : List ℤ) → Visits steps e x → (rule : Ruled) (p : ℕ) → Contains rules rule → rule.part ≡ Dead p → (c : ℕ) → spends_at k (x ++ zs) rule.items c → c ≤ within (height x)
  dead_spent k x zs v rule p m at c sp =
      let holds = holds_as rule (Dead p) m at in
      elim (cut_items k (x ++ zs) p rule.items c sp) [
        | inl f ↦
            let low = free k x zs v rule m (take p rule.items) (in_front p rule.items) holds.0 (capped_as rule (Dead p) m at) c f in
            elim (cases_Bool (is_past_gate rules rule.items)) [
              | inl past ↦ let o = any_has (λ (y : Ruled). opens y.part y.items rule.items) rules past in past_spent k x zs v rule p m at past c low sp o.0 o.0.part o.1 refl o.2
              | inr not ↦ in_last (front_cost s.self s.forms rule p) x c (dead_in_last s rules rule m p at not) low
            ]
        | inr g ↦ absurd (holds.1.none (whole (pos 1)) (wholes (x ++ zs)) (record { lt = tt }) (rows_to_point (lins (rows_of (take p rule.items))) (x ++ zs) (held_rows (x ++ zs) (take p rule.items) g)))
      ]

  -- ---- recursive rules
  module _ (k : ℕ) (below : (y : List ℤ) (c : ℕ) → Visits steps e y → SpendsBelow ways k s.self y c → c ≤ within (height y)) where
    -- what a self call spends is less high
    self_spent : (x zs : List ℤ) → Visits steps e x → (rule : Ruled) (p : ℕ) → Contains rules rule → rule.part ≡ Gate p → pos 0 ≤ℤ (whole_value r.f x +ℤ r.c) → (n : ℕ) → height x ≡ n + 1
        → (front rest : List Item) (args : List Linear) (c : ℕ) → rule.items ≡ front ++ Call s.self args ∷ rest → Held (x ++ zs) front
        → (PassesBelow ways k s.self (next_wholes args (x ++ zs)) c ⊎ SpendsBelow ways k s.self (next_wholes args (x ++ zs)) c) → c ≤ within n
    self_spent x zs v rule p m at low n high front rest args c is held amounts =
        let step : Transition = record { rows = rows_of front; next = args } in
        let y = next_wholes args (x ++ zs) in
        let own : Contains (self_steps s.self (rule.items ∷ [])) step = subst (λ (xs : List Item). Contains (self_steps s.self (xs ∷ [])) step) (sym is) (self_step s.self front rest args) in
        let there : Contains steps step = in_flat (λ (w : Ruled). part_steps s.self w.items w.part) rules rule step m (subst (λ (q : Part). Contains (part_steps s.self rule.items q) step) (sym at) own) in
        let rows = held_rows (x ++ zs) front held in
        let seen : Visits steps e y = later step zs v there (record { rows = rows; next = refl }) in
        let drop = (entailed_holds (lins (rows_of front)) (drop_of r.f args (pos r.d)) (x ++ zs) (h.falls step there) rows).not_negative in
        let fallen = (step_on_wholes r.f args (pos r.d) (x ++ zs)).fallen in
        let value = value_there x zs v in
        let fall : (whole_value r.f y +ℤ pos r.d) ≤ℤ whole_value r.f x = omega (arith, ints, drop, fallen, value) in
        let less = lower_by_one x y low fall in
        let spends : SpendsBelow ways k s.self y c = elim amounts [ inl q ↦ passes_spends ways k s.self y c q | inr q ↦ q ] in
        let own_bound = below y c seen spends in
        let grown = amount_grows branches (greatest_of e (terms (visit_costs s.self s.forms rules))) (greatest_of e (terms (last_costs s.self s.forms rules))) (height y) n (omega (arith, less, high)) in
        omega (arith, own_bound, grown)

    height_more : (n : ℕ) → 1 ≤ n → n ≡ (n - 1) + 1
    height_more n low = omega (arith, low)

    past_gate : (x zs : List ℤ) → Visits steps e x → (rule : Ruled) (p : ℕ) → Contains rules rule → rule.part ≡ Gate p → (c : ℕ) → spends_at k (x ++ zs) rule.items c → Held (x ++ zs) (take p rule.items) → c ≤ within (height x)
    past_gate x zs v rule p m at c sp held =
        let low = open_there x zs v (take p rule.items) held (holds_as rule (Gate p) m at).2 in
        let n = height x - 1 in
        let high : height x ≡ n + 1 = height_more (height x) (one_high x low) in
        let all = spent (PassesBelow ways k) (SpendsBelow ways k) s (x ++ zs) e rule.items (within n) (other_calls k (x ++ zs) rule m rule.items (λ y there. there)) (self_spent x zs v rule p m at low n high) (caps_at x zs v) [] rule.items rule.caps c refl tt (capped_as rule (Gate p) m at) sp in
        let top = greatest_has e (visit_costs s.self s.forms rules) (rule_cost s.self s.forms rule) (rule_in_visit s rules rule m p at) in
        let V = greatest_of e (terms (visit_costs s.self s.forms rules)) in
        let L = greatest_of e (terms (last_costs s.self s.forms rules)) in
        let most_of : c ≤ V + self_calls s.self rule.items * within n = omega (arith, all, top) in
        subst (λ (i : ℕ). c ≤ within i) (sym high) (visit_more branches V L n (self_calls s.self rule.items) c (some_branch rule p m at) (few_calls s rules rule m p at) most_of)

    rule_spent : (x zs : List ℤ) → Visits steps e x → (rule : Ruled) (q : Part) → Contains rules rule → rule.part ≡ q → (c : ℕ) → spends_at k (x ++ zs) rule.items c → c ≤ within (height x)
    rule_spent x zs v rule (Dead p) m at c sp = dead_spent k x zs v rule p m at c sp
    rule_spent x zs v rule Leaf m at c sp = leaf_spent k x zs v rule m at c sp
    rule_spent x zs v rule (Gate p) m at c sp = elim (cut_items k (x ++ zs) p rule.items c sp) [
      | inl f ↦ gate_spent k x zs v rule p m at c f
      | inr g ↦ past_gate x zs v rule p m at c sp g
    ]

  -- ---- the node
  module _ (are : ways s.self ≡ items_in rules) where
    visits_bounded : (k : ℕ) (x : List ℤ) (c : ℕ) → Visits steps e x → SpendsBelow ways k s.self x c → c ≤ within (height x)
    visits_bounded zero x c v p = absurd p
    visits_bounded (suc k) x c v p =
        let f = from_map (λ (w : Ruled). w.items) rules p.0 (subst (λ (ws : List (List Item)). Contains ws p.0) are p.2) in
        rule_spent k (λ y j seen q. visits_bounded k y j seen q) x p.1 v f.0 f.0.part f.1 refl c (subst (λ (xs : List Item). spends_at k (x ++ p.1) xs c) (sym f.2) p.3)

    pub entry_bounded : (k c : ℕ) → SpendsBelow ways k s.self e c → c ≤ value_of e (form_of (costs_of s.self s.forms rules) (height_of r))
    entry_bounded k c p =
        let low = visits_bounded k e c first p in
        let worth = form_is_worth branches (costs_of s.self s.forms rules) (height_of r) e in
        omega (arith, low, worth)

pub nodes_are_bounded : NodesAreBounded
nodes_are_bounded ways s r rules are h lower v c len p = entry_bounded ways s r rules h lower v len are p.0 c p.1
