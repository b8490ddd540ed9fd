-- What passes, is spent or leads at a depth does so at each greater one, and what passes is spent.
use Rattle.std.proofs.Common.{◌≡◌, ℕ, zero, suc, ◌+◌, ◌-◌, ◌≤◌, ℤ, List, [], ◌∷◌, ◌++◌, Contains, All, slice_get, slice_index_or, Some, subst, arith, add-zero}
use Rattle.std.proofs.Math.Nat.{add-suc}
use Rattle.lin_rows.specs.Transitions.{next_wholes}
use Rattle.rule_terms.specs.declared.item.Item.{Item}
use Rattle.rule_terms.specs.declared.item.Item.TheVariants.{Assume, Spend, Fresh, Call}
use Rattle.relations.specs.declared.ending.End.{End}
use Rattle.relations.specs.declared.ending.End.TheVariants.{Out, Tail, Thrown}
use Rattle.relations.specs.declared.ending.CallPart.{CallPart}
use Rattle.relations.specs.declared.ending.PathEnd.{PathEnd}
use Rattle.relation_runs.specs.Passing.{Amounts, Ways, PassesBelow, SpendsBelow}
use Rattle.relation_runs.specs.Leading.{Outcomes, WayEnds, ItemHolds, ItemsHold, LeavesWith, PartLeads, TailLeads, EndLeads, ItemsLead, OutcomeBelow}
use Rattle.relation_runs.proofs.Items.{Within, pass_more, spend_more, pass_spends}

module _ (ways : Ways) where
  passes_deeper : (h : ℕ) → Within (PassesBelow ways h) (PassesBelow ways (suc h))
  passes_deeper zero n v c p = absurd p
  passes_deeper (suc h) n v c p = (p.0, p.1, p.2, pass_more (PassesBelow ways h) (PassesBelow ways (suc h)) (passes_deeper h) (v ++ p.1) p.0 c p.3)

  spends_deeper : (h : ℕ) → Within (SpendsBelow ways h) (SpendsBelow ways (suc h))
  spends_deeper zero n v c p = absurd p
  spends_deeper (suc h) n v c p =
      (p.0, p.1, p.2, spend_more (PassesBelow ways h) (PassesBelow ways (suc h)) (SpendsBelow ways h) (SpendsBelow ways (suc h)) (passes_deeper h) (spends_deeper h) (v ++ p.1) p.0 c p.3)

  passes_by : (h k : ℕ) → Within (PassesBelow ways h) (PassesBelow ways (h + k))
  passes_by h zero n v c p = rw add-zero p
  passes_by h (suc k) n v c p = rw add-suc (passes_deeper (h + k) n v c (passes_by h k n v c p))

  spends_by : (h k : ℕ) → Within (SpendsBelow ways h) (SpendsBelow ways (h + k))
  spends_by h zero n v c p = rw add-zero p
  spends_by h (suc k) n v c p = rw add-suc (spends_deeper (h + k) n v c (spends_by h k n v c p))

  pub passes_up : (h k : ℕ) → h ≤ k → Within (PassesBelow ways h) (PassesBelow ways k)
  passes_up h k le n v c p = subst (λ i. PassesBelow ways i n v c) (let e : h + (k - h) ≡ k = omega arith in e) (passes_by h (k - h) n v c p)

  pub spends_up : (h k : ℕ) → h ≤ k → Within (SpendsBelow ways h) (SpendsBelow ways k)
  spends_up h k le n v c p = subst (λ i. SpendsBelow ways i n v c) (let e : h + (k - h) ≡ k = omega arith in e) (spends_by h (k - h) n v c p)

  -- what a node passes it spends
  pub passes_spends : (h : ℕ) → Within (PassesBelow ways h) (SpendsBelow ways h)
  passes_spends zero n v c p = p
  passes_spends (suc h) n v c p = (p.0, p.1, p.2, pass_spends (PassesBelow ways h) (SpendsBelow ways h) (v ++ p.1) p.0 c p.3)

-- ---- outcomes
abbrev pub LeadsWithin : Outcomes → Outcomes → Type 0
LeadsWithin O U = (n : ℕ) (v : List ℤ) (exit : ℕ) (w : List ℤ) → O n v exit w → U n v exit w

hold_more : (P Q : Amounts) → Within P Q → (zs : List ℤ) (item : Item) (rest : List Item) → ItemHolds P zs item rest → ItemHolds Q zs item rest
hold_more P Q w zs (Assume row) rest p = p
hold_more P Q w zs (Spend n) rest p = p
hold_more P Q w zs (Fresh v) rest p = p
hold_more P Q w zs (Call node args) [] p = p
hold_more P Q w zs (Call node args) (next ∷ rest) p = (p.0, w node (next_wholes args zs) p.0 p.1)

holds_more : (P Q : Amounts) → Within P Q → (zs : List ℤ) (items : List Item) → ItemsHold P zs items → ItemsHold Q zs items
holds_more P Q w zs [] p = p
holds_more P Q w zs (item ∷ rest) p = (hold_more P Q w zs item rest p.0, holds_more P Q w zs rest p.1)

leaves_more : (O U : Outcomes) → LeadsWithin O U → (node : ℕ) (v : List ℤ) (exit : ℕ) (zs : List ℤ) (fresh : List ℕ) → LeavesWith O node v exit zs fresh → LeavesWith U node v exit zs fresh
leaves_more O U u node v exit zs [] p = (p.0, u node v exit p.0 p.1)
leaves_more O U u node v exit zs (z ∷ fresh) p = u node v exit _ p

part_more : (O U : Outcomes) → LeadsWithin O U → (zs : List ℤ) (items : List Item) (part : CallPart) → PartLeads O zs items part → PartLeads U zs items part
part_more O U u zs items part p = record { node = p.node; args = p.args; item = p.item; leaves = leaves_more O U u p.node (next_wholes p.args zs) part.exit zs part.fresh p.leaves }

parts_more : (O U : Outcomes) → LeadsWithin O U → (zs : List ℤ) (items : List Item) (parts : List CallPart) → All (PartLeads O zs items) parts → All (PartLeads U zs items) parts
parts_more O U u zs items parts p = λ k d low. part_more O U u zs items (slice_index_or parts k d) (p k d low)

end_more : (O U : Outcomes) → LeadsWithin O U → (zs : List ℤ) (items : List Item) (end : End) (exit : ℕ) (w : List ℤ) → EndLeads O zs items end exit w → EndLeads U zs items end exit w
end_more O U u zs items (Out x values) exit w p = p
end_more O U u zs items Tail exit w p = record { front = p.front; node = p.node; args = p.args; last = p.last; leaves = u p.node (next_wholes p.args zs) exit w p.leaves }
end_more O U u zs items Thrown exit w p = p

lead_more : (P Q : Amounts) (O U : Outcomes) → Within P Q → LeadsWithin O U → (zs : List ℤ) (items : List Item) (ending : PathEnd) (exit : ℕ) (w : List ℤ) → ItemsLead P O zs items ending exit w → ItemsLead Q U zs items ending exit w
lead_more P Q O U q u zs items ending exit w p = record {
  holds = holds_more P Q q zs items p.holds;
  parts = parts_more O U u zs items ending.calls p.parts;
  end = end_more O U u zs items ending.end exit w p.end;
}

module _ (ways : Ways) (ends : WayEnds) where
  leads_deeper : (h : ℕ) → LeadsWithin (OutcomeBelow ways ends h) (OutcomeBelow ways ends (suc h))
  leads_deeper zero n v exit w p = absurd p
  leads_deeper (suc h) n v exit w p = (
    p.0,
    p.1,
    p.2,
    p.3,
    p.4,
    p.5,
    lead_more (PassesBelow ways h) (PassesBelow ways (suc h)) (OutcomeBelow ways ends h) (OutcomeBelow ways ends (suc h)) (passes_deeper ways h) (leads_deeper h) (v ++ p.3) p.1 p.2 exit w p.6,
  )

  leads_by : (h k : ℕ) → LeadsWithin (OutcomeBelow ways ends h) (OutcomeBelow ways ends (h + k))
  leads_by h zero n v exit w p = rw add-zero p
  leads_by h (suc k) n v exit w p = rw add-suc (leads_deeper (h + k) n v exit w (leads_by h k n v exit w p))

  pub leads_up : (h k : ℕ) → h ≤ k → LeadsWithin (OutcomeBelow ways ends h) (OutcomeBelow ways ends k)
  leads_up h k le n v exit w p = subst (λ i. OutcomeBelow ways ends i n v exit w) (let e : h + (k - h) ≡ k = omega arith in e) (leads_by h (k - h) n v exit w p)
