-- Rows that hold along items, and caps of fronts.
use Rattle.std.proofs.Common.{◌≡◌, ℕ, zero, suc, ℤ, List, [], ◌∷◌, ◌++◌, take, drop, refl, ap}
use Rattle.std.proofs.lemmas.List.Elements.{All-nil, All-cons}
use Rattle.lin_rows.specs.Linear.{Linear}
use Rattle.lin_rows.specs.Points.{HoldsAtWhole, RowsHoldAtWhole}
use Rattle.lin_rows.specs.Rows.{lins}
use Rattle.rule_terms.specs.declared.item.Item.{Item}
use Rattle.rule_terms.specs.declared.item.Item.TheVariants.{Assume, Spend, Fresh, Call}
use Rattle.relation_runs.specs.Passing.{Amounts, ItemsPass}
use Rattle.rankings.specs.SelfCalls.{rows_of}
use Rattle.node_forms.specs.Parts.{Cap, later_caps}
use Rattle.node_forms.specs.Bounding.{Setting, AreCapped}

-- the rows among the items hold
abbrev pub Held : List ℤ → List Item → Type 0
Held zs [] = Unit {0}
Held zs (Assume row ∷ rest) = HoldsAtWhole row.lin zs × Held zs rest
Held zs (Spend n ∷ rest) = Held zs rest
Held zs (Fresh v ∷ rest) = Held zs rest
Held zs (Call node args ∷ rest) = Held zs rest

pub held_rows : (zs : List ℤ) (items : List Item) → Held zs items → RowsHoldAtWhole (lins (rows_of items)) zs
held_rows zs [] h = record { each = All-nil (λ (l : Linear). HoldsAtWhole l zs) }
held_rows zs (Assume row ∷ rest) h =
    record { each = All-cons (λ (l : Linear). HoldsAtWhole l zs) row.lin (lins (rows_of rest)) h.0 (held_rows zs rest h.1).each }
held_rows zs (Spend n ∷ rest) h = held_rows zs rest h
held_rows zs (Fresh v ∷ rest) h = held_rows zs rest h
held_rows zs (Call node args ∷ rest) h = held_rows zs rest h

pub held_joined : (zs : List ℤ) (front back : List Item) → Held zs front → Held zs back → Held zs (front ++ back)
held_joined zs [] back h g = g
held_joined zs (Assume row ∷ rest) back h g = (h.0, held_joined zs rest back h.1 g)
held_joined zs (Spend n ∷ rest) back h g = held_joined zs rest back h g
held_joined zs (Fresh v ∷ rest) back h g = held_joined zs rest back h g
held_joined zs (Call node args ∷ rest) back h g = held_joined zs rest back h g

pub pass_held : (P : Amounts) (zs : List ℤ) (items : List Item) (c : ℕ) → ItemsPass P zs items c → Held zs items
pass_held P zs [] c p = tt
pass_held P zs (Assume row ∷ rest) c p = (p.0, pass_held P zs rest c p.1)
pass_held P zs (Spend n ∷ rest) c p = pass_held P zs rest p.0 p.2
pass_held P zs (Fresh v ∷ rest) c p = pass_held P zs rest c p
pass_held P zs (Call node args ∷ rest) c p = pass_held P zs rest p.1 p.4

pub cut_at : (p : ℕ) (items : List Item) → items ≡ take p items ++ drop p items
cut_at zero items = refl
cut_at (suc p) [] = refl
cut_at (suc p) (x ∷ items) = ap (λ xs. x ∷ xs) (cut_at p items)

pub capped_front : (s : Setting) (front items : List Item) (caps : List (List Cap)) (p : ℕ) → AreCapped s front caps items → AreCapped s front caps (take p items)
capped_front s front [] caps zero h = tt
capped_front s front [] caps (suc p) h = tt
capped_front s front (item ∷ rest) caps zero h = tt
capped_front s front (Assume row ∷ rest) caps (suc p) h = capped_front s (front ++ Assume row ∷ []) rest caps p h
capped_front s front (Spend n ∷ rest) caps (suc p) h = capped_front s (front ++ Spend n ∷ []) rest caps p h
capped_front s front (Fresh v ∷ rest) caps (suc p) h = capped_front s (front ++ Fresh v ∷ []) rest caps p h
capped_front s front (Call node args ∷ rest) caps (suc p) h = (h.0, capped_front s (front ++ Call node args ∷ []) rest (later_caps caps) p h.1)
