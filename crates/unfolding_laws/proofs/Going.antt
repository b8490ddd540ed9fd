-- Runs item by item: more of them, and the runs of other definitions.
use Rattle.std.proofs.Common.{◌≡◌, inl, inr, ℕ, suc, ℤ, List, [], ◌∷◌, ◌++◌, length, refl, sym, ap, subst}
use Rattle.lin_rows.specs.Transitions.{next_wholes}
use Rattle.rule_terms.specs.declared.item.Item.{Item}
use Rattle.rule_terms.specs.declared.item.Item.TheVariants.{Assume, Spend, Fresh, Call}
use Rattle.relation_runs.specs.Passing.{Amounts, ItemsPass, ItemsSpend}
use Rattle.relation_runs.specs.Leading.{variable}
use Rattle.relation_runs.specs.Trees.{variable_set, WayPasses, WaySpends}
use Rattle.base_relations.specs.Steps.{Step, Does, Enters, Leaves}
use Rattle.unfolding_laws.specs.inside.Runs.{Mode, passing, spending, Goes, Any, WayRun, StepsRun, next_place, ChosenRun, ItemsRun}

-- what is asked of a mode: a run stops with nothing left, and where something is spent in a call it may stop
pub record IsMode (m : Mode) : Type 0 where
  pub ends : (c : ℕ) → m.stop c → c ≡ 0
  pub starts : (n : ℕ) (v : List ℤ) (c : ℕ) → m.spend n v c → m.stop 0

pub is_passing : (P : Amounts) → IsMode (passing P)
is_passing P = record { ends = λ c s. absurd s; starts = λ n v c s. absurd s }

pub is_spending : (P S : Amounts) → IsMode (spending P S)
is_spending P S = record { ends = λ c s. s; starts = λ n v c s. refl }

-- ---- more
pub goes_more : (m : Mode) (A B : ℤ → Type 0) (K L : List ℤ → ℕ → Type 0) (rho : List ℤ) (item : Item) (c : ℕ) → ((z : ℤ) → A z → B z) → ((r : List ℤ) (k : ℕ) → K r k → L r k) → Goes m A rho item K c → Goes m B rho item L c
goes_more m A B K L rho (Assume row) c made on (inl s) = inl s
goes_more m A B K L rho (Assume row) c made on (inr p) = inr (p.0, on rho c p.1)
goes_more m A B K L rho (Spend n) c made on (inl s) = inl s
goes_more m A B K L rho (Spend n) c made on (inr p) = inr (p.0, p.1, on rho p.0 p.2)
goes_more m A B K L rho (Fresh v) c made on p = (p.0, made p.0 p.1, on (variable_set rho v p.0) c p.2)
goes_more m A B K L rho (Call node args) c made on (inl s) = inl s
goes_more m A B K L rho (Call node args) c made on (inr (inl s)) = inr (inl s)
goes_more m A B K L rho (Call node args) c made on (inr (inr p)) = inr (inr (p.0, p.1, p.2, p.3, on rho p.1 p.4))

-- in another mode, by what is passed and spent at the item's own call
abbrev pub CallsMore : Mode → Mode → List ℤ → Item → Type 0
CallsMore m o rho (Assume row) = Unit {0}
CallsMore m o rho (Spend n) = Unit {0}
CallsMore m o rho (Fresh v) = Unit {0}
CallsMore m o rho (Call node args) =
    ((c : ℕ) → m.pass node (next_wholes args rho) c → o.pass node (next_wholes args rho) c) × ((c : ℕ) → m.spend node (next_wholes args rho) c → o.spend node (next_wholes args rho) c)

pub goes_otherwise : (m o : Mode) (A : ℤ → Type 0) (K L : List ℤ → ℕ → Type 0) (rho : List ℤ) (item : Item) (c : ℕ) → ((k : ℕ) → m.stop k → o.stop k) → CallsMore m o rho item
    → ((r : List ℤ) (k : ℕ) → K r k → L r k) → Goes m A rho item K c → Goes o A rho item L c
goes_otherwise m o A K L rho (Assume row) c stops more on (inl s) = inl (stops c s)
goes_otherwise m o A K L rho (Assume row) c stops more on (inr p) = inr (p.0, on rho c p.1)
goes_otherwise m o A K L rho (Spend n) c stops more on (inl s) = inl (stops c s)
goes_otherwise m o A K L rho (Spend n) c stops more on (inr p) = inr (p.0, p.1, on rho p.0 p.2)
goes_otherwise m o A K L rho (Fresh v) c stops more on p = (p.0, p.1, on (variable_set rho v p.0) c p.2)
goes_otherwise m o A K L rho (Call node args) c stops more on (inl s) = inl (stops c s)
goes_otherwise m o A K L rho (Call node args) c stops more on (inr (inl s)) = inr (inl (more.1 c s))
goes_otherwise m o A K L rho (Call node args) c stops more on (inr (inr p)) = inr (inr (p.0, p.1, p.2, more.0 p.0 p.3, on rho p.1 p.4))

-- ---- ways
pub way_passes : (P : Amounts) (rho : List ℤ) (way : List Item) (c : ℕ) → WayRun (passing P) rho way c → WayPasses P rho way c
way_passes P rho [] c p = p
way_passes P rho (Assume row ∷ rest) c (inl s) = absurd s
way_passes P rho (Assume row ∷ rest) c (inr p) = (p.0, way_passes P rho rest c p.1)
way_passes P rho (Spend n ∷ rest) c (inl s) = absurd s
way_passes P rho (Spend n ∷ rest) c (inr p) = (p.0, p.1, way_passes P rho rest p.0 p.2)
way_passes P rho (Fresh v ∷ rest) c p = (p.0, way_passes P (variable_set rho v p.0) rest c p.2)
way_passes P rho (Call node args ∷ rest) c (inl s) = absurd s
way_passes P rho (Call node args ∷ rest) c (inr (inl s)) = absurd s
way_passes P rho (Call node args ∷ rest) c (inr (inr p)) = (p.0, p.1, p.2, p.3, way_passes P rho rest p.1 p.4)

pub passes_way : (P : Amounts) (rho : List ℤ) (way : List Item) (c : ℕ) → WayPasses P rho way c → WayRun (passing P) rho way c
passes_way P rho [] c p = p
passes_way P rho (Assume row ∷ rest) c p = inr (p.0, passes_way P rho rest c p.1)
passes_way P rho (Spend n ∷ rest) c p = inr (p.0, p.1, passes_way P rho rest p.0 p.2)
passes_way P rho (Fresh v ∷ rest) c p = (p.0, tt, passes_way P (variable_set rho v p.0) rest c p.1)
passes_way P rho (Call node args ∷ rest) c p = inr (inr (p.0, p.1, p.2, p.3, passes_way P rho rest p.1 p.4))

pub way_spends : (P S : Amounts) (rho : List ℤ) (way : List Item) (c : ℕ) → WayRun (spending P S) rho way c → WaySpends P S rho way c
way_spends P S rho [] c p = p
way_spends P S rho (Assume row ∷ rest) c (inl s) = inl s
way_spends P S rho (Assume row ∷ rest) c (inr p) = inr (p.0, way_spends P S rho rest c p.1)
way_spends P S rho (Spend n ∷ rest) c (inl s) = inl s
way_spends P S rho (Spend n ∷ rest) c (inr p) = inr (p.0, p.1, way_spends P S rho rest p.0 p.2)
way_spends P S rho (Fresh v ∷ rest) c p = (p.0, way_spends P S (variable_set rho v p.0) rest c p.2)
way_spends P S rho (Call node args ∷ rest) c (inl s) = inl s
way_spends P S rho (Call node args ∷ rest) c (inr (inl s)) = inr (inl s)
way_spends P S rho (Call node args ∷ rest) c (inr (inr p)) = inr (inr (p.0, p.1, p.2, p.3, way_spends P S rho rest p.1 p.4))

pub spends_way : (P S : Amounts) (rho : List ℤ) (way : List Item) (c : ℕ) → WaySpends P S rho way c → WayRun (spending P S) rho way c
spends_way P S rho [] c p = p
spends_way P S rho (Assume row ∷ rest) c (inl s) = inl s
spends_way P S rho (Assume row ∷ rest) c (inr p) = inr (p.0, spends_way P S rho rest c p.1)
spends_way P S rho (Spend n ∷ rest) c (inl s) = inl s
spends_way P S rho (Spend n ∷ rest) c (inr p) = inr (p.0, p.1, spends_way P S rho rest p.0 p.2)
spends_way P S rho (Fresh v ∷ rest) c p = (p.0, tt, spends_way P S (variable_set rho v p.0) rest c p.1)
spends_way P S rho (Call node args ∷ rest) c (inl s) = inl s
spends_way P S rho (Call node args ∷ rest) c (inr (inl s)) = inr (inl s)
spends_way P S rho (Call node args ∷ rest) c (inr (inr p)) = inr (inr (p.0, p.1, p.2, p.3, spends_way P S rho rest p.1 p.4))

-- ---- items at one valuation
pub items_pass : (P : Amounts) (zs : List ℤ) (items : List Item) (c : ℕ) → ItemsRun (passing P) zs items c → ItemsPass P zs items c
items_pass P zs [] c p = p
items_pass P zs (Assume row ∷ rest) c (inl s) = absurd s
items_pass P zs (Assume row ∷ rest) c (inr p) = (p.0, items_pass P zs rest c p.1)
items_pass P zs (Spend n ∷ rest) c (inl s) = absurd s
items_pass P zs (Spend n ∷ rest) c (inr p) = (p.0, p.1, items_pass P zs rest p.0 p.2)
items_pass P zs (Fresh v ∷ rest) c p = items_pass P zs rest c p
items_pass P zs (Call node args ∷ rest) c (inl s) = absurd s
items_pass P zs (Call node args ∷ rest) c (inr (inl s)) = absurd s
items_pass P zs (Call node args ∷ rest) c (inr (inr p)) = (p.0, p.1, p.2, p.3, items_pass P zs rest p.1 p.4)

pub pass_items : (P : Amounts) (zs : List ℤ) (items : List Item) (c : ℕ) → ItemsPass P zs items c → ItemsRun (passing P) zs items c
pass_items P zs [] c p = p
pass_items P zs (Assume row ∷ rest) c p = inr (p.0, pass_items P zs rest c p.1)
pass_items P zs (Spend n ∷ rest) c p = inr (p.0, p.1, pass_items P zs rest p.0 p.2)
pass_items P zs (Fresh v ∷ rest) c p = pass_items P zs rest c p
pass_items P zs (Call node args ∷ rest) c p = inr (inr (p.0, p.1, p.2, p.3, pass_items P zs rest p.1 p.4))

pub items_spend : (P S : Amounts) (zs : List ℤ) (items : List Item) (c : ℕ) → ItemsRun (spending P S) zs items c → ItemsSpend P S zs items c
items_spend P S zs [] c p = p
items_spend P S zs (Assume row ∷ rest) c (inl s) = inl s
items_spend P S zs (Assume row ∷ rest) c (inr p) = inr (p.0, items_spend P S zs rest c p.1)
items_spend P S zs (Spend n ∷ rest) c (inl s) = inl s
items_spend P S zs (Spend n ∷ rest) c (inr p) = inr (p.0, p.1, items_spend P S zs rest p.0 p.2)
items_spend P S zs (Fresh v ∷ rest) c p = items_spend P S zs rest c p
items_spend P S zs (Call node args ∷ rest) c (inl s) = inl s
items_spend P S zs (Call node args ∷ rest) c (inr (inl s)) = inr (inl s)
items_spend P S zs (Call node args ∷ rest) c (inr (inr p)) = inr (inr (p.0, p.1, p.2, p.3, items_spend P S zs rest p.1 p.4))

pub spend_items : (P S : Amounts) (zs : List ℤ) (items : List Item) (c : ℕ) → ItemsSpend P S zs items c → ItemsRun (spending P S) zs items c
spend_items P S zs [] c p = p
spend_items P S zs (Assume row ∷ rest) c (inl s) = inl s
spend_items P S zs (Assume row ∷ rest) c (inr p) = inr (p.0, spend_items P S zs rest c p.1)
spend_items P S zs (Spend n ∷ rest) c (inl s) = inl s
spend_items P S zs (Spend n ∷ rest) c (inr p) = inr (p.0, p.1, spend_items P S zs rest p.0 p.2)
spend_items P S zs (Fresh v ∷ rest) c p = spend_items P S zs rest c p
spend_items P S zs (Call node args ∷ rest) c (inl s) = inl s
spend_items P S zs (Call node args ∷ rest) c (inr (inl s)) = inr (inl s)
spend_items P S zs (Call node args ∷ rest) c (inr (inr p)) = inr (inr (p.0, p.1, p.2, p.3, spend_items P S zs rest p.1 p.4))

-- ---- values in the order in which variables are made
appended : (ys : List ℤ) (z : ℤ) (tail : List ℤ) → (ys ++ z ∷ []) ++ tail ≡ ys ++ z ∷ tail
appended [] z tail = refl
appended (y ∷ ys) z tail = ap (λ xs. y ∷ xs) (appended ys z tail)

at_end : (ys : List ℤ) (z : ℤ) (tail : List ℤ) → variable (ys ++ z ∷ tail) (length ys) ≡ z
at_end [] z tail = refl
at_end (y ∷ ys) z tail = at_end ys z tail

one_longer : (ys : List ℤ) (z : ℤ) → length (ys ++ z ∷ []) ≡ suc (length ys)
one_longer [] z = refl
one_longer (y ∷ ys) z = ap suc (one_longer ys z)

abbrev pub SomeTail : Mode → List ℤ → List ℤ → List (List ℤ) → List Step → ℕ → Type 0
SomeTail m ys rho outer steps c = (tail : List ℤ) × ChosenRun m (ys ++ tail) (length ys) rho outer steps c

pub chosen : (m : Mode) (ys rho : List ℤ) (outer : List (List ℤ)) (steps : List Step) (c : ℕ) → StepsRun m rho outer steps c → SomeTail m ys rho outer steps c
chosen m ys rho outer [] c p = ([], p)
chosen m ys rho outer (Does (Assume row) ∷ rest) c (inl s) = ([], inl s)
chosen m ys rho outer (Does (Assume row) ∷ rest) c (inr p) = let r = chosen m ys rho outer rest c p.1 in (r.0, inr (p.0, r.1))
chosen m ys rho outer (Does (Spend n) ∷ rest) c (inl s) = ([], inl s)
chosen m ys rho outer (Does (Spend n) ∷ rest) c (inr p) = let r = chosen m ys rho outer rest p.0 p.2 in (r.0, inr (p.0, p.1, r.1))
chosen m ys rho outer (Does (Fresh v) ∷ rest) c p =
    let r = chosen m (ys ++ p.0 ∷ []) (variable_set rho v p.0) outer rest c p.2 in
    let is : ChosenRun m ((ys ++ p.0 ∷ []) ++ r.0) (suc (length ys)) (variable_set rho v p.0) outer rest c =
    subst (λ n. ChosenRun m ((ys ++ p.0 ∷ []) ++ r.0) n (variable_set rho v p.0) outer rest c) (one_longer ys p.0) r.1 in
    (p.0 ∷ r.0, (p.0, sym (at_end ys p.0 r.0), subst (λ zs. ChosenRun m zs (suc (length ys)) (variable_set rho v p.0) outer rest c) (appended ys p.0 r.0) is))
chosen m ys rho outer (Does (Call node args) ∷ rest) c (inl s) = ([], inl s)
chosen m ys rho outer (Does (Call node args) ∷ rest) c (inr (inl s)) = ([], inr (inl s))
chosen m ys rho outer (Does (Call node args) ∷ rest) c (inr (inr p)) = let r = chosen m ys rho outer rest p.1 p.4 in (r.0, inr (inr (p.0, p.1, p.2, p.3, r.1)))
chosen m ys rho outer (Enters args ∷ rest) c p = chosen m ys (next_wholes args rho) (rho ∷ outer) rest c p
chosen m ys rho [] (Leaves ∷ rest) c p = chosen m ys rho [] rest c p
chosen m ys rho (around ∷ outer) (Leaves ∷ rest) c p = chosen m ys around outer rest c p

pub unchosen : (m : Mode) (zs : List ℤ) (n : ℕ) (rho : List ℤ) (outer : List (List ℤ)) (steps : List Step) (c : ℕ) → ChosenRun m zs n rho outer steps c → StepsRun m rho outer steps c
unchosen m zs n rho outer [] c p = p
unchosen m zs n rho outer (Does item ∷ rest) c p =
    goes_more m (λ z. z ≡ variable zs n) Any (λ r k. ChosenRun m zs (next_place item n) r outer rest k) (λ r k. StepsRun m r outer rest k) rho item c
    (λ z e. tt) (λ r k q. unchosen m zs (next_place item n) r outer rest k q) p
unchosen m zs n rho outer (Enters args ∷ rest) c p = unchosen m zs n (next_wholes args rho) (rho ∷ outer) rest c p
unchosen m zs n rho [] (Leaves ∷ rest) c p = unchosen m zs n rho [] rest c p
unchosen m zs n rho (around ∷ outer) (Leaves ∷ rest) c p = unchosen m zs n around outer rest c p
