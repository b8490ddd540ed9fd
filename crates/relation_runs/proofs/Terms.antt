-- A term passes, and spends, what one of its ways does.
use Rattle.std.proofs.Common.{◌≡◌, ℕ, ◌+◌, ℤ, List, [], ◌∷◌, ◌++◌, ◌⊎◌, map, Contains, inl, inr, refl, sym, ap, ◌∙◌, subst}
use Rattle.std.proofs.lemmas.List.Elements.{Contains-append_left, Contains-append_right, Contains-append_cases}
use Rattle.common_laws.proofs.Members.{contains_head, contains_cases, contains_none, in_map, from_map}
use Rattle.lin_rows.specs.Transitions.{next_wholes}
use Rattle.rule_terms.specs.declared.item.Item.{Item}
use Rattle.rule_terms.specs.declared.item.Item.TheVariants.{Assume, Spend, Fresh, Call}
use Rattle.rule_terms.specs.Terms.{Term, Ends, Assumes, Spends, Makes, Calls, Either}
use Rattle.rule_terms.specs.Paths.{paths_of, behind}
use Rattle.relation_runs.specs.Passing.{Amounts}
use Rattle.relation_runs.specs.Trees.{variable_set, TermPasses, TermSpends, WayPasses, WaySpends}

-- ---- members of lists of ways
pub behind_member : (item : Item) (paths : List (List Item)) (way : List Item) → Contains paths way → Contains (behind item paths) (item ∷ way)
behind_member item paths way m = in_map (λ (p : List Item). item ∷ p) paths way m

-- a way with an item before it
pub record IsBehind (item : Item) (paths : List (List Item)) (way : List Item) : Type 0 where
  pub rest : List Item
  pub is : item ∷ rest ≡ way
  pub member : Contains paths rest

pub member_behind : (item : Item) (paths : List (List Item)) (way : List Item) → Contains (behind item paths) way → IsBehind item paths way
member_behind item paths way m = let f = from_map (λ (p : List Item). item ∷ p) paths way m in record { rest = f.0; is = f.2; member = f.1 }

pub member_left : (xs ys : List (List Item)) (way : List Item) → Contains xs way → Contains (xs ++ ys) way
member_left xs ys way m = Contains-append_left xs ys way m

pub member_right : (xs ys : List (List Item)) (way : List Item) → Contains ys way → Contains (xs ++ ys) way
member_right xs ys way m = Contains-append_right xs ys way m

pub member_cut : (xs ys : List (List Item)) (way : List Item) → Contains (xs ++ ys) way → Contains xs way ⊎ Contains ys way
member_cut xs ys way m = Contains-append_cases xs ys way m

member_one : (way : List Item) → Contains ([] ∷ []) way → [] ≡ way
member_one way m = elim (contains_cases [] [] way m) [ inl e ↦ e | inr n ↦ absurd (contains_none way n) ]

-- some way, there is always one
pub some_way : (t : Term) → (way : List Item) × Contains (paths_of t) way
some_way Ends = ([], contains_head [] [])
some_way (Assumes row rest) = let w = some_way rest in (Assume row ∷ w.0, behind_member (Assume row) (paths_of rest) w.0 w.1)
some_way (Spends n rest) = let w = some_way rest in (Spend n ∷ w.0, behind_member (Spend n) (paths_of rest) w.0 w.1)
some_way (Makes v rest) = let w = some_way rest in (Fresh v ∷ w.0, behind_member (Fresh v) (paths_of rest) w.0 w.1)
some_way (Calls node args rest) = let w = some_way rest in (Call node args ∷ w.0, behind_member (Call node args) (paths_of rest) w.0 w.1)
some_way (Either first second) = let w = some_way first in (w.0, member_left (paths_of first) (paths_of second) w.0 w.1)

-- ---- passing
-- a way through the term that passes
abbrev pub SomeWayPasses : Amounts → List ℤ → Term → ℕ → Type 0
SomeWayPasses P zs t c = (way : List Item) × Contains (paths_of t) way × WayPasses P zs way c

pub term_pass : (P : Amounts) (zs : List ℤ) (t : Term) (c : ℕ) → TermPasses P zs t c → SomeWayPasses P zs t c
term_pass P zs Ends c p = ([], contains_head [] [], p)
term_pass P zs (Assumes row rest) c p =
    let w = term_pass P zs rest c p.1 in (Assume row ∷ w.0, behind_member (Assume row) (paths_of rest) w.0 w.1, (p.0, w.2))
term_pass P zs (Spends n rest) c p =
    let w = term_pass P zs rest p.0 p.2 in (Spend n ∷ w.0, behind_member (Spend n) (paths_of rest) w.0 w.1, (p.0, p.1, w.2))
term_pass P zs (Makes v rest) c p =
    let w = term_pass P (variable_set zs v p.0) rest c p.1 in (Fresh v ∷ w.0, behind_member (Fresh v) (paths_of rest) w.0 w.1, (p.0, w.2))
term_pass P zs (Calls node args rest) c p =
    let w = term_pass P zs rest p.1 p.4 in (Call node args ∷ w.0, behind_member (Call node args) (paths_of rest) w.0 w.1, (p.0, p.1, p.2, p.3, w.2))
term_pass P zs (Either first second) c (inl p) = let w = term_pass P zs first c p in (w.0, member_left (paths_of first) (paths_of second) w.0 w.1, w.2)
term_pass P zs (Either first second) c (inr p) = let w = term_pass P zs second c p in (w.0, member_right (paths_of first) (paths_of second) w.0 w.1, w.2)

pub way_pass : (P : Amounts) (zs : List ℤ) (t : Term) (way : List Item) (c : ℕ) → Contains (paths_of t) way → WayPasses P zs way c → TermPasses P zs t c
way_pass P zs Ends way c m p = subst (λ (w : List Item). WayPasses P zs w c) (sym (member_one way m)) p
way_pass P zs (Assumes row rest) way c m p =
    let b = member_behind (Assume row) (paths_of rest) way m in
    let q = subst (λ (w : List Item). WayPasses P zs w c) (sym b.is) p in
    (q.0, way_pass P zs rest b.rest c b.member q.1)
way_pass P zs (Spends n rest) way c m p =
    let b = member_behind (Spend n) (paths_of rest) way m in
    let q = subst (λ (w : List Item). WayPasses P zs w c) (sym b.is) p in
    (q.0, q.1, way_pass P zs rest b.rest q.0 b.member q.2)
way_pass P zs (Makes v rest) way c m p =
    let b = member_behind (Fresh v) (paths_of rest) way m in
    let q = subst (λ (w : List Item). WayPasses P zs w c) (sym b.is) p in
    (q.0, way_pass P (variable_set zs v q.0) rest b.rest c b.member q.1)
way_pass P zs (Calls node args rest) way c m p =
    let b = member_behind (Call node args) (paths_of rest) way m in
    let q = subst (λ (w : List Item). WayPasses P zs w c) (sym b.is) p in
    (q.0, q.1, q.2, q.3, way_pass P zs rest b.rest q.1 b.member q.4)
way_pass P zs (Either first second) way c m p = elim (member_cut (paths_of first) (paths_of second) way m) [
  | inl l ↦ inl (way_pass P zs first way c l p)
  | inr r ↦ inr (way_pass P zs second way c r p)
]

-- ---- spending
abbrev pub SomeWaySpends : Amounts → Amounts → List ℤ → Term → ℕ → Type 0
SomeWaySpends P S zs t c = (way : List Item) × Contains (paths_of t) way × WaySpends P S zs way c

pub term_spend : (P S : Amounts) (zs : List ℤ) (t : Term) (c : ℕ) → TermSpends P S zs t c → SomeWaySpends P S zs t c
term_spend P S zs Ends c p = ([], contains_head [] [], p)
term_spend P S zs (Assumes row rest) c (inl e) = let w = some_way rest in (Assume row ∷ w.0, behind_member (Assume row) (paths_of rest) w.0 w.1, inl e)
term_spend P S zs (Assumes row rest) c (inr p) =
    let w = term_spend P S zs rest c p.1 in (Assume row ∷ w.0, behind_member (Assume row) (paths_of rest) w.0 w.1, inr (p.0, w.2))
term_spend P S zs (Spends n rest) c (inl e) = let w = some_way rest in (Spend n ∷ w.0, behind_member (Spend n) (paths_of rest) w.0 w.1, inl e)
term_spend P S zs (Spends n rest) c (inr p) =
    let w = term_spend P S zs rest p.0 p.2 in (Spend n ∷ w.0, behind_member (Spend n) (paths_of rest) w.0 w.1, inr (p.0, p.1, w.2))
term_spend P S zs (Makes v rest) c p =
    let w = term_spend P S (variable_set zs v p.0) rest c p.1 in (Fresh v ∷ w.0, behind_member (Fresh v) (paths_of rest) w.0 w.1, (p.0, w.2))
term_spend P S zs (Calls node args rest) c (inl e) =
    let w = some_way rest in (Call node args ∷ w.0, behind_member (Call node args) (paths_of rest) w.0 w.1, inl e)
term_spend P S zs (Calls node args rest) c (inr (inl s)) =
    let w = some_way rest in (Call node args ∷ w.0, behind_member (Call node args) (paths_of rest) w.0 w.1, inr (inl s))
term_spend P S zs (Calls node args rest) c (inr (inr p)) =
    let w = term_spend P S zs rest p.1 p.4 in
    (Call node args ∷ w.0, behind_member (Call node args) (paths_of rest) w.0 w.1, inr (inr (p.0, p.1, p.2, p.3, w.2)))
term_spend P S zs (Either first second) c (inl p) = let w = term_spend P S zs first c p in (w.0, member_left (paths_of first) (paths_of second) w.0 w.1, w.2)
term_spend P S zs (Either first second) c (inr p) = let w = term_spend P S zs second c p in (w.0, member_right (paths_of first) (paths_of second) w.0 w.1, w.2)

-- by the kind of what the way spends
assumed : (P S : Amounts) (zs : List ℤ) (t : Term) (c : ℕ) {H W : Type 0} → (W → TermSpends P S zs t c) → (c ≡ 0) ⊎ (H × W) → (c ≡ 0) ⊎ (H × TermSpends P S zs t c)
assumed P S zs t c on (inl e) = inl e
assumed P S zs t c on (inr p) = inr (p.0, on p.1)

pub way_spend : (P S : Amounts) (zs : List ℤ) (t : Term) (way : List Item) (c : ℕ) → Contains (paths_of t) way → WaySpends P S zs way c → TermSpends P S zs t c
way_spend P S zs Ends way c m p = subst (λ (w : List Item). WaySpends P S zs w c) (sym (member_one way m)) p
way_spend P S zs (Assumes row rest) way c m p =
    let b = member_behind (Assume row) (paths_of rest) way m in
    assumed P S zs rest c (λ q. way_spend P S zs rest b.rest c b.member q) (subst (λ (w : List Item). WaySpends P S zs w c) (sym b.is) p)
way_spend P S zs (Spends n rest) way c m p =
    let b = member_behind (Spend n) (paths_of rest) way m in
    elim (subst (λ (w : List Item). WaySpends P S zs w c) (sym b.is) p) [
      | inl e ↦ inl e
      | inr q ↦ inr (q.0, q.1, way_spend P S zs rest b.rest q.0 b.member q.2)
    ]
way_spend P S zs (Makes v rest) way c m p =
    let b = member_behind (Fresh v) (paths_of rest) way m in
    let q = subst (λ (w : List Item). WaySpends P S zs w c) (sym b.is) p in
    (q.0, way_spend P S (variable_set zs v q.0) rest b.rest c b.member q.1)
way_spend P S zs (Calls node args rest) way c m p =
    let b = member_behind (Call node args) (paths_of rest) way m in
    elim (subst (λ (w : List Item). WaySpends P S zs w c) (sym b.is) p) [
      | inl e ↦ inl e
      | inr (inl s) ↦ inr (inl s)
      | inr (inr q) ↦ inr (inr (q.0, q.1, q.2, q.3, way_spend P S zs rest b.rest q.1 b.member q.4))
    ]
way_spend P S zs (Either first second) way c m p = elim (member_cut (paths_of first) (paths_of second) way m) [
  | inl l ↦ inl (way_spend P S zs first way c l p)
  | inr r ↦ inr (way_spend P S zs second way c r p)
]
