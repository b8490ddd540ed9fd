-- What items spend is at most what they cost, and what their self calls spend at most.
use Rattle.std.proofs.Common.{◌≡◌, ◌≢◌, ◌⊎◌, inl, inr, ℕ, ◌+◌, ◌*◌, ◌≤◌, nat_eq, Bool, true, false, ℤ, pos, ◌*ℤ◌, ◌≤ℤ◌, List, [], ◌∷◌, ◌++◌, length, Contains, Option, refl, sym, ◌∙◌, subst, arith, append_assoc, if◌then◌else◌}
use Rattle.std.proofs.lemmas.Bool.{eqb-true, eq-eqb}
use Rattle.std.proofs.lemmas.List.Elements.{Contains-append_right}
use Rattle.common_laws.proofs.Members.{contains_head}
use Rattle.lin_rows.specs.Linear.{Linear}
use Rattle.lin_rows.specs.Points.{whole_value, RowsHoldAtWhole}
use Rattle.lin_rows.specs.Rows.{lins}
use Rattle.lin_rows.specs.Transitions.{after, next_wholes}
use Rattle.lin_rows.proofs.StepValues.{step_on_wholes}
use Rattle.rule_terms.specs.declared.item.Item.{Item}
use Rattle.rule_terms.specs.declared.item.Item.TheVariants.{Assume, Spend, Fresh, Call}
use Rattle.relation_runs.specs.Passing.{Amounts, ItemsSpend}
use Rattle.bound_terms.specs.Terms.{Floored, Term, terms}
use Rattle.bound_terms.specs.Values.{floored_value, value_of, total_of}
use Rattle.bound_terms.proofs.Following.{floors_of_caps}
use Rattle.rankings.specs.SelfCalls.{rows_of}
use Rattle.rankings.specs.Caps.{IsCapThere}
use Rattle.node_forms.specs.Parts.{Cap, cap_of, next_caps, later_caps, self_calls}
use Rattle.node_forms.specs.Floors.{capped_by, capped, floors_of}
use Rattle.node_forms.specs.Costs.{item_costs}
use Rattle.node_forms.specs.Bounding.{Setting, IsCapped, IsCappedUnless, AreCapped}
use Rattle.node_forms.proofs.Terms.{replaced_value, proper_floor}
use Rattle.node_forms.proofs.Items.{Held, held_rows, held_joined}

-- what is capped at whole numbers
abbrev pub CapsAt : Setting → List ℤ → List ℤ → Type 0
CapsAt s zs e = (rows : List Linear) (l u : Linear) (d : ℕ) → IsCapThere s.recursive (s.sizes s.self) rows s.kept l u d → RowsHoldAtWhole rows zs → (pos d *ℤ whole_value l zs) ≤ℤ whole_value u e

capped_floor : (s : Setting) (zs e : List ℤ) (rows : List Linear) (caps : List Cap) (node : ℕ) (args : List Linear) → CapsAt s zs e → RowsHoldAtWhole rows zs → IsCapped s rows caps node args
    → (n : Floored) → Contains (floors_of (s.forms node)) n → floored_value (next_wholes args zs) n ≤ floored_value e (capped_by (cap_of caps n.expression) n)
capped_floor s zs e rows caps node args cap r h n m =
    let c = h.each n m in
    let moved = (step_on_wholes n.expression args (pos 0) zs).moved in
    let low : (pos c.0.divisor *ℤ whole_value n.expression (next_wholes args zs)) ≤ℤ whole_value c.0.cap e =
    subst (λ k. (pos c.0.divisor *ℤ k) ≤ℤ whole_value c.0.cap e) moved (cap rows (after n.expression args) c.0.cap c.0.divisor c.2 r) in
    subst (λ (o : Option Cap). floored_value (next_wholes args zs) n ≤ floored_value e (capped_by o n)) (sym c.1)
    (floors_of_caps (whole_value n.expression (next_wholes args zs)) (whole_value c.0.cap e) c.0.divisor n.divisor c.2.is.positive (proper_floor (s.forms node) n h.proper m) low)

capped_call : (s : Setting) (zs e : List ℤ) (rows : List Linear) (caps : List Cap) (node : ℕ) (args : List Linear) → CapsAt s zs e → RowsHoldAtWhole rows zs → IsCapped s rows caps node args
    → value_of (next_wholes args zs) (s.forms node) ≤ value_of e (capped caps (s.forms node))
capped_call s zs e rows caps node args cap r h =
    replaced_value (λ (n : Floored). capped_by (cap_of caps n.expression) n) (next_wholes args zs) e (s.forms node) h.proper (capped_floor s zs e rows caps node args cap r h)

-- ---- sums
abbrev pub CallIsWithin : Bool → ℕ → ℕ → ℕ → Type 0
CallIsWithin true a most cost = a ≤ most
CallIsWithin false a most cost = a ≤ cost

more_calls : (a k t m most : ℕ) → a ≤ most → k ≤ t + m * most → a + k ≤ t + (1 + m) * most
more_calls a k t m most h g = let e : (1 + m) * most ≡ most + m * most = grind arith in omega (arith, e, h, g)

no_more_calls : (c t m most : ℕ) → c ≤ t + m * most → c ≤ t + (0 + m) * most
no_more_calls c t m most h = let e : 0 + m ≡ m = omega arith in subst (λ k. c ≤ t + k * most) (sym e) h

joined_call : (b : Bool) (e : List ℤ) (most a k m : ℕ) (cost : Term) (rest : List Term) → CallIsWithin b a most (value_of e cost) → k ≤ total_of e (terms rest) + m * most
    → a + k ≤ total_of e (terms (if b then rest else cost ∷ rest)) + ((if b then 1 else 0) + m) * most
joined_call true e most a k m cost rest h g = more_calls a k (total_of e (terms rest)) m most h g
joined_call false e most a k m cost rest h g = no_more_calls (a + k) (value_of e cost + total_of e (terms rest)) m most (omega (arith, h, g))

module _ (P S : Amounts) (s : Setting) (zs e : List ℤ) (all : List Item) (most : ℕ)
    (others : (node : ℕ) (args : List Linear) (k : ℕ) → node ≢ s.self → Contains all (Call node args) → length args ≡ s.sizes node → (P node (next_wholes args zs) k ⊎ S node (next_wholes args zs) k) → k ≤ value_of (next_wholes args zs) (s.forms node))
    (selfs : (front rest : List Item) (args : List Linear) (k : ℕ) → all ≡ front ++ Call s.self args ∷ rest → Held zs front → (P s.self (next_wholes args zs) k ⊎ S s.self (next_wholes args zs) k) → k ≤ most)
    (cap : CapsAt s zs e) where
  call_within : (b : Bool) (front rest : List Item) (caps : List Cap) (node : ℕ) (args : List Linear) (a : ℕ) → nat_eq node s.self ≡ b → all ≡ front ++ Call node args ∷ rest → Held zs front
      → IsCappedUnless b s (lins (rows_of front)) caps node args → (P node (next_wholes args zs) a ⊎ S node (next_wholes args zs) a) → CallIsWithin b a most (value_of e (capped caps (s.forms node)))
  call_within true front rest caps node args a is at h c p =
      let same : node ≡ s.self = eqb-true node s.self is in
      selfs front rest args a (subst (λ (n : ℕ). all ≡ front ++ Call n args ∷ rest) same at) h (subst (λ (n : ℕ). P n (next_wholes args zs) a ⊎ S n (next_wholes args zs) a) same p)
  call_within false front rest caps node args a is at h c p =
      let there : Contains all (Call node args) = subst (λ (xs : List Item). Contains xs (Call node args)) (sym at) (Contains-append_right front (Call node args ∷ rest) (Call node args) (contains_head (Call node args) rest)) in
      let apart : node ≢ s.self = λ q. let t = eq-eqb node s.self q in (let f : ⊥ = cc in f) in
      let own = others node args a apart there c.arity p in
      let more = capped_call s zs e (lins (rows_of front)) caps node args cap (held_rows zs front h) c in
      omega (arith, own, more)

  -- behind a front that is passed
  on : (front rest : List Item) (item : Item) → all ≡ front ++ item ∷ rest → all ≡ (front ++ item ∷ []) ++ rest
  on front rest item at = at ∙ sym (append_assoc front (item ∷ []) rest)

  pub spent : (front items : List Item) (caps : List (List Cap)) (c : ℕ) → all ≡ front ++ items → Held zs front → AreCapped s front caps items → ItemsSpend P S zs items c
      → c ≤ total_of e (terms (item_costs s.self s.forms caps items)) + self_calls s.self items * most
  spent front [] caps c at h k p = omega (arith, p)
  spent front (Assume row ∷ rest) caps c at h k (inl z) = omega (arith, z)
  spent front (Assume row ∷ rest) caps c at h k (inr p) =
      no_more_calls c (total_of e (terms (item_costs s.self s.forms caps rest))) (self_calls s.self rest) most
      (spent (front ++ Assume row ∷ []) rest caps c (on front rest (Assume row) at) (held_joined zs front (Assume row ∷ []) h (p.0, tt)) k p.1)
  spent front (Spend n ∷ rest) caps c at h k (inl z) = omega (arith, z)
  spent front (Spend n ∷ rest) caps c at h k (inr p) =
      no_more_calls c (n + total_of e (terms (item_costs s.self s.forms caps rest))) (self_calls s.self rest) most
      (let r = spent (front ++ Spend n ∷ []) rest caps p.0 (on front rest (Spend n) at) (held_joined zs front (Spend n ∷ []) h tt) k p.2 in omega (arith, r, p.1))
  spent front (Fresh v ∷ rest) caps c at h k p =
      no_more_calls c (total_of e (terms (item_costs s.self s.forms caps rest))) (self_calls s.self rest) most
      (spent (front ++ Fresh v ∷ []) rest caps c (on front rest (Fresh v) at) (held_joined zs front (Fresh v ∷ []) h tt) k p)
  spent front (Call node args ∷ rest) caps c at h k (inl z) = omega (arith, z)
  spent front (Call node args ∷ rest) caps c at h k (inr (inl q)) =
      let b = nat_eq node s.self in
      let own = call_within b front rest (next_caps caps) node args c refl at h k.0 (inr q) in
      let r = joined_call b e most c 0 (self_calls s.self rest) (capped (next_caps caps) (s.forms node)) (item_costs s.self s.forms (later_caps caps) rest) own (omega arith) in
      let z : c + 0 ≡ c = omega arith in
      subst (λ (x : ℕ). x ≤ total_of e (terms (item_costs s.self s.forms caps (Call node args ∷ rest))) + self_calls s.self (Call node args ∷ rest) * most) z r
  spent front (Call node args ∷ rest) caps c at h k (inr (inr p)) =
      let b = nat_eq node s.self in
      let own = call_within b front rest (next_caps caps) node args p.0 refl at h k.0 (inl p.3) in
      let later = spent (front ++ Call node args ∷ []) rest (later_caps caps) p.1 (on front rest (Call node args) at) (held_joined zs front (Call node args ∷ []) h tt) k.1 p.4 in
      let r = joined_call b e most p.0 p.1 (self_calls s.self rest) (capped (next_caps caps) (s.forms node)) (item_costs s.self s.forms (later_caps caps) rest) own later in
      subst (λ (x : ℕ). x ≤ total_of e (terms (item_costs s.self s.forms caps (Call node args ∷ rest))) + self_calls s.self (Call node args ∷ rest) * most) (sym p.2) r
