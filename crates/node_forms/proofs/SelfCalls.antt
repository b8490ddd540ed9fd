-- Self calls of a rule are steps of the node.
use Rattle.std.proofs.Common.{◌≡◌, ℕ, suc, ◌+◌, ◌<◌, nat_eq, Bool, true, false, List, [], ◌∷◌, ◌++◌, filter, Contains, refl, sym, ap, ◌∙◌, subst, arith, append_assoc, inl, inr, if◌then◌else◌}
use Rattle.std.proofs.lemmas.Bool.{eq-eqb}
use Rattle.common_laws.proofs.Members.{contains_head, contains_tail, contains_cases, contains_none, in_map}
use Rattle.lin_rows.specs.Linear.{Linear}
use Rattle.lin_rows.specs.declared.row.Transition.{Transition}
use Rattle.rule_terms.specs.declared.item.Item.{Item}
use Rattle.rule_terms.specs.declared.item.Item.TheVariants.{Assume, Spend, Fresh, Call}
use Rattle.std.proofs.lemmas.List.Elements.{Contains-append_left}
use Rattle.rankings.specs.SelfCalls.{Site, rows_of, sites_from, rules_sites, self_steps, step_of}
use Rattle.node_forms.specs.Parts.{self_calls}

-- what is called so behind a front
abbrev pub CalledBehind : List Site → List Item → ℕ → List Linear → Type 0
CalledBehind sites before node args = (s : Site) × Contains sites s × (s.before ≡ before) × (s.node ≡ node) × (s.args ≡ args)

behind_one : (i j : ℕ) (before front rest : List Item) (item : Item) (node : ℕ) (args : List Linear)
    → CalledBehind (sites_from i j (before ++ item ∷ []) (front ++ Call node args ∷ rest)) ((before ++ item ∷ []) ++ front) node args
    → CalledBehind (sites_from i j (before ++ item ∷ []) (front ++ Call node args ∷ rest)) (before ++ item ∷ front) node args
behind_one i j before front rest item node args c = (c.0, c.1, c.2 ∙ append_assoc before (item ∷ []) front, c.3, c.4)

pub site_behind : (i j : ℕ) (before front rest : List Item) (node : ℕ) (args : List Linear) → CalledBehind (sites_from i j before (front ++ Call node args ∷ rest)) (before ++ front) node args
site_behind i j before [] rest node args =
    let s : Site = record { rule = i; call = j; before = before; node = node; args = args } in
    (s, contains_head s (sites_from i (suc j) (before ++ Call node args ∷ []) rest), sym (no_more before), refl, refl)
  where
    no_more : (xs : List Item) → xs ++ [] ≡ xs
    no_more [] = refl
    no_more (x ∷ xs) = ap (λ ys. x ∷ ys) (no_more xs)
site_behind i j before (Assume row ∷ front) rest node args = behind_one i j before front rest (Assume row) node args (site_behind i j (before ++ Assume row ∷ []) front rest node args)
site_behind i j before (Spend n ∷ front) rest node args = behind_one i j before front rest (Spend n) node args (site_behind i j (before ++ Spend n ∷ []) front rest node args)
site_behind i j before (Fresh v ∷ front) rest node args = behind_one i j before front rest (Fresh v) node args (site_behind i j (before ++ Fresh v ∷ []) front rest node args)
site_behind i j before (Call m xs ∷ front) rest node args =
    let c = behind_one i (suc j) before front rest (Call m xs) node args (site_behind i (suc j) (before ++ Call m xs ∷ []) front rest node args) in
    let s : Site = record { rule = i; call = j; before = before; node = m; args = xs } in
    (c.0, contains_tail s (sites_from i (suc j) (before ++ Call m xs ∷ []) (front ++ Call node args ∷ rest)) c.0 c.1, c.2, c.3, c.4)

in_filter : {A : Type 0} (p : A → Bool) (xs : List A) (x : A) → Contains xs x → p x ≡ true → Contains (filter p xs) x
in_filter p [] x m e = absurd (contains_none x m)
in_filter p (y ∷ xs) x m e = elim (contains_cases y xs x m) [
  | inl same ↦ subst (λ z. Contains (filter p (y ∷ xs)) z) same (kept (p y) (subst (λ z. p z ≡ true) (sym same) e))
  | inr later ↦ further (p y) (in_filter p xs x later e)
]
  where
    kept : (b : Bool) → b ≡ true → Contains (if b then y ∷ filter p xs else filter p xs) y
    kept true f = contains_head y (filter p xs)
    kept false f = absurd (let g : ⊥ = cc in g)

    further : (b : Bool) → Contains (filter p xs) x → Contains (if b then y ∷ filter p xs else filter p xs) x
    further true f = contains_tail y (filter p xs) x f
    further false f = f

-- a self call of a rule makes a step
pub self_step : (self : ℕ) (front rest : List Item) (args : List Linear) → Contains (self_steps self ((front ++ Call self args ∷ rest) ∷ [])) (record { rows = rows_of front; next = args })
self_step self front rest args =
    let items : List Item = front ++ Call self args ∷ rest in
    let c = site_behind 1 1 [] front rest self args in
    let all = Contains-append_left (sites_from 1 1 [] items) (rules_sites 2 []) c.0 c.1 in
    let own = in_filter (λ (s : Site). nat_eq s.node self) (rules_sites 1 (items ∷ [])) c.0 all (eq-eqb c.0.node self c.3) in
    let made = in_map step_of (filter (λ (s : Site). nat_eq s.node self) (rules_sites 1 (items ∷ []))) c.0 own in
    let e : step_of c.0 ≡ record { rows = rows_of front; next = args } =
    ap (λ (xs : List Item). let t : Transition = record { rows = rows_of xs; next = c.0.args } in t) c.2 ∙ ap (λ (ls : List Linear). let t : Transition = record { rows = rows_of front; next = ls } in t) c.4 in
    subst (λ (t : Transition). Contains (self_steps self (items ∷ [])) t) e made

-- items with a self call have one at least
pub calls_there : (self : ℕ) (front rest : List Item) (args : List Linear) → 0 < self_calls self (front ++ Call self args ∷ rest)
calls_there self [] rest args = own (nat_eq self self) (eq-eqb self self refl)
  where
    own : (b : Bool) → b ≡ true → 0 < (if b then 1 else 0) + self_calls self rest
    own true f = omega arith
    own false f = absurd (let g : ⊥ = cc in g)
calls_there self (item ∷ front) rest args = let h = calls_there self front rest args in omega (arith, h)
