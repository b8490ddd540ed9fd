-- Graphs of calls as they are made, and where calls lead.
use Rattle.std.proofs.Common.{◌≡◌, ◌≢◌, ◌↔◌, ◌⊎◌, inl, inr, ⊎_elim, ℕ, zero, suc, ◌+◌, ◌<◌, ◌≤◌, nat_lt, Bool, true, false, ◌&&◌, List, [], ◌∷◌, ◌++◌, length, map, take, get_or, replicate, slice_index_or, Option, Some, None, IsTrue, refl, sym, ap, ◌∙◌, subst, arith}
use Rattle.std.specs.List.{flat_map, list_all, Contains}
use Rattle.std.proofs.lemmas.Bool.{cases_lt, ltb-true}
use Rattle.std.proofs.lemmas.List.{take_more, length-map}
use Rattle.std.proofs.lemmas.List.Elements.{Contains-append_left, Contains-append_cases, Contains-push, Contains-push_cases}
use Rattle.lin_rows.specs.Linear.{Linear}
use Rattle.rule_terms.specs.declared.item.Item.{Item}
use Rattle.rule_terms.specs.declared.item.Item.TheVariants.{Assume, Spend, Fresh, Call}
use Rattle.rule_terms.specs.declared.rule.Rule.{Rule}
use Rattle.rule_terms.specs.Terms.{term_of}
use Rattle.rule_terms.specs.Paths.{paths_of}
use Rattle.relations.specs.declared.node.Node.{Node}
use Rattle.relations.specs.Relation.{Relation, sizes_of, ways_of}
use Rattle.relations.specs.Scope.{is_in_range, has_arity, lin_bound, made_after, IsScoped, AreScoped, AreScopedRules, AreScopedNodes, IsRelation}
use Rattle.graph_core.specs.Graphs.{HasEdge}
use Rattle.base_relations.specs.Unfolding.{node_ways, ways_at, Calls, IsCallGraph}
use Rattle.base_relations.specs.Direct.{CallsOf, IsBaseGraph}
use Rattle.base_relations.specs.inside.Plans.{IsCallOf, CallsIn, Adds, AreEdgesTo}
use Rattle.base_relations.proofs.Expanding.{contains_tail}

-- ---- edges that are added
pub adds_none : (g h : List (List ℕ)) (a : ℕ) (P : ℕ → Type 0) → h ≡ g → ((y : ℕ) → P y → y < length g → ⊥) → Adds g h a P
adds_none g h a P e none = rw e (λ x y. (λ p. inl p, λ s. ⊎_elim (λ p. p) (λ p. absurd (none y p.2 p.1)) s))

pub adds_more : (g h k : List (List ℕ)) (a : ℕ) (P Q R : ℕ → Type 0) → length h ≡ length g → ((y : ℕ) → R y ↔ (P y ⊎ Q y)) → Adds g h a P → Adds h k a Q → Adds g k a R
adds_more g h k a P Q R same by p q x y = (there, back)
  where
    there : HasEdge k x y → HasEdge g x y ⊎ ((x ≡ a) × (y < length g) × R y)
    there e =
        ⊎_elim
        (λ f. ⊎_elim (λ o. inl o) (λ n. inr (n.0, n.1, (by y).1 (inl n.2))) ((p x y).0 f))
        (λ n. inr (n.0, subst (λ m. y < m) same n.1, (by y).1 (inr n.2)))
        ((q x y).0 e)

    back : HasEdge g x y ⊎ ((x ≡ a) × (y < length g) × R y) → HasEdge k x y
    back s =
        ⊎_elim
        (λ o. (q x y).1 (inl ((p x y).1 (inl o))))
        (λ n. ⊎_elim (λ l. (q x y).1 (inl ((p x y).1 (inr (n.0, n.1, l))))) (λ r. (q x y).1 (inr (n.0, subst (λ m. y < m) (sym same) n.1, r))) ((by y).0 n.2))
        s

pub adds_edge : (g h : List (List ℕ)) (a b : ℕ) (args : List Linear) → b < length g → ((x y : ℕ) → HasEdge h x y ↔ (HasEdge g x y ⊎ ((x ≡ a) × (y ≡ b)))) → Adds g h a (IsCallOf (Call b args))
adds_edge g h a b args low e x y = (
  λ p. ⊎_elim (λ o. inl o) (λ n. inr (n.0, subst (λ z. z < length g) (sym n.1) low, (args, ap (λ z. Call z args) (sym n.1)))) ((e x y).0 p),
  λ s. (e x y).1 (⊎_elim (λ o. inl o) (λ n. inr (n.0, called n.2.1)) s),
)
  where
    called : {b y : ℕ} {ls ks : List Linear} → Call b ls ≡ Call y ks → y ≡ b
    called i = cc

-- ---- one item more, and one way more
pub calls_in_more : (way : List Item) (i : ℕ) (item : Item) → i < length way → item ≡ get_or way i item → (y : ℕ) → CallsIn (take (i + 1) way) y ↔ (CallsIn (take i way) y ⊎ IsCallOf item y)
calls_in_more way i item low is y =
    let more : take (i + 1) way ≡ take i way ++ item ∷ [] = take_more way i item low ∙ ap (λ (x : Item). take i way ++ x ∷ []) (sym is) in
    rw more (
      λ p. ⊎_elim (λ l. inl (p.0, l)) (λ r. inr (p.0, r)) (Contains-push_cases (take i way) item (Call y p.0) p.1),
      λ s. ⊎_elim (λ l. (l.0, Contains-append_left (take i way) (item ∷ []) (Call y l.0) l.1)) (λ r. (r.0, subst (Contains (take i way ++ item ∷ [])) r.1 (Contains-push (take i way) item))) s,
    )

pub calls_in_all : (way : List Item) (y : ℕ) (i : ℕ) → length way ≤ i → take i way ≡ way
calls_in_all [] y zero h = refl
calls_in_all [] y (suc i) h = refl
calls_in_all (item ∷ way) y zero h = absurd (omega arith)
calls_in_all (item ∷ way) y (suc i) h = ap (λ (xs : List Item). item ∷ xs) (calls_in_all way y i (omega arith))

pub calls_more : (ways : List (List Item)) (i : ℕ) (way : List Item) → i < length ways → way ≡ get_or ways i way → (y : ℕ) → Calls (take (i + 1) ways) y ↔ (Calls (take i ways) y ⊎ CallsIn way y)
calls_more ways i way low is y =
    let more : take (i + 1) ways ≡ take i ways ++ way ∷ [] = take_more ways i way low ∙ ap (λ (x : List Item). take i ways ++ x ∷ []) (sym is) in
    rw more (
      λ p. ⊎_elim (λ l. inl (p.0, p.1, l, p.3)) (λ r. inr (p.1, subst (λ (w : List Item). Contains w (Call y p.1)) (sym r) p.3)) (Contains-push_cases (take i ways) way p.0 p.2),
      λ s. ⊎_elim (λ l. (l.0, l.1, Contains-append_left (take i ways) (way ∷ []) l.0 l.2, l.3)) (λ r. (way, r.0, Contains-push (take i ways) way, r.1)) s,
    )

pub ways_all : (ways : List (List Item)) (i : ℕ) → length ways ≤ i → take i ways ≡ ways
ways_all [] zero h = refl
ways_all [] (suc i) h = refl
ways_all (way ∷ ways) zero h = absurd (omega arith)
ways_all (way ∷ ways) (suc i) h = ap (λ (xs : List (List Item)). way ∷ xs) (ways_all ways i (omega arith))

pub row_at : {A : Type 0} (xs : List A) (i : ℕ) (x d : A) → i < length xs → x ≡ get_or xs i x → x ≡ get_or xs i d
row_at [] i x d h is = absurd (omega arith)
row_at (y ∷ xs) zero x d h is = is
row_at (y ∷ xs) (suc i) x d h is = row_at xs i x d (omega arith) is

-- ---- graphs
pub edges_none : (P : ℕ → ℕ → Type 0) (n : ℕ) (g : List (List ℕ)) → ((x y : ℕ) → HasEdge g x y → ⊥) → AreEdgesTo P n g 0
edges_none P n g none x y = (λ e. absurd (none x y e), λ p. absurd (let low = p.0 in omega arith))

pub edges_more : (P : ℕ → ℕ → Type 0) (n : ℕ) (g h : List (List ℕ)) (a : ℕ) → length g ≡ n → AreEdgesTo P n g a → Adds g h a (P a) → AreEdgesTo P n h (a + 1)
edges_more P n g h a same inv adds x y = (there, back)
  where
    there : HasEdge h x y → (x < a + 1) × (y < n) × P x y
    there e =
        ⊎_elim
        (λ o. let p = (inv x y).0 o in let low = p.0 in (omega arith, p.1, p.2))
        (λ m. let is = m.0 in (omega arith, subst (λ k. y < k) same m.1, subst (λ z. P z y) (sym m.0) m.2))
        ((adds x y).0 e)

    back : (x < a + 1) × (y < n) × P x y → HasEdge h x y
    back p =
        ⊎_elim
        (λ low. (adds x y).1 (inl ((inv x y).1 (low, p.1, p.2))))
        (λ high. let low = p.0 in let is : x ≡ a = omega arith in (adds x y).1 (inr (is, subst (λ k. y < k) (sym same) p.1, subst (λ z. P z y) is p.2)))
        (cases_lt x a)

no_way : (ways : List (List (List Item))) (a : ℕ) → length ways ≤ a → ways_at ways a ≡ []
no_way [] a h = refl
no_way (w ∷ ways) zero h = absurd (omega arith)
no_way (w ∷ ways) (suc a) h = no_way ways a (omega arith)

pub call_graph_is : (ways : List (List (List Item))) (g : List (List ℕ)) (a : ℕ) → length g ≡ length ways → length ways ≤ a → ((x y : ℕ) → Calls (ways_at ways x) y → y < length ways)
    → AreEdgesTo (λ (x : ℕ) (y : ℕ). Calls (ways_at ways x) y) (length ways) g a → IsCallGraph ways g
call_graph_is ways g a same done held inv = record {
  nodes = same;
  edges = λ x y. (λ e. ((inv x y).0 e).2, λ c. (inv x y).1 (low x y c, held x y c, c));
}
  where
    low : (x y : ℕ) → Calls (ways_at ways x) y → x < a
    low x y c =
        ⊎_elim (λ l. l)
        (λ high. absurd (let none = no_way ways x (omega arith) in let k : c.2.0 < length (ways_at ways x) = c.2.1 in let e = ap (λ (ws : List (List Item)). length ws) none in omega arith))
        (cases_lt x a)

no_base : (bases : List (Option (List (List Item)))) (a : ℕ) → length bases ≤ a → slice_index_or bases a None ≡ None
no_base [] a h = refl
no_base (b ∷ bases) zero h = absurd (omega arith)
no_base (b ∷ bases) (suc a) h = no_base bases a (omega arith)

pub base_graph_is : (bases : List (Option (List (List Item)))) (g : List (List ℕ)) (a : ℕ) → length g ≡ length bases → length bases ≤ a
    → AreEdgesTo (λ (x : ℕ) (y : ℕ). CallsOf (slice_index_or bases x None) y) (length bases) g a → IsBaseGraph bases g
base_graph_is bases g a same done inv = record {
  nodes = same;
  edges = λ x y. (λ e. let p = (inv x y).0 e in (p.2, p.1), λ c. (inv x y).1 (low x y c.0, c.1, c.0));
}
  where
    low : (x y : ℕ) → CallsOf (slice_index_or bases x None) y → x < a
    low x y c = ⊎_elim (λ l. l) (λ high. absurd (subst (λ (o : Option (List (List Item))). CallsOf o y) (no_base bases x (omega arith)) c)) (cases_lt x a)

-- ---- calls of a relation lead to its nodes
and_first : (a b : Bool) → (a && b) ≡ true → a ≡ true
and_first true b e = refl
and_first false b e = absurd (let f : ⊥ = cc in f)

in_range : (nodes : List ℕ) (sizes : ℕ) (made : List ℕ) (b : ℕ) (args : List Linear) → IsTrue (is_in_range nodes sizes made (Call b args)) → b < length nodes
in_range nodes sizes made b args e = ltb-true b (length nodes) (and_first (nat_lt b (length nodes)) (list_all (λ (l : Linear). lin_bound sizes made l) args) e)

scoped_call : (nodes : List ℕ) (sizes : ℕ) (made : List ℕ) (way : List Item) (b : ℕ) (args : List Linear) → IsScoped nodes sizes made way → Contains way (Call b args) → b < length nodes
scoped_call nodes sizes made [] b args s c = absurd (let low : c.0 < 0 = c.1 in omega arith)
scoped_call nodes sizes made (item ∷ way) b args s (zero, low, is) = in_range nodes sizes made b args (subst (λ (i : Item). IsTrue (is_in_range nodes sizes made i)) is s.0)
scoped_call nodes sizes made (item ∷ way) b args s (suc k, low, is) = scoped_call nodes sizes (made_after item made) way b args s.2 (k, omega arith, is)

scoped_path : (nodes : List ℕ) (sizes : ℕ) (paths : List (List Item)) (way : List Item) → AreScoped nodes sizes paths → Contains paths way → IsScoped nodes sizes [] way
scoped_path nodes sizes [] way s c = absurd (let low : c.0 < 0 = c.1 in omega arith)
scoped_path nodes sizes (path ∷ paths) way s (zero, low, is) = subst (IsScoped nodes sizes []) is s.0
scoped_path nodes sizes (path ∷ paths) way s (suc k, low, is) = scoped_path nodes sizes paths way s.1 (k, omega arith, is)

scoped_way : (nodes : List ℕ) (sizes : ℕ) (rules : List Rule) (way : List Item) → AreScopedRules nodes sizes rules → Contains (ways_of rules) way → IsScoped nodes sizes [] way
scoped_way nodes sizes [] way s c = absurd (let low : c.0 < 0 = c.1 in omega arith)
scoped_way nodes sizes (rule ∷ rules) way s c =
    ⊎_elim (λ l. scoped_path nodes sizes (paths_of (term_of rule)) way s.0 l) (λ r. scoped_way nodes sizes rules way s.1 r) (Contains-append_cases (paths_of (term_of rule)) (ways_of rules) way c)

scoped_node : (nodes : List ℕ) (relation : Relation) (a b : ℕ) → AreScopedNodes nodes relation → Calls (ways_at (node_ways relation) a) b → b < length nodes
scoped_node nodes [] a b s c = absurd (let low : c.2.0 < 0 = c.2.1 in omega arith)
scoped_node nodes (node ∷ relation) zero b s c = scoped_call nodes (length node.lengths) [] c.0 b c.1 (scoped_way nodes (length node.lengths) node.rules c.0 s.1 c.2) c.3
scoped_node nodes (node ∷ relation) (suc a) b s c = scoped_node nodes relation a b s.2 c

pub calls_held : (relation : Relation) (a b : ℕ) → IsRelation relation → Calls (ways_at (node_ways relation) a) b → b < length relation
calls_held relation a b s c = let same = length-map relation (λ (node : Node). length node.lengths) in let low = scoped_node (sizes_of relation) relation a b s.scoped c in omega arith

pub ways_held : (relation : Relation) (ways : List (List (List Item))) → ways ≡ node_ways relation → IsRelation relation → (a b : ℕ) → Calls (ways_at ways a) b → b < length ways
ways_held relation ways e s a b c =
    let low = calls_held relation a b s (subst (λ (ws : List (List (List Item))). Calls (ways_at ws a) b) e c) in
    let same = ap (λ (ws : List (List (List Item))). length ws) e in
    let count = length-map relation (λ (node : Node). ways_of node.rules) in
    omega arith
