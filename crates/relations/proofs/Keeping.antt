-- A relation stays one when a node or a rule is added.
use Rattle.std.proofs.Common.{◌≡◌, ℕ, zero, suc, ◌+◌, ◌<◌, ◌≤◌, nat_lt, ◌==◌, Bool, true, false, ◌&&◌, List, [], ◌∷◌, ◌++◌, length, map, slice_get, Option, Some, None, Result, Ok, Err, IsTrue, refl, sym, ap, ◌∙◌, subst, arith}
use Rattle.std.specs.List.{list_all}
use Rattle.std.proofs.lemmas.Bool.{lt-ltb, ltb-true}
use Rattle.std.proofs.lemmas.List.{map-append, length-append}
use Rattle.std.proofs.Math.ListN.{set, get_or}
use Rattle.lin_rows.specs.Linear.{Linear}
use Rattle.rule_terms.specs.declared.item.Item.{Item}
use Rattle.rule_terms.specs.declared.item.Item.TheVariants.{Assume, Spend, Fresh, Call}
use Rattle.rule_terms.specs.declared.rule.Rule.{Rule}
use Rattle.rule_terms.specs.Terms.{term_of}
use Rattle.rule_terms.specs.Paths.{paths_of}
use Rattle.relations.specs.declared.node.Node.{Node}
use Rattle.relations.specs.Relation.{Relation, sizes_of}
use Rattle.relations.specs.Scope.{is_in_range, has_arity, fits_sizes, lin_bound, made_after, paths_terms, rules_terms, terms_of, term_limit, IsScoped, AreScoped, AreScopedRules, AreScopedNodes, IsRelation, node_fault, rule_fault, with_rule, added_rule}
use Rattle.relations.specs.declared.fault.RelFault.{RelFault}
use Rattle.relations.specs.inside.Walk.{AreSmall, term_walk}
use Rattle.relations.proofs.Walking.{rule_walked, paths_free, paths_faulty}

-- ---- more nodes
slice_get_more : (xs ys : List ℕ) (i k : ℕ) → slice_get xs i ≡ Some k → slice_get (xs ++ ys) i ≡ Some k
slice_get_more [] ys i k e = absurd (let f : ⊥ = cc in f)
slice_get_more (x ∷ xs) ys zero k e = e
slice_get_more (x ∷ xs) ys (suc i) k e = slice_get_more xs ys i k e

fits_more : (arguments : ℕ) (xs ys : List ℕ) (i : ℕ) → fits_sizes arguments (slice_get xs i) ≡ true → fits_sizes arguments (slice_get (xs ++ ys) i) ≡ true
fits_more arguments [] ys i e = absurd (let f : ⊥ = cc in f)
fits_more arguments (x ∷ xs) ys zero e = e
fits_more arguments (x ∷ xs) ys (suc i) e = fits_more arguments xs ys i e

both : (a b c : Bool) → (a ≡ true → b ≡ true) → (a && c) ≡ true → (b && c) ≡ true
both true b c h e = ap (λ x. x && c) (h refl) ∙ e
both false b c h e = absurd (let f : ⊥ = cc in f)

range_more : (nodes more : List ℕ) (sizes : ℕ) (made : List ℕ) (item : Item) → IsTrue (is_in_range nodes sizes made item) → IsTrue (is_in_range (nodes ++ more) sizes made item)
range_more nodes more sizes made (Assume row) e = e
range_more nodes more sizes made (Spend n) e = e
range_more nodes more sizes made (Fresh v) e = e
range_more nodes more sizes made (Call node args) e =
    both (nat_lt node (length nodes)) (nat_lt node (length (nodes ++ more))) (list_all (λ (l : Linear). lin_bound sizes made l) args)
    (λ t. let low = ltb-true node (length nodes) t in let len = length-append nodes more in lt-ltb node (length (nodes ++ more)) (omega arith)) e

arity_more : (nodes more : List ℕ) (item : Item) → IsTrue (has_arity nodes item) → IsTrue (has_arity (nodes ++ more) item)
arity_more nodes more (Assume row) e = e
arity_more nodes more (Spend n) e = e
arity_more nodes more (Fresh v) e = e
arity_more nodes more (Call node args) e = fits_more (length args) nodes more node e

scoped_more : (nodes more : List ℕ) (sizes : ℕ) (made : List ℕ) (path : List Item) → IsScoped nodes sizes made path → IsScoped (nodes ++ more) sizes made path
scoped_more nodes more sizes made [] s = tt
scoped_more nodes more sizes made (item ∷ rest) s =
    (range_more nodes more sizes made item s.0, arity_more nodes more item s.1, scoped_more nodes more sizes (made_after item made) rest s.2)

paths_more : (nodes more : List ℕ) (sizes : ℕ) (paths : List (List Item)) → AreScoped nodes sizes paths → AreScoped (nodes ++ more) sizes paths
paths_more nodes more sizes [] s = tt
paths_more nodes more sizes (path ∷ paths) s = (scoped_more nodes more sizes [] path s.0, paths_more nodes more sizes paths s.1)

rules_more : (nodes more : List ℕ) (sizes : ℕ) (rules : List Rule) → AreScopedRules nodes sizes rules → AreScopedRules (nodes ++ more) sizes rules
rules_more nodes more sizes [] s = tt
rules_more nodes more sizes (rule ∷ rules) s = (paths_more nodes more sizes (paths_of (term_of rule)) s.0, rules_more nodes more sizes rules s.1)

nodes_more : (nodes more : List ℕ) (relation : Relation) → AreScopedNodes nodes relation → AreScopedNodes (nodes ++ more) relation
nodes_more nodes more [] s = tt
nodes_more nodes more (node ∷ relation) s = (s.0, rules_more nodes more (length node.lengths) node.rules s.1, nodes_more nodes more relation s.2)

-- ---- a node is added
sizes_snoc : (relation : Relation) (node : Node) → sizes_of (relation ++ node ∷ []) ≡ sizes_of relation ++ length node.lengths ∷ []
sizes_snoc relation node = map-append (λ (n : Node). length n.lengths) relation (node ∷ [])

pub terms_snoc : (relation : Relation) (node : Node) → node.rules ≡ [] → terms_of (relation ++ node ∷ []) ≡ terms_of relation
terms_snoc [] node e = ap (λ rules. rules_terms rules + 0) e ∙ (let z : 0 + 0 ≡ 0 = refl in z)
terms_snoc (x ∷ relation) node e = ap (λ k. rules_terms x.rules + k) (terms_snoc relation node e)

scoped_snoc : (nodes : List ℕ) (relation : Relation) (node : Node) → AreScopedNodes nodes relation → length node.lengths ≤ 32 → node.rules ≡ [] → AreScopedNodes nodes (relation ++ node ∷ [])
scoped_snoc nodes [] node s low e = (low, subst (AreScopedRules nodes (length node.lengths)) (sym e) tt, tt)
scoped_snoc nodes (x ∷ relation) node s low e = (s.0, s.1, scoped_snoc nodes relation node s.2 low e)

pub node_added : (relation : Relation) (node : Node) → IsRelation relation → length node.lengths ≤ 32 → node.rules ≡ [] → IsRelation (relation ++ node ∷ [])
node_added relation node is low e = record {
  scoped = subst (λ ns. AreScopedNodes ns (relation ++ node ∷ [])) (sym (sizes_snoc relation node))
      (scoped_snoc (sizes_of relation ++ length node.lengths ∷ []) relation node (nodes_more (sizes_of relation) (length node.lengths ∷ []) relation is.scoped) low e);
  terms = subst (λ k. k ≤ term_limit) (sym (terms_snoc relation node e)) is.terms;
}

-- ---- a rule is added
pub sizes_ruled : (relation : Relation) (n : ℕ) (rule : Rule) → sizes_of (added_rule relation n rule) ≡ sizes_of relation
sizes_ruled [] n rule = refl
sizes_ruled (node ∷ relation) zero rule = refl
sizes_ruled (node ∷ relation) (suc n) rule = ap (λ s. length node.lengths ∷ s) (sizes_ruled relation n rule)

pub length_ruled : (relation : Relation) (n : ℕ) (rule : Rule) → length (added_rule relation n rule) ≡ length relation
length_ruled [] n rule = refl
length_ruled (node ∷ relation) zero rule = refl
length_ruled (node ∷ relation) (suc n) rule = ap suc (length_ruled relation n rule)

swapped : (a b c : ℕ) → a + b + c ≡ a + c + b
swapped a b c = omega arith

grouped : (a b c : ℕ) → a + (b + c) ≡ a + b + c
grouped a b c = omega arith

rules_ruled : (rules : List Rule) (rule : Rule) → rules_terms (rules ++ rule ∷ []) ≡ rules_terms rules + paths_terms (paths_of (term_of rule))
rules_ruled [] rule = let z : paths_terms (paths_of (term_of rule)) + 0 ≡ 0 + paths_terms (paths_of (term_of rule)) = omega arith in z
rules_ruled (r ∷ rules) rule =
    ap (λ k. paths_terms (paths_of (term_of r)) + k) (rules_ruled rules rule) ∙ grouped (paths_terms (paths_of (term_of r))) (rules_terms rules) (paths_terms (paths_of (term_of rule)))

pub terms_ruled : (relation : Relation) (n : ℕ) (rule : Rule) → n < length relation → terms_of (added_rule relation n rule) ≡ terms_of relation + paths_terms (paths_of (term_of rule))
terms_ruled [] n rule low = absurd (let e : ⊥ = omega arith in e)
terms_ruled (node ∷ relation) zero rule low =
    ap (λ k. k + terms_of relation) (rules_ruled node.rules rule) ∙ swapped (rules_terms node.rules) (paths_terms (paths_of (term_of rule))) (terms_of relation)
terms_ruled (node ∷ relation) (suc n) rule low =
    ap (λ k. rules_terms node.rules + k) (terms_ruled relation n rule (omega arith)) ∙ grouped (rules_terms node.rules) (terms_of relation) (paths_terms (paths_of (term_of rule)))

scoped_rules : (nodes : List ℕ) (sizes : ℕ) (rules : List Rule) (rule : Rule) → AreScopedRules nodes sizes rules → AreScoped nodes sizes (paths_of (term_of rule)) → AreScopedRules nodes sizes (rules ++ rule ∷ [])
scoped_rules nodes sizes [] rule s new = (new, tt)
scoped_rules nodes sizes (r ∷ rules) rule s new = (s.0, scoped_rules nodes sizes rules rule s.1 new)

some_same : (a b : ℕ) → Some a ≡ Some b → b ≡ a
some_same a b e = cc

scoped_ruled : (nodes : List ℕ) (relation : Relation) (n : ℕ) (rule : Rule) (k : ℕ) → slice_get (sizes_of relation) n ≡ Some k → AreScopedNodes nodes relation → AreScoped nodes k (paths_of (term_of rule)) → AreScopedNodes nodes (added_rule relation n rule)
scoped_ruled nodes [] n rule k at s new = tt
scoped_ruled nodes (node ∷ relation) zero rule k at s new =
    (s.0, scoped_rules nodes (length node.lengths) node.rules rule s.1 (subst (λ j. AreScoped nodes j (paths_of (term_of rule))) (some_same (length node.lengths) k at) new), s.2)
scoped_ruled nodes (node ∷ relation) (suc n) rule k at s new = (s.0, s.1, scoped_ruled nodes relation n rule k at s.2 new)

pub rule_added : (relation : Relation) (n : ℕ) (rule : Rule) (k : ℕ) → IsRelation relation → n < length relation → slice_get (sizes_of relation) n ≡ Some k → AreScoped (sizes_of relation) k (paths_of (term_of rule)) → terms_of relation + paths_terms (paths_of (term_of rule)) ≤ term_limit → IsRelation (added_rule relation n rule)
rule_added relation n rule k is low at new room = record {
  scoped = subst (λ ns. AreScopedNodes ns (added_rule relation n rule)) (sym (sizes_ruled relation n rule)) (scoped_ruled (sizes_of relation) relation n rule k at is.scoped new);
  terms = subst (λ t. t ≤ term_limit) (sym (terms_ruled relation n rule low)) room;
}

-- nodes have few sizes
pub are_small : (nodes : List ℕ) (relation : Relation) → AreScopedNodes nodes relation → AreSmall (sizes_of relation)
are_small nodes [] s = tt
are_small nodes (node ∷ relation) s = (s.0, are_small nodes relation s.2)

pub small_at : (sizes : List ℕ) (n k : ℕ) → AreSmall sizes → slice_get sizes n ≡ Some k → k ≤ 32
small_at [] n k s e = absurd (let f : ⊥ = cc in f)
small_at (x ∷ sizes) zero k s e = subst (λ j. j ≤ 32) (sym (some_same x k e)) s.0
small_at (x ∷ sizes) (suc n) k s e = small_at sizes n k s.1 e

-- ---- as places
pub set_ruled : (relation : Relation) (n : ℕ) (node : Node) (rule : Rule) → n < length relation → node ≡ get_or relation n node → set relation n (with_rule node rule) ≡ added_rule relation n rule
set_ruled [] n node rule low e = absurd (let f : ⊥ = omega arith in f)
set_ruled (x ∷ relation) zero node rule low e = ap (λ y. with_rule y rule ∷ relation) e
set_ruled (x ∷ relation) (suc n) node rule low e = ap (λ xs. x ∷ xs) (set_ruled relation n node rule (omega arith) e)

pub size_at : (relation : Relation) (n : ℕ) (node : Node) → n < length relation → node ≡ get_or relation n node → slice_get (sizes_of relation) n ≡ Some (length node.lengths)
size_at [] n node low e = absurd (let f : ⊥ = omega arith in f)
size_at (x ∷ relation) zero node low e = ap (λ (y : Node). Some (length y.lengths)) (sym e)
size_at (x ∷ relation) (suc n) node low e = size_at relation n node (omega arith) e

pub no_size_at : (relation : Relation) (n : ℕ) → length relation ≤ n → slice_get (sizes_of relation) n ≡ None
no_size_at [] n past = refl
no_size_at (x ∷ relation) zero past = absurd (let f : ⊥ = omega arith in f)
no_size_at (x ∷ relation) (suc n) past = no_size_at relation n (omega arith)

pub sizes_length : (relation : Relation) (n : ℕ) → length relation ≤ n → length (sizes_of relation) ≤ n
sizes_length [] n low = low
sizes_length (x ∷ relation) zero low = absurd (let f : ⊥ = omega arith in f)
sizes_length (x ∷ relation) (suc n) low = let r = sizes_length relation n (omega arith) in omega arith

pub sizes_within : (relation : Relation) (n : ℕ) → n < length relation → n < length (sizes_of relation)
sizes_within [] n low = low
sizes_within (x ∷ relation) zero low = omega arith
sizes_within (x ∷ relation) (suc n) low = let r = sizes_within relation n (omega arith) in omega arith

-- ---- what comes of a rule that is read
pub record IsAdded (relation : Relation) (n : ℕ) (rule : Rule) (total : ℕ) : Type 0 where
  pub none : rule_fault relation n (term_of rule) ≡ None
  pub is : IsRelation (added_rule relation n rule)
  pub terms : total ≡ terms_of (added_rule relation n rule)

pub read_added : (relation : Relation) (n : ℕ) (rule : Rule) (k total : ℕ) → IsRelation relation → n < length relation → slice_get (sizes_of relation) n ≡ Some k → term_walk (sizes_of relation) k [] 0 (terms_of relation) (term_of rule) ≡ Ok total → IsAdded relation n rule total
read_added relation n rule k total is low at read =
    let walked = sym (rule_walked (sizes_of relation) k (term_of rule) (terms_of relation) is.terms) ∙ read in
    let free = paths_free (sizes_of relation) k (terms_of relation) (paths_of (term_of rule)) total is.terms walked in
    record {
      none = ap (λ size. node_fault (sizes_of relation) (terms_of relation) size (term_of rule)) at ∙ free.none;
      is = rule_added relation n rule k is low at free.scoped (subst (λ t. t ≤ term_limit) free.total free.room);
      terms = free.total ∙ sym (terms_ruled relation n rule low);
    }

pub read_faulty : (relation : Relation) (n : ℕ) (rule : Rule) (k : ℕ) (e : RelFault) → IsRelation relation → slice_get (sizes_of relation) n ≡ Some k → term_walk (sizes_of relation) k [] 0 (terms_of relation) (term_of rule) ≡ Err e → rule_fault relation n (term_of rule) ≡ Some e
read_faulty relation n rule k e is at read =
    let walked = sym (rule_walked (sizes_of relation) k (term_of rule) (terms_of relation) is.terms) ∙ read in
    ap (λ size. node_fault (sizes_of relation) (terms_of relation) size (term_of rule)) at ∙ paths_faulty (sizes_of relation) k (terms_of relation) (paths_of (term_of rule)) e walked

-- the same where the nodes are read as a slice, and the count is kept apart
pub slice_added : (nodes items : Relation) (n k count total : ℕ) (rule : Rule) → nodes ≡ items → IsRelation items → n < length nodes → slice_get (sizes_of nodes) n ≡ Some k → count ≡ terms_of items → term_walk (sizes_of nodes) k [] 0 count (term_of rule) ≡ Ok total → IsAdded items n rule total
slice_added nodes items n k count total rule e is low at counted read =
    let here = subst (λ (r : Relation). term_walk (sizes_of r) k [] 0 count (term_of rule) ≡ Ok total) e read in
    read_added items n rule k total is (subst (λ (r : Relation). n < length r) e low) (subst (λ (r : Relation). slice_get (sizes_of r) n ≡ Some k) e at)
    (subst (λ t. term_walk (sizes_of items) k [] 0 t (term_of rule) ≡ Ok total) counted here)

pub slice_faulty : (nodes items : Relation) (n k count : ℕ) (rule : Rule) (x : RelFault) → nodes ≡ items → IsRelation items → slice_get (sizes_of nodes) n ≡ Some k → count ≡ terms_of items → term_walk (sizes_of nodes) k [] 0 count (term_of rule) ≡ Err x → rule_fault items n (term_of rule) ≡ Some x
slice_faulty nodes items n k count rule x e is at counted read =
    let here = subst (λ (r : Relation). term_walk (sizes_of r) k [] 0 count (term_of rule) ≡ Err x) e read in
    read_faulty items n rule k x is (subst (λ (r : Relation). slice_get (sizes_of r) n ≡ Some k) e at)
    (subst (λ t. term_walk (sizes_of items) k [] 0 t (term_of rule) ≡ Err x) counted here)

-- the size of a node that is read as a slice
pub slice_size : (nodes : Relation) (n k : ℕ) (node : Node) → n < length nodes → node ≡ get_or nodes n node → k ≡ length (get_or nodes n node).lengths → slice_get (sizes_of nodes) n ≡ Some k
slice_size nodes n k node low is e = size_at nodes n node low is ∙ ap Some (ap (λ (x : Node). length x.lengths) is ∙ sym e)
