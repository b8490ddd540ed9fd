-- How a plan is made, and what is put together by it.
use Rattle.std.proofs.Common.{◌≡◌, ◌≢◌, ◌↔◌, ◌⊎◌, inl, inr, ⊎_elim, ℕ, zero, suc, ◌+◌, ◌<◌, ◌≤◌, nat_eq, Bool, true, false, List, [], ◌∷◌, ◌++◌, length, map, take, get_or, slice_get, slice_index, slice_index_or, Option, Some, None, Result, Ok, Err, nat_lt, if◌then◌else◌, refl, sym, ap, ◌∙◌, subst, arith}
use Rattle.std.specs.List.{Contains}
use Rattle.std.proofs.lemmas.Bool.{eq-eqb}
use Rattle.lin_rows.specs.Linear.{Linear}
use Rattle.rule_terms.specs.declared.item.Item.{Item}
use Rattle.rule_terms.specs.declared.item.Item.TheVariants.{Call}
use Rattle.rule_terms.specs.declared.rule.Rule.{Rule}
use Rattle.relations.specs.declared.node.Node.{Node}
use Rattle.relations.specs.Relation.{Relation, sizes_of, ways_of}
use Rattle.relations.specs.Scope.{AreScopedNodes, IsRelation}
use Rattle.graph_core.specs.Graphs.{HasEdge}
use Rattle.graph_core.specs.Paths.{Leads}
use Rattle.graph_covers.specs.Covers.{AreCovers, AreRanks}
use Rattle.std.specs.Option.{ok_or}
use Rattle.base_relations.specs.declared.fault.UnfoldFault.{UnfoldFault}
use Rattle.base_relations.specs.declared.fault.UnfoldFault.TheVariants as faults
use Rattle.base_relations.specs.declared.plan.Plan.{Plan}
use Rattle.base_relations.specs.Steps.{Trace}
use Rattle.base_relations.specs.Unfolding.{node_ways, ways_at, Calls, IsCallGraph, is_cover, IsUnfolding, node_traces}
use Rattle.base_relations.specs.Making.{items_made}
use Rattle.base_relations.specs.Limits.{◌>>=◌, total, items_at, fresh_at, rows_at, rule_made, rules_made, has_base, base_rules, bases_made}
use Rattle.base_relations.specs.Direct.{BaseRelations, AreBases, Unfolds, all_made, Succeeds, Fails, Tells}
use Rattle.base_relations.specs.inside.Expansions.{IsPlan}
use Rattle.base_relations.specs.inside.Trails.{unfolded_of}
use Rattle.base_relations.specs.inside.Plans.{PlansFor, TellsNoPlan}
use Rattle.base_relations.proofs.Expanding.{unfolding_is}
use Rattle.base_relations.proofs.Calling.{ways_held}

-- ---- what a relation has
pub ways_more : (relation : Relation) (n : ℕ) (rules : List Rule) → slice_get (map (λ (held : Node). held.rules) relation) n ≡ Some rules → take n (node_ways relation) ++ ways_of rules ∷ [] ≡ take (suc n) (node_ways relation)
ways_more [] n rules e = absurd (let f : ⊥ = cc in f)
ways_more (node ∷ relation) zero rules e = let is : rules ≡ node.rules = cc in ap (λ (r : List Rule). ways_of r ∷ []) is
ways_more (node ∷ relation) (suc n) rules e = ap (λ (ws : List (List (List Item))). ways_of node.rules ∷ ws) (ways_more relation n rules e)

pub lengths_small : (nodes : List ℕ) (relation : Relation) (n : ℕ) (lengths : List Bool) → AreScopedNodes nodes relation → slice_get (map (λ (held : Node). held.lengths) relation) n ≡ Some lengths → length lengths ≤ 32
lengths_small nodes [] n lengths s e = absurd (let f : ⊥ = cc in f)
lengths_small nodes (node ∷ relation) zero lengths s e = let is : lengths ≡ node.lengths = cc in let small = s.0 in let same = ap (λ (ls : List Bool). length ls) is in omega arith
lengths_small nodes (node ∷ relation) (suc n) lengths s e = lengths_small nodes relation n lengths s.2 e

pub size_is : (relation : Relation) (n : ℕ) (lengths : List Bool) → slice_get (map (λ (held : Node). held.lengths) relation) n ≡ Some lengths → slice_index (sizes_of relation) n ≡ length lengths
size_is [] n lengths e = absurd (let f : ⊥ = cc in f)
size_is (node ∷ relation) zero lengths e = let is : node.lengths ≡ lengths = cc in ap (λ (ls : List Bool). length ls) is
size_is (node ∷ relation) (suc n) lengths e = size_is relation n lengths e

-- ---- the plan
differs : (covers : List ℕ) (n : ℕ) → is_cover covers n ≡ false → n ≢ slice_index covers n
differs covers n h e = absurd (let t = eq-eqb (slice_index covers n) n (sym e) in let f : ⊥ = cc in f)

leaves : (g : List (List ℕ)) (a b : ℕ) (rest : List ℕ) → Leads g a rest b → a ≢ b → (c : ℕ) × HasEdge g a c
leaves g a b [] l ne = absurd (ne l)
leaves g a b (c ∷ rest) l ne = (c, l.0)

pub planned_by : (ways : List (List (List Item))) (g : List (List ℕ)) (covers ranks : List ℕ) → IsCallGraph ways g → AreCovers g covers → AreRanks g covers ranks
    → ((a b : ℕ) → Calls (ways_at ways a) b → b < length ways) → IsPlan ways covers ranks
planned_by ways g covers ranks graph are ranked held = record {
  down = λ a node way args is called c. ranked.down a node ((graph.edges a node).1 (way, args, is, called)) (differs covers node c);
  calling = λ a node way args is called c. has_way node c (held a node (way, args, is, called));
}
  where
    has_way : (node : ℕ) → is_cover covers node ≡ false → node < length ways → 0 < length (ways_at ways node)
    has_way node c low =
        let same = graph.nodes in
        let cover = are.covers node (omega arith) in
        let path = cover.named.together.0 in
        let first = leaves g node (slice_index covers node) path.0 path.1.leads (differs covers node c) in
        let call = (graph.edges node first.0).0 first.1 in
        let at : call.2.0 < length (ways_at ways node) = call.2.1 in
        omega arith

-- ---- which faults come
abbrev IsLimit : UnfoldFault → Type 0
IsLimit (faults.NoCover avoided) = ⊥
IsLimit faults.TooManyRules = Unit {0}
IsLimit faults.TooLongRule = Unit {0}
IsLimit faults.TooManyFresh = Unit {0}
IsLimit faults.TooManyRows = Unit {0}
IsLimit faults.TooLarge = Unit {0}
IsLimit faults.Memory = Unit {0}

same_fault : {A : Type 0} (x e : UnfoldFault) (r : Result A UnfoldFault) → r ≡ Err x → r ≡ Err e → IsLimit x → IsLimit e
same_fault x e r f g h = let is : x ≡ e = cc in subst IsLimit is h

picked : (a b c : Bool) (o : Option (List Item)) (e : UnfoldFault)
    → (if a then Err faults.TooLongRule else (if b then Err faults.TooManyFresh else (if c then Err faults.TooManyRows else ok_or o faults.TooLarge))) ≡ Err e → IsLimit e
picked true b c o e h = same_fault faults.TooLongRule e _ refl h tt
picked false true c o e h = same_fault faults.TooManyFresh e _ refl h tt
picked false false true o e h = same_fault faults.TooManyRows e _ refl h tt
picked false false false None e h = same_fault faults.TooLarge e _ refl h tt
picked false false false (Some items) e h = absurd (let f : ⊥ = cc in f)

rule_limit : (sizes : ℕ) (t : Trace) (e : UnfoldFault) → rule_made sizes t ≡ Err e → IsLimit e
unfolding rule_made
rule_limit sizes t e h = picked (nat_lt 4096 (total items_at t)) (nat_lt 512 (total fresh_at t)) (nat_lt 1024 (total rows_at t)) (items_made sizes t) e h

after_rule : (sizes : ℕ) (done : List (List Item)) (t : Trace) (traces : List Trace) (e : UnfoldFault) (r : Result (List Item) UnfoldFault) → rule_made sizes t ≡ r
    → ((rule : List Item) → rules_made sizes (done ++ rule ∷ []) traces ≡ Err e → IsLimit e) → (r >>= λ rule. rules_made sizes (done ++ rule ∷ []) traces) ≡ Err e → IsLimit e
after_rule sizes done t traces e (Ok rule) was inner h = inner rule h
after_rule sizes done t traces e (Err x) was inner h = same_fault x e _ refl h (rule_limit sizes t x was)

by_room : (b : Bool) (e : UnfoldFault) (r : Result (List (List Item)) UnfoldFault) → (r ≡ Err e → IsLimit e) → (if b then r else Err faults.TooManyRules) ≡ Err e → IsLimit e
by_room true e r inner h = inner h
by_room false e r inner h = same_fault faults.TooManyRules e _ refl h tt

rules_limit : (sizes : ℕ) (done : List (List Item)) (traces : List Trace) (e : UnfoldFault) → rules_made sizes done traces ≡ Err e → IsLimit e
unfolding rules_made
rules_limit sizes done [] e h = absurd (let f : ⊥ = cc in f)
rules_limit sizes done (t ∷ traces) e h =
    by_room (nat_lt (length done) 1024) e _ (λ k. after_rule sizes done t traces e (rule_made sizes t) refl (λ rule. rules_limit sizes (done ++ rule ∷ []) traces e) k) h

by_rules : (sizes : ℕ) (traces : List Trace) (e : UnfoldFault) (r : Result (List (List Item)) UnfoldFault) → rules_made sizes [] traces ≡ r → (r >>= λ rules. Ok (Some rules)) ≡ Err e → IsLimit e
by_rules sizes traces e (Ok rules) was k = absurd (let f : ⊥ = cc in f)
by_rules sizes traces e (Err x) was k = same_fault x e _ refl k (rules_limit sizes [] traces x was)

base_limit : (has : Bool) (sizes : ℕ) (traces : List Trace) (e : UnfoldFault) → base_rules has sizes traces ≡ Err e → IsLimit e
base_limit true sizes traces e h = by_rules sizes traces e (rules_made sizes [] traces) refl h
base_limit false sizes traces e h = absurd (let f : ⊥ = cc in f)

after_base : (has : ℕ → Bool) (traces : ℕ → List Trace) (done : List (Option (List (List Item)))) (n sizes : ℕ) (rest : List ℕ) (e : UnfoldFault) (r : Result (Option (List (List Item))) UnfoldFault) → base_rules (has n) sizes (traces n) ≡ r
    → ((rules : Option (List (List Item))) → bases_made has traces (done ++ rules ∷ []) (suc n) rest ≡ Err e → IsLimit e) → (r >>= λ rules. bases_made has traces (done ++ rules ∷ []) (suc n) rest) ≡ Err e → IsLimit e
after_base has traces done n sizes rest e (Ok rules) was inner h = inner rules h
after_base has traces done n sizes rest e (Err x) was inner h = same_fault x e _ refl h (base_limit (has n) sizes (traces n) x was)

bases_limit : (has : ℕ → Bool) (traces : ℕ → List Trace) (done : List (Option (List (List Item)))) (n : ℕ) (sizes : List ℕ) (e : UnfoldFault) → bases_made has traces done n sizes ≡ Err e → IsLimit e
unfolding bases_made
bases_limit has traces done n [] e h = absurd (let f : ⊥ = cc in f)
bases_limit has traces done n (k ∷ sizes) e h = after_base has traces done n k sizes e (base_rules (has n) k (traces n)) refl (λ rules. bases_limit has traces (done ++ rules ∷ []) (suc n) sizes e) h

-- ---- the whole
made_by : (relation : Relation) (plan : Plan) (target : ℕ) → plan.ways ≡ node_ways relation
    → all_made relation plan.covers.covers (unfolded_of plan) target ≡ bases_made (has_base plan.covers.covers target) (node_traces (unfolded_of plan) plan.ways) [] 0 (sizes_of relation)
made_by relation plan target e = ap (λ (ways : List (List (List Item))). bases_made (has_base plan.covers.covers target) (node_traces (unfolded_of plan) ways) [] 0 (sizes_of relation)) (sym e)

unfolds_by : (relation : Relation) (plan : Plan) (p : PlansFor relation plan) → Unfolds relation p.graph.0 plan.covers.covers (unfolded_of plan)
unfolds_by relation plan p = record {
  graph = p.graph.1;
  covers_are = p.graph.2;
  ranks = plan.covers.ranks;
  ranked = p.graph.3;
  unfolding_is = subst (λ (ways : List (List (List Item))). IsUnfolding ways plan.covers.covers (unfolded_of plan)) p.ways (unfolding_is plan.ways plan.covers.covers plan.covers.ranks p.planned);
}

pub succeeds : (relation : Relation) (plan : Plan) (target : ℕ) (bases : List (Option (List (List Item)))) (direct : BaseRelations) → PlansFor relation plan
    → bases_made (has_base plan.covers.covers target) (node_traces (unfolded_of plan) plan.ways) [] 0 (sizes_of relation) ≡ Ok bases → AreBases relation bases direct → Succeeds relation target direct
succeeds relation plan target bases direct p was are = record {
  g = p.graph.0;
  covers = plan.covers.covers;
  unfolded = unfolded_of plan;
  bases = bases;
  unfolds = unfolds_by relation plan p;
  made = made_by relation plan target p.ways ∙ was;
  direct_is = are;
}

told : (relation : Relation) (target : ℕ) (e : UnfoldFault) → IsLimit e → Fails relation target e → Tells relation target e
told relation target (faults.NoCover avoided) l f = absurd l
told relation target faults.TooManyRules l f = f
told relation target faults.TooLongRule l f = f
told relation target faults.TooManyFresh l f = f
told relation target faults.TooManyRows l f = f
told relation target faults.TooLarge l f = f
told relation target faults.Memory l f = tt

pub fails : (relation : Relation) (plan : Plan) (target : ℕ) (e : UnfoldFault) → PlansFor relation plan
    → bases_made (has_base plan.covers.covers target) (node_traces (unfolded_of plan) plan.ways) [] 0 (sizes_of relation) ≡ Err e → Tells relation target e
fails relation plan target e p was =
    told relation target e (bases_limit (has_base plan.covers.covers target) (node_traces (unfolded_of plan) plan.ways) [] 0 (sizes_of relation) e was)
    (record { g = p.graph.0; covers = plan.covers.covers; unfolded = unfolded_of plan; unfolds = unfolds_by relation plan p; made = made_by relation plan target p.ways ∙ was })

-- no plan, no base relations
pub untold : (relation : Relation) (target : ℕ) (e : UnfoldFault) → TellsNoPlan relation e → Tells relation target e
untold relation target (faults.NoCover avoided) t = t
untold relation target faults.TooManyRules t = absurd t
untold relation target faults.TooLongRule t = absurd t
untold relation target faults.TooManyFresh t = absurd t
untold relation target faults.TooManyRows t = absurd t
untold relation target faults.TooLarge t = absurd t
untold relation target faults.Memory t = tt

pub plans_by : (relation : Relation) (plan : Plan) (ways : List (List (List Item))) (g : List (List ℕ)) → ways ≡ plan.ways → plan.ways ≡ node_ways relation → IsRelation relation → IsCallGraph ways g
    → AreCovers g plan.covers.covers → AreRanks g plan.covers.covers plan.covers.ranks → PlansFor relation plan
plans_by relation plan ways g e f s graph are ranked = record {
  ways = f;
  planned = subst (λ (ws : List (List (List Item))). IsPlan ws plan.covers.covers plan.covers.ranks) e (planned_by ways g plan.covers.covers plan.covers.ranks graph are ranked (ways_held relation ways (e ∙ f) s));
  graph = (g, subst (λ (ws : List (List (List Item))). IsCallGraph ws g) (e ∙ f) graph, are, ranked);
}

pub fails_free : (relation : Relation) (plan : Plan) (target : ℕ) (e : UnfoldFault) → PlansFor relation plan
    → (e ≢ faults.Memory → bases_made (has_base plan.covers.covers target) (node_traces (unfolded_of plan) plan.ways) [] 0 (sizes_of relation) ≡ Err e) → Tells relation target e
fails_free relation plan target (faults.NoCover avoided) p h = fails relation plan target (faults.NoCover avoided) p (h (λ k. let f : ⊥ = cc in f))
fails_free relation plan target faults.TooManyRules p h = fails relation plan target faults.TooManyRules p (h (λ k. let f : ⊥ = cc in f))
fails_free relation plan target faults.TooLongRule p h = fails relation plan target faults.TooLongRule p (h (λ k. let f : ⊥ = cc in f))
fails_free relation plan target faults.TooManyFresh p h = fails relation plan target faults.TooManyFresh p (h (λ k. let f : ⊥ = cc in f))
fails_free relation plan target faults.TooManyRows p h = fails relation plan target faults.TooManyRows p (h (λ k. let f : ⊥ = cc in f))
fails_free relation plan target faults.TooLarge p h = fails relation plan target faults.TooLarge p (h (λ k. let f : ⊥ = cc in f))
fails_free relation plan target faults.Memory p h = tt
