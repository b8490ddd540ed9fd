-- The rules of base relations are the items that are made of the traces of their nodes.
use Rattle.std.proofs.Common.{◌≡◌, ⊎_elim, ℕ, zero, suc, ◌+◌, ◌<◌, ◌≤◌, nat_lt, Bool, true, false, List, [], ◌∷◌, ◌++◌, length, Contains, slice_index, slice_index_or, Option, Some, None, Result, Ok, Err, if◌then◌else◌, refl, sym, ap, ◌∙◌, subst, arith}
use Rattle.std.specs.Option.{ok_or}
use Rattle.std.proofs.lemmas.Bool.{cases_lt}
use Rattle.common_laws.proofs.Members.{contains_head, contains_tail, contains_cases, contains_none}
use Rattle.rule_terms.specs.declared.item.Item.{Item}
use Rattle.relations.specs.declared.direct.DirectNode.{DirectNode}
use Rattle.relations.specs.Relation.{Relation, sizes_of}
use Rattle.base_relations.specs.declared.fault.UnfoldFault.{UnfoldFault}
use Rattle.base_relations.specs.declared.fault.UnfoldFault.TheVariants as faults
use Rattle.base_relations.specs.Steps.{Trace}
use Rattle.base_relations.specs.Unfolding.{node_ways, node_traces}
use Rattle.base_relations.specs.Making.{items_made}
use Rattle.base_relations.specs.Limits.{◌>>=◌, total, items_at, fresh_at, rows_at, rule_made, rules_made, has_base, base_rules, bases_made}
use Rattle.base_relations.specs.Direct.{BaseRelations, base_at, IsBaseAt, Succeeds}
use Rattle.base_relations.proofs.Assembling.{size_is}

-- ---- what came of steps that made something
bound_ok : {A B : Type 0} (r : Result A UnfoldFault) (f : A → Result B UnfoldFault) (b : B) → (r >>= f) ≡ Ok b → (a : A) × (r ≡ Ok a) × (f a ≡ Ok b)
bound_ok (Err e) f b h = absurd (let g : ⊥ = cc in g)
bound_ok (Ok a) f b h = (a, refl, h)

same_ok : {A : Type 0} (x y : A) (r : Result A UnfoldFault) → r ≡ Ok x → r ≡ Ok y → x ≡ y
same_ok x y r e f = cc

unlimited : {A : Type 0} (b : Bool) (e : UnfoldFault) (r : Result A UnfoldFault) (x : A) → (if b then Err e else r) ≡ Ok x → r ≡ Ok x
unlimited true e r x h = absurd (let g : ⊥ = cc in g)
unlimited false e r x h = h

limited : {A : Type 0} (b : Bool) (e : UnfoldFault) (r : Result A UnfoldFault) (x : A) → (if b then r else Err e) ≡ Ok x → r ≡ Ok x
limited true e r x h = h
limited false e r x h = absurd (let g : ⊥ = cc in g)

made_some : (o : Option (List Item)) (e : UnfoldFault) (items : List Item) → ok_or o e ≡ Ok items → o ≡ Some items
made_some None e items h = absurd (let g : ⊥ = cc in g)
made_some (Some x) e items h = ap Some (same_ok x items (Ok x) refl h)

rule_items : (sizes : ℕ) (t : Trace) (items : List Item) → rule_made sizes t ≡ Ok items → items_made sizes t ≡ Some items
unfolding rule_made
rule_items sizes t items h =
    made_some (items_made sizes t) faults.TooLarge items
    (unlimited (nat_lt 1024 (total rows_at t)) faults.TooManyRows _ items (unlimited (nat_lt 512 (total fresh_at t)) faults.TooManyFresh _ items (unlimited (nat_lt 4096 (total items_at t)) faults.TooLongRule _ items h)))

-- ---- the rules of a node
-- the rules behind those that are done, one for each trace
pub record AreRules (sizes : ℕ) (traces : List Trace) (rules : List (List Item)) : Type 0 where
  pub of_trace : (t : Trace) → Contains traces t → (items : List Item) × Contains rules items × (items_made sizes t ≡ Some items)
  pub of_rule : (items : List Item) → Contains rules items → (t : Trace) × Contains traces t × (items_made sizes t ≡ Some items)

one_more : (done : List (List Item)) (rule : List Item) (rules : List (List Item)) → (done ++ rule ∷ []) ++ rules ≡ done ++ rule ∷ rules
one_more [] rule rules = refl
one_more (d ∷ done) rule rules = ap (λ (xs : List (List Item)). d ∷ xs) (one_more done rule rules)

no_more : (done : List (List Item)) → done ++ [] ≡ done
no_more [] = refl
no_more (d ∷ done) = ap (λ (xs : List (List Item)). d ∷ xs) (no_more done)

with_rule : (sizes : ℕ) (t : Trace) (traces : List Trace) (rule : List Item) (rules : List (List Item)) → items_made sizes t ≡ Some rule → AreRules sizes traces rules → AreRules sizes (t ∷ traces) (rule ∷ rules)
with_rule sizes t traces rule rules made r = record {
  of_trace = λ x h. ⊎_elim
      (λ e. (rule, contains_head rule rules, subst (λ y. items_made sizes y ≡ Some rule) e made))
      (λ l. let s = r.of_trace x l in (s.0, contains_tail rule rules s.0 s.1, s.2)) (contains_cases t traces x h);
  of_rule = λ x h. ⊎_elim
      (λ e. (t, contains_head t traces, made ∙ ap Some e))
      (λ l. let s = r.of_rule x l in (s.0, contains_tail t traces s.0 s.1, s.2)) (contains_cases rule rules x h);
}

rules_from : (sizes : ℕ) (done : List (List Item)) (traces : List Trace) (all : List (List Item)) → rules_made sizes done traces ≡ Ok all → (rules : List (List Item)) × (all ≡ done ++ rules) × AreRules sizes traces rules
unfolding rules_made
rules_from sizes done [] all h =
    ([], sym (same_ok done all (Ok done) refl h) ∙ sym (no_more done), record { of_trace = λ t m. absurd (contains_none t m); of_rule = λ t m. absurd (contains_none t m) })
rules_from sizes done (t ∷ traces) all h =
    let o = bound_ok (rule_made sizes t) (λ rule. rules_made sizes (done ++ rule ∷ []) traces) all (limited (nat_lt (length done) 1024) faults.TooManyRules _ all h) in
    let r = rules_from sizes (done ++ o.0 ∷ []) traces all o.2 in
    (o.0 ∷ r.0, r.1 ∙ one_more done o.0 r.0, with_rule sizes t traces o.0 r.0 (rule_items sizes t o.0 o.1) r.2)

rules_are : (sizes : ℕ) (traces : List Trace) (all : List (List Item)) → rules_made sizes [] traces ≡ Ok all → AreRules sizes traces all
rules_are sizes traces all h = let r = rules_from sizes [] traces all h in subst (AreRules sizes traces) (sym r.1) r.2

-- ---- the rules of each node
abbrev MadeAt : (ℕ → Bool) → (ℕ → List Trace) → ℕ → List ℕ → List (Option (List (List Item))) → Type 0
MadeAt has traces n sizes more = (i : ℕ) → i < length sizes → base_rules (has (n + i)) (slice_index sizes i) (traces (n + i)) ≡ Ok (slice_index_or more i None)

one_base : (done : List (Option (List (List Item)))) (x : Option (List (List Item))) (xs : List (Option (List (List Item)))) → (done ++ x ∷ []) ++ xs ≡ done ++ x ∷ xs
one_base [] x xs = refl
one_base (d ∷ done) x xs = ap (λ (ys : List (Option (List (List Item)))). d ∷ ys) (one_base done x xs)

no_base : (done : List (Option (List (List Item)))) → done ++ [] ≡ done
no_base [] = refl
no_base (d ∷ done) = ap (λ (ys : List (Option (List (List Item)))). d ∷ ys) (no_base done)

bases_from : (has : ℕ → Bool) (traces : ℕ → List Trace) (done : List (Option (List (List Item)))) (n : ℕ) (sizes : List ℕ) (all : List (Option (List (List Item)))) → bases_made has traces done n sizes ≡ Ok all
    → (more : List (Option (List (List Item)))) × (all ≡ done ++ more) × (length more ≡ length sizes) × MadeAt has traces n sizes more
unfolding bases_made
bases_from has traces done n [] all h = ([], sym (same_ok done all (Ok done) refl h) ∙ sym (no_base done), refl, λ i low. absurd (let f : ⊥ = omega arith in f))
bases_from has traces done n (k ∷ sizes) all h =
    let o = bound_ok (base_rules (has n) k (traces n)) (λ rules. bases_made has traces (done ++ rules ∷ []) (suc n) sizes) all h in
    let r = bases_from has traces (done ++ o.0 ∷ []) (suc n) sizes all o.2 in
    (o.0 ∷ r.0, r.1 ∙ one_base done o.0 r.0, ap suc r.2, at o.0 o.1 r.0 r.3)
  where
    at : (x : Option (List (List Item))) → base_rules (has n) k (traces n) ≡ Ok x → (more : List (Option (List (List Item)))) → MadeAt has traces (suc n) sizes more → MadeAt has traces n (k ∷ sizes) (x ∷ more)
    at x e more r zero low = subst (λ j. base_rules (has j) k (traces j) ≡ Ok x) (let f : n ≡ n + 0 = omega arith in f) e
    at x e more r (suc i) low = subst (λ j. base_rules (has j) (slice_index sizes i) (traces j) ≡ Ok (slice_index_or more i None)) (let f : suc n + i ≡ n + suc i = omega arith in f) (r i (omega arith))

pub bases_at : (has : ℕ → Bool) (traces : ℕ → List Trace) (sizes : List ℕ) (all : List (Option (List (List Item)))) → bases_made has traces [] 0 sizes ≡ Ok all
    → (length all ≡ length sizes) × ((i : ℕ) → i < length sizes → base_rules (has i) (slice_index sizes i) (traces i) ≡ Ok (slice_index_or all i None))
bases_at has traces sizes all h =
    let r = bases_from has traces [] 0 sizes all h in (
      ap (λ (xs : List (Option (List (List Item)))). length xs) r.1 ∙ r.2,
      λ i low. subst (λ xs. base_rules (has i) (slice_index sizes i) (traces i) ≡ Ok (slice_index_or xs i None)) (sym r.1)
          (subst (λ j. base_rules (has j) (slice_index sizes i) (traces j) ≡ Ok (slice_index_or r.0 i None)) (let f : 0 + i ≡ i = omega arith in f) (r.3 i low)),
    )

-- a node that has rules
rules_some : (has : Bool) (sizes : ℕ) (traces : List Trace) (rules : List (List Item)) → base_rules has sizes traces ≡ Ok (Some rules) → rules_made sizes [] traces ≡ Ok rules
rules_some true sizes traces rules h =
    let o = bound_ok (rules_made sizes [] traces) _ (Some rules) h in
    o.1 ∙ ap Ok (inner o.0 (Ok (Some o.0)) refl o.2)
  where
    inner : (x : List (List Item)) (r : Result (Option (List (List Item))) UnfoldFault) → r ≡ Ok (Some x) → r ≡ Ok (Some rules) → x ≡ rules
    inner x r e f = cc
rules_some false sizes traces rules h = absurd (let g : ⊥ = cc in g)

rules_none : (has : Bool) (sizes : ℕ) (traces : List Trace) → has ≡ true → base_rules has sizes traces ≡ Ok None → ⊥
rules_none true sizes traces e h =
    let o = bound_ok (rules_made sizes [] traces) _ None h in inner o.0 (Ok (Some o.0)) refl o.2
  where
    inner : (x : List (List Item)) (r : Result (Option (List (List Item))) UnfoldFault) → r ≡ Ok (Some x) → r ≡ Ok None → ⊥
    inner x r e f = cc
rules_none false sizes traces e h = absurd (let g : ⊥ = cc in g)

no_node : (nodes : List (Option DirectNode)) (n : ℕ) → length nodes ≤ n → base_at nodes n ≡ None
no_node [] n h = refl
no_node (x ∷ nodes) zero h = absurd (omega arith)
no_node (x ∷ nodes) (suc n) h = no_node nodes n (omega arith)

base_low : (nodes : List (Option DirectNode)) (n : ℕ) (base : DirectNode) → base_at nodes n ≡ Some base → n < length nodes
base_low nodes n base e = ⊎_elim (λ l. l) (λ high. absurd (let none = no_node nodes n high in let f : ⊥ = cc in f)) (cases_lt n (length nodes))

-- ---- a node that has a base relation
pub record HasRules (relation : Relation) (direct : BaseRelations) (traces : ℕ → List Trace) (n : ℕ) (base : DirectNode) : Type 0 where
  pub low : n < length (sizes_of relation)
  pub sizes : slice_index (sizes_of relation) n ≡ length base.lengths
  pub rules : AreRules (length base.lengths) (traces n) base.rules

module _ (relation : Relation) (target : ℕ) (direct : BaseRelations) (s : Succeeds relation target direct) where
  abbrev Has : ℕ → Bool
  Has = has_base s.covers target

  abbrev pub Traces : ℕ → List Trace
  Traces = node_traces s.unfolded (node_ways relation)

  made_at : (length s.bases ≡ length (sizes_of relation)) × ((i : ℕ) → i < length (sizes_of relation) → base_rules (Has i) (slice_index (sizes_of relation) i) (Traces i) ≡ Ok (slice_index_or s.bases i None))
  made_at = bases_at Has Traces (sizes_of relation) s.bases s.made

  with_base : (n : ℕ) (base : DirectNode) (o : Option (List (List Item))) → n < length (sizes_of relation) → slice_index_or s.bases n None ≡ o → IsBaseAt relation n o (Some base) → HasRules relation direct Traces n base
  with_base n base None low e is = absurd is
  with_base n base (Some rules) low e is =
      let sizes = size_is relation n base.lengths is.lengths in
      let made = rules_some (Has n) (slice_index (sizes_of relation) n) (Traces n) rules (made_at.1 n low ∙ ap Ok e) in
      record {
        low = low;
        sizes = sizes;
        rules = subst (AreRules (length base.lengths) (Traces n)) (sym is.rules_are) (subst (λ k. AreRules k (Traces n) rules) sizes (rules_are (slice_index (sizes_of relation) n) (Traces n) rules made));
      }

  pub has_rules : (n : ℕ) (base : DirectNode) → base_at direct.nodes n ≡ Some base → HasRules relation direct Traces n base
  has_rules n base e =
      let count = s.direct_is.each.0 in
      let high = base_low direct.nodes n base e in
      let same = made_at.0 in
      with_base n base (slice_index_or s.bases n None) (omega arith) refl
      (subst (λ o. IsBaseAt relation n (slice_index_or s.bases n None) o) e (s.direct_is.each.1 n (omega arith)))

  some_base : (n : ℕ) (o : Option (List (List Item))) (d : Option DirectNode) → n < length (sizes_of relation) → Has n ≡ true → slice_index_or s.bases n None ≡ o → base_at direct.nodes n ≡ d → IsBaseAt relation n o d
      → (base : DirectNode) × (base_at direct.nodes n ≡ Some base)
  some_base n None d low has e f is = absurd (rules_none (Has n) (slice_index (sizes_of relation) n) (Traces n) has (made_at.1 n low ∙ ap Ok e))
  some_base n (Some rules) None low has e f is = absurd is
  some_base n (Some rules) (Some base) low has e f is = (base, f)

  -- the covers and the target have one
  pub reached : (n : ℕ) → n < length (sizes_of relation) → Has n ≡ true → (base : DirectNode) × (base_at direct.nodes n ≡ Some base)
  reached n low has =
      let same = made_at.0 in
      some_base n (slice_index_or s.bases n None) (base_at direct.nodes n) low has refl refl (s.direct_is.each.1 n (omega arith))
