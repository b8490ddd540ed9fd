-- What a number of the heap reaches is what its node in the graph reaches.
use Rattle.std.proofs.Common.{◌≡◌, ◌≢◌, ◌↔◌, inl, inr, ℕ, zero, suc, ◌<◌, List, [], ◌∷◌, Bool, true, false, Option, Some, None, length, refl, sym, ◌∙◌, arith, IsTrue, ap, subst}
use Rattle.std.specs.Prelude.{slice_index_or, Contains, AllPairs, map, not, ◌&&◌}
use Rattle.std.proofs.lemmas.List.{get_or_default}
use Rattle.std.proofs.lemmas.List.Elements.{All-from_recursion, All-contains}
use Rattle.std.proofs.lemmas.Bool.{cases_eq, cases_lt, and_parts, and_from, not_from_false, false_from_ne_true}
use Rattle.graph_core.specs.Graphs.{HasEdge, EndsAtNodes}
use Rattle.graph_core.specs.Paths as paths
use Rattle.graph_core.proofs.Reach.{Reaches-itself, Reaches-before, Reaches-through, Reaches-node}
use Rattle.world.specs.declared.member.MemberId.{MemberId}
use Rattle.class_hierarchy.specs.World.{World}
use Rattle.frames.specs.declared.value.Value.{Value}
use Rattle.frames.specs.declared.value.Value.TheVariants.{Ref}
use Rattle.frames.specs.declared.heap.Cell.{Cell}
use Rattle.frames.specs.declared.heap.Cell.TheVariants.{Object, Array}
use Rattle.entries.specs.declared.survey.Mark.{Mark}
use Rattle.entries.specs.declared.survey.Survey.{Survey}
use Rattle.frames.specs.Heap.{Cells, cell_at, is_of_type, is_instance}
use Rattle.entries.specs.Entry.{IsHeld, IsObject, IsArray, Agrees, values_in, Leads, refers, through, Reaches, IsAcyclic}
use Rattle.entries.specs.inside.Survey.{IsGraph, IsMark, IsSurvey, OnCycle, AllPass, passes}

-- ---- what is held refers to numbers of the heap

instance_inside : (w : World) (type : List ℕ) (heap : Cells) (b : ℕ) → IsTrue (is_instance w type (cell_at heap b)) → b < length heap
instance_inside w type [] b is = absurd cc
instance_inside w type (slot ∷ heap) zero is = omega arith
instance_inside w type (slot ∷ heap) (suc b) is = (let rest : b < length heap = instance_inside w type heap b is in omega arith)

pub reference_inside : (w : World) (heap : Cells) (type : List ℕ) (b : ℕ) → IsTrue (is_of_type w heap type (Ref b)) → b < length heap
unfolding is_of_type
reference_inside w heap type b is = instance_inside w type heap b is

pub contains_field : (fields : List (MemberId × Value)) (value : Value) → Contains (map (λ f. f.1) fields) value → (m : MemberId) × Contains fields (m, value)
contains_field [] value (k, inside, is) = absurd (omega arith)
contains_field (f ∷ fields) value (zero, inside, is) = (f.0, (0, omega arith, ap (λ (v : Value). (f.0, v)) is))
contains_field (f ∷ fields) value (suc k, inside, is) =
    (let rest : (m : MemberId) × Contains fields (m, value) = contains_field fields value (k, omega arith, is) in
    (rest.0, (suc rest.1.0, omega (arith, rest.1.1), rest.1.2)))

pub one_value : (fields : List (MemberId × Value)) (m : MemberId) (u v : Value) → AllPairs (λ f g. f.0 ≢ g.0) fields → Contains fields (m, u) → Contains fields (m, v) → u ≡ v
one_value fields m u v pairs (i, inside_i, is_i) (j, inside_j, is_j) =
    let at_j : slice_index_or fields j (m, u) ≡ (m, v) = get_or_default fields j (m, u) (m, v) inside_j ∙ is_j in
    elim (cases_eq i j) [
      | inl here ↦ ap (λ (f : MemberId × Value). f.1) (sym is_i ∙ ap (λ (k : ℕ). slice_index_or fields k (m, u)) here ∙ at_j)
      | inr other ↦ elim (cases_lt i j) [
        | inl before ↦ absurd (pairs i j (m, u) before inside_j (ap (λ (f : MemberId × Value). f.0) (is_i ∙ sym (ap (λ (x : Value). (m, x)) refl)) ∙ sym (ap (λ (f : MemberId × Value). f.0) at_j)))
        | inr behind ↦ absurd (pairs j i (m, u) (omega arith) inside_i (ap (λ (f : MemberId × Value). f.0) at_j ∙ sym (ap (λ (f : MemberId × Value). f.0) is_i)))
      ]
    ]

object_refers : (w : World) (heap : Cells) (class : ℕ) (fields : List (MemberId × Value)) (b : ℕ) → IsObject w heap class fields → Contains (map (λ f. f.1) fields) (Ref b) → b < length heap
object_refers w heap class fields b object there =
    let field : (m : MemberId) × Contains fields (m, Ref b) = contains_field fields (Ref b) there in
    let typed = object.no_other field.0 (Ref b) field.1 in
    let agreed = object.each field.0 typed.0 typed.1 in
    reference_inside w heap typed.0 b (subst (λ (v : Value). IsTrue (is_of_type w heap typed.0 v)) (one_value fields field.0 agreed.0 (Ref b) object.once agreed.1 field.1) agreed.2.0)

array_refers : (w : World) (heap : Cells) (element : List ℕ) (items : List Value) (b : ℕ) → IsArray w heap element items → Contains items (Ref b) → b < length heap
array_refers w heap element items b array there =
    reference_inside w heap element b (All-contains (Agrees w heap element) items (Ref b) (All-from_recursion (Agrees w heap element) items array.each) there).0

held_refers : (w : World) (heap : Cells) (cell : Option Cell) (b : ℕ) → IsHeld w heap cell → Contains (values_in cell) (Ref b) → b < length heap
held_refers w heap None b held there = absurd held
held_refers w heap (Some (Object class fields)) b held there = object_refers w heap class fields b held there
held_refers w heap (Some (Array element items)) b held there = array_refers w heap element items b held there

-- ---- paths of the graph

edge_refers : (heap : Cells) (g : List (List ℕ)) → IsGraph heap g → (a b : ℕ) → HasEdge g a b → Contains (values_in (cell_at heap a)) (Ref b)
edge_refers heap g graph a b edge = ((graph.edges.edges a b).0 edge).1

graph_ends : (heap : Cells) (g : List (List ℕ)) → IsGraph heap g → EndsAtNodes g
graph_ends heap g graph = λ a b edge. (let inside : b < length heap = ((graph.edges.edges a b).0 edge).2 in omega (arith, graph.nodes))

pub edge_reaches : (heap : Cells) (a b c : ℕ) → Contains (values_in (cell_at heap a)) (Ref b) → Reaches heap b c → Leads heap a c
edge_reaches heap a b c there (inl same) = refers (subst (λ (k : ℕ). Contains (values_in (cell_at heap a)) (Ref k)) same there)
edge_reaches heap a b c there (inr more) = through there more

path_reaches : (heap : Cells) (g : List (List ℕ)) → IsGraph heap g → (rest : List ℕ) (a b : ℕ) → paths.Leads g a rest b → Reaches heap a b
path_reaches heap g graph [] a b same = inl same
path_reaches heap g graph (c ∷ rest) a b (edge, leads) =
    inr (edge_reaches heap a c b (edge_refers heap g graph a c edge) (path_reaches heap g graph rest c b leads))

graph_reaches : (heap : Cells) (g : List (List ℕ)) → IsGraph heap g → (a b : ℕ) → paths.Reaches g a b → Reaches heap a b
graph_reaches heap g graph a b (rest, path) = path_reaches heap g graph rest a b path.leads

-- all that the node reaches is held
abbrev HoldsAll : World → Cells → List (List ℕ) → ℕ → Type 0
HoldsAll w heap g r = (b : ℕ) → paths.Reaches g r b → IsHeld w heap (cell_at heap b)

leads_reach : (w : World) (heap : Cells) (g : List (List ℕ)) → IsGraph heap g → (r : ℕ) → r < length g → HoldsAll w heap g r → (a b : ℕ) → paths.Reaches g r a → Leads heap a b → paths.Reaches g a b
leads_reach w heap g graph r root held a b reached (refers there) =
    let inside : b < length heap = held_refers w heap (cell_at heap a) b (held a reached) there in
    let node : a < length g = Reaches-node g (graph_ends heap g graph) r a root reached in
    Reaches-before g a b b ((graph.edges.edges a b).1 (omega (arith, graph.nodes), there, inside)) (Reaches-itself g b)
leads_reach w heap g graph r root held a b reached (through {b = c} there more) =
    let inside : c < length heap = held_refers w heap (cell_at heap a) c (held a reached) there in
    let node : a < length g = Reaches-node g (graph_ends heap g graph) r a root reached in
    let edge : HasEdge g a c = (graph.edges.edges a c).1 (omega (arith, graph.nodes), there, inside) in
    Reaches-before g a c b edge
    (leads_reach w heap g graph r root held c b (Reaches-through g r a c reached (Reaches-before g a c c edge (Reaches-itself g c))) more)

holds_to : (w : World) (heap : Cells) (g : List (List ℕ)) → IsGraph heap g → (r : ℕ) → r < length g → HoldsAll w heap g r → (b : ℕ) → Reaches heap r b → paths.Reaches g r b
holds_to w heap g graph r root held b (inl same) = subst (λ (k : ℕ). paths.Reaches g r k) same (Reaches-itself g r)
holds_to w heap g graph r root held b (inr leads) = leads_reach w heap g graph r root held r b (Reaches-itself g r) leads

cycle_to : (w : World) (heap : Cells) (g : List (List ℕ)) → IsGraph heap g → (r : ℕ) → r < length g → HoldsAll w heap g r → (b : ℕ) → paths.Reaches g r b → Leads heap b b → OnCycle g b
cycle_to w heap g graph r root held b reached (refers there) =
    let inside : b < length heap = held_refers w heap (cell_at heap b) b (held b reached) there in
    (b, (graph.edges.edges b b).1 (inside, there, inside), (Reaches-itself g b, Reaches-itself g b))
cycle_to w heap g graph r root held b reached (through {b = c} there more) =
    let inside : c < length heap = held_refers w heap (cell_at heap b) c (held b reached) there in
    let node : b < length g = Reaches-node g (graph_ends heap g graph) r b root reached in
    let edge : HasEdge g b c = (graph.edges.edges b c).1 (omega (arith, graph.nodes), there, inside) in
    let next : paths.Reaches g b c = Reaches-before g b c c edge (Reaches-itself g c) in
    (c, edge, (next, leads_reach w heap g graph r root held c b (Reaches-through g r b c reached next) more))

cycle_from : (heap : Cells) (g : List (List ℕ)) → IsGraph heap g → (b : ℕ) → OnCycle g b → Leads heap b b
cycle_from heap g graph b (c, edge, together) =
    edge_reaches heap b c b (edge_refers heap g graph b c edge) (graph_reaches heap g graph c b together.1)

-- ---- what passes

pass_held : (acyclic : Bool) (mark : Mark) → IsTrue (passes acyclic mark) → IsTrue mark.held
pass_held acyclic mark is = (and_parts mark.held (not (acyclic && mark.cyclic)) is).0

pass_acyclic : (mark : Mark) → IsTrue (passes true mark) → mark.cyclic ≡ true → ⊥
pass_acyclic mark is cyclic = (let rest : IsTrue (not mark.cyclic) = (and_parts mark.held (not mark.cyclic) is).1 in absurd cc)

does_pass : (acyclic : Bool) (mark : Mark) → IsTrue mark.held → (IsTrue acyclic → mark.cyclic ≡ true → ⊥) → IsTrue (passes acyclic mark)
does_pass false mark held never = and_from mark.held true held refl
does_pass true mark held never = and_from mark.held (not mark.cyclic) held (not_from_false mark.cyclic (false_from_ne_true mark.cyclic (never refl)))

-- what the number reaches is held, and on no cycle where none is allowed
abbrev pub ReachesSound : World → Cells → Bool → ℕ → Type 0
ReachesSound w heap acyclic r = ((b : ℕ) → Reaches heap r b → IsHeld w heap (cell_at heap b)) × (IsTrue acyclic → IsAcyclic heap r)

no_mark : Mark
no_mark = record { held = false; cyclic = false }

all_hold : (w : World) (heap : Cells) (s : Survey) (acyclic : Bool) (r : ℕ) → IsSurvey w heap s → r < length s.graph → AllPass acyclic s.graph s.marks.items r → HoldsAll w heap s.graph r
all_hold w heap s acyclic r is root all = λ b reached.
    let node : b < length s.graph = Reaches-node s.graph (graph_ends heap s.graph is.graph) r b root reached in
    let mark : IsMark w heap s.graph b (slice_index_or s.marks.items b no_mark) = is.marks b no_mark (omega (arith, is.count, is.graph.nodes)) in
    mark.held.0 (pass_held acyclic (slice_index_or s.marks.items b no_mark) (all.each b node reached no_mark))

sound_to : (w : World) (heap : Cells) (s : Survey) (acyclic : Bool) (r : ℕ) → IsSurvey w heap s → r < length s.graph → AllPass acyclic s.graph s.marks.items r → ReachesSound w heap acyclic r
sound_to w heap s acyclic r is root all =
    let holds : HoldsAll w heap s.graph r = all_hold w heap s acyclic r is root all in (
      λ b reaches. holds b (holds_to w heap s.graph is.graph r root holds b reaches),
      λ needs b reaches leads.
          let reached : paths.Reaches s.graph r b = holds_to w heap s.graph is.graph r root holds b reaches in
          let node : b < length s.graph = Reaches-node s.graph (graph_ends heap s.graph is.graph) r b root reached in
          let mark : IsMark w heap s.graph b (slice_index_or s.marks.items b no_mark) = is.marks b no_mark (omega (arith, is.count, is.graph.nodes)) in
          pass_acyclic (slice_index_or s.marks.items b no_mark)
          (subst (λ (x : Bool). IsTrue (passes x (slice_index_or s.marks.items b no_mark))) needs (all.each b node reached no_mark))
          (mark.cyclic.1 (cycle_to w heap s.graph is.graph r root holds b reached leads)),
    )

sound_from : (w : World) (heap : Cells) (s : Survey) (acyclic : Bool) (r : ℕ) → IsSurvey w heap s → ReachesSound w heap acyclic r → AllPass acyclic s.graph s.marks.items r
sound_from w heap s acyclic r is sound = record {
  each = λ b node reached d.
      let mark : IsMark w heap s.graph b (slice_index_or s.marks.items b d) = is.marks b d (omega (arith, is.count, is.graph.nodes)) in
      let reaches : Reaches heap r b = graph_reaches heap s.graph is.graph r b reached in
      does_pass acyclic (slice_index_or s.marks.items b d) (mark.held.1 (sound.0 b reaches))
      (λ needs cyclic. sound.1 needs b reaches (cycle_from heap s.graph is.graph b (mark.cyclic.0 cyclic)));
}

pub sound_is : (w : World) (heap : Cells) (s : Survey) (acyclic : Bool) (r : ℕ) → IsSurvey w heap s → r < length heap → AllPass acyclic s.graph s.marks.items r ↔ ReachesSound w heap acyclic r
sound_is w heap s acyclic r is root = (
  sound_to w heap s acyclic r is (omega (arith, is.graph.nodes)),
  sound_from w heap s acyclic r is,
)
