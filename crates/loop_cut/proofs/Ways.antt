-- The graph of a method's blocks, block by block.
use Rattle.std.proofs.Common.{◌≡◌, ◌↔◌, inl, inr, ℕ, ◌+◌, ◌<◌, ◌≤◌, List, [], ◌∷◌, length, take, get_or, refl, sym, ap, subst, ◌∙◌}
use Rattle.std.specs.Prelude.{Contains, replicate}
use Rattle.std.proofs.lemmas.List.{take_all}
use Rattle.common_laws.proofs.Members.{contains_none, contains_cases}
use Rattle.graph_core.specs.Graphs.{HasEdge}
use Rattle.graph_core.specs.Paths.{Leads}
use Rattle.graph_core.specs.Loops.{HasLoop, IsInLoop}
use Rattle.graph_core.proofs.Rows.{no_edges}
use Rattle.code_blocks.specs.declared.instruction.Block.{Block}
use Rattle.code_blocks.specs.Laws.{IsLaidOut}
use Rattle.code_blocks.proofs.Ways.{Added, in_more, from_more}
use Rattle.code_blocks.proofs.Laying.{blocks_lead_to_blocks}
use Rattle.graph_loops.proofs.Insides.{below_head}
use Rattle.method_body.specs.Bodies.{MethodBody, IsBody}
use Rattle.loop_cut.specs.BlockGraph.{HasWay, IsBlockGraph}

abbrev pub AreWays : List Block → List (List ℕ) → Type 0
AreWays blocks g = (x y : ℕ) → HasEdge g x y ↔ HasWay blocks x y

pub ways_next : (blocks : List Block) (k : ℕ) (b d : Block) (old new : List (List ℕ)) → k < length blocks → b ≡ get_or blocks k d → AreWays (take k blocks) old
    → Added b.pc b.successors old new → AreWays (take (k + 1) blocks) new
ways_next blocks k b d old new lt e h added = λ x y. (
  λ t. elim ((added x y).0 t) [
    | inl before ↦ let w = (h x y).0 before in (w.0, in_more blocks k b d w.0 lt e (inl w.1), w.2, w.3)
    | inr p ↦ (b, in_more blocks k b d b lt e (inr refl), sym p.0, p.1)
  ],
  λ w. elim (from_more blocks k b d w.0 lt e w.1) [
    | inl before ↦ (added x y).1 (inl ((h x y).1 (w.0, before, w.2, w.3)))
    | inr same ↦ (added x y).1 (inr (sym (ap (λ (c : Block). c.pc) same ∙ w.2), subst (λ (c : Block). Contains c.successors y) (sym same) w.3))
  ],
)

pub ways_all : (blocks : List Block) (k : ℕ) (g : List (List ℕ)) → length blocks ≤ k → AreWays (take k blocks) g → AreWays blocks g
ways_all blocks k g le h = subst (λ l. AreWays l g) (take_all k blocks le) h

pub ways_none : (n : ℕ) (g : List (List ℕ)) → g ≡ replicate n [] → AreWays [] g
ways_none n g e = λ x y. (λ h. absurd (no_edges n g e x y h), λ w. absurd (contains_none w.0 w.1))

-- ---- what lies in a loop is a block

module _ (g : List (List ℕ)) where
  edge_into : (rest : List ℕ) (a c b : ℕ) → Leads g a (c ∷ rest) b → (y : ℕ) × HasEdge g y b
  edge_into [] a c b l = (a, subst (HasEdge g a) l.1 l.0)
  edge_into (d ∷ rest) a c b l = edge_into rest c d b l.1

  into_below : (root h x : ℕ) (rest : List ℕ) → Leads g root rest x → Contains (root ∷ rest) h → (x ≡ h → ⊥) → (y : ℕ) × HasEdge g y x
  into_below root h x [] l c other =
      elim (contains_cases root [] h c) [ inl same ↦ absurd (other (sym l ∙ same)) | inr none ↦ absurd (contains_none h none) ]
  into_below root h x (d ∷ rest) l c other = edge_into rest root d x l

  pub edge_into_loop : (root h x : ℕ) → HasLoop g root h → IsInLoop g root h x → (y : ℕ) × HasEdge g y x
  edge_into_loop root h x begins (inl e) = (begins.0, subst (HasEdge g begins.0) (sym e) begins.1.0)
  edge_into_loop root h x begins (inr l) =
      let below = below_head g root h x l in
      into_below root h x below.0.0 below.0.1.path.leads below.0.2 below.1

module _ (body : MethodBody) (is_body : IsBody body) (laid : IsLaidOut body.instructions) (g : List (List ℕ)) (is_graph : IsBlockGraph body g) where
  pub target_block : (y x : ℕ) → HasEdge g y x → (c : Block) × Contains body.blocks c × (c.pc ≡ x)
  target_block y x edge =
      let w = (is_graph.edges y x).0 edge in
      blocks_lead_to_blocks body.instructions body.blocks w.0 x laid is_body.blocks_are w.1 w.3

  pub loop_block : (h x : ℕ) → HasLoop g 0 h → IsInLoop g 0 h x → (c : Block) × Contains body.blocks c × (c.pc ≡ x)
  loop_block h x begins inside = let e = edge_into_loop g 0 h x begins inside in target_block e.0 x e.1

pub sources_are : (body : MethodBody) (g : List (List ℕ)) → IsBlockGraph body g → (a x : ℕ) → HasEdge g a x → (b : Block) × Contains body.blocks b × (b.pc ≡ a)
sources_are body g is_graph a x edge = let w = (is_graph.edges a x).0 edge in (w.0, w.1, w.2)
