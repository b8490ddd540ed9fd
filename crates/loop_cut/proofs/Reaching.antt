-- The start reaches each block.
use Rattle.std.proofs.Common.{◌≡◌, ◌⊎◌, inl, inr, ℕ, ◌+◌, ◌<◌, ◌≤◌, Bool, true, false, List, [], ◌∷◌, length, Option, Some, arith, refl, sym, ap, subst, ◌∙◌}
use Rattle.std.specs.Prelude.{Contains, slice_get}
use Rattle.std.proofs.lemmas.Bool.{cases_lt, cases_order}
use Rattle.std.proofs.lemmas.Option.{slice_get_cases}
use Rattle.common_laws.proofs.Members.{contains_at, place_of, contains_cases, contains_none}
use Rattle.graph_core.specs.Graphs.{HasEdge}
use Rattle.graph_core.specs.Paths.{Reaches}
use Rattle.graph_core.proofs.Reach.{Reaches-itself, Reaches-before, Reaches-through}
use Rattle.graph_loops.proofs.Insides.{inside_reached}
use Rattle.code_blocks.specs.declared.instruction.Instruction.{Instruction}
use Rattle.code_blocks.specs.declared.instruction.Block.{Block}
use Rattle.code_blocks.specs.Blocks.{is_end, next_pc, begins, IsReached, IsBlock}
use Rattle.code_blocks.specs.Blocks.IsReached.{at_start, onward}
use Rattle.code_blocks.specs.Laws.{IsLaidOut, IsInside, CodeIsLaidOut}
use Rattle.code_blocks.proofs.Laying.{begins_zero, begins_behind, later_at, blocks_lead_to_blocks, blocks_have_reached, blocks_are_apart}
use Rattle.method_body.specs.Bodies.{MethodBody, IsBody}
use Rattle.loop_cut.specs.declared.point.Point.{Point}
use Rattle.loop_cut.specs.declared.point.Point.TheVariants as points
use Rattle.loop_cut.specs.BlockGraph.{IsBlockGraph}
use Rattle.loop_cut.specs.Regions.{IsPointIn, LeadsTo, place_of as place_of_point, Walks, AreOnce}
use Rattle.loop_cut.specs.Laws.{HasOneEntries}
use Rattle.loop_cut.proofs.Exits.{not_both}
use Rattle.loop_cut.proofs.Lists.{got_within}
use Rattle.loop_cut.proofs.Standing.{block_is}
use Rattle.loop_cut.proofs.Ways.{sources_are}
use Rattle.loop_cut.proofs.Walking.{walks_once}

cases_of : (b : Bool) → (b ≡ true) ⊎ (b ≡ false)
cases_of true = inl refl
cases_of false = inr refl

pub there : (is : List Instruction) (k : ℕ) → k < length is → (i : Instruction) × (slice_get is k ≡ Some i)
there is k lt = elim (slice_get_cases is k).1 [ inl h ↦ (h.0, h.2) | inr h ↦ let le = h.0 in absurd (omega arith) ]

pub same_at : (is : List Instruction) (k : ℕ) (i j : Instruction) → slice_get is k ≡ Some i → slice_get is k ≡ Some j → i ≡ j
same_at is k i j e f = let g : Some i ≡ Some j = sym e ∙ f in cc

-- inside a block an instruction leads to the next one alone
pub inner : (is : List Instruction) (b : Block) (k : ℕ) (i j : Instruction) → IsLaidOut is → IsBlock is b → b.first ≤ k → k < b.last → slice_get is k ≡ Some i → slice_get is (k + 1) ≡ Some j
    → i.successors ≡ j.pc ∷ []
inner is b k i j laid h low high at more =
    let next : j.pc ≡ next_pc i = laid.follows k i j at more in
    let none : begins is j.pc ≡ false = h.inside (k + 1) j (omega arith) (omega arith) more in
    elim (cases_of (is_end i)) [
      | inl ends ↦ absurd (not_both (begins is j.pc) none (ap (λ (x : ℕ). begins is x) next ∙ begins_behind is i (contains_at is k i at) ends))
      | inr goes ↦ laid.behind i (contains_at is k i at) goes ∙ ap (λ (x : ℕ). x ∷ []) (sym next)
    ]

pub laid_of : CodeIsLaidOut → (body : MethodBody) → IsBody body → IsLaidOut body.instructions
laid_of law body is_body = subst (λ (is : List Instruction). IsLaidOut is) (sym is_body.instructions_are) (law body.code.bytes is_body.has_code.sound)

module _ (body : MethodBody) (is_body : IsBody body) (laid : IsLaidOut body.instructions) where
  -- the instruction at the place stands in the block
  pub record Stands (x : ℕ) (b : Block) : Type 0 where
    pub k : ℕ
    pub i : Instruction
    pub at : slice_get body.instructions k ≡ Some i
    pub place : i.pc ≡ x
    pub known : Contains body.blocks b
    pub inside : IsInside b k

  pub first_stands : (b : Block) → Contains body.blocks b → Stands b.pc b
  first_stands b known =
      let h = block_is body is_body laid b known in
      record { k = b.first; i = h.first; at = h.at_first; place = h.place; known = known; inside = (omega arith, h.ordered) }

  pub same_number : (k l : ℕ) (i j : Instruction) → slice_get body.instructions k ≡ Some i → slice_get body.instructions l ≡ Some j → i.pc ≡ j.pc → k ≡ l
  same_number k l i j at_k at_l same = elim (cases_order k l) [
    | inl e ↦ e
    | inr (inl lt) ↦ let rise : i.pc < j.pc = later_at body.instructions k l i j laid lt at_k at_l in absurd (omega arith)
    | inr (inr lt) ↦ let rise : j.pc < i.pc = later_at body.instructions l k j i laid lt at_l at_k in absurd (omega arith)
  ]

  pub same_block : (x : ℕ) (b c : Block) → Stands x b → Stands x c → b ≡ c
  same_block x b c s t =
      let numbers : s.k ≡ t.k = same_number s.k t.k s.i t.i s.at t.at (s.place ∙ sym t.place) in
      blocks_are_apart body.instructions b c t.k (block_is body is_body laid b s.known) (block_is body is_body laid c t.known)
      (subst (λ (n : ℕ). IsInside b n) numbers s.inside) t.inside

  pub start_place : (b : Block) → Stands 0 b → 0 ≡ b.pc
  start_place b s =
      let h = block_is body is_body laid b s.known in
      let low : b.first ≤ s.k = s.inside.0 in
      elim (cases_lt b.first s.k) [
        | inl lt ↦
            let starts : begins body.instructions s.i.pc ≡ true = ap (λ (x : ℕ). begins body.instructions x) s.place ∙ begins_zero body.instructions in
            absurd (not_both (begins body.instructions s.i.pc) (h.inside s.k s.i lt s.inside.1 s.at) starts)
        | inr le ↦
            let e : b.first ≡ s.k = omega arith in
            let same : h.first ≡ s.i = same_at body.instructions s.k h.first s.i (subst (λ (n : ℕ). slice_get body.instructions n ≡ Some h.first) e h.at_first) s.at in
            sym s.place ∙ sym (ap (λ (i : Instruction). i.pc) same) ∙ h.place
      ]

  module _ (g : List (List ℕ)) (is_graph : IsBlockGraph body g) where
    onto : (x : ℕ) (b c : Block) → Reaches g 0 b.pc → Contains body.blocks b → Contains b.successors x → Stands x c → Reaches g 0 c.pc
    onto x b c reached known leads s =
        let d = blocks_lead_to_blocks body.instructions body.blocks b x laid is_body.blocks_are known leads in
        let first : Stands x d.0 = subst (λ (y : ℕ). Stands y d.0) d.2 (first_stands d.0 d.1) in
        let place : x ≡ c.pc = sym d.2 ∙ ap (λ (e : Block). e.pc) (same_block x d.0 c first s) in
        let edge : HasEdge g b.pc c.pc = subst (λ (y : ℕ). HasEdge g b.pc y) place ((is_graph.edges b.pc x).1 (b, known, refl, leads)) in
        Reaches-through g 0 b.pc c.pc reached (Reaches-before g b.pc c.pc c.pc edge (Reaches-itself g c.pc))

    next : (x : ℕ) (p : Instruction) (c b : Block) (t : Stands p.pc c) → t.i ≡ p → Reaches g 0 c.pc → Contains p.successors x → Stands x b → Reaches g 0 b.pc
    next x p c b t e reached leads s =
        let h = block_is body is_body laid c t.known in
        let low : c.first ≤ t.k = t.inside.0 in
        let high : t.k ≤ c.last = t.inside.1 in
        let at : slice_get body.instructions t.k ≡ Some p = t.at ∙ ap (λ (i : Instruction). Some i) e in
        elim (cases_lt t.k c.last) [
          | inl lt ↦
              let within : c.last < length body.instructions = got_within body.instructions c.last h.last h.at_last in
              let n = there body.instructions (t.k + 1) (omega arith) in
              let alone : p.successors ≡ n.0.pc ∷ [] = inner body.instructions c t.k p n.0 laid h low lt at n.1 in
              let place : n.0.pc ≡ x = elim (contains_cases n.0.pc [] x (subst (λ (l : List ℕ). Contains l x) alone leads)) [ inl same ↦ same | inr none ↦ absurd (contains_none x none) ] in
              let here : Stands x c = record { k = t.k + 1; i = n.0; at = n.1; place = place; known = t.known; inside = (omega arith, omega arith) } in
              subst (λ (d : Block). Reaches g 0 d.pc) (same_block x c b here s) reached
          | inr le ↦
              let number : t.k ≡ c.last = omega arith in
              let same : p ≡ h.last = same_at body.instructions c.last p h.last (subst (λ (n : ℕ). slice_get body.instructions n ≡ Some p) number at) h.at_last in
              let out : Contains c.successors x = subst (λ (l : List ℕ). Contains l x) (ap (λ (i : Instruction). i.successors) same ∙ sym h.leads) leads in
              onto x c b reached t.known out s
        ]

    reach : (x : ℕ) → IsReached body.instructions x → (b : Block) → Stands x b → Reaches g 0 b.pc
    reach x at_start b s = subst (λ (y : ℕ). Reaches g 0 y) (start_place b s) (Reaches-itself g 0)
    reach x (onward p inside before leads) b s =
        let at : slice_get body.instructions inside.0 ≡ Some p = place_of body.instructions p inside in
        let home = (blocks_have_reached body.instructions body.blocks inside.0 p laid is_body.blocks_are at).0 before in
        let here : Stands p.pc home.0 = record { k = inside.0; i = p; at = at; place = refl; known = home.1; inside = home.2 } in
        next x p home.0 b here refl (reach p.pc before home.0 here) leads s

    pub block_reached : (b : Block) → Contains body.blocks b → Reaches g 0 b.pc
    block_reached b known = reach b.pc ((is_body.blocks_are.all b).0 known).1 b (first_stands b known)

    pub source_reached : (x y : ℕ) → HasEdge g x y → Reaches g 0 x
    source_reached x y edge =
        let b = sources_are body g is_graph x y edge in
        subst (λ (z : ℕ). Reaches g 0 z) b.2 (block_reached b.0 b.1)

    point_reached : (region : Option ℕ) (p : Point) (x : ℕ) → IsPointIn g 0 region p → LeadsTo g 0 p x → Reaches g 0 (place_of_point p)
    point_reached region (points.Block a) x point leads = source_reached a x leads
    point_reached region (points.Loop h) x point leads = inside_reached g 0 h h point.0 (inl refl)

    pub walks_repeat : HasOneEntries g 0 → (region : Option ℕ) (p : Point) (rest : List Point) → IsPointIn g 0 region p → Walks g 0 region p rest → AreOnce (p ∷ rest)
    walks_repeat one region p [] point w = (λ c. contains_none p c, tt)
    walks_repeat one region p (q ∷ rest) point w = walks_once g 0 one region p (q ∷ rest) point (point_reached region p w.0.node point w.0.leads) w
