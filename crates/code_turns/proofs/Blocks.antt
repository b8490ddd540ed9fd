-- The loops around the instructions of a method's code, and what an instruction does to them.
use Rattle.std.proofs.Common.{◌≡◌, inl, inr, ℕ, ◌+◌, ◌<◌, ◌≤◌, Bool, true, false, ◌&&◌, List, [], ◌∷◌, length, Option, Some, None, get_or, Contains, find, position, nat_eq, nat_le, refl, sym, ◌∙◌, ap, subst, arith, true≢false, eq-eqb, ne_eqb, le-leb, leb-true}
use Rattle.std.specs.Prelude.{slice_get, option_and_then}
use Rattle.std.proofs.lemmas.Bool.{cases_lt}
use Rattle.std.proofs.lemmas.Option.{slice_get_within, slice_get-get_or, get_or_from_slice_get}
use Rattle.common_laws.proofs.Members.{place_of, contains_cases, contains_none, contains_head}
use Rattle.common_laws.proofs.Positions.{position_at}
use Rattle.common_laws.proofs.Tests.{find_some, find_misses}
use Rattle.graph_core.specs.Graphs.{HasEdge, EndsAtNodes}
use Rattle.code_blocks.specs.declared.instruction.Instruction.{Instruction}
use Rattle.code_blocks.specs.declared.instruction.Block.{Block}
use Rattle.code_blocks.specs.Blocks.{IsReached}
use Rattle.code_blocks.specs.Laws.{IsLaidOut, IsInside, PlacedStand}
use Rattle.code_blocks.proofs.Laying.{later_at, blocks_have_reached, blocks_lead_to_blocks, blocks_are_apart}
use Rattle.method_body.specs.Bodies.{MethodBody, IsBody}
use Rattle.graph_loops.specs.Nesting.{Nested, IsNested}
use Rattle.loop_cut.specs.BlockGraph.{IsBlockGraph}
use Rattle.loop_cut.specs.Laws.{HasOneEntries}
use Rattle.loop_cut.proofs.Lists.{got_within}
use Rattle.loop_cut.proofs.Standing.{block_is, block_within}
use Rattle.loop_cut.proofs.Ways.{target_block}
use Rattle.loop_cut.proofs.Reaching.{Stands, first_stands, same_block, start_place, inner, there, same_at, block_reached}
use Rattle.loop_turns.specs.Regions.{Passage}
use Rattle.loop_turns.specs.Regions as regions
use Rattle.code_turns.specs.Homes.{block_with, block_at, loops_around, home_in}
use Rattle.code_turns.specs.inside.Around.{IsAround}
use Rattle.code_turns.proofs.Around.{found_around}
use Rattle.code_turns.proofs.Passing.{edge_passes, root_passes, end_home}

found_one : {A : Type 0} (p : A → Bool) (xs : List A) (x : A) (o : Option A) → find p xs ≡ o → Contains xs x → p x ≡ true → ((y : A) → Contains xs y → p y ≡ true → y ≡ x) → o ≡ Some x
found_one p xs x None e c passes only = absurd (true≢false (sym passes ∙ find_misses p xs x e c))
found_one p xs x (Some y) e c passes only = let found = find_some p xs y e in ap (λ z. Some z) (only y found.0 found.1)

both_true : (a b : Bool) → (a && b) ≡ true → (a ≡ true) × (b ≡ true)
both_true true b e = (refl, e)
both_true false b e = absurd (true≢false (sym e))

and_true : (a b : Bool) → a ≡ true → b ≡ true → (a && b) ≡ true
and_true true b e f = f
and_true false b e f = e

module _ (body : MethodBody) (is_body : IsBody body) (laid : IsLaidOut body.instructions) where
  abbrev pub StandsIn : ℕ → Block → Type 0
  StandsIn x b = Stands body is_body laid x b

  -- an instruction that is reached stands in a block
  pub stands_in : (x : ℕ) (i : Instruction) → Contains body.instructions i → i.pc ≡ x → IsReached body.instructions x → (b : Block) × (s : StandsIn x b) × (s.i ≡ i)
  stands_in x i held place reached =
      let at : slice_get body.instructions held.0 ≡ Some i = place_of body.instructions i held in
      let home = (blocks_have_reached body.instructions body.blocks held.0 i laid is_body.blocks_are at).0 (subst (λ (z : ℕ). IsReached body.instructions z) (sym place) reached) in
      (home.0, record { k = held.0; i = i; at = at; place = place; known = home.1; inside = home.2 }, refl)

  number_found : (x : ℕ) (b : Block) → (s : StandsIn x b) → position (λ (i : Instruction). nat_eq i.pc x) body.instructions ≡ Some s.k
  number_found x b s =
      let within : s.k < length body.instructions = slice_get_within body.instructions s.k s.i s.at in
      let is : get_or body.instructions s.k s.i ≡ s.i = get_or_from_slice_get body.instructions s.k s.i s.i s.at in
      position_at (λ (i : Instruction). nat_eq i.pc x) body.instructions s.k s.i within
      (eq-eqb (get_or body.instructions s.k s.i).pc x (ap (λ (i : Instruction). i.pc) is ∙ s.place))
      (λ k lt.
      let rise : (get_or body.instructions k s.i).pc < s.i.pc = later_at body.instructions k s.k (get_or body.instructions k s.i) s.i laid lt (slice_get-get_or body.instructions k s.i (omega arith)) s.at in
      ne_eqb (get_or body.instructions k s.i).pc x (λ e. let place = s.place in absurd (omega arith)))

  block_found : (b : Block) (k : ℕ) → Contains body.blocks b → IsInside b k → block_with body.blocks k ≡ Some b
  block_found b k known inside =
      found_one (λ (c : Block). nat_le c.first k && nat_le k c.last) body.blocks b (block_with body.blocks k) refl known
      (and_true (nat_le b.first k) (nat_le k b.last) (le-leb b.first k inside.0) (le-leb k b.last inside.1))
      (λ c held passes.
      let both = both_true (nat_le c.first k) (nat_le k c.last) passes in
      blocks_are_apart body.instructions c b k (block_is body is_body laid c held) (block_is body is_body laid b known)
      (leb-true c.first k both.0, leb-true k c.last both.1) inside)

  -- the block at a place is that in which its instruction stands
  pub block_is_at : (x : ℕ) (b : Block) → StandsIn x b → block_at body x ≡ Some b
  block_is_at x b s = ap (option_and_then (block_with body.blocks)) (number_found x b s) ∙ block_found b s.k s.known s.inside

  module _ (stand : PlacedStand) (g : List (List ℕ)) (is_graph : IsBlockGraph body g) (n : Nested) (nested : IsNested g 0 n) (one : HasOneEntries g 0) where
    abbrev pub home : ℕ → List ℕ
    home x = home_in n (block_at body x)

    ends : EndsAtNodes g
    ends a b edge =
        let c = target_block body is_body laid g is_graph a b edge in
        let within = block_within body is_body laid stand c.0 c.1 in
        let size = is_graph.nodes in
        let place = c.2 in
        omega arith

    home_is : (x : ℕ) (b : Block) → StandsIn x b → home x ≡ loops_around n b.pc
    home_is x b s = ap (home_in n) (block_is_at x b s)

    pub is_around : (x : ℕ) (b : Block) → StandsIn x b → IsAround g 0 b.pc (home x)
    is_around x b s =
        let within = block_within body is_body laid stand b s.known in
        let size = is_graph.nodes in
        subst (IsAround g 0 b.pc) (sym (home_is x b s)) (found_around g 0 one n nested ends b.pc (omega arith))

    same_home : (x y : ℕ) (b c : Block) → StandsIn x b → StandsIn y c → b ≡ c → home y ≡ home x
    same_home x y b c s t same = home_is y c t ∙ ap (λ (d : Block). loops_around n d.pc) (sym same) ∙ sym (home_is x b s)

    stays_in : (x y : ℕ) (b c : Block) → StandsIn x b → StandsIn y c → b ≡ c → Passage (home x) y (home y)
    stays_in x y b c s t same =
        subst (λ (zs : List ℕ). Passage (home x) y zs) (sym (same_home x y b c s t same)) (regions.Passage.leaves ([], refl))

    leads_out : (x y : ℕ) (b c : Block) → StandsIn x b → StandsIn y c → Contains b.successors y → Passage (home x) y (home y)
    leads_out x y b c s t leads =
        let d = blocks_lead_to_blocks body.instructions body.blocks b y laid is_body.blocks_are s.known leads in
        let first : StandsIn y d.0 = subst (λ (z : ℕ). StandsIn z d.0) d.2 (first_stands body is_body laid d.0 d.1) in
        let place : c.pc ≡ y = ap (λ (e : Block). e.pc) (same_block body is_body laid y c d.0 t first) ∙ d.2 in
        let edge : HasEdge g b.pc y = (is_graph.edges b.pc y).1 (b, s.known, refl, leads) in
        let around : IsAround g 0 y (home y) = subst (λ (z : ℕ). IsAround g 0 z (home y)) place (is_around y c t) in
        edge_passes g 0 one b.pc y (block_reached body is_body laid g is_graph b s.known) edge (home x) (is_around x b s) (home y) around

    -- what the way from an instruction to a successor does to the loops around
    pub way_passes : (x y : ℕ) (b c : Block) → (s : StandsIn x b) → StandsIn y c → Contains s.i.successors y → Passage (home x) y (home y)
    way_passes x y b c s t leads =
        let h = block_is body is_body laid b s.known in
        let low : b.first ≤ s.k = s.inside.0 in
        let high : s.k ≤ b.last = s.inside.1 in
        elim (cases_lt s.k b.last) [
          | inl lt ↦
              let within : b.last < length body.instructions = got_within body.instructions b.last h.last h.at_last in
              let n = there body.instructions (s.k + 1) (omega arith) in
              let alone : s.i.successors ≡ n.0.pc ∷ [] = inner body.instructions b s.k s.i n.0 laid h low lt s.at n.1 in
              let place : n.0.pc ≡ y = elim (contains_cases n.0.pc [] y (subst (λ (l : List ℕ). Contains l y) alone leads)) [ inl same ↦ same | inr none ↦ absurd (contains_none y none) ] in
              let here : StandsIn y b = record { k = s.k + 1; i = n.0; at = n.1; place = place; known = s.known; inside = (omega arith, omega arith) } in
              stays_in x y b c s t (same_block body is_body laid y b c here t)
          | inr le ↦
              let number : s.k ≡ b.last = omega arith in
              let same : s.i ≡ h.last = same_at body.instructions b.last s.i h.last (subst (λ (m : ℕ). slice_get body.instructions m ≡ Some s.i) number s.at) h.at_last in
              leads_out x y b c s t (subst (λ (l : List ℕ). Contains l y) (ap (λ (i : Instruction). i.successors) same ∙ sym h.leads) leads)
        ]

    -- a method begins in no loop but one that begins there
    pub start_passes : (b : Block) → StandsIn 0 b → Passage [] 0 (home 0)
    start_passes b s =
        root_passes g 0 (home 0) (subst (λ (z : ℕ). IsAround g 0 z (home 0)) (sym (start_place body is_body laid b s)) (is_around 0 b s))

    -- an instruction without successors lies in no loop
    pub end_in_none : (x : ℕ) (b : Block) → (s : StandsIn x b) → s.i.successors ≡ [] → home x ≡ []
    end_in_none x b s nowhere =
        let h = block_is body is_body laid b s.known in
        let low : b.first ≤ s.k = s.inside.0 in
        let high : s.k ≤ b.last = s.inside.1 in
        elim (cases_lt s.k b.last) [
          | inl lt ↦
              let within : b.last < length body.instructions = got_within body.instructions b.last h.last h.at_last in
              let n = there body.instructions (s.k + 1) (omega arith) in
              let alone : s.i.successors ≡ n.0.pc ∷ [] = inner body.instructions b s.k s.i n.0 laid h low lt s.at n.1 in
              absurd (contains_none n.0.pc (subst (λ (l : List ℕ). Contains l n.0.pc) (sym alone ∙ nowhere) (contains_head n.0.pc [])))
          | inr le ↦
              let number : s.k ≡ b.last = omega arith in
              let same : s.i ≡ h.last = same_at body.instructions b.last s.i h.last (subst (λ (m : ℕ). slice_get body.instructions m ≡ Some s.i) number s.at) h.at_last in
              let none : b.successors ≡ [] = h.leads ∙ ap (λ (i : Instruction). i.successors) (sym same) ∙ nowhere in
              end_home g 0 b.pc (λ y edge. no_way b s.known none y edge) (home x) (is_around x b s)
        ]
      where
        no_way : (b : Block) → Contains body.blocks b → b.successors ≡ [] → (y : ℕ) → HasEdge g b.pc y → ⊥
        no_way b known none y edge =
            let way = (is_graph.edges b.pc y).0 edge in
            let same : way.0 ≡ b = same_block body is_body laid b.pc way.0 b (subst (λ (z : ℕ). StandsIn z way.0) way.2 (first_stands body is_body laid way.0 way.1)) (first_stands body is_body laid b known) in
            contains_none y (subst (λ (l : List ℕ). Contains l y) (ap (λ (d : Block). d.successors) same ∙ none) way.3)
