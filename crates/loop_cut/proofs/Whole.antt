-- A loop with all that is told of it.
use Rattle.std.proofs.Common.{◌≡◌, inl, ℕ, ◌<◌, List, length, flat_map, Option, get_or, refl, sym, ap, subst, ◌∙◌, arith}
use Rattle.std.specs.Prelude.{All, Contains}
use Rattle.std.proofs.lemmas.List.Elements.{All-contains_itself}
use Rattle.graph_core.specs.declared.loops.NestFault.{NestFault}
use Rattle.graph_core.specs.declared.loops.NestFault.TheVariants as nests
use Rattle.graph_core.specs.Graphs.{EndsAtNodes}
use Rattle.graph_core.specs.Loops.{HasLoop}
use Rattle.graph_core.specs.Nests.{Entered, HasNodes}
use Rattle.code_blocks.specs.declared.instruction.Instruction.{Instruction}
use Rattle.code_blocks.specs.declared.instruction.Block.{Block}
use Rattle.code_blocks.specs.Laws.{IsLaidOut}
use Rattle.code_blocks.specs.Successors.{rising}
use Rattle.code_blocks.proofs.Risings.{rising_order}
use Rattle.method_body.specs.Bodies.{MethodBody, IsBody}
use Rattle.loop_cut.specs.declared.found.CutFault.TheVariants as faults
use Rattle.loop_cut.specs.BlockGraph.{IsBlockGraph}
use Rattle.loop_cut.specs.CodeLoops.{IsCut, fault_of}
use Rattle.loop_cut.specs.inside.Gathered.{IsLeastOf, IsSurvey, or_zero, part_at, stored_at, leaving_all}
use Rattle.loop_cut.proofs.Standing.{block_is}
use Rattle.loop_cut.proofs.Ways.{edge_into_loop, loop_block}
use Rattle.loop_cut.proofs.Exits.{exits_are}
use Rattle.loop_cut.proofs.Changes.{changed_are, least_is, some_height}

pub nest_is : (f : NestFault) (a b : ℕ) → fault_of f ≡ faults.Irreducible a b → f ≡ nests.TwoEntries a b
nest_is (nests.TwoEntries c d) a b e = let w : faults.Irreducible c d ≡ faults.Irreducible a b = e in cc
nest_is nests.Memory a b e = let w : faults.Memory ≡ faults.Irreducible a b = e in absurd (cc)

module _ (g : List (List ℕ)) (ends : EndsAtNodes g) (l : Entered) (begins : HasLoop g 0 l.entry) (has : HasNodes g 0 l) where
  pub node_within : (x : ℕ) → Contains l.nodes x → x < length g
  node_within x c = let e = edge_into_loop g 0 l.entry x begins ((has.held x).0 c) in ends e.0 x e.1

  pub nodes_within : (nodes : List ℕ) (n : ℕ) → nodes ≡ l.nodes → n ≡ length g → All (λ x. x < n) nodes
  nodes_within nodes n same size = λ k d lt.
      let w = node_within (get_or nodes k d) (subst (λ (ns : List ℕ). Contains ns (get_or nodes k d)) same (All-contains_itself nodes k d lt)) in
      omega arith

  module _ (body : MethodBody) (is_body : IsBody body) (laid : IsLaidOut body.instructions) (is_graph : IsBlockGraph body g)
      (heights numbers floors : List ℕ) (survey : IsSurvey body heights numbers floors) where
    known : (x : ℕ) → Contains l.nodes x → (c : Block) × Contains body.blocks c × (c.pc ≡ x)
    known x c = loop_block body is_body laid g is_graph l.entry x begins ((has.held x).0 c)

    cut_of : (o : Option ℕ) → IsLeastOf (flat_map (part_at floors body.blocks numbers) l.nodes) o
        → IsCut body heights g (record { entry = l.entry; blocks = l.nodes; exits = rising (leaving_all g l.nodes); changed = rising (flat_map (stored_at body.instructions body.blocks numbers) l.nodes); least_height = or_zero o })
    cut_of o least =
        let entry : Contains l.nodes l.entry = (has.held l.entry).1 (inl refl) in
        let c = known l.entry entry in
        let is = block_is body is_body laid c.0 c.1 in
        record {
          exits_rise = rising_order (leaving_all g l.nodes);
          exits = exits_are g l has;
          changed_rise = rising_order (flat_map (stored_at body.instructions body.blocks numbers) l.nodes);
          changed = changed_are body numbers survey.numbered l.nodes known;
          least =
              least_is body numbers survey.numbered l.nodes known heights floors survey.floored o least
              (some_height body numbers survey.numbered l.nodes known heights floors survey.floored c.0 is.first c.1 (subst (Contains l.nodes) (sym c.2) entry) is.ordered is.at_first);
        }

    module _ (is : List Instruction) (bs : List Block) (ns ms : List ℕ) (is_same : is ≡ body.instructions) (bs_same : bs ≡ body.blocks) (ns_same : ns ≡ l.nodes) (ms_same : ms ≡ numbers) where
      stored_same : rising (flat_map (stored_at is bs ms) ns) ≡ rising (flat_map (stored_at body.instructions body.blocks numbers) l.nodes)
      stored_same =
          ap (λ (a : List Instruction). rising (flat_map (stored_at a bs ms) ns)) is_same
          ∙ ap (λ (a : List Block). rising (flat_map (stored_at body.instructions a ms) ns)) bs_same
          ∙ ap (λ (a : List ℕ). rising (flat_map (stored_at body.instructions body.blocks a) ns)) ms_same
          ∙ ap (λ (a : List ℕ). rising (flat_map (stored_at body.instructions body.blocks numbers) a)) ns_same

      pub cut_is : (entry : ℕ) (blocks exits changed fs ks : List ℕ) (o : Option ℕ) (r : ℕ) → entry ≡ l.entry → blocks ≡ ns → exits ≡ rising (leaving_all g ns)
          → changed ≡ rising (flat_map (stored_at is bs ms) ns) → fs ≡ floors → ks ≡ numbers → IsLeastOf (flat_map (part_at fs bs ks) ns) o → r ≡ or_zero o
          → IsCut body heights g (record { entry = entry; blocks = blocks; exits = exits; changed = changed; least_height = r })
      cut_is entry blocks exits changed fs ks o r e_is b_is x_is c_is f_is k_is least r_is =
          subst (λ (z : ℕ). IsCut body heights g (record { entry = z; blocks = blocks; exits = exits; changed = changed; least_height = r })) (sym e_is)
          (subst (λ (z : List ℕ). IsCut body heights g (record { entry = l.entry; blocks = z; exits = exits; changed = changed; least_height = r })) (sym (b_is ∙ ns_same))
          (subst (λ (z : List ℕ). IsCut body heights g (record { entry = l.entry; blocks = l.nodes; exits = z; changed = changed; least_height = r })) (sym (x_is ∙ ap (λ (a : List ℕ). rising (leaving_all g a)) ns_same))
          (subst (λ (z : List ℕ). IsCut body heights g (record { entry = l.entry; blocks = l.nodes; exits = rising (leaving_all g l.nodes); changed = z; least_height = r })) (sym (c_is ∙ stored_same))
          (subst (λ (z : ℕ). IsCut body heights g (record { entry = l.entry; blocks = l.nodes; exits = rising (leaving_all g l.nodes); changed = rising (flat_map (stored_at body.instructions body.blocks numbers) l.nodes); least_height = z })) (sym r_is)
          (cut_of o (subst (λ (a : List ℕ). IsLeastOf (flat_map (part_at floors body.blocks numbers) a) o) ns_same
          (subst (λ (a : List ℕ). IsLeastOf (flat_map (part_at floors body.blocks a) ns) o) k_is
          (subst (λ (a : List ℕ). IsLeastOf (flat_map (part_at a body.blocks ks) ns) o) f_is
          (subst (λ (a : List Block). IsLeastOf (flat_map (part_at fs a ks) ns) o) bs_same least)))))))))
