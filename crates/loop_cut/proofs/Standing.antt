-- What is known of a method's blocks.
use Rattle.std.proofs.Common.{◌≡◌, inl, inr, ℕ, ◌<◌, ◌≤◌, List, length, Some, get_or, sym, subst, arith}
use Rattle.std.specs.Prelude.{All, Contains, slice_get}
use Rattle.std.proofs.lemmas.Bool.{cases_order}
use Rattle.std.proofs.lemmas.List.Elements.{All-contains_itself}
use Rattle.common_laws.proofs.Members.{contains_at}
use Rattle.code_blocks.specs.declared.instruction.Instruction.{Instruction}
use Rattle.code_blocks.specs.declared.instruction.Block.{Block}
use Rattle.code_blocks.specs.Blocks.{AreWithin, IsBlock}
use Rattle.code_blocks.specs.Laws.{IsLaidOut, PlacedStand}
use Rattle.code_blocks.proofs.Laying.{later_at}
use Rattle.method_body.specs.Bodies.{MethodBody, IsBody}
use Rattle.method_body.proofs.Extents.{within}
use Rattle.loop_cut.proofs.Lists.{got_within, at_place}

module _ (body : MethodBody) (is_body : IsBody body) (laid : IsLaidOut body.instructions) where
  pub block_is : (b : Block) → Contains body.blocks b → IsBlock body.instructions b
  block_is b c = ((is_body.blocks_are.all b).0 c).0

  pub block_inside : All (λ (b : Block). (b.first ≤ b.last) × (b.last < length body.instructions)) body.blocks
  block_inside k d lt =
      let h = block_is (get_or body.blocks k d) (All-contains_itself body.blocks k d lt) in
      (h.ordered, got_within body.instructions (get_or body.blocks k d).last h.last h.at_last)

  before_not_same : (j k : ℕ) (b c : Block) → j < k → slice_get body.blocks j ≡ Some b → slice_get body.blocks k ≡ Some c → b.pc ≡ c.pc → ⊥
  before_not_same j k b c lt at_j at_k same =
      let hb = block_is b (contains_at body.blocks j b at_j) in
      let hc = block_is c (contains_at body.blocks k c at_k) in
      let pair = is_body.blocks_are.order j k b lt (got_within body.blocks k c at_k) in
      let left : get_or body.blocks j b ≡ b = at_place body.blocks j b at_j b in
      let right : get_or body.blocks k b ≡ c = at_place body.blocks k c at_k b in
      let ordered : b.last < c.first = subst (λ (x : Block). b.last < x.first) right (subst (λ (x : Block). x.last < (get_or body.blocks k b).first) left pair) in
      let le = hb.ordered in
      let rise = later_at body.instructions b.first c.first hb.first hc.first laid (omega arith) hb.at_first hc.at_first in
      let pb = hb.place in
      let pc = hc.place in
      omega arith

  pub blocks_apart : (j k : ℕ) (b c : Block) → slice_get body.blocks j ≡ Some b → slice_get body.blocks k ≡ Some c → b.pc ≡ c.pc → j ≡ k
  blocks_apart j k b c at_j at_k same = elim (cases_order j k) [
    | inl e ↦ e
    | inr (inl lt) ↦ absurd (before_not_same j k b c lt at_j at_k same)
    | inr (inr lt) ↦ absurd (before_not_same k j c b lt at_k at_j (sym same))
  ]

  module _ (stand : PlacedStand) where
    within_code : AreWithin (length body.code.bytes) body.instructions
    within_code =
        within body.code.bytes stand body.instructions is_body.instructions_are (subst (λ (is : List Instruction). IsLaidOut is) is_body.instructions_are laid)

    pub block_within : (b : Block) → Contains body.blocks b → b.pc < length body.code.bytes
    block_within b c =
        let h = block_is b c in
        subst (λ (x : ℕ). x < length body.code.bytes) h.place (within_code.places h.first (contains_at body.instructions b.first h.first h.at_first))

    pub blocks_within : All (λ (b : Block). b.pc < length body.code.bytes) body.blocks
    blocks_within k d lt = block_within (get_or body.blocks k d) (All-contains_itself body.blocks k d lt)

    pub block_ends : (b : Block) → Contains body.blocks b → All (λ x. x < length body.code.bytes) b.successors
    block_ends b c =
        let h = block_is b c in
        subst (λ (ys : List ℕ). All (λ x. x < length body.code.bytes) ys) (sym h.leads) (within_code.successors h.last (contains_at body.instructions b.last h.last h.at_last))
