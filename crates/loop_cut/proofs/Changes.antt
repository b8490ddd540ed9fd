-- What runs in a loop changes.
use Rattle.std.proofs.Common.{◌≡◌, ◌↔◌, inl, inr, ℕ, zero, suc, ◌+◌, ◌-◌, ◌<◌, ◌≤◌, List, [], ◌∷◌, ◌++◌, length, flat_map, Option, Some, None, get_or, refl, sym, ap, subst, ◌∙◌, arith}
use Rattle.std.specs.Prelude.{Contains, slice_get, slice_index}
use Rattle.class_pool.specs.declared.constant.Constant.{Constant}
use Rattle.std.proofs.lemmas.Bool.{cases_lt}
use Rattle.std.proofs.lemmas.List.{get_or_append_left, get_or_push}
use Rattle.common_laws.proofs.Members.{place_of, in_flat, from_flat}
use Rattle.op_table.specs.Actions.{action_of}
use Rattle.code_blocks.specs.declared.instruction.Instruction.{Instruction}
use Rattle.code_blocks.specs.declared.instruction.Block.{Block}
use Rattle.code_blocks.specs.Laws.{IsInside}
use Rattle.code_blocks.specs.Successors.{rising}
use Rattle.code_blocks.proofs.Risings.{rising_has, rising_from}
use Rattle.method_body.specs.Bodies.{MethodBody}
use Rattle.kind_effects.specs.Effects.{pops}
use Rattle.loop_cut.specs.Effects.{stored_by}
use Rattle.loop_cut.specs.CodeLoops.{IsChanged, IsHeight, IsLeast}
use Rattle.loop_cut.specs.inside.Gathered.{AreFloors, AreNumbers, IsLeastOf, or_zero, part_of, part_at, stored_at}
use Rattle.loop_cut.proofs.Lists.{part_from, part_has, got, got_within, at_place}

index_is : (xs : List ℕ) (k n : ℕ) → slice_get xs k ≡ Some n → slice_index xs k ≡ n
index_is [] k n e = let none : None ≡ Some n = e in absurd (cc)
index_is (x ∷ xs) zero n e = let is : Some x ≡ Some n = e in cc
index_is (x ∷ xs) (suc k) n e = index_is xs k n e

module _ (body : MethodBody) (numbers : List ℕ) (numbered : AreNumbers body.blocks numbers) (places : List ℕ)
    (known : (x : ℕ) → Contains places x → (c : Block) × Contains body.blocks c × (c.pc ≡ x)) where
  module _ {A : Type 0} (xs : List A) where
    part_is : (x : ℕ) (c : Block) → Contains body.blocks c → c.pc ≡ x → part_at xs body.blocks numbers x ≡ part_of xs (Some c)
    part_is x c there e =
        let at = place_of body.blocks c there in
        let number : slice_index numbers c.pc ≡ there.0 = numbered there.0 c at in
        ap (λ (k : ℕ). part_of xs (slice_get body.blocks k)) (subst (λ (y : ℕ). slice_index numbers y ≡ there.0) e number)
        ∙ ap (λ (o : Option Block). part_of xs o) at

    pub stands_from : (x : ℕ) (v : A) → Contains places x → Contains (part_at xs body.blocks numbers x) v
        → (c : Block) × Contains body.blocks c × Contains places c.pc × ((k : ℕ) × IsInside c k × (slice_get xs k ≡ Some v))
    stands_from x v p h =
        let b = known x p in
        let q = part_from b.0.first (b.0.last + 1 - b.0.first) xs v (subst (λ (l : List A). Contains l v) (part_is x b.0 b.1 b.2) h) in
        let low = q.1 in
        let high = q.2 in
        (b.0, b.1, subst (Contains places) (sym b.2) p, (q.0, (low, omega arith), q.3))

    pub stands_in : (c : Block) (k : ℕ) (v : A) → Contains body.blocks c → IsInside c k → slice_get xs k ≡ Some v → Contains (part_at xs body.blocks numbers c.pc) v
    stands_in c k v there inside e =
        let low = inside.0 in
        let high = inside.1 in
        subst (λ (l : List A). Contains l v) (sym (part_is c.pc c there refl)) (part_has c.first (c.last + 1 - c.first) k xs v low (omega arith) e)

  stored_from : (n : ℕ) → Contains (flat_map (stored_at body.instructions body.blocks numbers) places) n → IsChanged body places n
  stored_from n h =
      let at = from_flat (stored_at body.instructions body.blocks numbers) places n h in
      let by = from_flat (λ (i : Instruction). stored_by (action_of i.instr)) (part_at body.instructions body.blocks numbers at.0) n at.2 in
      let s = stands_from body.instructions at.0 by.0 at.1 by.1 in
      (s.3.0, by.0, record { block = s.0; known = s.1; held = s.2; inside = s.3.1; there = s.3.2 }, by.2)

  stored_has : (n : ℕ) → IsChanged body places n → Contains (flat_map (stored_at body.instructions body.blocks numbers) places) n
  stored_has n h =
      let s = h.2 in
      in_flat (stored_at body.instructions body.blocks numbers) places s.block.pc n s.held
      (in_flat (λ (i : Instruction). stored_by (action_of i.instr)) (part_at body.instructions body.blocks numbers s.block.pc) h.1 n (stands_in body.instructions s.block h.0 h.1 s.known s.inside s.there) h.3)

  pub changed_are : (n : ℕ) → Contains (rising (flat_map (stored_at body.instructions body.blocks numbers) places)) n ↔ IsChanged body places n
  changed_are n = (
    λ c. stored_from n (rising_from (flat_map (stored_at body.instructions body.blocks numbers) places) n c),
    λ h. rising_has (flat_map (stored_at body.instructions body.blocks numbers) places) n (stored_has n h),
  )

  module _ (heights floors : List ℕ) (f : AreFloors body.class.pool body.instructions heights floors) where
    height_from : (n : ℕ) → Contains (flat_map (part_at floors body.blocks numbers) places) n → IsHeight body heights places n
    height_from n h =
        let at = from_flat (part_at floors body.blocks numbers) places n h in
        let s = stands_from floors at.0 n at.1 at.2 in
        let k = s.3.0 in
        let within : k < length floors = got_within floors k n s.3.2 in
        let count = f.count in
        let i = got body.instructions k (omega arith) in
        (k, i.0, record { block = s.0; known = s.1; held = s.2; inside = s.3.1; there = i.1 }, sym (index_is floors k n s.3.2) ∙ f.each k i.0 i.1)

    height_has : (n : ℕ) → IsHeight body heights places n → Contains (flat_map (part_at floors body.blocks numbers) places) n
    height_has n h =
        let s = h.2 in
        let within : h.0 < length body.instructions = got_within body.instructions h.0 h.1 s.there in
        let count = f.count in
        let g = got floors h.0 (omega arith) in
        let same : g.0 ≡ n = sym (index_is floors h.0 g.0 g.1) ∙ f.each h.0 h.1 s.there ∙ sym h.3 in
        in_flat (part_at floors body.blocks numbers) places s.block.pc n s.held (stands_in floors s.block h.0 n s.known s.inside (g.1 ∙ ap (λ (m : ℕ). Some m) same))

    pub least_is : (o : Option ℕ) → IsLeastOf (flat_map (part_at floors body.blocks numbers) places) o → ((n : ℕ) × IsHeight body heights places n) → IsLeast (IsHeight body heights places) (or_zero o)
    least_is None none some = absurd (none some.0 (height_has some.0 some.1))
    least_is (Some n) l some = (height_from n l.0, λ m h. l.1 m (height_has m h))

    -- the first instruction of a block
    pub some_height : (c : Block) (i : Instruction) → Contains body.blocks c → Contains places c.pc → c.first ≤ c.last → slice_get body.instructions c.first ≡ Some i
        → (n : ℕ) × IsHeight body heights places n
    some_height c i there held ordered at =
        (slice_index heights c.first - pops body.class.pool (action_of i.instr), (c.first, i, record { block = c; known = there; held = held; inside = (omega arith, ordered); there = at }, refl))

-- one floor more
pub floors_next : (pool : List (Option Constant)) (is : List Instruction) (heights floors : List ℕ) (n v : ℕ) (at : Instruction) → n < length is → at ≡ get_or is n at → length floors ≡ n
    → v ≡ slice_index heights n - pops pool (action_of at.instr)
    → ((k : ℕ) (i : Instruction) → k < n → slice_get is k ≡ Some i → slice_index floors k ≡ slice_index heights k - pops pool (action_of i.instr))
    → (k : ℕ) (i : Instruction) → k < n + 1 → slice_get is k ≡ Some i → slice_index (floors ++ v ∷ []) k ≡ slice_index heights k - pops pool (action_of i.instr)
floors_next pool is heights floors n v at lt e count last before k i le got_i = elim (cases_lt k n) [
  | inl lower ↦ get_or_append_left floors (v ∷ []) 0 k (omega arith) ∙ before k i lower got_i
  | inr higher ↦
      let same : k ≡ n = omega arith in
      let is_at : at ≡ i = e ∙ ap (λ (m : ℕ). get_or is m at) (sym same) ∙ at_place is k i got_i at in
      let end : length floors ≡ k = omega arith in
      get_or_push floors v 0 k end ∙ last ∙ ap (λ (m : ℕ). slice_index heights m - pops pool (action_of at.instr)) (sym same)
      ∙ ap (λ (j : Instruction). slice_index heights k - pops pool (action_of j.instr)) is_at
]
