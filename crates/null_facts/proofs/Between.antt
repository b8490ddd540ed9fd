-- Each edge of a program lies between two of its places.
use Rattle.std.proofs.Common.{◌≡◌, inl, inr, ℕ, zero, suc, ◌+◌, ◌<◌, ◌≤◌, List, [], ◌∷◌, length, ap, subst, ◌∙◌, arith, Contains}
use Rattle.std.specs.List.{zip}
use Rattle.std.proofs.lemmas.List.{length-append, length-map}
use Rattle.std.proofs.lemmas.List.Elements.{Contains-append_cases, All-contains}
use Rattle.common_laws.proofs.Members.{contains_head, contains_tail, contains_cases, contains_none, from_map, from_flat}
use Rattle.op_table.specs.Actions.{action_of}
use Rattle.code_blocks.specs.declared.instruction.Instruction.{Instruction}
use Rattle.null_flow.specs.declared.edge.NullEdge.{NullEdge}
use Rattle.null_flow.specs.declared.edge.Way.TheVariants.{Behind, Enters}
use Rattle.null_flow.specs.Flow.{IsBetween}
use Rattle.null_facts.specs.declared.method.NullMethod.{NullMethod}
use Rattle.null_facts.specs.Program.{size_of, sizes_in, sizes_of, firsts_from, firsts_of, first_at, has_receiver, edge_from, onward, entering, edges_at, edges_in, edges_of, AreCalls}

-- ---- pairs of two lists

module _ {A B : Type 0} where
  pub from_zip : (xs : List A) (ys : List B) (p : A × B) → Contains (zip xs ys) p → Contains xs p.0 × Contains ys p.1
  from_zip [] ys p h = absurd (contains_none p h)
  from_zip (x ∷ xs) [] p h = absurd (contains_none p h)
  from_zip (x ∷ xs) (y ∷ ys) p h =
      elim (contains_cases (x, y) (zip xs ys) p h) [
        | inl same ↦ (subst (λ q. Contains (x ∷ xs) q.0) same (contains_head x xs), subst (λ q. Contains (y ∷ ys) q.1) same (contains_head y ys))
        | inr later ↦ let rest = from_zip xs ys p later in (contains_tail x xs p.0 rest.0, contains_tail y ys p.1 rest.1)
      ]

-- ---- places

size_in : (m : NullMethod) → length (sizes_in m) ≡ length m.body.now.code.bytes
size_in m = length-map m.kinds.now size_of ∙ m.counted

sizes_more : (m : NullMethod) (ms : List NullMethod) → length (sizes_of (m ∷ ms)) ≡ length m.body.now.code.bytes + length (sizes_of ms)
sizes_more m ms = length-append (sizes_in m) (sizes_of ms) ∙ ap (λ n. n + length (sizes_of ms)) (size_in m)

method_in : (k : ℕ) (ms : List NullMethod) (p : ℕ × NullMethod) → Contains (zip (firsts_from k ms) ms) p → p.0 + length p.1.body.now.code.bytes ≤ k + length (sizes_of ms)
method_in k [] p h = absurd (contains_none p h)
method_in k (m ∷ ms) p h =
    let more = sizes_more m ms in
    elim (contains_cases (k, m) (zip (firsts_from (k + length m.body.now.code.bytes) ms) ms) p h) [
      | inl same ↦ subst (λ q. q.0 + length q.1.body.now.code.bytes ≤ k + length (sizes_of (m ∷ ms))) same (omega (arith, more))
      | inr later ↦ let rest = method_in (k + length m.body.now.code.bytes) ms p later in omega (arith, more, rest)
    ]

start_in : (k : ℕ) (ms : List NullMethod) (t : ℕ) → t < length ms → first_at (firsts_from k ms) t < k + length (sizes_of ms)
start_in k [] t l = absurd (omega arith)
start_in k (m ∷ ms) zero l = let more = sizes_more m ms in let some = m.some in omega (arith, more, some)
start_in k (m ∷ ms) (suc t) l = let more = sizes_more m ms in let rest = start_in (k + length m.body.now.code.bytes) ms t (omega arith) in omega (arith, more, rest)

-- ---- edges

module _ (ms : List NullMethod) (calls : AreCalls ms) where
  onward_in :
      (first : ℕ) (m : NullMethod) → first + length m.body.now.code.bytes ≤ length (sizes_of ms) → (i : Instruction) → Contains m.body.now.instructions i
      → (edge : NullEdge) → Contains (onward m.body.now first i) edge → IsBetween (length (sizes_of ms)) edge
  onward_in first m room i h edge g =
      let led = from_map (λ x. edge_from m.body.now first i (Behind (action_of i.instr)) (first + x)) i.successors edge g in
      let here = m.within.places i h in
      let there = All-contains (λ x. x < length m.body.now.code.bytes) i.successors led.0 (m.within.successors i h) led.1 in
      subst (IsBetween (length (sizes_of ms))) led.2 (omega (arith, here, room), omega (arith, there, room))

  entering_in :
      (first : ℕ) (m : NullMethod) → Contains ms m → first + length m.body.now.code.bytes ≤ length (sizes_of ms) → (i : Instruction) → Contains m.body.now.instructions i
      → (targets : List ℕ) → Contains m.targets targets
      → (edge : NullEdge) → Contains (entering (firsts_of ms) m.body.now first i targets) edge → IsBetween (length (sizes_of ms)) edge
  entering_in first m is room i h targets own edge g =
      let led = from_map (λ t. edge_from m.body.now first i (Enters (has_receiver (action_of i.instr))) (first_at (firsts_of ms) t)) targets edge g in
      let here = m.within.places i h in
      let there = start_in 0 ms led.0 (calls m is targets own led.0 led.1) in
      subst (IsBetween (length (sizes_of ms))) led.2 (omega (arith, here, room), omega (arith, there))

  pub all_between : (edge : NullEdge) → Contains (edges_of ms) edge → IsBetween (length (sizes_of ms)) edge
  all_between edge h =
      let by = from_flat (edges_in (firsts_of ms)) (zip (firsts_of ms) ms) edge h in
      let first = by.0.0 in
      let m = by.0.1 in
      let room : first + length m.body.now.code.bytes ≤ length (sizes_of ms) = let e = method_in 0 ms by.0 by.1 in omega (arith, e) in
      let is = (from_zip (firsts_of ms) ms by.0 by.1).1 in
      let at = from_flat (edges_at (firsts_of ms) m.body.now first) (zip m.body.now.instructions m.targets) edge by.2 in
      let own = from_zip m.body.now.instructions m.targets at.0 at.1 in
      elim (Contains-append_cases (onward m.body.now first at.0.0) (entering (firsts_of ms) m.body.now first at.0.0 at.0.1) edge at.2) [
        | inl here ↦ onward_in first m room at.0.0 own.0 edge here
        | inr there ↦ entering_in first m is room at.0.0 own.0 at.0.1 own.1 edge there
      ]
