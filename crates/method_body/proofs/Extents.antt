-- How far the instructions of sound code reach, and how many they are.
use Rattle.std.proofs.Common.{◌≡◌, ℕ, zero, suc, ◌+◌, ◌<◌, ◌≤◌, true, false, List, [], length, arith, sym, subst, Contains}
use Rattle.std.specs.Prelude.{Result, Ok, Err, nat_lt, Bool, if◌then◌else◌}
use Rattle.std.proofs.lemmas.List.Elements.{All-contains_itself}
use Rattle.std.proofs.lemmas.List.{length-map}
use Rattle.common_laws.proofs.Members.{from_map}
use Rattle.op_table.specs.declared.instr.Instr.{Instr}
use Rattle.op_table.specs.declared.instr.OpFault.{OpFault}
use Rattle.op_table.specs.Grammar.{instr_at}
use Rattle.code_blocks.specs.declared.instruction.Instruction.{Instruction}
use Rattle.code_blocks.specs.Placing.{placed, placed_from, placed_then}
use Rattle.code_blocks.specs.Successors.{instruction_of, instructions_of}
use Rattle.code_blocks.specs.Blocks.{AreWithin}
use Rattle.code_blocks.specs.Laws.{IsLaidOut, IsPlace, PlacedStand}

-- each instruction takes a byte at least
few_then : (n : ℕ) (code : List ℕ) → ((pc : ℕ) → length (placed_from n code pc) ≤ n) → (pc : ℕ) (r : Result Instr OpFault) → length (placed_then pc (placed_from n code) r) ≤ suc n
few_then n code rest pc (Ok i) = let few = rest (pc + i.len) in omega arith
few_then n code rest pc (Err fault) = omega arith

few_if : (n : ℕ) (code : List ℕ) → ((pc : ℕ) → length (placed_from n code pc) ≤ n) → (pc : ℕ) (b : Bool)
    → length (if b then placed_then pc (placed_from n code) (instr_at code pc) else []) ≤ suc n
few_if n code rest pc true = few_then n code rest pc (instr_at code pc)
few_if n code rest pc false = omega arith

few_from : (n : ℕ) (code : List ℕ) (pc : ℕ) → length (placed_from n code pc) ≤ n
unfolding placed_from
few_from zero code pc = omega arith
few_from (suc n) code pc = few_if n code (few_from n code) pc (nat_lt pc (length code))

pub few : (code : List ℕ) (is : List Instruction) → is ≡ instructions_of code → length is ≤ length code
few code is e =
    let few = few_from (length code) code 0 in
    let same : length is ≡ length (placed code) = subst (λ (l : List Instruction). length l ≡ length (placed code)) (sym e) (length-map (placed code) (instruction_of code)) in
    omega arith

module _ (code : List ℕ) (stand : PlacedStand) where
  -- each begins within the code
  begins_within : (i : Instruction) → Contains (instructions_of code) i → i.pc < length code
  begins_within i h =
      let from = from_map (instruction_of code) (placed code) i h in
      let stands = stand code from.0 from.1 in
      let long = stands.1 in
      let inside = stands.2 in
      let begins : from.0.pc < length code = omega arith in
      subst (λ (j : Instruction). j.pc < length code) from.2 begins

  place_within : (x : ℕ) → IsPlace (instructions_of code) x → x < length code
  place_within x p = subst (λ y. y < length code) p.2 (begins_within p.0 p.1)

  pub within : (is : List Instruction) → is ≡ instructions_of code → IsLaidOut (instructions_of code) → AreWithin (length code) is
  within is e laid =
      subst (λ l. AreWithin (length code) l) (sym e) (record {
        start = laid.start;
        places = begins_within;
        successors = λ i h. λ k d lt. place_within _ (laid.closed i _ h (All-contains_itself i.successors k d lt));
      })
