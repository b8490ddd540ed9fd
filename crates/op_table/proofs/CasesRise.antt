-- The values of the cases of a switch rise.
use Rattle.std.proofs.Common.{◌≡◌, ℕ, suc, ◌+◌, ◌-◌, ◌<◌, Bool, true, false, List, [], ◌∷◌, length, drop, Option, Some, None, refl, arith, pos, ◌+ℤ◌, ◌<ℤ◌}
use Rattle.std.specs.Prelude.{nat_lt, if◌then◌else◌, Result, Err}
use Rattle.std.proofs.lemmas.Int.{ints}
use Rattle.op_table.specs.declared.instr.Instr.{Instr}
use Rattle.op_table.specs.declared.instr.OpFault.{OpFault}
use Rattle.op_table.specs.declared.instr.OpFault.TheVariants as faults
use Rattle.op_table.specs.declared.layout.Layout.{Layout}
use Rattle.op_table.specs.declared.layout.Layout.TheVariants.{Plain, TableSwitch, LookupSwitch, Wide}
use Rattle.op_table.specs.Layouts.{layout_of}
use Rattle.op_table.specs.Grammar.{int_at, value_of, padding, whole, switch, are_rising, rising, table_switch, pairs_of, lookup_switch, laid_out, first_instr, instr_at}
use Rattle.op_table.specs.Cases.{case_in, cases_of, case_at}
use Rattle.op_table.proofs.Rising.{apart}
use Rattle.op_table.proofs.SwitchCases.{Fits, switch-fits, TableCase, table-case, PairCase, pair-case, plain-none, widened-none, unsorted}

-- two cases of a `lookupswitch`
pairs-rise : (pc op : ℕ) (bytes : List ℕ) (i j count : ℕ) → i < j
    → j < cases_of (rising pc (are_rising count (drop 8 bytes)) (switch pc op (9 + padding pc) (drop 8 bytes) 8 (int_at 0 bytes) (pos 0) count true))
    → value_of i (drop 8 bytes) <ℤ value_of j (drop 8 bytes)
pairs-rise pc op bytes i j count before inside =
    let read : Result Instr OpFault = switch pc op (9 + padding pc) (drop 8 bytes) 8 (int_at 0 bytes) (pos 0) count true in
    let P : Bool → Type 0 = λ risen. are_rising count (drop 8 bytes) ≡ risen → j < cases_of (rising pc risen read)
    → value_of i (drop 8 bytes) <ℤ value_of j (drop 8 bytes) in
    elim (are_rising count (drop 8 bytes)) as P [
      | true ↦ λ risen known.
          let fits : Fits (drop 8 bytes) 8 count j = switch-fits pc op (9 + padding pc) (drop 8 bytes) 8 (int_at 0 bytes) (pos 0) count true j known in
          apart (j - suc i) i j count (drop 8 bytes) (omega arith) fits.below risen
      | false ↦ λ risen known. absurd (omega (arith, unsorted pc read, known))
    ] refl inside

count-rise : (pc op : ℕ) (bytes : List ℕ) (i j : ℕ) (count : Option ℕ) → i < j → j < cases_of (pairs_of pc op bytes count)
    → value_of i (drop 8 bytes) <ℤ value_of j (drop 8 bytes)
count-rise pc op bytes i j None before inside = absurd (omega (arith, inside))
count-rise pc op bytes i j (Some count) before inside = pairs-rise pc op bytes i j count before inside

lookup-rise : (pc op : ℕ) (bytes : List ℕ) (i j : ℕ) → i < j → j < cases_of (lookup_switch pc op bytes)
    → value_of i (drop 8 bytes) <ℤ value_of j (drop 8 bytes)
lookup-rise pc op bytes i j before =
    let inner : Result Instr OpFault = pairs_of pc op bytes (whole (int_at 4 bytes)) in
    let P : Bool → Type 0 = λ short. j < cases_of (if short then Err (faults.Short pc) else inner)
    → value_of i (drop 8 bytes) <ℤ value_of j (drop 8 bytes) in
    elim (nat_lt (length bytes) 8) as P [
      | true ↦ λ inside. absurd (omega (arith, inside))
      | false ↦ λ inside. count-rise pc op bytes i j (whole (int_at 4 bytes)) before inside
    ]

laid_out-rise : (pc op : ℕ) (bytes : List ℕ) (l : Option Layout) (i j : ℕ) → i < j → j < cases_of (laid_out pc op bytes l)
    → (case_in (drop (padding pc) bytes) i (laid_out pc op bytes l)).0 <ℤ (case_in (drop (padding pc) bytes) j (laid_out pc op bytes l)).0
laid_out-rise pc op bytes None i j before inside = absurd (omega (arith, inside))
laid_out-rise pc op bytes (Some (Plain operand)) i j before inside = absurd (omega (arith, inside, plain-none pc op false 1 bytes operand))
laid_out-rise pc op bytes (Some Wide) i j before inside = absurd (omega (arith, inside, widened-none pc bytes))
laid_out-rise pc op bytes (Some TableSwitch) i j before inside =
    let operands : List ℕ = drop (padding pc) bytes in
    let one : TableCase operands i (case_in operands i (table_switch pc op operands)) = table-case pc op operands i (omega (arith, inside)) in
    let other : TableCase operands j (case_in operands j (table_switch pc op operands)) = table-case pc op operands j inside in
    let above : (int_at 4 operands +ℤ pos i) <ℤ (int_at 4 operands +ℤ pos j) = omega (arith, ints) in
    rw (one.value, other.value) above
laid_out-rise pc op bytes (Some LookupSwitch) i j before inside =
    let operands : List ℕ = drop (padding pc) bytes in
    let one : PairCase operands i (case_in operands i (lookup_switch pc op operands)) = pair-case pc op operands i (omega (arith, inside)) in
    let other : PairCase operands j (case_in operands j (lookup_switch pc op operands)) = pair-case pc op operands j inside in
    rw (one.value, other.value) (lookup-rise pc op operands i j before inside)

first-rise : (pc : ℕ) (bytes : List ℕ) (i j : ℕ) → i < j → j < cases_of (first_instr pc bytes)
    → (case_in (drop (padding pc) (drop 1 bytes)) i (first_instr pc bytes)).0 <ℤ (case_in (drop (padding pc) (drop 1 bytes)) j (first_instr pc bytes)).0
first-rise pc [] i j before inside = absurd (omega (arith, inside))
first-rise pc (op ∷ bytes) i j before inside = laid_out-rise pc op bytes (layout_of op) i j before inside

pub cases-rise : (code : List ℕ) (pc i j : ℕ) → i < j → j < cases_of (instr_at code pc) → (case_at code pc i).0 <ℤ (case_at code pc j).0
unfolding instr_at case_at
cases-rise code pc i j before inside = first-rise pc (drop pc code) i j before inside
