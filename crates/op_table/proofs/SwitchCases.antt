-- Where the cases of a switch that was read stand.
use Rattle.std.proofs.Common.{◌≡◌, ℕ, suc, ◌+◌, ◌-◌, ◌*◌, ◌<◌, ◌≤◌, Bool, true, false, List, [], ◌∷◌, length, drop, Option, Some, None, refl, ap, arith, length-drop, ℤ, pos, negsuc, ◌+ℤ◌, ◌-ℤ◌, ◌≤ℤ◌, ◌∙◌, sym}
use Rattle.std.specs.Prelude.{nat_lt, if◌then◌else◌, Result, Ok, Err}
use Rattle.std.specs.Option.{option_and_then}
use Rattle.std.proofs.lemmas.Bool.Decides.{nat_tests}
use Rattle.std.proofs.lemmas.Int.{ints}
use Rattle.op_table.specs.declared.instr.Instr.{Instr}
use Rattle.op_table.specs.declared.instr.OpFault.{OpFault}
use Rattle.op_table.specs.declared.instr.OpFault.TheVariants as faults
use Rattle.op_table.specs.declared.instr.Args.TheVariants as args
use Rattle.op_table.specs.declared.layout.Operand.{Operand}
use Rattle.op_table.specs.declared.layout.Operand.TheVariants as operands
use Rattle.op_table.specs.Layouts.{layout_of, wide_form}
use Rattle.op_table.specs.Grammar.{int_at, value_of, padding, whole, size_of, args_in, plain, plain_if, widened, switch, are_rising, rising, table_of, table_switch, pairs_of, lookup_switch}
use Rattle.op_table.specs.Cases.{case_of, case_in, cases_of, case_count}

-- two pairs whose parts are a and b
pub same-pair : (p q : ℤ × ℤ) (a b : ℤ) → p.0 ≡ a → p.1 ≡ b → q.0 ≡ a → q.1 ≡ b → p ≡ q
same-pair p q a b one two three four =
    let P : ℤ → ℤ → ℤ × ℤ = λ x y. (x, y) in
    ap (λ x. P x p.1) (one ∙ sym three) ∙ ap (P q.0) (two ∙ sym four)

-- ---- instructions that are no switches have no cases

no-cases : (bytes : List ℕ) (operand : Operand) → case_count (args_in bytes operand) ≡ 0
no-cases bytes operand =
    elim operand as (λ o. case_count (args_in bytes o) ≡ 0) [
      | operands.Bare ↦ refl
      | operands.Byte ↦ refl
      | operands.Short ↦ refl
      | operands.Kind ↦ refl
      | operands.Local ↦ refl
      | operands.Increment ↦ refl
      | operands.WideLocal ↦ refl
      | operands.WideIncrement ↦ refl
      | operands.ByteIndex ↦ refl
      | operands.Index ↦ refl
      | operands.IndexAndByte ↦ refl
      | operands.IndexAndShort ↦ refl
      | operands.Jump ↦ refl
      | operands.FarJump ↦ refl
    ]

pub plain-none : (pc op : ℕ) (wide : Bool) (before : ℕ) (bytes : List ℕ) (operand : Operand) → cases_of (plain pc op wide before bytes operand) ≡ 0
plain-none pc op wide before bytes operand =
    elim (nat_lt (length bytes) (size_of operand))
    as (λ short. cases_of (if short then Err (faults.Short pc) else Ok (record { op = op; wide = wide; len = before + size_of operand; args = args_in bytes operand })) ≡ 0)
    [ true ↦ refl | false ↦ no-cases bytes operand ]

plain_if-none : (pc op : ℕ) (bytes : List ℕ) (o : Option Operand) → cases_of (plain_if pc op bytes o) ≡ 0
plain_if-none pc op bytes None = refl
plain_if-none pc op bytes (Some operand) = plain-none pc op true 2 bytes operand

pub widened-none : (pc : ℕ) (bytes : List ℕ) → cases_of (widened pc bytes) ≡ 0
widened-none pc [] = refl
widened-none pc (op ∷ bytes) = plain_if-none pc op bytes (option_and_then wide_form (layout_of op))

-- ---- a switch that is there has room for its cases

pub record Fits (cases : List ℕ) (each count i : ℕ) : Type 0 where
  pub below : i < count
  pub room : each * count ≤ length cases

pub switch-fits : (pc op before : ℕ) (cases : List ℕ) (each : ℕ) (default low : ℤ) (count : ℕ) (pairs : Bool) (i : ℕ)
    → i < cases_of (switch pc op before cases each default low count pairs) → Fits cases each count i
switch-fits pc op before cases each default low count pairs i =
    let P : Bool → Type 0 = λ short. (short ≡ nat_lt (length cases) (each * count))
    → i < cases_of (if short then Err (faults.Short pc) else Ok (record { op = op; wide = false; len = before + each * count; args = args.Switch default low count pairs }))
    → Fits cases each count i in
    elim (nat_lt (length cases) (each * count)) as P [
      | true ↦ λ test inside. absurd (omega (arith, inside))
      | false ↦ λ test inside. record { below = inside; room = grind (arith, nat_tests) }
    ] refl

-- ---- `tableswitch`

whole-is : (z : ℤ) (n : ℕ) → whole z ≡ Some n → z ≡ pos n
whole-is (pos m) n h = ap pos (cc)
whole-is (negsuc m) n h = absurd (cc)

pub record TableCase (bytes : List ℕ) (i : ℕ) (found : ℤ × ℤ) : Type 0 where
  pub value : found.0 ≡ int_at 4 bytes +ℤ pos i
  pub jump : found.1 ≡ int_at (12 + 4 * i) bytes
  pub room : 12 + 4 * (i + 1) ≤ length bytes
  pub below : (int_at 4 bytes +ℤ pos i) ≤ℤ int_at 8 bytes

there : (pc op before : ℕ) (cases operands : List ℕ) (each : ℕ) (default low : ℤ) (count : ℕ) (pairs : Bool) (i : ℕ)
    → each * count ≤ length cases
    → case_in operands i (switch pc op before cases each default low count pairs) ≡ case_of operands i (args.Switch default low count pairs)
there pc op before cases operands each default low count pairs i room =
    let enough : nat_lt (length cases) (each * count) ≡ false = grind (arith, nat_tests) in
    rw enough refl

span-case : (pc op : ℕ) (bytes : List ℕ) (i : ℕ) (span : Option ℕ) → 12 ≤ length bytes → whole (int_at 8 bytes -ℤ int_at 4 bytes) ≡ span
    → i < cases_of (table_of pc op bytes span) → TableCase bytes i (case_in bytes i (table_of pc op bytes span))
span-case pc op bytes i None head spans inside = absurd (omega (arith, inside))
span-case pc op bytes i (Some span) head spans inside =
    let fits : Fits (drop 12 bytes) 4 (suc span) i =
    switch-fits pc op (13 + padding pc) (drop 12 bytes) 4 (int_at 0 bytes) (int_at 4 bytes) (suc span) false i inside in
    let left : length (drop 12 bytes) ≡ length bytes - 12 = length-drop 12 bytes in
    let apart : (int_at 8 bytes -ℤ int_at 4 bytes) ≡ pos span = whole-is _ span spans in
    record {
      value = ap (λ (p : ℤ × ℤ). p.0) (there pc op (13 + padding pc) (drop 12 bytes) bytes 4 (int_at 0 bytes) (int_at 4 bytes) (suc span) false i fits.room);
      jump = ap (λ (p : ℤ × ℤ). p.1) (there pc op (13 + padding pc) (drop 12 bytes) bytes 4 (int_at 0 bytes) (int_at 4 bytes) (suc span) false i fits.room);
      room = omega (arith, fits.room, fits.below, left);
      below = omega (arith, ints, apart, fits.below);
    }

pub table-case : (pc op : ℕ) (bytes : List ℕ) (i : ℕ) → i < cases_of (table_switch pc op bytes)
    → TableCase bytes i (case_in bytes i (table_switch pc op bytes))
table-case pc op bytes i =
    let inner : Result Instr OpFault = table_of pc op bytes (whole (int_at 8 bytes -ℤ int_at 4 bytes)) in
    let P : Bool → Type 0 = λ short. (short ≡ nat_lt (length bytes) 12)
    → i < cases_of (if short then Err (faults.Short pc) else inner) → TableCase bytes i (case_in bytes i (if short then Err (faults.Short pc) else inner)) in
    elim (nat_lt (length bytes) 12) as P [
      | true ↦ λ test inside. absurd (omega (arith, inside))
      | false ↦ λ test inside. span-case pc op bytes i (whole (int_at 8 bytes -ℤ int_at 4 bytes)) (grind (arith, nat_tests)) refl inside
    ] refl

-- ---- `lookupswitch`

pub record PairCase (bytes : List ℕ) (i : ℕ) (found : ℤ × ℤ) : Type 0 where
  pub value : found.0 ≡ value_of i (drop 8 bytes)
  pub jump : found.1 ≡ int_at (4 + 8 * i) (drop 8 bytes)
  pub room : 8 * (i + 1) ≤ length (drop 8 bytes)

pub unsorted : (pc : ℕ) (read : Result Instr OpFault) → cases_of (rising pc false read) ≡ 0
unsorted pc (Ok i) = refl
unsorted pc (Err fault) = refl

pairs-case : (pc op : ℕ) (bytes : List ℕ) (i count : ℕ) (risen : Bool) → 8 ≤ length bytes
    → i < cases_of (rising pc risen (switch pc op (9 + padding pc) (drop 8 bytes) 8 (int_at 0 bytes) (pos 0) count true))
    → PairCase bytes i (case_in bytes i (rising pc risen (switch pc op (9 + padding pc) (drop 8 bytes) 8 (int_at 0 bytes) (pos 0) count true)))
pairs-case pc op bytes i count true head inside =
    let fits : Fits (drop 8 bytes) 8 count i = switch-fits pc op (9 + padding pc) (drop 8 bytes) 8 (int_at 0 bytes) (pos 0) count true i inside in
    record {
      value = ap (λ (p : ℤ × ℤ). p.0) (there pc op (9 + padding pc) (drop 8 bytes) bytes 8 (int_at 0 bytes) (pos 0) count true i fits.room);
      jump = ap (λ (p : ℤ × ℤ). p.1) (there pc op (9 + padding pc) (drop 8 bytes) bytes 8 (int_at 0 bytes) (pos 0) count true i fits.room);
      room = omega (arith, fits.room, fits.below);
    }
pairs-case pc op bytes i count false head inside = absurd (omega (arith, unsorted pc (switch pc op (9 + padding pc) (drop 8 bytes) 8 (int_at 0 bytes) (pos 0) count true), inside))

count-case : (pc op : ℕ) (bytes : List ℕ) (i : ℕ) (count : Option ℕ) → 8 ≤ length bytes
    → i < cases_of (pairs_of pc op bytes count) → PairCase bytes i (case_in bytes i (pairs_of pc op bytes count))
count-case pc op bytes i None head inside = absurd (omega (arith, inside))
count-case pc op bytes i (Some count) head inside = pairs-case pc op bytes i count (are_rising count (drop 8 bytes)) head inside

pub pair-case : (pc op : ℕ) (bytes : List ℕ) (i : ℕ) → i < cases_of (lookup_switch pc op bytes)
    → PairCase bytes i (case_in bytes i (lookup_switch pc op bytes))
pair-case pc op bytes i =
    let inner : Result Instr OpFault = pairs_of pc op bytes (whole (int_at 4 bytes)) in
    let P : Bool → Type 0 = λ short. (short ≡ nat_lt (length bytes) 8)
    → i < cases_of (if short then Err (faults.Short pc) else inner) → PairCase bytes i (case_in bytes i (if short then Err (faults.Short pc) else inner)) in
    elim (nat_lt (length bytes) 8) as P [
      | true ↦ λ test inside. absurd (omega (arith, inside))
      | false ↦ λ test inside. count-case pc op bytes i (whole (int_at 4 bytes)) (grind (arith, nat_tests)) inside
    ] refl
