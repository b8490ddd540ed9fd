-- An instruction is given by its place and its own bytes.
use Rattle.std.proofs.Common.{◌≡◌, ℕ, zero, suc, ◌+◌, ◌-◌, ◌*◌, ◌^◌, ◌<◌, ◌≤◌, Bool, true, false, ◌&&◌, List, [], ◌∷◌, length, drop, slice_index, Option, Some, None, refl, ap, sym, ◌∙◌, subst, arith, length-drop, ℤ, pos, ◌-ℤ◌}
use Rattle.std.specs.Prelude.{nat_lt, if◌then◌else◌, Result, Ok, Err, int_lt}
use Rattle.std.specs.Option.{option_and_then}
use Rattle.std.proofs.lemmas.Bool.Decides.{nat_tests}
use Rattle.std.proofs.lemmas.List.{get_or-drop}
use Rattle.byteorder.specs.Endian.{big_from, big_number, twos_complement}
use Rattle.op_table.specs.declared.instr.Instr.{Instr}
use Rattle.op_table.specs.declared.instr.OpFault.{OpFault}
use Rattle.op_table.specs.declared.instr.OpFault.TheVariants as faults
use Rattle.op_table.specs.declared.instr.Args.{Args}
use Rattle.op_table.specs.declared.instr.Args.TheVariants as args
use Rattle.op_table.specs.declared.layout.Layout.{Layout}
use Rattle.op_table.specs.declared.layout.Layout.TheVariants.{Plain, TableSwitch, LookupSwitch, Wide}
use Rattle.op_table.specs.declared.layout.Operand.{Operand}
use Rattle.op_table.specs.declared.layout.Operand.TheVariants as operands
use Rattle.op_table.specs.Layouts.{layout_of, wide_form}
use Rattle.op_table.specs.Grammar.{int_at, value_of, padding, whole, size_of, args_in, plain, plain_if, widened, switch, are_rising, rising, table_of, table_switch, pairs_of, lookup_switch, laid_out, first_instr, instr_at}

-- ---- numbers in the same bytes

-- the same bytes at the first n places, which are all there
pub record Agree (n : ℕ) (xs ys : List ℕ) : Type 0 where
  pub at : (k : ℕ) → k < n → slice_index ys k ≡ slice_index xs k
  pub long : n ≤ length xs
  pub also : n ≤ length ys

number-from : (i n : ℕ) (xs ys : List ℕ) (all : ℕ) → i + n ≤ all → Agree all xs ys → big_from i n ys ≡ big_from i n xs
number-from i zero xs ys all inside same = refl
number-from i (suc n) xs ys all inside same =
    let here : slice_index ys i ≡ slice_index xs i = same.at i (omega arith) in
    let later : big_from (suc i) n ys ≡ big_from (suc i) n xs = number-from (suc i) n xs ys all (omega arith) same in
    let P : ℕ → ℕ → ℕ = λ a b. a * 256 ^ n + b in
    ap (λ a. P a (big_from (suc i) n ys)) here ∙ ap (P (slice_index xs i)) later

number-agrees : (n all : ℕ) (xs ys : List ℕ) → n ≤ all → Agree all xs ys → big_number n ys ≡ big_number n xs
number-agrees n all xs ys inside same = number-from 0 n xs ys all (omega arith) same

drop-agrees : (j n all : ℕ) (xs ys : List ℕ) → j + n ≤ all → Agree all xs ys → Agree n (drop j xs) (drop j ys)
drop-agrees j n all xs ys inside same = record {
  at = λ k below.
      let e : slice_index ys (j + k) ≡ slice_index xs (j + k) = same.at (j + k) (omega arith) in
      let left : slice_index (drop j xs) k ≡ slice_index xs (j + k) = get_or-drop j xs k 0 in
      let right : slice_index (drop j ys) k ≡ slice_index ys (j + k) = get_or-drop j ys k 0 in
      right ∙ e ∙ sym left;
  long = omega (arith, length-drop j xs, same.long);
  also = omega (arith, length-drop j ys, same.also);
}

int-agrees : (place all : ℕ) (xs ys : List ℕ) → place + 4 ≤ all → Agree all xs ys → int_at place ys ≡ int_at place xs
int-agrees place all xs ys inside same =
    ap (twos_complement 4) (number-agrees 4 4 (drop place xs) (drop place ys) (omega arith) (drop-agrees place 4 all xs ys inside same))

args-agree : (operand : Operand) (xs ys : List ℕ) → Agree (size_of operand) xs ys → args_in ys operand ≡ args_in xs operand
args-agree operands.Bare xs ys same = refl
args-agree operands.Byte xs ys same = ap (λ n. args.Num (twos_complement 1 n)) (number-agrees 1 1 xs ys (omega arith) same)
args-agree operands.Short xs ys same = ap (λ n. args.Num (twos_complement 2 n)) (number-agrees 2 2 xs ys (omega arith) same)
args-agree operands.Kind xs ys same = ap (λ n. args.Num (pos n)) (number-agrees 1 1 xs ys (omega arith) same)
args-agree operands.Local xs ys same = ap args.Local (number-agrees 1 1 xs ys (omega arith) same)
args-agree operands.Increment xs ys same =
    let P : ℕ → ℕ → Args = λ a b. args.Inc a (twos_complement 1 b) in
    ap (λ a. P a (big_number 1 (drop 1 ys))) (number-agrees 1 2 xs ys (omega arith) same)
    ∙ ap (P (big_number 1 xs)) (number-agrees 1 1 (drop 1 xs) (drop 1 ys) (omega arith) (drop-agrees 1 1 2 xs ys (omega arith) same))
args-agree operands.WideLocal xs ys same = ap args.Local (number-agrees 2 2 xs ys (omega arith) same)
args-agree operands.WideIncrement xs ys same =
    let P : ℕ → ℕ → Args = λ a b. args.Inc a (twos_complement 2 b) in
    ap (λ a. P a (big_number 2 (drop 2 ys))) (number-agrees 2 4 xs ys (omega arith) same)
    ∙ ap (P (big_number 2 xs)) (number-agrees 2 2 (drop 2 xs) (drop 2 ys) (omega arith) (drop-agrees 2 2 4 xs ys (omega arith) same))
args-agree operands.ByteIndex xs ys same = ap args.Index (number-agrees 1 1 xs ys (omega arith) same)
args-agree operands.Index xs ys same = ap args.Index (number-agrees 2 2 xs ys (omega arith) same)
args-agree operands.IndexAndByte xs ys same = ap args.Index (number-agrees 2 3 xs ys (omega arith) same)
args-agree operands.IndexAndShort xs ys same = ap args.Index (number-agrees 2 4 xs ys (omega arith) same)
args-agree operands.Jump xs ys same = ap (λ n. args.Jump (twos_complement 2 n)) (number-agrees 2 2 xs ys (omega arith) same)
args-agree operands.FarJump xs ys same = ap (λ n. args.Jump (twos_complement 4 n)) (number-agrees 4 4 xs ys (omega arith) same)

rising-agrees : (n : ℕ) (xs ys : List ℕ) (all : ℕ) → 8 * n ≤ all → Agree all xs ys → are_rising n ys ≡ are_rising n xs
rising-agrees zero xs ys all inside same = refl
rising-agrees (suc zero) xs ys all inside same = refl
rising-agrees (suc (suc n)) xs ys all inside same =
    let before : are_rising (suc n) ys ≡ are_rising (suc n) xs = rising-agrees (suc n) xs ys all (omega arith) same in
    let low : value_of n ys ≡ value_of n xs = int-agrees (8 * n) all xs ys (omega arith) same in
    let high : value_of (suc n) ys ≡ value_of (suc n) xs = int-agrees (8 * suc n) all xs ys (omega arith) same in
    let P : Bool → ℤ → ℤ → Bool = λ b x y. b && int_lt x y in
    ap (λ b. P b (value_of n ys) (value_of (suc n) ys)) before
    ∙ ap (λ x. P (are_rising (suc n) xs) x (value_of (suc n) ys)) low
    ∙ ap (P (are_rising (suc n) xs) (value_of n xs)) high

-- ---- what was read takes some of the bytes, and is read again where they are

pub record Given (before : ℕ) (read : List ℕ → Result Instr OpFault) (xs : List ℕ) (i : Instr) : Type 0 where
  pub took : ℕ
  pub is : i.len ≡ before + took
  pub inside : took ≤ length xs
  pub again : (ys : List ℕ) → Agree took xs ys → read ys ≡ Ok i

plain-there : (pc op : ℕ) (wide : Bool) (before : ℕ) (ys : List ℕ) (operand : Operand) → size_of operand ≤ length ys
    → plain pc op wide before ys operand ≡ Ok (record { op = op; wide = wide; len = before + size_of operand; args = args_in ys operand })
plain-there pc op wide before ys operand room =
    let enough : nat_lt (length ys) (size_of operand) ≡ false = grind (arith, nat_tests) in
    rw enough refl

plain-given : (pc op : ℕ) (wide : Bool) (before : ℕ) (xs : List ℕ) (operand : Operand) (i : Instr) → plain pc op wide before xs operand ≡ Ok i
    → Given before (λ bytes. plain pc op wide before bytes operand) xs i
plain-given pc op wide before xs operand i =
    let made : Args → Instr = λ a. record { op = op; wide = wide; len = before + size_of operand; args = a } in
    let P : Bool → Type 0 = λ short. (short ≡ nat_lt (length xs) (size_of operand))
    → (if short then Err (faults.Short pc) else Ok (made (args_in xs operand))) ≡ Ok i
    → Given before (λ bytes. plain pc op wide before bytes operand) xs i in
    elim (nat_lt (length xs) (size_of operand)) as P [
      | true ↦ λ test read. absurd (cc)
      | false ↦ λ test read. record {
        took = size_of operand;
        is = let same : made (args_in xs operand) ≡ i = cc in ap (λ (j : Instr). j.len) (sym same);
        inside = grind (arith, nat_tests);
        again = λ ys same.
            plain-there pc op wide before ys operand same.also
            ∙ (let found : Args → Result Instr OpFault = λ a. Ok (made a) in ap found (args-agree operand xs ys same))
            ∙ read;
      }
    ] refl

-- ---- `wide`

-- what stands behind the first of the same bytes
tail-agrees : (n x y : ℕ) (xs ys : List ℕ) → Agree (suc n) (x ∷ xs) (y ∷ ys) → Agree n xs ys
tail-agrees n x y xs ys same = record {
  at = λ k below. same.at (suc k) (omega arith);
  long = omega (arith, same.long);
  also = omega (arith, same.also);
}

wide-again : (pc x took : ℕ) (xs : List ℕ) (i : Instr)
    → ((ys : List ℕ) → Agree took xs ys → plain_if pc x ys (option_and_then wide_form (layout_of x)) ≡ Ok i)
    → (ys : List ℕ) → Agree (suc took) (x ∷ xs) ys → widened pc ys ≡ Ok i
wide-again pc x took xs i kept [] same = absurd (omega (arith, same.also))
wide-again pc x took xs i kept (y ∷ ys) same =
    let first : y ≡ x = same.at 0 (omega arith) in
    let P : ℕ → Type 0 = λ z. plain_if pc z ys (option_and_then wide_form (layout_of z)) ≡ Ok i in
    subst P (sym first) (kept ys (tail-agrees took x y xs ys same))

plain_if-given : (pc op : ℕ) (xs : List ℕ) (o : Option Operand) (i : Instr) → plain_if pc op xs o ≡ Ok i
    → Given 2 (λ bytes. plain_if pc op bytes o) xs i
plain_if-given pc op xs None i read = absurd (cc)
plain_if-given pc op xs (Some operand) i read = plain-given pc op true 2 xs operand i read

widened-given : (pc : ℕ) (xs : List ℕ) (i : Instr) → widened pc xs ≡ Ok i → Given 1 (widened pc) xs i
widened-given pc [] i read = absurd (cc)
widened-given pc (x ∷ xs) i read =
    let rest : Given 2 (λ bytes. plain_if pc x bytes (option_and_then wide_form (layout_of x))) xs i =
    plain_if-given pc x xs (option_and_then wide_form (layout_of x)) i read in
    record {
      took = suc rest.took;
      is = omega (arith, rest.is);
      inside = omega (arith, rest.inside);
      again = wide-again pc x rest.took xs i rest.again;
    }

-- ---- switches

switch-there : (pc op before : ℕ) (cases : List ℕ) (each : ℕ) (default low : ℤ) (count : ℕ) (pairs : Bool) → each * count ≤ length cases
    → switch pc op before cases each default low count pairs
    ≡ Ok (record { op = op; wide = false; len = before + each * count; args = args.Switch default low count pairs })
switch-there pc op before cases each default low count pairs room =
    let enough : nat_lt (length cases) (each * count) ≡ false = grind (arith, nat_tests) in
    rw enough refl

record Made (cases : List ℕ) (each count : ℕ) (made i : Instr) : Type 0 where
  room : each * count ≤ length cases
  same : made ≡ i

switch-made : (pc op before : ℕ) (cases : List ℕ) (each : ℕ) (default low : ℤ) (count : ℕ) (pairs : Bool) (i : Instr)
    → switch pc op before cases each default low count pairs ≡ Ok i
    → Made cases each count (record { op = op; wide = false; len = before + each * count; args = args.Switch default low count pairs }) i
switch-made pc op before cases each default low count pairs i =
    let made : Instr = record { op = op; wide = false; len = before + each * count; args = args.Switch default low count pairs } in
    let P : Bool → Type 0 = λ short. (short ≡ nat_lt (length cases) (each * count))
    → (if short then Err (faults.Short pc) else Ok made) ≡ Ok i → Made cases each count made i in
    elim (nat_lt (length cases) (each * count)) as P [
      | true ↦ λ test read. absurd (cc)
      | false ↦ λ test read. record { room = grind (arith, nat_tests); same = cc }
    ] refl

-- the operands of a switch, which take one byte at least
record Operands (before : ℕ) (read : List ℕ → Result Instr OpFault) (xs : List ℕ) (i : Instr) : Type 0 where
  given : Given before read xs i
  some : 1 ≤ given.took

table-again : (pc op : ℕ) (xs ys : List ℕ) (span : ℕ) (i : Instr) → 12 + 4 * suc span ≤ length xs → Agree (12 + 4 * suc span) xs ys
    → whole (int_at 8 xs -ℤ int_at 4 xs) ≡ Some span → table_of pc op xs (Some span) ≡ Ok i → table_switch pc op ys ≡ Ok i
table-again pc op xs ys span i room same spans read =
    let head : nat_lt (length ys) 12 ≡ false = grind (arith, nat_tests, same.also) in
    let default : int_at 0 ys ≡ int_at 0 xs = int-agrees 0 _ xs ys (omega arith) same in
    let low : int_at 4 ys ≡ int_at 4 xs = int-agrees 4 _ xs ys (omega arith) same in
    let high : int_at 8 ys ≡ int_at 8 xs = int-agrees 8 _ xs ys (omega arith) same in
    let P : ℤ → ℤ → ℤ = λ a b. a -ℤ b in
    let apart : (int_at 8 ys -ℤ int_at 4 ys) ≡ (int_at 8 xs -ℤ int_at 4 xs) = ap (λ a. P a (int_at 4 ys)) high ∙ ap (P (int_at 8 xs)) low in
    let spanned : whole (int_at 8 ys -ℤ int_at 4 ys) ≡ Some span = ap whole apart ∙ spans in
    let mine : table_switch pc op ys ≡ table_of pc op ys (whole (int_at 8 ys -ℤ int_at 4 ys)) = rw head refl in
    let made : ℤ → ℤ → Result Instr OpFault = λ d l. Ok (record { op = op; wide = false; len = (13 + padding pc) + 4 * suc span; args = args.Switch d l (suc span) false }) in
    let ours : table_of pc op ys (Some span) ≡ made (int_at 0 ys) (int_at 4 ys) =
    switch-there pc op (13 + padding pc) (drop 12 ys) 4 (int_at 0 ys) (int_at 4 ys) (suc span) false (omega (arith, same.also, length-drop 12 ys)) in
    let theirs : table_of pc op xs (Some span) ≡ made (int_at 0 xs) (int_at 4 xs) =
    switch-there pc op (13 + padding pc) (drop 12 xs) 4 (int_at 0 xs) (int_at 4 xs) (suc span) false (omega (arith, room, length-drop 12 xs)) in
    mine ∙ ap (table_of pc op ys) spanned ∙ ours ∙ ap (λ d. made d (int_at 4 ys)) default ∙ ap (made (int_at 0 xs)) low ∙ sym theirs ∙ read

span-given : (pc op : ℕ) (xs : List ℕ) (i : Instr) (span : Option ℕ) → 12 ≤ length xs → whole (int_at 8 xs -ℤ int_at 4 xs) ≡ span
    → table_of pc op xs span ≡ Ok i → Operands (1 + padding pc) (table_switch pc op) xs i
span-given pc op xs i None head spans read = absurd (cc)
span-given pc op xs i (Some span) head spans read =
    let made : Made (drop 12 xs) 4 (suc span) _ i = switch-made pc op (13 + padding pc) (drop 12 xs) 4 (int_at 0 xs) (int_at 4 xs) (suc span) false i read in
    let left : length (drop 12 xs) ≡ length xs - 12 = length-drop 12 xs in
    let room : 12 + 4 * suc span ≤ length xs = omega (arith, made.room) in
    record {
      given = record {
        took = 12 + 4 * suc span;
        is = omega (arith, ap (λ (j : Instr). j.len) made.same);
        inside = room;
        again = λ ys same. table-again pc op xs ys span i room same spans read;
      };
      some = omega arith;
    }

table-given : (pc op : ℕ) (xs : List ℕ) (i : Instr) → table_switch pc op xs ≡ Ok i → Operands (1 + padding pc) (table_switch pc op) xs i
table-given pc op xs i =
    let inner : Result Instr OpFault = table_of pc op xs (whole (int_at 8 xs -ℤ int_at 4 xs)) in
    let P : Bool → Type 0 = λ short. (short ≡ nat_lt (length xs) 12)
    → (if short then Err (faults.Short pc) else inner) ≡ Ok i → Operands (1 + padding pc) (table_switch pc op) xs i in
    elim (nat_lt (length xs) 12) as P [
      | true ↦ λ test read. absurd (cc)
      | false ↦ λ test read. span-given pc op xs i (whole (int_at 8 xs -ℤ int_at 4 xs)) (grind (arith, nat_tests)) refl read
    ] refl

-- pairs of values that rise
rising-ok : (pc : ℕ) (risen : Bool) (read : Result Instr OpFault) (i : Instr) → rising pc risen read ≡ Ok i → (risen ≡ true) × (read ≡ Ok i)
rising-ok pc true read i found = (refl, found)
rising-ok pc false (Ok j) i found = absurd (cc)
rising-ok pc false (Err fault) i found = absurd (cc)

pairs-again : (pc op : ℕ) (xs ys : List ℕ) (count : ℕ) (i : Instr) → 8 + 8 * count ≤ length xs → Agree (8 + 8 * count) xs ys
    → whole (int_at 4 xs) ≡ Some count → are_rising count (drop 8 xs) ≡ true
    → switch pc op (9 + padding pc) (drop 8 xs) 8 (int_at 0 xs) (pos 0) count true ≡ Ok i → lookup_switch pc op ys ≡ Ok i
pairs-again pc op xs ys count i room same counts risen read =
    let head : nat_lt (length ys) 8 ≡ false = grind (arith, nat_tests, same.also) in
    let default : int_at 0 ys ≡ int_at 0 xs = int-agrees 0 _ xs ys (omega arith) same in
    let many : whole (int_at 4 ys) ≡ Some count = ap whole (int-agrees 4 _ xs ys (omega arith) same) ∙ counts in
    let rise : are_rising count (drop 8 ys) ≡ true =
    rising-agrees count (drop 8 xs) (drop 8 ys) (8 * count) (omega arith) (drop-agrees 8 (8 * count) _ xs ys (omega arith) same) ∙ risen in
    let mine : lookup_switch pc op ys ≡ pairs_of pc op ys (whole (int_at 4 ys)) = rw head refl in
    let made : ℤ → Result Instr OpFault = λ d. Ok (record { op = op; wide = false; len = (9 + padding pc) + 8 * count; args = args.Switch d (pos 0) count true }) in
    let there : switch pc op (9 + padding pc) (drop 8 ys) 8 (int_at 0 ys) (pos 0) count true ≡ made (int_at 0 ys) =
    switch-there pc op (9 + padding pc) (drop 8 ys) 8 (int_at 0 ys) (pos 0) count true (omega (arith, same.also, length-drop 8 ys)) in
    let theirs : switch pc op (9 + padding pc) (drop 8 xs) 8 (int_at 0 xs) (pos 0) count true ≡ made (int_at 0 xs) =
    switch-there pc op (9 + padding pc) (drop 8 xs) 8 (int_at 0 xs) (pos 0) count true (omega (arith, room, length-drop 8 xs)) in
    let ours : pairs_of pc op ys (Some count) ≡ made (int_at 0 ys) =
    ap (λ b. rising pc b (switch pc op (9 + padding pc) (drop 8 ys) 8 (int_at 0 ys) (pos 0) count true)) rise ∙ there in
    mine ∙ ap (pairs_of pc op ys) many ∙ ours ∙ ap made default ∙ sym theirs ∙ read

count-given : (pc op : ℕ) (xs : List ℕ) (i : Instr) (count : Option ℕ) → 8 ≤ length xs → whole (int_at 4 xs) ≡ count
    → pairs_of pc op xs count ≡ Ok i → Operands (1 + padding pc) (lookup_switch pc op) xs i
count-given pc op xs i None head counts read = absurd (cc)
count-given pc op xs i (Some count) head counts read =
    let parts = rising-ok pc (are_rising count (drop 8 xs)) (switch pc op (9 + padding pc) (drop 8 xs) 8 (int_at 0 xs) (pos 0) count true) i read in
    let made : Made (drop 8 xs) 8 count _ i = switch-made pc op (9 + padding pc) (drop 8 xs) 8 (int_at 0 xs) (pos 0) count true i parts.1 in
    let left : length (drop 8 xs) ≡ length xs - 8 = length-drop 8 xs in
    let room : 8 + 8 * count ≤ length xs = omega (arith, made.room) in
    record {
      given = record {
        took = 8 + 8 * count;
        is = omega (arith, ap (λ (j : Instr). j.len) made.same);
        inside = room;
        again = λ ys same. pairs-again pc op xs ys count i room same counts parts.0 parts.1;
      };
      some = omega arith;
    }

lookup-given : (pc op : ℕ) (xs : List ℕ) (i : Instr) → lookup_switch pc op xs ≡ Ok i → Operands (1 + padding pc) (lookup_switch pc op) xs i
lookup-given pc op xs i =
    let inner : Result Instr OpFault = pairs_of pc op xs (whole (int_at 4 xs)) in
    let P : Bool → Type 0 = λ short. (short ≡ nat_lt (length xs) 8)
    → (if short then Err (faults.Short pc) else inner) ≡ Ok i → Operands (1 + padding pc) (lookup_switch pc op) xs i in
    elim (nat_lt (length xs) 8) as P [
      | true ↦ λ test read. absurd (cc)
      | false ↦ λ test read. count-given pc op xs i (whole (int_at 4 xs)) (grind (arith, nat_tests)) refl read
    ] refl

-- ---- an instruction

-- the padding is taken too, whatever it holds
padded : (n : ℕ) (read : List ℕ → Result Instr OpFault) (xs : List ℕ) (i : Instr) → Operands (1 + n) read (drop n xs) i
    → Given 1 (λ bytes. read (drop n bytes)) xs i
padded n read xs i found =
    let left : length (drop n xs) ≡ length xs - n = length-drop n xs in
    record {
      took = n + found.given.took;
      is = omega (arith, found.given.is);
      inside = omega (arith, found.given.inside, found.some);
      again = λ ys same. found.given.again (drop n ys) (drop-agrees n found.given.took _ xs ys (omega arith) same);
    }

laid_out-given : (pc op : ℕ) (xs : List ℕ) (l : Option Layout) (i : Instr) → laid_out pc op xs l ≡ Ok i → Given 1 (λ bytes. laid_out pc op bytes l) xs i
laid_out-given pc op xs None i read = absurd (cc)
laid_out-given pc op xs (Some (Plain operand)) i read = plain-given pc op false 1 xs operand i read
laid_out-given pc op xs (Some TableSwitch) i read = padded (padding pc) (table_switch pc op) xs i (table-given pc op (drop (padding pc) xs) i read)
laid_out-given pc op xs (Some LookupSwitch) i read = padded (padding pc) (lookup_switch pc op) xs i (lookup-given pc op (drop (padding pc) xs) i read)
laid_out-given pc op xs (Some Wide) i read = widened-given pc xs i read

first-again : (pc x took : ℕ) (xs : List ℕ) (i : Instr)
    → ((ys : List ℕ) → Agree took xs ys → laid_out pc x ys (layout_of x) ≡ Ok i)
    → (ys : List ℕ) → Agree (suc took) (x ∷ xs) ys → first_instr pc ys ≡ Ok i
first-again pc x took xs i kept [] same = absurd (omega (arith, same.also))
first-again pc x took xs i kept (y ∷ ys) same =
    let first : y ≡ x = same.at 0 (omega arith) in
    let P : ℕ → Type 0 = λ z. laid_out pc z ys (layout_of z) ≡ Ok i in
    subst P (sym first) (kept ys (tail-agrees took x y xs ys same))

record First (pc : ℕ) (xs : List ℕ) (i : Instr) : Type 0 where
  some : 1 ≤ i.len
  inside : i.len ≤ length xs
  again : (ys : List ℕ) → Agree i.len xs ys → first_instr pc ys ≡ Ok i

first-given : (pc : ℕ) (xs : List ℕ) (i : Instr) → first_instr pc xs ≡ Ok i → First pc xs i
first-given pc [] i read = absurd (cc)
first-given pc (x ∷ xs) i read =
    let rest : Given 1 (λ bytes. laid_out pc x bytes (layout_of x)) xs i = laid_out-given pc x xs (layout_of x) i read in
    let long : suc rest.took ≡ i.len = omega (arith, rest.is) in
    record {
      some = omega (arith, rest.is);
      inside = omega (arith, rest.is, rest.inside);
      again = λ ys same. first-again pc x rest.took xs i rest.again ys (subst (λ (n : ℕ). Agree n (x ∷ xs) ys) (sym long) same);
    }

-- an instruction takes a byte at least, and stands within the code
pub instr-fits : (code : List ℕ) (pc : ℕ) (i : Instr) → instr_at code pc ≡ Ok i → (1 ≤ i.len) × (pc + i.len ≤ length code)
unfolding instr_at
instr-fits code pc i read =
    let found : First pc (drop pc code) i = first-given pc (drop pc code) i read in
    let left : length (drop pc code) ≡ length code - pc = length-drop pc code in
    (found.some, omega (arith, found.some, found.inside))

-- it stands in other code too that has its bytes at its place
pub instr-again : (code other : List ℕ) (pc : ℕ) (i : Instr) → instr_at code pc ≡ Ok i → pc + i.len ≤ length other
    → ((k : ℕ) → k < i.len → slice_index other (pc + k) ≡ slice_index code (pc + k)) → instr_at other pc ≡ Ok i
unfolding instr_at
instr-again code other pc i read room same =
    let found : First pc (drop pc code) i = first-given pc (drop pc code) i read in
    let there : Agree i.len (drop pc code) (drop pc other) = record {
      at = λ k below.
          let left : slice_index (drop pc code) k ≡ slice_index code (pc + k) = get_or-drop pc code k 0 in
          let right : slice_index (drop pc other) k ≡ slice_index other (pc + k) = get_or-drop pc other k 0 in
          right ∙ same k below ∙ sym left;
      long = found.inside;
      also = omega (arith, length-drop pc other);
    } in
    found.again (drop pc other) there
