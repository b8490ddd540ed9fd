-- The numbers that instructions push lie in the range of their kind, where the code is of bytes.
use Rattle.std.proofs.Common.{◌≡◌, ℕ, zero, suc, ◌+◌, ◌-◌, ◌*◌, ◌^◌, ◌<◌, ◌≤◌, Bool, true, false, ◌&&◌, List, [], ◌∷◌, length, drop, Option, Some, None, refl, sym, ap, subst, arith, ℤ, pos, negsuc, ◌-ℤ◌, IsTrue, inl, inr, ◌∙◌}
use Rattle.std.specs.Prelude.{nat_le, nat_lt, if◌then◌else◌, find, cond, Result, Ok, Err, slice_index}
use Rattle.std.specs.Option.{option_and_then, option_map}
use Rattle.std.specs.Result.{result_ok}
use Rattle.std.proofs.lemmas.Bool.{cases_lt, lt-ltb, ltb-true, leb-true, and_parts}
use Rattle.std.proofs.lemmas.Int.{ints}
use Rattle.std.proofs.lemmas.List.{get_or_past}
use Rattle.std.proofs.lemmas.List.Elements.{Contains-get_or}
use Rattle.common_laws.proofs.Members.{contains_tail}
use Rattle.byteorder.specs.Endian.{big_number}
use Rattle.class_reader.specs.declared.class.Method.{Method}
use Rattle.class_reader.specs.declared.class.Code.{Code}
use Rattle.op_table.specs.declared.acts.Action.{Action}
use Rattle.op_table.specs.declared.acts.Action.TheVariants as acts
use Rattle.op_table.specs.declared.acts.Width.TheVariants as widths
use Rattle.op_table.specs.declared.construct.Support.{Support}
use Rattle.op_table.specs.declared.construct.Support.TheVariants.{Yes, No}
use Rattle.op_table.specs.declared.instr.Instr.{Instr}
use Rattle.op_table.specs.declared.instr.Args.{Args}
use Rattle.op_table.specs.declared.instr.Args.TheVariants as args
use Rattle.op_table.specs.declared.instr.OpFault.{OpFault}
use Rattle.op_table.specs.declared.instr.OpFault.TheVariants as faults
use Rattle.op_table.specs.Layouts.{Range, layouts, wide_form}
use Rattle.op_table.specs.Grammar.{plain_if, widened, switch, whole, int_at, rising, are_rising, padding, table_of, table_switch, pairs_of, lookup_switch, laid_out, first_instr, instr_at, signed_in, unsigned_in}
use Rattle.op_table.specs.Support.{support_of}
use Rattle.op_table.specs.Actions.{Row, number_of, constants, loads, stores, stack, math, conversions, comparisons, control, references, extended, rows_of, done_by, action_in, supported, action_of, increment_of, switch_of}
use Rattle.class_hierarchy.specs.World.{World, class_at}
use Rattle.linking.specs.Methods.{method_at, code_at}
use Rattle.frames.specs.declared.frame.Frame.{Frame}
use Rattle.frames.specs.Standing.{Standing, standing_on, standing_in, standing_of, standing_at}
use Rattle.word_steps.specs.Numbers.{fits, is_within}
use Rattle.well_formed.specs.WellFormed.{AreBytes, IsOfFiles}
use Rattle.well_formed.proofs.Numbers.{twos_within, int_within}

-- the numbers that an instruction pushes lie in range
abbrev pub PushesInRange : Action → Type 0
PushesInRange (acts.PushInt n) = IsTrue (fits widths.Int n)
PushesInRange (acts.PushLong n) = IsTrue (fits widths.Long n)
PushesInRange action = Unit {0}

-- ---- operands

abbrev pub IsSmall : Args → Type 0
IsSmall (args.Num n) = IsTrue (is_within (2 ^ 15) n)
IsSmall a = Unit {0}

byte_small : (bytes : List ℕ) (i : ℕ) → AreBytes bytes → slice_index bytes i < 256
byte_small bytes i all =
    elim (cases_lt i (length bytes)) [
      | inl inside ↦ all (slice_index bytes i) (Contains-get_or bytes i 0 inside)
      | inr past ↦ let none : slice_index bytes i ≡ 0 = get_or_past bytes i 0 past in omega arith
    ]

one_small : (bytes : List ℕ) → AreBytes bytes → big_number 1 bytes < 256
one_small bytes all = let first = byte_small bytes 0 all in omega (arith, first)

two_small : (bytes : List ℕ) → AreBytes bytes → big_number 2 bytes < 65536
two_small bytes all =
    let first = byte_small bytes 0 all in
    let second = byte_small bytes 1 all in
    omega (arith, first, second)

within_larger : (few : ℕ) (z : ℤ) → few ≤ 2 ^ 15 → IsTrue (is_within few z) → IsTrue (is_within (2 ^ 15) z)
within_larger few (pos n) le is = let low : n < few = ltb-true n few is in lt-ltb n (2 ^ 15) (omega arith)
within_larger few (negsuc n) le is = let low : n < few = ltb-true n few is in lt-ltb n (2 ^ 15) (omega arith)

byte_num : (bytes : List ℕ) → AreBytes bytes → IsSmall (args.Num (signed_in 1 bytes))
byte_num bytes all = within_larger (2 ^ 7) (signed_in 1 bytes) (omega arith) (twos_within (2 ^ 7) (2 ^ 8) (big_number 1 bytes) refl (one_small bytes all))

short_num : (bytes : List ℕ) → AreBytes bytes → IsSmall (args.Num (signed_in 2 bytes))
short_num bytes all = twos_within (2 ^ 15) (2 ^ 16) (big_number 2 bytes) refl (two_small bytes all)

kind_num : (bytes : List ℕ) → AreBytes bytes → IsSmall (args.Num (pos (unsigned_in 1 bytes)))
kind_num bytes all = lt-ltb (unsigned_in 1 bytes) (2 ^ 15) (let small = one_small bytes all in omega (arith, small))

-- what was read has small operands
abbrev IsSmallRead : Result Instr OpFault → Type 0
IsSmallRead (Ok i) = IsSmall i.args
IsSmallRead (Err fault) = Unit {0}

plain_small : (short : Bool) (pc op len : ℕ) (wide : Bool) (a : Args) → IsSmall a → IsSmallRead (if short then Err (faults.Short pc) else Ok (record { op = op; wide = wide; len = len; args = a }))
plain_small true pc op len wide a is = tt
plain_small false pc op len wide a is = is

switch_small : (pc op before : ℕ) (cases : List ℕ) (each : ℕ) (default low : ℤ) (count : ℕ) (pairs : Bool) → IsSmallRead (switch pc op before cases each default low count pairs)
switch_small pc op before cases each default low count pairs =
    elim (nat_lt (length cases) (each * count))
    as (λ short. IsSmallRead (if short then Err (faults.Short pc) else Ok (record { op = op; wide = false; len = before + each * count; args = args.Switch default low count pairs })))
    [ true ↦ tt | false ↦ tt ]

span_small : (pc op : ℕ) (bytes : List ℕ) (span : Option ℕ) → IsSmallRead (table_of pc op bytes span)
span_small pc op bytes None = tt
span_small pc op bytes (Some span) = switch_small pc op (13 + padding pc) (drop 12 bytes) 4 (int_at 0 bytes) (int_at 4 bytes) (suc span) false

table_small : (pc op : ℕ) (bytes : List ℕ) → IsSmallRead (table_switch pc op bytes)
table_small pc op bytes =
    let inner : Result Instr OpFault = table_of pc op bytes (whole (int_at 8 bytes -ℤ int_at 4 bytes)) in
    elim (nat_lt (length bytes) 12) as (λ short. IsSmallRead (if short then Err (faults.Short pc) else inner))
    [ true ↦ tt | false ↦ span_small pc op bytes (whole (int_at 8 bytes -ℤ int_at 4 bytes)) ]

rising_small : (pc : ℕ) (risen : Bool) (read : Result Instr OpFault) → IsSmallRead read → IsSmallRead (rising pc risen read)
rising_small pc true read is = is
rising_small pc false (Ok i) is = tt
rising_small pc false (Err fault) is = tt

count_small : (pc op : ℕ) (bytes : List ℕ) (count : Option ℕ) → IsSmallRead (pairs_of pc op bytes count)
count_small pc op bytes None = tt
count_small pc op bytes (Some count) =
    rising_small pc (are_rising count (drop 8 bytes)) (switch pc op (9 + padding pc) (drop 8 bytes) 8 (int_at 0 bytes) (pos 0) count true)
    (switch_small pc op (9 + padding pc) (drop 8 bytes) 8 (int_at 0 bytes) (pos 0) count true)

lookup_small : (pc op : ℕ) (bytes : List ℕ) → IsSmallRead (lookup_switch pc op bytes)
lookup_small pc op bytes =
    let inner : Result Instr OpFault = pairs_of pc op bytes (whole (int_at 4 bytes)) in
    elim (nat_lt (length bytes) 8) as (λ short. IsSmallRead (if short then Err (faults.Short pc) else inner))
    [ true ↦ tt | false ↦ count_small pc op bytes (whole (int_at 4 bytes)) ]

behind_first : (b : ℕ) (bytes : List ℕ) → AreBytes (b ∷ bytes) → AreBytes bytes
behind_first b bytes all = λ x there. all x (contains_tail b bytes x there)

-- each layout gives small operands, also behind `wide`
abbrev AreWide : List Range → Type 0
AreWide [] = Unit {0}
AreWide (r ∷ rows) = ((pc op : ℕ) (bytes : List ℕ) → AreBytes bytes → IsSmallRead (plain_if pc op bytes (wide_form r.layout))) × AreWide rows

abbrev AreLaid : List Range → Type 0
AreLaid [] = Unit {0}
AreLaid (r ∷ rows) = ((pc op : ℕ) (bytes : List ℕ) → AreBytes bytes → IsSmallRead (laid_out pc op bytes (Some r.layout))) × AreLaid rows

wide_rows : AreWide layouts
wide_rows = (λ pc op bytes all. tt, (λ pc op bytes all. tt, (λ pc op bytes all. tt, (λ pc op bytes all. tt, (λ pc op bytes all. tt, (λ pc op bytes all. plain_small (nat_lt (length bytes) 2) pc op 4 true (args.Local (unsigned_in 2 bytes)) tt, (λ pc op bytes all. tt, (λ pc op bytes all. plain_small (nat_lt (length bytes) 2) pc op 4 true (args.Local (unsigned_in 2 bytes)) tt, (λ pc op bytes all. tt, (λ pc op bytes all. plain_small (nat_lt (length bytes) 4) pc op 6 true (args.Inc (unsigned_in 2 bytes) (signed_in 2 (drop 2 bytes))) tt, (λ pc op bytes all. tt, (λ pc op bytes all. tt, (λ pc op bytes all. plain_small (nat_lt (length bytes) 2) pc op 4 true (args.Local (unsigned_in 2 bytes)) tt, (λ pc op bytes all. tt, (λ pc op bytes all. tt, (λ pc op bytes all. tt, (λ pc op bytes all. tt, (λ pc op bytes all. tt, (λ pc op bytes all. tt, (λ pc op bytes all. tt, (λ pc op bytes all. tt, (λ pc op bytes all. tt, (λ pc op bytes all. tt, (λ pc op bytes all. tt, (λ pc op bytes all. tt, (λ pc op bytes all. tt, (λ pc op bytes all. tt, (λ pc op bytes all. tt, tt))))))))))))))))))))))))))))

wide_found : (pc op : ℕ) (bytes : List ℕ) (test : Range → Bool) (rows : List Range) → AreBytes bytes → AreWide rows
    → IsSmallRead (plain_if pc op bytes (option_and_then wide_form (option_map (λ (r : Range). r.layout) (find test rows))))
wide_found pc op bytes test [] all are = tt
wide_found pc op bytes test (r ∷ rows) all are =
    elim (test r) as (λ b. IsSmallRead (plain_if pc op bytes (option_and_then wide_form (option_map (λ (x : Range). x.layout) (cond b (Some r) (find test rows))))))
    [ true ↦ are.0 pc op bytes all | false ↦ wide_found pc op bytes test rows all are.1 ]

wide_small : (pc : ℕ) (bytes : List ℕ) → AreBytes bytes → IsSmallRead (widened pc bytes)
wide_small pc [] all = tt
wide_small pc (op ∷ bytes) all = wide_found pc op bytes (λ (r : Range). nat_le r.first op && nat_le op r.last) layouts (behind_first op bytes all) wide_rows

laid_rows : AreLaid layouts
laid_rows = (λ pc op bytes all. plain_small (nat_lt (length bytes) 0) pc op 1 false args.None tt, (λ pc op bytes all. plain_small (nat_lt (length bytes) 1) pc op 2 false (args.Num (signed_in 1 bytes)) (byte_num bytes all), (λ pc op bytes all. plain_small (nat_lt (length bytes) 2) pc op 3 false (args.Num (signed_in 2 bytes)) (short_num bytes all), (λ pc op bytes all. plain_small (nat_lt (length bytes) 1) pc op 2 false (args.Index (unsigned_in 1 bytes)) tt, (λ pc op bytes all. plain_small (nat_lt (length bytes) 2) pc op 3 false (args.Index (unsigned_in 2 bytes)) tt, (λ pc op bytes all. plain_small (nat_lt (length bytes) 1) pc op 2 false (args.Local (unsigned_in 1 bytes)) tt, (λ pc op bytes all. plain_small (nat_lt (length bytes) 0) pc op 1 false args.None tt, (λ pc op bytes all. plain_small (nat_lt (length bytes) 1) pc op 2 false (args.Local (unsigned_in 1 bytes)) tt, (λ pc op bytes all. plain_small (nat_lt (length bytes) 0) pc op 1 false args.None tt, (λ pc op bytes all. plain_small (nat_lt (length bytes) 2) pc op 3 false (args.Inc (unsigned_in 1 bytes) (signed_in 1 (drop 1 bytes))) tt, (λ pc op bytes all. plain_small (nat_lt (length bytes) 0) pc op 1 false args.None tt, (λ pc op bytes all. plain_small (nat_lt (length bytes) 2) pc op 3 false (args.Jump (signed_in 2 bytes)) tt, (λ pc op bytes all. plain_small (nat_lt (length bytes) 1) pc op 2 false (args.Local (unsigned_in 1 bytes)) tt, (λ pc op bytes all. table_small pc op (drop (padding pc) bytes), (λ pc op bytes all. lookup_small pc op (drop (padding pc) bytes), (λ pc op bytes all. plain_small (nat_lt (length bytes) 0) pc op 1 false args.None tt, (λ pc op bytes all. plain_small (nat_lt (length bytes) 2) pc op 3 false (args.Index (unsigned_in 2 bytes)) tt, (λ pc op bytes all. plain_small (nat_lt (length bytes) 4) pc op 5 false (args.Index (unsigned_in 2 bytes)) tt, (λ pc op bytes all. plain_small (nat_lt (length bytes) 2) pc op 3 false (args.Index (unsigned_in 2 bytes)) tt, (λ pc op bytes all. plain_small (nat_lt (length bytes) 1) pc op 2 false (args.Num (pos (unsigned_in 1 bytes))) (kind_num bytes all), (λ pc op bytes all. plain_small (nat_lt (length bytes) 2) pc op 3 false (args.Index (unsigned_in 2 bytes)) tt, (λ pc op bytes all. plain_small (nat_lt (length bytes) 0) pc op 1 false args.None tt, (λ pc op bytes all. plain_small (nat_lt (length bytes) 2) pc op 3 false (args.Index (unsigned_in 2 bytes)) tt, (λ pc op bytes all. plain_small (nat_lt (length bytes) 0) pc op 1 false args.None tt, (λ pc op bytes all. wide_small pc bytes all, (λ pc op bytes all. plain_small (nat_lt (length bytes) 3) pc op 4 false (args.Index (unsigned_in 2 bytes)) tt, (λ pc op bytes all. plain_small (nat_lt (length bytes) 2) pc op 3 false (args.Jump (signed_in 2 bytes)) tt, (λ pc op bytes all. plain_small (nat_lt (length bytes) 4) pc op 5 false (args.Jump (signed_in 4 bytes)) tt, tt))))))))))))))))))))))))))))

laid_found : (pc op : ℕ) (bytes : List ℕ) (test : Range → Bool) (rows : List Range) → AreBytes bytes → AreLaid rows
    → IsSmallRead (laid_out pc op bytes (option_map (λ (r : Range). r.layout) (find test rows)))
laid_found pc op bytes test [] all are = tt
laid_found pc op bytes test (r ∷ rows) all are =
    elim (test r) as (λ b. IsSmallRead (laid_out pc op bytes (option_map (λ (x : Range). x.layout) (cond b (Some r) (find test rows)))))
    [ true ↦ are.0 pc op bytes all | false ↦ laid_found pc op bytes test rows all are.1 ]

first_small : (pc : ℕ) (bytes : List ℕ) → AreBytes bytes → IsSmallRead (first_instr pc bytes)
first_small pc [] all = tt
first_small pc (op ∷ bytes) all = laid_found pc op bytes (λ (r : Range). nat_le r.first op && nat_le op r.last) layouts (behind_first op bytes all) laid_rows

dropped_bytes : (n : ℕ) (bytes : List ℕ) → AreBytes bytes → AreBytes (drop n bytes)
dropped_bytes zero bytes all = all
dropped_bytes (suc n) [] all = all
dropped_bytes (suc n) (b ∷ bytes) all = dropped_bytes n bytes (behind_first b bytes all)

read_small : (code : List ℕ) (pc : ℕ) (i : Instr) → AreBytes code → instr_at code pc ≡ Ok i → IsSmall i.args
unfolding instr_at
read_small code pc i all e = subst (λ (r : Result Instr OpFault). IsSmallRead r) e (first_small pc (drop pc code) (dropped_bytes pc code all))

-- ---- actions

-- each row pushes numbers in range, for the opcodes that it has
abbrev AreSmall : List Row → Type 0
AreSmall [] = Unit {0}
AreSmall (r ∷ rows) = ((k : ℕ) (a : Args) → k ≤ r.last - r.first → IsSmall a → PushesInRange (r.does k a)) × AreSmall rows

number_small : (a : Args) → IsSmall a → PushesInRange (acts.PushInt (number_of a))
number_small args.None is = refl
number_small (args.Num n) is = int_within (2 ^ 15) n (omega arith) is
number_small (args.Local l) is = refl
number_small (args.Inc l n) is = refl
number_small (args.Index n) is = refl
number_small (args.Jump n) is = refl
number_small (args.Switch d l n p) is = refl

few_small : (k : ℕ) → k ≤ 6 → IsTrue (fits widths.Int (pos k -ℤ pos 1))
few_small zero few = refl
few_small (suc k) few =
    let same : pos (suc k) -ℤ pos 1 ≡ pos k = omega (arith, ints) in
    rw same (lt-ltb k (2 ^ 31) (omega arith))

increment_small : (a : Args) → PushesInRange (increment_of a)
increment_small a = elim a as (λ b. PushesInRange (increment_of b)) [
  | args.None ↦ tt
  | args.Num n ↦ tt
  | args.Local l ↦ tt
  | args.Inc l n ↦ tt
  | args.Index n ↦ tt
  | args.Jump n ↦ tt
  | args.Switch d l n p ↦ tt
]

switch_pushes : (a : Args) → PushesInRange (switch_of a)
switch_pushes a = elim a as (λ b. PushesInRange (switch_of b)) [
  | args.None ↦ tt
  | args.Num n ↦ tt
  | args.Local l ↦ tt
  | args.Inc l n ↦ tt
  | args.Index n ↦ tt
  | args.Jump n ↦ tt
  | args.Switch d l n p ↦ tt
]

constants_small : AreSmall constants
constants_small = (λ k a few is. tt, (λ k a few is. tt, (λ k a few is. few_small k few, (λ k a few is. lt-ltb k (2 ^ 63) (omega arith), (λ k a few is. number_small a is, (λ k a few is. tt, (λ k a few is. tt, tt)))))))

loads_small : AreSmall loads
loads_small = (λ k a few is. tt, (λ k a few is. tt, (λ k a few is. tt, (λ k a few is. tt, (λ k a few is. tt, (λ k a few is. tt, (λ k a few is. tt, (λ k a few is. tt, (λ k a few is. tt, (λ k a few is. tt, (λ k a few is. tt, (λ k a few is. tt, tt))))))))))))

stores_small : AreSmall stores
stores_small = (λ k a few is. tt, (λ k a few is. tt, (λ k a few is. tt, (λ k a few is. tt, (λ k a few is. tt, (λ k a few is. tt, (λ k a few is. tt, (λ k a few is. tt, (λ k a few is. tt, (λ k a few is. tt, (λ k a few is. tt, (λ k a few is. tt, tt))))))))))))

stack_small : AreSmall stack
stack_small = (λ k a few is. tt, (λ k a few is. tt, (λ k a few is. tt, (λ k a few is. tt, (λ k a few is. tt, (λ k a few is. tt, (λ k a few is. tt, (λ k a few is. tt, (λ k a few is. tt, tt)))))))))

math_small : AreSmall math
math_small = (λ k a few is. tt, (λ k a few is. tt, (λ k a few is. tt, (λ k a few is. tt, (λ k a few is. tt, (λ k a few is. tt, (λ k a few is. tt, (λ k a few is. tt, (λ k a few is. tt, (λ k a few is. tt, (λ k a few is. tt, (λ k a few is. tt, (λ k a few is. tt, (λ k a few is. tt, (λ k a few is. tt, (λ k a few is. tt, (λ k a few is. tt, (λ k a few is. tt, (λ k a few is. tt, (λ k a few is. tt, (λ k a few is. tt, (λ k a few is. tt, (λ k a few is. tt, (λ k a few is. tt, (λ k a few is. increment_small a, tt)))))))))))))))))))))))))

conversions_small : AreSmall conversions
conversions_small = (λ k a few is. tt, (λ k a few is. tt, (λ k a few is. tt, (λ k a few is. tt, (λ k a few is. tt, tt)))))

comparisons_small : AreSmall comparisons
comparisons_small = (λ k a few is. tt, (λ k a few is. tt, (λ k a few is. tt, (λ k a few is. tt, (λ k a few is. tt, (λ k a few is. tt, (λ k a few is. tt, (λ k a few is. tt, (λ k a few is. tt, (λ k a few is. tt, (λ k a few is. tt, (λ k a few is. tt, (λ k a few is. tt, (λ k a few is. tt, (λ k a few is. tt, tt)))))))))))))))

control_small : AreSmall control
control_small = (λ k a few is. tt, (λ k a few is. switch_pushes a, (λ k a few is. tt, (λ k a few is. tt, (λ k a few is. tt, (λ k a few is. tt, tt))))))

references_small : AreSmall references
references_small = (λ k a few is. tt, (λ k a few is. tt, (λ k a few is. tt, (λ k a few is. tt, (λ k a few is. tt, (λ k a few is. tt, (λ k a few is. tt, (λ k a few is. tt, (λ k a few is. tt, (λ k a few is. tt, (λ k a few is. tt, (λ k a few is. tt, (λ k a few is. tt, (λ k a few is. tt, (λ k a few is. tt, tt)))))))))))))))

extended_small : AreSmall extended
extended_small = (λ k a few is. tt, (λ k a few is. tt, (λ k a few is. tt, tt)))

first_of : (b : Bool) (one other : List Row) → AreSmall one → AreSmall other → AreSmall (if b then one else other)
first_of true one other here there = here
first_of false one other here there = there

rows_small : (op : ℕ) → AreSmall (rows_of op)
rows_small op =
    first_of (nat_le op 20) constants _ constants_small
    (first_of (nat_le op 53) loads _ loads_small
    (first_of (nat_le op 86) stores _ stores_small
    (first_of (nat_le op 95) stack _ stack_small
    (first_of (nat_le op 132) math _ math_small
    (first_of (nat_le op 147) conversions _ conversions_small
    (first_of (nat_le op 166) comparisons _ comparisons_small
    (first_of (nat_le op 177) control _ control_small
    (first_of (nat_le op 195) references extended references_small extended_small))))))))

row_if : (op : ℕ) (a : Args) (r : Row) (rows : List Row) (here : Bool) → (nat_le r.first op && nat_le op r.last) ≡ here → IsSmall a
    → ((k : ℕ) (b : Args) → k ≤ r.last - r.first → IsSmall b → PushesInRange (r.does k b))
    → PushesInRange (done_by op a (find (λ (x : Row). nat_le x.first op && nat_le op x.last) rows))
    → PushesInRange (done_by op a (cond here (Some r) (find (λ (x : Row). nat_le x.first op && nat_le op x.last) rows)))
row_if op a r rows true is small row later =
    let parts : IsTrue (nat_le r.first op) × IsTrue (nat_le op r.last) = and_parts (nat_le r.first op) (nat_le op r.last) is in
    let low : r.first ≤ op = leb-true r.first op parts.0 in
    let high : op ≤ r.last = leb-true op r.last parts.1 in
    row (op - r.first) a (omega arith) small
row_if op a r rows false is small row later = later

done_small : (op : ℕ) (a : Args) (rows : List Row) → IsSmall a → AreSmall rows → PushesInRange (done_by op a (find (λ (x : Row). nat_le x.first op && nat_le op x.last) rows))
done_small op a [] small all = tt
done_small op a (r ∷ rows) small all = row_if op a r rows (nat_le r.first op && nat_le op r.last) refl small all.0 (done_small op a rows small all.1)

supported_small : (s : Support) (action : Action) → PushesInRange action → PushesInRange (supported s action)
supported_small Yes action is = is
supported_small (No c) action is = tt

pushes : (i : Instr) → IsSmall i.args → PushesInRange (action_of i)
unfolding action_of
pushes i small =
    supported_small (support_of i.op) (action_in (rows_of i.op) i.op i.args) (done_small i.op i.args (rows_of i.op) small (rows_small i.op))

-- ---- the instruction of a frame

-- its class and code are those of the frame's method, and it was read at the frame's pc
pub record IsRead (w : World) (frame : Frame) (s : Standing) : Type 0 where
  pub of_class : s.class ≡ class_at w frame.method.class
  pub of_method : code_at w frame.method ≡ Some s.code
  pub read : instr_at s.code.bytes frame.pc ≡ Ok s.instr

instr_read : (w : World) (frame : Frame) (method : Method) (code : Code) (r : Result Instr OpFault) (s : Standing) → option_map (standing_on w frame method code) (result_ok r) ≡ Some s
    → (r ≡ Ok s.instr) × (code ≡ s.code) × (s.class ≡ class_at w frame.method.class)
instr_read w frame method code (Err fault) s e = absurd cc
instr_read w frame method code (Ok i) s e =
    let same : standing_on w frame method code i ≡ s = cc in
    (ap Ok (ap (λ (x : Standing). x.instr) same), ap (λ (x : Standing). x.code) same, ap (λ (x : Standing). x.class) (sym same))

code_read : (w : World) (frame : Frame) (method : Method) (o : Option Code) (s : Standing) → option_and_then (standing_in w frame method) o ≡ Some s → (o ≡ Some s.code) × (instr_at s.code.bytes frame.pc ≡ Ok s.instr) × (s.class ≡ class_at w frame.method.class)
code_read w frame method None s e = absurd cc
code_read w frame method (Some code) s e =
    let both = instr_read w frame method code (instr_at code.bytes frame.pc) s e in
    (ap Some both.1, ap (λ (c : Code). instr_at c.bytes frame.pc) (sym both.1) ∙ both.0, both.2)

method_read : (w : World) (frame : Frame) (o : Option Method) (s : Standing) → option_and_then (standing_of w frame) o ≡ Some s
    → (option_and_then (λ (method : Method). method.code) o ≡ Some s.code) × (instr_at s.code.bytes frame.pc ≡ Ok s.instr) × (s.class ≡ class_at w frame.method.class)
method_read w frame None s e = absurd cc
method_read w frame (Some method) s e = code_read w frame method method.code s e

pub standing_read : (w : World) (frame : Frame) (s : Standing) → standing_at w frame ≡ Some s → IsRead w frame s
unfolding standing_at
standing_read w frame s e = let both = method_read w frame (method_at w frame.method) s e in record { of_class = both.2; of_method = both.0; read = both.1 }

-- what the frame's instruction pushes lies in range
pub standing_pushes : (w : World) (frame : Frame) (s : Standing) → IsOfFiles w → standing_at w frame ≡ Some s → PushesInRange (action_of s.instr)
standing_pushes w frame s files e =
    let is = standing_read w frame s e in
    pushes s.instr (read_small s.code.bytes frame.pc s.instr (files.code frame.method s.code is.of_method) is.read)
