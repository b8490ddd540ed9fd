-- Each instruction that stands in code, and whose opcode is not outside, has an action.
use Rattle.std.proofs.Common.{◌≡◌, ℕ, zero, suc, ◌+◌, ◌-◌, ◌*◌, ◌<◌, ◌≤◌, Bool, true, false, ◌&&◌, List, [], ◌∷◌, length, drop, Option, Some, None, refl, ap, sym, subst, arith, ℤ, pos, ◌-ℤ◌}
use Rattle.std.specs.Prelude.{nat_le, nat_lt, if◌then◌else◌, Result, Ok, Err, find, is_some, not, ◌||◌, cond}
use Rattle.std.specs.Option.{option_and_then}
use Rattle.std.proofs.lemmas.Bool.Decides.{nat_tests}
use Rattle.std.proofs.lemmas.Bool.{and_parts, and_right}
use Rattle.op_table.specs.declared.acts.Action.{Action}
use Rattle.op_table.specs.declared.acts.Action.TheVariants.{Outside}
use Rattle.op_table.specs.declared.construct.Construct.{Construct}
use Rattle.op_table.specs.declared.construct.Support.{Support}
use Rattle.op_table.specs.declared.construct.Support.TheVariants.{Yes, No}
use Rattle.op_table.specs.declared.instr.Instr.{Instr}
use Rattle.op_table.specs.declared.instr.Args.{Args}
use Rattle.op_table.specs.declared.instr.Args.TheVariants as args
use Rattle.op_table.specs.declared.instr.OpFault.{OpFault}
use Rattle.op_table.specs.declared.instr.OpFault.TheVariants as faults
use Rattle.op_table.specs.declared.layout.Layout.{Layout}
use Rattle.op_table.specs.declared.layout.Layout.TheVariants.{Plain, TableSwitch, LookupSwitch, Wide}
use Rattle.op_table.specs.declared.layout.Operand.{Operand}
use Rattle.op_table.specs.Layouts.{Range, layouts, layout_of, wide_form}
use Rattle.op_table.specs.Grammar.{size_of, args_in, plain, plain_if, widened, switch, whole, int_at, rising, are_rising, padding, table_of, table_switch, pairs_of, lookup_switch, laid_out, first_instr, instr_at}
use Rattle.op_table.specs.Support.{support_of}
use Rattle.op_table.specs.Actions.{Row, constants, loads, stores, stack, math, conversions, comparisons, control, references, extended, rows_of, done_by, action_in, supported, action_of, increment_of, switch_of}

-- ---- tests

abbrev all_below : List Range → Bool
all_below [] = true
all_below (r ∷ rows) = nat_le r.last 201 && all_below rows

-- ---- the opcodes of instructions

-- an opcode that isn't `wide`
abbrev is_instr : Option Layout → Bool
is_instr None = false
is_instr (Some (Plain operand)) = true
is_instr (Some TableSwitch) = true
is_instr (Some LookupSwitch) = true
is_instr (Some Wide) = false

-- what was read has this opcode
abbrev IsOf : ℕ → Result Instr OpFault → Type 0
IsOf op (Ok i) = i.op ≡ op
IsOf op (Err fault) = Unit {0}

plain-of : (pc op : ℕ) (wide : Bool) (before : ℕ) (bytes : List ℕ) (operand : Operand) → IsOf op (plain pc op wide before bytes operand)
plain-of pc op wide before bytes operand =
    elim (nat_lt (length bytes) (size_of operand))
    as (λ short. IsOf op (if short then Err (faults.Short pc) else Ok (record { op = op; wide = wide; len = before + size_of operand; args = args_in bytes operand })))
    [ true ↦ tt | false ↦ refl ]

switch-of : (pc op before : ℕ) (cases : List ℕ) (each : ℕ) (default low : ℤ) (count : ℕ) (pairs : Bool)
    → IsOf op (switch pc op before cases each default low count pairs)
switch-of pc op before cases each default low count pairs =
    elim (nat_lt (length cases) (each * count))
    as (λ short. IsOf op (if short then Err (faults.Short pc) else Ok (record { op = op; wide = false; len = before + each * count; args = args.Switch default low count pairs })))
    [ true ↦ tt | false ↦ refl ]

span-of : (pc op : ℕ) (bytes : List ℕ) (span : Option ℕ) → IsOf op (table_of pc op bytes span)
span-of pc op bytes None = tt
span-of pc op bytes (Some span) = switch-of pc op (13 + padding pc) (drop 12 bytes) 4 (int_at 0 bytes) (int_at 4 bytes) (suc span) false

table-of : (pc op : ℕ) (bytes : List ℕ) → IsOf op (table_switch pc op bytes)
table-of pc op bytes =
    let inner : Result Instr OpFault = table_of pc op bytes (whole (int_at 8 bytes -ℤ int_at 4 bytes)) in
    elim (nat_lt (length bytes) 12) as (λ short. IsOf op (if short then Err (faults.Short pc) else inner))
    [ true ↦ tt | false ↦ span-of pc op bytes (whole (int_at 8 bytes -ℤ int_at 4 bytes)) ]

rising-of : (pc op : ℕ) (risen : Bool) (read : Result Instr OpFault) → IsOf op read → IsOf op (rising pc risen read)
rising-of pc op true read is = is
rising-of pc op false (Ok i) is = tt
rising-of pc op false (Err fault) is = tt

count-of : (pc op : ℕ) (bytes : List ℕ) (count : Option ℕ) → IsOf op (pairs_of pc op bytes count)
count-of pc op bytes None = tt
count-of pc op bytes (Some count) =
    rising-of pc op (are_rising count (drop 8 bytes)) (switch pc op (9 + padding pc) (drop 8 bytes) 8 (int_at 0 bytes) (pos 0) count true)
    (switch-of pc op (9 + padding pc) (drop 8 bytes) 8 (int_at 0 bytes) (pos 0) count true)

lookup-of : (pc op : ℕ) (bytes : List ℕ) → IsOf op (lookup_switch pc op bytes)
lookup-of pc op bytes =
    let inner : Result Instr OpFault = pairs_of pc op bytes (whole (int_at 4 bytes)) in
    elim (nat_lt (length bytes) 8) as (λ short. IsOf op (if short then Err (faults.Short pc) else inner))
    [ true ↦ tt | false ↦ count-of pc op bytes (whole (int_at 4 bytes)) ]

-- what was read has an opcode, and it isn't `wide`
abbrev IsRead : Result Instr OpFault → Type 0
IsRead (Ok i) = is_instr (layout_of i.op) ≡ true
IsRead (Err fault) = Unit {0}

of-read : (op : ℕ) (read : Result Instr OpFault) → is_instr (layout_of op) ≡ true → IsOf op read → IsRead read
of-read op (Ok i) known is = subst (λ (n : ℕ). is_instr (layout_of n) ≡ true) (sym is) known
of-read op (Err fault) known is = tt

wide-known : (l : Option Layout) (operand : Operand) → option_and_then wide_form l ≡ Some operand → is_instr l ≡ true
wide-known None operand h = absurd (cc)
wide-known (Some (Plain o)) operand h = refl
wide-known (Some TableSwitch) operand h = refl
wide-known (Some LookupSwitch) operand h = refl
wide-known (Some Wide) operand h = absurd (cc)

plain_if-read : (pc op : ℕ) (bytes : List ℕ) (o : Option Operand) → option_and_then wide_form (layout_of op) ≡ o → IsRead (plain_if pc op bytes o)
plain_if-read pc op bytes None h = tt
plain_if-read pc op bytes (Some operand) h =
    of-read op (plain pc op true 2 bytes operand) (wide-known (layout_of op) operand h) (plain-of pc op true 2 bytes operand)

widened-read : (pc : ℕ) (bytes : List ℕ) → IsRead (widened pc bytes)
widened-read pc [] = tt
widened-read pc (op ∷ bytes) = plain_if-read pc op bytes (option_and_then wide_form (layout_of op)) refl

laid_out-read : (pc op : ℕ) (bytes : List ℕ) (l : Option Layout) → layout_of op ≡ l → IsRead (laid_out pc op bytes l)
laid_out-read pc op bytes None h = tt
laid_out-read pc op bytes (Some (Plain operand)) h = of-read op (plain pc op false 1 bytes operand) (ap is_instr h) (plain-of pc op false 1 bytes operand)
laid_out-read pc op bytes (Some TableSwitch) h = of-read op (table_switch pc op (drop (padding pc) bytes)) (ap is_instr h) (table-of pc op (drop (padding pc) bytes))
laid_out-read pc op bytes (Some LookupSwitch) h = of-read op (lookup_switch pc op (drop (padding pc) bytes)) (ap is_instr h) (lookup-of pc op (drop (padding pc) bytes))
laid_out-read pc op bytes (Some Wide) h = widened-read pc bytes

first-read : (pc : ℕ) (bytes : List ℕ) → IsRead (first_instr pc bytes)
first-read pc [] = tt
first-read pc (op ∷ bytes) = laid_out-read pc op bytes (layout_of op) refl

read-known : (read : Result Instr OpFault) (i : Instr) → IsRead read → read ≡ Ok i → is_instr (layout_of i.op) ≡ true
read-known (Ok j) i is h = let same : j ≡ i = cc in subst (λ (k : Instr). is_instr (layout_of k.op) ≡ true) same is
read-known (Err fault) i is h = absurd (cc)

-- ---- no opcode is above 201

found-none : (rows : List Range) (op : ℕ) → all_below rows ≡ true → 202 ≤ op → find (λ r. nat_le r.first op && nat_le op r.last) rows ≡ None
found-none [] op low above = refl
found-none (r ∷ rows) op low above =
    let here : nat_le r.last 201 ≡ true = (and_parts (nat_le r.last 201) (all_below rows) low).0 in
    let later : all_below rows ≡ true = (and_parts (nat_le r.last 201) (all_below rows) low).1 in
    let out : nat_le op r.last ≡ false = grind (arith, nat_tests) in
    let skip : (nat_le r.first op && nat_le op r.last) ≡ false = and_right (nat_le r.first op) (nat_le op r.last) out in
    rw skip (found-none rows op later above)

none-above : (op : ℕ) → 202 ≤ op → layout_of op ≡ None
none-above op above = rw (found-none layouts op refl above) refl

known-low : (op : ℕ) → is_instr (layout_of op) ≡ true → op < 202
known-low op known =
    let P : Bool → Type 0 = λ b. nat_lt op 202 ≡ b → op < 202 in
    elim (nat_lt op 202) as P [
      | true ↦ λ test. grind (arith, nat_tests)
      | false ↦ λ test.
          let above : 202 ≤ op = grind (arith, nat_tests) in
          let none : layout_of op ≡ None = none-above op above in
          absurd (cc (ap is_instr none))
    ] refl

-- ---- each opcode that is analysed is in a row

abbrev is_yes : Support → Bool
is_yes Yes = true
is_yes (No c) = false

abbrev is_found : ℕ → Bool
is_found op = is_some (find (λ (r : Row). nat_le r.first op && nat_le op r.last) (rows_of op))

abbrev is_covered : ℕ → Bool
is_covered op = not (is_yes (support_of op)) || (not (is_instr (layout_of op)) || is_found op)

-- the test holds of all numbers below n
all_to : (ℕ → Bool) → ℕ → Bool
all_to test zero = true
all_to test (suc n) = test n && all_to test n

covered : all_to is_covered 202 ≡ true
unfolding all_to
covered = refl

all-at : (test : ℕ → Bool) (n k : ℕ) → all_to test n ≡ true → k < n → test k ≡ true
unfolding all_to
all-at test zero k all below = absurd (omega arith)
all-at test (suc n) k all below =
    let here : test n ≡ true = (and_parts (test n) (all_to test n) all).0 in
    let rest : all_to test n ≡ true = (and_parts (test n) (all_to test n) all).1 in
    let P : Bool → Type 0 = λ b. nat_lt k n ≡ b → test k ≡ true in
    elim (nat_lt k n) as P [
      | true ↦ λ under. all-at test n k rest (grind (arith, nat_tests))
      | false ↦ λ under. let same : n ≡ k = grind (arith, nat_tests) in subst (λ (m : ℕ). test m ≡ true) same here
    ] refl

either : (yes instr found : Bool) → (not yes || (not instr || found)) ≡ true → yes ≡ true → instr ≡ true → found ≡ true
either true true found h one two = h
either true false found h one two = absurd (cc)
either false instr found h one two = absurd (cc)

-- ---- no row has an opcode that is outside

abbrev is_outside : Action → Bool
is_outside (Outside c) = true
is_outside action = false

abbrev AreInside : List Row → Type 0
AreInside [] = Unit {0}
AreInside (r ∷ rows) = ((k : ℕ) (a : Args) → is_outside (r.does k a) ≡ false) × AreInside rows

increment-inside : (a : Args) → is_outside (increment_of a) ≡ false
increment-inside a = elim a as (λ b. is_outside (increment_of b) ≡ false) [
  | args.None ↦ refl
  | args.Num n ↦ refl
  | args.Local l ↦ refl
  | args.Inc l n ↦ refl
  | args.Index n ↦ refl
  | args.Jump n ↦ refl
  | args.Switch d l n p ↦ refl
]

switch-inside : (a : Args) → is_outside (switch_of a) ≡ false
switch-inside a = elim a as (λ b. is_outside (switch_of b) ≡ false) [
  | args.None ↦ refl
  | args.Num n ↦ refl
  | args.Local l ↦ refl
  | args.Inc l n ↦ refl
  | args.Index n ↦ refl
  | args.Jump n ↦ refl
  | args.Switch d l n p ↦ refl
]

constants-inside : AreInside constants
constants-inside = (λ k a. refl, (λ k a. refl, (λ k a. refl, (λ k a. refl, (λ k a. refl, (λ k a. refl, (λ k a. refl, tt)))))))

loads-inside : AreInside loads
loads-inside = (λ k a. refl, (λ k a. refl, (λ k a. refl, (λ k a. refl, (λ k a. refl, (λ k a. refl, (λ k a. refl, (λ k a. refl, (λ k a. refl, (λ k a. refl, (λ k a. refl, (λ k a. refl, tt))))))))))))

stores-inside : AreInside stores
stores-inside = (λ k a. refl, (λ k a. refl, (λ k a. refl, (λ k a. refl, (λ k a. refl, (λ k a. refl, (λ k a. refl, (λ k a. refl, (λ k a. refl, (λ k a. refl, (λ k a. refl, (λ k a. refl, tt))))))))))))

stack-inside : AreInside stack
stack-inside = (λ k a. refl, (λ k a. refl, (λ k a. refl, (λ k a. refl, (λ k a. refl, (λ k a. refl, (λ k a. refl, (λ k a. refl, (λ k a. refl, tt)))))))))

math-inside : AreInside math
math-inside = (λ k a. refl, (λ k a. refl, (λ k a. refl, (λ k a. refl, (λ k a. refl, (λ k a. refl, (λ k a. refl, (λ k a. refl, (λ k a. refl, (λ k a. refl, (λ k a. refl, (λ k a. refl, (λ k a. refl, (λ k a. refl, (λ k a. refl, (λ k a. refl, (λ k a. refl, (λ k a. refl, (λ k a. refl, (λ k a. refl, (λ k a. refl, (λ k a. refl, (λ k a. refl, (λ k a. refl, (λ k a. increment-inside a, tt)))))))))))))))))))))))))

conversions-inside : AreInside conversions
conversions-inside = (λ k a. refl, (λ k a. refl, (λ k a. refl, (λ k a. refl, (λ k a. refl, tt)))))

comparisons-inside : AreInside comparisons
comparisons-inside = (λ k a. refl, (λ k a. refl, (λ k a. refl, (λ k a. refl, (λ k a. refl, (λ k a. refl, (λ k a. refl, (λ k a. refl, (λ k a. refl, (λ k a. refl, (λ k a. refl, (λ k a. refl, (λ k a. refl, (λ k a. refl, (λ k a. refl, tt)))))))))))))))

control-inside : AreInside control
control-inside = (λ k a. refl, (λ k a. switch-inside a, (λ k a. refl, (λ k a. refl, (λ k a. refl, (λ k a. refl, tt))))))

references-inside : AreInside references
references-inside = (λ k a. refl, (λ k a. refl, (λ k a. refl, (λ k a. refl, (λ k a. refl, (λ k a. refl, (λ k a. refl, (λ k a. refl, (λ k a. refl, (λ k a. refl, (λ k a. refl, (λ k a. refl, (λ k a. refl, (λ k a. refl, (λ k a. refl, tt)))))))))))))))

extended-inside : AreInside extended
extended-inside = (λ k a. refl, (λ k a. refl, (λ k a. refl, tt)))

first-of : (b : Bool) (one other : List Row) → AreInside one → AreInside other → AreInside (if b then one else other)
first-of true one other here there = here
first-of false one other here there = there

-- the rows of an opcode
rows-inside : (op : ℕ) → AreInside (rows_of op)
rows-inside op =
    first-of (nat_le op 20) constants _ constants-inside
    (first-of (nat_le op 53) loads _ loads-inside
    (first-of (nat_le op 86) stores _ stores-inside
    (first-of (nat_le op 95) stack _ stack-inside
    (first-of (nat_le op 132) math _ math-inside
    (first-of (nat_le op 147) conversions _ conversions-inside
    (first-of (nat_le op 166) comparisons _ comparisons-inside
    (first-of (nat_le op 177) control _ control-inside
    (first-of (nat_le op 195) references extended references-inside extended-inside))))))))

done-inside : (op : ℕ) (a : Args) (test : Row → Bool) (rows : List Row) → AreInside rows → is_some (find test rows) ≡ true
    → is_outside (done_by op a (find test rows)) ≡ false
done-inside op a test [] inside = λ found. absurd (cc)
done-inside op a test (r ∷ rows) inside =
    let P : Bool → Type 0 = λ b. is_some (cond b (Some r) (find test rows)) ≡ true → is_outside (done_by op a (cond b (Some r) (find test rows))) ≡ false in
    elim (test r) as P [
      | true ↦ λ found. inside.0 (op - r.first) a
      | false ↦ λ found. done-inside op a test rows inside.1 found
    ]

by-support : (op : ℕ) (action : Action) (c : Construct) (s : Support) → (s ≡ Yes → is_outside action ≡ false) → supported s action ≡ Outside c → s ≡ No c
by-support op action c Yes inside acts = let none : is_outside action ≡ false = inside refl in absurd (cc)
by-support op action c (No k) inside acts = cc

-- an instruction that stands in code has no action only where its opcode is outside
pub only-outside : (code : List ℕ) (pc : ℕ) (i : Instr) (c : Construct) → instr_at code pc ≡ Ok i → action_of i ≡ Outside c → support_of i.op ≡ No c
unfolding instr_at action_of
only-outside code pc i c read acts =
    let known : is_instr (layout_of i.op) ≡ true = read-known (first_instr pc (drop pc code)) i (first-read pc (drop pc code)) read in
    let cover : is_covered i.op ≡ true = all-at is_covered 202 i.op covered (known-low i.op known) in
    let inside : support_of i.op ≡ Yes → is_outside (action_in (rows_of i.op) i.op i.args) ≡ false = λ yes.
    let found : is_found i.op ≡ true = either (is_yes (support_of i.op)) (is_instr (layout_of i.op)) (is_found i.op) cover (ap is_yes yes) known in
    done-inside i.op i.args (λ (r : Row). nat_le r.first i.op && nat_le i.op r.last) (rows_of i.op) (rows-inside i.op) found in
    by-support i.op (action_in (rows_of i.op) i.op i.args) c (support_of i.op) inside acts
