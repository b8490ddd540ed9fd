-- The action of a switch has as many cases as the switch.
use Rattle.std.proofs.Common.{◌≡◌, ℕ, ◌-◌, ◌≤◌, Bool, true, false, ◌&&◌, List, [], ◌∷◌, Some, refl, subst, arith, ℤ}
use Rattle.std.specs.Prelude.{nat_le, if◌then◌else◌, find, cond, Ok}
use Rattle.op_table.specs.declared.acts.Action.{Action}
use Rattle.op_table.specs.declared.acts.Action.TheVariants.{Switch}
use Rattle.op_table.specs.declared.construct.Support.{Support}
use Rattle.op_table.specs.declared.construct.Support.TheVariants.{Yes, No}
use Rattle.op_table.specs.declared.instr.Instr.{Instr}
use Rattle.op_table.specs.declared.instr.Args.{Args}
use Rattle.op_table.specs.declared.instr.Args.TheVariants as args
use Rattle.op_table.specs.Support.{support_of}
use Rattle.op_table.specs.Cases.{case_count, cases_of}
use Rattle.op_table.specs.Grammar.{instr_at}
use Rattle.op_table.specs.Actions.{Row, constants, loads, stores, stack, math, conversions, comparisons, control, references, extended, rows_of, done_by, action_in, supported, action_of, increment_of, switch_of}

abbrev Counts : Args → Action → Type 0
Counts a (Switch default low count pairs) = count ≡ case_count a
Counts a action = Unit {0}

abbrev AreCounted : List Row → Type 0
AreCounted [] = Unit {0}
AreCounted (r ∷ rows) = ((k : ℕ) (a : Args) → Counts a (r.does k a)) × AreCounted rows

increment-counted : (a : Args) → Counts a (increment_of a)
increment-counted a = elim a as (λ b. Counts b (increment_of b)) [
  | args.None ↦ tt
  | args.Num n ↦ tt
  | args.Local l ↦ tt
  | args.Inc l n ↦ tt
  | args.Index n ↦ tt
  | args.Jump n ↦ tt
  | args.Switch d l n p ↦ tt
]

switch-counted : (a : Args) → Counts a (switch_of a)
switch-counted a = elim a as (λ b. Counts b (switch_of b)) [
  | args.None ↦ refl
  | args.Num n ↦ refl
  | args.Local l ↦ refl
  | args.Inc l n ↦ refl
  | args.Index n ↦ refl
  | args.Jump n ↦ refl
  | args.Switch d l n p ↦ refl
]

constants-counted : AreCounted constants
constants-counted = (λ k a. tt, (λ k a. tt, (λ k a. tt, (λ k a. tt, (λ k a. tt, (λ k a. tt, (λ k a. tt, tt)))))))

loads-counted : AreCounted loads
loads-counted = (λ k a. tt, (λ k a. tt, (λ k a. tt, (λ k a. tt, (λ k a. tt, (λ k a. tt, (λ k a. tt, (λ k a. tt, (λ k a. tt, (λ k a. tt, (λ k a. tt, (λ k a. tt, tt))))))))))))

stores-counted : AreCounted stores
stores-counted = (λ k a. tt, (λ k a. tt, (λ k a. tt, (λ k a. tt, (λ k a. tt, (λ k a. tt, (λ k a. tt, (λ k a. tt, (λ k a. tt, (λ k a. tt, (λ k a. tt, (λ k a. tt, tt))))))))))))

stack-counted : AreCounted stack
stack-counted = (λ k a. tt, (λ k a. tt, (λ k a. tt, (λ k a. tt, (λ k a. tt, (λ k a. tt, (λ k a. tt, (λ k a. tt, (λ k a. tt, tt)))))))))

math-counted : AreCounted math
math-counted = (λ k a. tt, (λ k a. tt, (λ k a. tt, (λ k a. tt, (λ k a. tt, (λ k a. tt, (λ k a. tt, (λ k a. tt, (λ k a. tt, (λ k a. tt, (λ k a. tt, (λ k a. tt, (λ k a. tt, (λ k a. tt, (λ k a. tt, (λ k a. tt, (λ k a. tt, (λ k a. tt, (λ k a. tt, (λ k a. tt, (λ k a. tt, (λ k a. tt, (λ k a. tt, (λ k a. tt, (λ k a. increment-counted a, tt)))))))))))))))))))))))))

conversions-counted : AreCounted conversions
conversions-counted = (λ k a. tt, (λ k a. tt, (λ k a. tt, (λ k a. tt, (λ k a. tt, tt)))))

comparisons-counted : AreCounted comparisons
comparisons-counted = (λ k a. tt, (λ k a. tt, (λ k a. tt, (λ k a. tt, (λ k a. tt, (λ k a. tt, (λ k a. tt, (λ k a. tt, (λ k a. tt, (λ k a. tt, (λ k a. tt, (λ k a. tt, (λ k a. tt, (λ k a. tt, (λ k a. tt, tt)))))))))))))))

control-counted : AreCounted control
control-counted = (λ k a. tt, (λ k a. switch-counted a, (λ k a. tt, (λ k a. tt, (λ k a. tt, (λ k a. tt, tt))))))

references-counted : AreCounted references
references-counted = (λ k a. tt, (λ k a. tt, (λ k a. tt, (λ k a. tt, (λ k a. tt, (λ k a. tt, (λ k a. tt, (λ k a. tt, (λ k a. tt, (λ k a. tt, (λ k a. tt, (λ k a. tt, (λ k a. tt, (λ k a. tt, (λ k a. tt, tt)))))))))))))))

extended-counted : AreCounted extended
extended-counted = (λ k a. tt, (λ k a. tt, (λ k a. tt, tt)))

first-of : (b : Bool) (one other : List Row) → AreCounted one → AreCounted other → AreCounted (if b then one else other)
first-of true one other here there = here
first-of false one other here there = there

-- the rows of an opcode
rows-counted : (op : ℕ) → AreCounted (rows_of op)
rows-counted op =
    first-of (nat_le op 20) constants _ constants-counted
    (first-of (nat_le op 53) loads _ loads-counted
    (first-of (nat_le op 86) stores _ stores-counted
    (first-of (nat_le op 95) stack _ stack-counted
    (first-of (nat_le op 132) math _ math-counted
    (first-of (nat_le op 147) conversions _ conversions-counted
    (first-of (nat_le op 166) comparisons _ comparisons-counted
    (first-of (nat_le op 177) control _ control-counted
    (first-of (nat_le op 195) references extended references-counted extended-counted))))))))

done-counted : (op : ℕ) (a : Args) (test : Row → Bool) (rows : List Row) → AreCounted rows → Counts a (done_by op a (find test rows))
done-counted op a test [] counted = tt
done-counted op a test (r ∷ rows) counted =
    elim (test r) as (λ b. Counts a (done_by op a (cond b (Some r) (find test rows))))
    [ true ↦ counted.0 (op - r.first) a | false ↦ done-counted op a test rows counted.1 ]

supported-counted : (s : Support) (a : Args) (action : Action) → Counts a action → Counts a (supported s action)
supported-counted Yes a action counted = counted
supported-counted (No c) a action counted = tt

action-counted : (i : Instr) → Counts i.args (action_of i)
unfolding action_of
action-counted i =
    supported-counted (support_of i.op) i.args (action_in (rows_of i.op) i.op i.args)
    (done-counted i.op i.args (λ (r : Row). nat_le r.first i.op && nat_le i.op r.last) (rows_of i.op) (rows-counted i.op))

-- the cases that the action of a switch speaks of are there
pub known_cases : (code : List ℕ) (pc : ℕ) (i : Instr) (action : Action) (default low : ℤ) (count : ℕ) (pairs : Bool)
    → instr_at code pc ≡ Ok i → action ≡ action_of i → action ≡ Switch default low count pairs → count ≤ cases_of (instr_at code pc)
known_cases code pc i action default low count pairs read acts is =
    let counted : Counts i.args (Switch default low count pairs) = subst (λ (a : Action). Counts i.args a) (let e : action_of i ≡ Switch default low count pairs = cc in e) (action-counted i) in
    rw read (omega (arith, counted))
