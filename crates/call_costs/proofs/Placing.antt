-- The instructions of code, one behind another.
use Rattle.std.proofs.Common.{◌≡◌, ℕ, zero, suc, ◌+◌, ◌-◌, ◌<◌, ◌≤◌, true, false, List, [], ◌∷◌, ◌++◌, length, None, Result, Ok, Err, refl, sym, ◌∙◌, ap, subst, arith, Contains, nat_lt, append_assoc}
use Rattle.std.proofs.lemmas.Bool.Decides.{nat_tests}
use Rattle.std.proofs.lemmas.List.Elements.{Contains-append_right}
use Rattle.op_table.specs.declared.instr.Instr.{Instr}
use Rattle.op_table.specs.declared.instr.OpFault.{OpFault}
use Rattle.op_table.specs.Grammar.{instr_at}
use Rattle.op_table.proofs.Agreeing.{instr-fits}
use Rattle.code_blocks.specs.declared.instruction.Placed.{Placed}
use Rattle.code_blocks.specs.Placing.{placed_then, placed_from, placed, broken_then, broken_from, broken}

-- ---- one step

placed_here : (n : ℕ) (code : List ℕ) (pc : ℕ) → pc < length code → placed_from (suc n) code pc ≡ placed_then pc (placed_from n code) (instr_at code pc)
unfolding placed_from
placed_here n code pc inside = let below : nat_lt pc (length code) ≡ true = grind (arith, nat_tests) in rw below refl

placed_past : (n : ℕ) (code : List ℕ) (pc : ℕ) → length code ≤ pc → placed_from n code pc ≡ []
unfolding placed_from
placed_past zero code pc past = refl
placed_past (suc n) code pc past = let below : nat_lt pc (length code) ≡ false = grind (arith, nat_tests) in rw below refl

broken_here : (n : ℕ) (code : List ℕ) (pc : ℕ) → pc < length code → broken_from (suc n) code pc ≡ broken_then pc (broken_from n code) (instr_at code pc)
unfolding broken_from
broken_here n code pc inside = let below : nat_lt pc (length code) ≡ true = grind (arith, nat_tests) in rw below refl

broken_past : (n : ℕ) (code : List ℕ) (pc : ℕ) → length code ≤ pc → broken_from n code pc ≡ None
unfolding broken_from
broken_past zero code pc past = refl
broken_past (suc n) code pc past = let below : nat_lt pc (length code) ≡ false = grind (arith, nat_tests) in rw below refl

-- ---- as far as there are bytes, it is the same how many instructions are asked for

placed_both : (n k pc : ℕ) (code : List ℕ) (r : Result Instr OpFault) → ((i : Instr) → r ≡ Ok i → placed_from n code (pc + i.len) ≡ placed_from k code (pc + i.len))
    → placed_then pc (placed_from n code) r ≡ placed_then pc (placed_from k code) r
placed_both n k pc code (Err fault) same = refl
placed_both n k pc code (Ok i) same = ap (λ (others : List Placed). record { pc = pc; instr = i } ∷ others) (same i refl)

placed_same : (n k : ℕ) (code : List ℕ) (pc : ℕ) → length code ≤ n + pc → length code ≤ k + pc → placed_from n code pc ≡ placed_from k code pc
placed_same zero k code pc enough also = placed_past zero code pc (omega arith) ∙ sym (placed_past k code pc (omega arith))
placed_same (suc n) zero code pc enough also = placed_past (suc n) code pc (omega arith) ∙ sym (placed_past zero code pc (omega arith))
placed_same (suc n) (suc k) code pc enough also =
    elim (nat_lt pc (length code)) as (λ b. nat_lt pc (length code) ≡ b → placed_from (suc n) code pc ≡ placed_from (suc k) code pc) [
      | true ↦ λ below.
          let inside : pc < length code = grind (arith, nat_tests) in
          placed_here n code pc inside
          ∙ placed_both n k pc code (instr_at code pc)
          (λ i is. let some = (instr-fits code pc i is).0 in placed_same n k code (pc + i.len) (omega arith) (omega arith))
          ∙ sym (placed_here k code pc inside)
      | false ↦ λ below.
          let past : length code ≤ pc = grind (arith, nat_tests) in
          placed_past (suc n) code pc past ∙ sym (placed_past (suc k) code pc past)
    ] refl

broken_both : (n k pc : ℕ) (code : List ℕ) (r : Result Instr OpFault) → ((i : Instr) → r ≡ Ok i → broken_from n code (pc + i.len) ≡ broken_from k code (pc + i.len))
    → broken_then pc (broken_from n code) r ≡ broken_then pc (broken_from k code) r
broken_both n k pc code (Err fault) same = refl
broken_both n k pc code (Ok i) same = same i refl

broken_same : (n k : ℕ) (code : List ℕ) (pc : ℕ) → length code ≤ n + pc → length code ≤ k + pc → broken_from n code pc ≡ broken_from k code pc
broken_same zero k code pc enough also = broken_past zero code pc (omega arith) ∙ sym (broken_past k code pc (omega arith))
broken_same (suc n) zero code pc enough also = broken_past (suc n) code pc (omega arith) ∙ sym (broken_past zero code pc (omega arith))
broken_same (suc n) (suc k) code pc enough also =
    elim (nat_lt pc (length code)) as (λ b. nat_lt pc (length code) ≡ b → broken_from (suc n) code pc ≡ broken_from (suc k) code pc) [
      | true ↦ λ below.
          let inside : pc < length code = grind (arith, nat_tests) in
          broken_here n code pc inside
          ∙ broken_both n k pc code (instr_at code pc)
          (λ i is. let some = (instr-fits code pc i is).0 in broken_same n k code (pc + i.len) (omega arith) (omega arith))
          ∙ sym (broken_here k code pc inside)
      | false ↦ λ below.
          let past : length code ≤ pc = grind (arith, nat_tests) in
          broken_past (suc n) code pc past ∙ sym (broken_past (suc k) code pc past)
    ] refl

-- ---- the instructions from a place on

abbrev pub behind : List ℕ → ℕ → List Placed
behind code pc = placed_from (length code - pc) code pc

pub behind_is : (code : List ℕ) (pc : ℕ) (i : Instr) → instr_at code pc ≡ Ok i → behind code pc ≡ record { pc = pc; instr = i } ∷ behind code (pc + i.len)
behind_is code pc i is =
    let fits = instr-fits code pc i is in
    let n = length code - suc pc in
    let one : length code - pc ≡ suc n = omega (arith, fits.0, fits.1) in
    let inside : pc < length code = omega (arith, fits.0, fits.1) in
    ap (λ k. placed_from k code pc) one
    ∙ placed_here n code pc inside
    ∙ ap (λ (r : Result Instr OpFault). placed_then pc (placed_from n code) r) is
    ∙ ap (λ (others : List Placed). record { pc = pc; instr = i } ∷ others)
    (placed_same n (length code - (pc + i.len)) code (pc + i.len) (omega (arith, fits.0)) (omega arith))

broken_next : (code : List ℕ) (pc : ℕ) (i : Instr) → instr_at code pc ≡ Ok i → broken_from (length code - pc) code pc ≡ broken_from (length code - (pc + i.len)) code (pc + i.len)
broken_next code pc i is =
    let fits = instr-fits code pc i is in
    let n = length code - suc pc in
    let one : length code - pc ≡ suc n = omega (arith, fits.0, fits.1) in
    let inside : pc < length code = omega (arith, fits.0, fits.1) in
    ap (λ k. broken_from k code pc) one
    ∙ broken_here n code pc inside
    ∙ ap (λ (r : Result Instr OpFault). broken_then pc (broken_from n code) r) is
    ∙ broken_same n (length code - (pc + i.len)) code (pc + i.len) (omega (arith, fits.0)) (omega arith)

-- A place of an instruction: what stands from it on ends the instructions of the code, and there is one at each
-- place up to the end.
pub record OnPath (code : List ℕ) (pc : ℕ) : Type 0 where
  pub before : List Placed
  pub whole : placed code ≡ before ++ behind code pc
  pub sound : broken_from (length code - pc) code pc ≡ None
  pub inside : pc < length code

pub path_start : (code : List ℕ) → 0 < length code → broken code ≡ None → OnPath code 0
path_start code some sound =
    let all : length code - 0 ≡ length code = omega arith in
    record {
      before = [];
      whole = ap (λ k. placed_from k code 0) (sym all);
      sound = ap (λ k. broken_from k code 0) all ∙ sound;
      inside = some;
    }

there_is : (n pc : ℕ) (code : List ℕ) (r : Result Instr OpFault) → broken_then pc (broken_from n code) r ≡ None → (i : Instr) × (r ≡ Ok i)
there_is n pc code (Err fault) sound = absurd cc
there_is n pc code (Ok i) sound = (i, refl)

pub path_instr : (code : List ℕ) (pc : ℕ) → OnPath code pc → (i : Instr) × (instr_at code pc ≡ Ok i)
path_instr code pc path =
    let n = length code - suc pc in
    let one : length code - pc ≡ suc n = omega (arith, path.inside) in
    there_is n pc code (instr_at code pc) (sym (broken_here n code pc path.inside) ∙ ap (λ k. broken_from k code pc) (sym one) ∙ path.sound)

pub path_next : (code : List ℕ) (pc : ℕ) (i : Instr) → OnPath code pc → instr_at code pc ≡ Ok i → pc + i.len < length code → OnPath code (pc + i.len)
path_next code pc i path is more =
    record {
      before = path.before ++ record { pc = pc; instr = i } ∷ [];
      whole =
          path.whole
          ∙ ap (λ (others : List Placed). path.before ++ others) (behind_is code pc i is)
          ∙ sym (append_assoc path.before (record { pc = pc; instr = i } ∷ []) (behind code (pc + i.len)));
      sound = sym (broken_next code pc i is) ∙ path.sound;
      inside = more;
    }

pub path_at : (code : List ℕ) (pc : ℕ) (i : Instr) → OnPath code pc → instr_at code pc ≡ Ok i → Contains (placed code) (record { pc = pc; instr = i })
path_at code pc i path is =
    let this : Placed = record { pc = pc; instr = i } in
    let split : path.before ++ this ∷ behind code (pc + i.len) ≡ placed code = sym (path.whole ∙ ap (λ (others : List Placed). path.before ++ others) (behind_is code pc i is)) in
    subst (λ (all : List Placed). Contains all this) split
    (Contains-append_right path.before (this ∷ behind code (pc + i.len)) this (0, omega arith, refl))
