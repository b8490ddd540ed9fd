-- Instructions one behind another.
use Rattle.std.proofs.Common.{◌≡◌, ℕ, zero, suc, ◌+◌, ◌<◌, ◌≤◌, List, [], ◌∷◌, ◌++◌, length, Option, Some, None, refl, sym, ap, ◌∙◌, append_assoc}
use Rattle.std.specs.Prelude.{Result, Ok, Err}
use Rattle.std.proofs.lemmas.Bool.{lt-ltb, le-ltb}
use Rattle.op_table.specs.declared.instr.Instr.{Instr}
use Rattle.op_table.specs.declared.instr.OpFault.{OpFault}
use Rattle.op_table.specs.Grammar.{instr_at}
use Rattle.code_blocks.specs.declared.instruction.Placed.{Placed}
use Rattle.code_blocks.specs.Placing.{placed, placed_from, placed_then, broken, broken_from, broken_then, placement_of}

abbrev pub place : ℕ → Instr → Placed
place pc i = record { pc = pc; instr = i }

pub placed_past : (n : ℕ) (code : List ℕ) (pc : ℕ) → length code ≤ pc → placed_from n code pc ≡ []
unfolding placed_from
placed_past zero code pc le = refl
placed_past (suc n) code pc le = rw (le-ltb pc (length code) le) refl

pub broken_past : (n : ℕ) (code : List ℕ) (pc : ℕ) → length code ≤ pc → broken_from n code pc ≡ None
unfolding broken_from
broken_past zero code pc le = refl
broken_past (suc n) code pc le = rw (le-ltb pc (length code) le) refl

pub placed_none : (code : List ℕ) (pc : ℕ) → placed_from 0 code pc ≡ []
unfolding placed_from
placed_none code pc = refl

pub broken_none : (code : List ℕ) (pc : ℕ) → broken_from 0 code pc ≡ None
unfolding broken_from
broken_none code pc = refl

pub placed_next : (n : ℕ) (code : List ℕ) (pc : ℕ) (r : Result Instr OpFault) → pc < length code → instr_at code pc ≡ r → placed_from (suc n) code pc ≡ placed_then pc (placed_from n code) r
unfolding placed_from
placed_next n code pc r lt e = rw (lt-ltb pc (length code) lt, e) refl

pub broken_next : (n : ℕ) (code : List ℕ) (pc : ℕ) (r : Result Instr OpFault) → pc < length code → instr_at code pc ≡ r → broken_from (suc n) code pc ≡ broken_then pc (broken_from n code) r
unfolding broken_from
broken_next n code pc r lt e = rw (lt-ltb pc (length code) lt, e) refl

-- what is found so far, and what is left
pub record IsSoFar (code : List ℕ) (n pc : ℕ) (found : List Placed) : Type 0 where
  pub all : placed code ≡ found ++ placed_from n code pc
  pub broken : broken code ≡ broken_from n code pc

pub start : (code : List ℕ) (n : ℕ) (found : List Placed) → n ≡ length code → found ≡ [] → IsSoFar code n 0 found
start code n found e none = record { all = rw (e, none) refl; broken = rw e refl }

append_none : (xs : List Placed) → xs ++ [] ≡ xs
append_none [] = refl
append_none (x ∷ xs) = ap (λ ys. x ∷ ys) (append_none xs)

finish : (code : List ℕ) (n pc : ℕ) (found : List Placed) (b : Option ℕ) → IsSoFar code n pc found → placed_from n code pc ≡ [] → broken_from n code pc ≡ b → record { instructions = found; broken = b } ≡ placement_of code
finish code n pc found b h none e =
    let all : placed code ≡ found = h.all ∙ ap (λ ps. found ++ ps) none ∙ append_none found in
    let broke : broken code ≡ b = h.broken ∙ e in
    rw (all, broke) refl

pub end_past : (code : List ℕ) (n pc : ℕ) (found : List Placed) → IsSoFar code n pc found → length code ≤ pc → record { instructions = found; broken = None } ≡ placement_of code
end_past code n pc found h le = finish code n pc found None h (placed_past n code pc le) (broken_past n code pc le)

pub end_none : (code : List ℕ) (n pc : ℕ) (found : List Placed) → IsSoFar code n pc found → n ≡ 0 → record { instructions = found; broken = None } ≡ placement_of code
end_none code n pc found h e = finish code n pc found None h (rw e (placed_none code pc)) (rw e (broken_none code pc))

pub end_broken : (code : List ℕ) (n k pc : ℕ) (found : List Placed) (f : OpFault) → IsSoFar code n pc found → n ≡ suc k → pc < length code → instr_at code pc ≡ Err f → record { instructions = found; broken = Some pc } ≡ placement_of code
end_broken code n k pc found f h e lt i = finish code n pc found (Some pc) h (rw e (placed_next k code pc (Err f) lt i)) (rw e (broken_next k code pc (Err f) lt i))

pub next : (code : List ℕ) (n k pc : ℕ) (found : List Placed) (i : Instr) → IsSoFar code n pc found → n ≡ suc k → pc < length code → instr_at code pc ≡ Ok i → IsSoFar code k (pc + i.len) (found ++ place pc i ∷ [])
next code n k pc found i h e lt is =
    let more : placed_from n code pc ≡ place pc i ∷ placed_from k code (pc + i.len) = rw e (placed_next k code pc (Ok i) lt is) in
    let broke : broken_from n code pc ≡ broken_from k code (pc + i.len) = rw e (broken_next k code pc (Ok i) lt is) in
    record {
      all = h.all ∙ ap (λ ps. found ++ ps) more ∙ sym (append_assoc found (place pc i ∷ []) (placed_from k code (pc + i.len)));
      broken = h.broken ∙ broke;
    }
