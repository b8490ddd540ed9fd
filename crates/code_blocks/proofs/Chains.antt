-- The instructions of code stand one behind another.
use Rattle.std.proofs.Common.{◌≡◌, ◌⊎◌, inl, inr, ℕ, zero, suc, ◌+◌, ◌<◌, ◌≤◌, List, [], ◌∷◌, length, Some, None, arith, refl, sym, ap, subst, ◌∙◌}
use Rattle.std.specs.Prelude.{slice_get, Contains, Result, Ok, Err}
use Rattle.std.proofs.lemmas.Bool.{cases_lt}
use Rattle.common_laws.proofs.Members.{contains_head, contains_tail, contains_cases, contains_none}
use Rattle.op_table.specs.declared.instr.Instr.{Instr}
use Rattle.op_table.specs.declared.instr.OpFault.{OpFault}
use Rattle.op_table.specs.Grammar.{instr_at}
use Rattle.op_table.specs.Laws.{InstrsFit}
use Rattle.code_blocks.specs.declared.instruction.Placed.{Placed}
use Rattle.code_blocks.specs.Placing.{placed_from, broken_from}
use Rattle.code_blocks.proofs.Placings.{placed_past, placed_none, placed_next, broken_next}

-- instructions one behind another from the pc on
abbrev pub Chain : List ℕ → ℕ → List Placed → Type 0
Chain code pc [] = Unit {0}
Chain code pc (p ∷ ps) = (p.pc ≡ pc) × (instr_at code pc ≡ Ok p.instr) × Chain code (pc + p.instr.len) ps

read_cases : (r : Result Instr OpFault) → ((i : Instr) × (r ≡ Ok i)) ⊎ ((f : OpFault) × (r ≡ Err f))
read_cases (Ok i) = inl (i, refl)
read_cases (Err f) = inr (f, refl)

pub chained : (n : ℕ) (code : List ℕ) (pc : ℕ) → Chain code pc (placed_from n code pc)
chained zero code pc = subst (λ ps. Chain code pc ps) (sym (placed_none code pc)) tt
chained (suc n) code pc =
    elim (cases_lt pc (length code)) [
      | inl lt ↦ elim (read_cases (instr_at code pc)) [
        | inl h ↦ subst (λ ps. Chain code pc ps) (sym (placed_next n code pc (Ok h.0) lt h.1)) (refl, h.1, chained n code (pc + h.0.len))
        | inr h ↦ subst (λ ps. Chain code pc ps) (sym (placed_next n code pc (Err h.0) lt h.1)) tt
      ]
      | inr le ↦ subst (λ ps. Chain code pc ps) (sym (placed_past (suc n) code pc le)) tt
    ]

pub chain_first : (code : List ℕ) (pc : ℕ) (ps : List Placed) (p : Placed) → Chain code pc ps → slice_get ps 0 ≡ Some p → p.pc ≡ pc
chain_first code pc [] p h at = let e : None ≡ Some p = at in absurd cc
chain_first code pc (q ∷ ps) p h at = let e : q ≡ p = cc in ap (λ (x : Placed). x.pc) (sym e) ∙ h.0

pub chain_follows : (code : List ℕ) (pc k : ℕ) (ps : List Placed) (p q : Placed) → Chain code pc ps → slice_get ps k ≡ Some p → slice_get ps (suc k) ≡ Some q → q.pc ≡ p.pc + p.instr.len
chain_follows code pc k [] p q h at more = let e : None ≡ Some p = at in absurd cc
chain_follows code pc zero (o ∷ ps) p q h at more =
    let e : o ≡ p = cc in
    chain_first code (pc + o.instr.len) ps q h.2 more ∙ ap (λ x. x + o.instr.len) (sym h.0) ∙ ap (λ (x : Placed). x.pc + x.instr.len) e
chain_follows code pc (suc k) (o ∷ ps) p q h at more = chain_follows code (pc + o.instr.len) k ps p q h.2 at more

pub chain_stands : (code : List ℕ) (pc : ℕ) (ps : List Placed) (p : Placed) → Chain code pc ps → Contains ps p → instr_at code p.pc ≡ Ok p.instr
chain_stands code pc [] p h there = absurd (contains_none p there)
chain_stands code pc (o ∷ ps) p h there =
    elim (contains_cases o ps p there) [
      | inl e ↦ subst (λ (x : Placed). instr_at code x.pc ≡ Ok x.instr) e (ap (λ x. instr_at code x) h.0 ∙ h.1)
      | inr later ↦ chain_stands code (pc + o.instr.len) ps p h.2 later
    ]

-- where nothing is broken something stands at each place up to the end
first_there : (n : ℕ) (code : List ℕ) (pc : ℕ) → length code ≤ pc + n → broken_from n code pc ≡ None → pc < length code → (q : Placed) × Contains (placed_from n code pc) q × (q.pc ≡ pc)
first_there zero code pc le whole lt = absurd (omega arith)
first_there (suc n) code pc le whole lt =
    elim (read_cases (instr_at code pc)) [
      | inl h ↦
          let q : Placed = record { pc = pc; instr = h.0 } in
          (q, subst (λ ps. Contains ps q) (sym (placed_next n code pc (Ok h.0) lt h.1)) (contains_head q (placed_from n code (pc + h.0.len))), refl)
      | inr h ↦ let e : None ≡ Some pc = sym whole ∙ broken_next n code pc (Err h.0) lt h.1 in absurd cc
    ]

-- the place behind an instruction, inside the code, is that of another one
pub chain_next : (n : ℕ) (code : List ℕ) (pc : ℕ) (p : Placed) → InstrsFit → length code ≤ pc + n → broken_from n code pc ≡ None → Contains (placed_from n code pc) p
    → p.pc + p.instr.len < length code → (q : Placed) × Contains (placed_from n code pc) q × (q.pc ≡ p.pc + p.instr.len)
chain_next zero code pc p fit le whole there lt = absurd (contains_none p (subst (λ ps. Contains ps p) (placed_none code pc) there))
chain_next (suc n) code pc p fit le whole there lt =
    elim (cases_lt pc (length code)) [
      | inl inside ↦ elim (read_cases (instr_at code pc)) [
        | inl h ↦
            let o : Placed = record { pc = pc; instr = h.0 } in
            let more : placed_from (suc n) code pc ≡ o ∷ placed_from n code (pc + h.0.len) = placed_next n code pc (Ok h.0) inside h.1 in
            let rest : broken_from n code (pc + h.0.len) ≡ None = sym (broken_next n code pc (Ok h.0) inside h.1) ∙ whole in
            let long : 1 ≤ h.0.len = (fit code pc h.0 h.1).0 in
            elim (contains_cases o (placed_from n code (pc + h.0.len)) p (subst (λ ps. Contains ps p) more there)) [
              | inl same ↦
                  let behind : pc + h.0.len ≡ p.pc + p.instr.len = ap (λ (x : Placed). x.pc + x.instr.len) same in
                  let q = first_there n code (pc + h.0.len) (omega arith) rest (omega arith) in
                  (q.0, subst (λ ps. Contains ps q.0) (sym more) (contains_tail o (placed_from n code (pc + h.0.len)) q.0 q.1), q.2 ∙ behind)
              | inr later ↦
                  let q = chain_next n code (pc + h.0.len) p fit (omega arith) rest later lt in
                  (q.0, subst (λ ps. Contains ps q.0) (sym more) (contains_tail o (placed_from n code (pc + h.0.len)) q.0 q.1), q.2)
            ]
        | inr h ↦ let e : None ≡ Some pc = sym whole ∙ broken_next n code pc (Err h.0) inside h.1 in absurd cc
      ]
      | inr past ↦ absurd (contains_none p (subst (λ ps. Contains ps p) (placed_past (suc n) code pc past) there))
    ]
