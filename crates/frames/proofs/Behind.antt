-- The instruction that stands at a place.
use Rattle.std.proofs.Common.{◌≡◌, ℕ, ◌+◌, ◌≤◌, List, length, None, refl, arith}
use Rattle.std.specs.Prelude.{Result, Ok, Err, IfSome}
use Rattle.std.specs.Result.{result_ok}
use Rattle.op_table.specs.declared.instr.Instr.{Instr}
use Rattle.op_table.specs.declared.instr.OpFault.{OpFault}
use Rattle.op_table.specs.Grammar.{instr_at}
use Rattle.op_table.proofs.Agreeing.{instr-fits}

none_by : (bytes : List ℕ) (pc : ℕ) (r : Result Instr OpFault) → instr_at bytes pc ≡ r → length bytes ≤ pc → result_ok r ≡ None
none_by bytes pc (Ok i) is past = let fits = instr-fits bytes pc i is in absurd (omega (arith, fits.0, fits.1, past))
none_by bytes pc (Err fault) is past = refl

-- none stands behind the code
pub none_behind : (bytes : List ℕ) (pc : ℕ) → length bytes ≤ pc → result_ok (instr_at bytes pc) ≡ None
none_behind bytes pc past = none_by bytes pc (instr_at bytes pc) refl past

within_by : (bytes : List ℕ) (pc : ℕ) (r : Result Instr OpFault) → instr_at bytes pc ≡ r → IfSome (result_ok r) (λ (i : Instr). pc + i.len ≤ length bytes)
within_by bytes pc (Ok i) is = (instr-fits bytes pc i is).1
within_by bytes pc (Err fault) is = tt

-- an instruction stands within the code
pub instr_within : (bytes : List ℕ) (pc : ℕ) → IfSome (result_ok (instr_at bytes pc)) (λ (i : Instr). pc + i.len ≤ length bytes)
instr_within bytes pc = within_by bytes pc (instr_at bytes pc) refl
