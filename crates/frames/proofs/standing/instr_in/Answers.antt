use Rattle.std.proofs.Common.{◌≡◌, ℕ, ◌+◌, ◌≤◌, List, length, Option, Some, None, sym, subst, arith, ◌∙◌, ap}
use Rattle.std.specs.Prelude.{IfSome}
use Rattle.std.specs.Result.{result_ok}
use Rattle.op_table.specs.declared.instr.Instr.{Instr}
use Rattle.op_table.specs.Grammar.{instr_at}
use Rattle.frames.proofs.Behind.{instr_within}
use Rattle.frames.proofs.standing.instr_in.Goals as goal

at_most : (o : Option Instr) (pc n m : ℕ) → IfSome o (λ (i : Instr). pc + i.len ≤ n) → n ≤ m → IfSome o (λ (i : Instr). pc + i.len ≤ m)
at_most None pc n m within few = tt
at_most (Some i) pc n m within few = omega (arith, within, few)

pub returns-then-pc-len-clause-within : goal.returns-then-pc-len-clause-within
returns-then-pc-len-clause-within c =
    let bytes = c.args.code.now.bytes in
    let read : c.ok.result ≡ result_ok (instr_at bytes c.args.pc) =
    c.ok.ensures.value ∙ ap result_ok c.decode.ensures ∙ ap (λ (b : List ℕ). result_ok (instr_at b c.args.pc)) c.as_slice.ensures in
    at_most c.ok.result c.args.pc (length bytes) 65535 (subst (λ (o : Option Instr). IfSome o (λ (i : Instr). c.args.pc + i.len ≤ length bytes)) (sym read) (instr_within bytes c.args.pc)) c.requires
