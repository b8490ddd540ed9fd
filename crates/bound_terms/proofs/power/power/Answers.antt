use Rattle.std.proofs.Common.{◌≡◌, ◌^◌, ℕ, sym, subst, arith}
use Rattle.bound_terms.proofs.Growth.{one_pow, power_big}
use Rattle.bound_terms.proofs.power.power.Goals as goal

-- src/power.rt:13:9
pub returns-then-b-eq1 : goal.returns-then-b-eq1
returns-then-b-eq1 c =
    let b = c.if-b-eq1.true in
    let e : c.args.b ^ c.args.n ≡ 1 = let P : ℕ → Type 0 = λ x. x ^ c.args.n ≡ 1 in subst P (sym b) (one_pow c.args.n) in
    (omega (arith, e), sym e)

-- src/power.rt:16:9
pub returns-then-n-ge128 : goal.returns-then-n-ge128
returns-then-n-ge128 c = λ h. omega (arith, h, power_big c.args.b c.args.n (omega (arith, c.if-b-eq1.false, c.requires)) c.if-n-ge128.true)
