use Rattle.std.proofs.Common.{◌≡◌, ℕ, zero, suc, ◌+◌, ◌<◌, ◌≤◌, ◌++◌, ◌∷◌, [], ◌∙◌, sym, refl, subst, replicate, List, Bool, false, arith}
use Rattle.std.proofs.lemmas.List.{append_assoc, append-nil}
use Rattle.null_flow.proofs.effects.add_unknown.Goals as goal

next : (n count left : ℕ) (xs ys zs : List Bool) → n + left ≡ count → n < count → xs ++ replicate left false ≡ zs → ys ≡ xs ++ false ∷ [] → (rest : ℕ) × (n + 1 + rest ≡ count) × (ys ++ replicate rest false ≡ zs)
next n count zero xs ys zs e h s p = absurd (omega (arith, e))
next n count (suc left) xs ys zs e h s p =
    (left, omega (arith, e), subst (λ vs. vs ++ replicate left false ≡ zs) (sym p) (append_assoc xs (false ∷ []) (replicate left false) ∙ s))

none : (n count left : ℕ) (xs zs : List Bool) → n + left ≡ count → count ≤ n → xs ++ replicate left false ≡ zs → xs ≡ zs
none n count zero xs zs e h s = sym (append-nil xs) ∙ s
none n count (suc left) xs zs e h s = absurd (omega (arith, e))

pub loop-init : goal.loop-init
loop-init c = (c.args.count, omega arith, refl)

pub loop-preserved : goal.loop-preserved
loop-preserved c = let i = c.loop.invariant in next c.loop.counter c.args.count i.0 c.loop.flags.items c.push.new.self.items (c.args.flags.now.items ++ replicate c.args.count false) i.1 c.loop-test.true i.2 c.in_ok-push.ensures.items

pub returns : goal.returns
returns c = let i = c.loop.invariant in none c.loop.counter c.args.count i.0 c.loop.flags.items (c.args.flags.now.items ++ replicate c.args.count false) i.1 c.loop-test.false i.2
