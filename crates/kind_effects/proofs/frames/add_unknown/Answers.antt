use Rattle.std.proofs.Common.{◌≡◌, ℕ, zero, suc, ◌+◌, ◌<◌, ◌≤◌, ◌++◌, ◌∷◌, [], ◌∙◌, sym, refl, subst, replicate, List, arith}
use Rattle.std.proofs.lemmas.List.{append_assoc, append-nil}
use Rattle.slot_facts.specs.declared.kind.Kind.{Kind}
use Rattle.slot_facts.specs.declared.kind.Kind.TheVariants.{Top}
use Rattle.kind_effects.proofs.frames.add_unknown.Goals as goal

next : (n count left : ℕ) (xs ys zs : List Kind) → n + left ≡ count → n < count → xs ++ replicate left Top ≡ zs → ys ≡ xs ++ Top ∷ [] → (rest : ℕ) × (n + 1 + rest ≡ count) × (ys ++ replicate rest Top ≡ zs)
next n count zero xs ys zs e h s p = absurd (omega (arith, e))
next n count (suc left) xs ys zs e h s p =
    (left, omega (arith, e), subst (λ vs. vs ++ replicate left Top ≡ zs) (sym p) (append_assoc xs (Top ∷ []) (replicate left Top) ∙ s))

none : (n count left : ℕ) (xs zs : List Kind) → n + left ≡ count → count ≤ n → xs ++ replicate left Top ≡ zs → xs ≡ zs
none n count zero xs zs e h s = sym (append-nil xs) ∙ s
none n count (suc left) xs zs e h s = absurd (omega (arith, e))

pub loop-init : goal.loop-init
loop-init c = (c.args.count, omega arith, refl)

pub loop-preserved : goal.loop-preserved
loop-preserved c = let i = c.loop.invariant in next c.loop.counter c.args.count i.0 c.loop.kinds.items c.push.new.self.items (c.args.kinds.now.items ++ replicate c.args.count Top) i.1 c.loop-test.true i.2 c.in_ok-push.ensures.items

pub returns : goal.returns
returns c = let i = c.loop.invariant in none c.loop.counter c.args.count i.0 c.loop.kinds.items (c.args.kinds.now.items ++ replicate c.args.count Top) i.1 c.loop-test.false i.2
