-- Jumps pop what they test, and leave the rest.
use Rattle.std.proofs.Common.{◌≡◌, ℕ, Bool, true, false, List, [], ◌∷◌, ◌++◌, refl, ap, ℤ, Option, Some}
use Rattle.std.specs.Prelude.{◌==◌}
use Rattle.class_pool.specs.declared.constant.Constant.{Constant}
use Rattle.op_table.specs.declared.acts.Action.{Action}
use Rattle.op_table.specs.declared.acts.Width.TheVariants as widths
use Rattle.kind_effects.specs.Effects as effects
use Rattle.kind_effects.specs.Effects.{pops, locals_after}
use Rattle.frames.specs.declared.value.Value.{Value}
use Rattle.frames.specs.declared.value.Value.TheVariants.{Null, Ref}
use Rattle.frames.specs.Heap.{Cells}
use Rattle.frames.proofs.Keeping.{heap_itself}
use Rattle.word_steps.specs.Branches as ways
use Rattle.word_steps.specs.Branches.{Jumps, Tested, tested, same_on, null_on}
use Rattle.kind_runs.proofs.Frames.{Makes}
use Rattle.kind_runs.proofs.Making.{number_top, two_words, two_top, nothing_made}
use Rattle.frames.specs.Words.{pushed, number}

tested_rest : (holds : Bool) (rest : List Value) (t : Tested) → tested holds rest ≡ Some t → rest ≡ t.rest
tested_rest holds rest t e = cc

same_top : (stack : List Value) (t : Tested) → same_on stack ≡ Some t → (a : Value) × (b : Value) × (stack ≡ (a ∷ b ∷ []) ++ t.rest)
same_top (Null ∷ Null ∷ rest) t e = (Null, Null, ap (λ (ws : List Value). Null ∷ Null ∷ ws) (tested_rest true rest t e))
same_top (Null ∷ Ref r ∷ rest) t e = (Null, Ref r, ap (λ (ws : List Value). Null ∷ Ref r ∷ ws) (tested_rest false rest t e))
same_top (Ref q ∷ Null ∷ rest) t e = (Ref q, Null, ap (λ (ws : List Value). Ref q ∷ Null ∷ ws) (tested_rest false rest t e))
same_top (Ref q ∷ Ref r ∷ rest) t e = (Ref q, Ref r, ap (λ (ws : List Value). Ref q ∷ Ref r ∷ ws) (tested_rest (r == q) rest t e))
same_top stack t e = absurd cc

null_top : (stack : List Value) (t : Tested) → null_on stack ≡ Some t → (a : Value) × (stack ≡ (a ∷ []) ++ t.rest)
null_top (Null ∷ rest) t e = (Null, ap (λ (ws : List Value). Null ∷ ws) (tested_rest true rest t e))
null_top (Ref r ∷ rest) t e = (Ref r, ap (λ (ws : List Value). Ref r ∷ ws) (tested_rest false rest t e))
null_top stack t e = absurd cc

pub jump_made : {pool : List (Option Constant)} {code : List ℕ} {pc len : ℕ} {stack rest : List Value} {action : Action} {far : ℤ} (heap : Cells) (locals : List Value)
    → Jumps code pc len stack action far rest → Makes heap heap pool action locals stack locals rest
unfolding pops effects.pushed locals_after
jump_made {stack = stack} heap locals (ways.if_zero {p = p} is by) = nothing_made (pushed (number widths.Int p.number) []) p.rest (number_top widths.Int stack p is) refl (heap_itself heap) (λ ks us. refl) (λ ks us. refl)
jump_made {stack = stack} heap locals (ways.if_ints {p = p} is by) =
    nothing_made (two_words widths.Int widths.Int p.first p.second) p.rest (two_top widths.Int widths.Int stack p is) refl (heap_itself heap) (λ ks us. refl) (λ ks us. refl)
jump_made {stack = stack} heap locals (ways.if_same {t = t} is by) =
    let top = same_top stack t is in
    nothing_made (top.0 ∷ top.1 ∷ []) t.rest top.2 refl (heap_itself heap) (λ ks us. refl) (λ ks us. refl)
jump_made {stack = stack} heap locals (ways.if_null {t = t} is by) =
    let top = null_top stack t is in
    nothing_made (top.0 ∷ []) t.rest top.1 refl (heap_itself heap) (λ ks us. refl) (λ ks us. refl)
jump_made {stack = stack} heap locals ways.goto = nothing_made [] stack refl refl (heap_itself heap) (λ ks us. refl) (λ ks us. refl)
jump_made {stack = stack} heap locals (ways.switch {p = p} is by) = nothing_made (pushed (number widths.Int p.number) []) p.rest (number_top widths.Int stack p is) refl (heap_itself heap) (λ ks us. refl) (λ ks us. refl)
