-- Groups of words on an operand stack.
use Rattle.std.proofs.Common.{◌≡◌, ℕ, zero, suc, ◌+◌, ◌<◌, List, [], ◌∷◌, drop, refl, ◌∙◌, ap, arith}
use Rattle.std.specs.Prelude.{slice_get}
use Rattle.frames.specs.declared.value.Value.{Value}
use Rattle.frames.specs.declared.value.Value.TheVariants.{Int, Long, Pad, Null, Ref}
use Rattle.frames.specs.Words.{is_whole}
use Rattle.frames.proofs.OnTop.{get_behind}
use Rattle.word_steps.specs.inside.Change.{is_lowest}

whole_lowest : (n : ℕ) (words : List Value) → is_whole (suc n) words ≡ is_lowest (slice_get words n)
whole_lowest zero [] = refl
whole_lowest zero (Int z ∷ words) = refl
whole_lowest zero (Long z ∷ words) = refl
whole_lowest zero (Pad ∷ words) = refl
whole_lowest zero (Null ∷ words) = refl
whole_lowest zero (Ref r ∷ words) = refl
whole_lowest (suc n) [] = refl
whole_lowest (suc n) (w ∷ words) = whole_lowest n words

pub whole_at : (count depth place : ℕ) (stack : List Value) → 0 < count → suc place ≡ depth + count
    → is_whole count (drop depth stack) ≡ is_lowest (slice_get stack place)
whole_at zero depth place stack some at = absurd (omega arith)
whole_at (suc n) depth place stack some at = whole_lowest n (drop depth stack) ∙ ap is_lowest (get_behind depth stack n place (omega arith))
