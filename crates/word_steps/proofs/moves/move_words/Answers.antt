use Rattle.std.proofs.Common.{◌≡◌, List, [], ◌∷◌, ◌++◌, drop, reverse, Result, Ok, Err, Some, OnOk, IsSome, refl, sym, ◌∙◌, ap, subst}
use Rattle.op_table.specs.declared.acts.Shuffle.{Shuffle}
use Rattle.op_table.specs.declared.acts.Shuffle.TheVariants.{DupX2}
use Rattle.frames.specs.declared.value.Value.{Value}
use Rattle.frames.specs.Words.{shuffled}
use Rattle.word_steps.specs.inside.Change.{word_at}
use Rattle.word_steps.proofs.Changes.{moved}
use Rattle.word_steps.proofs.moves.move_words.Goals as goal

placed_x2 : (s : Shuffle) (stack now words : List Value) (a b c : Value) → IsSome (shuffled s stack) → s ≡ DupX2
    → a ≡ word_at stack 0 → b ≡ word_at stack 1 → c ≡ word_at stack 2 → words ≡ a ∷ c ∷ b ∷ a ∷ []
    → now ≡ reverse words ++ drop 3 stack → shuffled s stack ≡ Some now
placed_x2 s stack now words a b c some is first second third all after =
    subst (λ (k : Shuffle). shuffled k stack ≡ Some now) (sym is)
    (moved DupX2 stack (subst (λ (k : Shuffle). IsSome (shuffled k stack)) is some) ∙ ap Some (rw (after, all, first, second, third) refl))

where_ok : {E : Type 0} {T : Type 0} {P Q : Type 0} (r : Result T E) → (P → Q) → OnOk r P → OnOk r Q
where_ok (Ok x) f p = f p
where_ok (Err e) f p = tt

pub returns-in-DupX2-clause-ok : goal.returns-in-DupX2-clause-ok
returns-in-DupX2-clause-ok c =
    where_ok c.replace-in-DupX2.result
    (placed_x2 c.args.shuffle c.args.stack.now c.replace-in-DupX2.new.self c.as_slice-in-DupX2.result.now c.word-a.result c.word-b.result c.word-c.result
    c.requires c.in-DupX2.is c.word-a.ensures c.word-b.ensures c.word-c.ensures c.as_slice-in-DupX2.ensures)
    c.replace-in-DupX2.ensures.ok
