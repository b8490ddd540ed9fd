use Rattle.std.proofs.Common.{◌≡◌, ◌∙◌, ◌+◌, ℕ, suc, sym, arith, subst, length, take, Some, List, add-one}
use Rattle.std.specs.Prelude.{slice_get}
use Rattle.entries.specs.Entry.{words_of_value, words_of_values}
use Rattle.entries.specs.Entering.{IsSound}
use Rattle.entries.proofs.Good.{get_some, words_next, bad_room, bad_receiver, bad_sound, good_next, end_is}
use Rattle.entries.proofs.entering.first_bad.Goals as goal

pub returns-then-words-limit : goal.returns-then-words-limit
returns-then-words-limit c =
    let given : slice_get c.args.arguments.now c.loop-i.i ≡ Some c.in-Some.value = sym c.argument_at.ensures ∙ c.in-Some.is in
    let next : length (words_of_values (take (suc c.loop-i.i) c.args.arguments.now)) ≡ length (words_of_values (take c.loop-i.i c.args.arguments.now)) + length (words_of_value c.in-Some.value) = words_next c.loop-i.i c.args.arguments.now c.in-Some.value given in
    bad_room c.args.w.now c.args.heap.now c.args.types.now c.args.method.now c.args.code.now c.args.arguments.now c.loop-i.i (c.loop-i.words + c.words_of.result)
    (omega (arith, next, c.loop-i.invariant.words, c.words_of.ensures.words)) (omega (arith, c.if-words-limit.true, c.limit_of-limit.ensures.limit)) c.loop-i-test.true c.loop-i.invariant.before

pub returns-then-not-is_no_null_receiver : goal.returns-then-not-is_no_null_receiver
returns-then-not-is_no_null_receiver c =
    let given : slice_get c.args.arguments.now c.loop-i.i ≡ Some c.in-Some.value = sym c.argument_at.ensures ∙ c.in-Some.is in
    bad_receiver c.args.w.now c.args.heap.now c.args.types.now c.args.method.now c.args.code.now c.args.arguments.now c.loop-i.i c.in-Some.value given
    (λ fine. (let is = c.is_no_null_receiver.ensures.1 fine in absurd cc)) c.loop-i-test.true c.loop-i.invariant.before

pub returns-then-not-branch : goal.returns-then-not-branch
returns-then-not-branch c =
    let given : slice_get c.args.arguments.now c.loop-i.i ≡ Some c.in-Some.value = sym c.argument_at.ensures ∙ c.in-Some.is in
    bad_sound c.args.w.now c.args.heap.now c.args.types.now c.args.method.now c.args.code.now c.args.arguments.now c.loop-i.i c.index-types-i.result c.in-Some.value
    (get_some c.args.types.now c.loop-i.i c.index-types-i.result c.loop-i-test.true c.index-types-i.is) given
    (λ sound. (let is = c.in_ok-is_sound.ensures.1 (rw c.as_slice.ensures sound) in absurd cc)) c.loop-i-test.true c.loop-i.invariant.before

pub loop-i-preserved : goal.loop-i-preserved
loop-i-preserved c =
    let given : slice_get c.args.arguments.now c.loop-i.i ≡ Some c.in-Some.value = sym c.argument_at.ensures ∙ c.in-Some.is in
    let next : length (words_of_values (take (suc c.loop-i.i) c.args.arguments.now)) ≡ length (words_of_values (take c.loop-i.i c.args.arguments.now)) + length (words_of_value c.in-Some.value) = words_next c.loop-i.i c.args.arguments.now c.in-Some.value given in
    record {
      before = good_next c.args.w.now c.args.heap.now c.args.types.now c.args.method.now c.args.code.now c.args.arguments.now c.loop-i.i (c.loop-i.words + c.words_of.result) c.index-types-i.result c.in-Some.value
          (get_some c.args.types.now c.loop-i.i c.index-types-i.result c.loop-i-test.true c.index-types-i.is) given
          (subst (λ (t : List ℕ). IsSound c.args.w.now c.args.heap.now t c.in-Some.value) c.as_slice.ensures (c.in_ok-is_sound.ensures.0 c.if-not-branch.false))
          (c.is_no_null_receiver.ensures.0 c.if-not-is_no_null_receiver.false)
          (omega (arith, next, c.loop-i.invariant.words, c.words_of.ensures.words)) (omega (arith, c.if-words-limit.false, c.limit_of-limit.ensures.limit)) c.loop-i.invariant.before;
      words = rw add-one (omega (arith, next, c.loop-i.invariant.words, c.words_of.ensures.words));
      few = omega (arith, c.if-words-limit.false, c.limit_of-limit.ensures.few);
    }

pub returns : goal.returns
returns c =
    end_is c.args.w.now c.args.heap.now c.args.types.now c.args.method.now c.args.code.now c.args.arguments.now c.behind_types.result c.behind_types.ensures
    (λ j inside. c.loop-i.invariant.before j (omega (arith, inside, c.loop-i-test.false)))
