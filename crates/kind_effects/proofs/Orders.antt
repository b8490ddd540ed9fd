-- The laws of effects.
use Rattle.std.proofs.Common.{◌≡◌, ℕ, ◌+◌, ◌-◌, Bool, true, false, List, ◌++◌, length, take, drop, replicate, pos, neg_ℤ, ◌+ℤ◌, ◌-ℤ◌, refl, ap, subst, ◌∙◌, arith, Option}
use Rattle.std.proofs.lemmas.Int.{ints}
use Rattle.std.proofs.lemmas.Bool.{and_parts}
use Rattle.std.proofs.lemmas.List.{length-take-le, length-drop, length-append}
use Rattle.std.specs.Prelude.{if◌then◌else◌, int_le}
use Rattle.class_pool.specs.declared.constant.Constant.{Constant}
use Rattle.op_table.specs.declared.acts.Action.{Action}
use Rattle.slot_facts.specs.declared.kind.Kind.{Kind}
use Rattle.slot_facts.specs.declared.kind.Kind.TheVariants as kinds
use Rattle.kind_frames.specs.declared.fact.KindFrame.{KindFrame}
use Rattle.kind_frames.specs.declared.fact.KindFact.{KindFact}
use Rattle.kind_frames.specs.declared.fact.KindFact.TheVariants as facts
use Rattle.kind_frames.specs.Frames.{words_in, fact_below}
use Rattle.kind_frames.proofs.Pointwise.{Each, each_itself}
use Rattle.kind_frames.proofs.Lattice.{frame_of, frame_is, below_mixed}
use Rattle.kind_effects.specs.Effects.{pops, pushed, locals_after}
use Rattle.kind_effects.specs.Frames.{top_words, below_words, missing, pushed_on, frame_after, is_within, most_words, limited, fact_after, IsFact}
use Rattle.kind_effects.proofs.Places.{each_length, each_append, each_take, each_drop}
use Rattle.kind_effects.proofs.Heights.{words_kept}
use Rattle.kind_effects.proofs.Changes.{locals_length, locals_each, pushed_each}

-- ---- what is made of a frame is a frame

locals_there : (locals words : ℕ) (slots : List Kind) → length slots ≡ locals + words → length (take locals slots) ≡ locals
locals_there locals words slots e = length-take-le locals slots (omega (arith, e))

stack_there : (locals words : ℕ) (slots : List Kind) → length slots ≡ locals + words → length (drop locals slots) ≡ words
stack_there locals words slots e = length-drop locals slots ∙ omega (arith, e)

below_there : (n : ℕ) (stack : List Kind) → length (below_words n stack) ≡ length stack - n
below_there n stack = length-take-le (length stack - n) stack (omega arith)

three_lengths : (xs ys zs : List Kind) → length (xs ++ ys ++ zs) ≡ length xs + (length ys + length zs)
three_lengths xs ys zs = length-append (xs ++ ys) zs ∙ ap (λ n. n + length zs) (length-append xs ys) ∙ omega arith

pub slots_after :
    (pool : List (Option Constant)) (action : Action) (locals : ℕ) (frame : KindFrame) → length frame.slots ≡ locals + words_in frame.height
    → length (frame_after pool action locals frame).slots ≡ locals + words_in (frame_after pool action locals frame).height
unfolding frame_after
slots_after pool action locals frame e =
    let n = pops pool action in
    let front = take locals frame.slots in
    let stack = drop locals frame.slots in
    let words = top_words n stack in
    let more = pushed pool action front words in
    let kept = drop (missing (frame.height -ℤ pos n)) more in
    let a : length (locals_after action front words) ≡ locals = locals_length action front words ∙ locals_there locals (words_in frame.height) frame.slots e in
    let b : length (below_words n stack) ≡ words_in frame.height - n =
    below_there n stack ∙ ap (λ k. k - n) (stack_there locals (words_in frame.height) frame.slots e) in
    let d : length kept ≡ length more - missing (frame.height -ℤ pos n) = length-drop (missing (frame.height -ℤ pos n)) more in
    three_lengths (locals_after action front words) (below_words n stack) kept
    ∙ (ap (λ k. k + (length (below_words n stack) + length kept)) a ∙ ap (λ k. locals + (k + length kept)) b ∙ ap (λ k. locals + ((words_in frame.height - n) + k)) d)
    ∙ ap (λ k. locals + k) (words_kept frame.height n (length more))

pub within_if :
    (locals : ℕ) (frame : KindFrame) (within : Bool) → is_within frame.height ≡ within → length frame.slots ≡ locals + words_in frame.height
    → IsFact locals (if within then facts.Known frame else facts.Mixed)
within_if locals frame true e slots =
    let parts = and_parts (int_le (neg_ℤ (pos most_words)) frame.height) (int_le frame.height (pos most_words)) e in
    ((slots, let h = parts.1 in omega (arith, ints, h)), let h = parts.0 in omega (arith, ints, h))
within_if locals frame false e slots = (tt, tt)

pub makes_facts :
    (pool : List (Option Constant)) (action : Action) (locals : ℕ) (a : KindFact) → IsFact locals a → IsFact locals (fact_after pool action locals a)
makes_facts pool action locals facts.Unreached p = (tt, tt)
makes_facts pool action locals (facts.Known frame) p =
    let after = frame_after pool action locals frame in
    within_if locals after (is_within after.height) refl (slots_after pool action locals frame p.0.0)
makes_facts pool action locals facts.Mixed p = (tt, tt)

-- ---- the order

top_each : {xs ys : List Kind} (n : ℕ) → Each xs ys → Each (top_words n xs) (top_words n ys)
top_each {xs = xs} {ys = ys} n each =
    let e = each_length each in
    each_append
    (subst (λ k. Each (replicate (n - length xs) kinds.Top) (replicate (n - k) kinds.Top)) e (each_itself (replicate (n - length xs) kinds.Top)))
    (subst (λ k. Each (drop (length xs - n) xs) (drop (k - n) ys)) e (each_drop (length xs - n) each))

below_each : {xs ys : List Kind} (n : ℕ) → Each xs ys → Each (below_words n xs) (below_words n ys)
below_each {xs = xs} {ys = ys} n each = subst (λ k. Each (take (length xs - n) xs) (take (k - n) ys)) (each_length each) (each_take (length xs - n) each)

pub frames_after :
    (pool : List (Option Constant)) (action : Action) (locals : ℕ) (a b : KindFrame) → a.height ≡ b.height → Each a.slots b.slots
    → ((frame_after pool action locals a).height ≡ (frame_after pool action locals b).height) × Each (frame_after pool action locals a).slots (frame_after pool action locals b).slots
unfolding frame_after
frames_after pool action locals a b e each =
    let n = pops pool action in
    let front = each_take locals each in
    let stack = each_drop locals each in
    let words = top_each n stack in
    let more = pushed_each pool action front words in (
      ap (λ h. h -ℤ pos n +ℤ pos (length (pushed_on pool action locals a))) e ∙ ap (λ k. b.height -ℤ pos n +ℤ pos k) (each_length more),
      each_append (each_append (locals_each action front words) (below_each n stack))
          (subst (λ h. Each (drop (missing (a.height -ℤ pos n)) (pushed_on pool action locals a)) (drop (missing (h -ℤ pos n)) (pushed_on pool action locals b))) e
          (each_drop (missing (a.height -ℤ pos n)) more)),
    )

limited_below :
    (a b : KindFrame) → a.height ≡ b.height → Each a.slots b.slots → (within : Bool) → is_within b.height ≡ within
    → fact_below (limited a) (limited b) ≡ true
limited_below a b e each true w = let v : is_within a.height ≡ true = ap is_within e ∙ w in rw (v, w) (frame_of a b e each)
limited_below a b e each false w = let v : is_within a.height ≡ false = ap is_within e ∙ w in rw (v, w) refl

pub keeps_order :
    (pool : List (Option Constant)) (action : Action) (locals : ℕ) (a b : KindFact) → IsFact locals a → IsFact locals b
    → fact_below a b ≡ true → fact_below (fact_after pool action locals a) (fact_after pool action locals b) ≡ true
keeps_order pool action locals facts.Unreached b p q h = refl
keeps_order pool action locals (facts.Known a) facts.Unreached p q h = absurd cc
keeps_order pool action locals (facts.Known a) (facts.Known b) p q h =
    let x = frame_is locals most_words a b p.0 q.0 h in
    let y = frames_after pool action locals a b x.0 x.1 in
    let after = frame_after pool action locals b in
    limited_below (frame_after pool action locals a) after y.0 y.1 (is_within after.height) refl
keeps_order pool action locals (facts.Known a) facts.Mixed p q h = below_mixed (limited (frame_after pool action locals a))
keeps_order pool action locals facts.Mixed facts.Unreached p q h = absurd cc
keeps_order pool action locals facts.Mixed (facts.Known b) p q h = absurd cc
keeps_order pool action locals facts.Mixed facts.Mixed p q h = refl
