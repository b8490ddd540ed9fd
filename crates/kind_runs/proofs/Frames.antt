-- Frames of kinds: in what order, and behind an instruction.
use Rattle.std.proofs.Common.{◌≡◌, ℕ, ◌+◌, ◌-◌, true, List, ◌++◌, length, take, drop, replicate, reverse, sym, ap, subst, ◌∙◌, arith, ℤ, pos, ◌+ℤ◌, ◌-ℤ◌, Option}
use Rattle.std.proofs.lemmas.Int.{ints}
use Rattle.std.proofs.lemmas.List.{length-append, length-reverse, reverse-append, append_assoc}
use Rattle.class_pool.specs.declared.constant.Constant.{Constant}
use Rattle.op_table.specs.declared.acts.Action.{Action}
use Rattle.slot_facts.specs.declared.kind.Kind.{Kind}
use Rattle.slot_facts.specs.declared.kind.Kind.TheVariants as kinds
use Rattle.kind_frames.specs.declared.fact.KindFrame.{KindFrame}
use Rattle.kind_frames.specs.declared.fact.KindFact.{KindFact}
use Rattle.kind_frames.specs.declared.fact.KindFact.TheVariants as facts
use Rattle.kind_frames.specs.Frames.{fact_below}
use Rattle.kind_frames.proofs.Lattice.{frame_is}
use Rattle.kind_effects.specs.Effects.{pops, pushed, locals_after}
use Rattle.kind_effects.specs.Frames.{top_words, below_words, missing, locals_of, stack_of, popped, pushed_on, height_below, frame_after, most_words, IsFact}
use Rattle.kind_effects.proofs.Changes.{locals_length}
use Rattle.frames.specs.declared.value.Value.{Value}
use Rattle.frames.specs.declared.frame.Frame.{Frame}
use Rattle.frames.specs.Heap.{Cells}
use Rattle.frames.specs.Kept.{KeepsHeap}
use Rattle.kind_runs.specs.Meaning.{HaveKinds, IsOfKinds, IsAsKnown}
use Rattle.kind_runs.proofs.Places.{above_have, have_stay, have_length, have_append, have_front, have_back}

-- ---- the order

known_above : {heap : Cells} {locals : ℕ} {a b : KindFrame} {frame : Frame} → IsFact locals (facts.Known a) → IsFact locals (facts.Known b) → fact_below (facts.Known a) (facts.Known b) ≡ true
    → IsOfKinds heap locals a frame → IsOfKinds heap locals b frame
known_above {locals = locals} {a = a} {b = b} p q below is =
    let both = frame_is locals most_words a b p.0 q.0 below in
    record { many = is.many; height = sym both.0 ∙ is.height; words = above_have both.1 is.words }

pub facts_above : (heap : Cells) (locals : ℕ) (a b : KindFact) (frame : Frame) → IsFact locals a → IsFact locals b → fact_below a b ≡ true → IsAsKnown heap locals a frame → IsAsKnown heap locals b frame
facts_above heap locals facts.Unreached b frame p q below is = absurd is
facts_above heap locals (facts.Known a) facts.Unreached frame p q below is = absurd cc
facts_above heap locals (facts.Known a) (facts.Known b) frame p q below is = known_above p q below is
facts_above heap locals (facts.Known a) facts.Mixed frame p q below is = is.many
facts_above heap locals facts.Mixed facts.Unreached frame p q below is = absurd cc
facts_above heap locals facts.Mixed (facts.Known b) frame p q below is = absurd cc
facts_above heap locals facts.Mixed facts.Mixed frame p q below is = is

-- ---- heaps

pub fact_stays : (before now : Cells) (locals : ℕ) (fact : KindFact) (frame : Frame) → KeepsHeap before now → IsAsKnown before locals fact frame → IsAsKnown now locals fact frame
fact_stays before now locals facts.Unreached frame keeps is = is
fact_stays before now locals (facts.Known known) frame keeps is = record { many = is.many; height = is.height; words = have_stay keeps is.words }
fact_stays before now locals facts.Mixed frame keeps is = is

-- ---- what an instruction makes of the words of a frame

-- So many words are popped and others are pushed, of the kinds that its effect says, and so are the locals behind it.
pub record Makes (before now : Cells) (pool : List (Option Constant)) (action : Action) (locals stack after words : List Value) : Type 0 where
  pub top : List Value
  pub rest : List Value
  pub new : List Value
  pub takes : stack ≡ top ++ rest
  pub count : length top ≡ pops pool action
  pub leaves : words ≡ new ++ rest
  pub keeps : KeepsHeap before now
  pub pushes : (ks us : List Kind) → HaveKinds before ks locals → HaveKinds before us (reverse top) → HaveKinds now (pushed pool action ks us) (reverse new)
  pub stores : (ks us : List Kind) → HaveKinds before ks locals → HaveKinds before us (reverse top) → HaveKinds now (locals_after action ks us) after

down_by : (m n : ℕ) → pos (m + n) -ℤ pos n ≡ pos m
down_by m n = omega (arith, ints)

up_by : (m n : ℕ) → pos m +ℤ pos n ≡ pos (m + n)
up_by m n = omega (arith, ints)

-- the words of a stack that has so many on top, from the bottom
top_there : (ks : List Kind) (n m : ℕ) → length ks ≡ m + n → top_words n ks ≡ drop m ks
top_there ks n m e =
    let no : n - length ks ≡ 0 = omega (arith, e) in
    let at : length ks - n ≡ m = omega (arith, e) in
    ap (λ (k : ℕ). replicate k kinds.Top ++ drop (length ks - n) ks) no ∙ ap (λ (k : ℕ). drop k ks) at

below_there : (ks : List Kind) (n m : ℕ) → length ks ≡ m + n → below_words n ks ≡ take m ks
below_there ks n m e = let at : length ks - n ≡ m = omega (arith, e) in ap (λ (k : ℕ). take k ks) at

-- where words enough are there, all that are pushed are kept
none_missing : (h : ℤ) (m n : ℕ) (words : List Kind) → h ≡ pos (m + n) → drop (missing (h -ℤ pos n)) words ≡ words
none_missing h m n words e =
    ap (λ (z : ℤ). drop (missing (z -ℤ pos n)) words) e ∙ ap (λ (z : ℤ). drop (missing z) words) (down_by m n)

module _ {before now : Cells} {pool : List (Option Constant)} {action : Action} {locals : ℕ} {known : KindFrame} {frame : Frame} (after : Frame)
    (made : Makes before now pool action frame.locals frame.stack after.locals after.stack) (is : IsOfKinds before locals known frame) where
  fronts : HaveKinds before (locals_of locals known) frame.locals
  fronts = have_front locals known.slots frame.locals (reverse frame.stack) is.many is.words

  stacks : HaveKinds before (stack_of locals known) (reverse made.rest ++ reverse made.top)
  stacks =
      let back : HaveKinds before (stack_of locals known) (reverse frame.stack) = have_back locals known.slots frame.locals (reverse frame.stack) is.many is.words in
      subst (λ (words : List Value). HaveKinds before (stack_of locals known) words) (ap reverse made.takes ∙ reverse-append made.top made.rest) back

  depth : length (stack_of locals known) ≡ length made.rest + pops pool action
  depth =
      let a = have_length stacks in
      let b = length-append (reverse made.rest) (reverse made.top) in
      let c = length-reverse made.rest in
      let d = length-reverse made.top in
      let e = made.count in
      omega (arith, a, b, c, d, e)

  tops : HaveKinds before (popped pool action locals known) (reverse made.top)
  tops =
      let back = have_back (length made.rest) (stack_of locals known) (reverse made.rest) (reverse made.top) (length-reverse made.rest) stacks in
      subst (λ (ks : List Kind). HaveKinds before ks (reverse made.top)) (sym (top_there (stack_of locals known) (pops pool action) (length made.rest) depth)) back

  belows : HaveKinds before (below_words (pops pool action) (stack_of locals known)) (reverse made.rest)
  belows =
      let front = have_front (length made.rest) (stack_of locals known) (reverse made.rest) (reverse made.top) (length-reverse made.rest) stacks in
      subst (λ (ks : List Kind). HaveKinds before ks (reverse made.rest)) (sym (below_there (stack_of locals known) (pops pool action) (length made.rest) depth)) front

  tall : known.height ≡ pos (length made.rest + pops pool action)
  tall =
      let a = ap length made.takes in
      let b = length-append made.top made.rest in
      let c = made.count in
      let all : length frame.stack ≡ length made.rest + pops pool action = omega (arith, a, b, c) in
      is.height ∙ ap pos all

  news : HaveKinds now (pushed_on pool action locals known) (reverse made.new)
  news = made.pushes (locals_of locals known) (popped pool action locals known) fronts tops

  lengths : length after.locals ≡ locals
  lengths =
      sym (have_length (made.stores (locals_of locals known) (popped pool action locals known) fronts tops))
      ∙ locals_length action (locals_of locals known) (popped pool action locals known) ∙ have_length fronts ∙ is.many

  heights : height_below pool action known +ℤ pos (length (pushed_on pool action locals known)) ≡ pos (length after.stack)
  heights =
      let a = tall in
      let b = ap length made.leaves in
      let c = length-append made.new made.rest in
      let d = have_length news in
      let e = length-reverse made.new in
      let n : length after.stack ≡ length made.rest + length (pushed_on pool action locals known) = omega (arith, b, c, d, e) in
      let down : height_below pool action known ≡ pos (length made.rest) = ap (λ (z : ℤ). z -ℤ pos (pops pool action)) a ∙ down_by (length made.rest) (pops pool action) in
      ap (λ (z : ℤ). z +ℤ pos (length (pushed_on pool action locals known))) down ∙ up_by (length made.rest) (length (pushed_on pool action locals known)) ∙ ap pos (sym n)

  pub frame_made : IsOfKinds now locals (frame_after pool action locals known) after
  unfolding frame_after
  frame_made =
      let stored : HaveKinds now (locals_after action (locals_of locals known) (popped pool action locals known)) after.locals =
      made.stores (locals_of locals known) (popped pool action locals known) fronts tops
      in
      let kept = none_missing known.height (length made.rest) (pops pool action) (pushed_on pool action locals known) tall in
      let words = have_append (have_append stored (have_stay made.keeps belows)) news in
      let text : (after.locals ++ reverse made.rest) ++ reverse made.new ≡ after.locals ++ reverse after.stack =
      append_assoc after.locals (reverse made.rest) (reverse made.new)
      ∙ ap (λ (ws : List Value). after.locals ++ ws) (sym (reverse-append made.new made.rest) ∙ ap reverse (sym made.leaves))
      in
      record {
        many = lengths;
        height = heights;
        words =
            subst (λ (ws : List Value). HaveKinds now (locals_after action (locals_of locals known) (popped pool action locals known) ++ below_words (pops pool action) (stack_of locals known)
            ++ drop (missing (height_below pool action known)) (pushed_on pool action locals known)) ws) text
            (subst (λ (ks : List Kind). HaveKinds now (locals_after action (locals_of locals known) (popped pool action locals known) ++ below_words (pops pool action) (stack_of locals known) ++ ks)
            ((after.locals ++ reverse made.rest) ++ reverse made.new)) (sym kept) words);
      }
