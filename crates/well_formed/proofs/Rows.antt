-- What an instruction makes is well formed, by cases.
use Rattle.std.proofs.Common.{◌≡◌, ℕ, ◌+◌, ◌<◌, ◌^◌, Bool, true, false, List, ◌∷◌, Option, Some, sym, subst, arith, All, IsTrue, ℤ, pos, negsuc, ◌+ℤ◌}
use Rattle.std.specs.Prelude.{◌==◌}
use Rattle.std.specs.Int.{w32, w64, cast_signed}
use Rattle.std.proofs.lemmas.Bool.{lt-ltb, ltb-true}
use Rattle.std.proofs.lemmas.List.Elements.{All-nil, All-cons, All-head, All-tail, All-set, All-weaker, All-from_recursion, recursion_from_All}
use Rattle.class_pool.specs.declared.constant.Constant.{Constant}
use Rattle.class_pool.specs.declared.constant.Constant.TheVariants as entries
use Rattle.class_pool.specs.Pool.{constant_at, int_of, long_of, class_name_at}
use Rattle.descriptors.specs.Pieces.{parameters_of, result_of}
use Rattle.descriptors.specs.Texts.{words_of_all}
use Rattle.op_table.specs.declared.acts.Action.{Action}
use Rattle.op_table.specs.declared.acts.Call.{Call}
use Rattle.op_table.specs.declared.acts.Width.{Width}
use Rattle.op_table.specs.declared.acts.Width.TheVariants as widths
use Rattle.class_hierarchy.specs.World.{World}
use Rattle.class_hierarchy.specs.Building.{IsWellBuilt}
use Rattle.world.specs.Selection.{method_of}
use Rattle.linking.proofs.Made.{made_there}
use Rattle.frames.specs.declared.value.Value.{Value}
use Rattle.frames.specs.declared.value.Value.TheVariants.{Int, Null, Ref}
use Rattle.frames.specs.declared.frame.Frame.{Frame}
use Rattle.frames.specs.declared.here.Here.{Here}
use Rattle.frames.specs.Words.{pushed, number}
use Rattle.frames.specs.Heap.{Cells}
use Rattle.frames.specs.Standing.{Standing, next_pc}
use Rattle.frames.specs.Outcome.{Outcome, placed_at}
use Rattle.word_steps.specs.Numbers.{fits, wrapped, narrowed}
use Rattle.word_steps.specs.Computed as computed
use Rattle.word_steps.specs.Computed.{Computed}
use Rattle.word_steps.specs.Branches as ways
use Rattle.word_steps.specs.Branches.{Jumps, Tested, tested, same_on, null_on}
use Rattle.object_steps.specs.After.{After, left_at}
use Rattle.steps.specs.Calling.{receiver_words, waiting, new_frame}
use Rattle.steps.specs.Step.{outcome_of}
use Rattle.steps.specs.Row as rows
use Rattle.steps.specs.Row.{Row, RowAt, Called}
use Rattle.steps.proofs.Rows.{outcome_is_row}
use Rattle.well_formed.specs.WellFormed.{IsWord, IsFrame, IsWellFormed, IsOfFiles}
use Rattle.well_formed.specs.Keeping.{KeepsWords, IsKept}
use Rattle.well_formed.proofs.Words.{IsPopped, IsNumber, AreTwo, AreHanded, pushed_all, popped_all, number_all, two_all, shuffled_all, loaded_all, stored_all, taken_all, first_all}
use Rattle.well_formed.proofs.Numbers.{wrapped_fits, cast_fits, shifted_fits, combined_fits, compared_fits, narrowed_keeps}
use Rattle.well_formed.proofs.Pushes.{PushesInRange, standing_pushes}
use Rattle.well_formed.proofs.Statics.{narrowed_word}
use Rattle.well_formed.proofs.Arrays.{IsLeft, Sees, array_left, array_thrown}
use Rattle.well_formed.proofs.Objects.{field_left, field_thrown, object_left, cast_left, cast_thrown}

-- ---- words

number_word : (w : World) (heap : Cells) (width : Width) (z : ℤ) → IsTrue (fits width z) → IsWord w heap (number width z)
number_word w heap widths.Int z is = is
number_word w heap widths.Long z is = is

word_number : (w : World) (heap : Cells) (width : Width) (z : ℤ) → IsWord w heap (number width z) → IsTrue (fits width z)
word_number w heap widths.Int z is = is
word_number w heap widths.Long z is = is

int_fits : (o : Option Constant) (n : ℤ) → int_of o ≡ Some n → IsTrue (fits widths.Int n)
int_fits (Some (entries.Integer bits)) n e =
    let same : cast_signed w32 bits ≡ n = cc in
    subst (λ (z : ℤ). IsTrue (fits widths.Int z)) same (cast_fits widths.Int bits)
int_fits o n e = absurd cc

long_fits : (o : Option Constant) (n : ℤ) → long_of o ≡ Some n → IsTrue (fits widths.Long n)
long_fits (Some (entries.Long bits)) n e =
    let same : cast_signed w64 bits ≡ n = cc in
    subst (λ (z : ℤ). IsTrue (fits widths.Long z)) same (cast_fits widths.Long bits)
long_fits o n e = absurd cc

widened_fits : (z : ℤ) → IsTrue (fits widths.Int z) → IsTrue (fits widths.Long z)
widened_fits (pos n) is = let low : n < 2 ^ 31 = ltb-true n (2 ^ 31) is in lt-ltb n (2 ^ 63) (omega arith)
widened_fits (negsuc n) is = let low : n < 2 ^ 31 = ltb-true n (2 ^ 31) is in lt-ltb n (2 ^ 63) (omega arith)

-- words that an instruction makes
abbrev AreMade : World → Cells → List Value → List Value → Type 0
AreMade w heap locals stack = All (IsWord w heap) locals × All (IsWord w heap) stack

-- a number is put on the words below
result_made : (w : World) (heap : Cells) (locals rest : List Value) (width : Width) (z : ℤ) → All (IsWord w heap) locals → All (IsWord w heap) rest → IsTrue (fits width z)
    → AreMade w heap locals (pushed (number width z) rest)
result_made w heap locals rest width z l r is = (l, pushed_all (IsWord w heap) tt (number width z) rest (number_word w heap width z is) r)

computed_made :
    {pool : List (Option Constant)} {locals stack now after : List Value} {action : Action} {wrapping : Bool} (w : World) (heap : Cells)
    → Computed pool locals stack action wrapping now after → PushesInRange action → All (IsWord w heap) locals → All (IsWord w heap) stack → AreMade w heap now after
computed_made w heap computed.nothing in_range l s = (l, s)
computed_made {stack = stack} w heap computed.null in_range l s = (l, All-cons (IsWord w heap) Null stack tt s)
computed_made {locals = locals} {stack = stack} w heap (computed.int {n = n}) in_range l s = result_made w heap locals stack widths.Int n l s in_range
computed_made {locals = locals} {stack = stack} w heap (computed.long {n = n}) in_range l s = result_made w heap locals stack widths.Long n l s in_range
computed_made {pool = pool} {locals = locals} {stack = stack} w heap (computed.int_constant {i = i} {n = n} is) in_range l s =
    result_made w heap locals stack widths.Int n l s (int_fits (constant_at pool i) n is)
computed_made {pool = pool} {locals = locals} {stack = stack} w heap (computed.long_constant {i = i} {n = n} is) in_range l s =
    result_made w heap locals stack widths.Long n l s (long_fits (constant_at pool i) n is)
computed_made {locals = locals} {stack = stack} w heap (computed.load {kind = kind} {n = n} {value = value} is) in_range l s =
    (l, pushed_all (IsWord w heap) tt value stack (loaded_all (IsWord w heap) tt kind locals n value is l) s)
computed_made {locals = locals} {stack = stack} w heap (computed.store {kind = kind} {n = n} {p = p} {now = now} is to) in_range l s =
    let got : IsPopped (IsWord w heap) p = popped_all (IsWord w heap) tt kind stack p is s in
    (stored_all (IsWord w heap) tt locals n p.value now to got.0 l, got.1)
computed_made {stack = stack} w heap (computed.shuffle {s = moves} {now = now} is) in_range l s = (l, shuffled_all (IsWord w heap) tt moves stack now is s)
computed_made {locals = locals} {stack = stack} w heap (computed.arithmetic {w = width} {p = p} is whole) in_range l s =
    let got : AreTwo (IsWord w heap) width width p = two_all (IsWord w heap) tt width width stack p is s in
    result_made w heap locals p.rest width _ l got.2 (wrapped_fits width _)
computed_made {locals = locals} {stack = stack} w heap (computed.negate {w = width} {p = p} is) in_range l s =
    let got : IsNumber (IsWord w heap) width p = number_all (IsWord w heap) tt width stack p is s in
    result_made w heap locals p.rest width _ l got.1 (wrapped_fits width _)
computed_made {locals = locals} {stack = stack} w heap (computed.shift {s = shift} {w = width} {p = p} is) in_range l s =
    let got : AreTwo (IsWord w heap) width widths.Int p = two_all (IsWord w heap) tt width widths.Int stack p is s in
    result_made w heap locals p.rest width _ l got.2 (shifted_fits shift width p.first _ (word_number w heap width p.first got.0))
computed_made {locals = locals} {stack = stack} w heap (computed.logic {l = logic} {w = width} {p = p} is) in_range l s =
    let got : AreTwo (IsWord w heap) width width p = two_all (IsWord w heap) tt width width stack p is s in
    result_made w heap locals p.rest width _ l got.2 (combined_fits logic width p.first p.second)
computed_made {locals = locals} {stack = stack} w heap (computed.increment {n = n} {k = k} {z = z} is) in_range l s =
    (All-set (IsWord w heap) locals n (Int (wrapped widths.Int (z +ℤ k))) (wrapped_fits widths.Int (z +ℤ k)) l, s)
computed_made {locals = locals} {stack = stack} w heap (computed.int_to_long {p = p} is) in_range l s =
    let got : IsNumber (IsWord w heap) widths.Int p = number_all (IsWord w heap) tt widths.Int stack p is s in
    result_made w heap locals p.rest widths.Long p.number l got.1 (widened_fits p.number got.0)
computed_made {locals = locals} {stack = stack} w heap (computed.long_to_int {p = p} is) in_range l s =
    let got : IsNumber (IsWord w heap) widths.Long p = number_all (IsWord w heap) tt widths.Long stack p is s in
    result_made w heap locals p.rest widths.Int (wrapped widths.Int p.number) l got.1 (wrapped_fits widths.Int p.number)
computed_made {locals = locals} {stack = stack} w heap (computed.narrow {small = small} {p = p} is) in_range l s =
    let got : IsNumber (IsWord w heap) widths.Int p = number_all (IsWord w heap) tt widths.Int stack p is s in
    result_made w heap locals p.rest widths.Int (narrowed small p.number) l got.1 (narrowed_keeps small p.number got.0).0
computed_made {locals = locals} {stack = stack} w heap (computed.compare {p = p} is) in_range l s =
    let got : AreTwo (IsWord w heap) widths.Long widths.Long p = two_all (IsWord w heap) tt widths.Long widths.Long stack p is s in
    result_made w heap locals p.rest widths.Int _ l got.2 (compared_fits p.first p.second)

tested_rest : (w : World) (heap : Cells) (holds : Bool) (rest : List Value) (t : Tested) → tested holds rest ≡ Some t → All (IsWord w heap) rest → All (IsWord w heap) t.rest
tested_rest w heap holds rest t e all =
    let same : rest ≡ t.rest = cc in
    subst (λ (words : List Value). All (IsWord w heap) words) same all

behind_two : (w : World) (heap : Cells) (a b : Value) (rest : List Value) → All (IsWord w heap) (a ∷ b ∷ rest) → All (IsWord w heap) rest
behind_two w heap a b rest all = All-tail (IsWord w heap) b rest (All-tail (IsWord w heap) a (b ∷ rest) all)

same_rest : (w : World) (heap : Cells) (stack : List Value) (t : Tested) → same_on stack ≡ Some t → All (IsWord w heap) stack → All (IsWord w heap) t.rest
same_rest w heap (Null ∷ Null ∷ rest) t e all = tested_rest w heap true rest t e (behind_two w heap Null Null rest all)
same_rest w heap (Null ∷ Ref r ∷ rest) t e all = tested_rest w heap false rest t e (behind_two w heap Null (Ref r) rest all)
same_rest w heap (Ref q ∷ Null ∷ rest) t e all = tested_rest w heap false rest t e (behind_two w heap (Ref q) Null rest all)
same_rest w heap (Ref q ∷ Ref r ∷ rest) t e all = tested_rest w heap (r == q) rest t e (behind_two w heap (Ref q) (Ref r) rest all)
same_rest w heap stack t e all = absurd cc

null_rest : (w : World) (heap : Cells) (stack : List Value) (t : Tested) → null_on stack ≡ Some t → All (IsWord w heap) stack → All (IsWord w heap) t.rest
null_rest w heap (Null ∷ rest) t e all = tested_rest w heap true rest t e (All-tail (IsWord w heap) Null rest all)
null_rest w heap (Ref r ∷ rest) t e all = tested_rest w heap false rest t e (All-tail (IsWord w heap) (Ref r) rest all)
null_rest w heap stack t e all = absurd cc

-- what a jump leaves on the operand stack
jumped_rest : {code : List ℕ} {pc len : ℕ} {stack rest : List Value} {action : Action} {far : ℤ} (w : World) (heap : Cells)
    → Jumps code pc len stack action far rest → All (IsWord w heap) stack → All (IsWord w heap) rest
jumped_rest {stack = stack} w heap (ways.if_zero {p = p} is by) s = (number_all (IsWord w heap) tt widths.Int stack p is s).1
jumped_rest {stack = stack} w heap (ways.if_ints {p = p} is by) s = (let got : AreTwo (IsWord w heap) widths.Int widths.Int p = two_all (IsWord w heap) tt widths.Int widths.Int stack p is s in got.2)
jumped_rest {stack = stack} w heap (ways.if_same {t = t} is by) s = same_rest w heap stack t is s
jumped_rest {stack = stack} w heap (ways.if_null {t = t} is by) s = null_rest w heap stack t is s
jumped_rest w heap ways.goto s = s
jumped_rest {stack = stack} w heap (ways.switch {p = p} is by) s = (number_all (IsWord w heap) tt widths.Int stack p is s).1

-- ---- what is seen

pub sees : (w : World) (at : Here) → IsWellFormed w at → Sees w at
sees w at is = record { stack = All-from_recursion (IsWord w at.heap) at.frame.stack is.frame.stack; statics = is.statics }

pub locals_seen : (w : World) (at : Here) → IsWellFormed w at → All (IsWord w at.heap) at.frame.locals
locals_seen w at is = All-from_recursion (IsWord w at.heap) at.frame.locals is.frame.locals

pub frame_of : (w : World) (heap : Cells) (frame : Frame) → All (IsWord w heap) frame.locals → All (IsWord w heap) frame.stack → IsFrame w heap frame
frame_of w heap frame l s = record { locals = recursion_from_All (IsWord w heap) frame.locals l; stack = recursion_from_All (IsWord w heap) frame.stack s }

-- ---- outcomes that go on

left_kept : (w : World) (pc : ℕ) (at : Here) (a : After) → IsWellFormed w at → IsLeft w at a → IsWellFormed w (left_at pc at a) × KeepsWords w at.heap a.heap
left_kept w pc at a is left =
    let locals : All (IsWord w a.heap) at.frame.locals = All-weaker (IsWord w at.heap) (IsWord w a.heap) left.keeps at.frame.locals (locals_seen w at is) in
    let now : Here = left_at pc at a in
    (record { frame = frame_of w a.heap now.frame locals left.stack; statics = left.statics }, left.keeps)

placed_kept : (w : World) (pc : ℕ) (at : Here) (locals stack : List Value) → IsWellFormed w at → All (IsWord w at.heap) locals → All (IsWord w at.heap) stack
    → IsWellFormed w (placed_at pc at locals stack at.heap) × KeepsWords w at.heap at.heap
placed_kept w pc at locals stack is l s =
    let now : Here = placed_at pc at locals stack at.heap in
    (record { frame = frame_of w at.heap now.frame l s; statics = is.statics }, λ v word. word)

-- ---- all instructions

called_kept : (w : World) (s : Standing) (at : Here) (call : Call) (i : ℕ) (caller callee : Frame) → IsWellFormed w at → Called w s at call i caller callee → IsFrame w at.heap caller × IsFrame w at.heap callee
called_kept w s at call i caller callee is called =
    let stack = (sees w at is).stack in
    let words : AreHanded (IsWord w at.heap) called.taken.handed =
    taken_all (IsWord w at.heap) tt (receiver_words call + words_of_all (parameters_of (method_of w called.taken.meant.method).desc)) at.frame.stack called.taken.handed called.taken.takes stack
    in
    let waits : Frame = waiting at called.taken.handed.rest in
    let enters : Frame = new_frame called.target called.code called.taken.handed.words in (
      subst (λ (f : Frame). IsFrame w at.heap f) (sym called.waits) (frame_of w at.heap waits (locals_seen w at is) words.1),
      subst (λ (f : Frame). IsFrame w at.heap f) (sym called.enters)
          (frame_of w at.heap enters (first_all (IsWord w at.heap) tt called.taken.handed.words called.code.max_locals words.0) (All-nil (IsWord w at.heap))),
    )

pub row_kept : {w : World} {s : Standing} {at : Here} {action : Action} {outcome : Outcome} → IsWellBuilt w → IsOfFiles w → IsWellFormed w at → PushesInRange action → Row w s at action outcome → IsKept w at outcome
row_kept {w = w} {s = s} {at = at} well files is in_range (rows.computes {locals = locals} {stack = stack} c room) =
    let made = computed_made w at.heap c in_range (locals_seen w at is) (sees w at is).stack in
    placed_kept w (next_pc s at) at locals stack is made.0 made.1
row_kept well files is in_range (rows.divides by) = tt
row_kept {w = w} {at = at} well files is in_range (rows.jumps {stack = stack} {pc = pc} j to room) =
    placed_kept w pc at at.frame.locals stack is (locals_seen w at is) (jumped_rest w at.heap j (sees w at is).stack)
row_kept {w = w} {s = s} {at = at} well files is in_range (rows.arrays {a = a} c room) = left_kept w (next_pc s at) at a is (array_left (sees w at is) c)
row_kept {w = w} {s = s} {at = at} well files is in_range (rows.fields {a = a} c room) = left_kept w (next_pc s at) at a is (field_left well files (sees w at is) c)
row_kept {w = w} {s = s} {at = at} well files is in_range (rows.casts {a = a} c room) = left_kept w (next_pc s at) at a is (cast_left (sees w at is) c)
row_kept well files is in_range (rows.arrays_throw t) = array_thrown t
row_kept well files is in_range (rows.fields_throw t) = field_thrown t
row_kept well files is in_range (rows.casts_throw t) = cast_thrown t
row_kept {w = w} {s = s} {at = at} well files is in_range (rows.creates {i = i} {c = c} means room) =
    let made = made_there w (class_name_at s.class.pool i) c means in
    left_kept w (next_pc s at) at _ is (object_left well files at c (sees w at is) made.0 made.1)
row_kept {w = w} {s = s} {at = at} well files is in_range (rows.enters {call = call} {i = i} {caller = caller} {callee = callee} called) = called_kept w s at call i caller callee is called
row_kept well files is in_range (rows.null_receiver called) = tt
row_kept {w = w} {s = s} {at = at} well files is in_range (rows.returns {kind = kind} {p = p} top typed) =
    let got : IsPopped (IsWord w at.heap) p = popped_all (IsWord w at.heap) tt kind at.frame.stack p top (sees w at is).stack in
    narrowed_word w at.heap (result_of s.method.desc) p.value got.0
row_kept well files is in_range (rows.returns_nothing r) = tt
row_kept well files is in_range (rows.null_thrown r) = tt
row_kept {w = w} {at = at} well files is in_range (rows.given {r = r} {rest = rest} top) =
    All-head (IsWord w at.heap) (Ref r) rest (subst (λ (words : List Value). All (IsWord w at.heap) words) top (sees w at is).stack)
row_kept well files is in_range rows.stops = tt

at_kept : {w : World} {at : Here} {outcome : Outcome} → IsWellBuilt w → IsOfFiles w → IsWellFormed w at → RowAt w at outcome → IsKept w at outcome
at_kept well files is (rows.nowhere none) = tt
at_kept {w = w} {at = at} well files is (rows.stands s stands row) = row_kept well files is (standing_pushes w at.frame s files stands) row

-- what each instruction makes of what is well formed is well formed
pub instruction_kept : (w : World) (at : Here) → IsWellBuilt w → IsOfFiles w → IsWellFormed w at → IsKept w at (outcome_of w at)
instruction_kept w at well files is = at_kept well files is (outcome_is_row w at)
