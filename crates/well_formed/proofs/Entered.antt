-- Entries are well formed.
use Rattle.std.proofs.Common.{ℕ, List, [], ◌∷◌, sym, subst, All, Contains}
use Rattle.std.proofs.lemmas.List.Elements.{All-nil, All-cons, All-append}
use Rattle.common_laws.proofs.Members.{contains_head, contains_tail}
use Rattle.world.specs.declared.member.MemberId.{MemberId}
use Rattle.class_hierarchy.specs.World.{World, class_at}
use Rattle.frames.specs.declared.value.Value.{Value}
use Rattle.frames.specs.declared.value.Value.TheVariants.{Int, Long, Pad, Null, Ref}
use Rattle.frames.specs.Heap.{Cells, cell_at}
use Rattle.steps.specs.declared.configuration.State.{State}
use Rattle.steps.specs.Calling.{new_frame}
use Rattle.entries.specs.Entry.{AllAgree, IsHeld, Reaches, words_of_value, words_of_values, argument_types, IsEntry}
use Rattle.well_formed.specs.WellFormed.{IsWord, IsConfiguration}
use Rattle.well_formed.proofs.Words.{first_all}
use Rattle.well_formed.proofs.Held.{agreed_word}
use Rattle.well_formed.proofs.Rows.{frame_of}

value_words : (w : World) (heap : Cells) (value : Value) → IsWord w heap value → All (IsWord w heap) (words_of_value value)
value_words w heap (Int n) word = All-cons (IsWord w heap) (Int n) [] word (All-nil (IsWord w heap))
value_words w heap (Long n) word = All-cons (IsWord w heap) (Long n) (Pad ∷ []) word (All-cons (IsWord w heap) Pad [] tt (All-nil (IsWord w heap)))
value_words w heap Pad word = All-cons (IsWord w heap) Pad [] tt (All-nil (IsWord w heap))
value_words w heap Null word = All-cons (IsWord w heap) Null [] tt (All-nil (IsWord w heap))
value_words w heap (Ref r) word = All-cons (IsWord w heap) (Ref r) [] word (All-nil (IsWord w heap))

arguments_words : (w : World) (heap : Cells) (types : List (List ℕ)) (arguments : List Value) → AllAgree w heap types arguments → ((a b : ℕ) → Contains arguments (Ref a) → Reaches heap a b → IsHeld w heap (cell_at heap b))
    → All (IsWord w heap) (words_of_values arguments)
arguments_words w heap [] [] agree held = All-nil (IsWord w heap)
arguments_words w heap [] (value ∷ arguments) agree held = absurd agree
arguments_words w heap (type ∷ types) [] agree held = absurd agree
arguments_words w heap (type ∷ types) (value ∷ arguments) agree held =
    let word : IsWord w heap value = agreed_word w heap type value agree.0.1
    (λ r same. λ b reaches. held r b (subst (λ (v : Value). Contains (value ∷ arguments) v) same (contains_head value arguments)) reaches)
    in
    All-append (IsWord w heap) (words_of_value value) (words_of_values arguments) (value_words w heap value word)
    (arguments_words w heap types arguments agree.1 (λ a b there reaches. held a b (contains_tail value arguments (Ref a) there) reaches))

pub entry_well_formed : (w : World) (m : MemberId) (state : State) → IsEntry w m state → IsConfiguration w state
entry_well_formed w m state is =
    let words : List Value = words_of_values is.arguments in
    let all : All (IsWord w is.heap) words = arguments_words w is.heap (argument_types (class_at w m.class) is.method) is.arguments is.handed.agree is.handed.held in
    subst (λ (s : State). IsConfiguration w s) (sym is.entered)
    (record {
      here = record {
        frame = frame_of w is.heap (new_frame m is.code words) (first_all (IsWord w is.heap) tt words is.code.max_locals all) (All-nil (IsWord w is.heap));
        statics = is.of_world;
      };
      callers = tt;
    })
