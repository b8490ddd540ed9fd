-- Instructions on fields, casts and new objects have the effects on kinds that the table says.
use Rattle.std.proofs.Common.{◌≡◌, inl, inr, ℕ, ◌+◌, Bool, true, false, List, [], ◌∷◌, ◌++◌, length, map, refl, sym, ap, subst, ◌∙◌, arith, Option, Some, None, Result, Ok, Err, All, Contains}
use Rattle.std.specs.Prelude.{if◌then◌else◌}
use Rattle.std.proofs.lemmas.List.{length-append, length-reverse, append_assoc}
use Rattle.common_laws.proofs.Members.{contains_head, contains_tail, contains_cases, contains_none, in_map}
use Rattle.class_pool.specs.declared.constant.Constant.{Constant}
use Rattle.class_pool.specs.Pool.{class_name_at, member_at}
use Rattle.descriptors.specs.Texts.{is_array}
use Rattle.op_table.specs.declared.acts.Action.{Action}
use Rattle.op_table.specs.declared.acts.Action.TheVariants as acts
use Rattle.op_table.specs.declared.acts.Kind.TheVariants as value
use Rattle.op_table.specs.declared.construct.Construct.{Construct}
use Rattle.slot_facts.specs.declared.kind.Kind.{Kind}
use Rattle.slot_facts.specs.declared.kind.Kind.TheVariants as kinds
use Rattle.kind_effects.specs.Types.{kind_of_reference, kinds_of_type, kind_named, kind_cast}
use Rattle.kind_effects.specs.Effects as effects
use Rattle.kind_effects.specs.Effects.{pops, locals_after, lowest, descriptor_in, descriptor_at}
use Rattle.world.specs.declared.member.MemberId.{MemberId}
use Rattle.class_hierarchy.specs.World.{World}
use Rattle.linking.specs.References.{Reference}
use Rattle.linking.specs.Members.{field_by}
use Rattle.frames.specs.declared.value.Value.{Value}
use Rattle.frames.specs.declared.value.Value.TheVariants.{Int, Null, Ref}
use Rattle.frames.specs.declared.heap.Cell.{Cell}
use Rattle.frames.specs.declared.heap.Cell.TheVariants.{Object, Array}
use Rattle.frames.specs.declared.here.Here.{Here}
use Rattle.frames.specs.Words.{Popped, pushed, popped}
use Rattle.frames.specs.Slots.{value_of}
use Rattle.frames.specs.Heap.{Cells, cell_at, value_in, free_number, with_cell, new_fields, is_instance, is_of_type}
use Rattle.frames.specs.Standing.{Standing}
use Rattle.frames.specs.Kept as kept
use Rattle.frames.proofs.Keeping.{heap_itself, field_keeps, cell_keeps, types_keep}
use Rattle.word_steps.specs.Narrowing.{narrowed_to}
use Rattle.object_steps.specs.Classes.{type_named}
use Rattle.object_steps.specs.After.{After}
use Rattle.object_steps.specs.Fields.{NamedField, named, field_named, kind_of_type}
use Rattle.object_steps.specs.FieldCases as rows
use Rattle.object_steps.specs.FieldCases.{IsOfNamed, FieldChange}
use Rattle.object_steps.specs.CastCases as casts
use Rattle.object_steps.specs.CastCases.{CastChange}
use Rattle.entries.specs.Entry.{Agrees, AllAgree, AreStatics, IsHeld, statics_of, values_in}
use Rattle.entries.specs.Entering.{IsHeldFrom}
use Rattle.entries.proofs.Reaching.{one_value}
use Rattle.well_formed.specs.WellFormed.{IsWord, IsOfFiles}
use Rattle.well_formed.proofs.Words.{popped_all}
use Rattle.well_formed.proofs.Fields.{HasType, one_type, named_typed, of_objects, of_statics}
use Rattle.well_formed.proofs.Held.{held_here, value_word, value_there}
use Rattle.well_formed.proofs.Statics.{IsTyped, typed_top, static_word}
use Rattle.kind_runs.specs.Meaning.{HasKind, array, object, no_object, null, any, NamesNoArray}
use Rattle.kind_runs.proofs.Places.{have_at, have_one, have_length}
use Rattle.kind_runs.proofs.Typed.{ValueHas, int_has, typed_has, reference_kind, null_kind}
use Rattle.kind_runs.proofs.Frames.{Makes}
use Rattle.kind_runs.proofs.Making.{tops, top_words, value_made, nothing_made}
use Rattle.kind_runs.proofs.Elements.{reference_top, named_class}

-- ---- what is named

named_type : (class type : List ℕ) (r : Result MemberId Construct) (f : NamedField) → named class type r ≡ Ok f → f.type ≡ type
named_type class type (Err construct) f e = absurd cc
named_type class type (Ok m) f e =
    let is : record { class = class; type = type; field = m } ≡ f = cc in
    sym (ap (λ (x : NamedField). x.type) is)

-- a field is of the type that the member reference says
field_type : (w : World) (static : Bool) (reference : Option Reference) (f : NamedField) → field_named w static reference ≡ Ok f → descriptor_in reference ≡ f.type
field_type w static None f e = absurd cc
field_type w static (Some (tag, class, name, type)) f e = sym (named_type class type (field_by w static (Some (tag, class, name, type))) f e)

-- ---- what is read

field_agrees : (w : World) (heap : Cells) (cell : Option Cell) (m : MemberId) (v : Value) (type : List ℕ) → IsOfFiles w → IsHeld w heap cell → value_in m cell ≡ Some v → HasType w m type → Agrees w heap type v
field_agrees w heap None m v type files held e has = absurd held
field_agrees w heap (Some (Object class fields)) m v type files held e has =
    let there : Contains fields (m, v) = value_there m fields v e in
    let typed = held.no_other m v there in
    let agreed = held.each m typed.0 typed.1 in
    let equal : agreed.0 ≡ v = one_value fields m agreed.0 v held.once agreed.1 there in
    let one : typed.0 ≡ type = one_type w m typed.0 type (of_objects w class m typed.0 files typed.1).typed has in
    subst (λ (t : List ℕ). Agrees w heap t v) one (subst (λ (x : Value). Agrees w heap typed.0 x) equal agreed.2)
field_agrees w heap (Some (Array element items)) m v type files held e has = absurd cc

field_inside : (cell : Option Cell) (m : MemberId) (v : Value) → value_in m cell ≡ Some v → Contains (values_in cell) v
field_inside None m v e = absurd cc
field_inside (Some (Object class fields)) m v e = in_map (λ (f : MemberId × Value). f.1) fields (m, v) (value_there m fields v e)
field_inside (Some (Array element items)) m v e = absurd cc

static_at : (w : World) (m : MemberId) (v : Value) (ts : List (MemberId × List ℕ)) (vs : List (MemberId × Value)) → map (λ (x : MemberId × Value). x.0) vs ≡ map (λ (x : MemberId × List ℕ). x.0) ts
    → AllAgree w [] (map (λ (x : MemberId × List ℕ). x.1) ts) (map (λ (x : MemberId × Value). x.1) vs) → Contains vs (m, v) → (type : List ℕ) × Contains ts (m, type) × Agrees w [] type v
static_at w m v [] [] names agree there = absurd (contains_none (m, v) there)
static_at w m v [] (f ∷ fs) names agree there = absurd agree
static_at w m v (t ∷ ts) [] names agree there = absurd agree
static_at w m v (t ∷ ts) (f ∷ fs) names agree there =
    let name : f.0 ≡ t.0 = cc in
    let others : map (λ (x : MemberId × Value). x.0) fs ≡ map (λ (x : MemberId × List ℕ). x.0) ts = cc in
    elim (contains_cases f fs (m, v) there) [
      | inl is ↦ (
          let first : t.0 ≡ m = sym name ∙ ap (λ (x : MemberId × Value). x.0) is in
          let value_is : f.1 ≡ v = ap (λ (x : MemberId × Value). x.1) is in
          (t.1, subst (λ (n : MemberId). Contains (t ∷ ts) (n, t.1)) first (contains_head t ts), subst (λ (x : Value). Agrees w [] t.1 x) value_is agree.0)
          )
      | inr rest ↦ (let later = static_at w m v ts fs others agree.1 rest in (later.0, contains_tail t ts (m, later.0) later.1, later.2))
    ]

-- a static is of its type, whatever the heap holds
static_typed : (w : World) (heap : Cells) (m : MemberId) (statics : List (MemberId × Value)) (v : Value) (type : List ℕ) → AreStatics w statics → value_of m statics ≡ Some v → HasType w m type → is_of_type w heap type v ≡ true
static_typed w heap m statics v type are e has =
    let at = static_at w m v (statics_of w) statics are.fields are.each (value_there m statics v e) in
    let one : at.0 ≡ type = one_type w m at.0 type (of_statics w m at.0 at.1).typed has in
    types_keep w [] heap type v (λ r. kept.nothing) (subst (λ (t : List ℕ). is_of_type w [] t v ≡ true) one at.2.0)

-- ---- values on top of a stack

typed_count : (w : World) (heap : Cells) (type : List ℕ) (v : Value) → NamesNoArray w → IsWord w heap v → is_of_type w heap type v ≡ true → length (pushed v []) ≡ length (kinds_of_type type)
typed_count w heap type v plain word is = sym (have_length (typed_has w heap type v plain word is) ∙ length-reverse (pushed v []))

put_top : (stack : List Value) (type : List ℕ) (v below : Popped) → popped (kind_of_type type) stack ≡ Some v → popped value.Reference v.rest ≡ Some below → stack ≡ (pushed v.value [] ++ below.value ∷ []) ++ below.rest
put_top stack type v below top next =
    top_words (tops (kind_of_type type) stack v top) ∙ ap (λ (ws : List Value). pushed v.value [] ++ ws) (reference_top v.rest below next) ∙ sym (append_assoc (pushed v.value []) (below.value ∷ []) below.rest)

put_count : (v other : Value) (n : ℕ) → length (pushed v []) ≡ n → length (pushed v [] ++ other ∷ []) ≡ 1 + n
put_count v other n e = let all = length-append (pushed v []) (other ∷ []) in omega (arith, all, e)

-- ---- each instruction on fields

module _ {w : World} (files : IsOfFiles w) (plain : NamesNoArray w) where
  pub field_made : {s : Standing} {at : Here} {action : Action} {a : After} → All (IsWord w at.heap) at.frame.stack → AreStatics w at.statics → FieldChange w s at action a
      → Makes at.heap a.heap s.class.pool action at.frame.locals at.frame.stack at.frame.locals a.stack
  unfolding pops effects.pushed locals_after
  field_made {s = s} {at = at} words statics (rows.gets {i = i} {r = r} {f = f} {object = o} {value = v} of top is held) =
      let first = popped_all (IsWord w at.heap) tt value.Reference at.frame.stack o top words in
      let from : IsHeldFrom w at.heap (Ref r) = subst (λ (x : Value). IsWord w at.heap x) is.refers first.0 in
      let agrees : Agrees w at.heap f.type v =
      field_agrees w at.heap (cell_at at.heap r) f.field v f.type files (held_here w at.heap r from) held (named_typed w false (member_at s.class.pool i) f of)
      in
      let word : IsWord w at.heap v = value_word w at.heap r v from (field_inside (cell_at at.heap r) f.field v held) in
      let has : ValueHas at.heap (kinds_of_type f.type) v = typed_has w at.heap f.type v plain word agrees.0 in
      value_made (o.value ∷ []) o.rest v (reference_top at.frame.stack o top) refl (heap_itself at.heap) (λ ks us. refl)
      (λ ks us k u. subst (λ (t : List ℕ). ValueHas at.heap (kinds_of_type t) v) (sym (field_type w false (member_at s.class.pool i) f of)) has)
  field_made {s = s} {at = at} words statics (rows.puts {i = i} {r = r} {f = f} {v = v} {object = o} of top below is held) =
      let typed : IsTyped w at.heap f.type at.frame.stack v = typed_top w at.heap f.type at.frame.stack v top in
      let first = popped_all (IsWord w at.heap) tt (kind_of_type f.type) at.frame.stack v typed.top words in
      let many : length (pushed v.value []) ≡ length (kinds_of_type (descriptor_at s.class.pool i)) =
      typed_count w at.heap f.type v.value plain first.0 typed.typed ∙ ap (λ (t : List ℕ). length (kinds_of_type t)) (sym (field_type w false (member_at s.class.pool i) f of))
      in
      nothing_made (pushed v.value [] ++ o.value ∷ []) o.rest (put_top at.frame.stack f.type v o typed.top below) (put_count v.value o.value (length (kinds_of_type (descriptor_at s.class.pool i))) many)
      (field_keeps r f.field (narrowed_to f.type v.value) at.heap) (λ ks us. refl) (λ ks us. refl)
  field_made {s = s} {at = at} words statics (rows.gets_static {i = i} {f = f} {value = v} of held) =
      let is : is_of_type w at.heap f.type v ≡ true = static_typed w at.heap f.field at.statics v f.type statics held (named_typed w true (member_at s.class.pool i) f of) in
      let has : ValueHas at.heap (kinds_of_type f.type) v = typed_has w at.heap f.type v plain (static_word w at.heap f.field at.statics v statics held) is in
      value_made [] at.frame.stack v refl refl (heap_itself at.heap) (λ ks us. refl)
      (λ ks us k u. subst (λ (t : List ℕ). ValueHas at.heap (kinds_of_type t) v) (sym (field_type w true (member_at s.class.pool i) f of)) has)
  field_made {s = s} {at = at} words statics (rows.puts_static {i = i} {f = f} {v = v} of top held) =
      let typed : IsTyped w at.heap f.type at.frame.stack v = typed_top w at.heap f.type at.frame.stack v top in
      let first = popped_all (IsWord w at.heap) tt (kind_of_type f.type) at.frame.stack v typed.top words in
      let many : length (pushed v.value []) ≡ length (kinds_of_type (descriptor_at s.class.pool i)) =
      typed_count w at.heap f.type v.value plain first.0 typed.typed ∙ ap (λ (t : List ℕ). length (kinds_of_type t)) (sym (field_type w true (member_at s.class.pool i) f of))
      in
      nothing_made (pushed v.value []) v.rest (top_words (tops (kind_of_type f.type) at.frame.stack v typed.top)) many (heap_itself at.heap) (λ ks us. refl) (λ ks us. refl)

-- ---- casts

null_named : (heap : Cells) (o : Option (List ℕ)) → HasKind heap (kind_named o) Null
null_named heap None = no_object
null_named heap (Some name) = null_kind heap name

cast_null : {heap : Cells} (class kind : Kind) → HasKind heap class Null → HasKind heap (kind_cast class kind) Null
cast_null class kinds.Int is = is
cast_null class kinds.Long is = is
cast_null class kinds.Pad is = is
cast_null class (kinds.Arr element) is = is
cast_null class kinds.Obj is = is
cast_null class kinds.Null is = null
cast_null class kinds.Top is = is

cast_reference : {heap : Cells} {kind : Kind} {r : ℕ} (class : Kind) → HasKind heap kind (Ref r) → HasKind heap class (Ref r) → HasKind heap (kind_cast class kind) (Ref r)
cast_reference class (array at fits) is = is
cast_reference class object is = is
cast_reference class any is = is

named_by : (w : World) (heap : Cells) (r : ℕ) (name : List ℕ) (is_it : Bool) → NamesNoArray w → IsWord w heap (Ref r) → is_array name ≡ is_it → is_instance w (if is_it then name else 76 ∷ name ++ 59 ∷ []) (cell_at heap r) ≡ true
    → HasKind heap (kind_of_reference name) (Ref r)
named_by w heap r name true plain word e is = reference_kind w heap r name plain word is
named_by w heap r name false plain word e is = rw e object

named_kind : (w : World) (heap : Cells) (r : ℕ) (name : List ℕ) → NamesNoArray w → IsWord w heap (Ref r) → is_instance w (type_named name) (cell_at heap r) ≡ true → HasKind heap (kind_of_reference name) (Ref r)
named_kind w heap r name plain word is = named_by w heap r name (is_array name) plain word refl is

pub cast_made : {w : World} {s : Standing} {at : Here} {action : Action} {a : After} → NamesNoArray w → All (IsWord w at.heap) at.frame.stack → CastChange w s at action a
    → Makes at.heap a.heap s.class.pool action at.frame.locals at.frame.stack at.frame.locals a.stack
unfolding pops effects.pushed locals_after
cast_made {s = s} {at = at} plain words (casts.null_passes {i = i} {name = name} {p = p} of top is) =
    value_made (p.value ∷ []) p.rest Null (reference_top at.frame.stack p top) refl (heap_itself at.heap) (λ ks us. refl)
    (λ ks us k u. have_one (cast_null (kind_named (class_name_at s.class.pool i)) (lowest us) (null_named at.heap (class_name_at s.class.pool i))))
cast_made {w = w} {s = s} {at = at} plain words (casts.passes {i = i} {r = r} {name = name} {p = p} of top is instance) =
    let first = popped_all (IsWord w at.heap) tt value.Reference at.frame.stack p top words in
    let word : IsWord w at.heap (Ref r) = subst (λ (x : Value). IsWord w at.heap x) is first.0 in
    let class : HasKind at.heap (kind_named (class_name_at s.class.pool i)) (Ref r) =
    subst (λ (o : Option (List ℕ)). HasKind at.heap (kind_named o) (Ref r)) (sym (named_class w (class_name_at s.class.pool i) name of)) (named_kind w at.heap r name plain word instance)
    in
    value_made (p.value ∷ []) p.rest (Ref r) (reference_top at.frame.stack p top) refl (heap_itself at.heap) (λ ks us. refl)
    (λ ks us k u.
    have_one (cast_reference (kind_named (class_name_at s.class.pool i))
    (subst (λ (x : Value). HasKind at.heap (lowest us) x) is (have_at us (p.value ∷ []) 0 p.value u refl)) class))
cast_made {at = at} plain words (casts.null_is_none {p = p} of top is) = value_made (p.value ∷ []) p.rest (Int _) (reference_top at.frame.stack p top) refl (heap_itself at.heap) (λ ks us. refl) (λ ks us k u. int_has _)
cast_made {at = at} plain words (casts.is_one {p = p} of top is instance) = value_made (p.value ∷ []) p.rest (Int _) (reference_top at.frame.stack p top) refl (heap_itself at.heap) (λ ks us. refl) (λ ks us k u. int_has _)
cast_made {at = at} plain words (casts.is_none {p = p} of top is instance) = value_made (p.value ∷ []) p.rest (Int _) (reference_top at.frame.stack p top) refl (heap_itself at.heap) (λ ks us. refl) (λ ks us k u. int_has _)

-- ---- new objects

pub object_made : {pool : List (Option Constant)} (w : World) (heap : Cells) (locals stack : List Value) (i c : ℕ)
    → Makes heap (with_cell (Object c (new_fields w c)) heap) pool (acts.New i) locals stack locals (Ref (free_number heap) ∷ stack)
unfolding pops effects.pushed locals_after
object_made w heap locals stack i c = value_made [] stack (Ref (free_number heap)) refl refl (cell_keeps (Object c (new_fields w c)) heap) (λ ks us. refl) (λ ks us k u. have_one object)
