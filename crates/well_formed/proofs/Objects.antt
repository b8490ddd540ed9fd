-- Instructions on fields, and those that ask what a reference is an instance of, keep what is held.
use Rattle.std.proofs.Common.{◌≡◌, ℕ, ◌<◌, false, true, ◌∷◌, length, Option, Some, None, refl, subst, Contains, pos}
use Rattle.std.proofs.lemmas.List.Elements.{All-cons}
use Rattle.common_laws.proofs.Members.{in_map}
use Rattle.class_pool.specs.Pool.{member_at}
use Rattle.op_table.specs.declared.acts.Action.{Action}
use Rattle.op_table.specs.declared.acts.Kind.TheVariants as kinds
use Rattle.world.specs.declared.member.MemberId.{MemberId}
use Rattle.class_hierarchy.specs.World.{World, is_instantiable}
use Rattle.class_hierarchy.specs.Building.{IsWellBuilt}
use Rattle.frames.specs.declared.value.Value.{Value}
use Rattle.frames.specs.declared.value.Value.TheVariants.{Int, Null, Ref}
use Rattle.frames.specs.declared.heap.Cell.{Cell}
use Rattle.frames.specs.declared.heap.Cell.TheVariants.{Object, Array}
use Rattle.frames.specs.declared.failure.Raised.{Raised}
use Rattle.frames.specs.declared.here.Here.{Here}
use Rattle.frames.specs.Words.{Popped, popped, pushed}
use Rattle.frames.specs.Heap.{Cells, cell_at, value_in, free_number, new_fields, with_cell, with_field, with_member}
use Rattle.frames.specs.Standing.{Standing}
use Rattle.frames.proofs.Keeping.{field_keeps}
use Rattle.word_steps.specs.Narrowing.{narrowed_to}
use Rattle.object_steps.specs.After.{After}
use Rattle.object_steps.specs.Fields.{kind_of_type}
use Rattle.object_steps.specs.FieldCases as rows
use Rattle.object_steps.specs.FieldCases.{IsOfNamed, FieldChange, FieldThrows}
use Rattle.object_steps.specs.CastCases as casts
use Rattle.object_steps.specs.CastCases.{CastChange, CastThrows}
use Rattle.entries.specs.Entry.{Agrees, values_in}
use Rattle.entries.specs.Entering.{IsHeldFrom}
use Rattle.well_formed.specs.WellFormed.{IsWord, IsOfFiles}
use Rattle.well_formed.specs.Keeping.{KeepsWords, IsRaised}
use Rattle.well_formed.proofs.Words.{pushed_all, popped_all}
use Rattle.well_formed.proofs.Fields.{HasType, named_typed, of_objects}
use Rattle.well_formed.proofs.Held.{value_word, value_there, changed_words, field_stays, field_puts, new_word, added_words}
use Rattle.well_formed.proofs.Defaults.{object_held, object_alone}
use Rattle.well_formed.proofs.Statics.{IsTyped, typed_top, narrowed_word, narrowed_agrees, static_word, statics_put}
use Rattle.well_formed.proofs.Arrays.{IsLeft, Sees, all_kept}

-- ---- fields

-- a field's value is one of the object's
field_inside : (at : Option Cell) (m : MemberId) (value : Value) → value_in m at ≡ Some value → Contains (values_in at) value
field_inside None m value e = absurd cc
field_inside (Some (Object class fields)) m value e = in_map (λ (f : MemberId × Value). f.1) fields (m, value) (value_there m fields value e)
field_inside (Some (Array element items)) m value e = absurd cc

module _ {w : World} (well : IsWellBuilt w) (files : IsOfFiles w) where
  pub field_left : {s : Standing} {at : Here} {action : Action} {a : After} → Sees w at → FieldChange w s at action a → IsLeft w at a
  field_left {at = at} sees (rows.gets {r = r} {f = f} {object = object} {value = value} of top is held) =
      let first = popped_all (IsWord w at.heap) tt kinds.Reference at.frame.stack object top sees.stack in
      let from : IsHeldFrom w at.heap (Ref r) = subst (λ (v : Value). IsWord w at.heap v) is.refers first.0 in
      record {
        stack = pushed_all (IsWord w at.heap) tt value object.rest (value_word w at.heap r value from (field_inside (cell_at at.heap r) f.field value held)) first.1;
        statics = sees.statics;
        keeps = λ v word. word;
      }
  field_left {s = s} {at = at} sees (rows.puts {i = i} {r = r} {f = f} {v = v} {object = object} of top below is held) =
      let typed : IsTyped w at.heap f.type at.frame.stack v = typed_top w at.heap f.type at.frame.stack v top in
      let first = popped_all (IsWord w at.heap) tt (kind_of_type f.type) at.frame.stack v typed.top sees.stack in
      let second = popped_all (IsWord w at.heap) tt kinds.Reference v.rest object below first.1 in
      let value : Value = narrowed_to f.type v.value in
      let now : Cells = with_field r f.field value at.heap in
      let agrees : Agrees w at.heap f.type value = narrowed_agrees w at.heap f.type v.value typed.typed first.0 in
      let has : HasType w f.field f.type = named_typed w false (member_at s.class.pool i) f of in
      let keeps : KeepsWords w at.heap now =
      changed_words w at.heap r (with_member f.field value) value (field_keeps r f.field value at.heap) (narrowed_word w at.heap f.type v.value first.0)
      (field_stays w at.heap r f.field f.type value (λ c n t there. (of_objects w c n t files there).typed) has agrees) (field_puts f.field value)
      in
      record { stack = all_kept w at.heap now object.rest keeps second.1; statics = sees.statics; keeps = keeps }
  field_left {at = at} sees (rows.gets_static {f = f} {value = value} of held) = record {
    stack = pushed_all (IsWord w at.heap) tt value at.frame.stack (static_word w at.heap f.field at.statics value sees.statics held) sees.stack;
    statics = sees.statics;
    keeps = λ v word. word;
  }
  field_left {s = s} {at = at} sees (rows.puts_static {i = i} {f = f} {v = v} of top held) =
      let typed : IsTyped w at.heap f.type at.frame.stack v = typed_top w at.heap f.type at.frame.stack v top in
      let first = popped_all (IsWord w at.heap) tt (kind_of_type f.type) at.frame.stack v typed.top sees.stack in
      let has : HasType w f.field f.type = named_typed w true (member_at s.class.pool i) f of in
      record { stack = first.1; statics = statics_put w at.heap f at.frame.stack v at.statics sees.statics has typed first.0; keeps = λ x word. word }

  -- ---- new objects

  pub object_left : (at : Here) (c : ℕ) → Sees w at → c < length w → is_instantiable w c ≡ true
      → IsLeft w at (record { stack = Ref (free_number at.heap) ∷ at.frame.stack; heap = with_cell (Object c (new_fields w c)) at.heap; statics = at.statics })
  object_left at c sees inside made =
      let cell : Cell = Object c (new_fields w c) in
      let now : Cells = with_cell cell at.heap in
      let held = object_held w now c well files inside made in
      let keeps : KeepsWords w at.heap now = added_words w at.heap cell held (object_alone w c) in
      record {
        stack = All-cons (IsWord w now) (Ref (free_number at.heap)) at.frame.stack (new_word w at.heap cell held (object_alone w c)) (all_kept w at.heap now at.frame.stack keeps sees.stack);
        statics = sees.statics;
        keeps = keeps;
      }

pub field_thrown : {w : World} {s : Standing} {at : Here} {action : Action} {what : Raised} → FieldThrows w s at action what → IsRaised w at.heap what
field_thrown (rows.null_get a1 a2 a3) = tt
field_thrown (rows.null_put a1 a2 a3 a4) = tt

-- ---- instances

read_left : (w : World) (at : Here) (p : Popped) (value : Value) → Sees w at → popped kinds.Reference at.frame.stack ≡ Some p → (IsWord w at.heap p.value → IsWord w at.heap value)
    → IsLeft w at (record { stack = pushed value p.rest; heap = at.heap; statics = at.statics })
read_left w at p value sees top word =
    let first = popped_all (IsWord w at.heap) tt kinds.Reference at.frame.stack p top sees.stack in
    record { stack = pushed_all (IsWord w at.heap) tt value p.rest (word first.0) first.1; statics = sees.statics; keeps = λ v is. is }

pub cast_left : {w : World} {s : Standing} {at : Here} {action : Action} {a : After} → Sees w at → CastChange w s at action a → IsLeft w at a
cast_left {w = w} {at = at} sees (casts.null_passes {p = p} of top is) = read_left w at p Null sees top (λ word. tt)
cast_left {w = w} {at = at} sees (casts.passes {r = r} {p = p} of top is instance) = read_left w at p (Ref r) sees top (λ word. subst (λ (v : Value). IsWord w at.heap v) is word)
cast_left {w = w} {at = at} sees (casts.null_is_none {p = p} of top is) = read_left w at p (Int (pos 0)) sees top (λ word. refl)
cast_left {w = w} {at = at} sees (casts.is_one {p = p} of top is instance) = read_left w at p (Int (pos 1)) sees top (λ word. refl)
cast_left {w = w} {at = at} sees (casts.is_none {p = p} of top is instance) = read_left w at p (Int (pos 0)) sees top (λ word. refl)

pub cast_thrown : {w : World} {s : Standing} {at : Here} {action : Action} {what : Raised} → CastThrows w s at action what → IsRaised w at.heap what
cast_thrown (casts.not_passed a1 a2 a3 a4) = tt
