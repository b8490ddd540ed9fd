use Rattle.std.proofs.Common.{ℕ, ◌<◌, ◌-◌, ◌++◌, ◌∙◌, List, length, drop, get_or, map, ap}
use Rattle.std.proofs.lemmas.List.{take_rest}
use Rattle.std.proofs.lemmas.List.Elements.{All-drop, All-take}
use Rattle.class_reader.specs.declared.class.Field.{Field}
use Rattle.class_reader.specs.declared.class.ClassRecord.{ClassRecord}
use Rattle.world.specs.declared.member.MemberId.{MemberId}
use Rattle.frames.specs.Heap.{default_of, own_fields, new_fields}
use Rattle.object_steps.proofs.NewFields.{fields_next}
use Rattle.object_steps.proofs.objects.new_fields.Goals as goal

pub loop-rest-preserved : goal.loop-rest-preserved
loop-rest-preserved c =
    let w = c.args.world.now in
    let rest = c.loop-rest.rest.now in
    let fs = c.loop-rest.fields.items in (
      fields_next w fs c.add_fields.new.fields.items (new_fields w c.args.class) rest _ c.in-len1-up.len_at_least (take_rest rest 1)
          (c.in_ok-add_fields.ensures
          ∙ ap (λ (own : List Field). fs ++ map (λ (f : MemberId × List ℕ). (f.0, default_of f.1)) (own_fields (get_or rest 0 0) 0 own))
          (c.as_slice.ensures ∙ ap (λ (r : ClassRecord). r.fields) c.record_at.ensures.same))
          c.loop-rest.invariant.0,
      All-take (λ (n : ℕ). n < length w) (length rest - 1) (drop 1 rest) (All-drop (λ (n : ℕ). n < length w) 1 rest c.loop-rest.invariant.1),
    )
