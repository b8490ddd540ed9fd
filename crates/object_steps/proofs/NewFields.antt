-- The fields of new objects.
use Rattle.std.proofs.Common.{◌≡◌, ℕ, ◌≤◌, List, [], ◌∷◌, ◌++◌, length, drop, get_or, map, sym, ◌∙◌, ap, arith}
use Rattle.std.specs.List.{flat_map}
use Rattle.std.proofs.lemmas.List.{append_assoc, map-append}
use Rattle.world.specs.declared.member.MemberId.{MemberId}
use Rattle.class_hierarchy.specs.World.{World, class_at}
use Rattle.frames.specs.declared.value.Value.{Value}
use Rattle.frames.specs.Heap.{default_of, own_fields}

-- the fields of the classes, one class after another
pub fields_next : (w : World) (fs gs all : List (MemberId × Value)) (rest later : List ℕ) → 1 ≤ length rest → later ≡ drop 1 rest
    → gs ≡ fs ++ map (λ (f : MemberId × List ℕ). (f.0, default_of f.1)) (own_fields (get_or rest 0 0) 0 (class_at w (get_or rest 0 0)).fields)
    → fs ++ map (λ (f : MemberId × List ℕ). (f.0, default_of f.1)) (flat_map (λ (d : ℕ). own_fields d 0 (class_at w d).fields) rest) ≡ all
    → gs ++ map (λ (f : MemberId × List ℕ). (f.0, default_of f.1)) (flat_map (λ (d : ℕ). own_fields d 0 (class_at w d).fields) later) ≡ all
fields_next w fs gs all [] later some behind added is = absurd (omega (arith, some))
fields_next w fs gs all (c ∷ cs) later some behind added is =
    let own : List (MemberId × List ℕ) = own_fields c 0 (class_at w c).fields in
    let more : List (MemberId × List ℕ) = flat_map (λ (d : ℕ). own_fields d 0 (class_at w d).fields) cs in
    rw (behind, added)
    (append_assoc fs (map (λ (f : MemberId × List ℕ). (f.0, default_of f.1)) own) (map (λ (f : MemberId × List ℕ). (f.0, default_of f.1)) more)
    ∙ ap (λ (ys : List (MemberId × Value)). fs ++ ys) (sym (map-append (λ (f : MemberId × List ℕ). (f.0, default_of f.1)) own more)) ∙ is)
