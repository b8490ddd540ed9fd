-- Which values can be arguments.
use Rattle.std.proofs.Common.{◌≡◌, ◌≢◌, ◌↔◌, ℕ, ◌<◌, List, true, false, length, refl, sym, arith, subst}
use Rattle.class_hierarchy.specs.World.{World}
use Rattle.frames.specs.declared.value.Value.{Value}
use Rattle.frames.specs.declared.value.Value.TheVariants.{Int, Long, Pad, Null, Ref}
use Rattle.entries.specs.declared.survey.Survey.{Survey}
use Rattle.frames.specs.Heap.{Cells}
use Rattle.descriptors.specs.Texts.{is_class}
use Rattle.entries.specs.inside.Cells.{agrees}
use Rattle.entries.specs.inside.Survey.{IsSurvey, AllPass}
use Rattle.entries.specs.Entering.{IsSound}
use Rattle.entries.proofs.Objects.{agreeing_is}
use Rattle.entries.proofs.Reaching.{reference_inside, sound_is}

inside : (w : World) (heap : Cells) (type : List ℕ) (r : ℕ) → agrees w heap type (Ref r) ≡ true → r < length heap
inside w heap type r agree = reference_inside w heap type r ((agreeing_is w heap type (Ref r)).0 agree).0

pub rooted : (w : World) (heap : Cells) (s : Survey) (type : List ℕ) (value : Value) (r : ℕ) → IsSurvey w heap s → value ≡ Ref r → agrees w heap type value ≡ true → r < length s.graph
rooted w heap s type value r is same agree =
    let at : r < length heap = inside w heap type r (subst (λ (v : Value). agrees w heap type v ≡ true) same agree) in
    omega (arith, is.graph.nodes)

pub not_sound : (w : World) (heap : Cells) (type : List ℕ) (value : Value) → agrees w heap type value ≡ false → IsSound w heap type value → ⊥
not_sound w heap type value other sound = (let agree : agrees w heap type value ≡ true = (agreeing_is w heap type value).1 sound.agrees in absurd cc)

reference_is : (w : World) (heap : Cells) (s : Survey) (type : List ℕ) (r : ℕ) → IsSurvey w heap s → agrees w heap type (Ref r) ≡ true → AllPass (is_class type) s.graph s.marks.items r ↔ IsSound w heap type (Ref r)
reference_is w heap s type r is agree =
    let both = sound_is w heap s (is_class type) r is (inside w heap type r agree) in (
      λ all. record { agrees = (agreeing_is w heap type (Ref r)).0 agree; held = (both.0 all).0; acyclic = (both.0 all).1 },
      λ sound. both.1 (sound.held, sound.acyclic),
    )

pub sound_reference : (w : World) (heap : Cells) (s : Survey) (type : List ℕ) (value : Value) (r : ℕ) → IsSurvey w heap s → value ≡ Ref r → agrees w heap type value ≡ true → AllPass (is_class type) s.graph s.marks.items r ↔ IsSound w heap type value
sound_reference w heap s type value r is same agree =
    subst (λ (v : Value). AllPass (is_class type) s.graph s.marks.items r ↔ IsSound w heap type v) (sym same)
    (reference_is w heap s type r is (subst (λ (v : Value). agrees w heap type v ≡ true) same agree))

pub sound_other : (w : World) (heap : Cells) (type : List ℕ) (value : Value) → ((r : ℕ) → value ≢ Ref r) → agrees w heap type value ≡ true → IsSound w heap type value
sound_other w heap type (Int n) other agree = record { agrees = (agreeing_is w heap type (Int n)).0 agree; held = tt; acyclic = tt }
sound_other w heap type (Long n) other agree = record { agrees = (agreeing_is w heap type (Long n)).0 agree; held = tt; acyclic = tt }
sound_other w heap type Pad other agree = record { agrees = (agreeing_is w heap type Pad).0 agree; held = tt; acyclic = tt }
sound_other w heap type Null other agree = record { agrees = (agreeing_is w heap type Null).0 agree; held = tt; acyclic = tt }
sound_other w heap type (Ref r) other agree = absurd (other r refl)
