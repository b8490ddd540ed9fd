-- A class of which objects can be made.
use Rattle.std.proofs.Common.{◌≡◌, ℕ, ◌<◌, Bool, true, false, List, length, Option, Some, None, Result, Ok, Err, refl, subst}
use Rattle.std.specs.Prelude.{if◌then◌else◌}
use Rattle.op_table.specs.declared.construct.Construct.TheVariants as constructs
use Rattle.class_hierarchy.specs.World.{World, number_of, is_instantiable}
use Rattle.class_hierarchy.proofs.Cycles.{number_below}
use Rattle.descriptors.specs.Texts.{is_array}
use Rattle.linking.specs.Members.{instantiable, made_of, made_by}

abbrev IsMade : World → ℕ → Type 0
IsMade w c = (c < length w) × (is_instantiable w c ≡ true)

made_if : (w : World) (d c : ℕ) (b : Bool) → d < length w → is_instantiable w d ≡ b → (if b then Ok d else Err constructs.Incompatible) ≡ Ok c → IsMade w c
made_if w d c true inside is e = let same : d ≡ c = cc in subst (λ (x : ℕ). IsMade w x) same (inside, is)
made_if w d c false inside is e = absurd cc

made_at : (w : World) (name : List ℕ) (o : Option ℕ) (c : ℕ) → number_of w name ≡ o → instantiable w o ≡ Ok c → IsMade w c
made_at w name None c at e = absurd cc
made_at w name (Some d) c at e = made_if w d c (is_instantiable w d) (number_below w name d at) refl e

made_plain : (w : World) (name : List ℕ) (b : Bool) (c : ℕ) → (if b then Err constructs.MissingClass else instantiable w (number_of w name)) ≡ Ok c → IsMade w c
made_plain w name true c e = absurd cc
made_plain w name false c e = made_at w name (number_of w name) c refl e

made_named : (w : World) (name : List ℕ) (c : ℕ) → made_of w name ≡ Ok c → IsMade w c
unfolding made_of
made_named w name c e = made_plain w name (is_array name) c e

-- a class that an instruction makes objects of is one of the world, and objects can be made of it
pub made_there : (w : World) (name : Option (List ℕ)) (c : ℕ) → made_by w name ≡ Ok c → (c < length w) × (is_instantiable w c ≡ true)
made_there w None c e = absurd cc
made_there w (Some name) c e = made_named w name c e
