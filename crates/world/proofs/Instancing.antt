-- Instances, bracket by bracket.
use Rattle.std.proofs.Common.{◌≡◌, ℕ, zero, suc, ◌+◌, ◌-◌, ◌<◌, Bool, true, false, ◌||◌, ◌&&◌, List, [], ◌∷◌, length, drop, Some, None, arith, refl, sym, ap, ◌∙◌}
use Rattle.std.specs.Prelude.{◌==◌, if◌then◌else◌}
use Rattle.std.specs.Str.{bytes_eq}
use Rattle.class_hierarchy.specs.World.{World, object_name}
use Rattle.descriptors.specs.Texts.{is_array, is_reference, name_of}
use Rattle.world.specs.Instances.{elements_of, on_elements, class_instance, is_instance, is_instance_by, is_array_of, are_elements_of}

pub inst_start : (w : World) (n : ℕ) (a b : List ℕ) → is_instance_by w n a b ≡ is_instance_by w (n - 0) a b
inst_start w n a b = let all : n ≡ n - 0 = omega arith in ap (λ k. is_instance_by w k a b) all

pub plain_by : (w : World) (n : ℕ) (a b : List ℕ) → is_array a ≡ false → is_instance_by w n a b ≡ class_instance w a b
unfolding is_instance_by
plain_by w zero a b h = refl
plain_by w (suc n) a b h = rw h refl

pub inst_plain : (w : World) (n : ℕ) (a b : List ℕ) (r : Bool) → r ≡ is_instance_by w n a b → is_array a ≡ false → class_instance w a b ≡ r
inst_plain w n a b r e h = sym (e ∙ plain_by w n a b h)

stop_by : (w : World) (a b : List ℕ) → is_instance_by w 0 a b ≡ class_instance w a b
unfolding is_instance_by
stop_by w a b = refl

pub inst_stop : (w : World) (n : ℕ) (a b : List ℕ) (r : Bool) → n ≡ 0 → r ≡ is_instance_by w n a b → class_instance w a b ≡ r
inst_stop w n a b r z e = sym (e ∙ ap (λ k. is_instance_by w k a b) z ∙ stop_by w a b)

pub array_by : (w : World) (n : ℕ) (a b : List ℕ) → is_array a ≡ true → is_instance_by w (suc n) a b ≡ ((bytes_eq b object_name || bytes_eq b a) || on_elements (is_instance_by w n) (elements_of a b))
unfolding is_instance_by
array_by w n a b h = rw h refl

array_at : (w : World) (total i : ℕ) (a b : List ℕ) (r : Bool) → i < total → r ≡ is_instance_by w (total - i) a b → is_array a ≡ true → r ≡ ((bytes_eq b object_name || bytes_eq b a) || on_elements (is_instance_by w (total - (i + 1))) (elements_of a b))
array_at w total i a b r lt e h =
    let less : total - i ≡ suc (total - (i + 1)) = omega arith in
    e ∙ ap (λ k. is_instance_by w k a b) less ∙ array_by w (total - (i + 1)) a b h

pub inst_own : (w : World) (total i : ℕ) (a b : List ℕ) (r : Bool) → i < total → r ≡ is_instance_by w (total - i) a b → is_array a ≡ true → true ≡ (bytes_eq b object_name || bytes_eq b a) → true ≡ r
inst_own w total i a b r lt e h own =
    sym (array_at w total i a b r lt e h ∙ ap (λ t. t || on_elements (is_instance_by w (total - (i + 1))) (elements_of a b)) (sym own))

others : (w : World) (total i : ℕ) (a b : List ℕ) (r : Bool) → i < total → r ≡ is_instance_by w (total - i) a b → is_array a ≡ true → false ≡ (bytes_eq b object_name || bytes_eq b a) → r ≡ on_elements (is_instance_by w (total - (i + 1))) (elements_of a b)
others w total i a b r lt e h own =
    array_at w total i a b r lt e h ∙ ap (λ t. t || on_elements (is_instance_by w (total - (i + 1))) (elements_of a b)) (sym own)

pub inst_inside : (w : World) (total i : ℕ) (a b x y : List ℕ) (r : Bool) → i < total → r ≡ is_instance_by w (total - i) a b → is_array a ≡ true → false ≡ (bytes_eq b object_name || bytes_eq b a) → Some (x, y) ≡ elements_of a b → r ≡ is_instance_by w (total - (i + 1)) x y
inst_inside w total i a b x y r lt e h own s =
    others w total i a b r lt e h own ∙ ap (λ o. on_elements (is_instance_by w (total - (i + 1))) o) (sym s)

pub inst_none : (w : World) (total i : ℕ) (a b : List ℕ) (r : Bool) → i < total → r ≡ is_instance_by w (total - i) a b → is_array a ≡ true → false ≡ (bytes_eq b object_name || bytes_eq b a) → None ≡ elements_of a b → false ≡ r
inst_none w total i a b r lt e h own s =
    sym (others w total i a b r lt e h own ∙ ap (λ o. on_elements (is_instance_by w (total - (i + 1))) o) (sym s))

-- ---- arrays by their elements

abbrev tests : (List ℕ → List ℕ → Bool) → Bool → Bool → Bool → Bool → Bool → List ℕ → List ℕ → Bool
tests f o p t r s x y = (o || (p && t)) || on_elements f (if p && (r && s) then Some (x, y) else None)

in_order : (f : List ℕ → List ℕ → Bool) (o p t r s : Bool) (x y : List ℕ) → tests f o p t r s x y ≡ (o || (p && (t || (r && (s && f x y)))))
in_order f true p t r s x y = refl
in_order f false false t r s x y = refl
in_order f false true true r s x y = refl
in_order f false true false false s x y = refl
in_order f false true false true false x y = refl
in_order f false true false true true x y = refl

array_goes : (w : World) (e b : List ℕ) → is_array_of w e b ≡ ((bytes_eq b object_name || bytes_eq b (91 ∷ e)) || on_elements (is_instance_by w (length e)) (elements_of (91 ∷ e) b))
unfolding is_instance
array_goes w e b = array_by w (length e) (91 ∷ e) b refl

-- an array is an object, and otherwise what is asked of its elements
pub array_tests : (w : World) (e b : List ℕ) → is_array_of w e b ≡ (bytes_eq b object_name || (is_array b && are_elements_of w e (drop 1 b)))
array_tests w e [] = array_goes w e []
array_tests w e (x ∷ b) =
    array_goes w e (x ∷ b)
    ∙ in_order (is_instance_by w (length e)) (bytes_eq (x ∷ b) object_name) (x == 91) (bytes_eq b e) (is_reference e) (is_reference b) (name_of e) (name_of b)
