-- Lists of kinds, place by place: what is made of lists that lie below others lies below what is made of those.
use Rattle.std.proofs.Common.{◌≡◌, ℕ, zero, suc, Bool, true, false, List, [], ◌∷◌, ◌++◌, length, take, drop, set, get_or, refl, ap}
use Rattle.std.specs.Prelude.{if◌then◌else◌}
use Rattle.slot_facts.specs.declared.kind.Kind.{Kind}
use Rattle.slot_facts.specs.declared.kind.Kind.TheVariants as kinds
use Rattle.kind_frames.proofs.KindOrder.{Below, itself, to_top, null_array, null_object, array_object}
use Rattle.kind_frames.proofs.Pointwise.{Each, none, more}
use Rattle.kind_effects.specs.Types.{kind_of_element, kind_cast}
use Rattle.descriptors.specs.Texts.{is_array}

pub each_length : {xs ys : List Kind} → Each xs ys → length xs ≡ length ys
each_length none = refl
each_length (more b rest) = ap (λ n. suc n) (each_length rest)

pub each_append : {xs ys us vs : List Kind} → Each xs ys → Each us vs → Each (xs ++ us) (ys ++ vs)
each_append none others = others
each_append (more b rest) others = more b (each_append rest others)

pub each_take : {xs ys : List Kind} (n : ℕ) → Each xs ys → Each (take n xs) (take n ys)
each_take zero each = none
each_take (suc n) none = none
each_take (suc n) (more b rest) = more b (each_take n rest)

pub each_drop : {xs ys : List Kind} (n : ℕ) → Each xs ys → Each (drop n xs) (drop n ys)
each_drop zero each = each
each_drop (suc n) none = none
each_drop (suc n) (more b rest) = each_drop n rest

pub each_set : {xs ys : List Kind} {x y : Kind} (n : ℕ) → Below x y → Each xs ys → Each (set xs n x) (set ys n y)
each_set n b none = none
each_set zero b (more c rest) = more b rest
each_set (suc n) b (more c rest) = more c (each_set n b rest)

-- a place that isn't there is Top
pub each_at : {xs ys : List Kind} (n : ℕ) → Each xs ys → Below (get_or xs n kinds.Top) (get_or ys n kinds.Top)
each_at n none = itself
each_at zero (more b rest) = b
each_at (suc n) (more b rest) = each_at n rest

pub each_one : {x y : Kind} → Below x y → Each (x ∷ []) (y ∷ [])
each_one b = more b none

-- ---- kinds made of kinds

reference_below : (array : Bool) (element : List ℕ) → Below (if array then kinds.Arr element else kinds.Obj) kinds.Obj
reference_below true element = array_object
reference_below false element = itself

null_below : (array : Bool) (element : List ℕ) → Below kinds.Null (if array then kinds.Arr element else kinds.Obj)
null_below true element = null_array
null_below false element = null_object

pub element_below : {x y : Kind} → Below x y → Below (kind_of_element x) (kind_of_element y)
element_below itself = itself
element_below to_top = to_top
element_below (null_array {element = type}) = null_below (is_array type) (drop 1 type)
element_below null_object = null_object
element_below (array_object {element = type}) = reference_below (is_array type) (drop 1 type)

-- null lies below each class and each array
pub data IsClass : Kind → Type 0 where
  array : {element : List ℕ} → IsClass (kinds.Arr element)
  object : IsClass kinds.Obj

null_class : {class : Kind} → IsClass class → Below kinds.Null class
null_class array = null_array
null_class object = null_object

cast_of_null : {class : Kind} (y : Kind) → IsClass class → Below kinds.Null (kind_cast class y)
cast_of_null kinds.Int c = null_class c
cast_of_null kinds.Long c = null_class c
cast_of_null kinds.Pad c = null_class c
cast_of_null (kinds.Arr element) c = null_class c
cast_of_null kinds.Obj c = null_class c
cast_of_null kinds.Null c = itself
cast_of_null kinds.Top c = null_class c

cast_to_top : {class : Kind} (x : Kind) → IsClass class → Below (kind_cast class x) class
cast_to_top kinds.Int c = itself
cast_to_top kinds.Long c = itself
cast_to_top kinds.Pad c = itself
cast_to_top (kinds.Arr element) c = itself
cast_to_top kinds.Obj c = itself
cast_to_top kinds.Null c = null_class c
cast_to_top kinds.Top c = itself

pub cast_below : {class x y : Kind} → IsClass class → Below x y → Below (kind_cast class x) (kind_cast class y)
cast_below c itself = itself
cast_below {x = x} c to_top = cast_to_top x c
cast_below c null_array = null_class c
cast_below c null_object = null_class c
cast_below c array_object = itself
