-- What two kinds of a slot have in common, and the order that this gives: Null lies below each array and below Obj, each
-- array below Obj, and all below Top.
use Rattle.std.specs.Prelude.{ℕ, Bool, true, false, List, if◌then◌else◌}
use Rattle.std.specs.Str.{bytes_eq}
use Rattle.slot_facts.specs.declared.kind.Kind.{Kind}
use Rattle.slot_facts.specs.declared.kind.Kind.TheVariants as kinds
use Rattle.slot_facts.specs.Kinds.{is_reference}

-- ---- one kind

abbrev pub is_int : Kind → Bool
is_int kinds.Int = true
is_int kind = false

abbrev pub is_long : Kind → Bool
is_long kinds.Long = true
is_long kind = false

abbrev pub is_pad : Kind → Bool
is_pad kinds.Pad = true
is_pad kind = false

abbrev pub is_array_of : List ℕ → Kind → Bool
is_array_of element (kinds.Arr other) = bytes_eq element other
is_array_of element kind = false

abbrev pub is_object : Kind → Bool
is_object kinds.Obj = true
is_object kind = false

abbrev pub is_null : Kind → Bool
is_null kinds.Null = true
is_null kind = false

abbrev pub is_top : Kind → Bool
is_top kinds.Top = true
is_top kind = false

-- the kinds are equal
abbrev pub is_same : Kind → Kind → Bool
is_same kinds.Int b = is_int b
is_same kinds.Long b = is_long b
is_same kinds.Pad b = is_pad b
is_same (kinds.Arr element) b = is_array_of element b
is_same kinds.Obj b = is_object b
is_same kinds.Null b = is_null b
is_same kinds.Top b = is_top b

-- ---- two kinds

-- an array with Null is the array, with another array or an object an object
abbrev pub with_array : List ℕ → Kind → Kind
with_array element kinds.Null = kinds.Arr element
with_array element (kinds.Arr other) = if bytes_eq element other then kinds.Arr element else kinds.Obj
with_array element kinds.Obj = kinds.Obj
with_array element kind = kinds.Top

-- Equal kinds join to themselves; Null with an array or an object to that; two arrays of different elements, and an array
-- with an object, to Obj; all else to Top.
abbrev pub joined : Kind → Kind → Kind
joined kinds.Int b = if is_int b then kinds.Int else kinds.Top
joined kinds.Long b = if is_long b then kinds.Long else kinds.Top
joined kinds.Pad b = if is_pad b then kinds.Pad else kinds.Top
joined (kinds.Arr element) b = with_array element b
joined kinds.Obj b = if is_reference b then kinds.Obj else kinds.Top
joined kinds.Null b = if is_reference b then b else kinds.Top
joined kinds.Top b = kinds.Top

-- the first says at least as much as the second
abbrev pub is_below : Kind → Kind → Bool
is_below a b = is_same (joined a b) b
