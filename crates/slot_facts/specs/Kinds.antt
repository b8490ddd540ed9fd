-- The kinds of slots.
use Rattle.std.specs.Prelude.{Bool, true, false}
use Rattle.slot_facts.specs.declared.kind.Kind.{Kind}
use Rattle.slot_facts.specs.declared.kind.Kind.TheVariants as kinds

-- a reference or null
abbrev pub is_reference : Kind → Bool
is_reference kinds.Int = false
is_reference kinds.Long = false
is_reference kinds.Pad = false
is_reference (kinds.Arr element) = true
is_reference kinds.Obj = true
is_reference kinds.Null = true
is_reference kinds.Top = false

-- the size of the slot is a length: of an array, or of the longest chain of references from an object
abbrev pub is_length : Kind → Bool
is_length kinds.Int = false
is_length kinds.Long = false
is_length kinds.Pad = false
is_length (kinds.Arr element) = true
is_length kinds.Obj = true
is_length kinds.Null = false
is_length kinds.Top = false
