-- What is known of an instruction on objects and arrays before it is made.
use Rattle.std.specs.Prelude.{◌≡◌, ◌≤◌, ℕ, ◌+◌, ℤ, List, length, drop, Option, Some, None, Result, Ok, Err, IsTrue, IsSome}
use Rattle.op_table.specs.declared.acts.Kind.TheVariants as kinds
use Rattle.frames.specs.declared.value.Value.{Value}
use Rattle.frames.specs.declared.value.Value.TheVariants.{Int, Null, Ref}
use Rattle.frames.specs.declared.here.Here.{Here}
use Rattle.frames.specs.declared.failure.Failure.{Failure}
use Rattle.frames.specs.Words.{popped}
use Rattle.object_steps.specs.Arrays.{Elements, place_on}
use Rattle.object_steps.specs.declared.arrays.Found.{Found}
use Rattle.object_steps.specs.declared.arrays.ElementWrite.{ElementWrite}
use Rattle.frames.specs.Heap.{Cells, field_at, has_element}
use Rattle.object_steps.specs.declared.fields.FieldWrite.{FieldWrite}
use Rattle.object_steps.specs.declared.named.Named.{Named}
use Rattle.object_steps.specs.Fields.{NamedField, writes}
use Rattle.object_steps.specs.After.{After}

-- the word is a reference
abbrev pub reference_in : Option Value → Option Value
reference_in (Some Null) = Some Null
reference_in (Some (Ref r)) = Some (Ref r)
reference_in other = None

-- a reference and an index, by the words on top of the stack
abbrev pub place_in : Option Value → Option Value → Option (Value × ℤ)
place_in (Some (Int i)) (Some Null) = Some (Null, i)
place_in (Some (Int i)) (Some (Ref r)) = Some (Ref r, i)
place_in top below = None

-- a reference is there where it lies so many words below the top
abbrev pub HasReference : Option Value → ℕ → List Value → Type 0
HasReference None n stack = popped kinds.Reference (drop n stack) ≡ None
HasReference (Some value) n stack = (popped kinds.Reference (drop n stack) ≡ Some (record { value = value; rest = drop (n + 1) stack })) × (n + 1 ≤ length stack)

-- a reference and an index are there where they lie so many words below the top
abbrev pub HasPlace : Option (Value × ℤ) → ℕ → List Value → Type 0
HasPlace None n stack = place_on (drop n stack) ≡ None
HasPlace (Some p) n stack =
    (place_on (drop n stack) ≡ Some (record { array = p.0; index = p.1; rest = drop (n + 2) stack })) × (n + 2 ≤ length stack)

-- an array as contracts see it
abbrev pub elements_seen : Found → Elements
elements_seen a = record { number = a.number; type = a.element.now; items = a.items.now }

-- an element that is there is written
abbrev pub IsPossible : Cells → ElementWrite → Type 0
IsPossible heap t = IsTrue (has_element t.array t.index heap)

-- a named field as contracts see it
abbrev pub field_seen : Named → NamedField
field_seen f = record { class = f.class.now; type = f.desc.now; field = f.field }

-- what is left where a value goes into a field, or why there is nothing
abbrev pub put_as : NamedField → Here → Result FieldWrite Failure → Result After Failure
put_as f here (Err failure) = Err failure
put_as f here (Ok t) = writes here f t.value (drop t.taken here.frame.stack) (Ok t.object)

-- the words are there, and the field
abbrev pub IsPut : NamedField → Here → FieldWrite → Type 0
IsPut f here t = (t.taken ≤ length here.frame.stack) × IsSome (field_at here.heap t.object f.field)
