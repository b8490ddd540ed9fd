-- The counts of a class file, which have two bytes each (JVMS 4.1, 4.7.3).
use Rattle.std.specs.Prelude.{ℕ, ◌+◌, ◌<◌, ◌^◌, Bool, false, nat_le, length, Option, Some, None, if◌then◌else◌}
use Rattle.std.specs.List.{AllByRecursion, list_any}
use Rattle.class_reader.specs.declared.class.ClassRecord.{ClassRecord}
use Rattle.class_reader.specs.declared.class.Method.{Method}
use Rattle.class_reader.specs.declared.class.Code.{Code}
use Rattle.class_writer.specs.declared.fault.What.{What}
use Rattle.class_writer.specs.declared.fault.What.TheVariants.{Entries, Interfaces, Fields, Methods, Handlers}

abbrev pub HandlersFit : Option Code → Type 0
HandlersFit None = Unit {0}
HandlersFit (Some code) = length code.handlers < 2 ^ 16

-- the count of the pool is one more than the indices that it has
pub record CountsFit (class : ClassRecord) : Type 0 where
  pub entries : length class.pool + 1 < 2 ^ 16
  pub interfaces : length class.interfaces < 2 ^ 16
  pub fields : length class.fields < 2 ^ 16
  pub methods : length class.methods < 2 ^ 16
  pub handlers : AllByRecursion (λ method. HandlersFit method.code) class.methods

-- the count takes more than two bytes
abbrev pub passes : ℕ → Bool
passes count = nat_le (2 ^ 16) count

abbrev pub passes_in : Option Code → Bool
passes_in None = false
passes_in (Some code) = passes (length code.handlers)

abbrev pub has_too_many : Method → Bool
has_too_many method = passes_in method.code

-- what there are too many of: the first in the order of the file, if any
unfoldable pub over : ClassRecord → Option What
over class =
    if passes (length class.pool + 1) then Some Entries
    else if passes (length class.interfaces) then Some Interfaces
    else if passes (length class.fields) then Some Fields
    else if passes (length class.methods) then Some Methods
    else if list_any has_too_many class.methods then Some Handlers
    else None
