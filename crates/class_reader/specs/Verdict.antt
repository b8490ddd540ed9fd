-- What bytes are: the class, or the first fault of a part of the file behind parts without any.
use Rattle.std.specs.Prelude.{◌≡◌, ◌≢◌, ℕ, ◌+◌, List, length, Option, Some, None, Result, Ok, Err, if◌then◌else◌, ◌==◌, codes}
use Rattle.std.specs.Str.{bytes_eq}
use Rattle.class_pool.specs.declared.constant.Constant.{Constant}
use Rattle.class_pool.specs.declared.fault.PoolFault.{PoolFault}
use Rattle.class_pool.specs.Place.{Place}
use Rattle.class_pool.specs.PoolReading.{pool_at}
use Rattle.class_reader.specs.declared.class.ClassRecord.{ClassRecord}
use Rattle.class_reader.specs.declared.fault.ClassFault.{ClassFault}
use Rattle.class_reader.specs.declared.fault.ClassFault.TheVariants.{Short, Reserved, Trailing, Memory}
use Rattle.class_reader.specs.Faults.{fault_of, first_with}
use Rattle.class_reader.specs.Met.{Met, all_faults}
use Rattle.class_reader.specs.ClassReading.{Rest, head_at, rest_at}
use Rattle.class_reader.specs.FirstFault.{start_of}

infixl 10 ◌>>=◌
abbrev pub ◌>>=◌ : {A B : Type 0} → Result A ClassFault → (A → Result B ClassFault) → Result B ClassFault
(Ok x) >>= f = f x
(Err fault) >>= f = Err fault

-- What a function returned, seen by view, is the verdict, unless memory ran out.
abbrev pub Finds : {X Y : Type 0} → (X → Y) → Result X ClassFault → Result Y ClassFault → Type 0
Finds view (Ok x) verdict = verdict ≡ Ok (view x)
Finds view (Err fault) verdict = fault ≢ Memory → verdict ≡ Err fault

-- what was read in bytes that end there, or the first of its faults
abbrev pub settled_by : {A : Type 0} → ℕ → Option A → Option ClassFault → Result A ClassFault
settled_by end value (Some fault) = Err fault
settled_by end (Some x) None = Ok x
settled_by end None None = Err (Short end)

abbrev pub settled : {A : Type 0} → ℕ → Met A → Result A ClassFault
settled end met = settled_by end met.value (first_with None (all_faults end met))

-- a pool's answer as one of the class file
abbrev pub in_class : {A : Type 0} → Result A PoolFault → Result A ClassFault
in_class (Ok x) = Ok x
in_class (Err fault) = Err (fault_of fault)

-- the class, where it isn't built in and the file ends behind it; the index of this class stands at that offset
abbrev pub class_with : ℕ → List (Option Constant) → ℕ → Rest × Place → Result ClassRecord ClassFault
class_with major pool this rest =
    if bytes_eq rest.0.name (codes "java/lang/Object") then Err (Reserved this)
    else if length rest.1.rest == 0 then Ok (record { major = major; flags = rest.0.flags; name = rest.0.name; super_name = Some rest.0.super_name; interfaces = rest.0.interfaces; fields = rest.0.fields; methods = rest.0.methods; pool = pool })
    else Err (Trailing rest.1.at)

unfoldable pub verdict : List ℕ → Result ClassRecord ClassFault
verdict bytes = do
  head ← settled (length bytes) (head_at (start_of bytes))
  pool ← in_class (pool_at head.1)
  rest ← settled (length bytes) (rest_at pool.0 pool.1)
  class_with head.0 pool.0 (pool.1.at + 2) rest
