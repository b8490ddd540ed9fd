-- Reading from left to right and past faults: what a structure is, and every fault that is met on the way.
use Rattle.std.specs.Prelude.{◌≡◌, ◌≢◌, ℕ, zero, suc, List, [], ◌∷◌, ◌++◌, length, take, Option, Some, None, Result, Ok, Err, nat_lt, if◌then◌else◌}
use Rattle.class_pool.specs.Place.{Place, after, number_at}
use Rattle.class_reader.specs.declared.fault.ClassFault.{ClassFault}
use Rattle.class_reader.specs.declared.fault.ClassFault.TheVariants.{Short}
use Rattle.class_reader.specs.declared.kept.Cut.{Cut}
use Rattle.class_reader.specs.declared.kept.Cut.TheVariants.{Memory}
use Rattle.class_reader.specs.Faults.{first_with}

-- What was read, or None where too few bytes are left, and the faults that were met, in order. Something stands for
-- a part that is faulty, so that reading goes on behind it.
pub record Met (A : Type 0) : Type 0 where
  pub value : Option A
  pub faults : List ClassFault

abbrev pub done : {A : Type 0} → A → Met A
done x = record { value = Some x; faults = [] }

abbrev pub cut : {A : Type 0} → Met A
cut = record { value = None; faults = [] }

-- a fault, or none, and what was read
abbrev pub with_faults : {A : Type 0} → List ClassFault → A → Met A
with_faults faults x = record { value = Some x; faults = faults }

abbrev pub behind : {A : Type 0} → List ClassFault → Met A → Met A
behind faults met = record { value = met.value; faults = faults ++ met.faults }

abbrev pub goes_on : {A B : Type 0} → List ClassFault → (A → Met B) → Option A → Met B
goes_on faults f None = record { value = None; faults = faults }
goes_on faults f (Some x) = behind faults (f x)

infixl 10 ◌>>=◌
abbrev pub ◌>>=◌ : {A B : Type 0} → Met A → (A → Met B) → Met B
met >>= f = goes_on met.faults f met.value

-- read, and without a fault
abbrev pub Passes : {A : Type 0} → Met A → A → Type 0
Passes met x = (met.value ≡ Some x) × (met.faults ≡ [])

-- all faults of what stands at a place in bytes that end there: too few bytes are one
abbrev pub if_cut : {A : Type 0} → ℕ → Option A → List ClassFault
if_cut end None = Short end ∷ []
if_cut end (Some x) = []

abbrev pub all_faults : {A : Type 0} → ℕ → Met A → List ClassFault
all_faults end met = met.faults ++ if_cut end met.value

-- What a function returned, seen by view, is what is met, unless memory ran out, and of all faults the first was kept.
abbrev pub Tells : {X Y : Type 0} → (X → Y) → Result X Cut → Option ClassFault → Option ClassFault → Met Y → Type 0
Tells view (Ok x) kept now met = (met.value ≡ Some (view x)) × (now ≡ first_with kept met.faults)
Tells view (Err e) kept now met = e ≢ Memory → (met.value ≡ None) × (now ≡ first_with kept met.faults)

-- ---- numbers and bytes

abbrev pub number_or_cut : ℕ → Place → Option ℕ → Met (ℕ × Place)
number_or_cut n place None = cut
number_or_cut n place (Some number) = done (number, after n place)

-- a number of n bytes
abbrev pub num_at : ℕ → Place → Met (ℕ × Place)
num_at n place = number_or_cut n place (number_at n place)

-- n bytes
abbrev pub bytes_at : ℕ → Place → Met (List ℕ × Place)
bytes_at n place = if nat_lt (length place.rest) n then cut else done (take n place.rest, after n place)

-- ---- many

-- so many steps
unfoldable pub times : {S : Type 0} → (S → Met S) → ℕ → S → Met S
times step zero s = done s
times step (suc n) s = step s >>= times step n

-- reads one more behind those that were read
unfoldable pub pushed : {A S : Type 0} → (S → Met (A × S)) → List A × S → Met (List A × S)
pushed read s = do
  x ← read s.1
  done (s.0 ++ x.0 ∷ [], x.1)

-- a count of two bytes, and so many
unfoldable pub counted_at : {A : Type 0} → (Place → Met (A × Place)) → Place → Met (List A × Place)
counted_at read place = do
  count ← num_at 2 place
  times (pushed read) count.0 ([], count.1)

-- a count of two bytes, and so many steps
unfoldable pub times_at : (Place → Met Place) → Place → Met Place
times_at step place = do
  count ← num_at 2 place
  times step count.0 count.1
