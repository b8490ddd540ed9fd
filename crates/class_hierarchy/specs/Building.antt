-- What keeps classes from being a world.
use Rattle.std.specs.Prelude.{◌≡◌, ℕ, zero, suc, ◌<◌, ◌++◌, nat_lt, nat_eq, Bool, true, false, not, List, length, Option, Some, None, is_none, if◌then◌else◌, find}
use Rattle.std.specs.Option.{option_map, option_map_or, option_or, option_to_list}
use Rattle.std.specs.List.{list_any}
use Rattle.class_reader.specs.declared.class.ClassRecord.{ClassRecord}
use Rattle.class_hierarchy.specs.declared.fault.WorldFault.{WorldFault}
use Rattle.class_hierarchy.specs.declared.fault.WorldFault.TheVariants.{Twice, MissingSuper, WrongSuper, SuperCycle, FinalSuper}
use Rattle.class_reader.specs.Flags.{is_interface, is_final}
use Rattle.class_hierarchy.specs.World.{World, class_at, number_of, superclass, interfaces}

-- the first answer for the n numbers from c on
unfoldable pub first_number : {A : Type 0} → (ℕ → Option A) → ℕ → ℕ → Option A
first_number f zero c = None
first_number f (suc n) c = option_or (f c) (first_number f n (suc c))

-- the first answer for the classes in order
abbrev pub first_class : {A : Type 0} → World → (ℕ → Option A) → Option A
first_class w f = first_number f (length w) 0

-- ---- the five faults

-- a class before this one has its name
abbrev pub is_twice : World → ℕ → Bool
is_twice w c = option_map_or (λ d. nat_lt d c) (number_of w (class_at w c).name) false

unfoldable pub twice : World → ℕ → Option WorldFault
twice w c = if is_twice w c then Some (Twice (class_at w c).name) else None

-- no class has the name
abbrev pub is_missing : World → List ℕ → Bool
is_missing w name = is_none (number_of w name)

-- such a name of the superclass, or else the first one of a superinterface
abbrev pub missing_name : World → ClassRecord → Option (List ℕ)
missing_name w class = option_or (find (is_missing w) (option_to_list class.super_name)) (find (is_missing w) class.interfaces)

unfoldable pub missing_super : World → ℕ → Option WorldFault
missing_super w c = option_map (MissingSuper (class_at w c).name) (missing_name w (class_at w c))

-- the class of this name has such flags
abbrev pub has_flags : World → (ℕ → Bool) → List ℕ → Bool
has_flags w test name = option_map_or (λ d. test (class_at w d).flags) (number_of w name) false

-- a superclass that is an interface, or else a superinterface that is none
abbrev pub wrong_name : World → ClassRecord → Option (List ℕ)
wrong_name w class =
    option_or
    (find (has_flags w is_interface) (option_to_list class.super_name))
    (find (λ name. not (has_flags w is_interface name)) class.interfaces)

unfoldable pub wrong_super : World → ℕ → Option WorldFault
wrong_super w c = option_map (WrongSuper (class_at w c).name) (wrong_name w (class_at w c))

-- the superclass and the superinterfaces
unfoldable pub supers : World → ℕ → List ℕ
supers w c = option_to_list (superclass w c) ++ interfaces w c

-- one or more steps lead from one number to another
pub data LeadsTo (next : ℕ → List ℕ) : ℕ → ℕ → Type 0 where
  once : {c d : ℕ} → list_any (nat_eq d) (next c) ≡ true → LeadsTo next c d
  through : {c d e : ℕ} → list_any (nat_eq d) (next c) ≡ true → LeadsTo next d e → LeadsTo next c e

-- the names of superclasses and superinterfaces lead from the class back to it
abbrev pub IsCyclic : World → ℕ → Type 0
IsCyclic w c = LeadsTo (supers w) c c

-- the first class that leads back to itself
abbrev pub IsFirstCyclic : World → List ℕ → Type 0
IsFirstCyclic w name = (c : ℕ) × (c < length w) × ((class_at w c).name ≡ name) × IsCyclic w c × ((d : ℕ) → d < c → ¬ IsCyclic w d)

-- a superclass that may have no subclass (JVMS 4.1, ACC_FINAL)
unfoldable pub final_super : World → ℕ → Option WorldFault
final_super w c = option_map (FinalSuper (class_at w c).name) (find (has_flags w is_final) (option_to_list (class_at w c).super_name))

-- ---- in their order

-- each class has a name of its own, and what it names is there and is what it must be
pub record HasSupers (w : World) : Type 0 where
  pub once : first_class w (twice w) ≡ None
  pub there : first_class w (missing_super w) ≡ None
  pub right : first_class w (wrong_super w) ≡ None

-- a world: no class leads to itself, and no superclass is final
pub record IsWellBuilt (w : World) : Type 0 where
  pub has_supers : HasSupers w
  pub no_cycle : (c : ℕ) → ¬ IsCyclic w c
  pub none_final : first_class w (final_super w) ≡ None

-- what is the fault of classes: the first of its kind, where there is none of the kinds before
pub data IsFault (w : World) : WorldFault → Type 0 where
  repeats : {fault : WorldFault} → first_class w (twice w) ≡ Some fault → IsFault w fault
  misses : {fault : WorldFault} → first_class w (twice w) ≡ None → first_class w (missing_super w) ≡ Some fault → IsFault w fault
  mixes :
      {fault : WorldFault}
      → first_class w (twice w) ≡ None
      → first_class w (missing_super w) ≡ None
      → first_class w (wrong_super w) ≡ Some fault
      → IsFault w fault
  returns : {name : List ℕ} → HasSupers w → IsFirstCyclic w name → IsFault w (SuperCycle name)
  inherits :
      {fault : WorldFault}
      → HasSupers w
      → ((c : ℕ) → ¬ IsCyclic w c)
      → first_class w (final_super w) ≡ Some fault
      → IsFault w fault
