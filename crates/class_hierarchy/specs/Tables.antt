-- Tables of what stands above each class.
use Rattle.std.specs.Prelude.{◌≡◌, Option, None, ℕ, ◌<◌, ◌≤◌, ◌^◌, Bool, true, List, [], ◌∷◌, length, find, nat_eq, nat_lt, ◌&&◌, slice_index_or}
use Rattle.std.specs.List.{list_any}
use Rattle.class_reader.specs.declared.class.ClassRecord.{ClassRecord}
use Rattle.class_hierarchy.specs.World.{World, object_class, class_at, superclass, interfaces, above}
use Rattle.class_hierarchy.specs.Names.{AreNumbers}
use Rattle.class_hierarchy.specs.Building.{LeadsTo, supers, IsWellBuilt}
use Rattle.class_hierarchy.specs.Orders.{IsSupersFirst}

-- two lists have the same first element for each test: the same elements, in order but for repeats
pub record SameFirst (xs ys : List ℕ) : Type 0 where
  pub same : (p : ℕ → Bool) → find p xs ≡ find p ys

-- the row of a number, empty past the end
abbrev pub row_at : List (List ℕ) → ℕ → List ℕ
row_at rows c = slice_index_or rows c []

-- the direct superclass by a table, None past the end
abbrev pub super_at : List (Option ℕ) → ℕ → Option ℕ
super_at supers c = slice_index_or supers c None

-- the direct superclass of each class
abbrev pub AreSuperclasses : World → List (Option ℕ) → Type 0
AreSuperclasses w supers = (length supers ≡ length w) × ((c : ℕ) → super_at supers c ≡ superclass w c)

-- a row for each class has its direct superinterfaces
abbrev pub AreLinks : World → List (List ℕ) → Type 0
AreLinks w links = (length links ≡ length w) × ((c : ℕ) → row_at links c ≡ interfaces w c)

-- ---- what stands above a class

-- the class, and what stands above it
abbrev pub with_above : World → ℕ → List ℕ
with_above w c = c ∷ above w c

-- a class with several direct superinterfaces has a row of all interfaces above it
abbrev pub HasRow : World → List (List ℕ) → ℕ → Type 0
HasRow w rows c = 2 ≤ length (interfaces w c) → SameFirst (row_at rows c) (above w c)

-- so has each of them, and no other class has a row
abbrev pub AreRows : World → List (List ℕ) → Type 0
AreRows w rows = (length rows ≡ length w) × ((c : ℕ) → HasRow w rows c) × ((c : ℕ) → length (interfaces w c) < 2 → row_at rows c ≡ [])

-- a class got its row if it has one, and the others kept theirs
abbrev pub SetsRow : World → ℕ → List (List ℕ) → List (List ℕ) → Type 0
SetsRow w c old new = (length new ≡ length old) × HasRow w new c × ((d : ℕ) → (d ≡ c → length (interfaces w c) < 2) → row_at new d ≡ row_at old d)

-- the tables tell what stands above the class: it has its row, and so have those that it leads to
pub record Shows (w : World) (links rows : List (List ℕ)) (c : ℕ) : Type 0 where
  pub well_built : IsWellBuilt w
  pub are_links : AreLinks w links
  pub own : HasRow w rows c
  pub higher : (d : ℕ) → LeadsTo (supers w) c d → HasRow w rows d

-- what stands above each of the classes is among them
abbrev pub IsClosed : World → List ℕ → Type 0
IsClosed w found = (c d : ℕ) → list_any (nat_eq c) found ≡ true → list_any (nat_eq d) (above w c) ≡ true → list_any (nat_eq d) found ≡ true

-- all above the class was found, or the class is the last that was met or leads to that one
pub data IsMet (w : World) (found : List ℕ) (at c : ℕ) : Type 0 where
  done : ((d : ℕ) → list_any (nat_eq d) (above w c) ≡ true → list_any (nat_eq d) found ≡ true) → IsMet w found at c
  last : c ≡ at → IsMet w found at c
  below : LeadsTo (supers w) c at → IsMet w found at c

-- what stands above each of the classes is among them, but for the last one that was met and those that lead to it
abbrev pub IsOpenAt : World → List ℕ → ℕ → Type 0
IsOpenAt w found at = (c : ℕ) → list_any (nat_eq c) found ≡ true → IsMet w found at c

-- ---- classes by number

-- few enough for their numbers
abbrev pub HasFew : ClassRecord → Type 0
HasFew class = (length class.fields < 2 ^ 32) × (length class.methods < 2 ^ 32)

abbrev pub has_few : ClassRecord → Bool
has_few class = nat_lt (length class.fields) 4294967296 && nat_lt (length class.methods) 4294967296

-- the class that is built in and those of files, with their numbers by name
pub record IsNumbered (object : ClassRecord) (files : List ClassRecord) (numbers : List ℕ → Option ℕ) : Type 0 where
  pub built_in : object ≡ object_class
  pub few : length files < 2 ^ 31
  pub few_members : (c : ℕ) → HasFew (class_at (object ∷ files) c)
  pub numbered : AreNumbers (object ∷ files) numbers

-- what is kept beside the classes of a world
pub record IsHierarchy (w : World) (supers : List (Option ℕ)) (links : List (List ℕ)) (order : List ℕ) (rows : List (List ℕ)) : Type 0 where
  pub well_built : IsWellBuilt w
  pub are_supers : AreSuperclasses w supers
  pub are_links : AreLinks w links
  pub in_order : IsSupersFirst w order
  pub are_rows : AreRows w rows
