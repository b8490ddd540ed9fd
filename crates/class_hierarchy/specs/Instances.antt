-- What objects are instances of, by chains of names (JVMS 6.5.instanceof).
use Rattle.std.specs.Prelude.{◌≡◌, ℕ, List, Some, Contains}
use Rattle.class_hierarchy.specs.World.{World, class_at, number_of}

-- the class c names d as its direct superclass (JVMS 4.1, super_class)
pub record IsSuperclass (w : World) (c d : ℕ) : Type 0 where
  pub name : List ℕ
  pub named : (class_at w c).super_name ≡ Some name
  pub meant : number_of w name ≡ Some d

-- the class c names d as a direct superinterface (JVMS 4.1, interfaces)
pub record IsInterface (w : World) (c d : ℕ) : Type 0 where
  pub name : List ℕ
  pub named : Contains (class_at w c).interfaces name
  pub meant : number_of w name ≡ Some d

-- a chain of names of superinterfaces leads from the class c to d; of none, where it is the class itself
pub data IsThroughInterfaces (w : World) : ℕ → ℕ → Type 0 where
  itself : {c : ℕ} → IsThroughInterfaces w c c
  next : {c i d : ℕ} → IsInterface w c i → IsThroughInterfaces w i d → IsThroughInterfaces w c d

-- An object of the class c is one of d: d is c or a superclass of it, or one of these names it through interfaces. The
-- superclass that an interface names is no step.
pub data IsInstance (w : World) : ℕ → ℕ → Type 0 where
  through : {c d : ℕ} → IsThroughInterfaces w c d → IsInstance w c d
  above : {c s d : ℕ} → IsSuperclass w c s → IsInstance w s d → IsInstance w c d
