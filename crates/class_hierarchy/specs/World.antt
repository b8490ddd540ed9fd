-- The classes that a program can meet, by number and by name.
use Rattle.std.specs.Prelude.{ℕ, zero, suc, Bool, List, [], ◌∷◌, length, Option, Some, None, nat_eq, slice_index_or, codes, not, ◌||◌}
use Rattle.std.specs.Option.{option_and_then}
use Rattle.std.specs.List.{list_any, position, filter_map, flat_map}
use Rattle.std.specs.Str.{bytes_eq}
use Rattle.class_reader.specs.declared.class.ClassRecord.{ClassRecord}
use Rattle.class_reader.specs.declared.class.Method.{Method}
use Rattle.class_reader.specs.Flags.{is_abstract, is_interface}

-- A class is numbered by its place.
abbrev pub World : Type 0
World = List ClassRecord

-- ---- what is built in

abbrev pub object_name : List ℕ
object_name = codes "java/lang/Object"

-- the constructor, whose code is the opcode return
abbrev pub constructor : Method
constructor = record {
  flags = 1;
  name = codes "<init>";
  desc = codes "()V";
  code = Some (record { max_stack = 0; max_locals = 1; bytes = 177 ∷ []; handlers = [] });
}

-- java/lang/Object: public, without a superclass, and with a constructor alone
abbrev pub object_class : ClassRecord
object_class = record {
  major = 52;
  flags = 33;
  name = object_name;
  super_name = None;
  interfaces = [];
  fields = [];
  methods = constructor ∷ [];
  pool = [];
}

-- the world of the classes of files
abbrev pub world_of : List ClassRecord → World
world_of files = object_class ∷ files

-- ---- classes by number and by name

-- the class with this number
abbrev pub class_at : World → ℕ → ClassRecord
class_at w c = slice_index_or w c object_class

abbrev pub is_named : List ℕ → ClassRecord → Bool
is_named name class = bytes_eq class.name name

-- the number of the class with this name, if there is one
unfoldable pub number_of : World → List ℕ → Option ℕ
number_of w name = position (is_named name) w

-- ---- what stands above a class

-- its direct superclass (JVMS 4.1)
unfoldable pub superclass : World → ℕ → Option ℕ
superclass w c = option_and_then (number_of w) (class_at w c).super_name

-- its direct superinterfaces, in order (JVMS 4.1)
unfoldable pub interfaces : World → ℕ → List ℕ
interfaces w c = filter_map (number_of w) (class_at w c).interfaces

-- at most n classes, each the direct superclass of the one before
unfoldable pub line_from : World → ℕ → Option ℕ → List ℕ
line_from w zero c = []
line_from w (suc n) None = []
line_from w (suc n) (Some c) = c ∷ line_from w n (superclass w c)

-- The class and its superclasses, from it up. Where no class leads to itself none is met twice, so that they
-- are at most as many as all classes.
abbrev pub line : World → ℕ → List ℕ
line w c = line_from w (length w) (Some c)

-- the interfaces to which a class leads by at most n names of interfaces, each before those that it names itself
unfoldable pub above_by : World → ℕ → ℕ → List ℕ
above_by w zero c = []
above_by w (suc n) c = flat_map (λ i. i ∷ above_by w n i) (interfaces w c)

-- the interfaces that the class names, and those that they name, and so on
abbrev pub above : World → ℕ → List ℕ
above w c = above_by w (length w) c

-- the superinterfaces of a class: those above it and its superclasses
unfoldable pub superinterfaces : World → ℕ → List ℕ
superinterfaces w c = flat_map (above w) (line w c)

-- the class, its superinterfaces by its own names, and then the same of the superclass (JVMS 5.4.3.2)
unfoldable pub ancestors : World → ℕ → List ℕ
ancestors w c = flat_map (λ d. d ∷ above w d) (line w c)

-- ---- instances

-- an instance of the class c is one of d: that is c, a superclass, or named by one of these through interfaces
abbrev pub is_below : World → ℕ → ℕ → Bool
is_below w c d = list_any (nat_eq d) (ancestors w c)

-- an object can be made of the class (JVMS 6.5, new)
abbrev pub is_instantiable : World → ℕ → Bool
is_instantiable w c = not (is_interface (class_at w c).flags || is_abstract (class_at w c).flags)
