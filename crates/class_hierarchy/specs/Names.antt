-- Numbers of classes by name.
use Rattle.std.specs.Prelude.{◌≡◌, ℕ, ◌&&◌, List, Option, Some, is_none, if◌then◌else◌}
use Rattle.std.specs.Str.{bytes_eq}
use Rattle.std.specs.Ordering.{nat_cmp}
use Rattle.std.specs.Cmp.Lexicographic.{slice_cmp}
use Rattle.std.specs.BTreeMap as tree
use Rattle.std.specs.BTreeMap.{BTreeMap}
use Rattle.std.specs.Global.{Vec}
use Rattle.class_hierarchy.specs.World.{World, number_of}

-- the number of a name
abbrev pub noted : BTreeMap (Vec ℕ) ℕ → List ℕ → Option ℕ
noted names name = tree.get_by (λ k. slice_cmp nat_cmp name k.items) names

-- a name has this number where it had none before
abbrev pub NotesName : List ℕ → ℕ → (List ℕ → Option ℕ) → (List ℕ → Option ℕ) → Type 0
NotesName name number old new = (other : List ℕ) → new other ≡ (if bytes_eq name other && is_none (old name) then Some number else old other)

-- each name has the number of the first class with it
abbrev pub AreNumbers : World → (List ℕ → Option ℕ) → Type 0
AreNumbers w numbers = (name : List ℕ) → numbers name ≡ number_of w name
