-- A table from names to the first indices that have them.
use Rattle.std.specs.Prelude.{◌≡◌, ℕ, List, Option, unwrap_or, if◌then◌else◌}
use Rattle.std.specs.Ordering.{nat_cmp}
use Rattle.std.specs.Cmp.Lexicographic.{slice_cmp}
use Rattle.std.specs.BTreeMap as tree
use Rattle.std.specs.BTreeMap.{BTreeMap}
use Rattle.std.specs.Borrow.{Bor}
use Rattle.class_pool.specs.declared.constant.Constant.{Constant}
use Rattle.class_writer.specs.Writing.{is_named, index_from}

-- the index of a name; 0 where there is none
abbrev pub index_in : BTreeMap (Bor (List ℕ)) ℕ → List ℕ → ℕ
index_in table x = unwrap_or (tree.get_by (λ k. slice_cmp nat_cmp x k.now) table) 0

-- the table has the first index of each name of the slots, from an index on
abbrev pub HasFirst : (Option Constant → Option (List ℕ)) → ℕ → List (Option Constant) → BTreeMap (Bor (List ℕ)) ℕ → Type 0
HasFirst name_of index slots table = (x : List ℕ) → index_in table x ≡ index_from name_of x index slots

-- a name, if there is one, has the index from now on
abbrev pub Notes : Option (List ℕ) → ℕ → BTreeMap (Bor (List ℕ)) ℕ → BTreeMap (Bor (List ℕ)) ℕ → Type 0
Notes name index old new = (x : List ℕ) → index_in new x ≡ (if is_named x name then index else index_in old x)
