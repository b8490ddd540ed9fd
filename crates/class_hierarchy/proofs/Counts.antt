-- Classes with few members.
use Rattle.std.proofs.Common.{◌≡◌, Option, ℕ, zero, suc, ◌<◌, ◌^◌, true, nat_lt, List, [], ◌∷◌, length, arith}
use Rattle.std.specs.List.{list_all, slice_index_or}
use Rattle.std.proofs.lemmas.Bool.{and_parts, ltb-true}
use Rattle.class_reader.specs.declared.class.ClassRecord.{ClassRecord}
use Rattle.class_hierarchy.specs.World.{object_class, class_at}
use Rattle.class_hierarchy.specs.Tables.{HasFew, IsNumbered, has_few}
use Rattle.class_hierarchy.specs.Names.{AreNumbers}

few_told : (class : ClassRecord) → has_few class ≡ true → HasFew class
few_told class h =
    let parts = and_parts (nat_lt (length class.fields) 4294967296) (nat_lt (length class.methods) 4294967296) h in
    (ltb-true (length class.fields) 4294967296 parts.0, ltb-true (length class.methods) 4294967296 parts.1)

few_built_in : HasFew object_class
few_built_in = (omega arith, omega arith)

few_at : (files : List ClassRecord) → list_all has_few files ≡ true → (k : ℕ) → HasFew (slice_index_or files k object_class)
few_at [] h k = few_built_in
few_at (x ∷ xs) h zero = few_told x (and_parts (has_few x) (list_all has_few xs) h).0
few_at (x ∷ xs) h (suc k) = few_at xs (and_parts (has_few x) (list_all has_few xs) h).1 k

few_all : (object : ClassRecord) (files : List ClassRecord) → object ≡ object_class → list_all has_few files ≡ true → (c : ℕ) → HasFew (class_at (object ∷ files) c)
few_all object files e h zero = rw e few_built_in
few_all object files e h (suc k) = few_at files h k

pub numbered : (object : ClassRecord) (files : List ClassRecord) (numbers : List ℕ → Option ℕ) → object ≡ object_class → length files < 2 ^ 31 → list_all has_few files ≡ true → AreNumbers (object ∷ files) numbers → IsNumbered object files numbers
numbered object files numbers e few h n = record { built_in = e; few = few; few_members = few_all object files e h; numbered = n }
