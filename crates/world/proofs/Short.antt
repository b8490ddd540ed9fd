-- The codes of methods are short.
use Rattle.std.proofs.Common.{◌≡◌, ℕ, zero, suc, ◌≤◌, List, [], ◌∷◌, length, Option, Some, None, subst, arith}
use Rattle.std.specs.Prelude.{slice_get, IfSome}
use Rattle.std.specs.List.{AllByRecursion}
use Rattle.class_pool.specs.declared.constant.Constant.{Constant}
use Rattle.class_reader.specs.declared.class.ClassRecord.{ClassRecord}
use Rattle.class_reader.specs.declared.class.Method.{Method}
use Rattle.class_reader.specs.declared.class.Code.{Code}
use Rattle.class_reader.specs.Valid.{IsClass, IsValidMethod, HasValidCode}
use Rattle.class_hierarchy.specs.World.{object_class, constructor}
use Rattle.world.specs.Tables.{HasShortCode}

code_short : (pool : List (Option Constant)) (flags : ℕ) (code : Option Code) → HasValidCode pool flags code → IfSome code (λ (c : Code). length c.bytes ≤ 65535)
code_short pool flags None valid = tt
code_short pool flags (Some code) valid = valid.1.short

method_short : (pool : List (Option Constant)) (methods : List Method) (place : ℕ) (method : Method)
    → AllByRecursion (IsValidMethod pool) methods → slice_get methods place ≡ Some method → HasShortCode method
method_short pool [] place method each is = absurd (cc)
method_short pool (m ∷ methods) zero method each is =
    let same : m ≡ method = cc in
    subst (λ (x : Method). HasShortCode x) same (code_short pool m.flags m.code each.0.has_code)
method_short pool (m ∷ methods) (suc place) method each is = method_short pool methods place method each.1 is

-- in a class of a file
pub file_short : (class : ClassRecord) (place : ℕ) (method : Method) → IsClass class → slice_get class.methods place ≡ Some method → HasShortCode method
file_short class place method valid is = method_short class.pool class.methods place method valid.are_methods is

-- in java/lang/Object
pub object_short : (place : ℕ) (method : Method) → slice_get object_class.methods place ≡ Some method → HasShortCode method
object_short zero method is =
    let same : constructor ≡ method = cc in
    subst (λ (x : Method). HasShortCode x) same (omega arith)
object_short (suc place) method is = absurd (cc)
