-- The bytes of a pool.
use Rattle.std.proofs.Common.{◌≡◌, ℕ, ◌+◌, ◌^◌, ◌<◌, Bool, true, false, cond, List, [], ◌∷◌, ◌++◌, length, Option, None, refl, sym, ap, subst, ◌∙◌, arith}
use Rattle.std.specs.List.{AllByRecursion, flat_map}
use Rattle.class_pool.specs.declared.constant.Constant.{Constant}
use Rattle.class_pool.specs.declared.constant.Constant.TheVariants.{Utf8, Integer, Float, Long, Double, Class, String, Fieldref, Methodref, InterfaceMethodref, NameAndType, MethodHandle, MethodType, Dynamic, InvokeDynamic, Module, Package}
use Rattle.class_pool.specs.Pieces.{Each}
use Rattle.class_pool.specs.Pool.{IsEntry, IsConstant, is_wide, laid_out, IsPool}
use Rattle.class_reader.specs.Valid.{HasBytes, IsValidPool}
use Rattle.class_writer.specs.Writing.{entry_bytes, slot_bytes, pool_bytes}

-- pieces that are written one after another
pub each_written : {A : Type 0} (Is : List ℕ → A → Type 0) (P : A → Type 0) (bytes : A → List ℕ) → ((x : A) → P x → Is (bytes x) x) → (xs : List A) → AllByRecursion P xs → Each Is (flat_map bytes xs) xs
each_written Is P bytes h [] all = refl
each_written Is P bytes h (x ∷ xs) all = (bytes x, flat_map bytes xs, refl, h x all.0, each_written Is P bytes h xs all.1)

-- an entry has one list of bytes
entry_is : (entry : Constant) (bytes : List ℕ) → IsEntry bytes entry → bytes ≡ entry_bytes entry
entry_is (Utf8 text) bytes is = is.1
entry_is (Integer n) bytes is = is.1
entry_is (Float n) bytes is = is.1
entry_is (Long n) bytes is = is.1
entry_is (Double n) bytes is = is.1
entry_is (Class n) bytes is = is.1
entry_is (String n) bytes is = is.1
entry_is (Fieldref m n) bytes is = is.2
entry_is (Methodref m n) bytes is = is.2
entry_is (InterfaceMethodref m n) bytes is = is.2
entry_is (NameAndType m n) bytes is = is.2
entry_is (MethodHandle m n) bytes is = is.2
entry_is (MethodType n) bytes is = is.1
entry_is (Dynamic m n) bytes is = is.2
entry_is (InvokeDynamic m n) bytes is = is.2
entry_is (Module n) bytes is = is.1
entry_is (Package n) bytes is = is.1

entry_written : (entry : Constant) → HasBytes entry → IsConstant (entry_bytes entry) entry
entry_written entry has = subst (λ (b : List ℕ). IsConstant b entry) (entry_is entry has.0 has.1.0) has.1

laid_at : (wide : Bool) (entries : List Constant) → flat_map slot_bytes (laid_out entries) ≡ flat_map entry_bytes entries → flat_map slot_bytes (cond wide (None ∷ laid_out entries) (laid_out entries)) ≡ flat_map entry_bytes entries
laid_at true entries e = e
laid_at false entries e = e

laid_bytes : (entries : List Constant) → flat_map slot_bytes (laid_out entries) ≡ flat_map entry_bytes entries
laid_bytes [] = refl
laid_bytes (entry ∷ entries) = ap (λ (b : List ℕ). entry_bytes entry ++ b) (laid_at (is_wide entry) entries (laid_bytes entries))

pub pool_written : (pool : List (Option Constant)) → IsValidPool pool → length pool + 1 < 2 ^ 16 → IsPool (pool_bytes pool) pool
unfolding pool_bytes
pool_written pool is room = record {
  table = record {
    count = length pool + 1;
    entries = is.entries;
    pieces = flat_map slot_bytes pool;
    count_fits = room;
    counted = omega arith;
    laid = is.laid;
    parts = refl;
    each = subst (λ (b : List ℕ). Each IsConstant b is.entries) (sym (ap (flat_map slot_bytes) is.laid ∙ laid_bytes is.entries)) (each_written IsConstant HasBytes entry_bytes entry_written is.entries is.each);
  };
  linked = is.linked;
}
