-- A class of the grammar is valid.
use Rattle.std.proofs.Common.{◌≡◌, ℕ, Bool, true, false, cond, List, [], ◌∷◌, Option, Some, None, refl, subst}
use Rattle.std.specs.Prelude.{codes}
use Rattle.std.specs.List.{AllByRecursion}
use Rattle.std.specs.Str.{bytes_eq}
use Rattle.std.proofs.lemmas.Slice.Eq.{bytes_eq-Decides}
use Rattle.class_pool.specs.declared.constant.Constant.{Constant}
use Rattle.class_pool.specs.Pieces.{Each}
use Rattle.class_pool.specs.Pool.{IsConstant, IsPool, utf8_at, class_name_at}
use Rattle.class_reader.specs.declared.class.ClassRecord.{ClassRecord}
use Rattle.class_reader.specs.declared.class.Field.{Field}
use Rattle.class_reader.specs.declared.class.Method.{Method}
use Rattle.class_reader.specs.declared.class.Code.{Code}
use Rattle.class_reader.specs.declared.class.Handler.{Handler}
use Rattle.class_reader.specs.ClassFile.{IsIndex, Attribute, IsAttribute, IsCatch, IsHandler, IsCode, codes_of, HasCode, IsField, IsMethod, IsClassFile}
use Rattle.class_reader.specs.Valid.{HasBytes, IsValidPool, HasIndex, IsValidCatch, IsValidHandler, IsValidCode, HasValidCode, IsValidField, IsValidMethod, IsClass}

-- what holds of each piece holds of each element
each_all : {A : Type 0} (Is : List ℕ → A → Type 0) (P : A → Type 0) → ((bytes : List ℕ) (x : A) → Is bytes x → P x) → (xs : List A) (bytes : List ℕ) → Each Is bytes xs → AllByRecursion P xs
each_all Is P h [] bytes each = tt
each_all Is P h (x ∷ xs) bytes each = (h each.0 x each.3, each_all Is P h xs each.1 each.4)

valid_pool : (bytes : List ℕ) (pool : List (Option Constant)) → IsPool bytes pool → IsValidPool pool
valid_pool bytes pool is = record {
  entries = is.table.entries;
  laid = is.table.laid;
  each = each_all IsConstant HasBytes (λ piece entry e. (piece, e)) is.table.entries is.table.pieces is.table.each;
  linked = is.linked;
}

has_index : (names : ℕ → Option (List ℕ)) (bytes x : List ℕ) → IsIndex names bytes x → HasIndex names x
has_index names bytes x is = (is.0, is.1, is.3)

valid_catch : (pool : List (Option Constant)) (bytes : List ℕ) (catch : Option (List ℕ)) → IsCatch pool bytes catch → IsValidCatch pool catch
valid_catch pool bytes None is = tt
valid_catch pool bytes (Some class) is = has_index (class_name_at pool) bytes class is

valid_handler : (pool : List (Option Constant)) (bytes : List ℕ) (handler : Handler) → IsHandler pool bytes handler → IsValidHandler pool handler
valid_handler pool bytes handler is = record { start_fits = is.start_fits; end_fits = is.end_fits; handler_fits = is.handler_fits; catches = valid_catch pool is.catch handler.catch is.catches }

-- where some attribute is Code, an index has this name
named_at : (named : Bool) (pool : List (Option Constant)) (bytes : List ℕ) (a : Attribute) (body : List ℕ) (others : List (List ℕ)) → bytes_eq a.name (codes "Code") ≡ named → IsAttribute pool bytes a
    → cond named (a.body ∷ others) others ≡ body ∷ [] → (others ≡ body ∷ [] → HasIndex (utf8_at pool) (codes "Code")) → HasIndex (utf8_at pool) (codes "Code")
named_at true pool bytes a body others e is only further =
    subst (HasIndex (utf8_at pool)) ((bytes_eq-Decides a.name (codes "Code")).0 e) (has_index (utf8_at pool) is.index a.name is.named)
named_at false pool bytes a body others e is only further = further only

code_named : (pool : List (Option Constant)) (attributes : List Attribute) (bytes body : List ℕ) → Each (IsAttribute pool) bytes attributes → codes_of attributes ≡ body ∷ [] → HasIndex (utf8_at pool) (codes "Code")
code_named pool [] bytes body each only = absurd cc
code_named pool (a ∷ attributes) bytes body each only =
    named_at (bytes_eq a.name (codes "Code")) pool each.0 a body (codes_of attributes) refl each.3 only (λ behind. code_named pool attributes each.1 body each.4 behind)

valid_code : (pool : List (Option Constant)) (bytes : List ℕ) (code : Code) → HasIndex (utf8_at pool) (codes "Code") → IsCode pool bytes code → IsValidCode pool code
valid_code pool bytes code named is = record {
  named = named;
  stack_fits = is.stack_fits;
  locals_fit = is.locals_fit;
  not_empty = is.not_empty;
  short = is.short;
  are_handlers = each_all (IsHandler pool) (IsValidHandler pool) (valid_handler pool) code.handlers is.are_handlers.pieces is.are_handlers.each;
}

has_valid_code : (pool : List (Option Constant)) (flags : ℕ) (attributes : List Attribute) (bytes : List ℕ) (code : Option Code) → Each (IsAttribute pool) bytes attributes → HasCode pool flags attributes code → HasValidCode pool flags code
has_valid_code pool flags attributes bytes None each has = has.0
has_valid_code pool flags attributes bytes (Some code) each has = (has.0, valid_code pool has.1.0 code (code_named pool attributes bytes has.1.0 each has.1.1) has.1.2)

valid_field : (pool : List (Option Constant)) (bytes : List ℕ) (field : Field) → IsField pool bytes field → IsValidField pool field
valid_field pool bytes field is =
    record { flags_fit = is.flags_fit; named = has_index (utf8_at pool) is.name field.name is.named; described = has_index (utf8_at pool) is.desc field.desc is.described; descriptor = is.descriptor }

valid_method : (pool : List (Option Constant)) (bytes : List ℕ) (method : Method) → IsMethod pool bytes method → IsValidMethod pool method
valid_method pool bytes method is = record {
  flags_fit = is.flags_fit;
  named = has_index (utf8_at pool) is.name method.name is.named;
  described = has_index (utf8_at pool) is.desc method.desc is.described;
  descriptor = is.descriptor;
  has_code = has_valid_code pool method.flags is.stored is.are_attributes.pieces method.code is.are_attributes.each is.has_code;
}

pub valid_class : (bytes : List ℕ) (c : ClassRecord) → IsClassFile bytes c → IsClass c
valid_class bytes c f = record {
  super_class = f.super_class;
  version = f.version;
  flags_fit = f.flags_fit;
  is_pool = valid_pool f.pool c.pool f.is_pool;
  named = has_index (class_name_at c.pool) f.this c.name f.named;
  below = (has_index (class_name_at c.pool) f.super f.super_class f.below.0, f.below.1);
  are_interfaces = each_all (IsIndex (class_name_at c.pool)) (HasIndex (class_name_at c.pool)) (has_index (class_name_at c.pool)) c.interfaces f.are_interfaces.pieces f.are_interfaces.each;
  are_fields = each_all (IsField c.pool) (IsValidField c.pool) (valid_field c.pool) c.fields f.are_fields.pieces f.are_fields.each;
  are_methods = each_all (IsMethod c.pool) (IsValidMethod c.pool) (valid_method c.pool) c.methods f.are_methods.pieces f.are_methods.each;
  distinct_fields = f.distinct_fields;
  distinct_methods = f.distinct_methods;
  not_built_in = f.not_built_in;
}
