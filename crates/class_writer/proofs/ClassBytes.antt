-- The bytes of a class.
use Rattle.std.proofs.Common.{◌≡◌, ℕ, ◌+◌, ◌*◌, ◌^◌, ◌<◌, ◌≤◌, List, [], ◌∷◌, ◌++◌, length, Option, Some, None, refl, sym, subst, arith}
use Rattle.std.specs.Prelude.{codes}
use Rattle.std.specs.List.{AllByRecursion, flat_map}
use Rattle.std.proofs.lemmas.List.{length-append, append-nil}
use Rattle.byteorder.specs.Endian.{big_bytes}
use Rattle.byteorder.specs.Numbers.{length-bytes_high_first}
use Rattle.class_pool.specs.declared.constant.Constant.{Constant}
use Rattle.class_pool.specs.Pieces.{Counted}
use Rattle.class_pool.specs.Pool.{class_name_at}
use Rattle.class_reader.specs.declared.class.ClassRecord.{ClassRecord}
use Rattle.class_reader.specs.declared.class.Field.{Field}
use Rattle.class_reader.specs.declared.class.Method.{Method}
use Rattle.class_reader.specs.declared.class.Code.{Code}
use Rattle.class_reader.specs.declared.class.Handler.{Handler}
use Rattle.class_reader.specs.ClassFile.{IsIndex, Attribute, IsAttribute, AreAttributes, IsCatch, IsHandler, IsCode, HasCode, IsField, IsMethod, IsClassFile}
use Rattle.class_reader.specs.Valid.{HasIndex, IsValidCatch, IsValidHandler, IsValidCode, HasValidCode, IsValidField, IsValidMethod, IsClass}
use Rattle.class_writer.specs.Counts.{HandlersFit, CountsFit}
use Rattle.class_writer.specs.Writing.{index_from, class_name_of, utf8_index, class_index, pool_bytes, counted_bytes, none_bytes, catch_bytes, handler_bytes, code_bytes, given_bytes, field_bytes, method_bytes, super_bytes, behind_bytes, class_bytes}
use Rattle.class_writer.proofs.FirstIndex.{utf8_indexed, class_indexed}
use Rattle.class_writer.proofs.PoolBytes.{each_written, pool_written}

-- an index fits where the pool's count does
abbrev Room : List (Option Constant) → Type 0
Room pool = length pool + 1 < 2 ^ 16

counted_written : {A : Type 0} (Is : List ℕ → A → Type 0) (P : A → Type 0) (bytes : A → List ℕ) → ((x : A) → P x → Is (bytes x) x) → (xs : List A) → length xs < 2 ^ 16 → AllByRecursion P xs → Counted Is (counted_bytes bytes xs) xs
counted_written Is P bytes h xs short all = record { pieces = flat_map bytes xs; short = short; parts = refl; each = each_written Is P bytes h xs all }

no_attributes : (pool : List (Option Constant)) → Counted (IsAttribute pool) none_bytes []
no_attributes pool = record { pieces = []; short = omega arith; parts = refl; each = refl }

none_written : (pool : List (Option Constant)) → AreAttributes pool none_bytes
none_written pool = ([], no_attributes pool)

-- ---- code

catch_written : (pool : List (Option Constant)) (catch : Option (List ℕ)) → Room pool → IsValidCatch pool catch → IsCatch pool (catch_bytes pool catch) catch
catch_written pool None room is = refl
catch_written pool (Some class) room is = class_indexed pool class room is

handler_written : (pool : List (Option Constant)) → Room pool → (handler : Handler) → IsValidHandler pool handler → IsHandler pool (handler_bytes pool handler) handler
unfolding handler_bytes
handler_written pool room handler is = record {
  catch = catch_bytes pool handler.catch;
  start_fits = is.start_fits;
  end_fits = is.end_fits;
  handler_fits = is.handler_fits;
  catches = catch_written pool handler.catch room is.catches;
  parts = refl;
}

code_written : (pool : List (Option Constant)) (code : Code) → Room pool → length code.handlers < 2 ^ 16 → IsValidCode pool code → IsCode pool (code_bytes pool code) code
unfolding code_bytes
code_written pool code room short is = record {
  handlers = counted_bytes (handler_bytes pool) code.handlers;
  attributes = none_bytes;
  stack_fits = is.stack_fits;
  locals_fit = is.locals_fit;
  not_empty = is.not_empty;
  short = is.short;
  are_handlers = counted_written (IsHandler pool) (IsValidHandler pool) (handler_bytes pool) (handler_written pool room) code.handlers short is.are_handlers;
  are_attributes = none_written pool;
  parts = refl;
}

catch_sized : (pool : List (Option Constant)) (catch : Option (List ℕ)) → length (catch_bytes pool catch) ≡ 2
catch_sized pool None = length-bytes_high_first 2 0
catch_sized pool (Some class) = length-bytes_high_first 2 (index_from (class_name_of pool) class 1 pool)

handler_sized : (pool : List (Option Constant)) (handler : Handler) → length (handler_bytes pool handler) ≡ 8
unfolding handler_bytes
handler_sized pool handler =
    let catch : List ℕ = catch_bytes pool handler.catch in
    let end : List ℕ = big_bytes 2 handler.end in
    let target : List ℕ = big_bytes 2 handler.handler in
    omega (arith, length-append (big_bytes 2 handler.start) (end ++ (target ++ catch)), length-append end (target ++ catch), length-append target catch, length-bytes_high_first 2 handler.start, length-bytes_high_first 2 handler.end, length-bytes_high_first 2 handler.handler, catch_sized pool handler.catch)

handlers_sized : (pool : List (Option Constant)) (handlers : List Handler) → length (flat_map (handler_bytes pool) handlers) ≡ 8 * length handlers
handlers_sized pool [] = refl
handlers_sized pool (handler ∷ handlers) =
    omega (arith, length-append (handler_bytes pool handler) (flat_map (handler_bytes pool) handlers), handler_sized pool handler, handlers_sized pool handlers)

-- how many bytes an attribute Code holds
pub code_sized : (pool : List (Option Constant)) (code : Code) → length (code_bytes pool code) ≡ 12 + length code.bytes + 8 * length code.handlers
unfolding code_bytes
code_sized pool code =
    let all : List ℕ = flat_map (handler_bytes pool) code.handlers in
    let count : List ℕ = big_bytes 2 (length code.handlers) in
    let len : List ℕ = big_bytes 4 (length code.bytes) in
    let locals : List ℕ = big_bytes 2 code.max_locals in
    let stack : List ℕ = big_bytes 2 code.max_stack in
    let behind : List ℕ = (count ++ all) ++ none_bytes in
    omega (
      arith,
      length-append stack (locals ++ (len ++ (code.bytes ++ behind))),
      length-append locals (len ++ (code.bytes ++ behind)),
      length-append len (code.bytes ++ behind),
      length-append code.bytes behind,
      length-append (count ++ all) none_bytes,
      length-append count all,
      length-bytes_high_first 2 code.max_stack,
      length-bytes_high_first 2 code.max_locals,
      length-bytes_high_first 4 (length code.bytes),
      length-bytes_high_first 2 (length code.handlers),
      length-bytes_high_first 2 0,
      handlers_sized pool code.handlers,
    )

-- its length fits its four bytes
code_short : (pool : List (Option Constant)) (code : Code) → length code.handlers < 2 ^ 16 → length code.bytes ≤ 65535 → length (code_bytes pool code) < 2 ^ 32
code_short pool code short small = omega (arith, code_sized pool code)

-- the attributes of a method
record Given (pool : List (Option Constant)) (flags : ℕ) (code : Option Code) : Type 0 where
  stored : List Attribute
  are : Counted (IsAttribute pool) (given_bytes pool code) stored
  has : HasCode pool flags stored code

given_written : (pool : List (Option Constant)) (flags : ℕ) (code : Option Code) → Room pool → HandlersFit code → HasValidCode pool flags code → Given pool flags code
unfolding given_bytes
given_written pool flags None room fit has = record { stored = []; are = no_attributes pool; has = (has, refl) }
given_written pool flags (Some code) room fit has =
    let is = has.1 in
    let body : List ℕ = code_bytes pool code in
    let attribute : Attribute = record { name = codes "Code"; body = body } in
    let piece : List ℕ = utf8_index pool (codes "Code") ++ (big_bytes 4 (length body) ++ body) in
    let written : IsAttribute pool piece attribute = record { index = utf8_index pool (codes "Code"); named = utf8_indexed pool (codes "Code") room is.named; short = code_short pool code fit is.short; parts = refl } in
    record {
      stored = attribute ∷ [];
      are = record { pieces = piece; short = omega arith; parts = refl; each = (piece, [], sym (append-nil piece), written, refl) };
      has = (has.0, (body, refl, code_written pool code room fit is));
    }

-- ---- fields and methods

field_written : (pool : List (Option Constant)) → Room pool → (field : Field) → IsValidField pool field → IsField pool (field_bytes pool field) field
unfolding field_bytes
field_written pool room field is = record {
  name = utf8_index pool field.name;
  desc = utf8_index pool field.desc;
  attributes = none_bytes;
  flags_fit = is.flags_fit;
  named = utf8_indexed pool field.name room is.named;
  described = utf8_indexed pool field.desc room is.described;
  descriptor = is.descriptor;
  are_attributes = none_written pool;
  parts = refl;
}

-- a method, and room for its handlers
abbrev Writable : List (Option Constant) → Method → Type 0
Writable pool method = IsValidMethod pool method × HandlersFit method.code

method_written : (pool : List (Option Constant)) → Room pool → (method : Method) → Writable pool method → IsMethod pool (method_bytes pool method) method
unfolding method_bytes
method_written pool room method w =
    let is = w.0 in
    let given = given_written pool method.flags method.code room w.1 is.has_code in
    record {
      name = utf8_index pool method.name;
      desc = utf8_index pool method.desc;
      attributes = given_bytes pool method.code;
      stored = given.stored;
      flags_fit = is.flags_fit;
      named = utf8_indexed pool method.name room is.named;
      described = utf8_indexed pool method.desc room is.described;
      descriptor = is.descriptor;
      are_attributes = given.are;
      has_code = given.has;
      parts = refl;
    }

writable : (pool : List (Option Constant)) (methods : List Method) → AllByRecursion (IsValidMethod pool) methods → AllByRecursion (λ method. HandlersFit method.code) methods → AllByRecursion (Writable pool) methods
writable pool [] valid fit = tt
writable pool (method ∷ methods) valid fit = ((valid.0, fit.0), writable pool methods valid.1 fit.1)

-- ---- the class

super_written : (pool : List (Option Constant)) (super_name : Option (List ℕ)) (super_class : List ℕ) → Room pool → super_name ≡ Some super_class → HasIndex (class_name_at pool) super_class
    → IsIndex (class_name_at pool) (super_bytes pool super_name) super_class
super_written pool super_name super_class room e has = subst (λ (o : Option (List ℕ)). IsIndex (class_name_at pool) (super_bytes pool o) super_class) (sym e) (class_indexed pool super_class room has)

pub class_written : (c : ClassRecord) → IsClass c → CountsFit c → IsClassFile (class_bytes c) c
unfolding class_bytes behind_bytes
class_written c is fit =
    let room : Room c.pool = fit.entries in
    record {
      minor = 0;
      pool = pool_bytes c.pool;
      this = class_index c.pool c.name;
      super = super_bytes c.pool c.super_name;
      super_class = is.super_class;
      interfaces = counted_bytes (class_index c.pool) c.interfaces;
      fields = counted_bytes (field_bytes c.pool) c.fields;
      methods = counted_bytes (method_bytes c.pool) c.methods;
      attributes = none_bytes;
      minor_fits = omega arith;
      version = is.version;
      flags_fit = is.flags_fit;
      is_pool = pool_written c.pool is.is_pool room;
      named = class_indexed c.pool c.name room is.named;
      below = (super_written c.pool c.super_name is.super_class room is.below.1 is.below.0, is.below.1);
      are_interfaces = counted_written (IsIndex (class_name_at c.pool)) (HasIndex (class_name_at c.pool)) (class_index c.pool) (λ name has. class_indexed c.pool name room has) c.interfaces fit.interfaces is.are_interfaces;
      are_fields = counted_written (IsField c.pool) (IsValidField c.pool) (field_bytes c.pool) (field_written c.pool room) c.fields fit.fields is.are_fields;
      are_methods = counted_written (IsMethod c.pool) (Writable c.pool) (method_bytes c.pool) (method_written c.pool room) c.methods fit.methods (writable c.pool c.methods is.are_methods fit.handlers);
      are_attributes = none_written c.pool;
      distinct_fields = is.distinct_fields;
      distinct_methods = is.distinct_methods;
      not_built_in = is.not_built_in;
      parts = refl;
    }
