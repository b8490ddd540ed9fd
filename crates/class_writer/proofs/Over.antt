-- Nothing is over exactly where all counts fit.
use Rattle.std.proofs.Common.{◌≡◌, ◌+◌, ◌^◌, Bool, true, false, cond, List, [], ◌∷◌, length, Option, Some, None, refl}
use Rattle.std.specs.Prelude.{◌↔◌}
use Rattle.std.specs.List.{AllByRecursion, list_any}
use Rattle.std.proofs.lemmas.Bool.{leb-false, lt-leb, or_parts}
use Rattle.class_reader.specs.declared.class.ClassRecord.{ClassRecord}
use Rattle.class_reader.specs.declared.class.Method.{Method}
use Rattle.class_reader.specs.declared.class.Code.{Code}
use Rattle.class_writer.specs.declared.fault.What.{What}
use Rattle.class_writer.specs.Counts.{HandlersFit, CountsFit, passes, passes_in, has_too_many, over}

not_over : (test : Bool) (what : What) (others : Option What) → cond test (Some what) others ≡ None → (test ≡ false) × (others ≡ None)
not_over true what others e = absurd cc
not_over false what others e = (refl, e)

none_over : (test : Bool) (what : What) (others : Option What) → test ≡ false → others ≡ None → cond test (Some what) others ≡ None
none_over test what others off e = rw off e

handlers_fit : (code : Option Code) → passes_in code ≡ false → HandlersFit code
handlers_fit None off = tt
handlers_fit (Some code) off = leb-false (2 ^ 16) (length code.handlers) off

not_passed : (code : Option Code) → HandlersFit code → passes_in code ≡ false
not_passed None fit = refl
not_passed (Some code) fit = lt-leb (2 ^ 16) (length code.handlers) fit

all_fit : (methods : List Method) → list_any has_too_many methods ≡ false → AllByRecursion (λ method. HandlersFit method.code) methods
all_fit [] off = tt
all_fit (method ∷ methods) off = let parts = or_parts (has_too_many method) (list_any has_too_many methods) off in (handlers_fit method.code parts.0, all_fit methods parts.1)

none_passed : (methods : List Method) → AllByRecursion (λ method. HandlersFit method.code) methods → list_any has_too_many methods ≡ false
none_passed [] fit = refl
none_passed (method ∷ methods) fit = rw (not_passed method.code fit.0) (none_passed methods fit.1)

pub counts_fit : (c : ClassRecord) → over c ≡ None → CountsFit c
unfolding over
counts_fit c e =
    let pool = not_over (passes (length c.pool + 1)) _ _ e in
    let interfaces = not_over (passes (length c.interfaces)) _ _ pool.1 in
    let fields = not_over (passes (length c.fields)) _ _ interfaces.1 in
    let methods = not_over (passes (length c.methods)) _ _ fields.1 in
    let handlers = not_over (list_any has_too_many c.methods) _ _ methods.1 in
    record {
      entries = leb-false (2 ^ 16) (length c.pool + 1) pool.0;
      interfaces = leb-false (2 ^ 16) (length c.interfaces) interfaces.0;
      fields = leb-false (2 ^ 16) (length c.fields) fields.0;
      methods = leb-false (2 ^ 16) (length c.methods) methods.0;
      handlers = all_fit c.methods handlers.0;
    }

nothing_over : (c : ClassRecord) → CountsFit c → over c ≡ None
unfolding over
nothing_over c fit =
    none_over (passes (length c.pool + 1)) _ _ (lt-leb (2 ^ 16) (length c.pool + 1) fit.entries)
    (none_over (passes (length c.interfaces)) _ _ (lt-leb (2 ^ 16) (length c.interfaces) fit.interfaces)
    (none_over (passes (length c.fields)) _ _ (lt-leb (2 ^ 16) (length c.fields) fit.fields)
    (none_over (passes (length c.methods)) _ _ (lt-leb (2 ^ 16) (length c.methods) fit.methods)
    (none_over (list_any has_too_many c.methods) _ _ (none_passed c.methods fit.handlers) refl))))

pub is_over : (c : ClassRecord) → (over c ≡ None) ↔ CountsFit c
is_over c = (counts_fit c, nothing_over c)
