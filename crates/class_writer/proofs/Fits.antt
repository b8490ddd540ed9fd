-- What a class has fits the fields of its lengths.
use Rattle.std.proofs.Common.{ℕ, Bool, true, false, cond, List, [], ◌∷◌, Option, Some, None, sym, subst, arith}
use Rattle.std.specs.List.{AllByRecursion}
use Rattle.class_pool.specs.declared.constant.Constant.{Constant}
use Rattle.class_pool.specs.declared.constant.Constant.TheVariants.{Utf8}
use Rattle.class_pool.specs.Pool.{is_wide, laid_out}
use Rattle.class_reader.specs.declared.class.Method.{Method}
use Rattle.class_reader.specs.declared.class.Code.{Code}
use Rattle.class_reader.specs.Valid.{HasBytes, IsValidPool, HasValidCode, IsValidMethod}
use Rattle.class_writer.specs.Counts.{HandlersFit}
use Rattle.class_writer.specs.Fitting.{TextFits, SlotFits, CodeFits, MethodFits}

text_fits : (entry : Constant) → HasBytes entry → TextFits entry
text_fits (Utf8 text) has = has.1.0.0
text_fits other has = tt

behind_fits : (wide : Bool) (slots : List (Option Constant)) → AllByRecursion SlotFits slots → AllByRecursion SlotFits (cond wide (None ∷ slots) slots)
behind_fits true slots fit = (tt, fit)
behind_fits false slots fit = fit

laid_fits : (entries : List Constant) → AllByRecursion HasBytes entries → AllByRecursion SlotFits (laid_out entries)
laid_fits [] has = tt
laid_fits (entry ∷ entries) has = (text_fits entry has.0, behind_fits (is_wide entry) (laid_out entries) (laid_fits entries has.1))

pub slots_fit : (pool : List (Option Constant)) → IsValidPool pool → AllByRecursion SlotFits pool
slots_fit pool is = subst (AllByRecursion SlotFits) (sym is.laid) (laid_fits is.entries is.each)

code_fits : (pool : List (Option Constant)) (flags : ℕ) (code : Option Code) → HasValidCode pool flags code → HandlersFit code → CodeFits code
code_fits pool flags None has fit = tt
code_fits pool flags (Some code) has fit = (omega (arith, has.1.short), fit)

pub methods_fit : (pool : List (Option Constant)) (methods : List Method) → AllByRecursion (IsValidMethod pool) methods → AllByRecursion (λ method. HandlersFit method.code) methods → AllByRecursion MethodFits methods
methods_fit pool [] valid fit = tt
methods_fit pool (method ∷ methods) valid fit = (code_fits pool method.flags method.code valid.0.has_code fit.0, methods_fit pool methods valid.1 fit.1)
