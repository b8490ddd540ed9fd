-- What has room in the fields of two and four bytes that hold its length.
use Rattle.std.specs.Prelude.{◌<◌, ◌^◌, length, Option, Some, None}
use Rattle.class_pool.specs.declared.constant.Constant.{Constant}
use Rattle.class_pool.specs.declared.constant.Constant.TheVariants.{Utf8}
use Rattle.class_reader.specs.declared.class.Code.{Code}
use Rattle.class_reader.specs.declared.class.Method.{Method}

-- a text has at most 65,535 bytes (JVMS 4.4.7)
abbrev pub TextFits : Constant → Type 0
TextFits (Utf8 text) = length text < 2 ^ 16
TextFits other = Unit {0}

abbrev pub SlotFits : Option Constant → Type 0
SlotFits None = Unit {0}
SlotFits (Some entry) = TextFits entry

-- at most 65,535 bytes and as many handlers (JVMS 4.7.3)
abbrev pub CodeFits : Option Code → Type 0
CodeFits None = Unit {0}
CodeFits (Some code) = (length code.bytes < 2 ^ 16) × (length code.handlers < 2 ^ 16)

abbrev pub MethodFits : Method → Type 0
MethodFits method = CodeFits method.code
