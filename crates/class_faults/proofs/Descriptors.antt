-- A text that doesn't pass the test for a descriptor is none.
use Rattle.std.proofs.Common.{◌≡◌, ℕ, List, false, true≢false, sym, ◌∙◌}
use Rattle.class_reader.specs.Flags.{is_static}
use Rattle.descriptors.specs.Tests.{describes, is_field}
use Rattle.descriptors.proofs.Methods.{field_decided, describes_decided}
use Rattle.class_faults.specs.Parts.{Fields, Methods}
use Rattle.class_faults.specs.Faults.{IsDescriptor}

pub no_field : (flags : ℕ) (text : List ℕ) → is_field text ≡ false → IsDescriptor Fields flags text → ⊥
no_field flags text e is = true≢false (sym ((field_decided text).1 is) ∙ e)

pub no_method : (flags : ℕ) (text : List ℕ) → describes (is_static flags) text ≡ false → IsDescriptor Methods flags text → ⊥
no_method flags text e is = true≢false (sym ((describes_decided (is_static flags) text).1 is) ∙ e)
