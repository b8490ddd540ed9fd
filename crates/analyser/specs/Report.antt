-- The report of an answer.
use Rattle.std.specs.Prelude.{ℕ, List, [], ◌∷◌, ◌++◌, codes, decimal}
use Rattle.op_table.specs.Construct.{word_of}
use Rattle.text_out.specs.Names.{plain_name, target_text}
use Rattle.class_hierarchy.specs.declared.fault.WorldFault.{WorldFault}
use Rattle.class_hierarchy.specs.declared.fault.WorldFault.TheVariants as faults
use Rattle.analyser.specs.declared.status.FaultKind.{FaultKind}
use Rattle.analyser.specs.declared.status.FaultKind.TheVariants as kinds
use Rattle.analyser.specs.declared.status.LimitKind.{LimitKind}
use Rattle.analyser.specs.declared.status.LimitKind.TheVariants.{Files, Bytes, Methods, Coefficient}
use Rattle.analyser.specs.declared.status.Status.{Status}
use Rattle.analyser.specs.declared.status.Status.TheVariants as answers

abbrev pub limit_word : LimitKind → List ℕ
limit_word Files = codes "files"
limit_word Bytes = codes "bytes"
limit_word Methods = codes "methods"
limit_word Coefficient = codes "coefficient"

abbrev pub kind_word : FaultKind → List ℕ
kind_word kinds.Magic = codes "magic"
kind_word kinds.Version = codes "version"
kind_word kinds.Short = codes "short"
kind_word kinds.Tag = codes "tag"
kind_word kinds.Index = codes "index"
kind_word kinds.Utf8 = codes "utf8"
kind_word kinds.Descriptor = codes "descriptor"
kind_word kinds.Code = codes "code"
kind_word kinds.Repeated = codes "repeated"
kind_word kinds.Reserved = codes "reserved"
kind_word kinds.Trailing = codes "trailing"

-- a label and a name, or two
abbrev pub name_line : List ℕ → List ℕ → List ℕ
name_line label name = label ++ (plain_name name ++ 10 ∷ [])

abbrev pub names_line : List ℕ → List ℕ → List ℕ → List ℕ
names_line label class name = label ++ (plain_name class ++ (32 ∷ plain_name name ++ 10 ∷ []))

-- why classes are no world; want of memory is no reason
abbrev pub fault_text : WorldFault → List ℕ
fault_text (faults.Twice name) = name_line (codes "twice ") name
fault_text (faults.MissingSuper class name) = names_line (codes "missing super ") class name
fault_text (faults.WrongSuper class name) = names_line (codes "wrong super ") class name
fault_text (faults.SuperCycle name) = name_line (codes "super cycle ") name
fault_text (faults.FinalSuper class name) = names_line (codes "final super ") class name
fault_text faults.Memory = []

-- one line, ended by a line feed; two answers have none
abbrev pub report_of : Status → List ℕ
report_of (answers.Bound n) = codes "bound " ++ (decimal n ++ 10 ∷ [])
report_of (answers.Unsupported target pc construct) =
    codes "unsupported " ++ (target_text target ++ (32 ∷ decimal pc ++ (32 ∷ word_of construct ++ 10 ∷ [])))
report_of (answers.Limit kind number) = codes "limit " ++ (limit_word kind ++ (32 ∷ decimal number ++ 10 ∷ []))
report_of (answers.NotYet word) = codes "not yet " ++ (decimal word ++ 10 ∷ [])
report_of (answers.BadClass word offset kind) =
    codes "bad class " ++ (decimal word ++ (32 ∷ decimal offset ++ (32 ∷ kind_word kind ++ 10 ∷ [])))
report_of (answers.BadWorld fault) = fault_text fault
report_of (answers.NoMethod target) = codes "no method " ++ (target_text target ++ 10 ∷ [])
report_of (answers.Usage index) = codes "usage " ++ (decimal index ++ 10 ∷ [])
report_of (answers.FetchFault word) = codes "cannot read " ++ (decimal word ++ 10 ∷ [])
report_of (answers.TooLong word) = codes "too long " ++ (decimal word ++ 10 ∷ [])
report_of answers.OutFault = []
report_of answers.Memory = []

-- with which status the program ends
abbrev pub code_of : Status → ℕ
code_of (answers.Bound n) = 0
code_of (answers.Unsupported target pc construct) = 2
code_of (answers.Limit kind number) = 2
code_of (answers.NotYet word) = 2
code_of (answers.BadClass word offset kind) = 3
code_of (answers.BadWorld fault) = 3
code_of (answers.NoMethod target) = 3
code_of (answers.Usage index) = 4
code_of (answers.FetchFault word) = 5
code_of (answers.TooLong word) = 5
code_of answers.OutFault = 5
code_of answers.Memory = 7
