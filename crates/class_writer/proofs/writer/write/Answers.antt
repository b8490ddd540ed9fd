use Rattle.std.proofs.Common.{◌≡◌, ℕ, None, List, sym, subst, ◌∙◌}
use Rattle.class_reader.specs.declared.class.ClassRecord.{ClassRecord}
use Rattle.class_reader.specs.ClassFile.{IsClassFile}
use Rattle.class_reader.specs.Valid.{IsClass}
use Rattle.class_reader.specs.FirstFault.{IsDecided}
use Rattle.class_writer.specs.Counts.{CountsFit, over}
use Rattle.class_writer.specs.ReadAgain.{IsReadAs}
use Rattle.class_writer.specs.Writing.{class_bytes}
use Rattle.class_writer.proofs.Over.{counts_fit}
use Rattle.class_writer.proofs.writer.write.Goals as goal

pub write_record-requires-clause-fit : goal.write_record-requires-clause-fit
write_record-requires-clause-fit c = counts_fit c.record-class.result.now (sym c.over.ensures ∙ c.in_default.is)

-- bytes of the class, where nothing is over
is_written : (law : (class : ClassRecord) → IsClass class → CountsFit class → IsClassFile (class_bytes class) class) (class there : ClassRecord) (bytes : List ℕ) → there ≡ class → IsClass class → over there ≡ None → bytes ≡ class_bytes there → IsClassFile bytes class
is_written law class there bytes same is none written =
    let P : ClassRecord → Type 0 = λ c. over c ≡ None in
    subst (λ (b : List ℕ). IsClassFile b class) (sym (written ∙ rw same)) (law class is (counts_fit class (subst P same none)))

read_as : (bytes : List ℕ) (class : ClassRecord) → IsDecided bytes → IsClassFile bytes class → IsReadAs bytes class
read_as bytes class decided is = record { is = is; one_class = λ other is_other. decided.one_class other class is_other is; no_fault = λ fault first. decided.not_both class fault is first }

pub returns-clause-found : goal.returns-clause-found
returns-clause-found c =
    is_written c.written_is_class_file.ensures c.args.c.now c.record-class.result.now c.in_ok-write_record.field-0.items c.record-class.ensures.same c.record-class.ensures.valid (sym c.over.ensures ∙ c.in_default.is) c.in_ok-write_record.ensures.same

pub returns-clause-read_again : goal.returns-clause-read_again
returns-clause-read_again c =
    let bytes = c.in_ok-write_record.field-0.items in
    read_as bytes c.args.c.now (c.is_decided.ensures bytes c.in_ok-write_record.ensures.bytes)
    (is_written c.written_is_class_file.ensures c.args.c.now c.record-class.result.now bytes c.record-class.ensures.same c.record-class.ensures.valid (sym c.over.ensures ∙ c.in_default.is) c.in_ok-write_record.ensures.same)
