use Rattle.std.proofs.Common.{◌≡◌, Err, arith}
use Rattle.analyser.proofs.FetchedFiles.{bad_at, read_next}
use Rattle.analyser.specs.declared.classes.Unread.TheVariants.{Bad}
use Rattle.analyser.proofs.classes.classes_of.Goals as goal

pub returns-in_err-class-clause-bad : goal.returns-in_err-class-clause-bad
returns-in_err-class-clause-bad c = λ word offset kind e.
    let was : Err c.in_err-class.field-0.0 ≡ Err (Bad word offset kind) = grind (arith, e, c.from_residual.ensures) in
    bad_at c.args.files.now c.loop-file.classes.items c.loop-file.file-index word offset kind c.file-item.result c.loop-file.invariant c.loop-file-test.true c.file-item.is
    (c.in_err-class.ensures.word word offset kind was) (c.in_err-class.ensures.fault word offset kind was)

pub loop-file-preserved : goal.loop-file-preserved
loop-file-preserved c =
    read_next c.args.files.now c.loop-file.classes.items c.push.new.self.items c.loop-file.file-index c.file-item.result c.in_ok-class.class c.loop-file.invariant
    c.loop-file-test.true c.file-item.is c.in_ok-class.ensures.found c.in_ok-push.ensures.items
