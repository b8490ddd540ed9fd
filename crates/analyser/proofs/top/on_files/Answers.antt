use Rattle.std.proofs.Common.{Err, ap}
use Rattle.analyser.proofs.Answering.{few_classes, on_all, has_bad_class}
use Rattle.analyser.proofs.top.on_files.Goals as goal

pub on_classes-requires : goal.on_classes-requires
on_classes-requires c = few_classes c.args.files.now c.in-Ok.classes.items c.in-Ok.ensures.found c.requires.few

pub returns-in-Ok : goal.returns-in-Ok
returns-in-Ok c = on_all c.args.target c.args.files.now c.in-Ok.classes.items c.on_classes.result c.in-Ok.ensures.found c.on_classes.ensures

pub returns-in-Err-Bad : goal.returns-in-Err-Bad
returns-in-Err-Bad c =
    has_bad_class c.args.target c.args.files.now c.in-Err-Bad.word c.in-Err-Bad.offset c.in-Err-Bad.kind _ _ _
    (c.in-Err-Bad.ensures.bad c.in-Err-Bad.word c.in-Err-Bad.offset c.in-Err-Bad.kind (ap Err c.in-Err-Bad.field-0-is)) c.in-Err-Bad.word-is c.in-Err-Bad.offset-is
    c.in-Err-Bad.kind-is
