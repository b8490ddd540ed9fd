use Rattle.std.proofs.Common.{◌∙◌, ap}
use Rattle.class_reader.specs.declared.class.ClassRecord.{ClassRecord}
use Rattle.entries.specs.Entry.{AreHanded, argument_types}
use Rattle.entries.proofs.Good.{handed_at, entry_is}
use Rattle.entries.proofs.entering.enter_code.Goals as goal

pub begin-requires : goal.begin-requires
begin-requires c =
    let handed : AreHanded c.args.w.now c.args.m c.args.method.now c.args.code.now c.args.arguments.now c.args.heap =
    handed_at c.args.w.now c.args.m c.args.method.now c.args.code.now c.deref.result.now c.args.arguments.now c.args.heap c.in_ok-i.field-0
    (c.deref.ensures.value ∙ c.in_ok-types.ensures ∙ ap (λ (r : ClassRecord). argument_types r c.args.method.now) c.record_at.ensures.same) c.in-None.is c.in_ok-i.ensures in
    handed.room

pub returns-in_ok-state-in-None-clause-entry : goal.returns-in_ok-state-in-None-clause-entry
returns-in_ok-state-in-None-clause-entry c =
    let handed : AreHanded c.args.w.now c.args.m c.args.method.now c.args.code.now c.args.arguments.now c.args.heap =
    handed_at c.args.w.now c.args.m c.args.method.now c.args.code.now c.deref.result.now c.args.arguments.now c.args.heap c.in_ok-i.field-0
    (c.deref.ensures.value ∙ c.in_ok-types.ensures ∙ ap (λ (r : ClassRecord). argument_types r c.args.method.now) c.record_at.ensures.same) c.in-None.is c.in_ok-i.ensures in
    entry_is c.args.w.now c.args.m c.args.method.now c.args.code.now c.args.arguments.now c.args.heap c.in_ok-state-in-None.state c.requires.declared c.requires.code handed c.in_ok-state-in-None.ensures
