use Rattle.std.proofs.Common.{◌+◌, ◌<◌, List, length, sym, subst}
use Rattle.std.specs.Prelude.{slice_set}
use Rattle.std.proofs.lemmas.Option.{slice_get_within}
use Rattle.path_length.specs.declared.walk.Mark.{Mark}
use Rattle.path_length.specs.declared.walk.Mark.TheVariants.{New, Open, Done}
use Rattle.path_length.specs.declared.walk.Finding.TheVariants as findings
use Rattle.path_length.specs.inside.Walking.{IsLook}
use Rattle.path_length.proofs.Steps.{left, node_within, next_within, passed, entered, cycle_found, left_falls, passed_falls, entered_falls, walk_at, work_at}
use Rattle.path_length.proofs.walk.step.Goals as goal

pub look-requires : goal.look-requires
look-requires c = λ b e. subst (λ (ms : List Mark). b < length ms) (sym c.as_slice.ensures.value) (next_within c.args.heap.now c.args.root c.args.walk.now.marks.items c.args.walk.now.visits.items c.args.visit b c.requires.held c.requires.walk e)

pub leave-requires-clause-node : goal.leave-requires-clause-node
leave-requires-clause-node c = node_within c.args.heap.now c.args.root c.args.walk.now.marks.items c.args.walk.now.visits.items c.args.visit c.requires.held c.requires.walk

pub pass-requires : goal.pass-requires
pass-requires c =
    let look = subst (λ (ms : List Mark). IsLook c.args.heap.now ms c.args.visit (findings.Pass c.in-Pass.longest)) c.as_slice.ensures.value c.in-Pass.ensures.look in
    c.in-Pass.ensures.small look.0 look.1

pub enter_from-requires : goal.enter_from-requires
enter_from-requires c =
    let look = subst (λ (ms : List Mark). IsLook c.args.heap.now ms c.args.visit (findings.Enter c.in-Enter.node)) c.as_slice.ensures.value c.in-Enter.ensures.look in
    slice_get_within c.args.walk.now.marks.items c.in-Enter.node New look.1

pub returns-in-Leave-clause-goes : goal.returns-in-Leave-clause-goes
returns-in-Leave-clause-goes c = λ e.
    walk_at c.args.heap.now c.args.root c.leave.new.walk.marks.items (slice_set c.args.walk.now.marks.items c.args.visit.node (Done (c.args.visit.longest + 1))) c.leave.new.walk.visits.items c.args.walk.now.visits.items
    (left c.args.heap.now c.args.root c.args.walk.now.marks.items c.args.walk.now.visits.items c.args.visit c.requires.held c.requires.walk c.in-Leave.ensures.look) c.leave.ensures.marks c.leave.ensures.visits

pub returns-in-Leave-clause-falls : goal.returns-in-Leave-clause-falls
returns-in-Leave-clause-falls c = λ e.
    work_at c.args.heap.now c.leave.new.walk.marks.items (slice_set c.args.walk.now.marks.items c.args.visit.node (Done (c.args.visit.longest + 1))) c.leave.new.walk.visits.items c.args.walk.now.visits.items _
    (left_falls c.args.heap.now c.args.walk.now.marks.items c.args.walk.now.visits.items c.args.visit (c.args.visit.longest + 1)) c.leave.ensures.marks c.leave.ensures.visits

pub returns-in_ok-pass-in-Pass-clause-goes : goal.returns-in_ok-pass-in-Pass-clause-goes
returns-in_ok-pass-in-Pass-clause-goes c = λ e.
    let look = subst (λ (ms : List Mark). IsLook c.args.heap.now ms c.args.visit (findings.Pass c.in-Pass.longest)) c.as_slice.ensures.value c.in-Pass.ensures.look in
    walk_at c.args.heap.now c.args.root c.pass.new.walk.marks.items c.args.walk.now.marks.items c.pass.new.walk.visits.items _
    (passed c.args.heap.now c.args.root c.args.walk.now.marks.items c.args.walk.now.visits.items c.args.visit look.0 c.in-Pass.longest c.requires.walk look.1 look.2) c.in_ok-pass-in-Pass.ensures.marks c.in_ok-pass-in-Pass.ensures.visits

pub returns-in_ok-pass-in-Pass-clause-falls : goal.returns-in_ok-pass-in-Pass-clause-falls
returns-in_ok-pass-in-Pass-clause-falls c = λ e.
    let look = subst (λ (ms : List Mark). IsLook c.args.heap.now ms c.args.visit (findings.Pass c.in-Pass.longest)) c.as_slice.ensures.value c.in-Pass.ensures.look in
    work_at c.args.heap.now c.pass.new.walk.marks.items c.args.walk.now.marks.items c.pass.new.walk.visits.items _ _
    (passed_falls c.args.heap.now c.args.walk.now.marks.items c.args.walk.now.visits.items c.args.visit look.0 c.in-Pass.longest look.1) c.in_ok-pass-in-Pass.ensures.marks c.in_ok-pass-in-Pass.ensures.visits

pub returns-in_ok-enter_from-in-Enter-clause-goes : goal.returns-in_ok-enter_from-in-Enter-clause-goes
returns-in_ok-enter_from-in-Enter-clause-goes c = λ e.
    let look = subst (λ (ms : List Mark). IsLook c.args.heap.now ms c.args.visit (findings.Enter c.in-Enter.node)) c.as_slice.ensures.value c.in-Enter.ensures.look in
    walk_at c.args.heap.now c.args.root c.enter_from.new.walk.marks.items (slice_set c.args.walk.now.marks.items c.in-Enter.node Open) c.enter_from.new.walk.visits.items _
    (entered c.args.heap.now c.args.root c.args.walk.now.marks.items c.args.walk.now.visits.items c.args.visit c.in-Enter.node c.requires.walk look.0 look.1) c.in_ok-enter_from-in-Enter.ensures.marks c.in_ok-enter_from-in-Enter.ensures.visits

pub returns-in_ok-enter_from-in-Enter-clause-falls : goal.returns-in_ok-enter_from-in-Enter-clause-falls
returns-in_ok-enter_from-in-Enter-clause-falls c = λ e.
    let look = subst (λ (ms : List Mark). IsLook c.args.heap.now ms c.args.visit (findings.Enter c.in-Enter.node)) c.as_slice.ensures.value c.in-Enter.ensures.look in
    work_at c.args.heap.now c.enter_from.new.walk.marks.items (slice_set c.args.walk.now.marks.items c.in-Enter.node Open) c.enter_from.new.walk.visits.items _ _
    (entered_falls c.args.heap.now c.args.walk.now.marks.items c.args.walk.now.visits.items c.args.visit c.in-Enter.node look.1) c.in_ok-enter_from-in-Enter.ensures.marks c.in_ok-enter_from-in-Enter.ensures.visits

pub returns-in-Cycle-clause-found : goal.returns-in-Cycle-clause-found
returns-in-Cycle-clause-found c = λ e.
    let look = subst (λ (ms : List Mark). IsLook c.args.heap.now ms c.args.visit findings.Cycle) c.as_slice.ensures.value c.in-Cycle.ensures.look in
    cycle_found c.args.heap.now c.args.root c.args.walk.now.marks.items c.args.walk.now.visits.items c.args.visit look.0 c.requires.walk look.1 look.2
