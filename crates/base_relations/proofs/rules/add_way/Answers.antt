use Rattle.std.proofs.Common.{◌≡◌, ◌∙◌, ◌<◌, ◌≤◌, ◌++◌, ◌∷◌, [], length, Ok, Err, true, false, refl, ap, sym, arith, rules}
use Rattle.std.proofs.lemmas.Result.{err_from_is_err_and}
use Rattle.base_relations.specs.declared.fault.UnfoldFault.TheVariants as faults
use Rattle.base_relations.specs.Steps.{steps_of}
use Rattle.base_relations.specs.Limits.{rules_made}
use Rattle.base_relations.specs.inside.Trails.{all_of, todo_steps}
use Rattle.base_relations.proofs.Looking.{start_keeps, all_filled}
use Rattle.base_relations.proofs.Ruling.{rules_full, rules_long, rules_end, few_items, turn_rule, turn_fault, begins}
use Rattle.base_relations.proofs.rules.add_way.Goals as goal

pub loop-alloc-init : goal.loop-alloc-init
loop-alloc-init c =
    let t = c.in_ok-trail.trail in
    let e = c.in_ok-trail.ensures in
    record {
      kept = start_keeps c.args.plan.now c.requires.plan t.done t.pending t.items (steps_of c.args.way.now) e.done e.pending e.items c.requires.good;
      same = ap (rules_made c.args.sizes c.args.rules.now) (begins c.args.plan.now c.requires.plan t.done t.pending (steps_of c.args.way.now) e.done e.pending);
    }

pub returns-then-len-ge-RULE_LIMIT : goal.returns-then-len-ge-RULE_LIMIT
returns-then-len-ge-RULE_LIMIT c =
    let t = c.loop-alloc.trail in
    λ ne. sym c.loop-alloc.invariant.same ∙ rules_full c.args.sizes c.loop-alloc.rules (all_of c.args.plan.now t.done (todo_steps t.pending)) (omega arith) (all_filled c.args.plan.now c.requires.plan t.done t.pending t.items c.loop-alloc.invariant.kept)

pub returns-in_err-forward : goal.returns-in_err-forward
returns-in_err-forward c =
    let t = c.loop-alloc.trail in
    let p = err_from_is_err_and c.from_residual-in_err-forward.result c.from_residual-in_err-forward.ensures.1 in
    rw (p.1, p.2) (λ ne.
    let long = c.in_err-forward.ensures.long _ refl ne in
    sym c.loop-alloc.invariant.same ∙ rules_long c.args.sizes c.loop-alloc.rules (all_of c.args.plan.now t.done (todo_steps t.pending)) (omega arith) long.1 ∙ ap (λ e. Err e) (sym long.0))

pub rule_made-requires-clause-few : goal.rule_made-requires-clause-few
rule_made-requires-clause-few c =
    let f = c.forward.new.trail in
    few_items c.args.plan.now f.done c.from_below.result.now f.pending f.items c.in_ok-forward.ensures.trail c.from_below.ensures

pub returns-in_err-rule_made : goal.returns-in_err-rule_made
returns-in_err-rule_made c =
    let t = c.loop-alloc.trail in
    let f = c.forward.new.trail in
    let p = err_from_is_err_and c.from_residual-in_err-rule_made.result c.from_residual-in_err-rule_made.ensures.1 in
    rw (p.1, p.2) (λ ne.
    sym c.loop-alloc.invariant.same ∙ turn_fault c.args.plan.now c.requires.plan c.args.sizes c.loop-alloc.rules (all_of c.args.plan.now t.done (todo_steps t.pending)) f.done c.from_below.result.now f.pending _ (omega arith) c.in_ok-forward.ensures.ended c.in_ok-forward.ensures.same c.from_below.ensures (c.in_err-rule_made.ensures ne))

pub returns-then-not-branch : goal.returns-then-not-branch
returns-then-not-branch c =
    let t = c.loop-alloc.trail in
    let f = c.forward.new.trail in
    let b : c.in_ok-back.field-0 ≡ false = search rules in
    let none = rw b at c.in_ok-back.ensures.next in
    sym c.loop-alloc.invariant.same
    ∙ turn_rule c.args.plan.now c.requires.plan c.args.sizes c.loop-alloc.rules (all_of c.args.plan.now t.done (todo_steps t.pending)) f.done c.from_below.result.now f.pending c.in_ok-rule_made.field-0 (omega arith) c.in_ok-forward.ensures.ended c.in_ok-forward.ensures.same c.from_below.ensures c.in_ok-rule_made.ensures
    ∙ ap (rules_made c.args.sizes (c.loop-alloc.rules ++ c.in_ok-rule_made.field-0 ∷ [])) none ∙ rules_end c.args.sizes (c.loop-alloc.rules ++ c.in_ok-rule_made.field-0 ∷ []) ∙ ap (λ rs. Ok rs) (sym c.in_ok-push.ensures.ok)

pub loop-alloc-preserved : goal.loop-alloc-preserved
loop-alloc-preserved c =
    let t = c.loop-alloc.trail in
    let f = c.forward.new.trail in
    let n = c.back.new.trail in
    let b : c.in_ok-back.field-0 ≡ true = search rules in
    let next = rw b at c.in_ok-back.ensures.next in
    record {
      kept = c.in_ok-back.ensures.trail;
      same =
          ap (λ rs. rules_made c.args.sizes rs (all_of c.args.plan.now n.done (todo_steps n.pending))) c.in_ok-push.ensures.ok
          ∙ ap (rules_made c.args.sizes (c.loop-alloc.rules ++ c.in_ok-rule_made.field-0 ∷ [])) next
          ∙ sym (turn_rule c.args.plan.now c.requires.plan c.args.sizes c.loop-alloc.rules (all_of c.args.plan.now t.done (todo_steps t.pending)) f.done c.from_below.result.now f.pending c.in_ok-rule_made.field-0 (omega arith) c.in_ok-forward.ensures.ended c.in_ok-forward.ensures.same c.from_below.ensures c.in_ok-rule_made.ensures)
          ∙ c.loop-alloc.invariant.same;
    }
