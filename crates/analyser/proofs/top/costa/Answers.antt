use Rattle.std.proofs.Common.{ap}
use Rattle.class_reader.proofs.VerdictLaws.{decided}
use Rattle.code_flow.proofs.Founded.{founded}
use Rattle.code_flow.proofs.ProgramLaws.{flow_is_program}
use Rattle.call_costs.proofs.Bounding.{runs_bounded}
use Rattle.analyser.specs.Words.{asked_of}
use Rattle.analyser.specs.declared.status.Status.TheVariants as answers
use Rattle.analyser.proofs.Causes.{Known, has_cause, is_usage, is_out_fault, is_told, refused_so, many_so, too_big_so, overlong_so, is_answered, has_fault, is_unread, is_bounded}
use Rattle.analyser.proofs.Calls.{once, at_most_once, without_fault, nothing_put, shelf_stays, asks_for_none}
use Rattle.analyser.proofs.top.costa.Goals as goal

known : Known
known = record { programs = flow_is_program; bounded = runs_bounded; founded = founded }

pub returns-clause-bound : goal.returns-clause-bound
returns-clause-bound g c = λ bound is. has_cause _ _ _ c.answer_and_put.result (answers.Bound bound) _ _ known c.answer_and_put.ensures.outcome is (record { put = λ e. cc; held = λ e. cc })

pub returns-clause-usage : goal.returns-clause-usage
returns-clause-usage g c = λ index is. is_usage _ index (has_cause _ _ _ c.answer_and_put.result (answers.Usage index) _ _ known c.answer_and_put.ensures.outcome is (record { put = λ e. cc; held = λ e. cc }))

pub returns-clause-limit : goal.returns-clause-limit
returns-clause-limit g c = λ kind number is. has_cause _ _ _ c.answer_and_put.result (answers.Limit kind number) _ _ known c.answer_and_put.ensures.outcome is (record { put = λ e. cc; held = λ e. cc })

pub returns-clause-not_yet : goal.returns-clause-not_yet
returns-clause-not_yet g c = λ word is. has_cause _ _ _ c.answer_and_put.result (answers.NotYet word) _ _ known c.answer_and_put.ensures.outcome is (record { put = λ e. cc; held = λ e. cc })

pub returns-clause-fetch_fault : goal.returns-clause-fetch_fault
returns-clause-fetch_fault g c = λ word is. has_cause _ _ _ c.answer_and_put.result (answers.FetchFault word) _ _ known c.answer_and_put.ensures.outcome is (record { put = λ e. cc; held = λ e. cc })

pub returns-clause-too_long : goal.returns-clause-too_long
returns-clause-too_long g c = λ word is. has_cause _ _ _ c.answer_and_put.result (answers.TooLong word) _ _ known c.answer_and_put.ensures.outcome is (record { put = λ e. cc; held = λ e. cc })

pub returns-clause-bad_class : goal.returns-clause-bad_class
returns-clause-bad_class g c = λ word offset kind is.
    has_cause _ _ _ c.answer_and_put.result (answers.BadClass word offset kind) _ _ known c.answer_and_put.ensures.outcome is (record { put = λ e. cc; held = λ e. cc })

pub returns-clause-bad_world : goal.returns-clause-bad_world
returns-clause-bad_world g c = λ fault is. has_cause _ _ _ c.answer_and_put.result (answers.BadWorld fault) _ _ known c.answer_and_put.ensures.outcome is (record { put = λ e. cc; held = λ e. cc })

pub returns-clause-no_method : goal.returns-clause-no_method
returns-clause-no_method g c = λ target is. has_cause _ _ _ c.answer_and_put.result (answers.NoMethod target) _ _ known c.answer_and_put.ensures.outcome is (record { put = λ e. cc; held = λ e. cc })

pub returns-clause-unsupported : goal.returns-clause-unsupported
returns-clause-unsupported g c = λ target pc construct is.
    has_cause _ _ _ c.answer_and_put.result (answers.Unsupported target pc construct) _ _ known c.answer_and_put.ensures.outcome is (record { put = λ e. cc; held = λ e. cc })

pub returns-clause-out_fault : goal.returns-clause-out_fault
returns-clause-out_fault g c = is_out_fault _ _ _ c.answer_and_put.result _ _ known c.answer_and_put.ensures.outcome

pub returns-clause-misused : goal.returns-clause-misused
returns-clause-misused g c = λ kind index is. is_told _ _ _ c.answer_and_put.result (answers.Usage index) _ _ c.answer_and_put.ensures.outcome
    (λ status answer. refused_so _ _ _ (answers.Usage index) status (ap asked_of is) answer)

pub returns-clause-later : goal.returns-clause-later
returns-clause-later g c = λ word is. is_told _ _ _ c.answer_and_put.result (answers.NotYet word) _ _ c.answer_and_put.ensures.outcome
    (λ status answer. refused_so _ _ _ (answers.NotYet word) status is answer)

pub returns-clause-many : goal.returns-clause-many
returns-clause-many g c = λ request is more. is_told _ _ _ c.answer_and_put.result _ _ _ c.answer_and_put.ensures.outcome
    (λ status answer. many_so _ _ _ request status is more answer)

pub returns-clause-too_big : goal.returns-clause-too_big
returns-clause-too_big g c = too_big_so _ _ _ c.answer_and_put.result _ _ c.answer_and_put.ensures.outcome

pub returns-clause-overlong : goal.returns-clause-overlong
returns-clause-overlong g c = overlong_so _ _ _ c.answer_and_put.result _ _ c.answer_and_put.ensures.outcome

pub returns-clause-unread : goal.returns-clause-unread
returns-clause-unread g c = is_unread _ _ _ c.answer_and_put.result _ _ c.answer_and_put.ensures.outcome decided

pub returns-clause-no_world : goal.returns-clause-no_world
returns-clause-no_world g c = has_fault _ _ _ c.answer_and_put.result _ _ c.answer_and_put.ensures.outcome decided

pub returns-clause-answered : goal.returns-clause-answered
returns-clause-answered g c = is_answered _ _ _ c.answer_and_put.result _ _ c.answer_and_put.ensures.outcome decided

pub returns-clause-bounded : goal.returns-clause-bounded
returns-clause-bounded g c = is_bounded _ _ _ c.answer_and_put.result _ _ known c.answer_and_put.ensures.outcome decided

pub returns-clause-memory : goal.returns-clause-memory
returns-clause-memory g c = nothing_put _ _ _ c.answer_and_put.result _ _ known c.answer_and_put.ensures.outcome

pub returns-clause-once : goal.returns-clause-once
returns-clause-once g c = once _ _ _ c.answer_and_put.result _ _ c.answer_and_put.ensures.outcome

pub returns-clause-at_most_once : goal.returns-clause-at_most_once
returns-clause-at_most_once g c = at_most_once _ _ _ c.answer_and_put.result _ _ c.answer_and_put.ensures.outcome

pub returns-clause-only_out_fault : goal.returns-clause-only_out_fault
returns-clause-only_out_fault g c = without_fault _ _ _ c.answer_and_put.result _ _ c.answer_and_put.ensures.outcome

pub returns-clause-of_words : goal.returns-clause-of_words
returns-clause-of_words g c = λ is. c.answer_and_put.ensures.unasked (asks_for_none _ _ _ c.answer_and_put.result _ _ known c.answer_and_put.ensures.outcome is)

pub returns-clause-no_fetch_fault : goal.returns-clause-no_fetch_fault
returns-clause-no_fetch_fault g c = shelf_stays _ _ _ c.answer_and_put.result _ _ c.answer_and_put.ensures.outcome
