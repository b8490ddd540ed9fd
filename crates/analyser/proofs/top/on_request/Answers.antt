use Rattle.std.proofs.Common.{Err, refl, ap}
use Rattle.analyser.proofs.Answering.{names_many, fetch_fails, is_overlong, has_many_bytes, few_files, answers_on_files}
use Rattle.analyser.proofs.top.on_request.Goals as goal

pub returns-then-len-gt-MOST_FILES-clause-answer : goal.returns-then-len-gt-MOST_FILES-clause-answer
returns-then-len-gt-MOST_FILES-clause-answer g c = names_many c.args.request _ _ c.len.result c.len.ensures c.if-len-gt-MOST_FILES.true refl

pub returns-in-Ok-clause-answer : goal.returns-in-Ok-clause-answer
returns-in-Ok-clause-answer g c =
    answers_on_files c.args.request c.as_slice.result.now c.in-Ok.files.items c.as_slice-in-Ok.result.now _ _ c.len.result c.on_files.result c.as_slice.ensures c.len.ensures
    c.if-len-gt-MOST_FILES.false c.in-Ok.ensures.held c.in-Ok.ensures.bytes c.in-Ok.ensures.fits c.as_slice-in-Ok.ensures.value c.on_files.ensures
    c.in-Ok.ensures.same

pub returns-in-Err-Failed-clause-answer : goal.returns-in-Err-Failed-clause-answer
returns-in-Err-Failed-clause-answer g c =
    fetch_fails c.args.request c.as_slice.result.now _ _ c.len.result c.in-Err-Failed.word _ c.as_slice.ensures c.len.ensures c.if-len-gt-MOST_FILES.false
    (c.in-Err-Failed.ensures.failed c.in-Err-Failed.word (ap Err c.in-Err-Failed.field-0-is)) c.in-Err-Failed.word-is

pub returns-in-Err-TooLong-clause-answer : goal.returns-in-Err-TooLong-clause-answer
returns-in-Err-TooLong-clause-answer g c =
    is_overlong c.args.request c.as_slice.result.now _ _ c.len.result c.in-Err-TooLong.word _ c.as_slice.ensures c.len.ensures c.if-len-gt-MOST_FILES.false
    (c.in-Err-TooLong.ensures.too_long c.in-Err-TooLong.word (ap Err c.in-Err-TooLong.field-0-is)) c.in-Err-TooLong.word-is

pub returns-in-Err-TooBig-clause-answer : goal.returns-in-Err-TooBig-clause-answer
returns-in-Err-TooBig-clause-answer g c =
    has_many_bytes c.args.request c.as_slice.result.now _ _ c.len.result c.as_slice.ensures c.len.ensures c.if-len-gt-MOST_FILES.false
    (c.in-Err-TooBig.ensures.too_big (ap Err c.in-Err-TooBig.field-0-is)) (c.in-Err-TooBig.ensures.same_too_big (ap Err c.in-Err-TooBig.field-0-is))

pub on_files-requires-clause-few : goal.on_files-requires-clause-few
on_files-requires-clause-few g c =
    few_files _ c.as_slice.result.now c.args.request.files c.in-Ok.files.items c.as_slice-in-Ok.result.now c.len.result c.in-Ok.ensures.held c.as_slice.ensures c.len.ensures
    c.if-len-gt-MOST_FILES.false c.as_slice-in-Ok.ensures.value
