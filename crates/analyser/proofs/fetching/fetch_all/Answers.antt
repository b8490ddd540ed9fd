use Rattle.std.proofs.Common.{arith}
use Rattle.analyser.proofs.FetchedFiles.{fetched_next, fetched_too_much}
use Rattle.analyser.proofs.fetching.fetch_all.Goals as goal

pub returns-then-sum-gt-MOST_BYTES-clause-too_big : goal.returns-then-sum-gt-MOST_BYTES-clause-too_big
returns-then-sum-gt-MOST_BYTES-clause-too_big g c = λ _.
    fetched_too_much _ _ c.args.paths.now c.loop-path.files.items c.loop-path.sum c.loop-path.path-index c.path-item.result c.in_ok-file.file c.loop-path.invariant
    c.loop-path-test.true c.path-item.is c.in_ok-file.ensures.word c.in_ok-file.ensures.held c.in_ok-file.ensures.short
    (omega (arith, c.if-sum-gt-MOST_BYTES.true, c.len-sum.ensures))

pub loop-path-preserved : goal.loop-path-preserved
loop-path-preserved g c =
    fetched_next _ _ _ c.args.paths.now c.loop-path.files.items c.push.new.self.items c.loop-path.sum c.len-sum.result c.loop-path.path-index c.path-item.result
    c.in_ok-file.file c.loop-path.invariant c.loop-path-test.true c.path-item.is c.in_ok-file.ensures.same c.in_ok-file.ensures.word c.in_ok-file.ensures.held
    c.in_ok-file.ensures.short c.in_ok-file.ensures.bytes c.in_ok-push.ensures.items c.len-sum.ensures c.if-sum-gt-MOST_BYTES.false
