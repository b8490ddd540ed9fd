use Rattle.std.proofs.Common.{take}
use Rattle.analyser.proofs.FetchedFiles.{Fetching}
use Rattle.analyser.proofs.fetching.fetch_all.Given as goal

abbrev pub invariant-loop-path : goal.invariant-loop-path
invariant-loop-path g l = Fetching (g.F.Shelf.meaning l.fn.shelf) (g.F.Shelf.meaning l.shelf) (take l.path-index l.paths) l.files.items l.sum
