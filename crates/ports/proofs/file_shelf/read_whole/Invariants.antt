use Rattle.std.proofs.Common.{◌≤◌, vec_len}
use Rattle.ports.specs.Shelf.{longest_file}
use Rattle.ports.proofs.file_shelf.read_whole.Given as goal

abbrev pub invariant-loop : goal.invariant-loop
invariant-loop g l = vec_len l.bytes ≤ longest_file
