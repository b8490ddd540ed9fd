use Rattle.std.proofs.Common.{ℕ, ◌<◌, ◌≡◌, [], length, get_or}
use Rattle.plain_graphs.specs.Plain.{IsTrunk}
use Rattle.plain_graphs.proofs.trunks.trunks_of.Given as goal

abbrev pub invariant-loop-x : goal.invariant-loop-x
invariant-loop-x l =
    record {
      count : length l.trunks.items ≡ l.x;
      trunks : (y : ℕ) → y < l.x → IsTrunk l.g l.root y (get_or l.trunks.items y []);
    }
