use Rattle.std.proofs.Common.{◌≡◌, ◌≢◌, ℕ, suc, ◌≤◌, ◌<◌, ◌%◌, get_or}
use Rattle.small_sums.proofs.places.walk.Given as goal

abbrev pub invariant-loop-next : goal.invariant-loop-next
invariant-loop-next l = record {
  within : l.next ≤ l.start;
  bucket : (i : ℕ) → l.next ≡ suc i → get_or l.keys i 0 % l.count ≡ l.key % l.count;
  behind : (i : ℕ) → l.next ≤ i → i < l.start → get_or l.keys i 0 ≢ l.key;
}

abbrev pub decreases-loop-next : goal.decreases-loop-next
decreases-loop-next l = l.next
