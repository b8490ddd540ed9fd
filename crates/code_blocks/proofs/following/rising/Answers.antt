use Rattle.std.proofs.Common.{◌∙◌}
use Rattle.std.proofs.lemmas.List.Filters.{dedup_is}
use Rattle.std.proofs.lemmas.List.Kept.{AllPairs-from_increasing, Contains-dedup_nat, Contains-from_dedup}
use Rattle.std.proofs.lemmas.List.Sorted.{Contains-permutation, IsPermutation-sym}
use Rattle.std.proofs.lemmas.Map.Keys.{IsStrictlyIncreasing-dedup}
use Rattle.code_blocks.proofs.Risings.{rising_is}
use Rattle.code_blocks.proofs.following.rising.Goals as goal

pub returns : goal.returns
returns c =
    let is = dedup_is _ _ _ c.dedup.ensures.filtered in
    let moved = c.sort_unstable.ensures.permutation in
    c.from.ensures ∙ rising_is c.args.numbers.items c.dedup.new.self.items
    (rw is (AllPairs-from_increasing _ (IsStrictlyIncreasing-dedup _ c.sort_unstable.ensures.sorted)))
    (λ u. (
      λ h. Contains-permutation _ _ u (IsPermutation-sym _ _ moved) (Contains-from_dedup _ _ u (rw is at h)),
      λ h. rw is (Contains-dedup_nat _ u (Contains-permutation _ _ u moved h)),
    ))
