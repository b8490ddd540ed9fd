-- What is known of null at each place of the code of several methods, one method after the other.
use Rattle.std.specs.Prelude.{ℕ, ◌+◌, List, slice_index_or}
use Rattle.null_flow.specs.declared.fact.NullFact.{NullFact}

pub record Found : Type 0 where
  pub facts : List NullFact
  -- the number of each method's first place
  pub firsts : List ℕ

-- the number of a place of a method
abbrev pub place_in : Found → ℕ → ℕ → ℕ
place_in found method pc = slice_index_or found.firsts method 0 + pc
