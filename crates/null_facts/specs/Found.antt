-- What is found of null in a program.
use Rattle.std.specs.Prelude.{◌≡◌, List, length}
use Rattle.fix_engine.specs.Solution.{IsLeast, at_points}
use Rattle.null_flow.specs.Facts.{null_order}
use Rattle.null_facts.specs.declared.method.NullMethod.{NullMethod}
use Rattle.null_facts.specs.Facts.{Found}
use Rattle.null_facts.specs.Program.{sizes_of, firsts_of, program_problem}

-- the least solution, by places, method after method
pub record AreNullFacts (ms : List NullMethod) (found : Found) : Type 0 where
  pub least : IsLeast null_order (program_problem ms) (at_points (program_problem ms) found.facts)
  pub count : length found.facts ≡ length (sizes_of ms)
  pub firsts : found.firsts ≡ firsts_of ms
