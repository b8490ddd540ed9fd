-- What a bound says of all runs.
use Rattle.std.specs.Prelude.{◌≡◌, ℕ, List, Some, Result, Ok}
use Rattle.class_pool.specs.declared.target.Target.{Target}
use Rattle.class_reader.specs.declared.class.ClassRecord.{ClassRecord}
use Rattle.world.specs.declared.member.MemberId.{MemberId}
use Rattle.class_hierarchy.specs.World.{World, world_of}
use Rattle.class_hierarchy.specs.Building.{IsWellBuilt}
use Rattle.machine.specs.Run.{CostsAtMost}
use Rattle.code_flow.specs.Flow.{method_named}
use Rattle.ports.specs.Shelf.{ShelfState}
use Rattle.analyser.specs.declared.fetching.File.{File}
use Rattle.analyser.specs.declared.status.Status.{Status}
use Rattle.analyser.specs.declared.words.Request.{Request}
use Rattle.analyser.specs.Files.{HoldsAll}
use Rattle.analyser.specs.Classes.{AreClasses}
use Rattle.analyser.specs.Answer.{instruction_cost}

-- the classes that stand, as bytes, in the files that were asked for
pub record ReadsAll (asked : Result Request Status) (shelf : ShelfState) (target : Target) (classes : List ClassRecord) : Type 0 where
  pub request : Request
  pub files : List File
  pub is_asked : asked ≡ Ok request
  pub is_target : request.target ≡ target
  pub held : HoldsAll shelf.files request.files files
  pub read : AreClasses files classes

-- these form a world
pub record Reads (asked : Result Request Status) (shelf : ShelfState) (target : Target) (w : World) : Type 0 where
  pub classes : List ClassRecord
  pub all : ReadsAll asked shelf target classes
  pub is_world : w ≡ world_of classes
  pub well_built : IsWellBuilt w

-- The bound holds: each file that was asked for is a class, the classes form a world, its class that has the
-- name of the target's declares the target, with code, and in each run of the machine that enters this method, with
-- all that it calls, at each unwrapped moment, at most so much is spent.
pub record HasBound (asked : Result Request Status) (shelf : ShelfState) (bound : ℕ) : Type 0 where
  pub target : Target
  pub world : World
  pub method : MemberId
  pub reads : Reads asked shelf target world
  pub named : method_named world target ≡ Some method
  pub bounded : CostsAtMost world instruction_cost method bound
