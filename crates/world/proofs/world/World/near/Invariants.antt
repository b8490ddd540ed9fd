use Rattle.std.proofs.Common.{◌∷◌, take}
use Rattle.std.specs.List.{flat_map}
use Rattle.world.specs.Standings.{IsAmong}
use Rattle.world.proofs.Standings.{with_above}
use Rattle.world.proofs.world.World.near.Given as goal

abbrev pub invariant-loop-interface : goal.invariant-loop-interface
invariant-loop-interface l = IsAmong l.self l.class l.fn.m (l.r ∷ flat_map (with_above l.self) (take l.interface-index l.links)) l.near
