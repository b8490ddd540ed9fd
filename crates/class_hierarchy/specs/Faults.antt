-- The faults that one class shows, by kind.
use Rattle.std.specs.Prelude.{ℕ, List, Option, find}
use Rattle.std.specs.Option.{option_to_list}
use Rattle.class_reader.specs.declared.class.ClassRecord.{ClassRecord}
use Rattle.class_hierarchy.specs.declared.fault.WorldFault.{WorldFault}
use Rattle.class_hierarchy.specs.declared.build.FaultKind.{FaultKind}
use Rattle.class_hierarchy.specs.declared.build.FaultKind.TheVariants.{Twice, MissingSuper, WrongSuper, FinalSuper}
use Rattle.class_reader.specs.Flags.{is_final}
use Rattle.class_hierarchy.specs.World.{World}
use Rattle.class_hierarchy.specs.Building.{has_flags, twice, missing_super, wrong_super, final_super}

abbrev pub fault_of : FaultKind → World → ℕ → Option WorldFault
fault_of Twice w c = twice w c
fault_of MissingSuper w c = missing_super w c
fault_of WrongSuper w c = wrong_super w c
fault_of FinalSuper w c = final_super w c

abbrev pub final_name : World → ClassRecord → Option (List ℕ)
final_name w class = find (has_flags w is_final) (option_to_list class.super_name)
