-- Instructions and edges lie within the code.
use Rattle.std.proofs.Common.{◌≡◌, ℕ, ◌<◌, List, length, get_or, subst, sym, Contains}
use Rattle.std.proofs.lemmas.List.Elements.{Contains-get_or}
use Rattle.code_blocks.specs.declared.instruction.Instruction.{Instruction}
use Rattle.code_blocks.specs.Blocks.{AreWithin}
use Rattle.frame_kinds.specs.declared.edge.Edge.{Edge}
use Rattle.frame_kinds.specs.Flow.{edges_of, IsBetween}
use Rattle.frame_kinds.specs.Lawful.{between}

pub instruction_there :
    (size : ℕ) (is list : List Instruction) (k : ℕ) (d i : Instruction) → AreWithin size is → list ≡ is → i ≡ get_or list k d → k < length list
    → i.pc < size
instruction_there size is list k d i w e at l = w.places i (subst (λ j. Contains is j) (sym at) (subst (λ js. Contains js (get_or list k d)) e (Contains-get_or list k d l)))

pub edge_there : (size : ℕ) (is : List Instruction) (edges : List Edge) (k : ℕ) (d : Edge) → AreWithin size is → edges ≡ edges_of is → k < length edges → IsBetween size (get_or edges k d)
edge_there size is edges k d w e l = between size is w (get_or edges k d) (subst (λ es. Contains es (get_or edges k d)) e (Contains-get_or edges k d l))
