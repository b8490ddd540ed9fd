-- Where the kinds of a method disagree: frames of different heights come to an instruction, or nothing is known of a slot
-- that it uses.
use Rattle.std.specs.Prelude.{◌≡◌, ℕ, ◌==◌, ◌&&◌, Bool, true, false, not, List, [], ◌∷◌, ◌++◌, map, Option, Some, None, option_map, unwrap_or, filter, find, if◌then◌else◌}
use Rattle.op_table.specs.Actions.{action_of}
use Rattle.op_table.specs.declared.acts.Action.{Action}
use Rattle.code_blocks.specs.declared.instruction.Instruction.{Instruction}
use Rattle.method_body.specs.Bodies.{MethodBody}
use Rattle.fix_engine.specs.Solution.{IsLeast, at_points}
use Rattle.kind_frames.specs.Frames.{kind_order, fact_below}
use Rattle.kind_frames.specs.declared.fact.KindFact.{KindFact}
use Rattle.kind_frames.specs.declared.fact.KindFact.TheVariants as facts
use Rattle.kind_effects.specs.Frames.{uses_top, IsFact}
use Rattle.frame_kinds.specs.declared.edge.Edge.{Edge}
use Rattle.frame_kinds.specs.declared.fault.KindFault.{KindFault}
use Rattle.frame_kinds.specs.declared.fault.KindFault.TheVariants.{Disagree, Memory}
use Rattle.frame_kinds.specs.Flow.{edges_of, entry_of, made_by, kind_problem}

-- ---- the first place

-- with what is known before an instruction that does this
abbrev pub disagrees_with : MethodBody → Action → KindFact → Bool
disagrees_with b action facts.Unreached = false
disagrees_with b action (facts.Known frame) = uses_top b.class.pool action b.code.max_locals frame
disagrees_with b action facts.Mixed = true

-- with these facts, by place, the kinds disagree at the instruction
abbrev pub disagrees : MethodBody → (ℕ → KindFact) → Instruction → Bool
disagrees b s i = disagrees_with b (action_of i.instr) (s i.pc)

-- the first place at which they do
abbrev pub first_disagreement : MethodBody → (ℕ → KindFact) → Option ℕ
first_disagreement b s = option_map (λ (i : Instruction). i.pc) (find (disagrees b s) b.instructions)

-- ---- the two frames

-- one lies below the other and the other below the one
abbrev pub is_same : KindFact → KindFact → Bool
is_same a b = fact_below a b && fact_below b a

abbrev pub is_reached : KindFact → Bool
is_reached facts.Unreached = false
is_reached (facts.Known frame) = true
is_reached facts.Mixed = true

abbrev pub leads_to : ℕ → Edge → Bool
leads_to pc edge = edge.to == pc

-- what is known of the frames on the edges into a place, by the place that each leads from, of those on which any come
abbrev pub on_edges : MethodBody → (ℕ → KindFact) → ℕ → List Edge → List KindFact
on_edges b s pc edges = filter is_reached (map (λ (e : Edge). made_by b e (s e.from)) (filter (leads_to pc) edges))

abbrev pub at_entry : MethodBody → ℕ → List KindFact
at_entry b pc = if pc == 0 then facts.Known (entry_of b) ∷ [] else []

-- the same with the method's entry before all
abbrev pub frames_into : MethodBody → (ℕ → KindFact) → ℕ → List KindFact
frames_into b s pc = at_entry b pc ++ on_edges b s pc (edges_of b.instructions)

-- the first two that differ
abbrev pub first_two : List KindFact → Option (KindFact × KindFact)
first_two [] = None
first_two (a ∷ others) = option_map (λ b. (a, b)) (find (λ b. not (is_same a b)) others)

-- The first two frames that differ on edges into a place. Where no two differ, it is the frame at the place, twice.
abbrev pub frames_told : MethodBody → (ℕ → KindFact) → ℕ → KindFact × KindFact
frames_told b s pc = unwrap_or (first_two (frames_into b s pc)) (s pc, s pc)

-- ---- the answer

-- The least kinds disagree, at this place first, with these two frames.
pub record IsDisagreement (b : MethodBody) (pc : ℕ) (first second : KindFact) : Type 0 where
  pub kinds : ℕ → KindFact
  pub least : IsLeast kind_order (kind_problem b) kinds
  pub place : first_disagreement b kinds ≡ Some pc
  pub frames : frames_told b kinds pc ≡ (first, second)

abbrev pub IsFault : MethodBody → KindFault → Type 0
IsFault b (Disagree pc first second) = IsDisagreement b pc first second
IsFault b Memory = Unit {0}

-- The least kinds, which disagree nowhere.
pub record AreKinds (b : MethodBody) (found : List KindFact) : Type 0 where
  pub least : IsLeast kind_order (kind_problem b) (at_points (kind_problem b) found)
  pub agree : first_disagreement b (at_points (kind_problem b) found) ≡ None

-- ---- the law

-- of one method's facts, two that lie below each other are one
abbrev pub SameFactsAreOne : Type 0
SameFactsAreOne = (locals : ℕ) (one other : KindFact) → IsFact locals one → IsFact locals other → is_same one other ≡ true → one ≡ other
