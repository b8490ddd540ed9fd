-- The fault that is told, of one body for another that it is, and that facts which lie below each other are one.
use Rattle.std.proofs.Common.{◌≡◌, ℕ, true, List, Some, sym, subst}
use Rattle.std.proofs.lemmas.Bool.{and_parts}
use Rattle.method_body.specs.Bodies.{MethodBody}
use Rattle.fix_engine.specs.Solution.{IsLeast, at_points}
use Rattle.kind_frames.specs.Frames.{kind_order, fact_below}
use Rattle.kind_effects.specs.Frames.{IsFact}
use Rattle.frame_kinds.specs.Lawful.{is_order}
use Rattle.kind_frames.specs.declared.fact.KindFact.{KindFact}
use Rattle.frame_kinds.specs.Flow.{kind_problem}
use Rattle.frame_kinds.specs.Disagreeing.{first_disagreement, frames_told, is_same, IsDisagreement}

pub told :
    (b c : MethodBody) → b ≡ c → (found : List KindFact) (pc : ℕ) (first second : KindFact)
    → IsLeast kind_order (kind_problem b) (at_points (kind_problem b) found)
    → Some pc ≡ first_disagreement c (at_points (kind_problem c) found)
    → (first, second) ≡ frames_told b (at_points (kind_problem b) found) pc
    → IsDisagreement c pc first second
told b c e found pc first second least place frames =
    record {
      kinds = at_points (kind_problem c) found;
      least = subst (λ x. IsLeast kind_order (kind_problem x) (at_points (kind_problem x) found)) e least;
      place = sym place;
      frames = sym (subst (λ x. (first, second) ≡ frames_told x (at_points (kind_problem x) found) pc) e frames);
    }

pub same_one : (locals : ℕ) (one other : KindFact) → IsFact locals one → IsFact locals other → is_same one other ≡ true → one ≡ other
same_one locals one other p q same =
    let parts = and_parts (fact_below one other) (fact_below other one) same in
    (is_order locals).antisymmetric one other p q parts.0 parts.1
