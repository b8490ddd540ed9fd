-- The laws of effects: facts are made of facts, and the order is kept.
use Rattle.std.specs.Prelude.{◌≡◌, ℕ, true, List, Option}
use Rattle.class_pool.specs.declared.constant.Constant.{Constant}
use Rattle.op_table.specs.declared.acts.Action.{Action}
use Rattle.kind_frames.specs.Frames.{fact_below}
use Rattle.kind_frames.specs.declared.fact.KindFact.{KindFact}
use Rattle.kind_effects.specs.Frames.{fact_after, IsFact}

abbrev pub EffectsMakeFacts : Type 0
EffectsMakeFacts =
    (pool : List (Option Constant)) (action : Action) (locals : ℕ) (a : KindFact) → IsFact locals a → IsFact locals (fact_after pool action locals a)

abbrev pub EffectsKeepOrder : Type 0
EffectsKeepOrder =
    (pool : List (Option Constant)) (action : Action) (locals : ℕ) (a b : KindFact) → IsFact locals a → IsFact locals b
    → fact_below a b ≡ true → fact_below (fact_after pool action locals a) (fact_after pool action locals b) ≡ true
