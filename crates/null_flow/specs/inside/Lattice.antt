-- The laws of facts: of their order, of joins, and of rising chains.
use Rattle.std.proofs.Common.{◌≡◌, ◌≢◌, ◌⊎◌, inl, inr, ℕ, suc, ◌+◌, ◌<◌, ◌≤◌, Bool, true, List, [], length, refl, sym, ap, ◌∙◌, subst, arith}
use Rattle.fix_engine.specs.Lawful.{IsOrder, IsJoin, IsChain}
use Rattle.fix_engine.specs.Chains.{IsChain-by_rank}
use Rattle.null_flow.specs.declared.fact.NullFact.{NullFact}
use Rattle.null_flow.specs.declared.fact.NullFact.TheVariants as facts
use Rattle.null_flow.specs.Facts.{all_below, all_joined, fact_below, facts_joined, AreAlike, IsFactOf, null_order}
use Rattle.null_flow.specs.inside.Pointwise.{Each, each_is, is_each, each_itself, each_antisymmetric, each_transitive, joined_length, each_left, each_right, each_least, all_joined_above, levels, levels_small, levels_rise}

module _ (size : ℕ) where
  pub known_is : (a b : List Bool) → length a ≡ size → length b ≡ size → all_below a b ≡ true → Each a b
  known_is a b p q h = each_is a b (p ∙ sym q) h

  -- ---- the order

  reflexive : (a : NullFact) → fact_below a a ≡ true
  reflexive facts.Unreached = refl
  reflexive (facts.Known a) = is_each (each_itself a)

  antisymmetric : (a b : NullFact) → IsFactOf size a → IsFactOf size b → fact_below a b ≡ true → fact_below b a ≡ true → a ≡ b
  antisymmetric facts.Unreached facts.Unreached p q h k = refl
  antisymmetric facts.Unreached (facts.Known b) p q h k = absurd cc
  antisymmetric (facts.Known a) facts.Unreached p q h k = absurd cc
  antisymmetric (facts.Known a) (facts.Known b) p q h k =
      ap (λ f. facts.Known f) (each_antisymmetric (known_is a b p q h) (known_is b a q p k))

  transitive :
      (a b c : NullFact) → IsFactOf size a → IsFactOf size b → IsFactOf size c
      → fact_below a b ≡ true → fact_below b c ≡ true → fact_below a c ≡ true
  transitive facts.Unreached b c p q r h k = refl
  transitive (facts.Known a) facts.Unreached c p q r h k = absurd cc
  transitive (facts.Known a) (facts.Known b) facts.Unreached p q r h k = absurd cc
  transitive (facts.Known a) (facts.Known b) (facts.Known c) p q r h k = is_each (each_transitive (known_is a b p q h) (known_is b c q r k))

  pub ordered : IsOrder null_order (λ a. IsFactOf size a)
  ordered = record { reflexive = λ a p. reflexive a; antisymmetric = antisymmetric; transitive = transitive }

  -- ---- joins

  closed : (a b : NullFact) → IsFactOf size a → IsFactOf size b → IsFactOf size (facts_joined a b)
  closed facts.Unreached b p q = q
  closed (facts.Known a) facts.Unreached p q = p
  closed (facts.Known a) (facts.Known b) p q = joined_length a b (p ∙ sym q) ∙ p

  left : (a b : NullFact) → IsFactOf size a → IsFactOf size b → fact_below a (facts_joined a b) ≡ true
  left facts.Unreached b p q = refl
  left (facts.Known a) facts.Unreached p q = reflexive (facts.Known a)
  left (facts.Known a) (facts.Known b) p q = is_each (each_left a b (p ∙ sym q))

  right : (a b : NullFact) → IsFactOf size a → IsFactOf size b → fact_below b (facts_joined a b) ≡ true
  right facts.Unreached b p q = reflexive b
  right (facts.Known a) facts.Unreached p q = refl
  right (facts.Known a) (facts.Known b) p q = is_each (each_right a b (p ∙ sym q))

  least :
      (a b c : NullFact) → IsFactOf size a → IsFactOf size b → IsFactOf size c
      → fact_below a c ≡ true → fact_below b c ≡ true → fact_below (facts_joined a b) c ≡ true
  least facts.Unreached b c p q r h k = k
  least (facts.Known a) facts.Unreached c p q r h k = h
  least (facts.Known a) (facts.Known b) facts.Unreached p q r h k = absurd cc
  least (facts.Known a) (facts.Known b) (facts.Known c) p q r h k = is_each (each_least (known_is a c p r h) (known_is b c q r k))

  pub joins : IsJoin null_order (λ a. IsFactOf size a)
  joins = record { closed = closed; left = left; right = right; least = least }

  -- ---- chains

  abbrev rank : NullFact → ℕ
  rank facts.Unreached = 0
  rank (facts.Known a) = suc (levels a)

  rank_small : (a : NullFact) → IsFactOf size a → rank a < size + 2
  rank_small facts.Unreached p = omega arith
  rank_small (facts.Known a) p = let l = levels_small a in let n = p in omega arith

  known_rises : (a b : List Bool) → facts.Known a ≢ facts.Known b → (a ≡ b) ⊎ (levels a < levels b) → suc (levels a) < suc (levels b)
  known_rises a b n (inl same) = absurd (n (ap (λ f. facts.Known f) same))
  known_rises a b n (inr less) = omega arith

  rises : (a b : NullFact) → IsFactOf size a → IsFactOf size b → fact_below a b ≡ true → a ≢ b → rank a < rank b
  rises facts.Unreached facts.Unreached p q h n = absurd (n refl)
  rises facts.Unreached (facts.Known b) p q h n = omega arith
  rises (facts.Known a) facts.Unreached p q h n = absurd cc
  rises (facts.Known a) (facts.Known b) p q h n = known_rises a b n (levels_rise (known_is a b p q h)).0

  pub chains : (chain : List NullFact) → IsChain null_order (λ a. IsFactOf size a) chain → length chain ≤ size + 2
  chains chain h = IsChain-by_rank null_order (λ a. IsFactOf size a) rank (size + 2) rises rank_small chain h

-- ---- a join with a fact that lies below, and one that is no rise

abbrev slots_in : NullFact → List Bool
slots_in facts.Unreached = []
slots_in (facts.Known a) = a

pub joined_with_below : (a b : NullFact) → AreAlike a b → fact_below b a ≡ true → a ≡ facts_joined a b
joined_with_below facts.Unreached facts.Unreached alike h = refl
joined_with_below facts.Unreached (facts.Known b) alike h = absurd cc
joined_with_below (facts.Known a) facts.Unreached alike h = refl
joined_with_below (facts.Known a) (facts.Known b) alike h = ap (λ f. facts.Known f) (sym (all_joined_above (each_is b a (sym alike) h)))

pub below_unless_rise : (a b : NullFact) → AreAlike a b → a ≡ facts_joined a b → fact_below b a ≡ true
below_unless_rise facts.Unreached facts.Unreached alike e = refl
below_unless_rise facts.Unreached (facts.Known b) alike e = absurd cc
below_unless_rise (facts.Known a) facts.Unreached alike e = refl
below_unless_rise (facts.Known a) (facts.Known b) alike e =
    let slots : a ≡ all_joined a b = ap slots_in e in
    is_each (subst (λ s. Each b s) (sym slots) (each_right a b alike))

pub alike : (size : ℕ) (a b : NullFact) → IsFactOf size a → IsFactOf size b → AreAlike a b
alike size facts.Unreached b p q = tt
alike size (facts.Known a) facts.Unreached p q = tt
alike size (facts.Known a) (facts.Known b) p q = p ∙ sym q
