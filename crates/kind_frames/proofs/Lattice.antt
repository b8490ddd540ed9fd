-- The laws of facts: of their order, of joins, and of rising chains.
use Rattle.std.proofs.Common.{◌≡◌, ◌≢◌, ◌⊎◌, inl, inr, ℕ, suc, ◌+◌, ◌*◌, ◌<◌, ◌≤◌, Bool, true, false, List, [], length, ℤ, pos, negsuc, ◌≤ℤ◌, refl, sym, ap, ◌∙◌, subst, arith}
use Rattle.std.proofs.lemmas.Int.{ints}
use Rattle.std.specs.Prelude.{if◌then◌else◌}
use Rattle.std.specs.Ordering.{int_eq}
use Rattle.std.specs.Cmp.{signed_Decides}
use Rattle.std.proofs.lemmas.Bool.{and_parts, and_from}
use Rattle.fix_engine.specs.Lawful.{IsOrder, IsJoin, IsChain}
use Rattle.fix_engine.specs.Chains.{IsChain-by_rank}
use Rattle.slot_facts.specs.declared.kind.Kind.{Kind}
use Rattle.kind_frames.specs.declared.fact.KindFrame.{KindFrame}
use Rattle.kind_frames.specs.declared.fact.KindFact.{KindFact}
use Rattle.kind_frames.specs.declared.fact.KindFact.TheVariants as facts
use Rattle.kind_frames.specs.Frames.{all_below, all_joined, frame_below, frames_joined, fact_below, facts_joined, words_in, AreAlike, IsFactOf, kind_order}
use Rattle.kind_frames.proofs.Pointwise.{Each, each_is, is_each, each_itself, each_antisymmetric, each_transitive, joined_length, each_left, each_right, each_least, all_joined_above, levels, levels_small, levels_rise}

frame_same : (a b : KindFrame) → a.height ≡ b.height → a.slots ≡ b.slots → a ≡ b
frame_same a b e f = ap (λ h. record { height = h; slots = a.slots }) e ∙ ap (λ s. record { height = b.height; slots = s }) f

pub frame_of : (a b : KindFrame) → a.height ≡ b.height → Each a.slots b.slots → frame_below a b ≡ true
frame_of a b e each = and_from (int_eq a.height b.height) (all_below a.slots b.slots) ((signed_Decides a.height b.height).1 e) (is_each each)

pub below_mixed : (a : KindFact) → fact_below a facts.Mixed ≡ true
below_mixed facts.Unreached = refl
below_mixed (facts.Known a) = refl
below_mixed facts.Mixed = refl

abbrev joined_frame : KindFrame → KindFrame → KindFrame
joined_frame a b = record { height = a.height; slots = all_joined a.slots b.slots }

abbrev joined_if : Bool → KindFrame → KindFrame → KindFact
joined_if same a b = if same then facts.Known (joined_frame a b) else facts.Mixed

words_small : (h : ℤ) (most : ℕ) → h ≤ℤ pos most → words_in h ≤ most
words_small (pos n) most l = omega (arith, ints)
words_small (negsuc n) most l = omega arith

module _ (locals most : ℕ) where
  one_length : (a b : KindFrame) → IsFactOf locals most (facts.Known a) → IsFactOf locals most (facts.Known b) → a.height ≡ b.height → length a.slots ≡ length b.slots
  one_length a b p q e = p.0 ∙ ap (λ z. locals + words_in z) e ∙ sym q.0

  pub frame_is :
      (a b : KindFrame) → IsFactOf locals most (facts.Known a) → IsFactOf locals most (facts.Known b) → frame_below a b ≡ true
      → (a.height ≡ b.height) × Each a.slots b.slots
  frame_is a b p q h =
      let parts = and_parts (int_eq a.height b.height) (all_below a.slots b.slots) h in
      let e = (signed_Decides a.height b.height).0 parts.0 in
      (e, each_is a.slots b.slots (one_length a b p q e) parts.1)

  -- ---- the order

  reflexive : (a : KindFact) → fact_below a a ≡ true
  reflexive facts.Unreached = refl
  reflexive (facts.Known a) = frame_of a a refl (each_itself a.slots)
  reflexive facts.Mixed = refl

  antisymmetric : (a b : KindFact) → IsFactOf locals most a → IsFactOf locals most b → fact_below a b ≡ true → fact_below b a ≡ true → a ≡ b
  antisymmetric facts.Unreached facts.Unreached p q h k = refl
  antisymmetric facts.Unreached (facts.Known b) p q h k = absurd cc
  antisymmetric facts.Unreached facts.Mixed p q h k = absurd cc
  antisymmetric (facts.Known a) facts.Unreached p q h k = absurd cc
  antisymmetric (facts.Known a) (facts.Known b) p q h k =
      let x = frame_is a b p q h in let y = frame_is b a q p k in
      ap (λ f. facts.Known f) (frame_same a b x.0 (each_antisymmetric x.1 y.1))
  antisymmetric (facts.Known a) facts.Mixed p q h k = absurd cc
  antisymmetric facts.Mixed facts.Unreached p q h k = absurd cc
  antisymmetric facts.Mixed (facts.Known b) p q h k = absurd cc
  antisymmetric facts.Mixed facts.Mixed p q h k = refl

  transitive :
      (a b c : KindFact) → IsFactOf locals most a → IsFactOf locals most b → IsFactOf locals most c
      → fact_below a b ≡ true → fact_below b c ≡ true → fact_below a c ≡ true
  transitive facts.Unreached b c p q r h k = refl
  transitive (facts.Known a) facts.Unreached c p q r h k = absurd cc
  transitive (facts.Known a) (facts.Known b) facts.Unreached p q r h k = absurd cc
  transitive (facts.Known a) (facts.Known b) (facts.Known c) p q r h k =
      let x = frame_is a b p q h in let y = frame_is b c q r k in frame_of a c (x.0 ∙ y.0) (each_transitive x.1 y.1)
  transitive (facts.Known a) (facts.Known b) facts.Mixed p q r h k = refl
  transitive (facts.Known a) facts.Mixed facts.Unreached p q r h k = absurd cc
  transitive (facts.Known a) facts.Mixed (facts.Known c) p q r h k = absurd cc
  transitive (facts.Known a) facts.Mixed facts.Mixed p q r h k = refl
  transitive facts.Mixed facts.Unreached c p q r h k = absurd cc
  transitive facts.Mixed (facts.Known b) c p q r h k = absurd cc
  transitive facts.Mixed facts.Mixed c p q r h k = k

  pub ordered : IsOrder kind_order (λ a. IsFactOf locals most a)
  ordered = record { reflexive = λ a p. reflexive a; antisymmetric = antisymmetric; transitive = transitive }

  -- ---- joins

  closed_if : (a b : KindFrame) → IsFactOf locals most (facts.Known a) → IsFactOf locals most (facts.Known b) → (same : Bool) → int_eq a.height b.height ≡ same → IsFactOf locals most (joined_if same a b)
  closed_if a b p q true e = (joined_length a.slots b.slots (one_length a b p q ((signed_Decides a.height b.height).0 e)) ∙ p.0, p.1)
  closed_if a b p q false e = tt

  closed : (a b : KindFact) → IsFactOf locals most a → IsFactOf locals most b → IsFactOf locals most (facts_joined a b)
  closed facts.Unreached b p q = q
  closed (facts.Known a) facts.Unreached p q = p
  closed (facts.Known a) (facts.Known b) p q = closed_if a b p q (int_eq a.height b.height) refl
  closed (facts.Known a) facts.Mixed p q = tt
  closed facts.Mixed b p q = tt

  left_if : (a b : KindFrame) → IsFactOf locals most (facts.Known a) → IsFactOf locals most (facts.Known b) → (same : Bool) → int_eq a.height b.height ≡ same → fact_below (facts.Known a) (joined_if same a b) ≡ true
  left_if a b p q true e = frame_of a (joined_frame a b) refl (each_left a.slots b.slots (one_length a b p q ((signed_Decides a.height b.height).0 e)))
  left_if a b p q false e = refl

  left : (a b : KindFact) → IsFactOf locals most a → IsFactOf locals most b → fact_below a (facts_joined a b) ≡ true
  left facts.Unreached b p q = refl
  left (facts.Known a) facts.Unreached p q = reflexive (facts.Known a)
  left (facts.Known a) (facts.Known b) p q = left_if a b p q (int_eq a.height b.height) refl
  left (facts.Known a) facts.Mixed p q = refl
  left facts.Mixed b p q = refl

  right_if : (a b : KindFrame) → IsFactOf locals most (facts.Known a) → IsFactOf locals most (facts.Known b) → (same : Bool) → int_eq a.height b.height ≡ same → fact_below (facts.Known b) (joined_if same a b) ≡ true
  right_if a b p q true e = let h = (signed_Decides a.height b.height).0 e in frame_of b (joined_frame a b) (sym h) (each_right a.slots b.slots (one_length a b p q h))
  right_if a b p q false e = refl

  right : (a b : KindFact) → IsFactOf locals most a → IsFactOf locals most b → fact_below b (facts_joined a b) ≡ true
  right facts.Unreached b p q = reflexive b
  right (facts.Known a) facts.Unreached p q = refl
  right (facts.Known a) (facts.Known b) p q = right_if a b p q (int_eq a.height b.height) refl
  right (facts.Known a) facts.Mixed p q = refl
  right facts.Mixed b p q = below_mixed b

  least_if :
      (a b d : KindFrame) → (a.height ≡ d.height) × Each a.slots d.slots → (b.height ≡ d.height) × Each b.slots d.slots
      → (same : Bool) → int_eq a.height b.height ≡ same → fact_below (joined_if same a b) (facts.Known d) ≡ true
  least_if a b d x y true e = frame_of (joined_frame a b) d x.0 (each_least x.1 y.1)
  least_if a b d x y false e = let t = (signed_Decides a.height b.height).1 (x.0 ∙ sym y.0) in absurd cc

  least :
      (a b c : KindFact) → IsFactOf locals most a → IsFactOf locals most b → IsFactOf locals most c
      → fact_below a c ≡ true → fact_below b c ≡ true → fact_below (facts_joined a b) c ≡ true
  least facts.Unreached b c p q r h k = k
  least (facts.Known a) facts.Unreached c p q r h k = h
  least (facts.Known a) (facts.Known b) facts.Unreached p q r h k = absurd cc
  least (facts.Known a) (facts.Known b) (facts.Known d) p q r h k = least_if a b d (frame_is a d p r h) (frame_is b d q r k) (int_eq a.height b.height) refl
  least (facts.Known a) (facts.Known b) facts.Mixed p q r h k = below_mixed (frames_joined a b)
  least (facts.Known a) facts.Mixed c p q r h k = k
  least facts.Mixed b c p q r h k = h

  pub joins : IsJoin kind_order (λ a. IsFactOf locals most a)
  joins = record { closed = closed; left = left; right = right; least = least }

  -- ---- chains

  abbrev rank : KindFact → ℕ
  rank facts.Unreached = 0
  rank (facts.Known a) = suc (levels a.slots)
  rank facts.Mixed = 3 * (locals + most) + 2

  rank_small : (a : KindFact) → IsFactOf locals most a → rank a < 3 * (locals + most) + 3
  rank_small facts.Unreached p = omega arith
  rank_small (facts.Known a) p = let l = levels_small a.slots in let n = p.0 in let w = words_small a.height most p.1 in omega arith
  rank_small facts.Mixed p = omega arith

  known_rises : (a b : KindFrame) → a.height ≡ b.height → facts.Known a ≢ facts.Known b → (a.slots ≡ b.slots) ⊎ (levels a.slots < levels b.slots) → suc (levels a.slots) < suc (levels b.slots)
  known_rises a b e n (inl same) = absurd (n (ap (λ f. facts.Known f) (frame_same a b e same)))
  known_rises a b e n (inr less) = omega arith

  rises : (a b : KindFact) → IsFactOf locals most a → IsFactOf locals most b → fact_below a b ≡ true → a ≢ b → rank a < rank b
  rises facts.Unreached facts.Unreached p q h n = absurd (n refl)
  rises facts.Unreached (facts.Known b) p q h n = omega arith
  rises facts.Unreached facts.Mixed p q h n = omega arith
  rises (facts.Known a) facts.Unreached p q h n = absurd cc
  rises (facts.Known a) (facts.Known b) p q h n = let x = frame_is a b p q h in known_rises a b x.0 n (levels_rise x.1).0
  rises (facts.Known a) facts.Mixed p q h n = let l = levels_small a.slots in let m = p.0 in let w = words_small a.height most p.1 in omega arith
  rises facts.Mixed facts.Unreached p q h n = absurd cc
  rises facts.Mixed (facts.Known b) p q h n = absurd cc
  rises facts.Mixed facts.Mixed p q h n = absurd (n refl)

  pub chains : (chain : List KindFact) → IsChain kind_order (λ a. IsFactOf locals most a) chain → length chain ≤ 3 * (locals + most) + 3
  chains chain h = IsChain-by_rank kind_order (λ a. IsFactOf locals most a) rank (3 * (locals + most) + 3) rises rank_small chain h

-- ---- a join with a fact that lies below, and one that is no rise

abbrev slots_in : KindFact → List Kind
slots_in facts.Unreached = []
slots_in (facts.Known a) = a.slots
slots_in facts.Mixed = []

above_if : (a b : KindFrame) → (b.height ≡ a.height) → Each b.slots a.slots → (same : Bool) → int_eq a.height b.height ≡ same → facts.Known a ≡ joined_if same a b
above_if a b e each true h = ap (λ s. facts.Known (record { height = a.height; slots = s })) (sym (all_joined_above each))
above_if a b e each false h = let t = (signed_Decides a.height b.height).1 (sym e) in absurd cc

pub joined_with_below : (a b : KindFact) → AreAlike a b → fact_below b a ≡ true → a ≡ facts_joined a b
joined_with_below facts.Unreached facts.Unreached alike h = refl
joined_with_below facts.Unreached (facts.Known b) alike h = absurd cc
joined_with_below facts.Unreached facts.Mixed alike h = absurd cc
joined_with_below (facts.Known a) facts.Unreached alike h = refl
joined_with_below (facts.Known a) (facts.Known b) alike h =
    let parts = and_parts (int_eq b.height a.height) (all_below b.slots a.slots) h in
    let e = (signed_Decides b.height a.height).0 parts.0 in
    above_if a b e (each_is b.slots a.slots (sym (alike (sym e))) parts.1) (int_eq a.height b.height) refl
joined_with_below (facts.Known a) facts.Mixed alike h = absurd cc
joined_with_below facts.Mixed b alike h = refl

below_if : (a b : KindFrame) → (a.height ≡ b.height → length a.slots ≡ length b.slots) → (same : Bool) → int_eq a.height b.height ≡ same → facts.Known a ≡ joined_if same a b → frame_below b a ≡ true
below_if a b alike true h e =
    let height = (signed_Decides a.height b.height).0 h in
    let slots : a.slots ≡ all_joined a.slots b.slots = ap slots_in e in
    frame_of b a (sym height) (subst (λ s. Each b.slots s) (sym slots) (each_right a.slots b.slots (alike height)))
below_if a b alike false h e = absurd cc

pub below_unless_rise : (a b : KindFact) → AreAlike a b → a ≡ facts_joined a b → fact_below b a ≡ true
below_unless_rise facts.Unreached facts.Unreached alike e = refl
below_unless_rise facts.Unreached (facts.Known b) alike e = absurd cc
below_unless_rise facts.Unreached facts.Mixed alike e = absurd cc
below_unless_rise (facts.Known a) facts.Unreached alike e = refl
below_unless_rise (facts.Known a) (facts.Known b) alike e = below_if a b alike (int_eq a.height b.height) refl e
below_unless_rise (facts.Known a) facts.Mixed alike e = absurd cc
below_unless_rise facts.Mixed b alike e = below_mixed b
