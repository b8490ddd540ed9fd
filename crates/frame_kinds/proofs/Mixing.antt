-- Where it is known that frames of different heights come, two do. What is known of heights alone is raised edge by edge,
-- each time with frames that come, until it is a solution: the least lies below it.
use Rattle.std.proofs.Common.{◌≡◌, ◌≢◌, ◌⊎◌, inl, inr, ℕ, zero, suc, ◌+◌, ◌*◌, ◌<◌, ◌≤◌, Bool, true, false, List, [], ◌∷◌, length, replicate, ℤ, pos, neg_ℤ, ◌+ℤ◌, ◌-ℤ◌, ◌≤ℤ◌, refl, sym, ap, subst, ◌∙◌, arith, Contains}
use Rattle.std.specs.Prelude.{if◌then◌else◌, ◌==◌, ◌&&◌, int_le}
use Rattle.std.specs.Ordering.{int_eq}
use Rattle.std.specs.Cmp.{signed_Decides, unsigned_Decides}
use Rattle.std.proofs.lemmas.Int.{ints}
use Rattle.std.proofs.lemmas.List.{length-replicate}
use Rattle.common_laws.proofs.Members.{contains_head, contains_tail, contains_cases, contains_none}
use Rattle.code_blocks.specs.Blocks.{AreWithin}
use Rattle.code_blocks.specs.Laws.{PlacedStand, CodeIsLaidOut}
use Rattle.method_body.specs.Bodies.{MethodBody, IsBody}
use Rattle.fix_engine.specs.Solution.{IsSolution, IsLeast}
use Rattle.slot_facts.specs.declared.kind.Kind.TheVariants as kinds
use Rattle.kind_frames.specs.declared.fact.KindFrame.{KindFrame}
use Rattle.kind_frames.specs.declared.fact.KindFact.{KindFact}
use Rattle.kind_frames.specs.declared.fact.KindFact.TheVariants as facts
use Rattle.kind_frames.specs.Frames.{kind_order, fact_below, frame_below, words_in}
use Rattle.kind_frames.proofs.Pointwise.{Each}
use Rattle.kind_frames.proofs.Lattice.{frame_of}
use Rattle.kind_effects.specs.Effects.{pops}
use Rattle.kind_effects.specs.Frames.{most_words, frame_after, is_within, IsFact}
use Rattle.kind_effects.proofs.Orders.{slots_after}
use Rattle.frame_kinds.specs.declared.edge.Edge.{Edge}
use Rattle.frame_kinds.specs.Flow.{edges_of, edge_at, entry_of, made_by, kind_problem}
use Rattle.frame_kinds.specs.Lawful.{between, entry_is, edge_in}
use Rattle.frame_kinds.specs.Arriving.{Comes, at_start, onward, ComeApart, HasShortDescriptors}
use Rattle.frame_kinds.proofs.Arrivals.{within_body, comes_length, mixed_alone}
use Rattle.frame_kinds.proofs.Counts.{pops_few, pushes, pushes_few, each_top, height_after, apart_after, far, far_is, IsNear, near_after, near_more}

-- ---- levels

abbrev level : KindFact → ℕ
level facts.Unreached = 0
level (facts.Known frame) = 1
level facts.Mixed = 2

level_small : (x : KindFact) → level x ≤ 2
level_small facts.Unreached = omega arith
level_small (facts.Known frame) = omega arith
level_small facts.Mixed = omega arith

-- of the first n places
abbrev total : (ℕ → KindFact) → ℕ → ℕ
total t zero = 0
total t (suc n) = total t n + level (t n)

total_small : (t : ℕ → KindFact) (n : ℕ) → total t n ≤ 2 * n
total_small t zero = omega arith
total_small t (suc n) = let l = total_small t n in let one = level_small (t n) in omega (arith, l, one)

-- with another fact at one place
abbrev with_fact : (ℕ → KindFact) → ℕ → KindFact → ℕ → KindFact
with_fact t j x pc = if pc == j then x else t pc

level_if : (t : ℕ → KindFact) (j : ℕ) (x : KindFact) (n : ℕ) (same : Bool) → n == j ≡ same → level (t j) < level x → level (t n) ≤ level (if same then x else t n)
level_if t j x n true e l =
    let is : n ≡ j = (unsigned_Decides n j).0 e in
    let at : level (t n) ≡ level (t j) = ap (λ k. level (t k)) is in
    let goal : level (t n) ≤ level x = omega (arith, at, l) in
    goal
level_if t j x n false e l = let goal : level (t n) ≤ level (t n) = omega arith in goal

total_kept : (t : ℕ → KindFact) (j : ℕ) (x : KindFact) (n : ℕ) → level (t j) < level x → total t n ≤ total (with_fact t j x) n
total_kept t j x zero l = omega arith
total_kept t j x (suc n) l =
    let rest = total_kept t j x n l in
    let one = level_if t j x n (n == j) refl l in
    omega (arith, rest, one)

less_of : (n j : ℕ) → n ≢ j → j < suc n → j < n
less_of n j apart within = grind (arith, apart, within)

rises_if :
    (t : ℕ → KindFact) (j : ℕ) (x : KindFact) (n : ℕ) (same : Bool) → n == j ≡ same → level (t j) < level x
    → (j < n → total t n < total (with_fact t j x) n) → total t n ≤ total (with_fact t j x) n → j < suc n
    → total t n + level (t n) < total (with_fact t j x) n + level (if same then x else t n)
rises_if t j x n true e l before kept within =
    let is : n ≡ j = (unsigned_Decides n j).0 e in
    let at : level (t n) ≡ level (t j) = ap (λ k. level (t k)) is in
    let goal : total t n + level (t n) < total (with_fact t j x) n + level x = omega (arith, at, l, kept) in
    goal
rises_if t j x n false e l before kept within =
    let apart : n ≢ j = λ is. let yes = (unsigned_Decides n j).1 is in absurd cc in
    let less : j < n = less_of n j apart within in
    let rest = before less in
    let goal : total t n + level (t n) < total (with_fact t j x) n + level (t n) = omega (arith, rest) in
    goal

total_rises : (t : ℕ → KindFact) (j : ℕ) (x : KindFact) (n : ℕ) → level (t j) < level x → j < n → total t n < total (with_fact t j x) n
total_rises t j x zero l within = absurd (omega (arith, within))
total_rises t j x (suc n) l within = rises_if t j x n (n == j) refl l (λ less. total_rises t j x n l less) (total_kept t j x n l) within

-- ---- one edge

near_within : (h : ℤ) (a : ℕ) (low high : Bool) → a ≤ most_words → (neg_ℤ (pos a) ≤ℤ h) × (h ≤ℤ pos a)
    → int_le (neg_ℤ (pos most_words)) h ≡ low → int_le h (pos most_words) ≡ high → low && high ≡ true
near_within h a true true few near l m = refl
near_within h a false high few near l m = let p = near.0 in absurd (omega (arith, ints, p, l, few))
near_within h a true false few near l m = let p = near.1 in absurd (omega (arith, ints, p, m, few))

far_small : (k : ℕ) → k ≤ 131071 → far k ≤ 1099511627776
far_small k l = let e = far_is k in omega (arith, e, l)

module _ (b : MethodBody) (inside : AreWithin (length b.code.bytes) b.instructions) (short : HasShortDescriptors b) where
  -- a frame at each height of which nothing else is known
  abbrev IsOpen : KindFrame → Type 0
  IsOpen d = d.slots ≡ replicate (b.code.max_locals + words_in d.height) kinds.Top

  open_length : (d : KindFrame) → IsOpen d → length d.slots ≡ b.code.max_locals + words_in d.height
  open_length d o = ap length o ∙ length-replicate (b.code.max_locals + words_in d.height) kinds.Top

  abbrev open_frame : ℤ → KindFrame
  open_frame h = record { height = h; slots = replicate (b.code.max_locals + words_in h) kinds.Top }

  -- a frame of this height comes, and the height is near
  record FoundFrame (k pc : ℕ) (d : KindFrame) : Type 0 where
    frame : KindFrame
    comes : Comes b pc frame
    height : frame.height ≡ d.height
    is_open : IsOpen d
    near : IsNear k d.height

  abbrev IsFound : ℕ → ℕ → KindFact → Type 0
  IsFound k pc facts.Unreached = Unit {0}
  IsFound k pc (facts.Known d) = FoundFrame k pc d
  IsFound k pc facts.Mixed = ComeApart b pc

  found_more : (k pc : ℕ) (x : KindFact) → IsFound k pc x → IsFound (suc k) pc x
  found_more k pc facts.Unreached f = tt
  found_more k pc (facts.Known d) f = record { frame = f.frame; comes = f.comes; height = f.height; is_open = f.is_open; near = near_more k d.height f.near }
  found_more k pc facts.Mixed f = f

  abbrev after : Edge → KindFrame → KindFrame
  after edge frame = frame_after b.class.pool edge.action b.code.max_locals frame

  abbrev height_by : Edge → ℤ → ℤ
  height_by edge h = (h -ℤ pos (pops b.class.pool edge.action)) +ℤ pos (pushes b.class.pool edge.action b.code.max_locals)

  after_is : (edge : Edge) (frame : KindFrame) → length frame.slots ≡ b.code.max_locals + words_in frame.height → (after edge frame).height ≡ height_by edge frame.height
  after_is edge frame e = height_after b.class.pool edge.action b.code.max_locals frame e

  onward_apart : (edge : Edge) → Contains (edges_of b.instructions) edge → ComeApart b edge.from → ComeApart b edge.to
  onward_apart edge c two = record {
    one = after edge two.one;
    other = after edge two.other;
    comes = onward edge c two.comes;
    other_comes = onward edge c two.other_comes;
    apart = λ e.
        let one = after_is edge two.one (comes_length b two.comes) in
        let other = after_is edge two.other (comes_length b two.other_comes) in
        two.apart
        (apart_after two.one.height two.other.height (pops b.class.pool edge.action) (pushes b.class.pool edge.action b.code.max_locals)
        (sym one ∙ e ∙ other));
  }

  -- a fact above the one at the goal, for which frames are found
  record Raised (k : ℕ) (edge : Edge) (y : KindFact) : Type 0 where
    new : KindFact
    found : IsFound (suc k) edge.to new
    rises : level y < level new
    starts : fact_below (facts.Known (entry_of b)) y ≡ true → fact_below (facts.Known (entry_of b)) new ≡ true

  to_mixed : (k : ℕ) (edge : Edge) (y : KindFact) → ComeApart b edge.to → level y < 2 → Raised k edge y
  to_mixed k edge y two l = record { new = facts.Mixed; found = two; rises = l; starts = λ s. refl }

  -- the height that a frame at the goal of the edge has, and how near it is
  record Led (k : ℕ) (edge : Edge) (d : KindFrame) : Type 0 where
    frame : KindFrame
    comes : Comes b edge.to frame
    height : frame.height ≡ (after edge d).height
    near : IsNear (suc k) (after edge d).height

  led : (k : ℕ) (edge : Edge) (d : KindFrame) → Contains (edges_of b.instructions) edge → FoundFrame k edge.from d → Led k edge d
  led k edge d c f =
      let n = pops b.class.pool edge.action in
      let m = pushes b.class.pool edge.action b.code.max_locals in
      let made = after_is edge d (open_length d f.is_open) in
      let come = after_is edge f.frame (comes_length b f.comes) in
      record {
        frame = after edge f.frame;
        comes = onward edge c f.comes;
        height = come ∙ ap (λ h. height_by edge h) f.height ∙ sym made;
        near = subst (λ h. IsNear (suc k) h) (sym made)
            (near_after k d.height n m (pops_few b.class.pool short edge.action) (pushes_few b.class.pool edge.action b.code.max_locals) f.near);
      }

  known_raised :
      (k : ℕ) (edge : Edge) (d e : KindFrame) (same : Bool) → Contains (edges_of b.instructions) edge → Led k edge d → FoundFrame k edge.to e
      → length (after edge d).slots ≡ b.code.max_locals + words_in (after edge d).height
      → int_eq (after edge d).height e.height ≡ same → frame_below (after edge d) e ≡ false → Raised k edge (facts.Known e)
  known_raised k edge d e true c l g slots is wrong =
      let equal : (after edge d).height ≡ e.height = (signed_Decides (after edge d).height e.height).0 is in
      let each : Each (after edge d).slots e.slots =
      subst (λ xs. Each (after edge d).slots xs) (sym g.is_open)
      (each_top (after edge d).slots (b.code.max_locals + words_in e.height) (slots ∙ ap (λ h. b.code.max_locals + words_in h) equal))
      in
      let right = frame_of (after edge d) e equal each in
      absurd cc
  known_raised k edge d e false c l g slots is wrong =
      to_mixed k edge (facts.Known e)
      (record {
        one = l.frame;
        other = g.frame;
        comes = l.comes;
        other_comes = g.comes;
        apart = λ equal. let yes = (signed_Decides (after edge d).height e.height).1 (sym l.height ∙ equal ∙ g.height) in absurd cc;
      })
      (omega arith)

  led_raised :
      (k : ℕ) (edge : Edge) (d : KindFrame) (y : KindFact) → Contains (edges_of b.instructions) edge → Led k edge d → IsFound k edge.to y
      → length (after edge d).slots ≡ b.code.max_locals + words_in (after edge d).height
      → fact_below (facts.Known (after edge d)) y ≡ false → Raised k edge y
  led_raised k edge d facts.Unreached c l g slots wrong = record {
    new = facts.Known (open_frame (after edge d).height);
    found = record { frame = l.frame; comes = l.comes; height = l.height; is_open = refl; near = l.near };
    rises = omega arith;
    starts = λ s. absurd cc;
  }
  led_raised k edge d (facts.Known e) c l g slots wrong = known_raised k edge d e (int_eq (after edge d).height e.height) c l g slots refl wrong
  led_raised k edge d facts.Mixed c l g slots wrong = absurd cc

  within_far : (k : ℕ) (h : ℤ) → k ≤ 131071 → IsNear k h → is_within h ≡ true
  within_far k h few near =
      near_within h (far k) (int_le (neg_ℤ (pos most_words)) h) (int_le h (pos most_words)) (far_small k few) near refl refl

  raised :
      (k : ℕ) (edge : Edge) (x y : KindFact) → suc k ≤ 131071 → Contains (edges_of b.instructions) edge → IsFound k edge.from x → IsFound k edge.to y
      → fact_below (made_by b edge x) y ≡ false → Raised k edge y
  raised k edge facts.Unreached y few c f g wrong = absurd cc
  raised k edge (facts.Known d) y few c f g wrong =
      let l = led k edge d c f in
      let slots = slots_after b.class.pool edge.action b.code.max_locals d (open_length d f.is_open) in
      let within = within_far (suc k) (after edge d).height few l.near in
      led_raised k edge d y c l g slots (subst (λ in_limits. fact_below (if in_limits then facts.Known (after edge d) else facts.Mixed) y ≡ false) within wrong)
  raised k edge facts.Mixed facts.Unreached few c f g wrong = to_mixed k edge facts.Unreached (onward_apart edge c f) (omega arith)
  raised k edge facts.Mixed (facts.Known e) few c f g wrong = to_mixed k edge (facts.Known e) (onward_apart edge c f) (omega arith)
  raised k edge facts.Mixed facts.Mixed few c f g wrong = absurd cc

  -- ---- all edges

  -- each place has what is found after so many steps, and the first one its start
  record IsMade (k : ℕ) (t : ℕ → KindFact) : Type 0 where
    found : (pc : ℕ) → IsFound k pc (t pc)
    starts : fact_below (facts.Known (entry_of b)) (t 0) ≡ true

  abbrev AreMet : (ℕ → KindFact) → List Edge → Type 0
  AreMet t edges = (edge : Edge) → Contains edges edge → fact_below (made_by b edge (t edge.from)) (t edge.to) ≡ true

  -- an edge that isn't met
  record Unmet (t : ℕ → KindFact) (edges : List Edge) : Type 0 where
    edge : Edge
    one_of : Contains edges edge
    wrong : fact_below (made_by b edge (t edge.from)) (t edge.to) ≡ false

  met_or : (t : ℕ → KindFact) (edge : Edge) (edges : List Edge) (right : Bool) → fact_below (made_by b edge (t edge.from)) (t edge.to) ≡ right
      → AreMet t edges ⊎ Unmet t edges → AreMet t (edge ∷ edges) ⊎ Unmet t (edge ∷ edges)
  met_or t edge edges false e rest = inr (record { edge = edge; one_of = contains_head edge edges; wrong = e })
  met_or t edge edges true e (inr u) = inr (record { edge = u.edge; one_of = contains_tail edge edges u.edge u.one_of; wrong = u.wrong })
  met_or t edge edges true e (inl met) =
      inl (λ other c.
      elim (contains_cases edge edges other c) [
        | inl same ↦ subst (λ (x : Edge). fact_below (made_by b x (t x.from)) (t x.to) ≡ true) same e
        | inr later ↦ met other later
      ])

  searched : (t : ℕ → KindFact) (edges : List Edge) → AreMet t edges ⊎ Unmet t edges
  searched t [] = inl (λ edge c. absurd (contains_none edge c))
  searched t (edge ∷ edges) = met_or t edge edges (fact_below (made_by b edge (t edge.from)) (t edge.to)) refl (searched t edges)

  found_if : (k j pc : ℕ) (t : ℕ → KindFact) (x : KindFact) (same : Bool) → pc == j ≡ same → IsFound (suc k) j x → IsFound k pc (t pc)
      → IsFound (suc k) pc (if same then x else t pc)
  found_if k j pc t x true e f g = subst (λ i. IsFound (suc k) i x) (sym ((unsigned_Decides pc j).0 e)) f
  found_if k j pc t x false e f g = found_more k pc (t pc) g

  starts_if : (j : ℕ) (t : ℕ → KindFact) (x : KindFact) (same : Bool) → 0 == j ≡ same
      → fact_below (facts.Known (entry_of b)) (t 0) ≡ true
      → (fact_below (facts.Known (entry_of b)) (t j) ≡ true → fact_below (facts.Known (entry_of b)) x ≡ true)
      → fact_below (facts.Known (entry_of b)) (if same then x else t 0) ≡ true
  starts_if j t x true e s up = up (subst (λ i. fact_below (facts.Known (entry_of b)) (t i) ≡ true) ((unsigned_Decides 0 j).0 e) s)
  starts_if j t x false e s up = s

  -- what is found at the end
  record Settled : Type 0 where
    steps : ℕ
    facts_at : ℕ → KindFact
    few : steps ≤ 131071
    made : IsMade steps facts_at
    met : AreMet facts_at (edges_of b.instructions)

  step_to : (k : ℕ) (t : ℕ → KindFact) → suc k ≤ 131071 → IsMade k t → (u : Unmet t (edges_of b.instructions)) → Raised k u.edge (t u.edge.to)
  step_to k t few made u = raised k u.edge (t u.edge.from) (t u.edge.to) few u.one_of (made.found u.edge.from) (made.found u.edge.to) u.wrong

  made_by_step : (k : ℕ) (t : ℕ → KindFact) (edge : Edge) → IsMade k t → (r : Raised k edge (t edge.to)) → IsMade (suc k) (with_fact t edge.to r.new)
  made_by_step k t edge made r = record {
    found = λ pc. found_if k edge.to pc t r.new (pc == edge.to) refl r.found (made.found pc);
    starts = starts_if edge.to t r.new (0 == edge.to) refl made.starts r.starts;
  }

  goal_inside : (t : ℕ → KindFact) (u : Unmet t (edges_of b.instructions)) → u.edge.to < length b.code.bytes
  goal_inside t u = (between (length b.code.bytes) b.instructions inside u.edge u.one_of).1

  climb : (fuel k : ℕ) (t : ℕ → KindFact) → IsMade k t → 2 * length b.code.bytes < total t (length b.code.bytes) + fuel → k + fuel ≤ 131071 → Settled
  climb zero k t made enough few = let l = total_small t (length b.code.bytes) in absurd (omega (arith, l, enough))
  climb (suc fuel) k t made enough few =
      elim (searched t (edges_of b.instructions)) [
        | inl met ↦ record { steps = k; facts_at = t; few = omega (arith, few); made = made; met = met }
        | inr u ↦
            let r = step_to k t (omega (arith, few)) made u in
            let more = total_rises t u.edge.to r.new (length b.code.bytes) r.rises (goal_inside t u) in
            climb fuel (suc k) (with_fact t u.edge.to r.new) (made_by_step k t u.edge made r) (omega (arith, enough, more)) (omega (arith, few))
      ]

  -- ---- the beginning

  abbrev begun : ℕ → KindFact
  begun pc = if pc == 0 then facts.Known (open_frame (pos 0)) else facts.Unreached

  begun_found : (pc : ℕ) (first : Bool) → pc == 0 ≡ first → IsFound 0 pc (if first then facts.Known (open_frame (pos 0)) else facts.Unreached)
  begun_found pc true e =
      subst (λ i. IsFound 0 i (facts.Known (open_frame (pos 0)))) (sym ((unsigned_Decides pc 0).0 e))
      (record { frame = entry_of b; comes = at_start; height = refl; is_open = refl; near = (omega (arith, ints), omega (arith, ints)) })
  begun_found pc false e = tt

  begun_made : IsMade 0 begun
  begun_made = record {
    found = λ pc. begun_found pc (pc == 0) refl;
    starts = frame_of (entry_of b) (open_frame (pos 0)) refl (each_top (entry_of b).slots (b.code.max_locals + 0) (entry_is b).0.0);
  }

  settled : length b.code.bytes ≤ 65535 → Settled
  settled size = climb 131071 0 begun begun_made (omega (arith, size)) (omega arith)

  -- ---- a solution

  fact_is : (k : ℕ) (pc : ℕ) (x : KindFact) → k ≤ 131071 → IsFound k pc x → IsFact b.code.max_locals x
  fact_is k pc facts.Unreached few f = (tt, tt)
  fact_is k pc (facts.Known d) few f =
      let near = f.near in
      let limit = far_small k few in
      ((open_length d f.is_open, let high = near.1 in omega (arith, ints, high, limit)), let low = near.0 in omega (arith, ints, low, limit))
  fact_is k pc facts.Mixed few f = (tt, tt)

  start_if : (t : ℕ → KindFact) (pc : ℕ) (first : Bool) → pc == 0 ≡ first → fact_below (facts.Known (entry_of b)) (t 0) ≡ true
      → fact_below (if first then facts.Known (entry_of b) else facts.Unreached) (t pc) ≡ true
  start_if t pc true e s = subst (λ i. fact_below (facts.Known (entry_of b)) (t i) ≡ true) (sym ((unsigned_Decides pc 0).0 e)) s
  start_if t pc false e s = refl

  solved : (s : Settled) → IsSolution kind_order (kind_problem b) s.facts_at
  solved s = record {
    facts = λ pc l. fact_is s.steps pc (s.facts_at pc) s.few (s.made.found pc);
    starts = λ pc l. start_if s.facts_at pc (pc == 0) refl s.made.starts;
    edges = λ e l. s.met (edge_at (edges_of b.instructions) e) (edge_in (edges_of b.instructions) e l);
  }

  pub mixed_apart : length b.code.bytes ≤ 65535 → (s : ℕ → KindFact) (pc : ℕ) → IsLeast kind_order (kind_problem b) s → pc < length b.code.bytes → s pc ≡ facts.Mixed → ComeApart b pc
  mixed_apart size s pc least within mixed =
      let top = settled size in
      let below : fact_below (s pc) (top.facts_at pc) ≡ true = least.least top.facts_at (solved top) pc within in
      let is : top.facts_at pc ≡ facts.Mixed = mixed_alone (top.facts_at pc) (subst (λ x. fact_below x (top.facts_at pc) ≡ true) mixed below) in
      subst (λ x. IsFound top.steps pc x) is (top.made.found pc)

module _ (stand : PlacedStand) (laid : CodeIsLaidOut) where
  pub all_apart :
      (b : MethodBody) (s : ℕ → KindFact) (pc : ℕ) → IsBody b → HasShortDescriptors b → IsLeast kind_order (kind_problem b) s
      → pc < length b.code.bytes → s pc ≡ facts.Mixed → ComeApart b pc
  all_apart b s pc body short least within mixed = mixed_apart b (within_body stand laid b body) short body.has_code.short s pc least within mixed
