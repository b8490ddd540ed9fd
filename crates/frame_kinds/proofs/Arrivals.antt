-- Frames that come to a place lie below what is known there.
use Rattle.std.proofs.Common.{◌≡◌, ◌≢◌, ℕ, ◌+◌, ◌<◌, Bool, true, false, length, refl, sym, ap, subst, ◌∙◌, Contains}
use Rattle.std.specs.Prelude.{unwrap_or, if◌then◌else◌}
use Rattle.common_laws.proofs.Members.{place_of}
use Rattle.code_blocks.specs.Blocks.{AreWithin}
use Rattle.code_blocks.specs.Laws.{PlacedStand, CodeIsLaidOut}
use Rattle.method_body.specs.Bodies.{MethodBody, IsBody}
use Rattle.method_body.proofs.Extents.{within}
use Rattle.fix_engine.specs.Solution.{IsSolution}
use Rattle.kind_frames.specs.declared.fact.KindFrame.{KindFrame}
use Rattle.kind_frames.specs.declared.fact.KindFact.{KindFact}
use Rattle.kind_frames.specs.declared.fact.KindFact.TheVariants as facts
use Rattle.kind_frames.specs.Frames.{kind_order, fact_below, words_in}
use Rattle.kind_frames.proofs.Lattice.{frame_is, below_mixed}
use Rattle.kind_effects.specs.Frames.{most_words, frame_after, limited, is_within, IsFact}
use Rattle.kind_effects.proofs.Orders.{slots_after, within_if, makes_facts, keeps_order}
use Rattle.frame_kinds.specs.declared.edge.Edge.{Edge}
use Rattle.frame_kinds.specs.Flow.{edges_of, edge_at, nowhere, made_by, kind_problem}
use Rattle.frame_kinds.specs.Lawful.{between, entry_is, is_order}
use Rattle.frame_kinds.specs.Arriving.{Comes, at_start, onward}

pub within_body : PlacedStand → CodeIsLaidOut → (b : MethodBody) → IsBody b → AreWithin (length b.code.bytes) b.instructions
within_body stand laid b body =
    within b.code.bytes stand b.instructions body.instructions_are (laid b.code.bytes body.has_code.sound)

pub mixed_alone : (a : KindFact) → fact_below facts.Mixed a ≡ true → a ≡ facts.Mixed
mixed_alone facts.Unreached h = absurd cc
mixed_alone (facts.Known a) h = absurd cc
mixed_alone facts.Mixed h = refl

-- a frame that comes has as many slots as its height says
pub comes_length : (b : MethodBody) {pc : ℕ} {f : KindFrame} → Comes b pc f → length f.slots ≡ b.code.max_locals + words_in f.height
comes_length b at_start = (entry_is b).0.0
comes_length b (onward {frame = f} edge c h) = slots_after b.class.pool edge.action b.code.max_locals f (comes_length b h)

limited_fact : (locals : ℕ) (f : KindFrame) → length f.slots ≡ locals + words_in f.height → IsFact locals (limited f)
limited_fact locals f e = within_if locals f (is_within f.height) refl e

-- what is made of a frame lies below what is made of a fact above it
limited_after :
    (b : MethodBody) (edge : Edge) (f : KindFrame) (x : KindFact) → length f.slots ≡ b.code.max_locals + words_in f.height → IsFact b.code.max_locals x
    → (inside : Bool) → is_within f.height ≡ inside → fact_below (if inside then facts.Known f else facts.Mixed) x ≡ true
    → fact_below (limited (frame_after b.class.pool edge.action b.code.max_locals f)) (made_by b edge x) ≡ true
limited_after b edge f x e q true w h =
    keeps_order b.class.pool edge.action b.code.max_locals (facts.Known f) x (within_if b.code.max_locals f true w e) q h
limited_after b edge f x e q false w h =
    let mixed = mixed_alone x h in
    subst (λ y. fact_below (limited (frame_after b.class.pool edge.action b.code.max_locals f)) (made_by b edge y) ≡ true) (sym mixed)
    (below_mixed (limited (frame_after b.class.pool edge.action b.code.max_locals f)))

module _ (b : MethodBody) (body : IsBody b) (inside : AreWithin (length b.code.bytes) b.instructions) (s : ℕ → KindFact) (solved : IsSolution kind_order (kind_problem b) s) where
  edge_met : (edge : Edge) → Contains (edges_of b.instructions) edge → fact_below (made_by b edge (s edge.from)) (s edge.to) ≡ true
  edge_met edge c =
      let at : edge_at (edges_of b.instructions) c.0 ≡ edge = ap (λ o. unwrap_or o nowhere) (place_of (edges_of b.instructions) edge c) in
      subst (λ e. fact_below (made_by b e (s e.from)) (s e.to) ≡ true) at (solved.edges c.0 c.1)

  onward_below :
      (edge : Edge) (f : KindFrame) → Contains (edges_of b.instructions) edge → length f.slots ≡ b.code.max_locals + words_in f.height
      → fact_below (limited f) (s edge.from) ≡ true
      → fact_below (limited (frame_after b.class.pool edge.action b.code.max_locals f)) (s edge.to) ≡ true
  onward_below edge f c e h =
      let n = b.code.max_locals in
      let ends = between (length b.code.bytes) b.instructions inside edge c in
      let q = solved.facts edge.from ends.0 in
      let after = frame_after b.class.pool edge.action n f in
      (is_order n).transitive (limited after) (made_by b edge (s edge.from)) (s edge.to)
      (limited_fact n after (slots_after b.class.pool edge.action n f e)) (makes_facts b.class.pool edge.action n (s edge.from) q) (solved.facts edge.to ends.1)
      (limited_after b edge f (s edge.from) e q (is_within f.height) refl h) (edge_met edge c)

  comes_below : {pc : ℕ} {f : KindFrame} → Comes b pc f → fact_below (limited f) (s pc) ≡ true
  comes_below at_start = solved.starts 0 body.has_code.some
  comes_below (onward {frame = f} edge c h) = onward_below edge f c (comes_length b h) (comes_below h)

  comes_there : {pc : ℕ} {f : KindFrame} → Comes b pc f → pc < length b.code.bytes
  comes_there at_start = body.has_code.some
  comes_there (onward edge c h) = (between (length b.code.bytes) b.instructions inside edge c).1

  -- ---- heights

  height_in :
      (f : KindFrame) (d : KindFrame) → length f.slots ≡ b.code.max_locals + words_in f.height → IsFact b.code.max_locals (facts.Known d)
      → (in_limits : Bool) → is_within f.height ≡ in_limits → fact_below (if in_limits then facts.Known f else facts.Mixed) (facts.Known d) ≡ true → f.height ≡ d.height
  height_in f d e q true w h = (frame_is b.code.max_locals most_words f d (within_if b.code.max_locals f true w e).0 q.0 h).0
  height_in f d e q false w h = absurd cc

  not_unreached : (f : KindFrame) (in_limits : Bool) → fact_below (if in_limits then facts.Known f else facts.Mixed) facts.Unreached ≡ true → ⊥
  not_unreached f true h = absurd cc
  not_unreached f false h = absurd cc

  mixed_by :
      (f g : KindFrame) (x : KindFact) → length f.slots ≡ b.code.max_locals + words_in f.height → length g.slots ≡ b.code.max_locals + words_in g.height
      → IsFact b.code.max_locals x → fact_below (limited f) x ≡ true → fact_below (limited g) x ≡ true → f.height ≢ g.height → x ≡ facts.Mixed
  mixed_by f g facts.Unreached e k q h i n = absurd (not_unreached f (is_within f.height) h)
  mixed_by f g (facts.Known d) e k q h i n =
      absurd (n (height_in f d e q (is_within f.height) refl h ∙ sym (height_in g d k q (is_within g.height) refl i)))
  mixed_by f g facts.Mixed e k q h i n = refl

  heights_differ : (pc : ℕ) (f g : KindFrame) → Comes b pc f → Comes b pc g → f.height ≢ g.height → s pc ≡ facts.Mixed
  heights_differ pc f g c d n = mixed_by f g (s pc) (comes_length b c) (comes_length b d) (solved.facts pc (comes_there c)) (comes_below c) (comes_below d) n

module _ (stand : PlacedStand) (laid : CodeIsLaidOut) where
  pub all_below :
      (b : MethodBody) (s : ℕ → KindFact) (pc : ℕ) (f : KindFrame) → IsBody b → IsSolution kind_order (kind_problem b) s
      → Comes b pc f → fact_below (limited f) (s pc) ≡ true
  all_below b s pc f body solved c = comes_below b body (within_body stand laid b body) s solved c

  pub heights_seen :
      (b : MethodBody) (s : ℕ → KindFact) (pc : ℕ) (f g : KindFrame) → IsBody b → IsSolution kind_order (kind_problem b) s
      → Comes b pc f → Comes b pc g → f.height ≢ g.height → s pc ≡ facts.Mixed
  heights_seen b s pc f g body solved c d n = heights_differ b body (within_body stand laid b body) s solved pc f g c d n
