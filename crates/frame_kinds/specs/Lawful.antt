-- The flow of kinds keeps the laws of flows.
use Rattle.std.proofs.Common.{◌≡◌, ℕ, zero, suc, ◌+◌, ◌<◌, Bool, true, false, List, [], ◌∷◌, ◌++◌, length, pos, neg_ℤ, ◌≤ℤ◌, sym, ap, subst, ◌∙◌, arith, Contains}
use Rattle.std.proofs.lemmas.Int.{ints}
use Rattle.std.proofs.lemmas.List.{length-take-le, length-append, length-replicate}
use Rattle.std.proofs.lemmas.List.Elements.{All-contains}
use Rattle.std.specs.Prelude.{if◌then◌else◌, ◌==◌, replicate}
use Rattle.std.specs.Ordering.{int_eq}
use Rattle.common_laws.proofs.Members.{contains_head, contains_tail, from_map, from_flat}
use Rattle.op_table.specs.Actions.{action_of}
use Rattle.code_blocks.specs.declared.instruction.Instruction.{Instruction}
use Rattle.code_blocks.specs.Blocks.{AreWithin}
use Rattle.method_body.specs.Bodies.{MethodBody}
use Rattle.fix_engine.specs.Lawful.{IsLawful, IsOrder, IsJoin, IsChain}
use Rattle.slot_facts.specs.declared.kind.Kind.TheVariants.{Top}
use Rattle.class_reader.specs.Flags.{is_static}
use Rattle.kind_frames.specs.declared.fact.KindFrame.{KindFrame}
use Rattle.kind_frames.specs.declared.fact.KindFact.{KindFact}
use Rattle.kind_frames.specs.declared.fact.KindFact.TheVariants as facts
use Rattle.kind_frames.specs.Frames.{kind_order, all_joined, facts_joined, words_in, AreAlike, IsFactOf}
use Rattle.kind_frames.proofs.Lattice.{ordered, joins, chains}
use Rattle.kind_effects.specs.Entry.{kinds_handed}
use Rattle.kind_effects.specs.Frames.{most_words, IsFact, IsAboveLimit}
use Rattle.kind_effects.proofs.Orders.{makes_facts, keeps_order}
use Rattle.frame_kinds.specs.declared.edge.Edge.{Edge}
use Rattle.frame_kinds.specs.Flow.{edges_from, edges_of, edge_at, entry_of, kind_problem, IsBetween}

alike : (locals : ℕ) (a b : KindFact) → IsFact locals a → IsFact locals b → AreAlike a b
alike locals facts.Unreached b p q = tt
alike locals (facts.Known a) facts.Unreached p q = tt
alike locals (facts.Known a) (facts.Known b) p q = λ e. p.0.0 ∙ ap (λ z. locals + words_in z) e ∙ sym q.0.0
alike locals (facts.Known a) facts.Mixed p q = tt
alike locals facts.Mixed b p q = tt

joined_if : (a b : KindFrame) (same : Bool) → neg_ℤ (pos most_words) ≤ℤ a.height → IsAboveLimit (if same then facts.Known (record { height = a.height; slots = all_joined a.slots b.slots }) else facts.Mixed)
joined_if a b true p = p
joined_if a b false p = tt

joined_above : (a b : KindFact) → IsAboveLimit a → IsAboveLimit b → IsAboveLimit (facts_joined a b)
joined_above facts.Unreached b p q = q
joined_above (facts.Known a) facts.Unreached p q = p
joined_above (facts.Known a) (facts.Known b) p q = joined_if a b (int_eq a.height b.height) p
joined_above (facts.Known a) facts.Mixed p q = tt
joined_above facts.Mixed b p q = tt

pub is_order : (locals : ℕ) → IsOrder kind_order (IsFact locals)
is_order locals =
    let o = ordered locals most_words in
    record {
      reflexive = λ a p. o.reflexive a p.0;
      antisymmetric = λ a b p q. o.antisymmetric a b p.0 q.0;
      transitive = λ a b c p q r. o.transitive a b c p.0 q.0 r.0;
    }

is_join : (locals : ℕ) → IsJoin kind_order (IsFact locals)
is_join locals =
    let j = joins locals most_words in
    record {
      closed = λ a b p q. (j.closed a b p.0 q.0, joined_above a b p.1 q.1);
      left = λ a b p q. j.left a b p.0 q.0;
      right = λ a b p q. j.right a b p.0 q.0;
      least = λ a b c p q r. j.least a b c p.0 q.0 r.0;
    }

is_chain : (locals : ℕ) (chain : List KindFact) → IsChain kind_order (IsFact locals) chain → IsChain kind_order (IsFactOf locals most_words) chain
is_chain locals [] h = tt
is_chain locals (a ∷ []) h = h.0
is_chain locals (a ∷ b ∷ rest) h = (h.0.0, h.1, h.2, is_chain locals (b ∷ rest) h.3)

-- ---- the start

pub entry_is : (b : MethodBody) → IsFact b.code.max_locals (facts.Known (entry_of b))
entry_is b =
    let n = b.code.max_locals in
    let words = kinds_handed (is_static b.method.flags) b.method.desc in
    let whole : length (words ++ replicate n Top) ≡ length words + n = length-append words (replicate n Top) ∙ ap (λ k. length words + k) (length-replicate n Top) in
    let there = length-take-le n (words ++ replicate n Top) (omega (arith, whole)) in
    ((there ∙ omega arith, omega (arith, ints)), omega (arith, ints))

start_if : (b : MethodBody) (first : Bool) → IsFact b.code.max_locals (if first then facts.Known (entry_of b) else facts.Unreached)
start_if b true = entry_is b
start_if b false = (tt, tt)

-- ---- edges

pub edge_in : (edges : List Edge) (e : ℕ) → e < length edges → Contains edges (edge_at edges e)
edge_in [] e l = absurd (omega arith)
edge_in (edge ∷ edges) zero l = contains_head edge edges
edge_in (edge ∷ edges) (suc e) l = contains_tail edge edges (edge_at edges e) (edge_in edges e (omega arith))

pub between : (size : ℕ) (is : List Instruction) → AreWithin size is → (edge : Edge) → Contains (edges_of is) edge → IsBetween size edge
between size is w edge h =
    let from = from_flat edges_from is edge h in
    let i = from.0 in
    let led = from_map (λ x. record { from = i.pc; action = action_of i.instr; to = x }) i.successors edge from.2 in
    subst (IsBetween size) led.2 (w.places i from.1, All-contains (λ x. x < size) i.successors led.0 (w.successors i from.1) led.1)

pub kind_lawful : (b : MethodBody) → AreWithin (length b.code.bytes) b.instructions → IsLawful kind_order (kind_problem b)
kind_lawful b w =
    let n = b.code.max_locals in
    let edges = edges_of b.instructions in
    let size = length b.code.bytes in
    let inside : (e : ℕ) → e < length edges → IsBetween size (edge_at edges e) = λ e l. between size b.instructions w (edge_at edges e) (edge_in edges e l) in
    record {
      alike = λ k x y l p q. alike n x y p q;
      ordered = λ k l. is_order n;
      joined = λ k l. is_join n;
      height = λ k chain l h. chains n most_words chain (is_chain n chain h);
      source = λ e l. (inside e l).0;
      also = λ e q l h. absurd cc;
      goal = λ e l. (inside e l).1;
      start = λ k l. start_if b (k == 0);
      transfer = λ e x y l p q. makes_facts b.class.pool (edge_at edges e).action n x p;
      monotone = λ e x z y v l p r q s h k. keeps_order b.class.pool (edge_at edges e).action n x z p r h;
    }
