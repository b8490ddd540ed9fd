-- The flow of what is known of null keeps the laws of flows.
use Rattle.std.proofs.Common.{ℕ, zero, suc, ◌<◌, ◌≤◌, Bool, true, false, List, [], ◌∷◌, ◌++◌, length, take, arith, Contains}
use Rattle.std.specs.Prelude.{if◌then◌else◌, ◌==◌, replicate}
use Rattle.common_laws.proofs.Members.{contains_head, contains_tail}
use Rattle.fix_engine.specs.Lawful.{IsLawful}
use Rattle.null_flow.specs.declared.edge.NullEdge.{NullEdge}
use Rattle.null_flow.specs.declared.fact.NullFact.TheVariants as facts
use Rattle.null_flow.specs.Facts.{null_order, IsFactOf}
use Rattle.null_flow.specs.Flow.{edge_at, size_at, largest, null_problem, start_slots, IsBetween}
use Rattle.null_flow.specs.inside.Lattice.{ordered, joins, chains, alike}
use Rattle.null_flow.specs.inside.Orders.{fitted_length, makes_facts, keeps_order}

largest_is : (sizes : List ℕ) (k : ℕ) → k < length sizes → size_at sizes k ≤ largest sizes
largest_is [] k l = absurd (omega arith)
largest_is (size ∷ sizes) zero l = grind arith
largest_is (size ∷ sizes) (suc k) l = let rest = largest_is sizes k (omega arith) in grind arith

start_if : (receiver : Bool) (size : ℕ) (first : Bool) → IsFactOf size (if first then facts.Known (take size (start_slots receiver ++ replicate size false)) else facts.Unreached)
start_if receiver size true = fitted_length size (start_slots receiver)
start_if receiver size false = tt

pub edge_in : (edges : List NullEdge) (e : ℕ) → e < length edges → Contains edges (edge_at edges e)
edge_in [] e l = absurd (omega arith)
edge_in (edge ∷ edges) zero l = contains_head edge edges
edge_in (edge ∷ edges) (suc e) l = contains_tail edge edges (edge_at edges e) (edge_in edges e (omega arith))

pub null_lawful :
    (receiver : Bool) (sizes : List ℕ) (edges : List NullEdge) → ((edge : NullEdge) → Contains edges edge → IsBetween (length sizes) edge)
    → IsLawful null_order (null_problem receiver sizes edges)
null_lawful receiver sizes edges within =
    let inside : (e : ℕ) → e < length edges → IsBetween (length sizes) (edge_at edges e) = λ e l. within (edge_at edges e) (edge_in edges e l) in
    record {
      alike = λ k x y l p q. alike (size_at sizes k) x y p q;
      ordered = λ k l. ordered (size_at sizes k);
      joined = λ k l. joins (size_at sizes k);
      height = λ k chain l h. let most = largest_is sizes k l in let short = chains (size_at sizes k) chain h in omega (arith, most, short);
      source = λ e l. (inside e l).0;
      also = λ e q l h. absurd cc;
      goal = λ e l. (inside e l).1;
      start = λ k l. start_if receiver (size_at sizes k) (k == 0);
      transfer = λ e x y l p q. makes_facts (edge_at edges e) (size_at sizes (edge_at edges e).to) x;
      monotone = λ e x z y v l p r q s h k. keeps_order (edge_at edges e) (size_at sizes (edge_at edges e).from) (size_at sizes (edge_at edges e).to) x z p r h;
    }
