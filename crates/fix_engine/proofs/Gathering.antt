-- a least solution is, at each point, the join of its start and of what edges make
use Rattle.std.proofs.Common.{◌≡◌, ◌≢◌, ℕ, zero, suc, ◌<◌, ◌≤◌, sym, ⊎_elim, subst, arith}
use Rattle.std.proofs.lemmas.Bool.Decides.{eqb_tells}
use Rattle.std.proofs.lemmas.Bool.{cases_eq}
use Rattle.fix_engine.specs.Order.{Order, Below}
use Rattle.fix_engine.specs.Problem.{Problem}
use Rattle.fix_engine.specs.Lawful.{IsLawful}
use Rattle.fix_engine.specs.Solution.{IsSolution, IsLeast, carried, gathered}
use Rattle.fix_engine.proofs.Points.{carried_fact, carried_below}

module _ {Fact : Type 0} (order : Order Fact) (p : Problem Fact) (law : IsLawful order p) (s : ℕ → Fact) (is : IsSolution order p s) where
  made : ℕ → Fact
  made e = carried p s e

  made_fact : (e k : ℕ) → e < p.edges → p.goal e ≡ k → p.IsFact k (carried p s e)
  made_fact e k l h = subst (λ (i : ℕ). p.IsFact i (carried p s e)) h (carried_fact order p law s is.facts e l)

  made_below : (e k : ℕ) → e < p.edges → p.goal e ≡ k → Below order (carried p s e) (s k)
  made_below e k l h = subst (λ (i : ℕ). Below order (carried p s e) (s i)) h (is.edges e l)

  module _ (k : ℕ) (in_k : k < p.points) where
    -- one edge more: it leads to the point and is joined, or it doesn't
    by_goal : (n : ℕ) (Q : Fact → Type 0) → (p.goal n ≡ k → Q (order.join (gathered order p s k n) (carried p s n))) → (p.goal n ≢ k → Q (gathered order p s k n)) → Q (gathered order p s k (suc n))
    by_goal n Q here there =
        ⊎_elim (λ h. rw h.0 (here h.1)) (λ h. rw h.0 (there h.1)) (eqb_tells (p.goal n) k)

    gathered_fact : (n : ℕ) → n ≤ p.edges → p.IsFact k (gathered order p s k n)
    gathered_fact zero l = law.start k in_k
    gathered_fact (suc n) l =
        let before = gathered_fact n (omega arith) in
        by_goal n (p.IsFact k) (λ h. (law.joined k in_k).closed _ _ before (made_fact n k (omega arith) h)) (λ _. before)

    gathered_below : (n : ℕ) → n ≤ p.edges → Below order (gathered order p s k n) (s k)
    gathered_below zero l = is.starts k in_k
    gathered_below (suc n) l =
        let before = gathered_below n (omega arith) in
        by_goal n (λ x. Below order x (s k)) (λ h. (law.joined k in_k).least _ _ _ (gathered_fact n (omega arith)) (made_fact n k (omega arith) h) (is.facts k in_k) before (made_below n k (omega arith) h)) (λ _. before)

    -- what has been gathered stays below what is gathered with one edge more
    rises_by_one : (n : ℕ) → suc n ≤ p.edges → (x : Fact) → p.IsFact k x → Below order x (gathered order p s k n) → Below order x (gathered order p s k (suc n))
    rises_by_one n l x fact h =
        by_goal n (Below order x) (λ g. (law.ordered k in_k).transitive _ _ _ fact (gathered_fact n (omega arith)) ((law.joined k in_k).closed _ _ (gathered_fact n (omega arith)) (made_fact n k (omega arith) g)) h ((law.joined k in_k).left _ _ (gathered_fact n (omega arith)) (made_fact n k (omega arith) g))) (λ _. h)

    start_gathered : (n : ℕ) → n ≤ p.edges → Below order (p.start k) (gathered order p s k n)
    start_gathered zero l = (law.ordered k in_k).reflexive _ (law.start k in_k)
    start_gathered (suc n) l =
        rises_by_one n l _ (law.start k in_k) (start_gathered n (omega arith))

    edge_gathered : (n e : ℕ) → n ≤ p.edges → e < n → p.goal e ≡ k → Below order (carried p s e) (gathered order p s k n)
    edge_gathered zero e l m h = absurd (omega arith)
    edge_gathered (suc n) e l m h =
        ⊎_elim (λ (same : e ≡ n). by_goal n (Below order (carried p s e)) (λ g. subst (λ (i : ℕ). Below order (carried p s i) (order.join (gathered order p s k n) (carried p s n))) (sym same) ((law.joined k in_k).right _ _ (gathered_fact n (omega arith)) (made_fact n k (omega arith) g))) (λ g. absurd (g (subst (λ (i : ℕ). p.goal i ≡ k) same h)))) (λ (other : e ≢ n). rises_by_one n l _ (made_fact e k (omega arith) h) (edge_gathered n e (omega arith) (omega arith) h)) (cases_eq e n)

  -- what is gathered from a solution is a solution
  gathered_solution : IsSolution order p (λ k. gathered order p s k p.edges)
  gathered_solution =
      record {
        facts = λ k l. gathered_fact k l p.edges (omega arith);
        starts = λ k l. start_gathered k l p.edges (omega arith);
        edges = λ e l. (law.ordered _ (law.goal e l)).transitive _ _ _ (carried_fact order p law (λ k. gathered order p s k p.edges) (λ k m. gathered_fact k m p.edges (omega arith)) e l) (carried_fact order p law s is.facts e l) (gathered_fact _ (law.goal e l) p.edges (omega arith)) (carried_below order p law (λ k. gathered order p s k p.edges) s (λ k m. gathered_fact k m p.edges (omega arith)) is.facts (λ k m. gathered_below k m p.edges (omega arith)) e l) (edge_gathered _ (law.goal e l) p.edges e (omega arith) l (λ i. p.goal e));
      }

pub IsLeast-gathered : {Fact : Type 0} (order : Order Fact) (p : Problem Fact) → IsLawful order p → (s : ℕ → Fact) → IsLeast order p s → (k : ℕ) → k < p.points → s k ≡ gathered order p s k p.edges
IsLeast-gathered order p law s least k l =
    (law.ordered k l).antisymmetric _ _ (least.solution.facts k l) (gathered_fact order p law s least.solution k l p.edges (omega arith)) (least.least _ (gathered_solution order p law s least.solution) k l) (gathered_below order p law s least.solution k l p.edges (omega arith))
