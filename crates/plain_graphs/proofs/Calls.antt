-- what is asked of the callee-first order, node by node
use Rattle.std.proofs.Common.{ℕ, ◌<◌, ◌≤◌, Bool, List, length, ⊎_elim, arith}
use Rattle.std.proofs.lemmas.Bool.{cases_lt}
use Rattle.graph_core.specs.Marked.{IsMarked}
use Rattle.graph_core.specs.Components.{AreTogether}
use Rattle.graph_core.proofs.Marks.{marked_below}
use Rattle.graph_order.specs.CalleesFirst.{IsLowestChosen, IsReady, IsNext}

module _ (g : List (List ℕ)) (chosen : List Bool) where
  pub lowest_of : (v n : ℕ) → v ≤ n → IsMarked chosen v → ((k : ℕ) → k < n → AreTogether g v k × IsMarked chosen k → ⊥) → IsLowestChosen g chosen v
  lowest_of v n all m none =
      record { marked = m; lowest = λ w t c. ⊎_elim (λ (l : w < v). absurd (none w (omega arith) (t, c))) (λ (l : v ≤ w). l) (cases_lt w v) }

  pub not_lowest : (v w : ℕ) → w < v → AreTogether g v w × IsMarked chosen w → IsLowestChosen g chosen v → ⊥
  not_lowest v w l h low = let m = low.lowest w h.0 h.1 in omega arith

  pub chosen_below : (v n : ℕ) → length chosen ≤ n → IsLowestChosen g chosen v → v < n
  chosen_below v n e low = let m = marked_below chosen v low.marked in omega arith

  pub next_of : (before : List ℕ) (v n : ℕ) → v ≤ n → ((k : ℕ) → k < n → IsReady g chosen before k → ⊥) → IsReady g chosen before v → IsNext g chosen before v
  next_of before v n all none r =
      record { ready = r; lowest = λ w s. ⊎_elim (λ (l : w < v). absurd (none w (omega arith) s)) (λ (l : v ≤ w). l) (cases_lt w v) }

  pub not_next : (before : List ℕ) (v w : ℕ) → w < v → IsReady g chosen before w → IsNext g chosen before v → ⊥
  not_next before v w l r h = let m = h.lowest w r in omega arith
