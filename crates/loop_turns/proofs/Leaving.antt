-- Behind an edge the turns of the loops that it left end, and the turn of the loop that it entered begins.
use Rattle.std.proofs.Common.{◌≡◌, ℕ, List, [], ◌∷◌, ◌++◌, refl, sym, ap, ◌∙◌, subst, arith, append_assoc}
use Rattle.nested_runs.specs.Nest.{Machine}
use Rattle.nested_runs.specs.Stacks.{Steps, start, return, next}
use Rattle.nested_runs.specs.Refining.{Becomes}
use Rattle.nested_runs.proofs.Nests.{steps_at}
use Rattle.loop_turns.specs.Regions.{IsOutside, Passage, enters}
use Rattle.loop_turns.specs.Regions as regions
use Rattle.loop_turns.specs.Turns.{Places, Turn, turn, loops, leaves, behind, turns, Waits, bottom, around, Sees, sees}
use Rattle.loop_turns.proofs.Ends.{no_longer_end, own_end}

module _ {A E : Type 0} (m : Machine A E) (at : Places A) where
  -- the activation is seen in the region r, with turns that wait around that, and those of its callers below
  record Reached (b : A) (r : List ℕ) (before callers : List (Turn A)) (k : ℕ) : Type 0 where
    pub below : List (Turn A)
    pub waits : Waits at r below
    pub made : Steps (turns m at) before k (turn b r ∷ (below ++ callers))

  -- the loops `inner` around the place before the edge are left one by one, where the place behind it lies outside each
  left_loops :
      {b : A} {k : ℕ} {r : List ℕ} {before callers below : List (Turn A)} (done inner from : List ℕ)
      → from ≡ done ++ (inner ++ r)
      → ((front rear : List ℕ) (l : ℕ) → from ≡ front ++ (l ∷ (rear ++ r)) → IsOutside (l ∷ (rear ++ r)) (at.home b))
      → Waits at (inner ++ r) below → Steps (turns m at) before k (turn b (inner ++ r) ∷ (below ++ callers))
      → Reached b r before callers k
  left_loops done [] from e out waits made = record { below = _; waits = waits; made = made }
  left_loops {k = k} {r = r} done (l ∷ inner) from e out (around {rest = rest} home entry waits) made =
      left_loops {below = rest} (done ++ (l ∷ [])) inner from (e ∙ sym (append_assoc done (l ∷ []) (inner ++ r))) out waits
      (steps_at (omega arith) (next made (return (leaves (out done inner l e)) (behind (home ∙ ap (λ q. q ∷ (inner ++ r)) (sym entry))))))

  pub passed :
      {b : A} {q k : ℕ} {from to : List ℕ} {before callers below : List (Turn A)}
      → at.home b ≡ to → at.place b ≡ q → Passage from q to → Waits at from below
      → Steps (turns m at) before k (turn b from ∷ (below ++ callers))
      → Becomes (turns m at) (λ a xs. Sees at a xs) before k b callers
  passed {b = b} {k = k} {from = from} {to = to} {before = before} {callers = callers} {below = below} home place (regions.Passage.leaves inside) waits made =
      let there : Reached b to before callers k =
      left_loops [] inside.0 from inside.1 (λ front rear l e out. no_longer_end out.0 to l rear (sym home ∙ out.1))
      (subst (λ r. Waits at r below) inside.1 waits)
      (subst (λ r. Steps (turns m at) before k (turn b r ∷ (below ++ callers))) inside.1 made) in
      record { list = turn b to ∷ there.below; seen = sees home there.waits; made = there.made }
  passed {b = b} {q = q} {k = k} {from = from} {before = before} {callers = callers} {below = below} home place (enters {to = to} inside fresh) waits made =
      let there : Reached b to before callers k =
      left_loops [] inside.0 from inside.1
      (λ front rear l e out.
      let own = own_end out.0 to q l rear (sym home ∙ out.1) in
      fresh (front, e ∙ ap (λ y. front ++ (y ∷ (rear ++ to))) own.0 ∙ ap (λ zs. front ++ (q ∷ (zs ++ to))) own.1))
      (subst (λ r. Waits at r below) inside.1 waits)
      (subst (λ r. Steps (turns m at) before k (turn b r ∷ (below ++ callers))) inside.1 made) in
      let here_home : at.home b ≡ at.place b ∷ to = home ∙ ap (λ l. l ∷ to) (sym place) in
      record {
        list = turn b (at.place b ∷ to) ∷ turn b to ∷ there.below;
        seen = sees here_home (around here_home refl there.waits);
        made = steps_at (omega arith) (next there.made (start (loops here_home)));
      }

  -- outside all loops the method's turn stands alone
  pub alone : {a : A} {r : List ℕ} {below : List (Turn A)} → r ≡ [] → Waits at r below → (turn a r ∷ below) ≡ (turn a [] ∷ [])
  alone e bottom = refl
  alone e (around home place waits) = absurd cc
