-- Nests of activations are nests of turns.
use Rattle.std.proofs.Common.{◌≡◌, ℕ, ◌+◌, List, [], ◌∷◌, ◌++◌, refl, sym, ◌∙◌, subst, arith}
use Rattle.std.proofs.lemmas.List.{append-nil}
use Rattle.nested_runs.specs.Nest.{Machine, Nest, base, stays, Done, done}
use Rattle.nested_runs.specs.Stacks.{move, start, return, here, next}
use Rattle.nested_runs.specs.Refining.{Seen, nothing, beside, Becomes, Refines}
use Rattle.nested_runs.proofs.Nests.{steps_at, nest_steps, nest_at, nest_done}
use Rattle.nested_runs.proofs.Refined.{nest_refined}
use Rattle.loop_turns.specs.Regions.{Passage}
use Rattle.loop_turns.specs.Turns.{Places, Turn, turn, Returned, within, calls, returns, back, turns, AreLooped, IsOnTop, Waits, bottom, around, Sees, sees}
use Rattle.loop_turns.proofs.Leaving.{passed, alone}

module _ {A E : Type 0} {m : Machine A E} {at : Places A} (looped : AreLooped m at) where
  abbrev Becoming : List (Turn A) → ℕ → A → List (Turn A) → Type 0
  Becoming before k now callers = Becomes (turns m at) (λ a xs. Sees at a xs) before k now callers

  -- the passage from the home that was seen
  from_home : {a b : A} {r : List ℕ} → at.home a ≡ r → Passage (at.home a) (at.place b) (at.home b) → Passage r (at.place b) (at.home b)
  from_home {b = b} home passage = subst (λ h. Passage h (at.place b) (at.home b)) home passage

  moves_on : {a b : A} {k : ℕ} {xs : List (Turn A)} → m.moves a k b → Sees at a xs → (rest : List (Turn A)) → Becoming (xs ++ rest) k b rest
  moves_on mv (sees home waits) rest = passed m at refl refl (from_home home (looped.move mv)) waits (steps_at (omega arith) (next here (move (within home mv))))

  starts_above : {w b : A} {k : ℕ} {xs : List (Turn A)} → m.starts w k b → Sees at w xs → (rest : List (Turn A)) → Becoming (xs ++ rest) k b (xs ++ rest)
  starts_above st (sees home waits) rest = passed m at refl refl (looped.start st) bottom (steps_at (omega arith) (next here (start (calls home st))))

  method_returns :
      {d w b : A} {k : ℕ} {e : E} {below : List (Turn A)} (rest : List (Turn A))
      → at.home d ≡ [] → m.ends d k e → m.resumes w e b → Sees at w below → Becoming (turn d [] ∷ (below ++ rest)) k b rest
  method_returns rest home_d en re (sees home waits) =
      passed m at refl refl (from_home home (looped.resume re)) waits (steps_at (omega arith) (next here (return (returns home_d en) (back home re))))

  comes_back :
      {d w b : A} {e : E} {k : ℕ} {ys xs : List (Turn A)}
      → m.ends d k e → m.resumes w e b → Sees at d ys → Sees at w xs → (rest : List (Turn A)) → Becoming (ys ++ (xs ++ rest)) k b rest
  comes_back {b = b} {k = k} {xs = xs} en re (sees home waits) seen rest =
      let home_d = looped.end en in
      subst (λ top. Becoming (top ++ (xs ++ rest)) k b rest) (sym (alone m at (sym home ∙ home_d) waits)) (method_returns rest home_d en re seen)

  pub turns_refine : Refines m (turns m at) (λ a xs. Sees at a xs)
  turns_refine = record {
    over_move = λ mv seen rest. moves_on mv seen rest;
    over_start = λ st seen rest. starts_above st seen rest;
    over_return = λ en re sees_d sees_w rest. comes_back en re sees_d sees_w rest;
  }

  -- the turns of an activation that has just begun, above its method's
  pub first_turns : (a : A) → Passage [] (at.place a) (at.home a) → (list : List (Turn A)) × (Sees at a list × Nest (turns m at) (turn a []) list 0)
  first_turns a begins =
      let begun : Becoming (turn a [] ∷ []) 0 a [] = passed m at refl refl begins bottom here in
      (begun.list, (begun.seen, subst (λ zs. Nest (turns m at) (turn a []) zs 0) (append-nil begun.list) (nest_at (omega arith) (nest_steps (base stays) begun.made))))

  pub nest_turns :
      {a : A} {s : List A} {c : ℕ} → Passage [] (at.place a) (at.home a) → Nest m a s c
      → (list : List (Turn A)) × (Seen (λ b xs. Sees at b xs) s list × Nest (turns m at) (turn a []) list c)
  nest_turns {a = a} {c = c} begins nest =
      let first = first_turns a begins in
      let seen = nest_refined turns_refine first.1.0 first.1.1 nest in
      (seen.0, (seen.1.0, nest_at (let e : 0 + c ≡ c = omega arith in e) seen.1.1))

  top_turn :
      {b : A} {rest : List A} {first : Turn A} {c : ℕ} (list : List (Turn A))
      → Seen (λ a xs. Sees at a xs) (b ∷ rest) list → Nest (turns m at) first list c → IsOnTop m at first b c
  top_turn {b = b} {first = first} {c = c} list (beside {bs = bs} (sees {rest = waiting} home waits) seen) nest =
      record { below = waiting ++ bs; nest = subst (λ r. Nest (turns m at) first (turn b r ∷ (waiting ++ bs)) c) (sym home) nest }

  pub nest_on_top : {a b : A} {rest : List A} {c : ℕ} → Passage [] (at.place a) (at.home a) → Nest m a (b ∷ rest) c → IsOnTop m at (turn a []) b c
  nest_on_top begins nest = let seen = nest_turns begins nest in top_turn seen.0 seen.1.0 seen.1.1

  top_done :
      {d : A} {e : E} {j k : ℕ} {r : List ℕ} {first : Turn A} {below : List (Turn A)}
      → r ≡ [] → at.home d ≡ [] → m.ends d k e → Waits at r below
      → Nest (turns m at) first ((turn d r ∷ below) ++ []) j → Done (turns m at) first (j + k) (Returned e)
  top_done none home en bottom nest = nest_done nest (returns home en)
  top_done none home en (around h place waits) nest = absurd cc

  seen_done :
      {d : A} {e : E} {j k : ℕ} {first : Turn A} (list : List (Turn A))
      → m.ends d k e → Seen (λ a xs. Sees at a xs) (d ∷ []) list → Nest (turns m at) first list j → Done (turns m at) first (j + k) (Returned e)
  seen_done list en (beside (sees home waits) nothing) nest = let home_d = looped.end en in top_done (sym home ∙ home_d) home_d en waits nest

  pub done_turns : {a : A} {e : E} {c : ℕ} → Passage [] (at.place a) (at.home a) → Done m a c e → Done (turns m at) (turn a []) c (Returned e)
  done_turns begins (done g en) = let seen = nest_turns begins (base g) in seen_done seen.0 en seen.1.0 seen.1.1
