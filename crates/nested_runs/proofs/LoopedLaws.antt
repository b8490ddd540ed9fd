-- Frames and turns make the steps of the counters.
use Rattle.std.proofs.Common.{ℕ, List, [], ◌∷◌, ◌++◌}
use Rattle.nested_runs.specs.Nest.{Nest, base, stays}
use Rattle.nested_runs.specs.Stacks.{start, return, here, next}
use Rattle.nested_runs.specs.Refining.{Becomes, Refines}
use Rattle.nested_runs.specs.Counting.{counting, CountsDown, counts_down, CallsOne, calls_one, ReturnsRest, returns_rest, TakesOver, takes_over}
use Rattle.nested_runs.specs.Looped.{Layer, Frame, Turn, turns, calls, counted, returning, left, frame, turn, looped, SeesTurn, sees_turn}
use Rattle.nested_runs.proofs.Nests.{nest_starts}

-- the turn ends as it has counted, and the frame starts the next one
count_looped :
    {a b k : ℕ} {xs : List Layer}
    → CountsDown a k b → SeesTurn a xs → (rest : List Layer) → Becomes looped (λ a xs. SeesTurn a xs) (xs ++ rest) k b rest
count_looped counts_down sees_turn rest = record {
  list = _;
  seen = sees_turn;
  made = next (next here (return counted frame)) (start turns);
}

-- the turn waits, and the new frame starts its first turn
call_looped :
    {w b k : ℕ} {xs : List Layer}
    → CallsOne w k b → SeesTurn w xs → (rest : List Layer) → Becomes looped (λ a xs. SeesTurn a xs) (xs ++ rest) k b (xs ++ rest)
call_looped calls_one sees_turn rest = record {
  list = _;
  seen = sees_turn;
  made = next (next here (start calls)) (start turns);
}

-- the turn ends, its frame ends, and the turn that waits goes on
return_looped :
    {d w r e k : ℕ} {ys xs : List Layer}
    → ReturnsRest d k e → TakesOver w e r → SeesTurn d ys → SeesTurn w xs
    → (rest : List Layer) → Becomes looped (λ a xs. SeesTurn a xs) (ys ++ (xs ++ rest)) k r rest
return_looped returns_rest takes_over sees_turn sees_turn rest = record {
  list = _;
  seen = sees_turn;
  made = next (next here (return returning frame)) (return left turn);
}

pub counting_looped : Refines counting looped (λ a xs. SeesTurn a xs)
counting_looped = record {
  over_move = λ mv sees rest. count_looped mv sees rest;
  over_start = λ st sees rest. call_looped st sees rest;
  over_return = λ en re sees_d sees_w rest. return_looped en re sees_d sees_w rest;
}

-- the first frame has started its first turn
pub looped_first : (n : ℕ) → Nest looped (Frame n) (Turn n ∷ Frame n ∷ []) 0
looped_first n = nest_starts (base stays) turns
