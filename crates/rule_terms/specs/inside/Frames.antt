-- What is still to be done with what was made of a part of a rule, frame by frame, the nearest first.
use Rattle.std.specs.Prelude.{◌≡◌, ℕ, ◌+◌, ◌<◌, ◌≤◌, List, [], ◌∷◌}
use Rattle.rule_terms.specs.declared.folding.Frame.{Frame}
use Rattle.rule_terms.specs.declared.folding.Frame.TheVariants.{Assume, Spend, Fresh, Call, First, Second}
use Rattle.rule_terms.specs.declared.folding.Risen.{Risen}
use Rattle.rule_terms.specs.declared.folding.Risen.TheVariants.{Whole, Waits}
use Rattle.rule_terms.specs.Terms.{Term, Ends, Assumes, Spends, Makes, Calls, Either, term_of}
use Rattle.rule_terms.specs.Algebra.{Algebra, fold_of}

-- how many parts a term has
abbrev pub size_of : Term → ℕ
size_of Ends = 1
size_of (Assumes row rest) = size_of rest + 1
size_of (Spends n rest) = size_of rest + 1
size_of (Makes v rest) = size_of rest + 1
size_of (Calls node args rest) = size_of rest + 1
size_of (Either first second) = size_of first + size_of second + 1

-- what a frame makes of what was made of its part
abbrev pub applied : {Out : Type 0} → Algebra Out → Frame Out → Out → Out
applied a (Assume row) out = a.assume row.now out
applied a (Spend n) out = a.spend n out
applied a (Fresh v) out = a.fresh v out
applied a (Call node args) out = a.call node args.now out
applied a (First second) out = a.split out (fold_of a (term_of second.now))
applied a (Second first) out = a.split first out

-- and all frames, one after another
abbrev pub plugged : {Out : Type 0} → Algebra Out → List (Frame Out) → Out → Out
plugged a [] out = out
plugged a (f ∷ fs) out = plugged a fs (applied a f out)

-- how many parts a frame still waits for
abbrev pub frame_size : {Out : Type 0} → Frame Out → ℕ
frame_size (Assume row) = 0
frame_size (Spend n) = 0
frame_size (Fresh v) = 0
frame_size (Call node args) = 0
frame_size (First second) = size_of (term_of second.now)
frame_size (Second first) = 0

abbrev pub waiting_size : {Out : Type 0} → List (Frame Out) → ℕ
waiting_size [] = 0
waiting_size (f ∷ fs) = frame_size f + waiting_size fs

-- what was made, with the part that is waited for folded too
abbrev pub risen_value : {Out : Type 0} → Algebra Out → Risen Out → Out
risen_value a (Whole out) = out
risen_value a (Waits first second) = a.split first (fold_of a (term_of second.now))

abbrev pub risen_size : {Out : Type 0} → Risen Out → ℕ
risen_size (Whole out) = 0
risen_size (Waits first second) = size_of (term_of second.now)

-- nothing is left to be done where the whole was made
abbrev pub IsLast : {Out : Type 0} → List (Frame Out) → Risen Out → Type 0
IsLast frames (Whole out) = frames ≡ []
IsLast frames (Waits first second) = Unit {0}

-- the way down to the first end of a term
pub record Descends {Out : Type 0} (old new : List (Frame Out)) (t : Term) : Type 0 where
  pub same : (a : Algebra Out) → plugged a new a.stop ≡ plugged a old (fold_of a t)
  pub less : waiting_size new < waiting_size old + size_of t

-- part of the way
pub record GoesDown {Out : Type 0} (old new : List (Frame Out)) (t below : Term) : Type 0 where
  pub same : (a : Algebra Out) → plugged a new (fold_of a below) ≡ plugged a old (fold_of a t)
  pub less : waiting_size new + size_of below ≤ waiting_size old + size_of t

-- one frame of the way up
pub record Applies {Out : Type 0} (a : Algebra Out) (frame : Frame Out) (out : Out) (risen : Risen Out) : Type 0 where
  pub same : risen_value a risen ≡ applied a frame out
  pub less : risen_size risen ≤ frame_size frame

-- the way up to the next second part, or to the whole
pub record Rises {Out : Type 0} (a : Algebra Out) (old new : List (Frame Out)) (out : Out) (risen : Risen Out) : Type 0 where
  pub same : plugged a new (risen_value a risen) ≡ plugged a old out
  pub less : waiting_size new + risen_size risen ≤ waiting_size old
  pub last : IsLast new risen
