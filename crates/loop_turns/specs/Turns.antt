-- Activations as stacks of turns: one for the method, and inside it one for each loop around the place where it stands.
-- Turns are a machine of their own, so that all that holds of nested runs of any machine holds of them.
use Rattle.std.specs.Prelude.{◌≡◌, ℕ, List, [], ◌∷◌}
use Rattle.nested_runs.specs.Nest.{Machine, Nest}
use Rattle.loop_turns.specs.Regions.{IsOutside, Passage}

-- where an activation stands: at a place, which lies in these loops, the innermost first
pub record Places (A : Type 0) : Type 0 where
  pub home : A → List ℕ
  pub place : A → ℕ

-- an activation, seen in a region
pub data Turn (A : Type 0) : Type 0 where
  turn : A → List ℕ → Turn A

-- a loop's turn ends where the loop is left, a method's with what it returns
pub data TurnEnd (A E : Type 0) : Type 0 where
  Left : A → TurnEnd A E
  Returned : E → TurnEnd A E

module _ {A E : Type 0} (m : Machine A E) (at : Places A) where
  -- a turn whose region is its home moves as the activation does, wherever that leads
  pub data TurnMoves : Turn A → ℕ → Turn A → Type 0 where
    within : {a b : A} {k : ℕ} {r : List ℕ} → at.home a ≡ r → m.moves a k b → TurnMoves (turn a r) k (turn b r)

  pub data TurnStarts : Turn A → ℕ → Turn A → Type 0 where
    -- at the entry of a loop directly inside its region, that loop's turn, for nothing
    loops : {a : A} {r : List ℕ} → at.home a ≡ at.place a ∷ r → TurnStarts (turn a r) 0 (turn a (at.place a ∷ r))
    -- at a call, the turn of the method that is called
    calls : {w b : A} {k : ℕ} {r : List ℕ} → at.home w ≡ r → m.starts w k b → TurnStarts (turn w r) k (turn b [])

  pub data TurnEnds : Turn A → ℕ → TurnEnd A E → Type 0 where
    -- outside its region, for nothing
    leaves : {a : A} {r : List ℕ} → IsOutside r (at.home a) → TurnEnds (turn a r) 0 (Left a)
    -- with the method, in no loop
    returns : {d : A} {e : E} {k : ℕ} → at.home d ≡ [] → m.ends d k e → TurnEnds (turn d []) k (Returned e)

  pub data TurnResumes : Turn A → TurnEnd A E → Turn A → Type 0 where
    -- behind a loop, where that was left
    behind : {w b : A} {r : List ℕ} → at.home w ≡ at.place w ∷ r → TurnResumes (turn w r) (Left b) (turn b r)
    -- behind a call
    back : {w b : A} {e : E} {r : List ℕ} → at.home w ≡ r → m.resumes w e b → TurnResumes (turn w r) (Returned e) (turn b r)

  abbrev pub turns : Machine (Turn A) (TurnEnd A E)
  turns = record {
    moves = λ a k b. TurnMoves a k b;
    starts = λ w k b. TurnStarts w k b;
    ends = λ d k e. TurnEnds d k e;
    resumes = λ w e r. TurnResumes w e r;
  }

  -- each edge of the machine is a passage, and no activation ends in a loop
  pub record AreLooped : Type 0 where
    pub start : {w b : A} {k : ℕ} → m.starts w k b → Passage [] (at.place b) (at.home b)
    pub move : {a b : A} {k : ℕ} → m.moves a k b → Passage (at.home a) (at.place b) (at.home b)
    pub resume : {w b : A} {e : E} → m.resumes w e b → Passage (at.home w) (at.place b) (at.home b)
    pub end : {d : A} {e : E} {k : ℕ} → m.ends d k e → at.home d ≡ []

  -- The turn of the activation's home stands on top of a nest of turns, at this cost, of which the first is this one.
  pub record IsOnTop (first : Turn A) (now : A) (cost : ℕ) : Type 0 where
    pub below : List (Turn A)
    pub nest : Nest turns first (turn now (at.home now) ∷ below) cost

module _ {A : Type 0} (at : Places A) where
  -- the turns that wait around a region, each at the entry of the loop inside it
  pub data Waits : List ℕ → List (Turn A) → Type 0 where
    bottom : Waits [] []
    around :
        {w : A} {l : ℕ} {r : List ℕ} {rest : List (Turn A)}
        → at.home w ≡ l ∷ r → at.place w ≡ l → Waits r rest → Waits (l ∷ r) (turn w r ∷ rest)

  -- an activation is seen as the turn of its home, and those that wait around it
  pub data Sees : A → List (Turn A) → Type 0 where
    sees : {a : A} {r : List ℕ} {rest : List (Turn A)} → at.home a ≡ r → Waits r rest → Sees a (turn a r ∷ rest)
