-- Which methods a call can run.
use Rattle.std.specs.Prelude.{◌≡◌, ◌≢◌, ℕ, ◌<◌, ◌≤◌, Bool, IsTrue, ◌&&◌, ◌↔◌, List, length, Option, Some, None, Result, Ok, Err, Contains, AllPairs}
use Rattle.std.specs.Ordering.{nat_cmp}
use Rattle.std.specs.Cmp.Lexicographic.{slice_cmp}
use Rattle.std.specs.declared.cmp.Ordering.TheVariants.{Less}
use Rattle.world.specs.declared.member.MemberId.{MemberId}
use Rattle.world.specs.declared.fault.ResolveFault.{ResolveFault}
use Rattle.world.specs.declared.fault.ResolveFault.TheVariants.{MissingClass, MissingMember, Ambiguous, PackageOverride, AbstractTarget, NotInstance, Memory}
use Rattle.class_hierarchy.specs.World.{World, class_at, is_below, is_instantiable}
use Rattle.world.specs.Selection.{selected_by}

-- an object of the class r can stand where one of c is named
abbrev pub is_receiver : World → ℕ → ℕ → Bool
is_receiver w c r = is_instantiable w r && is_below w r c

-- what some receiver's class selects
abbrev pub Gives : World → ℕ → MemberId → Result MemberId ResolveFault → Type 0
Gives w c m answer = (r : ℕ) × (r < length w) × IsTrue (is_receiver w c r) × (selected_by w m r ≡ answer)

-- a method that a call of m through the class c can run
abbrev pub IsTarget : World → ℕ → MemberId → MemberId → Type 0
IsTarget w c m t = Gives w c m (Ok t)

-- how a call finds its method (JVMS 6.5): the one that is resolved, or the one that the receiver's class selects
pub data Dispatch : Type 0 where
  Resolved : Dispatch
  Virtual : ℕ → Dispatch

-- the methods that a call can run, where m is what its name means
abbrev pub IsCalled : World → Dispatch → MemberId → MemberId → Type 0
IsCalled w Resolved m t = t ≡ m
IsCalled w (Virtual c) m t = IsTarget w c m t

-- the order of the faults
abbrev pub rank : ResolveFault → ℕ
rank MissingClass = 0
rank MissingMember = 1
rank Ambiguous = 2
rank PackageOverride = 3
rank AbstractTarget = 4
rank NotInstance = 5
rank Memory = 6

-- the first kind of fault that some receiver's class meets
pub record IsFirstFault (w : World) (c : ℕ) (m : MemberId) (fault : ResolveFault) : Type 0 where
  pub met : Gives w c m (Err fault)
  pub first : (other : ResolveFault) → Gives w c m (Err other) → rank fault ≤ rank other

-- the class of s stands before that of t by the bytes of the name
abbrev pub IsBefore : World → MemberId → MemberId → Type 0
IsBefore w s t = slice_cmp nat_cmp (class_at w s.class).name (class_at w t.class).name ≡ Less

-- all targets, once each, in the order of the names of their classes, where no receiver's class meets a fault
pub record AreTargets (w : World) (c : ℕ) (m : MemberId) (targets : List MemberId) : Type 0 where
  pub all : (t : MemberId) → Contains targets t ↔ IsTarget w c m t
  pub in_order : AllPairs (IsBefore w) targets
  pub no_fault : (fault : ResolveFault) → ¬ Gives w c m (Err fault)

-- the answer on a class, unless memory runs out
abbrev pub AnswersIn : World → ℕ → MemberId → Result (List MemberId) ResolveFault → Type 0
AnswersIn w c m (Ok targets) = AreTargets w c m targets
AnswersIn w c m (Err fault) = fault ≢ Memory → IsFirstFault w c m fault

abbrev pub Answers : World → Option ℕ → MemberId → Result (List MemberId) ResolveFault → Type 0
Answers w None m (Ok targets) = ⊥
Answers w None m (Err fault) = fault ≢ Memory → fault ≡ MissingClass
Answers w (Some c) m answer = AnswersIn w c m answer
