-- What is known of the code that a method reaches.
use Rattle.std.specs.Prelude.{◌≡◌, ℕ, ◌<◌, ◌≤◌, ◌⊎◌, List, ◌∷◌, length, map, flat_map, take, Some, Ok, Contains, All, AllPairs, slice_get}
use Rattle.std.specs.List.{AllByRecursion}
use Rattle.class_pool.specs.declared.target.Target.{Target}
use Rattle.world.specs.declared.member.MemberId.{MemberId}
use Rattle.class_hierarchy.specs.World.{World}
use Rattle.code_flow.specs.declared.program.Reached.{Reached}
use Rattle.code_flow.specs.Plans.{Planned, Plan, plans_of}
use Rattle.code_flow.specs.Judging.{Judged, places_of}
use Rattle.code_flow.specs.Listing.{Leads, most_methods, callees, distinct, reached}
use Rattle.code_flow.specs.Flow.{method_named, planned, flow_of}

-- no construct stands at the place
abbrev pub IsFree : Judged → Type 0
IsFree place = (ts : List MemberId) × (place.verdict ≡ Ok ts)

-- nor at any place of the method
abbrev pub HasNoConstruct : World → MemberId → Type 0
HasNoConstruct w m = AllByRecursion IsFree (places_of w m)

-- a method of the program calls another one at some instruction
pub record Calls (program : List Plan) (m t : MemberId) : Type 0 where
  pub caller : Plan
  pub listed : Contains program caller
  pub is_caller : caller.method ≡ m
  pub instruction : Planned
  pub stands : Contains caller.instructions instruction
  pub calls : Contains instruction.targets t

-- one or more calls lead from a method to another
pub data CallsLead (program : List Plan) : MemberId → MemberId → Type 0 where
  once : {m t : MemberId} → Calls program m t → CallsLead program m t
  through : {m t u : MemberId} → Calls program m t → CallsLead program t u → CallsLead program m u

-- The program of the method m: it is the first, all that is called is listed, each method once and with its own
-- instructions, nothing stands against it, and no call leads back to its method.
pub record IsProgram (w : World) (m : MemberId) (program : List Plan) : Type 0 where
  pub start : slice_get program 0 ≡ Some (planned w m)
  pub once : AllPairs (λ a b. ¬ (a.method ≡ b.method)) program
  pub own : (r : Plan) → Contains program r → r ≡ planned w r.method
  pub free : (r : Plan) → Contains program r → HasNoConstruct w r.method
  pub closed : (m t : MemberId) → Calls program m t → Contains (map (λ r. r.method) program) t
  pub no_return : (m : MemberId) → ¬ CallsLead program m m
  pub few : length program ≤ most_methods

-- What the type of a program keeps: each method is there once, with the methods that each of its instructions can call, and
-- these are there. They are not more than are analysed.
pub record AreWhole (methods : List Reached) : Type 0 where
  pub once : AllPairs (λ a b. ¬ (a.method ≡ b.method)) (plans_of methods)
  pub counts : All (λ r. length r.targets ≡ length r.body.instructions) methods
  pub closed : (m t : MemberId) → Calls (plans_of methods) m t → Contains (map (λ p. p.method) (plans_of methods)) t
  pub few : length methods ≤ most_methods

-- ---- the laws

-- what is answered is a program
abbrev pub FlowsArePrograms : Type 0
FlowsArePrograms =
    (w : World) (target : Target) (m : MemberId) (program : List Plan)
    → method_named w target ≡ Some m → flow_of w target ≡ Ok program → IsProgram w m program

-- where the listed methods are not more than are analysed, they are those that calls lead to
pub record IsListing (w : World) (m : MemberId) (ms : List MemberId) : Type 0 where
  pub begins : slice_get ms 0 ≡ Some m
  pub sound : (t : MemberId) → Contains ms t → (t ≡ m) ⊎ Leads w m t
  pub whole : (t : MemberId) → Leads w m t → Contains ms t
  pub once : AllPairs (λ a b. ¬ (a ≡ b)) ms

abbrev pub ListedAreReached : Type 0
ListedAreReached = (w : World) (m : MemberId) → length (reached w m) ≤ most_methods → IsListing w m (reached w m)

-- The listed methods are in order: the method, then those that the first one calls, then those that the second one calls,
-- and so on for as many as are analysed, each where it stands first.
abbrev pub ListedInOrder : Type 0
ListedInOrder = (w : World) (m : MemberId) → reached w m ≡ distinct (m ∷ flat_map (callees w) (take most_methods (reached w m)))

-- ---- an order for what is found from callees up

-- all methods of the program by their numbers, each behind those that it calls
pub record IsCalleesFirst (program : List Plan) (order : List ℕ) : Type 0 where
  pub count : length order ≡ length program
  pub inside : AllByRecursion (λ k. k < length program) order
  pub all : (k : ℕ) → k < length program → Contains order k
  pub first :
      (i k : ℕ) (r : Plan) (t : MemberId) → slice_get order i ≡ Some k → slice_get program k ≡ Some r → Calls program r.method t
      → (j : ℕ) × (l : ℕ) × (c : Plan) × (j < i) × (slice_get order j ≡ Some l) × (slice_get program l ≡ Some c) × (c.method ≡ t)
