-- What is known of what stands against a program.
use Rattle.std.specs.Prelude.{◌≡◌, ◌↔◌, ◌⊎◌, ℕ, ◌<◌, length, Option, Some, None, Err, slice_get, Contains, AllPairs}
use Rattle.class_pool.specs.declared.target.Target.{Target}
use Rattle.world.specs.declared.member.MemberId.{MemberId}
use Rattle.class_hierarchy.specs.World.{World}
use Rattle.world.specs.Tables.{HasMethod}
use Rattle.code_flow.specs.declared.fault.FlowFault.{FlowFault}
use Rattle.code_flow.specs.declared.fault.FlowFault.TheVariants.{NoMethod, Unsupported, TooManyMethods, Memory}
use Rattle.code_flow.specs.Judging.{Judged, places_of}
use Rattle.code_flow.specs.Listing.{Leads, most_methods, reached}
use Rattle.code_flow.specs.Flow.{method_named, fault_of, flow_of}

-- ---- a fault has a ground

-- There is no method of the name; or a construct stands in a method of the world. Want of memory is no fault of code.
abbrev pub IsFounded : World → Target → FlowFault → Type 0
IsFounded w target NoMethod = method_named w target ≡ None
IsFounded w target (Unsupported m pc construct) = HasMethod w m
IsFounded w target TooManyMethods = Unit {0}
IsFounded w target Memory = ⊥

-- the law
abbrev pub FaultsAreFounded : Type 0
FaultsAreFounded = (w : World) (target : Target) (fault : FlowFault) → flow_of w target ≡ Err fault → IsFounded w target fault

-- ---- it is the first one

-- what stands against a place, where m is asked for and n has the place: a construct, a call of the first method that is
-- too many, or else a call that leads back
abbrev pub ground : World → MemberId → MemberId → Judged → Option FlowFault
ground w m n place = fault_of w (slice_get (reached w m) most_methods) n place.pc place.verdict

-- The fault has its ground at a place of one of the methods that are analysed. Nothing stands against an earlier place of
-- that method, nor against a place of an earlier method.
pub record IsFirstFault (w : World) (m : MemberId) (fault : FlowFault) : Type 0 where
  pub number : ℕ
  pub method : MemberId
  pub analysed : number < most_methods
  pub listed : slice_get (reached w m) number ≡ Some method
  pub place : ℕ
  pub judged : Judged
  pub stands : slice_get (places_of w method) place ≡ Some judged
  pub grounded : ground w m method judged ≡ Some fault
  pub first_place : (k : ℕ) (other : Judged) → k < place → slice_get (places_of w method) k ≡ Some other → ground w m method other ≡ None
  pub first_method :
      (k : ℕ) (n : MemberId) (other : Judged) → k < number → slice_get (reached w m) k ≡ Some n → Contains (places_of w n) other
      → ground w m n other ≡ None

-- where there is a method, what is answered in place of a program is exactly the first fault
abbrev pub FaultsAreFirst : Type 0
FaultsAreFirst =
    (w : World) (target : Target) (m : MemberId) (fault : FlowFault) → method_named w target ≡ Some m → flow_of w target ≡ Err fault ↔ IsFirstFault w m fault

-- More methods are listed than are analysed, none of them twice, and calls lead to each.
pub record AreTooMany (w : World) (m : MemberId) : Type 0 where
  pub many : most_methods < length (reached w m)
  pub once : AllPairs (λ a b. ¬ (a ≡ b)) (reached w m)
  pub sound : (t : MemberId) → Contains (reached w m) t → (t ≡ m) ⊎ Leads w m t

-- that is so where it is answered
abbrev pub TooManyAreMany : Type 0
TooManyAreMany =
    (w : World) (target : Target) (m : MemberId) → method_named w target ≡ Some m → flow_of w target ≡ Err TooManyMethods → AreTooMany w m
