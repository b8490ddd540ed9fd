-- The fault that is answered is the first one.
use Rattle.std.proofs.Common.{◌≡◌, ◌↔◌, ℕ, zero, suc, ◌<◌, Bool, true, false, List, [], ◌∷◌, take, map, Option, Some, None, Ok, Err, arith, refl, sym, ap, ◌∙◌}
use Rattle.std.specs.Prelude.{Contains, slice_get, Result}
use Rattle.std.specs.Option.{option_or}
use Rattle.std.proofs.lemmas.Option.{slice_get_within}
use Rattle.common_laws.proofs.Members.{contains_head, contains_tail}
use Rattle.class_pool.specs.declared.target.Target.{Target}
use Rattle.op_table.specs.declared.construct.Construct.{Construct}
use Rattle.op_table.specs.declared.construct.Construct.TheVariants.{Later}
use Rattle.world.specs.declared.member.MemberId.{MemberId}
use Rattle.class_hierarchy.specs.World.{World}
use Rattle.code_flow.specs.declared.fault.FlowFault.{FlowFault}
use Rattle.code_flow.specs.declared.fault.FlowFault.TheVariants.{Unsupported, TooManyMethods}
use Rattle.code_flow.specs.Plans.{Plan}
use Rattle.code_flow.specs.Judging.{Judged, places_of}
use Rattle.code_flow.specs.Listing.{most_methods, reached}
use Rattle.code_flow.specs.Flow.{method_named, lead_back, fault_if, fault_of, first_of, first_in, first_fault, planned, unless, flow_at, flow_of}
use Rattle.code_flow.specs.Faults.{ground, IsFirstFault, AreTooMany}
use Rattle.code_flow.proofs.Mapped.{none_of}
use Rattle.code_flow.proofs.ReachedLaws.{reached_looked}

-- ---- the first answer for a list

-- a thing of the list has the answer, and those before it have none
record IsFirstOf {A B : Type 0} (f : A → Option B) (xs : List A) (b : B) : Type 0 where
  place : ℕ
  at : A
  stands : slice_get xs place ≡ Some at
  answers : f at ≡ Some b
  before : (k : ℕ) (a : A) → k < place → slice_get xs k ≡ Some a → f a ≡ None

module _ {A B : Type 0} (f : A → Option B) where
  before_more : (x : A) (xs : List A) (n : ℕ) → f x ≡ None → ((k : ℕ) (a : A) → k < n → slice_get xs k ≡ Some a → f a ≡ None)
      → (k : ℕ) (a : A) → k < suc n → slice_get (x ∷ xs) k ≡ Some a → f a ≡ None
  before_more x xs n none h zero a lt at = let e : x ≡ a = cc in ap f (sym e) ∙ none
  before_more x xs n none h (suc k) a lt at = h k a (omega arith) at

  later_first : (x : A) (xs : List A) (b : B) → f x ≡ None → IsFirstOf f xs b → IsFirstOf f (x ∷ xs) b
  later_first x xs b none h = record {
    place = suc h.place;
    at = h.at;
    stands = h.stands;
    answers = h.answers;
    before = before_more x xs h.place none h.before;
  }

  here_first : (x : A) (xs : List A) (b : B) → f x ≡ Some b → IsFirstOf f (x ∷ xs) b
  here_first x xs b e = record { place = 0; at = x; stands = refl; answers = e; before = λ k a lt at. absurd (omega arith) }

  by_answer : (x : A) (xs : List A) (b : B) (o : Option B) → f x ≡ o → ((b : B) → first_of f xs ≡ Some b → IsFirstOf f xs b) → option_or o (first_of f xs) ≡ Some b → IsFirstOf f (x ∷ xs) b
  by_answer x xs b (Some c) e others h = let same : c ≡ b = cc in here_first x xs b (e ∙ ap (λ (d : B). Some d) same)
  by_answer x xs b None e others h = later_first x xs b e (others b h)

  -- what is answered is the first answer
  is_first : (xs : List A) (b : B) → first_of f xs ≡ Some b → IsFirstOf f xs b
  unfolding first_of
  is_first [] b h = absurd cc
  is_first (x ∷ xs) b h = by_answer x xs b (f x) refl (λ c e. is_first xs c e) h

  -- and the first answer is answered
  first_is : (xs : List A) (n : ℕ) (at : A) (b : B) → slice_get xs n ≡ Some at → f at ≡ Some b → ((k : ℕ) (a : A) → k < n → slice_get xs k ≡ Some a → f a ≡ None) → first_of f xs ≡ Some b
  unfolding first_of
  first_is [] n at b stands answers before = absurd cc
  first_is (x ∷ xs) zero at b stands answers before = let e : x ≡ at = cc in ap (λ o. option_or o (first_of f xs)) (ap f e ∙ answers)
  first_is (x ∷ xs) (suc n) at b stands answers before =
      ap (λ o. option_or o (first_of f xs)) (before 0 x (omega arith) refl)
      ∙ first_is xs n at b stands answers (λ k a lt there. before (suc k) a (omega arith) there)

  -- where nothing of the list has an answer there is none
  no_first : (xs : List A) → ((a : A) → Contains xs a → f a ≡ None) → first_of f xs ≡ None
  unfolding first_of
  no_first [] h = refl
  no_first (x ∷ xs) h = ap (λ o. option_or o (first_of f xs)) (h x (contains_head x xs)) ∙ no_first xs (λ a there. h a (contains_tail x xs a there))

-- ---- the first of the methods

-- the first ones of a list
get_front : {A : Type 0} (n : ℕ) (xs : List A) (k : ℕ) (x : A) → k < n → slice_get xs k ≡ Some x → slice_get (take n xs) k ≡ Some x
get_front zero xs k x lt at = absurd (omega arith)
get_front (suc n) [] k x lt at = at
get_front (suc n) (y ∷ xs) zero x lt at = at
get_front (suc n) (y ∷ xs) (suc k) x lt at = get_front n xs k x (omega arith) at

from_front : {A : Type 0} (n : ℕ) (xs : List A) (k : ℕ) (x : A) → slice_get (take n xs) k ≡ Some x → (k < n) × (slice_get xs k ≡ Some x)
from_front zero xs k x at = let e : None ≡ Some x = at in absurd cc
from_front (suc n) [] k x at = let e : None ≡ Some x = at in absurd cc
from_front (suc n) (y ∷ xs) zero x at = (omega arith, at)
from_front (suc n) (y ∷ xs) (suc k) x at = let rest = from_front n xs k x at in (omega (arith, rest.0), rest.1)

module _ (w : World) (m : MemberId) where
  abbrev over : Option MemberId
  over = slice_get (reached w m) most_methods

  method_fault : (fault : FlowFault) → first_fault w over (take most_methods (reached w m)) ≡ Some fault → IsFirstFault w m fault
  unfolding first_fault
  method_fault fault h =
      let n = is_first (first_in w over) (take most_methods (reached w m)) fault h in
      let there = from_front most_methods (reached w m) n.place n.at n.stands in
      let p = is_first (λ (place : Judged). ground w m n.at place) (places_of w n.at) fault n.answers in
      record {
        number = n.place;
        method = n.at;
        analysed = there.0;
        listed = there.1;
        place = p.place;
        judged = p.at;
        stands = p.stands;
        grounded = p.answers;
        first_place = p.before;
        first_method = λ k o other lt listed inside.
            none_of (λ (place : Judged). ground w m o place) (places_of w o)
            (n.before k o lt (get_front most_methods (reached w m) k o (let few = there.0 in omega arith) listed)) other inside;
      }

  fault_answered : (fault : FlowFault) → IsFirstFault w m fault → first_fault w over (take most_methods (reached w m)) ≡ Some fault
  unfolding first_fault
  fault_answered fault h =
      first_is (first_in w over) (take most_methods (reached w m)) h.number h.method fault
      (get_front most_methods (reached w m) h.number h.method h.analysed h.listed)
      (first_is (λ (place : Judged). ground w m h.method place) (places_of w h.method) h.place h.judged fault h.stands h.grounded h.first_place)
      (λ k o lt listed.
      no_first (λ (place : Judged). ground w m o place) (places_of w o) (λ other inside. h.first_method k o other lt (from_front most_methods (reached w m) k o listed).1 inside))

-- ---- what is answered

unless_err : (program : List Plan) (found : Option FlowFault) (fault : FlowFault) → unless program found ≡ Err fault → found ≡ Some fault
unless_err program None fault h = absurd cc
unless_err program (Some f) fault h = let e : f ≡ fault = cc in ap (λ (x : FlowFault). Some x) e

answered : (w : World) (target : Target) (m : MemberId) → method_named w target ≡ Some m
    → flow_of w target ≡ unless (map (planned w) (reached w m)) (first_fault w (slice_get (reached w m) most_methods) (take most_methods (reached w m)))
unfolding flow_of
answered w target m named = ap (λ o. flow_at w o) named

pub faults_first : (w : World) (target : Target) (m : MemberId) (fault : FlowFault) → method_named w target ≡ Some m → flow_of w target ≡ Err fault ↔ IsFirstFault w m fault
faults_first w target m fault named = (
  λ h.
      method_fault w m fault
      (unless_err (map (planned w) (reached w m)) (first_fault w (slice_get (reached w m) most_methods) (take most_methods (reached w m))) fault (sym (answered w target m named) ∙ h)),
  λ h. answered w target m named ∙ ap (λ o. unless (map (planned w) (reached w m)) o) (fault_answered w m fault h),
)

-- ---- too many

if_many : (b : Bool) (m : MemberId) (pc : ℕ) → fault_if b (Unsupported m pc Later) ≡ Some TooManyMethods → ⊥
if_many true m pc h = absurd cc
if_many false m pc h = absurd cc

-- it is answered only where there is a method that is too many
over_there : (w : World) (over : Option MemberId) (n : MemberId) (pc : ℕ) (verdict : Result (List MemberId) Construct) → fault_of w over n pc verdict ≡ Some TooManyMethods
    → (first : MemberId) × (over ≡ Some first)
over_there w over n pc (Err construct) h = absurd cc
over_there w None n pc (Ok ts) h = absurd (if_many (lead_back w n ts) n pc h)
over_there w (Some first) n pc (Ok ts) h = (first, refl)

pub too_many : (w : World) (target : Target) (m : MemberId) → method_named w target ≡ Some m → flow_of w target ≡ Err TooManyMethods → AreTooMany w m
too_many w target m named h =
    let first = (faults_first w target m TooManyMethods named).0 h in
    let over = over_there w (slice_get (reached w m) most_methods) first.method first.judged.pc first.judged.verdict first.grounded in
    record {
      many = slice_get_within (reached w m) most_methods over.0 over.1;
      once = (reached_looked w m).looked.once;
      sound = (reached_looked w m).looked.sound;
    }
