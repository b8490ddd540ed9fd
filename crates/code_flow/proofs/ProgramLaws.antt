-- What is answered is a program.
use Rattle.std.proofs.Common.{◌≡◌, ◌⊎◌, inl, inr, ℕ, ◌<◌, ◌≤◌, List, [], ◌∷◌, length, take, get_or, map, AllPairs, Option, Some, None, Ok, arith, refl, sym, ap, ◌∙◌, subst}
use Rattle.std.specs.Prelude.{Contains, slice_get, option_map}
use Rattle.std.proofs.lemmas.Option.{slice_get_cases}
use Rattle.std.specs.List.{AllByRecursion}
use Rattle.std.proofs.lemmas.List.{get_or-map, length-map, take_all}
use Rattle.std.proofs.lemmas.List.Elements.{recursion_from_All, Contains-get_or}
use Rattle.common_laws.proofs.Members.{in_map, from_map}
use Rattle.class_pool.specs.declared.target.Target.{Target}
use Rattle.world.specs.declared.member.MemberId.{MemberId}
use Rattle.class_hierarchy.specs.World.{World}
use Rattle.code_flow.specs.declared.fault.FlowFault.{FlowFault}
use Rattle.code_flow.specs.Plans.{Plan}
use Rattle.code_flow.specs.Judging.{Judged, places_of}
use Rattle.code_flow.specs.Listing.{most_methods, callees, reached, targets_at, Leads}
use Rattle.code_flow.specs.Listing.Leads.{calls, through as leads_through}
use Rattle.code_flow.specs.Flow.{first_fault, planned, unless, flow_from, flow_at, method_named, flow_of}
use Rattle.code_flow.specs.Program.{IsFree, Calls, CallsLead, IsProgram}
use Rattle.code_flow.specs.Program.CallsLead.{once, through}
use Rattle.code_flow.proofs.Members.{listed_among}
use Rattle.code_flow.proofs.ReachedLaws.{reached_looked, reached_closed, leads_among, listed_from_callee}
use Rattle.code_flow.proofs.FaultLaws.{fault_at, free_of, not_back, instruction_place, place_callee, few_without_fault}

-- ---- the methods and their instructions

pub planned_method : (w : World) (m : MemberId) → (planned w m).method ≡ m
unfolding planned
planned_method w m = refl

-- the methods of the program are the listed ones
pub in_program : (w : World) (ms : List MemberId) (r : Plan) → Contains (map (planned w) ms) r → Contains ms r.method × (r ≡ planned w r.method)
in_program w ms r h =
    let from = from_map (planned w) ms r h in
    let same : from.0 ≡ r.method = sym (planned_method w from.0) ∙ ap (λ (x : Plan). x.method) from.2 in
    (subst (λ (x : MemberId). Contains ms x) same from.1, sym from.2 ∙ ap (λ (x : MemberId). planned w x) same)

pub listed_methods : (w : World) (ms : List MemberId) (t : MemberId) → Contains ms t → Contains (map (λ r. r.method) (map (planned w) ms)) t
listed_methods w ms t h =
    subst (λ (x : MemberId). Contains (map (λ r. r.method) (map (planned w) ms)) x) (planned_method w t)
    (in_map (λ (r : Plan). r.method) (map (planned w) ms) (planned w t) (in_map (planned w) ms t h))

-- a call of the program stands at some place of its method
pub call_place : (w : World) (ms : List MemberId) (m t : MemberId) → Calls (map (planned w) ms) m t → Contains ms m × ((place : Judged) × Contains (places_of w m) place × Contains (targets_at place) t)
call_place w ms m t c =
    let caller = in_program w ms c.caller c.listed in
    let own : c.caller ≡ planned w m = caller.1 ∙ ap (λ (x : MemberId). planned w x) c.is_caller in
    let place = instruction_place w m c.instruction (subst (λ (r : Plan). Contains r.instructions c.instruction) own c.stands) in (
      subst (λ (x : MemberId). Contains ms x) c.is_caller caller.0,
      (place.0, place.1, subst (λ (ts : List MemberId). Contains ts t) (sym place.2) c.calls),
    )

pub call_callee : (w : World) (ms : List MemberId) (m t : MemberId) → Calls (map (planned w) ms) m t → Contains ms m × Contains (callees w m) t
call_callee w ms m t c =
    let at = call_place w ms m t c in
    (at.0, place_callee w m t at.1.0 at.1.1 at.1.2)

pub calls_lead : (w : World) (ms : List MemberId) (m t : MemberId) → CallsLead (map (planned w) ms) m t → Leads w m t
calls_lead w ms m t (once c) = calls (listed_among (callees w m) t (call_callee w ms m t c).1)
calls_lead w ms m t (through {t = x} c more) = leads_through (listed_among (callees w m) x (call_callee w ms m x c).1) (calls_lead w ms x t more)

map_begins : (w : World) (ms : List MemberId) (m : MemberId) → slice_get ms 0 ≡ Some m → slice_get (map (planned w) ms) 0 ≡ Some (planned w m)
map_begins w [] m h = absurd cc
map_begins w (x ∷ ms) m h = ap (λ (o : Option MemberId). option_map (planned w) o) h

map_once : (w : World) (ms : List MemberId) (m : MemberId) → AllPairs (λ (a b : MemberId). ¬ (a ≡ b)) ms → AllPairs (λ (a b : Plan). ¬ (a.method ≡ b.method)) (map (planned w) ms)
map_once w ms m apart i j d lt within same =
    let short : j < length ms = omega (arith, within, length-map ms (planned w)) in
    let one : (get_or (map (planned w) ms) i d).method ≡ get_or ms i m = ap (λ (r : Plan). r.method) (get_or-map (planned w) ms i m d (omega arith)) ∙ planned_method w (get_or ms i m) in
    let other : (get_or (map (planned w) ms) j d).method ≡ get_or ms j m = ap (λ (r : Plan). r.method) (get_or-map (planned w) ms j m d short) ∙ planned_method w (get_or ms j m) in
    apart i j m lt short (sym one ∙ (same ∙ other))

-- ---- where no fault stands

module _ (w : World) (m : MemberId) (few : length (reached w m) ≤ most_methods) (none : first_fault w None (reached w m) ≡ None) where
  pub all_free : (x : MemberId) → Contains (reached w m) x → AllByRecursion IsFree (places_of w x)
  all_free x h =
      recursion_from_All IsFree (places_of w x) (λ k d lt.
      let place = get_or (places_of w x) k d in
      free_of w None x place.pc place.verdict (fault_at w None (reached w m) x place none h (Contains-get_or (places_of w x) k d lt)))

  goes_back : (x t : MemberId) → Calls (map (planned w) (reached w m)) x t → (x ≡ t) ⊎ Leads w t x → ⊥
  goes_back x t c back =
      let at = call_place w (reached w m) x t c in
      let place = at.1.0 in
      let listed = reached_closed w m few x t at.0 (place_callee w x t at.1.0 at.1.1 at.1.2) in
      not_back w x t place.pc place.verdict (fault_at w None (reached w m) x at.1.0 none at.0 at.1.1) at.1.2
      (leads_among w t x (listed_from_callee w m t few listed) back)

  never_back : (x : MemberId) → CallsLead (map (planned w) (reached w m)) x x → ⊥
  never_back x (once c) = goes_back x x c (inl refl)
  never_back x (through {t = t} c more) = goes_back x t c (inr (calls_lead w (reached w m) t x more))

  is_program : IsProgram w m (map (planned w) (reached w m))
  is_program = record {
    start = map_begins w (reached w m) m (reached_looked w m).looked.begins;
    once = map_once w (reached w m) m (reached_looked w m).looked.once;
    own = λ r h. (in_program w (reached w m) r h).1;
    free = λ r h. all_free r.method (in_program w (reached w m) r h).0;
    closed = λ x t c.
        let call = call_callee w (reached w m) x t c in
        listed_methods w (reached w m) t (reached_closed w m few x t call.0 call.1);
    no_return = never_back;
    few = omega (arith, few, length-map (reached w m) (planned w));
  }

-- ---- the answer

pub answered : (program made : List Plan) (fault : Option FlowFault) → unless made fault ≡ Ok program → (fault ≡ None) × (made ≡ program)
answered program made None h = (refl, cc)
answered program made (Some fault) h = absurd cc

over_none : (n : ℕ) (ms : List MemberId) → length ms ≤ n → slice_get ms n ≡ None
over_none n ms le =
    elim (slice_get_cases ms n).1 [
      | inl there ↦ let lt = there.1 in absurd (omega arith)
      | inr past ↦ past.1
    ]

pub no_fault : (n : ℕ) (w : World) (ms : List MemberId) → length ms ≤ n → first_fault w (slice_get ms n) (take n ms) ≡ None → first_fault w None ms ≡ None
no_fault n w ms le none =
    ap (λ (l : List MemberId). first_fault w None l) (sym (take_all n ms le))
    ∙ (ap (λ (o : Option MemberId). first_fault w o (take n ms)) (sym (over_none n ms le)) ∙ none)

pub flow_from_is : (w : World) (m : MemberId) (program : List Plan) → flow_from w (reached w m) ≡ Ok program → IsProgram w m program
flow_from_is w m program h =
    let parts = answered program (map (planned w) (reached w m)) (first_fault w (slice_get (reached w m) most_methods) (take most_methods (reached w m))) h in
    let few = few_without_fault most_methods (omega arith) w m (reached w m) (reached_looked w m) parts.0 in
    subst (λ (p : List Plan). IsProgram w m p) parts.1 (is_program w m few (no_fault most_methods w (reached w m) few parts.0))

pub flow_is_program : (w : World) (target : Target) (m : MemberId) (program : List Plan) → method_named w target ≡ Some m → flow_of w target ≡ Ok program → IsProgram w m program
unfolding flow_of
flow_is_program w target m program named h = flow_from_is w m program (ap (λ (o : Option MemberId). flow_at w o) (sym named) ∙ h)
