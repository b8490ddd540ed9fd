-- What is known where no fault stands at the places of the methods that are listed.
use Rattle.std.proofs.Common.{◌≡◌, inl, inr, ℕ, ◌<◌, ◌≤◌, Bool, true, false, List, ◌++◌, length, take, get_or, map, Option, Some, None, Result, Ok, Err, arith, refl, sym, ap, ◌∙◌}
use Rattle.std.specs.Prelude.{Contains, slice_get, option_and_then}
use Rattle.std.proofs.lemmas.List.{get_or_default}
use Rattle.std.proofs.lemmas.Option.{get_or_from_slice_get, slice_get_within}
use Rattle.std.proofs.lemmas.List.Elements.{Contains-append_left, Contains-append_right}
use Rattle.common_laws.proofs.Parts.{in_take}
use Rattle.common_laws.proofs.Tests.{any_in}
use Rattle.common_laws.proofs.Members.{contains_none, in_map, from_map, in_flat, from_flat}
use Rattle.class_reader.specs.declared.class.Method.{Method}
use Rattle.class_reader.specs.declared.class.Code.{Code}
use Rattle.op_table.specs.declared.construct.Construct.{Construct}
use Rattle.op_table.specs.declared.construct.Construct.TheVariants.{Later}
use Rattle.world.specs.declared.member.MemberId.{MemberId}
use Rattle.class_hierarchy.specs.World.{World}
use Rattle.linking.specs.Methods.{method_at}
use Rattle.code_flow.specs.declared.fault.FlowFault.{FlowFault}
use Rattle.code_flow.specs.declared.fault.FlowFault.TheVariants.{Unsupported, TooManyMethods}
use Rattle.code_flow.specs.Plans.{Planned}
use Rattle.code_blocks.specs.Placing.{placed, broken}
use Rattle.code_flow.specs.Judging.{Judged, judged_place, places_in, places_at, places_of, against_method, against_break}
use Rattle.code_flow.specs.Listing.{is_among, targets_in, targets_at, callees, reached}
use Rattle.code_flow.specs.Flow.{lead_back, fault_if, fault_of, first_in, first_fault, planned_place, planned_in, planned}
use Rattle.code_flow.proofs.Members.{listed_among}
use Rattle.code_flow.proofs.Mapped.{none_of}
use Rattle.code_flow.proofs.ReachedLaws.{IsLookedUpTo, past_end}

-- ---- a place

-- no construct stands where no fault is
pub free_of : (w : World) (over : Option MemberId) (m : MemberId) (pc : ℕ) (verdict : Result (List MemberId) Construct) → fault_of w over m pc verdict ≡ None → (ts : List MemberId) × (verdict ≡ Ok ts)
free_of w over m pc (Ok ts) none = (ts, refl)
free_of w over m pc (Err construct) none = absurd cc

no_fault_if : (b : Bool) (fault : FlowFault) → fault_if b fault ≡ None → b ≡ true → ⊥
no_fault_if true fault none there = absurd cc
no_fault_if false fault none there = absurd cc

-- the method that is too many isn't called there
pub not_over : (w : World) (over m : MemberId) (pc : ℕ) (verdict : Result (List MemberId) Construct) → fault_of w (Some over) m pc verdict ≡ None → Contains (targets_in verdict) over → ⊥
not_over w over m pc (Err construct) none h = contains_none over h
not_over w over m pc (Ok ts) none h = no_fault_if (is_among ts over) TooManyMethods none (listed_among ts over h)

-- no call leads back from there
pub not_back : (w : World) (m t : MemberId) (pc : ℕ) (verdict : Result (List MemberId) Construct) → fault_of w None m pc verdict ≡ None → Contains (targets_in verdict) t → is_among (reached w t) m ≡ true → ⊥
not_back w m t pc (Err construct) none h back = contains_none t h
not_back w m t pc (Ok ts) none h back =
    no_fault_if (lead_back w m ts) (Unsupported m pc Later) none (any_in (λ u. is_among (reached w u) m) ts t h back)

-- ---- a method

-- where no fault comes first, none stands at a place
pub fault_at : (w : World) (over : Option MemberId) (ms : List MemberId) (m : MemberId) (place : Judged) → first_fault w over ms ≡ None → Contains ms m → Contains (places_of w m) place → fault_of w over m place.pc place.verdict ≡ None
unfolding first_fault
fault_at w over ms m place none listed stands =
    none_of (λ (p : Judged). fault_of w over m p.pc p.verdict) (places_of w m) (none_of (first_in w over) ms none m listed) place stands

-- what is called is called at some place
pub callee_place : (w : World) (m t : MemberId) → Contains (callees w m) t → (place : Judged) × Contains (places_of w m) place × Contains (targets_at place) t
unfolding callees
callee_place w m t h = from_flat targets_at (places_of w m) t h

pub place_callee : (w : World) (m t : MemberId) (place : Judged) → Contains (places_of w m) place → Contains (targets_at place) t → Contains (callees w m) t
unfolding callees
place_callee w m t place stands h = in_flat targets_at (places_of w m) place t stands h

-- what the instructions of a method can call is called at their places
at_code : (w : World) (current : ℕ) (method : Method) (code : Option Code) (i : Planned) → Contains (planned_in w current code) i → (place : Judged) × Contains (places_in w current method code) place × (targets_at place ≡ i.targets)
at_code w current method None i h = absurd (contains_none i h)
at_code w current method (Some code) i h =
    let from = from_map (planned_place w current code.bytes) (placed code.bytes) i h in
    let place : Judged = judged_place w current code.bytes from.0 in (
      place,
      Contains-append_left (against_method method code ++ map (judged_place w current code.bytes) (placed code.bytes)) (against_break (broken code.bytes)) place
          (Contains-append_right (against_method method code) (map (judged_place w current code.bytes) (placed code.bytes)) place
          (in_map (judged_place w current code.bytes) (placed code.bytes) from.0 from.1)),
      ap (λ (p : Planned). p.targets) from.2,
    )

at_method : (w : World) (current : ℕ) (method : Option Method) (i : Planned) → Contains (planned_in w current (option_and_then (λ m. m.code) method)) i → (place : Judged) × Contains (places_at w current method) place × (targets_at place ≡ i.targets)
at_method w current None i h = absurd (contains_none i h)
at_method w current (Some method) i h = at_code w current method method.code i h

pub instruction_place : (w : World) (m : MemberId) (i : Planned) → Contains (planned w m).instructions i → (place : Judged) × Contains (places_of w m) place × (targets_at place ≡ i.targets)
unfolding places_of planned
instruction_place w m i h = at_method w m.class (method_at w m) i h

-- ---- all methods

-- where no fault stands, no method is too many: it would be called by one that was looked at
module _ (n : ℕ) (some : 0 < n) (w : World) (m : MemberId) (ms : List MemberId) (l : IsLookedUpTo w m n ms) where
  over_is_called : (over : MemberId) → slice_get ms n ≡ Some over → (i : ℕ) × (i < n) × (i < length ms) × Contains (callees w (get_or ms i over)) over
  over_is_called over h =
      let within = slice_get_within ms n over h in
      let there : get_or ms n over ≡ over = get_or_from_slice_get ms n over over h in
      elim (l.looked.called over (n, within, there)) [
        | inl same ↦
            let first : get_or ms 0 over ≡ m = get_or_from_slice_get ms 0 m over l.looked.begins in
            absurd (l.looked.once 0 n over some within (first ∙ (sym same ∙ sym there)))
        | inr caller ↦ (caller.0, omega (arith, caller.1, l.few), caller.2, caller.3 over)
      ]

  none_over : (over : MemberId) → slice_get ms n ≡ Some over → first_fault w (Some over) (take n ms) ≡ None → ⊥
  none_over over h none =
      let caller = over_is_called over h in
      let x = get_or ms caller.0 over in
      let place = callee_place w (get_or ms caller.0 over) over caller.3 in
      let listed = in_take n caller.0 ms (get_or ms caller.0 over) (slice_get_within ms n over h) caller.1 (get_or_default ms caller.0 (get_or ms caller.0 over) over caller.2) in
      not_over w over (get_or ms caller.0 over) place.0.pc place.0.verdict
      (fault_at w (Some over) (take n ms) (get_or ms caller.0 over) place.0 none listed place.1) place.2

  over_at : (o : Option MemberId) → slice_get ms n ≡ o → first_fault w o (take n ms) ≡ None → o ≡ None
  over_at None h none = refl
  over_at (Some over) h none = absurd (none_over over h none)

  pub few_without_fault : first_fault w (slice_get ms n) (take n ms) ≡ None → length ms ≤ n
  few_without_fault none = past_end ms n (over_at (slice_get ms n) refl none)
