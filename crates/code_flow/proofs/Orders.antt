-- By the numbers of components each method stands behind those that it calls.
use Rattle.std.proofs.Common.{◌≡◌, inl, inr, ℕ, ◌+◌, ◌<◌, ◌≤◌, Bool, true, List, [], ◌∷◌, ◌++◌, map, length, take, get_or, Option, Some, None, arith, refl, sym, ap, subst, ◌∙◌}
use Rattle.std.specs.Prelude.{slice_get, slice_index, Contains, option_map, ◌==◌}
use Rattle.std.specs.List.Sorted.{IsPermutation, IsNonDecreasingBy}
use Rattle.std.proofs.lemmas.Bool.{cases_lt, eq-eqb}
use Rattle.std.proofs.lemmas.List.{length-append, length-map}
use Rattle.std.proofs.lemmas.List.Elements.{All-nil, All-push, All-weaker, recursion_from_All, Contains-append_left, Contains-append_right}
use Rattle.std.proofs.lemmas.List.Sorted.{length_permutation, All-permutation, Contains-permutation}
use Rattle.std.proofs.lemmas.Option.{slice_get-map, slice_get-get_or, get_or_from_slice_get, slice_get_within}
use Rattle.common_laws.proofs.Members.{contains_head}
use Rattle.world.specs.declared.member.MemberId.{MemberId}
use Rattle.class_hierarchy.specs.World.{World}
use Rattle.code_flow.specs.declared.checking.Check.{Check}
use Rattle.code_flow.specs.declared.checking.Check.TheVariants.{Over, Back}
use Rattle.code_flow.specs.Plans.{Plan}
use Rattle.code_flow.specs.declared.scanning.Scan.{Scan}
use Rattle.code_flow.specs.Listing.{most_methods, is_among, reached}
use Rattle.code_flow.specs.Flow.{first_fault, planned}
use Rattle.code_flow.specs.Program.{Calls, IsCalleesFirst}
use Rattle.code_flow.specs.Scanned.{planned_by, IsListed}
use Rattle.code_flow.specs.Checking.{checked_scan, first_from}
use Rattle.code_flow.specs.Returning.{TellsBack, IsCheck}
use Rattle.code_flow.specs.CalleeOrder.{AreBelow, IsByNumber}
use Rattle.code_flow.proofs.ReachedLaws.{reached_looked}
use Rattle.code_flow.proofs.FaultLaws.{fault_at, not_back, place_callee, few_without_fault}
use Rattle.code_flow.proofs.ProgramLaws.{planned_method, call_place, answered, no_fault}
use Rattle.code_flow.proofs.Backs.{at_place}
use Rattle.code_flow.proofs.Checks.{fault_is, flow_gives}

-- ---- all nodes

pub below_none : (nodes : List ℕ) → nodes ≡ [] → AreBelow 0 nodes
below_none nodes e =
    let none : AreBelow 0 [] = record { count = refl; inside = All-nil (λ k. k < 0); all = λ k lt. absurd (omega (arith, lt)) } in
    subst (λ l. AreBelow 0 l) (sym e) none

pub below_more : (k : ℕ) (nodes : List ℕ) → AreBelow k nodes → AreBelow (k + 1) (nodes ++ k ∷ [])
below_more k nodes h = record {
  count = length-append nodes (k ∷ []) ∙ ap (λ n. n + 1) h.count;
  inside = All-push (λ j. j < k + 1) nodes k (All-weaker (λ j. j < k) (λ j. j < k + 1) (λ j lt. omega (arith, lt)) nodes h.inside) (omega arith);
  all = λ j lt.
      elim (cases_lt j k) [
        | inl less ↦ Contains-append_left nodes (k ∷ []) j (h.all j less)
        | inr ge ↦
            let same : k ≡ j = omega (arith, ge, lt) in
            Contains-append_right nodes (k ∷ []) j (subst (λ x. Contains (k ∷ []) x) same (contains_head k []))
      ];
}

pub by_number : (numbers nodes order : List ℕ) → AreBelow (length numbers) nodes → IsPermutation nodes order → IsNonDecreasingBy (λ k. slice_index numbers k) order → IsByNumber numbers order
by_number numbers nodes order h p rising = record {
  nodes = record {
    count = length_permutation nodes order p ∙ h.count;
    inside = All-permutation (λ k. k < length numbers) nodes order p h.inside;
    all = λ k lt. Contains-permutation nodes order k p (h.all k lt);
  };
  rising = rising;
}

-- ---- a call

less_of : (a b : ℕ) (u : Bool) → (a == b) ≡ u → (u ≡ true → ⊥) → b ≤ a → b < a
less_of a b u e not_so le =
    elim (cases_lt b a) [
      | inl lt ↦ lt
      | inr ge ↦ let same : a ≡ b = omega (arith, le, ge) in absurd (not_so (sym e ∙ eq-eqb a b same))
    ]

before_of : (numbers order : List ℕ) (i q k j : ℕ) → IsNonDecreasingBy (λ x. slice_index numbers x) order → slice_get order i ≡ Some k → q < length order → get_or order q j ≡ j
    → slice_index numbers j < slice_index numbers k → q < i
before_of numbers order i q k j rising at lt there less =
    elim (cases_lt q i) [
      | inl l ↦ l
      | inr ge ↦
          let le : slice_index numbers (get_or order i j) ≤ slice_index numbers (get_or order q j) = rising i q j ge lt in
          let one : slice_index numbers (get_or order i j) ≡ slice_index numbers k = ap (λ x. slice_index numbers x) (get_or_from_slice_get order i k j at) in
          let other : slice_index numbers (get_or order q j) ≡ slice_index numbers j = ap (λ x. slice_index numbers x) there in
          absurd (omega (arith, le, one, other, less))
    ]

some_at : (w : World) (o : Option MemberId) (r : Plan) → option_map (planned w) o ≡ Some r → o ≡ Some r.method
some_at w None r h = absurd cc
some_at w (Some x) r h =
    let same : planned w x ≡ r = cc in
    let method : x ≡ r.method = sym (planned_method w x) ∙ ap (λ (y : Plan). y.method) same in
    ap Some method

module _ (w : World) (ms : List MemberId) (none : first_fault w None ms ≡ None) (numbers order : List ℕ) (tells : TellsBack w ms numbers) (by : IsByNumber numbers order) where
  same_count : length (map (planned w) ms) ≡ length numbers
  same_count = length-map ms (planned w) ∙ sym tells.count

  goes_once : (x t : MemberId) → Calls (map (planned w) ms) x t → is_among (reached w t) x ≡ true → ⊥
  goes_once x t c back =
      let at = call_place w ms x t c in
      not_back w x t at.1.0.pc at.1.0.verdict (fault_at w None ms x at.1.0 none at.0 at.1.1) at.1.2 back

  callee_before : (i k : ℕ) (r : Plan) (t : MemberId) → slice_get order i ≡ Some k → slice_get (map (planned w) ms) k ≡ Some r → Calls (map (planned w) ms) r.method t
      → (j : ℕ) × (l : ℕ) × (c : Plan) × (j < i) × (slice_get order j ≡ Some l) × (slice_get (map (planned w) ms) l ≡ Some c) × (c.method ≡ t)
  callee_before i k r t at_i at_k c =
      let here : slice_get ms k ≡ Some r.method = some_at w (slice_get ms k) r (sym (slice_get-map (planned w) ms k) ∙ at_k) in
      let call = call_place w ms r.method t c in
      let b = tells.back k r.method t here (place_callee w r.method t call.1.0 call.1.1 call.1.2) in
      let less : slice_index numbers b.0 < slice_index numbers k = less_of (slice_index numbers k) (slice_index numbers b.0) (is_among (reached w t) r.method) b.3 (goes_once r.method t c) b.4 in
      let q = by.nodes.all b.0 (subst (λ n. b.0 < n) (sym tells.count) b.1) in (
        q.0,
        b.0,
        planned w t,
        before_of numbers order i q.0 k b.0 by.rising at_i q.1 q.2 less,
        slice_get-get_or order q.0 b.0 q.1 ∙ ap Some q.2,
        slice_get-map (planned w) ms b.0 ∙ ap (λ (o : Option MemberId). option_map (planned w) o) (at_place ms t b.0 b.2),
        planned_method w t,
      )

  pub callees_first : IsCalleesFirst (map (planned w) ms) order
  callees_first = record {
    count = by.nodes.count ∙ sym same_count;
    inside = recursion_from_All (λ k. k < length (map (planned w) ms)) order
        (All-weaker (λ k. k < length numbers) (λ k. k < length (map (planned w) ms)) (λ k lt. subst (λ n. k < n) (sym same_count) lt) order by.nodes.inside);
    all = λ k lt. by.nodes.all k (subst (λ n. k < n) same_count lt);
    first = callee_before;
  }

-- ---- where no fault was found

over_is : (w : World) (m : MemberId) (ms : List MemberId) (scans : List Scan) (over : MemberId) → IsListed w m ms scans → IsCheck w ms (slice_get ms most_methods) (Over over)
    → None ≡ first_from (checked_scan (Over over) ms) 0 scans → ⊥
over_is w m ms scans over h ch e =
    let none : first_fault w (slice_get (reached w m) most_methods) (take most_methods (reached w m)) ≡ None = sym (fault_is w m ms scans (Over over) h ch) ∙ sym e in
    let few : length (reached w m) ≤ most_methods = few_without_fault most_methods (omega arith) w m (reached w m) (reached_looked w m) none in
    let short : length ms ≤ most_methods = subst (λ l. length l ≤ most_methods) (sym h.whole) few in
    let past : most_methods < length ms = slice_get_within ms most_methods over ch in
    omega (arith, short, past)

pub never_over : (w : World) (m : MemberId) (ms : List MemberId) (scans : List Scan) (check : Check) (over : MemberId) → check ≡ Over over → IsListed w m ms scans → IsCheck w ms (slice_get ms most_methods) check
    → None ≡ first_from (checked_scan check ms) 0 scans → ⊥
never_over w m ms scans check over is h ch e =
    over_is w m ms scans over h (subst (λ k. IsCheck w ms (slice_get ms most_methods) k) is ch) (e ∙ ap (λ k. first_from (checked_scan k ms) 0 scans) is)

ordered_by : (w : World) (m : MemberId) (ms : List MemberId) (scans : List Scan) (numbers order : List ℕ) (methods : List Plan) → IsListed w m ms scans → IsCheck w ms (slice_get ms most_methods) (Back numbers)
    → None ≡ first_from (checked_scan (Back numbers) ms) 0 scans → methods ≡ map planned_by scans → IsByNumber numbers order → IsCalleesFirst methods order
ordered_by w m ms scans numbers order methods h ch e made by =
    let gives = flow_gives w m ms scans (Back numbers) methods h ch e made in
    let parts = answered methods (map (planned w) (reached w m)) (first_fault w (slice_get (reached w m) most_methods) (take most_methods (reached w m))) gives in
    let tells : TellsBack w (reached w m) numbers = subst (λ l. TellsBack w l numbers) h.whole ch.1 in
    let none : first_fault w None (reached w m) ≡ None = no_fault most_methods w (reached w m) tells.few parts.0 in
    subst (λ p. IsCalleesFirst p order) parts.1 (callees_first w (reached w m) none numbers order tells by)

pub ordered : (w : World) (m : MemberId) (ms : List MemberId) (scans : List Scan) (check : Check) (numbers order : List ℕ) (methods : List Plan) → check ≡ Back numbers → IsListed w m ms scans → IsCheck w ms (slice_get ms most_methods) check
    → None ≡ first_from (checked_scan check ms) 0 scans → methods ≡ map planned_by scans → IsByNumber numbers order → IsCalleesFirst methods order
ordered w m ms scans check numbers order methods is h ch e made by =
    ordered_by w m ms scans numbers order methods h (subst (λ k. IsCheck w ms (slice_get ms most_methods) k) is ch) (e ∙ ap (λ k. first_from (checked_scan k ms) 0 scans) is) made by
