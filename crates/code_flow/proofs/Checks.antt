-- What is checked is what is defined.
use Rattle.std.proofs.Common.{◌≡◌, ℕ, zero, suc, ◌+◌, ◌<◌, ◌≤◌, Bool, List, [], ◌∷◌, map, length, take, Option, Some, None, Result, Ok, Err, arith, refl, sym, ap, subst, ◌∙◌}
use Rattle.std.specs.Prelude.{slice_get, slice_index_or, Contains, ◌==◌}
use Rattle.std.specs.Option.{option_or}
use Rattle.std.specs.List.{list_any}
use Rattle.std.proofs.lemmas.Bool.{lt-ltb}
use Rattle.std.proofs.lemmas.List.{take_all, length-map}
use Rattle.std.proofs.lemmas.Option.{slice_get_within}
use Rattle.common_laws.proofs.Members.{contains_head, contains_tail, in_flat}
use Rattle.graph_core.specs.Numbers.{AreComponents}
use Rattle.op_table.specs.declared.construct.Construct.{Construct}
use Rattle.op_table.specs.declared.construct.Construct.TheVariants.{Later}
use Rattle.world.specs.declared.member.MemberId.{MemberId}
use Rattle.class_hierarchy.specs.World.{World}
use Rattle.code_flow.specs.declared.checking.Check.{Check}
use Rattle.code_flow.specs.declared.checking.Check.TheVariants.{Over, Back}
use Rattle.code_flow.specs.declared.fault.FlowFault.{FlowFault}
use Rattle.code_flow.specs.declared.fault.FlowFault.TheVariants.{Unsupported}
use Rattle.code_flow.specs.Plans.{Plan}
use Rattle.code_flow.specs.declared.scanning.Scan.{Scan}
use Rattle.code_flow.specs.Listing.{is_among, callees, most_methods, reached, targets_in}
use Rattle.code_flow.specs.Flow.{fault_if, fault_of, first_of, first_in, first_fault, planned, unless, flow_from}
use Rattle.code_flow.specs.Scanning.{scan_of}
use Rattle.code_flow.specs.Scanned.{site_targets, site_fault, unsupported_at, unsupported_opcode, planned_by, IsListed}
use Rattle.code_flow.specs.Returning.{TellsBack, IsCheck, IsGraphTo}
use Rattle.code_flow.specs.Checking.{same_number, same_as, is_back, call_fault, verdict_fault, checked_site, checked_scan, first_from}
use Rattle.code_flow.proofs.Firsts.{of_same, from_of}
use Rattle.code_flow.proofs.ScanLaws.{callees_scanned, fault_scanned, planned_scanned, scan_method}
use Rattle.code_flow.proofs.ReachedLaws.{past_end, reached_looked}
use Rattle.code_flow.proofs.FaultLaws.{few_without_fault}
use Rattle.code_flow.proofs.Backs.{tells_back}

-- ---- a call

same_in : (numbers : List ℕ) (i j : ℕ) → i < length numbers → j < length numbers → same_number numbers i j ≡ (slice_index_or numbers i 0 == slice_index_or numbers j 0)
same_in numbers i j li lj = rw (lt-ltb i (length numbers) li, lt-ltb j (length numbers) lj) refl

back_is : (w : World) (ms : List MemberId) (numbers : List ℕ) (i : ℕ) (m t : MemberId) → TellsBack w ms numbers → slice_get ms i ≡ Some m → Contains (callees w m) t → is_back ms numbers i t ≡ is_among (reached w t) m
back_is w ms numbers i m t tells at c =
    let b = tells.back i m t at c in
    let li : i < length numbers = subst (λ n. i < n) (sym tells.count) (slice_get_within ms i m at) in
    let lj : b.0 < length numbers = subst (λ n. b.0 < n) (sym tells.count) b.1 in
    ap (λ o. same_as numbers i o) b.2 ∙ same_in numbers i b.0 li lj ∙ b.3

any_same : (p q : MemberId → Bool) (ts : List MemberId) → ((t : MemberId) → Contains ts t → p t ≡ q t) → list_any p ts ≡ list_any q ts
any_same p q [] h = refl
any_same p q (t ∷ ts) h = rw (h t (contains_head t ts), any_same p q ts (λ u c. h u (contains_tail t ts u c))) refl

call_is : (w : World) (ms : List MemberId) (over : Option MemberId) (check : Check) (i : ℕ) (m : MemberId) (pc : ℕ) (ts : List MemberId) → IsCheck w ms over check → slice_get ms i ≡ Some m
    → ((t : MemberId) → Contains ts t → Contains (callees w m) t) → call_fault check ms i m pc ts ≡ fault_of w over m pc (Ok ts)
call_is w ms over (Over first) i m pc ts h at inside = rw h refl
call_is w ms over (Back numbers) i m pc ts h at inside =
    rw h.0 (ap (λ b. fault_if b (Unsupported m pc Later)) (any_same (is_back ms numbers i) (λ t. is_among (reached w t) m) ts (λ t c. back_is w ms numbers i m t h.1 at (inside t c))))

verdict_is : (w : World) (ms : List MemberId) (over : Option MemberId) (check : Check) (i : ℕ) (m : MemberId) (pc : ℕ) (verdict : Result (List MemberId) Construct) → IsCheck w ms over check → slice_get ms i ≡ Some m
    → ((t : MemberId) → Contains (targets_in verdict) t → Contains (callees w m) t) → verdict_fault check ms i m pc verdict ≡ fault_of w over m pc verdict
verdict_is w ms over check i m pc (Ok ts) h at inside = call_is w ms over check i m pc ts h at inside
verdict_is w ms over check i m pc (Err construct) h at inside = refl

-- ---- a method

scan_is : (w : World) (ms : List MemberId) (over : Option MemberId) (check : Check) (i : ℕ) (m : MemberId) → IsCheck w ms over check → slice_get ms i ≡ Some m → checked_scan check ms i (scan_of w m) ≡ first_in w over m
scan_is w ms over check i m h at =
    let scan = scan_of w m in
    let own : (scan_of w m).method ≡ m = scan_method w m in
    let here : slice_get ms i ≡ Some (scan_of w m).method = at ∙ ap Some (sym own) in
    let sites : first_of (checked_site check ms i (scan_of w m).method) (scan_of w m).body.sites ≡ first_of (site_fault w over (scan_of w m).method) (scan_of w m).body.sites =
    of_same (checked_site check ms i (scan_of w m).method) (site_fault w over (scan_of w m).method) (scan_of w m).body.sites (λ s c.
    verdict_is w ms over check i (scan_of w m).method s.pc s.verdict h here (λ t d.
    subst (λ x. Contains (callees w x) t) (sym own) (subst (λ l. Contains l t) (sym (callees_scanned w m)) (in_flat site_targets (scan_of w m).body.sites s t c d)))) in
    ap (λ o. option_or (unsupported_at (scan_of w m).method 0 (scan_of w m).against) (option_or o (unsupported_opcode (scan_of w m).method (scan_of w m).body.broken))) sites
    ∙ sym (fault_scanned w over m)

take_gets : (n : ℕ) (ms : List MemberId) (i : ℕ) (m : MemberId) → slice_get (take n ms) i ≡ Some m → slice_get ms i ≡ Some m
take_gets zero ms i m h = absurd cc
take_gets (suc n) [] i m h = absurd cc
take_gets (suc n) (x ∷ ms) zero m h = h
take_gets (suc n) (x ∷ ms) (suc i) m h = take_gets n ms i m h

all_is : (w : World) (n : ℕ) (ms : List MemberId) (over : Option MemberId) (check : Check) → IsCheck w ms over check → first_from (checked_scan check ms) 0 (map (scan_of w) (take n ms)) ≡ first_fault w over (take n ms)
unfolding first_fault
all_is w n ms over check h =
    from_of (checked_scan check ms) (first_in w over) (scan_of w) (take n ms) 0
    (λ i m at. let k : 0 + i ≡ i = omega arith in ap (λ j. checked_scan check ms j (scan_of w m)) k ∙ scan_is w ms over check i m h (take_gets n ms i m at))

-- ---- the check

few_of : (ms : List MemberId) → None ≡ slice_get ms most_methods → length ms ≤ most_methods
few_of ms none = past_end ms most_methods (sym none)

pub few_listed : (w : World) (m : MemberId) (ms : List MemberId) (scans : List Scan) → IsListed w m ms scans → None ≡ slice_get ms most_methods → length ms ≤ most_methods
few_listed w m ms scans h none = few_of ms none

pub all_scanned : (w : World) (m : MemberId) (ms : List MemberId) (scans : List Scan) → IsListed w m ms scans → length ms ≤ most_methods → scans ≡ map (scan_of w) ms
all_scanned w m ms scans h few = h.scanned ∙ ap (λ l. map (scan_of w) (take most_methods l)) (sym h.whole) ∙ ap (λ l. map (scan_of w) l) (take_all most_methods ms few)

pub same_count : (w : World) (m : MemberId) (ms : List MemberId) (scans : List Scan) → IsListed w m ms scans → None ≡ slice_get ms most_methods → length scans ≡ length ms
same_count w m ms scans h none = ap (λ l. length l) (all_scanned w m ms scans h (few_of ms none)) ∙ length-map ms (scan_of w)

pub checks_over : (w : World) (ms : List MemberId) (first : MemberId) → Some first ≡ slice_get ms most_methods → IsCheck w ms (slice_get ms most_methods) (Over first)
checks_over w ms first e = sym e

pub checks_back : (w : World) (m : MemberId) (ms : List MemberId) (scans : List Scan) (g : List (List ℕ)) (numbers : List ℕ) → IsListed w m ms scans → None ≡ slice_get ms most_methods
    → (scans ≡ map (scan_of w) ms → IsGraphTo w ms (length ms) g) → AreComponents g numbers → IsCheck w ms (slice_get ms most_methods) (Back numbers)
checks_back w m ms scans g numbers h none graph are =
    let few = few_of ms none in
    (sym none, tells_back w m ms g h.whole few (graph (all_scanned w m ms scans h few)) numbers are)

-- ---- the answer

pub fault_is : (w : World) (m : MemberId) (ms : List MemberId) (scans : List Scan) (check : Check) → IsListed w m ms scans → IsCheck w ms (slice_get ms most_methods) check
    → first_from (checked_scan check ms) 0 scans ≡ first_fault w (slice_get (reached w m) most_methods) (take most_methods (reached w m))
fault_is w m ms scans check h ch =
    ap (λ l. first_from (checked_scan check ms) 0 l) (h.scanned ∙ ap (λ l. map (scan_of w) (take most_methods l)) (sym h.whole))
    ∙ all_is w most_methods ms (slice_get ms most_methods) check ch
    ∙ ap (λ l. first_fault w (slice_get l most_methods) (take most_methods l)) h.whole

pub flow_fails : (w : World) (m : MemberId) (ms : List MemberId) (scans : List Scan) (check : Check) (fault : FlowFault) → IsListed w m ms scans → IsCheck w ms (slice_get ms most_methods) check
    → Some fault ≡ first_from (checked_scan check ms) 0 scans → flow_from w (reached w m) ≡ Err fault
flow_fails w m ms scans check fault h ch e =
    ap (λ o. unless (map (planned w) (reached w m)) o) (sym (fault_is w m ms scans check h ch) ∙ sym e)

same_map : (w : World) (ms : List MemberId) → map (planned w) ms ≡ map planned_by (map (scan_of w) ms)
same_map w [] = refl
same_map w (m ∷ ms) = rw (planned_scanned w m, same_map w ms) refl

pub flow_gives : (w : World) (m : MemberId) (ms : List MemberId) (scans : List Scan) (check : Check) (program : List Plan) → IsListed w m ms scans → IsCheck w ms (slice_get ms most_methods) check
    → None ≡ first_from (checked_scan check ms) 0 scans → program ≡ map planned_by scans → flow_from w (reached w m) ≡ Ok program
flow_gives w m ms scans check program h ch e is =
    let none : first_fault w (slice_get (reached w m) most_methods) (take most_methods (reached w m)) ≡ None = sym (fault_is w m ms scans check h ch) ∙ sym e in
    let few : length (reached w m) ≤ most_methods = few_without_fault most_methods (omega arith) w m (reached w m) (reached_looked w m) none in
    let short : length ms ≤ most_methods = subst (λ l. length l ≤ most_methods) (sym h.whole) few in
    let made : map (planned w) (reached w m) ≡ program =
    same_map w (reached w m) ∙ ap (λ l. map planned_by (map (scan_of w) l)) (sym h.whole) ∙ ap (λ l. map planned_by l) (sym (all_scanned w m ms scans h short)) ∙ sym is in
    ap (λ o. unless (map (planned w) (reached w m)) o) none ∙ ap Ok made
