-- Scanned methods with their bodies.
use Rattle.std.proofs.Common.{◌≡◌, ℕ, ◌<◌, ◌≤◌, take, List, [], ◌∷◌, ◌++◌, ◌+◌, map, length, get_or, All, Some, None, arith, refl, sym, ap, ◌∙◌, subst, Contains}
use Rattle.std.specs.Prelude.{slice_get}
use Rattle.std.proofs.lemmas.List.{get_or-map, length-map, map-append}
use Rattle.std.proofs.lemmas.List.Elements.{All-push, Contains-get_or}
use Rattle.common_laws.proofs.Parts.{take_next}
use Rattle.class_reader.specs.declared.class.Method.{Method}
use Rattle.class_reader.specs.declared.class.Code.{Code}
use Rattle.world.specs.declared.member.MemberId.{MemberId}
use Rattle.world.specs.Tables.{HasMethod}
use Rattle.class_hierarchy.specs.World.{World, class_at}
use Rattle.linking.specs.Methods.{method_at, code_at}
use Rattle.world.specs.Selection.{method_of}
use Rattle.code_blocks.specs.Laws.{IsSound}
use Rattle.code_blocks.specs.declared.instruction.Placed.{Placed}
use Rattle.code_blocks.specs.declared.instruction.Instruction.{Instruction}
use Rattle.code_blocks.specs.Placing.{placed}
use Rattle.code_blocks.specs.Successors.{instruction_of, instructions_of}
use Rattle.method_body.specs.Bodies.{MethodBody, HasSoundCode, IsBody}
use Rattle.code_flow.specs.declared.program.Reached.{Reached}
use Rattle.code_flow.specs.declared.checking.Check.{Check}
use Rattle.code_flow.specs.declared.scanning.Scan.{Scan}
use Rattle.code_flow.specs.declared.scanning.Site.{Site}
use Rattle.code_flow.specs.Judging.{judged}
use Rattle.code_flow.specs.Listing.{most_methods, reached, targets_in}
use Rattle.code_flow.specs.Plans.{Planned, Plan, beside, plan_of, plans_of, IsReached}
use Rattle.code_flow.specs.Flow.{first_fault}
use Rattle.code_flow.specs.Program.{HasNoConstruct, IsProgram, AreWhole}
use Rattle.code_flow.specs.Scanning.{site_of, first_against, sites_of, scan_in, scan_at, scan_of}
use Rattle.code_flow.specs.Scanned.{site_targets, planned_site, planned_by, IsScanned, IsListed}
use Rattle.code_flow.specs.Returning.{IsCheck}
use Rattle.code_flow.specs.Checking.{checked_scan, first_from}
use Rattle.code_flow.proofs.ReachedLaws.{reached_looked}
use Rattle.code_flow.proofs.FaultLaws.{few_without_fault}
use Rattle.code_flow.proofs.ProgramLaws.{all_free, no_fault}
use Rattle.code_flow.proofs.ScanLaws.{scan_method}
use Rattle.code_flow.proofs.Scans.{method_there, coded_at}
use Rattle.code_flow.proofs.Soundness.{free_code}
use Rattle.code_flow.proofs.Checks.{fault_is, all_scanned}

-- ---- a method's targets

targets_are : (w : World) (current : ℕ) (code : List ℕ) (ps : List Placed) → map site_targets (map (site_of w current code) ps) ≡ map (λ (p : Placed). targets_in (judged w current code p)) ps
targets_are w current code [] = refl
targets_are w current code (p ∷ ps) = ap (λ (l : List (List MemberId)). targets_in (judged w current code p) ∷ l) (targets_are w current code ps)

beside_are : (w : World) (current : ℕ) (code : List ℕ) (ps : List Placed) → beside (map (instruction_of code) ps) (map site_targets (map (site_of w current code) ps)) ≡ map planned_site (map (site_of w current code) ps)
unfolding beside
beside_are w current code [] = refl
beside_are w current code (p ∷ ps) = ap (λ (l : List Planned). planned_site (site_of w current code p) ∷ l) (beside_are w current code ps)

scan_is : (w : World) (m : MemberId) (method : Method) (code : Code) → method_at w m ≡ Some method → method.code ≡ Some code → scan_of w m ≡ record { method = m; against = first_against method code; body = sites_of w m.class code.bytes }
unfolding scan_of
scan_is w m method code at has = ap (scan_at w m) at ∙ ap (scan_in w m method) has

module _ (w : World) (scan : Scan) (b : MethodBody) (ts : List (List MemberId)) (own : scan ≡ scan_of w scan.method) (at : method_at w scan.method ≡ Some b.method) (is : IsBody b) (all : ts ≡ map site_targets scan.body.sites) where
  sites_are : scan.body.sites ≡ map (site_of w scan.method.class b.code.bytes) (placed b.code.bytes)
  sites_are = ap (λ (s : Scan). s.body.sites) (own ∙ scan_is w scan.method b.method b.code at is.has_code.own)

  all_are : ts ≡ map site_targets (map (site_of w scan.method.class b.code.bytes) (placed b.code.bytes))
  all_are = all ∙ ap (λ (l : List Site). map site_targets l) sites_are

  pub plan_is : plan_of (record { method = scan.method; body = b; targets = ts }) ≡ planned_by scan
  plan_is =
      let instructions : beside b.instructions ts ≡ map planned_site scan.body.sites =
      ap (λ (is : List Instruction). beside is ts) is.instructions_are
      ∙ ap (λ (l : List (List MemberId)). beside (instructions_of b.code.bytes) l) all_are
      ∙ beside_are w scan.method.class b.code.bytes (placed b.code.bytes)
      ∙ ap (λ (l : List Site). map planned_site l) (sym sites_are) in
      rw instructions refl

  pub is_reached : b.class ≡ class_at w scan.method.class → IsReached w (record { method = scan.method; body = b; targets = ts })
  is_reached class = record {
    class = class;
    own = at;
    body = is;
    targets = all_are ∙ targets_are w scan.method.class b.code.bytes (placed b.code.bytes);
  }

-- ---- one more method

pub methods_next : (w : World) (scans : List Scan) (k : ℕ) (scan d : Scan) (methods more : List Reached) (r : Reached) → k < length scans → scan ≡ get_or scans k d → map plan_of methods ≡ map planned_by (take k scans)
    → plan_of r ≡ planned_by scan → more ≡ methods ++ r ∷ [] → map plan_of more ≡ map planned_by (take (k + 1) scans)
methods_next w scans k scan d methods more r lt e before is push =
    ap (λ (l : List Reached). map plan_of l) push
    ∙ map-append plan_of methods (r ∷ [])
    ∙ ap (λ (l : List Plan). l ++ plan_of r ∷ []) before
    ∙ ap (λ (p : Plan). map planned_by (take k scans) ++ p ∷ []) is
    ∙ sym (map-append planned_by (take k scans) (scan ∷ []))
    ∙ ap (λ (l : List Scan). map planned_by l) (sym (take_next scans k scan d lt e))

pub all_next : (w : World) (methods more : List Reached) (r : Reached) → All (IsReached w) methods → IsReached w r → more ≡ methods ++ r ∷ [] → All (IsReached w) more
all_next w methods more r before is push = subst (λ (l : List Reached). All (IsReached w) l) (sym push) (All-push (IsReached w) methods r before is)

-- ---- the code of a method against which nothing stands

pub never_none : (w : World) (m : MemberId) → HasMethod w m → HasNoConstruct w m → None ≡ (method_of w m).code → ⊥
never_none w m there free none =
    let has = free_code w m (method_of w m) (method_there w m there) free in
    let no : None ≡ Some has.code = none ∙ has.own in
    absurd cc

pub sound_of : (w : World) (m : MemberId) (method : Method) (code : Code) → HasMethod w m → HasNoConstruct w m → method ≡ method_of w m → code_at w m ≡ Some code → length code.bytes ≤ 65535 → HasSoundCode method code
sound_of w m method code there free is has short =
    let free_code = free_code w m (method_of w m) (method_there w m there) free in
    let own : (method_of w m).code ≡ Some code = sym (coded_at w m (method_of w m).code there refl) ∙ has in
    let both : Some free_code.code ≡ Some code = sym free_code.own ∙ own in
    let same : free_code.code ≡ code = cc in
    record {
      own = ap (λ (method : Method). method.code) is ∙ own;
      some = subst (λ (c : Code). 1 ≤ length c.bytes) same free_code.some;
      short = short;
      sound = subst (λ (c : Code). IsSound c.bytes) same free_code.sound;
    }

-- ---- all methods, where nothing stands against any

scan_free : (w : World) (m : MemberId) → HasMethod w m → HasNoConstruct w m → IsScanned w (scan_of w m)
scan_free w m there free = record {
  there = subst (λ (n : MemberId). HasMethod w n) (sym (scan_method w m)) there;
  own = ap (λ (n : MemberId). scan_of w n) (sym (scan_method w m));
  free = subst (λ (n : MemberId). HasNoConstruct w n) (sym (scan_method w m)) free;
}

scans_free : (w : World) (m : MemberId) (ms : List MemberId) → All (HasMethod w) ms → ((x : MemberId) → Contains ms x → HasNoConstruct w x) → All (IsScanned w) (map (scan_of w) ms)
scans_free w m ms there free k d lt =
    let short : k < length ms = omega (arith, lt, length-map ms (scan_of w)) in
    let x : MemberId = get_or ms k m in
    subst (λ (s : Scan). IsScanned w s) (sym (get_or-map (scan_of w) ms k m d short)) (scan_free w x (there k m short) (free x (Contains-get_or ms k m short)))

pub scanned_free : (w : World) (m : MemberId) (ms : List MemberId) (scans : List Scan) (check : Check) → IsListed w m ms scans → All (HasMethod w) ms → IsCheck w ms (slice_get ms most_methods) check
    → None ≡ first_from (checked_scan check ms) 0 scans → All (IsScanned w) scans
scanned_free w m ms scans check h there ch e =
    let none : first_fault w (slice_get (reached w m) most_methods) (take most_methods (reached w m)) ≡ None = sym (fault_is w m ms scans check h ch) ∙ sym e in
    let few : length (reached w m) ≤ most_methods = few_without_fault most_methods (omega arith) w m (reached w m) (reached_looked w m) none in
    let short : length ms ≤ most_methods = subst (λ (l : List MemberId). length l ≤ most_methods) (sym h.whole) few in
    subst (λ (l : List Scan). All (IsScanned w) l) (sym (all_scanned w m ms scans h short))
    (scans_free w m ms there
    (λ x listed. all_free w m few (no_fault most_methods w (reached w m) few none) x (subst (λ (l : List MemberId). Contains l x) h.whole listed)))

-- ---- a program of them

same_count : (w : World) (r : Reached) → IsReached w r → length r.targets ≡ length r.body.instructions
same_count w r is =
    ap length is.targets
    ∙ length-map (placed r.body.code.bytes) (λ (p : Placed). targets_in (judged w r.method.class r.body.code.bytes p))
    ∙ sym (length-map (placed r.body.code.bytes) (instruction_of r.body.code.bytes))
    ∙ ap length (sym is.body.instructions_are)

pub are_whole : (w : World) (m : MemberId) (methods : List Reached) → All (IsReached w) methods → IsProgram w m (plans_of methods) → AreWhole methods
are_whole w m methods all is = record {
  once = is.once;
  counts = λ k d lt. same_count w (get_or methods k d) (all k d lt);
  closed = is.closed;
  few = omega (arith, is.few, length-map methods plan_of);
}
