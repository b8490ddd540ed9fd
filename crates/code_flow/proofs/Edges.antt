-- The edges of calls.
use Rattle.std.proofs.Common.{◌≡◌, ◌⊎◌, ◌↔◌, inl, inr, ℕ, zero, suc, ◌+◌, ◌<◌, ◌≤◌, List, [], ◌∷◌, ◌++◌, map, length, take, get_or, Some, None, Result, Ok, Err, arith, refl, sym, ap, subst, ◌∙◌}
use Rattle.std.specs.Prelude.{flat_map, slice_get, replicate, OnOk}
use Rattle.std.specs.List.{position}
use Rattle.std.proofs.lemmas.Grind.{common_steps, flat_map-append}
use Rattle.std.proofs.lemmas.Bool.{cases_lt}
use Rattle.std.proofs.lemmas.List.{take_all, get_or-map, length-map, length-replicate}
use Rattle.std.proofs.lemmas.Option.{slice_get-get_or}
use Rattle.std.proofs.lemmas.List.Elements.{Contains-append_left, Contains-append_right, Contains-append_cases}
use Rattle.common_laws.proofs.Parts.{take_next}
use Rattle.common_laws.proofs.Members.{contains_head, contains_cases, contains_none}
use Rattle.graph_core.specs.Graphs.{HasEdge}
use Rattle.world.specs.declared.member.MemberId.{MemberId}
use Rattle.class_hierarchy.specs.World.{World}
use Rattle.code_flow.specs.declared.scanning.Site.{Site}
use Rattle.code_flow.specs.declared.scanning.Scan.{Scan}
use Rattle.code_flow.specs.Listing.{is_method, callees}
use Rattle.code_flow.specs.Scanning.{scan_of}
use Rattle.code_flow.specs.Scanned.{site_targets}
use Rattle.code_flow.specs.Returning.{IsPlaceOf, Adds, IsGraphTo}
use Rattle.code_flow.proofs.ScanLaws.{callees_scanned}

-- ---- edges that are added

pub adds_nothing : (ms : List MemberId) (i : ℕ) (g : List (List ℕ)) → Adds ms i [] g g
adds_nothing ms i g = record { count = refl; edges = λ x y. (λ h. inl h, λ h. elim h [ inl old ↦ old | inr p ↦ absurd (contains_none p.1.0 p.1.1) ]) }

pub adds_none : (ms : List MemberId) (i : ℕ) (t : MemberId) (g : List (List ℕ)) → None ≡ position (is_method t) ms → Adds ms i (t ∷ []) g g
adds_none ms i t g none = record {
  count = refl;
  edges = λ x y. (
    λ h. inl h,
    λ h. elim h [
      | inl old ↦ old
      | inr p ↦ elim (contains_cases t [] p.1.0 p.1.1) [
        | inl same ↦ let e : None ≡ Some y = none ∙ ap (λ u. position (is_method u) ms) same ∙ p.1.2 in absurd cc
        | inr none ↦ absurd (contains_none p.1.0 none)
      ]
    ],
  );
}

pub adds_one : (ms : List MemberId) (i j : ℕ) (t : MemberId) (old new : List (List ℕ)) → Some j ≡ position (is_method t) ms → length new ≡ length old
    → ((x y : ℕ) → HasEdge new x y ↔ (HasEdge old x y ⊎ ((x ≡ i) × (y ≡ j)))) → Adds ms i (t ∷ []) old new
adds_one ms i j t old new at count h = record {
  count = count;
  edges = λ x y. (
    λ e. elim ((h x y).0 e) [ inl before ↦ inl before | inr p ↦ inr (p.0, (t, contains_head t [], sym at ∙ ap Some (sym p.1))) ],
    λ e. elim e [
      | inl before ↦ (h x y).1 (inl before)
      | inr p ↦ elim (contains_cases t [] p.1.0 p.1.1) [
        | inl same ↦ let e : Some j ≡ Some y = at ∙ ap (λ u. position (is_method u) ms) same ∙ p.1.2 in let k : y ≡ j = cc in (h x y).1 (inr (p.0, k))
        | inr none ↦ absurd (contains_none p.1.0 none)
      ]
    ],
  );
}

pub adds_through : (ms : List MemberId) (i : ℕ) (xs ys : List MemberId) (a b c : List (List ℕ)) → Adds ms i xs a b → Adds ms i ys b c → Adds ms i (xs ++ ys) a c
adds_through ms i xs ys a b c h k = record {
  count = k.count ∙ h.count;
  edges = λ x y. (
    λ e. elim ((k.edges x y).0 e) [
      | inl before ↦ elim ((h.edges x y).0 before) [ inl old ↦ inl old | inr p ↦ inr (p.0, (p.1.0, Contains-append_left xs ys p.1.0 p.1.1, p.1.2)) ]
      | inr p ↦ inr (p.0, (p.1.0, Contains-append_right xs ys p.1.0 p.1.1, p.1.2))
    ],
    λ e. elim e [
      | inl old ↦ (k.edges x y).1 (inl ((h.edges x y).1 (inl old)))
      | inr p ↦ elim (Contains-append_cases xs ys p.1.0 p.1.1) [
        | inl first ↦ (k.edges x y).1 (inl ((h.edges x y).1 (inr (p.0, (p.1.0, first, p.1.2)))))
        | inr second ↦ (k.edges x y).1 (inr (p.0, (p.1.0, second, p.1.2)))
      ]
    ],
  );
}

-- call by call
pub adds_next : (ms : List MemberId) (i : ℕ) (ts : List MemberId) (k : ℕ) (x d : MemberId) (a b c : List (List ℕ)) → k < length ts → x ≡ get_or ts k d → Adds ms i (take k ts) a b → Adds ms i (x ∷ []) b c → Adds ms i (take (k + 1) ts) a c
adds_next ms i ts k x d a b c lt e h one = subst (λ l. Adds ms i l a c) (sym (take_next ts k x d lt e)) (adds_through ms i (take k ts) (x ∷ []) a b c h one)

pub adds_end : (ms : List MemberId) (i : ℕ) (ts : List MemberId) (k : ℕ) (a b : List (List ℕ)) → length ts ≤ k → Adds ms i (take k ts) a b → Adds ms i ts a b
adds_end ms i ts k a b le h = subst (λ l. Adds ms i l a b) (take_all k ts le) h

single : (s : Site) → flat_map site_targets (s ∷ []) ≡ site_targets s
single s = grind (arith, common_steps)

-- instruction by instruction
pub sites_next : (ms : List MemberId) (i : ℕ) (sites : List Site) (k : ℕ) (s d : Site) (a b c : List (List ℕ)) → k < length sites → s ≡ get_or sites k d → Adds ms i (flat_map site_targets (take k sites)) a b → Adds ms i (site_targets s) b c → Adds ms i (flat_map site_targets (take (k + 1) sites)) a c
sites_next ms i sites k s d a b c lt e h one =
    let more : flat_map site_targets (take (k + 1) sites) ≡ flat_map site_targets (take k sites) ++ site_targets s =
    ap (λ l. flat_map site_targets l) (take_next sites k s d lt e) ∙ flat_map-append site_targets (take k sites) (s ∷ []) ∙ ap (λ l. flat_map site_targets (take k sites) ++ l) (single s) in
    subst (λ l. Adds ms i l a c) (sym more) (adds_through ms i (flat_map site_targets (take k sites)) (site_targets s) a b c h one)

pub sites_end : (ms : List MemberId) (i : ℕ) (sites : List Site) (k : ℕ) (a b : List (List ℕ)) → length sites ≤ k → Adds ms i (flat_map site_targets (take k sites)) a b → Adds ms i (flat_map site_targets sites) a b
sites_end ms i sites k a b le h = subst (λ l. Adds ms i (flat_map site_targets l) a b) (take_all k sites le) h

-- ---- method by method

none_from : (n x y : ℕ) → HasEdge (replicate n []) x y → ⊥
none_from zero x y h = contains_none y h
none_from (suc n) zero y h = contains_none y h
none_from (suc n) (suc x) y h = none_from n x y h

pub graph_start : (w : World) (ms : List MemberId) (n : ℕ) (g : List (List ℕ)) → n ≡ length ms → g ≡ replicate n [] → IsGraphTo w ms 0 g
graph_start w ms n g e f = record {
  count = ap (λ l. length l) f ∙ length-replicate n [] ∙ e;
  sound = λ x y h. absurd (none_from n x y (subst (λ l. HasEdge l x y) f h));
  whole = λ x y m lt at p. absurd (omega (arith, lt));
}

pub graph_next : (w : World) (ms : List MemberId) (k : ℕ) (m : MemberId) (g now : List (List ℕ)) (sites : List Site) → slice_get ms k ≡ Some m → sites ≡ (scan_of w m).body.sites
    → Adds ms k (flat_map site_targets sites) g now → IsGraphTo w ms k g → IsGraphTo w ms (k + 1) now
graph_next w ms k m g now sites at e a h =
    let called : flat_map site_targets sites ≡ callees w m = ap (λ l. flat_map site_targets l) e ∙ sym (callees_scanned w m) in
    record {
      count = a.count ∙ h.count;
      sound = λ x y edge. elim ((a.edges x y).0 edge) [
        | inl old ↦ h.sound x y old
        | inr p ↦ (m, subst (λ i. slice_get ms i ≡ Some m) (sym p.0) at, subst (λ l. IsPlaceOf ms l y) called p.1)
      ];
      whole = λ x y q lt there p. elim (cases_lt x k) [
        | inl before ↦ (a.edges x y).1 (inl (h.whole x y q before there p))
        | inr after ↦
            let same : x ≡ k = omega (arith, lt) in
            let one : Some q ≡ Some m = sym there ∙ ap (λ i. slice_get ms i) same ∙ at in
            let is_m : q ≡ m = cc in
            (a.edges x y).1 (inr (same, subst (λ l. IsPlaceOf ms l y) (ap (λ z. callees w z) is_m ∙ sym called) p))
      ];
    }

pub scan_at : (w : World) (ms : List MemberId) (scans : List Scan) (k : ℕ) (d : Scan) → scans ≡ map (scan_of w) ms → k < length scans → (m : MemberId) × (slice_get ms k ≡ Some m) × (get_or scans k d ≡ scan_of w m)
scan_at w ms scans k d e lt =
    let n : length (map (scan_of w) ms) ≡ length ms = length-map ms (scan_of w) in
    let short : k < length ms = subst (λ z. k < z) (ap (λ l. length l) e ∙ n) lt in
    let m = get_or ms k d.method in
    (get_or ms k d.method, slice_get-get_or ms k d.method short, ap (λ l. get_or l k d) e ∙ get_or-map (scan_of w) ms k d.method d short)

pub graph_step : (w : World) (ms : List MemberId) (scans : List Scan) (k : ℕ) (s d : Scan) (g now : List (List ℕ)) → k < length scans → s ≡ get_or scans k d → Adds ms k (flat_map site_targets s.body.sites) g now
    → (scans ≡ map (scan_of w) ms → IsGraphTo w ms k g) → scans ≡ map (scan_of w) ms → IsGraphTo w ms (k + 1) now
graph_step w ms scans k s d g now lt e a h is =
    let at = scan_at w ms scans k d is lt in
    graph_next w ms k at.0 g now s.body.sites at.1 (ap (λ x. x.body.sites) (e ∙ at.2)) a (h is)

pub one_added : {A E : Type 0} (r : Result A E) (ms : List MemberId) (i j : ℕ) (t : MemberId) (old new : List (List ℕ)) → Some j ≡ position (is_method t) ms → length new ≡ length old
    → OnOk r ((x y : ℕ) → HasEdge new x y ↔ (HasEdge old x y ⊎ ((x ≡ i) × (y ≡ j)))) → OnOk r (Adds ms i (t ∷ []) old new)
one_added (Ok a) ms i j t old new at count h = adds_one ms i j t old new at count h
one_added (Err e) ms i j t old new at count h = tt
