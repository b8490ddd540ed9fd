-- A problem's path has one end, and of one kind.
use Rattle.std.specs.Prelude.{◌≡◌, ◌≢◌, ℕ, ◌<◌, pos, List, [], ◌∷◌, Option, Some, Err, Contains}
use Rattle.std.proofs.Common.{arith, inl, inr, refl, sym, ap, ◌∙◌, subst}
use Rattle.std.proofs.lemmas.Int.{ints}
use Rattle.std.proofs.lemmas.List.FromFn.{length-range_with_len, get_or-range_with_len}
use Rattle.q128.specs.Fraction.{Fraction, whole}
use Rattle.q128.specs.Rule.{sub_rule}
use Rattle.q128.specs.declared.q.TooWide.{TooWide}
use Rattle.q128.specs.declared.q.QOp.TheVariants.{Sub}
use Rattle.common_laws.proofs.Members.{map_same}
use Rattle.lin_rows.specs.Linear.{Linear, row_at}
use Rattle.lin_rows.specs.Proving.{Multipliers}
use Rattle.lin_rows.specs.Combining.{value_made}
use Rattle.solver_paths.specs.Choices.{variable_count, number_count, first_choice, IsOut, Dictionary, IsDictionary, basic_value}
use Rattle.solver_paths.specs.Pivots.{IsPivot, replaced, MeetsAll, IsStuck}
use Rattle.solver_paths.specs.Making.{PivotMakes, IsTooWide}
use Rattle.solver_paths.specs.Paths.{IsStep, Goes}
use Rattle.solver_paths.specs.Certificates.{coordinates_of, IsFactor, own, chosen, IsFarkas, CertificateMakes, opposite, sum, row, Belongs, pivoting, certifying, IsWideAt, HasPoint, HasContradiction}
use Rattle.solver_paths.specs.Laws.{SameNumbers, EndsExclude}
use Rattle.solver_paths.proofs.Chosen.{chosen_or_not}
use Rattle.solver_paths.proofs.Basics.{basic_chosen, basic_out}
use Rattle.solver_paths.proofs.Points.{one_farkas}
use Rattle.solver_paths.proofs.Transfers.{same_numbers, turned_round, same_meets, same_pivot, same_stuck, same_makes, one_worst, one_pivot}

-- ---- one path
abbrev pub Stops : List Linear → List ℕ → Type 0
Stops rows choice = (r c : ℕ) → IsStep rows choice r c → ⊥

same_step : (rows : List Linear) (choice : List ℕ) (p q : ℕ × ℕ) → IsStep rows choice p.0 p.1 → IsStep rows choice q.0 q.1 → p ≡ q
same_step rows choice p q s t =
    let both = one_pivot rows choice t.own p.0 p.1 q.0 q.1 (same_pivot (same_numbers rows choice s.own t.own s.dictionary t.dictionary) p.0 p.1 s.pivot) t.pivot in
    ap (λ (n : ℕ). (n, p.1)) both.0 ∙ ap (λ (n : ℕ). (q.0, n)) both.1

pub one_end : (rows : List Linear) (first a b : List ℕ) (ps qs : List (ℕ × ℕ)) → Goes rows first ps a → Stops rows a → Goes rows first qs b → Stops rows b → (ps ≡ qs) × (a ≡ b)
one_end rows first a b [] [] g s h t = (refl, sym g ∙ h)
one_end rows first a b [] (q ∷ qs) g s h t = absurd (s q.0 q.1 (subst (λ choice. IsStep rows choice q.0 q.1) g h.0))
one_end rows first a b (p ∷ ps) [] g s h t = absurd (t p.0 p.1 (subst (λ choice. IsStep rows choice p.0 p.1) h g.0))
one_end rows first a b (p ∷ ps) (q ∷ qs) g s h t =
    let e : p ≡ q = same_step rows first p q g.0 h.0 in
    let rest = one_end rows (replaced q.0 q.1 first) a b ps qs (subst (λ z. Goes rows (replaced z.0 z.1 first) ps a) e g.1) s h.1 t in
    (ap (λ z. z ∷ ps) e ∙ ap (λ zs. q ∷ zs) rest.0, rest.1)

-- ---- what stops it
meets_and_worst : (rows : List Linear) (choice : List ℕ) (d : Dictionary) (r c : ℕ) → MeetsAll rows choice d → IsPivot rows choice d r c → ⊥
meets_and_worst rows choice d r c m p = let met = (m.each r).met p.worst.row p.worst.out in let low = p.worst.negative in omega (arith, ints)

meets_and_stuck : (rows : List Linear) (choice : List ℕ) (d : Dictionary) (r : ℕ) → MeetsAll rows choice d → IsStuck rows choice d r → ⊥
meets_and_stuck rows choice d r m p = let met = (m.each r).met p.worst.row p.worst.out in let low = p.worst.negative in omega (arith, ints)

stuck_and_pivot : (rows : List Linear) (choice : List ℕ) (d : Dictionary) (s r c : ℕ) → IsStuck rows choice d s → IsPivot rows choice d r c → ⊥
stuck_and_pivot rows choice d s r c p q =
    let t : IsStuck rows choice d r = subst (IsStuck rows choice d) (one_worst rows choice d s r p.worst q.worst) p in
    t.none c q.chosen q.leaves

pub meets_stops : (rows : List Linear) (choice : List ℕ) (d : Dictionary) → IsDictionary rows choice d → MeetsAll rows choice d → Stops rows choice
meets_stops rows choice d is m r c step = meets_and_worst rows choice step.own r c (same_meets (same_numbers rows choice d step.own is step.dictionary) m) step.pivot

pub stuck_stops : (rows : List Linear) (choice : List ℕ) (d : Dictionary) (s : ℕ) → IsDictionary rows choice d → IsStuck rows choice d s → Stops rows choice
stuck_stops rows choice d s is p r c step = stuck_and_pivot rows choice step.own s r c (same_stuck (same_numbers rows choice d step.own is step.dictionary) s p) step.pivot

pub wide_stops : (rows : List Linear) (choice : List ℕ) (d : Dictionary) (s b : ℕ) (w : TooWide) → IsDictionary rows choice d → IsPivot rows choice d s b → PivotMakes rows choice d s b w → IsTooWide w → Stops rows choice
wide_stops rows choice d s b w is p makes wide r c step =
    let same = same_numbers rows choice d step.own is step.dictionary in
    let there = same_pivot same s b p in
    let both = one_pivot rows choice step.own s b r c there step.pivot in
    let made : PivotMakes rows choice step.own s b w = same_makes same s b w p.worst.out p.chosen makes in
    step.narrow.each w (subst (λ n. PivotMakes rows choice step.own r n w) both.1 (subst (λ n. PivotMakes rows choice step.own n b w) both.0 made)) wide

certificate_stops : (rows : List Linear) (choice : List ℕ) (d : Dictionary) (w : TooWide) → IsDictionary rows choice d → CertificateMakes rows choice d w → Stops rows choice
certificate_stops rows choice d w is (opposite r n stuck is_row there e) = stuck_stops rows choice d r is stuck
certificate_stops rows choice d w is (sum r m stuck farkas e) = stuck_stops rows choice d r is stuck
certificate_stops rows choice d w is (row i meets low high e) = meets_stops rows choice d is meets

belongs_stops : (rows : List Linear) (choice : List ℕ) (d : Dictionary) (pivot : Option (ℕ × ℕ)) (w : TooWide) → IsDictionary rows choice d → Belongs rows choice d w pivot → IsTooWide w → Stops rows choice
belongs_stops rows choice d pivot w is (pivoting r c p makes) wide = wide_stops rows choice d r c w is p makes wide
belongs_stops rows choice d pivot w is (certifying makes) wide = certificate_stops rows choice d w is makes

pub wide_at_stops : (rows : List Linear) (path : List (ℕ × ℕ)) (pivot : Option (ℕ × ℕ)) (w : TooWide) → (h : IsWideAt rows path pivot w) → Stops rows h.last
wide_at_stops rows path pivot w h = belongs_stops rows h.last h.own pivot w h.dictionary h.belongs h.too_wide

-- ---- certificates by one dictionary and by another
first_below : (rows : List Linear) (n : ℕ) → Contains (first_choice rows) n → n < number_count rows
first_below rows n h =
    let size = length-range_with_len 0 (variable_count rows) in
    let lt : h.0 < variable_count rows = omega (arith, h.1) in
    let is = get_or-range_with_len 0 (variable_count rows) h.0 n lt in
    omega (arith, h.2)

pub same_coordinates : (rows : List Linear) (choice : List ℕ) (d e : Dictionary) → SameNumbers rows choice d e → coordinates_of rows choice d ≡ coordinates_of rows choice e
same_coordinates rows choice d e same = map_same (basic_value choice d) (basic_value choice e) (first_choice rows) each
  where
    each : (n : ℕ) → Contains (first_choice rows) n → basic_value choice d n ≡ basic_value choice e n
    each n h = elim (chosen_or_not choice n) [
      | inl has ↦ basic_chosen choice d n has ∙ sym (basic_chosen choice e n has)
      | inr lacks ↦ basic_out choice d n lacks ∙ same.constants n (record { within = first_below rows n h; apart = lacks }) ∙ sym (basic_out choice e n lacks)
    ]

same_factor : (rows : List Linear) (choice : List ℕ) (d e : Dictionary) → SameNumbers rows choice d e → (r n : ℕ) (q : Fraction) → IsOut rows choice r → IsFactor rows choice d r n q → IsFactor rows choice e r n q
same_factor rows choice d e same r n q out (own is one) = own is one
same_factor rows choice d e same r n q out (chosen there some made) =
    chosen there (subst (λ k. k.num ≢ pos 0) (same.coefficients r n out there) some) (subst (λ k. sub_rule (whole (pos 0)) k ≡ Some q) (same.coefficients r n out there) made)

same_farkas : (rows : List Linear) (choice : List ℕ) (d e : Dictionary) → SameNumbers rows choice d e → (r : ℕ) (m : Multipliers) → IsOut rows choice r → IsFarkas rows choice d r m → IsFarkas rows choice e r m
same_farkas rows choice d e same r m out f = record {
  rising = f.rising;
  numbers = f.numbers;
  each = λ n q row. (
    λ there. same_factor rows choice d e same r n q out ((f.each n q row).0 there),
    λ factor. (f.each n q row).1 (same_factor rows choice e d (turned_round same) r n q out factor),
  );
}

same_certificate : (rows : List Linear) (choice : List ℕ) (d e : Dictionary) → SameNumbers rows choice d e → (w : TooWide) → CertificateMakes rows choice d w → CertificateMakes rows choice e w
same_certificate rows choice d e same w (opposite r n stuck is_row there is) =
    opposite r n (same_stuck same r stuck) is_row there (is ∙ ap (λ k. record { a = whole (pos 0); b = k; op = Sub }) (same.coefficients r n stuck.worst.out there))
same_certificate rows choice d e same w (sum r m stuck farkas is) = sum r m (same_stuck same r stuck) (same_farkas rows choice d e same r m stuck.worst.out farkas) is
same_certificate rows choice d e same w (row i meets low high is) =
    row i (same_meets same meets) low high (subst (λ v. value_made (row_at rows i) (whole (pos 1)) v ≡ Err w) (same_coordinates rows choice d e same) is)

-- ---- one kind of end
point_contradiction : (rows : List Linear) (v : List Fraction) (m : Multipliers) → HasPoint rows v → HasContradiction rows m → ⊥
point_contradiction rows v m p q =
    let both = one_end rows (first_choice rows) p.last q.last p.path q.path p.goes (meets_stops rows p.last p.own p.dictionary p.meets) q.goes (stuck_stops rows q.last q.own q.row q.dictionary q.stuck) in
    let is : IsDictionary rows q.last p.own = subst (λ c. IsDictionary rows c p.own) both.1 p.dictionary in
    let meets : MeetsAll rows q.last p.own = subst (λ c. MeetsAll rows c p.own) both.1 p.meets in
    meets_and_stuck rows q.last q.own q.row (same_meets (same_numbers rows q.last p.own q.own is q.dictionary) meets) q.stuck

point_belongs : (rows : List Linear) (choice : List ℕ) (d e : Dictionary) (pivot : Option (ℕ × ℕ)) (w : TooWide) → IsDictionary rows choice d → IsDictionary rows choice e → MeetsAll rows choice d → ((z : TooWide) → CertificateMakes rows choice d z → IsTooWide z → ⊥) → Belongs rows choice e w pivot → IsTooWide w → ⊥
point_belongs rows choice d e pivot w isd ise meets narrow (pivoting r c p makes) wide = meets_and_worst rows choice e r c (same_meets (same_numbers rows choice d e isd ise) meets) p
point_belongs rows choice d e pivot w isd ise meets narrow (certifying makes) wide = narrow w (same_certificate rows choice e d (same_numbers rows choice e d ise isd) w makes) wide

point_wide : (rows : List Linear) (v : List Fraction) (path : List (ℕ × ℕ)) (pivot : Option (ℕ × ℕ)) (w : TooWide) → HasPoint rows v → IsWideAt rows path pivot w → ⊥
point_wide rows v path pivot w p q =
    let both = one_end rows (first_choice rows) q.last p.last path p.path q.goes (wide_at_stops rows path pivot w q) p.goes (meets_stops rows p.last p.own p.dictionary p.meets) in
    let is : IsDictionary rows p.last q.own = subst (λ c. IsDictionary rows c q.own) both.1 q.dictionary in
    point_belongs rows p.last p.own q.own pivot w p.dictionary is p.meets p.certified (subst (λ c. Belongs rows c q.own w pivot) both.1 q.belongs) q.too_wide

stuck_belongs : (rows : List Linear) (choice : List ℕ) (d e : Dictionary) (s : ℕ) (pivot : Option (ℕ × ℕ)) (w : TooWide) → IsDictionary rows choice d → IsDictionary rows choice e → IsStuck rows choice d s → ((z : TooWide) → CertificateMakes rows choice d z → IsTooWide z → ⊥) → Belongs rows choice e w pivot → IsTooWide w → ⊥
stuck_belongs rows choice d e s pivot w isd ise stuck narrow (pivoting r c p makes) wide = stuck_and_pivot rows choice e s r c (same_stuck (same_numbers rows choice d e isd ise) s stuck) p
stuck_belongs rows choice d e s pivot w isd ise stuck narrow (certifying makes) wide = narrow w (same_certificate rows choice e d (same_numbers rows choice e d ise isd) w makes) wide

contradiction_wide : (rows : List Linear) (m : Multipliers) (path : List (ℕ × ℕ)) (pivot : Option (ℕ × ℕ)) (w : TooWide) → HasContradiction rows m → IsWideAt rows path pivot w → ⊥
contradiction_wide rows m path pivot w p q =
    let both = one_end rows (first_choice rows) q.last p.last path p.path q.goes (wide_at_stops rows path pivot w q) p.goes (stuck_stops rows p.last p.own p.row p.dictionary p.stuck) in
    let is : IsDictionary rows p.last q.own = subst (λ c. IsDictionary rows c q.own) both.1 q.dictionary in
    stuck_belongs rows p.last p.own q.own p.row pivot w p.dictionary is p.stuck p.certified (subst (λ c. Belongs rows c q.own w pivot) both.1 q.belongs) q.too_wide

one_point : (rows : List Linear) (v u : List Fraction) → HasPoint rows v → HasPoint rows u → v ≡ u
one_point rows v u p q =
    let both = one_end rows (first_choice rows) p.last q.last p.path q.path p.goes (meets_stops rows p.last p.own p.dictionary p.meets) q.goes (meets_stops rows q.last q.own q.dictionary q.meets) in
    let is : IsDictionary rows q.last p.own = subst (λ c. IsDictionary rows c p.own) both.1 p.dictionary in
    let same = same_coordinates rows q.last p.own q.own (same_numbers rows q.last p.own q.own is q.dictionary) in
    p.coordinates ∙ ap (λ c. coordinates_of rows c p.own) both.1 ∙ same ∙ sym q.coordinates

one_contradiction : (rows : List Linear) (m k : Multipliers) → HasContradiction rows m → HasContradiction rows k → m ≡ k
one_contradiction rows m k p q =
    let both = one_end rows (first_choice rows) p.last q.last p.path q.path p.goes (stuck_stops rows p.last p.own p.row p.dictionary p.stuck) q.goes (stuck_stops rows q.last q.own q.row q.dictionary q.stuck) in
    let is : IsDictionary rows q.last p.own = subst (λ c. IsDictionary rows c p.own) both.1 p.dictionary in
    let numbers = same_numbers rows q.last p.own q.own is q.dictionary in
    let stuck : IsStuck rows q.last q.own p.row = same_stuck numbers p.row (subst (λ c. IsStuck rows c p.own p.row) both.1 p.stuck) in
    let farkas : IsFarkas rows q.last q.own p.row m = same_farkas rows q.last p.own q.own numbers p.row m stuck.worst.out (subst (λ c. IsFarkas rows c p.own p.row m) both.1 p.multipliers) in
    one_farkas rows q.last q.own q.row m k (subst (λ n. IsFarkas rows q.last q.own n m) (one_worst rows q.last q.own p.row q.row stuck.worst q.stuck.worst) farkas) q.multipliers

one_path : (rows : List Linear) (path more : List (ℕ × ℕ)) (pivot other : Option (ℕ × ℕ)) (w z : TooWide) → IsWideAt rows path pivot w → IsWideAt rows more other z → path ≡ more
one_path rows path more pivot other w z p q = (one_end rows (first_choice rows) p.last q.last path more p.goes (wide_at_stops rows path pivot w p) q.goes (wide_at_stops rows more other z q)).0

pub ends_exclude : (rows : List Linear) → EndsExclude rows
ends_exclude rows = record {
  point_contradiction = point_contradiction rows;
  point_wide = point_wide rows;
  contradiction_wide = contradiction_wide rows;
  one_point = one_point rows;
  one_contradiction = one_contradiction rows;
  one_path = one_path rows;
}
