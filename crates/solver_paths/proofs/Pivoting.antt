-- A pivot keeps the solutions: what it makes of a dictionary is the dictionary of the choice after it.
use Rattle.std.specs.Prelude.{◌≡◌, ℕ, ◌<◌, false, pos, nat_eq, List, [], ◌∷◌, length, map, get_or, All, Contains}
use Rattle.std.specs.List.{IsDistinct}
use Rattle.std.proofs.Common.{inl, inr, true≢false, sym, ap, ◌∙◌, subst}
use Rattle.std.proofs.lemmas.Bool.{cases_eq, eq-eqb, eqb-true, false_from_ne_true}
use Rattle.std.proofs.lemmas.List.{length-map, get_or_default}
use Rattle.std.proofs.lemmas.List.Elements.{All-contains, recursion_from_All}
use Rattle.std.proofs.lemmas.Map.Keys.{IsDistinct-tail}
use Rattle.q128.specs.Fraction.{Fraction, whole, IsSame, plus, negative, times}
use Rattle.common_laws.proofs.Members.{contains_head, contains_tail, from_map}
use Rattle.fraction_laws.proofs.Same.{Same, same, back, ◌∘◌, sums, products, turn, collect, share_left, no_more, of_none, by_none, negative_left, solved, unsolved, inserted}
use Rattle.lin_rows.specs.Linear.{Linear}
use Rattle.solver_paths.specs.Choices.{number_count, IsOut, Dictionary, expressed, Expresses, IsDictionary}
use Rattle.solver_paths.specs.Pivots.{replaced}
use Rattle.solver_paths.specs.Making.{Constant, Of, IsBeside}
use Rattle.solver_paths.specs.Dictionaries.{IsPivoted}
use Rattle.solver_paths.proofs.Chosen.{moved, moved_there, moved_past, is_moved, replaced_has, replaced_had, replaced_keeps, replaced_lost}
use Rattle.solver_paths.proofs.Unique.{head_apart}
use Rattle.solver_paths.proofs.Totals.{total, expressed_total, total_map, total_each, rest_of, rest_each, by_both, by_three, taken, total_opposed, total_rests}

pub differs : (a b : ℕ) → (a ≡ b → ⊥) → nat_eq a b ≡ false
differs a b h = false_from_ne_true (nat_eq a b) (λ t. h (eqb-true a b t))

differ_so : (a b : ℕ) → nat_eq a b ≡ false → a ≡ b → ⊥
differ_so a b e same = true≢false (sym (eq-eqb a b same) ∙ e)

-- ---- the choice after it
pub all_members : {A : Type 0} (P : A → Type 0) (xs : List A) → ((x : A) → Contains xs x → P x) → All P xs
all_members P xs each = λ k d lt. each (get_or xs k d) (k, lt, get_or_default xs k (get_or xs k d) d lt)

moved_differs : (r c x y : ℕ) → (x ≡ y → ⊥) → (x ≡ r → ⊥) → (y ≡ r → ⊥) → moved r c x ≡ moved r c y → ⊥
moved_differs r c x y apart xr yr e = elim (cases_eq x c) [
  | inl xc ↦ elim (cases_eq y c) [
    | inl yc ↦ apart (xc ∙ sym yc)
    | inr yn ↦ yr (sym (moved_past r c y yn) ∙ sym e ∙ ap (moved r c) xc ∙ moved_there r c)
  ]
  | inr xn ↦ elim (cases_eq y c) [
    | inl yc ↦ xr (sym (moved_past r c x xn) ∙ e ∙ ap (moved r c) yc ∙ moved_there r c)
    | inr yn ↦ apart (sym (moved_past r c x xn) ∙ e ∙ moved_past r c y yn)
  ]
]

distinct_moved : (r c : ℕ) (cs : List ℕ) → (Contains cs r → ⊥) → IsDistinct nat_eq cs → IsDistinct nat_eq (map (moved r c) cs)
unfolding IsDistinct
distinct_moved r c [] out distinct = tt
distinct_moved r c (x ∷ xs) out distinct = (
  recursion_from_All (λ y. nat_eq (moved r c x) y ≡ false) (map (moved r c) xs) (all_members (λ y. nat_eq (moved r c x) y ≡ false) (map (moved r c) xs) (each (head_apart x xs distinct))),
  distinct_moved r c xs (λ h. out (contains_tail x xs r h)) (IsDistinct-tail nat_eq x xs distinct),
)
  where
    each : ((e : ℕ) → Contains xs e → nat_eq x e ≡ false) → (y : ℕ) → Contains (map (moved r c) xs) y → nat_eq (moved r c x) y ≡ false
    each heads y there =
        let from = from_map (moved r c) xs y there in
        let apart = moved_differs r c x from.0 (differ_so x from.0 (heads from.0 from.1)) (λ e. out (subst (Contains (x ∷ xs)) e (contains_head x xs))) (λ e. out (subst (Contains (x ∷ xs)) e (contains_tail x xs from.0 from.1))) in
        differs (moved r c x) y (λ e. apart (e ∙ sym from.2))

-- ---- the equations
module _ {rows : List Linear} {choice : List ℕ} {d e : Dictionary} {r c : ℕ} (is : IsDictionary rows choice d) (out : IsOut rows choice r) (there : Contains choice c) (p : IsPivoted rows choice d r c e) (x : ℕ → Fraction) where
  term_of : Dictionary → ℕ → ℕ → Fraction
  term_of f n s = times (f.coefficient n s) (x s)

  -- an expression without its term of c
  others : Dictionary → ℕ → Fraction
  others f n = total (rest_of (term_of f n) c) choice (f.constant n)

  before_is : (n : ℕ) → Same (expressed d choice x n) (plus (times (d.coefficient n c) (x c)) (others d n))
  unfolding term_of others
  before_is n = subst (λ z. Same z (plus (term_of d n c) (others d n))) (sym (expressed_total d choice x n)) (taken (term_of d n) choice c (d.constant n) is.distinct there)

  after_is : (n : ℕ) → Same (expressed e (replaced r c choice) x n) (plus (times (e.coefficient n r) (x r)) (others e n))
  unfolding term_of others
  after_is n =
      let f = λ (s : ℕ). term_of e n (moved r c s) in
      let z = e.constant n in
      let spelt : expressed e (replaced r c choice) x n ≡ total f choice z = ap (λ cs. expressed e cs x n) (is_moved r c choice) ∙ expressed_total e (map (moved r c) choice) x n ∙ total_map (term_of e n) (moved r c) choice z in
      let rests : total (rest_of f c) choice z ≡ others e n = total_each (rest_of f c) (rest_of (term_of e n) c) choice z (λ s h. rest_each f (term_of e n) c s (λ past. ap (term_of e n) (moved_past r c s (differ_so s c past)))) in
      subst (λ y. Same y (plus (term_of e n r) (others e n))) (sym spelt)
      (subst (λ y. Same (total f choice z) (plus (term_of e n r) y)) rests
      (subst (λ m. Same (total f choice z) (plus (term_of e n m) (total (rest_of f c) choice z))) (moved_there r c) (taken f choice c z is.distinct there)))

  -- the two facts of others
  scaled : (a b k y : Fraction) → Same (times a k) (negative b) → Same (times (times a y) k) (negative (times b y))
  scaled a b k y h = collect a y k ∘ products same (turn y k) ∘ back (collect a k y) ∘ products h same ∘ negative_left b y

  none_opposed : (k : Fraction) → Same (times (whole (pos 0)) k) (negative (whole (pos 0)))
  none_opposed k = of_none k

  opposed_others : Same (times (others e c) (d.coefficient r c)) (negative (others d r))
  unfolding term_of others
  opposed_others = total_opposed (rest_of (term_of e c) c) (rest_of (term_of d r) c) choice (e.constant c) (d.constant r) (d.coefficient r c) each (record { is = p.solved Constant tt })
    where
      each : (s : ℕ) → Contains choice s → Same (times (rest_of (term_of e c) c s) (d.coefficient r c)) (negative (rest_of (term_of d r) c s))
      each s h = by_both (λ f g. Same (times f (d.coefficient r c)) (negative g)) (term_of e c) (term_of d r) c s (none_opposed (d.coefficient r c)) (λ past. scaled (e.coefficient c s) (d.coefficient r s) (d.coefficient r c) (x s) (record { is = p.solved (Of s) (h, differ_so s c past) }))

  put_in : (a b h m y : Fraction) → Same (plus a (times m b)) h → Same (plus (times a y) (times m (times b y))) (times h y)
  put_in a b h m y e = sums same (back (collect m b y)) ∘ back (share_left a (times m b) y) ∘ products e same

  none_put : (m : Fraction) → Same (plus (whole (pos 0)) (times m (whole (pos 0)))) (whole (pos 0))
  none_put m = sums {x = whole (pos 0)} same (by_none m) ∘ no_more (whole (pos 0))

  rests_others : (n : ℕ) → IsBeside rows choice r n → Same (plus (others e n) (times (e.coefficient n r) (others d r))) (others d n)
  unfolding term_of others
  rests_others n beside = total_rests (rest_of (term_of e n) c) (rest_of (term_of d r) c) (rest_of (term_of d n) c) choice (e.constant n) (d.constant r) (d.constant n) (e.coefficient n r) each (record { is = p.rests n Constant beside tt })
    where
      each : (s : ℕ) → Contains choice s → Same (plus (rest_of (term_of e n) c s) (times (e.coefficient n r) (rest_of (term_of d r) c s))) (rest_of (term_of d n) c s)
      each s h = by_three (λ f g k. Same (plus f (times (e.coefficient n r) g)) k) (term_of e n) (term_of d r) (term_of d n) c s (none_put (e.coefficient n r)) (λ past. put_in (e.coefficient n s) (d.coefficient r s) (d.coefficient n s) (e.coefficient n r) (x s) (record { is = p.rests n (Of s) beside (h, differ_so s c past) }))

  -- ---- the expression of r, solved for c
  gone : Contains (replaced r c choice) c → ⊥
  gone = replaced_lost r c choice (λ same. out.apart (subst (Contains choice) same there))

  row_there : Same (x r) (expressed d choice x r) → Same (x c) (expressed e (replaced r c choice) x c)
  row_there h = solved (x r) (x c) (others d r) (others e c) (d.coefficient r c) (e.coefficient c r) (record { is = p.unit }) opposed_others (h ∘ before_is r) ∘ back (after_is c)

  row_back : Same (x c) (expressed e (replaced r c choice) x c) → Same (x r) (expressed d choice x r)
  row_back h = unsolved (x r) (x c) (others d r) (others e c) (d.coefficient r c) (e.coefficient c r) (record { is = p.unit }) opposed_others (h ∘ after_is c) ∘ back (before_is r)

  beside_same : (n : ℕ) → IsBeside rows choice r n → Same (x r) (expressed d choice x r) → Same (expressed d choice x n) (expressed e (replaced r c choice) x n)
  beside_same n beside h =
      before_is n ∘ inserted (x r) (x c) (others d r) (others e n) (others d n) (d.coefficient r c) (d.coefficient n c) (e.coefficient n r) (record { is = p.shares n beside }) (rests_others n beside) (h ∘ before_is r) ∘ back (after_is n)

  -- ---- both ways
  still_out : (n : ℕ) → IsOut rows (replaced r c choice) n → (n ≡ c → ⊥) → IsBeside rows choice r n
  still_out n o other = record {
    out = record { within = o.within; apart = λ h. o.apart (replaced_keeps r c n choice other h) };
    other = λ same. o.apart (subst (Contains (replaced r c choice)) (sym same) (replaced_has r c choice there));
  }

  pub expresses_there : Expresses rows choice d x → Expresses rows (replaced r c choice) e x
  expresses_there h = record { each = each }
    where
      row : Same (x r) (expressed d choice x r)
      row = record { is = h.each r out }

      each : (n : ℕ) → IsOut rows (replaced r c choice) n → IsSame (x n) (expressed e (replaced r c choice) x n)
      each n o = elim (cases_eq n c) [
        | inl at ↦ subst (λ m. IsSame (x m) (expressed e (replaced r c choice) x m)) (sym at) (row_there row).is
        | inr other ↦ let beside = still_out n o other in let first : Same (x n) (expressed d choice x n) = record { is = h.each n beside.out } in (first ∘ beside_same n beside row).is
      ]

  out_still : (n : ℕ) → IsOut rows choice n → (n ≡ r → ⊥) → IsOut rows (replaced r c choice) n
  out_still n o other = record { within = o.within; apart = λ h. elim (replaced_had r c n choice h) [ inl same ↦ other same | inr both ↦ o.apart both.0 ] }

  chosen_out : c < number_count rows → IsOut rows (replaced r c choice) c
  chosen_out lt = record { within = lt; apart = gone }

  pub expresses_back : Expresses rows (replaced r c choice) e x → Expresses rows choice d x
  expresses_back h = record { each = each }
    where
      row : Same (x r) (expressed d choice x r)
      row = row_back (record { is = h.each c (chosen_out (All-contains (λ (n : ℕ). n < number_count rows) choice c is.below there)) })

      each : (n : ℕ) → IsOut rows choice n → IsSame (x n) (expressed d choice x n)
      each n o = elim (cases_eq n r) [
        | inl at ↦ subst (λ m. IsSame (x m) (expressed d choice x m)) (sym at) row.is
        | inr other ↦
            let last : Same (x n) (expressed e (replaced r c choice) x n) = record { is = h.each n (out_still n o other) } in
            (last ∘ back (beside_same n (record { out = o; other = other }) row)).is
      ]

below_replaced : (rows : List Linear) (choice : List ℕ) (r c : ℕ) → r < number_count rows → All (λ (n : ℕ). n < number_count rows) choice → All (λ (n : ℕ). n < number_count rows) (replaced r c choice)
below_replaced rows choice r c lt below = all_members (λ (n : ℕ). n < number_count rows) (replaced r c choice) each
  where
    each : (n : ℕ) → Contains (replaced r c choice) n → n < number_count rows
    each n h = elim (replaced_had r c n choice h) [
      | inl same ↦ subst (λ m. m < number_count rows) (sym same) lt
      | inr both ↦ All-contains (λ (m : ℕ). m < number_count rows) choice n below both.0
    ]

pub pivots_keep : (rows : List Linear) (choice : List ℕ) (d e : Dictionary) (r c : ℕ) → IsDictionary rows choice d → IsOut rows choice r → Contains choice c → IsPivoted rows choice d r c e → IsDictionary rows (replaced r c choice) e
pivots_keep rows choice d e r c is out there p = record {
  size = ap length (is_moved r c choice) ∙ length-map choice (moved r c) ∙ is.size;
  distinct = subst (IsDistinct nat_eq) (sym (is_moved r c choice)) (distinct_moved r c choice out.apart is.distinct);
  below = below_replaced rows choice r c out.within is.below;
  constants = p.constants;
  coefficients = p.coefficients;
  same = λ x. (
    λ solves. expresses_there is out there p x ((is.same x).0 solves),
    λ expresses. (is.same x).1 (expresses_back is out there p x expresses),
  );
}
