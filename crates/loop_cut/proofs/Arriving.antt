-- What comes to blocks, one arrival after another.
use Rattle.std.proofs.Common.{◌≡◌, ◌≢◌, ◌⊎◌, ◌↔◌, inl, inr, ℕ, ◌+◌, ◌<◌, ◌≤◌, Bool, true, false, List, [], ◌∷◌, ◌++◌, length, take, set, get_or, Option, Some, None, refl, sym, ap, subst, ◌∙◌, arith, get_or-set_same, get_or-set_other}
use Rattle.std.specs.Prelude.{Contains, slice_index_or}
use Rattle.std.proofs.lemmas.Bool.{cases_eq}
use Rattle.std.proofs.lemmas.List.{length-set, get_or_default, take_all}
use Rattle.std.proofs.lemmas.List.Elements.{Contains-append_left, Contains-append_cases, Contains-push}
use Rattle.common_laws.proofs.Members.{contains_cases, contains_none}
use Rattle.code_blocks.proofs.Ways.{in_more as in_next, from_more as from_next}
use Rattle.graph_core.proofs.Marks.{marked_below}
use Rattle.loop_cut.specs.declared.found.CodeLoop.{CodeLoop}
use Rattle.graph_core.specs.Marked.{IsMarked}
use Rattle.loop_cut.specs.declared.point.Point.{Point}
use Rattle.loop_cut.specs.inside.Arrivals.{AreMet, AreTwo, IsFirst}

module _ (came : List (ℕ × Point)) (x : ℕ) (p : Point) where
  abbrev More : List (ℕ × Point)
  More = came ++ (x, p) ∷ []

  in_more : (y : ℕ) (r : Point) → Contains More (y, r) → Contains came (y, r) ⊎ ((x ≡ y) × (p ≡ r))
  in_more y r c = elim (Contains-append_cases came ((x, p) ∷ []) (y, r) c) [
    | inl before ↦ inl before
    | inr last ↦ elim (contains_cases (x, p) [] (y, r) last) [
      | inl same ↦ inr (ap (λ (t : ℕ × Point). t.0) same, ap (λ (t : ℕ × Point). t.1) same)
      | inr past ↦ absurd (contains_none (y, r) past)
    ]
  ]

  kept : (y : ℕ) (r : Point) → Contains came (y, r) → Contains More (y, r)
  kept y r c = Contains-append_left came ((x, p) ∷ []) (y, r) c

  two_kept : (y : ℕ) → AreTwo came y → AreTwo More y
  two_kept y t =
      record { one = t.one; other = t.other; apart = t.apart; from_one = kept y t.one t.from_one; from_other = kept y t.other t.from_other }

  -- at another place nothing is new
  two_elsewhere : (y : ℕ) → y ≢ x → AreTwo More y → AreTwo came y
  two_elsewhere y other t = record {
    one = t.one;
    other = t.other;
    apart = t.apart;
    from_one = elim (in_more y t.one t.from_one) [ inl c ↦ c | inr e ↦ absurd (other (sym e.0)) ];
    from_other = elim (in_more y t.other t.from_other) [ inl c ↦ c | inr e ↦ absurd (other (sym e.0)) ];
  }

  first_elsewhere : (y : ℕ) (o : Option Point) → y ≢ x → IsFirst came y o → IsFirst More y o
  first_elsewhere y None other none = λ r c. elim (in_more y r c) [ inl d ↦ none r d | inr e ↦ other (sym e.0) ]
  first_elsewhere y (Some q) other c = kept y q c

  -- nothing had come
  two_first : (o : Option Point) → o ≡ None → IsFirst came x o → AreTwo More x → AreTwo came x
  two_first (Some q) e none t = let w : Some q ≡ None = e in absurd (cc)
  two_first None e none t = absurd (t.apart (last t.one t.from_one ∙ sym (last t.other t.from_other)))
    where
      last : (r : Point) → Contains More (x, r) → r ≡ p
      last r c = elim (in_more x r c) [ inl d ↦ absurd (none r d) | inr e ↦ sym e.1 ]

  -- the same point had come
  two_same : Contains came (x, p) → (y : ℕ) → AreTwo More y → AreTwo came y
  two_same there y t = record { one = t.one; other = t.other; apart = t.apart; from_one = old t.one t.from_one; from_other = old t.other t.from_other }
    where
      old : (r : Point) → Contains More (y, r) → Contains came (y, r)
      old r c = elim (in_more y r c) [ inl d ↦ d | inr e ↦ subst (λ (s : Point). Contains came (y, s)) e.1 (subst (λ (z : ℕ). Contains came (z, p)) e.0 there) ]

  first_same : (y : ℕ) (o : Option Point) → Contains came (x, p) → IsFirst came y o → IsFirst More y o
  first_same y None there none = λ r c. elim (in_more y r c) [
    | inl d ↦ none r d
    | inr e ↦ none r (subst (λ (s : Point). Contains came (y, s)) e.1 (subst (λ (z : ℕ). Contains came (z, p)) e.0 there))
  ]
  first_same y (Some q) there c = kept y q c

  module _ (size : ℕ) (found : List (Option Point)) (marks : List Bool) (met : AreMet came size found marks) (inside : x < length marks) where
    fits : x < size
    fits = let n = met.join_count in omega arith

    in_found : x < length found
    in_found = let n = met.first_count in let m = met.join_count in omega arith

    pub met_first : slice_index_or found x None ≡ None → AreMet More size (set found x (Some p)) marks
    met_first none = record {
      first_count = length-set found x (Some p) ∙ met.first_count;
      join_count = met.join_count;
      firsts = λ y lt. elim (cases_eq y x) [
        | inl e ↦ subst (λ (z : ℕ). IsFirst More z (get_or (set found x (Some p)) z None)) (sym e) (subst (IsFirst More x) (sym (get_or-set_same found x (Some p) None in_found)) (Contains-push came (x, p)))
        | inr other ↦ subst (IsFirst More y) (sym (get_or-set_other found x y (Some p) None other)) (first_elsewhere y (slice_index_or found y None) other (met.firsts y lt))
      ];
      joins = λ y lt. (
        λ m. two_kept y ((met.joins y lt).0 m),
        λ t. (met.joins y lt).1 (elim (cases_eq y x) [
          | inl e ↦ subst (AreTwo came) (sym e) (two_first (slice_index_or found x None) none (met.firsts x fits) (subst (AreTwo More) e t))
          | inr other ↦ two_elsewhere y other t
        ]),
      );
    }

    pub met_same : (q : Point) → slice_index_or found x None ≡ Some q → q ≡ p → AreMet More size found marks
    met_same q at same = record {
      first_count = met.first_count;
      join_count = met.join_count;
      firsts = λ y lt. first_same y (slice_index_or found y None) there (met.firsts y lt);
      joins = λ y lt. (λ m. two_kept y ((met.joins y lt).0 m), λ t. (met.joins y lt).1 (two_same there y t));
    }
      where
        there : Contains came (x, p)
        there = subst (λ (s : Point). Contains came (x, s)) same (subst (IsFirst came x) at (met.firsts x fits))

    pub met_other : (q : Point) → slice_index_or found x None ≡ Some q → q ≢ p → AreMet More size found (set marks x true)
    met_other q at apart = record {
      first_count = met.first_count;
      join_count = length-set marks x true ∙ met.join_count;
      firsts = λ y lt. elim (cases_eq y x) [
        | inl e ↦ subst (λ (z : ℕ). IsFirst More z (slice_index_or found z None)) (sym e) (subst (IsFirst More x) (sym at) (kept x q there))
        | inr other ↦ first_elsewhere y (slice_index_or found y None) other (met.firsts y lt)
      ];
      joins = λ y lt. elim (cases_eq y x) [
        | inl e ↦ (
          λ m. subst (AreTwo More) (sym e) (record { one = q; other = p; apart = apart; from_one = kept x q there; from_other = Contains-push came (x, p) }),
          λ t. subst (IsMarked (set marks x true)) (sym e) (get_or-set_same marks x true false inside),
        )
        | inr other ↦ (
          λ m. two_kept y ((met.joins y lt).0 (sym (get_or-set_other marks x y true false other) ∙ m)),
          λ t. get_or-set_other marks x y true false other ∙ (met.joins y lt).1 (two_elsewhere y other t),
        )
      ];
    }
      where
        there : Contains came (x, q)
        there = subst (IsFirst came x) at (met.firsts x fits)

-- what an index reads
pub read_at : (found : List (Option Point)) (x : ℕ) (o : Option Point) → x < length found → o ≡ get_or found x o → slice_index_or found x None ≡ o
read_at found x o lt e = sym (e ∙ get_or_default found x o None lt)

-- ---- marks

-- one mark more
pub marked_more : (marks : List Bool) (e x : ℕ) → e < length marks → IsMarked (set marks e true) x ↔ (IsMarked marks x ⊎ (e ≡ x))
marked_more marks e x lt = elim (cases_eq x e) [
  | inl same ↦ (λ m. inr (sym same), λ h. subst (IsMarked (set marks e true)) (sym same) (get_or-set_same marks e true false lt))
  | inr other ↦ (
    λ m. inl (sym (get_or-set_other marks e x true false other) ∙ m),
    λ h. elim h [ inl m ↦ get_or-set_other marks e x true false other ∙ m | inr same ↦ absurd (other (sym same)) ],
  )
]

abbrev pub IsEntry : List CodeLoop → ℕ → Type 0
IsEntry loops x = (l : CodeLoop) × Contains loops l × (l.entry ≡ x)

pub entries_next : (loops : List CodeLoop) (k : ℕ) (l d : CodeLoop) (old marks : List Bool) → k < length loops → l ≡ get_or loops k d → l.entry < length marks
    → ((x : ℕ) → IsMarked marks x ↔ (IsMarked old x ⊎ IsEntry (take k loops) x))
    → (x : ℕ) → IsMarked (set marks l.entry true) x ↔ (IsMarked old x ⊎ IsEntry (take (k + 1) loops) x)
entries_next loops k l d old marks lt e fits before x =
    let more = marked_more marks l.entry x fits in (
      λ m. elim (more.0 m) [
        | inl was ↦ elim ((before x).0 was) [ inl o ↦ inl o | inr n ↦ inr (n.0, in_next loops k l d n.0 lt e (inl n.1), n.2) ]
        | inr same ↦ inr (l, in_next loops k l d l lt e (inr refl), same)
      ],
      λ h. elim h [
        | inl o ↦ more.1 (inl ((before x).1 (inl o)))
        | inr n ↦ elim (from_next loops k l d n.0 lt e n.1) [
          | inl c ↦ more.1 (inl ((before x).1 (inr (n.0, c, n.2))))
          | inr same ↦ more.1 (inr (ap (λ (j : CodeLoop). j.entry) same ∙ n.2))
        ]
      ],
    )

pub entries_all : (loops : List CodeLoop) (k : ℕ) (old marks : List Bool) → length loops ≤ k
    → ((x : ℕ) → IsMarked marks x ↔ (IsMarked old x ⊎ IsEntry (take k loops) x)) → (x : ℕ) → IsMarked marks x ↔ (IsMarked old x ⊎ IsEntry loops x)
entries_all loops k old marks le h = subst (λ ls. (x : ℕ) → IsMarked marks x ↔ (IsMarked old x ⊎ IsEntry ls x)) (take_all k loops le) h

-- all marks together
pub heads_all : (size : ℕ) (came : List (ℕ × Point)) (loops : List CodeLoop) (joins marks : List Bool) (xs : List ℕ) → length joins ≡ size → 0 < size
    → ((c : CodeLoop) → Contains loops c → c.entry < size)
    → ((x : ℕ) → x < size → IsMarked joins x ↔ AreTwo came x)
    → ((x : ℕ) → IsMarked marks x ↔ (IsMarked (set joins 0 true) x ⊎ IsEntry loops x))
    → ((x : ℕ) → Contains xs x ↔ IsMarked marks x)
    → (x : ℕ) → Contains xs x ↔ ((x < size) × ((x ≡ 0) ⊎ (IsEntry loops x ⊎ AreTwo came x)))
heads_all size came loops joins marks xs count some entries two all held x =
    let more = marked_more joins 0 x (omega arith) in (
      λ c. elim ((all x).0 ((held x).0 c)) [
        | inl m ↦ elim (more.0 m) [
          | inl j ↦ let lt = marked_below joins x j in let within : x < size = omega arith in (within, inr (inr ((two x within).0 j)))
          | inr zero_is ↦ (omega arith, inl (sym zero_is))
        ]
        | inr n ↦ (subst (λ y. y < size) n.2 (entries n.0 n.1), inr (inl n))
      ],
      λ h. (held x).1 ((all x).1 (elim h.1 [
        | inl zero_is ↦ inl (more.1 (inr (sym zero_is)))
        | inr (inl n) ↦ inr n
        | inr (inr t) ↦ inl (more.1 (inl ((two x h.0).1 t)))
      ])),
    )
