-- The table of the first choice.
use Rattle.std.specs.Prelude.{◌≡◌, ◌↔◌, ℕ, suc, ◌+◌, ◌-◌, ◌<◌, ◌≤◌, pos, List, [], ◌∷◌, ◌++◌, length, get_or, drop, Contains}
use Rattle.std.specs.List.{range_with_len}
use Rattle.std.proofs.Common.{arith, inl, inr, sym, ap, ◌∙◌, subst, lit<}
use Rattle.std.proofs.lemmas.Bool.{cases_lt}
use Rattle.std.proofs.lemmas.List.{get_or_past, get_or-map, length-map, length-append, get_or_append_left, get_or-append_right, drop_more, append_assoc}
use Rattle.std.proofs.lemmas.List.FromFn.{length-range_with_len, get_or-range_with_len, length-map-range_with_len, get_or-map-range_with_len}
use Rattle.q128.specs.Fraction.{Fraction, whole, IsSame, plus, times}
use Rattle.common_laws.proofs.Members.{contains_head, contains_tail}
use Rattle.lin_rows.specs.Linear.{Linear, coefficient_of, nothing}
use Rattle.lin_rows.specs.Rows.{lins}
use Rattle.lin_rows.specs.declared.row.Row.{Row}
use Rattle.solver_paths.specs.Choices.{variable_count, row_of, first_choice, IsRow, IsOut, Dictionary, expressed, IsDictionary}
use Rattle.solver_paths.specs.Dictionaries.{rows_dictionary}
use Rattle.solver_paths.proofs.Starting.{rows_start, in_range, out_is_row, row_is_out}
use Rattle.lp_lines.specs.Numbers.{IsNumber, place_of}
use Rattle.lp_lines.specs.Tables.{Tableau, line_at, AreApart, place_in, dictionary_of, IsTableau}
use Rattle.lp_lines.specs.inside.First.{coefficients_to, first_line, first_lines, AreNumbers}
use Rattle.lp_lines.proofs.Fitting.{whole_number, number_lowest}
use Rattle.lp_lines.proofs.Places.{placed}

-- ---- a dictionary of the same numbers, where they count
expressed_same : (d e : Dictionary) (cs : List ℕ) (x : ℕ → Fraction) (n : ℕ) → d.constant n ≡ e.constant n → ((c : ℕ) → Contains cs c → d.coefficient n c ≡ e.coefficient n c) → expressed d cs x n ≡ expressed e cs x n
expressed_same d e [] x n constant coefficients = constant
expressed_same d e (c ∷ cs) x n constant coefficients =
    ap (λ z. plus (times z (x c)) (expressed d cs x n)) (coefficients c (contains_head c cs))
    ∙ ap (plus (times (e.coefficient n c) (x c))) (expressed_same d e cs x n constant (λ s h. coefficients s (contains_tail c cs s h)))

-- ---- lines of rows
line_long : (n : ℕ) (l : Linear) → length (first_line n l) ≡ suc n
line_long n l = let e = length-map-range_with_len (λ v. whole (coefficient_of l v)) 0 n in omega (arith, e, length-append (coefficients_to n l) (whole l.constant ∷ []))

line_coefficient : (n : ℕ) (l : Linear) (v : ℕ) → v < n → place_of (first_line n l) v ≡ whole (coefficient_of l v)
line_coefficient n l v lt =
    let e = length-map-range_with_len (λ v. whole (coefficient_of l v)) 0 n in
    get_or_append_left (coefficients_to n l) (whole l.constant ∷ []) (whole (pos 0)) v (omega (arith, e)) ∙ get_or-map-range_with_len (λ v. whole (coefficient_of l v)) 0 n v v (whole (pos 0)) lt (omega arith)

line_constant : (n : ℕ) (l : Linear) → place_of (first_line n l) n ≡ whole l.constant
line_constant n l =
    let e = length-map-range_with_len (λ v. whole (coefficient_of l v)) 0 n in
    get_or-append_right (coefficients_to n l) (whole l.constant ∷ []) n n (whole (pos 0)) e (omega arith) ∙ ap (λ i. place_of (whole l.constant ∷ []) i) (none n)
  where
    none : (n : ℕ) → n - n ≡ 0
    none n = omega arith

-- ---- ranges
range_apart : (a k : ℕ) → AreApart (range_with_len a k)
range_apart a k = record { each = each }
  where
    each : (i j : ℕ) → i < j → j < length (range_with_len a k) → get_or (range_with_len a k) i 0 ≡ get_or (range_with_len a k) j 0 → ⊥
    each i j lt within same =
        let long = length-range_with_len a k in
        let one = get_or-range_with_len a k i 0 (omega arith) in
        let two = get_or-range_with_len a k j 0 (omega arith) in
        absurd (omega arith)

range_place : (a k x : ℕ) → a ≤ x → x < a + k → place_in (range_with_len a k) x ≡ x - a
range_place a k x le lt = placed (range_with_len a k) (x - a) x (range_apart a k) (omega (arith, length-range_with_len a k)) (get_or-range_with_len a k (x - a) 0 (omega arith) ∙ back le)
  where
    back : a ≤ x → a + (x - a) ≡ x
    back le = omega arith

range_holds : (a k x : ℕ) → a ≤ x → x < a + k → Contains (range_with_len a k) x
range_holds a k x le lt = (x - a, omega (arith, length-range_with_len a k), get_or-range_with_len a k (x - a) x (omega arith) ∙ back le)
  where
    back : a ≤ x → a + (x - a) ≡ x
    back le = omega arith

-- ---- the table
abbrev first_table : List Linear → Tableau
first_table rows = record {
  chosen = first_choice rows;
  outside = range_with_len (variable_count rows) (length rows);
  lines = first_lines (variable_count rows) rows;
}

module _ (rows : List Linear) (numbers : AreNumbers (first_lines (variable_count rows) rows)) where
  abbrev n : ℕ
  n = variable_count rows

  abbrev t : Tableau
  t = first_table rows

  line_of : (h : ℕ) → h < length rows → line_at t h ≡ first_line n (get_or rows h nothing)
  line_of h lt = get_or-map (first_line n) rows h nothing [] lt

  lines_long : length t.lines ≡ length rows
  lines_long = length-map rows (first_line n)

  numbers_at : (h p : ℕ) → IsNumber (place_of (line_at t h) p)
  numbers_at h p = elim (cases_lt h (length rows)) [
    | inl lt ↦ elim (cases_lt p (length (line_at t h))) [
      | inl within ↦ numbers h [] (omega (arith, lines_long)) p (whole (pos 0)) within
      | inr past ↦ subst IsNumber (sym (get_or_past (line_at t h) p (whole (pos 0)) past)) (whole_number (pos 0) (lit< tt))
    ]
    | inr le ↦ subst (λ xs. IsNumber (place_of xs p)) (sym (get_or_past t.lines h [] (omega (arith, lines_long)))) (subst IsNumber (sym (get_or_past [] p (whole (pos 0)) (omega arith))) (whole_number (pos 0) (lit< tt)))
  ]

  row_place : (x : ℕ) → IsRow rows x → place_in t.outside x ≡ x - n
  row_place x r = range_place n (length rows) x r.past_variables r.within

  row_there : (x : ℕ) → IsRow rows x → get_or rows (x - n) nothing ≡ row_of rows x
  row_there x r = ap (λ i. get_or rows i nothing) (back r.past_variables)
    where
      back : n ≤ x → x - n ≡ suc x - n - 1
      back le = omega arith

  row_line : (x : ℕ) → IsRow rows x → line_at t (place_in t.outside x) ≡ first_line n (row_of rows x)
  row_line x r = ap (line_at t) (row_place x r) ∙ line_of (x - n) (omega (arith, r.past_variables, r.within)) ∙ ap (first_line n) (row_there x r)

  constants : (x : ℕ) → IsOut rows t.chosen x → (rows_dictionary rows).constant x ≡ (dictionary_of t).constant x
  constants x o =
      let r = out_is_row rows x o in
      sym (ap (λ l. place_of l (length t.chosen)) (row_line x r) ∙ ap (place_of (first_line n (row_of rows x))) (length-range_with_len 0 n) ∙ line_constant n (row_of rows x))

  coefficients : (x c : ℕ) → IsOut rows t.chosen x → Contains t.chosen c → (rows_dictionary rows).coefficient x c ≡ (dictionary_of t).coefficient x c
  coefficients x c o there =
      let r = out_is_row rows x o in
      let within : c < n = omega (arith, (in_range 0 n c there).1) in
      sym (ap (λ l. place_of l (place_in t.chosen c)) (row_line x r) ∙ ap (place_of (first_line n (row_of rows x))) (range_place 0 n c (omega arith) (omega (arith, within)) ∙ less c) ∙ line_coefficient n (row_of rows x) c within)
    where
      less : (c : ℕ) → c - 0 ≡ c
      less c = omega arith

  dictionary : IsDictionary rows t.chosen (dictionary_of t)
  dictionary =
      let start = rows_start rows in
      record {
        size = start.size;
        distinct = start.distinct;
        below = start.below;
        constants = λ x. number_lowest ((dictionary_of t).constant x) (numbers_at (place_in t.outside x) (length t.chosen));
        coefficients = λ x c. number_lowest ((dictionary_of t).coefficient x c) (numbers_at (place_in t.outside x) (place_in t.chosen c));
        same = λ v. (
          λ solves. record { each = λ x o. subst (IsSame (v x)) (expressed_same (rows_dictionary rows) (dictionary_of t) t.chosen v x (constants x o) (λ c h. coefficients x c o h)) (((start.same v).0 solves).each x o) },
          λ expresses. (start.same v).1 (record { each = λ x o. subst (IsSame (v x)) (sym (expressed_same (rows_dictionary rows) (dictionary_of t) t.chosen v x (constants x o) (λ c h. coefficients x c o h))) (expresses.each x o) }),
        );
      }

  outside_is : (x : ℕ) → IsOut rows t.chosen x ↔ Contains t.outside x
  outside_is x = (
    λ o. let r = out_is_row rows x o in range_holds n (length rows) x r.past_variables r.within,
    λ h. let at = in_range n (length rows) x h in row_is_out rows x (record { past_variables = at.0; within = at.1 }),
  )

  table_is : IsTableau rows t
  table_is = record {
    lines = lines_long ∙ sym (length-range_with_len n (length rows));
    widths = λ h lt. let within : h < length rows = omega (arith, lines_long) in ap (λ (l : List Fraction). length l) (line_of h within) ∙ line_long n (get_or rows h nothing) ∙ ap suc (sym (length-range_with_len 0 n));
    apart = range_apart n (length rows);
    outside = outside_is;
    numbers = numbers_at;
    dictionary = dictionary;
  }

pub first_is : (rows : List Linear) (t : Tableau) → t.chosen ≡ first_choice rows → t.outside ≡ range_with_len (variable_count rows) (length rows) → t.lines ≡ first_lines (variable_count rows) rows → AreNumbers t.lines → IsTableau rows t
first_is rows t chosen outside lines numbers =
    let is : first_table rows ≡ t = sym (ap (λ xs. record { chosen = xs; outside = t.outside; lines = t.lines }) chosen ∙ ap (λ xs. record { chosen = first_choice rows; outside = xs; lines = t.lines }) outside ∙ ap (λ xs. record { chosen = first_choice rows; outside = range_with_len (variable_count rows) (length rows); lines = xs }) lines) in
    subst (IsTableau rows) is (table_is rows (subst AreNumbers lines numbers))

-- ---- the loop over the rows
pub lines_step : (n : ℕ) (rows : List Row) (i : ℕ) (done : List (List Fraction)) (row : Row) (line : List Fraction) → i < length rows → row ≡ get_or rows i row → line ≡ first_line n row.lin → done ++ first_lines n (lins (drop i rows)) ≡ first_lines n (lins rows) → (done ++ line ∷ []) ++ first_lines n (lins (drop (i + 1) rows)) ≡ first_lines n (lins rows)
lines_step n rows i done row line lt at is so_far =
    let parts : drop i rows ≡ row ∷ drop (i + 1) rows = drop_more rows i row lt ∙ ap (λ (r : Row). r ∷ drop (i + 1) rows) (sym at) in
    append_assoc done (line ∷ []) (first_lines n (lins (drop (i + 1) rows)))
    ∙ ap (λ (l : List Fraction). done ++ l ∷ first_lines n (lins (drop (i + 1) rows))) is
    ∙ sym (ap (λ (rs : List Row). done ++ first_lines n (lins rs)) parts)
    ∙ so_far
