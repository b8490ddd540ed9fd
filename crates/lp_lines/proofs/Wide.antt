-- Where the table's pivot ends with an operation, that is one of the pivot, and too wide.
use Rattle.std.specs.Prelude.{◌≡◌, ◌≢◌, ℕ, ◌<◌, pos, List, length, Some, None}
use Rattle.std.proofs.Common.{arith, sym, ap, ◌∙◌, subst}
use Rattle.q128.specs.Fraction.{Fraction, whole}
use Rattle.q128.specs.Rule.{mul_rule, div_rule}
use Rattle.q128.specs.declared.q.TooWide.{TooWide}
use Rattle.q128.specs.declared.q.QOp.{QOp}
use Rattle.q128.specs.declared.q.QOp.TheVariants.{Sub, Mul, Div}
use Rattle.lin_rows.specs.Linear.{Linear}
use Rattle.solver_paths.specs.Making.{rule_of, IsTooWide, Place, number_at, IsOther, IsBeside, PivotMakes}
use Rattle.solver_paths.specs.Making as making
use Rattle.lp_lines.specs.Numbers.{place_of}
use Rattle.lp_lines.specs.inside.Lines.{FailsSolving, FailsRest, here, other, share}
use Rattle.lp_lines.specs.Tables.{Tableau, line_at, number_out, number_in, dictionary_of, IsTableau, HasPivotAt, IsWidePivot}
use Rattle.lp_lines.specs.inside.Moves.{FailsPivotAt, solving, putting}
use Rattle.lp_lines.proofs.Before.{index, number_is, pivot_is, pivot_line_is, share_is, place_back, line_back, line_back_is}
use Rattle.lp_lines.proofs.Steps.{Fails, failed, divided_is, WideSolved, at_quotient, at_opposite, solving_wide, WideRest, at_product, at_rest, putting_wide}

operation : QOp → Fraction → Fraction → TooWide
operation op a b = record { a = a; b = b; op = op }

too_wide : (op : QOp) (a b : Fraction) (e : TooWide) → Fails (rule_of op a b) (operation op a b) e → IsTooWide e
unfolding operation
too_wide op a b e f = subst (λ (w : TooWide). rule_of w.op w.a w.b ≡ None) (sym f.is) f.none

named : (op : QOp) (a b x y : Fraction) (e : TooWide) → Fails (rule_of op a b) (operation op a b) e → x ≡ a → y ≡ b → e ≡ record { a = x; b = y; op = op }
unfolding operation
named op a b x y e f ea eb = f.is ∙ ap (λ z. record { a = z; b = b; op = op }) (sym ea) ∙ ap (λ z. record { a = x; b = z; op = op }) (sym eb)

module _ {rows : List Linear} {t : Tableau} {line column : ℕ} (is : IsTableau rows t) (has : HasPivotAt line column t) where
  abbrev r : ℕ
  r = number_out t line

  abbrev c : ℕ
  c = number_in t column

  abbrev k : Fraction
  k = place_of (line_at t line) column

  abbrev Makes : TooWide → Type 0
  Makes = IsWidePivot rows line column t

  -- the line of the pivot
  pivot_number : (i : ℕ) (q : Place) → index t.chosen q ≡ i → number_at (dictionary_of t) r q ≡ place_of (line_at t line) i
  pivot_number i q at = pivot_line_is is has q ∙ ap (place_of (line_at t line)) at

  wide_solved : (i : ℕ) (q : Place) (e : TooWide) → IsOther t.chosen c q → index t.chosen q ≡ i → WideSolved k (place_of (line_at t line) i) e → Makes e
  unfolding operation
  wide_solved i q e o at (at_quotient f) = record {
    makes = making.quotient q o (named Div (place_of (line_at t line) i) k (number_at (dictionary_of t) r q) ((dictionary_of t).coefficient r c) e f (pivot_number i q at) (pivot_is is has));
    too_wide = too_wide Div (place_of (line_at t line) i) k e f;
  }
  wide_solved i q e o at (at_opposite x made f) = record {
    makes = making.opposite q x o (ap (div_rule (number_at (dictionary_of t) r q)) (pivot_is is has) ∙ ap (λ z. div_rule z k) (pivot_number i q at) ∙ made) f.is;
    too_wide = too_wide Sub (whole (pos 0)) x e f;
  }

  solving_makes : (e : TooWide) → FailsSolving column (line_at t line) e → Makes e
  unfolding operation
  solving_makes e (here h) =
      let f = failed (div_rule (whole (pos 1)) k) (record { a = whole (pos 1); b = k; op = Div }) e h in
      record {
        makes = making.inverse (f.is ∙ ap (λ z. record { a = whole (pos 1); b = z; op = Div }) (sym (pivot_is is has)));
        too_wide = too_wide Div (whole (pos 1)) k e f;
      }
  solving_makes e (other i within apart h) =
      let at = place_back is has i (omega (arith, has.widths line has.line_within)) apart in
      wide_solved i at.0 e at.1.other at.1.is (solving_wide k (place_of (line_at t line) i) e h)

  -- another line
  out_number : (h i : ℕ) (q : Place) → h < length t.lines → index t.chosen q ≡ i → number_at (dictionary_of t) (number_out t h) q ≡ place_of (line_at t h) i
  out_number h i q within at = number_is t (number_out t h) q ∙ ap (λ g. place_of (line_at t g) (index t.chosen q)) (line_back_is is has h within) ∙ ap (place_of (line_at t h)) at

  out_share : (h : ℕ) → h < length t.lines → (dictionary_of t).coefficient (number_out t h) c ≡ place_of (line_at t h) column
  out_share h within = share_is is has (number_out t h) ∙ ap (λ g. place_of (line_at t g) column) (line_back_is is has h within)

  out_divides : (h : ℕ) (s : Fraction) → h < length t.lines → div_rule (place_of (line_at t h) column) k ≡ Some s → div_rule ((dictionary_of t).coefficient (number_out t h) c) ((dictionary_of t).coefficient r c) ≡ Some s
  out_divides h s within made = ap (div_rule ((dictionary_of t).coefficient (number_out t h) c)) (pivot_is is has) ∙ ap (λ z. div_rule z k) (out_share h within) ∙ made

  wide_rest : (h i : ℕ) (q : Place) (s : Fraction) (e : TooWide) → h < length t.lines → IsBeside rows t.chosen r (number_out t h) → div_rule (place_of (line_at t h) column) k ≡ Some s → IsOther t.chosen c q → index t.chosen q ≡ i → WideRest s (place_of (line_at t h) i) (place_of (line_at t line) i) e → Makes e
  unfolding operation
  wide_rest h i q s e within b made o at (at_product f) = record {
    makes = making.product (number_out t h) s q b o (out_divides h s within made) (f.is ∙ ap (λ z. record { a = s; b = z; op = Mul }) (sym (pivot_number i q at)));
    too_wide = too_wide Mul s (place_of (line_at t line) i) e f;
  }
  wide_rest h i q s e within b made o at (at_rest x times f) = record {
    makes = making.rest (number_out t h) s x q b o (out_divides h s within made) (ap (mul_rule s) (pivot_number i q at) ∙ times) (f.is ∙ ap (λ z. record { a = z; b = x; op = Sub }) (sym (out_number h i q within at)));
    too_wide = too_wide Sub (place_of (line_at t h) i) x e f;
  }

  putting_makes : (h : ℕ) (e : TooWide) → h < length t.lines → h ≢ line → FailsRest column (line_at t line) (line_at t h) e → Makes e
  unfolding operation
  putting_makes h e within apart (share f) =
      let m = place_of (line_at t h) column in
      let w = failed (div_rule m k) (record { a = m; b = k; op = Div }) e f in
      record {
        makes = making.share (number_out t h) (line_back is has h within apart) (named Div m k ((dictionary_of t).coefficient (number_out t h) c) ((dictionary_of t).coefficient r c) e w (out_share h within) (pivot_is is has));
        too_wide = too_wide Div m k e w;
      }
  putting_makes h e within apart (other s i made inside past f) =
      let at = place_back is has i (omega (arith, has.widths h within)) past in
      wide_rest h i at.0 s e within (line_back is has h within apart) (divided_is (place_of (line_at t h) column) k s made) at.1.other at.1.is (putting_wide s (place_of (line_at t h) i) (place_of (line_at t line) i) e f)

  pub wide_pivot : (e : TooWide) → FailsPivotAt line column t e → Makes e
  wide_pivot e (solving f) = solving_makes e f
  wide_pivot e (putting h within apart f) = putting_makes h e within apart f
