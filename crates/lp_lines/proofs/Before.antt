-- Where the numbers of a pivot stand in the table.
use Rattle.std.specs.Prelude.{◌≡◌, ◌≢◌, ℕ, suc, ◌<◌, ◌≤◌, List, length, get_or, Contains}
use Rattle.std.proofs.Common.{arith, inl, inr, refl, ap, ◌∙◌}
use Rattle.std.proofs.lemmas.Bool.{cases_lt}
use Rattle.lin_rows.specs.Linear.{Linear}
use Rattle.solver_paths.specs.Choices.{IsOut}
use Rattle.solver_paths.specs.Making.{Place, Constant, Of, number_at, IsOther, IsBeside}
use Rattle.lp_lines.specs.Numbers.{place_of}
use Rattle.lp_lines.specs.Tables.{Tableau, line_at, AreApart, place_in, number_out, number_in, dictionary_of, IsTableau, HasPivotAt}
use Rattle.lp_lines.proofs.Places.{distinct_apart, apart_places, listed_at, placed, place_found, other_place}

-- where a place of an expression stands in a line
unfoldable pub index : List ℕ → Place → ℕ
index cs Constant = length cs
index cs (Of s) = place_in cs s

pub number_is : (t : Tableau) (n : ℕ) (q : Place) → number_at (dictionary_of t) n q ≡ place_of (line_at t (place_in t.outside n)) (index t.chosen q)
unfolding index
number_is t n Constant = refl
number_is t n (Of s) = refl

-- and back
pub record IsPlaceOf (t : Tableau) (column p : ℕ) (q : Place) : Type 0 where
  pub other : IsOther t.chosen (number_in t column) q
  pub is : index t.chosen q ≡ p

module _ {rows : List Linear} {t : Tableau} {line column : ℕ} (is : IsTableau rows t) (has : HasPivotAt line column t) where
  pub chosen_apart : AreApart t.chosen
  chosen_apart = distinct_apart t.chosen is.dictionary.distinct

  pub entering_listed : Contains t.outside (number_out t line)
  entering_listed = listed_at t.outside line has.outside_within

  pub entering_out : IsOut rows t.chosen (number_out t line)
  entering_out = (is.outside (number_out t line)).1 entering_listed

  pub leaving_chosen : Contains t.chosen (number_in t column)
  leaving_chosen = listed_at t.chosen column has.column_within

  pub leaving_new : Contains t.outside (number_in t column) → ⊥
  leaving_new h = ((is.outside (number_in t column)).1 h).apart leaving_chosen

  pub line_is : place_in t.outside (number_out t line) ≡ line
  line_is = placed t.outside line (get_or t.outside line 0) is.apart has.outside_within refl

  pub column_is : place_in t.chosen (number_in t column) ≡ column
  column_is = placed t.chosen column (get_or t.chosen column 0) chosen_apart has.column_within refl

  -- the number that is divided by, and the others of its line
  pub pivot_is : (dictionary_of t).coefficient (number_out t line) (number_in t column) ≡ place_of (line_at t line) column
  pivot_is = ap (λ h. place_of (line_at t h) (place_in t.chosen (number_in t column))) line_is ∙ ap (place_of (line_at t line)) column_is

  pub pivot_line_is : (q : Place) → number_at (dictionary_of t) (number_out t line) q ≡ place_of (line_at t line) (index t.chosen q)
  pivot_line_is q = number_is t (number_out t line) q ∙ ap (λ h. place_of (line_at t h) (index t.chosen q)) line_is

  pub share_is : (n : ℕ) → (dictionary_of t).coefficient n (number_in t column) ≡ place_of (line_at t (place_in t.outside n)) column
  share_is n = ap (place_of (line_at t (place_in t.outside n))) column_is

  -- the places of an expression beside that of the column
  pub index_within : (q : Place) → IsOther t.chosen (number_in t column) q → index t.chosen q < suc (length t.chosen)
  unfolding index
  index_within Constant o = omega arith
  index_within (Of s) o = omega (arith, (place_found t.chosen s chosen_apart o.0).within)

  pub index_other : (q : Place) → IsOther t.chosen (number_in t column) q → index t.chosen q ≢ column
  unfolding index
  index_other Constant o = λ e. absurd (omega (arith, has.column_within))
  index_other (Of s) o = other_place t.chosen column s chosen_apart o.0 o.1

  pub place_back : (p : ℕ) → p < suc (length t.chosen) → p ≢ column → (q : Place) × IsPlaceOf t column p q
  unfolding index
  place_back p within other = elim (cases_lt p (length t.chosen)) [
    | inl lt ↦ (
      Of (get_or t.chosen p 0),
      record {
        other = (listed_at t.chosen p lt, apart_places t.chosen chosen_apart p column lt has.column_within other);
        is = placed t.chosen p (get_or t.chosen p 0) chosen_apart lt refl;
      },
    )
    | inr le ↦ (Constant, record { other = tt; is = last p le within })
  ]
    where
      last : (p : ℕ) → length t.chosen ≤ p → p < suc (length t.chosen) → length t.chosen ≡ p
      last p le lt = omega arith

  -- the lines beside that of the pivot
  pub line_within : (n : ℕ) → IsBeside rows t.chosen (number_out t line) n → place_in t.outside n < length t.lines
  line_within n b = omega (arith, is.lines, (place_found t.outside n is.apart ((is.outside n).0 b.out)).within)

  pub line_other : (n : ℕ) → IsBeside rows t.chosen (number_out t line) n → place_in t.outside n ≢ line
  line_other n b = other_place t.outside line n is.apart ((is.outside n).0 b.out) b.other

  pub line_back : (h : ℕ) → h < length t.lines → h ≢ line → IsBeside rows t.chosen (number_out t line) (number_out t h)
  line_back h within other =
      let inside : h < length t.outside = omega (arith, is.lines) in
      record {
        out = (is.outside (get_or t.outside h 0)).1 (listed_at t.outside h inside);
        other = apart_places t.outside is.apart h line inside has.outside_within other;
      }

  pub line_back_is : (h : ℕ) → h < length t.lines → place_in t.outside (number_out t h) ≡ h
  line_back_is h within = placed t.outside h (get_or t.outside h 0) is.apart (omega (arith, is.lines)) refl
