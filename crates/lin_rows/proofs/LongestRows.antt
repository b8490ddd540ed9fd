-- The longest list of coefficients among rows.
use Rattle.std.specs.Prelude.{ℕ, zero, suc, ◌+◌, ◌<◌, ◌≤◌, ◌≡◌, max, pos, List, [], ◌∷◌, length}
use Rattle.std.proofs.Common.{arith, sym, ap, ◌∙◌, get_or, drop}
use Rattle.std.proofs.lemmas.List.Elements.{All-from_get_or}
use Rattle.std.proofs.lemmas.List.{drop_more, drop_all}
use Rattle.lin_rows.specs.declared.row.Row.{Row}
use Rattle.lin_rows.specs.Linear.{Linear}
use Rattle.lin_rows.specs.Rows.{lins, longest_of, HaveRoom}

regroup : (a b c : ℕ) → max a (max b c) ≡ max (max b a) c
regroup a b c = omega arith

pub longest_step : (rows : List Row) (i k all : ℕ) (row : Row) → i < length rows → row ≡ get_or rows i row → max k (longest_of (lins (drop i rows))) ≡ all → max (max (length row.lin.coefficients) k) (longest_of (lins (drop (i + 1) rows))) ≡ all
longest_step rows i k all row h is so_far =
    let parts : drop i rows ≡ row ∷ drop (i + 1) rows = drop_more rows i row h ∙ ap (λ (r : Row). r ∷ drop (i + 1) rows) (sym is) in
    sym (ap (λ (rs : List Row). max k (longest_of (lins rs))) parts ∙ regroup k (length row.lin.coefficients) (longest_of (lins (drop (i + 1) rows)))) ∙ so_far

pub longest_end : (rows : List Row) (i k all : ℕ) → length rows ≤ i → max k (longest_of (lins (drop i rows))) ≡ all → k ≡ all
longest_end rows i k all h so_far =
    let none : max k (longest_of (lins (drop i rows))) ≡ k = rw (drop_all i rows h) (omega arith) in
    sym none ∙ so_far

none : Linear
none = record { coefficients = []; constant = pos 0 }

is_under : (rows : List Linear) (i : ℕ) → i < length rows → length (get_or rows i none).coefficients ≤ longest_of rows
is_under [] i h = absurd (omega (arith, h))
is_under (l ∷ rows) zero h = omega arith
is_under (l ∷ rows) (suc i) h =
    let other = is_under rows i (omega (arith, h)) in
    omega (arith, other)

pub longest_room : (rows : List Linear) (k : ℕ) → k ≡ longest_of rows → HaveRoom k rows
longest_room rows k e = record {
  each = All-from_get_or (λ (l : Linear). length l.coefficients ≤ k) rows none (λ i h. let under = is_under rows i h in omega (arith, under, e));
}
