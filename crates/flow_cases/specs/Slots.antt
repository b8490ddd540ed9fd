-- whether each of a list of slots is marked, as a fact
use Rattle.std.specs.Prelude.{◌≡◌, ℕ, Bool, true, false, not, ◌||◌, Option, Some, None, List, length, map, slice_index_or}
use Rattle.std.specs.List.{zip, list_all}
use Rattle.fix_engine.specs.Order.{Order}

-- whether a slot is there and marked; no slot counts as marked
abbrev pub is_marked : Option ℕ → List Bool → Bool
is_marked None slots = true
is_marked (Some slot) slots = slice_index_or slots slot false

abbrev pub implies : Bool → Bool → Bool
implies a b = not a || b

-- slots of one number, fewer of which are marked, lie below
abbrev pub marks : Order (List Bool)
marks =
    record {
      Alike = λ a b. length a ≡ length b;
      leq = λ a b. list_all (λ p. implies p.0 p.1) (zip a b);
      join = λ a b. map (λ p. p.0 || p.1) (zip a b);
    }
