use Rattle.std.specs.Prelude.{◌≡◌, ◌≢◌, ℕ, List, Option, Some, None}
use Rattle.graph_loops.specs.Nesting.{Holds, LiesWithin}

-- The innermost of the loops that hold x and don't begin at e, by its entry, or none. Where e is x, this is the
-- parent; where e is no node, it is the innermost loop that holds x.
abbrev pub IsNearest : List (List ℕ) → ℕ → ℕ → ℕ → Option ℕ → Type 0
IsNearest g root x e None = (h : ℕ) → Holds g root h x → h ≡ e
IsNearest g root x e (Some h) =
    Holds g root h x × (h ≢ e) × ((k : ℕ) → Holds g root k x → k ≢ e → LiesWithin g root h k)
