-- Where the words and locals that an instruction leaves have their values from (JVMS 6.5), as far as they may hold no null:
-- a new object or array, or a copy of a local or of a word that it pops.
use Rattle.std.specs.Prelude.{ℕ, ◌+◌, List, [], ◌∷◌}
use Rattle.op_table.specs.declared.acts.Action.{Action}
use Rattle.op_table.specs.declared.acts.Action.TheVariants as acts
use Rattle.op_table.specs.declared.acts.Kind as values
use Rattle.op_table.specs.declared.acts.Kind.TheVariants as value
use Rattle.op_table.specs.declared.acts.Shuffle.{Shuffle}
use Rattle.op_table.specs.declared.acts.Shuffle.TheVariants.{Pop, Pop2, Dup, DupX1, DupX2, Dup2, Dup2X1, Dup2X2, Swap}
use Rattle.null_flow.specs.declared.origins.Origin.{Origin}
use Rattle.null_flow.specs.declared.origins.Origin.TheVariants.{New, Local, Word, Number}
use Rattle.null_flow.specs.declared.origins.Stored.{Stored}

-- ---- words

-- the words that a move leaves, from the bottom up, by the places of those that it pops (JVMS 6.5.pop to 6.5.swap)
abbrev pub moved : Shuffle → List Origin
moved Pop = []
moved Pop2 = []
moved Dup = Word 0 ∷ Word 0 ∷ []
moved DupX1 = Word 1 ∷ Word 0 ∷ Word 1 ∷ []
moved DupX2 = Word 2 ∷ Word 0 ∷ Word 1 ∷ Word 2 ∷ []
moved Dup2 = Word 0 ∷ Word 1 ∷ Word 0 ∷ Word 1 ∷ []
moved Dup2X1 = Word 1 ∷ Word 2 ∷ Word 0 ∷ Word 1 ∷ Word 2 ∷ []
moved Dup2X2 = Word 2 ∷ Word 3 ∷ Word 0 ∷ Word 1 ∷ Word 2 ∷ Word 3 ∷ []
moved Swap = Word 1 ∷ Word 0 ∷ []

abbrev pub loaded : values.Kind → ℕ → List Origin
loaded value.Int n = []
loaded value.Long n = []
loaded value.Reference n = Local n ∷ []

-- The words that the action pushes: copies keep what is known of their source, and what is made is no null. Of all else that
-- is pushed, as the null constant, numbers, results, and references that are read, nothing is known.
unfoldable pub pushes : Action → List Origin
pushes (acts.Load kind n) = loaded kind n
pushes (acts.Shuffle s) = moved s
pushes (acts.New i) = New ∷ []
pushes (acts.NewArray kind) = New ∷ []
pushes (acts.NewReferenceArray i) = New ∷ []
pushes (acts.CheckCast i) = Word 0 ∷ []
pushes action = []

-- ---- locals

abbrev pub number_in : ℕ → Stored
number_in n = record { local = n; origin = Number }

abbrev pub stored_as : values.Kind → ℕ → List Stored
stored_as value.Int n = number_in n ∷ []
stored_as value.Long n = number_in n ∷ number_in (n + 1) ∷ []
stored_as value.Reference n = record { local = n; origin = Word 0 } ∷ []

-- the locals that the action stores to
unfoldable pub stores : Action → List Stored
stores (acts.Store kind n) = stored_as kind n
stores (acts.Increment n k) = number_in n ∷ []
stores action = []
