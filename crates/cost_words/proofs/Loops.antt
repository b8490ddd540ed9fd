-- Words that are read one after another.
use Rattle.std.proofs.Common.{ℕ, List, ◌++◌, Result, Ok}
use Rattle.cost_words.specs.declared.fault.WordFault.{WordFault}
use Rattle.cost_words.specs.declared.command.PathWord.{PathWord}
use Rattle.cost_words.specs.Reading.{Left, ◌>>=◌}

-- these paths, and those behind them
abbrev pub with_paths : List PathWord → Result (List PathWord) WordFault → Result (List PathWord) WordFault
with_paths front paths = paths >>= λ (all : List PathWord). Ok (front ++ all)

-- these arguments, and those behind them
abbrev pub with_args : List (List ℕ) → Result (List (List ℕ) × Left) WordFault → Result (List (List ℕ) × Left) WordFault
with_args front args = args >>= λ (all : List (List ℕ) × Left). Ok (front ++ all.0, all.1)
