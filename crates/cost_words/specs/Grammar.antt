-- The grammar of the command line: what the words mean, or the first that is wrong.
use Rattle.std.specs.Prelude.{ℕ, suc, ◌&&◌, Bool, true, false, List, [], ◌∷◌, length, drop, Option, Some, None, option_map, Result, Ok, nat_eq, nat_le, if◌then◌else◌, codes, decimal}
use Rattle.std.specs.List.{starts_with}
use Rattle.std.specs.Str.Parse.{digits_value}
use lib.Pointwise.{pointwise}
use Rattle.class_pool.specs.declared.target.Target.{Target}
use Rattle.cost_words.specs.declared.fault.WordFault.{WordFault}
use Rattle.cost_words.specs.declared.fault.WordKind.{WordKind}
use Rattle.cost_words.specs.declared.fault.WordKind.TheVariants.{NoCommand, UnknownCommand, Missing, Extra, BadTarget, BadNumber}
use Rattle.cost_words.specs.declared.command.PathWord.{PathWord}
use Rattle.cost_words.specs.declared.command.Cost.{Cost}
use Rattle.cost_words.specs.declared.command.Cost.TheVariants.{Instructions, Objects, Weights}
use Rattle.cost_words.specs.declared.command.Command.{Command}
use Rattle.cost_words.specs.declared.command.Command.TheVariants.{Bound, Check, Relations, Run, Sample}
use Rattle.cost_words.specs.Reading.{Left, left, wrong, ◌>>=◌}
use Rattle.cost_words.specs.Target.{is_empty, target_of}

-- the word is this one
abbrev pub is : List ℕ → List ℕ → Bool
is word wanted = pointwise nat_eq word wanted

-- what stands behind this beginning of a word
abbrev pub behind : List ℕ → List ℕ → Option (List ℕ)
behind front word = if starts_with nat_eq word front then Some (drop (length front) word) else None

-- a word that can only be an option
abbrev pub is_option : List ℕ → Bool
is_option word = starts_with nat_eq word (45 ∷ 45 ∷ [])

-- ---- single words

-- the next word, and what is left behind it
abbrev pub word_at : ℕ → List (List ℕ) → Result (List ℕ × Left) WordFault
word_at index [] = wrong Missing index
word_at index (word ∷ words) = Ok (word, left (suc index) words)

-- nothing is left
abbrev pub end_at : ℕ → List (List ℕ) → Result ℕ WordFault
end_at index [] = Ok 0
end_at index (word ∷ words) = wrong Extra index

abbrev pub or_wrong : {A : Type 0} → WordKind → ℕ → Option A → Result A WordFault
or_wrong kind index None = wrong kind index
or_wrong kind index (Some x) = Ok x

-- PATH: not empty
abbrev pub path_at : ℕ → List ℕ → Result PathWord WordFault
path_at index word = if is_empty word then wrong Missing index else Ok (record { path = word; index = index })

-- the number of which this is the decimal text, from low to high
abbrev pub number_within : ℕ → ℕ → List ℕ → Option ℕ
number_within low high text =
    let n = digits_value 10 text in if (is text (decimal n) && nat_le low n) && nat_le n high then Some n else None

abbrev pub number_at : ℕ → ℕ → ℕ → List ℕ → Result ℕ WordFault
number_at low high index word = if is_empty word then wrong Missing index else or_wrong BadNumber index (number_within low high word)

-- REPORT: a path that can't be an option
abbrev pub report_at : ℕ → List ℕ → Result PathWord WordFault
report_at index word = if is_option word then wrong Extra index else path_at index word

-- TARGET
abbrev pub target_at : ℕ → List ℕ → Result Target WordFault
target_at index word =
    if is_option word then wrong Extra index else if is_empty word then wrong Missing index else or_wrong BadTarget index (target_of word)

-- ---- options

-- what stands behind this beginning of the next word, and what is left behind that word
abbrev pub option_at : List ℕ → ℕ → List (List ℕ) → Option (List ℕ × Left)
option_at front index [] = None
option_at front index (word ∷ words) = option_map (λ text. (text, left (suc index) words)) (behind front word)

abbrev pub weights_at : ℕ → Option (List ℕ) → Result Cost WordFault
weights_at index None = wrong Extra index
weights_at index (Some path) = path_at index path >>= λ p. Ok (Weights p)

-- instructions, objects, or weights:PATH
unfoldable pub cost_at : ℕ → List ℕ → Result Cost WordFault
cost_at index text =
    if is text (codes "instructions") then Ok Instructions else if is text (codes "objects") then Ok Objects
    else weights_at index (behind (codes "weights:") text)

abbrev pub cost_if : ℕ → List (List ℕ) → Option (List ℕ × Left) → Result (Cost × Left) WordFault
cost_if index words None = Ok (Instructions, left index words)
cost_if index words (Some o) = cost_at index o.0 >>= λ cost. Ok (cost, o.1)

-- [--cost=C]
unfoldable pub cost_option : ℕ → List (List ℕ) → Result (Cost × Left) WordFault
cost_option index words = cost_if index words (option_at (codes "--cost=") index words)

abbrev pub most_steps : ℕ
most_steps = 100000000

abbrev pub steps_if : ℕ → List (List ℕ) → Option (List ℕ × Left) → Result (ℕ × Left) WordFault
steps_if index words None = Ok (most_steps, left index words)
steps_if index words (Some o) = or_wrong BadNumber index (number_within 1 most_steps o.0) >>= λ steps. Ok (steps, o.1)

-- [--steps=N]
unfoldable pub steps_option : ℕ → List (List ℕ) → Result (ℕ × Left) WordFault
steps_option index words = steps_if index words (option_at (codes "--steps=") index words)

-- [--proof]
unfoldable pub proof_option : ℕ → List (List ℕ) → Bool × Left
proof_option index [] = (false, left index [])
proof_option index (word ∷ words) = if is word (codes "--proof") then (true, left (suc index) words) else (false, left index (word ∷ words))

-- ---- lists of words

-- PATH PATH ..
abbrev pub paths_from : ℕ → List (List ℕ) → Result (List PathWord) WordFault
paths_from index [] = Ok []
paths_from index (word ∷ words) = path_at index word >>= λ path. paths_from (suc index) words >>= λ paths. Ok (path ∷ paths)

-- FILE..: at least one
abbrev pub files_at : ℕ → List (List ℕ) → Result (List PathWord) WordFault
files_at index [] = wrong Missing index
files_at index (word ∷ words) = paths_from index (word ∷ words)

-- ARG.. --
abbrev pub args_at : ℕ → List (List ℕ) → Result (List (List ℕ) × Left) WordFault
args_at index [] = wrong Missing index
args_at index (word ∷ words) =
    if is word (45 ∷ 45 ∷ []) then Ok ([], left (suc index) words)
    else args_at (suc index) words >>= λ args. Ok (word ∷ args.0, args.1)

-- TARGET, and what is left behind it
unfoldable pub target_word : ℕ → List (List ℕ) → Result (Target × Left) WordFault
target_word index words = word_at index words >>= λ word. target_at index word.0 >>= λ target. Ok (target, word.1)

-- ---- commands

-- bound [--cost=C] [--proof] TARGET FILE..
unfoldable pub bound_at : ℕ → List (List ℕ) → Result Command WordFault
bound_at index words = do
  cost ← cost_option index words
  let proof = proof_option cost.1.index cost.1.words
  target ← target_word proof.1.index proof.1.words
  files ← files_at target.1.index target.1.words
  Ok (Bound cost.0 proof.0 target.0 files)

-- check [--cost=C] REPORT TARGET FILE..
unfoldable pub check_at : ℕ → List (List ℕ) → Result Command WordFault
check_at index words = do
  cost ← cost_option index words
  word ← word_at cost.1.index cost.1.words
  report ← report_at cost.1.index word.0
  target ← target_word word.1.index word.1.words
  files ← files_at target.1.index target.1.words
  Ok (Check cost.0 report target.0 files)

-- relations [--cost=C] TARGET FILE..
unfoldable pub relations_at : ℕ → List (List ℕ) → Result Command WordFault
relations_at index words = do
  cost ← cost_option index words
  target ← target_word cost.1.index cost.1.words
  files ← files_at target.1.index target.1.words
  Ok (Relations cost.0 target.0 files)

-- run [--cost=C] [--steps=N] TARGET ARG.. -- FILE..
unfoldable pub run_at : ℕ → List (List ℕ) → Result Command WordFault
run_at index words = do
  cost ← cost_option index words
  steps ← steps_option cost.1.index cost.1.words
  target ← target_word steps.1.index steps.1.words
  args ← args_at target.1.index target.1.words
  files ← files_at args.1.index args.1.words
  Ok (Run cost.0 steps.0 target.0 args.0 files)

-- sample N M: N from 0 to 4294967295, M from 1 to 2000
unfoldable pub sample_at : ℕ → List (List ℕ) → Result Command WordFault
sample_at index words = do
  first ← word_at index words
  number ← number_at 0 4294967295 index first.0
  second ← word_at first.1.index first.1.words
  methods ← number_at 1 2000 first.1.index second.0
  end ← end_at second.1.index second.1.words
  Ok (Sample number methods)

unfoldable pub named_at : List ℕ → ℕ → List (List ℕ) → Result Command WordFault
named_at name index words =
    if is name (codes "bound") then bound_at index words
    else if is name (codes "check") then check_at index words
    else if is name (codes "relations") then relations_at index words
    else if is name (codes "run") then run_at index words
    else if is name (codes "sample") then sample_at index words
    else wrong UnknownCommand 1

-- the whole command line
abbrev pub command_of : List (List ℕ) → Result Command WordFault
command_of [] = wrong NoCommand 1
command_of (name ∷ words) = named_at name 2 words
