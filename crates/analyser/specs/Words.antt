-- What the words ask for.
use Rattle.std.specs.Prelude.{ℕ, ◌-◌, Bool, true, false, List, [], ◌∷◌, Result, Ok, Err}
use Rattle.class_pool.specs.declared.target.Target.{Target}
use Rattle.cost_words.specs.declared.command.Command.{Command}
use Rattle.cost_words.specs.declared.command.Command.TheVariants as commands
use Rattle.cost_words.specs.declared.command.Cost.{Cost}
use Rattle.cost_words.specs.declared.command.Cost.TheVariants.{Instructions, Objects, Weights}
use Rattle.cost_words.specs.declared.command.PathWord.{PathWord}
use Rattle.cost_words.specs.declared.fault.WordFault.{WordFault}
use Rattle.cost_words.specs.declared.fault.WordFault.TheVariants.{Memory, Wrong}
use Rattle.cost_words.specs.Grammar.{command_of}
use Rattle.analyser.specs.declared.status.Status.{Status}
use Rattle.analyser.specs.declared.status.Status.TheVariants as answers
use Rattle.analyser.specs.declared.words.Request.{Request}

-- the word `--proof`, where it is given: between it and the first file stands the target alone
abbrev pub proof_word : List PathWord → ℕ
proof_word [] = 0
proof_word (file ∷ files) = file.index - 2

-- The bound of instructions, without its proof. A cost option is the second word.
abbrev pub bound_asked : Cost → Bool → Target → List PathWord → Result Request Status
bound_asked Instructions true target files = Err (answers.NotYet (proof_word files))
bound_asked Instructions false target files = Ok (record { target = target; files = files })
bound_asked Objects proof target files = Err (answers.NotYet 2)
bound_asked (Weights path) proof target files = Err (answers.NotYet 2)

-- what a command asks for, or the first of its words that asks for what isn't built yet
abbrev pub asked_by : Command → Result Request Status
asked_by (commands.Bound cost proof target files) = bound_asked cost proof target files
asked_by (commands.Check cost report target files) = Err (answers.NotYet 1)
asked_by (commands.Relations cost target files) = Err (answers.NotYet 1)
asked_by (commands.Run cost steps target args files) = Err (answers.NotYet 1)
asked_by (commands.Sample number methods) = Err (answers.NotYet 1)

abbrev pub asked_of : Result Command WordFault → Result Request Status
asked_of (Ok command) = asked_by command
asked_of (Err (Wrong kind index)) = Err (answers.Usage index)
asked_of (Err Memory) = Err answers.Memory

-- what the words ask for, or what is answered to the words alone
abbrev pub request_of : List (List ℕ) → Result Request Status
request_of words = asked_of (command_of words)

-- the paths that are fetched, in their order: the files'
abbrev pub paths_of : Request → List PathWord
paths_of request = request.files
