-- The cause of each answer that is no bound.
use Rattle.std.specs.Prelude.{◌≡◌, ◌<◌, ℕ, true, List, length, None, Result, Ok, Err}
use Rattle.class_pool.specs.declared.target.Target.{Target}
use Rattle.class_reader.specs.declared.class.ClassRecord.{ClassRecord}
use Rattle.op_table.specs.declared.construct.Construct.{Construct}
use Rattle.class_hierarchy.specs.declared.fault.WorldFault.{WorldFault}
use Rattle.world.specs.declared.member.MemberId.{MemberId}
use Rattle.class_hierarchy.specs.World.{World, world_of}
use Rattle.class_hierarchy.specs.Building.{IsFault}
use Rattle.code_flow.specs.declared.fault.FlowFault.TheVariants as flows
use Rattle.code_flow.specs.Plans.{Plan}
use Rattle.code_flow.specs.Listing.{most_methods}
use Rattle.code_flow.specs.Flow.{method_named, flow_of}
use Rattle.cost_words.specs.declared.command.Command.{Command}
use Rattle.cost_words.specs.declared.fault.WordFault.{WordFault}
use Rattle.cost_words.specs.declared.fault.WordFault.TheVariants.{Wrong}
use Rattle.cost_words.specs.declared.fault.WordKind.{WordKind}
use Rattle.ports.specs.Shelf.{ShelfState}
use Rattle.analyser.specs.declared.fetching.File.{File}
use Rattle.analyser.specs.declared.status.FaultKind.{FaultKind}
use Rattle.analyser.specs.declared.status.LimitKind.{LimitKind}
use Rattle.analyser.specs.declared.status.LimitKind.TheVariants.{Files, Bytes, Methods, Coefficient}
use Rattle.analyser.specs.declared.status.Status.{Status}
use Rattle.analyser.specs.declared.status.Status.TheVariants as answers
use Rattle.analyser.specs.declared.words.Request.{Request}
use Rattle.analyser.specs.Words.{paths_of}
use Rattle.analyser.specs.Files.{HoldsAll, IsFailed, IsOverlong, IsTooBig, most_files, most_bytes}
use Rattle.analyser.specs.Classes.{IsBadClass}
use Rattle.call_costs.specs.Costs.{most_cost}
use Rattle.analyser.specs.Answer.{target_of, is_too_great}
use Rattle.analyser.specs.Headline.{ReadsAll, Reads}

-- the words are none of the command line's grammar, and this is the first that is wrong
abbrev pub IsUsage : Result Command WordFault → ℕ → Type 0
IsUsage meaning index = (kind : WordKind) × (meaning ≡ Err (Wrong kind index))

-- too many files are named, those that were fetched have too many bytes together, the target reaches too many
-- methods, or it or a method that it reaches costs too much
pub data IsLimit (asked : Result Request Status) (shelf : ShelfState) (kind : LimitKind) (number : ℕ) : Type 0 where
  files : (request : Request) → asked ≡ Ok request → most_files < length request.files → kind ≡ Files → number ≡ most_files → IsLimit asked shelf kind number
  bytes : (request : Request) → asked ≡ Ok request → IsTooBig shelf (paths_of request) → kind ≡ Bytes → number ≡ most_bytes → IsLimit asked shelf kind number
  too_many : (target : Target) (w : World) → Reads asked shelf target w → flow_of w target ≡ Err flows.TooManyMethods → kind ≡ Methods → number ≡ most_methods → IsLimit asked shelf kind number
  too_great : (target : Target) (w : World) (program : List Plan) → Reads asked shelf target w → flow_of w target ≡ Ok program
      → is_too_great program ≡ true → kind ≡ Coefficient → number ≡ most_cost → IsLimit asked shelf kind number

-- the shelf failed at the path of this word
pub record IsFetchFault (asked : Result Request Status) (before after : ShelfState) (word : ℕ) : Type 0 where
  pub request : Request
  pub is_asked : asked ≡ Ok request
  pub failed : IsFailed before after (paths_of request) word

-- the file at the path of this word is too long
pub record IsTooLong (asked : Result Request Status) (before after : ShelfState) (word : ℕ) : Type 0 where
  pub request : Request
  pub is_asked : asked ≡ Ok request
  pub overlong : IsOverlong before after (paths_of request) word

-- the words say that this one asks for what isn't built yet
abbrev pub IsNotYet : Result Request Status → ℕ → Type 0
IsNotYet asked word = asked ≡ Err (answers.NotYet word)

-- the file that this word names is the first that holds no class, and has this first fault
pub record HasBadClass (asked : Result Request Status) (shelf : ShelfState) (word offset : ℕ) (kind : FaultKind) : Type 0 where
  pub request : Request
  pub files : List File
  pub is_asked : asked ≡ Ok request
  pub held : HoldsAll shelf.files request.files files
  pub bad : IsBadClass files word offset kind

-- the files are classes, which have this fault and are no world
pub record HasBadWorld (asked : Result Request Status) (shelf : ShelfState) (fault : WorldFault) : Type 0 where
  pub target : Target
  pub classes : List ClassRecord
  pub all : ReadsAll asked shelf target classes
  pub is_fault : IsFault (world_of classes) fault

-- no class of the world has the name of the target's, or it declares no such method, or one without code
pub record HasNoMethod (asked : Result Request Status) (shelf : ShelfState) (target : Target) : Type 0 where
  pub world : World
  pub reads : Reads asked shelf target world
  pub none : method_named world target ≡ None

-- the first construct of the code that the target reaches stands at this place of this method
pub record IsUnsupported (asked : Result Request Status) (shelf : ShelfState) (method : Target) (pc : ℕ) (construct : Construct) : Type 0 where
  pub target : Target
  pub world : World
  pub number : MemberId
  pub reads : Reads asked shelf target world
  pub is_method : method ≡ target_of world number
  pub first : flow_of world target ≡ Err (flows.Unsupported number pc construct)
