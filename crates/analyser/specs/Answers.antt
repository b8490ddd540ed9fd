-- The answer to the words: which there are, and how one is put.
use Rattle.std.specs.Prelude.{◌≡◌, ◌<◌, ◌≤◌, ℕ, List, length, Result, Ok, Err}
use Rattle.class_pool.specs.declared.target.Target.{Target}
use Rattle.class_reader.specs.declared.class.ClassRecord.{ClassRecord}
use Rattle.class_hierarchy.specs.declared.fault.WorldFault.{WorldFault}
use Rattle.class_hierarchy.specs.World.{world_of}
use Rattle.class_hierarchy.specs.Building.{IsWellBuilt, IsFault}
use Rattle.ports.specs.Shelf.{ShelfState, Rises}
use Rattle.ports.specs.Sink.{SinkState, AppendsPrefix, Appends, IsCalledOnce, IsCalledAtMostOnce}
use Rattle.analyser.specs.declared.fetching.File.{File}
use Rattle.analyser.specs.declared.status.FaultKind.{FaultKind}
use Rattle.analyser.specs.declared.status.LimitKind.TheVariants.{Files, Bytes}
use Rattle.analyser.specs.declared.status.Status.{Status}
use Rattle.analyser.specs.declared.status.Status.TheVariants as answers
use Rattle.analyser.specs.declared.words.Request.{Request}
use Rattle.analyser.specs.Words.{paths_of}
use Rattle.analyser.specs.Files.{HoldBytes, HoldsAll, Tells, IsFailed, IsOverlong, IsTooBig, total, most_files, most_bytes}
use Rattle.analyser.specs.Classes.{AreClasses, IsBadClass}
use Rattle.analyser.specs.Answer.{answer_on}
use Rattle.analyser.specs.Report.{report_of}

-- the answer on these classes: on the world that they form, or what keeps them from being one
pub data OnClasses (target : Target) (classes : List ClassRecord) (status : Status) : Type 0 where
  world : IsWellBuilt (world_of classes) → status ≡ answer_on target (world_of classes) → OnClasses target classes status
  no_world : (fault : WorldFault) → IsFault (world_of classes) fault → status ≡ answers.BadWorld fault → OnClasses target classes status

-- the answer on these files
pub data OnFiles (target : Target) (files : List File) (status : Status) : Type 0 where
  read : (classes : List ClassRecord) → AreClasses files classes → OnClasses target classes status → OnFiles target files status
  bad : (word offset : ℕ) (kind : FaultKind) → IsBadClass files word offset kind → status ≡ answers.BadClass word offset kind → OnFiles target files status

-- The answer that is to be reported, in the order in which the answers come, where the shelf was before and is
-- after the files were fetched: as it was, but for the count of what is told.
pub data IsAnswer (asked : Result Request Status) (before after : ShelfState) (status : Status) : Type 0 where
  usage : (index : ℕ) → asked ≡ Err (answers.Usage index) → status ≡ answers.Usage index → after ≡ before → IsAnswer asked before after status
  later : (word : ℕ) → asked ≡ Err (answers.NotYet word) → status ≡ answers.NotYet word → after ≡ before → IsAnswer asked before after status
  many : (request : Request) → asked ≡ Ok request → most_files < length request.files → status ≡ answers.Limit Files most_files → after ≡ before
      → IsAnswer asked before after status
  fault : (request : Request) (word : ℕ) → asked ≡ Ok request → length request.files ≤ most_files → IsFailed before after (paths_of request) word
      → status ≡ answers.FetchFault word → IsAnswer asked before after status
  overlong : (request : Request) (word : ℕ) → asked ≡ Ok request → length request.files ≤ most_files → IsOverlong before after (paths_of request) word
      → status ≡ answers.TooLong word → IsAnswer asked before after status
  too_big : (request : Request) → asked ≡ Ok request → length request.files ≤ most_files → IsTooBig before (paths_of request)
      → status ≡ answers.Limit Bytes most_bytes → after ≡ before → IsAnswer asked before after status
  on_files : (request : Request) (files : List File) → asked ≡ Ok request → length request.files ≤ most_files → HoldsAll before.files request.files files
      → HoldBytes files → total files ≤ most_bytes → OnFiles request.target files status → after ≡ before → IsAnswer asked before after status

-- nothing came of the sink's call, if there was one
pub record HasPutNothing (old new : SinkState) : Type 0 where
  pub content : new.content ≡ old.content
  pub calls : IsCalledAtMostOnce old new
  pub faults : new.faults ≡ old.faults

-- How the report of an answer was put, where the sink was old and is new: whole, in one call; or that call failed,
-- and may have taken its front; or memory ran out, and nothing was put.
pub data WasPut (status result : Status) (old new : SinkState) : Type 0 where
  whole : result ≡ status → Appends old.content (report_of status) new.content → IsCalledOnce old new → new.faults ≡ old.faults → WasPut status result old new
  failed : result ≡ answers.OutFault → Rises old.faults new.faults → AppendsPrefix old.content (report_of status) new.content → IsCalledOnce old new
      → WasPut status result old new
  out_of_memory : result ≡ answers.Memory → HasPutNothing old new → WasPut status result old new

-- What the call answers: an answer whose report was put, or why none was.
pub data Outcome (asked : Result Request Status) (before after : ShelfState) (result : Status) (old new : SinkState) : Type 0 where
  answered : (status : Status) → IsAnswer asked before after status → WasPut status result old new → Outcome asked before after result old new
  gave_up : result ≡ answers.Memory → new ≡ old → Outcome asked before after result old new

-- the sink failed under the report of an answer that the words and the files allow
pub record IsOutFault (asked : Result Request Status) (before after : ShelfState) (old new : SinkState) : Type 0 where
  pub status : Status
  pub answer : IsAnswer asked before after status
  pub rises : Rises old.faults new.faults
  pub taken : AppendsPrefix old.content (report_of status) new.content
  pub called : IsCalledOnce old new

-- an answer that has a report
pub record IsReported (status : Status) : Type 0 where
  pub put : status ≡ answers.OutFault → ⊥
  pub held : status ≡ answers.Memory → ⊥

-- an answer that is told once the files were fetched, or without that
pub record IsNoFetchFault (status : Status) : Type 0 where
  pub reported : IsReported status
  pub fetched : (word : ℕ) → status ≡ answers.FetchFault word → ⊥
  pub short : (word : ℕ) → status ≡ answers.TooLong word → ⊥

-- the words ask for no file: they are refused, or name too many
pub data AsksForNone (asked : Result Request Status) : Type 0 where
  refused : (status : Status) → asked ≡ Err status → AsksForNone asked
  crowded : (request : Request) → asked ≡ Ok request → most_files < length request.files → AsksForNone asked

-- an answer to the words alone
pub data IsOfWords (status : Status) : Type 0 where
  misused : (index : ℕ) → status ≡ answers.Usage index → IsOfWords status
  unbuilt : (word : ℕ) → status ≡ answers.NotYet word → IsOfWords status
  crowding : (number : ℕ) → status ≡ answers.Limit Files number → IsOfWords status

-- this answer, or one that only the sink or want of memory gives
pub data UnlessNotPut (status result : Status) : Type 0 where
  so : result ≡ status → UnlessNotPut status result
  not_put : result ≡ answers.OutFault → UnlessNotPut status result
  no_memory : result ≡ answers.Memory → UnlessNotPut status result

-- this answer, or one that only a fault of the outside or want of memory gives
pub data UnlessOutside (status result : Status) : Type 0 where
  put_so : UnlessNotPut status result → UnlessOutside status result
  not_fetched : (word : ℕ) → result ≡ answers.FetchFault word → UnlessOutside status result

-- no more files are asked for than may be, the shelf tells what it holds, and these are they
pub record AsksFor (asked : Result Request Status) (shelf : ShelfState) (target : Target) (files : List File) : Type 0 where
  pub request : Request
  pub is_asked : asked ≡ Ok request
  pub is_target : request.target ≡ target
  pub few : length request.files ≤ most_files
  pub tells : Tells shelf
  pub held : HoldsAll shelf.files request.files files
  pub fits : total files ≤ most_bytes
