-- From what the parts of the call leave to the causes of its answers.
use Rattle.std.proofs.Common.{◌≡◌, ℕ, ◌<◌, ◌≤◌, Bool, true, false, List, [], ◌∷◌, length, Option, Some, None, Result, Ok, Err, refl, sym, ◌∙◌, ap, subst, arith}
use Rattle.std.specs.Prelude.{if◌then◌else◌}
use Rattle.class_pool.specs.declared.target.Target.{Target}
use Rattle.class_reader.specs.declared.class.ClassRecord.{ClassRecord}
use Rattle.class_hierarchy.specs.declared.fault.WorldFault.{WorldFault}
use Rattle.world.specs.declared.member.MemberId.{MemberId}
use Rattle.class_hierarchy.specs.World.{World, world_of}
use Rattle.class_hierarchy.specs.Building.{IsWellBuilt, IsFault}
use Rattle.code_flow.specs.declared.fault.FlowFault.{FlowFault}
use Rattle.code_flow.specs.declared.fault.FlowFault.TheVariants as flow_faults
use Rattle.code_flow.specs.Plans.{Plan}
use Rattle.code_flow.specs.Listing.{most_methods}
use Rattle.code_flow.specs.Flow.{method_named, planned, flow_at, flow_of}
use Rattle.code_flow.specs.Program.{IsProgram, FlowsArePrograms}
use Rattle.code_flow.specs.Faults.{FaultsAreFounded}
use Rattle.call_costs.specs.Costs.{cost_of, costs_of, most_cost}
use Rattle.call_costs.specs.Standing.{CostsBoundRuns}
use Rattle.cost_words.specs.declared.command.Command.{Command}
use Rattle.cost_words.specs.declared.command.Command.TheVariants as commands
use Rattle.cost_words.specs.declared.command.Cost.{Cost}
use Rattle.cost_words.specs.declared.command.Cost.TheVariants.{Instructions, Objects, Weights}
use Rattle.cost_words.specs.declared.command.PathWord.{PathWord}
use Rattle.cost_words.specs.declared.fault.WordFault.{WordFault}
use Rattle.cost_words.specs.declared.fault.WordFault.TheVariants.{Memory, Wrong}
use Rattle.analyser.specs.declared.fetching.File.{File}
use Rattle.analyser.specs.declared.status.FaultKind.{FaultKind}
use Rattle.analyser.specs.declared.status.LimitKind.TheVariants.{Files, Bytes, Methods, Coefficient}
use Rattle.analyser.specs.declared.status.Status.{Status}
use Rattle.analyser.specs.declared.status.Status.TheVariants as answers
use Rattle.analyser.specs.declared.words.Request.{Request}
use Rattle.ports.specs.Shelf.{ShelfState}
use Rattle.ports.specs.Sink.{SinkState}
use Rattle.analyser.specs.Words.{bound_asked, asked_by, asked_of, paths_of}
use Rattle.analyser.specs.Files.{HoldBytes, HoldsAll, Tells, IsFirstLong, IsTooBig, total, most_files, most_bytes}
use Rattle.analyser.specs.Classes.{AreClasses, IsBadClass}
use Rattle.analyser.specs.Answer.{instruction_cost, target_of, is_too_great, first_cost, bound_of, answer_by, answer_on}
use Rattle.analyser.specs.Headline.{ReadsAll, Reads, HasBound}
use Rattle.analyser.specs.Causes.{IsUsage, IsLimit, files, bytes, too_many, too_great, IsFetchFault, IsTooLong, IsNotYet, HasBadClass, HasBadWorld, HasNoMethod, IsUnsupported}
use Rattle.analyser.specs.Answers.{OnClasses, world, no_world, OnFiles, read, bad, IsAnswer, usage, later, many, fault, overlong, too_big, on_files, WasPut, whole, failed, out_of_memory, Outcome, answered, gave_up, IsOutFault, IsReported, UnlessNotPut, so, not_put, no_memory, UnlessOutside, put_so, not_fetched, AsksFor}
use Rattle.analyser.proofs.Worlds.{same_fault, no_fault}
use Rattle.analyser.proofs.Told.{Decided, same_files, not_too_big, is_first_long, none_is_long, long_is_not_big, same_long, same_classes, no_bad_class, same_bad_class}

abbrev pub Asked : Type 0
Asked = Result Request Status

-- the cause of each answer that is reported
abbrev pub Cause : Asked → ShelfState → ShelfState → Status → Type 0
Cause asked before after (answers.Bound n) = HasBound asked before n
Cause asked before after (answers.Unsupported target pc construct) = IsUnsupported asked before target pc construct
Cause asked before after (answers.Limit kind number) = IsLimit asked before kind number
Cause asked before after (answers.NotYet word) = IsNotYet asked word
Cause asked before after (answers.BadClass word offset kind) = HasBadClass asked before word offset kind
Cause asked before after (answers.BadWorld why) = HasBadWorld asked before why
Cause asked before after (answers.NoMethod target) = HasNoMethod asked before target
Cause asked before after (answers.Usage index) = asked ≡ Err (answers.Usage index)
Cause asked before after (answers.FetchFault word) = IsFetchFault asked before after word
Cause asked before after (answers.TooLong word) = IsTooLong asked before after word
Cause asked before after answers.OutFault = ⊥
Cause asked before after answers.Memory = ⊥

-- an answer has the cause of what it is
moved : (asked : Asked) (before after : ShelfState) (status wanted : Status) → status ≡ wanted → Cause asked before after wanted → Cause asked before after status
moved asked before after status wanted is cause = subst (λ (s : Status). Cause asked before after s) (sym is) cause

-- ---- the answer on a world

-- what the layers below know: what is answered of the code is a program, a program's cost bounds its runs, and what
-- stands against a program has its ground
pub record Known : Type 0 where
  pub programs : FlowsArePrograms
  pub bounded : CostsBoundRuns
  pub founded : FaultsAreFounded

method_is : (w : World) (m : MemberId) (r : Plan) → Some r ≡ Some (planned w m) → r.method ≡ m
unfolding planned
method_is w m r e = let same : r ≡ planned w m = cc in ap (λ (s : Plan). s.method) same

-- the first of a program's methods is the one that is asked for
first_is : (w : World) (m : MemberId) (program : List Plan) → IsProgram w m program
    → first_cost (costs_of instruction_cost program) ≡ answers.Bound (cost_of instruction_cost program m)
first_is w m [] is = let start = is.start in absurd cc
first_is w m (r ∷ program) is = ap (λ (n : MemberId). answers.Bound (cost_of instruction_cost (r ∷ program) n)) (method_is w m r is.start)

on_limit : (asked : Asked) (before after : ShelfState) (target : Target) (w : World) (m : MemberId) (program : List Plan) (great : Bool) (status : Status) → Known
    → Reads asked before target w → method_named w target ≡ Some m → flow_of w target ≡ Ok program → is_too_great program ≡ great
    → status ≡ (if great then answers.Limit Coefficient most_cost else first_cost (costs_of instruction_cost program)) → Cause asked before after status
on_limit asked before after target w m program true status known reads named flows passes is =
    moved asked before after status (answers.Limit Coefficient most_cost) is (too_great target w program reads flows passes refl refl)
on_limit asked before after target w m program false status known reads named flows passes is =
    let whole : IsProgram w m program = known.programs w target m program named flows in
    moved asked before after status (answers.Bound (cost_of instruction_cost program m)) (is ∙ first_is w m program whole) (record {
      target = target;
      world = w;
      method = m;
      reads = reads;
      named = named;
      bounded = known.bounded w m program instruction_cost reads.well_built whole;
    })

on_program : (asked : Asked) (before after : ShelfState) (target : Target) (w : World) (program : List Plan) (named : Option MemberId) (status : Status) → Known
    → Reads asked before target w → method_named w target ≡ named → flow_at w named ≡ Ok program → flow_of w target ≡ Ok program → status ≡ bound_of program
    → Cause asked before after status
unfolding bound_of
on_program asked before after target w program None status known reads is_named at flows is = absurd cc
on_program asked before after target w program (Some m) status known reads is_named at flows is =
    on_limit asked before after target w m program (is_too_great program) status known reads is_named flows refl is

from_name : (w : World) (target : Target) (answer : Result (List Plan) FlowFault) → flow_of w target ≡ answer → flow_at w (method_named w target) ≡ answer
unfolding flow_of
from_name w target answer e = e

on_flow : (asked : Asked) (before after : ShelfState) (target : Target) (w : World) (status : Status) (answer : Result (List Plan) FlowFault) → Known
    → Reads asked before target w → flow_of w target ≡ answer → status ≡ answer_by w target answer → Cause asked before after status
on_flow asked before after target w status (Ok program) known reads flows is =
    on_program asked before after target w program (method_named w target) status known reads refl (from_name w target (Ok program) flows) flows is
on_flow asked before after target w status (Err flow_faults.NoMethod) known reads flows is =
    moved asked before after status (answers.NoMethod target) is (record { world = w; reads = reads; none = known.founded w target flow_faults.NoMethod flows })
on_flow asked before after target w status (Err (flow_faults.Unsupported m pc construct)) known reads flows is =
    moved asked before after status (answers.Unsupported (target_of w m) pc construct) is
    (record { target = target; world = w; number = m; reads = reads; is_method = refl; first = flows })
on_flow asked before after target w status (Err flow_faults.TooManyMethods) known reads flows is =
    moved asked before after status (answers.Limit Methods most_methods) is (too_many target w reads flows refl refl)
on_flow asked before after target w status (Err flow_faults.Memory) known reads flows is = absurd (known.founded w target flow_faults.Memory flows)

on_world : (asked : Asked) (before after : ShelfState) (target : Target) (w : World) (status : Status) → Known → Reads asked before target w → status ≡ answer_on target w
    → Cause asked before after status
unfolding answer_on
on_world asked before after target w status known reads is = on_flow asked before after target w status (flow_of w target) known reads refl is

on_classes : (asked : Asked) (before after : ShelfState) (target : Target) (classes : List ClassRecord) (status : Status) → Known → ReadsAll asked before target classes
    → OnClasses target classes status → Cause asked before after status
on_classes asked before after target classes status known all (world built is) =
    on_world asked before after target (world_of classes) status known (record { classes = classes; all = all; is_world = refl; well_built = built }) is
on_classes asked before after target classes status known all (no_world why is_fault is) =
    moved asked before after status (answers.BadWorld why) is (record { target = target; classes = classes; all = all; is_fault = is_fault })

on_read : (asked : Asked) (before after : ShelfState) (request : Request) (fs : List File) (status : Status) → Known → asked ≡ Ok request
    → HoldsAll before.files request.files fs → OnFiles request.target fs status → Cause asked before after status
on_read asked before after request fs status known a held (read classes are on) =
    let all : ReadsAll asked before request.target classes =
    record { request = request; files = fs; is_asked = a; is_target = refl; held = held; read = are } in
    on_classes asked before after request.target classes status known all on
on_read asked before after request fs status known a held (bad word offset kind is_bad is) =
    moved asked before after status (answers.BadClass word offset kind) is (record { request = request; files = fs; is_asked = a; held = held; bad = is_bad })

pub cause_of : (asked : Asked) (before after : ShelfState) (status : Status) → Known → IsAnswer asked before after status → Cause asked before after status
cause_of asked before after status known (usage index a is stays) = moved asked before after status (answers.Usage index) is a
cause_of asked before after status known (later word a is stays) = moved asked before after status (answers.NotYet word) is a
cause_of asked before after status known (many request a more is stays) =
    moved asked before after status (answers.Limit Files most_files) is (files request a more refl refl)
cause_of asked before after status known (fault request word a within at is) =
    moved asked before after status (answers.FetchFault word) is (record { request = request; is_asked = a; failed = at })
cause_of asked before after status known (overlong request word a within at is) =
    moved asked before after status (answers.TooLong word) is (record { request = request; is_asked = a; overlong = at })
cause_of asked before after status known (too_big request a within big is stays) =
    moved asked before after status (answers.Limit Bytes most_bytes) is (bytes request a big refl refl)
cause_of asked before after status known (on_files request fs a within held hold fits on stays) = on_read asked before after request fs status known a held on

-- ---- what the call answers

put_cause : (asked : Asked) (before after : ShelfState) (status result : Status) (old new : SinkState) → Known → IsAnswer asked before after status
    → WasPut status result old new → IsReported result → Cause asked before after result
put_cause asked before after status result old new known answer (whole same put called kept) reported = moved asked before after result status same (cause_of asked before after status known answer)
put_cause asked before after status result old new known answer (failed is rises taken called) reported = absurd (reported.put is)
put_cause asked before after status result old new known answer (out_of_memory is nothing) reported = absurd (reported.held is)

told_cause : (asked : Asked) (before after : ShelfState) (result : Status) (old new : SinkState) → Known → Outcome asked before after result old new
    → IsReported result → Cause asked before after result
told_cause asked before after result old new known (answered status answer put) reported = put_cause asked before after status result old new known answer put reported
told_cause asked before after result old new known (gave_up is kept) reported = absurd (reported.held is)

-- a result that is reported has its cause
pub has_cause : (asked : Asked) (before after : ShelfState) (result wanted : Status) (old new : SinkState) → Known → Outcome asked before after result old new
    → result ≡ wanted → IsReported wanted → Cause asked before after wanted
has_cause asked before after result wanted old new known outcome is reported =
    told_cause asked before after wanted old new known (subst (λ (s : Status). Outcome asked before after s old new) is outcome) reported

-- ---- the words

bound_is_no_usage : (cost : Cost) (proof : Bool) (target : Target) (paths : List PathWord) (index : ℕ) → bound_asked cost proof target paths ≡ Err (answers.Usage index) → ⊥
bound_is_no_usage Instructions true target paths index e = cc
bound_is_no_usage Instructions false target paths index e = cc
bound_is_no_usage Objects proof target paths index e = cc
bound_is_no_usage (Weights path) proof target paths index e = cc

command_is_no_usage : (command : Command) (index : ℕ) → asked_by command ≡ Err (answers.Usage index) → ⊥
command_is_no_usage (commands.Bound cost proof target paths) index e = bound_is_no_usage cost proof target paths index e
command_is_no_usage (commands.Check cost report target paths) index e = cc
command_is_no_usage (commands.Relations cost target paths) index e = cc
command_is_no_usage (commands.Run cost steps target args paths) index e = cc
command_is_no_usage (commands.Sample number methods) index e = cc

pub is_usage : (meaning : Result Command WordFault) (index : ℕ) → asked_of meaning ≡ Err (answers.Usage index) → IsUsage meaning index
is_usage (Ok command) index e = absurd (command_is_no_usage command index e)
is_usage (Err (Wrong kind i)) index e = let same : i ≡ index = cc in (kind, ap (λ (n : ℕ). Err (Wrong kind n)) same)
is_usage (Err Memory) index e = absurd cc

bound_refused : (cost : Cost) (proof : Bool) (target : Target) (paths : List PathWord) (before after : ShelfState) (status : Status)
    → after ≡ before → bound_asked cost proof target paths ≡ Err status → IsAnswer (bound_asked cost proof target paths) before after status
bound_refused Instructions true target paths before after status same e = later _ refl (cc) same
bound_refused Instructions false target paths before after status same e = absurd cc
bound_refused Objects proof target paths before after status same e = later 2 refl (cc) same
bound_refused (Weights path) proof target paths before after status same e = later 2 refl (cc) same

command_refused : (command : Command) (before after : ShelfState) (status : Status) → after ≡ before → asked_by command ≡ Err status
    → IsAnswer (asked_by command) before after status
command_refused (commands.Bound cost proof target paths) before after status same e = bound_refused cost proof target paths before after status same e
command_refused (commands.Check cost report target paths) before after status same e = later 1 refl (cc) same
command_refused (commands.Relations cost target paths) before after status same e = later 1 refl (cc) same
command_refused (commands.Run cost steps target args paths) before after status same e = later 1 refl (cc) same
command_refused (commands.Sample number methods) before after status same e = later 1 refl (cc) same

-- the answer where the words ask for nothing that is built
pub answer_refused : (meaning : Result Command WordFault) (before after : ShelfState) (status : Status) → after ≡ before → asked_of meaning ≡ Err status
    → (asked_of meaning ≡ Err answers.Memory → ⊥) → IsAnswer (asked_of meaning) before after status
answer_refused (Ok command) before after status same e reported = command_refused command before after status same e
answer_refused (Err (Wrong kind index)) before after status same e reported = usage index refl (cc) same
answer_refused (Err Memory) before after status same e reported = absurd (reported refl)

-- ---- where the sink fails

put_fault : (asked : Asked) (before after : ShelfState) (status result : Status) (old new : SinkState) → Known → IsAnswer asked before after status
    → WasPut status result old new → result ≡ answers.OutFault → IsOutFault asked before after old new
put_fault asked before after status result old new known answer (whole same put called kept) is =
    absurd (subst (λ (s : Status). Cause asked before after s) (sym same ∙ is) (cause_of asked before after status known answer))
put_fault asked before after status result old new known answer (failed same rises taken called) is =
    record { status = status; answer = answer; rises = rises; taken = taken; called = called }
put_fault asked before after status result old new known answer (out_of_memory same nothing) is = absurd cc

pub is_out_fault : (asked : Asked) (before after : ShelfState) (result : Status) (old new : SinkState) → Known → Outcome asked before after result old new
    → result ≡ answers.OutFault → IsOutFault asked before after old new
is_out_fault asked before after result old new known (answered status answer put) is = put_fault asked before after status result old new known answer put is
is_out_fault asked before after result old new known (gave_up same kept) is = absurd cc

-- ---- what is answered where nothing outside fails

unless_put : (status wanted result : Status) (old new : SinkState) → WasPut status result old new → status ≡ wanted → UnlessNotPut wanted result
unless_put status wanted result old new (whole same put called kept) is = so (same ∙ is)
unless_put status wanted result old new (failed same rises taken called) is = not_put same
unless_put status wanted result old new (out_of_memory same nothing) is = no_memory same

-- where each answer is this one, it is told
pub is_told : (asked : Asked) (before after : ShelfState) (result wanted : Status) (old new : SinkState) → Outcome asked before after result old new
    → ((status : Status) → IsAnswer asked before after status → status ≡ wanted) → UnlessNotPut wanted result
is_told asked before after result wanted old new (answered status answer put) each = unless_put status wanted result old new put (each status answer)
is_told asked before after result wanted old new (gave_up is kept) each = no_memory is

-- this answer, or a fault of the shelf
data Same (wanted status : Status) : Type 0 where
  same : status ≡ wanted → Same wanted status
  fetch : (word : ℕ) → status ≡ answers.FetchFault word → Same wanted status

unless_same : (status wanted result : Status) (old new : SinkState) → WasPut status result old new → Same wanted status → UnlessOutside wanted result
unless_same status wanted result old new put (same is) = put_so (unless_put status wanted result old new put is)
unless_same status wanted result old new (whole e put called kept) (fetch word is) = not_fetched word (e ∙ is)
unless_same status wanted result old new (failed e rises taken called) (fetch word is) = put_so (not_put e)
unless_same status wanted result old new (out_of_memory e nothing) (fetch word is) = put_so (no_memory e)

unless_outside : (asked : Asked) (before after : ShelfState) (result wanted : Status) (old new : SinkState) → Outcome asked before after result old new
    → ((status : Status) → IsAnswer asked before after status → Same wanted status) → UnlessOutside wanted result
unless_outside asked before after result wanted old new (answered status answer put) each = unless_same status wanted result old new put (each status answer)
unless_outside asked before after result wanted old new (gave_up is kept) each = put_so (no_memory is)

same_request : (asked : Asked) (one other : Request) → asked ≡ Ok one → asked ≡ Ok other → other ≡ one
same_request asked one other a b = cc

-- words that are refused
pub refused_so : (asked : Asked) (before after : ShelfState) (wanted status : Status) → asked ≡ Err wanted → IsAnswer asked before after status → status ≡ wanted
refused_so asked before after wanted status a (usage index b is stays) = cc
refused_so asked before after wanted status a (later word b is stays) = cc
refused_so asked before after wanted status a (many request b more is stays) = absurd cc
refused_so asked before after wanted status a (fault request word b within at is) = absurd cc
refused_so asked before after wanted status a (overlong request word b within at is) = absurd cc
refused_so asked before after wanted status a (too_big request b within big is stays) = absurd cc
refused_so asked before after wanted status a (on_files request fs b within held hold fits on stays) = absurd cc

still_within : (asked : Asked) (one other : Request) → asked ≡ Ok one → asked ≡ Ok other → length other.files ≤ most_files → length one.files ≤ most_files
still_within asked one other a b within = subst (λ (r : Request). length r.files ≤ most_files) (same_request asked one other a b) within

-- too many files are named
pub many_so : (asked : Asked) (before after : ShelfState) (request : Request) (status : Status) → asked ≡ Ok request → most_files < length request.files
    → IsAnswer asked before after status → status ≡ answers.Limit Files most_files
many_so asked before after request status a more (usage index b is stays) = absurd cc
many_so asked before after request status a more (later word b is stays) = absurd cc
many_so asked before after request status a more (many other b again is stays) = is
many_so asked before after request status a more (fault other word b within at is) = let few = still_within asked request other a b within in absurd (omega arith)
many_so asked before after request status a more (overlong other word b within at is) = let few = still_within asked request other a b within in absurd (omega arith)
many_so asked before after request status a more (too_big other b within big is stays) = let few = still_within asked request other a b within in absurd (omega arith)
many_so asked before after request status a more (on_files other fs b within held hold fits on stays) = let few = still_within asked request other a b within in absurd (omega arith)

-- the files are told: what the answer on them is, and what it is where they are too big
on_told : (asked : Asked) (before after : ShelfState) (request : Request) (wanted status : Status) → asked ≡ Ok request → length request.files ≤ most_files
    → ((word : ℕ) → IsFirstLong before request.files word → Same wanted (answers.TooLong word))
    → (IsTooBig before request.files → Same wanted (answers.Limit Bytes most_bytes))
    → ((fs : List File) → HoldsAll before.files request.files fs → HoldBytes fs → total fs ≤ most_bytes → OnFiles request.target fs status → status ≡ wanted)
    → IsAnswer asked before after status → Same wanted status
on_told asked before after request wanted status a few on_long on_big on_read (usage index b is stays) = absurd cc
on_told asked before after request wanted status a few on_long on_big on_read (later word b is stays) = absurd cc
on_told asked before after request wanted status a few on_long on_big on_read (many other b more is stays) =
    let one = same_request asked request other a b in
    let again : most_files < length request.files = subst (λ (r : Request). most_files < length r.files) one more in
    absurd (omega arith)
on_told asked before after request wanted status a few on_long on_big on_read (fault other word b within at is) = fetch word is
on_told asked before after request wanted status a few on_long on_big on_read (overlong other word b within at is) =
    let one = same_request asked request other a b in
    let first : IsFirstLong before request.files word =
    subst (λ (r : Request). IsFirstLong before r.files word) one (is_first_long before after (paths_of other) word at) in
    subst (λ (s : Status). Same wanted s) (sym is) (on_long word first)
on_told asked before after request wanted status a few on_long on_big on_read (too_big other b within big is stays) =
    let one = same_request asked request other a b in
    subst (λ (s : Status). Same wanted s) (sym is) (on_big (subst (λ (r : Request). IsTooBig before r.files) one big))
on_told asked before after request wanted status a few on_long on_big on_read (on_files other fs b within held hold fits on stays) =
    let one = same_request asked request other a b in
    same (on_read fs (subst (λ (r : Request). HoldsAll before.files r.files fs) one held) hold fits (subst (λ (r : Request). OnFiles r.target fs status) one on))

pub too_big_so : (asked : Asked) (before after : ShelfState) (result : Status) (old new : SinkState) → Outcome asked before after result old new
    → (request : Request) → asked ≡ Ok request → length request.files ≤ most_files → Tells before → IsTooBig before (paths_of request)
    → UnlessOutside (answers.Limit Bytes most_bytes) result
too_big_so asked before after result old new outcome request a few tells big =
    unless_outside asked before after result (answers.Limit Bytes most_bytes) old new outcome
    (λ status answer. on_told asked before after request (answers.Limit Bytes most_bytes) status a few
    (λ word long. absurd (long_is_not_big before request.files word tells long big)) (λ is. same refl)
    (λ gs held hold fits on. absurd (not_too_big before request.files gs tells held fits big)) answer)

pub overlong_so : (asked : Asked) (before after : ShelfState) (result : Status) (old new : SinkState) → Outcome asked before after result old new
    → (request : Request) (word : ℕ) → asked ≡ Ok request → length request.files ≤ most_files → Tells before → IsFirstLong before (paths_of request) word
    → UnlessOutside (answers.TooLong word) result
overlong_so asked before after result old new outcome request word a few tells u =
    unless_outside asked before after result (answers.TooLong word) old new outcome
    (λ status answer. on_told asked before after request (answers.TooLong word) status a few
    (λ other long. same (ap answers.TooLong (same_long before request.files word other tells u long)))
    (λ big. absurd (long_is_not_big before request.files word tells u big))
    (λ gs held hold fits on. absurd (none_is_long before request.files gs word tells held u)) answer)

read_so : (target : Target) (fs : List File) (classes : List ClassRecord) (wanted status : Status) → Decided → HoldBytes fs → AreClasses fs classes
    → (OnClasses target classes status → status ≡ wanted) → OnFiles target fs status → status ≡ wanted
read_so target fs classes wanted status decided hold are each (read cs others on) =
    each (subst (λ (ds : List ClassRecord). OnClasses target ds status) (same_classes fs cs classes decided hold others are) on)
read_so target fs classes wanted status decided hold are each (bad word offset kind is_bad is) =
    absurd (no_bad_class fs classes word offset kind decided hold are is_bad)

world_so : (target : Target) (classes : List ClassRecord) (status : Status) → IsWellBuilt (world_of classes) → OnClasses target classes status
    → status ≡ answer_on target (world_of classes)
world_so target classes status built (world again is) = is
world_so target classes status built (no_world why is_fault is) = absurd (no_fault (world_of classes) why is_fault built)

fault_so : (target : Target) (classes : List ClassRecord) (why : WorldFault) (status : Status) → IsFault (world_of classes) why → OnClasses target classes status
    → status ≡ answers.BadWorld why
fault_so target classes why status is_fault (world built is) = absurd (no_fault (world_of classes) why is_fault built)
fault_so target classes why status is_fault (no_world other again is) = is ∙ ap answers.BadWorld (same_fault (world_of classes) why other is_fault again)

bad_so : (target : Target) (fs : List File) (word offset : ℕ) (kind : FaultKind) (status : Status) → Decided → HoldBytes fs → IsBadClass fs word offset kind
    → OnFiles target fs status → status ≡ answers.BadClass word offset kind
bad_so target fs word offset kind status decided hold u (read cs are on) = absurd (no_bad_class fs cs word offset kind decided hold are u)
bad_so target fs word offset kind status decided hold u (bad other offset' kind' v is) = is ∙ same_bad_class fs word other offset offset' kind kind' decided hold u v

-- the files are few bytes, and told
on_fit : (asked : Asked) (before after : ShelfState) (result wanted : Status) (old new : SinkState) → Outcome asked before after result old new
    → (target : Target) (fs : List File) → AsksFor asked before target fs
    → ((status : Status) → HoldBytes fs → OnFiles target fs status → status ≡ wanted) → UnlessOutside wanted result
on_fit asked before after result wanted old new outcome target fs asks each =
    unless_outside asked before after result wanted old new outcome
    (λ status answer. on_told asked before after asks.request wanted status asks.is_asked asks.few
    (λ word long. absurd (none_is_long before asks.request.files fs word asks.tells asks.held long))
    (λ big. absurd (not_too_big before asks.request.files fs asks.tells asks.held asks.fits big))
    (λ gs held hold less on.
    let one = same_files before asks.request.files fs gs asks.tells asks.held held in
    let there : OnFiles asks.request.target fs status = subst (λ (hs : List File). OnFiles asks.request.target hs status) one on in
    each status (subst HoldBytes one hold) (subst (λ (t : Target). OnFiles t fs status) asks.is_target there))
    answer)

pub is_answered : (asked : Asked) (before after : ShelfState) (result : Status) (old new : SinkState) → Outcome asked before after result old new → Decided
    → (target : Target) (fs : List File) (classes : List ClassRecord) → AsksFor asked before target fs → AreClasses fs classes → IsWellBuilt (world_of classes)
    → UnlessOutside (answer_on target (world_of classes)) result
is_answered asked before after result old new outcome decided target fs classes asks are built =
    let wanted = answer_on target (world_of classes) in
    on_fit asked before after result wanted old new outcome target fs asks
    (λ status hold on. read_so target fs classes wanted status decided hold are (world_so target classes status built) on)

pub has_fault : (asked : Asked) (before after : ShelfState) (result : Status) (old new : SinkState) → Outcome asked before after result old new → Decided
    → (target : Target) (fs : List File) (classes : List ClassRecord) (why : WorldFault) → AsksFor asked before target fs → AreClasses fs classes
    → IsFault (world_of classes) why → UnlessOutside (answers.BadWorld why) result
has_fault asked before after result old new outcome decided target fs classes why asks are is_fault =
    on_fit asked before after result (answers.BadWorld why) old new outcome target fs asks
    (λ status hold on. read_so target fs classes (answers.BadWorld why) status decided hold are (fault_so target classes why status is_fault) on)

pub is_unread : (asked : Asked) (before after : ShelfState) (result : Status) (old new : SinkState) → Outcome asked before after result old new → Decided
    → (target : Target) (fs : List File) (word offset : ℕ) (kind : FaultKind) → AsksFor asked before target fs → IsBadClass fs word offset kind
    → UnlessOutside (answers.BadClass word offset kind) result
is_unread asked before after result old new outcome decided target fs word offset kind asks u =
    on_fit asked before after result (answers.BadClass word offset kind) old new outcome target fs asks
    (λ status hold on. bad_so target fs word offset kind status decided hold u on)

-- ---- a program that is bounded

same_answer : (w : World) (target : Target) (program : List Plan) → flow_of w target ≡ Ok program → is_too_great program ≡ false
    → answer_on target w ≡ first_cost (costs_of instruction_cost program)
unfolding answer_on bound_of
same_answer w target program flows fit =
    let one : bound_of program ≡ first_cost (costs_of instruction_cost program) = rw fit refl in
    ap (answer_by w target) flows ∙ one

pub is_bounded : (asked : Asked) (before after : ShelfState) (result : Status) (old new : SinkState) → Known → Outcome asked before after result old new → Decided
    → (target : Target) (fs : List File) (classes : List ClassRecord) (m : MemberId) (program : List Plan) → AsksFor asked before target fs → AreClasses fs classes
    → IsWellBuilt (world_of classes) → method_named (world_of classes) target ≡ Some m → flow_of (world_of classes) target ≡ Ok program
    → is_too_great program ≡ false → UnlessOutside (answers.Bound (cost_of instruction_cost program m)) result
is_bounded asked before after result old new known outcome decided target fs classes m program asks are built named flows fit =
    let w = world_of classes in
    let is : IsProgram w m program = known.programs w target m program named flows in
    subst (λ (s : Status). UnlessOutside s result) (same_answer w target program flows fit ∙ first_is w m program is)
    (is_answered asked before after result old new outcome decided target fs classes asks are built)
