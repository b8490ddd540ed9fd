-- From what the parts of the call leave to its answer.
use Rattle.std.proofs.Common.{◌≡◌, ◌≢◌, ℕ, suc, ◌<◌, ◌≤◌, Bool, true, false, List, [], ◌∷◌, length, Option, Result, Ok, Err, refl, sym, ◌∙◌, ap, subst, inl, inr, arith}
use Rattle.std.specs.Prelude.{IfOk, ◌^◌, nat_lt, replicate, Contains}
use Rattle.std.proofs.lemmas.Bool.{lt-ltb, ltb-true}
use Rattle.cost_model.specs.Costs.{cost_at}
use Rattle.std.specs.List.{list_any}
use Rattle.op_table.specs.declared.construct.Construct.{Construct}
use Rattle.world.specs.declared.member.MemberId.{MemberId}
use Rattle.class_hierarchy.specs.World.{World}
use Rattle.world.specs.Tables.{HasMethod}
use Rattle.code_flow.specs.declared.fault.FlowFault.{FlowFault}
use Rattle.code_flow.specs.declared.fault.FlowFault.TheVariants.{Unsupported, Memory}
use Rattle.code_flow.specs.Plans.{Plan}
use Rattle.code_flow.specs.Flow.{flow_of}
use Rattle.code_flow.proofs.Founded.{founded}
use Rattle.code_flow.proofs.Mapped.{in_map, from_map, true_of}
use Rattle.code_flow.proofs.Members.{or_true, contains_head, contains_tail}
use Rattle.call_costs.specs.Costs.{cost_of, costs_of, most_cost, IsTooGreat}
use Rattle.class_pool.specs.declared.target.Target.{Target}
use Rattle.class_reader.specs.declared.class.ClassRecord.{ClassRecord}
use Rattle.cost_words.specs.declared.command.PathWord.{PathWord}
use Rattle.ports.specs.Shelf.{ShelfState}
use Rattle.analyser.specs.declared.fetching.File.{File}
use Rattle.analyser.specs.declared.status.FaultKind.{FaultKind}
use Rattle.analyser.specs.declared.status.LimitKind.TheVariants.{Files, Bytes, Coefficient}
use Rattle.analyser.specs.declared.status.Status.{Status}
use Rattle.analyser.specs.declared.status.Status.TheVariants as answers
use Rattle.analyser.specs.declared.words.Request.{Request}
use Rattle.analyser.specs.Files.{HoldBytes, HoldsAll, IsFailed, IsOverlong, IsTooBig, total, most_files, most_bytes}
use Rattle.analyser.specs.Classes.{AreClasses, IsBadClass}
use Rattle.analyser.specs.Answer.{instruction_cost, is_too_great, first_cost, bound_of}
use Rattle.analyser.specs.Answers.{OnClasses, OnFiles, read, bad, IsAnswer, many, fault, overlong, too_big, on_files}

same_count : (told : Option (List (List ℕ × List ℕ))) (paths : List PathWord) (files : List File) → HoldsAll told paths files → length files ≡ length paths
same_count told [] [] h = refl
same_count told [] (f ∷ files) h = absurd h
same_count told (p ∷ paths) [] h = absurd h
same_count told (p ∷ paths) (f ∷ files) h = ap suc (same_count told paths files h.1)

-- as many files as paths
pub few_files : (told : Option (List (List ℕ × List ℕ))) (paths ps : List PathWord) (files shown : List File) (count : ℕ) → HoldsAll told paths files → paths ≡ ps
    → count ≡ length ps → count ≤ most_files → shown ≡ files → length shown ≤ most_files
few_files told paths ps files shown count held same counted few is =
    let files_too = same_count told paths files held in
    let paths_too = ap length same in
    let shown_too = ap length is in
    omega (arith, files_too, paths_too, shown_too, counted, few)

one_each : (files : List File) (classes : List ClassRecord) → AreClasses files classes → length classes ≡ length files
one_each [] [] h = refl
one_each [] (c ∷ classes) h = absurd h
one_each (f ∷ files) [] h = absurd h
one_each (f ∷ files) (c ∷ classes) h = ap suc (one_each files classes h.1)

-- and as many classes
pub few_classes : (files : List File) (classes : List ClassRecord) → AreClasses files classes → length files ≤ most_files → length classes < 2 ^ 31
few_classes files classes are few = let same = one_each files classes are in omega (arith, same, few)

pub on_all : {E : Type 0} (target : Target) (files : List File) (classes : List ClassRecord) (result : Result Status E) → AreClasses files classes
    → IfOk result (OnClasses target classes) → IfOk result (OnFiles target files)
on_all target files classes (Ok status) are on = read classes are on
on_all target files classes (Err e) are on = tt

pub has_bad_class : (target : Target) (files : List File) (word offset : ℕ) (kind : FaultKind) (said at : ℕ) (shape : FaultKind) → IsBadClass files word offset kind
    → said ≡ word → at ≡ offset → shape ≡ kind → OnFiles target files (answers.BadClass said at shape)
has_bad_class target files word offset kind said at shape is_bad words places kinds = bad word offset kind is_bad cc

pub names_many : (request : Request) (before after : ShelfState) (count : ℕ) → count ≡ length request.files → most_files < count
    → after ≡ before → IsAnswer (Ok request) before after (answers.Limit Files most_files)
names_many request before after count counted more same = many request refl (omega (arith, counted)) refl same

pub fetch_fails : (request : Request) (paths : List PathWord) (before after : ShelfState) (count word shown : ℕ) → paths ≡ request.files → count ≡ length request.files
    → count ≤ most_files → IsFailed before after paths word → shown ≡ word → IsAnswer (Ok request) before after (answers.FetchFault shown)
fetch_fails request paths before after count word shown same counted few at is =
    fault request word refl (omega (arith, counted)) (subst (λ (ps : List PathWord). IsFailed before after ps word) same at) (ap answers.FetchFault is)

pub is_overlong : (request : Request) (paths : List PathWord) (before after : ShelfState) (count word shown : ℕ) → paths ≡ request.files → count ≡ length request.files
    → count ≤ most_files → IsOverlong before after paths word → shown ≡ word → IsAnswer (Ok request) before after (answers.TooLong shown)
is_overlong request paths before after count word shown same counted few at is =
    overlong request word refl (omega (arith, counted)) (subst (λ (ps : List PathWord). IsOverlong before after ps word) same at) (ap answers.TooLong is)

pub has_many_bytes : (request : Request) (paths : List PathWord) (before after : ShelfState) (count : ℕ) → paths ≡ request.files → count ≡ length request.files
    → count ≤ most_files → IsTooBig before paths → after ≡ before → IsAnswer (Ok request) before after (answers.Limit Bytes most_bytes)
has_many_bytes request paths before after count same counted few big stays =
    too_big request refl (omega (arith, counted)) (subst (λ (ps : List PathWord). IsTooBig before ps) same big) refl stays

pub answers_on_files : {E : Type 0} (request : Request) (paths : List PathWord) (fs shown : List File) (before after : ShelfState) (count : ℕ) (result : Result Status E)
    → paths ≡ request.files → count ≡ length request.files → count ≤ most_files → HoldsAll before.files paths fs → HoldBytes fs → total fs ≤ most_bytes → shown ≡ fs
    → IfOk result (OnFiles request.target shown) → after ≡ before → IfOk result (IsAnswer (Ok request) before after)
answers_on_files request paths fs shown before after count (Ok status) same counted few held hold fits is on stays =
    on_files request fs refl (omega (arith, counted)) (subst (λ (ps : List PathWord). HoldsAll before.files ps fs) same held) hold fits
    (subst (λ (gs : List File). OnFiles request.target gs status) is on) stays
answers_on_files request paths fs shown before after count (Err e) same counted few held hold fits is on stays = tt

-- ---- the bound of a program

great_any : (costs : List ℕ) (cost : ℕ) → Contains costs cost → most_cost < cost → list_any (λ c. nat_lt most_cost c) costs ≡ true
great_any costs cost has more = true_of (λ c. nat_lt most_cost c) costs cost has (lt-ltb most_cost cost more)

some_great : (costs : List ℕ) → list_any (λ c. nat_lt most_cost c) costs ≡ true → (cost : ℕ) × Contains costs cost × (most_cost < cost)
some_great [] e = absurd cc
some_great (c ∷ costs) e = elim (or_true (nat_lt most_cost c) (list_any (λ d. nat_lt most_cost d) costs) e) [
  | inl here ↦ (c, contains_head c costs, ltb-true most_cost c here)
  | inr later ↦ let rest = some_great costs later in (rest.0, contains_tail c costs rest.0 rest.1, rest.2)
]

-- whether some method costs too much
is_great : (program : List Plan) → IsTooGreat instruction_cost program → is_too_great program ≡ true
unfolding is_too_great
is_great program (r, has, more) =
    great_any (costs_of instruction_cost program) (cost_of instruction_cost program r.method)
    (in_map (λ (s : Plan). cost_of instruction_cost program s.method) program r has) more

not_great : (program : List Plan) (b : Bool) → is_too_great program ≡ b → ¬ IsTooGreat instruction_cost program → b ≡ false
unfolding is_too_great
not_great program false e none = refl
not_great program true e none =
    let some = some_great (costs_of instruction_cost program) e in
    let from = from_map (λ (s : Plan). cost_of instruction_cost program s.method) program some.0 some.1 in
    absurd (none (from.0, from.1, subst (λ (n : ℕ). most_cost < n) (sym from.2) some.2))

pub first_told : (table : List ℕ) (program : List Plan) (costs shown : List ℕ) → table ≡ replicate 202 1 → shown ≡ costs → costs ≡ costs_of (cost_at table) program
    → ¬ IsTooGreat (cost_at table) program → first_cost shown ≡ bound_of program
unfolding bound_of
first_told table program costs shown counts same are small =
    let all : costs ≡ costs_of instruction_cost program = subst (λ (t : List ℕ). costs ≡ costs_of (cost_at t) program) counts are in
    let fit : is_too_great program ≡ false =
    not_great program (is_too_great program) refl (subst (λ (t : List ℕ). ¬ IsTooGreat (cost_at t) program) counts small) in
    let one : first_cost (costs_of instruction_cost program) ≡ bound_of program = rw fit refl in
    ap first_cost (same ∙ all) ∙ one

pub passes_limit : (table : List ℕ) (program : List Plan) → table ≡ replicate 202 1 → IsTooGreat (cost_at table) program
    → answers.Limit Coefficient most_cost ≡ bound_of program
unfolding bound_of
passes_limit table program counts great =
    let is : is_too_great program ≡ true = is_great program (subst (λ (t : List ℕ). IsTooGreat (cost_at t) program) counts great) in rw is refl

-- a method in whose code a construct stands is there
pub has_method : (w : World) (target : Target) (why : FlowFault) (m : MemberId) (pc : ℕ) (construct : Construct) → why ≡ Unsupported m pc construct
    → (why ≢ Memory → flow_of w target ≡ Err why) → HasMethod w m
has_method w target why m pc construct is told =
    let flows : flow_of w target ≡ Err (Unsupported m pc construct) = told (λ e. cc) ∙ ap Err is in
    founded w target (Unsupported m pc construct) flows
