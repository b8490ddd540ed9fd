-- Which method a call runs: the one that is looked up, or the one that the class of the receiver selects.
use Rattle.std.proofs.Common.{◌≡◌, ℕ, ◌<◌, Bool, true, false, List, [], ◌∷◌, length, Option, Some, None, Result, Ok, Err, refl, sym, ap, subst, Contains, IsTrue}
use Rattle.std.specs.Prelude.{if◌then◌else◌}
use Rattle.std.specs.List.{list_any}
use Rattle.std.specs.Result.{result_ok}
use Rattle.common_laws.proofs.Members.{contains_head}
use Rattle.class_reader.specs.Flags.{is_native, is_abstract}
use Rattle.op_table.specs.declared.acts.Call.{Call}
use Rattle.op_table.specs.declared.acts.Call.TheVariants.{Virtual, Special, Static, Interface}
use Rattle.op_table.specs.declared.construct.Construct.{Construct}
use Rattle.op_table.specs.declared.construct.Construct.TheVariants as constructs
use Rattle.world.specs.declared.member.MemberId.{MemberId}
use Rattle.world.specs.declared.fault.ResolveFault.{ResolveFault}
use Rattle.class_hierarchy.specs.World.{World, is_below, is_instantiable}
use Rattle.class_hierarchy.specs.Building.{IsWellBuilt}
use Rattle.world.specs.Selection.{method_of, selected_by}
use Rattle.world.specs.Tables.{HasMethod}
use Rattle.world.specs.Targets.{is_receiver, AreTargets}
use Rattle.linking.specs.declared.calls.Meant.{Meant}
use Rattle.linking.specs.Told.{told, then_by}
use Rattle.linking.specs.TargetList.{targets_of}
use Rattle.linking.specs.Calls.{none_native, with_code, run_by, looked_up}
use Rattle.linking.proofs.TargetLists.{targets_listed}
use Rattle.linking.proofs.Linked.{Runs, untold, looks_up_meant}
use Rattle.frames.specs.declared.value.Value.{Value}
use Rattle.frames.specs.declared.value.Value.TheVariants.{Null, Ref}
use Rattle.frames.specs.declared.heap.Cell.{Cell}
use Rattle.frames.specs.declared.heap.Cell.TheVariants.{Object, Array}
use Rattle.frames.specs.declared.failure.Failure.{Failure}
use Rattle.frames.specs.declared.failure.Failure.TheVariants as failures
use Rattle.frames.specs.declared.failure.Raised.{Raised}
use Rattle.frames.specs.declared.failure.Raised.TheVariants as raised
use Rattle.frames.specs.declared.failure.Stop.TheVariants as stop_kinds
use Rattle.frames.specs.Heap.{Cells, cell_at, is_of_class, class_of}
use Rattle.steps.specs.Calling.{or_link, or_stop, selects, target}
use Rattle.steps.specs.Row as rows
use Rattle.steps.specs.Row.{Dispatched}

-- ---- what a call finds

ok_of : (r : Result MemberId ResolveFault) (m : MemberId) → result_ok r ≡ Some m → r ≡ Ok m
ok_of (Ok n) m is = cc
ok_of (Err e) m is = absurd (cc)

-- a call on null
pub record IsNull (call : Call) (words : List Value) (what : Raised) : Type 0 where
  pub null : what ≡ raised.NullPointer
  pub instance : ¬ (call ≡ Static)
  pub arguments : List Value
  pub first : words ≡ Null ∷ arguments

-- what a call's method is found to be
abbrev pub IsFound : World → Cells → ℕ → Meant → Call → List Value → Result MemberId Failure → Type 0
IsFound w heap current m call words (Ok t) = Dispatched w heap current m call words t
IsFound w heap current m call words (Err (failures.Stops k)) = Unit {0}
IsFound w heap current m call words (Err (failures.Throws what)) = IsNull call words what

-- the class of the receiver selects
selected_virtual : (w : World) (heap : Cells) (current r c : ℕ) (fields : List (MemberId × Value)) (m : Meant) (words : List Value) (found : Option MemberId)
    → cell_at heap r ≡ Some (Object c fields) → is_below w c m.class ≡ true → result_ok (selected_by w m.method c) ≡ found
    → IsFound w heap current m Virtual (Ref r ∷ words) (or_link found)
selected_virtual w heap current r c fields m words None at below is = tt
selected_virtual w heap current r c fields m words (Some t) at below is = rows.virtual at below (ok_of (selected_by w m.method c) t is)

selected_interface : (w : World) (heap : Cells) (current r c : ℕ) (fields : List (MemberId × Value)) (m : Meant) (words : List Value) (found : Option MemberId)
    → cell_at heap r ≡ Some (Object c fields) → is_below w c m.class ≡ true → result_ok (selected_by w m.method c) ≡ found
    → IsFound w heap current m Interface (Ref r ∷ words) (or_link found)
selected_interface w heap current r c fields m words None at below is = tt
selected_interface w heap current r c fields m words (Some t) at below is = rows.interface at below (ok_of (selected_by w m.method c) t is)

virtual_found : (w : World) (heap : Cells) (current r : ℕ) (m : Meant) (words : List Value) (cell : Option Cell) (of_class : Bool)
    → cell_at heap r ≡ cell → is_of_class w m.class cell ≡ of_class
    → IsFound w heap current m Virtual (Ref r ∷ words) (if of_class then selects w current Virtual m (class_of cell) else Err (failures.Stops stop_kinds.Receiver))
virtual_found w heap current r m words cell false at of = tt
virtual_found w heap current r m words None true at of = absurd (cc)
virtual_found w heap current r m words (Some (Object c fields)) true at of = selected_virtual w heap current r c fields m words (result_ok (selected_by w m.method c)) at of refl
virtual_found w heap current r m words (Some (Array element items)) true at of = tt

interface_found : (w : World) (heap : Cells) (current r : ℕ) (m : Meant) (words : List Value) (cell : Option Cell) (of_class : Bool)
    → cell_at heap r ≡ cell → is_of_class w m.class cell ≡ of_class
    → IsFound w heap current m Interface (Ref r ∷ words) (if of_class then selects w current Interface m (class_of cell) else Err (failures.Stops stop_kinds.Receiver))
interface_found w heap current r m words cell false at of = tt
interface_found w heap current r m words None true at of = absurd (cc)
interface_found w heap current r m words (Some (Object c fields)) true at of = selected_interface w heap current r c fields m words (result_ok (selected_by w m.method c)) at of refl
interface_found w heap current r m words (Some (Array element items)) true at of = tt

-- the look-up finds, or stops
looked_found : (w : World) (heap : Cells) (current r : ℕ) (m : Meant) (words : List Value) (found : Result MemberId Construct)
    → is_of_class w m.class (cell_at heap r) ≡ true → looked_up w current Special m ≡ found → IsFound w heap current m Special (Ref r ∷ words) (or_stop found)
looked_found w heap current r m words (Ok t) of looks = rows.special of looks
looked_found w heap current r m words (Err construct) of looks = tt

special_found : (w : World) (heap : Cells) (current r : ℕ) (m : Meant) (words : List Value) (of_class : Bool) → is_of_class w m.class (cell_at heap r) ≡ of_class
    → IsFound w heap current m Special (Ref r ∷ words) (if of_class then selects w current Special m (class_of (cell_at heap r)) else Err (failures.Stops stop_kinds.Receiver))
special_found w heap current r m words false of = tt
special_found w heap current r m words true of = looked_found w heap current r m words (looked_up w current Special m) of refl

-- what a call's receiver makes of it
receiver_found : (w : World) (heap : Cells) (current : ℕ) (m : Meant) (call : Call) (receiver : Value) (words : List Value)
    → IsFound w heap current m call (receiver ∷ words) (target w heap current call m (receiver ∷ words))
receiver_found w heap current m Static receiver words = rows.static
receiver_found w heap current m Virtual (Ref r) words = virtual_found w heap current r m words (cell_at heap r) (is_of_class w m.class (cell_at heap r)) refl refl
receiver_found w heap current m Virtual Null words = record { null = refl; instance = λ is. absurd (cc); arguments = words; first = refl }
receiver_found w heap current m Virtual other words = tt
receiver_found w heap current m Interface (Ref r) words = interface_found w heap current r m words (cell_at heap r) (is_of_class w m.class (cell_at heap r)) refl refl
receiver_found w heap current m Interface Null words = record { null = refl; instance = λ is. absurd (cc); arguments = words; first = refl }
receiver_found w heap current m Interface other words = tt
receiver_found w heap current m Special (Ref r) words = special_found w heap current r m words (is_of_class w m.class (cell_at heap r)) refl
receiver_found w heap current m Special Null words = record { null = refl; instance = λ is. absurd (cc); arguments = words; first = refl }
receiver_found w heap current m Special other words = tt

pub found : (w : World) (heap : Cells) (current : ℕ) (m : Meant) (call : Call) (words : List Value) → IsFound w heap current m call words (target w heap current call m words)
found w heap current m Static [] = rows.static
found w heap current m Virtual [] = tt
found w heap current m Special [] = tt
found w heap current m Interface [] = tt
found w heap current m call (receiver ∷ words) = receiver_found w heap current m call receiver words

-- ---- and back

-- the method that runs is found
pub dispatched_found : (w : World) (heap : Cells) (current : ℕ) (m : Meant) (call : Call) (words : List Value) (t : MemberId)
    → Dispatched w heap current m call words t → target w heap current call m words ≡ Ok t
dispatched_found w heap current m call words t rows.static = refl
dispatched_found w heap current m call words t (rows.special of looks) = rw (of, looks) refl
dispatched_found w heap current m call words t (rows.virtual at below is) = rw (at, below, is) refl
dispatched_found w heap current m call words t (rows.interface at below is) = rw (at, below, is) refl

pub null_found : (w : World) (heap : Cells) (current : ℕ) (m : Meant) (call : Call) (words : List Value) → ¬ (call ≡ Static)
    → target w heap current call m (Null ∷ words) ≡ Err (failures.Throws raised.NullPointer)
null_found w heap current m Static words static = absurd (static refl)
null_found w heap current m Virtual words static = refl
null_found w heap current m Special words static = refl
null_found w heap current m Interface words static = refl

-- ---- a call runs one of the methods that its instruction can call

-- a class of the world of which there can be objects
abbrev pub IsMade : World → ℕ → Type 0
IsMade w c = (c < length w) × IsTrue (is_instantiable w c)

-- the first word, where it refers to an object, refers to one of such a class
abbrev pub ReceiverIsMade : World → Cells → List Value → Type 0
ReceiverIsMade w heap words = (r c : ℕ) (fields : List (MemberId × Value)) (others : List Value) → words ≡ Ref r ∷ others → cell_at heap r ≡ Some (Object c fields) → IsMade w c

ran_if : (b : Bool) (xs ts : List MemberId) → (if b then Err constructs.Native else Ok xs) ≡ Ok ts → xs ≡ ts
ran_if true xs ts e = absurd cc
ran_if false xs ts e = cc

ran : (w : World) (r : Result (List MemberId) Construct) (ts : List MemberId) → then_by (none_native w) r ≡ Ok ts → r ≡ Ok ts
ran w (Err construct) ts e = absurd cc
ran w (Ok xs) ts e = ap Ok (ran_if (list_any (λ (t : MemberId). is_native (method_of w t).flags) xs) xs ts e)

alone_if : (b : Bool) (m : MemberId) (ts : List MemberId) → (if b then Err constructs.AbstractTarget else Ok (m ∷ [])) ≡ Ok ts → Contains ts m
alone_if true m ts e = absurd cc
alone_if false m ts e =
    let same : m ∷ [] ≡ ts = cc in
    subst (λ (xs : List MemberId). Contains xs m) same (contains_head m [])

alone : (w : World) (m : MemberId) (ts : List MemberId) → then_by (none_native w) (with_code w m) ≡ Ok ts → Contains ts m
alone w m ts e = alone_if (is_abstract (method_of w m).flags) m ts (ran w (with_code w m) ts e)

receiver_target : (w : World) (c : ℕ) (m t : MemberId) (r : ℕ) (ts : List MemberId) → IsWellBuilt w → HasMethod w m → IsMade w r
    → is_below w r c ≡ true → selected_by w m r ≡ Ok t → told (targets_of w c m) ≡ Ok ts → Contains ts t
receiver_target w c m t r ts well there made below selects runs =
    let receives : is_receiver w c r ≡ true = rw (made.1, below) refl in
    let all : AreTargets w c m ts = (targets_listed w c m ts well there).0 (untold (targets_of w c m) ts runs) in
    (all.all t).1 (r, made.0, receives, selects)

static_target : (w : World) (current : ℕ) (m : Meant) (ts : List MemberId) → Runs w current Static m ts → Contains ts m.method
static_target w current m ts runs =
    subst (λ (t : MemberId). Contains ts t) (sym (looks_up_meant w current Static m runs.target (λ e. absurd cc) runs.looks)) (alone w runs.target ts runs.runs)

special_target : (w : World) (current : ℕ) (m : Meant) (t : MemberId) (ts : List MemberId) → looked_up w current Special m ≡ Ok t → Runs w current Special m ts → Contains ts t
special_target w current m t ts looks runs =
    let same : runs.target ≡ t = cc in
    subst (λ (t : MemberId). Contains ts t) same (alone w runs.target ts runs.runs)

virtual_target : (w : World) (current : ℕ) (m : Meant) (t : MemberId) (r : ℕ) (ts : List MemberId) → IsWellBuilt w → Runs w current Virtual m ts → IsMade w r
    → is_below w r m.class ≡ true → selected_by w m.method r ≡ Ok t → Contains ts t
virtual_target w current m t r ts well runs made below selects =
    let same : runs.target ≡ m.method = sym (looks_up_meant w current Virtual m runs.target (λ e. absurd cc) runs.looks) in
    let listed : told (targets_of w m.class m.method) ≡ Ok ts = ran w (told (targets_of w m.class m.method)) ts (subst (λ (t : MemberId). run_by w Virtual (record { class = m.class; method = t }) ≡ Ok ts) same runs.runs) in
    receiver_target w m.class m.method t r ts well runs.there.1 made below selects listed

interface_target : (w : World) (current : ℕ) (m : Meant) (t : MemberId) (r : ℕ) (ts : List MemberId) → IsWellBuilt w → Runs w current Interface m ts → IsMade w r
    → is_below w r m.class ≡ true → selected_by w m.method r ≡ Ok t → Contains ts t
interface_target w current m t r ts well runs made below selects =
    let same : runs.target ≡ m.method = sym (looks_up_meant w current Interface m runs.target (λ e. absurd cc) runs.looks) in
    let listed : told (targets_of w m.class m.method) ≡ Ok ts = ran w (told (targets_of w m.class m.method)) ts (subst (λ (t : MemberId). run_by w Interface (record { class = m.class; method = t }) ≡ Ok ts) same runs.runs) in
    receiver_target w m.class m.method t r ts well runs.there.1 made below selects listed

pub dispatched_target :
    {call : Call} {words : List Value} {t : MemberId} (w : World) (heap : Cells) (current : ℕ) (m : Meant) (ts : List MemberId)
    → Dispatched w heap current m call words t → IsWellBuilt w → ReceiverIsMade w heap words → Runs w current call m ts → Contains ts t
dispatched_target w heap current m ts rows.static well made runs = static_target w current m ts runs
dispatched_target {t = t} w heap current m ts (rows.special is looks) well made runs = special_target w current m t ts looks runs
dispatched_target {t = t} w heap current m ts (rows.virtual {r = r} {c = c} {fields = fields} {words = words} cell below selects) well made runs =
    virtual_target w current m t c ts well runs (made r c fields words refl cell) below selects
dispatched_target {t = t} w heap current m ts (rows.interface {r = r} {c = c} {fields = fields} {words = words} cell below selects) well made runs =
    interface_target w current m t c ts well runs (made r c fields words refl cell) below selects
