-- What the kinds of slots say of the words that a frame holds (JVMS 2.6).
use Rattle.std.specs.Prelude.{◌≡◌, ℕ, true, false, ℤ, pos, List, [], ◌∷◌, ◌++◌, length, reverse, Some}
use Rattle.slot_facts.specs.declared.kind.Kind.{Kind}
use Rattle.slot_facts.specs.declared.kind.Kind.TheVariants as kinds
use Rattle.kind_frames.specs.declared.fact.KindFrame.{KindFrame}
use Rattle.kind_frames.specs.declared.fact.KindFact.{KindFact}
use Rattle.kind_frames.specs.declared.fact.KindFact.TheVariants as facts
use Rattle.descriptors.specs.Texts.{is_array, is_reference}
use Rattle.class_hierarchy.specs.World.{World, number_of}
use Rattle.frames.specs.declared.value.Value.{Value}
use Rattle.frames.specs.declared.value.Value.TheVariants.{Int, Long, Pad, Null, Ref}
use Rattle.frames.specs.declared.frame.Frame.{Frame}
use Rattle.frames.specs.declared.heap.Cell.TheVariants.{Array}
use Rattle.frames.specs.Heap.{Cells, cell_at}

-- Where the elements of an array are known to be of the one type, they are of the other: it is the same, or both are
-- references and, where the known one is an array's, so is the other, with elements for which this holds again.
pub data FitsElements : List ℕ → List ℕ → Type 0 where
  same : {type : List ℕ} → FitsElements type type
  of_class : {known type : List ℕ} → is_array known ≡ false → is_reference known ≡ true → is_reference type ≡ true → FitsElements known type
  of_array : {known type : List ℕ} → FitsElements known type → FitsElements (91 ∷ known) (91 ∷ type)

-- A word is of a kind: a number of that of its type; null, or an array whose elements fit, of an array's; null or any
-- reference of an object's; null of its own. Where nothing is known a word may be anything.
pub data HasKind (heap : Cells) : Kind → Value → Type 0 where
  int : {n : ℤ} → HasKind heap kinds.Int (Int n)
  long : {n : ℤ} → HasKind heap kinds.Long (Long n)
  pad : HasKind heap kinds.Pad Pad
  array :
      {element type : List ℕ} {items : List Value} {r : ℕ} → cell_at heap r ≡ Some (Array type items) → FitsElements element type
      → HasKind heap (kinds.Arr element) (Ref r)
  no_array : {element : List ℕ} → HasKind heap (kinds.Arr element) Null
  object : {r : ℕ} → HasKind heap kinds.Obj (Ref r)
  no_object : HasKind heap kinds.Obj Null
  null : HasKind heap kinds.Null Null
  any : {value : Value} → HasKind heap kinds.Top value

-- words are of kinds, one by one
pub data HaveKinds (heap : Cells) : List Kind → List Value → Type 0 where
  none : HaveKinds heap [] []
  more :
      {kind : Kind} {word : Value} {known : List Kind} {words : List Value} → HasKind heap kind word → HaveKinds heap known words
      → HaveKinds heap (kind ∷ known) (word ∷ words)

-- A frame of a method with so many locals is as it is known to be: the operand stack has the height, and the words are of
-- the kinds, the locals first and then the operand stack from the bottom.
pub record IsOfKinds (heap : Cells) (locals : ℕ) (known : KindFrame) (frame : Frame) : Type 0 where
  pub many : length frame.locals ≡ locals
  pub height : known.height ≡ pos (length frame.stack)
  pub words : HaveKinds heap known.slots (frame.locals ++ reverse frame.stack)

-- The same of what is known at a place: no frame is where none comes, and of frames of different heights nothing is said.
abbrev pub IsAsKnown : Cells → ℕ → KindFact → Frame → Type 0
IsAsKnown heap locals facts.Unreached frame = ⊥
IsAsKnown heap locals (facts.Known known) frame = IsOfKinds heap locals known frame
IsAsKnown heap locals facts.Mixed frame = length frame.locals ≡ locals

-- No class of the world has a name that is an array's (JVMS 4.4.1).
abbrev pub NamesNoArray : World → Type 0
NamesNoArray w = (name : List ℕ) (c : ℕ) → number_of w name ≡ Some c → is_array name ≡ false
