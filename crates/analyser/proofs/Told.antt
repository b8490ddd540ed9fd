-- Files that a shelf tells are those that it gave, and they are one list of classes at most.
use Rattle.std.proofs.Common.{◌≡◌, ◌⊎◌, ℕ, zero, suc, ◌<◌, ◌≤◌, List, [], ◌∷◌, length, take, Option, Some, refl, sym, ap, subst, ◌∙◌, inl, inr, arith}
use Rattle.std.specs.Prelude.{slice_get}
use Rattle.std.proofs.lemmas.List.Sums.{sum_by-take-le}
use Rattle.cost_words.specs.declared.command.PathWord.{PathWord}
use Rattle.class_reader.specs.declared.class.ClassRecord.{ClassRecord}
use Rattle.class_pool.specs.Place.{IsBytes}
use Rattle.class_reader.specs.ClassFile.{IsClassFile}
use Rattle.class_reader.specs.FirstFault.{IsDecided}
use Rattle.ports.specs.Shelf.{ShelfState, HoldsLonger, bytes_at, longest_file}
use Rattle.analyser.specs.declared.fetching.File.{File}
use Rattle.analyser.specs.declared.status.FaultKind.{FaultKind}
use Rattle.analyser.specs.declared.status.Status.TheVariants as answers
use Rattle.analyser.specs.Files.{HoldBytes, HoldsAll, Tells, IsFetched, IsOverlong, IsFirstLong, IsTooBig, total, most_bytes}
use Rattle.analyser.specs.Classes.{AreClasses, IsFault, IsBadClass, told_of}

abbrev Told : Type 0
Told = List (List ℕ × List ℕ)

some_is : (x y : List ℕ) → Some x ≡ Some y → x ≡ y
some_is x y e = cc

file_of : ℕ → List ℕ → File
file_of word bytes = record { word = word; bytes = bytes }

same_file : (f g : File) → f.word ≡ g.word → f.bytes ≡ g.bytes → f ≡ g
unfolding file_of
same_file f g word bytes = ap (λ w. file_of w f.bytes) word ∙ ap (file_of g.word) bytes

-- what is told is held once
same_held : (told : Told) (paths : List PathWord) (files gs : List File) → HoldsAll (Some told) paths files → HoldsAll (Some told) paths gs → gs ≡ files
same_held told [] [] [] h k = refl
same_held told [] [] (g ∷ gs) h k = absurd k
same_held told [] (f ∷ files) gs h k = absurd h
same_held told (p ∷ paths) [] gs h k = absurd h
same_held told (p ∷ paths) (f ∷ files) [] h k = absurd k
same_held told (p ∷ paths) (f ∷ files) (g ∷ gs) h k =
    let bytes : g.bytes ≡ f.bytes = some_is g.bytes f.bytes (sym k.0.1 ∙ h.0.1) in
    let here : g ≡ f = same_file g f (k.0.0 ∙ sym h.0.0) bytes in
    let others : gs ≡ files = same_held told paths files gs h.1 k.1 in
    cc

held_front : (told : Option Told) (n : ℕ) (paths : List PathWord) (files : List File) → HoldsAll told paths files → HoldsAll told (take n paths) (take n files)
held_front told zero paths files h = tt
held_front told (suc n) [] [] h = tt
held_front told (suc n) [] (f ∷ files) h = absurd h
held_front told (suc n) (p ∷ paths) [] h = absurd h
held_front told (suc n) (p ∷ paths) (f ∷ files) h = (h.0, held_front told n paths files h.1)

given : (shelf : ShelfState) (told : Told) (paths : List PathWord) (gs : List File) → shelf.files ≡ Some told → HoldsAll shelf.files paths gs → HoldsAll (Some told) paths gs
given shelf told paths gs is h = subst (λ (t : Option Told). HoldsAll t paths gs) is h

pub same_files : (shelf : ShelfState) (paths : List PathWord) (files gs : List File) → Tells shelf → HoldsAll shelf.files paths files → HoldsAll shelf.files paths gs → gs ≡ files
same_files shelf paths files gs tells h k =
    same_held tells.told paths files gs (given shelf tells.told paths files tells.is_told h) (given shelf tells.told paths gs tells.is_told k)

-- files of few bytes have no front of too many
pub not_too_big : (shelf : ShelfState) (paths : List PathWord) (files : List File) → Tells shelf → HoldsAll shelf.files paths files → total files ≤ most_bytes → IsTooBig shelf paths → ⊥
not_too_big shelf paths files tells h fits big =
    let front = held_front shelf.files big.count paths files h in
    let same : big.files ≡ take big.count files = same_files shelf (take big.count paths) (take big.count files) big.files tells front big.held in
    let bytes : total big.files ≡ total (take big.count files) = ap total same in
    absurd (omega (arith, big.big, bytes, sum_by-take-le (λ (f : File). length f.bytes) files big.count))

pub compared : (m n : ℕ) → ((m < n) ⊎ (n < m)) ⊎ (m ≡ n)
compared zero zero = inr refl
compared zero (suc n) = inl (inl (omega arith))
compared (suc m) zero = inl (inr (omega arith))
compared (suc m) (suc n) = elim (compared m n) [
  | inl apart ↦ elim apart [ inl less ↦ inl (inl (omega arith)) | inr more ↦ inl (inr (omega arith)) ]
  | inr same ↦ inr (ap suc same)
]

-- ---- files that are too long

-- where a short file is held no longer one is
short_is_not_long : (told : Told) (path : List ℕ) (bytes : List ℕ) → bytes_at told path ≡ Some bytes → length bytes ≤ longest_file → HoldsLonger (Some told) path → ⊥
short_is_not_long told path bytes held short longer =
    let same : longer.0 ≡ bytes = some_is longer.0 bytes (sym longer.1 ∙ held) in
    let lengths : length longer.0 ≡ length bytes = ap length same in
    let more : longest_file < length longer.0 = longer.2 in
    absurd (omega (arith, short, lengths, more))

-- where files are held at the first paths, so many, none of these has a longer one
front_is_short : (told : Told) (paths : List PathWord) (files : List File) (n k : ℕ) (path : PathWord) → HoldsAll (Some told) (take n paths) files → k < n
    → slice_get paths k ≡ Some path → HoldsLonger (Some told) path.path → ⊥
front_is_short told paths files zero k path h less at longer = absurd (omega arith)
front_is_short told [] files (suc n) k path h less at longer = absurd cc
front_is_short told (p ∷ paths) [] (suc n) k path h less at longer = absurd h
front_is_short told (p ∷ paths) (f ∷ files) (suc n) zero path h less at longer =
    let same : p ≡ path = cc in
    short_is_not_long told p.path f.bytes h.0.1 h.0.2 (subst (λ (q : PathWord). HoldsLonger (Some told) q.path) (sym same) longer)
front_is_short told (p ∷ paths) (f ∷ files) (suc n) (suc k) path h less at longer = front_is_short told paths files n k path h.1 (omega arith) at longer

all_are_short : (told : Told) (paths : List PathWord) (files : List File) (k : ℕ) (path : PathWord) → HoldsAll (Some told) paths files → slice_get paths k ≡ Some path
    → HoldsLonger (Some told) path.path → ⊥
all_are_short told [] files k path h at longer = absurd cc
all_are_short told (p ∷ paths) [] k path h at longer = absurd h
all_are_short told (p ∷ paths) (f ∷ files) zero path h at longer =
    let same : p ≡ path = cc in
    short_is_not_long told p.path f.bytes h.0.1 h.0.2 (subst (λ (q : PathWord). HoldsLonger (Some told) q.path) (sym same) longer)
all_are_short told (p ∷ paths) (f ∷ files) (suc k) path h at longer = all_are_short told paths files k path h.1 at longer

longer_told : (shelf : ShelfState) (told : Told) (path : List ℕ) → shelf.files ≡ Some told → HoldsLonger shelf.files path → HoldsLonger (Some told) path
longer_told shelf told path is h = subst (λ (t : Option Told). HoldsLonger t path) is h

pub is_first_long : (before after : ShelfState) (paths : List PathWord) (word : ℕ) → IsOverlong before after paths word → IsFirstLong before paths word
is_first_long before after paths word at =
    record { place = at.place; path = at.path; stands = at.stands; is_word = at.overlong.is_word; longer = at.overlong.longer; front = at.front }

-- files that are held have none that is too long
pub none_is_long : (shelf : ShelfState) (paths : List PathWord) (files : List File) (word : ℕ) → Tells shelf → HoldsAll shelf.files paths files → IsFirstLong shelf paths word → ⊥
none_is_long shelf paths files word tells h u =
    all_are_short tells.told paths files u.place u.path (given shelf tells.told paths files tells.is_told h) u.stands
    (longer_told shelf tells.told u.path.path tells.is_told u.longer)

none_before : (shelf : ShelfState) (paths : List PathWord) (files : List File) (n word : ℕ) → Tells shelf → HoldsAll shelf.files (take n paths) files
    → (u : IsFirstLong shelf paths word) → u.place < n → ⊥
none_before shelf paths files n word tells h u less =
    front_is_short tells.told paths files n u.place u.path (given shelf tells.told (take n paths) files tells.is_told h) less u.stands
    (longer_told shelf tells.told u.path.path tells.is_told u.longer)

take_less : {A : Type 0} (m n : ℕ) (xs : List A) → m ≤ n → take m (take n xs) ≡ take m xs
take_less zero n xs less = refl
take_less (suc m) zero xs less = absurd (omega arith)
take_less (suc m) (suc n) [] less = refl
take_less (suc m) (suc n) (x ∷ xs) less = ap (λ ys. x ∷ ys) (take_less m n xs (omega arith))

-- files that are fetched are fewer than those that are too big together
big_is_behind : (shelf : ShelfState) (paths : List PathWord) (place : ℕ) → Tells shelf → IsFetched shelf paths place → (big : IsTooBig shelf paths) → big.count ≤ place → ⊥
big_is_behind shelf paths place tells front big less =
    let some : HoldsAll shelf.files (take big.count (take place paths)) (take big.count front.files) = held_front shelf.files big.count (take place paths) front.files front.held in
    let held : HoldsAll shelf.files (take big.count paths) (take big.count front.files) =
    subst (λ (ps : List PathWord). HoldsAll shelf.files ps (take big.count front.files)) (take_less big.count place paths less) some in
    let same : big.files ≡ take big.count front.files = same_files shelf (take big.count paths) (take big.count front.files) big.files tells held big.held in
    let bytes : total big.files ≡ total (take big.count front.files) = ap total same in
    let fits = front.fits in
    absurd (omega (arith, big.big, bytes, fits, sum_by-take-le (λ (f : File). length f.bytes) front.files big.count))

-- files that are too big together stand before one that is too long, or behind it: not both
pub long_is_not_big : (shelf : ShelfState) (paths : List PathWord) (word : ℕ) → Tells shelf → IsFirstLong shelf paths word → IsTooBig shelf paths → ⊥
long_is_not_big shelf paths word tells u big = elim (compared u.place big.count) [
  | inl apart ↦ elim apart [
    | inl less ↦ none_before shelf paths big.files big.count word tells big.held u less
    | inr more ↦ big_is_behind shelf paths u.place tells u.front big (omega (arith, more))
  ]
  | inr same ↦ big_is_behind shelf paths u.place tells u.front big (omega (arith, same))
]

some_path : (p q : PathWord) → Some p ≡ Some q → p ≡ q
some_path p q e = cc

-- one file is the first that is too long
pub same_long : (shelf : ShelfState) (paths : List PathWord) (word other : ℕ) → Tells shelf → IsFirstLong shelf paths word → IsFirstLong shelf paths other → other ≡ word
same_long shelf paths word other tells u v = elim (compared u.place v.place) [
  | inl apart ↦ elim apart [
    | inl less ↦ absurd (none_before shelf paths v.front.files v.place word tells v.front.held u less)
    | inr more ↦ absurd (none_before shelf paths u.front.files u.place other tells u.front.held v more)
  ]
  | inr same ↦
      let at : slice_get paths u.place ≡ Some v.path = rw same v.stands in
      let one : v.path ≡ u.path = some_path v.path u.path (sym at ∙ u.stands) in
      v.is_word ∙ ap (λ (p : PathWord). p.index) one ∙ sym u.is_word
]

-- ---- the classes

abbrev pub Decided : Type 0
Decided = (bytes : List ℕ) → IsBytes bytes → IsDecided bytes

abbrev IsNoClass : List ℕ → Type 0
IsNoClass bytes = (class : ClassRecord) → IsClassFile bytes class → ⊥

no_class : (bytes : List ℕ) (offset : ℕ) (kind : FaultKind) → Decided → IsBytes bytes → IsFault bytes offset kind → IsNoClass bytes
no_class bytes offset kind decided are fault class is = (decided bytes are).not_both class fault.fault is fault.first

bytes_of : (files : List File) (k : ℕ) (file : File) → HoldBytes files → slice_get files k ≡ Some file → IsBytes file.bytes
bytes_of [] k file hold at = absurd cc
bytes_of (f ∷ files) zero file hold at = let same : f ≡ file = cc in subst (λ (g : File). IsBytes g.bytes) same hold.0
bytes_of (f ∷ files) (suc k) file hold at = bytes_of files k file hold.1 at

pub same_classes : (files : List File) (cs ds : List ClassRecord) → Decided → HoldBytes files → AreClasses files cs → AreClasses files ds → cs ≡ ds
same_classes [] [] [] decided hold h k = refl
same_classes [] [] (d ∷ ds) decided hold h k = absurd k
same_classes [] (c ∷ cs) ds decided hold h k = absurd h
same_classes (f ∷ files) [] ds decided hold h k = absurd h
same_classes (f ∷ files) (c ∷ cs) [] decided hold h k = absurd k
same_classes (f ∷ files) (c ∷ cs) (d ∷ ds) decided hold h k =
    let here : c ≡ d = (decided f.bytes hold.0).one_class c d h.0 k.0 in
    let others : cs ≡ ds = same_classes files cs ds decided hold.1 h.1 k.1 in
    cc

-- each file before a place is a class, where the front up to there is
front_is_read : (files : List File) (cs : List ClassRecord) (n k : ℕ) (file : File) → AreClasses (take n files) cs → k < n → slice_get files k ≡ Some file
    → IsNoClass file.bytes → ⊥
front_is_read files cs zero k file h less at none = absurd (omega arith)
front_is_read [] cs (suc n) k file h less at none = absurd cc
front_is_read (f ∷ files) [] (suc n) k file h less at none = absurd h
front_is_read (f ∷ files) (c ∷ cs) (suc n) zero file h less at none =
    let same : f ≡ file = cc in
    none c (subst (λ (g : File). IsClassFile g.bytes c) same h.0)
front_is_read (f ∷ files) (c ∷ cs) (suc n) (suc k) file h less at none = front_is_read files cs n k file h.1 (omega arith) at none

all_is_read : (files : List File) (cs : List ClassRecord) (k : ℕ) (file : File) → AreClasses files cs → slice_get files k ≡ Some file → IsNoClass file.bytes → ⊥
all_is_read [] cs k file h at none = absurd cc
all_is_read (f ∷ files) [] k file h at none = absurd h
all_is_read (f ∷ files) (c ∷ cs) zero file h at none =
    let same : f ≡ file = cc in
    none c (subst (λ (g : File). IsClassFile g.bytes c) same h.0)
all_is_read (f ∷ files) (c ∷ cs) (suc k) file h at none = all_is_read files cs k file h.1 at none

-- files that are classes have no bad one
pub no_bad_class : (files : List File) (cs : List ClassRecord) (word offset : ℕ) (kind : FaultKind) → Decided → HoldBytes files → AreClasses files cs
    → IsBadClass files word offset kind → ⊥
no_bad_class files cs word offset kind decided hold are bad =
    all_is_read files cs bad.place bad.file are bad.stands (no_class bad.file.bytes offset kind decided (bytes_of files bad.place bad.file hold bad.stands) bad.is_fault)

some_told : (p q : ℕ × FaultKind) → Some p ≡ Some q → p ≡ q
some_told p q e = cc

some_file : (f g : File) → Some f ≡ Some g → f ≡ g
some_file f g e = cc

-- bytes have one first fault
same_fault : (bytes : List ℕ) (offset other : ℕ) (kind kind' : FaultKind) → Decided → IsBytes bytes → IsFault bytes offset kind → IsFault bytes other kind'
    → let one : ℕ × FaultKind = (other, kind') in one ≡ (offset, kind)
same_fault bytes offset other kind kind' decided are u v =
    let same : v.fault ≡ u.fault = (decided bytes are).one_fault v.fault u.fault v.first u.first in
    some_told (other, kind') (offset, kind) (sym v.told ∙ ap told_of same ∙ u.told)

-- and files have one first bad class
pub same_bad_class : (files : List File) (word other offset offset' : ℕ) (kind kind' : FaultKind) → Decided → HoldBytes files → IsBadClass files word offset kind
    → IsBadClass files other offset' kind' → answers.BadClass other offset' kind' ≡ answers.BadClass word offset kind
same_bad_class files word other offset offset' kind kind' decided hold u v =
    let in_u = no_class u.file.bytes offset kind decided (bytes_of files u.place u.file hold u.stands) u.is_fault in
    let in_v = no_class v.file.bytes offset' kind' decided (bytes_of files v.place v.file hold v.stands) v.is_fault in
    elim (compared u.place v.place) [
      | inl apart ↦ elim apart [
        | inl less ↦ absurd (front_is_read files v.classes v.place u.place u.file v.front less u.stands in_u)
        | inr more ↦ absurd (front_is_read files u.classes u.place v.place v.file u.front more v.stands in_v)
      ]
      | inr same ↦
          let at : slice_get files u.place ≡ Some v.file = rw same v.stands in
          let one : v.file ≡ u.file = some_file v.file u.file (sym at ∙ u.stands) in
          let words : other ≡ word = v.is_word ∙ ap (λ (f : File). f.word) one ∙ sym u.is_word in
          let here : IsFault u.file.bytes offset' kind' = subst (λ (f : File). IsFault f.bytes offset' kind') one v.is_fault in
          let told = same_fault u.file.bytes offset offset' kind kind' decided (bytes_of files u.place u.file hold u.stands) u.is_fault here in
          ap (λ w. answers.BadClass w offset' kind') words ∙ ap (λ (t : ℕ × FaultKind). answers.BadClass word t.0 t.1) told
    ]
