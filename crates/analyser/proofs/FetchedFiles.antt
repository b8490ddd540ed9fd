-- Files that are fetched and read one after another.
use Rattle.std.proofs.Common.{◌≡◌, ℕ, ◌+◌, ◌<◌, ◌≤◌, List, [], ◌∷◌, ◌++◌, length, get_or, take, refl, sym, ap, subst, ◌∙◌, arith}
use Rattle.std.specs.List.{AllZip}
use Rattle.std.proofs.lemmas.List.{take_more}
use Rattle.std.proofs.lemmas.List.Sums.{sum_by-append}
use Rattle.std.proofs.lemmas.Option.{slice_get_read}
use Rattle.std.specs.List.{AllByRecursion}
use Rattle.class_pool.specs.Place.{IsBytes}
use Rattle.cost_words.specs.declared.command.PathWord.{PathWord}
use Rattle.class_reader.specs.declared.class.ClassRecord.{ClassRecord}
use Rattle.class_reader.specs.ClassFile.{IsClassFile}
use Rattle.ports.specs.Shelf.{ShelfState, Holds, longest_file}
use Rattle.analyser.specs.declared.fetching.File.{File}
use Rattle.analyser.specs.declared.status.FaultKind.{FaultKind}
use Rattle.analyser.specs.Files.{HoldBytes, HoldsAll, total, most_bytes, IsTooBig}
use Rattle.analyser.specs.Classes.{AreClasses, IsFault, IsBadClass}

pub AllZip-push : {A B : Type 0} (R : A → B → Type 0) (xs : List A) (ys : List B) (x : A) (y : B) → AllZip R xs ys → R x y → AllZip R (xs ++ x ∷ []) (ys ++ y ∷ [])
AllZip-push R [] [] x y all here = (here, tt)
AllZip-push R [] (b ∷ ys) x y all here = absurd all
AllZip-push R (a ∷ xs) [] x y all here = absurd all
AllZip-push R (a ∷ xs) (b ∷ ys) x y all here = (all.0, AllZip-push R xs ys x y all.1 here)

AllByRecursion-push : {A : Type 0} (P : A → Type 0) (xs : List A) (x : A) → AllByRecursion P xs → P x → AllByRecursion P (xs ++ x ∷ [])
AllByRecursion-push P [] x all here = (here, tt)
AllByRecursion-push P (a ∷ xs) x all here = (all.0, AllByRecursion-push P xs x all.1 here)

-- the files of the paths so far, from a shelf that was so first and is so now
pub record Fetching (first now : ShelfState) (paths : List PathWord) (files : List File) (sum : ℕ) : Type 0 where
  pub same : now ≡ first
  pub held : HoldsAll first.files paths files
  pub is_sum : sum ≡ total files
  pub fits : total files ≤ most_bytes
  pub bytes : HoldBytes files

-- the file that is fetched next is held too
held_more : (first now : ShelfState) (paths : List PathWord) (files : List File) (sum i : ℕ) (path : PathWord) (file : File)
    → Fetching first now (take i paths) files sum → i < length paths → path ≡ get_or paths i path → file.word ≡ path.index → Holds now.files path.path file.bytes
    → length file.bytes ≤ longest_file → HoldsAll first.files (take (i + 1) paths) (files ++ file ∷ [])
held_more first now paths files sum i path file so within is word held short =
    let more : take (i + 1) paths ≡ take i paths ++ path ∷ [] = take_more paths i path within ∙ ap (λ (p : PathWord). take i paths ++ p ∷ []) (sym is) in
    let here : Holds first.files path.path file.bytes = subst (λ (s : ShelfState). Holds s.files path.path file.bytes) so.same held in
    let all : HoldsAll first.files (take i paths ++ path ∷ []) (files ++ file ∷ []) =
    AllZip-push (λ (p : PathWord) (f : File). (f.word ≡ p.index) × Holds first.files p.path f.bytes × (length f.bytes ≤ longest_file)) (take i paths) files path file so.held
    (word, here, short) in
    rw more all

total_more : (files : List File) (file : File) → total (files ++ file ∷ []) ≡ total files + length file.bytes
total_more files file = let sums = sum_by-append (λ (f : File). length f.bytes) files (file ∷ []) in omega (arith, sums)

-- one file more
fetched_more : (first now after : ShelfState) (paths : List PathWord) (files : List File) (sum i : ℕ) (path : PathWord) (file : File)
    → Fetching first now (take i paths) files sum → i < length paths → path ≡ get_or paths i path → after ≡ now → file.word ≡ path.index
    → Holds now.files path.path file.bytes → length file.bytes ≤ longest_file → IsBytes file.bytes → sum + length file.bytes ≤ most_bytes
    → Fetching first after (take (i + 1) paths) (files ++ file ∷ []) (sum + length file.bytes)
fetched_more first now after paths files sum i path file so within is same word held short are fits =
    let bytes = total_more files file in
    record {
      same = same ∙ so.same;
      held = held_more first now paths files sum i path file so within is word held short;
      is_sum = omega (arith, so.is_sum, bytes);
      fits = omega (arith, so.is_sum, bytes);
      bytes = AllByRecursion-push (λ (f : File). IsBytes f.bytes) files file so.bytes are;
    }

pub fetched_next : (first now after : ShelfState) (paths : List PathWord) (files pushed : List File) (sum length_of i : ℕ) (path : PathWord) (file : File)
    → Fetching first now (take i paths) files sum → i < length paths → path ≡ get_or paths i path → after ≡ now → file.word ≡ path.index
    → Holds now.files path.path file.bytes → length file.bytes ≤ longest_file → IsBytes file.bytes → pushed ≡ files ++ file ∷ [] → length_of ≡ length file.bytes
    → sum + length_of ≤ most_bytes → Fetching first after (take (i + 1) paths) pushed (sum + length_of)
fetched_next first now after paths files pushed sum length_of i path file so within is same word held short are is_pushed is_length fits =
    let less : sum + length file.bytes ≤ most_bytes = omega (arith, fits, is_length) in
    rw (is_pushed, is_length) (fetched_more first now after paths files sum i path file so within is same word held short are less)

-- the sum passes
pub fetched_too_much : (first now : ShelfState) (paths : List PathWord) (files : List File) (sum i : ℕ) (path : PathWord) (file : File)
    → Fetching first now (take i paths) files sum → i < length paths → path ≡ get_or paths i path → file.word ≡ path.index → Holds now.files path.path file.bytes
    → length file.bytes ≤ longest_file → most_bytes < sum + length file.bytes → IsTooBig first paths
fetched_too_much first now paths files sum i path file so within is word held short big =
    let bytes = total_more files file in
    record {
      count = i + 1;
      files = files ++ file ∷ [];
      held = held_more first now paths files sum i path file so within is word held short;
      big = omega (arith, so.is_sum, bytes);
    }

-- ---- the classes

pub read_more : (files : List File) (classes : List ClassRecord) (i : ℕ) (file : File) (class : ClassRecord) → AreClasses (take i files) classes → i < length files → file ≡ get_or files i file
    → IsClassFile file.bytes class → AreClasses (take (i + 1) files) (classes ++ class ∷ [])
read_more files classes i file class all within is read =
    let more : take (i + 1) files ≡ take i files ++ file ∷ [] = take_more files i file within ∙ ap (λ (f : File). take i files ++ f ∷ []) (sym is) in
    rw more (AllZip-push (λ (f : File) (c : ClassRecord). IsClassFile f.bytes c) (take i files) classes file class all read)

pub read_next : (files : List File) (classes pushed : List ClassRecord) (i : ℕ) (file : File) (class : ClassRecord) → AreClasses (take i files) classes → i < length files
    → file ≡ get_or files i file → IsClassFile file.bytes class → pushed ≡ classes ++ class ∷ [] → AreClasses (take (i + 1) files) pushed
read_next files classes pushed i file class all within is read is_pushed = rw is_pushed (read_more files classes i file class all within is read)

pub bad_at : (files : List File) (classes : List ClassRecord) (i word offset : ℕ) (kind : FaultKind) (file : File) → AreClasses (take i files) classes
    → i < length files → file ≡ get_or files i file → word ≡ file.word → IsFault file.bytes offset kind → IsBadClass files word offset kind
bad_at files classes i word offset kind file all within is is_word fault =
    record { place = i; file = file; classes = classes; stands = slice_get_read files (length files) i file refl within is; is_word = is_word; is_fault = fault; front = all }
