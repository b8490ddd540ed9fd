-- The first fault of a class file is there.
use Rattle.std.proofs.Common.{◌≡◌, ◌⊎◌, ℕ, ◌+◌, ◌^◌, ◌<◌, Bool, true, false, eqb, leb, not, ◌&&◌, List, [], ◌∷◌, ◌++◌, length, Option, Some, None, refl, sym, ap, subst, ◌∙◌, append_assoc, arith, inl, inr}
use Rattle.std.specs.List.{AllByRecursion}
use Rattle.std.specs.Prelude.{codes}
use Rattle.std.proofs.lemmas.Bool.{not-true, eqb-false, leb-false}
use Rattle.std.proofs.lemmas.List.{length-append}
use Rattle.byteorder.specs.Endian.{big_bytes}
use Rattle.byteorder.specs.Numbers.{length-bytes_high_first}
use Rattle.class_pool.specs.declared.constant.Constant.{Constant}
use Rattle.class_pool.specs.declared.fault.PoolFault.{PoolFault}
use Rattle.class_pool.specs.declared.fault.PoolFault.TheVariants as pool
use Rattle.class_pool.specs.Place.{Place, IsBytes}
use Rattle.class_pool.specs.Pieces.{StartsWith}
use Rattle.class_pool.proofs.Pieces.{starts-rest}
use Rattle.class_reader.specs.declared.fault.ClassFault.{ClassFault}
use Rattle.class_reader.specs.declared.fault.ClassFault.TheVariants.{Magic, Version, Reserved, Trailing}
use Rattle.class_reader.specs.Faults.{fault_of, IsFirst}
use Rattle.class_reader.specs.Met.{Met, num_at, if_cut, all_faults, Passes}
use Rattle.class_reader.specs.ClassReading.{Rest, fault_if, versions_at, head_at, rest_at}
use Rattle.class_reader.specs.FirstFault.{start_of, HasPool, HasRest, IsFirstFault, in_head, in_pool, in_rest, built_in, goes_past}
use Rattle.class_reader.proofs.MetLaws.{spanned, rewritten, first_of_two}
use Rattle.class_reader.proofs.ClassLaws.{head_reader, rest_reader}
use Rattle.class_faults.specs.Pieces.{IsNumber, HasNumberAt, IsFileHead}
use Rattle.class_faults.specs.PoolFaults.{StandsInPool}
use Rattle.class_faults.specs.Parts.{Names, OfClass, Opens, behind_pool}
use Rattle.class_faults.specs.Faults.{IsCutFile, StandsAt}
use Rattle.class_faults.proofs.Yields.{all_joined, all_split, yields_with, yields_behind, yields_then, num_yields}
use Rattle.class_faults.proofs.Heads.{number_sized, number_behind, number_here}
use Rattle.class_faults.proofs.Bytes.{stands_fit}
use Rattle.class_faults.proofs.Told.{Tells, told_if, AttributesAt}
use Rattle.class_faults.proofs.Methods.{rest_tells}
use Rattle.class_faults.proofs.PoolTold.{first_stands}

-- ---- magic and versions

other_magic : (bytes : List ℕ) (magic : ℕ) (next : Place) → StartsWith (IsNumber 4) (start_of bytes) magic next → not (eqb magic 0xcafebabe) ≡ true → StandsAt bytes (Magic 0)
other_magic bytes magic next s e = (refl, (magic, number_here 4 (start_of bytes) magic next s, eqb-false magic 0xcafebabe (not-true (eqb magic 0xcafebabe) e)))

out_of_bounds : (major : ℕ) (low high : Bool) → leb 45 major ≡ low → leb major 65 ≡ high → (low && high) ≡ false → (major < 45) ⊎ (65 < major)
out_of_bounds major false high l h e = inl (leb-false 45 major l)
out_of_bounds major true false l h e = inr (leb-false major 65 h)
out_of_bounds major true true l h e = absurd (let wrong = e in cc)

versions_tell : (bytes : List ℕ) (magic : ℕ) (place : Place) → IsBytes bytes → StartsWith (IsNumber 4) (start_of bytes) magic place → Tells bytes (λ (z : ℕ × Place). Unit {0}) (versions_at place)
unfolding versions_at
versions_tell bytes magic place fits s =
    let one = number_sized 4 (start_of bytes) magic place s in
    let fits1 = starts-rest (IsNumber 4) (start_of bytes) place magic s fits in
    yields_then (λ (z : ℕ × Place). StartsWith (IsNumber 2) place z.0 z.1) (num_at 2 place) _ (num_yields 2 place fits1 (λ lt. inl (omega (arith, lt, one.all))))
    (λ minor a.
    let two = number_sized 2 place minor.0 minor.1 a in
    let front : bytes ≡ (s.piece ++ a.piece) ++ minor.1.rest = s.parts ∙ ap (λ (r : List ℕ). s.piece ++ r) a.parts ∙ sym (append_assoc s.piece a.piece minor.1.rest) in
    yields_then (λ (z : ℕ × Place). StartsWith (IsNumber 2) minor.1 z.0 z.1) (num_at 2 minor.1) _
    (num_yields 2 minor.1 (starts-rest (IsNumber 2) place minor.1 minor.0 a fits1) (λ lt. inl (omega (arith, lt, one.all, two.all))))
    (λ major b. yields_with (fault_if (not (leb 45 major.0 && leb major.0 65)) (Version minor.1.at)) major
    (told_if bytes (not (leb 45 major.0 && leb major.0 65)) (Version minor.1.at)
    (λ e. (
      omega (arith, one.moved, two.moved),
      (
        major.0,
        number_behind 2 6 (start_of bytes) minor.1 (s.piece ++ a.piece) major.0 major.1 front (omega (arith, length-append s.piece a.piece, one.sized, two.sized)) b,
        out_of_bounds major.0 (leb 45 major.0) (leb major.0 65) refl refl (not-true (leb 45 major.0 && leb major.0 65) e),
      ),
    ))) tt))

head_tells : (bytes : List ℕ) → IsBytes bytes → Tells bytes (λ (z : ℕ × Place). Unit {0}) (head_at (start_of bytes))
unfolding head_at
head_tells bytes fits =
    yields_then (λ (z : ℕ × Place). StartsWith (IsNumber 4) (start_of bytes) z.0 z.1) (num_at 4 (start_of bytes)) _ (num_yields 4 (start_of bytes) fits (λ lt. inl (omega (arith, lt))))
    (λ magic s. yields_behind (fault_if (not (eqb magic.0 0xcafebabe)) (Magic 0)) (versions_at magic.1) (told_if bytes (not (eqb magic.0 0xcafebabe)) (Magic 0) (λ e. other_magic bytes magic.0 magic.1 s e)) (versions_tell bytes magic.0 magic.1 fits s))

head_there : (bytes : List ℕ) (major : ℕ) (start : Place) → IsBytes bytes → Passes (head_at (start_of bytes)) (major, start) → StartsWith IsFileHead (start_of bytes) major start
head_there bytes major start fits p =
    let s = head_reader.takes (start_of bytes) major start fits p in
    let v = s.is.2 in
    record { piece = s.piece; is = record { minor = v.0; minor_fits = v.1; known = v.2; parts = s.is.1 ∙ ap (λ (b : List ℕ). big_bytes 4 0xcafebabe ++ b) v.3 }; parts = s.parts; moved = s.moved }

-- ---- the first of some faults

all_told : {A : Type 0} (bytes : List ℕ) (value : Option A) → (value ≡ None → IsCutFile bytes) → AllByRecursion (StandsAt bytes) (if_cut (length bytes) value)
all_told bytes None cut = ((refl, cut refl), tt)
all_told bytes (Some x) cut = tt

first_told : {A : Type 0} (bytes : List ℕ) (K : A → Type 0) (met : Met A) (fault : ClassFault) → Tells bytes K met → IsFirst (all_faults (length bytes) met) fault → StandsAt bytes fault
first_told {A} bytes K met fault y first =
    let all = all_joined (StandsAt bytes) met.faults (if_cut (length bytes) met.value) y.faults (all_told bytes met.value y.cut) in
    (all_split (StandsAt bytes) first.before (fault ∷ first.behind) (subst (AllByRecursion (StandsAt bytes)) first.parts all)).0

-- ---- the pool

pool_told : (bytes : List ℕ) (major : ℕ) (start : Place) (fault : PoolFault) → StartsWith IsFileHead (start_of bytes) major start → StandsInPool start fault → StandsAt bytes (fault_of fault)
pool_told bytes major start (pool.Short at) head s = (major, start, head, s)
pool_told bytes major start (pool.BadTag at tag) head s = (major, start, head, s)
pool_told bytes major start (pool.BadUtf8 at) head s = (major, start, head, s)
pool_told bytes major start (pool.BadIndex at index) head s = inl (major, start, head, s)
pool_told bytes major start pool.Memory head s = s

-- ---- behind the pool

opened : (bytes : List ℕ) (constants : List (Option Constant)) (place : Place) → IsBytes bytes → HasPool bytes constants place → Opens bytes constants place
opened bytes constants place fits h = record { major = h.major; start = h.start; head = head_there bytes h.major h.start fits h.head; is_pool = h.is_pool }

number_within : (place : Place) (flags this super behind : List ℕ) (index : ℕ) → place.rest ≡ (flags ++ (this ++ super)) ++ behind → length flags ≡ 2 → index < 2 ^ 16 → this ≡ big_bytes 2 index → HasNumberAt 2 2 place index
number_within place flags this super behind index parts two fits is = record {
  before = flags;
  behind = super ++ behind;
  fits = fits;
  parts =
      parts ∙ append_assoc flags (this ++ super) behind ∙ ap (λ (b : List ℕ). flags ++ b) (append_assoc this super behind) ∙ ap (λ (b : List ℕ). flags ++ (b ++ (super ++ behind))) is;
  skipped = two;
}

built_in_told : (bytes : List ℕ) (rest : Rest) (this last : Place) → IsBytes bytes → HasRest bytes rest this last → rest.name ≡ codes "java/lang/Object" → StandsAt bytes (Reserved (this.at + 2))
built_in_told bytes rest this last fits h e =
    let s = behind_pool (opened bytes h.pool this fits h.found) in
    let r = (rest_reader h.pool).takes this rest last (stands_fit bytes h.pool Names this fits s) h.passes in
    let names = r.is.are_names in
    let front = rewritten names.parts (first_of_two r.is.names (r.is.interfaces ++ (r.is.fields ++ (r.is.methods ++ r.is.attributes))) (rewritten r.is.parts (spanned r))) in
    record {
      pool = h.pool;
      place = this;
      stands = s;
      index = names.named.0;
      number = number_within this (big_bytes 2 rest.flags) names.this names.super _ names.named.0 front.parts (length-bytes_high_first 2 rest.flags) names.named.1 names.named.2;
      named = names.named.3 ∙ ap (λ (n : List ℕ). Some n) e;
      here = refl;
    }

goes_on_told : (bytes : List ℕ) (rest : Rest) (this last : Place) → IsBytes bytes → HasRest bytes rest this last → (last.rest ≡ [] → ⊥) → StandsAt bytes (Trailing last.at)
goes_on_told bytes rest this last fits h more =
    let s = behind_pool (opened bytes h.pool this fits h.found) in
    let end : AttributesAt bytes h.pool OfClass 0 last = (rest_tells bytes h.pool this fits s).value (rest, last) h.passes.0 in
    record { pool = h.pool; met = end.0; place = last; stands = end.1; more = more; here = refl }

-- ---- the first fault

pub first_is_there : (bytes : List ℕ) → IsBytes bytes → (fault : ClassFault) → IsFirstFault bytes fault → StandsAt bytes fault
first_is_there bytes fits fault (in_head {fault = f} first) = first_told bytes _ (head_at (start_of bytes)) f (head_tells bytes fits) first
first_is_there bytes fits fault (in_pool {major = major} {start = start} {fault = f} head first) =
    let h = head_there bytes major start fits head in
    pool_told bytes major start f h (first_stands start f (starts-rest IsFileHead (start_of bytes) start major h fits) first)
first_is_there bytes fits fault (in_rest {pool = constants} {place = place} {fault = f} found first) =
    first_told bytes _ (rest_at constants place) f (rest_tells bytes constants place fits (behind_pool (opened bytes constants place fits found))) first
first_is_there bytes fits fault (built_in {rest = rest} {this = this} {last = last} has named) = built_in_told bytes rest this last fits has named
first_is_there bytes fits fault (goes_past {rest = rest} {this = this} {last = last} has named more) = goes_on_told bytes rest this last fits has more
