-- An entry that isn't read: its tag is wrong, or the bytes are the beginning of one.
use Rattle.std.proofs.Common.{◌≡◌, ◌≢◌, ◌⊎◌, ℕ, zero, suc, ◌+◌, ◌-◌, ◌^◌, ◌<◌, Bool, true, false, cond, eqb, ltb, ◌&&◌, List, [], ◌∷◌, ◌++◌, length, take, drop, replicate, Option, Some, None, Result, Ok, Err, refl, sym, ap, subst, ◌∙◌, append_assoc, arith, inl, inr}
use Rattle.std.proofs.Math.Bool.{and-false}
use Rattle.std.proofs.lemmas.Bool.{and_parts, or_cases, eqb-true, ltb-true, le-ltb}
use Rattle.std.proofs.lemmas.List.{length-append, length-replicate, append-nil, take_at, drop_at, nil_from_length}
use Rattle.byteorder.specs.Endian.{big_bytes, big_number}
use Rattle.byteorder.specs.Numbers.{big_from-lt, length-bytes_high_first}
use Rattle.class_pool.specs.declared.constant.Constant.{Constant}
use Rattle.class_pool.specs.declared.constant.Constant.TheVariants.{Utf8, Class}
use Rattle.class_pool.specs.declared.fault.PoolFault.{PoolFault}
use Rattle.class_pool.specs.declared.fault.PoolFault.TheVariants.{Short, BadTag}
use Rattle.class_pool.specs.Place.{Place, after, end_of, IsBytes}
use Rattle.class_pool.specs.Pool.{IsEntry}
use Rattle.class_pool.specs.PoolReading.{◌>>=◌, number_or_short, num_at, bytes_at, Body, Text, One, Two, bodies, body_in, body_at, is_wide_tag, entry_at}
use Rattle.class_pool.proofs.Numbers.{big_bytes-number, big_bytes-fit}
use Rattle.class_pool.proofs.Pieces.{IsNumber, starts-rest}
use Rattle.class_pool.proofs.EntryReading.{bound, num_takes, number_there, entry_takes, entry_again}
use Rattle.class_faults.specs.PoolFaults.{IsBadTag, IsCut}

-- ---- bytes

pub fits_both : (xs ys : List ℕ) → IsBytes xs → IsBytes ys → IsBytes (xs ++ ys)
fits_both [] ys h k i = k i
fits_both (x ∷ xs) ys h k zero = h zero
fits_both (x ∷ xs) ys h k (suc i) = fits_both xs ys (λ j. h (suc j)) k i

abbrev zeros : ℕ → List ℕ
zeros n = replicate n 0

zeros_sized : (n : ℕ) → length (zeros n) ≡ n
zeros_sized n = length-replicate {A = ℕ} n 0

zeros_fit : (n : ℕ) → IsBytes (zeros n)
zeros_fit zero i = omega arith
zeros_fit (suc n) zero = omega arith
zeros_fit (suc n) (suc i) = zeros_fit n i

some_front : (xs ys : List ℕ) → xs ≢ [] → xs ++ ys ≢ []
some_front [] ys h e = h refl
some_front (x ∷ xs) ys h e = absurd (let wrong = e in cc)

-- ---- numbers that are cut

-- with more bytes the bytes are a number
record Completed (width : ℕ) (bytes : List ℕ) : Type 0 where
  more : List ℕ
  number : ℕ
  some : more ≢ []
  more_fits : IsBytes more
  fits : number < 256 ^ width
  parts : bytes ++ more ≡ big_bytes width number

completed : (width : ℕ) (bytes : List ℕ) → IsBytes bytes → length bytes < width → Completed width bytes
completed width bytes h lt =
    let n : ℕ = width - length bytes in
    let xs : List ℕ = bytes ++ zeros n in
    let sized : length xs ≡ width = omega (arith, length-append bytes (zeros n), zeros_sized n, lt) in
    let fits : IsBytes xs = fits_both bytes (zeros n) h (zeros_fit n) in
    let all : take width xs ≡ xs = ap (take width) (sym (append-nil xs)) ∙ take_at xs [] width sized in
    record {
      more = zeros n;
      number = big_number width xs;
      some = λ e. omega (arith, ap length e, zeros_sized n, lt);
      more_fits = zeros_fit n;
      fits = big_from-lt 0 width xs fits;
      parts = sym (big_bytes-number width xs (omega (arith, sized)) fits ∙ all);
    }

some_number : (width : ℕ) → (n : ℕ) × (n < 256 ^ width)
some_number width = (big_number width [], big_from-lt 0 width [] (λ i. omega arith))

big_fit : (width n : ℕ) → n < 256 ^ width → IsBytes (big_bytes width n)
big_fit width n lt = big_bytes-fit width n

-- ---- steps that fail

failed : {A B : Type 0} (r : Result A PoolFault) (f : A → Result B PoolFault) (d : PoolFault) → (r >>= f) ≡ Err d → (r ≡ Err d) ⊎ ((x : A) × (r ≡ Ok x) × (f x ≡ Err d))
failed (Ok x) f d e = inr (x, refl, e)
failed (Err c) f d e = inl cc

num_failed_by : (n : ℕ) (place : Place) (b : Bool) (k : ℕ) (d : PoolFault) → number_or_short n place (cond b None (Some k)) ≡ Err d → (d ≡ Short (end_of place)) × (b ≡ true)
num_failed_by n place true k d e = (cc, refl)
num_failed_by n place false k d e = absurd (let wrong = e in cc)

pub num_failed : (n : ℕ) (place : Place) (d : PoolFault) → num_at n place ≡ Err d → (d ≡ Short (end_of place)) × (length place.rest < n)
num_failed n place d e = let f = num_failed_by n place (ltb (length place.rest) n) (big_number n place.rest) d e in (f.0, ltb-true (length place.rest) n f.1)

bytes_failed_by : {A : Type 0} (b : Bool) (c d : PoolFault) (x : A) → (let r : Result A PoolFault = cond b (Err c) (Ok x) in r) ≡ Err d → (d ≡ c) × (b ≡ true)
bytes_failed_by true c d x e = (cc, refl)
bytes_failed_by false c d x e = absurd (let wrong = e in cc)

bytes_failed : (n : ℕ) (place : Place) (d : PoolFault) → bytes_at n place ≡ Err d → (d ≡ Short (end_of place)) × (length place.rest < n)
bytes_failed n place d e = let f = bytes_failed_by (ltb (length place.rest) n) (Short (end_of place)) d (take n place.rest, after n place) e in (f.0, ltb-true (length place.rest) n f.1)

-- ---- steps over more bytes

abbrev pub with_more : Place → List ℕ → Place
with_more place more = record { at = place.at; rest = place.rest ++ more }

record Number (n : ℕ) (place : Place) (k : ℕ) (next : Place) : Type 0 where
  fits : k < 256 ^ n
  parts : place.rest ≡ big_bytes n k ++ next.rest
  moved : next.at ≡ place.at + n
  ends : end_of next ≡ end_of place
  rest_fits : IsBytes next.rest

number_of : (n : ℕ) (place : Place) (k : ℕ) (next : Place) → IsBytes place.rest → num_at n place ≡ Ok (k, next) → Number n place k next
number_of n place k next fits e =
    let s = num_takes n place k next fits e in
    let sized : length s.piece ≡ n = ap length s.is.0 ∙ length-bytes_high_first n k in
    record {
      fits = s.is.1;
      parts = s.parts ∙ ap (λ (b : List ℕ). b ++ next.rest) s.is.0;
      moved = omega (arith, s.moved, sized);
      ends = omega (arith, s.moved, ap length s.parts, length-append s.piece next.rest);
      rest_fits = starts-rest (IsNumber n) place next k s fits;
    }

num_extended : (n : ℕ) (place : Place) (k : ℕ) (next : Place) (more : List ℕ) → Number n place k next → num_at n (with_more place more) ≡ Ok (k, with_more next more)
num_extended n place k next more s =
    number_there n (with_more place more) k (with_more next more) s.fits (ap (λ (b : List ℕ). b ++ more) s.parts ∙ append_assoc (big_bytes n k) next.rest more) s.moved

-- a cut number, and then these bytes
num_completed : (n : ℕ) (place : Place) (c : Completed n place.rest) (tail : List ℕ) → num_at n (with_more place (c.more ++ tail)) ≡ Ok (c.number, record { at = place.at + n; rest = tail })
num_completed n place c tail =
    number_there n (with_more place (c.more ++ tail)) c.number (record { at = place.at + n; rest = tail }) c.fits (sym (append_assoc place.rest c.more tail) ∙ ap (λ (b : List ℕ). b ++ tail) c.parts) refl

bytes_there : (place : Place) (n : ℕ) → length place.rest ≡ n → bytes_at n place ≡ Ok (place.rest, record { at = place.at + n; rest = [] })
bytes_there place n sized =
    let long : ltb (length place.rest) n ≡ false = le-ltb (length place.rest) n (omega (arith, sized)) in
    let all : take n place.rest ≡ place.rest = ap (take n) (sym (append-nil place.rest)) ∙ take_at place.rest [] n sized in
    let none : drop n place.rest ≡ [] = ap (drop n) (sym (append-nil place.rest)) ∙ drop_at place.rest [] n sized in
    rw (long, all, none) refl

-- ---- bodies

-- with more bytes the body is read to the end
record Completes (at tag : ℕ) (body : Body) (place : Place) : Type 0 where
  more : List ℕ
  entry : Constant
  next : Place
  some : more ≢ []
  fits : IsBytes more
  ends : next.rest ≡ []
  reads : body_at at tag (Some body) (with_more place more) ≡ Ok (entry, next)

text_completes : (at tag : ℕ) (place q : Place) (n : ℕ) → IsBytes place.rest → Number 2 place n q → length q.rest < n → Completes at tag Text place
text_completes at tag place q n fits s lt =
    let more : List ℕ = zeros (n - length q.rest) in
    let sized : length (q.rest ++ more) ≡ n = omega (arith, length-append q.rest more, zeros_sized (n - length q.rest), lt) in
    record {
      more = more;
      entry = Utf8 (q.rest ++ more);
      next = record { at = q.at + n; rest = [] };
      some = λ e. omega (arith, ap length e, zeros_sized (n - length q.rest), lt);
      fits = zeros_fit (n - length q.rest);
      ends = refl;
      reads = bound _ (num_extended 2 place n q more s) (bound _ (bytes_there (with_more q more) n sized) refl);
    }

length_completes : (at tag : ℕ) (place : Place) → Completed 2 place.rest → Completes at tag Text place
length_completes at tag place c =
    let text : List ℕ = zeros c.number in
    record {
      more = c.more ++ text;
      entry = Utf8 text;
      next = record { at = place.at + 2 + c.number; rest = [] };
      some = some_front c.more text c.some;
      fits = fits_both c.more text c.more_fits (zeros_fit c.number);
      ends = refl;
      reads = bound _ (num_completed 2 place c text) (bound _ (bytes_there (record { at = place.at + 2; rest = text }) c.number (zeros_sized c.number)) refl);
    }

one_completes : (at tag width : ℕ) (make : ℕ → Constant) (place : Place) → Completed width place.rest → Completes at tag (One width make) place
one_completes at tag width make place c = record {
  more = c.more ++ [];
  entry = make c.number;
  next = record { at = place.at + width; rest = [] };
  some = some_front c.more [] c.some;
  fits = fits_both c.more [] c.more_fits (zeros_fit 0);
  ends = refl;
  reads = bound _ (num_completed width place c []) refl;
}

first_completes : (at tag first second : ℕ) (make : ℕ → ℕ → Constant) (place : Place) → Completed first place.rest → Completes at tag (Two first second make) place
first_completes at tag first second make place c =
    let n = some_number second in
    let tail : List ℕ = big_bytes second n.0 in
    let next : Place = record { at = place.at + first + second; rest = [] } in
    record {
      more = c.more ++ tail;
      entry = make c.number n.0;
      next = next;
      some = some_front c.more tail c.some;
      fits = fits_both c.more tail c.more_fits (big_fit second n.0 n.1);
      ends = refl;
      reads = bound _ (num_completed first place c tail) (bound _ (number_there second (record { at = place.at + first; rest = tail }) n.0 next n.1 (sym (append-nil tail)) refl) refl);
    }

second_completes : (at tag first second : ℕ) (make : ℕ → ℕ → Constant) (place q : Place) (m : ℕ) → Number first place m q → Completed second q.rest → Completes at tag (Two first second make) place
second_completes at tag first second make place q m s c = record {
  more = c.more ++ [];
  entry = make m c.number;
  next = record { at = q.at + second; rest = [] };
  some = some_front c.more [] c.some;
  fits = fits_both c.more [] c.more_fits (zeros_fit 0);
  ends = refl;
  reads = bound _ (num_extended first place m q (c.more ++ []) s) (bound _ (num_completed second q c []) refl);
}

abbrev CutBody : ℕ → ℕ → Body → Place → PoolFault → Type 0
CutBody at tag body place d = (d ≡ Short (end_of place)) × Completes at tag body place

at_end : (p q : Place) (d : PoolFault) → end_of q ≡ end_of p → d ≡ Short (end_of q) → d ≡ Short (end_of p)
at_end p q d e same = same ∙ ap (λ (n : ℕ). Short n) e

body_cut : (at tag : ℕ) (body : Body) (place : Place) (d : PoolFault) → IsBytes place.rest → body_at at tag (Some body) place ≡ Err d → CutBody at tag body place d
body_cut at tag Text place d fits e =
    elim (failed (num_at 2 place) _ d e) [
      | inl h ↦ let f = num_failed 2 place d h in (f.0, length_completes at tag place (completed 2 place.rest fits f.1))
      | inr n ↦
          let s = number_of 2 place n.0.0 n.0.1 fits n.1 in
          elim (failed (bytes_at n.0.0 n.0.1) _ d n.2) [
            | inl h ↦ let f = bytes_failed n.0.0 n.0.1 d h in (at_end place n.0.1 d s.ends f.0, text_completes at tag place n.0.1 n.0.0 fits s f.1)
            | inr t ↦ absurd (let wrong = t.2 in cc)
          ]
    ]
body_cut at tag (One width make) place d fits e =
    elim (failed (num_at width place) _ d e) [
      | inl h ↦ let f = num_failed width place d h in (f.0, one_completes at tag width make place (completed width place.rest fits f.1))
      | inr n ↦ absurd (let wrong = n.2 in cc)
    ]
body_cut at tag (Two first second make) place d fits e =
    elim (failed (num_at first place) _ d e) [
      | inl h ↦ let f = num_failed first place d h in (f.0, first_completes at tag first second make place (completed first place.rest fits f.1))
      | inr m ↦
          let s = number_of first place m.0.0 m.0.1 fits m.1 in
          elim (failed (num_at second m.0.1) _ d m.2) [
            | inl h ↦ let f = num_failed second m.0.1 d h in (at_end place m.0.1 d s.ends f.0, second_completes at tag first second make place m.0.1 m.0.0 s (completed second m.0.1.rest s.rest_fits f.1))
            | inr n ↦ absurd (let wrong = n.2 in cc)
          ]
    ]

-- ---- entries

-- what is wrong where no entry is read
abbrev pub Wrong : ℕ → Place → PoolFault → Type 0
Wrong left place d = ((d ≡ Short (end_of place)) × IsCut place.rest) ⊎ ((tag : ℕ) × (bytes : List ℕ) × (d ≡ BadTag place.at tag) × (place.rest ≡ tag ∷ bytes) × IsBadTag left tag)

wide_tag : (left tag : ℕ) → (is_wide_tag tag && eqb left 0) ≡ true → (left ≡ 0) × ((tag ≡ 5) ⊎ (tag ≡ 6))
wide_tag left tag e =
    let both = and_parts (is_wide_tag tag) (eqb left 0) e in
    (eqb-true left 0 both.1, elim (or_cases (eqb tag 5) (eqb tag 6) both.0) [ inl h ↦ inl (eqb-true tag 5 h) | inr h ↦ inr (eqb-true tag 6 h) ])

one_byte : (tag : ℕ) → tag < 256 → big_bytes 1 tag ≡ tag ∷ []
one_byte tag lt = ap (λ (t : ℕ). t ∷ []) (omega (arith, lt))

-- where no body is behind a tag, no entry begins with it
no_entry : (tag : ℕ) → tag < 256 → body_in tag bodies ≡ None → (bytes : List ℕ) (entry : Constant) → IsEntry (tag ∷ bytes) entry → ⊥
unfolding entry_at
no_entry tag lt none bytes entry is =
    let place : Place = record { at = 0; rest = tag ∷ bytes } in
    let next : Place = record { at = 0 + length (tag ∷ bytes); rest = [] } in
    let past : Place = record { at = 0 + 1; rest = bytes } in
    let read = entry_again entry 1 place next (λ w. omega arith) (record { piece = tag ∷ bytes; is = is; parts = sym (append-nil (tag ∷ bytes)); moved = refl }) in
    let first : num_at 1 place ≡ Ok (tag, past) = number_there 1 place tag past (omega (arith, lt)) (ap (λ (b : List ℕ). b ++ bytes) (sym (one_byte tag lt))) refl in
    let fails : entry_at 1 place ≡ Err (BadTag 0 tag) = bound _ first (rw (and-false (is_wide_tag tag)) (ap (λ (o : Option Body). body_at 0 tag o past) none)) in
    let clash = sym read ∙ fails in
    cc

-- the bytes of a cut body, its tag before it, are the beginning of an entry
entry_completes : (left tag : ℕ) (place p : Place) (body : Body) → IsBytes place.rest → Number 1 place tag p → (is_wide_tag tag && eqb left 0) ≡ false → body_in tag bodies ≡ Some body → Completes place.at tag body p → IsCut place.rest
unfolding entry_at
entry_completes left tag place p body fits s room row c =
    let whole : Place = with_more place c.more in
    let read : entry_at left whole ≡ Ok (c.entry, c.next) = bound _ (num_extended 1 place tag p c.more s) (rw (room, row) c.reads) in
    let e = (entry_takes left whole c.entry c.next (fits_both place.rest c.more fits c.fits) read).starts in
    let all : e.piece ≡ place.rest ++ c.more = sym (append-nil e.piece) ∙ ap (λ (r : List ℕ). e.piece ++ r) (sym c.ends) ∙ sym e.parts in
    record { more = c.more; entry = c.entry; some = c.some; is = subst (λ (b : List ℕ). IsEntry b c.entry) all e.is }

nothing_there : (bytes : List ℕ) → length bytes < 1 → IsCut bytes
nothing_there bytes lt =
    let nothing : IsCut [] = record { more = 7 ∷ big_bytes 2 0; entry = Class 0; some = λ e. absurd (let wrong = e in cc); is = (omega arith, refl) } in
    subst IsCut (sym (nil_from_length bytes (omega (arith, lt)))) nothing

body_wrong : (left tag : ℕ) (place p : Place) (o : Option Body) (d : PoolFault) → IsBytes place.rest → tag < 256 → place.rest ≡ tag ∷ p.rest → Number 1 place tag p → (is_wide_tag tag && eqb left 0) ≡ false → body_in tag bodies ≡ o
    → body_at place.at tag o p ≡ Err d → Wrong left place d
body_wrong left tag place p None d fits lt front s room row e = inr (tag, p.rest, cc, front, inl (no_entry tag lt row))
body_wrong left tag place p (Some body) d fits lt front s room row e =
    let c = body_cut place.at tag body p d s.rest_fits e in
    inl (at_end place p d s.ends c.0, entry_completes left tag place p body fits s room row c.1)

tag_wrong : (left tag : ℕ) (place p : Place) (wide : Bool) (d : PoolFault) → IsBytes place.rest → tag < 256 → place.rest ≡ tag ∷ p.rest → Number 1 place tag p → (is_wide_tag tag && eqb left 0) ≡ wide
    → cond wide (Err (BadTag place.at tag)) (body_at place.at tag (body_in tag bodies) p) ≡ Err d → Wrong left place d
tag_wrong left tag place p true d fits lt front s e h = inr (tag, p.rest, cc, front, inr (wide_tag left tag e))
tag_wrong left tag place p false d fits lt front s e h = body_wrong left tag place p (body_in tag bodies) d fits lt front s e refl h

pub entry_wrong : (left : ℕ) (place : Place) (d : PoolFault) → IsBytes place.rest → entry_at left place ≡ Err d → Wrong left place d
unfolding entry_at
entry_wrong left place d fits e =
    elim (failed (num_at 1 place) _ d e) [
      | inl h ↦ let f = num_failed 1 place d h in inl (f.0, nothing_there place.rest f.1)
      | inr t ↦
          let s = number_of 1 place t.0.0 t.0.1 fits t.1 in
          let lt : t.0.0 < 256 = omega (arith, s.fits) in
          tag_wrong left t.0.0 place t.0.1 (is_wide_tag t.0.0 && eqb left 0) d fits lt (s.parts ∙ ap (λ (b : List ℕ). b ++ t.0.1.rest) (one_byte t.0.0 lt)) s refl t.2
    ]
