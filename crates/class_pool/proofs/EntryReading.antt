-- The entries of a pool: what is read is an entry, and each entry is read.
use Rattle.std.proofs.Common.{◌≡◌, ℕ, suc, ◌+◌, ◌^◌, ◌<◌, ◌≤◌, Bool, true, false, cond, eqb, ltb, ◌&&◌, List, [], ◌∷◌, ◌++◌, length, take, drop, Option, Some, None, Result, Ok, Err, refl, sym, ap, subst, ◌∙◌, append_assoc, arith, inl, inr}
use Rattle.std.specs.List.{AllByRecursion}
use Rattle.std.proofs.lemmas.Bool.{cases_Bool, eqb-true, eqb-false, ltb-false, le-ltb}
use Rattle.std.proofs.lemmas.List.{take_at, drop_at, take-append-drop, length-append, length-take-le}
use Rattle.byteorder.specs.Endian.{big_bytes}
use Rattle.byteorder.specs.Numbers.{length-bytes_high_first}
use Rattle.class_pool.specs.declared.constant.Constant.{Constant}
use Rattle.class_pool.specs.declared.constant.Constant.TheVariants.{Utf8, Integer, Float, Long, Double, Class, String, Fieldref, Methodref, InterfaceMethodref, NameAndType, MethodHandle, MethodType, Dynamic, InvokeDynamic, Module, Package}
use Rattle.class_pool.specs.declared.fault.PoolFault.{PoolFault}
use Rattle.class_pool.specs.declared.fault.PoolFault.TheVariants.{Short, BadTag}
use Rattle.class_pool.specs.Place.{Place, after, end_of, number_at, IsBytes}
use Rattle.class_pool.specs.Pieces.{StartsWith}
use Rattle.class_pool.specs.Pool.{HasNumber, HasNumbers, HasText, IsEntry, is_wide}
use Rattle.class_pool.specs.PoolReading.{◌>>=◌, number_or_short, num_at, bytes_at, Body, Text, One, Two, bodies, body_in, body_at, is_wide_tag, entry_at}
use Rattle.class_pool.proofs.Pieces.{joined, IsNumber, number_starts, number_ends, starts-rest}

-- ---- results and pairs

abbrev pub done : {A : Type 0} → A → Result A PoolFault
done x = Ok x

-- a value and the place after it
abbrev pub taken : {A : Type 0} → A × Place → Result (A × Place) PoolFault
taken z = Ok z

taken_is : {A : Type 0} (w z : A × Place) → taken w ≡ taken z → w ≡ z
taken_is w z e = cc

pub ok_is : {A : Type 0} (x y : A) → done x ≡ done y → x ≡ y
ok_is x y e = cc

-- the value of a step that didn't fail
pub bind_ok : {A B : Type 0} (r : Result A PoolFault) (f : A → Result B PoolFault) (y : B) → (r >>= f) ≡ Ok y → (x : A) × (r ≡ Ok x) × (f x ≡ Ok y)
bind_ok (Ok x) f y e = (x, refl, e)
bind_ok (Err d) f y e = absurd cc

-- what was read is one value and one place
pub same_pair : {A : Type 0} (x y : A) (p q : Place) → taken (x, p) ≡ taken (y, q) → (x ≡ y) × (p ≡ q)
same_pair {A} x y p q e =
    let same = taken_is (x, p) (y, q) e in
    (ap (λ (z : A × Place). z.0) same, ap (λ (z : A × Place). z.1) same)

-- a step that didn't fail, and then the others
pub bound : {A B : Type 0} {r : Result A PoolFault} {x : A} {y : Result B PoolFault} (f : A → Result B PoolFault) → r ≡ Ok x → f x ≡ y → (r >>= f) ≡ y
bound {A} f e h = ap (λ (o : Result A PoolFault). o >>= f) e ∙ h

pub guarded : {A : Type 0} (b : Bool) (d : PoolFault) (r : Result A PoolFault) (y : A) → cond b (Err d) r ≡ Ok y → (b ≡ false) × (r ≡ Ok y)
guarded true d r y e = absurd cc
guarded false d r y e = (refl, e)

pub starts_same : {A : Type 0} (Is : List ℕ → A → Type 0) (place : Place) (x y : A) (p q : Place) → x ≡ y → p ≡ q → StartsWith Is place x p → StartsWith Is place y q
starts_same {A} Is place x y p q same past s = subst (λ (y : A). StartsWith Is place y q) same (subst (λ (q : Place). StartsWith Is place x q) past s)

-- ---- numbers and bytes

num_is : (n : ℕ) (place : Place) (o : Option ℕ) (k : ℕ) (next : Place) → number_or_short n place o ≡ Ok (k, next) → (o ≡ Some k) × (after n place ≡ next)
num_is n place None k next e = absurd cc
num_is n place (Some j) k next e =
    let same = same_pair j k (after n place) next e in
    (ap (λ (j : ℕ). Some j) same.0, same.1)

pub num_takes : (n : ℕ) (place : Place) (k : ℕ) (next : Place) → IsBytes place.rest → num_at n place ≡ Ok (k, next) → StartsWith (IsNumber n) place k next
num_takes n place k next fits e =
    let is = num_is n place (number_at n place) k next e in
    subst (λ (q : Place). StartsWith (IsNumber n) place k q) is.1 (number_starts n place k fits is.0)

pub num_again : (n : ℕ) (place : Place) (k : ℕ) (next : Place) → StartsWith (IsNumber n) place k next → num_at n place ≡ Ok (k, next)
num_again n place k next s =
    let ends = number_ends n place next k s in
    ap (number_or_short n place) ends.0 ∙ ap (λ (q : Place). taken (k, q)) ends.1

-- a number stands between two places
pub number_there : (n : ℕ) (place : Place) (k : ℕ) (next : Place) → k < 256 ^ n → place.rest ≡ big_bytes n k ++ next.rest → next.at ≡ place.at + n → num_at n place ≡ Ok (k, next)
number_there n place k next lt parts moved = num_again n place k next (record { piece = big_bytes n k; is = (refl, lt); parts = parts; moved = omega (arith, moved, length-bytes_high_first n k) })

bytes_take : (n : ℕ) (place : Place) (bytes : List ℕ) (next : Place) → bytes_at n place ≡ Ok (bytes, next) → (place.rest ≡ bytes ++ next.rest) × (length bytes ≡ n) × (next.at ≡ place.at + n)
bytes_take n place bytes next e =
    let g = guarded (ltb (length place.rest) n) (Short (end_of place)) (Ok (take n place.rest, after n place)) (bytes, next) e in
    let same = same_pair (take n place.rest) bytes (after n place) next g.1 in
    let long : n ≤ length place.rest = ltb-false _ _ g.0 in
    let rest : drop n place.rest ≡ next.rest = ap (λ (p : Place). p.rest) same.1 in
    (sym (take-append-drop n place.rest) ∙ ap (λ (b : List ℕ). b ++ drop n place.rest) same.0 ∙ ap (λ (b : List ℕ). bytes ++ b) rest, ap length (sym same.0) ∙ length-take-le n place.rest long, sym (ap (λ (p : Place). p.at) same.1))

bytes_there : (place : Place) (bytes : List ℕ) (next : Place) → place.rest ≡ bytes ++ next.rest → next.at ≡ place.at + length bytes → bytes_at (length bytes) place ≡ Ok (bytes, next)
bytes_there place bytes next parts moved =
    let long : ltb (length (bytes ++ next.rest)) (length bytes) ≡ false = le-ltb _ _ (omega (arith, length-append bytes next.rest)) in
    rw (parts, long, take_at bytes next.rest (length bytes) refl, drop_at bytes next.rest (length bytes) refl, ← moved) refl

-- ---- a body that is read

-- what stands between two places makes the entry with this tag
record Made (tag : ℕ) (entry : Constant) (place next : Place) : Type 0 where
  piece : List ℕ
  parts : place.rest ≡ piece ++ next.rest
  moved : next.at ≡ place.at + length piece
  is : IsEntry (tag ∷ piece) entry
  wide : is_wide entry ≡ is_wide_tag tag

-- a row of the table makes the entries of its tag
abbrev SoundAt : ℕ → Body → Type 0
SoundAt tag Text = (text : List ℕ) → (is_wide (Utf8 text) ≡ is_wide_tag tag) × ((bytes : List ℕ) → HasText tag text bytes → IsEntry bytes (Utf8 text))
SoundAt tag (One width make) = (n : ℕ) → (is_wide (make n) ≡ is_wide_tag tag) × ((bytes : List ℕ) → HasNumber tag width n bytes → IsEntry bytes (make n))
SoundAt tag (Two first second make) = (m n : ℕ) → (is_wide (make m n) ≡ is_wide_tag tag) × ((bytes : List ℕ) → HasNumbers tag first second m n bytes → IsEntry bytes (make m n))

abbrev Sound : ℕ × Body → Type 0
Sound row = SoundAt row.0 row.1

sound : AllByRecursion Sound bodies
sound = (
  λ text. (refl, λ bytes h. h),
  (
    λ n. (refl, λ bytes h. h),
    (
      λ n. (refl, λ bytes h. h),
      (
        λ n. (refl, λ bytes h. h),
        (
          λ n. (refl, λ bytes h. h),
          (
            λ n. (refl, λ bytes h. h),
            (
              λ n. (refl, λ bytes h. h),
              (
                λ m n. (refl, λ bytes h. h),
                (
                  λ m n. (refl, λ bytes h. h),
                  (
                    λ m n. (refl, λ bytes h. h),
                    (
                      λ m n. (refl, λ bytes h. h),
                      (
                        λ m n. (refl, λ bytes h. h),
                        (
                          λ n. (refl, λ bytes h. h),
                          (
                            λ m n. (refl, λ bytes h. h),
                            (
                              λ m n. (refl, λ bytes h. h),
                              (
                                λ n. (refl, λ bytes h. h),
                                (λ n. (refl, λ bytes h. h), tt),
                              ),
                            ),
                          ),
                        ),
                      ),
                    ),
                  ),
                ),
              ),
            ),
          ),
        ),
      ),
    ),
  ),
)

made_same : (tag : ℕ) (place : Place) (x y : Constant) (p q : Place) → taken (x, p) ≡ taken (y, q) → Made tag x place p → Made tag y place q
made_same tag place x y p q e made =
    let same = same_pair x y p q e in
    subst (λ (y : Constant). Made tag y place q) same.0 (subst (λ (q : Place). Made tag x place q) same.1 made)

body_takes : (at tag : ℕ) (body : Body) (place : Place) (entry : Constant) (next : Place) → SoundAt tag body → IsBytes place.rest → body_at at tag (Some body) place ≡ Ok (entry, next) → Made tag entry place next
body_takes at tag Text place entry next row fits e =
    let n = bind_ok (num_at 2 place) _ (entry, next) e in
    let text = bind_ok (bytes_at n.0.0 n.0.1) _ (entry, next) n.2 in
    let number = num_takes 2 place n.0.0 n.0.1 fits n.1 in
    let bytes = bytes_take n.0.0 n.0.1 text.0.0 text.0.1 text.1 in
    let len : length text.0.0 < 256 ^ 2 = omega (arith, number.is.1, bytes.1) in
    let front : number.piece ≡ big_bytes 2 (length text.0.0) = number.is.0 ∙ ap (big_bytes 2) (sym bytes.1) in
    let is = row text.0.0 in
    made_same tag place (Utf8 text.0.0) entry text.0.1 next text.2
    (record {
      piece = big_bytes 2 (length text.0.0) ++ text.0.0;
      parts = joined place.rest (big_bytes 2 (length text.0.0)) n.0.1.rest text.0.0 text.0.1.rest (number.parts ∙ ap (λ (b : List ℕ). b ++ n.0.1.rest) front) bytes.0;
      moved = omega (arith, number.moved, bytes.1, bytes.2, ap length front, length-append (big_bytes 2 (length text.0.0)) text.0.0);
      is = is.1 (tag ∷ big_bytes 2 (length text.0.0) ++ text.0.0) (omega (arith, len), refl);
      wide = is.0;
    })
body_takes at tag (One width make) place entry next row fits e =
    let n = bind_ok (num_at width place) _ (entry, next) e in
    let number = num_takes width place n.0.0 n.0.1 fits n.1 in
    let is = row n.0.0 in
    made_same tag place (make n.0.0) entry n.0.1 next n.2
    (record {
      piece = number.piece;
      parts = number.parts;
      moved = number.moved;
      is = is.1 (tag ∷ number.piece) (number.is.1, ap (λ (b : List ℕ). tag ∷ b) number.is.0);
      wide = is.0;
    })
body_takes at tag (Two first second make) place entry next row fits e =
    let m = bind_ok (num_at first place) _ (entry, next) e in
    let n = bind_ok (num_at second m.0.1) _ (entry, next) m.2 in
    let one = num_takes first place m.0.0 m.0.1 fits m.1 in
    let two = num_takes second m.0.1 n.0.0 n.0.1 (starts-rest (IsNumber first) place m.0.1 m.0.0 one fits) n.1 in
    let is = row m.0.0 n.0.0 in
    made_same tag place (make m.0.0 n.0.0) entry n.0.1 next n.2
    (record {
      piece = one.piece ++ two.piece;
      parts = joined place.rest one.piece m.0.1.rest two.piece n.0.1.rest one.parts two.parts;
      moved = omega (arith, one.moved, two.moved, length-append one.piece two.piece);
      is = is.1 (tag ∷ one.piece ++ two.piece) (one.is.1, two.is.1, ap (λ (b : List ℕ). tag ∷ b ++ two.piece) one.is.0 ∙ ap (λ (b : List ℕ). tag ∷ big_bytes first m.0.0 ++ b) two.is.0);
      wide = is.0;
    })

row_takes : (at tag t : ℕ) (body : Body) (rows : List (ℕ × Body)) (here : Bool) (place : Place) (entry : Constant) (next : Place) → eqb tag t ≡ here → SoundAt t body → IsBytes place.rest
    → body_at at tag (cond here (Some body) (body_in tag rows)) place ≡ Ok (entry, next) → (body_at at tag (body_in tag rows) place ≡ Ok (entry, next) → Made tag entry place next) → Made tag entry place next
row_takes at tag t body rows true place entry next h here fits e further = body_takes at tag body place entry next (subst (λ (n : ℕ). SoundAt n body) (sym (eqb-true tag t h)) here) fits e
row_takes at tag t body rows false place entry next h here fits e further = further e

rows_take : (at tag : ℕ) (rows : List (ℕ × Body)) (place : Place) (entry : Constant) (next : Place) → AllByRecursion Sound rows → IsBytes place.rest
    → body_at at tag (body_in tag rows) place ≡ Ok (entry, next) → Made tag entry place next
rows_take at tag [] place entry next all fits e = absurd cc
rows_take at tag (row ∷ rows) place entry next all fits e =
    row_takes at tag row.0 row.1 rows (eqb tag row.0) place entry next refl all.0 fits e (λ e. rows_take at tag rows place entry next all.1 fits e)

-- ---- an entry that is read

-- an entry at the front, with an index behind a wide one
pub record Entry (Is : List ℕ → Constant → Type 0) (left : ℕ) (place : Place) (entry : Constant) (next : Place) : Type 0 where
  pub starts : StartsWith Is place entry next
  pub room : is_wide entry ≡ true → 1 ≤ left

room_of : (wide : Bool) (left : ℕ) → (wide && eqb left 0) ≡ false → wide ≡ true → 1 ≤ left
room_of true left h e = let no : left ≡ 0 → ⊥ = eqb-false left 0 h in omega arith
room_of false left h e = absurd cc

pub entry_takes : (left : ℕ) (place : Place) (entry : Constant) (next : Place) → IsBytes place.rest → entry_at left place ≡ Ok (entry, next) → Entry IsEntry left place entry next
unfolding entry_at
entry_takes left place entry next fits e =
    let tag = bind_ok (num_at 1 place) _ (entry, next) e in
    let number = num_takes 1 place tag.0.0 tag.0.1 fits tag.1 in
    let g = guarded (is_wide_tag tag.0.0 && eqb left 0) (BadTag place.at tag.0.0) _ (entry, next) tag.2 in
    let made = rows_take place.at tag.0.0 bodies tag.0.1 entry next sound (starts-rest (IsNumber 1) place tag.0.1 tag.0.0 number fits) g.1 in
    let small : tag.0.0 < 256 = omega (arith, number.is.1) in
    let one : number.piece ≡ tag.0.0 ∷ [] = number.is.0 ∙ ap (λ (t : ℕ). t ∷ []) (omega arith) in
    let first : place.rest ≡ (tag.0.0 ∷ []) ++ tag.0.1.rest = number.parts ∙ ap (λ (b : List ℕ). b ++ tag.0.1.rest) one in
    record {
      starts = record {
        piece = tag.0.0 ∷ made.piece;
        is = made.is;
        parts = joined place.rest (tag.0.0 ∷ []) tag.0.1.rest made.piece next.rest first made.parts;
        moved = omega (arith, number.moved, made.moved, ap length one);
      };
      room = λ wide. room_of (is_wide_tag tag.0.0) left g.0 (sym made.wide ∙ wide);
    }

-- ---- each entry is read

-- a tag stands in front
begins : (tag left : ℕ) (place : Place) (rest : List ℕ) → tag < 256 → place.rest ≡ tag ∷ rest → (is_wide_tag tag && eqb left 0) ≡ false
    → entry_at left place ≡ body_at place.at tag (body_in tag bodies) (record { at = place.at + 1; rest = rest })
unfolding entry_at
begins tag left place rest lt front room =
    let one : big_bytes 1 tag ≡ tag ∷ [] = ap (λ (t : ℕ). t ∷ []) (omega arith) in
    let past : Place = record { at = place.at + 1; rest = rest } in
    let number : num_at 1 place ≡ Ok (tag, past) = number_there 1 place tag past (omega arith) (front ∙ ap (λ (b : List ℕ). b ++ rest) (sym one)) refl in
    bound _ number (rw room refl)

one_again : (tag width : ℕ) (make : ℕ → Constant) (left : ℕ) (place : Place) (n : ℕ) (next : Place) (piece : List ℕ) → body_in tag bodies ≡ Some (One width make) → tag < 256 → (is_wide_tag tag && eqb left 0) ≡ false
    → HasNumber tag width n piece → place.rest ≡ piece ++ next.rest → next.at ≡ place.at + length piece → entry_at left place ≡ Ok (make n, next)
one_again tag width make left place n next piece row lt room is parts moved =
    let past : Place = record { at = place.at + 1; rest = big_bytes width n ++ next.rest } in
    let len : length piece ≡ suc width = ap length is.1 ∙ ap suc (length-bytes_high_first width n) in
    let number : num_at width past ≡ Ok (n, next) = number_there width past n next is.0 refl (omega (arith, moved, len)) in
    begins tag left place (big_bytes width n ++ next.rest) lt (parts ∙ ap (λ (b : List ℕ). b ++ next.rest) is.1) room
    ∙ ap (λ (b : Option Body). body_at place.at tag b past) row
    ∙ bound (λ (m : ℕ × Place). taken (make m.0, m.1)) number refl

two_again : (tag first second : ℕ) (make : ℕ → ℕ → Constant) (left : ℕ) (place : Place) (m n : ℕ) (next : Place) (piece : List ℕ) → body_in tag bodies ≡ Some (Two first second make) → tag < 256
    → (is_wide_tag tag && eqb left 0) ≡ false → HasNumbers tag first second m n piece → place.rest ≡ piece ++ next.rest → next.at ≡ place.at + length piece → entry_at left place ≡ Ok (make m n, next)
two_again tag first second make left place m n next piece row lt room is parts moved =
    let front : List ℕ = big_bytes first m in
    let back : List ℕ = big_bytes second n in
    let past : Place = record { at = place.at + 1; rest = front ++ (back ++ next.rest) } in
    let middle : Place = record { at = place.at + 1 + first; rest = back ++ next.rest } in
    let len : length piece ≡ suc (first + second) = ap length is.2 ∙ ap suc (length-append front back ∙ omega (arith, length-bytes_high_first first m, length-bytes_high_first second n)) in
    let one : num_at first past ≡ Ok (m, middle) = number_there first past m middle is.0 refl refl in
    let two : num_at second middle ≡ Ok (n, next) = number_there second middle n next is.1 refl (omega (arith, moved, len)) in
    begins tag left place (front ++ (back ++ next.rest)) lt (parts ∙ ap (λ (b : List ℕ). b ++ next.rest) is.2 ∙ ap (λ (b : List ℕ). tag ∷ b) (append_assoc front back next.rest)) room
    ∙ ap (λ (b : Option Body). body_at place.at tag b past) row
    ∙ bound (λ (a : ℕ × Place). num_at second a.1 >>= λ b. taken (make a.0 b.0, b.1)) one (bound (λ (b : ℕ × Place). taken (make m b.0, b.1)) two refl)

text_again : (left : ℕ) (place : Place) (text : List ℕ) (next : Place) (piece : List ℕ) → HasText 1 text piece → place.rest ≡ piece ++ next.rest → next.at ≡ place.at + length piece → entry_at left place ≡ Ok (Utf8 text, next)
text_again left place text next piece is parts moved =
    let front : List ℕ = big_bytes 2 (length text) in
    let past : Place = record { at = place.at + 1; rest = front ++ (text ++ next.rest) } in
    let middle : Place = record { at = place.at + 1 + 2; rest = text ++ next.rest } in
    let len : length piece ≡ suc (2 + length text) = ap length is.1 ∙ ap suc (length-append front text ∙ omega (arith, length-bytes_high_first 2 (length text))) in
    let one : num_at 2 past ≡ Ok (length text, middle) = number_there 2 past (length text) middle (omega (arith, is.0)) refl refl in
    let two : bytes_at (length text) middle ≡ Ok (text, next) = bytes_there middle text next refl (omega (arith, moved, len)) in
    begins 1 left place (front ++ (text ++ next.rest)) (omega arith) (parts ∙ ap (λ (b : List ℕ). b ++ next.rest) is.1 ∙ ap (λ (b : List ℕ). 1 ∷ b) (append_assoc front text next.rest)) refl
    ∙ bound (λ (a : ℕ × Place). bytes_at a.0 a.1 >>= λ t. taken (Utf8 t.0, t.1)) one (bound (λ (t : List ℕ × Place). taken (Utf8 t.0, t.1)) two refl)

wide_room : (left : ℕ) → 1 ≤ left → eqb left 0 ≡ false
wide_room left h = elim (cases_Bool (eqb left 0)) [ inl e ↦ absurd (let no : left ≡ 0 = eqb-true left 0 e in omega arith) | inr e ↦ e ]

pub entry_again : (entry : Constant) (left : ℕ) (place next : Place) → (is_wide entry ≡ true → 1 ≤ left) → StartsWith IsEntry place entry next → entry_at left place ≡ Ok (entry, next)
entry_again (Utf8 text) left place next room s = text_again left place text next s.piece s.is s.parts s.moved
entry_again (Integer n) left place next room s = one_again 3 4 Integer left place n next s.piece refl (omega arith) refl s.is s.parts s.moved
entry_again (Float n) left place next room s = one_again 4 4 Float left place n next s.piece refl (omega arith) refl s.is s.parts s.moved
entry_again (Long n) left place next room s = one_again 5 8 Long left place n next s.piece refl (omega arith) (wide_room left (room refl)) s.is s.parts s.moved
entry_again (Double n) left place next room s = one_again 6 8 Double left place n next s.piece refl (omega arith) (wide_room left (room refl)) s.is s.parts s.moved
entry_again (Class n) left place next room s = one_again 7 2 Class left place n next s.piece refl (omega arith) refl s.is s.parts s.moved
entry_again (String n) left place next room s = one_again 8 2 String left place n next s.piece refl (omega arith) refl s.is s.parts s.moved
entry_again (Fieldref m n) left place next room s = two_again 9 2 2 Fieldref left place m n next s.piece refl (omega arith) refl s.is s.parts s.moved
entry_again (Methodref m n) left place next room s = two_again 10 2 2 Methodref left place m n next s.piece refl (omega arith) refl s.is s.parts s.moved
entry_again (InterfaceMethodref m n) left place next room s = two_again 11 2 2 InterfaceMethodref left place m n next s.piece refl (omega arith) refl s.is s.parts s.moved
entry_again (NameAndType m n) left place next room s = two_again 12 2 2 NameAndType left place m n next s.piece refl (omega arith) refl s.is s.parts s.moved
entry_again (MethodHandle m n) left place next room s = two_again 15 1 2 MethodHandle left place m n next s.piece refl (omega arith) refl s.is s.parts s.moved
entry_again (MethodType n) left place next room s = one_again 16 2 MethodType left place n next s.piece refl (omega arith) refl s.is s.parts s.moved
entry_again (Dynamic m n) left place next room s = two_again 17 2 2 Dynamic left place m n next s.piece refl (omega arith) refl s.is s.parts s.moved
entry_again (InvokeDynamic m n) left place next room s = two_again 18 2 2 InvokeDynamic left place m n next s.piece refl (omega arith) refl s.is s.parts s.moved
entry_again (Module n) left place next room s = one_again 19 2 Module left place n next s.piece refl (omega arith) refl s.is s.parts s.moved
entry_again (Package n) left place next room s = one_again 20 2 Package left place n next s.piece refl (omega arith) refl s.is s.parts s.moved
