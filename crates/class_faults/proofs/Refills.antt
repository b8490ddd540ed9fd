-- Where the parts of a Code attribute fill it, they are read to its end, whatever their faults are.
use Rattle.std.proofs.Common.{◌≡◌, ℕ, ◌+◌, ◌^◌, ◌<◌, Bool, true, false, cond, leb, ltb, ◌&&◌, List, [], ◌∷◌, ◌++◌, length, take, drop, Option, Some, None, refl, sym, ap, subst, ◌∙◌, arith}
use Rattle.std.proofs.lemmas.Bool.{and_from, le-leb, le-ltb}
use Rattle.std.proofs.lemmas.List.{length-append, length-take-le, take-append-drop, drop_at, append-nil}
use Rattle.byteorder.specs.Endian.{big_bytes, big_number}
use Rattle.class_pool.specs.declared.constant.Constant.{Constant}
use Rattle.class_pool.specs.Place.{Place, after, number_at}
use Rattle.class_pool.specs.Pieces.{Each, Counted, StartsWith}
use Rattle.class_pool.specs.Pool.{utf8_at}
use Rattle.class_reader.specs.declared.class.Code.{Code}
use Rattle.class_reader.specs.declared.class.Handler.{Handler}
use Rattle.class_reader.specs.Met.{Met, goes_on, ◌>>=◌, number_or_cut, num_at, bytes_at, times, pushed, counted_at, times_at}
use Rattle.class_reader.specs.ClassReading.{Stored as Read, index_at, attribute_at, skipped_at, catch_of, catch_at, handler_at, instructions_at, code_at, is_filled}
use Rattle.class_reader.proofs.MetLaws.{Spans, spanned, starts, middle_of, first_of_two, second_of_two, rewritten, num_reader, AreSoMany, bytes_reader}
use Rattle.class_faults.specs.Pieces.{IsNumber, RawAttribute, IsRawAttribute, IsRawHandler, IsFilled}

-- ---- steps

-- what is met has this value
abbrev Has : {A : Type 0} → Met A → A → Type 0
Has met x = met.value ≡ Some x

value_then : {A B : Type 0} (met : Met A) (f : A → Met B) (x : A) (o : Option B) → Has met x → (f x).value ≡ o → (met >>= f).value ≡ o
value_then {A} met f x o e h = ap (λ (v : Option A). (goes_on met.faults f v).value) e ∙ h

num_value : (n : ℕ) (place : Place) (k : ℕ) (next : Place) → StartsWith (IsNumber n) place k next → Has (num_at n place) (k, next)
num_value n place k next s = ((num_reader n).again place k next s).0

bytes_value : (place : Place) (x : List ℕ) (next : Place) → Spans place x next → Has (bytes_at (length x) place) (x, next)
bytes_value place x next s = ((bytes_reader (length x)).again place x next (starts (AreSoMany (length x)) x x s (refl, refl))).0

-- a number that isn't looked at
skip_value : (n : ℕ) (place : Place) (front : List ℕ) (next : Place) → Spans place front next → length front ≡ n → (k : ℕ) × Has (num_at n place) (k, next)
skip_value n place front next w sized =
    let long : ltb (length place.rest) n ≡ false = le-ltb (length place.rest) n (omega (arith, ap length w.parts, length-append front next.rest, sized)) in
    let rest : drop n place.rest ≡ next.rest = ap (drop n) w.parts ∙ drop_at front next.rest n sized in
    let at : place.at + n ≡ next.at = omega (arith, w.moved, sized) in
    let found : number_at n place ≡ Some (big_number n place.rest) = ap (λ (b : Bool). cond b None (Some (big_number n place.rest))) long in
    let there : after n place ≡ next = ap (λ (r : List ℕ). let p : Place = record { at = place.at + n; rest = r } in p) rest ∙ ap (λ (m : ℕ). let p : Place = record { at = m; rest = next.rest } in p) at in
    (big_number n place.rest, ap (λ (o : Option ℕ). (number_or_cut n place o).value) found ∙ ap (λ (p : Place). let o : Option (ℕ × Place) = Some (big_number n place.rest, p) in o) there)

-- the first n of some bytes, and the others
record Halves (n m : ℕ) (place : Place) (next : Place) : Type 0 where
  middle : Place
  first : List ℕ
  second : List ℕ
  front : Spans place first middle
  back : Spans middle second next
  sizes : (length first ≡ n) × (length second ≡ m)

halved : (n m : ℕ) (place : Place) (bytes : List ℕ) (next : Place) → Spans place bytes next → length bytes ≡ n + m → Halves n m place next
halved n m place bytes next w sized =
    let whole = rewritten (sym (take-append-drop n bytes)) w in
    let first : length (take n bytes) ≡ n = length-take-le n bytes (omega (arith, sized)) in
    record {
      middle = middle_of place (take n bytes) (drop n bytes) next;
      first = take n bytes;
      second = drop n bytes;
      front = first_of_two (take n bytes) (drop n bytes) whole;
      back = second_of_two (take n bytes) (drop n bytes) whole;
      sizes = (first, omega (arith, sized, first, length-append (take n bytes) (drop n bytes), ap length (take-append-drop n bytes)));
    }

place_is : (p q : Place) (piece : List ℕ) → piece ≡ [] → Spans p piece q → p ≡ q
place_is p q piece e s =
    let rest : p.rest ≡ q.rest = s.parts ∙ ap (λ (b : List ℕ). b ++ q.rest) e in
    let at : p.at ≡ q.at = omega (arith, s.moved, ap length e) in
    rw (rest, at) refl

-- ---- loops

-- a step is made wherever such a piece stands, and ends behind it
abbrev Steps : {S R : Type 0} → (S → Place) → (List ℕ → R → Type 0) → (S → Met S) → Type 0
Steps {S = S} {R = R} where_is Is step = (s : S) (r : R) (next : Place) → StartsWith Is (where_is s) r next → (t : S) × Has (step s) t × (where_is t ≡ next)

times_value : {S R : Type 0} (where_is : S → Place) (Is : List ℕ → R → Type 0) (step : S → Met S) → Steps where_is Is step → (rs : List R) (s : S) (piece : List ℕ) (next : Place) → Each Is piece rs → Spans (where_is s) piece next
    → (t : S) × Has (times step (length rs) s) t × (where_is t ≡ next)
unfolding times
times_value where_is Is step one [] s piece next each w = (s, refl, place_is (where_is s) next piece each w)
times_value where_is Is step one (r ∷ rs) s piece next each w =
    let parts = rewritten each.2 w in
    let a = one s r (middle_of (where_is s) each.0 each.1 next) (starts Is r each.0 (first_of_two each.0 each.1 parts) each.3) in
    let b = times_value where_is Is step one rs a.0 each.1 next each.4 (subst (λ (p : Place). Spans p each.1 next) (sym a.2) (second_of_two each.0 each.1 parts)) in
    (b.0, value_then (step s) (times step (length rs)) a.0 _ a.1 b.1, b.2)

-- ---- handlers

catch_value : (pool : List (Option Constant)) (place : Place) (index : ℕ) (next : Place) → StartsWith (IsNumber 2) place index next → Has (catch_at pool place) (catch_of pool index, next)
unfolding catch_at
catch_value pool place index next s = value_then (num_at 2 place) _ (index, next) _ (num_value 2 place index next s) refl

handler_from : (pool : List (Option Constant)) (place p q r next : Place) (a b c : ℕ) (class : Option (List ℕ)) → Has (num_at 2 place) (a, p) → Has (num_at 2 p) (b, q) → Has (num_at 2 q) (c, r) → Has (catch_at pool r) (class, next)
    → Has (handler_at pool place) (record { start = a; end = b; handler = c; catch = class }, next)
unfolding handler_at
handler_from pool place p q r next a b c class h k l m =
    value_then (num_at 2 place) _ (a, p) _ h (value_then (num_at 2 p) _ (b, q) _ k (value_then (num_at 2 q) _ (c, r) _ l (value_then (catch_at pool r) _ (class, next) _ m refl)))

handler_value : (pool : List (Option Constant)) (place : Place) (catch : ℕ) (next : Place) → StartsWith IsRawHandler place catch next → (h : Handler) × Has (handler_at pool place) (h, next)
handler_value pool place catch next s =
    let is = s.is in
    let w = rewritten is.parts (spanned s) in
    let last : Place = middle_of place is.places (big_bytes 2 catch) next in
    let one = halved 2 4 place is.places last (first_of_two is.places (big_bytes 2 catch) w) is.six in
    let two = halved 2 2 one.middle one.second last one.back one.sizes.1 in
    let a = skip_value 2 place one.first one.middle one.front one.sizes.0 in
    let b = skip_value 2 one.middle two.first two.middle two.front two.sizes.0 in
    let c = skip_value 2 two.middle two.second last two.back two.sizes.1 in
    let d = catch_value pool last catch next (starts (IsNumber 2) catch (big_bytes 2 catch) (second_of_two is.places (big_bytes 2 catch) w) (refl, is.catch_fits)) in (
      record { start = a.0; end = b.0; handler = c.0; catch = catch_of pool catch },
      handler_from pool place one.middle two.middle last next a.0 b.0 c.0 (catch_of pool catch) a.1 b.1 c.1 d,
    )

handler_steps : (pool : List (Option Constant)) → Steps {S = List Handler × Place} {R = ℕ} (λ s. s.1) IsRawHandler (pushed (handler_at pool))
unfolding pushed
handler_steps pool s r next t =
    let h = handler_value pool s.1 r next t in
    ((s.0 ++ h.0 ∷ [], next), value_then (handler_at pool s.1) _ (h.0, next) _ h.1 refl, refl)

handlers_value : (pool : List (Option Constant)) (place : Place) (caught : List ℕ) (next : Place) → StartsWith (Counted IsRawHandler) place caught next → (hs : List Handler) × Has (counted_at (handler_at pool) place) (hs, next)
unfolding counted_at
handlers_value pool place caught next s =
    let w = rewritten s.is.parts (spanned s) in
    let count : List ℕ = big_bytes 2 (length caught) in
    let middle : Place = middle_of place count s.is.pieces next in
    let n = num_value 2 place (length caught) middle (starts (IsNumber 2) (length caught) count (first_of_two count s.is.pieces w) (refl, s.is.short)) in
    let all = times_value {S = List Handler × Place} {R = ℕ} (λ s. s.1) IsRawHandler (pushed (handler_at pool)) (handler_steps pool) caught ([], middle) s.is.pieces next s.is.each (second_of_two count s.is.pieces w) in
    (all.0.0, value_then (num_at 2 place) _ (length caught, middle) _ n (all.1 ∙ ap (λ (p : Place). let o : Option (List Handler × Place) = Some (all.0.0, p) in o) all.2))

-- ---- attributes

index_value : (names : ℕ → Option (List ℕ)) (place : Place) (index : ℕ) (next : Place) → StartsWith (IsNumber 2) place index next → Has (index_at names place) (names index, next)
unfolding index_at
index_value names place index next s = value_then (num_at 2 place) _ (index, next) _ (num_value 2 place index next s) refl

attribute_from : (pool : List (Option Constant)) (place p q next : Place) (name : Option (List ℕ)) (len : ℕ) (body : List ℕ) → Has (index_at (utf8_at pool) place) (name, p) → Has (num_at 4 p) (len, q) → Has (bytes_at len q) (body, next)
    → Has (attribute_at pool place) (record { at = place.at; name = name; body = record { at = q.at; rest = body } }, next)
unfolding attribute_at
attribute_from pool place p q next name len body h k l = value_then (index_at (utf8_at pool) place) _ (name, p) _ h (value_then (num_at 4 p) _ (len, q) _ k (value_then (bytes_at len q) _ (body, next) _ l refl))

attribute_value : (pool : List (Option Constant)) (place : Place) (stored : RawAttribute) (next : Place) → StartsWith IsRawAttribute place stored next → (a : Read) × Has (attribute_at pool place) (a, next)
attribute_value pool place stored next s =
    let is = s.is in
    let w = rewritten is.parts (spanned s) in
    let index : List ℕ = big_bytes 2 stored.name in
    let len : List ℕ = big_bytes 4 (length stored.body) in
    let p : Place = middle_of place index (len ++ stored.body) next in
    let w1 = second_of_two index (len ++ stored.body) w in
    let q : Place = middle_of p len stored.body next in
    let a = index_value (utf8_at pool) place stored.name p (starts (IsNumber 2) stored.name index (first_of_two index (len ++ stored.body) w) (refl, is.name_fits)) in
    let b = num_value 4 p (length stored.body) q (starts (IsNumber 4) (length stored.body) len (first_of_two len stored.body w1) (refl, is.short)) in
    let c = bytes_value q stored.body next (second_of_two len stored.body w1) in (
      record { at = place.at; name = utf8_at pool stored.name; body = record { at = q.at; rest = stored.body } },
      attribute_from pool place p q next (utf8_at pool stored.name) (length stored.body) stored.body a b c,
    )

skipped_steps : (pool : List (Option Constant)) → Steps {S = Place} {R = RawAttribute} (λ s. s) IsRawAttribute (skipped_at pool)
unfolding skipped_at
skipped_steps pool s r next t =
    let a = attribute_value pool s r next t in
    (next, value_then (attribute_at pool s) _ (a.0, next) _ a.1 refl, refl)

attributes_value : (pool : List (Option Constant)) (place : Place) (stored : List RawAttribute) (next : Place) → StartsWith (Counted IsRawAttribute) place stored next → Has (times_at (skipped_at pool) place) next
unfolding times_at
attributes_value pool place stored next s =
    let w = rewritten s.is.parts (spanned s) in
    let count : List ℕ = big_bytes 2 (length stored) in
    let middle : Place = middle_of place count s.is.pieces next in
    let n = num_value 2 place (length stored) middle (starts (IsNumber 2) (length stored) count (first_of_two count s.is.pieces w) (refl, s.is.short)) in
    let all = times_value {S = Place} {R = RawAttribute} (λ s. s) IsRawAttribute (skipped_at pool) (skipped_steps pool) stored middle s.is.pieces next s.is.each (second_of_two count s.is.pieces w) in
    value_then (num_at 2 place) _ (length stored, middle) _ n (all.1 ∙ ap (λ (p : Place). let o : Option Place = Some p in o) all.2)

-- ---- code

instructions_value : (place : Place) (code : List ℕ) (next : Place) → length code < 2 ^ 32 → Spans place (big_bytes 4 (length code) ++ code) next → Has (instructions_at place) (code, next)
unfolding instructions_at
instructions_value place code next fits w =
    let len : List ℕ = big_bytes 4 (length code) in
    let q : Place = middle_of place len code next in
    value_then (num_at 4 place) _ (length code, q) _ (num_value 4 place (length code) q (starts (IsNumber 4) (length code) len (first_of_two len code w) (refl, fits))) (bytes_value q code next (second_of_two len code w))

record CodeValue (pool : List (Option Constant)) (place : Place) (code : List ℕ) (next : Place) : Type 0 where
  value : Code
  has : Has (code_at pool place) (value, next)
  same : value.bytes ≡ code

code_from : (pool : List (Option Constant)) (place p q r t next : Place) (stack locals : ℕ) (code : List ℕ) (handlers : List Handler) → Has (num_at 2 place) (stack, p) → Has (num_at 2 p) (locals, q) → Has (instructions_at q) (code, r)
    → Has (counted_at (handler_at pool) r) (handlers, t) → Has (times_at (skipped_at pool) t) next → Has (code_at pool place) (record { max_stack = stack; max_locals = locals; bytes = code; handlers = handlers }, next)
unfolding code_at
code_from pool place p q r t next stack locals code handlers h k l m n =
    value_then (num_at 2 place) _ (stack, p) _ h
    (value_then (num_at 2 p) _ (locals, q) _ k (value_then (instructions_at q) _ (code, r) _ l (value_then (counted_at (handler_at pool) r) _ (handlers, t) _ m (value_then (times_at (skipped_at pool) t) _ next _ n refl))))

code_value : (pool : List (Option Constant)) (place : Place) (next : Place) (filled : IsFilled place.rest) → Spans place (filled.instructions ++ (filled.handlers ++ filled.attributes)) next → CodeValue pool place filled.code next
code_value pool place next filled w =
    let i = filled.are_instructions in
    let len : List ℕ = big_bytes 4 (length filled.code) ++ filled.code in
    let behind : List ℕ = filled.handlers ++ filled.attributes in
    let p : Place = middle_of place filled.instructions behind next in
    let front = rewritten i.parts (first_of_two filled.instructions behind w) in
    let bounds : Place = middle_of place i.bounds len p in
    let numbers = halved 2 2 place i.bounds bounds (first_of_two i.bounds len front) i.four in
    let w1 = second_of_two filled.instructions behind w in
    let q : Place = middle_of p filled.handlers filled.attributes next in
    let a = skip_value 2 place numbers.first numbers.middle numbers.front numbers.sizes.0 in
    let b = skip_value 2 numbers.middle numbers.second bounds numbers.back numbers.sizes.1 in
    let c = instructions_value bounds filled.code p i.fits (second_of_two i.bounds len front) in
    let d = handlers_value pool p filled.caught q (starts (Counted IsRawHandler) filled.caught filled.handlers (first_of_two filled.handlers filled.attributes w1) filled.are_handlers) in
    let e = attributes_value pool q filled.stored next (starts (Counted IsRawAttribute) filled.stored filled.attributes (second_of_two filled.handlers filled.attributes w1) filled.are_attributes) in
    record {
      value = record { max_stack = a.0; max_locals = b.0; bytes = filled.code; handlers = d.0 };
      has = code_from pool place numbers.middle bounds p q next a.0 b.0 filled.code d.0 a.1 b.1 c d.1 e;
      same = refl;
    }

pub refills : (pool : List (Option Constant)) (place : Place) → IsFilled place.rest → is_filled (code_at pool place).value ≡ true
refills pool place filled =
    let all : List ℕ = filled.instructions ++ (filled.handlers ++ filled.attributes) in
    let next : Place = record { at = place.at + length all; rest = [] } in
    let w : Spans place all next = record { parts = filled.parts ∙ sym (append-nil all); moved = refl } in
    let v = code_value pool place next filled w in
    let small : (leb 1 (length v.value.bytes) && leb (length v.value.bytes) 65535) ≡ true =
    and_from (leb 1 (length v.value.bytes)) (leb (length v.value.bytes) 65535) (le-leb 1 (length v.value.bytes) (omega (arith, filled.not_empty, ap length v.same))) (le-leb (length v.value.bytes) 65535 (omega (arith, filled.short, ap length v.same))) in
    ap is_filled v.has ∙ small
