-- Numbers, indices and attributes as they are read past faults: what stands there, and what is told of it.
use Rattle.std.proofs.Common.{◌≡◌, ℕ, ◌+◌, ◌<◌, List, [], ◌++◌, length, Option, Some, None, refl, sym, ap, ◌∙◌, arith, inl, inr}
use Rattle.std.specs.List.{AllByRecursion}
use Rattle.std.proofs.lemmas.List.{length-append}
use Rattle.byteorder.specs.Endian.{big_bytes}
use Rattle.byteorder.specs.Numbers.{length-bytes_high_first}
use Rattle.class_pool.specs.declared.constant.Constant.{Constant}
use Rattle.class_pool.specs.declared.fault.PoolFault.TheVariants.{BadIndex}
use Rattle.class_pool.specs.Place.{Place, IsBytes}
use Rattle.class_pool.specs.Pieces.{StartsWith}
use Rattle.class_pool.specs.Pool.{utf8_at}
use Rattle.class_pool.proofs.Pieces.{starts-rest}
use Rattle.class_reader.specs.declared.fault.ClassFault.{ClassFault}
use Rattle.class_reader.specs.declared.fault.ClassFault.TheVariants.{Pool}
use Rattle.class_reader.specs.Met.{num_at, bytes_at}
use Rattle.class_reader.specs.ClassReading.{index_faults, index_at, or_empty, name_at, Stored as Read, attribute_at}
use Rattle.class_reader.proofs.MetLaws.{spanned, starts, joined, rewritten}
use Rattle.class_faults.specs.Pieces.{IsNumber, HasNumberAt, IsRawHead, RawAttribute, IsRawAttribute}
use Rattle.class_faults.specs.Faults.{IsCutAttribute}
use Rattle.class_faults.proofs.Yields.{Yields, yields_done, yields_with, yields_then, num_yields, AreBytes, bytes_yield}

-- ---- how many bytes

pub record Sized (n : ℕ) (place next : Place) (piece : List ℕ) : Type 0 where
  pub all : length place.rest ≡ n + length next.rest
  pub moved : next.at ≡ place.at + n
  pub sized : length piece ≡ n

pub number_sized : (n : ℕ) (place : Place) (k : ℕ) (next : Place) (s : StartsWith (IsNumber n) place k next) → Sized n place next s.piece
number_sized n place k next s =
    let sized : length s.piece ≡ n = ap length s.is.0 ∙ length-bytes_high_first n k in
    record { all = omega (arith, ap length s.parts, length-append s.piece next.rest, sized); moved = omega (arith, s.moved, sized); sized = sized }

-- ---- numbers behind others

pub number_behind : (width skip : ℕ) (place p : Place) (front : List ℕ) (k : ℕ) (next : Place) → place.rest ≡ front ++ p.rest → length front ≡ skip → StartsWith (IsNumber width) p k next → HasNumberAt width skip place k
number_behind width skip place p front k next parts sized s =
    record { before = front; behind = next.rest; fits = s.is.1; parts = parts ∙ ap (λ (r : List ℕ). front ++ r) (s.parts ∙ ap (λ (b : List ℕ). b ++ next.rest) s.is.0); skipped = sized }

pub number_here : (width : ℕ) (place : Place) (k : ℕ) (next : Place) → StartsWith (IsNumber width) place k next → HasNumberAt width 0 place k
number_here width place k next s = number_behind width 0 place place [] k next refl refl s

-- ---- flags and two indices

pub head_made : (place p q next : Place) (flags first second : ℕ) → StartsWith (IsNumber 2) place flags p → StartsWith (IsNumber 2) p first q → StartsWith (IsNumber 2) q second next
    → StartsWith IsRawHead place (record { flags = flags; first = first; second = second }) next
head_made place p q next flags first second a b c =
    starts IsRawHead _ _ (joined (rewritten a.is.0 (spanned a)) (joined (rewritten b.is.0 (spanned b)) (rewritten c.is.0 (spanned c))))
    (record { flags_fit = a.is.1; first_fits = b.is.1; second_fits = c.is.1; parts = refl })

-- ---- indices

pub index_told : (P : ClassFault → Type 0) (at index : ℕ) (found : Option (List ℕ)) → (found ≡ None → P (Pool (BadIndex at index))) → AllByRecursion P (index_faults at index found)
index_told P at index None h = (h refl, tt)
index_told P at index (Some x) h = tt

-- an index, and what it names
abbrev pub IndexRead : (ℕ → Option (List ℕ)) → Place → Option (List ℕ) × Place → Type 0
IndexRead names place z = (index : ℕ) × StartsWith (IsNumber 2) place index z.1 × (z.0 ≡ names index)

pub index_yields : {P : ClassFault → Type 0} {Cut : Type 0} (names : ℕ → Option (List ℕ)) (place : Place) → IsBytes place.rest → (length place.rest < 2 → Cut)
    → ((index : ℕ) (next : Place) → StartsWith (IsNumber 2) place index next → names index ≡ None → P (Pool (BadIndex place.at index))) → Yields P Cut (IndexRead names place) (index_at names place)
unfolding index_at
index_yields {P} names place fits short bad =
    yields_then (λ (z : ℕ × Place). StartsWith (IsNumber 2) place z.0 z.1) (num_at 2 place) _ (num_yields 2 place fits short)
    (λ z s. yields_with (index_faults place.at z.0 (names z.0)) (names z.0, z.1) (index_told P place.at z.0 (names z.0) (λ e. bad z.0 z.1 s e)) (z.0, s, refl))

pub name_yields : {P : ClassFault → Type 0} {Cut : Type 0} (names : ℕ → Option (List ℕ)) (place : Place) → IsBytes place.rest → (length place.rest < 2 → Cut)
    → ((index : ℕ) (next : Place) → StartsWith (IsNumber 2) place index next → names index ≡ None → P (Pool (BadIndex place.at index)))
    → Yields P Cut (λ (z : List ℕ × Place). (index : ℕ) × StartsWith (IsNumber 2) place index z.1) (name_at names place)
unfolding name_at
name_yields names place fits short bad =
    yields_then (IndexRead names place) (index_at names place) _ (index_yields names place fits short bad) (λ z s. yields_done (or_empty z.0, z.1) (s.0, s.1))

-- ---- attributes

-- how it is read
abbrev pub read_of : List (Option Constant) → Place → RawAttribute → Read
read_of pool place stored = record { at = place.at; name = utf8_at pool stored.name; body = record { at = place.at + 6; rest = stored.body } }

pub record AttributeRead (pool : List (Option Constant)) (place : Place) (z : Read × Place) : Type 0 where
  pub stored : RawAttribute
  pub starts : StartsWith IsRawAttribute place stored z.1
  pub same : z.0 ≡ read_of pool place stored

attribute_made : (place p q next : Place) (index len : ℕ) (body : List ℕ) → StartsWith (IsNumber 2) place index p → StartsWith (IsNumber 4) p len q → StartsWith (AreBytes len) q body next
    → StartsWith IsRawAttribute place (record { name = index; body = body }) next
attribute_made place p q next index len body a b c =
    starts IsRawAttribute _ _ (joined (rewritten a.is.0 (spanned a)) (joined (rewritten (b.is.0 ∙ ap (big_bytes 4) (sym c.is.1)) (spanned b)) (rewritten c.is.0 (spanned c))))
    (record { name_fits = a.is.1; short = omega (arith, b.is.1, c.is.1); parts = refl })

pub attribute_yields : {P : ClassFault → Type 0} {Cut : Type 0} (pool : List (Option Constant)) (place : Place) → IsBytes place.rest → (IsCutAttribute place → Cut)
    → ((index : ℕ) (next : Place) → StartsWith (IsNumber 2) place index next → utf8_at pool index ≡ None → P (Pool (BadIndex place.at index))) → Yields P Cut (AttributeRead pool place) (attribute_at pool place)
unfolding attribute_at
attribute_yields pool place fits short bad =
    yields_then (IndexRead (utf8_at pool) place) (index_at (utf8_at pool) place) _ (index_yields (utf8_at pool) place fits (λ lt. short (inl (omega (arith, lt)))) bad)
    (λ name a.
    let one = number_sized 2 place a.0 name.1 a.1 in
    yields_then (λ (z : ℕ × Place). StartsWith (IsNumber 4) name.1 z.0 z.1) (num_at 4 name.1) _
    (num_yields 4 name.1 (starts-rest (IsNumber 2) place name.1 a.0 a.1 fits) (λ lt. short (inl (omega (arith, lt, one.all)))))
    (λ len b.
    let two = number_sized 4 name.1 len.0 len.1 b in
    yields_then (λ (z : List ℕ × Place). StartsWith (AreBytes len.0) len.1 z.0 z.1) (bytes_at len.0 len.1) _
    (bytes_yield len.0 len.1 (λ lt. short (inr (len.0, number_behind 4 2 place name.1 a.1.piece len.0 len.1 a.1.parts one.sized b, omega (arith, lt, one.all, two.all)))))
    (λ body c. yields_done (record { at = place.at; name = name.0; body = record { at = len.1.at; rest = body.0 } }, body.1)
    (record {
      stored = record { name = a.0; body = body.0 };
      starts = attribute_made place name.1 len.1 body.1 a.0 len.0 body.0 a.1 b c;
      same =
          ap (λ (o : Option (List ℕ)). let r : Read = record { at = place.at; name = o; body = record { at = len.1.at; rest = body.0 } } in r) a.2
          ∙ ap (λ (n : ℕ). let r : Read = record { at = place.at; name = utf8_at pool a.0; body = record { at = n; rest = body.0 } } in r) (omega (arith, one.moved, two.moved));
    }))))
