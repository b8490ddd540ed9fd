-- Behind the pool each fault that is met is there, and each part that was read stands there: names,
-- interfaces, members, and attributes that aren't looked into.
use Rattle.std.proofs.Common.{◌≡◌, ℕ, zero, suc, Bool, true, false, not, ◌||◌, List, [], ◌++◌, length, Option, Some, None, refl, sym, ap, subst, ◌∙◌, arith, inr}
use Rattle.std.specs.List.{AllByRecursion, Contains}
use Rattle.std.proofs.lemmas.Bool.{and_parts, true≢false, not-true}
use Rattle.std.proofs.lemmas.List.{length-append}
use Rattle.std.proofs.lemmas.Slice.Eq.{bytes_eq-Decides}
use Rattle.common_laws.proofs.Tests.{any_has}
use Rattle.class_pool.specs.declared.constant.Constant.{Constant}
use Rattle.class_pool.specs.declared.fault.PoolFault.TheVariants.{BadIndex}
use Rattle.class_pool.specs.Place.{Place, IsBytes}
use Rattle.class_pool.specs.Pieces.{StartsWith}
use Rattle.class_pool.specs.Pool.{utf8_at, class_name_at}
use Rattle.class_pool.proofs.Pieces.{starts-rest}
use Rattle.class_reader.specs.declared.fault.ClassFault.{ClassFault}
use Rattle.class_reader.specs.declared.fault.ClassFault.TheVariants.{Pool, BadDesc, Repeated}
use Rattle.class_reader.specs.Met.{Met, num_at, pushed, counted_at, times_at}
use Rattle.class_reader.specs.ClassReading.{fault_if, index_at, name_at, names_at, attribute_at, skipped_at, descriptor_faults, descriptor_at, is_pair, is_repeated, with_member, Head as Read, Members as Pairs, member_at}
use Rattle.class_reader.proofs.MetLaws.{Spans, spanned, joined}
use Rattle.class_faults.specs.Pieces.{IsNumber, RawHead, IsRawHead, names_code}
use Rattle.class_faults.specs.Parts.{Kind, Owner, Part, Names, InterfaceCount, Interfaces, Members, AttributeCount, Attributes, OfMember, member_of, with_pair, Stands, behind_names, so_many_interfaces, next_interface, next_member, so_many_attributes, next_attribute}
use Rattle.class_faults.specs.Faults.{IsCutPart, IsCutFile, HasIndex, of_this, of_super, of_interface, of_name, of_descriptor, of_attribute, IsDescriptor, StandsAt}
use Rattle.class_faults.proofs.Yields.{Yields, yields_done, yields_with, yields_then, yields_as, num_yields, times_yield, pushed_yields}
use Rattle.class_faults.proofs.Heads.{number_sized, number_behind, head_made, IndexRead, index_yields, name_yields, AttributeRead, attribute_yields}
use Rattle.class_faults.proofs.Bytes.{stands_fit}

-- what is told of the bytes
abbrev pub Tells : {A : Type 0} → List ℕ → (A → Type 0) → Met A → Type 0
Tells bytes K met = Yields (StandsAt bytes) (IsCutFile bytes) K met

pub cut_part : (bytes : List ℕ) (pool : List (Option Constant)) (part : Part) (place : Place) → Stands bytes pool part place → IsCutPart part place → IsCutFile bytes
cut_part bytes pool part place s c = inr (pool, part, place, s, c)

-- an index behind so many bytes of a part names nothing
pub bad_index : (bytes : List ℕ) (pool : List (Option Constant)) (part : Part) (place p next : Place) (skip index : ℕ) (names : ℕ → Option (List ℕ)) (front : List ℕ) → Stands bytes pool part place → HasIndex pool part skip names
    → Spans place front p → length front ≡ skip → StartsWith (IsNumber 2) p index next → names index ≡ None → StandsAt bytes (Pool (BadIndex p.at index))
bad_index bytes pool part place p next skip index names front s has spans sized t nothing =
    inr (record {
      pool = pool;
      part = part;
      place = place;
      stands = s;
      skip = skip;
      names = names;
      has = has;
      number = number_behind 2 skip place p front index next spans.parts sized t;
      nothing = nothing;
      here = omega (arith, spans.moved, sized);
    })

pub no_bytes : (place : Place) → Spans place [] place
no_bytes place = record { parts = refl; moved = omega arith }

-- ---- flags, this class and the superclass

pub names_tell : (bytes : List ℕ) (pool : List (Option Constant)) (place : Place) → IsBytes bytes → Stands bytes pool Names place → Tells bytes (λ z. Stands bytes pool InterfaceCount z.1) (names_at pool place)
unfolding names_at
names_tell bytes pool place fits s =
    let here = stands_fit bytes pool Names place fits s in
    yields_then (λ (z : ℕ × Place). StartsWith (IsNumber 2) place z.0 z.1) (num_at 2 place) _ (num_yields 2 place here (λ lt. cut_part bytes pool Names place s (omega (arith, lt))))
    (λ flags a.
    let one = number_sized 2 place flags.0 flags.1 a in
    let behind = starts-rest (IsNumber 2) place flags.1 flags.0 a here in
    yields_then (λ (z : List ℕ × Place). (index : ℕ) × StartsWith (IsNumber 2) flags.1 index z.1) (name_at (class_name_at pool) flags.1) _
    (name_yields (class_name_at pool) flags.1 behind (λ lt. cut_part bytes pool Names place s (omega (arith, lt, one.all)))
    (λ index next t nothing. bad_index bytes pool Names place flags.1 next 2 index (class_name_at pool) a.piece s of_this (spanned a) one.sized t nothing))
    (λ own b.
    let two = number_sized 2 flags.1 b.0 own.1 b.1 in
    yields_then (λ (z : List ℕ × Place). (index : ℕ) × StartsWith (IsNumber 2) own.1 index z.1) (name_at (class_name_at pool) own.1) _
    (name_yields (class_name_at pool) own.1 (starts-rest (IsNumber 2) flags.1 own.1 b.0 b.1 behind) (λ lt. cut_part bytes pool Names place s (omega (arith, lt, one.all, two.all)))
    (λ index next t nothing. bad_index bytes pool Names place own.1 next 4 index (class_name_at pool) (a.piece ++ b.1.piece) s of_super (joined (spanned a) (spanned b.1))
    (omega (arith, length-append a.piece b.1.piece, one.sized, two.sized)) t nothing))
    (λ above c. yields_done ((flags.0, own.0, above.0), above.1) (behind_names s (head_made place flags.1 own.1 above.1 flags.0 b.0 c.0 a b.1 c.1)))))

-- ---- interfaces

pub interfaces_tell : (bytes : List ℕ) (pool : List (Option Constant)) (place : Place) → IsBytes bytes → Stands bytes pool InterfaceCount place
    → Tells bytes (λ z. Stands bytes pool (Interfaces zero) z.1) (counted_at (name_at (class_name_at pool)) place)
unfolding counted_at
interfaces_tell bytes pool place fits s =
    yields_then (λ (z : ℕ × Place). StartsWith (IsNumber 2) place z.0 z.1) (num_at 2 place) _ (num_yields 2 place (stands_fit bytes pool InterfaceCount place fits s) (λ lt. cut_part bytes pool InterfaceCount place s lt))
    (λ count a. times_yield (λ (n : ℕ) (t : List (List ℕ) × Place). Stands bytes pool (Interfaces n) t.1) (pushed (name_at (class_name_at pool)))
    (λ n t h. pushed_yields (λ (p : Place). Stands bytes pool (Interfaces n) p) (name_at (class_name_at pool)) t
    (yields_as (λ (z : List ℕ × Place). Stands bytes pool (Interfaces n) z.1) (name_at (class_name_at pool) t.1)
    (name_yields (class_name_at pool) t.1 (stands_fit bytes pool (Interfaces (suc n)) t.1 fits h) (λ lt. cut_part bytes pool (Interfaces (suc n)) t.1 h lt)
    (λ index next u nothing. bad_index bytes pool (Interfaces (suc n)) t.1 t.1 next 0 index (class_name_at pool) [] h of_interface (no_bytes t.1) refl u nothing))
    (λ z u. next_interface h u.1))) count.0 ([], count.1) (so_many_interfaces s a))

-- ---- attributes

pub attribute_tells : (bytes : List ℕ) (pool : List (Option Constant)) (owner : Owner) (met : Bool) (n : ℕ) (place : Place) → IsBytes bytes → Stands bytes pool (Attributes owner met (suc n)) place
    → Tells bytes (AttributeRead pool place) (attribute_at pool place)
attribute_tells bytes pool owner met n place fits s =
    attribute_yields pool place (stands_fit bytes pool (Attributes owner met (suc n)) place fits s) (λ c. cut_part bytes pool (Attributes owner met (suc n)) place s c)
    (λ index next u nothing. bad_index bytes pool (Attributes owner met (suc n)) place place next 0 index (utf8_at pool) [] s of_attribute (no_bytes place) refl u nothing)

-- attributes from here on
abbrev pub AttributesAt : List ℕ → List (Option Constant) → Owner → ℕ → Place → Type 0
AttributesAt bytes pool owner n place = (met : Bool) × Stands bytes pool (Attributes owner met n) place

skipped_tells : (bytes : List ℕ) (pool : List (Option Constant)) (owner : Owner) (n : ℕ) (place : Place) → IsBytes bytes → AttributesAt bytes pool owner (suc n) place → Tells bytes (AttributesAt bytes pool owner n) (skipped_at pool place)
unfolding skipped_at
skipped_tells bytes pool owner n place fits h =
    yields_then (AttributeRead pool place) (attribute_at pool place) _ (attribute_tells bytes pool owner h.0 n place fits h.1) (λ z a. yields_done z.1 (h.0 || names_code pool a.stored.name, next_attribute h.1 a.starts))

pub attributes_tell : (bytes : List ℕ) (pool : List (Option Constant)) (owner : Owner) (place : Place) → IsBytes bytes → Stands bytes pool (AttributeCount owner) place → Tells bytes (AttributesAt bytes pool owner zero) (times_at (skipped_at pool) place)
unfolding times_at
attributes_tell bytes pool owner place fits s =
    yields_then (λ (z : ℕ × Place). StartsWith (IsNumber 2) place z.0 z.1) (num_at 2 place) _ (num_yields 2 place (stands_fit bytes pool (AttributeCount owner) place fits s) (λ lt. cut_part bytes pool (AttributeCount owner) place s lt))
    (λ count a. times_yield (AttributesAt bytes pool owner) (skipped_at pool) (λ n t h. skipped_tells bytes pool owner n t fits h) count.0 count.1 (false, so_many_attributes s a))

-- ---- members

pub told_if : (bytes : List ℕ) (b : Bool) (fault : ClassFault) → (b ≡ true → StandsAt bytes fault) → AllByRecursion (StandsAt bytes) (fault_if b fault)
told_if bytes true fault h = (h refl, tt)
told_if bytes false fault h = tt

pair_is : (name desc : List ℕ) (other : List ℕ × List ℕ) → is_pair name desc other ≡ true → other ≡ (name, desc)
pair_is name desc other e =
    let both = and_parts _ _ e in
    let first : other.0 ≡ name = (bytes_eq-Decides other.0 name).0 both.0 in
    let second : other.1 ≡ desc = (bytes_eq-Decides other.1 desc).0 both.1 in
    rw (← first, ← second) refl

-- the pair of two texts that are there, among those before
record Repeats (before : Pairs) (name desc : Option (List ℕ)) : Type 0 where
  first : List ℕ
  second : List ℕ
  named : name ≡ Some first
  described : desc ≡ Some second
  among : Contains before (first, second)

repeats : (before : Pairs) (name desc : Option (List ℕ)) → is_repeated before name desc ≡ true → Repeats before name desc
repeats before (Some name) (Some desc) e =
    let h = any_has (is_pair name desc) before e in
    record { first = name; second = desc; named = refl; described = refl; among = subst (Contains before) (pair_is name desc h.0 h.2) h.1 }
repeats before (Some name) None e = absurd (true≢false (sym e))
repeats before None desc e = absurd (true≢false (sym e))

pub same_pairs : (before : Pairs) (name desc : Option (List ℕ)) → with_member before name desc ≡ with_pair before name desc
same_pairs before (Some name) (Some desc) = refl
same_pairs before (Some name) None = refl
same_pairs before None desc = refl

bad_descriptors : (bytes : List ℕ) (passes : List ℕ → Bool) (at : ℕ) (found : Option (List ℕ)) → ((text : List ℕ) → found ≡ Some text → passes text ≡ false → StandsAt bytes (BadDesc at))
    → AllByRecursion (StandsAt bytes) (descriptor_faults passes at found)
bad_descriptors bytes passes at None h = tt
bad_descriptors bytes passes at (Some text) h = told_if bytes (not (passes text)) (BadDesc at) (λ e. h text refl (not-true (passes text) e))

-- what was read of a member
pub record MemberRead (bytes : List ℕ) (pool : List (Option Constant)) (kind : Kind) (n : ℕ) (s : Pairs × Place) (z : Read × Pairs × Place) : Type 0 where
  pub head : RawHead
  pub stands : Stands bytes pool (AttributeCount (OfMember (member_of pool kind s.0 n s.1.at head))) z.2
  pub flags : z.0.flags ≡ head.flags
  pub pairs : z.1 ≡ with_pair s.0 (utf8_at pool head.first) (utf8_at pool head.second)

member_read : (bytes : List ℕ) (pool : List (Option Constant)) (kind : Kind) (n : ℕ) (s : Pairs × Place) (place : Place) (head : RawHead) (read : Read) → Stands bytes pool (Members kind s.0 (suc n)) s.1 → StartsWith IsRawHead s.1 head place
    → read.flags ≡ head.flags → read.name ≡ utf8_at pool head.first → read.desc ≡ utf8_at pool head.second → MemberRead bytes pool kind n s (read, with_member s.0 read.name read.desc, place)
member_read bytes pool kind n s place head read h t flags named described = record {
  head = head;
  stands = next_member h t;
  flags = flags;
  pairs = same_pairs s.0 read.name read.desc ∙ ap (λ (o : Option (List ℕ)). with_pair s.0 o read.desc) named ∙ ap (λ (o : Option (List ℕ)). with_pair s.0 (utf8_at pool head.first) o) described;
}

member_repeats : (bytes : List ℕ) (pool : List (Option Constant)) (kind : Kind) (n : ℕ) (s : Pairs × Place) (place : Place) (head : RawHead) (name desc : Option (List ℕ)) → Stands bytes pool (Members kind s.0 (suc n)) s.1 → StartsWith IsRawHead s.1 head place
    → name ≡ utf8_at pool head.first → desc ≡ utf8_at pool head.second → is_repeated s.0 name desc ≡ true → StandsAt bytes (Repeated s.1.at)
member_repeats bytes pool kind n s place head name desc h t named described e =
    let r = repeats s.0 name desc e in
    record {
      member = record { pool = pool; kind = kind; before = s.0; left = n; place = s.1; stands = h; next = place; head = head; starts = t };
      name = r.first;
      desc = r.second;
      named = sym named ∙ r.named;
      described = sym described ∙ r.described;
      among = r.among;
      here = refl;
    }

descriptor_tells : (bytes : List ℕ) (pool : List (Option Constant)) (kind : Kind) (passes : ℕ → List ℕ → Bool) (n : ℕ) (before : Pairs) (place p q : Place) (flags first : ℕ)
    → ((text : List ℕ) → passes flags text ≡ false → IsDescriptor kind flags text → ⊥) → Stands bytes pool (Members kind before (suc n)) place
    → StartsWith (IsNumber 2) place flags p → StartsWith (IsNumber 2) p first q → IsBytes q.rest → Tells bytes (IndexRead (utf8_at pool) q) (descriptor_at (passes flags) pool q)
unfolding descriptor_at
descriptor_tells bytes pool kind passes n before place p q flags first wrong s a b fits =
    let one = number_sized 2 place flags p a in
    let two = number_sized 2 p first q b in
    let front : Spans place (a.piece ++ b.piece) q = joined (spanned a) (spanned b) in
    let four : length (a.piece ++ b.piece) ≡ 4 = omega (arith, length-append a.piece b.piece, one.sized, two.sized) in
    yields_then (IndexRead (utf8_at pool) q) (index_at (utf8_at pool) q) _
    (index_yields (utf8_at pool) q fits (λ lt. cut_part bytes pool (Members kind before (suc n)) place s (omega (arith, lt, one.all, two.all)))
    (λ index next t nothing. bad_index bytes pool (Members kind before (suc n)) place q next 4 index (utf8_at pool) (a.piece ++ b.piece) s of_descriptor front four t nothing))
    (λ z c. yields_with (descriptor_faults (passes flags) q.at z.0) z
    (bad_descriptors bytes (passes flags) q.at z.0
    (λ text found e. record {
      member = record { pool = pool; kind = kind; before = before; left = n; place = place; stands = s; next = z.1; head = record { flags = flags; first = first; second = c.0 }; starts = head_made place p q z.1 flags first c.0 a b c.1 };
      text = text;
      named = sym c.2 ∙ found;
      wrong = wrong text e;
      here = omega (arith, front.moved, four);
    })) c)

pub member_tells : (bytes : List ℕ) (pool : List (Option Constant)) (kind : Kind) (passes : ℕ → List ℕ → Bool) (n : ℕ) (s : Pairs × Place) → IsBytes bytes → ((flags : ℕ) (text : List ℕ) → passes flags text ≡ false → IsDescriptor kind flags text → ⊥)
    → Stands bytes pool (Members kind s.0 (suc n)) s.1 → Tells bytes (MemberRead bytes pool kind n s) (member_at passes pool s)
unfolding member_at
member_tells bytes pool kind passes n s fits wrong h =
    let here = stands_fit bytes pool (Members kind s.0 (suc n)) s.1 fits h in
    yields_then (λ (z : ℕ × Place). StartsWith (IsNumber 2) s.1 z.0 z.1) (num_at 2 s.1) _ (num_yields 2 s.1 here (λ lt. cut_part bytes pool (Members kind s.0 (suc n)) s.1 h (omega (arith, lt))))
    (λ flags a.
    let one = number_sized 2 s.1 flags.0 flags.1 a in
    let behind = starts-rest (IsNumber 2) s.1 flags.1 flags.0 a here in
    yields_then (IndexRead (utf8_at pool) flags.1) (index_at (utf8_at pool) flags.1) _
    (index_yields (utf8_at pool) flags.1 behind (λ lt. cut_part bytes pool (Members kind s.0 (suc n)) s.1 h (omega (arith, lt, one.all)))
    (λ index next t nothing. bad_index bytes pool (Members kind s.0 (suc n)) s.1 flags.1 next 2 index (utf8_at pool) a.piece h of_name (spanned a) one.sized t nothing))
    (λ named b.
    yields_then (IndexRead (utf8_at pool) named.1) (descriptor_at (passes flags.0) pool named.1) _
    (descriptor_tells bytes pool kind passes n s.0 s.1 flags.1 named.1 flags.0 b.0 (wrong flags.0) h a b.1 (starts-rest (IsNumber 2) flags.1 named.1 b.0 b.1 behind))
    (λ desc c.
    let head : RawHead = record { flags = flags.0; first = b.0; second = c.0 } in
    let whole : StartsWith IsRawHead s.1 head desc.1 = head_made s.1 flags.1 named.1 desc.1 flags.0 b.0 c.0 a b.1 c.1 in
    yields_with (fault_if (is_repeated s.0 named.0 desc.0) (Repeated s.1.at)) (record { flags = flags.0; name = named.0; desc = desc.0 }, with_member s.0 named.0 desc.0, desc.1)
    (told_if bytes (is_repeated s.0 named.0 desc.0) (Repeated s.1.at) (λ e. member_repeats bytes pool kind n s desc.1 head named.0 desc.0 h whole b.2 c.2 e))
    (member_read bytes pool kind n s desc.1 head (record { flags = flags.0; name = named.0; desc = desc.0 }) h whole refl b.2 c.2))))
