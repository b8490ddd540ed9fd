-- Indices and attributes: what passes is in the grammar, and what is in it passes.
use Rattle.std.proofs.Common.{◌≡◌, ℕ, ◌+◌, List, [], ◌++◌, length, Option, Some, None, refl, sym, ap, subst, ◌∙◌, arith}
use Rattle.byteorder.specs.Endian.{big_bytes}
use Rattle.byteorder.specs.Numbers.{length-bytes_high_first}
use Rattle.class_pool.specs.declared.constant.Constant.{Constant}
use Rattle.class_pool.specs.Place.{Place, IsBytes}
use Rattle.class_pool.specs.Pieces.{Counted, StartsWith}
use Rattle.class_pool.specs.Pool.{utf8_at}
use Rattle.class_pool.proofs.Pieces.{IsNumber, starts-rest}
use Rattle.class_reader.specs.declared.fault.ClassFault.{ClassFault}
use Rattle.class_reader.specs.Met.{with_faults, Passes, times_at}
use Rattle.class_reader.specs.ClassReading.{index_faults, index_at, or_empty, name_at, Stored, attribute_at, skipped_at}
use Rattle.class_reader.specs.ClassFile.{IsIndex, Attribute, IsAttribute, AreAttributes}
use Rattle.class_reader.proofs.MetLaws.{stepped, steps, passes_is, carried, Spans, spanned, starts, joined, second_of_two, rewritten, same_start, IsReader, took, takes_first, takes_last, num_reader, AreSoMany, bytes_reader}
use Rattle.class_reader.proofs.TimesLaws.{IsStep, BytesAt, skipped_take, skipped_again}

-- ---- values with faults

-- faults that pass are none
pub faultless : {A : Type 0} (faults : List ClassFault) (x y : A) → Passes (with_faults faults x) y → (faults ≡ []) × (x ≡ y)
faultless faults x y p = let same = p.0 in (p.1, cc)

pub without_faults : {A : Type 0} (faults : List ClassFault) (x : A) → faults ≡ [] → Passes (with_faults faults x) x
without_faults faults x none = (refl, none)

-- ---- indices

-- the two bytes are an index that names a text, and this is the text
abbrev pub IsNamed : (ℕ → Option (List ℕ)) → List ℕ → Option (List ℕ) → Type 0
IsNamed names bytes found = (x : List ℕ) × (found ≡ Some x) × IsIndex names bytes x

pub named : (at index : ℕ) (found : Option (List ℕ)) → index_faults at index found ≡ [] → (x : List ℕ) × (found ≡ Some x)
named at index None e = absurd cc
named at index (Some x) e = (x, refl)

pub named_faultless : (at index : ℕ) (found : Option (List ℕ)) (x : List ℕ) → found ≡ Some x → index_faults at index found ≡ []
named_faultless at index found x e = rw e refl

index_takes : (names : ℕ → Option (List ℕ)) (place : Place) (found : Option (List ℕ)) (next : Place) → IsBytes place.rest → Passes (index_at names place) (found, next) → StartsWith (IsNamed names) place found next
unfolding index_at
index_takes names place found next fits p =
    let n = took (num_reader 2) place _ (found, next) fits p in
    let none = faultless (index_faults place.at n.value (names n.value)) (names n.value, n.next) (found, next) n.others in
    let x = named place.at n.value (names n.value) none.0 in
    let here : StartsWith (IsNamed names) place (names n.value) n.next = starts (IsNamed names) (names n.value) n.starts.piece (spanned n.starts) (x.0, x.1, (n.value, n.starts.is.1, n.starts.is.0, x.1)) in
    subst (λ (z : Option (List ℕ) × Place). StartsWith (IsNamed names) place z.0 z.1) none.1 here

index_again : (names : ℕ → Option (List ℕ)) (place : Place) (found : Option (List ℕ)) (next : Place) → StartsWith (IsNamed names) place found next → Passes (index_at names place) (found, next)
unfolding index_at
index_again names place found next s =
    let is = s.is.2 in
    let same : names is.0 ≡ found = is.3 ∙ sym s.is.1 in
    let passes : Passes {A = Option (List ℕ) × Place} (with_faults (index_faults place.at is.0 (names is.0)) (names is.0, next)) (names is.0, next) =
    (refl, named_faultless place.at is.0 (names is.0) s.is.0 is.3) in
    takes_last (num_reader 2) is.0 s.piece _ (spanned s) (is.2, is.1)
    (subst (λ (o : Option (List ℕ)). Passes {A = Option (List ℕ) × Place} (with_faults (index_faults place.at is.0 (names is.0)) (names is.0, next)) (o, next)) same passes)

pub index_reader : (names : ℕ → Option (List ℕ)) → IsReader (index_at names) (IsNamed names)
index_reader names = record { takes = index_takes names; again = index_again names }

name_takes : (names : ℕ → Option (List ℕ)) (place : Place) (name : List ℕ) (next : Place) → IsBytes place.rest → Passes (name_at names place) (name, next) → StartsWith (IsIndex names) place name next
unfolding name_at
name_takes names place name next fits p =
    let n = took (index_reader names) place _ (name, next) fits p in
    let text : or_empty n.value ≡ n.starts.is.0 = ap or_empty n.starts.is.1 in
    let here : StartsWith (IsIndex names) place n.starts.is.0 n.next = starts (IsIndex names) n.starts.is.0 n.starts.piece (spanned n.starts) n.starts.is.2 in
    same_start (IsIndex names) place (or_empty n.value) name n.next next n.others (subst (λ (x : List ℕ). StartsWith (IsIndex names) place x n.next) (sym text) here)

name_again : (names : ℕ → Option (List ℕ)) (place : Place) (name : List ℕ) (next : Place) → StartsWith (IsIndex names) place name next → Passes (name_at names place) (name, next)
unfolding name_at
name_again names place name next s = takes_last (index_reader names) (Some name) s.piece _ (spanned s) (name, refl, s.is) (refl, refl)

pub name_reader : (names : ℕ → Option (List ℕ)) → IsReader (name_at names) (IsIndex names)
name_reader names = record { takes = name_takes names; again = name_again names }

-- ---- attributes

abbrev pub stored_with : ℕ → Option (List ℕ) → ℕ → List ℕ → Stored
stored_with at name body_at body = record { at = at; name = name; body = record { at = body_at; rest = body } }

-- an attribute as it stands at a place
abbrev pub stored_at : Place → Attribute → Stored
stored_at place attribute = stored_with place.at (Some attribute.name) (place.at + 2 + 4) attribute.body

index_moves : (names : ℕ → Option (List ℕ)) (place next : Place) (found : Option (List ℕ)) (s : StartsWith (IsNamed names) place found next) → next.at ≡ place.at + 2
index_moves names place next found s = omega (arith, s.moved, ap length s.is.2.2, length-bytes_high_first 2 s.is.2.0)

number_moves : (n : ℕ) (place next : Place) (k : ℕ) (s : StartsWith (IsNumber n) place k next) → next.at ≡ place.at + n
number_moves n place next k s = omega (arith, s.moved, ap length s.is.0, length-bytes_high_first n k)

-- an attribute, and what was read of it
pub record Found (pool : List (Option Constant)) (place : Place) (stored : Stored) (next : Place) : Type 0 where
  pub attribute : Attribute
  pub same : stored ≡ stored_at place attribute
  pub starts : StartsWith (IsAttribute pool) place attribute next

attribute_made : (pool : List (Option Constant)) (place p q next : Place) (name : Option (List ℕ)) (len : ℕ) (body : List ℕ) → StartsWith (IsNamed (utf8_at pool)) place name p → StartsWith (IsNumber 4) p len q
    → StartsWith (AreSoMany len) q body next → Found pool place (stored_with place.at name q.at body) next
attribute_made pool place p q next name len body a b c =
    let at : q.at ≡ place.at + 2 + 4 = omega (arith, index_moves (utf8_at pool) place p name a, number_moves 4 p q len b) in
    let length_bytes : Spans p (big_bytes 4 (length body)) q = rewritten (b.is.0 ∙ ap (big_bytes 4) (sym c.is.1)) (spanned b) in
    let body_bytes : Spans q body next = rewritten c.is.0 (spanned c) in
    let is : IsAttribute pool (a.piece ++ (big_bytes 4 (length body) ++ body)) (record { name = a.is.0; body = body }) =
    record { index = a.piece; named = a.is.2; short = omega (arith, b.is.1, c.is.1); parts = refl } in
    record {
      attribute = record { name = a.is.0; body = body };
      same = ap (λ (o : Option (List ℕ)). stored_with place.at o q.at body) a.is.1 ∙ ap (λ (n : ℕ). stored_with place.at (Some a.is.0) n body) at;
      starts = starts (IsAttribute pool) _ _ (joined (spanned a) (joined length_bytes body_bytes)) is;
    }

pub attribute_takes : (pool : List (Option Constant)) (place : Place) (stored : Stored) (next : Place) → IsBytes place.rest → Passes (attribute_at pool place) (stored, next) → Found pool place stored next
unfolding attribute_at
attribute_takes pool place stored next fits p =
    let name = took (index_reader (utf8_at pool)) place _ (stored, next) fits p in
    let len = took (num_reader 4) name.next _ (stored, next) name.fits name.others in
    let body = took (bytes_reader len.value) len.next _ (stored, next) len.fits len.others in
    carried (λ z. Found pool place z.0 z.1) (stored_with place.at name.value len.next.at body.value, body.next) (stored, next) body.others
    (attribute_made pool place name.next len.next body.next name.value len.value body.value name.starts len.starts body.starts)

pub attribute_again : (pool : List (Option Constant)) (place : Place) (attribute : Attribute) (next : Place) → StartsWith (IsAttribute pool) place attribute next → Passes (attribute_at pool place) (stored_at place attribute, next)
unfolding attribute_at
attribute_again pool place attribute next s =
    let is = s.is in
    let len : List ℕ = big_bytes 4 (length attribute.body) in
    let spans = rewritten is.parts (spanned s) in
    let behind = second_of_two is.index (len ++ attribute.body) spans in
    let at : place.at + length is.index + length len ≡ place.at + 2 + 4 = omega (arith, ap length is.named.2, length-bytes_high_first 2 is.named.0, length-bytes_high_first 4 (length attribute.body)) in
    takes_first (index_reader (utf8_at pool)) (Some attribute.name) is.index (len ++ attribute.body) _ spans (attribute.name, refl, is.named)
    (takes_first (num_reader 4) (length attribute.body) len attribute.body _ behind (refl, is.short)
    (takes_last (bytes_reader (length attribute.body)) attribute.body attribute.body _ (second_of_two len attribute.body behind) (refl, refl)
    (ap (λ (n : ℕ). let o : Option (Stored × Place) = Some (stored_with place.at (Some attribute.name) n attribute.body, next) in o) at, refl)))

-- ---- attributes that aren't looked at

skipped_step : (pool : List (Option Constant)) → IsStep (skipped_at pool) BytesAt (StartsWith (IsAttribute pool))
unfolding skipped_at
skipped_step pool = record {
  takes = λ s t fits p.
      let a = stepped (attribute_at pool s) _ t p in
      let same = passes_is a.0.1 t a.2 in
      let is = attribute_takes pool s a.0.0 a.0.1 fits a.1 in
      let here : StartsWith (IsAttribute pool) s is.attribute t = subst (λ (q : Place). StartsWith (IsAttribute pool) s is.attribute q) same is.starts in
      (is.attribute, here, starts-rest (IsAttribute pool) s t is.attribute here fits);
  again = λ s t a is. steps _ (attribute_again pool s a t is) (refl, refl);
}

-- attributes at a place, and where they end
pub record Attributes (pool : List (Option Constant)) (place next : Place) : Type 0 where
  pub piece : List ℕ
  pub are : AreAttributes pool piece
  pub spans : Spans place piece next

pub attributes_take : (pool : List (Option Constant)) (place next : Place) → IsBytes place.rest → Passes (times_at (skipped_at pool) place) next → Attributes pool place next
attributes_take pool place next fits p =
    let s = skipped_take (skipped_step pool) place next fits p in
    record { piece = s.1.piece; are = (s.0, s.1.is); spans = spanned s.1 }

pub attributes_again : (pool : List (Option Constant)) (place next : Place) (piece : List ℕ) → Spans place piece next → AreAttributes pool piece → Passes (times_at (skipped_at pool) place) next
attributes_again pool place next piece spans are =
    skipped_again (skipped_step pool) place next are.0 (starts (Counted (IsAttribute pool)) are.0 piece spans are.1)
