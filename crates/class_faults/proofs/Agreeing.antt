-- Each step from one part to the next stays within the class.
use Rattle.std.proofs.Common.{◌≡◌, ◌⊎◌, ℕ, suc, Bool, true, false, not, ◌||◌, List, [], ◌∷◌, ◌++◌, length, Option, Some, None, refl, sym, ap, subst, ◌∙◌, append_assoc, arith, inl, inr, true≢false}
use Rattle.std.specs.Prelude.{codes}
use Rattle.std.specs.Str.{bytes_eq}
use Rattle.std.proofs.lemmas.List.{length-append}
use Rattle.byteorder.specs.Endian.{big_bytes}
use Rattle.byteorder.specs.Numbers.{length-bytes_high_first}
use Rattle.class_pool.specs.declared.constant.Constant.{Constant}
use Rattle.class_pool.specs.Place.{Place}
use Rattle.class_pool.specs.Pieces.{StartsWith}
use Rattle.class_pool.specs.Pool.{utf8_at, class_name_at}
use Rattle.class_reader.specs.Flags.{is_native, is_abstract}
use Rattle.class_reader.specs.ClassFile.{IsIndex, Attribute, IsAttribute, codes_of}
use Rattle.class_reader.proofs.DistinctLaws.{Pair, AreNew}
use Rattle.class_faults.specs.Pieces.{IsNumber, RawHead, IsRawHead, RawAttribute, IsRawAttribute, is_code_text, names_code}
use Rattle.class_faults.specs.Parts.{Kind, Fields, Methods, Member, with_pair, member_of, Owner, OfClass, OfMember, OfCode, Names, InterfaceCount, Interfaces, MemberCount, Members, AttributeCount, Attributes}
use Rattle.class_faults.proofs.Fronts.{same_front, same_number, same_width, Left, left_of_count, First, first_left, others_left}
use Rattle.class_faults.proofs.Agrees.{CodesOf, IsMember, Behind, tail_of, MembersLeft, ToCome, NoneToCome, CodesLeft, AttributesLeft, Agrees, index_sized, number_sized, head_sized}

-- ---- names and interfaces

pub agrees_names : (bytes : List ℕ) (pool : List (Option Constant)) (c : Behind bytes pool) (place next : Place) (head : RawHead) → Agrees bytes pool c Names place.rest → StartsWith IsRawHead place head next → Agrees bytes pool c InterfaceCount next.rest
agrees_names bytes pool c place next head a s =
    let flags : List ℕ = big_bytes 2 c.flags in
    let front : List ℕ = flags ++ (c.this ++ c.super) in
    let behind : List ℕ = c.interfaces ++ (c.members Fields ++ (c.members Methods ++ c.attributes)) in
    let whole : place.rest ≡ front ++ behind = a ∙ sym (append_assoc flags (c.this ++ c.super) behind ∙ ap (λ (b : List ℕ). flags ++ b) (append_assoc c.this c.super behind)) in
    let six : length front ≡ 6 = omega (arith, length-append flags (c.this ++ c.super), length-append c.this c.super, length-bytes_high_first 2 c.flags, index_sized (class_name_at pool) c.this c.name c.is_this, index_sized (class_name_at pool) c.super c.above c.is_super) in
    (same_front s.piece front next.rest behind (sym s.parts ∙ whole) (omega (arith, six, head_sized s.piece head s.is))).1

left_again : {A : Type 0} (Is : List ℕ → A → Type 0) (n : ℕ) (rest tail : List ℕ) (all : List A) (f : First Is n rest tail all) (next : List ℕ) → next ≡ f.pieces ++ tail → Left Is n next tail
left_again Is n rest tail all f next e = record { xs = f.xs; pieces = f.pieces; sized = f.sized; each = f.each; parts = e }

pub agrees_interface : (bytes : List ℕ) (pool : List (Option Constant)) (c : Behind bytes pool) (n : ℕ) (place next : Place) (index : ℕ) → Agrees bytes pool c (Interfaces (suc n)) place.rest → StartsWith (IsNumber 2) place index next
    → Agrees bytes pool c (Interfaces n) next.rest
agrees_interface bytes pool c n place next index a s =
    let tail : List ℕ = c.members Fields ++ (c.members Methods ++ c.attributes) in
    let f = first_left (IsIndex (class_name_at pool)) n place.rest tail a in
    let o = others_left (IsIndex (class_name_at pool)) n place.rest tail a.xs f s.piece next.rest s.parts (index_sized (class_name_at pool) f.piece f.x f.is ∙ sym (number_sized 2 s.piece index s.is)) in
    left_again (IsIndex (class_name_at pool)) n place.rest tail a.xs f next.rest o.1

-- ---- members

pub agrees_members : (bytes : List ℕ) (pool : List (Option Constant)) (c : Behind bytes pool) (kind : Kind) (n : ℕ) (place next : Place) → Agrees bytes pool c (MemberCount kind) place.rest → StartsWith (IsNumber 2) place n next
    → Agrees bytes pool c (Members kind [] n) next.rest
agrees_members bytes pool c kind n place next a s =
    let l = left_of_count (IsMember pool kind) place next n (c.members kind) (tail_of bytes pool c kind) (c.pairs kind) (c.are_members kind) a s in
    record { left = l.left; new = subst (AreNew []) (sym l.same) (c.are_new kind) }

same_head : (a b : List ℕ) (x y : RawHead) → IsRawHead a x → IsRawHead b y → a ≡ b → x ≡ y
same_head a b x y h k e =
    let parts : big_bytes 2 x.flags ++ (big_bytes 2 x.first ++ big_bytes 2 x.second) ≡ big_bytes 2 y.flags ++ (big_bytes 2 y.first ++ big_bytes 2 y.second) = sym h.parts ∙ e ∙ k.parts in
    let one = same_front (big_bytes 2 x.flags) (big_bytes 2 y.flags) (big_bytes 2 x.first ++ big_bytes 2 x.second) (big_bytes 2 y.first ++ big_bytes 2 y.second) parts (same_width 2 x.flags y.flags) in
    let two = same_front (big_bytes 2 x.first) (big_bytes 2 y.first) (big_bytes 2 x.second) (big_bytes 2 y.second) one.1 (same_width 2 x.first y.first) in
    let flags = same_number 2 x.flags y.flags h.flags_fit k.flags_fit one.0 in
    let first = same_number 2 x.first y.first h.first_fits k.first_fits two.0 in
    let second = same_number 2 x.second y.second h.second_fits k.second_fits two.1 in
    ap (λ (n : ℕ). let z : RawHead = record { flags = n; first = x.first; second = x.second } in z) flags
    ∙ ap (λ (n : ℕ). let z : RawHead = record { flags = y.flags; first = n; second = x.second } in z) first
    ∙ ap (λ (n : ℕ). let z : RawHead = record { flags = y.flags; first = y.first; second = n } in z) second

-- the member whose head stands at a place, and what stands behind it
pub record MemberHere (pool : List (Option Constant)) (kind : Kind) (before : List Pair) (n : ℕ) (piece next : List ℕ) (head : RawHead) (tail : List ℕ) : Type 0 where
  pub bytes : List ℕ
  pub pair : Pair
  pub is : IsMember pool kind bytes pair
  pub same : is.head ≡ head
  pub rest : List ℕ
  pub parts : next ≡ is.attributes ++ rest
  pub new : AreNew before (pair ∷ [])
  pub left : MembersLeft pool kind (before ++ pair ∷ []) n rest tail

front_new : (before : List Pair) (pair : Pair) (pairs : List Pair) → AreNew before (pair ∷ pairs) → AreNew before (pair ∷ []) × AreNew (before ++ pair ∷ []) pairs
front_new before pair pairs h = ((h.0, tt), h.1)

pub member_here : (pool : List (Option Constant)) (kind : Kind) (before : List Pair) (n : ℕ) (place next : Place) (head : RawHead) (tail : List ℕ) → MembersLeft pool kind before (suc n) place.rest tail → (s : StartsWith IsRawHead place head next)
    → MemberHere pool kind before n s.piece next.rest head tail
member_here pool kind before n place next head tail l s =
    let f = first_left (IsMember pool kind) n place.rest tail l.left in
    let behind : List ℕ = f.is.attributes ++ (f.pieces ++ tail) in
    let whole : place.rest ≡ f.is.front ++ behind = f.parts ∙ ap (λ (b : List ℕ). b ++ (f.pieces ++ tail)) f.is.parts ∙ append_assoc f.is.front f.is.attributes (f.pieces ++ tail) in
    let t = same_front f.is.front s.piece behind next.rest (sym whole ∙ s.parts) (head_sized f.is.front f.is.head f.is.is_head ∙ sym (head_sized s.piece head s.is)) in
    let new = front_new before f.x f.xs (subst (AreNew before) f.same l.new) in
    record {
      bytes = f.piece;
      pair = f.x;
      is = f.is;
      same = same_head f.is.front s.piece f.is.head head f.is.is_head s.is t.0;
      rest = f.pieces ++ tail;
      parts = sym t.1;
      new = new.0;
      left = record { left = record { xs = f.xs; pieces = f.pieces; sized = f.sized; each = f.each; parts = refl }; new = new.1 };
    }

not_wanted : (b : Bool) → b ≡ true → not b ≡ false
not_wanted true e = refl
not_wanted false e = absurd (true≢false (sym e))

codes_left : (pool : List (Option Constant)) (kind : Kind) (m : Member) (stored : List Attribute) → m.kind ≡ kind → CodesOf pool kind m.flags stored → CodesLeft pool (OfMember m) false stored
codes_left pool Fields m stored e codes = λ is. absurd (let wrong = sym e ∙ is in cc)
codes_left pool Methods m stored e (None, has) = λ is. inr (record { none = has.1; unwanted = λ met. not_wanted (is_native m.flags || is_abstract m.flags) has.0 })
codes_left pool Methods m stored e (Some code, has) = λ is. inl (record { wanted = has.0; first = refl; body = has.1.0; code = code; only = has.1.1; is = has.1.2 })

same_declared : (pool : List (Option Constant)) (before : List Pair) (pair : Pair) (x y : RawHead) → x ≡ y → utf8_at pool x.first ≡ Some pair.0 → utf8_at pool x.second ≡ Some pair.1 → with_pair before (utf8_at pool y.first) (utf8_at pool y.second) ≡ before ++ pair ∷ []
same_declared pool before pair x y e first second =
    ap (λ (h : RawHead). with_pair before (utf8_at pool h.first) (utf8_at pool h.second)) (sym e)
    ∙ ap (λ (o : Option (List ℕ)). with_pair before o (utf8_at pool x.second)) first
    ∙ ap (λ (o : Option (List ℕ)). with_pair before (Some pair.0) o) second

pub agrees_member : (bytes : List ℕ) (pool : List (Option Constant)) (c : Behind bytes pool) (kind : Kind) (before : List Pair) (n : ℕ) (place next : Place) (head : RawHead) → Agrees bytes pool c (Members kind before (suc n)) place.rest → StartsWith IsRawHead place head next
    → Agrees bytes pool c (AttributeCount (OfMember (member_of pool kind before n place.at head))) next.rest
agrees_member bytes pool c kind before n place next head a s =
    let h = member_here pool kind before n place next head (tail_of bytes pool c kind) a s in
    let m : Member = member_of pool kind before n place.at head in
    record {
      stored = h.is.stored;
      counted = h.is.attributes;
      tail = h.rest;
      are = h.is.are_attributes;
      parts = h.parts;
      behind = subst (λ (ps : List Pair). MembersLeft pool kind ps n h.rest (tail_of bytes pool c kind)) (sym (same_declared pool before h.pair h.is.head head h.same h.is.named h.is.described)) h.left;
      codes = codes_left pool kind m h.is.stored refl (subst (λ (k : RawHead). CodesOf pool kind k.flags h.is.stored) h.same h.is.codes);
    }

-- ---- attributes

pub agrees_attributes : (bytes : List ℕ) (pool : List (Option Constant)) (c : Behind bytes pool) (owner : Owner) (n : ℕ) (place next : Place) → Agrees bytes pool c (AttributeCount owner) place.rest → StartsWith (IsNumber 2) place n next
    → Agrees bytes pool c (Attributes owner false n) next.rest
agrees_attributes bytes pool c owner n place next a s =
    let l = left_of_count (IsAttribute pool) place next n a.counted a.tail a.stored a.are a.parts s in
    record { tail = a.tail; left = l.left; behind = a.behind; codes = subst (CodesLeft pool owner false) (sym l.same) a.codes }

-- the attribute that stands at a place
pub record AttributeHere (pool : List (Option Constant)) (owner : Owner) (met : Bool) (n : ℕ) (next : List ℕ) (stored : RawAttribute) (tail : List ℕ) : Type 0 where
  pub x : Attribute
  pub xs : List Attribute
  pub named : utf8_at pool stored.name ≡ Some x.name
  pub body : x.body ≡ stored.body
  pub codes : CodesLeft pool owner met (x ∷ xs)
  pub left : Left (IsAttribute pool) n next tail
  pub same : left.xs ≡ xs

pub attribute_here : (bytes : List ℕ) (pool : List (Option Constant)) (c : Behind bytes pool) (owner : Owner) (met : Bool) (n : ℕ) (place next : Place) (stored : RawAttribute) → (a : AttributesLeft bytes pool c owner met (suc n) place.rest) → StartsWith IsRawAttribute place stored next
    → AttributeHere pool owner met n next.rest stored a.tail
attribute_here bytes pool c owner met n place next stored a s =
    let f = first_left (IsAttribute pool) n place.rest a.tail a.left in
    let i = f.is in
    let len : List ℕ = big_bytes 4 (length f.x.body) in
    let raw_index : List ℕ = big_bytes 2 stored.name in
    let raw_len : List ℕ = big_bytes 4 (length stored.body) in
    let behind : List ℕ = f.pieces ++ a.tail in
    let mine : place.rest ≡ i.index ++ (len ++ (f.x.body ++ behind)) =
    f.parts ∙ ap (λ (b : List ℕ). b ++ behind) i.parts ∙ append_assoc i.index (len ++ f.x.body) behind ∙ ap (λ (b : List ℕ). i.index ++ b) (append_assoc len f.x.body behind) in
    let raw : place.rest ≡ raw_index ++ (raw_len ++ (stored.body ++ next.rest)) =
    s.parts ∙ ap (λ (b : List ℕ). b ++ next.rest) s.is.parts ∙ append_assoc raw_index (raw_len ++ stored.body) next.rest ∙ ap (λ (b : List ℕ). raw_index ++ b) (append_assoc raw_len stored.body next.rest) in
    let one = same_front i.index raw_index (len ++ (f.x.body ++ behind)) (raw_len ++ (stored.body ++ next.rest)) (sym mine ∙ raw) (index_sized (utf8_at pool) i.index f.x.name i.named ∙ sym (length-bytes_high_first 2 stored.name)) in
    let two = same_front len raw_len (f.x.body ++ behind) (stored.body ++ next.rest) one.1 (same_width 4 (length f.x.body) (length stored.body)) in
    let long = same_number 4 (length f.x.body) (length stored.body) i.short s.is.short two.0 in
    let three = same_front f.x.body stored.body behind next.rest two.1 long in
    let index : i.named.0 ≡ stored.name = same_number 2 i.named.0 stored.name i.named.1 s.is.name_fits (sym i.named.2 ∙ one.0) in
    record {
      x = f.x;
      xs = f.xs;
      named = ap (utf8_at pool) (sym index) ∙ i.named.3;
      body = three.0;
      codes = subst (CodesLeft pool owner met) f.same a.codes;
      left = record { xs = f.xs; pieces = f.pieces; sized = f.sized; each = f.each; parts = sym three.1 };
      same = refl;
    }

pub more_codes : (x : Attribute) (xs : List Attribute) → bytes_eq x.name (codes "Code") ≡ true → codes_of (x ∷ xs) ≡ x.body ∷ codes_of xs
more_codes x xs e = rw e refl

other_codes : (x : Attribute) (xs : List Attribute) → bytes_eq x.name (codes "Code") ≡ false → codes_of (x ∷ xs) ≡ codes_of xs
other_codes x xs e = rw e refl

no_codes : (x : Attribute) (xs : List Attribute) (b : Bool) → bytes_eq x.name (codes "Code") ≡ b → codes_of (x ∷ xs) ≡ [] → (b ≡ false) × (codes_of xs ≡ [])
no_codes x xs true e none = absurd (let wrong = sym (more_codes x xs e) ∙ none in cc)
no_codes x xs false e none = (refl, sym (other_codes x xs e) ∙ none)

or_same : (b : Bool) → b ≡ (b || false)
or_same true = refl
or_same false = refl

tails_same : (a b : List ℕ) (xs : List (List ℕ)) → a ∷ xs ≡ b ∷ [] → (a ≡ b) × (xs ≡ [])
tails_same a b xs e = (cc, cc)

met_true : (b : Bool) → (b || true) ≡ false → ⊥
met_true true e = true≢false e
met_true false e = true≢false e

to_come_on : (pool : List (Option Constant)) (flags : ℕ) (met : Bool) (x : Attribute) (xs : List Attribute) (named : Bool) → bytes_eq x.name (codes "Code") ≡ named → ToCome pool flags met (x ∷ xs)
    → ToCome pool flags (met || named) xs ⊎ NoneToCome flags (met || named) xs
to_come_on pool flags met x xs true e t =
    let only = tails_same x.body t.body (codes_of xs) (sym (more_codes x xs e) ∙ t.only) in
    inr (record { none = only.1; unwanted = λ no_more. absurd (met_true met no_more) })
to_come_on pool flags met x xs false e t =
    inl (record { wanted = t.wanted; first = sym (or_same met) ∙ t.first; body = t.body; code = t.code; only = sym (other_codes x xs e) ∙ t.only; is = t.is })

none_on : (flags : ℕ) (met : Bool) (x : Attribute) (xs : List Attribute) (named : Bool) → bytes_eq x.name (codes "Code") ≡ named → NoneToCome flags met (x ∷ xs) → NoneToCome flags (met || named) xs
none_on flags met x xs named e t =
    let f = no_codes x xs named e t.none in
    record { none = f.1; unwanted = λ no_more. t.unwanted (or_same met ∙ ap (λ (b : Bool). met || b) (sym f.0) ∙ no_more) }

codes_on : (pool : List (Option Constant)) (owner : Owner) (met : Bool) (x : Attribute) (xs : List Attribute) (named : Bool) → bytes_eq x.name (codes "Code") ≡ named → CodesLeft pool owner met (x ∷ xs) → CodesLeft pool owner (met || named) xs
codes_on pool OfClass met x xs named e codes = tt
codes_on pool OfCode met x xs named e codes = tt
codes_on pool (OfMember m) met x xs named e codes = λ is. elim (codes is) [
  | inl t ↦ to_come_on pool m.flags met x xs named e t
  | inr t ↦ inr (none_on m.flags met x xs named e t)
]

pub names_it : (pool : List (Option Constant)) (stored : RawAttribute) (x : Attribute) → utf8_at pool stored.name ≡ Some x.name → bytes_eq x.name (codes "Code") ≡ names_code pool stored.name
names_it pool stored x e = ap is_code_text (sym e)

pub agrees_attribute : (bytes : List ℕ) (pool : List (Option Constant)) (c : Behind bytes pool) (owner : Owner) (met : Bool) (n : ℕ) (place next : Place) (stored : RawAttribute) → Agrees bytes pool c (Attributes owner met (suc n)) place.rest → StartsWith IsRawAttribute place stored next
    → Agrees bytes pool c (Attributes owner (met || names_code pool stored.name) n) next.rest
agrees_attribute bytes pool c owner met n place next stored a s =
    let h = attribute_here bytes pool c owner met n place next stored a s in
    let codes = codes_on pool owner met h.x h.xs (names_code pool stored.name) (names_it pool stored h.x h.named) h.codes in
    record { tail = a.tail; left = h.left; behind = a.behind; codes = subst (CodesLeft pool owner (met || names_code pool stored.name)) (sym h.same) codes }
