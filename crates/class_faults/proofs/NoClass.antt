-- Where the bytes are a class, no fault of a class file is there.
use Rattle.std.proofs.Common.{◌≡◌, ℕ, zero, suc, ◌+◌, ◌<◌, ◌≤◌, Bool, true, false, cond, eqb, List, [], ◌++◌, length, Option, Some, None, refl, sym, ap, subst, ◌∙◌, append_assoc, arith, inl, inr, true≢false}
use Rattle.std.proofs.lemmas.Bool.{and_from}
use Rattle.std.proofs.lemmas.List.{length-append}
use Rattle.std.proofs.lemmas.Slice.Eq.{bytes_eq-Decides}
use Rattle.byteorder.specs.Endian.{big_bytes}
use Rattle.byteorder.specs.Numbers.{length-bytes_high_first}
use Rattle.common_laws.proofs.Tests.{any_in}
use Rattle.class_pool.specs.declared.constant.Constant.{Constant}
use Rattle.class_pool.specs.Place.{Place}
use Rattle.class_pool.specs.Pieces.{Counted}
use Rattle.class_pool.specs.Pool.{utf8_at, class_name_at}
use Rattle.class_reader.specs.ClassFile.{IsIndex, Attribute, IsAttribute, IsCatch, IsHandler}
use Rattle.class_reader.specs.ClassReading.{is_pair}
use Rattle.class_reader.proofs.DistinctLaws.{Pair, none_among}
use Rattle.class_faults.specs.Pieces.{HasNumberAt, RawHead}
use Rattle.class_faults.specs.Parts.{Kind, Fields, Methods, Part, Names, InterfaceCount, Interfaces, MemberCount, Members, AttributeCount, Attributes, HandlerCount, Handlers}
use Rattle.class_faults.specs.Faults.{IsCutAttribute, IsCutPart, caught_at, HasIndex, of_this, of_super, of_interface, of_name, of_descriptor, of_attribute, of_catch, IsDescriptor, HasMember, HasBadDescriptor, HasRepeated}
use Rattle.class_faults.proofs.Fronts.{number_same, First, first_left}
use Rattle.class_faults.proofs.Agrees.{IsMember, Behind, tail_of, Agrees, index_sized, head_sized, handler_sized, attribute_sized}
use Rattle.class_faults.proofs.Agreeing.{MemberHere, member_here}

-- ---- no part is cut

counted_long : {A : Type 0} (Is : List ℕ → A → Type 0) (rest counted tail : List ℕ) (xs : List A) → Counted Is counted xs → rest ≡ counted ++ tail → length rest < 2 → ⊥
counted_long Is rest counted tail xs c e lt =
    omega (arith, lt, ap length e, length-append counted tail, ap length c.parts, length-append (big_bytes 2 (length xs)) c.pieces, length-bytes_high_first 2 (length xs))

first_long : (rest piece more : List ℕ) (n : ℕ) → rest ≡ piece ++ more → n ≤ length piece → length rest < n → ⊥
first_long rest piece more n e long lt = omega (arith, lt, ap length e, length-append piece more, long)

no_cut_attribute : (pool : List (Option Constant)) (n : ℕ) (place : Place) (tail : List ℕ) (all : List Attribute) → First (IsAttribute pool) n place.rest tail all → IsCutAttribute place → ⊥
no_cut_attribute pool n place tail all f (inl lt) =
    first_long place.rest f.piece (f.pieces ++ tail) 6 f.parts (omega (arith, attribute_sized pool f.piece f.x f.is)) lt
no_cut_attribute pool n place tail all f (inr (len, number, lt)) =
    let index : List ℕ = f.is.index in
    let count : List ℕ = big_bytes 4 (length f.x.body) in
    let more : List ℕ = f.pieces ++ tail in
    let whole : place.rest ≡ index ++ (count ++ (f.x.body ++ more)) =
    f.parts ∙ ap (λ (b : List ℕ). b ++ more) f.is.parts ∙ append_assoc index (count ++ f.x.body) more ∙ ap (λ (b : List ℕ). index ++ b) (append_assoc count f.x.body more) in
    let same = number_same 4 2 place len (length f.x.body) index (f.x.body ++ more) number whole (index_sized (utf8_at pool) index f.x.name f.is.named) f.is.short in
    first_long place.rest f.piece more (6 + len) f.parts (omega (arith, attribute_sized pool f.piece f.x f.is, same)) lt

member_long : (pool : List (Option Constant)) (kind : Kind) (bytes : List ℕ) (pair : Pair) → IsMember pool kind bytes pair → 6 ≤ length bytes
member_long pool kind bytes pair m = omega (arith, ap length m.parts, length-append m.front m.attributes, head_sized m.front m.head m.is_head)

pub no_cut_part : (bytes : List ℕ) (pool : List (Option Constant)) (c : Behind bytes pool) (part : Part) (place : Place) → Agrees bytes pool c part place.rest → IsCutPart part place → ⊥
no_cut_part bytes pool c Names place a lt =
    let behind : List ℕ = c.interfaces ++ (c.members Fields ++ (c.members Methods ++ c.attributes)) in
    omega (
      arith,
      lt,
      ap length a,
      length-append (big_bytes 2 c.flags) (c.this ++ (c.super ++ behind)),
      length-append c.this (c.super ++ behind),
      length-append c.super behind,
      length-bytes_high_first 2 c.flags,
      index_sized (class_name_at pool) c.this c.name c.is_this,
      index_sized (class_name_at pool) c.super c.above c.is_super,
    )
no_cut_part bytes pool c InterfaceCount place a lt = counted_long _ place.rest c.interfaces _ c.names c.are_interfaces a lt
no_cut_part bytes pool c (Interfaces zero) place a lt = lt
no_cut_part bytes pool c (Interfaces (suc n)) place a lt =
    let f = first_left (IsIndex (class_name_at pool)) n place.rest (c.members Fields ++ (c.members Methods ++ c.attributes)) a in
    first_long place.rest f.piece _ 2 f.parts (omega (arith, index_sized (class_name_at pool) f.piece f.x f.is)) lt
no_cut_part bytes pool c (MemberCount kind) place a lt = counted_long _ place.rest (c.members kind) _ (c.pairs kind) (c.are_members kind) a lt
no_cut_part bytes pool c (Members kind before zero) place a lt = lt
no_cut_part bytes pool c (Members kind before (suc n)) place a lt =
    let f = first_left (IsMember pool kind) n place.rest _ a.left in
    first_long place.rest f.piece _ 6 f.parts (member_long pool kind f.piece f.x f.is) lt
no_cut_part bytes pool c (AttributeCount owner) place a lt = counted_long _ place.rest a.counted a.tail a.stored a.are a.parts lt
no_cut_part bytes pool c (Attributes owner met zero) place a lt = lt
no_cut_part bytes pool c (Attributes owner met (suc n)) place a lt = no_cut_attribute pool n place a.tail a.left.xs (first_left (IsAttribute pool) n place.rest a.tail a.left) lt
no_cut_part bytes pool c HandlerCount place a lt = counted_long _ place.rest a.counted a.attributes a.handlers a.are a.parts lt
no_cut_part bytes pool c (Handlers zero) place a lt = lt
no_cut_part bytes pool c (Handlers (suc n)) place a lt =
    let f = first_left (IsHandler pool) n place.rest a.attributes a.left in
    first_long place.rest f.piece _ 8 f.parts (omega (arith, handler_sized pool f.piece f.x f.is)) lt

-- ---- no index is wrong

some_named : (o : Option (List ℕ)) (x : List ℕ) → o ≡ Some x → o ≡ None → ⊥
some_named o x e none = let wrong = sym e ∙ none in absurd cc

-- an index that is there names something
named_there : (names : ℕ → Option (List ℕ)) (skip : ℕ) (place : Place) (index : ℕ) (front piece more x : List ℕ) → HasNumberAt 2 skip place index → place.rest ≡ front ++ (piece ++ more) → length front ≡ skip → IsIndex names piece x → names index ≡ None → ⊥
named_there names skip place index front piece more x number e sized i none =
    let same = number_same 2 skip place index i.0 front more number (e ∙ ap (λ (b : List ℕ). front ++ (b ++ more)) i.2) sized i.1 in
    some_named (names index) x (ap names same ∙ i.3) none

caught_by : (index : ℕ) (any : Bool) (found : Option (List ℕ)) (class : List ℕ) → found ≡ Some class → cond any (Some []) found ≡ None → ⊥
caught_by index true found class e none = absurd (let wrong = none in cc)
caught_by index false found class e none = some_named found class e none

no_catch : (pool : List (Option Constant)) (place : Place) (index : ℕ) (front catch more : List ℕ) (class : Option (List ℕ)) → HasNumberAt 2 6 place index → place.rest ≡ front ++ (catch ++ more) → length front ≡ 6 → IsCatch pool catch class → caught_at pool index ≡ None → ⊥
no_catch pool place index front catch more None number e six i none =
    let same = number_same 2 6 place index 0 front more number (e ∙ ap (λ (b : List ℕ). front ++ (b ++ more)) i) six (omega arith) in
    let all : caught_at pool 0 ≡ None = ap (caught_at pool) (sym same) ∙ none in
    absurd (let wrong = all in cc)
no_catch pool place index front catch more (Some class) number e six i none =
    let same = number_same 2 6 place index i.0 front more number (e ∙ ap (λ (b : List ℕ). front ++ (b ++ more)) i.2) six i.1 in
    caught_by index (eqb index 0) (class_name_at pool index) class (ap (class_name_at pool) same ∙ i.3) none

-- the bytes of a member's head, and what stands behind it
head_front : (pool : List (Option Constant)) (kind : Kind) (n : ℕ) (rest tail : List ℕ) (all : List Pair) (f : First (IsMember pool kind) n rest tail all)
    → rest ≡ big_bytes 2 f.is.head.flags ++ (big_bytes 2 f.is.head.first ++ (big_bytes 2 f.is.head.second ++ (f.is.attributes ++ (f.pieces ++ tail))))
head_front pool kind n rest tail all f =
    let flags : List ℕ = big_bytes 2 f.is.head.flags in
    let first : List ℕ = big_bytes 2 f.is.head.first in
    let second : List ℕ = big_bytes 2 f.is.head.second in
    let more : List ℕ = f.is.attributes ++ (f.pieces ++ tail) in
    f.parts ∙ ap (λ (b : List ℕ). b ++ (f.pieces ++ tail)) f.is.parts ∙ append_assoc f.is.front f.is.attributes (f.pieces ++ tail) ∙ ap (λ (b : List ℕ). b ++ more) f.is.is_head.parts
    ∙ append_assoc flags (first ++ second) more ∙ ap (λ (b : List ℕ). flags ++ b) (append_assoc first second more)

pub no_bad_index : (bytes : List ℕ) (pool : List (Option Constant)) (c : Behind bytes pool) (part : Part) (place : Place) (skip index : ℕ) (names : ℕ → Option (List ℕ)) → Agrees bytes pool c part place.rest → HasIndex pool part skip names
    → HasNumberAt 2 skip place index → names index ≡ None → ⊥
no_bad_index bytes pool c part place skip index names a of_this number none =
    named_there (class_name_at pool) 2 place index (big_bytes 2 c.flags) c.this _ c.name number a (length-bytes_high_first 2 c.flags) c.is_this none
no_bad_index bytes pool c part place skip index names a of_super number none =
    let flags : List ℕ = big_bytes 2 c.flags in
    let more : List ℕ = c.interfaces ++ (c.members Fields ++ (c.members Methods ++ c.attributes)) in
    named_there (class_name_at pool) 4 place index (flags ++ c.this) c.super more c.above number (a ∙ sym (append_assoc flags c.this (c.super ++ more)))
    (omega (arith, length-append flags c.this, length-bytes_high_first 2 c.flags, index_sized (class_name_at pool) c.this c.name c.is_this)) c.is_super none
no_bad_index bytes pool c part place skip index names a (of_interface {n = n}) number none =
    let f = first_left (IsIndex (class_name_at pool)) n place.rest (c.members Fields ++ (c.members Methods ++ c.attributes)) a in
    named_there (class_name_at pool) 0 place index [] f.piece _ f.x number f.parts refl f.is none
no_bad_index bytes pool c part place skip index names a (of_name {kind = kind} {before = before} {n = n}) number none =
    let f = first_left (IsMember pool kind) n place.rest _ a.left in
    let h = f.is.head in
    let same = number_same 2 2 place index h.first (big_bytes 2 h.flags) _ number (head_front pool kind n place.rest _ a.left.xs f) (length-bytes_high_first 2 h.flags) f.is.is_head.first_fits in
    some_named (utf8_at pool index) f.x.0 (ap (utf8_at pool) same ∙ f.is.named) none
no_bad_index bytes pool c part place skip index names a (of_descriptor {kind = kind} {before = before} {n = n}) number none =
    let f = first_left (IsMember pool kind) n place.rest _ a.left in
    let h = f.is.head in
    let flags : List ℕ = big_bytes 2 h.flags in
    let first : List ℕ = big_bytes 2 h.first in
    let same = number_same 2 4 place index h.second (flags ++ first) _ number (head_front pool kind n place.rest _ a.left.xs f ∙ sym (append_assoc flags first _))
    (omega (arith, length-append flags first, length-bytes_high_first 2 h.flags, length-bytes_high_first 2 h.first)) f.is.is_head.second_fits in
    some_named (utf8_at pool index) f.x.1 (ap (utf8_at pool) same ∙ f.is.described) none
no_bad_index bytes pool c part place skip index names a (of_attribute {owner = owner} {met = met} {n = n}) number none =
    let f = first_left (IsAttribute pool) n place.rest a.tail a.left in
    let len : List ℕ = big_bytes 4 (length f.x.body) ++ f.x.body in
    named_there (utf8_at pool) 0 place index [] f.is.index (len ++ (f.pieces ++ a.tail)) f.x.name number
    (f.parts ∙ ap (λ (b : List ℕ). b ++ (f.pieces ++ a.tail)) f.is.parts ∙ append_assoc f.is.index len (f.pieces ++ a.tail)) refl f.is.named none
no_bad_index bytes pool c part place skip index names a (of_catch {n = n}) number none =
    let f = first_left (IsHandler pool) n place.rest a.attributes a.left in
    let start : List ℕ = big_bytes 2 f.x.start in
    let end : List ℕ = big_bytes 2 f.x.end in
    let target : List ℕ = big_bytes 2 f.x.handler in
    let more : List ℕ = f.pieces ++ a.attributes in
    let parts : f.piece ≡ (start ++ (end ++ target)) ++ f.is.catch = f.is.parts ∙ sym (append_assoc start (end ++ target) f.is.catch ∙ ap (λ (b : List ℕ). start ++ b) (append_assoc end target f.is.catch)) in
    let six : length (start ++ (end ++ target)) ≡ 6 = omega (arith, length-append start (end ++ target), length-append end target, length-bytes_high_first 2 f.x.start, length-bytes_high_first 2 f.x.end, length-bytes_high_first 2 f.x.handler) in
    no_catch pool place index (start ++ (end ++ target)) f.is.catch more f.x.catch number (f.parts ∙ ap (λ (b : List ℕ). b ++ more) parts ∙ append_assoc (start ++ (end ++ target)) f.is.catch more) six f.is.catches none

-- ---- members

pub text_is : (o : Option (List ℕ)) (x y : List ℕ) → o ≡ Some x → o ≡ Some y → x ≡ y
text_is o x y e h = let same = sym e ∙ h in cc

-- the member whose head stands there is a member of the class
the_member : (bytes : List ℕ) (m : HasMember bytes) (c : Behind bytes m.pool) → Agrees bytes m.pool c (Members m.kind m.before (suc m.left)) m.place.rest
    → MemberHere m.pool m.kind m.before m.left m.starts.piece m.next.rest m.head (tail_of bytes m.pool c m.kind)
the_member bytes m c a = member_here m.pool m.kind m.before m.left m.place m.next m.head (tail_of bytes m.pool c m.kind) a m.starts

pub no_bad_descriptor : (bytes : List ℕ) (at : ℕ) (b : HasBadDescriptor bytes at) → (c : Behind bytes b.member.pool) → Agrees bytes b.member.pool c (Members b.member.kind b.member.before (suc b.member.left)) b.member.place.rest → ⊥
no_bad_descriptor bytes at b c a =
    let m = b.member in
    let h = the_member bytes m c a in
    let described : utf8_at m.pool m.head.second ≡ Some h.pair.1 = ap (λ (k : RawHead). utf8_at m.pool k.second) (sym h.same) ∙ h.is.described in
    let text = text_is (utf8_at m.pool m.head.second) h.pair.1 b.text described b.named in
    let is : IsDescriptor m.kind m.head.flags h.pair.1 = subst (λ (k : RawHead). IsDescriptor m.kind k.flags h.pair.1) h.same h.is.descriptor in
    b.wrong (subst (IsDescriptor m.kind m.head.flags) text is)

pub no_repeated : (bytes : List ℕ) (at : ℕ) (b : HasRepeated bytes at) → (c : Behind bytes b.member.pool) → Agrees bytes b.member.pool c (Members b.member.kind b.member.before (suc b.member.left)) b.member.place.rest → ⊥
no_repeated bytes at b c a =
    let m = b.member in
    let h = the_member bytes m c a in
    let named : utf8_at m.pool m.head.first ≡ Some h.pair.0 = ap (λ (k : RawHead). utf8_at m.pool k.first) (sym h.same) ∙ h.is.named in
    let described : utf8_at m.pool m.head.second ≡ Some h.pair.1 = ap (λ (k : RawHead). utf8_at m.pool k.second) (sym h.same) ∙ h.is.described in
    let name = text_is (utf8_at m.pool m.head.first) b.name h.pair.0 b.named named in
    let desc = text_is (utf8_at m.pool m.head.second) b.desc h.pair.1 b.described described in
    let found = any_in (is_pair h.pair.0 h.pair.1) m.before (b.name, b.desc) b.among (and_from _ _ ((bytes_eq-Decides b.name h.pair.0).1 name) ((bytes_eq-Decides b.desc h.pair.1).1 desc)) in
    true≢false (sym found ∙ none_among m.before h.pair h.new.0)
