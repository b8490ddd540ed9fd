-- A class file's bytes are its head, its pool, and the class behind it.
use Rattle.std.proofs.Common.{◌≡◌, ℕ, ◌+◌, ◌≤◌, List, [], ◌∷◌, ◌++◌, length, Option, refl, sym, ap, subst, ◌∙◌, append_assoc, arith}
use Rattle.std.proofs.lemmas.List.{length-append}
use Rattle.byteorder.specs.Endian.{big_bytes}
use Rattle.byteorder.specs.Numbers.{length-bytes_high_first}
use Rattle.class_pool.specs.declared.constant.Constant.{Constant}
use Rattle.class_pool.specs.Place.{Place}
use Rattle.class_pool.specs.Pieces.{Each, Counted, StartsWith}
use Rattle.class_pool.proofs.PoolFaults.{pool_again}
use Rattle.class_pool.proofs.EntryReading.{same_pair}
use Rattle.class_reader.specs.declared.class.ClassRecord.{ClassRecord}
use Rattle.class_reader.specs.declared.class.Field.{Field}
use Rattle.class_reader.specs.declared.class.Method.{Method}
use Rattle.class_reader.specs.FirstFault.{start_of}
use Rattle.class_reader.specs.ClassFile.{IsField, IsMethod, AreDistinct, IsClassFile}
use Rattle.class_reader.proofs.DistinctLaws.{Pair, AreNew, distinct_new}
use Rattle.class_reader.proofs.MemberLaws.{field_pair, method_pair, pairs_of, pairs_of_fields, pairs_of_methods}
use Rattle.class_faults.specs.Pieces.{IsFileHead}
use Rattle.class_faults.specs.Parts.{Kind, Fields, Methods, Opens, Part, Stands, behind_pool, behind_names, so_many_interfaces, next_interface, then_fields, so_many_members, next_member, so_many_attributes, next_attribute, behind_member, then_methods, then_attributes, in_code, so_many_handlers, next_handler, then_code_attributes}
use Rattle.class_faults.proofs.Fronts.{same_front}
use Rattle.class_faults.proofs.Agrees.{IsMember, Behind}

-- ---- members

head_parts : (flags first second a b : List ℕ) → first ≡ a → second ≡ b → flags ++ (first ++ second) ≡ flags ++ (a ++ b)
head_parts flags first second a b e h = ap (λ (t : List ℕ). flags ++ (t ++ second)) e ∙ ap (λ (t : List ℕ). flags ++ (a ++ t)) h

member_parts : (bytes flags name desc attributes : List ℕ) → bytes ≡ flags ++ (name ++ (desc ++ attributes)) → bytes ≡ (flags ++ (name ++ desc)) ++ attributes
member_parts bytes flags name desc attributes e = e ∙ sym (append_assoc flags (name ++ desc) attributes ∙ ap (λ (t : List ℕ). flags ++ t) (append_assoc name desc attributes))

field_member : (pool : List (Option Constant)) (bytes : List ℕ) (field : Field) → IsField pool bytes field → IsMember pool Fields bytes (field_pair field)
field_member pool bytes field f = record {
  front = big_bytes 2 field.flags ++ (f.name ++ f.desc);
  attributes = f.attributes;
  head = record { flags = field.flags; first = f.named.0; second = f.described.0 };
  is_head = record {
    flags_fit = f.flags_fit;
    first_fits = f.named.1;
    second_fits = f.described.1;
    parts = head_parts (big_bytes 2 field.flags) f.name f.desc (big_bytes 2 f.named.0) (big_bytes 2 f.described.0) f.named.2 f.described.2;
  };
  named = f.named.3;
  described = f.described.3;
  descriptor = f.descriptor;
  stored = f.are_attributes.0;
  are_attributes = f.are_attributes.1;
  codes = tt;
  parts = member_parts bytes (big_bytes 2 field.flags) f.name f.desc f.attributes f.parts;
}

method_member : (pool : List (Option Constant)) (bytes : List ℕ) (method : Method) → IsMethod pool bytes method → IsMember pool Methods bytes (method_pair method)
method_member pool bytes method f = record {
  front = big_bytes 2 method.flags ++ (f.name ++ f.desc);
  attributes = f.attributes;
  head = record { flags = method.flags; first = f.named.0; second = f.described.0 };
  is_head = record {
    flags_fit = f.flags_fit;
    first_fits = f.named.1;
    second_fits = f.described.1;
    parts = head_parts (big_bytes 2 method.flags) f.name f.desc (big_bytes 2 f.named.0) (big_bytes 2 f.described.0) f.named.2 f.described.2;
  };
  named = f.named.3;
  described = f.described.3;
  descriptor = f.descriptor;
  stored = f.stored;
  are_attributes = f.are_attributes;
  codes = (method.code, f.has_code);
  parts = member_parts bytes (big_bytes 2 method.flags) f.name f.desc f.attributes f.parts;
}

each_member : {A : Type 0} (Is : List ℕ → A → Type 0) (Js : List ℕ → Pair → Type 0) (pair : A → Pair) → ((bytes : List ℕ) (x : A) → Is bytes x → Js bytes (pair x)) → (xs : List A) (bytes : List ℕ) → Each Is bytes xs → Each Js bytes (pairs_of pair xs)
each_member Is Js pair one [] bytes e = e
each_member Is Js pair one (x ∷ xs) bytes e = (e.0, e.1, e.2, one e.0 x e.3, each_member Is Js pair one xs e.1 e.4)

pairs_sized : {A : Type 0} (pair : A → Pair) (xs : List A) → length (pairs_of pair xs) ≡ length xs
pairs_sized pair [] = refl
pairs_sized pair (x ∷ xs) = let others = pairs_sized pair xs in omega (arith, others)

counted_members : {A : Type 0} (Is : List ℕ → A → Type 0) (Js : List ℕ → Pair → Type 0) (pair : A → Pair) → ((bytes : List ℕ) (x : A) → Is bytes x → Js bytes (pair x)) → (xs : List A) (bytes : List ℕ) → Counted Is bytes xs → Counted Js bytes (pairs_of pair xs)
counted_members Is Js pair one xs bytes c =
    let sized = pairs_sized pair xs in
    record { pieces = c.pieces; short = omega (arith, sized, c.short); parts = c.parts ∙ ap (λ (n : ℕ). big_bytes 2 n ++ c.pieces) (sym sized); each = each_member Is Js pair one xs c.pieces c.each }

-- ---- the head and the pool

-- what stands behind the pool
abbrev body_of : (bytes : List ℕ) (class : ClassRecord) → IsClassFile bytes class → List ℕ
body_of bytes class k = big_bytes 2 class.flags ++ (k.this ++ (k.super ++ (k.interfaces ++ (k.fields ++ (k.methods ++ k.attributes)))))

abbrev pub head_of : (bytes : List ℕ) (class : ClassRecord) → IsClassFile bytes class → List ℕ
head_of bytes class k = big_bytes 4 0xcafebabe ++ (big_bytes 2 k.minor ++ big_bytes 2 class.major)

head_eight : (minor major : ℕ) → length (big_bytes 4 0xcafebabe ++ (big_bytes 2 minor ++ big_bytes 2 major)) ≡ 8
head_eight minor major =
    let magic : List ℕ = big_bytes 4 0xcafebabe in
    omega (arith, length-append magic (big_bytes 2 minor ++ big_bytes 2 major), length-append (big_bytes 2 minor) (big_bytes 2 major), length-bytes_high_first 4 0xcafebabe, length-bytes_high_first 2 minor, length-bytes_high_first 2 major)

pub class_parts : (bytes : List ℕ) (class : ClassRecord) (k : IsClassFile bytes class) → bytes ≡ head_of bytes class k ++ (k.pool ++ body_of bytes class k)
class_parts bytes class k =
    let magic : List ℕ = big_bytes 4 0xcafebabe in
    let behind : List ℕ = k.pool ++ body_of bytes class k in
    k.parts ∙ sym (append_assoc magic (big_bytes 2 k.minor ++ big_bytes 2 class.major) behind ∙ ap (λ (t : List ℕ). magic ++ t) (append_assoc (big_bytes 2 k.minor) (big_bytes 2 class.major) behind))

pub class_long : (bytes : List ℕ) (class : ClassRecord) (k : IsClassFile bytes class) → 8 ≤ length bytes
class_long bytes class k = omega (arith, ap length (class_parts bytes class k), length-append (head_of bytes class k) (k.pool ++ body_of bytes class k), head_eight k.minor class.major)

-- behind any right head stands the class's pool
pub class_pool_at : (bytes : List ℕ) (class : ClassRecord) (k : IsClassFile bytes class) (major : ℕ) (start : Place) → StartsWith IsFileHead (start_of bytes) major start → start.rest ≡ k.pool ++ body_of bytes class k
class_pool_at bytes class k major start s =
    let eight : length s.piece ≡ length (head_of bytes class k) = ap length s.is.parts ∙ head_eight s.is.minor major ∙ sym (head_eight k.minor class.major) in
    (same_front s.piece (head_of bytes class k) start.rest (k.pool ++ body_of bytes class k) (sym s.parts ∙ class_parts bytes class k) eight).1

same_pool : (bytes : List ℕ) (class : ClassRecord) (k : IsClassFile bytes class) (pool : List (Option Constant)) (place : Place) → Opens bytes pool place → (pool ≡ class.pool) × (place.rest ≡ body_of bytes class k)
same_pool bytes class k pool place o =
    let next : Place = record { at = o.start.at + length k.pool; rest = body_of bytes class k } in
    let own = pool_again o.start class.pool next (record { piece = k.pool; is = k.is_pool; parts = class_pool_at bytes class k o.major o.start o.head; moved = refl }) in
    let other = pool_again o.start pool place o.is_pool in
    let same = same_pair pool class.pool place next (sym other ∙ own) in
    (same.0, ap (λ (p : Place). p.rest) same.1)

-- ---- the class behind its pool

abbrev members_of : (bytes : List ℕ) (class : ClassRecord) → IsClassFile bytes class → Kind → List ℕ
members_of bytes class k Fields = k.fields
members_of bytes class k Methods = k.methods

abbrev pairs_in : ClassRecord → Kind → List Pair
pairs_in class Fields = pairs_of field_pair class.fields
pairs_in class Methods = pairs_of method_pair class.methods

are_members : (bytes : List ℕ) (class : ClassRecord) (k : IsClassFile bytes class) (kind : Kind) → Counted (IsMember class.pool kind) (members_of bytes class k kind) (pairs_in class kind)
are_members bytes class k Fields = counted_members (IsField class.pool) (IsMember class.pool Fields) field_pair (field_member class.pool) class.fields k.fields k.are_fields
are_members bytes class k Methods = counted_members (IsMethod class.pool) (IsMember class.pool Methods) method_pair (method_member class.pool) class.methods k.methods k.are_methods

are_new : (bytes : List ℕ) (class : ClassRecord) (k : IsClassFile bytes class) (kind : Kind) → AreNew [] (pairs_in class kind)
are_new bytes class k Fields = distinct_new (pairs_of field_pair class.fields) (subst AreDistinct (sym (pairs_of_fields class.fields)) k.distinct_fields)
are_new bytes class k Methods = distinct_new (pairs_of method_pair class.methods) (subst AreDistinct (sym (pairs_of_methods class.methods)) k.distinct_methods)

class_behind : (bytes : List ℕ) (class : ClassRecord) → IsClassFile bytes class → Behind bytes class.pool
class_behind bytes class k = record {
  flags = class.flags;
  this = k.this;
  super = k.super;
  name = class.name;
  above = k.super_class;
  interfaces = k.interfaces;
  names = class.interfaces;
  members = members_of bytes class k;
  pairs = pairs_in class;
  attributes = k.attributes;
  flags_fit = k.flags_fit;
  is_this = k.named;
  is_super = k.below.0;
  are_interfaces = k.are_interfaces;
  are_members = are_members bytes class k;
  are_new = are_new bytes class k;
  are_attributes = k.are_attributes;
  not_built_in = k.not_built_in;
  parts = λ place o. (same_pool bytes class k class.pool place o).1;
}

-- a part stands behind a pool
opened_by : (bytes : List ℕ) (pool : List (Option Constant)) (part : Part) (place : Place) → Stands bytes pool part place → (p : Place) × Opens bytes pool p
opened_by bytes pool part place (behind_pool {place = p} o) = (p, o)
opened_by bytes pool part place (behind_names {place = p} {next = q} {head = h} s t) = opened_by bytes pool _ p s
opened_by bytes pool part place (so_many_interfaces {place = p} {next = q} {n = n} s t) = opened_by bytes pool _ p s
opened_by bytes pool part place (next_interface {place = p} {next = q} {n = n} {index = i} s t) = opened_by bytes pool _ p s
opened_by bytes pool part place (then_fields {place = p} s) = opened_by bytes pool _ p s
opened_by bytes pool part place (so_many_members {place = p} {next = q} {kind = k} {n = n} s t) = opened_by bytes pool _ p s
opened_by bytes pool part place (next_member {place = p} {next = q} {kind = k} {before = b} {n = n} {head = h} s t) = opened_by bytes pool _ p s
opened_by bytes pool part place (so_many_attributes {place = p} {next = q} {owner = o} {n = n} s t) = opened_by bytes pool _ p s
opened_by bytes pool part place (next_attribute {place = p} {next = q} {owner = o} {met = m} {n = n} {stored = a} s t) = opened_by bytes pool _ p s
opened_by bytes pool part place (behind_member {place = p} {m = m} {met = b} s) = opened_by bytes pool _ p s
opened_by bytes pool part place (then_methods {place = p} {before = b} s) = opened_by bytes pool _ p s
opened_by bytes pool part place (then_attributes {place = p} {before = b} s) = opened_by bytes pool _ p s
opened_by bytes pool part place (in_code {place = p} {next = q} {m = m} {n = n} {stored = a} {front = front} {rest = rest} {instructions = code} s w t named filled i parts) = opened_by bytes pool _ p s
opened_by bytes pool part place (so_many_handlers {place = p} {next = q} {n = n} s t) = opened_by bytes pool _ p s
opened_by bytes pool part place (next_handler {place = p} {next = q} {n = n} {catch = c} s t) = opened_by bytes pool _ p s
opened_by bytes pool part place (then_code_attributes {place = p} s) = opened_by bytes pool _ p s

-- where parts stand behind a pool, the class does
pub behind_here : (bytes : List ℕ) (class : ClassRecord) (pool : List (Option Constant)) (part : Part) (place : Place) → IsClassFile bytes class → Stands bytes pool part place → Behind bytes pool
behind_here bytes class pool part place k s =
    let o = opened_by bytes pool part place s in
    subst (Behind bytes) (sym (same_pool bytes class k pool o.0 o.1).0) (class_behind bytes class k)
