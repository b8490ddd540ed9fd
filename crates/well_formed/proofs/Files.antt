-- The fields of classes that have files have descriptors, and their code is of bytes.
use Rattle.std.proofs.Common.{◌≡◌, inl, inr, ℕ, zero, suc, Bool, true, false, List, [], ◌∷◌, ◌++◌, length, get_or, Option, Some, None, refl, sym, ◌∙◌, ap, subst, arith, Contains}
use Rattle.std.specs.Prelude.{slice_get, option_and_then, codes, if◌then◌else◌}
use Rattle.std.specs.Str.{bytes_eq}
use Rattle.std.proofs.lemmas.Bool.{cases_lt}
use Rattle.std.proofs.lemmas.List.{get_or_past}
use Rattle.std.proofs.lemmas.List.Elements.{Contains-get_or, Contains-append_left, Contains-append_right}
use Rattle.common_laws.proofs.Members.{contains_at, contains_head, contains_tail, contains_cases, contains_none}
use Rattle.byteorder.specs.Endian.{big_bytes}
use Rattle.class_pool.specs.declared.constant.Constant.{Constant}
use Rattle.class_pool.specs.Pieces.{Each, Counted}
use Rattle.class_reader.specs.declared.class.ClassRecord.{ClassRecord}
use Rattle.class_reader.specs.declared.class.Field.{Field}
use Rattle.class_reader.specs.declared.class.Method.{Method}
use Rattle.class_reader.specs.declared.class.Code.{Code}
use Rattle.class_reader.specs.ClassFile.{Attribute, IsAttribute, IsField, IsMethod, IsCode, HasCode, codes_of, IsClassFile}
use Rattle.descriptors.specs.Grammar.{IsFieldDescriptor}
use Rattle.class_hierarchy.specs.World.{object_class, constructor, world_of, class_at}
use Rattle.well_formed.specs.WellFormed.{AreBytes, IsOfFiles, HasFile}

-- ---- pieces

left_bytes : (xs ys : List ℕ) → AreBytes (xs ++ ys) → AreBytes xs
left_bytes xs ys all = λ b there. all b (Contains-append_left xs ys b there)

right_bytes : (xs ys : List ℕ) → AreBytes (xs ++ ys) → AreBytes ys
right_bytes xs ys all = λ b there. all b (Contains-append_right xs ys b there)

tail_bytes : (x : ℕ) (xs : List ℕ) → AreBytes (x ∷ xs) → AreBytes xs
tail_bytes x xs all = λ b there. all b (contains_tail x xs b there)

four_bytes : (a b c d : ℕ) (xs : List ℕ) → AreBytes (a ∷ b ∷ c ∷ d ∷ xs) → AreBytes xs
four_bytes a b c d xs all = tail_bytes d xs (tail_bytes c (d ∷ xs) (tail_bytes b (c ∷ d ∷ xs) (tail_bytes a (b ∷ c ∷ d ∷ xs) all)))

same_bytes : (xs ys : List ℕ) → xs ≡ ys → AreBytes xs → AreBytes ys
same_bytes xs ys same all = subst (λ (l : List ℕ). AreBytes l) same all

-- a piece of bytes for an element
record HasPiece {A : Type 0} (Is : List ℕ → A → Type 0) (x : A) : Type 0 where
  piece : List ℕ
  bytes : AreBytes piece
  is : Is piece x

each_piece : {A : Type 0} (Is : List ℕ → A → Type 0) (bytes : List ℕ) (xs : List A) (x : A) → Each Is bytes xs → AreBytes bytes → Contains xs x → HasPiece Is x
each_piece Is bytes [] x each all there = absurd (contains_none x there)
each_piece Is bytes (y ∷ ys) x (piece, others, parts, is, rest) all there =
    let both : AreBytes (piece ++ others) = same_bytes bytes (piece ++ others) parts all in
    elim (contains_cases y ys x there) [
      | inl same ↦ record { piece = piece; bytes = left_bytes piece others both; is = subst (λ a. Is piece a) same is }
      | inr later ↦ each_piece Is others ys x rest (right_bytes piece others both) later
    ]

counted_piece : {A : Type 0} (Is : List ℕ → A → Type 0) (bytes : List ℕ) (xs : List A) (x : A) → Counted Is bytes xs → AreBytes bytes → Contains xs x → HasPiece Is x
counted_piece Is bytes xs x counted all there =
    let count : List ℕ = big_bytes 2 (length xs) in
    each_piece Is counted.pieces xs x counted.each (right_bytes count counted.pieces (same_bytes bytes (count ++ counted.pieces) counted.parts all)) there

-- ---- a class

-- the bytes of its fields and methods
record MemberBytes (class : ClassRecord) : Type 0 where
  fields : List ℕ
  field_bytes : AreBytes fields
  are_fields : Counted (IsField class.pool) fields class.fields
  methods : List ℕ
  method_bytes : AreBytes methods
  are_methods : Counted (IsMethod class.pool) methods class.methods

member_bytes : (class : ClassRecord) → HasFile class → MemberBytes class
member_bytes class has =
    let is : IsClassFile has.file class = has.is in
    let all : AreBytes (202 ∷ 254 ∷ 186 ∷ 190 ∷ big_bytes 2 is.minor ++ (big_bytes 2 class.major ++ (is.pool ++ (big_bytes 2 class.flags ++ (is.this ++ (is.super ++ (is.interfaces ++ (is.fields ++ (is.methods ++ is.attributes))))))))) =
    subst (λ (l : List ℕ). AreBytes l) is.parts has.bytes
    in
    let members : List ℕ = is.fields ++ (is.methods ++ is.attributes) in
    let names : List ℕ = is.this ++ (is.super ++ (is.interfaces ++ members)) in
    let flags : List ℕ = big_bytes 2 class.flags ++ names in
    let behind = four_bytes 202 254 186 190 (big_bytes 2 is.minor ++ (big_bytes 2 class.major ++ (is.pool ++ flags))) all in
    let pool = right_bytes (big_bytes 2 class.major) (is.pool ++ flags) (right_bytes (big_bytes 2 is.minor) (big_bytes 2 class.major ++ (is.pool ++ flags)) behind) in
    let named = right_bytes (big_bytes 2 class.flags) names (right_bytes is.pool flags pool) in
    let supers = right_bytes is.super (is.interfaces ++ members) (right_bytes is.this (is.super ++ (is.interfaces ++ members)) named) in
    let both : AreBytes members = right_bytes is.interfaces members supers in
    record {
      fields = is.fields;
      field_bytes = left_bytes is.fields (is.methods ++ is.attributes) both;
      are_fields = is.are_fields;
      methods = is.methods;
      method_bytes = left_bytes is.methods is.attributes (right_bytes is.fields (is.methods ++ is.attributes) both);
      are_methods = is.are_methods;
    }

field_described : (class : ClassRecord) (field : Field) → HasFile class → Contains class.fields field → IsFieldDescriptor field.desc
field_described class field has there =
    let bytes : MemberBytes class = member_bytes class has in
    let piece : HasPiece (IsField class.pool) field = counted_piece (IsField class.pool) bytes.fields class.fields field bytes.are_fields bytes.field_bytes there in
    piece.is.descriptor

-- ---- code

body_if : (a : Attribute) (attributes : List Attribute) (body : List ℕ) (named : Bool) → (Contains (codes_of attributes) body → (x : Attribute) × Contains attributes x × (x.body ≡ body))
    → Contains (if named then a.body ∷ codes_of attributes else codes_of attributes) body → (x : Attribute) × Contains (a ∷ attributes) x × (x.body ≡ body)
body_if a attributes body true later there =
    elim (contains_cases a.body (codes_of attributes) body there) [
      | inl same ↦ (a, contains_head a attributes, same)
      | inr rest ↦ let x = later rest in (x.0, contains_tail a attributes x.0 x.1, x.2)
    ]
body_if a attributes body false later there = let x = later there in (x.0, contains_tail a attributes x.0 x.1, x.2)

body_of : (attributes : List Attribute) (body : List ℕ) → Contains (codes_of attributes) body → (x : Attribute) × Contains attributes x × (x.body ≡ body)
body_of [] body there = absurd (contains_none body there)
body_of (a ∷ attributes) body there = body_if a attributes body (bytes_eq a.name (codes "Code")) (body_of attributes body) there

attribute_bytes : (pool : List (Option Constant)) (piece : List ℕ) (a : Attribute) → IsAttribute pool piece a → AreBytes piece → AreBytes a.body
attribute_bytes pool piece a is all =
    right_bytes (big_bytes 4 (length a.body)) a.body (right_bytes is.index (big_bytes 4 (length a.body) ++ a.body) (same_bytes piece (is.index ++ (big_bytes 4 (length a.body) ++ a.body)) is.parts all))

code_bytes : (pool : List (Option Constant)) (body : List ℕ) (code : Code) → IsCode pool body code → AreBytes body → AreBytes code.bytes
code_bytes pool body code is all =
    let parts : AreBytes (big_bytes 2 code.max_stack ++ (big_bytes 2 code.max_locals ++ (big_bytes 4 (length code.bytes) ++ (code.bytes ++ (is.handlers ++ is.attributes))))) =
    subst (λ (l : List ℕ). AreBytes l) is.parts all
    in
    let rest : List ℕ = code.bytes ++ (is.handlers ++ is.attributes) in
    let size : List ℕ = big_bytes 4 (length code.bytes) ++ rest in
    let behind = right_bytes (big_bytes 2 code.max_locals) size (right_bytes (big_bytes 2 code.max_stack) (big_bytes 2 code.max_locals ++ size) parts) in
    left_bytes code.bytes (is.handlers ++ is.attributes) (right_bytes (big_bytes 4 (length code.bytes)) rest behind)

method_bytes : (pool : List (Option Constant)) (piece : List ℕ) (method : Method) (code : Code) → IsMethod pool piece method → AreBytes piece → method.code ≡ Some code → AreBytes code.bytes
method_bytes pool piece method code is all has =
    let given : HasCode pool method.flags is.stored (Some code) = subst (λ (o : Option Code). HasCode pool method.flags is.stored o) has is.has_code in
    let body : (body : List ℕ) × (codes_of is.stored ≡ body ∷ []) × IsCode pool body code = given.1 in
    let there : Contains (codes_of is.stored) body.0 = subst (λ (l : List (List ℕ)). Contains l body.0) (sym body.1) (contains_head body.0 []) in
    let attribute = body_of is.stored body.0 there in
    let parts : AreBytes (big_bytes 2 method.flags ++ (is.name ++ (is.desc ++ is.attributes))) = subst (λ (l : List ℕ). AreBytes l) is.parts all in
    let stored : AreBytes is.attributes = right_bytes is.desc is.attributes (right_bytes is.name (is.desc ++ is.attributes) (right_bytes (big_bytes 2 method.flags) (is.name ++ (is.desc ++ is.attributes)) parts)) in
    let piece : HasPiece (IsAttribute pool) attribute.0 = counted_piece (IsAttribute pool) is.attributes is.stored attribute.0 is.are_attributes stored attribute.1 in
    code_bytes pool body.0 code body.2 (subst (λ (l : List ℕ). AreBytes l) attribute.2 (attribute_bytes pool piece.piece attribute.0 piece.is piece.bytes))

class_code : (class : ClassRecord) (place : ℕ) (method : Method) (code : Code) → HasFile class → slice_get class.methods place ≡ Some method → method.code ≡ Some code → AreBytes code.bytes
class_code class place method code has at is =
    let bytes : MemberBytes class = member_bytes class has in
    let there : Contains class.methods method = contains_at class.methods place method at in
    let piece : HasPiece (IsMethod class.pool) method = counted_piece (IsMethod class.pool) bytes.methods class.methods method bytes.are_methods bytes.method_bytes there in
    method_bytes class.pool piece.piece method code piece.is piece.bytes is

-- ---- java/lang/Object

byte_177 : AreBytes (177 ∷ [])
byte_177 b there = elim (contains_cases 177 [] b there) [ inl same ↦ omega (arith, same) | inr none ↦ absurd (contains_none b none) ]

object_code : (place : ℕ) (method : Method) (code : Code) → slice_get object_class.methods place ≡ Some method → method.code ≡ Some code → AreBytes code.bytes
object_code zero method code at is =
    let same : constructor ≡ method = cc in
    let code_is : constructor.code ≡ Some code = ap (λ (m : Method). m.code) same ∙ is in
    let bytes : 177 ∷ [] ≡ code.bytes = cc in
    subst (λ (l : List ℕ). AreBytes l) bytes byte_177
object_code (suc place) method code at is = absurd cc

with_object : (o : Option Method) (place : ℕ) (code : Code) → slice_get object_class.methods place ≡ o → option_and_then (λ (method : Method). method.code) o ≡ Some code → AreBytes code.bytes
with_object None place code at e = absurd cc
with_object (Some method) place code at e = object_code place method code at e

with_method : (class : ClassRecord) (o : Option Method) (place : ℕ) (code : Code) → slice_get class.methods place ≡ o → HasFile class → option_and_then (λ (method : Method). method.code) o ≡ Some code → AreBytes code.bytes
with_method class None place code at has e = absurd cc
with_method class (Some method) place code at has e = class_code class place method code has at e

-- ---- the world

module _ (classes : List ClassRecord) (files : (class : ClassRecord) → Contains classes class → HasFile class) where
  class_fields : (c : ℕ) (field : Field) → Contains (class_at (world_of classes) c).fields field → IsFieldDescriptor field.desc
  class_fields zero field there = absurd (contains_none field there)
  class_fields (suc c) field there =
      let class : ClassRecord = get_or classes c object_class in
      elim (cases_lt c (length classes)) [
        | inl inside ↦ field_described class field (files class (Contains-get_or classes c object_class inside)) there
        | inr past ↦ absurd (contains_none field (subst (λ (x : ClassRecord). Contains x.fields field) (get_or_past classes c object_class past) there))
      ]

  code_in : (o : Option ClassRecord) (place : ℕ) (code : Code) → ((class : ClassRecord) → o ≡ Some class → HasFile class)
      → option_and_then (λ (method : Method). method.code) (option_and_then (λ (class : ClassRecord). slice_get class.methods place) o) ≡ Some code → AreBytes code.bytes
  code_in None place code has e = absurd cc
  code_in (Some class) place code has e = with_method class (slice_get class.methods place) place code refl (has class refl) e

  world_code : (c place : ℕ) (code : Code) → option_and_then (λ (method : Method). method.code) (option_and_then (λ (class : ClassRecord). slice_get class.methods place) (slice_get (world_of classes) c)) ≡ Some code → AreBytes code.bytes
  world_code zero place code e = with_object (slice_get object_class.methods place) place code refl e
  world_code (suc c) place code e = code_in (slice_get classes c) place code (λ class at. files class (contains_at classes c class at)) e

  pub of_files : IsOfFiles (world_of classes)
  of_files = record { fields = class_fields; code = λ m code e. world_code m.class m.member code e }
