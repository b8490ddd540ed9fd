-- Where the bytes are a class, each part that stands in them is a part of this class.
use Rattle.std.proofs.Common.{◌≡◌, ℕ, zero, suc, Bool, true, false, List, [], ◌∷◌, ◌++◌, length, Option, refl, sym, ap, subst, ◌∙◌, append_assoc, arith, inl, inr}
use Rattle.std.specs.Prelude.{codes}
use Rattle.std.specs.Str.{bytes_eq}
use Rattle.std.proofs.lemmas.List.{length-append, append-nil}
use Rattle.byteorder.specs.Endian.{big_bytes}
use Rattle.byteorder.specs.Numbers.{length-bytes_high_first}
use Rattle.class_pool.specs.declared.constant.Constant.{Constant}
use Rattle.class_pool.specs.Place.{Place}
use Rattle.class_pool.specs.Pieces.{StartsWith}
use Rattle.class_reader.specs.declared.class.Code.{Code}
use Rattle.class_reader.specs.ClassFile.{Attribute, IsAttribute, IsHandler, IsCode, codes_of}
use Rattle.class_faults.specs.Pieces.{IsNumber, RawAttribute, IsRawAttribute, names_code, AreInstructions, IsRawHandler}
use Rattle.class_faults.specs.Parts.{Fields, Methods, Member, OfMember, Part, Interfaces, Members, Attributes, HandlerCount, Handlers, Stands, behind_pool, behind_names, so_many_interfaces, next_interface, then_fields, so_many_members, next_member, so_many_attributes, next_attribute, behind_member, then_methods, then_attributes, in_code, so_many_handlers, next_handler, then_code_attributes}
use Rattle.class_faults.proofs.Fronts.{same_front, same_number, same_width, nothing_left, left_of_count, first_left, others_left}
use Rattle.class_faults.proofs.Agrees.{IsMember, Behind, tail_of, MembersLeft, wants, ToCome, NoneToCome, AttributesLeft, HandlersCounted, HandlersLeft, Agrees, handler_sized, raw_handler_sized}
use Rattle.class_faults.proofs.Agreeing.{agrees_names, agrees_interface, agrees_members, agrees_member, agrees_attributes, attribute_here, more_codes, names_it, agrees_attribute}

-- ---- code

-- the code in an attribute named Code, where it is to come
pub record CodeHere (pool : List (Option Constant)) (body : List ℕ) : Type 0 where
  pub code : Code
  pub is : IsCode pool body code

same_first : (a b : List ℕ) (xs : List (List ℕ)) → a ∷ xs ≡ b ∷ [] → b ≡ a
same_first a b xs e = cc

code_to_come : (pool : List (Option Constant)) (flags : ℕ) (met : Bool) (x : Attribute) (xs : List Attribute) → bytes_eq x.name (codes "Code") ≡ true → ToCome pool flags met (x ∷ xs) → CodeHere pool x.body
code_to_come pool flags met x xs e t =
    let same = same_first x.body t.body (codes_of xs) (sym (more_codes x xs e) ∙ t.only) in
    record { code = t.code; is = subst (λ (b : List ℕ). IsCode pool b t.code) same t.is }

none_to_come : (flags : ℕ) (met : Bool) (x : Attribute) (xs : List Attribute) → bytes_eq x.name (codes "Code") ≡ true → NoneToCome flags met (x ∷ xs) → ⊥
none_to_come flags met x xs e t = let wrong = sym (more_codes x xs e) ∙ t.none in absurd cc

-- a Code attribute of a method is its code
pub record TheCode (pool : List (Option Constant)) (flags : ℕ) (met : Bool) (body : List ℕ) : Type 0 where
  pub code : CodeHere pool body
  pub wanted : wants flags ≡ true
  pub first : met ≡ false

pub the_code : (bytes : List ℕ) (pool : List (Option Constant)) (c : Behind bytes pool) (m : Member) (met : Bool) (n : ℕ) (place next : Place) (stored : RawAttribute) → AttributesLeft bytes pool c (OfMember m) met (suc n) place.rest
    → m.kind ≡ Methods → StartsWith IsRawAttribute place stored next → names_code pool stored.name ≡ true → TheCode pool m.flags met stored.body
the_code bytes pool c m met n place next stored a is s named =
    let h = attribute_here bytes pool c (OfMember m) met n place next stored a s in
    let e = names_it pool stored h.x h.named ∙ named in
    elim (h.codes is) [
      | inl t ↦ record { code = subst (CodeHere pool) h.body (code_to_come pool m.flags met h.x h.xs e t); wanted = t.wanted; first = t.first }
      | inr t ↦ absurd (none_to_come m.flags met h.x h.xs e t)
    ]

agrees_code : (bytes : List ℕ) (pool : List (Option Constant)) (c : Behind bytes pool) (body front rest instructions : List ℕ) → CodeHere pool body → AreInstructions front instructions → body ≡ front ++ rest → HandlersCounted pool rest
agrees_code bytes pool c body front rest instructions h i parts =
    let k = h.is in
    let stack : List ℕ = big_bytes 2 h.code.max_stack in
    let locals : List ℕ = big_bytes 2 h.code.max_locals in
    let len : List ℕ = big_bytes 4 (length h.code.bytes) in
    let raw_len : List ℕ = big_bytes 4 (length instructions) in
    let behind : List ℕ = k.handlers ++ k.attributes in
    let mine : body ≡ (stack ++ locals) ++ (len ++ (h.code.bytes ++ behind)) = k.parts ∙ sym (append_assoc stack locals (len ++ (h.code.bytes ++ behind))) in
    let raw : body ≡ i.bounds ++ (raw_len ++ (instructions ++ rest)) =
    parts ∙ ap (λ (b : List ℕ). b ++ rest) i.parts ∙ append_assoc i.bounds (raw_len ++ instructions) rest ∙ ap (λ (b : List ℕ). i.bounds ++ b) (append_assoc raw_len instructions rest) in
    let four : length (stack ++ locals) ≡ 4 = omega (arith, length-append stack locals, length-bytes_high_first 2 h.code.max_stack, length-bytes_high_first 2 h.code.max_locals) in
    let one = same_front (stack ++ locals) i.bounds (len ++ (h.code.bytes ++ behind)) (raw_len ++ (instructions ++ rest)) (sym mine ∙ raw) (four ∙ sym i.four) in
    let two = same_front len raw_len (h.code.bytes ++ behind) (instructions ++ rest) one.1 (same_width 4 (length h.code.bytes) (length instructions)) in
    let long = same_number 4 (length h.code.bytes) (length instructions) (omega (arith, k.short)) i.fits two.0 in
    let three = same_front h.code.bytes instructions behind rest two.1 long in
    record { handlers = h.code.handlers; counted = k.handlers; attributes = k.attributes; are = k.are_handlers; last = k.are_attributes; parts = sym three.1 }

agrees_handlers : (pool : List (Option Constant)) (n : ℕ) (place next : Place) → HandlersCounted pool place.rest → StartsWith (IsNumber 2) place n next → HandlersLeft pool n next.rest
agrees_handlers pool n place next a s =
    let l = left_of_count (IsHandler pool) place next n a.counted a.attributes a.handlers a.are a.parts s in
    record { attributes = a.attributes; last = a.last; left = l.left }

agrees_handler : (pool : List (Option Constant)) (n : ℕ) (place next : Place) (catch : ℕ) → HandlersLeft pool (suc n) place.rest → StartsWith IsRawHandler place catch next → HandlersLeft pool n next.rest
agrees_handler pool n place next catch a s =
    let f = first_left (IsHandler pool) n place.rest a.attributes a.left in
    let o = others_left (IsHandler pool) n place.rest a.attributes a.left.xs f s.piece next.rest s.parts (handler_sized pool f.piece f.x f.is ∙ sym (raw_handler_sized s.piece catch s.is)) in
    record { attributes = a.attributes; last = a.last; left = record { xs = f.xs; pieces = f.pieces; sized = f.sized; each = f.each; parts = o.1 } }

-- ---- behind the last of some

members_behind : (pool : List (Option Constant)) (m : Member) (rest tail other : List ℕ) → rest ≡ tail → MembersLeft pool m.kind m.declared m.left tail other → MembersLeft pool m.kind m.declared m.left rest other
members_behind pool m rest tail other e l = subst (λ (r : List ℕ). MembersLeft pool m.kind m.declared m.left r other) (sym e) l

-- ---- all parts

pub agrees : (bytes : List ℕ) (pool : List (Option Constant)) (c : Behind bytes pool) (part : Part) (place : Place) → Stands bytes pool part place → Agrees bytes pool c part place.rest
agrees bytes pool c part place (behind_pool {place = p} o) = c.parts p o
agrees bytes pool c part place (behind_names {place = p} {next = q} {head = h} s t) = agrees_names bytes pool c p q h (agrees bytes pool c _ p s) t
agrees bytes pool c part place (so_many_interfaces {place = p} {next = q} {n = n} s t) =
    (left_of_count _ p q n c.interfaces (c.members Fields ++ (c.members Methods ++ c.attributes)) c.names c.are_interfaces (agrees bytes pool c _ p s) t).left
agrees bytes pool c part place (next_interface {place = p} {next = q} {n = n} {index = i} s t) = agrees_interface bytes pool c n p q i (agrees bytes pool c _ p s) t
agrees bytes pool c part place (then_fields {place = p} s) = nothing_left _ p.rest (c.members Fields ++ (c.members Methods ++ c.attributes)) (agrees bytes pool c (Interfaces zero) p s)
agrees bytes pool c part place (so_many_members {place = p} {next = q} {kind = k} {n = n} s t) = agrees_members bytes pool c k n p q (agrees bytes pool c _ p s) t
agrees bytes pool c part place (next_member {place = p} {next = q} {kind = k} {before = b} {n = n} {head = h} s t) = agrees_member bytes pool c k b n p q h (agrees bytes pool c _ p s) t
agrees bytes pool c part place (so_many_attributes {place = p} {next = q} {owner = o} {n = n} s t) = agrees_attributes bytes pool c o n p q (agrees bytes pool c _ p s) t
agrees bytes pool c part place (next_attribute {place = p} {next = q} {owner = o} {met = m} {n = n} {stored = a} s t) = agrees_attribute bytes pool c o m n p q a (agrees bytes pool c _ p s) t
agrees bytes pool c part place (behind_member {place = p} {m = m} {met = b} s) =
    let a : AttributesLeft bytes pool c (OfMember m) b zero p.rest = agrees bytes pool c (Attributes (OfMember m) b zero) p s in
    members_behind pool m p.rest a.tail (tail_of bytes pool c m.kind) (nothing_left (IsAttribute pool) p.rest a.tail a.left) a.behind
agrees bytes pool c part place (then_methods {place = p} {before = b} s) =
    let a : MembersLeft pool Fields b zero p.rest (tail_of bytes pool c Fields) = agrees bytes pool c (Members Fields b zero) p s in
    nothing_left (IsMember pool Fields) p.rest (tail_of bytes pool c Fields) a.left
agrees bytes pool c part place (then_attributes {place = p} {before = b} s) =
    let a : MembersLeft pool Methods b zero p.rest (tail_of bytes pool c Methods) = agrees bytes pool c (Members Methods b zero) p s in
    let e = nothing_left (IsMember pool Methods) p.rest c.attributes a.left in
    record { stored = c.are_attributes.0; counted = c.attributes; tail = []; are = c.are_attributes.1; parts = e ∙ sym (append-nil c.attributes); behind = refl; codes = tt }
agrees bytes pool c part place (in_code {place = p} {next = q} {m = m} {n = n} {stored = a} {front = front} {rest = rest} {instructions = code} s w t named filled i parts) =
    agrees_code bytes pool c a.body front rest code (the_code bytes pool c m false n p q a (agrees bytes pool c (Attributes (OfMember m) false (suc n)) p s) w.0 t named).code i parts
agrees bytes pool c part place (so_many_handlers {place = p} {next = q} {n = n} s t) = agrees_handlers pool n p q (agrees bytes pool c HandlerCount p s) t
agrees bytes pool c part place (next_handler {place = p} {next = q} {n = n} {catch = k} s t) = agrees_handler pool n p q k (agrees bytes pool c (Handlers (suc n)) p s) t
agrees bytes pool c part place (then_code_attributes {place = p} s) =
    let a : HandlersLeft pool zero p.rest = agrees bytes pool c (Handlers zero) p s in
    let e = nothing_left (IsHandler pool) p.rest a.attributes a.left in
    record { stored = a.last.0; counted = a.attributes; tail = []; are = a.last.1; parts = e ∙ sym (append-nil a.attributes); behind = refl; codes = tt }
