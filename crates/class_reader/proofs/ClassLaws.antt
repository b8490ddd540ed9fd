-- The head of a class file and what stands behind its pool: what passes is in the grammar, and what is in it passes.
use Rattle.std.proofs.Common.{◌≡◌, ℕ, ◌+◌, ◌^◌, ◌<◌, ◌≤◌, Bool, eqb, leb, ◌&&◌, not, List, ◌++◌, length, Option, refl, ap, subst, ◌∙◌, arith}
use Rattle.std.proofs.lemmas.Bool.{eqb-true, and_parts, and_from, not-false, leb-true, le-leb}
use Rattle.byteorder.specs.Endian.{big_bytes}
use Rattle.class_pool.specs.declared.constant.Constant.{Constant}
use Rattle.class_pool.specs.Place.{Place, IsBytes}
use Rattle.class_pool.specs.Pieces.{Counted, StartsWith}
use Rattle.class_pool.specs.Pool.{class_name_at}
use Rattle.class_reader.specs.declared.class.Field.{Field}
use Rattle.class_reader.specs.declared.class.Method.{Method}
use Rattle.class_reader.specs.declared.fault.ClassFault.TheVariants.{Magic, Version}
use Rattle.class_reader.specs.Met.{Passes, times_at}
use Rattle.class_reader.specs.ClassReading.{fault_if, versions_at, head_at, skipped_at, Rest, names_at, rest_at}
use Rattle.class_reader.specs.ClassFile.{IsIndex, AreAttributes, IsField, IsMethod}
use Rattle.class_reader.proofs.MetLaws.{both_empty, stepped, steps, Spans, spanned, starts, joined, middle_of, second_of_two, rewritten, same_start, IsReader, took, takes_first, takes_last, num_reader}
use Rattle.class_reader.proofs.TimesLaws.{counted}
use Rattle.class_reader.proofs.AttributeLaws.{faultless, name_reader, Attributes, attributes_take, attributes_again}
use Rattle.class_reader.proofs.MemberLaws.{no_fault, field_pair, method_pair, field_reads, method_reads, AreMembers, members_reader}

-- ---- magic and versions

-- the minor and the major version
abbrev pub AreVersions : List ℕ → ℕ → Type 0
AreVersions bytes major = (minor : ℕ) × (minor < 2 ^ 16) × ((45 ≤ major) × (major ≤ 65)) × (bytes ≡ big_bytes 2 minor ++ big_bytes 2 major)

versions_take : (place : Place) (major : ℕ) (next : Place) → IsBytes place.rest → Passes (versions_at place) (major, next) → StartsWith AreVersions place major next
unfolding versions_at
versions_take place major next fits p =
    let a = took (num_reader 2) place _ (major, next) fits p in
    let b = took (num_reader 2) a.next _ (major, next) a.fits a.others in
    let f = faultless (fault_if (not (leb 45 b.value && leb b.value 65)) (Version a.next.at)) (b.value, b.next) (major, next) b.others in
    let known = not-false (leb 45 b.value && leb b.value 65) (no_fault (not (leb 45 b.value && leb b.value 65)) (Version a.next.at) f.0) in
    let bounds = and_parts (leb 45 b.value) (leb b.value 65) known in
    let spans = joined (rewritten a.starts.is.0 (spanned a.starts)) (rewritten b.starts.is.0 (spanned b.starts)) in
    let here : StartsWith AreVersions place b.value b.next =
    starts AreVersions b.value (big_bytes 2 a.value ++ big_bytes 2 b.value) spans (a.value, a.starts.is.1, (leb-true 45 b.value bounds.0, leb-true b.value 65 bounds.1), refl) in
    subst (λ (z : ℕ × Place). StartsWith AreVersions place z.0 z.1) f.1 here

versions_again : (place : Place) (major : ℕ) (next : Place) → StartsWith AreVersions place major next → Passes (versions_at place) (major, next)
unfolding versions_at
versions_again place major next s =
    let minor : List ℕ = big_bytes 2 s.is.0 in
    let w = rewritten s.is.3 (spanned s) in
    let known = and_from (leb 45 major) (leb major 65) (le-leb 45 major s.is.2.0) (le-leb major 65 s.is.2.1) in
    takes_first (num_reader 2) s.is.0 minor (big_bytes 2 major) _ w (refl, s.is.1)
    (takes_last (num_reader 2) major (big_bytes 2 major) _ (second_of_two minor (big_bytes 2 major) w) (refl, omega (arith, s.is.2.1))
    (refl, ap (λ (b : Bool). fault_if (not b) (Version (place.at + length minor))) known))

versions_reader : IsReader versions_at AreVersions
versions_reader = record { takes = versions_take; again = versions_again }

-- magic, and the versions
abbrev pub IsFileHead : List ℕ → ℕ → Type 0
IsFileHead bytes major = (versions : List ℕ) × (bytes ≡ big_bytes 4 0xcafebabe ++ versions) × AreVersions versions major

head_takes : (place : Place) (major : ℕ) (next : Place) → IsBytes place.rest → Passes (head_at place) (major, next) → StartsWith IsFileHead place major next
unfolding head_at
head_takes place major next fits p =
    let a = took (num_reader 4) place _ (major, next) fits p in
    let none = both_empty (fault_if (not (eqb a.value 0xcafebabe)) (Magic place.at)) (versions_at a.next).faults a.others.1 in
    let v = versions_take a.next major next a.fits (a.others.0, none.1) in
    let right = not-false (eqb a.value 0xcafebabe) (no_fault (not (eqb a.value 0xcafebabe)) (Magic place.at) none.0) in
    let magic : a.value ≡ 0xcafebabe = eqb-true a.value 0xcafebabe right in
    let front : Spans place (big_bytes 4 0xcafebabe) a.next = rewritten (a.starts.is.0 ∙ ap (big_bytes 4) magic) (spanned a.starts) in
    starts IsFileHead major (big_bytes 4 0xcafebabe ++ v.piece) (joined front (spanned v)) (v.piece, refl, v.is)

head_again : (place : Place) (major : ℕ) (next : Place) → StartsWith IsFileHead place major next → Passes (head_at place) (major, next)
unfolding head_at
head_again place major next s =
    let magic : List ℕ = big_bytes 4 0xcafebabe in
    let w = rewritten s.is.1 (spanned s) in
    takes_first (num_reader 4) 0xcafebabe magic s.is.0 _ w (refl, omega arith)
    (versions_again (middle_of place magic s.is.0 next) major next (starts AreVersions major s.is.0 (second_of_two magic s.is.0 w) s.is.2))

pub head_reader : IsReader head_at IsFileHead
head_reader = record { takes = head_takes; again = head_again }

-- ---- flags, this class and the superclass

abbrev Names : Type 0
Names = ℕ × List ℕ × List ℕ

pub record AreNames (pool : List (Option Constant)) (bytes : List ℕ) (names : Names) : Type 0 where
  pub this : List ℕ
  pub super : List ℕ
  pub flags_fit : names.0 < 2 ^ 16
  pub named : IsIndex (class_name_at pool) this names.1
  pub below : IsIndex (class_name_at pool) super names.2
  pub parts : bytes ≡ big_bytes 2 names.0 ++ (this ++ super)

names_take : (pool : List (Option Constant)) (place : Place) (names : Names) (next : Place) → IsBytes place.rest → Passes (names_at pool place) (names, next) → StartsWith (AreNames pool) place names next
unfolding names_at
names_take pool place names next fits p =
    let a = took (num_reader 2) place _ (names, next) fits p in
    let b = took (name_reader (class_name_at pool)) a.next _ (names, next) a.fits a.others in
    let c = took (name_reader (class_name_at pool)) b.next _ (names, next) b.fits b.others in
    let spans = joined (rewritten a.starts.is.0 (spanned a.starts)) (joined (spanned b.starts) (spanned c.starts)) in
    same_start (AreNames pool) place (a.value, b.value, c.value) names c.next next c.others
    (starts (AreNames pool) _ _ spans (record { this = b.starts.piece; super = c.starts.piece; flags_fit = a.starts.is.1; named = b.starts.is; below = c.starts.is; parts = refl }))

names_again : (pool : List (Option Constant)) (place : Place) (names : Names) (next : Place) → StartsWith (AreNames pool) place names next → Passes (names_at pool place) (names, next)
unfolding names_at
names_again pool place names next s =
    let is = s.is in
    let flags : List ℕ = big_bytes 2 names.0 in
    let w = rewritten is.parts (spanned s) in
    let w1 = second_of_two flags (is.this ++ is.super) w in
    takes_first (num_reader 2) names.0 flags (is.this ++ is.super) _ w (refl, is.flags_fit)
    (takes_first (name_reader (class_name_at pool)) names.1 is.this is.super _ w1 is.named
    (takes_last (name_reader (class_name_at pool)) names.2 is.super _ (second_of_two is.this is.super w1) is.below (refl, refl)))

names_reader : (pool : List (Option Constant)) → IsReader (names_at pool) (AreNames pool)
names_reader pool = record { takes = names_take pool; again = names_again pool }

-- ---- what stands behind the pool

pub record IsRest (pool : List (Option Constant)) (bytes : List ℕ) (rest : Rest) : Type 0 where
  pub names : List ℕ
  pub interfaces : List ℕ
  pub fields : List ℕ
  pub methods : List ℕ
  pub attributes : List ℕ
  pub are_names : AreNames pool names (rest.flags, rest.name, rest.super_name)
  pub are_interfaces : Counted (IsIndex (class_name_at pool)) interfaces rest.interfaces
  pub are_fields : AreMembers (IsField pool) field_pair fields rest.fields
  pub are_methods : AreMembers (IsMethod pool) method_pair methods rest.methods
  pub are_attributes : AreAttributes pool attributes
  pub parts : bytes ≡ names ++ (interfaces ++ (fields ++ (methods ++ attributes)))

abbrev rest_with : Names → List (List ℕ) → List Field → List Method → Rest
rest_with names interfaces fields methods = record { flags = names.0; name = names.1; super_name = names.2; interfaces = interfaces; fields = fields; methods = methods }

rest_made : (pool : List (Option Constant)) (place p q r t next : Place) (names : Names) (interfaces : List (List ℕ)) (fields : List Field) (methods : List Method) → StartsWith (AreNames pool) place names p
    → StartsWith (Counted (IsIndex (class_name_at pool))) p interfaces q → StartsWith (AreMembers (IsField pool) field_pair) q fields r → StartsWith (AreMembers (IsMethod pool) method_pair) r methods t
    → Attributes pool t next → StartsWith (IsRest pool) place (rest_with names interfaces fields methods) next
rest_made pool place p q r t next names interfaces fields methods a b c d e =
    starts (IsRest pool) _ _ (joined (spanned a) (joined (spanned b) (joined (spanned c) (joined (spanned d) e.spans))))
    (record {
      names = a.piece;
      interfaces = b.piece;
      fields = c.piece;
      methods = d.piece;
      attributes = e.piece;
      are_names = a.is;
      are_interfaces = b.is;
      are_fields = c.is;
      are_methods = d.is;
      are_attributes = e.are;
      parts = refl;
    })

rest_takes : (pool : List (Option Constant)) (place : Place) (rest : Rest) (next : Place) → IsBytes place.rest → Passes (rest_at pool place) (rest, next) → StartsWith (IsRest pool) place rest next
unfolding rest_at
rest_takes pool place rest next fits p =
    let a = took (names_reader pool) place _ (rest, next) fits p in
    let b = took (counted (name_reader (class_name_at pool))) a.next _ (rest, next) a.fits a.others in
    let c = took (members_reader (field_reads pool)) b.next _ (rest, next) b.fits b.others in
    let d = took (members_reader (method_reads pool)) c.next _ (rest, next) c.fits c.others in
    let e = stepped (times_at (skipped_at pool) d.next) _ (rest, next) d.others in
    let last = attributes_take pool d.next e.0 d.fits e.1 in
    same_start (IsRest pool) place (rest_with a.value b.value c.value d.value) rest e.0 next e.2
    (rest_made pool place a.next b.next c.next d.next e.0 a.value b.value c.value d.value a.starts b.starts c.starts d.starts last)

rest_again : (pool : List (Option Constant)) (place : Place) (rest : Rest) (next : Place) → StartsWith (IsRest pool) place rest next → Passes (rest_at pool place) (rest, next)
unfolding rest_at
rest_again pool place rest next s =
    let is = s.is in
    let w = rewritten is.parts (spanned s) in
    let w1 = second_of_two is.names (is.interfaces ++ (is.fields ++ (is.methods ++ is.attributes))) w in
    let w2 = second_of_two is.interfaces (is.fields ++ (is.methods ++ is.attributes)) w1 in
    let w3 = second_of_two is.fields (is.methods ++ is.attributes) w2 in
    takes_first (names_reader pool) (rest.flags, rest.name, rest.super_name) is.names (is.interfaces ++ (is.fields ++ (is.methods ++ is.attributes))) _ w is.are_names
    (takes_first (counted (name_reader (class_name_at pool))) rest.interfaces is.interfaces (is.fields ++ (is.methods ++ is.attributes)) _ w1 is.are_interfaces
    (takes_first (members_reader (field_reads pool)) rest.fields is.fields (is.methods ++ is.attributes) _ w2 is.are_fields
    (takes_first (members_reader (method_reads pool)) rest.methods is.methods is.attributes _ w3 is.are_methods
    (steps _ (attributes_again pool _ next is.attributes (second_of_two is.methods is.attributes w3) is.are_attributes) (refl, refl)))))

pub rest_reader : (pool : List (Option Constant)) → IsReader (rest_at pool) (IsRest pool)
rest_reader pool = record { takes = rest_takes pool; again = rest_again pool }
