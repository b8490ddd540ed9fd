-- Fields and methods: what passes is in the grammar, and what is in it passes.
use Rattle.std.proofs.Common.{◌≡◌, ◌↔◌, ℕ, ◌^◌, ◌<◌, Bool, true, false, not, List, [], ◌∷◌, ◌++◌, length, Option, Some, refl, sym, ap, subst, ◌∙◌, append_assoc}
use Rattle.std.specs.List.{list_any}
use Rattle.std.proofs.lemmas.Bool.{not-false}
use Rattle.byteorder.specs.Endian.{big_bytes}
use Rattle.class_pool.specs.declared.constant.Constant.{Constant}
use Rattle.class_pool.specs.Place.{Place, IsBytes}
use Rattle.class_pool.specs.Pieces.{Counted, StartsWith}
use Rattle.class_pool.specs.Pool.{utf8_at}
use Rattle.class_pool.proofs.Pieces.{IsNumber, starts-rest}
use Rattle.class_reader.specs.declared.class.Field.{Field}
use Rattle.class_reader.specs.declared.class.Method.{Method}
use Rattle.class_reader.specs.declared.class.Code.{Code}
use Rattle.class_reader.specs.declared.fault.ClassFault.{ClassFault}
use Rattle.class_reader.specs.declared.fault.ClassFault.TheVariants.{BadDesc, Repeated}
use Rattle.class_reader.specs.Met.{Met, Passes, times, pushed, times_at}
use Rattle.class_reader.specs.Flags.{is_static}
use Rattle.descriptors.specs.Grammar.{IsFieldDescriptor}
use Rattle.descriptors.specs.Tests.{is_field, describes}
use Rattle.class_reader.specs.ClassReading.{fault_if, or_empty, skipped_at, has_code, Head, Members, descriptor_faults, descriptor_at, is_pair, is_repeated, with_member, member_at, field_at, code_given_at, method_at, members_at}
use Rattle.class_reader.specs.ClassFile.{IsIndex, IsAttribute, HasCode, IsField, IsMethod, AreDistinct, field_pairs, method_pairs}
use Rattle.descriptors.proofs.Methods.{field_decided, describes_decided}
use Rattle.class_reader.proofs.MetLaws.{stepped, steps, carried, spanned, starts, joined, middle_of, first_of_two, second_of_two, rewritten, IsReader, took, takes_first, takes_last, num_reader}
use Rattle.class_reader.proofs.TimesLaws.{ReadsFrom, Chain, many_take, many_again, chain_each, each_chain, counted_made}
use Rattle.class_reader.proofs.AttributeLaws.{faultless, IsNamed, index_reader, Attributes, attributes_take, attributes_again}
use Rattle.class_reader.proofs.GivenLaws.{CodeAt, given_code_takes, given_code_again}
use Rattle.class_reader.proofs.DistinctLaws.{Pair, NotAmong, not_among, none_among, AreNew, new_distinct, distinct_new}

-- ---- descriptors

-- the index of a text that passes the test
abbrev IsDescribed : (List ℕ → Bool) → List (Option Constant) → List ℕ → Option (List ℕ) → Type 0
IsDescribed passes pool bytes found = (x : List ℕ) × (found ≡ Some x) × (passes x ≡ true) × IsIndex (utf8_at pool) bytes x

pub no_fault : (b : Bool) (fault : ClassFault) → fault_if b fault ≡ [] → b ≡ false
no_fault true fault e = absurd cc
no_fault false fault e = refl

described : (passes : List ℕ → Bool) (at : ℕ) (found : Option (List ℕ)) (x : List ℕ) → found ≡ Some x → descriptor_faults passes at found ≡ [] → passes x ≡ true
described passes at found x e none =
    let here : fault_if (not (passes x)) (BadDesc at) ≡ [] = subst (λ (o : Option (List ℕ)). descriptor_faults passes at o ≡ []) e none in
    not-false (passes x) (no_fault (not (passes x)) (BadDesc at) here)

descriptor_takes : (passes : List ℕ → Bool) (pool : List (Option Constant)) (place : Place) (found : Option (List ℕ)) (next : Place) → IsBytes place.rest → Passes (descriptor_at passes pool place) (found, next)
    → StartsWith (IsDescribed passes pool) place found next
unfolding descriptor_at
descriptor_takes passes pool place found next fits p =
    let t = took (index_reader (utf8_at pool)) place _ (found, next) fits p in
    let f = faultless (descriptor_faults passes place.at t.value) (t.value, t.next) (found, next) t.others in
    let is = t.starts.is in
    let here : StartsWith (IsDescribed passes pool) place t.value t.next =
    starts (IsDescribed passes pool) t.value t.starts.piece (spanned t.starts) (is.0, is.1, described passes place.at t.value is.0 is.1 f.0, is.2) in
    subst (λ (z : Option (List ℕ) × Place). StartsWith (IsDescribed passes pool) place z.0 z.1) f.1 here

describes_again : (passes : List ℕ → Bool) (at : ℕ) (text : Option (List ℕ)) (x : List ℕ) → text ≡ Some x → passes x ≡ true → descriptor_faults passes at text ≡ []
describes_again passes at text x e h = rw (e, h) refl

descriptor_again : (passes : List ℕ → Bool) (pool : List (Option Constant)) (place : Place) (found : Option (List ℕ)) (next : Place) → StartsWith (IsDescribed passes pool) place found next
    → Passes (descriptor_at passes pool place) (found, next)
unfolding descriptor_at
descriptor_again passes pool place found next s =
    takes_last (index_reader (utf8_at pool)) found s.piece _ (spanned s) (s.is.0, s.is.1, s.is.3) (refl, describes_again passes place.at found s.is.0 s.is.1 s.is.2)

descriptor_reader : (passes : List ℕ → Bool) (pool : List (Option Constant)) → IsReader (descriptor_at passes pool) (IsDescribed passes pool)
descriptor_reader passes pool = record { takes = descriptor_takes passes pool; again = descriptor_again passes pool }

-- ---- flags, name and descriptor

record Named : Type 0 where
  flags : ℕ
  pair : Pair

abbrev head_of : Named → Head
head_of named = record { flags = named.flags; name = Some named.pair.0; desc = Some named.pair.1 }

record IsHead (passes : ℕ → List ℕ → Bool) (pool : List (Option Constant)) (bytes : List ℕ) (named : Named) : Type 0 where
  name : List ℕ
  desc : List ℕ
  flags_fit : named.flags < 2 ^ 16
  is_name : IsIndex (utf8_at pool) name named.pair.0
  is_desc : IsIndex (utf8_at pool) desc named.pair.1
  passed : passes named.flags named.pair.1 ≡ true
  parts : bytes ≡ big_bytes 2 named.flags ++ (name ++ desc)

-- a member that was read behind others
record Member (passes : ℕ → List ℕ → Bool) (pool : List (Option Constant)) (s : Members × Place) (head : Head) (members : Members) (next : Place) : Type 0 where
  named : Named
  head_is : head ≡ head_of named
  starts : StartsWith (IsHead passes pool) s.1 named next
  members_are : members ≡ s.0 ++ named.pair ∷ []
  new : NotAmong s.0 named.pair

repeated_at : (before : Members) (found desc : Option (List ℕ)) (pair : Pair) → found ≡ Some pair.0 → desc ≡ Some pair.1 → is_repeated before found desc ≡ list_any (is_pair pair.0 pair.1) before
repeated_at before found desc pair a b = rw (a, b) refl

added_at : (before : Members) (found desc : Option (List ℕ)) (pair : Pair) → found ≡ Some pair.0 → desc ≡ Some pair.1 → with_member before found desc ≡ before ++ pair ∷ []
added_at before found desc pair a b = rw (a, b) refl

member_made : (passes : ℕ → List ℕ → Bool) (pool : List (Option Constant)) (s : Members × Place) (p q next : Place) (flags : ℕ) (name desc : Option (List ℕ)) → StartsWith (IsNumber 2) s.1 flags p
    → StartsWith (IsNamed (utf8_at pool)) p name q → StartsWith (IsDescribed (passes flags) pool) q desc next → fault_if (is_repeated s.0 name desc) (Repeated s.1.at) ≡ []
    → Member passes pool s (record { flags = flags; name = name; desc = desc }) (with_member s.0 name desc) next
member_made passes pool s p q next flags name desc a b c none =
    let pair : Pair = (b.is.0, c.is.0) in
    let new : list_any (is_pair pair.0 pair.1) s.0 ≡ false = sym (repeated_at s.0 name desc pair b.is.1 c.is.1) ∙ no_fault (is_repeated s.0 name desc) (Repeated s.1.at) none in
    let is : IsHead passes pool (big_bytes 2 flags ++ (b.piece ++ c.piece)) (record { flags = flags; pair = pair }) =
    record { name = b.piece; desc = c.piece; flags_fit = a.is.1; is_name = b.is.2; is_desc = c.is.3; passed = c.is.2; parts = refl } in
    record {
      named = record { flags = flags; pair = pair };
      head_is = ap (λ (o : Option (List ℕ)). let h : Head = record { flags = flags; name = o; desc = desc } in h) b.is.1 ∙ ap (λ (o : Option (List ℕ)). let h : Head = record { flags = flags; name = Some b.is.0; desc = o } in h) c.is.1;
      starts = starts (IsHead passes pool) _ _ (joined (rewritten a.is.0 (spanned a)) (joined (spanned b) (spanned c))) is;
      members_are = added_at s.0 name desc pair b.is.1 c.is.1;
      new = not_among s.0 pair new;
    }

member_takes : (passes : ℕ → List ℕ → Bool) (pool : List (Option Constant)) (s : Members × Place) (head : Head) (members : Members) (next : Place) → IsBytes s.1.rest
    → Passes (member_at passes pool s) (head, members, next) → Member passes pool s head members next
unfolding member_at
member_takes passes pool s head members next fits p =
    let a = took (num_reader 2) s.1 _ (head, members, next) fits p in
    let b = took (index_reader (utf8_at pool)) a.next _ (head, members, next) a.fits a.others in
    let c = took (descriptor_reader (passes a.value) pool) b.next _ (head, members, next) b.fits b.others in
    let f = faultless (fault_if (is_repeated s.0 b.value c.value) (Repeated s.1.at)) (record { flags = a.value; name = b.value; desc = c.value }, with_member s.0 b.value c.value, c.next) (head, members, next) c.others in
    subst (λ (z : Head × Members × Place). Member passes pool s z.0 z.1 z.2) f.1 (member_made passes pool s a.next b.next c.next a.value b.value c.value a.starts b.starts c.starts f.0)

new_faultless : (before : Members) (pair : Pair) (at : ℕ) → NotAmong before pair → fault_if (is_repeated before (Some pair.0) (Some pair.1)) (Repeated at) ≡ []
new_faultless before pair at new = ap (λ (b : Bool). fault_if b (Repeated at)) (none_among before pair new)

member_again : (passes : ℕ → List ℕ → Bool) (pool : List (Option Constant)) (s : Members × Place) (named : Named) (next : Place) → StartsWith (IsHead passes pool) s.1 named next → NotAmong s.0 named.pair
    → Passes (member_at passes pool s) (head_of named, s.0 ++ named.pair ∷ [], next)
unfolding member_at
member_again passes pool s named next t new =
    let is = t.is in
    let flags : List ℕ = big_bytes 2 named.flags in
    let w = rewritten is.parts (spanned t) in
    let w1 = second_of_two flags (is.name ++ is.desc) w in
    takes_first (num_reader 2) named.flags flags (is.name ++ is.desc) _ w (refl, is.flags_fit)
    (takes_first (index_reader (utf8_at pool)) (Some named.pair.0) is.name is.desc _ w1 (named.pair.0, refl, is.is_name)
    (takes_last (descriptor_reader (passes named.flags) pool) (Some named.pair.1) is.desc _ (second_of_two is.name is.desc w1) (named.pair.1, refl, is.passed, is.is_desc)
    (refl, new_faultless s.0 named.pair s.1.at new)))

-- ---- reading members behind others

abbrev pub BytesBehind : Members × Place → Type 0
BytesBehind s = IsBytes s.1.rest

-- a piece of this form, of a member that is none of those before
abbrev pub Declares : {A : Type 0} → (List ℕ → A → Type 0) → (A → Pair) → Members × Place → A → Members × Place → Type 0
Declares Is pair s x t = StartsWith Is s.1 x t.1 × (t.0 ≡ s.0 ++ pair x ∷ []) × NotAmong s.0 (pair x)

-- the bytes of a head, and then these
regroup : (flags name desc rest : List ℕ) → (flags ++ (name ++ desc)) ++ rest ≡ flags ++ (name ++ (desc ++ rest))
regroup flags name desc rest = append_assoc flags (name ++ desc) rest ∙ ap (λ (t : List ℕ). flags ++ t) (append_assoc name desc rest)

-- ---- fields

abbrev pub field_pair : Field → Pair
field_pair field = (field.name, field.desc)

abbrev is_field_of : ℕ → List ℕ → Bool
is_field_of flags = is_field

abbrev field_with : Head → Field
field_with head = record { flags = head.flags; name = or_empty head.name; desc = or_empty head.desc }

field_made : (pool : List (Option Constant)) (s : Members × Place) (head : Head) (members : Members) (p next : Place) (m : Member is_field_of pool s head members p) → Attributes pool p next
    → Declares (IsField pool) field_pair s (field_with head) (members, next)
field_made pool s head members p next m a =
    let is = m.starts.is in
    let spans = joined (rewritten is.parts (spanned m.starts)) a.spans in
    let flags : List ℕ = big_bytes 2 m.named.flags in
    let field : IsField pool (flags ++ (is.name ++ (is.desc ++ a.piece))) (field_with (head_of m.named)) = record {
      name = is.name;
      desc = is.desc;
      attributes = a.piece;
      flags_fit = is.flags_fit;
      named = is.is_name;
      described = is.is_desc;
      descriptor = (field_decided m.named.pair.1).0 is.passed;
      are_attributes = a.are;
      parts = refl;
    } in
    let here : Declares (IsField pool) field_pair s (field_with (head_of m.named)) (members, next) = (starts (IsField pool) (field_with (head_of m.named)) _ (rewritten (regroup flags is.name is.desc a.piece) spans) field, m.members_are, m.new) in
    subst (λ (h : Head). Declares (IsField pool) field_pair s (field_with h) (members, next)) (sym m.head_is) here

field_takes_from : (pool : List (Option Constant)) (s : Members × Place) (field : Field) (t : Members × Place) → BytesBehind s → Passes (field_at pool s) (field, t) → Declares (IsField pool) field_pair s field t × BytesBehind t
unfolding field_at
field_takes_from pool s field t fits p =
    let m = stepped (member_at is_field_of pool s) _ (field, t) p in
    let member = member_takes is_field_of pool s m.0.0 m.0.1 m.0.2 fits m.1 in
    let a = stepped (times_at (skipped_at pool) m.0.2) _ (field, t) m.2 in
    let attributes = attributes_take pool m.0.2 a.0 (starts-rest (IsHead is_field_of pool) s.1 m.0.2 member.named member.starts fits) a.1 in
    let here = field_made pool s m.0.0 m.0.1 m.0.2 a.0 member attributes in
    let all : Declares (IsField pool) field_pair s (field_with m.0.0) (m.0.1, a.0) × BytesBehind (m.0.1, a.0) = (here, starts-rest (IsField pool) s.1 a.0 (field_with m.0.0) here.0 fits) in
    carried (λ z. Declares (IsField pool) field_pair s z.0 z.1 × BytesBehind z.1) (field_with m.0.0, (m.0.1, a.0)) (field, t) a.2 all

field_again_from : (pool : List (Option Constant)) (s : Members × Place) (field : Field) (t : Members × Place) → Declares (IsField pool) field_pair s field t → Passes (field_at pool s) (field, t)
unfolding field_at
field_again_from pool s field t d =
    let is = d.0.is in
    let flags : List ℕ = big_bytes 2 field.flags in
    let named : Named = record { flags = field.flags; pair = field_pair field } in
    let front : List ℕ = flags ++ (is.name ++ is.desc) in
    let w = rewritten (is.parts ∙ sym (regroup flags is.name is.desc is.attributes)) (spanned d.0) in
    let head : IsHead is_field_of pool front named =
    record { name = is.name; desc = is.desc; flags_fit = is.flags_fit; is_name = is.named; is_desc = is.described; passed = (field_decided field.desc).1 is.descriptor; parts = refl } in
    steps _ (member_again is_field_of pool s named (middle_of s.1 front is.attributes t.1) (starts (IsHead is_field_of pool) named front (first_of_two front is.attributes w) head) d.2)
    (steps _ (attributes_again pool (middle_of s.1 front is.attributes t.1) t.1 is.attributes (second_of_two front is.attributes w) is.are_attributes)
    (ap (λ (ms : Members). let o : Option (Field × (Members × Place)) = Some (field, (ms, t.1)) in o) (sym d.1), refl))

pub field_reads : (pool : List (Option Constant)) → ReadsFrom (field_at pool) BytesBehind (Declares (IsField pool) field_pair)
field_reads pool = record { takes = field_takes_from pool; again = field_again_from pool }

-- ---- methods

abbrev pub method_pair : Method → Pair
method_pair method = (method.name, method.desc)

abbrev is_method_of : ℕ → List ℕ → Bool
is_method_of flags = describes (is_static flags)

abbrev method_with : Head → Option Code → Method
method_with head code = record { flags = head.flags; name = or_empty head.name; desc = or_empty head.desc; code = code }

method_made : (pool : List (Option Constant)) (s : Members × Place) (head : Head) (members : Members) (p next : Place) (code : Option Code) (m : Member is_method_of pool s head members p)
    → CodeAt pool head.flags p code next → Declares (IsMethod pool) method_pair s (method_with head code) (members, next)
method_made pool s head members p next code m c =
    let is = m.starts.is in
    let flags : List ℕ = big_bytes 2 m.named.flags in
    let spans = joined (rewritten is.parts (spanned m.starts)) (spanned c.starts) in
    let own : CodeAt pool m.named.flags p code next = subst (λ (h : Head). CodeAt pool h.flags p code next) m.head_is c in
    let method : IsMethod pool (flags ++ (is.name ++ (is.desc ++ c.starts.piece))) (method_with (head_of m.named) code) = record {
      name = is.name;
      desc = is.desc;
      attributes = c.starts.piece;
      stored = c.stored;
      flags_fit = is.flags_fit;
      named = is.is_name;
      described = is.is_desc;
      descriptor = (describes_decided (is_static m.named.flags) m.named.pair.1).0 is.passed;
      are_attributes = c.starts.is;
      has_code = subst (λ (h : Head). HasCode pool h.flags c.stored code) m.head_is c.has;
      parts = refl;
    } in
    let here : Declares (IsMethod pool) method_pair s (method_with (head_of m.named) code) (members, next) =
    (starts (IsMethod pool) (method_with (head_of m.named) code) _ (rewritten (regroup flags is.name is.desc c.starts.piece) spans) method, m.members_are, m.new) in
    subst (λ (h : Head). Declares (IsMethod pool) method_pair s (method_with h code) (members, next)) (sym m.head_is) here

method_takes_from : (pool : List (Option Constant)) (s : Members × Place) (method : Method) (t : Members × Place) → BytesBehind s → Passes (method_at pool s) (method, t) → Declares (IsMethod pool) method_pair s method t × BytesBehind t
unfolding method_at
method_takes_from pool s method t fits p =
    let m = stepped (member_at is_method_of pool s) _ (method, t) p in
    let member = member_takes is_method_of pool s m.0.0 m.0.1 m.0.2 fits m.1 in
    let c = stepped (code_given_at s.1.at (has_code m.0.0.flags) pool m.0.2) _ (method, t) m.2 in
    let code = given_code_takes pool m.0.0.flags s.1.at m.0.2 c.0.0 c.0.1 (starts-rest (IsHead is_method_of pool) s.1 m.0.2 member.named member.starts fits) c.1 in
    let here = method_made pool s m.0.0 m.0.1 m.0.2 c.0.1 c.0.0 member code in
    let all : Declares (IsMethod pool) method_pair s (method_with m.0.0 c.0.0) (m.0.1, c.0.1) × BytesBehind (m.0.1, c.0.1) = (here, starts-rest (IsMethod pool) s.1 c.0.1 (method_with m.0.0 c.0.0) here.0 fits) in
    carried (λ z. Declares (IsMethod pool) method_pair s z.0 z.1 × BytesBehind z.1) (method_with m.0.0 c.0.0, (m.0.1, c.0.1)) (method, t) c.2 all

method_again_from : (pool : List (Option Constant)) (s : Members × Place) (method : Method) (t : Members × Place) → Declares (IsMethod pool) method_pair s method t → Passes (method_at pool s) (method, t)
unfolding method_at
method_again_from pool s method t d =
    let is = d.0.is in
    let flags : List ℕ = big_bytes 2 method.flags in
    let named : Named = record { flags = method.flags; pair = method_pair method } in
    let front : List ℕ = flags ++ (is.name ++ is.desc) in
    let w = rewritten (is.parts ∙ sym (regroup flags is.name is.desc is.attributes)) (spanned d.0) in
    let head : IsHead is_method_of pool front named =
    record { name = is.name; desc = is.desc; flags_fit = is.flags_fit; is_name = is.named; is_desc = is.described; passed = (describes_decided (is_static method.flags) method.desc).1 is.descriptor; parts = refl } in
    let code : CodeAt pool method.flags (middle_of s.1 front is.attributes t.1) method.code t.1 =
    record { stored = is.stored; starts = starts (Counted (IsAttribute pool)) is.stored is.attributes (second_of_two front is.attributes w) is.are_attributes; has = is.has_code } in
    steps _ (member_again is_method_of pool s named (middle_of s.1 front is.attributes t.1) (starts (IsHead is_method_of pool) named front (first_of_two front is.attributes w) head) d.2)
    (steps _ (given_code_again pool method.flags s.1.at (middle_of s.1 front is.attributes t.1) method.code t.1 code)
    (ap (λ (ms : Members). let o : Option (Method × (Members × Place)) = Some (method, (ms, t.1)) in o) (sym d.1), refl))

pub method_reads : (pool : List (Option Constant)) → ReadsFrom (method_at pool) BytesBehind (Declares (IsMethod pool) method_pair)
method_reads pool = record { takes = method_takes_from pool; again = method_again_from pool }

-- ---- a count of members

abbrev pub pairs_of : {A : Type 0} → (A → Pair) → List A → Members
pairs_of pair [] = []
pairs_of {A = A} pair (x ∷ xs) = pair x ∷ pairs_of {A = A} pair xs

pub pairs_of_fields : (fields : List Field) → pairs_of field_pair fields ≡ field_pairs fields
pairs_of_fields [] = refl
pairs_of_fields (field ∷ fields) = ap (λ (l : Members). field_pair field ∷ l) (pairs_of_fields fields)

pub pairs_of_methods : (methods : List Method) → pairs_of method_pair methods ≡ method_pairs methods
pairs_of_methods [] = refl
pairs_of_methods (method ∷ methods) = ap (λ (l : Members). method_pair method ∷ l) (pairs_of_methods methods)

abbrev DeclareAll : {A : Type 0} → (List ℕ → A → Type 0) → (A → Pair) → Members × Place → List A → Members × Place → Type 0
DeclareAll {A = A} Is pair s xs t = Chain {S = Members × Place} {A = A} (Declares Is pair) s xs t

pieces_of : {A : Type 0} (Is : List ℕ → A → Type 0) (pair : A → Pair) (xs : List A) (s t : Members × Place) → DeclareAll Is pair s xs t
    → Chain {S = Place} {A = A} (StartsWith Is) s.1 xs t.1 × AreNew s.0 (pairs_of pair xs)
pieces_of Is pair [] s t c = (ap (λ (z : Members × Place). z.1) c, tt)
pieces_of {A} Is pair (x ∷ xs) s t c =
    let others = pieces_of Is pair xs c.0 t c.2 in
    ((c.0.1, c.1.0, others.0), (c.1.2, subst (λ (ms : Members). AreNew ms (pairs_of pair xs)) c.1.1 others.1))

declared_all : {A : Type 0} (Is : List ℕ → A → Type 0) (pair : A → Pair) (xs : List A) (before : Members) (place next : Place) → Chain {S = Place} {A = A} (StartsWith Is) place xs next → AreNew before (pairs_of pair xs)
    → (after : Members) × DeclareAll Is pair (before, place) xs (after, next)
declared_all Is pair [] before place next c new = (before, ap (λ (p : Place). let z : Members × Place = (before, p) in z) c)
declared_all {A} Is pair (x ∷ xs) before place next c new =
    let others = declared_all Is pair xs (before ++ pair x ∷ []) c.0 next c.2 new.1 in
    (others.0, ((before ++ pair x ∷ [], c.0), (c.1, refl, new.0), others.1))

-- a count and so many members, of which no two are the same
abbrev pub AreMembers : {A : Type 0} → (List ℕ → A → Type 0) → (A → Pair) → List ℕ → List A → Type 0
AreMembers Is pair bytes xs = Counted Is bytes xs × AreDistinct (pairs_of pair xs)

pub members_reader : {A : Type 0} {read : Members × Place → Met (A × (Members × Place))} {Is : List ℕ → A → Type 0} {pair : A → Pair} (one : ReadsFrom read BytesBehind (Declares Is pair)) → IsReader (members_at read) (AreMembers Is pair)
unfolding members_at
members_reader {A} {read} {Is} {pair} one = record {
  takes = λ place xs next fits p.
      let count = took (num_reader 2) place _ (xs, next) fits p in
      let all = stepped (times (pushed {A = A} {S = Members × Place} read) count.value ([], ([], count.next))) _ (xs, next) count.others in
      let many = many_take one count.value ([], count.next) all.0.0 all.0.1 count.fits all.1 in
      let pieces = pieces_of Is pair all.0.0 ([], count.next) all.0.1 many.chain in
      let sized = subst (λ (k : ℕ). StartsWith (IsNumber 2) place k count.next) (sym many.sized) count.starts in
      let made = counted_made (record { count = sized; others = chain_each Is all.0.0 count.next all.0.1.1 pieces.0 }) in
      let here : StartsWith (AreMembers Is pair) place all.0.0 all.0.1.1 = starts (AreMembers Is pair) all.0.0 made.piece (spanned made) (made.is, new_distinct (pairs_of pair all.0.0) pieces.1) in
      carried (λ z. StartsWith (AreMembers Is pair) place z.0 z.1) (all.0.0, all.0.1.1) (xs, next) all.2 here;
  again = λ place xs next s.
      let spans = rewritten s.is.0.parts (spanned s) in
      let front : List ℕ = big_bytes 2 (length xs) in
      let middle : Place = middle_of place front s.is.0.pieces next in
      let chain = each_chain Is xs s.is.0.pieces middle next s.is.0.each (second_of_two front s.is.0.pieces spans) in
      let all = declared_all Is pair xs [] middle next chain (distinct_new (pairs_of pair xs) s.is.1) in
      takes_first (num_reader 2) (length xs) front s.is.0.pieces _ spans (refl, s.is.0.short)
      (steps _ (many_again one ([], middle) xs (all.0, next) all.1) (refl, refl));
}
