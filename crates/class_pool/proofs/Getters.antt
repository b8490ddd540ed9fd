-- In a pool that is linked an index of a kind has what the kind names.
use Rattle.std.proofs.Common.{◌≡◌, ◌↔◌, ℕ, zero, suc, List, [], ◌∷◌, Option, Some, None, is_some, refl, sym, ap, subst, ◌∙◌}
use Rattle.std.specs.Prelude.{IsSome, option_and_then, option_map, slice_get}
use Rattle.std.specs.List.{AllByRecursion}
use Rattle.class_pool.specs.declared.constant.Constant.{Constant}
use Rattle.class_pool.specs.declared.constant.Constant.TheVariants.{Class, Fieldref, Methodref, InterfaceMethodref, NameAndType}
use Rattle.class_pool.specs.Pool.{constant_at, utf8_at, class_of, class_name_at, named_of, texts_at, name_and_type_at, member_of, member_texts, member_at, IsLinked, IsLinkedSlot}

abbrev pub Slots : Type 0
Slots = List (Option Constant)

abbrev pub AreLinked : Slots → Type 0
AreLinked pool = AllByRecursion (IsLinkedSlot pool) pool

slot_there : (pool slots : Slots) (i : ℕ) (entry : Constant) → AllByRecursion (IsLinkedSlot pool) slots → option_and_then (λ slot. slot) (slice_get slots i) ≡ Some entry → IsLinked pool entry
slot_there pool [] i entry h e = absurd cc
slot_there pool (slot ∷ slots) zero entry h e = subst (IsLinkedSlot pool) e h.0
slot_there pool (slot ∷ slots) (suc i) entry h e = slot_there pool slots i entry h.1 e

entry_there : (pool : Slots) (index : ℕ) (entry : Constant) → AreLinked pool → constant_at pool index ≡ Some entry → IsLinked pool entry
entry_there pool zero entry h e = absurd cc
entry_there pool (suc i) entry h e = slot_there pool pool i entry h e

-- two that are there
both_there : {A B C : Type 0} (a : Option A) (b : Option B) (f : A → B → C) → IsSome a → IsSome b → IsSome (option_and_then (λ x. option_map (f x) b) a)
both_there (Some a) (Some b) f h k = refl
both_there (Some a) None f h k = k
both_there None b f h k = h

class_there : (pool : Slots) (o : Option Constant) → ((entry : Constant) → o ≡ Some entry → IsLinked pool entry) → IsSome (class_of o) → IsSome (option_and_then (utf8_at pool) (class_of o))
class_there pool None h k = k
class_there pool (Some (Class name)) h k = h (Class name) refl
class_there pool (Some other) h k = absurd cc

named_there : (pool : Slots) (o : Option Constant) → ((entry : Constant) → o ≡ Some entry → IsLinked pool entry) → IsSome (named_of o) → IsSome (option_and_then (texts_at pool) (named_of o))
named_there pool None h k = k
named_there pool (Some (NameAndType name descriptor)) h k = let is = h (NameAndType name descriptor) refl in both_there (utf8_at pool name) (utf8_at pool descriptor) (λ m n. (m, n)) is.0 is.1
named_there pool (Some other) h k = absurd cc

class_name_there : (pool : Slots) (index : ℕ) → AreLinked pool → IsSome (class_of (constant_at pool index)) → IsSome (class_name_at pool index)
class_name_there pool index h = class_there pool (constant_at pool index) (λ entry e. entry_there pool index entry h e)

names_there : (pool : Slots) (index : ℕ) → AreLinked pool → IsSome (named_of (constant_at pool index)) → IsSome (name_and_type_at pool index)
names_there pool index h = named_there pool (constant_at pool index) (λ entry e. entry_there pool index entry h e)

reference_there : (pool : Slots) (tag class member : ℕ) → AreLinked pool → IsSome (class_of (constant_at pool class)) × IsSome (named_of (constant_at pool member)) → IsSome (member_texts pool (tag, class, member))
reference_there pool tag class member h is =
    both_there (class_name_at pool class) (name_and_type_at pool member) (λ c n. (tag, c, n.0, n.1)) (class_name_there pool class h is.0) (names_there pool member h is.1)

member_there : (pool : Slots) (o : Option Constant) → AreLinked pool → ((entry : Constant) → o ≡ Some entry → IsLinked pool entry) → IsSome (member_of o) → IsSome (option_and_then (member_texts pool) (member_of o))
member_there pool None linked h k = k
member_there pool (Some (Fieldref class member)) linked h k = reference_there pool 9 class member linked (h (Fieldref class member) refl)
member_there pool (Some (Methodref class member)) linked h k = reference_there pool 10 class member linked (h (Methodref class member) refl)
member_there pool (Some (InterfaceMethodref class member)) linked h k = reference_there pool 11 class member linked (h (InterfaceMethodref class member) refl)
member_there pool (Some other) linked h k = absurd cc

-- what is looked up further was there
was_there : {A B : Type 0} (f : A → Option B) (o : Option A) → IsSome (option_and_then f o) → IsSome o
was_there f (Some x) h = refl
was_there f None h = h

-- a view of an option is there where the option is
viewed : {A B : Type 0} (f : A → B) (r : Option A) (o : Option B) → option_map f r ≡ o → is_some r ≡ is_some o
viewed f (Some x) o e = ap is_some e
viewed f None o e = ap is_some e

pub class_kind : {A : Type 0} (f : A → List ℕ) (r : Option A) (pool : Slots) (index : ℕ) → AreLinked pool → option_map f r ≡ class_name_at pool index → IsSome r ↔ IsSome (class_of (constant_at pool index))
class_kind f r pool index h e =
    let same = viewed f r (class_name_at pool index) e in
    (λ some. was_there (utf8_at pool) (class_of (constant_at pool index)) (sym same ∙ some), λ some. same ∙ class_name_there pool index h some)

pub named_kind : {A : Type 0} (f : A → List ℕ × List ℕ) (r : Option A) (pool : Slots) (index : ℕ) → AreLinked pool → option_map f r ≡ name_and_type_at pool index → IsSome r ↔ IsSome (named_of (constant_at pool index))
named_kind f r pool index h e =
    let same = viewed f r (name_and_type_at pool index) e in
    (λ some. was_there (texts_at pool) (named_of (constant_at pool index)) (sym same ∙ some), λ some. same ∙ names_there pool index h some)

pub member_kind : {A : Type 0} (f : A → ℕ × List ℕ × List ℕ × List ℕ) (r : Option A) (pool : Slots) (index : ℕ) → AreLinked pool → option_map f r ≡ member_at pool index → IsSome r ↔ IsSome (member_of (constant_at pool index))
member_kind f r pool index h e =
    let same = viewed f r (member_at pool index) e in
    (λ some. was_there (member_texts pool) (member_of (constant_at pool index)) (sym same ∙ some), λ some. same ∙ member_there pool (constant_at pool index) h (λ entry e. entry_there pool index entry h e) some)
