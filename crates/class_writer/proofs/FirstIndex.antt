-- The first index that names a text names it.
use Rattle.std.proofs.Common.{◌≡◌, ℕ, zero, suc, ◌+◌, ◌^◌, ◌<◌, Bool, true, false, cond, List, [], ◌∷◌, length, Option, Some, None, refl, sym, ap, ◌∙◌, arith}
use Rattle.std.specs.Prelude.{slice_get, option_and_then}
use Rattle.std.proofs.lemmas.Slice.Eq.{bytes_eq-Decides}
use Rattle.byteorder.specs.Endian.{big_bytes}
use Rattle.class_pool.specs.declared.constant.Constant.{Constant}
use Rattle.class_pool.specs.Pool.{text_of, constant_at, utf8_at, class_name_at}
use Rattle.class_reader.specs.ClassFile.{IsIndex}
use Rattle.class_reader.specs.Valid.{HasIndex}
use Rattle.class_writer.specs.Writing.{is_named, index_from, utf8_index, class_name_of, class_index}

abbrev NameOf : Type 0
NameOf = Option Constant → Option (List ℕ)

-- a slot with the name
record Names (name_of : NameOf) (x : List ℕ) (slots : List (Option Constant)) (i : ℕ) : Type 0 where
  slot : Option Constant
  at : slice_get slots i ≡ Some slot
  named : name_of slot ≡ Some x

-- the first one, from an index on
record First (name_of : NameOf) (x : List ℕ) (slots : List (Option Constant)) (from found : ℕ) : Type 0 where
  i : ℕ
  within : i < length slots
  names : Names name_of x slots i
  index : found ≡ from + i

named_is : (x : List ℕ) (found : Option (List ℕ)) → is_named x found ≡ true → found ≡ Some x
named_is x None e = absurd cc
named_is x (Some text) e = ap (λ (t : List ℕ). Some t) ((bytes_eq-Decides text x).0 e)

is_its_name : (x : List ℕ) (found : Option (List ℕ)) → found ≡ Some x → is_named x found ≡ true
is_its_name x found e = ap (is_named x) e ∙ (bytes_eq-Decides x x).1 refl

first_at : (here : Bool) (name_of : NameOf) (x : List ℕ) (slot : Option Constant) (slots : List (Option Constant)) (from : ℕ) → is_named x (name_of slot) ≡ here
    → (here ≡ false → First name_of x slots (suc from) (index_from name_of x (suc from) slots)) → First name_of x (slot ∷ slots) from (cond here from (index_from name_of x (suc from) slots))
first_at true name_of x slot slots from e behind = record { i = 0; within = omega arith; names = record { slot = slot; at = refl; named = named_is x (name_of slot) e }; index = omega arith }
first_at false name_of x slot slots from e behind =
    let b = behind refl in
    record { i = suc b.i; within = omega (arith, b.within); names = record { slot = b.names.slot; at = b.names.at; named = b.names.named }; index = omega (arith, b.index) }

slot_is : (a b : Option Constant) → Some a ≡ Some b → a ≡ b
slot_is a b e = cc

first_found : (name_of : NameOf) (x : List ℕ) (slots : List (Option Constant)) (from i : ℕ) → Names name_of x slots i → First name_of x slots from (index_from name_of x from slots)
first_found name_of x [] from i n = absurd (let no = n.at in cc)
first_found name_of x (slot ∷ slots) from zero n =
    let here : is_named x (name_of slot) ≡ true = is_its_name x (name_of slot) (ap name_of (slot_is slot n.slot n.at) ∙ n.named) in
    first_at (is_named x (name_of slot)) name_of x slot slots from refl (λ no. absurd (let both = sym no ∙ here in cc))
first_found name_of x (slot ∷ slots) from (suc i) n =
    first_at (is_named x (name_of slot)) name_of x slot slots from refl (λ no. first_found name_of x slots (suc from) i (record { slot = n.slot; at = n.at; named = n.named }))

-- ---- what an index names

some_of : (slot : Option (Option Constant)) (name_of : NameOf) (x : List ℕ) → name_of None ≡ None → name_of (option_and_then (λ slot. slot) slot) ≡ Some x → (s : Option Constant) × (slot ≡ Some s) × (name_of s ≡ Some x)
some_of None name_of x none e = absurd (let no = sym none ∙ e in cc)
some_of (Some s) name_of x none e = (s, refl, e)

slot_of : (name_of : NameOf) (x : List ℕ) (pool : List (Option Constant)) (index : ℕ) → name_of None ≡ None → name_of (constant_at pool index) ≡ Some x → (i : ℕ) × Names name_of x pool i
slot_of name_of x pool zero none e = absurd (let no = sym none ∙ e in cc)
slot_of name_of x pool (suc i) none e = let s = some_of (slice_get pool i) name_of x none e in (i, record { slot = s.0; at = s.1; named = s.2 })

-- the first index with a name that some index has
first_named : (name_of : NameOf) (x : List ℕ) (pool : List (Option Constant)) → name_of None ≡ None → length pool + 1 < 2 ^ 16 → HasIndex (λ i. name_of (constant_at pool i)) x
    → IsIndex (λ i. name_of (constant_at pool i)) (big_bytes 2 (index_from name_of x 1 pool)) x
first_named name_of x pool none room has =
    let n = slot_of name_of x pool has.0 none has.2 in
    let f = first_found name_of x pool 1 n.0 n.1 in
    let is : index_from name_of x 1 pool ≡ suc f.i = omega (arith, f.index) in
    let here : name_of (constant_at pool (suc f.i)) ≡ Some x = ap (λ (o : Option (Option Constant)). name_of (option_and_then (λ slot. slot) o)) f.names.at ∙ f.names.named in
    (index_from name_of x 1 pool, omega (arith, f.index, f.within, room), refl, ap (λ (i : ℕ). name_of (constant_at pool i)) is ∙ here)

pub utf8_indexed : (pool : List (Option Constant)) (x : List ℕ) → length pool + 1 < 2 ^ 16 → HasIndex (utf8_at pool) x → IsIndex (utf8_at pool) (utf8_index pool x) x
utf8_indexed pool x room has = first_named text_of x pool refl room has

pub class_indexed : (pool : List (Option Constant)) (x : List ℕ) → length pool + 1 < 2 ^ 16 → HasIndex (class_name_at pool) x → IsIndex (class_name_at pool) (class_index pool x) x
class_indexed pool x room has = first_named (class_name_of pool) x pool refl room has
