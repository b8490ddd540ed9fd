-- What is known of the texts of a pool and of the members that they name, so that each text is looked at once.
use Rattle.std.specs.Prelude.{◌≡◌, ℕ, zero, suc, ◌<◌, ◌&&◌, Bool, true, false, List, Option, Some, None, IsSome, is_none, option_and_then, option_map, map, slice_get, if◌then◌else◌}
use Rattle.std.specs.List.{list_any}
use Rattle.std.specs.Str.{bytes_eq}
use Rattle.std.specs.Ordering.{nat_cmp, ordering_then}
use Rattle.std.specs.declared.cmp.Ordering.{Ordering}
use Rattle.std.specs.Cmp.Lexicographic.{slice_cmp}
use Rattle.std.specs.BTreeMap as tree
use Rattle.std.specs.BTreeMap.{BTreeMap, is_at}
use Rattle.std.specs.Borrow.{Bor}
use Rattle.class_pool.specs.declared.constant.Constant.{Constant}
use Rattle.class_pool.specs.Pool.{text_of, utf8_at}
use Rattle.class_reader.specs.declared.texts.TextFacts.{TextFacts}
use Rattle.descriptors.specs.Tests.{describes, is_field}
use Rattle.class_reader.specs.ClassReading.{Members, or_empty, is_pair}

-- ---- the texts

-- where the text stands first, and of what it is a descriptor
abbrev pub facts_of : ℕ → List ℕ → TextFacts
facts_of first text = record { first = first; is_field = is_field text; is_method = describes false text; is_static_method = describes true text }

abbrev pub slot_facts : (List ℕ → ℕ) → Option Constant → Option TextFacts
slot_facts first slot = option_map (λ text. facts_of (first text) text) (text_of slot)

-- what is known of the text with this index
abbrev pub facts_at : List (Option TextFacts) → ℕ → Option TextFacts
facts_at facts zero = None
facts_at facts (suc i) = option_and_then (λ known. known) (slice_get facts i)

-- What is known of each index. Of all indices with one text, one is its first.
pub record IsTextTable (pool : List (Option Constant)) (facts : List (Option TextFacts)) : Type 0 where
  pub first : List ℕ → ℕ
  pub are : facts ≡ map (slot_facts first) pool
  pub named : (i : ℕ) (text : List ℕ) → utf8_at pool i ≡ Some text → utf8_at pool (suc (first text)) ≡ Some text

-- ---- where texts stand first

abbrev pub first_in : BTreeMap (Bor (List ℕ)) ℕ → List ℕ → Option ℕ
first_in firsts text = tree.get_by (λ k. slice_cmp nat_cmp text k.now) firsts

-- a text that stands there, if one does, stands there first where it stood nowhere before
abbrev pub NotesFirst : Option (List ℕ) → ℕ → (List ℕ → Option ℕ) → (List ℕ → Option ℕ) → Type 0
NotesFirst None at old new = (other : List ℕ) → new other ≡ old other
NotesFirst (Some text) at old new = (other : List ℕ) → new other ≡ (if bytes_eq text other && is_none (old text) then Some at else old other)

-- each text before the place has a first one, which has the text
pub record HasFirsts (pool : List (Option Constant)) (end : ℕ) (firsts : List ℕ → Option ℕ) : Type 0 where
  pub has : (i : ℕ) (text : List ℕ) → i < end → utf8_at pool (suc i) ≡ Some text → IsSome (firsts text)
  pub named : (text : List ℕ) (at : ℕ) → firsts text ≡ Some at → utf8_at pool (suc at) ≡ Some text

-- ---- the members

-- the texts of two indices
abbrev pub texts_in : List (Option Constant) → ℕ × ℕ → List ℕ × List ℕ
texts_in pool pair = (or_empty (utf8_at pool pair.0), or_empty (utf8_at pool pair.1))

abbrev pub members_in : List (Option Constant) → List (ℕ × ℕ) → Members
members_in pool pairs = map (texts_in pool) pairs

abbrev pub pair_cmp : ℕ × ℕ → ℕ × ℕ → Ordering
pair_cmp a b = ordering_then (nat_cmp a.0 b.0) (nat_cmp a.1 b.1)

-- whether a key is one of them
abbrev pub has_key : List (ℕ × ℕ) → ℕ × ℕ → Bool
has_key keys key = list_any (is_at (pair_cmp key)) keys

-- the keys are those of the members
pub record IsIndexed (pool : List (Option Constant)) (facts : List (Option TextFacts)) (keys : List (ℕ × ℕ)) (pairs : List (ℕ × ℕ)) : Type 0 where
  pub table : IsTextTable pool facts
  pub same : (i j : ℕ) (name desc : List ℕ) → utf8_at pool i ≡ Some name → utf8_at pool j ≡ Some desc → has_key keys (table.first name, table.first desc) ≡ list_any (is_pair name desc) (members_in pool pairs)

-- where the texts of two indices stand first
abbrev pub key_of : List (Option TextFacts) → ℕ × ℕ → Option (ℕ × ℕ)
key_of facts pair = option_and_then (λ name. option_map (λ desc. (name.first, desc.first)) (facts_at facts pair.1)) (facts_at facts pair.0)
