-- The order of kinds, by its cases, and that a join is the least kind above two.
use Rattle.std.proofs.Common.{◌≡◌, ◌⊎◌, inl, inr, ℕ, ◌<◌, ◌≤◌, Bool, true, false, List, refl, sym, subst, arith}
use Rattle.std.specs.Prelude.{if◌then◌else◌}
use Rattle.std.specs.Str.{bytes_eq}
use Rattle.std.proofs.lemmas.Slice.Eq.{bytes_eq-Decides}
use Rattle.slot_facts.specs.declared.kind.Kind.{Kind}
use Rattle.slot_facts.specs.declared.kind.Kind.TheVariants as kinds
use Rattle.kind_frames.specs.Kinds.{is_same, joined, is_below}

-- how one kind lies below another
pub data Below : Kind → Kind → Type 0 where
  itself : {a : Kind} → Below a a
  to_top : {a : Kind} → Below a kinds.Top
  null_array : {element : List ℕ} → Below kinds.Null (kinds.Arr element)
  null_object : Below kinds.Null kinds.Obj
  array_object : {element : List ℕ} → Below (kinds.Arr element) kinds.Obj

same_bytes : (e : List ℕ) → bytes_eq e e ≡ true
same_bytes e = (bytes_eq-Decides e e).1 refl

bytes_are : (e f : List ℕ) → bytes_eq e f ≡ true → e ≡ f
bytes_are e f eq = (bytes_eq-Decides e f).0 eq

arrays_below : (e f : List ℕ) (same : Bool) → bytes_eq e f ≡ same → is_same (if same then kinds.Arr e else kinds.Obj) (kinds.Arr f) ≡ true → Below (kinds.Arr e) (kinds.Arr f)
arrays_below e f true eq h = subst (λ k. Below (kinds.Arr e) (kinds.Arr k)) (bytes_are e f eq) itself
arrays_below e f false eq h = absurd cc

pub below_is : (a b : Kind) → is_below a b ≡ true → Below a b
below_is kinds.Int kinds.Int h = itself
below_is kinds.Int kinds.Long h = absurd cc
below_is kinds.Int kinds.Pad h = absurd cc
below_is kinds.Int (kinds.Arr f) h = absurd cc
below_is kinds.Int kinds.Obj h = absurd cc
below_is kinds.Int kinds.Null h = absurd cc
below_is kinds.Int kinds.Top h = to_top
below_is kinds.Long kinds.Int h = absurd cc
below_is kinds.Long kinds.Long h = itself
below_is kinds.Long kinds.Pad h = absurd cc
below_is kinds.Long (kinds.Arr f) h = absurd cc
below_is kinds.Long kinds.Obj h = absurd cc
below_is kinds.Long kinds.Null h = absurd cc
below_is kinds.Long kinds.Top h = to_top
below_is kinds.Pad kinds.Int h = absurd cc
below_is kinds.Pad kinds.Long h = absurd cc
below_is kinds.Pad kinds.Pad h = itself
below_is kinds.Pad (kinds.Arr f) h = absurd cc
below_is kinds.Pad kinds.Obj h = absurd cc
below_is kinds.Pad kinds.Null h = absurd cc
below_is kinds.Pad kinds.Top h = to_top
below_is (kinds.Arr e) kinds.Int h = absurd cc
below_is (kinds.Arr e) kinds.Long h = absurd cc
below_is (kinds.Arr e) kinds.Pad h = absurd cc
below_is (kinds.Arr e) (kinds.Arr f) h = arrays_below e f (bytes_eq e f) refl h
below_is (kinds.Arr e) kinds.Obj h = array_object
below_is (kinds.Arr e) kinds.Null h = absurd cc
below_is (kinds.Arr e) kinds.Top h = to_top
below_is kinds.Obj kinds.Int h = absurd cc
below_is kinds.Obj kinds.Long h = absurd cc
below_is kinds.Obj kinds.Pad h = absurd cc
below_is kinds.Obj (kinds.Arr f) h = absurd cc
below_is kinds.Obj kinds.Obj h = itself
below_is kinds.Obj kinds.Null h = absurd cc
below_is kinds.Obj kinds.Top h = to_top
below_is kinds.Null kinds.Int h = absurd cc
below_is kinds.Null kinds.Long h = absurd cc
below_is kinds.Null kinds.Pad h = absurd cc
below_is kinds.Null (kinds.Arr f) h = null_array
below_is kinds.Null kinds.Obj h = null_object
below_is kinds.Null kinds.Null h = itself
below_is kinds.Null kinds.Top h = to_top
below_is kinds.Top kinds.Int h = absurd cc
below_is kinds.Top kinds.Long h = absurd cc
below_is kinds.Top kinds.Pad h = absurd cc
below_is kinds.Top (kinds.Arr f) h = absurd cc
below_is kinds.Top kinds.Obj h = absurd cc
below_is kinds.Top kinds.Null h = absurd cc
below_is kinds.Top kinds.Top h = to_top

same_is : (a : Kind) → is_below a a ≡ true
same_is kinds.Int = refl
same_is kinds.Long = refl
same_is kinds.Pad = refl
same_is (kinds.Arr e) = rw (same_bytes e) (same_bytes e)
same_is kinds.Obj = refl
same_is kinds.Null = refl
same_is kinds.Top = refl

pub is_below_of : {a b : Kind} → Below a b → is_below a b ≡ true
is_below_of {a = a} itself = same_is a
is_below_of {a = a} to_top = all_below_top a
  where
    all_below_top : (a : Kind) → is_below a kinds.Top ≡ true
    all_below_top kinds.Int = refl
    all_below_top kinds.Long = refl
    all_below_top kinds.Pad = refl
    all_below_top (kinds.Arr e) = refl
    all_below_top kinds.Obj = refl
    all_below_top kinds.Null = refl
    all_below_top kinds.Top = refl
is_below_of (null_array {element = e}) = same_bytes e
is_below_of null_object = refl
is_below_of array_object = refl

top_alone : (a : Kind) → is_below kinds.Top a ≡ true → a ≡ kinds.Top
top_alone kinds.Int h = absurd cc
top_alone kinds.Long h = absurd cc
top_alone kinds.Pad h = absurd cc
top_alone (kinds.Arr e) h = absurd cc
top_alone kinds.Obj h = absurd cc
top_alone kinds.Null h = absurd cc
top_alone kinds.Top h = refl

pub antisymmetric : {a b : Kind} → Below a b → is_below b a ≡ true → a ≡ b
antisymmetric itself h = refl
antisymmetric {a = a} to_top h = top_alone a h
antisymmetric null_array h = absurd cc
antisymmetric null_object h = absurd cc
antisymmetric array_object h = absurd cc

pub transitive : {a b c : Kind} → Below a b → Below b c → Below a c
transitive itself q = q
transitive to_top itself = to_top
transitive to_top to_top = to_top
transitive null_array itself = null_array
transitive null_array to_top = to_top
transitive null_array array_object = null_object
transitive null_object itself = null_object
transitive null_object to_top = to_top
transitive array_object itself = array_object
transitive array_object to_top = to_top

-- ---- joins

joined_with_itself : (a : Kind) → joined a a ≡ a
joined_with_itself kinds.Int = refl
joined_with_itself kinds.Long = refl
joined_with_itself kinds.Pad = refl
joined_with_itself (kinds.Arr e) = rw (same_bytes e) refl
joined_with_itself kinds.Obj = refl
joined_with_itself kinds.Null = refl
joined_with_itself kinds.Top = refl

-- the upper of two is their join, in either order
pub joined_above : {a b : Kind} → Below b a → joined a b ≡ a
joined_above {a = a} itself = joined_with_itself a
joined_above to_top = refl
joined_above null_array = refl
joined_above null_object = refl
joined_above array_object = refl

arrays_left : (e f : List ℕ) (same : Bool) → Below (kinds.Arr e) (if same then kinds.Arr e else kinds.Obj)
arrays_left e f true = itself
arrays_left e f false = array_object

arrays_right : (e f : List ℕ) (same : Bool) → bytes_eq e f ≡ same → Below (kinds.Arr f) (if same then kinds.Arr e else kinds.Obj)
arrays_right e f true eq = subst (λ k. Below (kinds.Arr k) (kinds.Arr e)) (bytes_are e f eq) itself
arrays_right e f false eq = array_object

pub left_below : (a b : Kind) → Below a (joined a b)
left_below kinds.Int kinds.Int = itself
left_below kinds.Int kinds.Long = to_top
left_below kinds.Int kinds.Pad = to_top
left_below kinds.Int (kinds.Arr f) = to_top
left_below kinds.Int kinds.Obj = to_top
left_below kinds.Int kinds.Null = to_top
left_below kinds.Int kinds.Top = to_top
left_below kinds.Long kinds.Int = to_top
left_below kinds.Long kinds.Long = itself
left_below kinds.Long kinds.Pad = to_top
left_below kinds.Long (kinds.Arr f) = to_top
left_below kinds.Long kinds.Obj = to_top
left_below kinds.Long kinds.Null = to_top
left_below kinds.Long kinds.Top = to_top
left_below kinds.Pad kinds.Int = to_top
left_below kinds.Pad kinds.Long = to_top
left_below kinds.Pad kinds.Pad = itself
left_below kinds.Pad (kinds.Arr f) = to_top
left_below kinds.Pad kinds.Obj = to_top
left_below kinds.Pad kinds.Null = to_top
left_below kinds.Pad kinds.Top = to_top
left_below (kinds.Arr e) kinds.Int = to_top
left_below (kinds.Arr e) kinds.Long = to_top
left_below (kinds.Arr e) kinds.Pad = to_top
left_below (kinds.Arr e) (kinds.Arr f) = arrays_left e f (bytes_eq e f)
left_below (kinds.Arr e) kinds.Obj = array_object
left_below (kinds.Arr e) kinds.Null = itself
left_below (kinds.Arr e) kinds.Top = to_top
left_below kinds.Obj kinds.Int = to_top
left_below kinds.Obj kinds.Long = to_top
left_below kinds.Obj kinds.Pad = to_top
left_below kinds.Obj (kinds.Arr f) = itself
left_below kinds.Obj kinds.Obj = itself
left_below kinds.Obj kinds.Null = itself
left_below kinds.Obj kinds.Top = to_top
left_below kinds.Null kinds.Int = to_top
left_below kinds.Null kinds.Long = to_top
left_below kinds.Null kinds.Pad = to_top
left_below kinds.Null (kinds.Arr f) = null_array
left_below kinds.Null kinds.Obj = null_object
left_below kinds.Null kinds.Null = itself
left_below kinds.Null kinds.Top = to_top
left_below kinds.Top b = itself

pub right_below : (a b : Kind) → Below b (joined a b)
right_below kinds.Int kinds.Int = itself
right_below kinds.Int kinds.Long = to_top
right_below kinds.Int kinds.Pad = to_top
right_below kinds.Int (kinds.Arr f) = to_top
right_below kinds.Int kinds.Obj = to_top
right_below kinds.Int kinds.Null = to_top
right_below kinds.Int kinds.Top = itself
right_below kinds.Long kinds.Int = to_top
right_below kinds.Long kinds.Long = itself
right_below kinds.Long kinds.Pad = to_top
right_below kinds.Long (kinds.Arr f) = to_top
right_below kinds.Long kinds.Obj = to_top
right_below kinds.Long kinds.Null = to_top
right_below kinds.Long kinds.Top = itself
right_below kinds.Pad kinds.Int = to_top
right_below kinds.Pad kinds.Long = to_top
right_below kinds.Pad kinds.Pad = itself
right_below kinds.Pad (kinds.Arr f) = to_top
right_below kinds.Pad kinds.Obj = to_top
right_below kinds.Pad kinds.Null = to_top
right_below kinds.Pad kinds.Top = itself
right_below (kinds.Arr e) kinds.Int = to_top
right_below (kinds.Arr e) kinds.Long = to_top
right_below (kinds.Arr e) kinds.Pad = to_top
right_below (kinds.Arr e) (kinds.Arr f) = arrays_right e f (bytes_eq e f) refl
right_below (kinds.Arr e) kinds.Obj = itself
right_below (kinds.Arr e) kinds.Null = null_array
right_below (kinds.Arr e) kinds.Top = itself
right_below kinds.Obj kinds.Int = to_top
right_below kinds.Obj kinds.Long = to_top
right_below kinds.Obj kinds.Pad = to_top
right_below kinds.Obj (kinds.Arr f) = array_object
right_below kinds.Obj kinds.Obj = itself
right_below kinds.Obj kinds.Null = null_object
right_below kinds.Obj kinds.Top = itself
right_below kinds.Null kinds.Int = to_top
right_below kinds.Null kinds.Long = to_top
right_below kinds.Null kinds.Pad = to_top
right_below kinds.Null (kinds.Arr f) = itself
right_below kinds.Null kinds.Obj = itself
right_below kinds.Null kinds.Null = itself
right_below kinds.Null kinds.Top = itself
right_below kinds.Top b = to_top

arrays_least : (e f : List ℕ) (same : Bool) → Below (if same then kinds.Arr e else kinds.Obj) kinds.Obj
arrays_least e f true = array_object
arrays_least e f false = itself

pub least : {a b c : Kind} → Below a c → Below b c → Below (joined a b) c
least {a = a} itself q = subst (λ k. Below k a) (sym (joined_above q)) itself
least to_top q = to_top
least null_array itself = itself
least null_array null_array = null_array
least null_object itself = itself
least null_object null_object = null_object
least null_object array_object = array_object
least array_object itself = itself
least array_object null_object = array_object
least (array_object {element = e}) (array_object {element = f}) = arrays_least e f (bytes_eq e f)

-- ---- how often a kind can rise

abbrev pub level : Kind → ℕ
level kinds.Int = 2
level kinds.Long = 2
level kinds.Pad = 2
level (kinds.Arr element) = 1
level kinds.Obj = 2
level kinds.Null = 0
level kinds.Top = 3

top_level : (a : Kind) → ((a ≡ kinds.Top) ⊎ (level a < 3)) × (level a ≤ 3)
top_level kinds.Int = (inr (omega arith), omega arith)
top_level kinds.Long = (inr (omega arith), omega arith)
top_level kinds.Pad = (inr (omega arith), omega arith)
top_level (kinds.Arr e) = (inr (omega arith), omega arith)
top_level kinds.Obj = (inr (omega arith), omega arith)
top_level kinds.Null = (inr (omega arith), omega arith)
top_level kinds.Top = (inl refl, omega arith)

-- a kind below another is that one, or has a lower level
pub level_rises : {a b : Kind} → Below a b → ((a ≡ b) ⊎ (level a < level b)) × (level a ≤ level b)
level_rises itself = (inl refl, omega arith)
level_rises {a = a} to_top = top_level a
level_rises null_array = (inr (omega arith), omega arith)
level_rises null_object = (inr (omega arith), omega arith)
level_rises array_object = (inr (omega arith), omega arith)
