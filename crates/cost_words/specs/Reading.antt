-- Words that are read in order.
use Rattle.std.specs.Prelude.{◌≡◌, ℕ, List, Result, Ok, Err, map, string_bytes, String}
use Rattle.std.specs.declared.alloc.Global.{Global}
use Rattle.cost_words.specs.declared.fault.WordFault.{WordFault}
use Rattle.cost_words.specs.declared.fault.WordFault.TheVariants.{Memory, Wrong}
use Rattle.cost_words.specs.declared.fault.WordKind.{WordKind}

-- the bytes of each word
abbrev pub words_of : List (String Global) → List (List ℕ)
words_of words = map string_bytes words

-- the words that are left, and the index of the first of them
pub record Left : Type 0 where
  pub index : ℕ
  pub words : List (List ℕ)

abbrev pub left : ℕ → List (List ℕ) → Left
left index words = record { index = index; words = words }

-- the word with this index is wrong
abbrev pub wrong : {A : Type 0} → WordKind → ℕ → Result A WordFault
wrong kind index = Err (Wrong kind index)

infixl 10 ◌>>=◌
abbrev pub ◌>>=◌ : {A B : Type 0} → Result A WordFault → (A → Result B WordFault) → Result B WordFault
(Ok x) >>= f = f x
(Err e) >>= f = Err e

abbrev pub Fails : {B : Type 0} → WordFault → Result B WordFault → Type 0
Fails Memory meaning = Unit {0}
Fails (Wrong kind index) meaning = meaning ≡ Err (Wrong kind index)

-- what was read, as it is seen, is what the words mean, unless memory ran out
abbrev pub Reads : {A B : Type 0} → (A → B) → Result A WordFault → Result B WordFault → Type 0
Reads view (Ok x) meaning = meaning ≡ Ok (view x)
Reads view (Err e) meaning = Fails e meaning
