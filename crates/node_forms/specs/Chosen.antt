-- Which part each rule has: how far dead rules and gates reach, exactly.
use Rattle.std.specs.Prelude.{◌≡◌, ℕ, ◌<◌, ◌≤◌, List, length, take}
use Rattle.q128.specs.Fraction.{Fraction, IsAtMost}
use Rattle.lin_rows.specs.Linear.{Linear}
use Rattle.lin_rows.specs.Rows.{lins}
use Rattle.rule_terms.specs.declared.item.Item.{Item}
use Rattle.small_cert.specs.Small.{IsSmall, IsReached, falsehood}
use Rattle.rankings.specs.SelfCalls.{rows_of}
use Rattle.rankings.specs.Entailment.{Entails, AreContradictory}
use Rattle.rankings.specs.Rankings.{raised}
use Rattle.node_forms.specs.Parts.{Part, Dead, Leaf, Gate, self_calls}
use Rattle.node_forms.specs.Forms.{Ranking}

-- what is asked of the rows of a front of a rule
abbrev pub RowsTest : Type 1
RowsTest = List Linear → Type 0

abbrev pub front_rows : List Item → ℕ → List Linear
front_rows items p = lins (rows_of (take p items))

-- p is the least number that passes
pub record IsFirstNumber (passes : ℕ → Type 0) (p : ℕ) : Type 0 where
  pub is : passes p
  pub least : (q : ℕ) → q < p → passes q → ⊥

-- the first p items, none of them a self call, ask for rows that contradict each other
pub record DiesAt (dies : RowsTest) (self : ℕ) (items : List Item) (p : ℕ) : Type 0 where
  pub within : p ≤ length items
  pub no_self_call : self_calls self (take p items) ≡ 0
  pub dead : dies (front_rows items p)

pub record OpensAt (opens : RowsTest) (items : List Item) (p : ℕ) : Type 0 where
  pub within : p ≤ length items
  pub opened : opens (front_rows items p)

abbrev pub NeverDies : RowsTest → ℕ → List Item → Type 0
NeverDies dies self items = (p : ℕ) → DiesAt dies self items p → ⊥

pub data IsPart (dies opens : RowsTest) (self : ℕ) (items : List Item) : Part → Type 0 where
  dead : {p : ℕ} → IsFirstNumber (DiesAt dies self items) p → IsPart dies opens self items (Dead p)
  leaf : NeverDies dies self items → self_calls self items ≡ 0 → IsPart dies opens self items Leaf
  gate : {p : ℕ} → NeverDies dies self items → 0 < self_calls self items → IsFirstNumber (OpensAt opens items) p → IsPart dies opens self items (Gate p)

-- ---- the two tests
-- where the ranking is small, or there is none: by small sums. The gate is f + c as they are before they are made whole.
abbrev pub SmallDies : RowsTest
SmallDies rows = IsSmall rows falsehood

abbrev pub SmallOpens : Linear → Fraction → RowsTest
SmallOpens f c rows = (x : Fraction) × IsReached rows f x × IsAtMost x c

-- else: over rational points
abbrev pub Dies : RowsTest
Dies rows = AreContradictory rows

abbrev pub Opens : Ranking → RowsTest
Opens r rows = Entails rows (raised r.f r.c)
