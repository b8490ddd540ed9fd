-- What the search for the first cap keeps.
use Rattle.std.specs.Prelude.{◌≡◌, ◌⊎◌, ℕ, suc, ◌*◌, ◌/◌, ◌<◌, ◌^◌, ℤ, pos, ◌+ℤ◌, ◌-ℤ◌, ◌*ℤ◌, ◌<ℤ◌, List, [], ◌∷◌, length, Option, Some, None}
use Rattle.lin_rows.specs.Linear.{Linear}
use Rattle.lin_rows.specs.Proving.{Multipliers}
use Rattle.lin_rows.specs.Rows.{lins}
use Rattle.small_sums.specs.Keys.{digits, IsResidue}
use Rattle.small_sums.specs.Places.{digits_at}
use Rattle.small_cert.specs.Multiples.{times_of}
use Rattle.small_cert.specs.Order.{key_of, Precedes}
use Rattle.small_caps.specs.Caps.{IsOver, IsCapBy, IsFirst}
use Rattle.small_caps.specs.declared.pick.Front.{Front}
use Rattle.small_caps.specs.declared.pick.Front.TheVariants.{Zero, One, Two}
use Rattle.small_caps.specs.declared.search.Found.{Found}
use Rattle.small_caps.specs.declared.search.Search.{Search}
use Rattle.small_caps.specs.inside.Entries.{IsMasked, AreMasked}
use Rattle.small_caps.specs.inside.Picks.{multipliers_in, IsBehind}

-- ---- the best cap so far
-- it is made by its rows, and its key is kept
pub record IsFoundBy (rows : List Linear) (l : Linear) (entry : List ℕ) (f : Found) : Type 0 where
  pub made : IsCapBy rows l entry f.cap (multipliers_in f.pick.front f.pick.last) (times_of f.multiple)
  pub key : f.key.items ≡ key_of f.cap

abbrev pub IsFound : List Linear → Linear → List ℕ → Option Found → Type 0
IsFound rows l entry None = Unit {0}
IsFound rows l entry (Some f) = IsFoundBy rows l entry f

-- a comes before b
abbrev pub IsEarlier : Linear → Linear → Type 0
IsEarlier a b = Precedes (key_of a) (key_of b) ⊎ ((key_of a ≡ key_of b) × (a.constant <ℤ b.constant))

-- it comes before w
abbrev pub Covers : Option Found → Linear → Type 0
Covers None w = ⊥
Covers (Some f) w = IsFirst f.cap w

-- what one comes before, the other does too
pub record Keeps (before now : Option Found) : Type 0 where
  pub each : (w : Linear) → Covers before w → Covers now w

-- it is found, and comes before what the other one comes before
pub record IsBetter (rows : List Linear) (l : Linear) (entry : List ℕ) (before now : Option Found) : Type 0 where
  pub found : IsFound rows l entry now
  pub keeps : Keeps before now

-- it comes before each cap, where l isn't over entry sizes alone
pub record IsBest (rows : List Linear) (l : Linear) (entry : List ℕ) (best : Option Found) : Type 0 where
  pub found : IsFound rows l entry best
  pub each : (IsOver entry l → ⊥) → (w : Linear) (m : Multipliers) (k : ℤ) → IsCapBy rows l entry w m k → Covers best w

-- What is searched: the caps of l over these entry sizes that the rows make for a multiple.
pub record Question : Type 0 where
  pub rows : List Linear
  pub l : Linear
  pub entry : List ℕ
  pub times : ℤ
  pub masked : List Linear

-- its rows, also without entry sizes
pub record IsReady (q : Question) : Type 0 where
  pub few : length q.rows < 2 ^ 32
  pub are_masked : AreMasked q.entry q.rows q.masked

-- what the code asks
abbrev pub question_of : Search → Question
question_of s = record { rows = lins s.rows.now; l = s.l.now; entry = s.entry.now; times = times_of s.multiple; masked = lins s.index.now }

-- the digits of the rows of places together, without entry sizes
abbrev pub digits_sum : List Linear → List ℕ → ℤ
digits_sum rows [] = pos 0
digits_sum rows (p ∷ ps) = digits_at rows p +ℤ digits_sum rows ps

-- the key of what is left for other rows behind these
pub record IsLeft (q : Question) (places : List ℕ) (key : ℕ) : Type 0 where
  pub own : Linear
  pub own_is : IsMasked q.entry q.l own
  pub residue : IsResidue ((pos 0 -ℤ q.times *ℤ digits own.coefficients) -ℤ digits_sum q.masked places) key

-- no cap is made by the rows of these places
abbrev pub HasNoneAt : Question → Front → ℕ → Type 0
HasNoneAt q front last = (w : Linear) → IsCapBy q.rows q.l q.entry w (multipliers_in front last) q.times → ⊥

-- f is made by them, and each other that they make has its coefficients and its constant
pub record IsMadeAt (q : Question) (front : Front) (last : ℕ) (f : Found) : Type 0 where
  pub found : IsFoundBy q.rows q.l q.entry f
  pub alone : (w : Linear) → IsCapBy q.rows q.l q.entry w (multipliers_in front last) q.times → (key_of w ≡ key_of f.cap) × (w.constant ≡ f.cap.constant)

-- the best one comes before each cap that they make
pub record CoversPick (q : Question) (best : Option Found) (front : Front) (last : ℕ) : Type 0 where
  pub each : (w : Linear) → IsCapBy q.rows q.l q.entry w (multipliers_in front last) q.times → Covers best w

-- the same for each last row behind the front ones
pub record CoversFront (q : Question) (best : Option Found) (front : Front) : Type 0 where
  pub each : (last : ℕ) → last < 2 * length q.rows → IsBehind front last → CoversPick q best front last

-- for those whose key, without entry sizes, is this one
pub record CoversKey (q : Question) (best : Option Found) (front : Front) (key : ℕ) : Type 0 where
  pub each : (last : ℕ) → last < 2 * length q.rows → IsBehind front last → IsResidue (digits_at q.masked last) key → CoversPick q best front last

-- for one front row, also with a second one of the first n places
pub record CoversFirst (q : Question) (best : Option Found) (first n : ℕ) : Type 0 where
  pub one : CoversFront q best (One first)
  pub two : (second : ℕ) → second < n → first / 2 < second / 2 → CoversFront q best (Two first second)

-- for all front rows of the first n places
pub record CoversAll (q : Question) (best : Option Found) (n : ℕ) : Type 0 where
  pub zero : CoversFront q best Zero
  pub each : (first : ℕ) → first < n → CoversFirst q best first (2 * length q.rows)

-- ---- the places of a key that are visited, from the last one on
abbrev pub IsPast : Option ℕ → ℕ → Type 0
IsPast None place = Unit {0}
IsPast (Some p) place = p < place

-- the place that is next has the key
abbrev pub IsAt : ℕ → List Linear → ℕ → Option ℕ → Type 0
IsAt count masked key None = Unit {0}
IsAt count masked key (Some p) = (p < count) × IsResidue (digits_at masked p) key

-- how many places are left at most
abbrev pub left_of : Option ℕ → ℕ
left_of None = 0
left_of (Some p) = suc p

-- the rows of the visited places are covered
pub record IsVisited (q : Question) (best : Option Found) (front : Front) (key : ℕ) (at : Option ℕ) : Type 0 where
  pub next : IsAt (2 * length q.rows) q.masked key at
  pub each : (last : ℕ) → last < 2 * length q.rows → IsBehind front last → IsResidue (digits_at q.masked last) key → IsPast at last → CoversPick q best front last
