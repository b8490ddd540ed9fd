-- A rule that is read as a tree has the count, or the fault, that it has when its paths are read one by one.
use Rattle.std.proofs.Common.{◌≡◌, ℕ, ◌+◌, ◌<◌, ◌≤◌, nat_lt, Bool, true, false, List, [], ◌∷◌, ◌++◌, map, Option, Some, None, Result, Ok, Err, inl, inr, ◌⊎◌, if◌then◌else◌, IsTrue, refl, sym, ap, ◌∙◌, subst, append_assoc, append-nil, add-zero, arith}
use Rattle.std.specs.Option.{option_or}
use Rattle.std.proofs.lemmas.List.{map-append}
use Rattle.std.proofs.lemmas.Bool.{ltb-true, lt-ltb, ltb-false, le-ltb}
use Rattle.rule_terms.specs.declared.item.Item.{Item}
use Rattle.rule_terms.specs.declared.item.Item.TheVariants.{Assume, Spend, Fresh, Call}
use Rattle.rule_terms.specs.Terms.{Term, Ends, Assumes, Spends, Makes, Calls, Either}
use Rattle.rule_terms.specs.Paths.{paths_of, behind}
use Rattle.relations.specs.declared.fault.RelFault.{RelFault}
use Rattle.relations.specs.declared.fault.RelFault.TheVariants.{Arity, Range, TooManyTerms}
use Rattle.relations.specs.Scope.{is_in_range, has_arity, item_fault, item_terms, path_fault, path_terms, paths_terms, made_after, term_limit, IsScoped, AreScoped, paths_fault}
use Rattle.relations.specs.inside.Walk.{past, restarted, term_walk, made_along, paths_walk}

-- ---- one item
-- an item without a fault is in scope, and keeps the limit
pub record HasNoFault (nodes : List ℕ) (sizes : ℕ) (made : List ℕ) (count : ℕ) (item : Item) : Type 0 where
  pub range : IsTrue (is_in_range nodes sizes made item)
  pub arity : IsTrue (has_arity nodes item)
  pub room : count + item_terms item ≤ term_limit

three : (a b c : Bool) → (if a then (if b then (if c then Some TooManyTerms else None) else Some Arity) else Some Range) ≡ None → (a ≡ true) × (b ≡ true) × (c ≡ false)
three true true true e = absurd (let f : ⊥ = cc in f)
three true true false e = (refl, refl, refl)
three true false c e = absurd (let f : ⊥ = cc in f)
three false b c e = absurd (let f : ⊥ = cc in f)

pub no_fault : (nodes : List ℕ) (sizes : ℕ) (made : List ℕ) (count : ℕ) (item : Item) → item_fault nodes sizes made count item ≡ None → HasNoFault nodes sizes made count item
unfolding item_fault
no_fault nodes sizes made count item e =
    let t = three (is_in_range nodes sizes made item) (has_arity nodes item) (nat_lt term_limit (count + item_terms item)) e in
    record { range = t.0; arity = t.1; room = ltb-false term_limit (count + item_terms item) t.2 }

all_three : (a b c : Bool) → a ≡ true → b ≡ true → (if a then (if b then (if c then Some TooManyTerms else None) else Some Arity) else Some Range) ≡ (if c then Some TooManyTerms else None)
all_three true true c p q = refl
all_three true false c p q = absurd (let f : ⊥ = cc in f)
all_three false b c p q = absurd (let f : ⊥ = cc in f)

-- an item in scope has a fault only where it passes the limit
pub scoped_fault : (nodes : List ℕ) (sizes : ℕ) (made : List ℕ) (count : ℕ) (item : Item) → IsTrue (is_in_range nodes sizes made item) → IsTrue (has_arity nodes item) → item_fault nodes sizes made count item ≡ (if nat_lt term_limit (count + item_terms item) then Some TooManyTerms else None)
unfolding item_fault
scoped_fault nodes sizes made count item range arity = all_three (is_in_range nodes sizes made item) (has_arity nodes item) (nat_lt term_limit (count + item_terms item)) range arity

by_test : (b c : Bool) → b ≡ c → (if b then Some TooManyTerms else None) ≡ (if c then Some TooManyTerms else None)
by_test b c e = ap (λ (x : Bool). if x then Some TooManyTerms else None) e

pub scoped_room : (nodes : List ℕ) (sizes : ℕ) (made : List ℕ) (count : ℕ) (item : Item) → IsTrue (is_in_range nodes sizes made item) → IsTrue (has_arity nodes item) → count + item_terms item ≤ term_limit → item_fault nodes sizes made count item ≡ None
scoped_room nodes sizes made count item range arity room =
    scoped_fault nodes sizes made count item range arity ∙ by_test (nat_lt term_limit (count + item_terms item)) false (le-ltb term_limit (count + item_terms item) room)

pub scoped_full : (nodes : List ℕ) (sizes : ℕ) (made : List ℕ) (count : ℕ) (item : Item) → IsTrue (is_in_range nodes sizes made item) → IsTrue (has_arity nodes item) → term_limit < count + item_terms item → item_fault nodes sizes made count item ≡ Some TooManyTerms
scoped_full nodes sizes made count item range arity full =
    scoped_fault nodes sizes made count item range arity ∙ by_test (nat_lt term_limit (count + item_terms item)) true (lt-ltb term_limit (count + item_terms item) full)

-- ---- a path behind a front in scope
module _ (nodes : List ℕ) (sizes : ℕ) where
  at_most : (c i p : ℕ) → c + (i + p) ≤ term_limit → c + i ≤ term_limit
  at_most c i p h = omega arith

  moved : (c i p : ℕ) → c + (i + p) ≤ term_limit → c + i + p ≤ term_limit
  moved c i p h = omega arith

  moved_back : (c i p : ℕ) → c + i + p ≤ term_limit → c + (i + p) ≤ term_limit
  moved_back c i p h = omega arith

  regrouped : (c i p : ℕ) → c + i + p ≡ c + (i + p)
  regrouped c i p = omega arith

  front_fault : (made : List ℕ) (count : ℕ) (front rest : List Item) → IsScoped nodes sizes made front → count + path_terms front ≤ term_limit → path_fault nodes sizes made count (front ++ rest) ≡ path_fault nodes sizes (made_along front made) (count + path_terms front) rest
  front_fault made count [] rest s room = ap (λ k. path_fault nodes sizes made k rest) (let e : count ≡ count + 0 = omega arith in e)
  front_fault made count (item ∷ front) rest s room =
      let none = scoped_room nodes sizes made count item s.0 s.1 (at_most count (item_terms item) (path_terms front) room) in
      ap (λ f. option_or f (path_fault nodes sizes (made_after item made) (count + item_terms item) (front ++ rest))) none
      ∙ front_fault (made_after item made) (count + item_terms item) front rest s.2 (moved count (item_terms item) (path_terms front) room)
      ∙ ap (λ k. path_fault nodes sizes (made_along front (made_after item made)) k rest) (regrouped count (item_terms item) (path_terms front))

  full_step : (item : Item) (made : List ℕ) (count : ℕ) (front rest : List Item) → IsTrue (is_in_range nodes sizes made item) → IsTrue (has_arity nodes item) → (count + item_terms item ≤ term_limit → path_fault nodes sizes (made_after item made) (count + item_terms item) (front ++ rest) ≡ Some TooManyTerms) → (b : Bool) → nat_lt term_limit (count + item_terms item) ≡ b → path_fault nodes sizes made count (item ∷ front ++ rest) ≡ Some TooManyTerms
  full_step item made count front rest range arity next true e =
      ap (λ f. option_or f (path_fault nodes sizes (made_after item made) (count + item_terms item) (front ++ rest)))
      (scoped_full nodes sizes made count item range arity (ltb-true term_limit (count + item_terms item) e))
  full_step item made count front rest range arity next false e =
      let room = ltb-false term_limit (count + item_terms item) e in
      ap (λ f. option_or f (path_fault nodes sizes (made_after item made) (count + item_terms item) (front ++ rest))) (scoped_room nodes sizes made count item range arity room)
      ∙ next room

  more : (c i p : ℕ) → term_limit < c + (i + p) → term_limit < c + i + p
  more c i p h = omega arith

  full_fault : (made : List ℕ) (count : ℕ) (front rest : List Item) → IsScoped nodes sizes made front → count ≤ term_limit → term_limit < count + path_terms front → path_fault nodes sizes made count (front ++ rest) ≡ Some TooManyTerms
  full_fault made count [] rest s low full = absurd (let e : ⊥ = omega arith in e)
  full_fault made count (item ∷ front) rest s low full =
      full_step item made count front rest s.0 s.1
      (λ room. full_fault (made_after item made) (count + item_terms item) front rest s.2 room (more count (item_terms item) (path_terms front) full))
      (nat_lt term_limit (count + item_terms item)) refl

  -- a path without a fault is in scope, and keeps the limit
  pub record PathIsFree (made : List ℕ) (count : ℕ) (path : List Item) : Type 0 where
    pub scoped : IsScoped nodes sizes made path
    pub room : count + path_terms path ≤ term_limit

  neither : (a b : Option RelFault) → option_or a b ≡ None → (a ≡ None) × (b ≡ None)
  neither None b e = (refl, e)
  neither (Some x) b e = absurd (let f : ⊥ = cc in f)

  pub path_free : (made : List ℕ) (count : ℕ) (path : List Item) → count ≤ term_limit → path_fault nodes sizes made count path ≡ None → PathIsFree made count path
  path_free made count [] low e = record { scoped = tt; room = omega arith }
  path_free made count (item ∷ rest) low e =
      let both = neither (item_fault nodes sizes made count item) (path_fault nodes sizes (made_after item made) (count + item_terms item) rest) e in
      let h = no_fault nodes sizes made count item both.0 in
      let r = path_free (made_after item made) (count + item_terms item) rest h.room both.1 in
      record { scoped = (h.range, h.arity, r.scoped); room = moved_back count (item_terms item) (path_terms rest) r.room }

  -- ---- all paths
  abbrev then_walk : Result ℕ RelFault → (ℕ → Result ℕ RelFault) → Result ℕ RelFault
  then_walk (Ok b) next = next b
  then_walk (Err e) next = Err e

  past_then : (f : Option RelFault) (r : Result ℕ RelFault) (next : ℕ → Result ℕ RelFault) → past f (then_walk r next) ≡ then_walk (past f r) next
  past_then None r next = refl
  past_then (Some e) r next = refl

  walk_append : (count : ℕ) (xs ys : List (List Item)) → paths_walk nodes sizes count (xs ++ ys) ≡ then_walk (paths_walk nodes sizes count xs) (λ b. paths_walk nodes sizes b ys)
  walk_append count [] ys = refl
  walk_append count (x ∷ xs) ys =
      ap (past (path_fault nodes sizes [] count x)) (walk_append (count + path_terms x) xs ys)
      ∙ past_then (path_fault nodes sizes [] count x) (paths_walk nodes sizes (count + path_terms x) xs) (λ b. paths_walk nodes sizes b ys)

  past_ok : (f : Option RelFault) (r : Result ℕ RelFault) (n : ℕ) → past f r ≡ Ok n → (f ≡ None) × (r ≡ Ok n)
  past_ok None r n e = (refl, e)
  past_ok (Some x) r n e = absurd (let f : ⊥ = cc in f)

  past_err : (f : Option RelFault) (r : Result ℕ RelFault) (x : RelFault) → past f r ≡ Err x → (f ≡ Some x) ⊎ ((f ≡ None) × (r ≡ Err x))
  past_err None r x e = inr (refl, e)
  past_err (Some y) r x e = inl (let f : y ≡ x = cc in ap Some f)

  -- the count of all paths, each in scope
  pub record PathsAreFree (count : ℕ) (paths : List (List Item)) (n : ℕ) : Type 0 where
    pub total : n ≡ count + paths_terms paths
    pub room : n ≤ term_limit
    pub scoped : AreScoped nodes sizes paths
    pub none : paths_fault nodes sizes count paths ≡ None

  pub paths_free : (count : ℕ) (paths : List (List Item)) (n : ℕ) → count ≤ term_limit → paths_walk nodes sizes count paths ≡ Ok n → PathsAreFree count paths n
  paths_free count [] n low e = let is : count ≡ n = cc in record { total = omega arith; room = omega arith; scoped = tt; none = refl }
  paths_free count (path ∷ paths) n low e =
      let both = past_ok (path_fault nodes sizes [] count path) (paths_walk nodes sizes (count + path_terms path) paths) n e in
      let free = path_free [] count path low both.0 in
      let r = paths_free (count + path_terms path) paths n free.room both.1 in
      record {
        total = r.total ∙ regrouped count (path_terms path) (paths_terms paths);
        room = r.room;
        scoped = (free.scoped, r.scoped);
        none = ap (λ f. option_or f (paths_fault nodes sizes (count + path_terms path) paths)) both.0 ∙ r.none;
      }

  pub paths_faulty : (count : ℕ) (paths : List (List Item)) (x : RelFault) → paths_walk nodes sizes count paths ≡ Err x → paths_fault nodes sizes count paths ≡ Some x
  paths_faulty count [] x e = absurd (let f : ⊥ = cc in f)
  paths_faulty count (path ∷ paths) x e = elim (past_err (path_fault nodes sizes [] count path) (paths_walk nodes sizes (count + path_terms path) paths) x e) [
    | inl f ↦ ap (λ o. option_or o (paths_fault nodes sizes (count + path_terms path) paths)) f
    | inr both ↦ ap (λ o. option_or o (paths_fault nodes sizes (count + path_terms path) paths)) both.0 ∙ paths_faulty (count + path_terms path) paths x both.1
  ]

  -- ---- trees
  abbrev after_front : List Item → List (List Item) → List (List Item)
  after_front front paths = map (λ (p : List Item). front ++ p) paths

  front_item : (front : List Item) (item : Item) (paths : List (List Item)) → after_front (front ++ item ∷ []) paths ≡ after_front front (behind item paths)
  front_item front item [] = refl
  front_item front item (path ∷ paths) = ap (λ p. p ∷ after_front (front ++ item ∷ []) paths) (append_assoc front (item ∷ []) path) ∙ ap (λ ps. (front ++ item ∷ path) ∷ ps) (front_item front item paths)

  made_snoc : (front : List Item) (item : Item) (made : List ℕ) → made_along (front ++ item ∷ []) made ≡ made_after item (made_along front made)
  made_snoc [] item made = refl
  made_snoc (x ∷ front) item made = made_snoc front item (made_after x made)

  grouped_sum : (a b c : ℕ) → a + (b + c) ≡ a + b + c
  grouped_sum a b c = omega arith

  terms_snoc : (front : List Item) (item : Item) → path_terms (front ++ item ∷ []) ≡ path_terms front + item_terms item
  terms_snoc [] item = let e : item_terms item + 0 ≡ 0 + item_terms item = omega arith in e
  terms_snoc (x ∷ front) item = ap (λ k. item_terms x + k) (terms_snoc front item) ∙ grouped_sum (item_terms x) (path_terms front) (item_terms item)

  scoped_snoc : (made : List ℕ) (front : List Item) (item : Item) → IsScoped nodes sizes made front → IsTrue (is_in_range nodes sizes (made_along front made) item) → IsTrue (has_arity nodes item) → IsScoped nodes sizes made (front ++ item ∷ [])
  scoped_snoc made [] item s range arity = (range, arity, tt)
  scoped_snoc made (x ∷ front) item s range arity = (s.0, s.1, scoped_snoc (made_after x made) front item s.2 range arity)

  -- there is a first path
  pub record HasFirst (paths : List (List Item)) : Type 0 where
    pub first : List Item
    pub others : List (List Item)
    pub is : paths ≡ first ∷ others

  abbrev has_behind : (item : Item) (paths : List (List Item)) → HasFirst paths → HasFirst (behind item paths)
  has_behind item paths h = record { first = item ∷ h.first; others = behind item h.others; is = ap (behind item) h.is }

  abbrev has_first : (t : Term) → HasFirst (paths_of t)
  has_first Ends = record { first = []; others = []; is = refl }
  has_first (Assumes row rest) = has_behind (Assume row) (paths_of rest) (has_first rest)
  has_first (Spends n rest) = has_behind (Spend n) (paths_of rest) (has_first rest)
  has_first (Makes v rest) = has_behind (Fresh v) (paths_of rest) (has_first rest)
  has_first (Calls node args rest) = has_behind (Call node args) (paths_of rest) (has_first rest)
  has_first (Either first second) = let h = has_first first in record { first = h.first; others = h.others ++ paths_of second; is = ap (λ ps. ps ++ paths_of second) h.is }

  -- the fault of the first path is that of all
  first_faulty : (count : ℕ) (front : List Item) (paths : List (List Item)) (x : RelFault) (h : HasFirst paths) → path_fault nodes sizes [] count (front ++ h.first) ≡ Some x → paths_walk nodes sizes count (after_front front paths) ≡ Err x
  first_faulty count front paths x h faulty =
      ap (λ ps. paths_walk nodes sizes count (after_front front ps)) h.is
      ∙ ap (λ f. past f (paths_walk nodes sizes (count + path_terms (front ++ h.first)) (after_front front h.others))) faulty

  -- what is said of a term
  abbrev IsWalked : Term → Type 0
  IsWalked t =
      (front : List Item) (before : ℕ) → IsScoped nodes sizes [] front → before + path_terms front ≤ term_limit
      → term_walk nodes sizes (made_along front []) (path_terms front) before t ≡ paths_walk nodes sizes before (after_front front (paths_of t))

  grouped : (b p i : ℕ) → b + p + i ≤ term_limit → b + (p + i) ≤ term_limit
  grouped b p i h = omega arith

  -- an item before a term, by its fault
  item_fault_walked : (item : Item) (t : Term) → IsWalked t → (front : List Item) (before : ℕ) → IsScoped nodes sizes [] front → before + path_terms front ≤ term_limit → (f : Option RelFault) → item_fault nodes sizes (made_along front []) (before + path_terms front) item ≡ f
      → past (item_fault nodes sizes (made_along front []) (before + path_terms front) item) (term_walk nodes sizes (made_after item (made_along front [])) (path_terms front + item_terms item) before t)
      ≡ paths_walk nodes sizes before (after_front front (behind item (paths_of t)))
  item_fault_walked item t walked front before s room None e =
      let free = no_fault nodes sizes (made_along front []) (before + path_terms front) item e in
      let more_room : before + path_terms (front ++ item ∷ []) ≤ term_limit = rw (terms_snoc front item) (grouped before (path_terms front) (item_terms item) free.room) in
      ap (λ f. past f (term_walk nodes sizes (made_after item (made_along front [])) (path_terms front + item_terms item) before t)) e
      ∙ ap (λ m. term_walk nodes sizes m (path_terms front + item_terms item) before t) (sym (made_snoc front item []))
      ∙ ap (λ k. term_walk nodes sizes (made_along (front ++ item ∷ []) []) k before t) (sym (terms_snoc front item))
      ∙ walked (front ++ item ∷ []) before (scoped_snoc [] front item s free.range free.arity) more_room
      ∙ ap (paths_walk nodes sizes before) (front_item front item (paths_of t))
  item_fault_walked item t walked front before s room (Some x) e =
      let h = has_behind item (paths_of t) (has_first t) in
      let rest = (has_first t).first in
      let at_item : path_fault nodes sizes (made_along front []) (before + path_terms front) (item ∷ rest) ≡ Some x =
      ap (λ f. option_or f (path_fault nodes sizes (made_after item (made_along front [])) (before + path_terms front + item_terms item) rest)) e in
      ap (λ f. past f (term_walk nodes sizes (made_after item (made_along front [])) (path_terms front + item_terms item) before t)) e
      ∙ sym (first_faulty before front (behind item (paths_of t)) x h (front_fault [] before front (item ∷ rest) s room ∙ at_item))

  -- an item before a term
  item_walked : (item : Item) (t : Term) → IsWalked t → (front : List Item) (before : ℕ) → IsScoped nodes sizes [] front → before + path_terms front ≤ term_limit
      → past (item_fault nodes sizes (made_along front []) (before + path_terms front) item) (term_walk nodes sizes (made_after item (made_along front [])) (path_terms front + item_terms item) before t)
      ≡ paths_walk nodes sizes before (after_front front (behind item (paths_of t)))
  item_walked item t walked front before s room = item_fault_walked item t walked front before s room (item_fault nodes sizes (made_along front []) (before + path_terms front) item) refl

  restart : (along : ℕ) (next : ℕ → Result ℕ RelFault) (r : Result ℕ RelFault) (b : Bool) (n : ℕ) → r ≡ Ok n → nat_lt term_limit (n + along) ≡ b → restarted along next r ≡ (if b then Err TooManyTerms else next n)
  restart along next r b n e f = ap (restarted along next) e ∙ ap (λ (x : Bool). if x then Err TooManyTerms else next n) f

  -- the second part of a split, behind so much of the first
  abbrev second_walk : List Item → Term → ℕ → Result ℕ RelFault
  second_walk front second b = term_walk nodes sizes (made_along front []) (path_terms front) b second

  split_room : (second : Term) → IsWalked second → (front : List Item) → IsScoped nodes sizes [] front → (n : ℕ) → n ≤ term_limit → (b : Bool) → nat_lt term_limit (n + path_terms front) ≡ b → restarted (path_terms front) (second_walk front second) (Ok n) ≡ paths_walk nodes sizes n (after_front front (paths_of second))
  split_room second two front s n low true f =
      restart (path_terms front) (second_walk front second) (Ok n) true n refl f
      ∙ sym (first_faulty n front (paths_of second) TooManyTerms (has_first second) (full_fault [] n front (has_first second).first s low (ltb-true term_limit (n + path_terms front) f)))
  split_room second two front s n low false f =
      restart (path_terms front) (second_walk front second) (Ok n) false n refl f ∙ two front n s (ltb-false term_limit (n + path_terms front) f)

  split_first : (first second : Term) → IsWalked second → (front : List Item) (before : ℕ) → IsScoped nodes sizes [] front → before ≤ term_limit → (r : Result ℕ RelFault) → paths_walk nodes sizes before (after_front front (paths_of first)) ≡ r → restarted (path_terms front) (second_walk front second) r ≡ then_walk r (λ b. paths_walk nodes sizes b (after_front front (paths_of second)))
  split_first first second two front before s low (Err x) e = refl
  split_first first second two front before s low (Ok n) e =
      let free = paths_free before (after_front front (paths_of first)) n low e in
      split_room second two front s n free.room (nat_lt term_limit (n + path_terms front)) refl

  walked_split : (first second : Term) → IsWalked first → IsWalked second → IsWalked (Either first second)
  walked_split first second one two front before s room =
      ap (restarted (path_terms front) (second_walk front second)) (one front before s room)
      ∙ split_first first second two front before s (omega arith) (paths_walk nodes sizes before (after_front front (paths_of first))) refl
      ∙ sym (walk_append before (after_front front (paths_of first)) (after_front front (paths_of second)))
      ∙ ap (paths_walk nodes sizes before) (sym (map-append (λ (p : List Item). front ++ p) (paths_of first) (paths_of second)))

  walked : (t : Term) → IsWalked t
  walked Ends front before s room =
      sym (ap (λ (p : List Item). past (path_fault nodes sizes [] before p) (Ok (before + path_terms p))) (append-nil front)
      ∙ ap (λ f. past f (Ok (before + path_terms front))) (ap (path_fault nodes sizes [] before) (sym (append-nil front)) ∙ front_fault [] before front [] s room))
  walked (Assumes row rest) front before s room = item_walked (Assume row) rest (walked rest) front before s room
  walked (Spends n rest) front before s room = item_walked (Spend n) rest (walked rest) front before s room
  walked (Makes v rest) front before s room = item_walked (Fresh v) rest (walked rest) front before s room
  walked (Calls node args rest) front before s room = item_walked (Call node args) rest (walked rest) front before s room
  walked (Either first second) front before s room = walked_split first second (walked first) (walked second) front before s room

  same_paths : (paths : List (List Item)) → after_front [] paths ≡ paths
  same_paths [] = refl
  same_paths (path ∷ paths) = ap (λ ps. path ∷ ps) (same_paths paths)

  -- a whole rule
  pub rule_walked : (t : Term) (count : ℕ) → count ≤ term_limit → term_walk nodes sizes [] 0 count t ≡ paths_walk nodes sizes count (paths_of t)
  rule_walked t count low = walked t [] count tt (omega arith) ∙ ap (paths_walk nodes sizes count) (same_paths (paths_of t))
