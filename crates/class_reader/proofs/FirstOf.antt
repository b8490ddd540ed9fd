-- The first of some faults: what is kept while they are met is the first of all, and there is one alone.
use Rattle.std.proofs.Common.{◌≡◌, ◌<◌, ◌≤◌, Bool, true, false, cond, ltb, List, [], ◌∷◌, ◌++◌, drop, Some, None, refl, sym, ap, subst, ◌∙◌, arith}
use Rattle.std.specs.List.{AllByRecursion}
use Rattle.std.proofs.lemmas.Bool.{ltb-true, ltb-false}
use Rattle.class_reader.specs.declared.fault.ClassFault.{ClassFault}
use Rattle.class_reader.specs.Faults.{place_of, IsFirst, first_with}

abbrev AllAfter : ClassFault → List ClassFault → Type 0
AllAfter fault others = AllByRecursion (λ other. place_of fault < place_of other) others

abbrev NoneBefore : ClassFault → List ClassFault → Type 0
NoneBefore fault others = AllByRecursion (λ other. place_of fault ≤ place_of other) others

-- ---- what is kept is the first

alone_first : (fault : ClassFault) → IsFirst (fault ∷ []) fault
alone_first fault = record { before = []; behind = []; parts = refl; sooner = tt; not_later = tt }

-- the first of a list stands at the first one's place or before it
first_at_most : (kept first : ClassFault) (others before behind : List ClassFault) → kept ∷ others ≡ before ++ first ∷ behind → AllAfter first before → place_of first ≤ place_of kept
first_at_most kept first others [] behind parts sooner = let same : kept ≡ first = cc in omega (arith, ap place_of same)
first_at_most kept first others (b ∷ before) behind parts sooner = let same : kept ≡ b = cc in omega (arith, sooner.0, ap place_of same)

-- one that is met later and stands before what was kept
sooner_one : (kept fault first : ClassFault) (faults : List ClassFault) → place_of fault < place_of kept → IsFirst (fault ∷ faults) first → IsFirst (kept ∷ fault ∷ faults) first
sooner_one kept fault first faults lt is = record {
  before = kept ∷ is.before;
  behind = is.behind;
  parts = ap (λ (l : List ClassFault). kept ∷ l) is.parts;
  sooner = (omega (arith, lt, first_at_most fault first faults is.before is.behind is.parts is.sooner), is.sooner);
  not_later = is.not_later;
}

-- one that is met later and doesn't
later_with : (kept fault first : ClassFault) (faults before behind : List ClassFault) → place_of kept ≤ place_of fault → kept ∷ faults ≡ before ++ first ∷ behind → AllAfter first before → NoneBefore first behind
    → IsFirst (kept ∷ fault ∷ faults) first
later_with kept fault first faults [] behind le parts sooner later =
    let same : kept ≡ first = cc in
    let rest : faults ≡ behind = cc in
    record { before = []; behind = fault ∷ behind; parts = rw (same, rest) refl; sooner = tt; not_later = (omega (arith, le, ap place_of same), later) }
later_with kept fault first faults (b ∷ before) behind le parts sooner later =
    let same : kept ≡ b = cc in
    let rest : faults ≡ before ++ first ∷ behind = cc in
    record {
      before = b ∷ fault ∷ before;
      behind = behind;
      parts = rw (same, rest) refl;
      sooner = (sooner.0, (omega (arith, le, sooner.0, ap place_of same), sooner.1));
      not_later = later;
    }

noted_first : (earlier : Bool) (kept fault first : ClassFault) (faults : List ClassFault) → ltb (place_of fault) (place_of kept) ≡ earlier
    → ((x : ClassFault) → first_with (Some x) faults ≡ Some first → IsFirst (x ∷ faults) first) → first_with (cond earlier (Some fault) (Some kept)) faults ≡ Some first → IsFirst (kept ∷ fault ∷ faults) first
noted_first true kept fault first faults lt further e = sooner_one kept fault first faults (ltb-true (place_of fault) (place_of kept) lt) (further fault e)
noted_first false kept fault first faults lt further e =
    let is = further kept e in
    later_with kept fault first faults is.before is.behind (ltb-false (place_of fault) (place_of kept) lt) is.parts is.sooner is.not_later

fault_is : (x y : ClassFault) → Some x ≡ Some y → x ≡ y
fault_is x y e = cc

kept_first : (kept first : ClassFault) (faults : List ClassFault) → first_with (Some kept) faults ≡ Some first → IsFirst (kept ∷ faults) first
unfolding first_with
kept_first kept first [] e = subst (λ (x : ClassFault). IsFirst (kept ∷ []) x) (fault_is kept first e) (alone_first kept)
kept_first kept first (fault ∷ faults) e = noted_first (ltb (place_of fault) (place_of kept)) kept fault first faults refl (λ x h. kept_first x first faults h) e

-- some fault is kept where there is one
noted_some : (earlier : Bool) (kept fault : ClassFault) (faults : List ClassFault) → ((x : ClassFault) → (first : ClassFault) × (first_with (Some x) faults ≡ Some first))
    → (first : ClassFault) × (first_with (cond earlier (Some fault) (Some kept)) faults ≡ Some first)
noted_some true kept fault faults further = further fault
noted_some false kept fault faults further = further kept

kept_some : (kept : ClassFault) (faults : List ClassFault) → (first : ClassFault) × (first_with (Some kept) faults ≡ Some first)
unfolding first_with
kept_some kept [] = (kept, refl)
kept_some kept (fault ∷ faults) = noted_some (ltb (place_of fault) (place_of kept)) kept fault faults (λ x. kept_some x faults)

-- ---- one alone is the first

at_most_later : (first other : ClassFault) (before behind : List ClassFault) → NoneBefore first (before ++ other ∷ behind) → place_of first ≤ place_of other
at_most_later first other [] behind later = later.0
at_most_later first other (b ∷ before) behind later = at_most_later first other before behind later.1

-- two that stand at different places of the list
not_two : (first other : ClassFault) (behind before others : List ClassFault) (b : ClassFault) → first ∷ behind ≡ b ∷ before ++ other ∷ others → NoneBefore first behind → place_of other < place_of b → ⊥
not_two first other behind before others b parts later sooner =
    let same : first ≡ b = cc in
    let rest : behind ≡ before ++ other ∷ others = cc in
    let le : place_of first ≤ place_of other = at_most_later first other before others (subst (NoneBefore first) rest later) in
    absurd (omega (arith, le, sooner, ap place_of same))

one_at : (first other : ClassFault) (before earlier behind others : List ClassFault) → before ++ first ∷ behind ≡ earlier ++ other ∷ others → AllAfter first before → NoneBefore first behind
    → AllAfter other earlier → NoneBefore other others → first ≡ other
one_at first other [] [] behind others parts a b c d = cc
one_at first other [] (x ∷ earlier) behind others parts a b c d = absurd (not_two first other behind earlier others x parts b c.0)
one_at first other (x ∷ before) [] behind others parts a b c d = absurd (not_two other first others before behind x (sym parts) d a.0)
one_at first other (x ∷ before) (y ∷ earlier) behind others parts a b c d =
    let rest : before ++ first ∷ behind ≡ earlier ++ other ∷ others = ap (drop 1) parts in
    one_at first other before earlier behind others rest a.1 b c.1 d

pub one_first : (all : List ClassFault) (first other : ClassFault) → IsFirst all first → IsFirst all other → first ≡ other
one_first all first other p q = one_at first other p.before q.before p.behind q.behind (sym p.parts ∙ q.parts) p.sooner p.not_later q.sooner q.not_later

-- ---- what is kept of all

pub none_kept : (all : List ClassFault) → first_with None all ≡ None → all ≡ []
unfolding first_with
none_kept [] e = refl
none_kept (fault ∷ faults) e = let some = kept_some fault faults in let no : None ≡ Some some.0 = sym e ∙ some.1 in absurd cc

pub none_is_kept : (all : List ClassFault) → all ≡ [] → first_with None all ≡ None
unfolding first_with
none_is_kept all e = rw e refl

pub first_is : (all : List ClassFault) (first : ClassFault) → first_with None all ≡ Some first → IsFirst all first
unfolding first_with
first_is [] first e = absurd cc
first_is (fault ∷ faults) first e = kept_first fault first faults e

no_first : (first : ClassFault) (before behind : List ClassFault) → [] ≡ before ++ first ∷ behind → ⊥
no_first first [] behind e = cc
no_first first (b ∷ before) behind e = cc

pub first_again : (all : List ClassFault) (first : ClassFault) → IsFirst all first → first_with None all ≡ Some first
unfolding first_with
first_again [] first is = absurd (no_first first is.before is.behind is.parts)
first_again (fault ∷ faults) first is =
    let some = kept_some fault faults in
    some.1 ∙ ap (λ (x : ClassFault). Some x) (one_first (fault ∷ faults) some.0 first (kept_first fault some.0 faults some.1) is)
