-- Which loops are around a node, and that there are no others.
use Rattle.std.proofs.Common.{◌≡◌, ◌≢◌, inl, inr, ⊎_elim, ℕ, zero, suc, ◌+◌, ◌<◌, ◌≤◌, List, [], ◌∷◌, length, Option, Some, None, get_or, AllPairs, All, Contains, refl, sym, ◌∙◌, ap, subst, arith}
use Rattle.std.proofs.lemmas.Bool.{cases_eq}
use Rattle.std.proofs.lemmas.List.{length-map}
use Rattle.std.proofs.lemmas.List.Kept.{AllPairs-cons}
use Rattle.std.proofs.lemmas.List.Elements.{All-contains_itself}
use Rattle.common_laws.proofs.Members.{contains_head, contains_tail, contains_cases, contains_none}
use Rattle.common_laws.proofs.Repeats.{no_longer}
use Rattle.graph_core.specs.Graphs.{EndsAtNodes}
use Rattle.graph_core.specs.Loops.{HasLoop, IsInLoop}
use Rattle.graph_core.specs.Nests.{Entered, entries_of}
use Rattle.graph_loops.specs.Nesting.{Holds, IsInnermost, IsParent, Nested, IsNested}
use Rattle.graph_loops.proofs.Insides.{within_of}
use Rattle.graph_loops.proofs.Arounds.{begins_at}
use Rattle.loop_cut.specs.Laws.{HasOneEntries}
use Rattle.loop_cut.proofs.Walking.{loops_same}
use Rattle.loop_turns.specs.Regions.{IsIn}
use Rattle.code_turns.specs.Homes.{outwards, loops_around}
use Rattle.code_turns.specs.inside.Around.{AreFrom, none, more, IsAround}

module _ (g : List (List ℕ)) (root : ℕ) (single : HasOneEntries g root) where
  -- a loop that holds the entry of another one holds what that holds
  pub in_through : (k p x : ℕ) → IsInLoop g root k p → IsInLoop g root p x → IsInLoop g root k x
  in_through k p x (inl e) i = subst (λ (z : ℕ). IsInLoop g root z x) e i
  in_through k p x (inr l) i = within_of g root p k l x i

  parent_holds : (h : ℕ) (o : Option ℕ) (p : ℕ) → IsParent g root h o → o ≡ Some p → IsInLoop g root p h
  parent_holds h None p parent e = let s : None ≡ Some p = e in absurd (cc)
  parent_holds h (Some q) p parent e = let s : Some q ≡ Some p = e in let t : q ≡ p = cc in subst (λ (z : ℕ). IsInLoop g root z h) t parent.0.1

  parent_apart : (h : ℕ) (o : Option ℕ) (p : ℕ) → IsParent g root h o → o ≡ Some p → p ≢ h
  parent_apart h None p parent e = let s : None ≡ Some p = e in absurd (cc)
  parent_apart h (Some q) p parent e = let s : Some q ≡ Some p = e in let t : q ≡ p = cc in subst (λ (z : ℕ). z ≢ h) t parent.1

  -- ---- each of them holds the node

  each_holds : {o : Option ℕ} {xs : List ℕ} → AreFrom g root o xs → (x k : ℕ) → ((h : ℕ) → o ≡ Some h → IsInLoop g root h x) → Contains xs k → Holds g root k x
  each_holds none x k over c = absurd (contains_none k c)
  each_holds (more {h = h} {o = o} {rest = rest} begins parent outer) x k over c =
      elim (contains_cases h rest k c) [
        | inl e ↦ (subst (HasLoop g root) e begins, subst (λ (z : ℕ). IsInLoop g root z x) e (over h refl))
        | inr later ↦
            let up = each_holds outer h k (λ p e. parent_holds h o p parent e) later in
            (up.0, in_through k h x up.1 (over h refl))
      ]

  inner_holds : (x : ℕ) (o : Option ℕ) (h : ℕ) → IsInnermost g root x o → o ≡ Some h → IsInLoop g root h x
  inner_holds x None h inner e = let s : None ≡ Some h = e in absurd (cc)
  inner_holds x (Some q) h inner e = let s : Some q ≡ Some h = e in let t : q ≡ h = cc in subst (λ (z : ℕ). IsInLoop g root z x) t inner.0.1

  pub around_holds : (x : ℕ) (home : List ℕ) (k : ℕ) → IsAround g root x home → Contains home k → Holds g root k x
  around_holds x home k is c = each_holds is.loops x k (λ h e. inner_holds x is.inner h is.innermost e) c

  -- ---- each loop that holds it is one of them

  listed_past : (h k : ℕ) (o : Option ℕ) (rest : List ℕ) → IsParent g root h o → ((q : ℕ) → o ≡ Some q → Holds g root k q → Contains rest k) → Holds g root k h → k ≢ h → Contains rest k
  listed_past h k None rest parent up holds n = absurd (n (parent k holds))
  listed_past h k (Some q) rest parent up holds n = up q refl (holds.0, parent.2 k holds n q (inl refl))

  all_listed : {o : Option ℕ} {xs : List ℕ} → AreFrom g root o xs → (h k : ℕ) → o ≡ Some h → Holds g root k h → Contains xs k
  all_listed none h k e holds = let s : None ≡ Some h = e in absurd (cc)
  all_listed (more {h = p} {o = o} {rest = rest} begins parent outer) h k e holds =
      let s : Some p ≡ Some h = e in
      let same : h ≡ p = cc in
      let here : Holds g root k p = subst (λ (z : ℕ). Holds g root k z) same holds in
      ⊎_elim (λ (e2 : k ≡ p). subst (Contains (p ∷ rest)) (sym e2) (contains_head p rest))
      (λ (n : k ≢ p). contains_tail p rest k (listed_past p k o rest parent (λ q e2 up. all_listed outer q k e2 up) here n)) (cases_eq k p)

  listed_at : (x k : ℕ) (o : Option ℕ) (home : List ℕ) → IsInnermost g root x o → AreFrom g root o home → Holds g root k x → Contains home k
  listed_at x k None home inner from holds = absurd (inner k holds)
  listed_at x k (Some h) home inner from holds = all_listed from h k refl (holds.0, inner.1 k holds h (inl refl))

  pub around_listed : (x : ℕ) (home : List ℕ) (k : ℕ) → IsAround g root x home → Holds g root k x → Contains home k
  around_listed x home k is holds = listed_at x k is.inner home is.innermost is.loops holds

  -- ---- there is one list of them

  parent_one : (h : ℕ) (o p : Option ℕ) → IsParent g root h o → IsParent g root h p → o ≡ p
  parent_one h None None one other = refl
  parent_one h None (Some q) one other = absurd (other.1 (one q other.0))
  parent_one h (Some q) None one other = absurd (one.1 (other q one.0))
  parent_one h (Some q) (Some r) one other =
      ap Some (loops_same g root single q r one.0.0 other.0.0 (other.2 q one.0 one.1 r (inl refl)) (one.2 r other.0 other.1 q (inl refl)))

  from_one : {o p : Option ℕ} {xs ys : List ℕ} → AreFrom g root o xs → AreFrom g root p ys → o ≡ p → xs ≡ ys
  from_one none none e = refl
  from_one none (more {h = h} begins parent outer) e = let s : None ≡ Some h = e in absurd (cc)
  from_one (more {h = h} begins parent outer) none e = let s : Some h ≡ None = e in absurd (cc)
  from_one (more {h = h} {o = o} {rest = rest} begins parent outer) (more {h = k} {o = p} {rest = rest'} begins' parent' outer') e =
      let s : Some h ≡ Some k = e in
      let same : k ≡ h = cc in
      let up : o ≡ p = parent_one h o p parent (subst (λ (z : ℕ). IsParent g root z p) same parent') in
      ap (λ (z : ℕ). z ∷ rest) (sym same) ∙ ap (λ (zs : List ℕ). k ∷ zs) (from_one outer outer' up)

  -- a loop with those around it ends each list of which it is one
  pub ends_in : {o : Option ℕ} {xs : List ℕ} → AreFrom g root o xs → (h : ℕ) (ys : List ℕ) → AreFrom g root (Some h) ys → Contains xs h → IsIn ys xs
  ends_in none h ys other c = absurd (contains_none h c)
  ends_in (more {h = p} {rest = rest} begins parent outer) h ys other c =
      elim (contains_cases p rest h c) [
        | inl e ↦ ([], from_one (more begins parent outer) other (ap Some e))
        | inr later ↦ let up = ends_in outer h ys other later in (p ∷ up.0, ap (λ (zs : List ℕ). p ∷ zs) up.1)
      ]

  -- ---- the function finds them

  module _ (n : Nested) (nested : IsNested g root n) (ends : EndsAtNodes g) where
    -- those that were seen are other loops inside the one that comes next
    record AreInside (seen : List ℕ) (o : Option ℕ) : Type 0 where
      once : AllPairs (λ (a b : ℕ). ¬ (a ≡ b)) seen
      begin : (k : ℕ) → Contains seen k → HasLoop g root k
      next : (h : ℕ) → o ≡ Some h → HasLoop g root h
      inside : (h k : ℕ) → o ≡ Some h → Contains seen k → IsInLoop g root h k × (k ≢ h)

    apart_from : (h : ℕ) (seen : List ℕ) → ((k : ℕ) → Contains seen k → k ≢ h) → All (λ (b : ℕ). ¬ (h ≡ b)) seen
    apart_from h seen apart = λ k d lt e. apart (get_or seen k d) (All-contains_itself seen k d lt) (sym e)

    -- a loop that is seen is one of all
    all_seen : (h : ℕ) (seen : List ℕ) → AreInside seen (Some h) → (k : ℕ) → Contains (h ∷ seen) k → HasLoop g root k
    all_seen h seen is k c = elim (contains_cases h seen k c) [ inl e ↦ subst (HasLoop g root) e (is.next h refl) | inr later ↦ is.begin k later ]

    seen_few : (h : ℕ) (seen : List ℕ) → AreInside seen (Some h) → suc (length seen) ≤ length n.loops
    seen_few h seen is =
        let once : AllPairs (λ (a b : ℕ). ¬ (a ≡ b)) (h ∷ seen) = AllPairs-cons (λ (a b : ℕ). ¬ (a ≡ b)) h seen (apart_from h seen (λ k c. (is.inside h k refl c).1)) is.once in
        let few = no_longer (h ∷ seen) (entries_of n.loops) once (λ k c. (nested.nest.entries k).1 (all_seen h seen is k c)) in
        let size : length (entries_of n.loops) ≡ length n.loops = length-map n.loops (λ (e : Entered). e.entry) in
        omega arith

    one_more : (h : ℕ) (o : Option ℕ) (seen : List ℕ) → IsParent g root h o → AreInside seen (Some h) → AreInside (h ∷ seen) o
    one_more h o seen parent is = record {
      once = AllPairs-cons (λ (a b : ℕ). ¬ (a ≡ b)) h seen (apart_from h seen (λ k c. (is.inside h k refl c).1)) is.once;
      begin = all_seen h seen is;
      next = λ p e. parent_begins o p parent e;
      inside = λ p k e c. elim (contains_cases h seen k c) [
        | inl same ↦ (subst (IsInLoop g root p) same (parent_holds h o p parent e), λ s. parent_apart h o p parent e (sym s ∙ sym same))
        | inr later ↦ (
          in_through p h k (parent_holds h o p parent e) (is.inside h k refl later).0,
          λ s. parent_apart h o p parent e (loops_same g root single p h (parent_begins o p parent e) (is.next h refl) (parent_holds h o p parent e) (subst (IsInLoop g root h) s (is.inside h k refl later).0)),
        )
      ];
    }
      where
        parent_begins : (o : Option ℕ) (p : ℕ) → IsParent g root h o → o ≡ Some p → HasLoop g root p
        parent_begins None p parent e = let s : None ≡ Some p = e in absurd (cc)
        parent_begins (Some q) p parent e = let s : Some q ≡ Some p = e in let t : q ≡ p = cc in subst (HasLoop g root) t parent.0.0

    climbs : (fuel : ℕ) (o : Option ℕ) (seen : List ℕ) → AreInside seen o → length n.loops ≤ fuel + length seen → AreFrom g root o (outwards n.parents fuel o)
    climbs zero None seen is enough = none
    climbs (suc fuel) None seen is enough = none
    climbs zero (Some h) seen is enough = let few = seen_few h seen is in absurd (omega arith)
    climbs (suc fuel) (Some h) seen is enough =
        let fits = begins_at g root ends h (is.next h refl) in
        let parent = nested.parent h fits in
        more (is.next h refl) parent
        (climbs fuel (get_or n.parents h None) (h ∷ seen) (one_more h (get_or n.parents h None) seen parent is) (omega arith))

    first_begins : (x : ℕ) (o : Option ℕ) (h : ℕ) → IsInnermost g root x o → o ≡ Some h → HasLoop g root h
    first_begins x None h inner e = let s : None ≡ Some h = e in absurd (cc)
    first_begins x (Some q) h inner e = let s : Some q ≡ Some h = e in let t : q ≡ h = cc in subst (HasLoop g root) t inner.0.0

    pub found_around : (x : ℕ) → x < length g → IsAround g root x (loops_around n x)
    found_around x fits =
        let o : Option ℕ = get_or n.innermost x None in
        let inner : IsInnermost g root x o = nested.inner x fits in
        record {
          inner = o;
          innermost = inner;
          loops = climbs (length n.loops) o [] (record {
            once = λ i j d lt within. absurd (omega arith);
            begin = λ k c. absurd (contains_none k c);
            next = λ h e. first_begins x o h inner e;
            inside = λ h k e c. absurd (contains_none k c);
          }) (omega arith);
        }
