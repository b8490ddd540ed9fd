-- Climbing from one superinterface to the next, and what is found on the way.
use Rattle.std.proofs.Common.{◌≡◌, ◌≢◌, inl, inr, ℕ, zero, suc, ◌<◌, ◌≤◌, Bool, true, false, not, ◌||◌, List, [], ◌∷◌, ◌++◌, length, slice_get, Option, Some, None, if◌then◌else◌, arith, refl, sym, ap, subst, ◌∙◌, nat_eq, append_assoc, append-nil, true≢false}
use Rattle.std.specs.List.{list_any, flat_map}
use Rattle.std.proofs.lemmas.Bool.{eq-eqb, ne_eqb}
use Rattle.indexmap.specs.IndexSet.{insert_key}
use Rattle.common_laws.proofs.Numbers.{head_listed, one_listed, flat_listed, listed_flat}
use Rattle.common_laws.proofs.Tests.{any_left, any_right, any_either}
use Rattle.class_hierarchy.specs.World.{World, interfaces, above_by, above}
use Rattle.class_hierarchy.specs.Building.{LeadsTo, IsCyclic, supers, IsWellBuilt}
use Rattle.class_hierarchy.specs.Building.LeadsTo.{once, through}
use Rattle.class_hierarchy.specs.Tables.{SameFirst, row_at, with_above, HasRow, Shows, IsClosed, IsMet, IsOpenAt}
use Rattle.class_hierarchy.specs.Tables.{IsHierarchy}
use Rattle.class_hierarchy.specs.Tables.IsMet.{done, last, below}
use Rattle.class_hierarchy.proofs.First.{same_self, same_trans, same_append, same_members}
use Rattle.class_hierarchy.proofs.First.{any_same}
use Rattle.class_hierarchy.proofs.WellBuilt.{above_whole, above_goes, interface_step}
use Rattle.class_hierarchy.proofs.Exploring.{leads_on}

-- ---- members

-- ---- all above what is above stands above

pub in_above : (w : World) → IsWellBuilt w → (d c i : ℕ) → list_any (nat_eq i) (interfaces w c) ≡ true → list_any (nat_eq d) (with_above w i) ≡ true → list_any (nat_eq d) (above w c) ≡ true
in_above w built d c i step h = rw (above_whole w built c) (flat_listed d (with_above w) (interfaces w c) i step h)

above_on_by : (w : World) → IsWellBuilt w → (n i c d : ℕ) → list_any (nat_eq c) (above_by w n i) ≡ true → list_any (nat_eq d) (above w c) ≡ true → list_any (nat_eq d) (above w i) ≡ true
unfolding above_by
above_on_by w built zero i c d h k = absurd cc
above_on_by w built (suc n) i c d h k =
    let p = listed_flat c (λ j. j ∷ above_by w n j) (interfaces w i) h in
    in_above w built d i p.0 p.1 (elim (any_either (nat_eq c) (p.0 ∷ []) (above_by w n p.0) p.2) [
      | inl here ↦ any_right (nat_eq d) (p.0 ∷ []) (above w p.0) (subst (λ x. list_any (nat_eq d) (above w x) ≡ true) (one_listed c p.0 here) k)
      | inr higher ↦ any_right (nat_eq d) (p.0 ∷ []) (above w p.0) (above_on_by w built n p.0 c d higher k)
    ])

above_on : (w : World) → IsWellBuilt w → (i c d : ℕ) → list_any (nat_eq c) (above w i) ≡ true → list_any (nat_eq d) (above w c) ≡ true → list_any (nat_eq d) (above w i) ≡ true
above_on w built i c d h k = above_on_by w built (length w) i c d h k

-- ---- the tables of a world

pub tables_show : (w : World) (supers : List (Option ℕ)) (links : List (List ℕ)) (order : List ℕ) (rows : List (List ℕ)) → IsHierarchy w supers links order rows → (c : ℕ) → Shows w links rows c
tables_show w supers links order rows h c = record {
  well_built = h.well_built;
  are_links = h.are_links;
  own = h.are_rows.1 c;
  higher = λ d lead. h.are_rows.1 d;
}

-- ---- closed lists

pub closed_same : (w : World) (xs ys : List ℕ) → SameFirst xs ys → IsClosed w ys → IsClosed w xs
closed_same w xs ys same closed c d h k =
    any_same (nat_eq d) xs ys same ∙ closed c d (sym (any_same (nat_eq c) xs ys same) ∙ h) k

above_with : (w : World) → IsWellBuilt w → (i c d : ℕ) → list_any (nat_eq c) (with_above w i) ≡ true → list_any (nat_eq d) (above w c) ≡ true → list_any (nat_eq d) (above w i) ≡ true
above_with w built i c d h k = elim (any_either (nat_eq c) (i ∷ []) (above w i) h) [
  | inl here ↦ subst (λ x. list_any (nat_eq d) (above w x) ≡ true) (one_listed c i here) k
  | inr higher ↦ above_on w built i c d higher k
]

-- what stands above a closed list and a class with all above it is among them
pub closed_with : (w : World) → IsWellBuilt w → (xs : List ℕ) (i : ℕ) → IsClosed w xs → IsClosed w (xs ++ with_above w i)
closed_with w built xs i closed c d h k = elim (any_either (nat_eq c) xs (with_above w i) h) [
  | inl old ↦ any_left (nat_eq d) xs (with_above w i) (closed c d old k)
  | inr new ↦ any_right (nat_eq d) xs (with_above w i) (any_right (nat_eq d) (i ∷ []) (above w i) (above_with w built i c d new k))
]

-- a class that is there has all that stands above it there
pub there_already : (w : World) (xs : List ℕ) (i : ℕ) → IsClosed w xs → list_any (nat_eq i) xs ≡ true → SameFirst xs (xs ++ with_above w i)
there_already w xs i closed there = same_members xs (with_above w i) (λ d h. elim (any_either (nat_eq d) (i ∷ []) (above w i) h) [
  | inl here ↦ subst (λ x. list_any (nat_eq x) xs ≡ true) (sym (one_listed d i here)) there
  | inr higher ↦ closed i d there higher
])

-- ---- what is added

pub open_new : (w : World) (xs : List ℕ) (i : ℕ) → IsClosed w xs → IsOpenAt w (xs ++ i ∷ []) i
open_new w xs i closed c h = elim (any_either (nat_eq c) xs (i ∷ []) h) [
  | inl old ↦ done (λ d k. any_left (nat_eq d) xs (i ∷ []) (closed c d old k))
  | inr new ↦ last (one_listed c i new)
]

pub with_new : (w : World) (xs zs : List ℕ) (i : ℕ) → SameFirst zs ((xs ++ i ∷ []) ++ above w i) → SameFirst zs (xs ++ with_above w i)
with_new w xs zs i same = rw (← append_assoc xs (i ∷ []) (above w i)) same

-- ---- the direct superinterfaces

pub single : (xs : List ℕ) (x : ℕ) → length xs ≤ 1 → Some x ≡ slice_get xs 0 → xs ≡ x ∷ []
single [] x few e = absurd cc
single (y ∷ []) x few e = cc
single (y ∷ z ∷ zs) x few e = absurd (omega (arith, few))

pub no_first : (xs : List ℕ) → None ≡ slice_get xs 0 → xs ≡ []
no_first [] e = refl
no_first (x ∷ xs) e = absurd cc

was_by : (b : Bool) (new : Bool) (xs zs : List ℕ) (i : ℕ) → list_any (nat_eq i) xs ≡ b → new ≡ not b → zs ≡ (if b then xs else xs ++ i ∷ []) → new ≡ false → (list_any (nat_eq i) xs ≡ true) × (zs ≡ xs)
was_by true new xs zs i h n e gone = (h, e)
was_by false new xs zs i h n e gone = absurd (true≢false (sym n ∙ gone))

-- a class that was there
pub was_there : (new : Bool) (xs zs : List ℕ) (i : ℕ) → new ≡ not (list_any (nat_eq i) xs) → zs ≡ insert_key nat_eq xs i → new ≡ false → (list_any (nat_eq i) xs ≡ true) × (zs ≡ xs)
was_there new xs zs i n e gone = was_by (list_any (nat_eq i) xs) new xs zs i refl n e gone

new_by : (b : Bool) (new : Bool) (xs zs : List ℕ) (i : ℕ) → new ≡ not b → zs ≡ (if b then xs else xs ++ i ∷ []) → new ≡ true → zs ≡ xs ++ i ∷ []
new_by true new xs zs i n e fresh = absurd (true≢false (sym fresh ∙ n))
new_by false new xs zs i n e fresh = e

-- a class that wasn't
pub was_new : (new : Bool) (xs zs : List ℕ) (i : ℕ) → new ≡ not (list_any (nat_eq i) xs) → zs ≡ insert_key nat_eq xs i → new ≡ true → zs ≡ xs ++ i ∷ []
was_new new xs zs i n e fresh = new_by (list_any (nat_eq i) xs) new xs zs i n e fresh

-- ---- the climb

-- n steps at most are left from a class, of all that is looked for; what was met before the class leads to it
pub record Climbs (w : World) (links rows : List (List ℕ)) (all : List ℕ) (n at : ℕ) (found : List ℕ) : Type 0 where
  pub shows : Shows w links rows at
  pub met : IsOpenAt w found at
  pub whole : SameFirst (found ++ above w at) all
  pub left : SameFirst (found ++ above_by w n at) all

pub climbs_start : (w : World) (links rows : List (List ℕ)) (at n : ℕ) (found : List ℕ) → n ≡ length w → Shows w links rows at → IsOpenAt w found at → Climbs w links rows (found ++ above w at) n at found
climbs_start w links rows at n found e shows met = record {
  shows = shows;
  met = met;
  whole = same_self (found ++ above w at);
  left = rw e (same_self (found ++ above w at));
}

none_left : (w : World) (n at : ℕ) → n ≡ 0 → above_by w n at ≡ []
unfolding above_by
none_left w zero at e = refl
none_left w (suc n) at e = absurd (omega (arith, e))

from_none : (found ys all : List ℕ) → ys ≡ [] → SameFirst (found ++ ys) all → SameFirst found all
from_none found ys all e same = subst (λ l. SameFirst l all) (ap (λ l. found ++ l) e ∙ append-nil found) same

pub climbs_end : (w : World) (links rows : List (List ℕ)) (all : List ℕ) (n at : ℕ) (found : List ℕ) → n ≡ 0 → Climbs w links rows all n at found → SameFirst found all
climbs_end w links rows all n at found e h = from_none found (above_by w n at) all (none_left w n at e) h.left

top_above : (w : World) → IsWellBuilt w → (c : ℕ) → interfaces w c ≡ [] → above w c ≡ []
top_above w built c e = above_whole w built c ∙ ap (λ l. flat_map (with_above w) l) e

pub climbs_top : (w : World) (links rows : List (List ℕ)) (all : List ℕ) (n at : ℕ) (found : List ℕ) → row_at links at ≡ [] → Climbs w links rows all n at found → SameFirst found all
climbs_top w links rows all n at found e h =
    from_none found (above w at) all (top_above w h.shows.well_built at (sym (h.shows.are_links.1 at) ∙ e)) h.whole

pub climbs_row : (w : World) (links rows : List (List ℕ)) (all : List ℕ) (n at : ℕ) (found new : List ℕ) → 1 < length (row_at links at) → SameFirst new (found ++ row_at rows at) → Climbs w links rows all n at found → SameFirst new all
climbs_row w links rows all n at found new several same h =
    let many : 2 ≤ length (interfaces w at) = subst (λ l. 2 ≤ length l) (h.shows.are_links.1 at) (omega (arith, several)) in
    same_trans new (found ++ row_at rows at) all same (same_trans (found ++ row_at rows at) (found ++ above w at) all (same_append found found (row_at rows at) (above w at) (same_self found) (h.shows.own many)) h.whole)

-- ---- one step

one_flat : (f : ℕ → List ℕ) (i : ℕ) → flat_map (λ j. j ∷ f j) (i ∷ []) ≡ i ∷ f i
one_flat f i = append-nil (i ∷ f i)

one_above : (w : World) → IsWellBuilt w → (c i : ℕ) → interfaces w c ≡ i ∷ [] → above w c ≡ with_above w i
one_above w built c i e = above_whole w built c ∙ ap (λ l. flat_map (with_above w) l) e ∙ one_flat (above w) i

one_above_by : (w : World) (n c i : ℕ) → interfaces w c ≡ i ∷ [] → above_by w (suc n) c ≡ i ∷ above_by w n i
one_above_by w n c i e = above_goes w n c ∙ ap (λ l. flat_map (λ j. j ∷ above_by w n j) l) e ∙ one_flat (above_by w n) i

one_step : (w : World) (c i : ℕ) → interfaces w c ≡ i ∷ [] → list_any (nat_eq i) (supers w c) ≡ true
one_step w c i e = interface_step w c i (rw e (head_listed i []))

shows_next : (w : World) (links rows : List (List ℕ)) (c i : ℕ) → list_any (nat_eq i) (supers w c) ≡ true → Shows w links rows c → Shows w links rows i
shows_next w links rows c i step h = record {
  well_built = h.well_built;
  are_links = h.are_links;
  own = h.higher i (once step);
  higher = λ d lead. h.higher d (through step lead);
}

pub shows_direct : (w : World) (links rows : List (List ℕ)) (c i : ℕ) (direct : List ℕ) → Shows w links rows c → direct ≡ row_at links c → list_any (nat_eq i) direct ≡ true → Shows w links rows i
shows_direct w links rows c i direct h e there =
    shows_next w links rows c i (interface_step w c i (subst (λ l. list_any (nat_eq i) l ≡ true) (e ∙ h.are_links.1 c) there)) h

pub direct_above : (w : World) (links rows : List (List ℕ)) (c : ℕ) (direct found new : List ℕ) → Shows w links rows c → direct ≡ row_at links c → SameFirst new (found ++ flat_map (with_above w) direct) → SameFirst new (found ++ above w c)
direct_above w links rows c direct found new h e same =
    subst (λ l. SameFirst new (found ++ l)) (ap (λ l. flat_map (with_above w) l) (e ∙ h.are_links.1 c) ∙ sym (above_whole w h.well_built c)) same

met_next : (w : World) (found : List ℕ) (at i c : ℕ) → list_any (nat_eq i) (supers w at) ≡ true → IsMet w found at c → IsMet w (found ++ i ∷ []) i c
met_next w found at i c step (done h) = done (λ d k. any_left (nat_eq d) found (i ∷ []) (h d k))
met_next w found at i c step (last e) = below (subst (λ x. LeadsTo (supers w) x i) (sym e) (once step))
met_next w found at i c step (below lead) = below (leads_on (supers w) c at i lead step)

open_next : (w : World) (found : List ℕ) (at i : ℕ) → list_any (nat_eq i) (supers w at) ≡ true → IsOpenAt w found at → IsOpenAt w (found ++ i ∷ []) i
open_next w found at i step met c h = elim (any_either (nat_eq c) found (i ∷ []) h) [
  | inl old ↦ met_next w found at i c step (met c old)
  | inr new ↦ last (one_listed c i new)
]

joined : (found ys zs all : List ℕ) (i : ℕ) → ys ≡ i ∷ zs → SameFirst (found ++ ys) all → SameFirst ((found ++ i ∷ []) ++ zs) all
joined found ys zs all i e same = subst (λ l. SameFirst l all) (ap (λ l. found ++ l) e ∙ sym (append_assoc found (i ∷ []) zs)) same

pub climbs_next : (w : World) (links rows : List (List ℕ)) (all : List ℕ) (n m at i : ℕ) (found new : List ℕ) → n ≡ suc m → row_at links at ≡ i ∷ [] → new ≡ found ++ i ∷ [] → Climbs w links rows all n at found → Climbs w links rows all m i new
climbs_next w links rows all n m at i found new e only is h =
    let direct : interfaces w at ≡ i ∷ [] = sym (h.shows.are_links.1 at) ∙ only in
    let step = one_step w at i direct in
    let built = h.shows.well_built in
    rw is (record {
      shows = shows_next w links rows at i step h.shows;
      met = open_next w found at i step h.met;
      whole = joined found (above w at) (above w i) all i (one_above w built at i direct) h.whole;
      left = joined found (above_by w n at) (above_by w m i) all i (ap (λ k. above_by w k at) e ∙ one_above_by w m at i direct) h.left;
    })

-- a class that was met on the way would lead back to itself
met_done : (w : World) (found : List ℕ) (at i : ℕ) → ((d : ℕ) → ¬ IsCyclic w d) → list_any (nat_eq i) (supers w at) ≡ true → IsMet w found at i → (d : ℕ) → list_any (nat_eq d) (above w i) ≡ true → list_any (nat_eq d) found ≡ true
met_done w found at i acyclic step (done h) d k = h d k
met_done w found at i acyclic step (last e) d k = absurd (acyclic at (subst (λ x. LeadsTo (supers w) at x) e (once step)))
met_done w found at i acyclic step (below lead) d k = absurd (acyclic at (through step lead))

pub climbs_there : (w : World) (links rows : List (List ℕ)) (all : List ℕ) (n at i : ℕ) (found : List ℕ) → row_at links at ≡ i ∷ [] → list_any (nat_eq i) found ≡ true → Climbs w links rows all n at found → SameFirst found all
climbs_there w links rows all n at i found only there h =
    let direct : interfaces w at ≡ i ∷ [] = sym (h.shows.are_links.1 at) ∙ only in
    let built = h.shows.well_built in
    let all_there = met_done w found at i built.no_cycle (one_step w at i direct) (h.met i there) in
    let same : SameFirst found (found ++ above w at) = same_members found (above w at) (λ d k. elim (any_either (nat_eq d) (i ∷ []) (above w i) (subst (λ l. list_any (nat_eq d) l ≡ true) (one_above w built at i direct) k)) [
      | inl here ↦ subst (λ x. list_any (nat_eq x) found ≡ true) (sym (one_listed d i here)) there
      | inr higher ↦ all_there d higher
    ]) in
    same_trans found (found ++ above w at) all same h.whole

-- ---- looking for one class

-- whether a class is found is whether it stands above this one, at most n steps from it
pub record Looks (w : World) (d : ℕ) (r : Bool) (n at : ℕ) : Type 0 where
  pub whole : list_any (nat_eq d) (above w at) ≡ r
  pub left : list_any (nat_eq d) (above_by w n at) ≡ r

pub looks_end : (w : World) (d : ℕ) (r : Bool) (n at : ℕ) → n ≡ 0 → Looks w d r n at → false ≡ r
looks_end w d r n at e h = sym (ap (λ l. list_any (nat_eq d) l) (none_left w n at e)) ∙ h.left

pub looks_top : (w : World) (d : ℕ) (r : Bool) (n at : ℕ) → IsWellBuilt w → interfaces w at ≡ [] → Looks w d r n at → false ≡ r
looks_top w d r n at built e h = sym (ap (λ l. list_any (nat_eq d) l) (top_above w built at e)) ∙ h.whole

pub looks_row : (w : World) (rows : List (List ℕ)) (d : ℕ) (r : Bool) (n at : ℕ) → HasRow w rows at → 2 ≤ length (interfaces w at) → Looks w d r n at → list_any (nat_eq d) (row_at rows at) ≡ r
looks_row w rows d r n at has several h = any_same (nat_eq d) (row_at rows at) (above w at) (has several) ∙ h.whole

pub looks_here : (w : World) (d : ℕ) (r : Bool) (n at i : ℕ) → IsWellBuilt w → interfaces w at ≡ i ∷ [] → d ≡ i → Looks w d r n at → true ≡ r
looks_here w d r n at i built e same h =
    let here : nat_eq d i ≡ true = eq-eqb d i same in
    sym (ap (λ l. list_any (nat_eq d) l) (one_above w built at i e) ∙ ap (λ b. b || list_any (nat_eq d) (above w i)) here) ∙ h.whole

pub looks_next : (w : World) (d : ℕ) (r : Bool) (n m at i : ℕ) → IsWellBuilt w → n ≡ suc m → interfaces w at ≡ i ∷ [] → d ≢ i → Looks w d r n at → Looks w d r m i
looks_next w d r n m at i built less e other h =
    let miss : nat_eq d i ≡ false = ne_eqb d i other in
    record {
      whole = sym (ap (λ l. list_any (nat_eq d) l) (one_above w built at i e) ∙ ap (λ b. b || list_any (nat_eq d) (above w i)) miss) ∙ h.whole;
      left = sym (ap (λ k. list_any (nat_eq d) (above_by w k at)) less ∙ ap (λ l. list_any (nat_eq d) l) (one_above_by w m at i e) ∙ ap (λ b. b || list_any (nat_eq d) (above_by w m i)) miss) ∙ h.left;
    }
