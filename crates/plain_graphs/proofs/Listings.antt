-- all lists of nodes without repeat, and what holds of the paths among them
use Rattle.std.proofs.Common.{◌≡◌, ◌≢◌, ◌⊎◌, ◌↔◌, ℕ, suc, ◌+◌, ◌<◌, ◌≤◌, Bool, true, false, not, cond, Some, List, [], ◌∷◌, ◌++◌, length, get_or, set, drop, replicate, All, Contains, refl, sym, ◌∙◌, ap, inl, inr, ⊎_elim, subst, arith, get_or-set_same, get_or-set_other}
use Rattle.std.specs.Prelude.{count_by}
use Rattle.std.proofs.lemmas.Bool.{cases_eq, cases_lt, false≢true}
use Rattle.std.proofs.lemmas.List.{get_or_default, get_or_past, get_or_push, get_or_append_left, get_or-replicate, length-replicate}
use Rattle.std.proofs.lemmas.List.Sums.{sum_by-set}
use Rattle.std.proofs.lemmas.List.Elements.{Contains-get_or, Contains-append_left, Contains-append_right, Contains-append_cases, All-cons}
use Rattle.std.proofs.Math.Seq.{drop-cons}
use Rattle.std.proofs.Math.ListN.{drop_of_length-le}
use Rattle.graph_core.specs.Graphs.{HasEdge, EndsAtNodes}
use Rattle.graph_core.specs.Paths.{Leads, IsWithoutRepeat, IsPath, IsNotAfter, IsFirstPath, Reaches}
use Rattle.graph_core.specs.Loops.{IsBelow, LoopsBack, IsInLoop}
use Rattle.graph_core.specs.Marked.{IsMarked}
use Rattle.graph_core.specs.Nests.{MarksLoop}
use Rattle.graph_core.proofs.Orders.{first_path_one}
use Rattle.graph_core.proofs.Reach.{leads_within}
use Rattle.graph_core.proofs.Marks.{marked_below}
use Rattle.plain_graphs.specs.Plain.{IsFree, BeginsBelow, AreListedTo, AreListed, AreLists, ArePutBefore, IsTrunk, LoopsBackBy}
use Rattle.graph_core.proofs.Lists.{Contains-cons_cases, Contains-tail, Contains-head, Contains-nil}

single : {X : Type 0} → (w x : X) → Contains (w ∷ []) x → w ≡ x
single w x h =
    let l = h.1 in
    let e : h.0 ≡ 0 = omega arith in
    subst (λ (k : ℕ). get_or (w ∷ []) k x ≡ x) e h.2

single_is : {X : Type 0} → (w : X) → Contains (w ∷ []) w
single_is w = (0, omega arith, refl)

-- the place of an element, whatever stands past the end
pub place_in : {X : Type 0} → (xs : List X) (d x : X) → Contains xs x → (k : ℕ) × (k < length xs) × (get_or xs k d ≡ x)
place_in xs d x h = (h.0, h.1, get_or_default xs h.0 d x h.1 ∙ h.2)

pub all_have : {X : Type 0} → (P : X → Type 0) (xs : List X) → All P xs → (x : X) → Contains xs x → P x
all_have P xs all x h = subst P h.2 (all h.0 x h.1)

pub all_from : {X : Type 0} → (P : X → Type 0) (xs : List X) → ((x : X) → Contains xs x → P x) → All P xs
all_from P xs f k d l = f (get_or xs k d) (Contains-get_or xs k d l)

-- the first tails are put before, from the lists that there were
abbrev pub ArePutTo : ℕ → List (List ℕ) → ℕ → List (List ℕ) → List (List ℕ) → Type 0
ArePutTo x tails i old lists = (xs : List ℕ) → Contains lists xs ↔ (Contains old xs ⊎ ((k : ℕ) × (k < i) × (xs ≡ x ∷ get_or tails k [])))

pub put_none : (x : ℕ) (tails old : List (List ℕ)) → ArePutTo x tails 0 old old
put_none x tails old xs =
    (λ h. inl h, λ h. ⊎_elim (λ (o : Contains old xs). o) (λ (p : (k : ℕ) × (k < 0) × (xs ≡ x ∷ get_or tails k [])). let l = p.1 in let out : ⊥ = omega arith in absurd out) h)

pub put_more : (x : ℕ) (tails : List (List ℕ)) (i : ℕ) (old lists : List (List ℕ)) → ArePutTo x tails i old lists → ArePutTo x tails (i + 1) old (lists ++ (x ∷ get_or tails i []) ∷ [])
put_more x tails i old lists h xs = (there, back)
  where
    there : Contains (lists ++ (x ∷ get_or tails i []) ∷ []) xs → Contains old xs ⊎ ((k : ℕ) × (k < i + 1) × (xs ≡ x ∷ get_or tails k []))
    there c =
        ⊎_elim (λ (o : Contains lists xs). ⊎_elim (λ (p : Contains old xs). inl p) (λ (p : (k : ℕ) × (k < i) × (xs ≡ x ∷ get_or tails k [])). let l = p.1 in inr (p.0, omega arith, p.2)) ((h xs).0 o)) (λ (n : Contains ((x ∷ get_or tails i []) ∷ []) xs). inr (i, omega arith, sym (single (x ∷ get_or tails i []) xs n))) (Contains-append_cases lists ((x ∷ get_or tails i []) ∷ []) xs c)

    back : Contains old xs ⊎ ((k : ℕ) × (k < i + 1) × (xs ≡ x ∷ get_or tails k [])) → Contains (lists ++ (x ∷ get_or tails i []) ∷ []) xs
    back (inl o) = Contains-append_left lists ((x ∷ get_or tails i []) ∷ []) xs ((h xs).1 (inl o))
    back (inr p) =
        ⊎_elim (λ (e : p.0 ≡ i). let same : xs ≡ x ∷ get_or tails i [] = subst (λ (k : ℕ). xs ≡ x ∷ get_or tails k []) e p.2 in subst (Contains (lists ++ (x ∷ get_or tails i []) ∷ [])) (sym same) (Contains-append_right lists ((x ∷ get_or tails i []) ∷ []) (x ∷ get_or tails i []) (single_is (x ∷ get_or tails i [])))) (λ (o : p.0 ≢ i). let l = p.1 in Contains-append_left lists ((x ∷ get_or tails i []) ∷ []) xs ((h xs).1 (inr (p.0, omega arith, p.2)))) (cases_eq p.0 i)

pub put_all : (x : ℕ) (tails : List (List ℕ)) (i : ℕ) (old lists : List (List ℕ)) → i ≡ length tails → ArePutTo x tails i old lists → ArePutBefore x tails old lists
put_all x tails i old lists e h xs = (there, back)
  where
    there : Contains lists xs → Contains old xs ⊎ ((ys : List ℕ) × Contains tails ys × (xs ≡ x ∷ ys))
    there c =
        ⊎_elim (λ (o : Contains old xs). inl o) (λ (p : (k : ℕ) × (k < i) × (xs ≡ x ∷ get_or tails k [])). let l = p.1 in inr (get_or tails p.0 [], Contains-get_or tails p.0 [] (omega arith), p.2)) ((h xs).0 c)

    back : Contains old xs ⊎ ((ys : List ℕ) × Contains tails ys × (xs ≡ x ∷ ys)) → Contains lists xs
    back (inl o) = (h xs).1 (inl o)
    back (inr p) =
        let q = place_in tails [] p.0 p.1 in
        let l = q.1 in
        (h xs).1 (inr (q.0, omega arith, p.2 ∙ ap (λ (ys : List ℕ). x ∷ ys) (sym q.2)))

-- at first the empty list alone
pub listed_none : (used : List Bool) → AreListedTo used 0 ([] ∷ [])
listed_none used [] = (λ h. (tt, λ k d l. absurd (omega arith), tt), λ h. single_is [])
listed_none used (y ∷ ys) = (λ h. let e = single [] (y ∷ ys) h in absurd (cc), λ h. let l = h.2 in absurd (omega arith))

-- what is used begins no list
pub listed_used : (used : List Bool) (x : ℕ) (lists : List (List ℕ)) → x < length used → get_or used x false ≡ true → AreListedTo used x lists → AreListedTo used (x + 1) lists
listed_used used x lists fits e h [] = h []
listed_used used x lists fits e h (y ∷ ys) =
    (λ c. let p = (h (y ∷ ys)).0 c in let l = p.2 in (p.0, p.1, omega arith), λ p. (h (y ∷ ys)).1 (p.0, p.1, low p))
  where
    low : IsWithoutRepeat (y ∷ ys) × All (IsFree used) (y ∷ ys) × (y < x + 1) → y < x
    low p =
        let l = p.2 in
        ⊎_elim (λ (same : y ≡ x). absurd (false≢true (sym (subst (IsFree used) same (p.1 0 y (omega arith))) ∙ (get_or_default used x true false fits ∙ e)))) (λ (o : y ≢ x). let r : y < x = omega arith in r) (cases_eq y x)

module _ (used : List Bool) (x : ℕ) (fits : x < length used) (unused : get_or used x false ≡ false) where
  free : get_or used x true ≡ false
  free = get_or_default used x true false fits ∙ unused

  used_now : get_or (set used x true) x true ≡ true
  used_now = get_or-set_same used x true true fits

  still_free : (y : ℕ) → IsFree (set used x true) y → IsFree used y × (y ≢ x)
  still_free y h =
      ⊎_elim (λ (e : y ≡ x). absurd (false≢true (sym (subst (IsFree (set used x true)) e h) ∙ used_now))) (λ (o : y ≢ x). (sym (get_or-set_other used x y true true o) ∙ h, o)) (cases_eq y x)

  free_still : (y : ℕ) → IsFree used y → y ≢ x → IsFree (set used x true) y
  free_still y h o = get_or-set_other used x y true true o ∙ h

  -- fewer are free then
  pub free_fewer : count_by not (set used x true) < count_by not used
  free_fewer =
      let same = get_or_default used x true false fits in
      let change = sum_by-set (λ (b : Bool). cond {A = ℕ} (not b) 1 0) used x true false fits in
      let was : cond {A = ℕ} (not (get_or used x false)) 1 0 ≡ 1 = ap (λ (b : Bool). cond {A = ℕ} (not b) 1 0) (sym same ∙ free) in
      omega arith

  module _ (tails lists lists' : List (List ℕ)) (h : AreListedTo used x lists) (t : AreListed (set used x true) tails) (put : ArePutBefore x tails lists lists') where
    begins_more : (xs : List ℕ) → BeginsBelow x xs → BeginsBelow (x + 1) xs
    begins_more [] l = tt
    begins_more (y ∷ ys) l = omega arith

    old_more : (xs : List ℕ) → Contains lists xs → IsWithoutRepeat xs × All (IsFree used) xs × BeginsBelow (x + 1) xs
    old_more xs c = let p = (h xs).0 c in (p.0, p.1, begins_more xs p.2)

    new_more : (ys : List ℕ) → Contains tails ys → IsWithoutRepeat (x ∷ ys) × All (IsFree used) (x ∷ ys) × BeginsBelow (x + 1) (x ∷ ys)
    new_more ys c =
        let p = (t ys).0 c in
        let frees : All (IsFree used) ys = all_from (IsFree used) ys (λ z m. (still_free z (all_have (IsFree (set used x true)) ys p.1 z m)).0) in
        ((λ m. (still_free x (all_have (IsFree (set used x true)) ys p.1 x m)).1 refl, p.0), All-cons (IsFree used) x ys free frees, omega arith)

    there : (xs : List ℕ) → Contains lists' xs → IsWithoutRepeat xs × All (IsFree used) xs × BeginsBelow (x + 1) xs
    there xs c =
        ⊎_elim (old_more xs) (λ (p : (ys : List ℕ) × Contains tails ys × (xs ≡ x ∷ ys)). subst (λ (zs : List ℕ). IsWithoutRepeat zs × All (IsFree used) zs × BeginsBelow (x + 1) zs) (sym p.2) (new_more p.0 p.1)) ((put xs).0 c)

    back : (xs : List ℕ) → IsWithoutRepeat xs × All (IsFree used) xs × BeginsBelow (x + 1) xs → Contains lists' xs
    back [] p = (put []).1 (inl ((h []).1 (tt, p.1, tt)))
    back (y ∷ ys) p =
        let l = p.2 in
        let rest : All (IsFree used) ys = all_from (IsFree used) ys (λ z m. all_have (IsFree used) (y ∷ ys) p.1 z (Contains-tail y ys z m)) in
        ⊎_elim (λ (e : y ≡ x). let frees : All (IsFree (set used x true)) ys = all_from (IsFree (set used x true)) ys (λ z m. free_still z (all_have (IsFree used) ys rest z m) (λ q. p.0.0 (subst (Contains ys) (q ∙ sym e) m))) in (put (y ∷ ys)).1 (inr (ys, (t ys).1 (p.0.1, frees), ap (λ (z : ℕ). z ∷ ys) e))) (λ (o : y ≢ x). (put (y ∷ ys)).1 (inl ((h (y ∷ ys)).1 (p.0, p.1, omega arith)))) (cases_eq y x)

    pub listed_more : AreListedTo used (x + 1) lists'
    listed_more xs = (there xs, back xs)

pub listed_all : (used : List Bool) (n : ℕ) (lists : List (List ℕ)) → length used ≤ n → AreListedTo used n lists → AreListed used lists
listed_all used n lists l h xs = (λ c. let p = (h xs).0 c in (p.0, p.1), λ p. (h xs).1 (p.0, p.1, begins xs p.1))
  where
    begins : (ys : List ℕ) → All (IsFree used) ys → BeginsBelow n ys
    begins [] all = tt
    begins (y ∷ ys) all =
        ⊎_elim (λ (m : y < length used). let r : y < n = omega arith in r) (λ (m : length used ≤ y). absurd (false≢true (sym (all 0 y (omega arith)) ∙ get_or_past used y true m))) (cases_lt y (length used))

-- all are free at first
pub lists_all : (n : ℕ) (used : List Bool) (lists : List (List ℕ)) → used ≡ replicate n false → AreListed used lists → AreLists n lists
lists_all n used lists e h xs =
    (λ c. let p = (h xs).0 c in (p.0, all_from (λ x. x < n) xs (λ z m. below z (all_have (IsFree used) xs p.1 z m))), λ p. (h xs).1 (p.0, all_from (IsFree used) xs (λ z m. free z (all_have (λ x. x < n) xs p.1 z m))))
  where
    free : (z : ℕ) → z < n → IsFree used z
    free z l = subst (λ (us : List Bool). IsFree us z) (sym e) (get_or-replicate n z false true l)

    below : (z : ℕ) → IsFree used z → z < n
    below z f =
        ⊎_elim (λ (l : z < n). l) (λ (l : n ≤ z). let m = length-replicate {A = Bool} n false in absurd (false≢true (sym (subst (λ (us : List Bool). IsFree us z) e f) ∙ get_or_past (replicate n false) z true (omega arith)))) (cases_lt z n)

drop_at : (xs : List ℕ) (i c : ℕ) → i < length xs → c ≡ get_or xs i 0 → drop i xs ≡ c ∷ drop (i + 1) xs
drop_at xs i c l e =
    let next : suc i ≡ i + 1 = omega arith in
    subst (λ (x : ℕ). drop i xs ≡ x ∷ drop (i + 1) xs) (sym e) (subst (λ (j : ℕ). drop i xs ≡ get_or xs i 0 ∷ drop j xs) next (drop-cons xs i 0 l))

-- a step along a list
pub leads_on : (g : List (List ℕ)) (at : ℕ) (rest : List ℕ) (i c : ℕ) → i < length rest → c ≡ get_or rest i 0 → HasEdge g at c → (b : ℕ) → Leads g at (drop i rest) b ↔ Leads g c (drop (i + 1) rest) b
leads_on g at rest i c l e edge b =
    subst (λ (xs : List ℕ). Leads g at xs b ↔ Leads g c (drop (i + 1) rest) b) (sym (drop_at rest i c l e)) (λ h. h.1, λ h. (edge, h))

pub leads_out : (g : List (List ℕ)) (at : ℕ) (rest : List ℕ) (i c : ℕ) → i < length rest → c ≡ get_or rest i 0 → (HasEdge g at c → ⊥) → (b : ℕ) → Leads g at (drop i rest) b → ⊥
leads_out g at rest i c l e out b h =
    out (subst (λ (xs : List ℕ). Leads g at xs b) (drop_at rest i c l e) h).0

-- two lists compared from a place on
pub after_end : (xs ys : List ℕ) (i : ℕ) → i < length xs → length ys ≤ i → IsNotAfter (drop i xs) (drop i ys) → ⊥
after_end xs ys i l m h =
    subst (λ (zs : List ℕ). IsNotAfter (get_or xs i 0 ∷ drop (i + 1) xs) zs) (drop_of_length-le ys m) (subst (λ (zs : List ℕ). IsNotAfter zs (drop i ys)) (drop_at xs i (get_or xs i 0) l refl) h)

-- what the lists of all nodes have
pub list_within : (n : ℕ) (lists : List (List ℕ)) → AreLists n lists → (i : ℕ) (d : List ℕ) → i < length lists → IsWithoutRepeat (get_or lists i d) × All (λ x. x < n) (get_or lists i d)
list_within n lists h i d l = (h (get_or lists i d)).0 (Contains-get_or lists i d l)

-- the path to a node is among the lists
pub path_place : (g : List (List ℕ)) → EndsAtNodes g → (lists : List (List ℕ)) → AreLists (length g) lists → (a b : ℕ) (rest : List ℕ) → IsPath g a rest b → (k : ℕ) × (k < length lists) × (get_or lists k [] ≡ rest)
path_place g ends lists h a b rest p =
    place_in lists [] rest ((h rest).1 (p.no_repeat.1, all_from (λ x. x < length g) rest (within rest a p.leads)))
  where
    within : (xs : List ℕ) (x : ℕ) → Leads g x xs b → (z : ℕ) → Contains xs z → z < length g
    within [] x l z m = let o = m.1 in absurd (omega arith)
    within (y ∷ ys) x l z m =
        ⊎_elim (λ (e : y ≡ z). subst (λ (w : ℕ). w < length g) e (ends x y l.0)) (λ (r : Contains ys z). within ys y l.1 z r) (Contains-cons_cases y ys z m)

pub no_path : (g : List (List ℕ)) → EndsAtNodes g → (lists : List (List ℕ)) → AreLists (length g) lists → (a b n : ℕ) → length lists ≤ n → ((k : ℕ) → k < n → IsPath g a (get_or lists k []) b → ⊥) → Reaches g a b → ⊥
no_path g ends lists h a b n l none r =
    let p = path_place g ends lists h a b r.0 r.1 in
    let m = p.1 in
    none p.0 (omega arith) (subst (λ (xs : List ℕ). IsPath g a xs b) (sym p.2) r.1)

pub first_all : (g : List (List ℕ)) → EndsAtNodes g → (lists : List (List ℕ)) → AreLists (length g) lists → (a b n : ℕ) (rest : List ℕ) → length lists ≤ n → ((k : ℕ) → k < n → IsPath g a (get_or lists k []) b → IsNotAfter rest (get_or lists k [])) → (other : List ℕ) → IsPath g a other b → IsNotAfter rest other
first_all g ends lists h a b n rest l all other q =
    let p = path_place g ends lists h a b other q in
    let m = p.1 in
    subst (IsNotAfter rest) p.2 (all p.0 (omega arith) (subst (λ (xs : List ℕ). IsPath g a xs b) (sym p.2) q))

pub no_first : (g : List (List ℕ)) → EndsAtNodes g → (lists : List (List ℕ)) → AreLists (length g) lists → (a b n : ℕ) → length lists ≤ n → ((k : ℕ) → k < n → IsFirstPath g a (get_or lists k []) b → ⊥) → (rest : List ℕ) → IsFirstPath g a rest b → ⊥
no_first g ends lists h a b n l none rest f =
    let p = path_place g ends lists h a b rest f.path in
    let m = p.1 in
    none p.0 (omega arith) (subst (λ (xs : List ℕ). IsFirstPath g a xs b) (sym p.2) f)

pub trunk_none : (g : List (List ℕ)) (root b : ℕ) (xs : List ℕ) → xs ≡ [] → ((rest : List ℕ) → IsFirstPath g root rest b → ⊥) → IsTrunk g root b xs
trunk_none g root b xs e none =
    subst (IsTrunk g root b) (sym e) (λ h. (λ c. let l = c.1 in absurd (omega arith), λ l. absurd (none l.0 l.1)))

pub trunk_is : (g : List (List ℕ)) (root b : ℕ) (rest xs : List ℕ) → xs ≡ root ∷ rest → IsFirstPath g root rest b → IsTrunk g root b xs
trunk_is g root b rest xs e f =
    subst (IsTrunk g root b) (sym e) (λ h. (λ c. (rest, f, c), λ l. subst (λ (ys : List ℕ). Contains (root ∷ ys) h) (first_path_one g root b l.0 rest l.1 f) l.2))

-- what holds at each place holds with one more
pub each_push : {X : Type 0} → (P : ℕ → X → Type 0) (xs ys : List X) (x d : X) (n : ℕ) → ys ≡ xs ++ x ∷ [] → length xs ≡ n → ((k : ℕ) → k < n → P k (get_or xs k d)) → P n x → (k : ℕ) → k < n + 1 → P k (get_or ys k d)
each_push P xs ys x d n e count all now k l =
    subst (λ zs. P k (get_or zs k d)) (sym e) (⊎_elim (λ (same : k ≡ n). subst (λ (i : ℕ). P i (get_or (xs ++ x ∷ []) i d)) (sym same) (subst (P n) (sym (get_or_push xs x d n count)) now)) (λ (o : k ≢ n). let m : k < length xs = omega arith in subst (P k) (sym (get_or_append_left xs (x ∷ []) d k m)) (all k (omega arith))) (cases_eq k n))

-- what leads from x is where the list ends
pub by_source : (g : List (List ℕ)) (root h x : ℕ) (rest : List ℕ) (source : ℕ) → ((b : ℕ) → (Some source ≡ Some b) ↔ Leads g x rest b) → (l : LoopsBackBy g root h x rest) → l.source ≡ source
by_source g root h x rest source e l = let s : Some source ≡ Some l.source = (e l.source).1 l.path.leads in cc

pub loops_by_place : (g : List (List ℕ)) → EndsAtNodes g → (lists : List (List ℕ)) → AreLists (length g) lists → (root h x n : ℕ) → length lists ≤ n → ((k : ℕ) → k < n → LoopsBackBy g root h x (get_or lists k []) → ⊥) → LoopsBack g root h x → ⊥
loops_by_place g ends lists a root h x n l none b =
    let p = path_place g ends lists a x b.source b.rest b.path in
    let m = p.1 in
    none p.0 (omega arith) (subst (LoopsBackBy g root h x) (sym p.2) (record { source = b.source; path = b.path; back = b.back; below = b.below }))

pub loops_from : (g : List (List ℕ)) (root h x : ℕ) (rest : List ℕ) → LoopsBackBy g root h x rest → LoopsBack g root h x
loops_from g root h x rest b =
    record { rest = rest; source = b.source; path = b.path; back = b.back; below = b.below }

-- the loop of h is within the graph
pub in_loop_within : (g : List (List ℕ)) → EndsAtNodes g → (root h x : ℕ) → h < length g → root < length g → IsInLoop g root h x → x < length g
in_loop_within g ends root h x l m (inl e) = omega arith
in_loop_within g ends root h x l m (inr b) =
    let below = (all_have (IsBelow g root h) (x ∷ b.rest) b.below x (Contains-head x b.rest)).0 in
    leads_within g ends below.0 root x m below.1.path.leads

pub marks_all : (g : List (List ℕ)) → EndsAtNodes g → (root h n : ℕ) (marks : List Bool) → h < length g → root < length g → length g ≤ n → length marks ≡ n → ((y : ℕ) → y < n → IsMarked marks y ↔ IsInLoop g root h y) → MarksLoop g root h marks
marks_all g ends root h n marks l m all count each y =
    (λ t. let b = marked_below marks y t in (each y (omega arith)).0 t, λ i. let b = in_loop_within g ends root h y l m i in (each y (omega arith)).1 i)

-- an edge leads from a node
pub edge_from : (g : List (List ℕ)) (a b : ℕ) → HasEdge g a b → a < length g
edge_from g a b h =
    ⊎_elim (λ (l : a < length g). l) (λ (m : length g ≤ a). absurd (Contains-nil b (subst (λ (row : List ℕ). Contains row b) (get_or_past g a [] m) h))) (cases_lt a (length g))
