-- What holds of each well-built world.
use Rattle.std.proofs.Common.{◌≡◌, inl, inr, ℕ, zero, suc, ◌+◌, ◌<◌, ◌≤◌, Bool, true, false, List, [], ◌∷◌, ◌++◌, length, Option, Some, None, is_none, arith, refl, sym, ap, subst, ◌∙◌, nat_eq, get_or}
use Rattle.std.specs.Prelude.{find, All, IfSome}
use Rattle.std.specs.Option.{option_and_then, option_map_or, option_to_list}
use Rattle.std.specs.List.{list_any, flat_map, IsDistinct}
use Rattle.std.specs.Cmp.{nat_eq_equiv}
use Rattle.std.proofs.lemmas.Bool.{cases_lt, eq-eqb}
use Rattle.std.proofs.lemmas.List.{length_push}
use Rattle.std.proofs.lemmas.List.Quantifiers.{position-Some}
use Rattle.std.proofs.lemmas.Slice.Eq.{bytes_eq-Decides}
use Rattle.std.proofs.lemmas.Map.Keys.{IsDistinct-push}
use Rattle.std.proofs.lemmas.Map.Steps.{length-le_from_distinct_below}
use Rattle.common_laws.proofs.Choices.{map_none, or_none}
use Rattle.common_laws.proofs.Numbers.{place_listed, one_listed, head_listed, tail_listed}
use Rattle.common_laws.proofs.Tests.{any_left, any_right, any_either}
use Rattle.class_hierarchy.specs.declared.fault.WorldFault.TheVariants.{MissingSuper}
use Rattle.class_hierarchy.specs.World.{World, object_class, is_named, number_of, class_at, superclass, interfaces, line_from, line, above_by, above}
use Rattle.class_hierarchy.specs.Building.{LeadsTo, IsCyclic, supers, is_missing, missing_name, missing_super, IsWellBuilt}
use Rattle.class_hierarchy.specs.Building.LeadsTo.{once}
use Rattle.class_hierarchy.proofs.Rows.{none_past}
use Rattle.class_hierarchy.proofs.Lines.{line_ends, line_goes}
use Rattle.class_hierarchy.proofs.Cycles.{number_below, superclass_below, interfaces_below}
use Rattle.class_hierarchy.proofs.Exploring.{leads_on, none_twice}
use Rattle.class_hierarchy.proofs.Inside.{line_inside}
use Rattle.class_hierarchy.proofs.OwnNames.{first_none, own_name}

-- ---- names

there_at : (w : World) (name : List ℕ) (o : Option ℕ) → number_of w name ≡ o → find (is_missing w) (name ∷ []) ≡ None → (d : ℕ) × (number_of w name ≡ Some d)
there_at w name (Some d) e h = (d, e)
there_at w name None e h =
    let miss : is_missing w name ≡ true = ap (λ (o : Option ℕ). is_none o) e in
    absurd (let hit : find (is_missing w) (name ∷ []) ≡ Some name = rw miss refl in cc)

named_so : (w : World) (name : List ℕ) (d : ℕ) → number_of w name ≡ Some d → (class_at w d).name ≡ name
unfolding number_of
named_so w name d e = (bytes_eq-Decides (class_at w d).name name).0 ((position-Some (is_named name) w d object_class e).1)

pub super_there : (w : World) → IsWellBuilt w → (c : ℕ) (name : List ℕ) → c < length w → (class_at w c).super_name ≡ Some name → (d : ℕ) × (d < length w) × (superclass w c ≡ Some d) × ((class_at w d).name ≡ name)
unfolding superclass missing_super
super_there w built c name lt e =
    let none : missing_super w c ≡ None = first_none (missing_super w) (length w) 0 c built.has_supers.there (omega arith) (omega arith) in
    let all : missing_name w (class_at w c) ≡ None = map_none (MissingSuper (class_at w c).name) (missing_name w (class_at w c)) none in
    let first : find (is_missing w) (option_to_list (class_at w c).super_name) ≡ None = (or_none (find (is_missing w) (option_to_list (class_at w c).super_name)) (find (is_missing w) (class_at w c).interfaces) all).0 in
    let there = there_at w name (number_of w name) refl (subst (λ o. find (is_missing w) (option_to_list o) ≡ None) e first) in
    (there.0, number_below w name there.0 there.1, ap (λ o. option_and_then (number_of w) o) e ∙ there.1, named_so w name there.0 there.1)

-- ---- chains end

-- numbers of classes, each once, from each of which names lead to this class
record Path (w : World) (path : List ℕ) (c : ℕ) : Type 0 where
  pub distinct : IsDistinct nat_eq path
  pub below : (d : ℕ) → list_any (nat_eq d) path ≡ true → d < length w
  pub lead : (d : ℕ) → list_any (nat_eq d) path ≡ true → LeadsTo (supers w) d c

no_path : (w : World) (c : ℕ) → Path w [] c
no_path w c = record { distinct = none_twice; below = λ d h. absurd cc; lead = λ d h. absurd cc }

not_on : (w : World) (path : List ℕ) (c : ℕ) (b : Bool) → ((d : ℕ) → ¬ IsCyclic w d) → Path w path c → list_any (nat_eq c) path ≡ b → b ≡ false
not_on w path c true acyclic p e = absurd (acyclic c (p.lead c e))
not_on w path c false acyclic p e = refl

path_next : (w : World) (path : List ℕ) (c e : ℕ) → ((d : ℕ) → ¬ IsCyclic w d) → c < length w → Path w path c → list_any (nat_eq e) (supers w c) ≡ true → Path w (path ++ c ∷ []) e
path_next w path c e acyclic lt p step = record {
  distinct = IsDistinct-push nat_eq_equiv path c p.distinct (not_on w path c (list_any (nat_eq c) path) acyclic p refl);
  below = λ d h. elim (any_either (nat_eq d) path (c ∷ []) h) [
    | inl old ↦ p.below d old
    | inr new ↦ subst (λ k. k < length w) (sym (one_listed d c new)) lt
  ];
  lead = λ d h. elim (any_either (nat_eq d) path (c ∷ []) h) [
    | inl old ↦ leads_on (supers w) d c e (p.lead d old) step
    | inr new ↦ subst (λ k. LeadsTo (supers w) k e) (sym (one_listed d c new)) (once step)
  ];
}

-- a path doesn't pass through all classes before it comes to one of them
short : (w : World) (path : List ℕ) (c : ℕ) → ((d : ℕ) → ¬ IsCyclic w d) → c < length w → Path w path c → length path < length w
short w path c acyclic lt p =
    let distinct : IsDistinct nat_eq (path ++ c ∷ []) = IsDistinct-push nat_eq_equiv path c p.distinct (not_on w path c (list_any (nat_eq c) path) acyclic p refl) in
    let few : length (path ++ c ∷ []) ≤ length w = length-le_from_distinct_below (path ++ c ∷ []) (length w) distinct (λ d h. elim (any_either (nat_eq d) path (c ∷ []) h) [
      | inl old ↦ p.below d old
      | inr new ↦ subst (λ k. k < length w) (sym (one_listed d c new)) lt
    ]) in
    omega (arith, few, length_push path c)

super_step : (w : World) (c s : ℕ) → superclass w c ≡ Some s → list_any (nat_eq s) (supers w c) ≡ true
unfolding supers
super_step w c s e = any_left (nat_eq s) (option_to_list (superclass w c)) (interfaces w c) (rw (e, eq-eqb s s refl) refl)

pub interface_step : (w : World) (c i : ℕ) → list_any (nat_eq i) (interfaces w c) ≡ true → list_any (nat_eq i) (supers w c) ≡ true
unfolding supers
interface_step w c i h = any_right (nat_eq i) (option_to_list (superclass w c)) (interfaces w c) h

-- ---- superclasses

abbrev LineStays : World → ℕ → Type 0
LineStays w k = (path : List ℕ) (c : ℕ) → c < length w → Path w path c → length w ≤ length path + k → line_from w (suc k) (Some c) ≡ line_from w k (Some c)

line_above : (w : World) → ((d : ℕ) → ¬ IsCyclic w d) → (k : ℕ) → LineStays w k → (path : List ℕ) (c : ℕ) (o : Option ℕ) → superclass w c ≡ o → c < length w → Path w path c → length w ≤ length path + suc k → line_from w (suc k) o ≡ line_from w k o
line_above w acyclic k stays path c None e lt p le = line_ends w (suc k) ∙ sym (line_ends w k)
line_above w acyclic k stays path c (Some s) e lt p le = stays (path ++ c ∷ []) s (superclass_below w c s e) (path_next w path c s acyclic lt p (super_step w c s e)) (omega (arith, le, length_push path c))

line_stays : (w : World) → ((d : ℕ) → ¬ IsCyclic w d) → (k : ℕ) → LineStays w k
line_stays w acyclic zero path c lt p le = absurd (omega (arith, le, short w path c acyclic lt p))
line_stays w acyclic (suc k) path c lt p le = line_goes w (suc k) c ∙ ap (λ l. c ∷ l) (line_above w acyclic k (line_stays w acyclic k) path c (superclass w c) refl lt p le) ∙ sym (line_goes w k c)

-- the chain from a superclass on, if there is one
abbrev pub line_on : World → Option ℕ → List ℕ
line_on w o = option_map_or (λ s. line w s) o []

all_on : (w : World) (o : Option ℕ) → line_from w (length w) o ≡ line_on w o
all_on w None = line_ends w (length w)
all_on w (Some s) = refl

line_by : (w : World) → ((d : ℕ) → ¬ IsCyclic w d) → (n c : ℕ) → n ≡ length w → c < n → line_from w n (Some c) ≡ c ∷ line_from w n (superclass w c)
line_by w acyclic zero c e lt = absurd (omega arith)
line_by w acyclic (suc k) c e lt =
    line_goes w k c ∙ ap (λ l. c ∷ l) (sym (line_above w acyclic k (line_stays w acyclic k) [] c (superclass w c) refl (omega arith) (no_path w c) (omega arith)))

pub line_whole : (w : World) → IsWellBuilt w → (c : ℕ) → c < length w → line w c ≡ c ∷ line_on w (superclass w c)
line_whole w built c lt = line_by w built.no_cycle (length w) c refl lt ∙ ap (λ l. c ∷ l) (all_on w (superclass w c))

-- ---- interfaces

each_of : (f g : ℕ → List ℕ) (xs : List ℕ) → ((i : ℕ) → list_any (nat_eq i) xs ≡ true → f i ≡ g i) → flat_map f xs ≡ flat_map g xs
each_of f g [] h = refl
each_of f g (x ∷ xs) h =
    let here : f x ≡ g x = h x (head_listed x xs) in
    let rest : flat_map f xs ≡ flat_map g xs = each_of f g xs (λ i there. h i (tail_listed i x xs there)) in
    ap (λ l. l ++ flat_map f xs) here ∙ ap (λ l. g x ++ l) rest

pub above_goes : (w : World) (k c : ℕ) → above_by w (suc k) c ≡ flat_map (λ i. i ∷ above_by w k i) (interfaces w c)
unfolding above_by
above_goes w k c = refl

above_stays : (w : World) → ((d : ℕ) → ¬ IsCyclic w d) → (k : ℕ) (path : List ℕ) (c : ℕ) → c < length w → Path w path c → length w ≤ length path + k → above_by w (suc k) c ≡ above_by w k c
above_stays w acyclic zero path c lt p le = absurd (omega (arith, le, short w path c acyclic lt p))
above_stays w acyclic (suc k) path c lt p le =
    above_goes w (suc k) c
    ∙ each_of (λ i. i ∷ above_by w (suc k) i) (λ i. i ∷ above_by w k i) (interfaces w c) (λ i h. ap (λ l. i ∷ l) (above_stays w acyclic k (path ++ c ∷ []) i (interfaces_below w c i h) (path_next w path c i acyclic lt p (interface_step w c i h)) (omega (arith, le, length_push path c))))
    ∙ sym (above_goes w k c)

above_past : (w : World) (k c : ℕ) → interfaces w c ≡ [] → above_by w k c ≡ []
unfolding above_by
above_past w zero c h = refl
above_past w (suc k) c h = rw h refl

pub above_whole : (w : World) → IsWellBuilt w → (c : ℕ) → above w c ≡ flat_map (λ i. i ∷ above w i) (interfaces w c)
above_whole w built c = elim (cases_lt c (length w)) [
  | inl lt ↦ sym (above_stays w built.no_cycle (length w) [] c lt (no_path w c) (omega arith)) ∙ above_goes w (length w) c
  | inr past ↦ let none = none_past w c (omega arith) in above_past w (length w) c none ∙ sym (ap (λ l. flat_map (λ i. i ∷ above w i) l) none)
]

-- ---- own names

pub own_names : (w : World) → IsWellBuilt w → (c : ℕ) → c < length w → number_of w (class_at w c).name ≡ Some c
own_names w built c lt = own_name w built.has_supers.once c lt

-- ---- numbers

pub all_below : (w : World) (c : ℕ) (v : List ℕ) → c < length w → v ≡ line w c → All (λ d. d < length w) v
all_below w c v lt e = λ k d within. line_inside w c lt (get_or v k d) (subst (λ l. list_any (nat_eq (get_or v k d)) l ≡ true) e (place_listed v k d within))

pub super_bound : (w : World) (c : ℕ) (o : Option ℕ) → o ≡ superclass w c → IfSome o (λ i. i < length w)
super_bound w c None e = tt
super_bound w c (Some i) e = superclass_below w c i (sym e)

pub interfaces_bound : (w : World) (c : ℕ) (xs : List ℕ) → xs ≡ interfaces w c → All (λ i. i < length w) xs
interfaces_bound w c xs e = λ k d within. interfaces_below w c (get_or xs k d) (subst (λ l. list_any (nat_eq (get_or xs k d)) l ≡ true) e (place_listed xs k d within))
