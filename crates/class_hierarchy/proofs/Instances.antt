-- What a class is an instance of is what its chains of names lead to.
use Rattle.std.proofs.Common.{◌≡◌, ◌⊎◌, ◌++◌, inl, inr, ℕ, zero, suc, ◌<◌, true, List, [], ◌∷◌, length, Option, Some, None, refl, sym, ap, subst, ◌∙◌, nat_eq}
use Rattle.std.specs.Prelude.{Contains, IsTrue, ◌↔◌}
use Rattle.std.specs.Option.{option_and_then}
use Rattle.std.specs.List.{list_any, flat_map, filter_map, cons_option}
use Rattle.std.proofs.lemmas.Bool.{eqb-true, or_cases}
use Rattle.common_laws.proofs.Members.{contains_head, contains_tail, contains_cases, contains_none}
use Rattle.common_laws.proofs.Numbers.{head_listed, tail_listed, one_listed, flat_listed, listed_flat}
use Rattle.common_laws.proofs.Tests.{any_left, any_right, any_either}
use Rattle.class_hierarchy.specs.World.{World, class_at, number_of, superclass, interfaces, line, line_from, above, above_by, ancestors, is_below}
use Rattle.class_hierarchy.specs.Tables.{with_above}
use Rattle.class_hierarchy.specs.Building.{IsWellBuilt}
use Rattle.class_hierarchy.specs.Instances.{IsSuperclass, IsInterface, IsThroughInterfaces, IsInstance}
use Rattle.class_hierarchy.specs.Instances.IsThroughInterfaces.{itself, next}
use Rattle.class_hierarchy.specs.Instances as instance
use Rattle.class_hierarchy.proofs.Cycles.{superclass_below}
use Rattle.class_hierarchy.proofs.Lines.{line_ends, line_goes}
use Rattle.class_hierarchy.proofs.Climbing.{in_above}
use Rattle.class_hierarchy.proofs.WellBuilt.{line_on, line_whole}

-- ---- names and numbers

super_by : (w : World) (c d : ℕ) (o : Option (List ℕ)) → (class_at w c).super_name ≡ o → option_and_then (number_of w) o ≡ Some d → IsSuperclass w c d
super_by w c d None e h = absurd cc
super_by w c d (Some name) e h = record { name = name; named = e; meant = h }

named_super : (w : World) (c d : ℕ) → superclass w c ≡ Some d → IsSuperclass w c d
unfolding superclass
named_super w c d h = super_by w c d (class_at w c).super_name refl h

super_number : (w : World) (c d : ℕ) → IsSuperclass w c d → superclass w c ≡ Some d
unfolding superclass
super_number w c d h = ap (option_and_then (number_of w)) h.named ∙ h.meant

of_first : (d : ℕ) (o : Option ℕ) (rest : List ℕ) → list_any (nat_eq d) (cons_option o rest) ≡ true → (o ≡ Some d) ⊎ (list_any (nat_eq d) rest ≡ true)
of_first d None rest h = inr h
of_first d (Some i) rest h = elim (or_cases (nat_eq d i) (list_any (nat_eq d) rest) h) [
  | inl same ↦ inl (ap Some (sym (eqb-true d i same)))
  | inr later ↦ inr later
]

named_of : (w : World) (names : List (List ℕ)) (d : ℕ) → list_any (nat_eq d) (filter_map (number_of w) names) ≡ true → (x : List ℕ) × Contains names x × (number_of w x ≡ Some d)
named_of w [] d h = absurd cc
named_of w (name ∷ names) d h = elim (of_first d (number_of w name) (filter_map (number_of w) names) h) [
  | inl here ↦ (name, contains_head name names, here)
  | inr later ↦ let at = named_of w names d later in (at.0, contains_tail name names at.0 at.1, at.2)
]

first_in : (d : ℕ) (o : Option ℕ) (rest : List ℕ) → o ≡ Some d → list_any (nat_eq d) (cons_option o rest) ≡ true
first_in d o rest e = rw e (head_listed d rest)

later_in : (d : ℕ) (o : Option ℕ) (rest : List ℕ) → list_any (nat_eq d) rest ≡ true → list_any (nat_eq d) (cons_option o rest) ≡ true
later_in d None rest h = h
later_in d (Some i) rest h = tail_listed d i rest h

listed_name : (w : World) (names : List (List ℕ)) (name : List ℕ) (d : ℕ) → Contains names name → number_of w name ≡ Some d → list_any (nat_eq d) (filter_map (number_of w) names) ≡ true
listed_name w [] name d h e = absurd (contains_none name h)
listed_name w (x ∷ names) name d h e = elim (contains_cases x names name h) [
  | inl here ↦ first_in d (number_of w x) (filter_map (number_of w) names) (ap (number_of w) here ∙ e)
  | inr later ↦ later_in d (number_of w x) (filter_map (number_of w) names) (listed_name w names name d later e)
]

named_interface : (w : World) (c d : ℕ) → list_any (nat_eq d) (interfaces w c) ≡ true → IsInterface w c d
unfolding interfaces
named_interface w c d h = let at = named_of w (class_at w c).interfaces d h in record { name = at.0; named = at.1; meant = at.2 }

interface_listed : (w : World) (c d : ℕ) → IsInterface w c d → list_any (nat_eq d) (interfaces w c) ≡ true
unfolding interfaces
interface_listed w c d h = listed_name w (class_at w c).interfaces h.name d h.named h.meant

-- ---- what is found is led to

through_found : (w : World) (d n c : ℕ) → list_any (nat_eq d) (above_by w n c) ≡ true → IsThroughInterfaces w c d
unfolding above_by
through_found w d zero c h = absurd cc
through_found w d (suc n) c h =
    let at = listed_flat d (λ i. i ∷ above_by w n i) (interfaces w c) h in
    next (named_interface w c at.0 at.1) (elim (any_either (nat_eq d) (at.0 ∷ []) (above_by w n at.0) at.2) [
      | inl here ↦ subst (λ x. IsThroughInterfaces w x d) (one_listed d at.0 here) itself
      | inr higher ↦ through_found w d n at.0 higher
    ])

at_class : (w : World) (c d : ℕ) → list_any (nat_eq d) (with_above w c) ≡ true → IsThroughInterfaces w c d
at_class w c d h = elim (any_either (nat_eq d) (c ∷ []) (above w c) h) [
  | inl here ↦ subst (λ x. IsThroughInterfaces w x d) (one_listed d c here) itself
  | inr higher ↦ through_found w d (length w) c higher
]

abbrev LeadsOn : World → ℕ → ℕ → Type 0
LeadsOn w d n = (o : Option ℕ) → list_any (nat_eq d) (flat_map (with_above w) (line_from w n o)) ≡ true → (c : ℕ) × (o ≡ Some c) × IsInstance w c d

leads_from : (w : World) (d n : ℕ) → LeadsOn w d n → (c : ℕ) → list_any (nat_eq d) (with_above w c ++ flat_map (with_above w) (line_from w n (superclass w c))) ≡ true → IsInstance w c d
leads_from w d n others c h = elim (any_either (nat_eq d) (with_above w c) (flat_map (with_above w) (line_from w n (superclass w c))) h) [
  | inl here ↦ instance.through (at_class w c d here)
  | inr higher ↦ let on = others (superclass w c) higher in instance.above (named_super w c on.0 on.1) on.2
]

leads : (w : World) (d n : ℕ) → LeadsOn w d n
unfolding line_from
leads w d zero o h = absurd cc
leads w d (suc n) None h = absurd cc
leads w d (suc n) (Some c) h = (c, refl, leads_from w d n (leads w d n) c h)

below_leads : (w : World) (c d : ℕ) → is_below w c d ≡ true → IsInstance w c d
unfolding ancestors
below_leads w c d h = let on = leads w d (length w) (Some c) h in let same : c ≡ on.0 = cc in subst (λ x. IsInstance w x d) (sym same) on.2

-- ---- what is led to is found

through_listed : (w : World) → IsWellBuilt w → (c d : ℕ) → IsThroughInterfaces w c d → list_any (nat_eq d) (with_above w c) ≡ true
through_listed w built c d itself = head_listed c (above w c)
through_listed w built c d (next {i = i} step more) =
    any_right (nat_eq d) (c ∷ []) (above w c) (in_above w built d c i (interface_listed w c i step) (through_listed w built i d more))

below_by : (w : World) (c d : ℕ) (l : List ℕ) → line w c ≡ l → list_any (nat_eq d) (flat_map (with_above w) l) ≡ true → is_below w c d ≡ true
unfolding ancestors
below_by w c d l e h = rw e h

below_on : (w : World) (c d : ℕ) → is_below w c d ≡ true → list_any (nat_eq d) (flat_map (with_above w) (line w c)) ≡ true
unfolding ancestors
below_on w c d h = h

leads_below : (w : World) → IsWellBuilt w → (c d : ℕ) → c < length w → IsInstance w c d → is_below w c d ≡ true
leads_below w built c d lt (instance.through h) =
    below_by w c d (c ∷ line_on w (superclass w c)) (line_whole w built c lt) (any_left (nat_eq d) (with_above w c) (flat_map (with_above w) (line_on w (superclass w c))) (through_listed w built c d h))
leads_below w built c d lt (instance.above {s = s} step more) =
    let number : superclass w c ≡ Some s = super_number w c s step in
    let higher : is_below w s d ≡ true = leads_below w built s d (superclass_below w c s number) more in
    let on : line_on w (superclass w c) ≡ line w s = rw number refl in
    below_by w c d (c ∷ line_on w (superclass w c)) (line_whole w built c lt)
    (any_right (nat_eq d) (with_above w c) (flat_map (with_above w) (line_on w (superclass w c))) (rw on (below_on w s d higher)))

pub instance_below : (w : World) → IsWellBuilt w → (c d : ℕ) → c < length w → IsTrue (is_below w c d) ↔ IsInstance w c d
instance_below w built c d lt = (below_leads w c d, leads_below w built c d lt)
