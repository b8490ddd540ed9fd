-- What is selected.
use Rattle.std.proofs.Common.{◌≡◌, inl, inr, ℕ, zero, suc, ◌-◌, ◌<◌, ◌≤◌, Bool, true, false, ◌||◌, ◌&&◌, not, List, [], ◌∷◌, length, drop, take, get_or, Option, Some, None, arith, cond, refl, sym, ap, ◌∙◌, nat_eq, is_some, true≢false}
use Rattle.std.specs.Prelude.{find, slice_get, Result, Ok, Err}
use Rattle.std.specs.Option.{option_map, option_and_then, option_map_or}
use Rattle.std.specs.List.{list_any, position}
use Rattle.std.specs.Str.{bytes_eq}
use Rattle.std.proofs.lemmas.Bool.{both_ways, cases_Bool, and_cases, and_left, and_right, and_from, or_parts, or_from, or_left, or_right, not-false, not_from_true, and_parts, false_from_ne_true}
use Rattle.std.proofs.lemmas.Slice.Eq.{bytes_eq-Decides}
use Rattle.std.proofs.lemmas.List.Folds.{list_any_at}
use Rattle.common_laws.proofs.Tests.{any_in, any_has, find_some, find_misses}
use Rattle.class_reader.specs.declared.class.Method.{Method}
use Rattle.world.specs.declared.member.MemberId.{MemberId}
use Rattle.world.specs.declared.access.MethodKind.TheVariants as kinds
use Rattle.world.specs.declared.fault.ResolveFault.{ResolveFault}
use Rattle.world.specs.declared.fault.ResolveFault.TheVariants.{MissingMember}
use Rattle.world.specs.Access.{has_kind}
use Rattle.class_hierarchy.specs.World.{World, class_at, line, superinterfaces}
use Rattle.world.specs.Resolution.{first_of, member, is_method, of_kind, method_in, has_default}
use Rattle.world.specs.Selection.{package_of, same_package, meets_package, only_default, inherited}
use Rattle.class_hierarchy.specs.Tables.{SameFirst}
use Rattle.world.specs.Tables.{Tells}
use Rattle.world.proofs.Finding.{tells_self, only_same}

pub default_same : (w : World) (name desc xs ys : List ℕ) → SameFirst xs ys → only_default w name desc xs ≡ only_default w name desc ys
unfolding only_default
default_same w name desc xs ys h =
    only_same (has_default w name desc) (has_default w name desc) xs ys (method_in w name desc kinds.Default) (Err MissingMember) (Err MissingMember) (λ x. refl) h refl

pub inherited_first : (w : World) (name desc : List ℕ) (r : ℕ) (l : List ℕ) (m : MemberId) → l ≡ line w r → Some m ≡ first_of (method_in w name desc kinds.Inherited) l → inherited w name desc r ≡ Ok m
unfolding inherited
inherited_first w name desc r l m e h =
    let there : first_of (method_in w name desc kinds.Inherited) (line w r) ≡ Some m = rw (← e) (sym h) in rw there refl

pub inherited_default : (w : World) (name desc : List ℕ) (r : ℕ) (l v : List ℕ) (answer : Result MemberId ResolveFault) → l ≡ line w r → SameFirst v (superinterfaces w r) → None ≡ first_of (method_in w name desc kinds.Inherited) l → answer ≡ only_default w name desc v → Tells answer (inherited w name desc r)
unfolding inherited
inherited_default w name desc r l v answer e h none d =
    let nothing : first_of (method_in w name desc kinds.Inherited) (line w r) ≡ None = rw (← e) (sym none) in
    let same : answer ≡ only_default w name desc (superinterfaces w r) = d ∙ default_same w name desc v (superinterfaces w r) h in
    rw nothing (rw (← same) (tells_self answer))

-- ---- packages

pub package_none : (xs : List ℕ) → list_any (nat_eq 47) xs ≡ false → package_of xs ≡ []
package_none [] h = refl
package_none (x ∷ xs) h = rw h refl

pub package_cut : (xs : List ℕ) (i : ℕ) → i < length xs → get_or xs i 0 ≡ 47 → list_any (nat_eq 47) (drop (suc i) xs) ≡ false → take (suc i) xs ≡ package_of xs
package_cut [] i h e none = absurd (omega arith)
package_cut (x ∷ xs) zero h e none =
    let slash : list_any (nat_eq 47) (x ∷ xs) ≡ true = list_any_at (nat_eq 47) (x ∷ xs) 0 0 h (rw e refl) in
    rw (slash, package_none xs none) refl
package_cut (x ∷ xs) (suc i) h e none =
    let slash : list_any (nat_eq 47) (x ∷ xs) ≡ true = list_any_at (nat_eq 47) (x ∷ xs) (suc i) 0 h (rw e refl) in
    rw slash (ap (λ l. x ∷ l) (package_cut xs i (omega arith) e none))

pub package_here : (xs : List ℕ) (end : ℕ) → 0 < end → end ≤ length xs → get_or xs (end - 1) 0 ≡ 47 → list_any (nat_eq 47) (drop end xs) ≡ false → take end xs ≡ package_of xs
package_here xs end h le e none =
    let more : end ≡ suc (end - 1) = omega arith in
    rw more (package_cut xs (end - 1) (omega arith) e (rw more at none))

-- ---- methods for their package alone

-- one of another package than d's
abbrev pub is_met : (ℕ → Bool) → (ℕ → ℕ → Bool) → List ℕ → ℕ → Bool
is_met declares together among d = list_any (λ e. declares e && not (together d e)) among

none_and : (p q : ℕ → Bool) (xs : List ℕ) → find p xs ≡ None → list_any (λ d. p d && q d) xs ≡ false
none_and p q xs e = false_from_ne_true (list_any (λ d. p d && q d) xs) (λ h.
    let at = any_has (λ d. p d && q d) xs h in
    let passes = and_parts (p at.0) (q at.0) at.2 in
    true≢false (sym passes.0 ∙ find_misses p xs at.0 e at.1))

found_and : (p q : ℕ → Bool) (d : ℕ) (xs : List ℕ) → find p xs ≡ Some d → q d ≡ true → list_any (λ c. p c && q c) xs ≡ true
found_and p q d xs e k = let at = find_some p xs d e in any_in (λ c. p c && q c) xs d at.0 (and_from (p d) (q d) at.1 k)

-- where d meets none, what declares the method is of its package
beside : (declares : ℕ → Bool) (together : ℕ → ℕ → Bool) (d x : ℕ) → (declares x && not (together d x)) ≡ false → declares x ≡ true → together d x ≡ true
beside declares together d x h has = elim (and_cases (declares x) (not (together d x)) h) [
  | inl lacks ↦ absurd (both_ways (declares x) lacks has)
  | inr is ↦ not-false (together d x) is
]

-- and so it meets none either
meets_none : (declares : ℕ → Bool) (together : ℕ → ℕ → Bool) (d c : ℕ) → ((x : ℕ) → together d x ≡ true → together c x ≡ true) → (xs : List ℕ) → is_met declares together xs d ≡ false → is_met declares together xs c ≡ false
meets_none declares together d c h [] e = refl
meets_none declares together d c h (x ∷ xs) e =
    let parts = or_parts (declares x && not (together d x)) (is_met declares together xs d) e in
    or_from (declares x && not (together c x)) (is_met declares together xs c)
    (elim (cases_Bool (declares x)) [
      | inl has ↦ and_right (declares x) (not (together c x)) (not_from_true (together c x) (h x (beside declares together d x parts.0 has)))
      | inr lacks ↦ and_left (declares x) (not (together c x)) lacks
    ])
    (meets_none declares together d c h xs parts.1)

none_meets : (own declares meets : ℕ → Bool) (together : ℕ → ℕ → Bool) (d : ℕ) → ((x : ℕ) → own x ≡ true → declares x ≡ true) → ((c : ℕ) → together d c ≡ true → meets c ≡ false) → (xs : List ℕ) → is_met declares together xs d ≡ false → list_any (λ c. own c && meets c) xs ≡ false
none_meets own declares meets together d sub h [] e = refl
none_meets own declares meets together d sub h (x ∷ xs) e =
    let parts = or_parts (declares x && not (together d x)) (is_met declares together xs d) e in
    or_from (own x && meets x) (list_any (λ c. own c && meets c) xs)
    (elim (cases_Bool (own x)) [
      | inl has ↦ and_right (own x) (meets x) (h x (beside declares together d x parts.0 (sub x has)))
      | inr lacks ↦ and_left (own x) (meets x) lacks
    ])
    (none_meets own declares meets together d sub h xs parts.1)

meets_first : (own declares : ℕ → Bool) (together : ℕ → ℕ → Bool) (d : ℕ) (xs : List ℕ) (b : Bool) → ((x : ℕ) → own x ≡ true → declares x ≡ true) → ((c x : ℕ) → together d c ≡ true → together d x ≡ true → together c x ≡ true) → find own xs ≡ Some d → is_met declares together xs d ≡ b → list_any (λ c. own c && is_met declares together xs c) xs ≡ b
meets_first own declares together d xs true sub h first e = found_and own (is_met declares together xs) d xs first e
meets_first own declares together d xs false sub h first e =
    none_meets own declares (is_met declares together xs) together d sub (λ c k. meets_none declares together d c (λ x. h c x k) xs e) xs e

-- a method for its package alone is one of any kind
any_kind_at : (class i : ℕ) (o : Option Method) → is_some (option_map (member class) (cond (option_map_or (λ (m : Method). has_kind kinds.Package m.flags) o false) (Some i) None)) ≡ true → is_some (option_map (member class) (cond (option_map_or (λ (m : Method). has_kind kinds.Any m.flags) o false) (Some i) None)) ≡ true
any_kind_at class i None h = h
any_kind_at class i (Some m) h = refl

any_kind : (class : ℕ) (methods : List Method) (place : Option ℕ) → is_some (option_map (member class) (option_and_then (of_kind kinds.Package methods) place)) ≡ true → is_some (option_map (member class) (option_and_then (of_kind kinds.Any methods) place)) ≡ true
any_kind class methods None h = h
any_kind class methods (Some i) h = any_kind_at class i (slice_get methods i) h

own_declared : (w : World) (name desc : List ℕ) (c : ℕ) → is_some (method_in w name desc kinds.Package c) ≡ true → is_some (method_in w name desc kinds.Any c) ≡ true
unfolding method_in
own_declared w name desc c h = any_kind c (class_at w c).methods (position (is_method name desc) (class_at w c).methods) h

one_package : (w : World) (d c x : ℕ) → same_package w d c ≡ true → same_package w d x ≡ true → same_package w c x ≡ true
one_package w d c x h k =
    let p = package_of (class_at w d).name in
    let q = package_of (class_at w c).name in
    let r = package_of (class_at w x).name in
    let e : q ≡ p = sym ((bytes_eq-Decides p q).0 h) in
    ap (λ l. bytes_eq l r) e ∙ k

pub package_first : (w : World) (name desc among : List ℕ) (d : ℕ) → Some d ≡ find (λ c. is_some (method_in w name desc kinds.Package c)) among → list_any (λ e. is_some (method_in w name desc kinds.Any e) && not (same_package w d e)) among ≡ meets_package w name desc among
unfolding meets_package
package_first w name desc among d first =
    sym (meets_first (λ c. is_some (method_in w name desc kinds.Package c)) (λ c. is_some (method_in w name desc kinds.Any c)) (same_package w) d among (is_met (λ c. is_some (method_in w name desc kinds.Any c)) (same_package w) among d) (own_declared w name desc) (one_package w d) (sym first) refl)

pub package_none_own : (w : World) (name desc among : List ℕ) → None ≡ find (λ c. is_some (method_in w name desc kinds.Package c)) among → false ≡ meets_package w name desc among
unfolding meets_package
package_none_own w name desc among none =
    sym (none_and (λ c. is_some (method_in w name desc kinds.Package c)) (is_met (λ c. is_some (method_in w name desc kinds.Any c)) (same_package w) among) among (sym none))
