-- The methods that a call can run are one list.
use Rattle.std.proofs.Common.{◌≡◌, ◌⊎◌, inl, inr, ℕ, zero, suc, ◌<◌, ◌≤◌, Bool, true, false, List, [], ◌∷◌, length, get_or, Option, Some, None, arith, refl, sym, ap, subst, ◌∙◌, AllPairs}
use Rattle.std.specs.Prelude.{◌≢◌, Result, Ok, Err, Contains, if◌then◌else◌, ◌↔◌}
use Rattle.std.specs.Ordering.{nat_cmp}
use Rattle.std.specs.Cmp.Lexicographic.{slice_cmp}
use Rattle.std.proofs.lemmas.Cmp.{nat_list_cmp_total}
use Rattle.std.specs.declared.cmp.Ordering.TheVariants.{Greater}
use Rattle.std.specs.Ordering.{ordering_reverse}
use Rattle.common_laws.proofs.Orders.{one_list}
use Rattle.world.specs.declared.member.MemberId.{MemberId}
use Rattle.world.specs.declared.fault.ResolveFault.{ResolveFault}
use Rattle.world.specs.declared.fault.ResolveFault.TheVariants as resolve
use Rattle.class_hierarchy.specs.World.{World, class_at}
use Rattle.class_hierarchy.specs.Building.{IsWellBuilt}
use Rattle.world.specs.Selection.{selected_by}
use Rattle.world.specs.Tables.{HasMethod}
use Rattle.world.specs.Targets.{is_receiver, rank, IsBefore, AreTargets, IsFirstFault, AnswersIn}
use Rattle.world.specs.Collecting.{IsFirstBelow, Collects}
use Rattle.class_hierarchy.proofs.OwnNames.{HasNames, has_names}
use Rattle.world.proofs.Targeting.{collects_start, collects_pass, collects_target, collects_fault}
use Rattle.linking.specs.TargetList.{Selected, with_answer, selected_below, targets_or, targets_of}

-- ---- what is selected class by class

abbrev CollectsAll : World → ℕ → MemberId → ℕ → Selected → Type 0
CollectsAll w c m n s = Collects w c m n s.targets s.fault

by_answer : (w : World) (c : ℕ) (m : MemberId) (n : ℕ) (s : Selected) (a : Result MemberId ResolveFault) → HasNames w → HasMethod w m → n < length w → is_receiver w c n ≡ true → selected_by w m n ≡ a → CollectsAll w c m n s → CollectsAll w c m (suc n) (with_answer w s a)
by_answer w c m n s (Ok t) names there lt r e h = collects_target w c m n s.targets s.fault t names there lt r e h
by_answer w c m n s (Err f) names there lt r e h = collects_fault w c m n s.targets s.fault f r e h

by_receiver : (w : World) (c : ℕ) (m : MemberId) (n : ℕ) (s : Selected) (b : Bool) → HasNames w → HasMethod w m → n < length w → is_receiver w c n ≡ b → CollectsAll w c m n s → CollectsAll w c m (suc n) (if b then with_answer w s (selected_by w m n) else s)
by_receiver w c m n s true names there lt r h = by_answer w c m n s (selected_by w m n) names there lt r refl h
by_receiver w c m n s false names there lt r h = collects_pass w c m n s.targets s.fault r h

collects_below : (w : World) (c : ℕ) (m : MemberId) (n : ℕ) → HasNames w → HasMethod w m → n ≤ length w → CollectsAll w c m n (selected_below w c m n)
unfolding selected_below
collects_below w c m zero names there le = collects_start w c m
collects_below w c m (suc n) names there le = by_receiver w c m n (selected_below w c m n) (is_receiver w c n) names there (omega arith) refl (collects_below w c m n names there (omega arith))

-- ---- lists in order

not_both : (w : World) (s t : MemberId) → IsBefore w s t → IsBefore w t s → ⊥
not_both w s t b d =
    let e : slice_cmp nat_cmp (class_at w t.class).name (class_at w s.class).name ≡ Greater = nat_list_cmp_total.antisymm (class_at w t.class).name (class_at w s.class).name ∙ ap ordering_reverse b in
    absurd cc

-- ---- faults by their rank

abbrev ranked : ℕ → ResolveFault
ranked zero = resolve.MissingClass
ranked (suc zero) = resolve.MissingMember
ranked (suc (suc zero)) = resolve.Ambiguous
ranked (suc (suc (suc zero))) = resolve.PackageOverride
ranked (suc (suc (suc (suc zero)))) = resolve.AbstractTarget
ranked (suc (suc (suc (suc (suc zero))))) = resolve.NotInstance
ranked (suc (suc (suc (suc (suc (suc n)))))) = resolve.Memory

by_rank : (f : ResolveFault) → ranked (rank f) ≡ f
by_rank resolve.MissingClass = refl
by_rank resolve.MissingMember = refl
by_rank resolve.Ambiguous = refl
by_rank resolve.PackageOverride = refl
by_rank resolve.AbstractTarget = refl
by_rank resolve.NotInstance = refl
by_rank resolve.Memory = refl

one_rank : (f g : ResolveFault) → rank f ≤ rank g → rank g ≤ rank f → f ≡ g
one_rank f g le ge = let e : rank f ≡ rank g = omega (arith, le, ge) in sym (by_rank f) ∙ ap ranked e ∙ by_rank g

-- ---- the answers

targets_by : (w : World) (c : ℕ) (m : MemberId) (s : Selected) (xs : List MemberId) (f : Option ResolveFault) → s.fault ≡ f → CollectsAll w c m (length w) s → AreTargets w c m xs → (s.fault ≡ None) × (s.targets ≡ xs)
targets_by w c m s xs None e h a = (e, one_list (IsBefore w) (not_both w) s.targets xs h.in_order a.in_order (λ u. (λ k. (a.all u).1 ((h.all u).0 k), λ k. (h.all u).1 ((a.all u).0 k))))
targets_by w c m s xs (Some fault) e h a = let first : IsFirstBelow w c m (length w) (Some fault) = subst (λ o. IsFirstBelow w c m (length w) o) e h.first in absurd (a.no_fault fault first.0)

fault_by : (w : World) (c : ℕ) (m : MemberId) (s : Selected) (fault : ResolveFault) (f : Option ResolveFault) → s.fault ≡ f → CollectsAll w c m (length w) s → IsFirstFault w c m fault → s.fault ≡ Some fault
fault_by w c m s fault None e h a = let first : IsFirstBelow w c m (length w) None = subst (λ o. IsFirstBelow w c m (length w) o) e h.first in absurd (first fault a.met)
fault_by w c m s fault (Some met) e h a =
    let first : IsFirstBelow w c m (length w) (Some met) = subst (λ o. IsFirstBelow w c m (length w) o) e h.first in
    e ∙ ap Some (one_rank met fault (first.1 fault a.met) (a.first met first.0))

abbrev answer_by : List MemberId → Option ResolveFault → Result (List MemberId) ResolveFault
answer_by targets None = Ok targets
answer_by targets (Some fault) = Err fault

targets_in : (w : World) (c : ℕ) (m : MemberId) (xs : List MemberId) → IsWellBuilt w → HasMethod w m → AreTargets w c m xs → targets_of w c m ≡ Ok xs
unfolding targets_of
targets_in w c m xs well there a =
    let s : Selected = selected_below w c m (length w) in
    let h : CollectsAll w c m (length w) s = collects_below w c m (length w) (has_names w well.has_supers.once) there (omega arith) in
    let r = targets_by w c m s xs s.fault refl h a in
    rw (r.0, r.1) refl

fault_in : (w : World) (c : ℕ) (m : MemberId) (fault : ResolveFault) → IsWellBuilt w → HasMethod w m → IsFirstFault w c m fault → targets_of w c m ≡ Err fault
unfolding targets_of
fault_in w c m fault well there a =
    let s : Selected = selected_below w c m (length w) in
    let h : CollectsAll w c m (length w) s = collects_below w c m (length w) (has_names w well.has_supers.once) there (omega arith) in
    rw (fault_by w c m s fault s.fault refl h a) refl

-- what the world answers is what the list is defined as
pub targets_told : (w : World) (c : ℕ) (m : MemberId) (xs : List MemberId) → IsWellBuilt w → HasMethod w m → AnswersIn w c m (Ok xs) → targets_of w c m ≡ Ok xs
targets_told w c m xs well there a = targets_in w c m xs well there a

pub fault_told : (w : World) (c : ℕ) (m : MemberId) (fault : ResolveFault) → IsWellBuilt w → HasMethod w m → AnswersIn w c m (Err fault) → fault ≢ resolve.Memory → targets_of w c m ≡ Err fault
fault_told w c m fault well there a k = fault_in w c m fault well there (a k)

-- ---- what is listed

all_targets : (w : World) (c : ℕ) (m : MemberId) (s : Selected) → s.fault ≡ None → CollectsAll w c m (length w) s → AreTargets w c m s.targets
all_targets w c m s e h = record { all = h.all; in_order = h.in_order; no_fault = subst (λ o. IsFirstBelow w c m (length w) o) e h.first }

one_fault : (w : World) (c : ℕ) (m : MemberId) (s : Selected) (fault : ResolveFault) → s.fault ≡ Some fault → CollectsAll w c m (length w) s → IsFirstFault w c m fault
one_fault w c m s fault e h =
    let first : IsFirstBelow w c m (length w) (Some fault) = subst (λ o. IsFirstBelow w c m (length w) o) e h.first in
    record { met = first.0; first = first.1 }

no_fault_in : (xs ts : List MemberId) (o : Option ResolveFault) → targets_or xs o ≡ Ok ts → (o ≡ None) × (xs ≡ ts)
no_fault_in xs ts None e = (refl, cc)
no_fault_in xs ts (Some fault) e = absurd cc

fault_among : (xs : List MemberId) (fault : ResolveFault) (o : Option ResolveFault) → targets_or xs o ≡ Err fault → o ≡ Some fault
fault_among xs fault None e = absurd cc
fault_among xs fault (Some met) e = cc

listed_targets : (w : World) (c : ℕ) (m : MemberId) (ts : List MemberId) → IsWellBuilt w → HasMethod w m → targets_of w c m ≡ Ok ts → AreTargets w c m ts
unfolding targets_of
listed_targets w c m ts well there e =
    let s : Selected = selected_below w c m (length w) in
    let h : CollectsAll w c m (length w) s = collects_below w c m (length w) (has_names w well.has_supers.once) there (omega arith) in
    let r = no_fault_in s.targets ts s.fault e in
    subst (λ (xs : List MemberId). AreTargets w c m xs) r.1 (all_targets w c m s r.0 h)

listed_fault : (w : World) (c : ℕ) (m : MemberId) (fault : ResolveFault) → IsWellBuilt w → HasMethod w m → targets_of w c m ≡ Err fault → IsFirstFault w c m fault
unfolding targets_of
listed_fault w c m fault well there e =
    let s : Selected = selected_below w c m (length w) in
    let h : CollectsAll w c m (length w) s = collects_below w c m (length w) (has_names w well.has_supers.once) there (omega arith) in
    one_fault w c m s fault (fault_among s.targets fault s.fault e) h

-- the list and the relation say the same
pub targets_listed : (w : World) (c : ℕ) (m : MemberId) (ts : List MemberId) → IsWellBuilt w → HasMethod w m → targets_of w c m ≡ Ok ts ↔ AreTargets w c m ts
targets_listed w c m ts well there = (listed_targets w c m ts well there, targets_in w c m ts well there)

pub fault_listed : (w : World) (c : ℕ) (m : MemberId) (fault : ResolveFault) → IsWellBuilt w → HasMethod w m → targets_of w c m ≡ Err fault ↔ IsFirstFault w c m fault
fault_listed w c m fault well there = (listed_fault w c m fault well there, fault_in w c m fault well there)
