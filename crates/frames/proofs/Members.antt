-- Values by their members, found and replaced.
use Rattle.std.proofs.Common.{◌≡◌, ℕ, zero, suc, ◌<◌, ◌≤◌, Bool, true, false, cond, List, [], ◌∷◌, length, get_or, Some, None, refl, ap, arith}
use Rattle.std.specs.Prelude.{slice_set, nat_lt}
use Rattle.std.specs.List.{position_or_len}
use Rattle.std.proofs.lemmas.Bool.Decides.{nat_tests}
use Rattle.std.proofs.lemmas.List.Quantifiers.{position-Some}
use Rattle.std.proofs.lemmas.List.Recursion.{found_at}
use Rattle.world.specs.declared.member.MemberId.{MemberId}
use Rattle.frames.specs.declared.value.Value.{Value}
use Rattle.frames.specs.Slots.{is_member, place_of, value_of, with_value}

-- the value of a member stands where the member does
pub found : (m : MemberId) (values : List (MemberId × Value)) (i : ℕ) (d : MemberId × Value) → place_of m values ≡ Some i → value_of m values ≡ Some (get_or values i d).1
found m values i d is =
    let at = position-Some (λ (f : MemberId × Value). is_member m f.0) values i d is in
    found_at (value_of m) (λ (f : MemberId × Value). is_member m f.0) (λ (f : MemberId × Value). Some f.1) None refl (λ _ _. refl) values i d at.0 at.2 at.1

replaced_at : (m : MemberId) (value : Value) (values : List (MemberId × Value)) (i : ℕ) (d : MemberId × Value) → i < length values
    → is_member m (get_or values i d).0 ≡ true → ((k : ℕ) → k < i → is_member m (get_or values k d).0 ≡ false)
    → with_value m value values ≡ slice_set values i (m, value)
replaced_at m value [] i d within here before = absurd (omega arith)
replaced_at m value (f ∷ fs) zero d within here before = rw here refl
replaced_at m value (f ∷ fs) (suc i) d within here before =
    let first : is_member m f.0 ≡ false = before 0 (omega arith) in
    rw first (ap (λ (rest : List (MemberId × Value)). f ∷ rest) (replaced_at m value fs i d (omega arith) here (λ k lt. before (suc k) (omega arith))))

-- and another one is put there
pub replaced : (m : MemberId) (value : Value) (values : List (MemberId × Value)) (i : ℕ) → place_of m values ≡ Some i → with_value m value values ≡ slice_set values i (m, value)
replaced m value values i is =
    let at = position-Some (λ (f : MemberId × Value). is_member m f.0) values i (m, value) is in
    replaced_at m value values i (m, value) at.0 at.1 at.2

pub within : (m : MemberId) (values : List (MemberId × Value)) (i : ℕ) → place_of m values ≡ Some i → i < length values
within m [] i is = absurd (cc)
within m (f ∷ fs) i is = (position-Some (λ (g : MemberId × Value). is_member m g.0) (f ∷ fs) i f is).0

record IsNowhere (m : MemberId) (values : List (MemberId × Value)) : Type 0 where
  value : value_of m values ≡ None
  same : (v : Value) → with_value m v values ≡ values

nowhere_by : (m : MemberId) (f : MemberId × Value) (fs : List (MemberId × Value)) (first : Bool) → is_member m f.0 ≡ first
    → length (f ∷ fs) ≤ position_or_len (λ (g : MemberId × Value). is_member m g.0) (f ∷ fs)
    → (length fs ≤ position_or_len (λ (g : MemberId × Value). is_member m g.0) fs → IsNowhere m fs) → IsNowhere m (f ∷ fs)
nowhere_by m f fs true is past rest = absurd (let far = rw is at past in omega (arith, far))
nowhere_by m f fs false is past rest =
    let far = rw is at past in
    let others : IsNowhere m fs = rest (omega (arith, far)) in
    record {
      value = rw is others.value;
      same = λ v. rw is (ap (λ (gs : List (MemberId × Value)). f ∷ gs) (others.same v));
    }

nowhere_past : (m : MemberId) (values : List (MemberId × Value)) → length values ≤ position_or_len (λ (g : MemberId × Value). is_member m g.0) values → IsNowhere m values
nowhere_past m [] past = record { value = refl; same = λ v. refl }
nowhere_past m (f ∷ fs) past = nowhere_by m f fs (is_member m f.0) refl past (nowhere_past m fs)

missed : (n most : ℕ) (first : Bool) → nat_lt n most ≡ first → cond first (Some n) None ≡ None → most ≤ n
missed n most true is none = absurd (cc)
missed n most false is none = grind (arith, nat_tests)

nowhere : (m : MemberId) (values : List (MemberId × Value)) → place_of m values ≡ None → IsNowhere m values
nowhere m values is =
    let n : ℕ = position_or_len (λ (g : MemberId × Value). is_member m g.0) values in
    nowhere_past m values (missed n (length values) (nat_lt n (length values)) refl is)

-- a member that stands nowhere has no value, and nothing is put there
pub no_value : (m : MemberId) (values : List (MemberId × Value)) → place_of m values ≡ None → value_of m values ≡ None
no_value m values is = (nowhere m values is).value

pub kept : (m : MemberId) (value : Value) (values : List (MemberId × Value)) → place_of m values ≡ None → with_value m value values ≡ values
kept m value values is = (nowhere m values is).same value
