-- Where members stand when another value is put in the place of one.
use Rattle.std.proofs.Common.{◌≡◌, ℕ, true, List, get_or, Some, refl, sym, ap, ◌∙◌, nat_eq}
use Rattle.std.specs.Prelude.{slice_set}
use Rattle.std.specs.List.{position_or_len}
use Rattle.std.specs.BTreeMap.{BTreeMap}
use Rattle.std.proofs.lemmas.Bool.{and_parts, eqb-true}
use Rattle.std.proofs.lemmas.List.{length-set}
use Rattle.std.proofs.lemmas.List.Folds.{position_or_len-set}
use Rattle.std.proofs.lemmas.List.Quantifiers.{position-Some}
use Rattle.world.specs.declared.member.MemberId.{MemberId}
use Rattle.frames.specs.declared.value.Value.{Value}
use Rattle.frames.specs.Slots.{is_member, place_of}
use Rattle.frames.specs.Places.{HasPlaces}

-- ---- another value for a member

same_parts : (a b c d : ℕ) → a ≡ c → b ≡ d → let one : MemberId = record { class = a; member = b } in let other : MemberId = record { class = c; member = d } in one ≡ other
same_parts a b c d e f = rw e (rw f refl)

pub same_member : (m n : MemberId) → is_member m n ≡ true → m ≡ n
same_member m n is =
    let parts = and_parts (nat_eq m.class n.class) (nat_eq m.member n.member) is in
    same_parts m.class m.member n.class n.member (eqb-true m.class n.class parts.0) (eqb-true m.member n.member parts.1)

same_place : (q m : MemberId) (value : Value) (values : List (MemberId × Value)) (i : ℕ) → place_of m values ≡ Some i
    → place_of q (slice_set values i (m, value)) ≡ place_of q values
same_place q m value values i is =
    let at = position-Some (λ (f : MemberId × Value). is_member m f.0) values i (m, value) is in
    let same : m ≡ (get_or values i (m, value)).0 = same_member m (get_or values i (m, value)).0 at.1 in
    let first : position_or_len (λ (f : MemberId × Value). is_member q f.0) (slice_set values i (m, value)) ≡ position_or_len (λ (f : MemberId × Value). is_member q f.0) values =
    position_or_len-set (λ (f : MemberId × Value). is_member q f.0) values i (m, value) (m, value) (ap (is_member q) same) in
    rw (first, length-set values i (m, value)) refl

-- the places stay
pub places_kept : (places : BTreeMap (ℕ × ℕ) ℕ) (values : List (MemberId × Value)) (m : MemberId) (value : Value) (i : ℕ) → HasPlaces places values → place_of m values ≡ Some i
    → HasPlaces places (slice_set values i (m, value))
places_kept places values m value i has is = λ q. has q ∙ sym (same_place q m value values i is)
