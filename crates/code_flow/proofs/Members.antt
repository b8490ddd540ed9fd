-- What a list of methods has.
use Rattle.std.proofs.Common.{◌≡◌, ℕ, true, List, refl, sym, subst, nat_eq}
use Rattle.std.specs.Prelude.{Contains}
use Rattle.std.proofs.lemmas.Bool.{eqb-true, eq-eqb, and_parts}
use Rattle.common_laws.proofs.Tests.{any_in, any_has}
use Rattle.world.specs.declared.member.MemberId.{MemberId}
use Rattle.code_flow.specs.Listing.{is_method, is_among}
pub use Rattle.std.proofs.lemmas.Bool.{or_cases as or_true}
pub use Rattle.common_laws.proofs.Members.{contains_head, contains_tail}

same_id : (a b c d : ℕ) → a ≡ c → b ≡ d → let one : MemberId = record { class = a; member = b } in let other : MemberId = record { class = c; member = d } in one ≡ other
same_id a b c d e f = rw e (rw f refl)

pub is_method_same : (m n : MemberId) → is_method m n ≡ true → m ≡ n
is_method_same m n h =
    let parts = and_parts (nat_eq m.class n.class) (nat_eq m.member n.member) h in
    same_id m.class m.member n.class n.member (eqb-true m.class n.class parts.0) (eqb-true m.member n.member parts.1)

pub is_method_itself : (m : MemberId) → is_method m m ≡ true
is_method_itself m = rw (eq-eqb m.class m.class refl) (rw (eq-eqb m.member m.member refl) refl)

pub same_is_method : (m n : MemberId) → m ≡ n → is_method m n ≡ true
same_is_method m n e = subst (λ (x : MemberId). is_method m x ≡ true) e (is_method_itself m)

pub among_listed : (ms : List MemberId) (t : MemberId) → is_among ms t ≡ true → Contains ms t
among_listed ms t h = let at = any_has (is_method t) ms h in subst (λ (y : MemberId). Contains ms y) (sym (is_method_same t at.0 at.2)) at.1

pub listed_among : (ms : List MemberId) (t : MemberId) → Contains ms t → is_among ms t ≡ true
listed_among ms t h = any_in (is_method t) ms t h (is_method_itself t)
