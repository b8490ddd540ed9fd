-- How texts are written part by part.
use Rattle.std.proofs.Common.{ℕ, ◌≡◌, ◌+◌, ◌<◌, ◌≤◌, Bool, false, List, [], ◌∷◌, length, get_or, drop, codes, refl, sym, ◌∙◌, ap, subst, arith, add-one}
use Rattle.std.proofs.lemmas.List.{drop_more, drop_all}
use Rattle.std.specs.Prelude.{ℤ, pos, ◌==◌, nat_lt}
use Rattle.bound_terms.specs.declared.bound.Bound.{Bound}
use Rattle.bound_terms.specs.Bounds.{term_of, terms_of}
use Rattle.bound_terms.specs.Texts.{parts_from, total_text, product_text, joined, is_one, is_left_out, texts_of}
use Rattle.bound_terms.specs.inside.Writing.{with_term}

pub left_out_several : (parts : List Bound) (d : Bound) → 1 < length parts → is_left_out (terms_of parts) ≡ is_one (term_of (get_or parts 0 d))
left_out_several [] d h = absurd (omega (arith, h))
left_out_several (a ∷ []) d h = absurd (omega (arith, h))
left_out_several (a ∷ b ∷ parts) d h = refl

pub left_out_few : (parts : List Bound) → length parts ≤ 1 → is_left_out (terms_of parts) ≡ false
left_out_few [] h = refl
left_out_few (a ∷ []) h = refl
left_out_few (a ∷ b ∷ parts) h = absurd (omega (arith, h))

pub total_text_is : (parts : List Bound) → false ≡ (length parts == 0) → total_text (texts_of (terms_of parts)) ≡ joined (codes " + ") (texts_of (terms_of parts))
total_text_is [] h = absurd (cc)
total_text_is (a ∷ parts) h = refl

pub product_text_whole : (parts : List Bound) (is_out : Bool) → false ≡ (length parts == 0) → false ≡ is_out → product_text is_out (texts_of (terms_of parts)) ≡ joined (codes "*") (texts_of (terms_of parts))
product_text_whole [] is_out h e = absurd (cc)
product_text_whole (a ∷ parts) is_out h e = ap (λ b. product_text b (texts_of (terms_of (a ∷ parts)))) (sym e)

pub parts_more : (cs : List ℤ) (i : ℕ) (k : ℤ) → i < length cs → parts_from i (drop i cs) k ≡ with_term (get_or cs i (pos 0)) i (parts_from (i + 1) (drop (i + 1) cs) k)
parts_more cs i k h =
    let P : ℕ → Type 0 = λ n. parts_from i (get_or cs i (pos 0) ∷ drop (i + 1) cs) k ≡ with_term (get_or cs i (pos 0)) i (parts_from n (drop (i + 1) cs) k) in
    ap (λ ds. parts_from i ds k) (drop_more cs i (pos 0) h) ∙ subst P (sym (add-one i)) refl

pub parts_end : (cs : List ℤ) (i : ℕ) (k : ℤ) → length cs ≤ i → parts_from i (drop i cs) k ≡ parts_from 0 [] k
parts_end cs i k h = ap (λ ds. parts_from i ds k) (drop_all i cs h)

pub not_several : (parts : List Bound) → length parts ≤ 1 → nat_lt 1 (length parts) ≡ is_left_out (terms_of parts)
not_several [] h = refl
not_several (a ∷ []) h = refl
not_several (a ∷ b ∷ parts) h = absurd (omega (arith, h))
