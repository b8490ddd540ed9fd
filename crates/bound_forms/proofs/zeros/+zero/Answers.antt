use Rattle.std.proofs.Common.{◌∙◌, sym, ap, map}
use Rattle.std.specs.List.{list_all, list_any}
use Rattle.bound_terms.specs.Bounds.{term_of}
use Rattle.bound_forms.specs.Forms.{form}
use Rattle.bound_forms.specs.Formed.{is_empty}
use Rattle.bound_forms.proofs.Emptiness.{sum_empty, factors_empty, maximum_empty}
use Rattle.bound_forms.proofs.Views.{sum_term, product_term, maximum_term}
use Rattle.bound_forms.proofs.zeros.+zero.Goals as goal

pub is_zero-returns-in-Sum : goal.is_zero-returns-in-Sum
is_zero-returns-in-Sum t c =
    c.all_zero.ensures ∙ ap (λ bs. list_all (λ u. is_empty (form u)) (map term_of bs)) c.as_slice.ensures.value ∙ sym (sum_empty (map term_of c.in-Sum.parts.items)) ∙ ap (λ u. is_empty (form u)) (sym (sum_term c.in-Sum.parts)) ∙ ap (λ b. is_empty (form (term_of b))) (sym c.in-Sum.is)

pub is_zero-returns-in-Prod : goal.is_zero-returns-in-Prod
is_zero-returns-in-Prod t c =
    c.some_zero.ensures ∙ ap (λ bs. list_any (λ u. is_empty (form u)) (map term_of bs)) c.as_slice-in-Prod.ensures.value ∙ sym (factors_empty (map term_of c.in-Prod.parts.items)) ∙ ap (λ u. is_empty (form u)) (sym (product_term c.in-Prod.parts)) ∙ ap (λ b. is_empty (form (term_of b))) (sym c.in-Prod.is)

pub is_zero-returns-in-Max : goal.is_zero-returns-in-Max
is_zero-returns-in-Max t c =
    c.all_zero-in-Max.ensures ∙ ap (λ bs. list_all (λ u. is_empty (form u)) (map term_of bs)) c.as_slice-in-Max.ensures.value ∙ sym (maximum_empty (map term_of c.in-Max.parts.items)) ∙ ap (λ u. is_empty (form u)) (sym (maximum_term c.in-Max.parts)) ∙ ap (λ b. is_empty (form (term_of b))) (sym c.in-Max.is)
