use Rattle.std.proofs.Common.{◌≡◌, map, drop}
use Rattle.std.specs.List.{list_all, list_any}
use Rattle.bound_terms.specs.Bounds.{term_of}
use Rattle.bound_forms.specs.Forms.{form}
use Rattle.bound_forms.specs.Formed.{is_empty}
use Rattle.bound_forms.proofs.zeros.+zero.Given as goal

abbrev pub invariant-all_zero-loop-part : goal.invariant-all_zero-loop-part
invariant-all_zero-loop-part l = list_all (λ t. is_empty (form t)) (map term_of (drop l.part-index l.parts)) ≡ list_all (λ t. is_empty (form t)) (map term_of l.parts)

abbrev pub invariant-some_zero-loop-part : goal.invariant-some_zero-loop-part
invariant-some_zero-loop-part l = list_any (λ t. is_empty (form t)) (map term_of (drop l.part-index l.parts)) ≡ list_any (λ t. is_empty (form t)) (map term_of l.parts)
