-- What is answered for the bound that a text makes.
use Rattle.std.proofs.Common.{ℕ, ◌≡◌, true, List, [], Result, Ok, Err, sym, ◌∙◌, ap, subst}
use Rattle.bound_terms.specs.Terms.{Term}
use Rattle.bound_terms.specs.Texts.{text_of}
use Rattle.bound_terms.specs.declared.bound.Bound.{Bound}
use Rattle.bound_forms.specs.Monomials.{form_term}
use Rattle.bound_forms.specs.Forms.{form}
use Rattle.bound_forms.specs.Limits.{has_many, has_great}
use Rattle.bound_forms.specs.Needed.{Needs}
use Rattle.bound_forms.specs.Normal.{IsNormal}
use Rattle.bound_normal.proofs.Again.{normal_again}
use Rattle.bound_normal.proofs.Keeping.{normal_keeps}
use Rattle.bound_text.specs.declared.fault.ReadFault.{ReadFault}
use Rattle.bound_text.specs.declared.fault.ReadFault.TheVariants.{At, Memory}
use Rattle.bound_text.specs.Reading.{IsNoForm, Reads}
use Rattle.bound_text.specs.inside.Runs.{run}
use Rattle.bound_text.specs.inside.Checks.{Checks}
use Rattle.bound_text.specs.inside.Sums.{nothing_open}
use Rattle.bound_text.specs.inside.Readers.{between, step, read_term}
use Rattle.bound_text.proofs.Standing.{normal_run}

-- the term that the text makes
abbrev pub Made : List ℕ → Term → Type 0
Made text bound = bound ≡ read_term (run step text (between nothing_open []))

is_it : (text : List ℕ) (bound t : Term) → Made text bound → IsNormal t → text_of t ≡ text → bound ≡ t
is_it text bound t made h e = made ∙ ap (λ x. read_term (run step x (between nothing_open []))) (sym e) ∙ normal_run t h

own_text : (text : List ℕ) (bound t made : Term) → Made text bound → made ≡ form_term (form bound) → IsNormal t → text_of t ≡ text → text_of made ≡ text
own_text text bound t made m f h e = ap text_of (f ∙ ap (λ u. form_term (form u)) (is_it text bound t m h e) ∙ normal_again t h) ∙ e

pub checks_read : (text : List ℕ) (bound made : Term) (r : Result Bound ReadFault) → Made text bound → IsNormal made → made ≡ form_term (form bound) → Checks text made r → Reads text r
checks_read text bound made (Ok b) m normal f c = (subst IsNormal (sym c.0) normal, ap text_of c.0 ∙ c.1)
checks_read text bound made (Err (At offset)) m normal f c = (λ t h e. c.0 (own_text text bound t made m f h e), c.1)
checks_read text bound made (Err Memory) m normal f c = tt

pub many_read : (text : List ℕ) (bound : Term) → Made text bound → ((u : Term) × Needs u bound × (has_many (form_term (form u)) ≡ true)) → IsNoForm text
many_read text bound m (u, n, many) t h e =
    let few = (normal_keeps t h u (subst (Needs u) (is_it text bound t m h e) n)).few in
    absurd (cc)

pub great_read : (text : List ℕ) (bound : Term) → Made text bound → ((u : Term) × Needs u bound × (has_great (form_term (form u)) ≡ true)) → IsNoForm text
great_read text bound m (u, n, great) t h e =
    let small = (normal_keeps t h u (subst (Needs u) (is_it text bound t m h e) n)).small in
    absurd (cc)
