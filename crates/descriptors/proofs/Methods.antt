-- Method descriptors: what their pieces are, and that the tests say what the grammar says.
use Rattle.std.proofs.Common.{◌≡◌, ◌↔◌, ◌&&◌, ◌||◌, ℕ, ◌+◌, ◌≤◌, Bool, true, false, cond, eqb, List, [], ◌∷◌, ◌++◌, map, Option, Some, None, IsTrue, refl, sym, ap, subst, ◌∙◌, append_assoc, arith}
use Rattle.std.specs.Prelude.{IfSome, fold}
use Rattle.std.specs.List.{flat_map, concat, list_all, list_any, AllByRecursion}
use Rattle.std.specs.Option.{option_map_or}
use Rattle.std.proofs.Math.Bool.{or-false}
use Rattle.std.proofs.lemmas.List.{append-nil}
use Rattle.std.proofs.lemmas.List.Folds.{list_any-append}
use Rattle.std.proofs.lemmas.Bool.{eqb-true, and_parts, and_from, leb-true, le-leb}
use Rattle.descriptors.specs.Grammar.{FieldType, HasForm, HasFewDimensions, IsFieldType, IsMethodText, IsFieldDescriptor, IsMethodDescriptor, type_text, result_text, method_text, dimensions, words_of, is_float}
use Rattle.descriptors.specs.Pieces.{pieces, types_of, behind_types, parameters_of, result_of}
use Rattle.descriptors.specs.Texts.{begins, text_dimensions, text_words, words_of_all, has_float, names_float}
use Rattle.descriptors.specs.Tests.{is_type, is_result, is_method_text, has_few_dimensions, has_few_words, is_field, describes}
use Rattle.descriptors.specs.Laws.{IsCut}
use Rattle.descriptors.proofs.Cuts.{begins_with, no_pieces, types_go, behind_goes, types_end, behind_end, closed}
use Rattle.descriptors.proofs.Types.{ResultOf, type_takes, type_found, result_takes, result_found, pieces_of_type, type_is_open, dimensions_told, words_told, float_told}

-- ---- the pieces of the text of types

types_cut : (types : List FieldType) (rest : List ℕ) → AllByRecursion HasForm types → types_of (flat_map type_text types ++ 41 ∷ rest) ≡ map type_text types
types_cut [] rest forms = types_end rest
types_cut (t ∷ ts) rest forms =
    let behind : List ℕ = flat_map type_text ts ++ 41 ∷ rest in
    ap types_of (append_assoc (type_text t) (flat_map type_text ts) (41 ∷ rest))
    ∙ types_go (type_text t ++ behind) (type_text t) behind (pieces_of_type t behind forms.0) (type_is_open t forms.0)
    ∙ ap (λ (l : List (List ℕ)). type_text t ∷ l) (types_cut ts rest forms.1)

behind_cut : (types : List FieldType) (rest : List ℕ) → AllByRecursion HasForm types → behind_types (flat_map type_text types ++ 41 ∷ rest) ≡ rest
behind_cut [] rest forms = behind_end rest
behind_cut (t ∷ ts) rest forms =
    let behind : List ℕ = flat_map type_text ts ++ 41 ∷ rest in
    ap behind_types (append_assoc (type_text t) (flat_map type_text ts) (41 ∷ rest))
    ∙ behind_goes (type_text t ++ behind) (type_text t) behind (pieces_of_type t behind forms.0) (type_is_open t forms.0)
    ∙ behind_cut ts rest forms.1

words_folded : (types : List FieldType) (n : ℕ) → fold (λ (a : ℕ) (x : List ℕ). a + text_words x) n (map type_text types) ≡ fold (λ (a : ℕ) (x : FieldType). a + words_of x) n types
words_folded [] n = refl
words_folded (t ∷ ts) n =
    ap (λ (m : ℕ). fold (λ (a : ℕ) (x : List ℕ). a + text_words x) (n + m) (map type_text ts)) (words_told t) ∙ words_folded ts (n + words_of t)

dimensions_mapped : (types : List FieldType) → AllByRecursion HasForm types → map text_dimensions (map type_text types) ≡ map dimensions types
dimensions_mapped [] forms = refl
dimensions_mapped (t ∷ ts) forms =
    ap (λ (d : ℕ). d ∷ map text_dimensions (map type_text ts)) (dimensions_told t forms.0) ∙ ap (λ (l : List ℕ). dimensions t ∷ l) (dimensions_mapped ts forms.1)

floats_mapped : (types : List FieldType) → AllByRecursion HasForm types → list_any has_float (map type_text types) ≡ list_any is_float types
floats_mapped [] forms = refl
floats_mapped (t ∷ ts) forms =
    ap (λ (b : Bool). b || list_any has_float (map type_text ts)) (float_told t forms.0) ∙ ap (λ (b : Bool). is_float t || b) (floats_mapped ts forms.1)

-- ---- all pieces

pieces_cut : (types : List FieldType) (rest : List ℕ) → AllByRecursion HasForm types → pieces (flat_map type_text types ++ 41 ∷ rest) ≡ map type_text types ++ (41 ∷ []) ∷ pieces rest
pieces_cut [] rest forms = begins_with 41 rest (41 ∷ []) rest refl refl
pieces_cut (t ∷ ts) rest forms =
    let behind : List ℕ = flat_map type_text ts ++ 41 ∷ rest in
    ap pieces (append_assoc (type_text t) (flat_map type_text ts) (41 ∷ rest))
    ∙ pieces_of_type t behind forms.0
    ∙ ap (λ (l : List (List ℕ)). type_text t ∷ l) (pieces_cut ts rest forms.1)

pieces_of_result : (returned : Option FieldType) → IfSome returned HasForm → pieces (result_text returned) ≡ result_text returned ∷ []
pieces_of_result None form = begins_with 86 [] (86 ∷ []) [] refl refl ∙ ap (λ (l : List (List ℕ)). (86 ∷ []) ∷ l) no_pieces
pieces_of_result (Some type) form =
    ap pieces (sym (append-nil (type_text type))) ∙ pieces_of_type type [] form ∙ ap (λ (l : List (List ℕ)). type_text type ∷ l) no_pieces

result_float : (returned : Option FieldType) → IfSome returned HasForm → list_any has_float ((41 ∷ []) ∷ result_text returned ∷ []) ≡ option_map_or is_float returned false
result_float None form = refl
result_float (Some type) form = or-false (has_float (type_text type)) ∙ float_told type form

floats_cut : (parameters : List FieldType) (returned : Option FieldType) → AllByRecursion HasForm parameters → IfSome returned HasForm
    → names_float (method_text parameters returned) ≡ (list_any is_float parameters || option_map_or is_float returned false)
floats_cut ps returned forms form =
    let text : List ℕ = flat_map type_text ps ++ 41 ∷ result_text returned in
    let ends : List (List ℕ) = (41 ∷ []) ∷ result_text returned ∷ [] in
    let all : pieces text ≡ map type_text ps ++ ends =
    pieces_cut ps (result_text returned) forms ∙ ap (λ (l : List (List ℕ)). map type_text ps ++ (41 ∷ []) ∷ l) (pieces_of_result returned form) in
    ap (λ (l : List (List ℕ)). list_any has_float l) (begins_with 40 text (40 ∷ []) text refl refl)
    ∙ ap (λ (l : List (List ℕ)). list_any has_float l) all
    ∙ list_any-append has_float (map type_text ps) ends
    ∙ ap (λ (b : Bool). b || list_any has_float ends) (floats_mapped ps forms)
    ∙ ap (λ (b : Bool). list_any is_float ps || b) (result_float returned form)

pub cut : (parameters : List FieldType) (returned : Option FieldType) → AllByRecursion HasForm parameters → IfSome returned HasForm
    → IsCut parameters returned (method_text parameters returned)
cut ps returned forms form =
    let types = types_cut ps (result_text returned) forms in
    record {
      parameters_are = types;
      result_is = behind_cut ps (result_text returned) forms;
      words_are = ap (λ (l : List (List ℕ)). words_of_all l) types ∙ words_folded ps 0;
      dimensions_are = ap (λ (l : List (List ℕ)). map text_dimensions l) types ∙ dimensions_mapped ps forms;
      floats_are = floats_cut ps returned forms form;
    }

-- the same of a text that is such a descriptor
cut_so : (desc : List ℕ) (parameters : List FieldType) (returned : Option FieldType) → desc ≡ method_text parameters returned
    → AllByRecursion HasForm parameters → IfSome returned HasForm → IsCut parameters returned desc
cut_so desc ps returned parts forms form = subst (IsCut ps returned) (sym parts) (cut ps returned forms form)

-- ---- lists of types

-- texts of types
record TypesOf (texts : List (List ℕ)) : Type 0 where
  types : List FieldType
  parts : texts ≡ map type_text types
  forms : AllByRecursion HasForm types

types_take : (texts : List (List ℕ)) → list_all is_type texts ≡ true → TypesOf texts
types_take [] h = record { types = []; parts = refl; forms = tt }
types_take (t ∷ texts) h =
    let parts = and_parts (is_type t) (list_all is_type texts) h in
    let read = type_takes t parts.0 in
    let others = types_take texts parts.1 in
    record {
      types = read.type ∷ others.types;
      parts = ap (λ (x : List ℕ). x ∷ texts) read.parts ∙ ap (λ (l : List (List ℕ)). type_text read.type ∷ l) others.parts;
      forms = (read.form, others.forms);
    }

types_found : (types : List FieldType) → AllByRecursion HasForm types → list_all is_type (map type_text types) ≡ true
types_found [] forms = refl
types_found (t ∷ ts) forms = and_from (is_type (type_text t)) (list_all is_type (map type_text ts)) (type_found t forms.0) (types_found ts forms.1)

texts_joined : (types : List FieldType) → concat (map type_text types) ≡ flat_map type_text types
texts_joined [] = refl
texts_joined (t ∷ ts) = ap (λ (l : List ℕ). type_text t ++ l) (texts_joined ts)

-- ---- the grammar

no_result : (text : List ℕ) → is_result text ≡ true → text ≡ [] → ⊥
no_result [] h e = cc
no_result (b ∷ text) h e = cc

-- a text that begins with a `(`, with types and a result behind it
made_of : (b : ℕ) (text : List ℕ) → b ≡ 40 → TypesOf (types_of text) → ResultOf (behind_types text)
    → text ≡ concat (types_of text) ++ 41 ∷ behind_types text → IsMethodText (b ∷ text)
made_of b text first types result parts =
    record {
      parameters = types.types;
      returned = result.returned;
      parts =
          ap (λ (x : ℕ). x ∷ text) first
          ∙ ap (λ (t : List ℕ). 40 ∷ t) (
          parts
          ∙ ap (λ (l : List (List ℕ)). concat l ++ 41 ∷ behind_types text) types.parts
          ∙ ap (λ (l : List ℕ). l ++ 41 ∷ behind_types text) (texts_joined types.types)
          ∙ ap (λ (r : List ℕ). flat_map type_text types.types ++ 41 ∷ r) result.parts);
      each = types.forms;
      result = result.form;
    }

pub method_takes : (desc : List ℕ) → is_method_text desc ≡ true → IsMethodText desc
unfolding is_method_text
method_takes [] h = absurd cc
method_takes (b ∷ text) h =
    let first = and_parts (eqb b 40) (list_all is_type (types_of text) && is_result (behind_types text)) h in
    let others = and_parts (list_all is_type (types_of text)) (is_result (behind_types text)) first.1 in
    made_of b text (eqb-true b 40 first.0) (types_take (types_of text) others.0) (result_takes (behind_types text) others.1)
    (closed text (no_result (behind_types text) others.1))

pub method_found : (desc : List ℕ) → IsMethodText desc → is_method_text desc ≡ true
unfolding is_method_text
method_found desc d =
    let cut = cut_so desc d.parameters d.returned d.parts d.each d.result in
    let types : list_all is_type (parameters_of desc) ≡ true = ap (λ (l : List (List ℕ)). list_all is_type l) cut.parameters_are ∙ types_found d.parameters d.each in
    let result : is_result (result_of desc) ≡ true = ap (λ (t : List ℕ). is_result t) cut.result_is ∙ result_found d.returned d.result in
    and_from (begins 40 desc) (list_all is_type (parameters_of desc) && is_result (result_of desc))
    (ap (begins 40) d.parts) (and_from (list_all is_type (parameters_of desc)) (is_result (result_of desc)) types result)

pub text_decided : (desc : List ℕ) → (is_method_text desc ≡ true) ↔ IsMethodText desc
text_decided desc = (method_takes desc, method_found desc)

pub texts_are_joined : (desc : List ℕ) → IsMethodText desc → desc ≡ 40 ∷ concat (parameters_of desc) ++ 41 ∷ result_of desc
texts_are_joined desc d =
    let cut = cut_so desc d.parameters d.returned d.parts d.each d.result in
    d.parts
    ∙ ap (λ (l : List ℕ). 40 ∷ l ++ 41 ∷ result_text d.returned) (sym (texts_joined d.parameters))
    ∙ ap (λ (l : List (List ℕ)). 40 ∷ concat l ++ 41 ∷ result_text d.returned) (sym cut.parameters_are)
    ∙ ap (λ (r : List ℕ). 40 ∷ concat (parameters_of desc) ++ 41 ∷ r) (sym cut.result_is)

-- ---- the limits

few_dimensions : (type : FieldType) → HasForm type → (has_few_dimensions (type_text type) ≡ true) ↔ HasFewDimensions type
few_dimensions type form =
    let same = dimensions_told type form in (
      λ h. omega (arith, leb-true (text_dimensions (type_text type)) 255 h, same),
      λ few. le-leb (text_dimensions (type_text type)) 255 (omega (arith, few, same)),
    )

all_few : (types : List FieldType) → AllByRecursion HasForm types → list_all has_few_dimensions (map type_text types) ≡ true → AllByRecursion IsFieldType types
all_few [] forms h = tt
all_few (t ∷ ts) forms h =
    let parts = and_parts (has_few_dimensions (type_text t)) (list_all has_few_dimensions (map type_text ts)) h in
    ((forms.0, (few_dimensions t forms.0).0 parts.0), all_few ts forms.1 parts.1)

few_all : (types : List FieldType) → AllByRecursion IsFieldType types → list_all has_few_dimensions (map type_text types) ≡ true
few_all [] fit = refl
few_all (t ∷ ts) fit =
    and_from (has_few_dimensions (type_text t)) (list_all has_few_dimensions (map type_text ts)) ((few_dimensions t fit.0.0).1 fit.0.1) (few_all ts fit.1)

forms_of : (types : List FieldType) → AllByRecursion IsFieldType types → AllByRecursion HasForm types
forms_of [] fit = tt
forms_of (t ∷ ts) fit = (fit.0.0, forms_of ts fit.1)

result_few : (returned : Option FieldType) → IfSome returned HasForm → has_few_dimensions (result_text returned) ≡ true → IfSome returned IsFieldType
result_few None form h = tt
result_few (Some type) form h = (form, (few_dimensions type form).0 h)

few_result : (returned : Option FieldType) → IfSome returned IsFieldType → has_few_dimensions (result_text returned) ≡ true
few_result None fit = refl
few_result (Some type) fit = (few_dimensions type fit.0).1 fit.1

form_of : (returned : Option FieldType) → IfSome returned IsFieldType → IfSome returned HasForm
form_of None fit = tt
form_of (Some type) fit = fit.0

-- ---- descriptors of fields

pub field_decided : (desc : List ℕ) → (is_field desc ≡ true) ↔ IsFieldDescriptor desc
unfolding is_field
field_decided desc = (
  λ h.
      let parts = and_parts (is_type desc) (has_few_dimensions desc) h in
      let read = type_takes desc parts.0 in
      record { type = read.type; parts = read.parts; fits = (read.form, (few_dimensions read.type read.form).0 (ap has_few_dimensions (sym read.parts) ∙ parts.1)) },
  λ d.
      and_from (is_type desc) (has_few_dimensions desc)
      (ap is_type d.parts ∙ type_found d.type d.fits.0)
      (ap has_few_dimensions d.parts ∙ (few_dimensions d.type d.fits.0).1 d.fits.1),
)

-- ---- descriptors of methods

whole : (static : Bool) (desc : List ℕ) → IsMethodText desc → list_all has_few_dimensions (parameters_of desc) ≡ true
    → has_few_dimensions (result_of desc) ≡ true → has_few_words static (parameters_of desc) ≡ true → IsMethodDescriptor static desc
whole static desc d dimensions result words =
    let cut = cut_so desc d.parameters d.returned d.parts d.each d.result in
    record {
      parameters = d.parameters;
      returned = d.returned;
      parts = d.parts;
      each = all_few d.parameters d.each (ap (λ (l : List (List ℕ)). list_all has_few_dimensions l) (sym cut.parameters_are) ∙ dimensions);
      result = result_few d.returned d.result (ap has_few_dimensions (sym cut.result_is) ∙ result);
      words =
          subst (λ (n : ℕ). n + cond static 0 1 ≤ 255) cut.words_are
          (leb-true (words_of_all (parameters_of desc) + cond static 0 1) 255 words);
    }

pub describes_decided : (static : Bool) (desc : List ℕ) → (describes static desc ≡ true) ↔ IsMethodDescriptor static desc
unfolding describes
describes_decided static desc =
    let types : Bool = list_all has_few_dimensions (parameters_of desc) in
    let result : Bool = has_few_dimensions (result_of desc) in
    let words : Bool = has_few_words static (parameters_of desc) in (
      λ h.
          let text = and_parts (is_method_text desc) ((types && result) && words) h in
          let limits = and_parts (types && result) words text.1 in
          let dimensions = and_parts types result limits.0 in
          whole static desc (method_takes desc text.0) dimensions.0 dimensions.1 limits.1,
      λ d.
          let forms = forms_of d.parameters d.each in
          let form = form_of d.returned d.result in
          let cut = cut_so desc d.parameters d.returned d.parts forms form in
          let text : IsMethodText desc = record { parameters = d.parameters; returned = d.returned; parts = d.parts; each = forms; result = form } in
          and_from (is_method_text desc) ((types && result) && words) (method_found desc text)
          (and_from (types && result) words
          (and_from types result
          (ap (λ (l : List (List ℕ)). list_all has_few_dimensions l) cut.parameters_are ∙ few_all d.parameters d.each)
          (ap has_few_dimensions cut.result_is ∙ few_result d.returned d.result))
          (le-leb (words_of_all (parameters_of desc) + cond static 0 1) 255
          (subst (λ (n : ℕ). n + cond static 0 1 ≤ 255) (sym cut.words_are) d.words))),
    )

-- ---- answers that are what a test says

pub text_answer : (answer : Bool) (desc : List ℕ) → answer ≡ is_method_text desc → IsTrue answer ↔ IsMethodText desc
text_answer answer desc is = subst (λ (b : Bool). IsTrue b ↔ IsMethodText desc) (sym is) (text_decided desc)

pub field_answer : (answer : Bool) (desc : List ℕ) → answer ≡ is_field desc → IsTrue answer ↔ IsFieldDescriptor desc
field_answer answer desc is = subst (λ (b : Bool). IsTrue b ↔ IsFieldDescriptor desc) (sym is) (field_decided desc)

pub method_answer : (static answer : Bool) (desc : List ℕ) → answer ≡ describes static desc → IsTrue answer ↔ IsMethodDescriptor static desc
method_answer static answer desc is = subst (λ (b : Bool). IsTrue b ↔ IsMethodDescriptor static desc) (sym is) (describes_decided static desc)
