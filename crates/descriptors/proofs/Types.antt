-- Types: a text that passes is the text of a type, each such text passes, and it is one piece.
use Rattle.std.proofs.Common.{◌≡◌, ◌&&◌, ℕ, suc, Bool, true, false, cond, eqb, List, [], ◌∷◌, ◌++◌, length, Option, Some, None, refl, ap, subst, ◌∙◌, append_assoc, arith, inl, inr}
use Rattle.std.specs.Prelude.{IfSome}
use Rattle.std.specs.Str.{bytes_eq}
use Rattle.std.proofs.lemmas.Bool.{cases_Bool, eqb-true, and_parts, or_cases, or_right}
use Rattle.std.proofs.lemmas.List.{nil_from_length, drop_at}
use Rattle.std.proofs.lemmas.Slice.Eq.{bytes_eq-Decides}
use Rattle.descriptors.specs.Grammar.{FieldType, Base, Object, Array, is_base_letter, is_class_name, type_text, result_text, HasForm, dimensions, words_of, is_float}
use Rattle.descriptors.specs.Pieces.{first_piece, name_text, pieces, is_close}
use Rattle.descriptors.specs.Texts.{text_dimensions, text_words, has_float}
use Rattle.descriptors.specs.Tests.{ends_name, is_element, is_type, is_result}
use Rattle.descriptors.proofs.Names.{name_takes, name_found, name_cut}
use Rattle.descriptors.proofs.Cuts.{begins_with}

-- the text of a type
pub record TypeOf (text : List ℕ) : Type 0 where
  pub type : FieldType
  pub parts : text ≡ type_text type
  pub form : HasForm type

-- ---- what passes is the text of a type

of_object : (b : ℕ) (text : List ℕ) → b ≡ 76 → ends_name false text ≡ true → TypeOf (b ∷ text)
of_object b text at e =
    let read = name_takes false text e in
    rw at (record { type = Object read.name; parts = ap (λ (t : List ℕ). 76 ∷ t) read.parts; form = read.form })

of_base : (b : ℕ) (text : List ℕ) → is_base_letter b ≡ true → length text ≡ 0 → TypeOf (b ∷ text)
of_base b text form e = record { type = Base b; parts = ap (λ (t : List ℕ). b ∷ t) (nil_from_length text e); form = form }

of_array : (b : ℕ) (text : List ℕ) → b ≡ 91 → TypeOf text → TypeOf (b ∷ text)
of_array b text h read = rw h (record { type = Array read.type; parts = ap (λ (t : List ℕ). 91 ∷ t) read.parts; form = read.form })

element_takes : (object : Bool) (b : ℕ) (text : List ℕ) → eqb b 76 ≡ object
    → cond object (ends_name false text) (is_base_letter b && eqb (length text) 0) ≡ true → TypeOf (b ∷ text)
element_takes true b text ho e = of_object b text (eqb-true b 76 ho) e
element_takes false b text ho e =
    let parts = and_parts (is_base_letter b) (eqb (length text) 0) e in
    of_base b text parts.0 (eqb-true (length text) 0 parts.1)

type_takes_at : (array : Bool) (b : ℕ) (text : List ℕ) → eqb b 91 ≡ array → cond array (is_type text) (is_element (b ∷ text)) ≡ true
    → (is_type text ≡ true → TypeOf text) → TypeOf (b ∷ text)
type_takes_at true b text h e further = of_array b text (eqb-true b 91 h) (further e)
type_takes_at false b text h e further = element_takes (eqb b 76) b text refl e

pub type_takes : (text : List ℕ) → is_type text ≡ true → TypeOf text
type_takes [] e = absurd cc
type_takes (b ∷ text) e = type_takes_at (eqb b 91) b text refl e (λ h. type_takes text h)

-- ---- the text of a type passes

base_is_no : (b other : ℕ) → is_base_letter other ≡ false → is_base_letter b ≡ true → eqb b other ≡ false
base_is_no b other never h = elim (cases_Bool (eqb b other)) [ inl e ↦ absurd (let at : b ≡ other = eqb-true b other e in let yes : is_base_letter other ≡ true = subst (λ (x : ℕ). is_base_letter x ≡ true) at h in cc) | inr e ↦ e ]

base_found : (b : ℕ) → is_base_letter b ≡ true → is_type (b ∷ []) ≡ true
base_found b h = rw (base_is_no b 91 refl h, base_is_no b 76 refl h, h) refl

pub type_found : (type : FieldType) → HasForm type → is_type (type_text type) ≡ true
type_found (Base letter) form = base_found letter form
type_found (Object name) form = name_found false name form
type_found (Array element) form = type_found element form

-- ---- results

-- what stands behind the parameters
pub record ResultOf (text : List ℕ) : Type 0 where
  pub returned : Option FieldType
  pub parts : text ≡ result_text returned
  pub form : IfSome returned HasForm

type_is_result : (text : List ℕ) → is_type text ≡ true → ResultOf text
type_is_result text h =
    let read = type_takes text h in
    record { returned = Some read.type; parts = read.parts; form = read.form }

void_is_result : (text : List ℕ) → text ≡ 86 ∷ [] → ResultOf text
void_is_result text h = record { returned = None; parts = h; form = tt }

pub result_takes : (text : List ℕ) → is_result text ≡ true → ResultOf text
result_takes text h = elim (or_cases (bytes_eq text (86 ∷ [])) (is_type text) h) [
  | inl v ↦ void_is_result text ((bytes_eq-Decides text (86 ∷ [])).0 v)
  | inr t ↦ type_is_result text t
]

pub result_found : (returned : Option FieldType) → IfSome returned HasForm → is_result (result_text returned) ≡ true
result_found None form = refl
result_found (Some type) form = or_right (bytes_eq (type_text type) (86 ∷ [])) (is_type (type_text type)) (type_found type form)

-- ---- a type is one piece

first_of_base : (b : ℕ) (rest : List ℕ) → is_base_letter b ≡ true → first_piece (b ∷ rest) ≡ b ∷ []
first_of_base b rest h = rw (base_is_no b 91 refl h, base_is_no b 76 refl h) refl

first_of_object : (name rest : List ℕ) → is_class_name name ≡ true → first_piece (type_text (Object name) ++ rest) ≡ type_text (Object name)
first_of_object name rest h =
    ap (λ (t : List ℕ). 76 ∷ name_text t) (append_assoc name (59 ∷ []) rest) ∙ ap (λ (t : List ℕ). 76 ∷ t) (name_cut false name rest h)

pub first_of_type : (type : FieldType) (rest : List ℕ) → HasForm type → first_piece (type_text type ++ rest) ≡ type_text type
first_of_type (Base letter) rest form = first_of_base letter rest form
first_of_type (Object name) rest form = first_of_object name rest form
first_of_type (Array element) rest form = ap (λ (t : List ℕ). 91 ∷ t) (first_of_type element rest form)

pub pieces_of_type : (type : FieldType) (rest : List ℕ) → HasForm type → pieces (type_text type ++ rest) ≡ type_text type ∷ pieces rest
pieces_of_type (Base letter) rest form = begins_with letter rest (letter ∷ []) rest (first_of_type (Base letter) rest form) refl
pieces_of_type (Object name) rest form =
    begins_with 76 ((name ++ 59 ∷ []) ++ rest) (type_text (Object name)) rest (first_of_type (Object name) rest form)
    (drop_at (type_text (Object name)) rest (length (type_text (Object name))) refl)
pieces_of_type (Array element) rest form =
    begins_with 91 (type_text element ++ rest) (type_text (Array element)) rest (first_of_type (Array element) rest form)
    (drop_at (type_text (Array element)) rest (length (type_text (Array element))) refl)

pub type_is_open : (type : FieldType) → HasForm type → is_close (type_text type) ≡ false
type_is_open (Base letter) form = base_is_no letter 41 refl form
type_is_open (Object name) form = refl
type_is_open (Array element) form = refl

-- ---- what the text of a type says

base_dimensions : (b : ℕ) → is_base_letter b ≡ true → text_dimensions (b ∷ []) ≡ 0
base_dimensions b h = rw (base_is_no b 91 refl h) refl

pub dimensions_told : (type : FieldType) → HasForm type → text_dimensions (type_text type) ≡ dimensions type
dimensions_told (Base letter) form = base_dimensions letter form
dimensions_told (Object name) form = refl
dimensions_told (Array element) form = ap suc (dimensions_told element form) ∙ omega arith

letter_words : (b : ℕ) → text_words (b ∷ []) ≡ words_of (Base b)
letter_words b = elim (cases_Bool (eqb b 74)) [
  | inl e ↦ rw e refl
  | inr e ↦ elim (cases_Bool (eqb b 68)) [ inl d ↦ rw (e, d) refl | inr d ↦ rw (e, d) refl ]
]

pub words_told : (type : FieldType) → text_words (type_text type) ≡ words_of type
words_told (Base letter) = letter_words letter
words_told (Object name) = refl
words_told (Array element) = refl

base_float : (b : ℕ) → is_base_letter b ≡ true → has_float (b ∷ []) ≡ is_float (Base b)
base_float b h = rw (base_is_no b 91 refl h) refl

pub float_told : (type : FieldType) → HasForm type → has_float (type_text type) ≡ is_float type
float_told (Base letter) form = base_float letter form
float_told (Object name) form = refl
float_told (Array element) form = float_told element form
