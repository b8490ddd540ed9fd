-- The name of a class: a text that passes is a name and a `;`, and each such text passes.
use Rattle.std.proofs.Common.{◌≡◌, ℕ, Bool, true, false, cond, eqb, ◌&&◌, List, [], ◌∷◌, ◌++◌, length, refl, sym, ap, subst, ◌∙◌, inl, inr}
use Rattle.std.proofs.lemmas.Bool.{cases_Bool, eqb-true, and_from, and_parts}
use Rattle.std.proofs.lemmas.List.{nil_from_length}
use Rattle.descriptors.specs.Grammar.{is_name_byte, is_class_name}
use Rattle.descriptors.specs.Pieces.{name_text}
use Rattle.descriptors.specs.Tests.{ends_name}

-- the rest of a name that has begun, or a name
abbrev pub is_tail : Bool → List ℕ → Bool
is_tail false name = is_class_name name
is_tail true [] = true
is_tail true (b ∷ name) = cond (eqb b 47) (is_class_name name) (is_class_name (b ∷ name))

-- the text is the rest of a name and a `;`
pub record Named (begun : Bool) (text : List ℕ) : Type 0 where
  pub name : List ℕ
  pub parts : text ≡ name ++ 59 ∷ []
  pub form : is_tail begun name ≡ true

is_class_name-cons : (b : ℕ) (name : List ℕ) → is_class_name (b ∷ name) ≡ (is_name_byte b && is_tail true name)
is_class_name-cons b [] = elim (cases_Bool (is_name_byte b)) [ inl h ↦ rw h refl | inr h ↦ rw h refl ]
is_class_name-cons b (c ∷ name) = refl

-- a byte of a name is no `/` and no `;`
name_byte_is_no : (b other : ℕ) → is_name_byte other ≡ false → is_name_byte b ≡ true → eqb b other ≡ false
name_byte_is_no b other never h = elim (cases_Bool (eqb b other)) [ inl e ↦ absurd (let at : b ≡ other = eqb-true b other e in let no : is_name_byte other ≡ true = subst (λ (x : ℕ). is_name_byte x ≡ true) at h in cc) | inr e ↦ e ]

is_tail-cons : (begun : Bool) (b : ℕ) (name : List ℕ) → is_name_byte b ≡ true → is_tail true name ≡ true → is_tail begun (b ∷ name) ≡ true
is_tail-cons false b name h t = rw is_class_name-cons (and_from _ _ h t)
is_tail-cons true b name h t = rw (name_byte_is_no b 47 refl h, is_class_name-cons) (and_from _ _ h t)

-- ---- what passes

name_more : (begun : Bool) (b : ℕ) (text : List ℕ) → is_name_byte b ≡ true → Named true text → Named begun (b ∷ text)
name_more begun b text h n = record { name = b ∷ n.name; parts = ap (λ (t : List ℕ). b ∷ t) n.parts; form = is_tail-cons begun b n.name h n.form }

name_again : (b : ℕ) (text : List ℕ) → b ≡ 47 → Named false text → Named true (b ∷ text)
name_again b text h n = record { name = b ∷ n.name; parts = ap (λ (t : List ℕ). b ∷ t) n.parts; form = rw h n.form }

name_done : (b : ℕ) (text : List ℕ) → b ≡ 59 → text ≡ [] → Named true (b ∷ text)
name_done b text h e = record { name = []; parts = cc; form = refl }

takes_at : (begun n s c : Bool) (b : ℕ) (text : List ℕ) → is_name_byte b ≡ n → eqb b 59 ≡ s → eqb b 47 ≡ c
    → cond n (ends_name true text) (cond (begun && c) (ends_name false text) ((begun && s) && eqb (length text) 0)) ≡ true
    → ((b : Bool) → ends_name b text ≡ true → Named b text) → Named begun (b ∷ text)
takes_at begun true s c b text hn hs hc e further = name_more begun b text hn (further true e)
takes_at false false s c b text hn hs hc e further = absurd cc
takes_at true false s true b text hn hs hc e further = name_again b text (eqb-true b 47 hc) (further false e)
takes_at true false true false b text hn hs hc e further = name_done b text (eqb-true b 59 hs) (nil_from_length text (eqb-true (length text) 0 e))
takes_at true false false false b text hn hs hc e further = absurd cc

pub name_takes : (begun : Bool) (text : List ℕ) → ends_name begun text ≡ true → Named begun text
name_takes begun [] e = absurd cc
name_takes begun (b ∷ text) e =
    takes_at begun (is_name_byte b) (eqb b 59) (eqb b 47) b text refl refl refl e (λ begun e. name_takes begun text e)

-- ---- what is a name passes

-- a name that goes on with this byte
step_name : (begun : Bool) (b : ℕ) (text : List ℕ) → is_name_byte b ≡ true → ends_name begun (b ∷ text) ≡ ends_name true text
step_name begun b text h = rw h refl

pub name_found : (begun : Bool) (name : List ℕ) → is_tail begun name ≡ true → ends_name begun (name ++ 59 ∷ []) ≡ true
name_found false [] h = absurd cc
name_found true [] h = refl
name_found false (b ∷ name) h =
    let parts = and_parts (is_name_byte b) (is_tail true name) (sym (is_class_name-cons b name) ∙ h) in
    step_name false b (name ++ 59 ∷ []) parts.0 ∙ name_found true name parts.1
name_found true (b ∷ name) h =
    elim (cases_Bool (eqb b 47)) [
      | inl e ↦
          let at : b ≡ 47 = eqb-true b 47 e in
          let form : is_class_name name ≡ true = rw e at h in
          rw at (name_found false name form)
      | inr e ↦
          let whole : is_class_name (b ∷ name) ≡ true = rw e at h in
          let parts = and_parts (is_name_byte b) (is_tail true name) (sym (is_class_name-cons b name) ∙ whole) in
          step_name true b (name ++ 59 ∷ []) parts.0 ∙ name_found true name parts.1
    ]

-- ---- a name is cut at its `;`

step_cut : (b : ℕ) (text : List ℕ) → eqb b 59 ≡ false → name_text (b ∷ text) ≡ b ∷ name_text text
step_cut b text h = rw h refl

pub name_cut : (begun : Bool) (name rest : List ℕ) → is_tail begun name ≡ true → name_text (name ++ 59 ∷ rest) ≡ name ++ 59 ∷ []
name_cut false [] rest h = absurd cc
name_cut true [] rest h = refl
name_cut false (b ∷ name) rest h =
    let parts = and_parts (is_name_byte b) (is_tail true name) (sym (is_class_name-cons b name) ∙ h) in
    step_cut b (name ++ 59 ∷ rest) (name_byte_is_no b 59 refl parts.0) ∙ ap (λ (t : List ℕ). b ∷ t) (name_cut true name rest parts.1)
name_cut true (b ∷ name) rest h =
    elim (cases_Bool (eqb b 47)) [
      | inl e ↦
          let at : b ≡ 47 = eqb-true b 47 e in
          let form : is_class_name name ≡ true = rw e at h in
          rw at (ap (λ (t : List ℕ). 47 ∷ t) (name_cut false name rest form))
      | inr e ↦
          let whole : is_class_name (b ∷ name) ≡ true = rw e at h in
          let parts = and_parts (is_name_byte b) (is_tail true name) (sym (is_class_name-cons b name) ∙ whole) in
          step_cut b (name ++ 59 ∷ rest) (name_byte_is_no b 59 refl parts.0) ∙ ap (λ (t : List ℕ). b ∷ t) (name_cut true name rest parts.1)
    ]
