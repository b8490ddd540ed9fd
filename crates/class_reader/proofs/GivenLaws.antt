-- The attributes of a method: what passes has the code that the grammar gives the method, and each such list passes.
use Rattle.std.proofs.Common.{◌≡◌, ◌⊎◌, ℕ, Bool, true, false, cond, ◌&&◌, ◌||◌, not, List, [], ◌∷◌, ◌++◌, length, Option, Some, None, IsTrue, refl, sym, ap, subst, ◌∙◌, inl, inr}
use Rattle.std.specs.Prelude.{codes}
use Rattle.std.specs.Str.{bytes_eq}
use Rattle.std.proofs.lemmas.Bool.{and_parts, not-true, false≢true}
use Rattle.byteorder.specs.Endian.{big_bytes}
use Rattle.class_pool.specs.declared.constant.Constant.{Constant}
use Rattle.class_pool.specs.Place.{Place, IsBytes}
use Rattle.class_pool.specs.Pieces.{Counted, StartsWith}
use Rattle.class_pool.proofs.Numbers.{IsBytes-rest}
use Rattle.class_pool.proofs.Pieces.{IsNumber, starts-rest}
use Rattle.class_reader.specs.declared.class.Code.{Code}
use Rattle.class_reader.specs.declared.fault.ClassFault.TheVariants.{BadCode}
use Rattle.class_reader.specs.Met.{Met, done, with_faults, ◌>>=◌, Passes, times}
use Rattle.class_reader.specs.Flags.{is_native, is_abstract}
use Rattle.class_reader.specs.ClassReading.{fault_if, Stored, attribute_at, code_at, judged, Given, given_at, keeps_code, given_with, method_attribute_at, has_code, code_given_at}
use Rattle.class_reader.specs.ClassFile.{Attribute, IsAttribute, IsCode, codes_of, HasCode}
use Rattle.class_reader.proofs.MetLaws.{stepped, steps, passes_is, carried, spanned, middle_of, second_of_two, rewritten, bytes_of, took, takes_first, num_reader}
use Rattle.class_reader.proofs.TimesLaws.{IsStep, Chain, times_take, times_again, chain_each, each_chain, counted_made}
use Rattle.class_reader.proofs.AttributeLaws.{faultless, stored_at, attribute_takes, attribute_again}
use Rattle.class_reader.proofs.CodeLaws.{code_judged, code_rejudged}

abbrev is_named_code : Attribute → Bool
is_named_code attribute = bytes_eq attribute.name (codes "Code")

-- ---- one attribute

-- the first Code attribute of a method that may have one
record IsFirstCode (allowed : Bool) (pool : List (Option Constant)) (given : Given) (attribute : Attribute) (now : Given) : Type 0 where
  code : Code
  named : is_named_code attribute ≡ true
  may : allowed ≡ true
  first : given.met ≡ false
  is : IsCode pool attribute.body code
  after : now ≡ record { met = true; code = keeps_code given.code (Some code) }

-- an attribute of another name, or that one
abbrev Gives : Bool → List (Option Constant) → Given → Attribute → Given → Type 0
Gives allowed pool given attribute now = ((is_named_code attribute ≡ false) × (given ≡ now)) ⊎ IsFirstCode allowed pool given attribute now

given_first : (go : Bool) (at : ℕ) (met : Met (Option Code)) (found : Option Code) → Passes (cond go met (with_faults (BadCode at ∷ []) None)) found → (go ≡ true) × Passes met found
given_first true at met found p = (refl, p)
given_first false at met found p = absurd (let no = p.1 in cc)

given_takes : (allowed : Bool) (pool : List (Option Constant)) (given : Given) (place : Place) (attribute : Attribute) (now : Given) (named : Bool) → IsBytes attribute.body → is_named_code attribute ≡ named
    → Passes (cond named (given_at allowed pool given.met (stored_at place attribute) >>= λ code. done (record { met = true; code = keeps_code given.code code })) (done given)) now → Gives allowed pool given attribute now
unfolding given_at
given_takes allowed pool given place attribute now false fits e p = inl (e, passes_is given now p)
given_takes allowed pool given place attribute now true fits e p =
    let stored = stored_at place attribute in
    let s = stepped (cond (allowed && not given.met) (judged stored.at (code_at pool stored.body)) (with_faults (BadCode stored.at ∷ []) None)) _ now p in
    let g = given_first (allowed && not given.met) stored.at (judged stored.at (code_at pool stored.body)) s.0 s.1 in
    let may = and_parts allowed (not given.met) g.0 in
    let j = code_judged pool stored.at stored.body s.0 fits g.1 in
    let after : record { met = true; code = keeps_code given.code s.0 } ≡ now = passes_is (record { met = true; code = keeps_code given.code s.0 }) now s.2 in
    inr (record {
      code = j.0;
      named = e;
      may = may.0;
      first = not-true given.met may.1;
      is = j.2;
      after = sym after ∙ ap (λ (o : Option Code). let g : Given = record { met = true; code = keeps_code given.code o } in g) j.1;
    })

given_again : (allowed : Bool) (pool : List (Option Constant)) (given : Given) (place : Place) (attribute : Attribute) (now : Given) → Gives allowed pool given attribute now → Passes (given_with allowed pool given (stored_at place attribute)) now
unfolding given_with given_at
given_again allowed pool given place attribute now (inl other) = rw other.0 (ap (λ (g : Given). Some g) other.1, refl)
given_again allowed pool given place attribute now (inr first) =
    let stored = stored_at place attribute in
    let j = code_rejudged pool stored.at stored.body first.code first.is in
    rw (first.named, first.may, first.first) (steps _ j (ap (λ (g : Given). Some g) (sym first.after), refl))

-- ---- the loop

abbrev BytesBehind : Given × Place → Type 0
BytesBehind s = IsBytes s.1.rest

abbrev GivesAt : Bool → List (Option Constant) → Given × Place → Attribute → Given × Place → Type 0
GivesAt allowed pool s attribute t = StartsWith (IsAttribute pool) s.1 attribute t.1 × Gives allowed pool s.0 attribute t.0

body_bytes : (pool : List (Option Constant)) (place next : Place) (attribute : Attribute) → StartsWith (IsAttribute pool) place attribute next → IsBytes place.rest → IsBytes attribute.body
body_bytes pool place next attribute s fits =
    let len : List ℕ = big_bytes 4 (length attribute.body) in
    let whole = bytes_of (spanned s) fits in
    IsBytes-rest (len ++ attribute.body) len attribute.body refl (IsBytes-rest s.piece s.is.index (len ++ attribute.body) s.is.parts whole)

method_step : (allowed : Bool) (pool : List (Option Constant)) → IsStep (method_attribute_at allowed pool) BytesBehind (GivesAt allowed pool)
unfolding method_attribute_at given_with
method_step allowed pool = record {
  takes = λ s t fits p.
      let a = stepped (attribute_at pool s.1) _ t p in
      let read = attribute_takes pool s.1 a.0.0 a.0.1 fits a.1 in
      let g = stepped (given_with allowed pool s.0 a.0.0) _ t a.2 in
      let here : Passes (given_with allowed pool s.0 (stored_at s.1 read.attribute)) g.0 = subst (λ (z : Stored). Passes (given_with allowed pool s.0 z) g.0) read.same g.1 in
      let gives = given_takes allowed pool s.0 s.1 read.attribute g.0 (is_named_code read.attribute) (body_bytes pool s.1 a.0.1 read.attribute read.starts fits) refl here in
      let all = carried (λ z. GivesAt allowed pool s read.attribute z × BytesBehind z) (g.0, a.0.1) t g.2 ((read.starts, gives), starts-rest (IsAttribute pool) s.1 a.0.1 read.attribute read.starts fits) in
      (read.attribute, all.0, all.1);
  again = λ s t a is. steps _ (attribute_again pool s.1 a t.1 is.0) (steps _ (given_again allowed pool s.0 s.1 a t.0 is.1) (refl, refl));
}

abbrev GivesAll : Bool → List (Option Constant) → Given × Place → List Attribute → Given × Place → Type 0
GivesAll allowed pool s attributes t = Chain {S = Given × Place} {A = Attribute} (GivesAt allowed pool) s attributes t

pieces_of : (allowed : Bool) (pool : List (Option Constant)) (attributes : List Attribute) (s t : Given × Place) → GivesAll allowed pool s attributes t → Chain {S = Place} {A = Attribute} (StartsWith (IsAttribute pool)) s.1 attributes t.1
pieces_of allowed pool [] s t c = ap (λ (z : Given × Place). z.1) c
pieces_of allowed pool (a ∷ attributes) s t c = (c.0.1, c.1.0, pieces_of allowed pool attributes c.0 t c.2)

-- ---- what a loop found

abbrev nothing_given : Given
nothing_given = record { met = false; code = None }

abbrev code_given : Code → Given
code_given code = record { met = true; code = Some code }

other_codes : (attribute : Attribute) (attributes : List Attribute) → is_named_code attribute ≡ false → codes_of (attribute ∷ attributes) ≡ codes_of attributes
other_codes attribute attributes e = rw e refl

more_codes : (attribute : Attribute) (attributes : List Attribute) → is_named_code attribute ≡ true → codes_of (attribute ∷ attributes) ≡ attribute.body ∷ codes_of attributes
more_codes attribute attributes e = rw e refl

-- behind the code no other is given
none_behind : (allowed : Bool) (pool : List (Option Constant)) (attributes : List Attribute) (s t : Given × Place) → s.0.met ≡ true → GivesAll allowed pool s attributes t → (codes_of attributes ≡ []) × (s.0 ≡ t.0)
none_behind allowed pool [] s t met c = (refl, ap (λ (z : Given × Place). z.0) c)
none_behind allowed pool (a ∷ attributes) s t met c =
    elim c.1.1 [
      | inl other ↦
          let behind = none_behind allowed pool attributes c.0 t (ap (λ (g : Given). g.met) (sym other.1) ∙ met) c.2 in
          (other_codes a attributes other.0 ∙ behind.0, other.1 ∙ behind.1)
      | inr first ↦ absurd (false≢true (sym first.first ∙ met))
    ]

-- the code of a method that has one
record GivenCode (allowed : Bool) (pool : List (Option Constant)) (attributes : List Attribute) (now : Given) : Type 0 where
  code : Code
  body : List ℕ
  may : allowed ≡ true
  only : codes_of attributes ≡ body ∷ []
  is : IsCode pool body code
  after : now ≡ code_given code

abbrev GivenAny : Bool → List (Option Constant) → List Attribute → Given → Type 0
GivenAny allowed pool attributes now = ((codes_of attributes ≡ []) × (now ≡ nothing_given)) ⊎ GivenCode allowed pool attributes now

any_behind : (allowed : Bool) (pool : List (Option Constant)) (a : Attribute) (attributes : List Attribute) (now : Given) → is_named_code a ≡ false → GivenAny allowed pool attributes now → GivenAny allowed pool (a ∷ attributes) now
any_behind allowed pool a attributes now e (inl none) = inl (other_codes a attributes e ∙ none.0, none.1)
any_behind allowed pool a attributes now e (inr g) = inr (record { code = g.code; body = g.body; may = g.may; only = other_codes a attributes e ∙ g.only; is = g.is; after = g.after })

kept_code : (given : Given) (code : Code) → given ≡ nothing_given → record { met = true; code = keeps_code given.code (Some code) } ≡ code_given code
kept_code given code e = ap (λ (g : Given). let h : Given = record { met = true; code = keeps_code g.code (Some code) } in h) e

any_given : (allowed : Bool) (pool : List (Option Constant)) (attributes : List Attribute) (s t : Given × Place) → s.0 ≡ nothing_given → GivesAll allowed pool s attributes t → GivenAny allowed pool attributes t.0
any_given allowed pool [] s t none c = inl (refl, ap (λ (z : Given × Place). z.0) (sym c) ∙ none)
any_given allowed pool (a ∷ attributes) s t none c =
    elim c.1.1 [
      | inl other ↦ any_behind allowed pool a attributes t.0 other.0 (any_given allowed pool attributes c.0 t (sym other.1 ∙ none) c.2)
      | inr first ↦
          let now = first.after ∙ kept_code s.0 first.code none in
          let behind = none_behind allowed pool attributes c.0 t (ap (λ (g : Given). g.met) now) c.2 in
          inr (record { code = first.code; body = a.body; may = first.may; only = more_codes a attributes first.named ∙ ap (λ (l : List (List ℕ)). a.body ∷ l) behind.0; is = first.is; after = sym behind.1 ∙ now })
    ]

-- ---- what a loop finds

no_code_at : (b : Bool) (body : List ℕ) (others : List (List ℕ)) → cond b (body ∷ others) others ≡ [] → (b ≡ false) × (others ≡ [])
no_code_at true body others e = absurd cc
no_code_at false body others e = (refl, e)

gives_nothing : (allowed : Bool) (pool : List (Option Constant)) (attributes : List Attribute) (given : Given) (place next : Place) → codes_of attributes ≡ []
    → Chain {S = Place} {A = Attribute} (StartsWith (IsAttribute pool)) place attributes next → GivesAll allowed pool (given, place) attributes (given, next)
gives_nothing allowed pool [] given place next none c = ap (λ (p : Place). let z : Given × Place = (given, p) in z) c
gives_nothing allowed pool (a ∷ attributes) given place next none c =
    let other = no_code_at (is_named_code a) a.body (codes_of attributes) none in
    ((given, c.0), (c.1, inl (other.0, refl)), gives_nothing allowed pool attributes given c.0 next other.1 c.2)

one_code_at : (b : Bool) (body other : List ℕ) (others : List (List ℕ)) → cond b (body ∷ others) others ≡ other ∷ [] → ((b ≡ true) × (body ≡ other) × (others ≡ [])) ⊎ ((b ≡ false) × (others ≡ other ∷ []))
one_code_at true body other others e = inl (refl, cc, cc)
one_code_at false body other others e = inr (refl, e)

gives_code : (pool : List (Option Constant)) (attributes : List Attribute) (place next : Place) (body : List ℕ) (code : Code) → codes_of attributes ≡ body ∷ [] → IsCode pool body code
    → Chain {S = Place} {A = Attribute} (StartsWith (IsAttribute pool)) place attributes next → GivesAll true pool (nothing_given, place) attributes (code_given code, next)
gives_code pool [] place next body code only is c = absurd cc
gives_code pool (a ∷ attributes) place next body code only is c =
    elim (one_code_at (is_named_code a) a.body body (codes_of attributes) only) [
      | inl here ↦
          let first : IsFirstCode true pool nothing_given a (code_given code) =
          record { code = code; named = here.0; may = refl; first = refl; is = subst (λ (b : List ℕ). IsCode pool b code) (sym here.1) is; after = refl } in
          ((code_given code, c.0), (c.1, inr first), gives_nothing true pool attributes (code_given code) c.0 next here.2 c.2)
      | inr there ↦ ((nothing_given, c.0), (c.1, inl (there.0, refl)), gives_code pool attributes c.0 next body code there.1 is c.2)
    ]

-- ---- the attributes of a method

-- attributes, and the code that a method with these flags has by them
pub record CodeAt (pool : List (Option Constant)) (flags : ℕ) (place : Place) (found : Option Code) (next : Place) : Type 0 where
  pub stored : List Attribute
  pub starts : StartsWith (Counted (IsAttribute pool)) place stored next
  pub has : HasCode pool flags stored found

without_code : (none : Bool) (at : ℕ) (given : Given) → given ≡ nothing_given → fault_if (not none && not given.met) (BadCode at) ≡ [] → IsTrue none
without_code true at given e h = refl
without_code false at given e h = absurd (let faults : fault_if (not false && not false) (BadCode at) ≡ [] = subst (λ (g : Given). fault_if (not false && not g.met) (BadCode at) ≡ []) e h in cc)

has_given : (pool : List (Option Constant)) (flags at : ℕ) (attributes : List Attribute) (given : Given) (found : Option Code) → GivenAny (has_code flags) pool attributes given
    → fault_if (has_code flags && not given.met) (BadCode at) ≡ [] → given.code ≡ found → HasCode pool flags attributes found
has_given pool flags at attributes given found (inl none) h e =
    subst (HasCode pool flags attributes) (ap (λ (g : Given). g.code) (sym none.1) ∙ e) (without_code (is_native flags || is_abstract flags) at given none.1 h, none.0)
has_given pool flags at attributes given found (inr g) h e =
    subst (HasCode pool flags attributes) (ap (λ (g : Given). g.code) (sym g.after) ∙ e) (g.may, (g.body, g.only, g.is))

pub given_code_takes : (pool : List (Option Constant)) (flags at : ℕ) (place : Place) (found : Option Code) (next : Place) → IsBytes place.rest
    → Passes (code_given_at at (has_code flags) pool place) (found, next) → CodeAt pool flags place found next
unfolding code_given_at
given_code_takes pool flags at place found next fits p =
    let count = took (num_reader 2) place _ (found, next) fits p in
    let all = stepped (times (method_attribute_at (has_code flags) pool) count.value (nothing_given, count.next)) _ (found, next) count.others in
    let l = times_take (method_step (has_code flags) pool) count.value (nothing_given, count.next) all.0 count.fits all.1 in
    let f = faultless (fault_if (has_code flags && not all.0.0.met) (BadCode at)) (all.0.0.code, all.0.1) (found, next) all.2 in
    let given = any_given (has_code flags) pool l.elements (nothing_given, count.next) all.0 refl l.chain in
    let sized = subst (λ (k : ℕ). StartsWith (IsNumber 2) place k count.next) (sym l.sized) count.starts in
    let pieces = chain_each (IsAttribute pool) l.elements count.next all.0.1 (pieces_of (has_code flags) pool l.elements (nothing_given, count.next) all.0 l.chain) in
    let attributes = counted_made (record { count = sized; others = pieces }) in
    record {
      stored = l.elements;
      starts = subst (λ (q : Place). StartsWith (Counted (IsAttribute pool)) place l.elements q) (ap (λ (z : Option Code × Place). z.1) f.1) attributes;
      has = has_given pool flags at l.elements all.0.0 found given f.0 (ap (λ (z : Option Code × Place). z.0) f.1);
    }

-- what the loop finds of such attributes
record Ends (pool : List (Option Constant)) (flags at : ℕ) (attributes : List Attribute) (place next : Place) (found : Option Code) : Type 0 where
  given : Given
  gives : GivesAll (has_code flags) pool (nothing_given, place) attributes (given, next)
  faultless : fault_if (has_code flags && not given.met) (BadCode at) ≡ []
  same : given.code ≡ found

no_code_wanted : (none : Bool) (at : ℕ) → IsTrue none → fault_if (not none && true) (BadCode at) ≡ []
no_code_wanted true at h = refl
no_code_wanted false at h = absurd cc

ends_with : (pool : List (Option Constant)) (flags at : ℕ) (attributes : List Attribute) (place next : Place) (found : Option Code) → HasCode pool flags attributes found
    → Chain {S = Place} {A = Attribute} (StartsWith (IsAttribute pool)) place attributes next → Ends pool flags at attributes place next found
ends_with pool flags at attributes place next None has c = record {
  given = nothing_given;
  gives = gives_nothing (has_code flags) pool attributes nothing_given place next has.1 c;
  faultless = no_code_wanted (is_native flags || is_abstract flags) at has.0;
  same = refl;
}
ends_with pool flags at attributes place next (Some code) has c =
    let may : has_code flags ≡ true = has.0 in
    record {
      given = code_given code;
      gives = subst (λ (b : Bool). GivesAll b pool (nothing_given, place) attributes (code_given code, next)) (sym may) (gives_code pool attributes place next has.1.0 code has.1.1 has.1.2 c);
      faultless = ap (λ (b : Bool). fault_if (b && false) (BadCode at)) may;
      same = refl;
    }

pub given_code_again : (pool : List (Option Constant)) (flags at : ℕ) (place : Place) (found : Option Code) (next : Place) → CodeAt pool flags place found next → Passes (code_given_at at (has_code flags) pool place) (found, next)
unfolding code_given_at
given_code_again pool flags at place found next c =
    let s = c.starts in
    let spans = rewritten s.is.parts (spanned s) in
    let front : List ℕ = big_bytes 2 (length c.stored) in
    let middle : Place = middle_of place front s.is.pieces next in
    let pieces = each_chain (IsAttribute pool) c.stored s.is.pieces middle next s.is.each (second_of_two front s.is.pieces spans) in
    let e = ends_with pool flags at c.stored middle next found c.has pieces in
    takes_first (num_reader 2) (length c.stored) front s.is.pieces _ spans (refl, s.is.short)
    (steps _ (times_again (method_step (has_code flags) pool) c.stored (nothing_given, middle) (e.given, next) e.gives)
    (ap (λ (o : Option Code). let z : Option (Option Code × Place) = Some (o, next) in z) e.same, e.faultless))
