-- Where the texts of a pool stand first, and the members that they name.
use Rattle.std.proofs.Common.{◌≡◌, ℕ, zero, suc, ◌<◌, Bool, true, false, cond, ◌&&◌, ◌||◌, List, [], ◌∷◌, ◌++◌, Option, Some, None, length, refl, sym, ap, subst, ◌∙◌, inl, inr, arith}
use Rattle.std.specs.Prelude.{is_some, is_none, IsSome, slice_get, map, unwrap_or, option_map, option_and_then}
use Rattle.std.specs.List.{list_any}
use Rattle.std.specs.Map.{update}
use Rattle.std.specs.Ordering.{nat_cmp, is_eq}
use Rattle.std.specs.Bool.{Decides}
use Rattle.std.specs.Cmp.{tied_then, Equal-is, eq_by_cmp_equiv}
use Rattle.std.specs.BTreeMap.{is_at}
use Rattle.std.proofs.lemmas.Bool.Decides.{same_from_decides}
use Rattle.std.proofs.lemmas.Cmp.{nat_cmp_total}
use Rattle.std.proofs.lemmas.List.{map-append}
use Rattle.std.proofs.lemmas.List.Folds.{list_any-append}
use Rattle.std.proofs.lemmas.Map.Lookups.{exact_unsigned}
use Rattle.std.specs.Str.{bytes_eq}
use Rattle.std.proofs.lemmas.Bool.{cases_Bool, cases_lt, and_parts}
use Rattle.std.proofs.lemmas.Option.{slice_get_past, slice_get-map}
use Rattle.std.proofs.lemmas.Slice.Eq.{bytes_eq-Decides}
use Rattle.class_pool.specs.declared.constant.Constant.{Constant}
use Rattle.class_pool.specs.Pool.{text_of, utf8_at}
use Rattle.class_reader.specs.declared.texts.TextFacts.{TextFacts}
use Rattle.class_reader.specs.ClassReading.{is_pair, is_repeated, with_member}
use Rattle.class_reader.specs.TextTable.{facts_of, slot_facts, facts_at, IsTextTable, NotesFirst, HasFirsts, texts_in, members_in, pair_cmp, has_key, key_of, IsIndexed}

-- ---- noting where a text stands first

pub notes_first : (text : List ℕ) (at : ℕ) (old new : List ℕ → Option ℕ) → is_some (old text) ≡ false → ((other : List ℕ) → new other ≡ update bytes_eq old text (Some at) other) → NotesFirst (Some text) at old new
notes_first text at old new h k other =
    k other ∙ rw h (elim (bytes_eq text other) as (λ b. cond b (Some at) (old other) ≡ cond (b && true) (Some at) (old other)) [ true ↦ refl | false ↦ refl ])

either_is_some : (b : Bool) (x y : Option ℕ) → IsSome x → IsSome y → IsSome (cond b x y)
either_is_some true x y p q = p
either_is_some false x y p q = q

noted_is_some : (at : ℕ) (old : Option ℕ) → IsSome (cond (true && is_none old) (Some at) old)
noted_is_some at None = refl
noted_is_some at (Some x) = refl

has_noted : (text : List ℕ) (at : ℕ) (old : List ℕ → Option ℕ) → IsSome (cond (bytes_eq text text && is_none (old text)) (Some at) (old text))
has_noted text at old = rw ((bytes_eq-Decides text text).1 refl) (noted_is_some at (old text))

pub notes_one : (pool : List (Option Constant)) (at : ℕ) (text : Option (List ℕ)) (old new : List ℕ → Option ℕ) → utf8_at pool (suc at) ≡ text → HasFirsts pool at old → NotesFirst text at old new → HasFirsts pool (suc at) new
notes_one pool at None old new e h n = record {
  has = λ i asked lt is. subst IsSome (sym (n asked)) (elim (cases_lt i at) [ inl less ↦ h.has i asked less is | inr le ↦ absurd (let same : i ≡ at = omega arith in let none : utf8_at pool (suc i) ≡ None = rw same e in cc) ]);
  named = λ asked first is. h.named asked first (sym (n asked) ∙ is);
}
notes_one pool at (Some text) old new e h n = record {
  has = λ i asked lt is. subst IsSome (sym (n asked)) (elim (cases_lt i at) [
    | inl less ↦ either_is_some _ (Some at) (old asked) refl (h.has i asked less is)
    | inr le ↦ let here : i ≡ at = omega arith in let there : utf8_at pool (suc i) ≡ Some text = rw here e in let same : text ≡ asked = cc in subst (λ (t : List ℕ). IsSome (cond (bytes_eq text t && is_none (old text)) (Some at) (old t))) same (has_noted text at old)
  ]);
  named = λ asked first is. elim (cases_Bool (bytes_eq text asked && is_none (old text))) [
    | inl noted ↦ let one : Some at ≡ Some first = rw noted at (sym (n asked) ∙ is) in let same : text ≡ asked = (bytes_eq-Decides text asked).0 (and_parts _ _ noted).0 in let here : at ≡ first = cc in rw (← here, ← same) e
    | inr apart ↦ h.named asked first (rw apart at (sym (n asked) ∙ is))
  ];
}

-- the text of an entry is that of its index
pub text_here : (pool : List (Option Constant)) (at : ℕ) (slot : Option Constant) → slice_get pool at ≡ Some slot → utf8_at pool (suc at) ≡ text_of slot
text_here pool at slot h = rw h refl

-- ---- the table

-- where a text stands first
abbrev pub place_in : (List ℕ → Option ℕ) → List ℕ → ℕ
place_in firsts text = unwrap_or (firsts text) 0

named_first : (pool : List (Option Constant)) (text : List ℕ) (first : Option ℕ) → IsSome first → ((at : ℕ) → first ≡ Some at → utf8_at pool (suc at) ≡ Some text) → utf8_at pool (suc (unwrap_or first 0)) ≡ Some text
named_first pool text None some named = absurd cc
named_first pool text (Some at) some named = named at refl

within : (pool : List (Option Constant)) (i : ℕ) (text : List ℕ) → utf8_at pool (suc i) ≡ Some text → i < length pool
within pool i text is = elim (cases_lt i (length pool)) [
  | inl less ↦ less
  | inr le ↦ absurd (let none : utf8_at pool (suc i) ≡ None = rw (slice_get_past pool i le) refl in cc)
]

first_is_named : (pool : List (Option Constant)) (firsts : List ℕ → Option ℕ) → HasFirsts pool (length pool) firsts → (i : ℕ) (text : List ℕ) → utf8_at pool i ≡ Some text → utf8_at pool (suc (place_in firsts text)) ≡ Some text
first_is_named pool firsts h zero text is = absurd cc
first_is_named pool firsts h (suc i) text is = named_first pool text (firsts text) (h.has i text (within pool i text is) is) (h.named text)

pub made_table : (pool : List (Option Constant)) (firsts : List ℕ → Option ℕ) (facts : List (Option TextFacts)) → HasFirsts pool (length pool) firsts → facts ≡ map (slot_facts (place_in firsts)) pool → IsTextTable pool facts
made_table pool firsts facts h are = record { first = place_in firsts; are = are; named = first_is_named pool firsts h }

known_of : (first : List ℕ → ℕ) (slot : Option (Option Constant)) → option_and_then (λ known. known) (option_map (slot_facts first) slot) ≡ option_map (λ text. facts_of (first text) text) (text_of (option_and_then (λ s. s) slot))
known_of first None = refl
known_of first (Some slot) = refl

-- what the table knows of an index
pub known_at : (pool : List (Option Constant)) (facts : List (Option TextFacts)) (table : IsTextTable pool facts) (i : ℕ) → facts_at facts i ≡ option_map (λ text. facts_of (table.first text) text) (utf8_at pool i)
known_at pool facts table zero = refl
known_at pool facts table (suc i) =
    ap (λ (known : List (Option TextFacts)). option_and_then (λ (k : Option TextFacts). k) (slice_get known i)) table.are
    ∙ ap (option_and_then (λ (k : Option TextFacts). k)) (slice_get-map (slot_facts table.first) pool i)
    ∙ known_of table.first (slice_get pool i)

-- ---- the members

same_number : (a b : ℕ) → Decides (is_eq (nat_cmp a b)) (a ≡ b)
same_number a b = (λ h. exact_unsigned a b ((Equal-is (nat_cmp a b)).0 h), λ e. subst (λ (x : ℕ). is_eq (nat_cmp a x) ≡ true) e ((eq_by_cmp_equiv nat_cmp_total).refl a))

-- texts stand first at one place exactly where they are one
same_first : (pool : List (Option Constant)) (facts : List (Option TextFacts)) (table : IsTextTable pool facts) (i j : ℕ) (a b : List ℕ) → utf8_at pool i ≡ Some a → utf8_at pool j ≡ Some b → is_eq (nat_cmp (table.first a) (table.first b)) ≡ bytes_eq a b
same_first pool facts table i j a b p q =
    let both = same_number (table.first a) (table.first b) in
    let one = table.named i a p in
    let other = table.named j b q in
    same_from_decides _ _ (λ h. let e : table.first a ≡ table.first b = both.0 h in let there : utf8_at pool (suc (table.first a)) ≡ Some b = rw e other in cc, λ e. both.1 (ap table.first e)) (bytes_eq-Decides a b)

-- keys are one exactly where the members have one name and one descriptor
same_key : (pool : List (Option Constant)) (facts : List (Option TextFacts)) (table : IsTextTable pool facts) (i j k l : ℕ) (name desc a b : List ℕ) → utf8_at pool i ≡ Some name → utf8_at pool j ≡ Some desc → utf8_at pool k ≡ Some a → utf8_at pool l ≡ Some b
    → is_at (pair_cmp (table.first name, table.first desc)) (table.first a, table.first b) ≡ is_pair a b (name, desc)
same_key pool facts table i j k l name desc a b n d p q =
    sym (tied_then (nat_cmp (table.first name) (table.first a)) (nat_cmp (table.first desc) (table.first b))) ∙ rw (same_first pool facts table i k name a n p, same_first pool facts table j l desc b d q) refl

either_way : (t x : Bool) → cond t true x ≡ (x || (t || false))
either_way true true = refl
either_way true false = refl
either_way false true = refl
either_way false false = refl

-- the members in pairs, and one more
members_more : (pool : List (Option Constant)) (pairs : List (ℕ × ℕ)) (i j : ℕ) (name desc : List ℕ) → utf8_at pool i ≡ Some name → utf8_at pool j ≡ Some desc → members_in pool (pairs ++ (i, j) ∷ []) ≡ members_in pool pairs ++ (name, desc) ∷ []
members_more pool pairs i j name desc n d = map-append (texts_in pool) pairs ((i, j) ∷ []) ∙ rw (n, d) refl

pub indexed_more : (pool : List (Option Constant)) (facts : List (Option TextFacts)) (keys new : List (ℕ × ℕ)) (pairs : List (ℕ × ℕ)) (ix : IsIndexed pool facts keys pairs) (i j : ℕ) (name desc : List ℕ) → utf8_at pool i ≡ Some name → utf8_at pool j ≡ Some desc
    → ((other : ℕ × ℕ) → has_key new other ≡ cond (is_at (pair_cmp (ix.table.first name, ix.table.first desc)) other) true (has_key keys other)) → IsIndexed pool facts new (pairs ++ (i, j) ∷ [])
indexed_more pool facts keys new pairs ix i j name desc n d more = record {
  table = ix.table;
  same = λ k l a b p q.
      more (ix.table.first a, ix.table.first b)
      ∙ rw (same_key pool facts ix.table i j k l name desc a b n d p q, ix.same k l a b p q, members_more pool pairs i j name desc n d, list_any-append (is_pair a b) (members_in pool pairs) ((name, desc) ∷ [])) (either_way (is_pair a b (name, desc)) (list_any (is_pair a b) (members_in pool pairs)));
}

pub indexed_none : (pool : List (Option Constant)) (facts : List (Option TextFacts)) → IsTextTable pool facts → IsIndexed pool facts [] []
indexed_none pool facts table = record { table = table; same = λ i j name desc n d. refl }

-- ---- adding a member

-- the key of two indices that name texts
pub record KeyOf (pool : List (Option Constant)) (first : List ℕ → ℕ) (i j : ℕ) (key : ℕ × ℕ) : Type 0 where
  pub name : List ℕ
  pub desc : List ℕ
  pub is_name : utf8_at pool i ≡ Some name
  pub is_desc : utf8_at pool j ≡ Some desc
  pub is_key : (first name, first desc) ≡ key

key_found_in : (pool : List (Option Constant)) (first : List ℕ → ℕ) (i j : ℕ) (key : ℕ × ℕ) (name desc : Option (List ℕ)) → utf8_at pool i ≡ name → utf8_at pool j ≡ desc
    → option_and_then (λ n. option_map (λ d. (n.first, d.first)) (option_map (λ text. facts_of (first text) text) desc)) (option_map (λ text. facts_of (first text) text) name) ≡ Some key → KeyOf pool first i j key
key_found_in pool first i j key None desc n d e = absurd cc
key_found_in pool first i j key (Some name) None n d e = absurd cc
key_found_in pool first i j key (Some name) (Some desc) n d e = record { name = name; desc = desc; is_name = n; is_desc = d; is_key = cc }

pub key_found : (pool : List (Option Constant)) (facts : List (Option TextFacts)) (table : IsTextTable pool facts) (i j : ℕ) (key : ℕ × ℕ) → key_of facts (i, j) ≡ Some key → KeyOf pool table.first i j key
key_found pool facts table i j key e =
    key_found_in pool table.first i j key (utf8_at pool i) (utf8_at pool j) refl refl (rw (known_at pool facts table i, known_at pool facts table j) at e)

pub keeps_indexed : (pool : List (Option Constant)) (facts : List (Option TextFacts)) (keys new : List (ℕ × ℕ)) (pairs : List (ℕ × ℕ)) (ix : IsIndexed pool facts keys pairs) (i j : ℕ) (key : ℕ × ℕ) → key_of facts (i, j) ≡ Some key
    → ((other : ℕ × ℕ) → has_key new other ≡ cond (is_at (pair_cmp key) other) true (has_key keys other)) → IsIndexed pool facts new (pairs ++ (i, j) ∷ [])
keeps_indexed pool facts keys new pairs ix i j key e more =
    let k = key_found pool facts ix.table i j key e in
    indexed_more pool facts keys new pairs ix i j k.name k.desc k.is_name k.is_desc (subst (λ (x : ℕ × ℕ). (other : ℕ × ℕ) → has_key new other ≡ cond (is_at (pair_cmp x) other) true (has_key keys other)) (sym k.is_key) more)

pub is_met_before : (pool : List (Option Constant)) (facts : List (Option TextFacts)) (keys pairs : List (ℕ × ℕ)) (ix : IsIndexed pool facts keys pairs) (i j : ℕ) (key : ℕ × ℕ) → key_of facts (i, j) ≡ Some key
    → has_key keys key ≡ is_repeated (members_in pool pairs) (utf8_at pool i) (utf8_at pool j)
is_met_before pool facts keys pairs ix i j key e =
    let k = key_found pool facts ix.table i j key e in
    ap (has_key keys) (sym k.is_key) ∙ ix.same i j k.name k.desc k.is_name k.is_desc ∙ rw (k.is_name, k.is_desc) refl

pub is_added : (pool : List (Option Constant)) (facts : List (Option TextFacts)) (keys pairs : List (ℕ × ℕ)) (ix : IsIndexed pool facts keys pairs) (i j : ℕ) (key : ℕ × ℕ) → key_of facts (i, j) ≡ Some key
    → members_in pool (pairs ++ (i, j) ∷ []) ≡ with_member (members_in pool pairs) (utf8_at pool i) (utf8_at pool j)
is_added pool facts keys pairs ix i j key e =
    let k = key_found pool facts ix.table i j key e in
    members_more pool pairs i j k.name k.desc k.is_name k.is_desc ∙ rw (k.is_name, k.is_desc) refl
