-- A term leads where one of its ways does.
use Rattle.std.proofs.Common.{◌≡◌, ◌⊎◌, inl, inr, ℕ, zero, suc, ◌+◌, ℤ, List, [], ◌∷◌, ◌++◌, length, drop, slice_get, Some, refl, sym, ap, ◌∙◌, subst, append_assoc, append-nil, arith}
use Rattle.std.proofs.lemmas.List.{length-append}
use Rattle.rule_terms.specs.declared.item.Item.{Item}
use Rattle.rule_terms.specs.declared.item.Item.TheVariants.{Assume, Spend, Fresh, Call}
use Rattle.rule_terms.specs.Terms.{Term, Ends, Assumes, Spends, Makes, Calls, Either}
use Rattle.rule_terms.specs.Paths.{paths_of, behind}
use Rattle.relations.specs.declared.ending.PathEnd.{PathEnd}
use Rattle.relation_runs.specs.Passing.{Amounts}
use Rattle.relation_runs.specs.Leading.{Outcomes, ItemsLead}
use Rattle.relation_runs.specs.TermOutcomes.{ways_count, TermLeads}

-- ---- places
moved : (i n k : ℕ) → i ≡ n + k → suc i ≡ suc n + k
moved i n k e = omega arith

module _ {A : Type 0} where
  get_left : (xs ys : List A) (i : ℕ) (x : A) → slice_get xs i ≡ Some x → slice_get (xs ++ ys) i ≡ Some x
  get_left [] ys i x e = absurd (let f : ⊥ = cc in f)
  get_left (a ∷ xs) ys zero x e = e
  get_left (a ∷ xs) ys (suc i) x e = get_left xs ys i x e

  get_right : (xs ys : List A) (i : ℕ) → slice_get (xs ++ ys) (length xs + i) ≡ slice_get ys i
  get_right [] ys i = ap (slice_get ys) (let e : 0 + i ≡ i = omega arith in e)
  get_right (a ∷ xs) ys i = ap (slice_get (a ∷ xs ++ ys)) (let e : suc (length xs) + i ≡ suc (length xs + i) = omega arith in e) ∙ get_right xs ys i

  get_drop : (n : ℕ) (xs : List A) (i : ℕ) → slice_get (drop n xs) i ≡ slice_get xs (n + i)
  get_drop zero xs i = ap (slice_get xs) (let e : i ≡ 0 + i = omega arith in e)
  get_drop (suc n) [] i = refl
  get_drop (suc n) (a ∷ xs) i = get_drop n xs i ∙ ap (slice_get (a ∷ xs)) (let e : suc (n + i) ≡ suc n + i = omega arith in e)

  -- a place in joined lists lies in the first or in the second
  get_cut : (xs ys : List A) (i : ℕ) (x : A) → slice_get (xs ++ ys) i ≡ Some x → (slice_get xs i ≡ Some x) ⊎ ((k : ℕ) × (i ≡ length xs + k) × (slice_get ys k ≡ Some x))
  get_cut [] ys i x e = inr (i, (let f : i ≡ 0 + i = omega arith in f), e)
  get_cut (a ∷ xs) ys zero x e = inl e
  get_cut (a ∷ xs) ys (suc i) x e = elim (get_cut xs ys i x e) [
    | inl f ↦ inl f
    | inr p ↦ inr (p.0, (let g : suc i ≡ suc (length xs) + p.0 = moved i (length xs) p.0 p.1 in g), p.2)
  ]

length_behind : (item : Item) (paths : List (List Item)) → length (behind item paths) ≡ length paths
length_behind item [] = refl
length_behind item (path ∷ paths) = ap suc (length_behind item paths)

counted : (t : Term) → length (paths_of t) ≡ ways_count t
counted Ends = refl
counted (Assumes row rest) = length_behind (Assume row) (paths_of rest) ∙ counted rest
counted (Spends n rest) = length_behind (Spend n) (paths_of rest) ∙ counted rest
counted (Makes v rest) = length_behind (Fresh v) (paths_of rest) ∙ counted rest
counted (Calls node args rest) = length_behind (Call node args) (paths_of rest) ∙ counted rest
counted (Either first second) = length-append (paths_of first) (paths_of second) ∙ ap (λ k. k + length (paths_of second)) (counted first) ∙ ap (λ k. ways_count first + k) (counted second)

get_behind : (item : Item) (paths : List (List Item)) (i : ℕ) (way : List Item) → slice_get paths i ≡ Some way → slice_get (behind item paths) i ≡ Some (item ∷ way)
get_behind item [] i way e = absurd (let f : ⊥ = cc in f)
get_behind item (path ∷ paths) zero way e = let same : path ≡ way = cc in ap (λ (p : List Item). Some (item ∷ p)) same
get_behind item (path ∷ paths) (suc i) way e = get_behind item paths i way e

behind_get : (item : Item) (paths : List (List Item)) (i : ℕ) (way : List Item) → slice_get (behind item paths) i ≡ Some way → (rest : List Item) × (way ≡ item ∷ rest) × (slice_get paths i ≡ Some rest)
behind_get item [] i way e = absurd (let f : ⊥ = cc in f)
behind_get item (path ∷ paths) zero way e = (path, (let same : way ≡ item ∷ path = cc in same), refl)
behind_get item (path ∷ paths) (suc i) way e = behind_get item paths i way e

-- ---- a way that leads, behind a front
pub record WayLeads (P : Amounts) (O : Outcomes) (zs : List ℤ) (front : List Item) (t : Term) (ends : List PathEnd) (exit : ℕ) (w : List ℤ) : Type 0 where
  pub place : ℕ
  pub way : List Item
  pub ending : PathEnd
  pub at : slice_get (paths_of t) place ≡ Some way
  pub ends_at : slice_get ends place ≡ Some ending
  pub leads : ItemsLead P O zs (front ++ way) ending exit w

module _ (P : Amounts) (O : Outcomes) (zs : List ℤ) (exit : ℕ) (w : List ℤ) where
  -- an item more
  longer : (item : Item) (front : List Item) (t u : Term) (ends : List PathEnd) → ((i : ℕ) (way : List Item) → slice_get (paths_of t) i ≡ Some way → slice_get (paths_of u) i ≡ Some (item ∷ way)) → WayLeads P O zs (front ++ item ∷ []) t ends exit w → WayLeads P O zs front u ends exit w
  longer item front t u ends on p = record {
    place = p.place;
    way = item ∷ p.way;
    ending = p.ending;
    at = on p.place p.way p.at;
    ends_at = p.ends_at;
    leads = subst (λ (items : List Item). ItemsLead P O zs items p.ending exit w) (append_assoc front (item ∷ []) p.way) p.leads;
  }

  pub term_leads : (t : Term) (front : List Item) (ends : List PathEnd) → TermLeads P O zs front t ends exit w → WayLeads P O zs front t ends exit w
  term_leads Ends front ends p = record {
    place = 0;
    way = [];
    ending = p.0;
    at = refl;
    ends_at = p.1;
    leads = subst (λ (items : List Item). ItemsLead P O zs items p.0 exit w) (sym (append-nil front)) p.2;
  }
  term_leads (Assumes row rest) front ends p = longer (Assume row) front rest (Assumes row rest) ends (get_behind (Assume row) (paths_of rest)) (term_leads rest (front ++ Assume row ∷ []) ends p)
  term_leads (Spends n rest) front ends p = longer (Spend n) front rest (Spends n rest) ends (get_behind (Spend n) (paths_of rest)) (term_leads rest (front ++ Spend n ∷ []) ends p)
  term_leads (Makes v rest) front ends p = longer (Fresh v) front rest (Makes v rest) ends (get_behind (Fresh v) (paths_of rest)) (term_leads rest (front ++ Fresh v ∷ []) ends p)
  term_leads (Calls node args rest) front ends p =
      longer (Call node args) front rest (Calls node args rest) ends (get_behind (Call node args) (paths_of rest)) (term_leads rest (front ++ Call node args ∷ []) ends p)
  term_leads (Either first second) front ends (inl p) =
      let r = term_leads first front ends p in
      record { place = r.place; way = r.way; ending = r.ending; at = get_left (paths_of first) (paths_of second) r.place r.way r.at; ends_at = r.ends_at; leads = r.leads }
  term_leads (Either first second) front ends (inr p) =
      let r = term_leads second front (drop (ways_count first) ends) p in
      record {
        place = ways_count first + r.place;
        way = r.way;
        ending = r.ending;
        at = ap (λ k. slice_get (paths_of first ++ paths_of second) (k + r.place)) (sym (counted first)) ∙ get_right (paths_of first) (paths_of second) r.place ∙ r.at;
        ends_at = sym (get_drop (ways_count first) ends r.place) ∙ r.ends_at;
        leads = r.leads;
      }

  -- a way that leads makes its term lead
  abbrev Leads : Term → Type 0
  Leads t =
      (front : List Item) (ends : List PathEnd) (i : ℕ) (way : List Item) (ending : PathEnd) → slice_get (paths_of t) i ≡ Some way → slice_get ends i ≡ Some ending
      → ItemsLead P O zs (front ++ way) ending exit w → TermLeads P O zs front t ends exit w

  -- behind an item
  shorter : (item : Item) (t : Term) → Leads t → (front : List Item) (ends : List PathEnd) (i : ℕ) (way : List Item) (ending : PathEnd) → slice_get (behind item (paths_of t)) i ≡ Some way → slice_get ends i ≡ Some ending
      → ItemsLead P O zs (front ++ way) ending exit w → TermLeads P O zs (front ++ item ∷ []) t ends exit w
  shorter item t on front ends i way ending at ends_at p =
      let b = behind_get item (paths_of t) i way at in
      on (front ++ item ∷ []) ends i b.0 ending b.2 ends_at
      (subst (λ (items : List Item). ItemsLead P O zs items ending exit w) (ap (λ (x : List Item). front ++ x) b.1 ∙ sym (append_assoc front (item ∷ []) b.0)) p)

  -- at the end there is one way, the empty one
  ends_at_end : (front : List Item) (ends : List PathEnd) (i : ℕ) (way : List Item) (ending : PathEnd) → slice_get ([] ∷ []) i ≡ Some way → slice_get ends i ≡ Some ending → ItemsLead P O zs (front ++ way) ending exit w → TermLeads P O zs front Ends ends exit w
  ends_at_end front ends zero way ending at ends_at p =
      let same : way ≡ [] = cc in
      (ending, ends_at, subst (λ (items : List Item). ItemsLead P O zs items ending exit w) (ap (λ (x : List Item). front ++ x) same ∙ append-nil front) p)
  ends_at_end front ends (suc i) way ending at ends_at p = absurd (let f : ⊥ = cc in f)

  pub leads_term : (t : Term) → Leads t
  leads_term Ends front ends i way ending at ends_at p = ends_at_end front ends i way ending at ends_at p
  leads_term (Assumes row rest) front ends i way ending at ends_at p = shorter (Assume row) rest (leads_term rest) front ends i way ending at ends_at p
  leads_term (Spends n rest) front ends i way ending at ends_at p = shorter (Spend n) rest (leads_term rest) front ends i way ending at ends_at p
  leads_term (Makes v rest) front ends i way ending at ends_at p = shorter (Fresh v) rest (leads_term rest) front ends i way ending at ends_at p
  leads_term (Calls node args rest) front ends i way ending at ends_at p = shorter (Call node args) rest (leads_term rest) front ends i way ending at ends_at p
  leads_term (Either first second) front ends i way ending at ends_at p = elim (get_cut (paths_of first) (paths_of second) i way at) [
    | inl f ↦ inl (leads_term first front ends i way ending f ends_at p)
    | inr k ↦ inr (leads_term second front (drop (ways_count first) ends) k.0 way ending k.2
        (get_drop (ways_count first) ends k.0 ∙ ap (slice_get ends) (ap (λ n. n + k.0) (sym (counted first)) ∙ sym k.1) ∙ ends_at) p)
  ]
