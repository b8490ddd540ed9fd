-- Calls that lead back, by components.
use Rattle.std.proofs.Common.{◌≡◌, ◌⊎◌, inl, inr, ℕ, suc, ◌+◌, ◌<◌, ◌≤◌, Bool, true, false, List, [], ◌∷◌, length, get_or, Option, Some, None, arith, refl, sym, ap, subst, ◌∙◌}
use Rattle.std.specs.Prelude.{slice_get, slice_index, Contains, ◌==◌, is_some}
use Rattle.std.specs.List.{position}
use Rattle.std.proofs.lemmas.Bool.{cases_lt, eqb-true, eq-eqb}
use Rattle.std.proofs.lemmas.Option.{get_or_from_slice_get, slice_get_within}
use Rattle.common_laws.proofs.Positions.{position_hit, position_miss, position_behind, position_any}
use Rattle.graph_core.specs.Graphs.{HasEdge}
use Rattle.graph_core.specs.Paths.{Leads as Paths, Reaches}
use Rattle.graph_core.specs.Components.{AreTogether}
use Rattle.graph_core.specs.Numbers.{AreComponents}
use Rattle.graph_core.proofs.Reach.{Reaches-itself, Reaches-before}
use Rattle.world.specs.declared.member.MemberId.{MemberId}
use Rattle.class_hierarchy.specs.World.{World}
use Rattle.code_flow.specs.Listing.{is_method, is_among, callees, most_methods, reached, Leads}
use Rattle.code_flow.specs.Listing.Leads.{calls, through}
use Rattle.code_flow.specs.Returning.{IsGraphTo, TellsBack}
use Rattle.code_flow.proofs.Members.{is_method_same, among_listed, listed_among}
use Rattle.code_flow.proofs.ListingLaws.{Once}
use Rattle.code_flow.proofs.ReachedLaws.{reached_looked, reached_closed, listed_from_callee, leads_among, among_leads}

-- ---- places

gives_at : (p : MemberId → Bool) (x : MemberId) (xs : List MemberId) (j : ℕ) (b : Bool) (o : Option ℕ) → p x ≡ b → position p xs ≡ o → position p (x ∷ xs) ≡ Some j
    → ((i : ℕ) → position p xs ≡ Some i → (y : MemberId) × (slice_get xs i ≡ Some y) × (p y ≡ true)) → (y : MemberId) × (slice_get (x ∷ xs) j ≡ Some y) × (p y ≡ true)
gives_at p x xs j true o e f h ih =
    let hit : position p (x ∷ xs) ≡ Some 0 = position_hit p x xs e in
    let at : Some j ≡ Some 0 = sym h ∙ hit in
    let k : j ≡ 0 = cc in (x, ap (λ i. slice_get (x ∷ xs) i) k, e)
gives_at p x xs j false None e f h ih = let miss : position p (x ∷ xs) ≡ None = position_miss p x xs e f in let bad : Some j ≡ None = sym h ∙ miss in absurd cc
gives_at p x xs j false (Some i) e f h ih =
    let later : position p (x ∷ xs) ≡ Some (i + 1) = position_behind p x xs i e f in
    let at : Some j ≡ Some (i + 1) = sym h ∙ later in
    let k : j ≡ i + 1 = cc in
    let n : j ≡ suc i = omega (arith, k) in
    let y = ih i f in (y.0, ap (λ q. slice_get (x ∷ xs) q) n ∙ y.1, y.2)

pub position_gives : (p : MemberId → Bool) (xs : List MemberId) (j : ℕ) → position p xs ≡ Some j → (y : MemberId) × (slice_get xs j ≡ Some y) × (p y ≡ true)
position_gives p [] j h = absurd cc
position_gives p (x ∷ xs) j h = gives_at p x xs j (p x) (position p xs) refl refl h (position_gives p xs)

-- the method at its place
pub at_place : (ms : List MemberId) (t : MemberId) (j : ℕ) → position (is_method t) ms ≡ Some j → slice_get ms j ≡ Some t
at_place ms t j h = let y = position_gives (is_method t) ms j h in y.1 ∙ ap Some (sym (is_method_same t y.0 y.2))

some_place : (o : Option ℕ) → is_some o ≡ true → (j : ℕ) × (o ≡ Some j)
some_place None h = absurd cc
some_place (Some j) h = (j, refl)

pub place_there : (ms : List MemberId) (t : MemberId) → Contains ms t → (j : ℕ) × (position (is_method t) ms ≡ Some j)
place_there ms t h = some_place (position (is_method t) ms) (sym (position_any (is_method t) ms) ∙ listed_among ms t h)

one_place : (ms : List MemberId) (t : MemberId) (i j : ℕ) → Once ms → slice_get ms i ≡ Some t → slice_get ms j ≡ Some t → i ≡ j
one_place ms t i j once hi hj =
    let li = slice_get_within ms i t hi in
    let lj = slice_get_within ms j t hj in
    let ei : get_or ms i t ≡ t = get_or_from_slice_get ms i t t hi in
    let ej : get_or ms j t ≡ t = get_or_from_slice_get ms j t t hj in
    elim (cases_lt i j) [
      | inl lt ↦ absurd (once i j t lt lj (ei ∙ sym ej))
      | inr ge ↦ elim (cases_lt j i) [
        | inl lt ↦ absurd (once j i t lt li (ej ∙ sym ei))
        | inr le ↦ omega arith
      ]
    ]

-- ---- paths are calls

same_some : (ms : List MemberId) (a : ℕ) (x y : MemberId) → slice_get ms a ≡ Some x → slice_get ms a ≡ Some y → x ≡ y
same_some ms a x y h k = let e : Some x ≡ Some y = sym h ∙ k in cc

path_leads : (w : World) (ms : List MemberId) (g : List (List ℕ)) (n : ℕ) → IsGraphTo w ms n g → (rest : List ℕ) (a b : ℕ) (x y : MemberId) → Paths g a rest b → slice_get ms a ≡ Some x → slice_get ms b ≡ Some y → (y ≡ x) ⊎ Leads w x y
path_leads w ms g n h [] a b x y e hx hy = inl (same_some ms b y x hy (subst (λ i. slice_get ms i ≡ Some x) e hx))
path_leads w ms g n h (c ∷ rest) a b x y p hx hy =
    let s = h.sound a c p.0 in
    let is_x : s.0 ≡ x = same_some ms a s.0 x s.1 hx in
    let t = s.2.0 in
    let called : is_among (callees w x) s.2.0 ≡ true = listed_among (callees w x) s.2.0 (subst (λ z. Contains (callees w z) s.2.0) is_x s.2.1) in
    elim (path_leads w ms g n h rest c b s.2.0 y p.1 (at_place ms s.2.0 c s.2.2) hy) [
      | inl same ↦ inr (calls (subst (λ z. is_among (callees w x) z ≡ true) (sym same) called))
      | inr more ↦ inr (through called more)
    ]

module _ (w : World) (m : MemberId) (ms : List MemberId) (g : List (List ℕ)) (whole : ms ≡ reached w m) (few : length ms ≤ most_methods) (h : IsGraphTo w ms (length ms) g) where
  few_reached : length (reached w m) ≤ most_methods
  few_reached = subst (λ l. length l ≤ most_methods) whole few

  once : Once ms
  once = subst (λ l. Once l) (sym whole) (reached_looked w m).looked.once

  closed : (i : ℕ) (x t : MemberId) → slice_get ms i ≡ Some x → Contains (callees w x) t → Contains ms t
  closed i x t at c =
      let there : Contains ms x = (i, slice_get_within ms i x at, get_or_from_slice_get ms i x x at) in
      subst (λ l. Contains l t) (sym whole) (reached_closed w m few_reached x t (subst (λ l. Contains l x) whole there) c)

  abbrev edge : (i : ℕ) (x t : MemberId) → slice_get ms i ≡ Some x → Contains (callees w x) t → (j : ℕ) × (position (is_method t) ms ≡ Some j) × (slice_get ms j ≡ Some t) × HasEdge g i j
  edge i x t at c =
      let p = place_there ms t (closed i x t at c) in
      (p.0, p.1, at_place ms t p.0 p.1, h.whole i p.0 x (slice_get_within ms i x at) at (t, c, p.1))

  leads_path : (x y : MemberId) (a b : ℕ) → Leads w x y → slice_get ms a ≡ Some x → slice_get ms b ≡ Some y → Reaches g a b
  leads_path x y a b (calls c) hx hy =
      let e = edge a x y hx (among_listed (callees w x) y c) in
      let same : e.0 ≡ b = one_place ms y e.0 b once e.2 hy in
      subst (λ j. Reaches g a j) same (Reaches-before g a e.0 e.0 e.3 (Reaches-itself g e.0))
  leads_path x y a b (through {t = t} c more) hx hy =
      let e = edge a x t hx (among_listed (callees w x) t c) in
      Reaches-before g a e.0 b e.3 (leads_path t y e.0 b more e.2 hy)

  bool_same : (a b : Bool) → (a ≡ true → b ≡ true) → (b ≡ true → a ≡ true) → a ≡ b
  bool_same true true f k = refl
  bool_same false false f k = refl
  bool_same true false f k = sym (f refl)
  bool_same false true f k = k refl

  module _ (numbers : List ℕ) (are : AreComponents g numbers) (i : ℕ) (x t : MemberId) (at : slice_get ms i ≡ Some x) (c : Contains (callees w x) t) where
    abbrev j : ℕ
    j = (edge i x t at c).0

    within_j : j < length ms
    within_j = slice_get_within ms j t (edge i x t at c).2

    at_node : (k : ℕ) → k < length ms → k < length g
    at_node k lt = subst (λ n. k < n) (sym h.count) lt

    few_callee : length (reached w t) ≤ most_methods
    few_callee = listed_from_callee w m t few_reached (subst (λ l. Contains l t) whole (closed i x t at c))

    back_by : (slice_index numbers i == slice_index numbers j) ≡ true → is_among (reached w t) x ≡ true
    back_by e =
        let together : AreTogether g i j = (are.together i j (at_node i (slice_get_within ms i x at)) (at_node j within_j)).0 (eqb-true (slice_index numbers i) (slice_index numbers j) e) in
        leads_among w t x few_callee (path_leads w ms g (length ms) h together.1.0 j i t x together.1.1.leads (edge i x t at c).2 at)

    returns : (x ≡ t) ⊎ Leads w t x → Reaches g j i
    returns (inl same) =
        let one : j ≡ i = one_place ms t j i once (edge i x t at c).2 (at ∙ ap Some same) in
        subst (λ k. Reaches g j k) one (Reaches-itself g j)
    returns (inr leads) = leads_path t x j i leads (edge i x t at c).2 at

    by_back : is_among (reached w t) x ≡ true → (slice_index numbers i == slice_index numbers j) ≡ true
    by_back e =
        let there : Reaches g i j = Reaches-before g i j j (edge i x t at c).3 (Reaches-itself g j) in
        eq-eqb (slice_index numbers i) (slice_index numbers j)
        ((are.together i j (at_node i (slice_get_within ms i x at)) (at_node j within_j)).1 (there, returns (among_leads w t x e)))

    pub told : (j : ℕ) × (j < length ms) × (position (is_method t) ms ≡ Some j) × ((slice_index numbers i == slice_index numbers j) ≡ is_among (reached w t) x) × (slice_index numbers j ≤ slice_index numbers i)
    told = (
      j,
      within_j,
      (edge i x t at c).1,
      bool_same (slice_index numbers i == slice_index numbers j) (is_among (reached w t) x) back_by by_back,
      are.callees i j (edge i x t at c).3 (at_node i (slice_get_within ms i x at)),
    )

  pub tells_back : (numbers : List ℕ) → AreComponents g numbers → TellsBack w ms numbers
  tells_back numbers are = record {
    count = are.count ∙ h.count;
    few = few;
    back = λ i x t at c. told numbers are i x t at c;
  }
