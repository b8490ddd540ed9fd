-- how the marks of an agenda follow its list
use Rattle.std.proofs.Common.{◌≡◌, ◌≢◌, ◌⊎◌, ℕ, ◌+◌, ◌<◌, ◌≤◌, Bool, true, false, List, [], ◌∷◌, ◌++◌, length, get_or, set, Contains, refl, sym, ◌∙◌, inl, inr, ⊎_elim, subst, arith, get_or-set_same, get_or-set_other}
use Rattle.std.proofs.lemmas.Bool.{cases_eq, cases_lt, false≢true}
use Rattle.std.proofs.lemmas.List.{length-set, get_or_past, get_or_default}
use Rattle.std.proofs.lemmas.List.Elements.{Contains-append_left, Contains-push, Contains-push_cases}
use Rattle.common_laws.proofs.Members.{contains_head, contains_tail, contains_cases}
use Rattle.fix_engine.specs.Agenda.{Waiting, IsMarked, Grows}

-- the numbers below n, in order
pub Contains-below : (n : ℕ) (list : List ℕ) → length list ≡ n → ((k : ℕ) → k < n → get_or list k 0 ≡ k) → (x : ℕ) → x < n → Contains list x
Contains-below n list e at x l = (x, omega arith, get_or_default list x x 0 (omega arith) ∙ at x l)

pub below_Contains : (n : ℕ) (list : List ℕ) → length list ≡ n → ((k : ℕ) → k < n → get_or list k 0 ≡ k) → (x : ℕ) → Contains list x → x < n
below_Contains n list e at x h =
    let l : h.0 < n = omega arith in
    let i : get_or list h.0 0 ≡ x = get_or_default list h.0 0 x h.1 ∙ h.2 in
    let j : get_or list h.0 0 ≡ h.0 = at h.0 l in
    omega arith

mark_is_within : (marks : List Bool) (x : ℕ) → get_or marks x false ≡ true → x < length marks
mark_is_within marks x h =
    ⊎_elim (λ (l : x < length marks). l) (λ (l : length marks ≤ x). absurd (false≢true (sym (get_or_past marks x false l) ∙ h))) (cases_lt x (length marks))

-- where each edge waits, no mark is wrong
pub IsMarked-all : (n : ℕ) (marks : List Bool) (list : List ℕ) → length marks ≡ n → length list ≡ n → ((k : ℕ) → k < n → get_or list k 0 ≡ k) → IsMarked marks list
IsMarked-all n marks list m e at =
    record {
      within = λ x h. let l = below_Contains n list e at x h in omega arith;
      marked = λ x h. let l = mark_is_within marks x h in Contains-below n list e at x (omega arith);
    }

marked_pop_at : (marks : List Bool) (e : ℕ) (rest : List ℕ) → IsMarked marks (e ∷ rest) → e < length marks → (x : ℕ) → get_or (set marks e false) x false ≡ true → (x ≡ e) ⊎ (x ≢ e) → Contains rest x
marked_pop_at marks e rest m l x h (inl same) =
    let k : get_or (set marks e false) x false ≡ false = subst (λ (y : ℕ). get_or (set marks e false) y false ≡ false) (sym same) (get_or-set_same marks e false false l) in
    absurd (false≢true (sym k ∙ h))
marked_pop_at marks e rest m l x h (inr other) =
    ⊎_elim (λ (same : e ≡ x). absurd (other (sym same))) (λ (in_rest : Contains rest x). in_rest) (contains_cases e rest x (m.marked x (sym (get_or-set_other marks e x false false other) ∙ h)))

-- the head is unmarked as it leaves
pub IsMarked-pop : (marks : List Bool) (list : List ℕ) (e : ℕ) (rest : List ℕ) → list ≡ e ∷ rest → IsMarked marks list → IsMarked (set marks e false) rest
IsMarked-pop marks list e rest is was =
    let m : IsMarked marks (e ∷ rest) = subst (IsMarked marks) is was in
    let l : e < length marks = m.within e (contains_head e rest) in
    record {
      within = λ x h. let w : x < length marks = m.within x (contains_tail e rest x h) in omega (arith, length-set marks e false);
      marked = λ x h. marked_pop_at marks e rest m l x h (cases_eq x e);
    }

pub head_is_within : (marks : List Bool) (list : List ℕ) (e : ℕ) (rest : List ℕ) → list ≡ e ∷ rest → IsMarked marks list → e < length marks
head_is_within marks list e rest is was =
    let m : IsMarked marks (e ∷ rest) = subst (IsMarked marks) is was in m.within e (contains_head e rest)

marked_push_at : (marks : List Bool) (list : List ℕ) (e : ℕ) → IsMarked marks list → (x : ℕ) → get_or (set marks e true) x false ≡ true → (x ≡ e) ⊎ (x ≢ e) → Contains (list ++ e ∷ []) x
marked_push_at marks list e m x h (inl same) = subst (Contains (list ++ e ∷ [])) (sym same) (Contains-push list e)
marked_push_at marks list e m x h (inr other) =
    Contains-append_left list (e ∷ []) x (m.marked x (sym (get_or-set_other marks e x true false other) ∙ h))

-- an edge is marked as it comes
pub IsMarked-push : (marks : List Bool) (list : List ℕ) (e : ℕ) → e < length marks → IsMarked marks list → IsMarked (set marks e true) (list ++ e ∷ [])
IsMarked-push marks list e l m =
    record {
      within = λ x h. ⊎_elim (λ (old : Contains list x). let w : x < length marks = m.within x old in let p : x < length (set marks e true) = omega (arith, length-set marks e true) in p) (λ (new : e ≡ x). let p : x < length (set marks e true) = omega (arith, length-set marks e true) in p) (Contains-push_cases list e x h);
      marked = λ x h. marked_push_at marks list e m x h (cases_eq x e);
    }

-- growing twice
pub Grows-none : (a : Waiting) → Grows a a 0
Grows-none a = record { edges = refl; kept = λ _ h. h; room = omega arith }

pub Grows-more : (a b c : Waiting) (n m : ℕ) → Grows a b n → Grows b c m → Grows a c (n + m)
Grows-more a b c n m f g =
    record { edges = g.edges ∙ f.edges; kept = λ e h. g.kept e (f.kept e h); room = let x = f.room in let y = g.room in omega arith }
